use Rattle.builtin_ops.proofs.NameLemmas.{changed}
use Rattle.builtin_ops.proofs.result_names.insert_operation_result_name.Goals as goal

pub returns-clause-named : goal.returns-clause-named
returns-clause-named g c = changed _ _ _ c.payload_mut.result.now c.insert_carried.new.payload _ c.payload_mut.ensures.value (rw c.get_num_results-count.ensures at c.in_ok-insert_carried.ensures.hold) c.in_ok-insert_carried.ensures.rest (c.payload_mut.ensures.edits c.insert_carried.new.payload)
