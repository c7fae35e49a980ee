use Rattle.builtin_ops.proofs.NameLemmas.{changed}
use Rattle.builtin_ops.proofs.result_names.remove_operation_result_name.Goals as goal

pub returns-clause-lost : goal.returns-clause-lost
returns-clause-lost g c = changed _ _ _ c.payload_mut.result.now c.lose_carried.new.payload _ c.payload_mut.ensures.value c.lose_carried.ensures.lose c.lose_carried.ensures.rest (c.payload_mut.ensures.edits c.lose_carried.new.payload)
