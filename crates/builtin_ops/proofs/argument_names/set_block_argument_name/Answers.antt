use Rattle.builtin_ops.proofs.NameLemmas.{block_changed}
use Rattle.builtin_ops.proofs.argument_names.set_block_argument_name.Goals as goal

pub returns-clause-named : goal.returns-clause-named
returns-clause-named g c = block_changed _ _ _ c.block_payload_mut.result.now c.set_carried.new.notes _ c.block_payload_mut.ensures.value (rw c.get_num_arguments-count.ensures at c.in_ok-set_carried.ensures.hold) c.in_ok-set_carried.ensures.rest (c.block_payload_mut.ensures.edits c.set_carried.new.notes)
