use Rattle.builtin_ops.proofs.NameLemmas.{block_changed}
use Rattle.builtin_ops.proofs.argument_names.remove_block_argument_name.Goals as goal

pub returns-clause-lost : goal.returns-clause-lost
returns-clause-lost g c = block_changed _ _ _ c.block_payload_mut.result.now c.lose_carried.new.notes _ c.block_payload_mut.ensures.value c.lose_carried.ensures.lose c.lose_carried.ensures.rest (c.block_payload_mut.ensures.edits c.lose_carried.new.notes)
