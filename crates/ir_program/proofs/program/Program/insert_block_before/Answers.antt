use Rattle.std.proofs.Common.{ap}
use Rattle.ir_program.specs.declared.handles.IRNode.TheVariants.{BasicBlock as BlockNode}
use Rattle.ir_program.specs.Program.{Program}
use Rattle.ir_program.proofs.lists.Inside.{outside_by_slots}
use Rattle.ir_program.proofs.lists.MovingBlocks.{block_linked, block_unlinked, blocks_still_program, put_ahead}
use Rattle.ir_program.proofs.lists.Rearranged.{types_stay}
use Rattle.ir_program.proofs.program.Program.insert_block_before.Goals as goal

pub insert_block_before-requires-clause-linked : goal.insert_block_before-requires-clause-linked
insert_block_before-requires-clause-linked g c = block_linked _ c.args.self.now c.self.view_is c.know_listed.ensures c.args.mark c.requires.mark

pub insert_block_before-requires-clause-root : goal.insert_block_before-requires-clause-root
insert_block_before-requires-clause-root g c = block_unlinked _ c.args.self.now c.self.view_is c.know_listed.ensures c.args.block c.requires.block c.requires.unlinked

pub insert_block_before-requires-clause-apart : goal.insert_block_before-requires-clause-apart
insert_block_before-requires-clause-apart g c = outside_by_slots _ c.args.self.now c.self.view_is c.know_listed.ensures (BlockNode c.args.block) (BlockNode c.args.mark) c.requires.block c.requires.mark.1.block c.requires.apart

pub invariant_of-self : goal.invariant_of-self
invariant_of-self g c = blocks_still_program _ c.args.self.now c.self.view_is c.know_listed.ensures c.insert_block_before.new.self c.insert_block_before.ensures.rest c.self.invariant

pub returns-clause-edited : goal.returns-clause-edited
returns-clause-edited g c region k h = put_ahead _ c.args.self.now c.self.view_is c.know_listed.ensures c.insert_block_before.new.self c.insert_block_before.ensures.rest c.args.block c.requires.block c.args.mark region k h c.insert_block_before.ensures.lists

pub returns-clause-values : goal.returns-clause-values
returns-clause-values g c = record {
  types = types_stay _ c.args.self.now c.self.view_is c.self.inside.forest.in_blocks c.insert_block_before.new.self.in_regions c.self.inside.forest.in_ops c.insert_block_before.new.self c.insert_block_before.ensures.rest;
  counter = ap (λ (w : Program _ _). w.counter) c.self.view_is;
}
