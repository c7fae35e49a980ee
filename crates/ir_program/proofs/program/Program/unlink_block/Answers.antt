use Rattle.std.proofs.Common.{ap}
use Rattle.ir_program.specs.Program.{Program}
use Rattle.ir_program.proofs.lists.MovingBlocks.{block_linked, blocks_still_program, nothing_further_inside, stands_nowhere, taken_out}
use Rattle.ir_program.proofs.lists.Rearranged.{types_stay}
use Rattle.ir_program.proofs.program.Program.unlink_block.Goals as goal

pub unlink_block-requires-clause-linked : goal.unlink_block-requires-clause-linked
unlink_block-requires-clause-linked g c = block_linked _ c.args.self.now c.self.view_is c.know_listed.ensures c.args.block c.requires

pub invariant_of-self : goal.invariant_of-self
invariant_of-self g c = blocks_still_program _ c.args.self.now c.self.view_is c.know_listed.ensures c.unlink_block.new.self c.unlink_block.ensures.rest c.self.invariant

pub returns-clause-edited : goal.returns-clause-edited
returns-clause-edited g c region k h = taken_out _ c.args.self.now c.self.view_is c.know_listed.ensures c.unlink_block.new.self c.unlink_block.ensures.rest c.args.block region k h c.unlink_block.ensures.lists

pub returns-clause-unlinked : goal.returns-clause-unlinked
returns-clause-unlinked g c = stands_nowhere _ c.args.block c.unlink_block.ensures.root

pub returns-clause-inside : goal.returns-clause-inside
returns-clause-inside g c = nothing_further_inside _ c.args.self.now c.self.view_is c.know_listed.ensures c.unlink_block.new.self c.unlink_block.ensures.rest c.args.block c.unlink_block.ensures.lists

pub returns-clause-values : goal.returns-clause-values
returns-clause-values g c = record {
  types = types_stay _ c.args.self.now c.self.view_is c.self.inside.forest.in_blocks c.unlink_block.new.self.in_regions c.self.inside.forest.in_ops c.unlink_block.new.self c.unlink_block.ensures.rest;
  counter = ap (λ (w : Program _ _). w.counter) c.self.view_is;
}
