use Rattle.std.proofs.Common.{ap}
use Rattle.ir_program.specs.Program.{Program}
use Rattle.ir_program.proofs.lists.MovingBlocks.{regions_differ, donor_apart, blocks_still_program, put_together}
use Rattle.ir_program.proofs.lists.Rearranged.{types_stay}
use Rattle.ir_program.proofs.program.Program.append_blocks.Goals as goal

pub append_blocks-requires-clause-differ : goal.append_blocks-requires-clause-differ
append_blocks-requires-clause-differ g c = regions_differ _ c.args.self.now c.self.view_is c.know_listed.ensures c.args.donee c.args.donor c.requires.donee c.requires.donor c.requires.differ

pub append_blocks-requires-clause-apart : goal.append_blocks-requires-clause-apart
append_blocks-requires-clause-apart g c = donor_apart _ c.args.self.now c.self.view_is c.know_listed.ensures c.args.donee c.args.donor c.requires.donee c.requires.donor c.requires.apart

pub invariant_of-self : goal.invariant_of-self
invariant_of-self g c = blocks_still_program _ c.args.self.now c.self.view_is c.know_listed.ensures c.append_blocks.new.self c.append_blocks.ensures.rest c.self.invariant

pub returns-clause-edited : goal.returns-clause-edited
returns-clause-edited g c = put_together _ c.args.self.now c.self.view_is c.know_listed.ensures c.append_blocks.new.self c.append_blocks.ensures.rest c.args.donee c.args.donor c.requires.donee c.requires.donor c.requires.differ c.append_blocks.ensures.lists

pub returns-clause-values : goal.returns-clause-values
returns-clause-values g c = record {
  types = types_stay _ c.args.self.now c.self.view_is c.self.inside.forest.in_blocks c.append_blocks.new.self.in_regions c.self.inside.forest.in_ops c.append_blocks.new.self c.append_blocks.ensures.rest;
  counter = ap (λ (w : Program _ _). w.counter) c.self.view_is;
}
