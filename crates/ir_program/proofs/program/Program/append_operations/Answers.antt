use Rattle.std.proofs.Common.{ap}
use Rattle.ir_program.specs.Program.{Program}
use Rattle.ir_program.proofs.lists.MovingOperations.{blocks_differ, donor_apart, ops_still_program, put_together}
use Rattle.ir_program.proofs.lists.Rearranged.{types_stay}
use Rattle.ir_program.proofs.program.Program.append_operations.Goals as goal

pub append_ops-requires-clause-differ : goal.append_ops-requires-clause-differ
append_ops-requires-clause-differ g c = blocks_differ _ c.args.self.now c.self.view_is c.know_listed.ensures c.args.donee c.args.donor c.requires.donee c.requires.donor c.requires.differ

pub append_ops-requires-clause-apart : goal.append_ops-requires-clause-apart
append_ops-requires-clause-apart g c = donor_apart _ c.args.self.now c.self.view_is c.know_listed.ensures c.args.donee c.args.donor c.requires.donee c.requires.donor c.requires.apart

pub invariant_of-self : goal.invariant_of-self
invariant_of-self g c = ops_still_program _ c.args.self.now c.self.view_is c.know_listed.ensures c.append_ops.new.self c.append_ops.ensures.rest c.self.invariant

pub returns-clause-edited : goal.returns-clause-edited
returns-clause-edited g c = put_together _ c.args.self.now c.self.view_is c.know_listed.ensures c.append_ops.new.self c.append_ops.ensures.rest c.args.donee c.args.donor c.requires.donee c.requires.donor c.requires.differ c.append_ops.ensures.lists

pub returns-clause-values : goal.returns-clause-values
returns-clause-values g c = record {
  types = types_stay _ c.args.self.now c.self.view_is c.append_ops.new.self.in_blocks c.self.inside.forest.in_regions c.self.inside.forest.in_ops c.append_ops.new.self c.append_ops.ensures.rest;
  counter = ap (λ (w : Program _ _). w.counter) c.self.view_is;
}
