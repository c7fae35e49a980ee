use Rattle.std.proofs.Common.{arith, refl, ◌<◌}
use Rattle.ir_entities.specs.Prune.{live_in}
use Rattle.ir_entities.specs.declared.forest.Place.TheVariants.{Op}
use Rattle.ir_entities.proofs.Prunes.{erased_last}
use Rattle.ir_entities.proofs.Takes.{op_live}
use Rattle.ir_entities.proofs.forest.Forest.free_op_tree.Goals as goal

pub returns-clause-erased : goal.returns-clause-erased
returns-clause-erased g c = erased_last c.args.self.now c.parts.self c.free_op_at.new.self (Op c.args.op) c.parts.invariant.0 c.free_op_at.ensures.erased

pub returns-clause-fewer : goal.returns-clause-fewer
returns-clause-fewer g c =
    let less : live_in c.free_op_at.new.self < live_in c.parts.self = op_live c.parts.self c.parts.self c.free_op_at.new.self c.args.op refl c.free_op_at.ensures.slot c.free_op_at.ensures.rest in
    omega (arith, less, c.parts.invariant.1)
