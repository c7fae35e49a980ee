use Rattle.std.proofs.Common.{◌∙◌, ap}
use Rattle.ir_entities.specs.Prune.{live_in}
use Rattle.ir_entities.proofs.Prunes.{branch_gone, cut_live, pruned_both, member_in}
use Rattle.ir_entities.proofs.Takes.{op_live}
use Rattle.ir_entities.specs.declared.forest.Place.TheVariants.{Op}
use Rattle.ir_entities.proofs.forest.Forest.take_op.Goals as goal

pub returns-clause-pruned : goal.returns-clause-pruned
returns-clause-pruned g c = pruned_both c.args.self.now c.hoist.new.self c.free_op_at-payload.new.self (Op c.args.x) c.hoist.ensures.pruned
    (branch_gone c.hoist.new.self c.cut_op.new.self c.free_op_at-payload.new.self c.know_forest-2.ensures c.know_forest-3.ensures (Op c.args.op) (Op c.args.x) c.cut_op.ensures.cut c.free_op_at-payload.ensures.erased
    (c.hoist.ensures.pruned.stay (Op c.args.op) (rw c.hoist.ensures.rest (member_in c.args.self.now c.know_forest.ensures (Op c.args.x) (Op c.args.op) c.requires.inside (λ e. c.requires.differ (cc)))) c.requires.inside) (λ e. c.requires.differ (cc)))

pub returns-clause-fewer : goal.returns-clause-fewer
returns-clause-fewer g c = op_live c.args.self.now c.cut_op.new.self c.free_op_at-payload.new.self c.args.op
    (cut_live c.hoist.new.self c.cut_op.new.self (Op c.args.op) c.cut_op.ensures.cut ∙ ap live_in c.hoist.ensures.rest) c.free_op_at-payload.ensures.slot c.free_op_at-payload.ensures.rest
