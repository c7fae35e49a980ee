use Rattle.std.proofs.Common.{subst}
use Rattle.ir_trees.specs.Stands.{ProgramTree, StandsFor}
use Rattle.opt_passes.proofs.Outcomes.{flow_outcome, rest_of_flow}
use Rattle.opt_passes.proofs.control_flow.simplify_flow.Goals as goal
use Rattle.pass_outside.specs.Sound.{IsSound}

pub returns-clause-made : goal.returns-clause-made
returns-clause-made g c =
    let e = c.simplify_cfg-made.ensures in
    flow_outcome g.D.Meanings.meaning c.args.ctx.now c.simplify_cfg-made.new.ctx c.args.op c.simplify_cfg-made.result e.simplified e.tree e.unchanged e.same e.error e.handles e.types

pub returns-clause-rest : goal.returns-clause-rest
returns-clause-rest g c =
    let e = c.simplify_cfg-made.ensures in
    let was = subst (λ z. IsSound z) c.program.ensures c.know_sound.ensures in
    let is = subst (λ z. IsSound z) c.program-3.ensures c.know_sound-2.ensures in
    let tree = subst (λ z. (t : ProgramTree g.row.D-Operation.Denot g.row.D-Block.Denot) × StandsFor z c.args.op t) c.program-2.ensures c.know_tree.ensures in
    rest_of_flow g.D.Meanings.meaning was tree c.requires.live is
    (flow_outcome g.D.Meanings.meaning c.args.ctx.now c.simplify_cfg-made.new.ctx c.args.op c.simplify_cfg-made.result e.simplified e.tree e.unchanged e.same e.error e.handles e.types)
