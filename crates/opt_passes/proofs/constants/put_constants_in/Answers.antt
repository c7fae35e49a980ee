use Rattle.std.proofs.Common.{subst}
use Rattle.ir_trees.specs.Stands.{ProgramTree, StandsFor}
use Rattle.opt_passes.proofs.Outcomes.{constants_outcome, rest_of_constants}
use Rattle.opt_passes.proofs.constants.put_constants_in.Goals as goal
use Rattle.pass_outside.specs.Sound.{IsSound}

pub returns-clause-made : goal.returns-clause-made
returns-clause-made g c =
    let e = c.sccp-made.ensures in
    constants_outcome g.D.Meanings.meaning c.args.ctx.now c.sccp-made.new.ctx c.args.op c.sccp-made.result e.propagates e.unchanged e.part e.lacking e.refused e.refused_same e.types

pub returns-clause-rest : goal.returns-clause-rest
returns-clause-rest g c =
    let e = c.sccp-made.ensures in
    let was = subst (λ z. IsSound z) c.program.ensures c.know_sound.ensures in
    let is = subst (λ z. IsSound z) c.program-3.ensures c.know_sound-2.ensures in
    let tree = subst (λ z. (t : ProgramTree g.row.D-Operation.Denot g.row.D-Block.Denot) × StandsFor z c.args.op t) c.program-2.ensures c.know_tree.ensures in
    rest_of_constants g.D.Meanings.meaning was tree c.requires.live is
    (constants_outcome g.D.Meanings.meaning c.args.ctx.now c.sccp-made.new.ctx c.args.op c.sccp-made.result e.propagates e.unchanged e.part e.lacking e.refused e.refused_same e.types)
