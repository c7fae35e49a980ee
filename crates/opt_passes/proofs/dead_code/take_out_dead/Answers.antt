use Rattle.std.proofs.Common.{subst}
use Rattle.ir_trees.specs.Stands.{ProgramTree, StandsFor}
use Rattle.opt_passes.proofs.Outcomes.{dead_outcome, rest_of_dead}
use Rattle.opt_passes.proofs.dead_code.take_out_dead.Goals as goal
use Rattle.pass_outside.specs.Sound.{IsSound}

pub returns-clause-made : goal.returns-clause-made
returns-clause-made g c =
    let e = c.dce-made.ensures in
    dead_outcome g.D.Meanings.meaning c.args.ctx.now c.dce-made.new.ctx c.args.op c.dce-made.result e.made e.unchanged e.error e.err e.handles e.types

pub returns-clause-rest : goal.returns-clause-rest
returns-clause-rest g c =
    let e = c.dce-made.ensures in
    let was = subst (λ z. IsSound z) c.program.ensures c.know_sound.ensures in
    let is = subst (λ z. IsSound z) c.program-3.ensures c.know_sound-2.ensures in
    let tree = subst (λ z. (t : ProgramTree g.row.D-Operation.Denot g.row.D-Block.Denot) × StandsFor z c.args.op t) c.program-2.ensures c.know_tree.ensures in
    rest_of_dead g.D.Meanings.meaning was tree c.requires.live is
    (dead_outcome g.D.Meanings.meaning c.args.ctx.now c.dce-made.new.ctx c.args.op c.dce-made.result e.made e.unchanged e.error e.err e.handles e.types)
