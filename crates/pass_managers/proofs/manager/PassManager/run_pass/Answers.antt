use Rattle.std.proofs.Common.{subst}
use Rattle.pass_managers.specs.lawful.OnePass.{kept_by_run, told_then, fresh_then}
use Rattle.pass_managers.proofs.manager.PassManager.run_pass.Goals as goal
use Rattle.pass_outside.specs.Sound.{IsSound}

pub returns-clause-rest : goal.returns-clause-rest
returns-clause-rest g c =
    let sound = subst (λ z. IsSound z) c.program.ensures c.know_sound.ensures in
    kept_by_run g.P.Pass.behaviour g.D.Verified.accepts g.met.P.Pass.keeps_rest sound c.requires.live c.run_as_told.ensures

pub returns-clause-told : goal.returns-clause-told
returns-clause-told g c =
    let sound = subst (λ z. IsSound z) c.program.ensures c.know_sound.ensures in
    told_then g.P.Pass.behaviour g.D.Verified.accepts g.met.P.Pass.tells_changes sound c.requires.live c.run_as_told.result c.run_as_told.ensures

pub returns-clause-fresh : goal.returns-clause-fresh
returns-clause-fresh g c =
    let sound = subst (λ z. IsSound z) c.program.ensures c.know_sound.ensures in
    fresh_then g.P.Pass.behaviour g.D.Verified.accepts g.E.Kind.PartialEq.eq g.E.Analysis.reading g.met.P.Pass.stays_fresh sound c.requires.live
    c.run_as_told.result c.run_as_told.ensures
