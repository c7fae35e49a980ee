use Rattle.std.proofs.Common.{rules, ◌≡◌}
use Rattle.std.specs.Prelude.{Err}
use Rattle.opt_dialect.specs.declared.status.OptError.TheVariants.{Memory}
use Rattle.pass_managers.specs.Running.{on_none}
use Rattle.pass_managers.proofs.RanNested.{on_listed}
use Rattle.pass_managers.proofs.nested.NestedOpsPassPass.run.Goals as goal
use Rattle.pass_outside.specs.Nested.{nested_in}

pub returns-in_err-nested : goal.returns-in_err-nested
returns-in_err-nested g c =
    let error : c.from_residual.result ≡ Err Memory = search rules in
    rw error on_none

pub returns : goal.returns
returns g c =
    let same : c.as_slice.result.now ≡ nested_in c.args.ctx.now.program c.args.op = search rules in
    on_listed g.P.Pass.behaviour g.D.Verified.accepts g.E.Kind.PartialEq.eq same c.run_at_each.ensures
