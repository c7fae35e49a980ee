use Rattle.std.proofs.Common.{rules, ◌≡◌, true, false, sym, ◌∙◌, subst}
use Rattle.std.specs.Prelude.{Err}
use Rattle.opt_inside.specs.Edges.{HasLocalEdgesBelow}
use Rattle.opt_passes.specs.Tested.{not_verified, not_local}
use Rattle.opt_passes.proofs.condition.test_condition.Goals as goal

pub returns-in_err-verify-clause-refused : goal.returns-in_err-verify-clause-refused
returns-in_err-verify-clause-refused g c =
    let error : c.from_residual.result ≡ Err c.in_err-verify.field-0.0 = search rules in
    rw error (not_verified c.in_err-verify.ensures.refused)

pub returns-then-not-has_local_edges_below-clause-refused : goal.returns-then-not-has_local_edges_below-clause-refused
returns-then-not-has_local_edges_below-clause-refused g c = not_local c.in_ok-verify.ensures.accepted (λ local.
    let is : c.has_local_edges_below.result ≡ true = c.has_local_edges_below.ensures.exact.1
    (subst (λ p. HasLocalEdgesBelow g.D.Meanings.meaning.is_terminator p c.args.op) (sym c.program.ensures) local) in
    let no : true ≡ false = sym is ∙ c.if-not-has_local_edges_below.true in
    cc)
