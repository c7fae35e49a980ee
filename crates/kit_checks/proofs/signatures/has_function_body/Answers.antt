use Rattle.std.proofs.Common.{◌≡◌, ◌∙◌, Some, ap, sym, subst}
use Rattle.std.specs.Prelude.{option_copied}
use Rattle.kit_checks.specs.Reading.{TakesInputs}
use Rattle.kit_checks.specs.Words.{Every, IsInteger, signature}
use Rattle.kit_checks.specs.World.{world_of}
use Rattle.kit_checks.proofs.Combined.{last_decides}
use Rattle.kit_checks.proofs.Signed.{takes_of, body_of}
use Rattle.kit_checks.proofs.signatures.has_function_body.Goals as goal

pub returns-else-not-are_integers-2 : goal.returns-else-not-are_integers-2
returns-else-not-are_integers-2 c u s =
    let is : signature (world_of c.args.ctx.now) u ≡ Some c.in-Some.ty.now = c.signature.ensures u s ∙ ap option_copied c.in-Some.is in
    last_decides c.takes_inputs.result (c.takes_inputs.ensures u s)
    (λ takes. body_of (world_of c.args.ctx.now) u c.in-Some.ty.now is
    (subst (Every (IsInteger (world_of c.args.ctx.now))) c.as_slice.ensures.value (c.are_integers.ensures.0 c.if-not-are_integers.false))
    (subst (Every (IsInteger (world_of c.args.ctx.now))) c.as_slice-in-Some.ensures.value (c.are_integers-in-Some.ensures.0 c.if-not-are_integers-2.false))
    (subst (TakesInputs u) c.as_slice-in-Some-2.ensures.value takes))
    (λ body. subst (TakesInputs u) (sym c.as_slice-in-Some-2.ensures.value) (takes_of (world_of c.args.ctx.now) u c.in-Some.ty.now is body))
