use Rattle.std.proofs.Common.{◌≡◌, ◌∙◌, Some, None, ap, sym, subst}
use Rattle.std.specs.Prelude.{option_copied}
use Rattle.std.proofs.lemmas.Bool.{false≢true}
use Rattle.kit_checks.specs.Rules.{HasNumbersOf}
use Rattle.kit_checks.specs.Words.{callee_signature}
use Rattle.kit_checks.specs.World.{world_of}
use Rattle.kit_checks.proofs.Combined.{part_fails, last_decides}
use Rattle.kit_checks.proofs.format.has_call_numbers.Goals as goal

pub returns-then-not-has_callee : goal.returns-then-not-has_callee
returns-then-not-has_callee c u s = part_fails c.has_callee.result c.if-not-has_callee.true (c.has_callee.ensures u s) (λ q. q.callee)

pub returns-in-Some : goal.returns-in-Some
returns-in-Some c u s =
    let is : callee_signature (world_of c.args.ctx.now) u ≡ Some c.in-Some.signature.now = c.callee_signature.ensures u s ∙ ap option_copied c.in-Some.is in
    last_decides c.has_numbers_of.result (c.has_numbers_of.ensures u s)
    (λ p. record { callee = (c.has_callee.ensures u s).0 c.if-not-has_callee.false; signature = c.in-Some.signature.now; is_signature = is; numbers = p })
    (λ q. let e : Some q.signature ≡ Some c.in-Some.signature.now = sym q.is_signature ∙ is in let same : q.signature ≡ c.in-Some.signature.now = cc in subst (HasNumbersOf u) same q.numbers)

pub returns-in-None : goal.returns-in-None
returns-in-None c u s = (
  λ h. absurd (false≢true h),
  λ q. let e : Some q.signature ≡ None = sym q.is_signature ∙ c.callee_signature.ensures u s ∙ ap option_copied c.in-None.is in cc,
)
