use Rattle.std.proofs.Common.{◌≡◌, ◌∙◌, Some, None, sym, subst}
use Rattle.std.proofs.lemmas.Bool.{false≢true}
use Rattle.kit_ops.specs.declared.attributes.IntegerAttr.{IntegerAttr}
use Rattle.kit_checks.specs.Reading.{IsIntegerOf}
use Rattle.kit_checks.specs.Words.{Every, types_of}
use Rattle.kit_checks.specs.World.{world_of}
use Rattle.kit_checks.proofs.Combined.{part_fails, last_decides}
use Rattle.kit_checks.proofs.constants.has_constant_value.Goals as goal

pub returns-then-not-is_integer_of : goal.returns-then-not-is_integer_of
returns-then-not-is_integer_of c u s =
    part_fails c.is_integer_of.result c.if-not-is_integer_of.true c.is_integer_of.ensures
    (λ q. let e : Some c.in-Some.value ≡ Some q.value = sym c.in-Some.is ∙ sym (c.integer_under.ensures u s) ∙ q.has_value in let same : q.value ≡ c.in-Some.value = cc in
    subst (IsIntegerOf (world_of c.args.ctx.now)) same (record { is_type = q.is_type; in_range = q.in_range }))

pub returns-else-not-is_integer_of : goal.returns-else-not-is_integer_of
returns-else-not-is_integer_of c u s =
    let it = c.is_integer_of.ensures.0 c.if-not-is_integer_of.false in
    last_decides c.results_pass.result (c.results_pass.ensures u s)
    (λ p. record { value = c.in-Some.value; has_value = c.integer_under.ensures u s ∙ c.in-Some.is; is_type = it.is_type; in_range = it.in_range; results = p })
    (λ q. let e : Some c.in-Some.value ≡ Some q.value = sym c.in-Some.is ∙ sym (c.integer_under.ensures u s) ∙ q.has_value in let same : q.value ≡ c.in-Some.value = cc in
    subst (λ (v : IntegerAttr). Every (λ h. h ≡ v.ty) (types_of u.head.results)) same q.results)

pub returns-in-None : goal.returns-in-None
returns-in-None c u s = (
  λ h. absurd (false≢true h),
  λ q. let e : None ≡ Some q.value = sym c.in-None.is ∙ sym (c.integer_under.ensures u s) ∙ q.has_value in cc,
)
