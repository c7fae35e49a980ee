use Rattle.std.proofs.Common.{◌≡◌, ◌∙◌, ⊎_elim, inl, inr, Some, None, subst, sym}
use Rattle.std.proofs.lemmas.Bool.{false≢true}
use Rattle.ir_program.specs.Lists.{StandsInBlock}
use Rattle.kit_checks.proofs.Handles.{not_same, same_yes, yes_same}
use Rattle.kit_checks.proofs.Named.{order_tells}
use Rattle.kit_checks.proofs.naming.may_name_results.Goals as goal

pub returns-then-eq : goal.returns-then-eq
returns-then-eq g c =
    let same = same_yes c.in-Some.home c.args.spot.block c.eq.result c.eq.ensures c.if-eq.true in
    let stands : StandsInBlock c.args.program.now c.args.definer c.args.spot.block = subst (StandsInBlock c.args.program.now c.args.definer) same c.in-Some.ensures.parent in (
      λ yes. inl (order_tells c.args.program.now c.args.spot.block c.args.order.now c.args.definer c.args.op
          c.requires.order stands c.requires.spot.in_block (c.is_earlier.ensures.0 yes)),
      λ h. c.is_earlier.ensures.1 (⊎_elim
          (λ e. c.requires.order.before c.args.definer e)
          (λ r. let q : Some c.in-Some.home ≡ Some c.args.spot.entry = sym c.in-Some.is ∙ c.parent_block.ensures.only c.args.spot.entry r.1 in let e : c.in-Some.home ≡ c.args.spot.entry = cc in absurd (r.0 (sym same ∙ e)))
          h),
    )

pub returns-else-eq : goal.returns-else-eq
returns-else-eq g c =
    let other = not_same c.in-Some.home c.args.spot.block c.eq.result c.eq.ensures c.if-eq.false in (
      λ yes. let same = same_yes c.in-Some.home c.args.spot.entry c.eq-in-Some.result c.eq-in-Some.ensures yes in
          inr (λ both. other (same ∙ sym both), subst (StandsInBlock c.args.program.now c.args.definer) same c.in-Some.ensures.parent),
      λ h. ⊎_elim
          (λ e.
          let stands : StandsInBlock c.args.program.now c.args.definer c.args.spot.block = record { operation = c.requires.definer; block = c.requires.spot.in_block.block; index = e.first; here = e.here } in
          let q : Some c.in-Some.home ≡ Some c.args.spot.block = sym c.in-Some.is ∙ c.parent_block.ensures.only c.args.spot.block stands in
          let same : c.in-Some.home ≡ c.args.spot.block = cc in absurd (other same))
          (λ r. let q : Some c.in-Some.home ≡ Some c.args.spot.entry = sym c.in-Some.is ∙ c.parent_block.ensures.only c.args.spot.entry r.1 in
          yes_same c.in-Some.home c.args.spot.entry c.eq-in-Some.result c.eq-in-Some.ensures (cc))
          h,
    )

pub returns-in-None : goal.returns-in-None
returns-in-None g c = (
  λ h. absurd (false≢true h),
  λ h. ⊎_elim
      (λ e.
      let stands : StandsInBlock c.args.program.now c.args.definer c.args.spot.block = record { operation = c.requires.definer; block = c.requires.spot.in_block.block; index = e.first; here = e.here } in
      let q : None ≡ Some c.args.spot.block = sym c.in-None.is ∙ c.parent_block.ensures.only c.args.spot.block stands in cc)
      (λ r. let q : None ≡ Some c.args.spot.entry = sym c.in-None.is ∙ c.parent_block.ensures.only c.args.spot.entry r.1 in cc)
      h,
)
