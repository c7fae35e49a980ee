use Rattle.std.proofs.Common.{refl, sym, ◌∙◌, ap, slice_get, subst}
use Rattle.ir_program.specs.Among.{is_among}
use Rattle.ir_program.specs.Edits.{EditsOperations}
use Rattle.ir_program.specs.Replacing.{with_chosen}
use Rattle.ir_core.proofs.EditsLemmas.Makings.{same_still}
use Rattle.ir_core.proofs.edits.listed_uses.replace_some_uses.Goals as goal

pub replace_uses_with-succeeds-requires-clause-stand : goal.replace_uses_with-succeeds-requires-clause-stand
replace_uses_with-succeeds-requires-clause-stand g c = λ k u at.
    let s = c.in-Ok.ensures.sound k u (sym (ap (λ us. slice_get us k) c.deref.ensures.value) ∙ at) in (s.0, s.1)

pub returns-in_default : goal.returns-in_default
returns-in_default g c = (
  ((sym c.is_live.ensures ∙ c.if-not-is_live.false, sym c.is_live-else-not-is_live.ensures ∙ c.if-not-is_live-2.false, c.are_named.ensures.0 c.if-not-are_named.false), tt),
  same_still c.args.ctx.now,
)

pub returns : goal.returns
returns g c = (
  (sym c.is_live.ensures ∙ c.if-not-is_live.false, sym c.is_live-else-not-is_live.ensures ∙ c.if-not-is_live-2.false, c.are_named.ensures.0 c.if-not-are_named.false),
  (
    refl,
    c.in-Ok.uses.items,
    c.in-Ok.ensures,
    subst
        (λ us. EditsOperations c.args.ctx.now.program c.replace_uses_with-succeeds.new.ctx.program (λ p o. record o { operands = with_chosen (is_among us) c.args.other p 0 o.operands }))
        c.deref.ensures.value
        c.replace_uses_with-succeeds.ensures.replaced,
    record {
      values = c.replace_uses_with-succeeds.ensures.values;
      types = c.replace_uses_with-succeeds.ensures.types;
    },
  ),
)
