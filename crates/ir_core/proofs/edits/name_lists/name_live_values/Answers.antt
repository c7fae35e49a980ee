use Rattle.std.proofs.Common.{◌≡◌, ◌<◌, Some, length, refl, sym, ◌∙◌, subst, arith}
use Rattle.std.proofs.lemmas.Option.{slice_get-get_or, slice_get_within}
use Rattle.ir_program.specs.declared.handles.Value.{Value}
use Rattle.ir_program.specs.Program.{IsLiveValue}
use Rattle.ir_core.specs.declared.edits.edit.ValueAt.{ValueAt}
use Rattle.ir_core.specs.edits.Naming.{value_named}
use Rattle.ir_core.proofs.EditsLemmas.Lists.{one-more}
use Rattle.ir_core.proofs.edits.name_lists.name_live_values.Goals as goal

-- the name stands for nothing
pub returns-in_default : goal.returns-in_default
returns-in_default g c = (
  λ h. cc,
  λ all. let h = all c.loop-name.name-index _ (slice_get-get_or _ _ _ c.loop-name-test.true) in absurd (c.in_default.not-Some h.0 (c.value.ensures ∙ h.1)),
)

-- what it stands for is not there
pub returns-then-not-is_live : goal.returns-then-not-is_live
returns-then-not-is_live g c = (
  λ h. cc,
  λ all. let h = all c.loop-name.name-index _ (slice_get-get_or _ _ _ c.loop-name-test.true) in
      let e : Some h.0 ≡ Some c.in-Some.value = sym (c.value.ensures ∙ h.1) ∙ c.in-Some.is in
      let q : h.0 ≡ c.in-Some.value = cc in
      sym c.if-not-is_live.true ∙ c.is_live.ensures ∙ subst (IsLiveValue c.args.ctx.now.program) q h.2,
)

pub loop-name-preserved : goal.loop-name-preserved
loop-name-preserved g c = one-more (λ (name : ValueAt). (y : Value) × (value_named c.args.ctx.now.program c.args.made.now name ≡ Some y) × IsLiveValue c.args.ctx.now.program y) c.args.names.now c.loop-name.name-index _ (slice_get-get_or _ _ _ c.loop-name-test.true)
    (c.in-Some.value, sym c.value.ensures ∙ c.in-Some.is, sym c.is_live.ensures ∙ c.if-not-is_live.false) c.loop-name.invariant

pub returns : goal.returns
returns g c = (
  λ h k x at. let lt : k < length c.args.names.now = slice_get_within c.args.names.now k x at in c.loop-name.invariant k x (omega arith) at,
  λ all. refl,
)
