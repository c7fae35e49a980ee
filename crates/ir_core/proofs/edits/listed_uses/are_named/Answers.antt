use Rattle.std.proofs.Common.{◌≡◌, ◌<◌, Some, length, refl, sym, ◌∙◌, arith}
use Rattle.std.proofs.lemmas.Option.{slice_get-get_or, slice_get_within}
use Rattle.ir_program.specs.declared.handles.Ptr.{Ptr}
use Rattle.ir_program.specs.declared.handles.Operation.{Operation}
use Rattle.ir_core.specs.declared.edits.edit.PlaceAt.{PlaceAt}
use Rattle.ir_core.specs.edits.Naming.{operation_named}
use Rattle.ir_core.proofs.EditsLemmas.Lists.{one-more}
use Rattle.ir_core.proofs.edits.listed_uses.are_named.Goals as goal

-- the place's operation is named by nothing
pub returns-in_default : goal.returns-in_default
returns-in_default c = (
  λ h. cc,
  λ all. let h = all c.loop-place.place-index _ (slice_get-get_or _ _ _ c.loop-place-test.true) in absurd (c.in_default.not-Some h.0 (c.operation.ensures ∙ h.1)),
)

pub loop-place-preserved : goal.loop-place-preserved
loop-place-preserved c = one-more (λ (place : PlaceAt). (p : Ptr Operation) × (operation_named c.args.made.now place.user_op ≡ Some p) × Unit {0}) c.args.places.now c.loop-place.place-index _ (slice_get-get_or _ _ _ c.loop-place-test.true)
    (c.in-Some.field-0, sym c.operation.ensures ∙ c.in-Some.is, tt) c.loop-place.invariant

pub returns : goal.returns
returns c = (
  λ h k x at. let lt : k < length c.args.places.now = slice_get_within c.args.places.now k x at in c.loop-place.invariant k x (omega arith) at,
  λ all. refl,
)
