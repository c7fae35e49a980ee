-- The types of values stay known where types and saved values come.
use Rattle.std.proofs.Common.{◌≡◌, ◌<◌, Bool, true, false, Some, Result, Ok, Err, OnOk, OnErr, ⊎_elim, length, sym, ap, subst, ◌∙◌, refl, arith}
use Rattle.std.proofs.lemmas.Option.{slice_get_cases, slice_get_within}
use Rattle.ir_base.specs.declared.types.TypeHandle.{TypeHandle}
use Rattle.ir_program.specs.Program.{Program, type_at}
use Rattle.ir_program.specs.declared.handles.Value.{Value}
use Rattle.ir_types.specs.Interned.{IsKnown, KeepsTypes, has_saved, with_saved}
use Rattle.ir_types.specs.Views.{TypesView}

module _ {K B S : Type 0} where
  -- a type that keeps its key is still known
  known_kept : (old new : TypesView K B S) → KeepsTypes old new → (ty : TypeHandle) → IsKnown old ty → IsKnown new ty
  known_kept old new keeps ty known = ⊎_elim
      (λ h. slice_get_within new.keys ty.number h.0 (keeps ty h.0 h.2).0)
      (λ h. absurd (omega (arith, h.0, known)))
      (slice_get_cases old.keys ty.number).1

  same_keys : (eq : S → S → Bool) (old : TypesView K B S) (value : S) (b : Bool) → b ≡ has_saved eq old value → (with_saved eq old value).keys ≡ old.keys
  same_keys eq old value true is = rw (← is) refl
  same_keys eq old value false is = rw (← is) refl

  module _ {O P : Type 0} (program : Program O P) (old new : TypesView K B S) (known : (v : Value) (ty : TypeHandle) → type_at program v ≡ Some ty → IsKnown old ty) where
    -- where each type keeps its key
    pub grown_types : KeepsTypes old new → (v : Value) (ty : TypeHandle) → type_at program v ≡ Some ty → IsKnown new ty
    grown_types keeps v ty typed = known_kept old new keeps ty (known v ty typed)

    with_keys : new.keys ≡ old.keys → (v : Value) (ty : TypeHandle) → type_at program v ≡ Some ty → IsKnown new ty
    with_keys same v ty typed = subst (λ keys. ty.number < length keys) (sym same) (known v ty typed)

    -- where a value was saved, or nothing changed
    pub saved_types : {E R : Type 0} (eq : S → S → Bool) (value : S) (r : Result R E) → OnOk r (new ≡ with_saved eq old value) → OnErr r (new ≡ old)
        → (v : Value) (ty : TypeHandle) → type_at program v ≡ Some ty → IsKnown new ty
    saved_types eq value (Ok key) saved same = with_keys (ap (λ (s : TypesView K B S). s.keys) saved ∙ same_keys eq old value _ refl)
    saved_types eq value (Err e) saved same = with_keys (ap (λ (s : TypesView K B S). s.keys) same)
