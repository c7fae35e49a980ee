-- An arena whose slots are all vacant is one in which no key leads to a value.
use Rattle.std.proofs.Common.{◌≡◌, ◌↔◌, ℕ, zero, suc, Bool, true, false, IsTrue, cond, eqb, ◌&&◌, List, [], ◌∷◌, Option, Some, None, refl, sym, ◌∙◌}
use Rattle.std.specs.Option.{is_none}
use Rattle.std.specs.List.{list_all}
use Rattle.std.proofs.lemmas.Bool.{eq-eqb}
use Rattle.ir_arena.specs.declared.arena.Slot.{Slot}
use Rattle.ir_arena.specs.Arena.{get, IsVacant}

both : (a b : Bool) → a ≡ true → b ≡ true → (a && b) ≡ true
both true true e f = refl
both true false e f = f
both false b e f = e

left : (a b : Bool) → (a && b) ≡ true → a ≡ true
left true b e = refl
left false b e = e

right : (a b : Bool) → (a && b) ≡ true → b ≡ true
right true b e = e
right false b e = cc

module _ {T : Type 0} where
  -- nothing is in the slot
  abbrev bare : Slot T → Bool
  bare s = is_none s.value

  cond-none : (b : Bool) (o : Option T) → is_none o ≡ true → cond b o None ≡ None
  cond-none true None e = refl
  cond-none false o e = refl
  cond-none true (Some x) e = cc

  none-cond : (b : Bool) (o : Option T) → b ≡ true → cond b o None ≡ None → is_none o ≡ true
  none-cond true None e h = refl
  none-cond true (Some x) e h = cc
  none-cond false o e h = cc

  no_value : (slots : List (Slot T)) → list_all bare slots ≡ true → (i n : ℕ) → get slots (record { slot = i; version = n }) ≡ None
  no_value [] h zero n = cond-none _ None refl
  no_value [] h (suc i) n = cond-none _ None refl
  no_value (s ∷ slots) h zero n = cond-none (eqb s.version n) s.value (left (bare s) (list_all bare slots) h)
  no_value (s ∷ slots) h (suc i) n = no_value slots (right (bare s) (list_all bare slots) h) i n

  all_bare : (slots : List (Slot T)) → IsVacant slots → list_all bare slots ≡ true
  all_bare [] vacant = refl
  all_bare (s ∷ slots) vacant = both (bare s) (list_all bare slots)
      (none-cond (eqb s.version s.version) s.value (eq-eqb s.version s.version refl) (vacant (record { slot = 0; version = s.version })))
      (all_bare slots (λ p. vacant (record { slot = suc p.slot; version = p.version })))

  pub vacant_exactly : (slots : List (Slot T)) (b : Bool) → b ≡ list_all (λ (s : Slot T). is_none s.value) slots → (IsTrue b ↔ IsVacant slots)
  vacant_exactly slots b is = (λ t. λ p. no_value slots (sym is ∙ t) p.slot p.version, λ vacant. is ∙ all_bare slots vacant)
