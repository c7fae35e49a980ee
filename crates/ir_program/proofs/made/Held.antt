-- Slots that all have a value, taken from the end.
use Rattle.std.proofs.Common.{◌≡◌, ℕ, List, [], ◌∷◌, ◌++◌, IsSome, subst}
use Rattle.ir_arena.specs.declared.arena.Slot.{Slot}
use Rattle.ir_arena.specs.Arena.{held}
use Rattle.ir_entities.proofs.Edits.{has_left, has_right}
use Rattle.ir_entities.proofs.Segments.{has_here}
use Rattle.ir_program.specs.Listed.{AreHeld}

module _ {T : Type 0} (slots : List (Slot T)) (xs ys : List ℕ) (x : ℕ) (is : xs ≡ ys ++ x ∷ []) (all : AreHeld slots xs) where
  same : AreHeld slots (ys ++ x ∷ [])
  same = subst (λ zs. AreHeld slots zs) is all

  pub last_held_slot : IsSome (held slots x)
  last_held_slot = same x (has_right x ys (x ∷ []) (has_here x []))

  pub rest_held_slots : AreHeld slots ys
  rest_held_slots i h = same i (has_left i ys (x ∷ []) h)
