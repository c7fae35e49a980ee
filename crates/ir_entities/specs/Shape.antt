-- What stands in what.
use Rattle.std.specs.Prelude.{◌≡◌, ℕ, true, List}
use Rattle.ir_entities.specs.Links.{has, list_at}
use Rattle.ir_entities.specs.declared.forest.Place.{Place}
use Rattle.ir_entities.specs.declared.forest.Place.TheVariants.{Op, Block, Region}

-- which operations stand in each block, blocks in each region and regions in each operation
pub record Shape : Type 0 where
  pub in_blocks : List (List ℕ)
  pub in_regions : List (List ℕ)
  pub in_ops : List (List ℕ)

-- e stands in d
abbrev pub IsIn : Shape → Place → Place → Type 0
IsIn s (Op i) (Block c) = has i (list_at s.in_blocks c) ≡ true
IsIn s (Block i) (Region c) = has i (list_at s.in_regions c) ≡ true
IsIn s (Region i) (Op c) = has i (list_at s.in_ops c) ≡ true
IsIn s e d = ⊥

-- e is x, or stands in it however far down
pub data IsInside (s : Shape) (x : Place) : Place → Type 0 where
  itself : IsInside s x x
  deeper : (e d : Place) → IsIn s e d → IsInside s x d → IsInside s x e

-- the way up from e ends
pub data IsGrounded (s : Shape) : Place → Type 0 where
  below : (e : Place) → ((d : Place) → IsIn s e d → IsGrounded s d) → IsGrounded s e
