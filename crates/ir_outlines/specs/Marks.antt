-- What stands beside the operations and blocks of a text, and the marks with which they are printed.
use Rattle.std.specs.Prelude.{ℕ, suc, List, [], ◌∷◌, Bool, true, false, ◌||◌, Option, Some, None, is_some, if◌then◌else◌}

-- What an operation or a block has beside the tree: attributes under keys, in the order of these as bytes, and a location where it is
-- known. The list of the names of its values is one of the attributes.
pub record Beside (A L : Type 0) : Type 0 where
  pub attributes : List (List ℕ × A)
  pub location : Option L

-- there is something
abbrev pub has_any : {X : Type 0} → List X → Bool
has_any [] = false
has_any (x ∷ xs) = true

-- it is printed with a mark
abbrev pub is_marked : {A L : Type 0} → Beside A L → Bool
is_marked b = has_any b.attributes || is_some b.location

module _ {A L : Type 0} where
  -- Items are given in the order in which a text has their marks: the mark of an operation stands behind its regions, that of a block
  -- before its operations. Those that are marked have the numbers from n on.
  abbrev pub marks_from : ℕ → List (Beside A L) → List (Option ℕ)
  marks_from n [] = []
  marks_from n (b ∷ bs) = if is_marked b then Some n ∷ marks_from (suc n) bs else None ∷ marks_from n bs

  -- the mark of each item, if it has one
  abbrev pub marks_of : List (Beside A L) → List (Option ℕ)
  marks_of bs = marks_from 0 bs

  -- the items that are marked
  abbrev pub marked : List (Beside A L) → List (Beside A L)
  marked [] = []
  marked (b ∷ bs) = if is_marked b then b ∷ marked bs else marked bs
