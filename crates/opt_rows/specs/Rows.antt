-- Rows that stand one after the other in one list.
use Rattle.std.specs.Prelude.{◌≡◌, ◌≤◌, ◌-◌, ℕ, zero, suc, List, [], ◌∷◌, take, drop, Option, Some, None, slice_get}

-- the rows of a list that end at these places; the first begins at low, each other where the one before it ends
abbrev pub rows_from : {X : Type 0} → ℕ → List ℕ → List X → List (List X)
rows_from low [] xs = []
rows_from low (e ∷ es) xs = take (e - low) (drop low xs) ∷ rows_from e es xs

-- the places don't fall, from low on, and end at high
abbrev pub AreEnds : ℕ → List ℕ → ℕ → Type 0
AreEnds low [] high = low ≡ high
AreEnds low (e ∷ es) high = (low ≤ e) × AreEnds e es high

-- what is in a row, nothing where it isn't there
abbrev pub listed : {X : Type 0} → Option (List X) → List X
listed None = []
listed (Some row) = row

-- what is in the row at an index
abbrev pub row_at : {X : Type 0} → List (List X) → ℕ → List X
row_at rows k = listed (slice_get rows k)

-- where the row at an index begins
abbrev pub start_from : ℕ → List ℕ → ℕ → ℕ
start_from low es zero = low
start_from low [] (suc k) = low
start_from low (e ∷ es) (suc k) = start_from e es k
