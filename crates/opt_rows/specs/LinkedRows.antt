-- Rows whose items are linked in one list.
use Rattle.std.specs.Prelude.{◌≡◌, ◌⊎◌, ◌≤◌, ℕ, zero, suc, List, [], ◌∷◌, length, Some, slice_get, unwrap_or, option_map, Contains}
use Rattle.opt_rows.specs.declared.linked_rows.Linked.{Linked}
use Rattle.opt_rows.specs.Rows.{row_at}

-- at most so many items, from a link on: the link is one more than the index of the first, or 0 where there is none
abbrev pub some_items : {X : Type 0} → ℕ → List (Linked X) → ℕ → List X
some_items zero links next = []
some_items (suc most) links zero = []
some_items {X} (suc most) links (suc index) = unwrap_or (option_map (λ (l : Linked X). l.item ∷ some_items most links l.next) (slice_get links index)) []

-- the items from a link on: as links lead back, no more of them come than the link says
abbrev pub items_from : {X : Type 0} → List (Linked X) → ℕ → List X
items_from links next = some_items next links next

-- each item is linked to one that comes before it in the list, or to none
abbrev pub LeadBack : {X : Type 0} → List (Linked X) → Type 0
LeadBack {X} links = (i : ℕ) (l : Linked X) → slice_get links i ≡ Some l → l.next ≤ i

-- the links of items and those to the first item of each row lead into the list
pub record AreLinked {X : Type 0} (links : List (Linked X)) (firsts : List ℕ) : Type 0 where
  pub back : LeadBack links
  pub inside : (i first : ℕ) → slice_get firsts i ≡ Some first → first ≤ length links

-- the rows gain exactly such items
pub record RowsGain {X : Type 0} (such : ℕ → X → Type 0) (old new : List (List X)) : Type 0 where
  pub len : length new ≡ length old
  pub keeps : (n : ℕ) (x : X) → Contains (row_at old n) x → Contains (row_at new n) x
  pub has : (n : ℕ) (x : X) → such n x → Contains (row_at new n) x
  pub only : (n : ℕ) (x : X) → Contains (row_at new n) x → Contains (row_at old n) x ⊎ such n x

-- a row of the table lists exactly such items
pub record TableLists {X : Type 0} (such : ℕ → X → Type 0) (t : List (List X)) (count : ℕ) : Type 0 where
  pub len : length t ≡ count
  pub has : (n : ℕ) (x : X) → such n x → Contains (row_at t n) x
  pub only : (n : ℕ) (x : X) → Contains (row_at t n) x → such n x
