-- What putting items into tables keeps.
use Rattle.std.proofs.Common.{◌≡◌, ◌⊎◌, inl, inr, ⊎_elim, ℕ, ◌+◌, ◌<◌, List, [], Some, length, get_or, take, sym, ap, ◌∙◌, subst}
use Rattle.std.specs.Prelude.{slice_get}
use Rattle.std.proofs.lemmas.Option.{slice_get_within, none-some, same_Some}
use Rattle.opt_rows.specs.OperationRows.{BranchEdge, Row}
use Rattle.opt_rows.specs.declared.facts_problem.FactsProblem.{FactsProblem}
use Rattle.opt_solvers.specs.declared.facts_tables.Place.{Place}
use Rattle.opt_solvers.specs.declared.facts_tables.Slot.{Slot}
use Rattle.opt_solvers.specs.declared.facts_tables.Tables.{Tables}
use Rattle.opt_rows.specs.Facts.{arguments_of}
use Rattle.opt_rows.specs.LinkedRows.{RowsGain, TableLists}
use Rattle.opt_solvers.specs.FactsTables.{IsRowInBlock, ReadsValue, ForwardsAlong, IsForwardSlot, AreTables, AddsRow, HoldRows}
use Rattle.opt_steps.specs.FactsEdges.{ForwardsToArgument}
use Rattle.opt_rows.proofs.Lists.{get_more_cases, get_more_left, get_more_last, get_take, get_from_take, gained_then, gained_none, gained_as, all_listed}

-- the next operand of an operation
pub places_more : (a b c : List (List Place)) (number : ℕ) (xs : List ℕ) (i v : ℕ) → i < length xs → v ≡ get_or xs i v
    → RowsGain (λ u x. (x.row ≡ number) × (slice_get (take i xs) x.operand ≡ Some u)) a b → RowsGain (λ u x. (u ≡ v) × (x ≡ record { row = number; operand = i })) b c → RowsGain (λ u x. (x.row ≡ number) × (slice_get (take (i + 1) xs) x.operand ≡ Some u)) a c
places_more a b c number xs i v h e p q = gained_then _ _ _
    (λ u x s. (s.0, get_more_left xs i v u x.operand h e s.1))
    (λ u x s. (ap (λ (y : Place). y.row) s.1, subst (λ (y : Place). slice_get (take (i + 1) xs) y.operand ≡ Some u) (sym s.1) (get_more_last xs i v h e ∙ ap (λ w. Some w) (sym s.0))))
    (λ u x s. ⊎_elim (λ d. inl (s.0, d)) (λ d. inr (sym d.1, λ t. record { row = s.0 t; operand = d.0 t })) (get_more_cases xs i v u x.operand h e s.1))
    a b c p q

-- the next argument of a block
pub forwards_more : (a b c : List (List Slot)) (n m : ℕ) (arguments forwards operands : List ℕ) (i w q v : ℕ) → i < length arguments → w ≡ get_or arguments i w → slice_get forwards i ≡ Some q → slice_get operands q ≡ Some v
    → RowsGain (λ u x. (x.row ≡ n) × (x.edge ≡ m) × ForwardsToArgument (take i arguments) forwards operands u x.argument) a b → RowsGain (λ u x. (u ≡ v) × (x ≡ record { row = n; edge = m; argument = w })) b c → RowsGain (λ u x. (x.row ≡ n) × (x.edge ≡ m) × ForwardsToArgument (take (i + 1) arguments) forwards operands u x.argument) a c
forwards_more a b c n m arguments forwards operands i w q v h e f o s t = gained_then _ _ _
    (λ u x d. (d.0, d.1, record { index = d.2.index; argument = get_more_left arguments i w x.argument d.2.index h e d.2.argument; operand = d.2.operand; forwards = d.2.forwards; value = d.2.value }))
    (λ u x d. (ap (λ (y : Slot). y.row) d.1, ap (λ (y : Slot). y.edge) d.1, record { index = i; argument = get_more_last arguments i w h e ∙ ap (λ (y : Slot). Some y.argument) (sym d.1); operand = q; forwards = f; value = o ∙ ap (λ y. Some y) (sym d.0) }))
    (λ u x d. ⊎_elim
    (λ r. inl (d.0, d.1, record { index = d.2.index; argument = r; operand = d.2.operand; forwards = d.2.forwards; value = d.2.value }))
    (λ r. let k : d.2.operand ≡ q = same_Some d.2.operand q (sym d.2.forwards ∙ (ap (slice_get forwards) r.0 ∙ f)) in inr (same_Some u v (sym d.2.value ∙ (ap (slice_get operands) k ∙ o)), λ l. record { row = d.0 l; edge = d.1 l; argument = sym r.1 l }))
    (get_more_cases arguments i w x.argument d.2.index h e d.2.argument))
    a b c s t

pub forwards_all : (a b : List (List Slot)) (n m : ℕ) (arguments forwards operands : List ℕ) (i : ℕ) → ((j : ℕ) → j < length arguments → j < length forwards → j < i)
    → RowsGain (λ u x. (x.row ≡ n) × (x.edge ≡ m) × ForwardsToArgument (take i arguments) forwards operands u x.argument) a b → RowsGain (λ u x. (x.row ≡ n) × (x.edge ≡ m) × ForwardsToArgument arguments forwards operands u x.argument) a b
forwards_all a b n m arguments forwards operands i h = gained_as _ _
    (λ u x d. (d.0, d.1, record { index = d.2.index; argument = get_from_take arguments i d.2.index x.argument d.2.argument; operand = d.2.operand; forwards = d.2.forwards; value = d.2.value }))
    (λ u x d. (d.0, d.1, record { index = d.2.index; argument = get_take arguments i d.2.index x.argument d.2.argument (h d.2.index (slice_get_within arguments d.2.index x.argument d.2.argument) (slice_get_within forwards d.2.index d.2.operand d.2.forwards)); operand = d.2.operand; forwards = d.2.forwards; value = d.2.value }))
    a b

-- the next edge of an operation
pub edges_more : (p : FactsProblem) (a b c : List (List Slot)) (n : ℕ) (edges : List BranchEdge) (operands : List ℕ) (i : ℕ) (edge : BranchEdge) → i < length edges → edge ≡ get_or edges i edge
    → RowsGain (λ u x. (x.row ≡ n) × ForwardsAlong p (take i edges) operands u x.edge x.argument) a b → RowsGain (λ u x. (x.row ≡ n) × (x.edge ≡ i) × ForwardsToArgument (arguments_of p edge.target) edge.forwards operands u x.argument) b c → RowsGain (λ u x. (x.row ≡ n) × ForwardsAlong p (take (i + 1) edges) operands u x.edge x.argument) a c
edges_more p a b c n edges operands i edge h e s t = gained_then _ _ _
    (λ u x d. (d.0, record { edge = d.1.edge; there = get_more_left edges i edge d.1.edge x.edge h e d.1.there; forwards = d.1.forwards }))
    (λ u x d. (d.0, record { edge = edge; there = ap (slice_get (take (i + 1) edges)) d.1 ∙ get_more_last edges i edge h e; forwards = d.2 }))
    (λ u x d. ⊎_elim
    (λ r. inl (d.0, record { edge = d.1.edge; there = r; forwards = d.1.forwards }))
    (λ r. inr (d.0, r.0, subst (λ (y : BranchEdge). ForwardsToArgument (arguments_of p y.target) y.forwards operands u x.argument) (sym r.1) d.1.forwards))
    (get_more_cases edges i edge d.1.edge x.edge h e d.1.there))
    a b c s t

pub row_put : (p : FactsProblem) (a b : Tables) (n : ℕ) (r : Row) → RowsGain (λ m i. (m ≡ r.block) × (i ≡ n)) a.rows b.rows → RowsGain (λ v x. (x.row ≡ n) × (slice_get r.operands x.operand ≡ Some v)) a.readers b.readers → RowsGain (λ v x. (x.row ≡ n) × ForwardsAlong p r.edges r.operands v x.edge x.argument) a.slots b.slots → AddsRow p a b n r
row_put p a b n r f g h = record {
  rows = gained_as _ _ (λ m i d. (d.1, sym d.0)) (λ m i d. (sym d.1, d.0)) a.rows b.rows f;
  readers = g;
  slots = h;
}

-- the next operation
pub rows_more : (p : FactsProblem) (a b c : Tables) (rows : List Row) (i : ℕ) (row : Row) → i < length rows → row ≡ get_or rows i row → HoldRows p a b (take i rows) → AddsRow p b c i row → HoldRows p a c (take (i + 1) rows)
rows_more p a b c rows i row h e s t = record {
  rows = gained_then _ _ _
      (λ n x d. record { row = d.row; there = get_more_left rows i row d.row x h e d.there; block = d.block })
      (λ n x d. record { row = row; there = ap (slice_get (take (i + 1) rows)) d.0 ∙ get_more_last rows i row h e; block = d.1 })
      (λ n x d. ⊎_elim (λ r. inl (record { row = d.row; there = r; block = d.block })) (λ r. inr (r.0, ap (λ (y : Row). y.block) r.1 ∙ d.block)) (get_more_cases rows i row d.row x h e d.there))
      a.rows b.rows c.rows s.rows t.rows;
  readers = gained_then _ _ _
      (λ n x d. record { row = d.row; there = get_more_left rows i row d.row x.row h e d.there; operand = d.operand })
      (λ n x d. record { row = row; there = ap (slice_get (take (i + 1) rows)) d.0 ∙ get_more_last rows i row h e; operand = d.1 })
      (λ n x d. ⊎_elim (λ r. inl (record { row = d.row; there = r; operand = d.operand })) (λ r. inr (r.0, subst (λ (y : Row). slice_get y.operands x.operand ≡ Some n) (sym r.1) d.operand)) (get_more_cases rows i row d.row x.row h e d.there))
      a.readers b.readers c.readers s.readers t.readers;
  slots = gained_then _ _ _
      (λ n x d. record { row = d.row; there = get_more_left rows i row d.row x.row h e d.there; along = d.along })
      (λ n x d. record { row = row; there = ap (slice_get (take (i + 1) rows)) d.0 ∙ get_more_last rows i row h e; along = d.1 })
      (λ n x d. ⊎_elim (λ r. inl (record { row = d.row; there = r; along = d.along })) (λ r. inr (r.0, subst (λ (y : Row). ForwardsAlong p y.edges y.operands n x.edge x.argument) (sym r.1) d.along)) (get_more_cases rows i row d.row x.row h e d.there))
      a.slots b.slots c.slots s.slots t.slots;
}

pub no_rows : (p : FactsProblem) (t : Tables) → HoldRows p t t []
no_rows p t = record {
  rows = gained_none (IsRowInBlock []) (λ n x d. none-some d.row d.there) t.rows;
  readers = gained_none (ReadsValue []) (λ n x d. none-some d.row d.there) t.readers;
  slots = gained_none (IsForwardSlot p []) (λ n x d. none-some d.row d.there) t.slots;
}

pub tables_end : (p : FactsProblem) (a b : Tables) → TableLists (λ n x. ⊥) a.rows (length p.arguments.items) → TableLists (λ n x. ⊥) a.readers p.values → TableLists (λ n x. ⊥) a.slots p.values → HoldRows p a b p.rows → AreTables p b
tables_end p a b r s t h = record {
  rows = all_listed (IsRowInBlock p.rows) (length p.arguments.items) a.rows b.rows r h.rows;
  readers = all_listed (ReadsValue p.rows) p.values a.readers b.readers s h.readers;
  slots = all_listed (IsForwardSlot p p.rows) p.values a.slots b.slots t h.slots;
}
