-- What is gathered one by one from lists, by indices.
use Rattle.std.proofs.Common.{◌≡◌, ◌⊎◌, inl, inr, ⊎_elim, ℕ, zero, suc, ◌+◌, ◌<◌, ◌≤◌, Bool, true, false, List, [], ◌∷◌, ◌++◌, length, map, Some, slice_get, refl, sym, ap, ◌∙◌, subst, arith}
use Rattle.std.specs.Prelude.{◌↔◌, Contains}
use Rattle.std.specs.declared.vec.Vec.{Vec}
use Rattle.std.specs.declared.alloc.Global.{Global}
use Rattle.std.proofs.lemmas.Option.{none-some, same_Some, slice_get_within}
use Rattle.digraph.specs.Graph.{successors}
use Rattle.ir_program.specs.Program.{Program}
use Rattle.ir_program.specs.declared.handles.Ptr.{Ptr}
use Rattle.ir_program.specs.declared.handles.BasicBlock.{BasicBlock}
use Rattle.ir_trees.specs.Searched.{Lists, AreDistinct}
use Rattle.opt_inside.specs.reach.Paths.{items_if, number_in, exits_of, IsEntry, IsPathGraph}
use Rattle.opt_inside.specs.declared.reach.fates.Fate.{Fate}
use Rattle.opt_inside.specs.declared.reach.fates.Fate.TheVariants.{Unreached}
use Rattle.opt_inside.proofs.ReachLemmas.Lists.{get_last, get_end, get_front}
use Rattle.opt_inside.proofs.ReachLemmas.Members.{contains_lists, lists_contains}

pub earlier : (k i : ℕ) → k < i + 1 → (k < i) ⊎ (k ≡ i)
earlier zero zero l = inr refl
earlier zero (suc i) l = inl (omega arith)
earlier (suc k) zero l = absurd (omega (arith, l))
earlier (suc k) (suc i) l = ⊎_elim (λ h. inl (omega (arith, h))) (λ e. inr (ap suc e)) (earlier k i (omega (arith, l)))

module _ {X : Type 0} (P : ℕ → X → Type 0) where
  -- the list has those of which it holds at an index below i
  abbrev pub Gathers : List X → ℕ → Type 0
  Gathers row i = (x : X) → Lists row x ↔ ((k : ℕ) × (k < i) × P k x)

  pub gathered_none : (row : List X) → row ≡ [] → Gathers row 0
  gathered_none row e x = (
    λ l. absurd (none-some x (sym (ap (λ r. slice_get r l.0) e) ∙ l.1)),
    λ h. let l = h.1 in absurd (omega (arith, l)),
  )

  pub gathered_more : (row row' : List X) (i : ℕ) (x : X) → P i x → ((y : X) → P i y → y ≡ x) → row' ≡ row ++ x ∷ [] → Gathers row i → Gathers row' (i + 1)
  gathered_more row row' i x p only e s y = (
    λ l. ⊎_elim
        (λ (h : slice_get row l.0 ≡ Some y). let g = (s y).0 (l.0, h) in let lt = g.1 in (g.0, omega (arith, lt), g.2))
        (λ (h : (l.0 ≡ length row) × (y ≡ x)). (i, omega arith, subst (P i) (sym h.1) p))
        (get_last row x l.0 y (ap (λ r. slice_get r l.0) (sym e) ∙ l.1)),
    λ h. ⊎_elim
        (λ (lt : h.0 < i). let l = (s y).1 (h.0, lt, h.2) in (l.0, ap (λ r. slice_get r l.0) e ∙ get_front row (x ∷ []) l.0 y l.1))
        (λ (same : h.0 ≡ i). let q = only y (subst (λ k. P k y) same h.2) in (length row, ap (λ r. slice_get r (length row)) e ∙ get_end row x ∙ ap Some (sym q)))
        (earlier h.0 i h.1),
  )

  pub gathered_skip : (row : List X) (i : ℕ) → ((y : X) → P i y → ⊥) → Gathers row i → Gathers row (i + 1)
  gathered_skip row i none s y = (
    λ l. let g = (s y).0 l in let lt = g.1 in (g.0, omega (arith, lt), g.2),
    λ h. ⊎_elim (λ (lt : h.0 < i). (s y).1 (h.0, lt, h.2)) (λ (same : h.0 ≡ i). absurd (none y (subst (λ k. P k y) same h.2))) (earlier h.0 i h.1),
  )

  pub gathered_if : (row row' : List X) (i : ℕ) (x : X) (b : Bool) → (b ≡ true → P i x) → ((y : X) → P i y → (y ≡ x) × (b ≡ true)) → row' ≡ items_if b row x → Gathers row i → Gathers row' (i + 1)
  gathered_if row row' i x true p only e s = gathered_more row row' i x (p refl) (λ y h. (only y h).0) e s
  gathered_if row row' i x false p only e s = subst (λ r. Gathers r (i + 1)) (sym e) (gathered_skip row i (λ y h. let f : false ≡ true = (only y h).1 in cc) s)

  pub gathered_all : (row : List X) (i : ℕ) → ((k : ℕ) (x : X) → P k x → k < i) → Gathers row i → (x : X) → Lists row x ↔ ((k : ℕ) × P k x)
  gathered_all row i short s x = (λ l. let g = (s x).0 l in (g.0, g.2), λ h. (s x).1 (h.0, short h.0 x h.1, h.1))

pub distinct_more : {X : Type 0} (row row' : List X) (x : X) → row' ≡ row ++ x ∷ [] → (Lists row x → ⊥) → AreDistinct row → AreDistinct row'
distinct_more row row' x e new once j k y a b = ⊎_elim
    (λ (f : slice_get row j ≡ Some y). ⊎_elim
    (λ (g : slice_get row k ≡ Some y). once j k y f g)
    (λ (g : (k ≡ length row) × (y ≡ x)). absurd (new (j, f ∙ ap Some g.1)))
    (get_last row x k y (ap (λ r. slice_get r k) (sym e) ∙ b)))
    (λ (f : (j ≡ length row) × (y ≡ x)). ⊎_elim
    (λ (g : slice_get row k ≡ Some y). absurd (new (k, g ∙ ap Some f.1)))
    (λ (g : (k ≡ length row) × (y ≡ x)). f.0 ∙ sym g.0)
    (get_last row x k y (ap (λ r. slice_get r k) (sym e) ∙ b)))
    (get_last row x j y (ap (λ r. slice_get r j) (sym e) ∙ a))

pub distinct_if : {X : Type 0} (row row' : List X) (x : X) (b : Bool) → row' ≡ items_if b row x → (Lists row x → ⊥) → AreDistinct row → AreDistinct row'
distinct_if row row' x true e new once = distinct_more row row' x e new once
distinct_if row row' x false e new once = subst AreDistinct (sym e) once

pub distinct_none : {X : Type 0} (row : List X) → row ≡ [] → AreDistinct row
distinct_none row e j k y a b = absurd (none-some y (sym (ap (λ r. slice_get r j) e) ∙ a))

-- the rows of the graph of paths, one by one
module _ {O B : Type 0} (c : Program O B) (keys : List (Ptr BasicBlock)) where
  pub record HasRows (i : ℕ) (rows : List (Vec ℕ Global)) : Type 0 where
    pub len : length rows ≡ i
    pub blocks : (k : ℕ) (b : Ptr BasicBlock) → k < i → slice_get keys k ≡ Some b → successors rows k ≡ map (number_in keys) (exits_of c b)

  pub no_rows : (rows : List (Vec ℕ Global)) → rows ≡ [] → HasRows 0 rows
  no_rows rows e = record { len = ap length e; blocks = λ k b l h. absurd (omega (arith, l)) }

  row_kept : (rows : List (Vec ℕ Global)) (row : Vec ℕ Global) (k : ℕ) → k < length rows → successors (rows ++ row ∷ []) k ≡ successors rows k
  row_kept [] row k l = absurd (omega (arith, l))
  row_kept (r ∷ rows) row zero l = refl
  row_kept (r ∷ rows) row (suc k) l = row_kept rows row k (omega (arith, l))

  row_put : (rows : List (Vec ℕ Global)) (row : Vec ℕ Global) → successors (rows ++ row ∷ []) (length rows) ≡ row.items
  row_put [] row = refl
  row_put (r ∷ rows) row = row_put rows row

  longer : (rows : List (Vec ℕ Global)) (row : Vec ℕ Global) → length (rows ++ row ∷ []) ≡ length rows + 1
  longer [] row = refl
  longer (r ∷ rows) row = let h = longer rows row in omega (arith, h)

  pub row_more : (rows rows' : List (Vec ℕ Global)) (row : Vec ℕ Global) (i : ℕ) (b : Ptr BasicBlock) → slice_get keys i ≡ Some b → row.items ≡ map (number_in keys) (exits_of c b) → rows' ≡ rows ++ row ∷ []
      → HasRows i rows → HasRows (i + 1) rows'
  row_more rows rows' row i b here is e s = subst (HasRows (i + 1)) (sym e) (record {
    len = longer rows row ∙ ap (λ k. k + 1) s.len;
    blocks = λ k a l h. ⊎_elim
        (λ (lt : k < i). row_kept rows row k (let n = s.len in omega (arith, lt, n)) ∙ s.blocks k a lt h)
        (λ (same : k ≡ i).
        let at : a ≡ b = same_Some a b (sym h ∙ ap (slice_get keys) same ∙ here) in
        ap (successors (rows ++ row ∷ [])) (same ∙ sym s.len) ∙ row_put rows row ∙ is ∙ ap (λ x. map (number_in keys) (exits_of c x)) (sym at))
        (earlier k i l);
  })

  pub rows_are : (rows rows' : List (Vec ℕ Global)) (row : Vec ℕ Global) (i : ℕ) → length keys ≡ i → ((n : ℕ) → Contains row.items n ↔ ((b : Ptr BasicBlock) × (slice_get keys n ≡ Some b) × IsEntry c b)) → rows' ≡ rows ++ row ∷ []
      → HasRows i rows → IsPathGraph c keys rows'
  rows_are rows rows' row i all entries e s = subst (IsPathGraph c keys) (sym e) (record {
    len = longer rows row ∙ ap (λ k. k + 1) (s.len ∙ sym all);
    blocks = λ k b h. let lt = slice_get_within keys k b h in row_kept rows row k (let n = s.len in omega (arith, lt, n, all)) ∙ s.blocks k b (omega (arith, lt, all)) h;
    entries = λ n.
        let at : successors (rows ++ row ∷ []) (length keys) ≡ row.items = ap (successors (rows ++ row ∷ [])) (all ∙ sym s.len) ∙ row_put rows row in
        subst (λ (r : List ℕ). Contains r n ↔ ((b : Ptr BasicBlock) × (slice_get keys n ≡ Some b) × IsEntry c b)) (sym at) (entries n);
  })

-- the numbers of the entries among the first blocks
module _ {O B : Type 0} (c : Program O B) (blocks : List (Ptr BasicBlock)) where
  abbrev IsEntryNumber : ℕ → ℕ → Type 0
  IsEntryNumber k n = (k ≡ n) × (b : Ptr BasicBlock) × (slice_get blocks k ≡ Some b) × IsEntry c b

  pub entries_gathered : (row row' : List ℕ) (i : ℕ) (b : Ptr BasicBlock) → slice_get blocks i ≡ Some b → (is : Bool) → (is ≡ true) ↔ IsEntry c b → row' ≡ items_if is row i → Gathers IsEntryNumber row i → Gathers IsEntryNumber row' (i + 1)
  entries_gathered row row' i b here is says e s = gathered_if IsEntryNumber row row' i i is
      (λ h. (refl, b, here, says.0 h))
      (λ n h. (sym h.0, says.1 (subst (IsEntry c) (same_Some h.1 b (sym h.2 ∙ here)) h.3)))
      e s

  pub entries_all : (row : List ℕ) (i : ℕ) → length blocks ≤ i → Gathers IsEntryNumber row i → (n : ℕ) → Contains row n ↔ ((b : Ptr BasicBlock) × (slice_get blocks n ≡ Some b) × IsEntry c b)
  entries_all row i all s n =
      let g = gathered_all IsEntryNumber row i (λ k m h. let l = slice_get_within blocks k h.1 h.2 in omega (arith, l, all)) s n in (
        λ h. let r = g.0 (contains_lists row n h) in (r.1.1, ap (slice_get blocks) (sym r.1.0) ∙ r.1.2, r.1.3),
        λ h. lists_contains row n (g.1 (n, (refl, h.0, h.1, h.2))),
      )

-- the blocks that become unreached among the first ones
module _ (blocks : List (Ptr BasicBlock)) (fates : List Fate) where
  abbrev IsGoing : ℕ → Ptr BasicBlock → Type 0
  IsGoing k b = (slice_get blocks k ≡ Some b) × (slice_get fates k ≡ Some Unreached)

  pub going_gathered : (row row' : List (Ptr BasicBlock)) (i : ℕ) (b : Ptr BasicBlock) → slice_get blocks i ≡ Some b → (is : Bool) → (is ≡ true) ↔ (slice_get fates i ≡ Some Unreached) → row' ≡ items_if is row b
      → Gathers IsGoing row i → Gathers IsGoing row' (i + 1)
  going_gathered row row' i b here is says e s = gathered_if IsGoing row row' i b is (λ h. (here, says.0 h)) (λ x h. (same_Some x b (sym h.0 ∙ here), says.1 h.1)) e s

  pub going_once : (row row' : List (Ptr BasicBlock)) (i : ℕ) (b : Ptr BasicBlock) → slice_get blocks i ≡ Some b → (is : Bool) → row' ≡ items_if is row b → AreDistinct blocks
      → Gathers IsGoing row i → AreDistinct row → AreDistinct row'
  going_once row row' i b here is e once s now = distinct_if row row' b is e
      (λ l. let g = (s b).0 l in let lt = g.1 in let same = once g.0 i b g.2.0 here in omega (arith, lt, same))
      now

  pub going_all : (row : List (Ptr BasicBlock)) (i : ℕ) → length blocks ≤ i → Gathers IsGoing row i → (b : Ptr BasicBlock) → Lists row b ↔ ((k : ℕ) × (slice_get blocks k ≡ Some b) × (slice_get fates k ≡ Some Unreached))
  going_all row i all s b =
      let g = gathered_all IsGoing row i (λ k x h. let l = slice_get_within blocks k x h.0 in omega (arith, l, all)) s b in
      (λ l. let r = g.0 l in (r.0, r.1.0, r.1.1), λ h. g.1 (h.0, (h.1, h.2)))
