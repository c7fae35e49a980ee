-- Operations in lists, one for each kind of thing.
use Rattle.std.proofs.Common.{◌≡◌, ◌⊎◌, inl, inr, ⊎_elim, ℕ, zero, suc, ◌+◌, ◌-◌, ◌<◌, ◌≤◌, List, [], ◌∷◌, ◌++◌, Some, take, drop, length, get_or, refl, sym, ap, ◌∙◌, subst, arith}
use Rattle.std.specs.Prelude.{Contains, slice_get, unwrap_or}
use Rattle.std.proofs.lemmas.List.{length-append, length-drop, length-take-le}
use Rattle.std.proofs.lemmas.Option.{get_or_from_slice_get}
use Rattle.opt_rows.specs.Rows.{rows_from, AreEnds, row_at, listed, start_from}
use Rattle.opt_rows.specs.OperationRows.{BranchEdge, Row, no_edge, no_row, edge_numbered, row_numbered, numbered, edge_in}
use Rattle.opt_rows.specs.declared.facts_problem.Role.TheVariants.{Other}
use Rattle.opt_rows.specs.declared.operation_rows.Columns.{Columns}
use Rattle.opt_rows.specs.OperationColumns.{edges_of, row_in, rows_in, AreInStep, GainRow, AreEmpty}
use Rattle.opt_rows.proofs.Rows.{as_many, row_inside, row_is, row_more, ends_more}

below_or_last : (i n : ℕ) → i < suc n → (i < n) ⊎ (i ≡ n)
below_or_last zero zero h = inr refl
below_or_last zero (suc n) h = inl (omega arith)
below_or_last (suc i) zero h = absurd (omega (arith, h))
below_or_last (suc i) (suc n) h = ⊎_elim (λ l. inl (omega (arith, l))) (λ e. inr (ap suc e)) (below_or_last i n (omega (arith, h)))

module _ {X : Type 0} where
  pub numbered_len : (f : ℕ → X) (n : ℕ) → length (numbered f n) ≡ n
  numbered_len f zero = refl
  numbered_len f (suc n) = let r = numbered_len f n in let a = length-append (numbered f n) (f n ∷ []) in omega (arith, r, a)

  pub push_before : (xs : List X) (y : X) (i : ℕ) → i < length xs → slice_get (xs ++ y ∷ []) i ≡ slice_get xs i
  push_before [] y i h = absurd (omega (arith, h))
  push_before (x ∷ xs) y zero h = refl
  push_before (x ∷ xs) y (suc i) h = push_before xs y i (omega (arith, h))

  pub push_last : (xs : List X) (y : X) (n : ℕ) → n ≡ length xs → slice_get (xs ++ y ∷ []) n ≡ Some y
  push_last [] y zero h = refl
  push_last [] y (suc n) h = absurd (omega (arith, h))
  push_last (x ∷ xs) y zero h = absurd (omega (arith, h))
  push_last (x ∷ xs) y (suc n) h = push_last xs y n (omega (arith, h))

  pub numbered_at : (f : ℕ → X) (n i : ℕ) → i < n → slice_get (numbered f n) i ≡ Some (f i)
  numbered_at f zero i h = absurd (omega (arith, h))
  numbered_at f (suc n) i h = ⊎_elim
      (λ l. push_before (numbered f n) (f n) i (let m = numbered_len f n in omega (arith, l, m)) ∙ numbered_at f n i l)
      (λ e. subst (λ j. slice_get (numbered f n ++ f n ∷ []) j ≡ Some (f j)) (sym e) (push_last (numbered f n) (f n) n (sym (numbered_len f n))))
      (below_or_last i n h)

  -- what is numbered the same as far as a number
  pub numbered_same : (f g : ℕ → X) (n : ℕ) → ((i : ℕ) → i < n → f i ≡ g i) → numbered f n ≡ numbered g n
  numbered_same f g zero h = refl
  numbered_same f g (suc n) h =
      ap (λ (xs : List X). xs ++ f n ∷ []) (numbered_same f g n (λ i l. h i (omega (arith, l)))) ∙ ap (λ (x : X). numbered g n ++ x ∷ []) (h n (omega arith))

  -- one more is numbered
  pub numbered_more : (f g : ℕ → X) (n m : ℕ) (x : X) → m ≡ n + 1 → ((i : ℕ) → i < n → f i ≡ g i) → f n ≡ x → numbered f m ≡ numbered g n ++ x ∷ []
  numbered_more f g n m x e h l =
      let s : m ≡ suc n = omega (arith, e) in
      ap (numbered f) s ∙ (ap (λ (xs : List X). xs ++ f n ∷ []) (numbered_same f g n h) ∙ ap (λ (y : X). numbered g n ++ y ∷ []) l)

  -- one more of a list
  pub take_one_more : (xs : List X) (i : ℕ) (d : X) → i < length xs → take (i + 1) xs ≡ take i xs ++ unwrap_or (slice_get xs i) d ∷ []
  take_one_more [] i d h = absurd (omega (arith, h))
  take_one_more (x ∷ xs) zero d h = refl
  take_one_more (x ∷ xs) (suc i) d h = let e : suc i + 1 ≡ suc (i + 1) = omega arith in ap (λ (n : ℕ). take n (x ∷ xs)) e ∙ ap (λ (ys : List X). x ∷ ys) (take_one_more xs i d (omega (arith, h)))

  get_front : (n i : ℕ) (xs : List X) → i < n → slice_get (take n xs) i ≡ slice_get xs i
  get_front zero i xs h = absurd (omega (arith, h))
  get_front (suc n) i [] h = refl
  get_front (suc n) zero (x ∷ xs) h = refl
  get_front (suc n) (suc i) (x ∷ xs) h = get_front n i xs (omega (arith, h))

  get_behind : (n i : ℕ) (xs : List X) → slice_get (drop n xs) i ≡ slice_get xs (n + i)
  get_behind zero i xs = let e : i ≡ 0 + i = omega arith in ap (slice_get xs) e
  get_behind (suc n) i [] = refl
  get_behind (suc n) i (x ∷ xs) = let e : suc (n + i) ≡ suc n + i = omega arith in get_behind n i xs ∙ ap (slice_get (x ∷ xs)) e

  pub row_length : (es : List ℕ) (ns : List X) (k : ℕ) → AreEnds 0 es (length ns) → k < length es → length (row_at (rows_from 0 es ns) k) ≡ get_or es k 0 - start_from 0 es k
  row_length es ns k a h =
      let r = row_inside 0 es (length ns) k h a in let d = length-drop (start_from 0 es k) ns in let b = r.1 in let c = r.2 in
      ap (λ (xs : List X). length xs) (row_is 0 es ns k h) ∙ length-take-le (get_or es k 0 - start_from 0 es k) (drop (start_from 0 es k) ns) (omega (arith, b, c, d))

  -- an entry of a row among all
  pub entry_at : (es : List ℕ) (ns : List X) (k i : ℕ) → AreEnds 0 es (length ns) → k < length es → i < length (row_at (rows_from 0 es ns) k)
      → (start_from 0 es k + i < length ns) × (slice_get (row_at (rows_from 0 es ns) k) i ≡ slice_get ns (start_from 0 es k + i))
  entry_at es ns k i a h l =
      let m = row_length es ns k a h in let r = row_inside 0 es (length ns) k h a in let b = r.1 in let c = r.2 in (
        omega (arith, m, l, b, c),
        ap (λ (xs : List X). slice_get xs i) (row_is 0 es ns k h)
            ∙ (get_front (get_or es k 0 - start_from 0 es k) i (drop (start_from 0 es k) ns) (omega (arith, m, l)) ∙ get_behind (start_from 0 es k) i ns),
      )

-- ---- edges

same_edge : (us ts : List ℕ) (gs fs : List (List ℕ)) (i : ℕ) → slice_get us i ≡ slice_get ts i → slice_get gs i ≡ slice_get fs i → edge_in us gs i ≡ edge_in ts fs i
same_edge us ts gs fs i a b = λ j. record { target = unwrap_or (a j) 0; forwards = listed (b j) }

that_edge : (us : List ℕ) (gs : List (List ℕ)) (i t : ℕ) (f : List ℕ) → slice_get us i ≡ Some t → slice_get gs i ≡ Some f → edge_in us gs i ≡ record { target = t; forwards = f }
that_edge us gs i t f a b = λ j. record { target = unwrap_or (a j) 0; forwards = listed (b j) }

pub edge_more : (ts us : List ℕ) (fs gs : List (List ℕ)) (t : ℕ) (f : List ℕ) → length fs ≡ length ts → us ≡ ts ++ t ∷ [] → gs ≡ fs ++ f ∷ []
    → numbered (edge_in us gs) (length us) ≡ numbered (edge_in ts fs) (length ts) ++ (record { target = t; forwards = f }) ∷ []
edge_more ts us fs gs t f l u g = numbered_more (edge_in us gs) (edge_in ts fs) (length ts) (length us) (record { target = t; forwards = f })
    (ap length u ∙ length-append ts (t ∷ []))
    (λ i h. same_edge us ts gs fs i
    (ap (λ (xs : List ℕ). slice_get xs i) u ∙ push_before ts t i h)
    (ap (λ (xs : List (List ℕ)). slice_get xs i) g ∙ push_before fs f i (omega (arith, h, l))))
    (that_edge us gs (length ts) t f
    (ap (λ (xs : List ℕ). slice_get xs (length ts)) u ∙ push_last ts t (length ts) refl)
    (ap (λ (xs : List (List ℕ)). slice_get xs (length ts)) g ∙ push_last fs f (length ts) (sym l)))

pub edge_at : (es : List BranchEdge) (ts : List ℕ) (fs : List (List ℕ)) (i : ℕ) → numbered (edge_in ts fs) (length ts) ≡ es → i < length es → (i < length ts) × (edge_numbered es i ≡ edge_in ts fs i)
edge_at es ts fs i v h =
    let n = numbered_len (edge_in ts fs) (length ts) in let l = ap (λ (xs : List BranchEdge). length xs) v in
    let k : i < length ts = omega (arith, n, l, h) in
    (k, ap (λ (xs : List BranchEdge). edge_numbered xs i) (sym v) ∙ ap (λ o. unwrap_or o no_edge) (numbered_at (edge_in ts fs) (length ts) i k))

-- ---- operations

pub row_stands : (rows : List Row) (c : Columns) (i : ℕ) → rows_in c ≡ rows → i < length rows → (i < length c.blocks.items) × (row_numbered rows i ≡ row_in c i)
row_stands rows c i v h =
    let n = numbered_len (row_in c) (length c.blocks.items) in let l = ap (λ (rs : List Row). length rs) v in
    let k : i < length c.blocks.items = omega (arith, n, l, h) in
    (k, ap (λ (rs : List Row). row_numbered rs i) (sym v) ∙ ap (λ o. unwrap_or o no_row) (numbered_at (row_in c) (length c.blocks.items) i k))

pub ends_there : (rows : List Row) (c : Columns) (i : ℕ) (ends : List ℕ) → rows_in c ≡ rows → AreInStep c → i < length rows → ends ≡ c.edge_ends.items → i < length ends
ends_there rows c i ends v a h d = let r = row_stands rows c i v h in let b = r.0 in let m = a.edge_ends in let l = ap (λ (xs : List ℕ). length xs) d in omega (arith, b, m, l)

-- how many edges an operation has
pub count_is : (rows : List Row) (c : Columns) (i start : ℕ) (ends : List ℕ) → rows_in c ≡ rows → AreInStep c → i < length rows → ends ≡ c.edge_ends.items → start ≡ start_from 0 ends i
    → (start ≤ get_or ends i 0) × (get_or ends i 0 - start ≡ length (row_numbered rows i).edges)
count_is rows c i start ends v a h d s =
    let k = ends_there rows c i c.edge_ends.items v a h refl in
    let t : start ≡ start_from 0 c.edge_ends.items i = s ∙ ap (λ (xs : List ℕ). start_from 0 xs i) d in
    let e = ap (λ (xs : List ℕ). get_or xs i 0) d in
    let n = row_inside 0 c.edge_ends.items (length c.edges) i k a.edges in
    let l = row_length c.edge_ends.items c.edges i a.edges k in
    let r = ap (λ (x : Row). length x.edges) (row_stands rows c i v h).1 in
    (let b = n.1 in omega (arith, t, e, b), omega (arith, t, e, l, r))

-- where the edge of an operation stands among all
pub record EdgeStands (rows : List Row) (c : Columns) (i n start : ℕ) : Type 0 where
  pub inside : start + n < length c.edges
  pub is : edge_numbered (row_numbered rows i).edges n ≡ edge_numbered c.edges (start + n)

pub edge_stands : (rows : List Row) (c : Columns) (i n start : ℕ) (ends : List ℕ) → rows_in c ≡ rows → AreInStep c → i < length rows → n < length (row_numbered rows i).edges → ends ≡ c.edge_ends.items → start ≡ start_from 0 ends i
    → EdgeStands rows c i n start
edge_stands rows c i n start ends v a h l d s =
    let r = row_stands rows c i v h in
    let k : i < length c.edge_ends.items = (let b = r.0 in let m = a.edge_ends in omega (arith, b, m)) in
    let e = entry_at c.edge_ends.items c.edges i n a.edges k (subst (λ (x : Row). n < length x.edges) r.1 l) in
    let t : start ≡ start_from 0 c.edge_ends.items i = s ∙ ap (λ (xs : List ℕ). start_from 0 xs i) d in
    record {
      inside = let b = e.0 in omega (arith, b, t);
      is = ap (λ (x : Row). edge_numbered x.edges n) r.1 ∙ (ap (λ o. unwrap_or o no_edge) e.1 ∙ ap (λ (j : ℕ). edge_numbered c.edges (j + n)) (sym t));
    }

same_row : (c d : Columns) (i : ℕ) → slice_get c.blocks.items i ≡ slice_get d.blocks.items i → slice_get c.roles.items i ≡ slice_get d.roles.items i → slice_get c.operands i ≡ slice_get d.operands i → slice_get c.results i ≡ slice_get d.results i
    → slice_get (edges_of c) i ≡ slice_get (edges_of d) i → slice_get c.entries i ≡ slice_get d.entries i → row_in c i ≡ row_in d i
same_row c d i b r o x e n = λ j. record { block = unwrap_or (b j) 0; role = unwrap_or (r j) Other; operands = listed (o j); results = listed (x j); edges = listed (e j); entries = listed (n j) }

that_row : (c : Columns) (i : ℕ) (row : Row) → slice_get c.blocks.items i ≡ Some row.block → slice_get c.roles.items i ≡ Some row.role → slice_get c.operands i ≡ Some row.operands → slice_get c.results i ≡ Some row.results
    → slice_get (edges_of c) i ≡ Some row.edges → slice_get c.entries i ≡ Some row.entries → row_in c i ≡ row
that_row c i row b r o x e n = λ j. record { block = unwrap_or (b j) 0; role = unwrap_or (r j) Other; operands = listed (o j); results = listed (x j); edges = listed (e j); entries = listed (n j) }

module _ (c d : Columns) (row : Row) (a : AreInStep c) (g : GainRow c d row) where
  more_edges : length d.edges ≡ length c.edges + length row.edges
  more_edges = ap (λ (es : List BranchEdge). length es) g.edges ∙ length-append c.edges row.edges

  edges_gain : edges_of d ≡ edges_of c ++ row.edges ∷ []
  edges_gain =
      ap (λ (xs : List ℕ). rows_from 0 xs d.edges) g.edge_ends ∙ (ap (rows_from 0 (c.edge_ends.items ++ length d.edges ∷ [])) g.edges
      ∙ row_more 0 c.edge_ends.items c.edges row.edges (length d.edges) more_edges a.edges)

  gained : {X : Type 0} (xs ys : List X) (x : X) → ys ≡ xs ++ x ∷ [] → length ys ≡ length xs + 1
  gained xs ys x e = ap (λ zs. length zs) e ∙ length-append xs (x ∷ [])

  pub in_step_more : AreInStep d
  in_step_more =
      let b = gained c.blocks.items d.blocks.items row.block g.blocks in
      record {
        roles = let n = gained c.roles.items d.roles.items row.role g.roles in let m = a.roles in omega (arith, b, n, m);
        operands = let n = gained c.operands d.operands row.operands g.operands in let m = a.operands in omega (arith, b, n, m);
        results = let n = gained c.results d.results row.results g.results in let m = a.results in omega (arith, b, n, m);
        entries = let n = gained c.entries d.entries row.entries g.entries in let m = a.entries in omega (arith, b, n, m);
        edge_ends = let n = gained c.edge_ends.items d.edge_ends.items (length d.edges) g.edge_ends in let m = a.edge_ends in omega (arith, b, n, m);
        edges = subst (λ (xs : List ℕ). AreEnds 0 xs (length d.edges)) (sym g.edge_ends) (ends_more 0 c.edge_ends.items (length c.edges) (length d.edges) (let m = more_edges in omega (arith, m)) a.edges);
        countable = g.countable;
      }

  before : {X : Type 0} (xs ys : List X) (x : X) (i : ℕ) → ys ≡ xs ++ x ∷ [] → i < length xs → slice_get ys i ≡ slice_get xs i
  before xs ys x i e h = ap (λ zs. slice_get zs i) e ∙ push_before xs x i h

  last : {X : Type 0} (xs ys : List X) (x : X) (i : ℕ) → ys ≡ xs ++ x ∷ [] → i ≡ length xs → slice_get ys i ≡ Some x
  last xs ys x i e h = ap (λ zs. slice_get zs i) e ∙ push_last xs x i h

  many_edges : length (edges_of c) ≡ length c.blocks.items
  many_edges = as_many 0 c.edge_ends.items c.edges ∙ a.edge_ends

  pub rows_more : rows_in d ≡ rows_in c ++ row ∷ []
  rows_more = numbered_more (row_in d) (row_in c) (length c.blocks.items) (length d.blocks.items) row (gained c.blocks.items d.blocks.items row.block g.blocks)
      (λ i h. same_row d c i
      (before c.blocks.items d.blocks.items row.block i g.blocks h)
      (before c.roles.items d.roles.items row.role i g.roles (let m = a.roles in omega (arith, h, m)))
      (before c.operands d.operands row.operands i g.operands (let m = a.operands in omega (arith, h, m)))
      (before c.results d.results row.results i g.results (let m = a.results in omega (arith, h, m)))
      (before (edges_of c) (edges_of d) row.edges i edges_gain (let m = many_edges in omega (arith, h, m)))
      (before c.entries d.entries row.entries i g.entries (let m = a.entries in omega (arith, h, m))))
      (that_row d (length c.blocks.items) row
      (last c.blocks.items d.blocks.items row.block (length c.blocks.items) g.blocks refl)
      (last c.roles.items d.roles.items row.role (length c.blocks.items) g.roles (sym a.roles))
      (last c.operands d.operands row.operands (length c.blocks.items) g.operands (sym a.operands))
      (last c.results d.results row.results (length c.blocks.items) g.results (sym a.results))
      (last (edges_of c) (edges_of d) row.edges (length c.blocks.items) edges_gain (sym many_edges))
      (last c.entries d.entries row.entries (length c.blocks.items) g.entries (sym a.entries)))

-- ---- what is read by its number

module _ {X : Type 0} where
  pub numbered_there : (xs : List X) (i : ℕ) (d : X) → i < length xs → slice_get xs i ≡ Some (unwrap_or (slice_get xs i) d)
  numbered_there [] i d h = absurd (omega (arith, h))
  numbered_there (x ∷ xs) zero d h = refl
  numbered_there (x ∷ xs) (suc i) d h = numbered_there xs i d (omega (arith, h))

  pub numbered_read : (xs : List X) (i : ℕ) (d : X) → i < length xs → unwrap_or (slice_get xs i) d ≡ get_or xs i (unwrap_or (slice_get xs i) d)
  numbered_read xs i d h = sym (get_or_from_slice_get xs i (unwrap_or (slice_get xs i) d) (unwrap_or (slice_get xs i) d) (numbered_there xs i d h))

pub row_there : (rows : List Row) (i : ℕ) → i < length rows → slice_get rows i ≡ Some (row_numbered rows i)
row_there rows i h = numbered_there rows i no_row h

pub row_read : (rows : List Row) (i : ℕ) → i < length rows → row_numbered rows i ≡ get_or rows i (row_numbered rows i)
row_read rows i h = numbered_read rows i no_row h

pub row_contained : (rows : List Row) (i : ℕ) → i < length rows → Contains rows (row_numbered rows i)
row_contained rows i h = (i, h, sym (row_read rows i h))

pub edge_there : (edges : List BranchEdge) (i : ℕ) → i < length edges → slice_get edges i ≡ Some (edge_numbered edges i)
edge_there edges i h = numbered_there edges i no_edge h

pub edge_contained : (edges : List BranchEdge) (i : ℕ) → i < length edges → Contains edges (edge_numbered edges i)
edge_contained edges i h = (i, h, sym (numbered_read edges i no_edge h))

-- nothing is said of any operation
pub in_step_none : (c : Columns) → AreEmpty c → AreInStep c
in_step_none c e =
    let b = ap length e.blocks in record {
      roles = let l = ap length e.roles in omega (arith, b, l);
      operands = let l = ap length e.operands in omega (arith, b, l);
      results = let l = ap length e.results in omega (arith, b, l);
      entries = let l = ap length e.entries in omega (arith, b, l);
      edge_ends = let l = ap length e.edge_ends in omega (arith, b, l);
      edges = subst (λ (es : List ℕ). AreEnds 0 es (length c.edges)) (sym e.edge_ends) (let l = ap length e.edges in omega (arith, l));
      countable = let l = ap length e.edges in omega (arith, l);
    }

pub rows_none : (c : Columns) → AreEmpty c → rows_in c ≡ []
rows_none c e = ap (λ (xs : List ℕ). numbered (row_in c) (length xs)) e.blocks
