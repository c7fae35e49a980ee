-- Counting how often numbers are in rows.
use Rattle.std.proofs.Common.{◌≡◌, ◌⊎◌, ⊎_elim, ℕ, zero, suc, ◌+◌, ◌<◌, ◌≤◌, List, [], ◌∷◌, ◌++◌, take, drop, Bool, true, false, length, get_or, map, refl, sym, ap, ◌∙◌, subst, arith, eq-eqb}
use Rattle.std.proofs.Math.ListN.{set}
use Rattle.std.proofs.lemmas.List.{length-set, take_more, take-append-drop}
use Rattle.std.proofs.lemmas.Option.{slice_get_read, get_or_from_slice_get}
use Rattle.digraph.specs.Counts.{one, count_of}
use Rattle.opt_rows.specs.Rows.{row_at}
use Rattle.opt_rows.specs.DeadCandidates.{Candidate, may_go_of}
use Rattle.opt_rows.specs.declared.dead_problem.Argument.{Argument}
use Rattle.opt_rows.specs.declared.dead_problem.DeadProblem.{DeadProblem}
use Rattle.opt_solvers.specs.DeadUses.{held, held_operation, held_argument, first_uses, kept_by, CountsItems}
use Rattle.opt_steps.proofs.DeadReleasing.{read_set, count_more, count_take}

pub read_any : (xs : List ℕ) (i x : ℕ) → i < length xs → x ≡ get_or xs i x → x ≡ get_or xs i 0
read_any xs i x h e = sym (get_or_from_slice_get xs i x 0 (slice_get_read xs (length xs) i x refl h e))

pub counting_begins : (old : List ℕ) → CountsItems (λ x. count_of x []) old old
counting_begins old = record { len = refl; counts = λ x. omega arith }

pub item_counted : (old a b items : List ℕ) (i x : ℕ) → i < length items → x ≡ get_or items i x → x < length a → b ≡ set a x (get_or a x 0 + 1) → CountsItems (λ y. count_of y (take i items)) old a → CountsItems (λ y. count_of y (take (i + 1) items)) old b
item_counted old a b items i x h e l q s = subst (CountsItems (λ y. count_of y (take (i + 1) items)) old) (sym q) (record {
  len = length-set a x (get_or a x 0 + 1) ∙ s.len;
  counts = λ y. let m = count_more y items i x h e in let c = s.counts y in ⊎_elim
      (λ (t, u, v). let w = ap (λ k. get_or a k 0) t in omega (arith, m, c, u, v, w))
      (λ (u, v). omega (arith, m, c, u, v))
      (read_set a x (get_or a x 0 + 1) y l);
})

-- one use more of an item still fits
pub item_fits : (limit : ℕ) (old a items : List ℕ) (i x : ℕ) → i < length items → x ≡ get_or items i x → get_or old x 0 + count_of x items < limit → CountsItems (λ y. count_of y (take i items)) old a → get_or a x 0 + 1 < limit
item_fits limit old a items i x h e f s =
    let m = count_more x items i x h e in let c = s.counts x in let t = count_take x (i + 1) items in let o = ap one (eq-eqb x x refl) in
    omega (arith, m, c, t, o, f)

kept-append : (x : ℕ) (ps qs : List (List ℕ)) → kept_by (ps ++ qs) x ≡ kept_by ps x + kept_by qs x
kept-append x [] qs = omega arith
kept-append x (p ∷ ps) qs = omega (arith, kept-append x ps qs)

kept_take : (x i : ℕ) (rows : List (List ℕ)) → kept_by (take i rows) x ≤ kept_by rows x
kept_take x i rows = let a = ap (λ rs. kept_by rs x) (take-append-drop i rows) in let b = kept-append x (take i rows) (drop i rows) in omega (arith, a, b)

kept_more : (x : ℕ) (rows : List (List ℕ)) (i : ℕ) (row : List ℕ) → i < length rows → row ≡ get_or rows i row → kept_by (take (i + 1) rows) x ≡ kept_by (take i rows) x + count_of x row
kept_more x rows i row h e = let a = ap (λ rs. kept_by rs x) (take_more rows i row h ∙ ap (λ z. take i rows ++ z ∷ []) (sym e)) in let b = kept-append x (take i rows) (row ∷ []) in omega (arith, a, b)

pub row_counted : (old a b : List ℕ) (rows : List (List ℕ)) (i : ℕ) (row : List ℕ) → i < length rows → row ≡ get_or rows i row → CountsItems (kept_by (take i rows)) old a → CountsItems (λ x. count_of x row) a b → CountsItems (kept_by (take (i + 1) rows)) old b
row_counted old a b rows i row h e s t = record {
  len = t.len ∙ s.len;
  counts = λ x. let m = kept_more x rows i row h e in let c = s.counts x in let d = t.counts x in omega (arith, m, c, d);
}

pub row_fits : (limit : ℕ) (old a : List ℕ) (rows : List (List ℕ)) (i : ℕ) (row : List ℕ) → i < length rows → row ≡ get_or rows i row → ((x : ℕ) → get_or old x 0 + kept_by rows x < limit) → CountsItems (kept_by (take i rows)) old a → (x : ℕ) → get_or a x 0 + count_of x row < limit
row_fits limit old a rows i row h e f s x =
    let m = kept_more x rows i row h e in let c = s.counts x in let t = kept_take x (i + 1) rows in let l = f x in omega (arith, m, c, t, l)

-- rows that have each number once keep none more often than there are rows
pub kept_most : (rows : List (List ℕ)) (x : ℕ) → ((k : ℕ) → count_of x (row_at rows k) ≤ 1) → kept_by rows x ≤ length rows
kept_most [] x f = omega arith
kept_most (row ∷ rows) x f = let a = f 0 in let b = kept_most rows x (λ k. f (suc k)) in omega (arith, a, b)

held_most : (b : Bool) → held b ≤ 1
held_most true = omega arith
held_most false = omega arith

arguments_most : (vs : List Argument) (x : ℕ) → get_or (map held_argument vs) x 0 ≤ 1
arguments_most [] x = omega arith
arguments_most (v ∷ vs) zero = held_most v.may_go
arguments_most (v ∷ vs) (suc x) = arguments_most vs x

first_most : (cs : List Candidate) (vs : List Argument) (x : ℕ) → get_or (map held_operation cs ++ map held_argument vs) x 0 ≤ 1
first_most [] vs x = arguments_most vs x
first_most (c ∷ cs) vs zero = held_most c.may_go
first_most (c ∷ cs) vs (suc x) = first_most cs vs x

pub uses_fit : (p : DeadProblem) (limit : ℕ) (rows : List (List ℕ)) → length rows + 1 < limit → ((k x : ℕ) → count_of x (row_at rows k) ≤ 1) → (x : ℕ) → get_or (first_uses p) x 0 + kept_by rows x < limit
uses_fit p limit rows h f x = let a = kept_most rows x (λ k. f k x) in let b = first_most p.operations p.arguments.items x in omega (arith, a, b, h)

-- what keeps each operation, by whether it may go
pub held_once : (cs : List Candidate) → map held (map may_go_of cs) ≡ map held_operation cs
held_once [] = refl
held_once (c ∷ cs) = ap (λ (ns : List ℕ). held c.may_go ∷ ns) (held_once cs)
