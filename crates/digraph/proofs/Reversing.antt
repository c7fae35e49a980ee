-- Edges turned round, one after the other.
use Rattle.std.proofs.Common.{◌≡◌, ◌⊎◌, inl, inr, ⊎_elim, ℕ, zero, suc, ◌+◌, ◌<◌, ◌≤◌, List, [], ◌∷◌, ◌++◌, take, length, get_or, refl, sym, ap, ◌∙◌, subst, arith}
use Rattle.std.proofs.Math.ListN.{set}
use Rattle.std.specs.Prelude.{Contains}
use Rattle.std.specs.declared.vec.Vec.{Vec}
use Rattle.std.specs.declared.alloc.Global.{Global}
use Rattle.std.proofs.lemmas.List.{length-append, length-set, take_more}
use Rattle.std.proofs.lemmas.List.Elements.{Contains-push, Contains-push_cases, Contains-append_left, Contains-append_right, Contains-append_cases}
use Rattle.digraph.specs.Graph.{successors}
use Rattle.digraph.specs.Transpose.{AreTransposed, IsEmptyRows, AddsSource}
use Rattle.digraph.proofs.Marking.{only_one}

-- a row that is written is there, and the others stay
row_there : (r : List (Vec ℕ Global)) (s : ℕ) (row : Vec ℕ Global) → s < length r → successors (set r s row) s ≡ row.items
row_there [] s row h = absurd (omega arith)
row_there (x ∷ r) zero row h = refl
row_there (x ∷ r) (suc s) row h = row_there r s row (omega arith)

row_cases : (r : List (Vec ℕ Global)) (s : ℕ) (row : Vec ℕ Global) (b : ℕ) → (b ≡ s) ⊎ (successors (set r s row) b ≡ successors r b)
row_cases [] s row b = inr refl
row_cases (x ∷ r) zero row zero = inl refl
row_cases (x ∷ r) zero row (suc b) = inr refl
row_cases (x ∷ r) (suc s) row zero = inr refl
row_cases (x ∷ r) (suc s) row (suc b) = ⊎_elim (λ e. inl (ap suc e)) (λ e. inr e) (row_cases r s row b)

pub no_row : (q : List (Vec ℕ Global)) → q ≡ [] → IsEmptyRows q 0
no_row q e = subst (λ xs. IsEmptyRows xs 0) (sym e) (record { len = refl; none = λ n. refl })

-- one more row with nothing in it
pub empty_row_more : (r q : List (Vec ℕ Global)) (row : Vec ℕ Global) (i : ℕ) → q ≡ r ++ row ∷ [] → row.items ≡ [] → IsEmptyRows r i → IsEmptyRows q (i + 1)
empty_row_more r q row i e h s = record {
  len = ap length e ∙ length-append r (row ∷ []) ∙ ap (λ k. k + 1) s.len;
  none = λ n. ap (λ xs. successors xs n) e ∙ go r n s.none;
}
  where
    go : (r : List (Vec ℕ Global)) (n : ℕ) → ((k : ℕ) → successors r k ≡ []) → successors (r ++ row ∷ []) n ≡ []
    go [] zero f = h
    go [] (suc n) f = refl
    go (x ∷ r) zero f = f 0
    go (x ∷ r) (suc n) f = go r n (λ k. f (suc k))

pub no_source : (r : List (Vec ℕ Global)) (node : ℕ) → AddsSource r r node []
no_source r node = record { len = refl; has = λ b h. absurd (omega (arith, h.1)); keeps = λ a b h. h; only = λ a b h. inl h }

one_source : (r : List (Vec ℕ Global)) (s node : ℕ) (row : Vec ℕ Global) → s < length r → row.items ≡ successors r s ++ node ∷ [] → AddsSource r (set r s row) node (s ∷ [])
one_source r s node row h e = record {
  len = length-set r s row;
  has = λ b c. subst (λ k. Contains (successors (set r s row) k) node) (sym (only_one s b c)) (subst (λ xs. Contains xs node) (sym there) (Contains-push (successors r s) node));
  keeps = λ a b c. ⊎_elim
      (λ q. subst (λ k. Contains (successors (set r s row) k) a) (sym q) (subst (λ xs. Contains xs a) (sym there) (Contains-append_left (successors r s) (node ∷ []) a (subst (λ k. Contains (successors r k) a) q c))))
      (λ q. subst (λ xs. Contains xs a) (sym q) c)
      (row_cases r s row b);
  only = λ a b c. ⊎_elim
      (λ q. ⊎_elim
      (λ d. inl (subst (λ k. Contains (successors r k) a) (sym q) d))
      (λ d. inr (sym d, subst (λ k. Contains (s ∷ []) k) (sym q) (0, omega arith, refl)))
      (Contains-push_cases (successors r s) node a (subst (λ xs. Contains xs a) there (subst (λ k. Contains (successors (set r s row) k) a) q c))))
      (λ q. inl (subst (λ xs. Contains xs a) q c))
      (row_cases r s row b);
}
  where
    there : successors (set r s row) s ≡ successors r s ++ node ∷ []
    there = row_there r s row h ∙ e

sources_on : (a b c : List (Vec ℕ Global)) (node : ℕ) (xs ys : List ℕ) → AddsSource a b node xs → AddsSource b c node ys → AddsSource a c node (xs ++ ys)
sources_on a b c node xs ys p q = record {
  len = q.len ∙ p.len;
  has = λ k h. ⊎_elim (λ l. q.keeps node k (p.has k l)) (λ l. q.has k l) (Contains-append_cases xs ys k h);
  keeps = λ k l h. q.keeps k l (p.keeps k l h);
  only = λ k l h. ⊎_elim
      (λ m. ⊎_elim (λ n. inl n) (λ n. inr (n.0, Contains-append_left xs ys l n.1)) (p.only k l m))
      (λ m. inr (m.0, Contains-append_right xs ys l m.1))
      (q.only k l h);
}

pub source_next : (a b c : List (Vec ℕ Global)) (node : ℕ) (row : List ℕ) (i s : ℕ) (new : Vec ℕ Global) → i < length row → s ≡ get_or row i s → s < length b → new.items ≡ successors b s ++ node ∷ [] → c ≡ set b s new
    → AddsSource a b node (take i row) → AddsSource a c node (take (i + 1) row)
source_next a b c node row i s new h e l n q p = subst (λ xs. AddsSource a c node xs) (sym (take_more row i s h ∙ ap (λ x. take i row ++ x ∷ []) (sym e)))
    (sources_on a b c node (take i row) (s ∷ []) p (subst (λ r. AddsSource b r node (s ∷ [])) (sym q) (one_source b s node new l n)))

-- the edges from the first i nodes are turned round
pub record Turned (g r : List (Vec ℕ Global)) (i : ℕ) : Type 0 where
  pub len : length r ≡ length g
  pub there : (a b : ℕ) → a < i → Contains (successors g a) b → Contains (successors r b) a
  pub back : (a b : ℕ) → Contains (successors r b) a → (a < i) × Contains (successors g a) b

pub turning_begins : (g r : List (Vec ℕ Global)) → IsEmptyRows r (length g) → Turned g r 0
turning_begins g r e = record {
  len = e.len;
  there = λ a b h c. absurd (omega (arith, h));
  back = λ a b c. absurd (none (subst (λ xs. Contains xs a) (e.none b) c));
}
  where
    none : {a : ℕ} → Contains [] a → ⊥
    none h = absurd (omega (arith, h.1))

pub turning_goes_on : (g a b : List (Vec ℕ Global)) (i : ℕ) → Turned g a i → AddsSource a b i (successors g i) → Turned g b (i + 1)
turning_goes_on g a b i t s = record {
  len = s.len ∙ t.len;
  there = λ k l h c. ⊎_elim (λ m. s.keeps k l (t.there k l m c)) (λ e. subst (λ n. Contains (successors b l) n) (sym e) (s.has l (subst (λ n. Contains (successors g n) l) e c))) (below_or i k h);
  back = λ k l c. ⊎_elim
      (λ m. let q = t.back k l m in (omega (arith, q.0), q.1))
      (λ m. (omega (arith, m.0), subst (λ n. Contains (successors g n) l) (sym m.0) m.1))
      (s.only k l c);
}
  where
    below_or : (i k : ℕ) → k < i + 1 → (k < i) ⊎ (k ≡ i)
    below_or zero zero h = inr refl
    below_or zero (suc k) h = absurd (omega (arith, h))
    below_or (suc i) zero h = inl (omega arith)
    below_or (suc i) (suc k) h = ⊎_elim (λ l. inl (omega (arith, l))) (λ e. inr (ap suc e)) (below_or i k (omega (arith, h)))

source_in : (g : List (Vec ℕ Global)) (n m : ℕ) → Contains (successors g n) m → n < length g
source_in [] n m h = absurd (omega (arith, h.1))
source_in (x ∷ g) zero m h = omega arith
source_in (x ∷ g) (suc n) m h = let q = source_in g n m h in omega (arith, q)

pub turning_ends : (g r : List (Vec ℕ Global)) (i : ℕ) → length g ≤ i → Turned g r i → AreTransposed g r
turning_ends g r i h t = record {
  len = t.len;
  there = λ a b c. t.there a b (let q = source_in g a b c in omega (arith, q, h)) c;
  back = λ a b c. (t.back a b c).1;
}
