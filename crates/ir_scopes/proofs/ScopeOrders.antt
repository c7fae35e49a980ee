-- Sites in the order of their scopes.
use Rattle.std.proofs.Common.{◌≡◌, ℕ, ◌+◌, ◌<◌, Bool, true, false, List, [], ◌∷◌, ◌++◌, length, Some, nat_eq, slice_get, get_or, refl, sym, subst, ap, ◌∙◌, arith, ◌⊎◌, inl, inr}
use Rattle.std.specs.List.{Contains, IsDistinct}
use Rattle.std.specs.List.Sorted.{IsPermutation, IsSorted}
use Rattle.std.specs.Ordering.{is_lt, nat_cmp, ordering_then, MatchOrdering}
use Rattle.std.specs.declared.cmp.Ordering.{Ordering}
use Rattle.std.specs.declared.cmp.Ordering.TheVariants.{Less, Equal, Greater}
use Rattle.std.specs.Cmp.{IsTotalOrder}
use Rattle.std.proofs.lemmas.Cmp.{ranked, nat_cmp_total, on_total, then_total, nat_eq_equiv}
use Rattle.std.proofs.lemmas.Bool.{cases_order, cases_eq, eq-eqb}
use Rattle.std.proofs.lemmas.Bool.Decides.{nat_tests}
use Rattle.std.proofs.lemmas.List.Sorted.{IsPermutation-sym, Contains-permutation, sorted_far, ranks_by}
use Rattle.std.proofs.lemmas.Map.Keys.{IsDistinct-from_apart, IsDistinct-IsPermutation, apart_from_distinct}
use Rattle.std.proofs.lemmas.Option.{slice_get_within, slice_get-get_or, get_or_from_slice_get}
use Rattle.ir_scopes.specs.declared.sites.Site.{Site}
use Rattle.ir_scopes.specs.Scopes.{HaveDistinctTokens, SitesAreApart}
use Rattle.ir_scopes.specs.Orders.{AreNumberedSites, IsEarlierSite, IsScopeOrder}
use Rattle.ir_scopes.proofs.ListEnds.{get_more, get_last}

-- ---- where elements stand after they changed places

module _ {X : Type 0} where
  contains_at : (xs : List X) (i : ℕ) (x : X) → slice_get xs i ≡ Some x → Contains xs x
  contains_at xs i x h = (i, slice_get_within xs i x h, get_or_from_slice_get xs i x x h)

  at_contained : (xs : List X) (x : X) → Contains xs x → (i : ℕ) × (slice_get xs i ≡ Some x)
  at_contained xs x h = (h.0, slice_get-get_or xs h.0 x h.1 ∙ ap Some h.2)

  pub moved_to : (xs ys : List X) → IsPermutation xs ys → (i : ℕ) (x : X) → slice_get xs i ≡ Some x → (j : ℕ) × (slice_get ys j ≡ Some x)
  moved_to xs ys p i x h = at_contained ys x (Contains-permutation xs ys x p (contains_at xs i x h))

  pub moved_from : (xs ys : List X) → IsPermutation xs ys → (j : ℕ) (x : X) → slice_get ys j ≡ Some x → (i : ℕ) × (slice_get xs i ≡ Some x)
  moved_from xs ys p j x h = moved_to ys xs (IsPermutation-sym xs ys p) j x h

  -- elements that differ in a number do so in another order
  module _ (n : X → ℕ) where
    abbrev same : X → X → Bool
    same x y = nat_eq (n x) (n y)

    distinct : (xs : List X) → ((i j : ℕ) (x y : X) → slice_get xs i ≡ Some x → slice_get xs j ≡ Some y → n x ≡ n y → i ≡ j) → IsDistinct same xs
    distinct xs apart = IsDistinct-from_apart same xs (λ i j d lt within.
        let x = get_or xs i d in
        let y = get_or xs j d in
        let different : n x ≡ n y → i ≡ j = apart i j x y (slice_get-get_or xs i d (omega arith)) (slice_get-get_or xs j d within) in
        answer (same x y) refl different lt)
      where
        answer : {x y : X} {i j : ℕ} (b : Bool) → same x y ≡ b → (n x ≡ n y → i ≡ j) → i < j → same x y ≡ false
        answer false e h lt = e
        answer {x} {y} true e h lt = let is : n x ≡ n y = grind (arith, nat_tests) in let wrong = h is in absurd (omega arith)

    apart_at : (ys : List X) → IsDistinct same ys → (i j : ℕ) (x y : X) → i < j → slice_get ys i ≡ Some x → slice_get ys j ≡ Some y → n x ≡ n y → ⊥
    apart_at ys d i j x y lt a b e =
        let no : same (get_or ys i x) (get_or ys j x) ≡ false = apart_from_distinct same ys i j x d lt (slice_get_within ys j y b) in
        let no' : same x y ≡ false = subst (λ z. same x z ≡ false) (get_or_from_slice_get ys j y x b) (subst (λ z. same z (get_or ys j x) ≡ false) (get_or_from_slice_get ys i x x a) no) in
        let wrong : true ≡ false = sym (eq-eqb (n x) (n y) e) ∙ no' in cc

    pub still_apart : (xs ys : List X) → IsPermutation xs ys → ((i j : ℕ) (x y : X) → slice_get xs i ≡ Some x → slice_get xs j ≡ Some y → n x ≡ n y → i ≡ j)
        → (i j : ℕ) (x y : X) → i < j → slice_get ys i ≡ Some x → slice_get ys j ≡ Some y → n x ≡ n y → ⊥
    still_apart xs ys p apart = apart_at ys (IsDistinct-IsPermutation same (λ x y. nat_eq_equiv.symm (n x) (n y)) xs ys p (distinct xs apart))

pub still_distinct : (xs ys : List Site) → IsPermutation xs ys → HaveDistinctTokens xs → HaveDistinctTokens ys
still_distinct xs ys p apart i j s t a b e = go (cases_order i j)
  where
    no : (i j : ℕ) (x y : Site) → i < j → slice_get ys i ≡ Some x → slice_get ys j ≡ Some y → x.token ≡ y.token → ⊥
    no = still_apart (λ (x : Site). x.token) xs ys p apart

    go : (i ≡ j) ⊎ ((i < j) ⊎ (j < i)) → i ≡ j
    go (inl is) = is
    go (inr (inl lt)) = absurd (no i j s t lt a b e)
    go (inr (inr lt)) = absurd (no j i t s lt b a (sym e))

pub still_own : (ds xs ys : List Site) → IsPermutation xs ys → SitesAreApart ds xs → SitesAreApart ds ys
still_own ds xs ys p apart = record {
  definitions = apart.definitions;
  mentions = still_distinct xs ys p apart.mentions;
  both = λ i j s t a b e. (let from = moved_from xs ys p j t b in apart.both i from.0 s t a from.1 e);
}

-- ---- scopes and numbers

-- the order of pairs
abbrev pub pair_cmp : ℕ × ℕ → ℕ × ℕ → Ordering
pair_cmp x y = ordering_then (nat_cmp x.0 y.0) (nat_cmp x.1 y.1)

pair_total : IsTotalOrder pair_cmp
pair_total = then_total (on_total (λ (x : ℕ × ℕ). x.0) nat_cmp_total) (on_total (λ (x : ℕ × ℕ). x.1) nat_cmp_total)

-- a pair that isn't behind another, with another number, is before it
before : (x y : ℕ × ℕ) → is_lt (pair_cmp y x) ≡ false → (x.1 ≡ y.1 → ⊥) → IsEarlierSite x y
before x y rises different = go (nat_cmp y.0 x.0) (ranked y.0 x.0 (nat_cmp y.0 x.0) refl) (nat_cmp y.1 x.1) (ranked y.1 x.1 (nat_cmp y.1 x.1) refl) rises
  where
    go : (o : Ordering) → MatchOrdering o (y.0 < x.0) (y.0 ≡ x.0) (x.0 < y.0) → (p : Ordering) → MatchOrdering p (y.1 < x.1) (y.1 ≡ x.1) (x.1 < y.1) → is_lt (ordering_then o p) ≡ false → IsEarlierSite x y
    go Less a p b h = absurd (let wrong : true ≡ false = h in cc)
    go Equal a Less b h = absurd (let wrong : true ≡ false = h in cc)
    go Equal a Equal b h = absurd (different (sym b))
    go Equal a Greater b h = inr (sym a, b)
    go Greater a p b h = inl a

-- one site more is numbered
pub numbered_more : (ss : List Site) (xs : List (ℕ × ℕ)) (i : ℕ) (x : Site) → slice_get ss i ≡ Some x → length xs ≡ i
    → ((j : ℕ) (s : Site) → j < i → slice_get ss j ≡ Some s → slice_get xs j ≡ Some (s.scope, j))
    → (j : ℕ) (s : Site) → j < i + 1 → slice_get ss j ≡ Some s → slice_get (xs ++ (x.scope, i) ∷ []) j ≡ Some (s.scope, j)
numbered_more ss xs i x here long old j s lt at = go (cases_eq j i)
  where
    go : (j ≡ i) ⊎ (j ≡ i → ⊥) → slice_get (xs ++ (x.scope, i) ∷ []) j ≡ Some (s.scope, j)
    go (inl e) =
        let same : Some x ≡ Some s = sym here ∙ (ap (slice_get ss) (sym e) ∙ at) in
        let is : x ≡ s = cc in
        let last : slice_get (xs ++ (x.scope, i) ∷ []) j ≡ Some (x.scope, i)
        = ap (slice_get (xs ++ (x.scope, i) ∷ [])) (e ∙ sym long) ∙ get_last xs (x.scope, i) in
        last ∙ ap Some (ap (λ (t : Site). (t.scope, i)) is ∙ ap (λ (k : ℕ). (s.scope, k)) (sym e))
    go (inr ne) = get_more xs ((x.scope, i) ∷ []) j (s.scope, j) (old j s (omega arith) at)

module _ (ss : List Site) (xs : List (ℕ × ℕ)) (numbered : AreNumberedSites ss xs) where
  site_of : (k : ℕ) (x : ℕ × ℕ) → slice_get xs k ≡ Some x → (s : Site) × (slice_get ss k ≡ Some s) × (s.scope ≡ x.0) × (k ≡ x.1)
  site_of k x at =
      let s : Site = get_or ss k (record { scope = 0; token = 0 }) in
      let there : slice_get ss k ≡ Some s = slice_get-get_or ss k _ (let long = slice_get_within xs k x at in omega (arith, numbered.0)) in
      let both : Some (s.scope, k) ≡ Some x = sym (numbered.1 k s there) ∙ at in
      let is : (s.scope, k) ≡ x = cc in
      (s, there, ap (λ p. p.0) is, ap (λ p. p.1) is)

  numbers_differ : (i j : ℕ) (x y : ℕ × ℕ) → slice_get xs i ≡ Some x → slice_get xs j ≡ Some y → x.1 ≡ y.1 → i ≡ j
  numbers_differ i j x y a b e = (site_of i x a).3 ∙ (e ∙ sym (site_of j y b).3)

  pub in_scope_order : (ys : List (ℕ × ℕ)) → IsPermutation xs ys → IsSorted pair_cmp ys → IsScopeOrder ss ys
  in_scope_order ys p sorted = record {
    sites = λ i x at. (
        let from = moved_from xs ys p i x at in
        let s = site_of from.0 x from.1 in
        (s.0, subst (λ (k : ℕ). slice_get ss k ≡ Some s.0) s.3 s.1, s.2));
    all = λ j s at. moved_to xs ys p j (s.scope, j) (numbered.1 j s at);
    ascends = λ i k x y lt a b. before x y (still i k x y lt a b) (still_apart (λ (z : ℕ × ℕ). z.1) xs ys p numbers_differ i k x y lt a b);
  }
    where
      still : (i k : ℕ) (x y : ℕ × ℕ) → i < k → slice_get ys i ≡ Some x → slice_get ys k ≡ Some y → is_lt (pair_cmp y x) ≡ false
      still i k x y lt a b =
          let far : is_lt (pair_cmp (get_or ys k x) (get_or ys i x)) ≡ false
          = sorted_far (λ u v. is_lt (pair_cmp u v)) (ranks_by pair_total (λ (z : ℕ × ℕ). z)) ys sorted i k x (omega arith) (slice_get_within ys k y b) in
          subst (λ z. is_lt (pair_cmp y z) ≡ false) (get_or_from_slice_get ys i x x a) (subst (λ z. is_lt (pair_cmp z (get_or ys i x)) ≡ false) (get_or_from_slice_get ys k y x b) far)
