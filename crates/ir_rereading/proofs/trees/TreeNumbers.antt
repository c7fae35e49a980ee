-- The names of a text without faults of names can be looked up.
use Rattle.std.proofs.Common.{◌≡◌, ℕ, zero, suc, ◌<◌, List, [], ◌∷◌, map, length, Option, Some, None, slice_get, slice_index, refl, sym, subst, ap, ◌∙◌, arith, ◌⊎◌, inl, inr}
use Rattle.std.specs.List.{range_with_len}
use Rattle.std.proofs.lemmas.Bool.{cases_eq}
use Rattle.std.proofs.lemmas.List.FromFn.{get_or-map-range_with_len}
use Rattle.ir_tokens.specs.declared.faults.Fault.{Fault}
use Rattle.ir_scopes.specs.declared.scopes.Resolution.{Resolution}
use Rattle.ir_scopes.specs.declared.sites.Site.{Site}
use Rattle.ir_scopes.specs.Scopes.{name_of, Means, IsAgain, Names, IsNameOf, SitesAreApart, NamesAreApart, Resolves}
use Rattle.ir_scopes.proofs.Resolving.{one_number}

-- a site with this token
abbrev IsAt : ℕ → List Site → Type 0
IsAt k ss = (j : ℕ) × (s : Site) × (slice_get ss j ≡ Some s) × (s.token ≡ k)

-- no site has this token
abbrev IsNowhere : ℕ → List Site → Type 0
IsNowhere k ss = (j : ℕ) (s : Site) → slice_get ss j ≡ Some s → s.token ≡ k → ⊥

site_of : (k : ℕ) (ss : List Site) → IsAt k ss ⊎ IsNowhere k ss
site_of k [] = inr (λ j s h e. (let wrong : None ≡ Some s = h in cc))
site_of k (x ∷ ss) = go (cases_eq x.token k) (site_of k ss)
  where
    nowhere : (x.token ≡ k → ⊥) → IsNowhere k ss → IsNowhere k (x ∷ ss)
    nowhere not none zero s h e = let same : x ≡ s = cc in not (ap (λ (y : Site). y.token) same ∙ e)
    nowhere not none (suc j) s h e = none j s h e

    go : (x.token ≡ k) ⊎ (x.token ≡ k → ⊥) → IsAt k ss ⊎ IsNowhere k ss → IsAt k (x ∷ ss) ⊎ IsNowhere k (x ∷ ss)
    go (inl e) more = inl (0, x, refl, e)
    go (inr not) (inl more) = inl (suc more.0, more.1, more.2, more.3)
    go (inr not) (inr none) = inr (nowhere not none)

-- each mention of these names means a definition
abbrev pub AllMean : List ℕ → Names → Type 0
AllMean names n = (i : ℕ) (m : Site) → slice_get n.mentions i ≡ Some m → (j : ℕ) × Means names n.definitions m j

module _ (names : List ℕ) (n : Names) (meant : AllMean names n) where
  -- the number at a token, by which of the names is there
  abbrev number_by : (k : ℕ) → IsAt k n.definitions ⊎ IsNowhere k n.definitions → IsAt k n.mentions ⊎ IsNowhere k n.mentions → Option ℕ
  number_by k (inl d) m = Some d.0
  number_by k (inr none) (inl m) = Some (meant m.0 m.1 m.2).0
  number_by k (inr none) (inr nowhere) = None

  number_at : ℕ → Option ℕ
  number_at k = number_by k (site_of k n.definitions) (site_of k n.mentions)

  number_defined : SitesAreApart n.definitions n.mentions → (j : ℕ) (s : Site) → slice_get n.definitions j ≡ Some s → number_at s.token ≡ Some j
  unfolding number_at
  number_defined apart j s at = go (site_of s.token n.definitions) (site_of s.token n.mentions)
    where
      go : (d : IsAt s.token n.definitions ⊎ IsNowhere s.token n.definitions) (m : IsAt s.token n.mentions ⊎ IsNowhere s.token n.mentions) → number_by s.token d m ≡ Some j
      go (inl d) m = ap (λ k. Some k) (apart.definitions d.0 j d.1 s d.2 at d.3)
      go (inr none) m = absurd (none j s at refl)

  number_mentioned : ((f : Fault) → IsAgain names n.definitions f → ⊥) → SitesAreApart n.definitions n.mentions → (i j : ℕ) (m : Site) → slice_get n.mentions i ≡ Some m → Means names n.definitions m j
      → number_at m.token ≡ Some j
  unfolding number_at
  number_mentioned once apart i j m at means = go (site_of m.token n.definitions) (site_of m.token n.mentions)
    where
      go : (d : IsAt m.token n.definitions ⊎ IsNowhere m.token n.definitions) (x : IsAt m.token n.mentions ⊎ IsNowhere m.token n.mentions) → number_by m.token d x ≡ Some j
      go (inl d) x = absurd (apart.both d.0 i d.1 m d.2 at d.3)
      go (inr none) (inr nowhere) = absurd (nowhere i m at refl)
      go (inr none) (inl x) =
          let found = meant x.0 x.1 x.2 in
          let index : x.0 ≡ i = apart.mentions x.0 i x.1 m x.2 at x.3 in
          let both : Some x.1 ≡ Some m = sym x.2 ∙ (ap (λ (k : ℕ). slice_get n.mentions k) index ∙ at) in
          let same : x.1 ≡ m = cc in
          ap (λ k. Some k) (one_number names n.definitions once m.scope (name_of names m.token) found.0 j (subst (λ (y : Site). Means names n.definitions y found.0) same found.1) means)

  -- where none of the names is
  number_nowhere : (k : ℕ) → ((s : Site) → IsNameOf n s → s.token ≡ k → ⊥) → number_at k ≡ None
  unfolding number_at
  number_nowhere k none = go (site_of k n.definitions) (site_of k n.mentions)
    where
      go : (d : IsAt k n.definitions ⊎ IsNowhere k n.definitions) (m : IsAt k n.mentions ⊎ IsNowhere k n.mentions) → number_by k d m ≡ None
      go (inl d) m = absurd (none d.1 (inl (d.0, d.2)) d.3)
      go (inr x) (inl m) = absurd (none m.1 (inr (m.0, m.2)) m.3)
      go (inr x) (inr y) = refl

-- the first number, or the second where there is no first
abbrev either_number : Option ℕ → Option ℕ → ℕ
either_number (Some x) o = x
either_number None (Some x) = x
either_number None None = 0

module _ (names : List ℕ) (values labels : Names) (values_meant : AllMean names values) (labels_meant : AllMean names labels) (apart : NamesAreApart values labels) where
  number : ℕ → ℕ
  number k = either_number (number_at names values values_meant k) (number_at names labels labels_meant k)

  abbrev numbers : List ℕ
  numbers = map number (range_with_len 0 (length names))

  at_token : (k : ℕ) → k < length names → slice_index numbers k ≡ number k
  at_token k lt = get_or-map-range_with_len number 0 (length names) k k 0 lt (omega arith)

  value_number : (k j : ℕ) → number_at names values values_meant k ≡ Some j → number k ≡ j
  unfolding number
  value_number k j e = ap (λ o. either_number o (number_at names labels labels_meant k)) e

  label_number : (s : Site) (j : ℕ) → IsNameOf labels s → number_at names labels labels_meant s.token ≡ Some j → number s.token ≡ j
  unfolding number
  label_number s j i e =
      ap (λ o. either_number o (number_at names labels labels_meant s.token)) (number_nowhere names values values_meant s.token (λ v h same. apart.both v s h i same))
      ∙ ap (either_number None) e

  -- where no name is defined twice and each mention has a definition, names are looked up so
  pub resolution : ((f : Fault) → IsAgain names values.definitions f → ⊥) → ((f : Fault) → IsAgain names labels.definitions f → ⊥)
      → (r : Resolution) × Resolves names values r.definitions r.count × Resolves names labels r.definitions r.labels
  resolution once one = (
    record {
      definitions = numbers;
      count = length values.definitions;
      labels = length labels.definitions;
      counts = record { operations = 0; regions = 0; mentions = 0; edges = 0 };
    },
    record {
      count = refl;
      defined = λ j s at lt. at_token s.token lt ∙ value_number s.token j (number_defined names values values_meant apart.values j s at);
      mentioned = λ i j m at means lt. at_token m.token lt ∙ value_number m.token j (number_mentioned names values values_meant once apart.values i j m at means);
      resolved = λ i k m c at closes same. values_meant i m at;
    },
    record {
      count = refl;
      defined = λ j s at lt. at_token s.token lt ∙ label_number s j (inl (j, at)) (number_defined names labels labels_meant apart.labels j s at);
      mentioned = λ i j m at means lt. at_token m.token lt ∙ label_number m j (inr (i, at)) (number_mentioned names labels labels_meant one apart.labels i j m at means);
      resolved = λ i k m c at closes same. labels_meant i m at;
    },
  )
