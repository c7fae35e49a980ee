-- Numbers that are written to the places of tokens.
use Rattle.std.proofs.Common.{◌≡◌, ℕ, ◌+◌, ◌<◌, List, length, Some, slice_get, get_or, set, sym, subst, ap, ◌∙◌, arith, ◌⊎◌, inl, inr}
use Rattle.std.proofs.lemmas.List.{get_or-set_same, get_or-set_other, length-set}
use Rattle.std.proofs.lemmas.Bool.{cases_eq}
use Rattle.ir_scopes.specs.declared.sites.Site.{Site}
use Rattle.ir_scopes.specs.Scopes.{HaveDistinctTokens}

-- the first i sites have at their tokens what suits them
abbrev pub AreWritten : (Site → ℕ → ℕ → Type 0) → List Site → ℕ → List ℕ → Type 0
AreWritten Suits ss i ps = (k : ℕ) (s : Site) → k < i → slice_get ss k ≡ Some s → s.token < length ps → Suits s k (get_or ps s.token 0)

module _ (Suits : Site → ℕ → ℕ → Type 0) (ss : List Site) (i : ℕ) (x : Site) (here : slice_get ss i ≡ Some x) (ps : List ℕ) where
  at_last : (P : Site → ℕ → Type 0) (k : ℕ) (s : Site) → k ≡ i → slice_get ss k ≡ Some s → P x i → P s k
  at_last P k s e at h =
      let same : Some x ≡ Some s = sym here ∙ (ap (slice_get ss) (sym e) ∙ at) in
      let is : x ≡ s = cc in
      subst (λ t. P t k) is (subst (P x) (sym e) h)

  pub written_more : (n : ℕ) → Suits x i n → HaveDistinctTokens ss → AreWritten Suits ss i ps → AreWritten Suits ss (i + 1) (set ps x.token n)
  written_more n suits apart h k s lt at within = go (cases_eq k i)
    where
      inside : s.token < length ps
      inside = omega (arith, length-set ps x.token n)

      go : (k ≡ i) ⊎ (k ≡ i → ⊥) → Suits s k (get_or (set ps x.token n) s.token 0)
      go (inl e) = at_last (λ t l. t.token < length ps → Suits t l (get_or (set ps x.token n) t.token 0)) k s e at
          (λ within. subst (Suits x i) (sym (get_or-set_same ps x.token n 0 within)) suits) inside
      go (inr ne) =
          subst (Suits s k) (sym (get_or-set_other ps x.token s.token n 0 (λ e. ne (apart k i s x at here e)))) (h k s (omega arith) at inside)

  pub written_same : ((n : ℕ) → Suits x i n) → AreWritten Suits ss i ps → AreWritten Suits ss (i + 1) ps
  written_same any h k s lt at within = go (cases_eq k i)
    where
      go : (k ≡ i) ⊎ (k ≡ i → ⊥) → Suits s k (get_or ps s.token 0)
      go (inl e) = at_last (λ t l. Suits t l (get_or ps s.token 0)) k s e at (any (get_or ps s.token 0))
      go (inr ne) = h k s (omega arith) at within
