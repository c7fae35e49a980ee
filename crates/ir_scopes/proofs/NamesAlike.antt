-- Lists in which the sites of one sort have the same names.
use Rattle.std.proofs.Common.{◌≡◌, ℕ, List, Option, Some, slice_get, sym, ◌∙◌, inl, inr}
use Rattle.ir_tokens.specs.declared.faults.Fault.{Fault}
use Rattle.ir_scopes.specs.declared.sites.Site.{Site}
use Rattle.ir_tokens.specs.Faults.{IsNamed}
use Rattle.ir_scopes.specs.Scopes.{name_of, Means, Names, IsNameOf, HasNameFault}
use Rattle.ir_tokens.proofs.FirstFault.{named_along}

-- each site of one sort has the same name in both lists
abbrev pub AreAlike : List ℕ → List ℕ → Names → Type 0
AreAlike xs ys n = (s : Site) → IsNameOf n s → name_of xs s.token ≡ name_of ys s.token

module _ (xs ys : List ℕ) (n : Names) (alike : AreAlike xs ys n) where
  pub means_alike : (i j : ℕ) (m : Site) → slice_get n.mentions i ≡ Some m → Means xs n.definitions m j → Means ys n.definitions m j
  means_alike i j m at (d, there, (scope, name)) = (d, there, (scope, sym (alike d (inl (j, there))) ∙ (name ∙ alike m (inr (i, at)))))

alike_back : (xs ys : List ℕ) (n : Names) → AreAlike xs ys n → AreAlike ys xs n
alike_back xs ys n alike s i = sym (alike s i)

fault_alike : (xs ys : List ℕ) (n : Names) → AreAlike xs ys n → (f : Fault) → HasNameFault xs n f → HasNameFault ys n f
fault_alike xs ys n alike f (inl (i, j, s, lt, at, (t, there, (scope, name)), is)) =
    inl (i, j, s, lt, at, (t, there, (scope, sym (alike t (inl (i, there))) ∙ (name ∙ alike s (inl (j, at))))), is)
fault_alike xs ys n alike f (inr (i, c, at, (k, m, there, scope, lacks), is)) =
    inr (i, c, at, (k, m, there, scope, λ j means. lacks j (means_alike ys xs n (alike_back xs ys n alike) k j m there means)), is)

-- the first fault of the names is the same
pub named_alike : (xs ys : List ℕ) (n : Names) → AreAlike xs ys n → (o : Option Fault) → IsNamed (HasNameFault xs n) o → IsNamed (HasNameFault ys n) o
named_alike xs ys n alike o h = named_along (HasNameFault xs n) (HasNameFault ys n) o (fault_alike xs ys n alike) (fault_alike ys xs n (alike_back xs ys n alike)) h
