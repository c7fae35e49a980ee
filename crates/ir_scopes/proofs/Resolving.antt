-- From what looking up finds to what a text has.
use Rattle.std.proofs.Common.{◌≡◌, ℕ, ◌<◌, Bool, false, List, length, Option, None, option_map, slice_index, refl, sym, subst, ap, ◌∙◌, ◌⊎◌, inl, inr}
use Rattle.std.proofs.lemmas.Bool.{cases_order}
use Rattle.ir_tokens.specs.declared.faults.Fault.{Fault}
use Rattle.ir_grammar.specs.declared.grammar.Event.{Event}
use Rattle.ir_grammar.specs.Nesting.{OwnTokens}
use Rattle.ir_scopes.specs.declared.sites.Site.{Site}
use Rattle.ir_scopes.specs.declared.sites.Sites.{Sites}
use Rattle.ir_tokens.specs.Faults.{IsNamed, IsFirstOf}
use Rattle.ir_tokens.proofs.FirstFault.{first_of_law}
use Rattle.ir_scopes.specs.Scopes.{name_of, SiteHasName, IsAgain, Names, names_at, value_names, label_names, NamesAreApart, AreSites, HasNameFault, HasScopeFault, HasSiteFault, AreLookedUp, Resolves, fault_again, fault_not_isolated, IsRootFault}
use Rattle.ir_scopes.proofs.Apart.{are_apart}
use Rattle.ir_scopes.proofs.Lacking.{is_meant}
use Rattle.ir_scopes.proofs.ScopeFronts.{root_named}

-- a name that isn't defined twice has one number
pub one_number : (names : List ℕ) (ds : List Site) → IsNamed (IsAgain names ds) None → (scope name i j : ℕ) → SiteHasName names ds scope name i → SiteHasName names ds scope name j → i ≡ j
one_number names ds none scope name i j a b = go (cases_order i j)
  where
    again : (i j : ℕ) → i < j → SiteHasName names ds scope name i → SiteHasName names ds scope name j → ⊥
    again i j lt a b =
        let at : SiteHasName names ds b.0.scope (name_of names b.0.token) i
        = subst (λ n. SiteHasName names ds b.0.scope n i) (sym b.2.1) (subst (λ n. SiteHasName names ds n name i) (sym b.2.0) a) in
        none (fault_again b.0.token) (i, j, b.0, lt, b.1, at, refl)

    go : (i ≡ j) ⊎ ((i < j) ⊎ (j < i)) → i ≡ j
    go (inl e) = e
    go (inr (inl lt)) = absurd (again i j lt a b)
    go (inr (inr lt)) = absurd (again j i lt b a)

-- what is looked up of names without a fault is what they mean
pub resolves : (names : List ℕ) (n : Names) (places : List ℕ) (many : ℕ) → IsNamed (HasNameFault names n) None → many ≡ length n.definitions → length places ≡ length names
    → AreLookedUp names n places → Resolves names n places many
resolves names n places many none count long up = record {
  count = count;
  defined = λ j s at within. up.defined j s at (subst (λ k. s.token < k) (sym long) within);
  mentioned = λ i j m at means within. one_number names n.definitions (λ f h. none f (inl h)) m.scope (name_of names m.token) (slice_index places m.token) j (up.mentioned i j m at means within) means;
  resolved = is_meant names n.definitions n.mentions n.closings (λ f h. none f (inr h));
}

module _ (isolated : ℕ → Bool) (names : List ℕ) (es : List Event) (s : Sites) (are : AreSites isolated es s) where
  -- where each name has a token of its own, no two of the sites have one
  pub sites_apart : OwnTokens false es → NamesAreApart (names_at s.values) (names_at s.labels)
  sites_apart own = subst (λ v. NamesAreApart v (names_at s.labels)) (sym are.values) (subst (NamesAreApart (value_names isolated es)) (sym are.labels) (are_apart isolated es own))

  -- the first fault of the names at the sites is the first that those of the events have
  abbrev AreNameFaults : Fault → Type 0
  AreNameFaults f = HasNameFault names (value_names isolated es) f ⊎ HasNameFault names (label_names isolated es) f

  name_fault : (r : Option Fault) → IsNamed (HasSiteFault names s) r → IsNamed AreNameFaults r
  name_fault r h =
      subst (λ v. IsNamed (λ f. HasNameFault names v f ⊎ HasNameFault names (label_names isolated es) f) r) are.values
      (subst (λ l. IsNamed (λ f. HasNameFault names (names_at s.values) f ⊎ HasNameFault names l f) r) are.labels h)

  -- with that of the root it is the first of all
  pub scope_fault : (named root r : Option Fault) → IsNamed (HasSiteFault names s) named → root ≡ option_map fault_not_isolated s.root_opened → IsFirstOf named root r → IsNamed (HasScopeFault isolated names es) r
  scope_fault named root r h is first =
      let at : IsNamed (IsRootFault isolated es) root
      = subst (IsNamed (IsRootFault isolated es)) (ap (option_map fault_not_isolated) (sym are.root_opened) ∙ sym is) (root_named isolated es) in
      first_of_law AreNameFaults (IsRootFault isolated es) (HasScopeFault isolated names es) named root r parted joined (λ f x. inr (inr x)) (name_fault named h) at first
    where
      parted : (f : Fault) → HasScopeFault isolated names es f → AreNameFaults f ⊎ IsRootFault isolated es f
      parted f (inl x) = inl (inl x)
      parted f (inr (inl x)) = inl (inr x)
      parted f (inr (inr x)) = inr x

      joined : (f : Fault) → AreNameFaults f → HasScopeFault isolated names es f
      joined f (inl x) = inl x
      joined f (inr x) = inr (inl x)
