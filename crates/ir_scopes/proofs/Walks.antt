-- Steps of a walk over events.
use Rattle.std.proofs.Common.{◌≡◌, ℕ, ◌+◌, ◌<◌, ◌≤◌, Bool, List, [], ◌∷◌, ◌++◌, Option, Some, None, refl, drop, length, get_or, sym, ap, ◌∙◌, append_assoc}
use Rattle.std.proofs.lemmas.List.{drop_more, drop_all, append-nil}
use Rattle.ir_grammar.specs.declared.grammar.Event.{Event}
use Rattle.ir_grammar.specs.declared.grammar.Event.TheVariants.{Took, Did}
use Rattle.ir_scopes.specs.declared.sites.Closing.{Closing}
use Rattle.ir_scopes.specs.declared.sites.Site.{Site}
use Rattle.ir_scopes.specs.Scopes.{EventPlace, behind, each, known_or_first, Names}

module _ {A : Type 0} (isolated : ℕ → Bool) (f : EventPlace → Event → List A) where
  pub each_step : (at after : EventPlace) (es : List Event) (i : ℕ) (d : Event) (xs ys all : List A) → i < length es → after ≡ behind isolated at (get_or es i d) → ys ≡ xs ++ f at (get_or es i d)
      → xs ++ each isolated f at (drop i es) ≡ all → ys ++ each isolated f after (drop (i + 1) es) ≡ all
  each_step at after es i d xs ys all lt gone added so =
      let e = get_or es i d in
      let rest = each isolated f (behind isolated at e) (drop (i + 1) es) in
      ap (λ p. ys ++ each isolated f p (drop (i + 1) es)) gone
      ∙ (ap (λ x. x ++ rest) added ∙ (append_assoc xs (f at e) rest ∙ (ap (λ x. xs ++ each isolated f at x) (sym (drop_more es i d lt)) ∙ so)))

  pub each_all : (at : EventPlace) (es : List Event) (i : ℕ) (xs all : List A) → length es ≤ i → xs ++ each isolated f at (drop i es) ≡ all → xs ≡ all
  each_all at es i xs all le so = sym (append-nil xs) ∙ (ap (λ x. xs ++ each isolated f at x) (sym (drop_all i es le)) ∙ so)

-- the first of two lists, one behind the other
first_append : (o : Option ℕ) (xs ys : List ℕ) → known_or_first (known_or_first o xs) ys ≡ known_or_first o (xs ++ ys)
first_append None [] ys = refl
first_append None (x ∷ xs) ys = refl
first_append (Some k) xs ys = refl

-- the first of nothing more
first_none : (o : Option ℕ) → known_or_first o [] ≡ o
first_none None = refl
first_none (Some k) = refl

module _ (isolated : ℕ → Bool) (f : EventPlace → Event → List ℕ) where
  pub first_step : (at after : EventPlace) (es : List Event) (i : ℕ) (d : Event) (o p all : Option ℕ) → i < length es → after ≡ behind isolated at (get_or es i d) → p ≡ known_or_first o (f at (get_or es i d))
      → known_or_first o (each isolated f at (drop i es)) ≡ all → known_or_first p (each isolated f after (drop (i + 1) es)) ≡ all
  first_step at after es i d o p all lt gone found so =
      let e = get_or es i d in
      let rest = each isolated f (behind isolated at e) (drop (i + 1) es) in
      ap (λ q. known_or_first p (each isolated f q (drop (i + 1) es))) gone
      ∙ (ap (λ x. known_or_first x rest) found ∙ (first_append o (f at e) rest ∙ (ap (λ x. known_or_first o (each isolated f at x)) (sym (drop_more es i d lt)) ∙ so)))

  pub first_all : (at : EventPlace) (es : List Event) (i : ℕ) (o all : Option ℕ) → length es ≤ i → known_or_first o (each isolated f at (drop i es)) ≡ all → o ≡ all
  first_all at es i o all le so = sym (first_none o) ∙ (ap (λ x. known_or_first o (each isolated f at x)) (sym (drop_all i es le)) ∙ so)

pub events_behind : (isolated : ℕ → Bool) (at after : EventPlace) (e : Event) → after ≡ behind isolated at e → after.events ≡ at.events + 1
events_behind isolated at after Took gone = ap (λ p. p.events) gone
events_behind isolated at after (Did a) gone = ap (λ p. p.events) gone

-- the names at these sites, whose scopes end so
abbrev pub these : List Site → List Site → List Closing → Names
these ds ms cs = record { definitions = ds; mentions = ms; closings = cs }

-- names whose lists are the same are the same
pub same_names : {ds es ms ns : List Site} {cs bs : List Closing} → ds ≡ es → ms ≡ ns → cs ≡ bs → these ds ms cs ≡ these es ns bs
same_names {ds} {es} {ms} {ns} {cs} {bs} a b c = ap (λ x. these x ms cs) a ∙ (ap (λ x. these es x cs) b ∙ ap (λ x. these es ns x) c)
