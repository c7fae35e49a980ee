-- What keeps the names of an attribute dictionary distinct, and identifiers.
use Rattle.std.proofs.Common.{◌≡◌, ℕ, Bool, true, false, cond, ◌||◌, ◌&&◌, List, [], ◌∷◌, ◌++◌, refl, sym, ap, subst, ◌∙◌}
use Rattle.std.specs.List.{list_any, list_all, AllByRecursion, IsDistinct}
use Rattle.std.specs.Map.{remove_entry}
use Rattle.std.specs.Str.{bytes_eq}
use Rattle.std.specs.Cmp.Lexicographic.{nat_list_eq_equiv}
use Rattle.std.proofs.lemmas.Bool.{false≢true}
use Rattle.std.proofs.lemmas.Map.Keys.{IsDistinct-push}
use Rattle.ir_names.specs.Text.{is_identifier}
use Rattle.ir_names.specs.Dictionary.{with_attribute, without_attribute, names_of, AreNamesDistinct, AreNamesIdentifiers, AreEntries}

-- the names after one is put: it goes last where it is new
abbrev put_name : Bool → List (List ℕ) → List ℕ → List (List ℕ)
put_name there names key = cond there names (names ++ key ∷ [])

put_behind : (there : Bool) (name : List ℕ) (names : List (List ℕ)) (key : List ℕ) → name ∷ put_name there names key ≡ put_name there (name ∷ names) key
put_behind true name names key = refl
put_behind false name names key = refl

module _ {X : Type 0} where
  put_step : (b there : Bool) (e : List ℕ × X) (attr : X) (es rest : List (List ℕ × X)) (key : List ℕ)
      → names_of rest ≡ put_name there (names_of es) key
      → names_of (cond b ((e.0, attr) ∷ es) (e ∷ rest)) ≡ put_name (b || there) (e.0 ∷ names_of es) key
  put_step true there e attr es rest key h = refl
  put_step false there e attr es rest key h = ap (λ names. e.0 ∷ names) h ∙ put_behind there e.0 (names_of es) key

  -- the names after an attribute is put under one
  pub names-with_attribute : (es : List (List ℕ × X)) (key : List ℕ) (attr : X) → names_of (with_attribute es key attr) ≡ put_name (list_any (bytes_eq key) (names_of es)) (names_of es) key
  names-with_attribute [] key attr = refl
  names-with_attribute (e ∷ es) key attr =
      put_step (bytes_eq key e.0) (list_any (bytes_eq key) (names_of es)) e attr es (with_attribute es key attr) key (names-with_attribute es key attr)

distinct_put : (there : Bool) (names : List (List ℕ)) (key : List ℕ) → list_any (bytes_eq key) names ≡ there → IsDistinct bytes_eq names → IsDistinct bytes_eq (put_name there names key)
distinct_put true names key e d = d
distinct_put false names key e d = IsDistinct-push nat_list_eq_equiv names key d e

and_step : (b all more : Bool) → (b && all) ≡ true → (all ≡ true → more ≡ true) → (b && more) ≡ true
and_step true all more h next = next h
and_step false all more h next = h

identifiers_push : (names : List (List ℕ)) (key : List ℕ) → is_identifier key ≡ true → list_all is_identifier names ≡ true → list_all is_identifier (names ++ key ∷ []) ≡ true
identifiers_push [] key k h = ap (λ (name : Bool). name && true) k
identifiers_push (name ∷ names) key k h = and_step (is_identifier name) (list_all is_identifier names) (list_all is_identifier (names ++ key ∷ [])) h (identifiers_push names key k)

identifiers_put : (there : Bool) (names : List (List ℕ)) (key : List ℕ) → is_identifier key ≡ true → list_all is_identifier names ≡ true → list_all is_identifier (put_name there names key) ≡ true
identifiers_put true names key k h = h
identifiers_put false names key k h = identifiers_push names key k h

module _ {X : Type 0} where
  pub no_entries : AreEntries {X = X} []
  unfolding IsDistinct
  no_entries = record { distinct = tt; identifiers = refl }

  -- an attribute is put under the name of an identifier
  pub entries_put : (es : List (List ℕ × X)) (key : List ℕ) (attr : X) → is_identifier key ≡ true → AreEntries es → AreEntries (with_attribute es key attr)
  entries_put es key attr k h =
      let names = sym (names-with_attribute es key attr) in
      let there = list_any (bytes_eq key) (names_of es) in record {
        distinct = subst (λ ns. IsDistinct bytes_eq ns) names (distinct_put there (names_of es) key refl h.distinct);
        identifiers = subst (λ ns. list_all is_identifier ns ≡ true) names (identifiers_put there (names_of es) key k h.identifiers);
      }

  apart_without : (P : List ℕ → Type 0) (test : List ℕ → Bool) (es : List (List ℕ × X)) → AllByRecursion P (names_of es) → AllByRecursion P (names_of (remove_entry test es))
  apart_without P test [] h = h
  apart_without P test (e ∷ es) h = step (test e.0) (apart_without P test es h.1)
    where
      step : (b : Bool) → AllByRecursion P (names_of (remove_entry test es)) → AllByRecursion P (names_of (cond b es (e ∷ remove_entry test es)))
      step true rest = h.1
      step false rest = (h.0, rest)

  distinct_step : (b : Bool) (e : List ℕ × X) (es rest : List (List ℕ × X)) → IsDistinct bytes_eq (names_of es) → AllByRecursion (λ y. bytes_eq e.0 y ≡ false) (names_of rest) → IsDistinct bytes_eq (names_of rest)
      → IsDistinct bytes_eq (names_of (cond b es (e ∷ rest)))
  unfolding IsDistinct
  distinct_step true e es rest d a r = d
  distinct_step false e es rest d a r = (a, r)

  distinct_without : (test : List ℕ → Bool) (es : List (List ℕ × X)) → AreNamesDistinct es → AreNamesDistinct (remove_entry test es)
  unfolding IsDistinct
  distinct_without test [] d = d
  distinct_without test (e ∷ es) d = distinct_step (test e.0) e es (remove_entry test es) d.1 (apart_without _ test es d.0) (distinct_without test es d.1)

  identifiers_step : (b name : Bool) (e : List ℕ × X) (es rest : List (List ℕ × X)) → is_identifier e.0 ≡ name → (name && list_all is_identifier (names_of es)) ≡ true
      → (AreNamesIdentifiers es → AreNamesIdentifiers rest) → AreNamesIdentifiers (cond b es (e ∷ rest))
  identifiers_step b false e es rest i h next = absurd (false≢true h)
  identifiers_step true true e es rest i h next = h
  identifiers_step false true e es rest i h next = ap (λ (name : Bool). name && list_all is_identifier (names_of rest)) i ∙ next h

  identifiers_without : (test : List ℕ → Bool) (es : List (List ℕ × X)) → AreNamesIdentifiers es → AreNamesIdentifiers (remove_entry test es)
  identifiers_without test [] h = h
  identifiers_without test (e ∷ es) h = identifiers_step (test e.0) (is_identifier e.0) e es (remove_entry test es) refl h (identifiers_without test es)

  -- an attribute is taken out
  pub entries_without : (es : List (List ℕ × X)) (key : List ℕ) → AreEntries es → AreEntries (without_attribute es key)
  entries_without es key h = record {
    distinct = distinct_without (bytes_eq key) es h.distinct;
    identifiers = identifiers_without (bytes_eq key) es h.identifiers;
  }
