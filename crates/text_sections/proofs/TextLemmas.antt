-- What is printed of tokens, one behind the other.
use Rattle.std.proofs.Common.{◌≡◌, ◌∙◌, refl, sym, subst, ℕ, Bool, false, List, [], ◌∷◌, ◌++◌, append_assoc, append-nil}
use Rattle.text_writers.specs.Appending.{Appends}
use Rattle.ir_outlines.specs.Section.{Reference}
use Rattle.text_sections.specs.Texts.{Token, sign, attribute, location, AddsTokens, members_from, member_tokens, prints_nothing, separator_before}

module _ {A L : Type 0} (pa : A → List ℕ → Type 0) (pl : L → List ℕ → Type 0) where
  abbrev pub Adds : List ℕ → List (Token A L) → List ℕ → Type 0
  Adds = AddsTokens pa pl

  pub adds_both : (old mid new : List ℕ) (ts us : List (Token A L)) → Adds old ts mid → Adds mid us new → Adds old (ts ++ us) new
  adds_both old mid new [] us h k = subst (λ m. Adds m us new) (sym h) k
  adds_both old mid new (t ∷ ts) us h k = (h.0, h.1, adds_both h.0 mid new ts us h.2 k)

  pub sign_added : (bytes old mid new : List ℕ) (ts : List (Token A L)) → mid ≡ old ++ bytes → Adds mid ts new → Adds old (sign bytes ∷ ts) new
  sign_added bytes old mid new ts e h = (mid, (bytes, refl, e), h)

  pub sign_ends : (bytes old new : List ℕ) → new ≡ old ++ bytes → Adds old (sign bytes ∷ []) new
  sign_ends bytes old new e = (new, (bytes, refl, e), refl)

  pub attribute_ends : (a : A) (old new : List ℕ) → Appends (pa a) old new → Adds old (attribute a ∷ []) new
  attribute_ends a old new h = (new, h, refl)

  -- where no location is printed, it doesn't matter how
  pub attributes_alone : (old new : List ℕ) (ts : List (Token A L)) → AddsTokens pa prints_nothing old ts new → Adds old ts new
  attributes_alone old new [] h = h
  attributes_alone old new (sign cs ∷ ts) h = (h.0, h.1, attributes_alone h.0 new ts h.2)
  attributes_alone old new (attribute a ∷ ts) h = (h.0, h.1, attributes_alone h.0 new ts h.2)
  attributes_alone old new (location l ∷ ts) h = absurd h.1.1

  -- where no attribute is printed, it doesn't matter how
  pub locations_alone : (old new : List ℕ) (ts : List (Token A L)) → AddsTokens prints_nothing pl old ts new → Adds old ts new
  locations_alone old new [] h = h
  locations_alone old new (sign cs ∷ ts) h = (h.0, h.1, locations_alone h.0 new ts h.2)
  locations_alone old new (attribute a ∷ ts) h = absurd h.1.1
  locations_alone old new (location l ∷ ts) h = (h.0, h.1, locations_alone h.0 new ts h.2)

  -- one member more
  pub member_added : (first : Bool) (m : List ℕ × Reference A) (ms : List (List ℕ × Reference A)) (old a b new : List ℕ)
      → a ≡ old ++ separator_before first → Adds a (member_tokens m) b → Adds b (members_from false ms) new → Adds old (members_from first (m ∷ ms)) new
  member_added first m ms old a b new e h k = sign_added (separator_before first) old a new (member_tokens m ++ members_from false ms) e (adds_both a b new (member_tokens m) (members_from false ms) h k)

  -- what is printed behind what was written, as bytes of its own
  shifted : (before old new : List ℕ) (ts : List (Token A L)) → Adds (before ++ old) ts new → (bytes : List ℕ) × Adds old ts bytes × (new ≡ before ++ bytes)
  shifted before old new [] h = (old, refl, sym h)
  shifted before old new (t ∷ ts) h =
      let rest = shifted before (old ++ h.1.0) new ts (subst (λ m. Adds m ts new) (h.1.2 ∙ append_assoc before old h.1.0) h.2) in
      (rest.0, (old ++ h.1.0, (h.1.0, h.1.1, refl), rest.1), rest.2)

  pub printed : (ts : List (Token A L)) (old new : List ℕ) → Adds old ts new → Appends (λ bytes. Adds [] ts bytes) old new
  printed ts old new h = shifted old [] new ts (subst (λ m. Adds m ts new) (sym (append-nil old)) h)
