-- What a section is printed as.
use Rattle.std.specs.Prelude.{ℕ, ◌≡◌, Bool, true, false, List, [], ◌∷◌, ◌++◌, Option, None, Some, codes, flat_map}
use Rattle.std.specs.List.{FoldsTo}
use Rattle.ir_print.specs.Layout.{mark_text}
use Rattle.ir_outlines.specs.Section.{Reference, here, at_mark, Entry, bracketed, single, Section}
use Rattle.text_writers.specs.Appending.{Appends}

-- These bytes, an attribute, or a location.
pub data Token (A L : Type 0) : Type 0 where
  sign : List ℕ → Token A L
  attribute : A → Token A L
  location : L → Token A L

-- what is before a member: nothing before the first
abbrev pub separator_before : Bool → List ℕ
separator_before true = []
separator_before false = codes ", "

module _ {A L : Type 0} where
  -- what stands under a key: an attribute, or a mark
  abbrev pub reference_token : Reference A → Token A L
  reference_token (here a) = attribute a
  reference_token (at_mark n) = sign (mark_text n)

  -- a key and what stands under it
  abbrev pub member_tokens : List ℕ × Reference A → List (Token A L)
  member_tokens m = sign m.0 ∷ sign (codes " = ") ∷ reference_token m.1 ∷ []

  -- members with a `,` between them, where the first is the first of all or not
  abbrev pub members_from : Bool → List (List ℕ × Reference A) → List (Token A L)
  members_from is_first [] = []
  members_from is_first (m ∷ ms) = sign (separator_before is_first) ∷ (member_tokens m ++ members_from false ms)

  -- `@[location], `, where there is one
  abbrev pub location_tokens : Option L → List (Token A L)
  location_tokens None = []
  location_tokens (Some l) = sign (codes "@[") ∷ location l ∷ sign (codes "], ") ∷ []

  -- an entry: the members in brackets, with the location before them, or a single attribute
  abbrev pub entry_tokens : Entry A L → List (Token A L)
  entry_tokens (bracketed l ms) = location_tokens l ++ sign (codes "[") ∷ (members_from true ms ++ sign (codes "]") ∷ [])
  entry_tokens (single a) = attribute a ∷ []

  -- a line: the index, as a mark, and its entry
  abbrev pub line_tokens : ℕ × Entry A L → List (Token A L)
  line_tokens e = sign (mark_text e.0) ∷ sign (codes " = ") ∷ (entry_tokens e.1 ++ sign (codes "\n") ∷ [])

  -- A section: an empty line, its word, and a line for each entry. Nothing is printed for no entries.
  abbrev pub section_tokens : Section A L → List (Token A L)
  section_tokens [] = []
  section_tokens (e ∷ es) = sign (codes "\noutlined_attributes:\n") ∷ flat_map line_tokens (e ∷ es)

-- no attribute or location is printed so
abbrev pub prints_nothing : {X : Type 0} → X → List ℕ → Type 0
prints_nothing x bytes = ⊥

-- how attributes and locations are printed
module _ {A L : Type 0} (prints_attribute : A → List ℕ → Type 0) (prints_location : L → List ℕ → Type 0) where
  abbrev pub IsTokenText : Token A L → List ℕ → Type 0
  IsTokenText (sign cs) bytes = bytes ≡ cs
  IsTokenText (attribute a) bytes = prints_attribute a bytes
  IsTokenText (location l) bytes = prints_location l bytes

  -- tokens are printed one behind the other, behind what was written
  abbrev pub AddsTokens : List ℕ → List (Token A L) → List ℕ → Type 0
  AddsTokens old ts new = FoldsTo (λ old t new. Appends (IsTokenText t) old new) old ts new

  -- bytes that a section is printed as
  abbrev pub IsSectionText : Section A L → List ℕ → Type 0
  IsSectionText s bytes = AddsTokens [] (section_tokens s) bytes
