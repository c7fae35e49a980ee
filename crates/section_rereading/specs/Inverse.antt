-- What it takes for a printed section to be read again.
use Rattle.std.specs.Prelude.{◌≡◌, ℕ, ◌<◌, ◌^◌, ◌==◌, ◌||◌, not, Bool, true, false, List, [], ◌∷◌, ◌++◌, Option, Some, None, Ok, drop, map, IsUtf8, chars}
use Rattle.std.specs.Char.{is_whitespace}
use Rattle.std.specs.List.{prefix_len}
use Rattle.ir_locations.specs.declared.location.Location.{Location}
use Rattle.ir_names.specs.Text.{is_identifier}
use Rattle.ir_outlines.specs.Section.{Entry, bracketed, single, Reference, here, at_mark, Section}
use Rattle.text_locations.specs.Locations.{Answers, At, Parser, ReadsLocation}
use Rattle.text_streams.specs.Positions.{left}

-- what may be behind an attribute: `,` (44), `]` (93) or a line feed (10)
abbrev pub ends_attribute : ℕ → Bool
ends_attribute c = (c == 44) || ((c == 93) || (c == 10))

-- the text begins with a character that is no white space
abbrev pub begins_visibly : List ℕ → Bool
begins_visibly [] = false
begins_visibly (c ∷ cs) = not (is_whitespace c)

-- the text begins with no white space, and with no `!` (33), `@` (64) or `[` (91)
abbrev pub begins_attribute : List ℕ → Bool
begins_attribute [] = false
begins_attribute (c ∷ cs) = not (is_whitespace c || ((c == 33) || ((c == 64) || (c == 91))))

-- the text without the white space that it begins with
abbrev pub behind_spaces : List ℕ → List ℕ
behind_spaces cs = drop (prefix_len is_whitespace cs) cs

-- Where the parser answers at the text of an attribute that can be read again, it answers one that says the same, and is right
-- behind the text; the same of locations, as they are read with this parser, which may be of another type than those printed.
pub record AreInverse {F S A L X Y : Type 0} (parser : Parser F S A) (attribute_text : A → List ℕ) (location_text : L → List ℕ)
    (says : A → X) (says_place : Location A → Y) (prints_place : L → Y) (is_readable : A → Bool) (is_readable_place : L → Bool) : Type 0 where
  pub attribute_begins : (a : A) → is_readable a ≡ true → begins_attribute (attribute_text a) ≡ true
  pub attribute_read : (v w : At F S) (a b : A) (c : ℕ) (cs : List ℕ) → is_readable a ≡ true → ends_attribute c ≡ true
      → left v.1.position ≡ attribute_text a ++ c ∷ cs → Answers parser v (Ok b) w → (says b ≡ says a) × (left w.1.position ≡ c ∷ cs)
  pub location_begins : (l : L) → is_readable_place l ≡ true → begins_visibly (location_text l) ≡ true
  pub location_read : (v w : At F S) (l : L) (m : Location A) (cs : List ℕ) → is_readable_place l ≡ true
      → left v.1.position ≡ location_text l ++ 93 ∷ cs → ReadsLocation parser 64 v m w
      → (says_place m ≡ prints_place l) × (left w.1.position ≡ 93 ∷ cs)

module _ {A : Type 0} (is_readable : A → Bool) where
  -- what stands under a key can be read again: a mark whose number is below 2^64, or an attribute that can
  abbrev pub CanReadReference : Reference A → Type 0
  CanReadReference (here a) = is_readable a ≡ true
  CanReadReference (at_mark n) = n < 2 ^ 64

  -- members can be read again: their keys are identifiers
  abbrev pub CanReadMembers : List (List ℕ × Reference A) → Type 0
  CanReadMembers [] = Unit {0}
  CanReadMembers (m ∷ ms) = (is_identifier m.0 ≡ true) × CanReadReference m.1 × CanReadMembers ms

-- a location can be read again, if there is one
abbrev pub CanReadPlace : {L : Type 0} → (L → Bool) → Option L → Type 0
CanReadPlace is_readable_place None = Unit {0}
CanReadPlace is_readable_place (Some l) = is_readable_place l ≡ true

module _ {A L : Type 0} (is_readable : A → Bool) (is_readable_place : L → Bool) where
  -- an entry can be read again
  abbrev pub CanReadEntry : Entry A L → Type 0
  CanReadEntry (bracketed l ms) = CanReadPlace is_readable_place l × CanReadMembers is_readable ms
  CanReadEntry (single a) = is_readable a ≡ true

  -- a section can be read again: its indices are below 2^64
  abbrev pub CanReadSection : Section A L → Type 0
  CanReadSection [] = Unit {0}
  CanReadSection (e ∷ es) = (e.0 < 2 ^ 64) × CanReadEntry e.1 × CanReadSection es

-- ---- what is said

-- what stands under a key, with what an attribute says in its place
abbrev pub said_reference : {A X : Type 0} → (A → X) → Reference A → Reference X
said_reference says (here a) = here (says a)
said_reference says (at_mark n) = at_mark n

abbrev pub said_member : {A X : Type 0} → (A → X) → List ℕ × Reference A → List ℕ × Reference X
said_member says m = (m.0, said_reference says m.1)

abbrev pub said_members : {A X : Type 0} → (A → X) → List (List ℕ × Reference A) → List (List ℕ × Reference X)
said_members says ms = map (said_member says) ms

-- an entry, with what attributes and locations say in their places
abbrev pub said_entry : {A L X Y : Type 0} → (A → X) → (L → Y) → Entry A L → Entry X Y
said_entry says says_place (bracketed None ms) = bracketed None (said_members says ms)
said_entry says says_place (bracketed (Some l) ms) = bracketed (Some (says_place l)) (said_members says ms)
said_entry says says_place (single a) = single (says a)

-- a section, the same
abbrev pub said_section : {A L X Y : Type 0} → (A → X) → (L → Y) → Section A L → Section X Y
said_section says says_place s = map (λ e. (e.0, said_entry says says_place e.1)) s

-- The bytes are UTF-8 of these characters.
abbrev pub IsUtf8Of : List ℕ → List ℕ → Type 0
IsUtf8Of text bytes = IsUtf8 bytes × (chars bytes ≡ text)
