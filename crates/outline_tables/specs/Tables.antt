-- What a contract sees of a table of entries: the section whose entries it has, and what marks lead to in it.
use Rattle.std.specs.Prelude.{◌≡◌, ◌⊎◌, ℕ, suc, List, [], ◌∷◌, map, if◌then◌else◌, option_map, Option, None, Some, IsSome, is_some, option_copied}
use Rattle.std.specs.Borrow.{Bor}
use Rattle.ir_names.specs.declared.identifier.Identifier.{Identifier}
use Rattle.ir_names.specs.Identifier.{text_of}
use Rattle.ir_outlines.specs.Marks.{Beside}
use Rattle.ir_outlines.specs.Section as sections
use Rattle.ir_outlines.specs.Section.{Section, entry_among, attribute_of, attributes_of, beside_of}
use Rattle.outline_tables.specs.declared.entries.Entry.{Entry}
use Rattle.outline_tables.specs.declared.entries.Entry.TheVariants.{Bracketed, Single}
use Rattle.outline_tables.specs.declared.entries.Outlined.{Outlined}
use Rattle.outline_tables.specs.declared.entries.Reference.{Reference}
use Rattle.outline_tables.specs.declared.entries.Reference.TheVariants.{Here, AtMark}
use Rattle.outline_tables.specs.declared.errors.OutlineError.{OutlineError}
use Rattle.outline_tables.specs.declared.errors.OutlineError.TheVariants.{OutlineRedefined, UnknownOutline, UnknownInEntry, Memory}
use Rattle.outline_tables.specs.declared.tables.OutlineTable.{OutlineTable}

module _ {A : Type 0} where
  -- what stands under a key
  abbrev pub reference_of : Reference A → sections.Reference A
  reference_of (Here a) = sections.here a
  reference_of (AtMark n) = sections.at_mark n

  -- a key as its text, and what stands under it
  abbrev pub member_of : Identifier × Reference A → List ℕ × sections.Reference A
  member_of m = (text_of m.0, reference_of m.1)

  -- what stands under keys
  abbrev pub members_of : List (Identifier × Reference A) → List (List ℕ × sections.Reference A)
  members_of ms = map member_of ms

  -- attributes that were found, under the texts of their keys
  abbrev pub found_under : List (Bor Identifier × Bor A) → List (List ℕ × A)
  found_under ms = map (λ m. (text_of m.0.now, m.1.now)) ms

module _ {A L : Type 0} where
  -- what an index leads to
  abbrev pub entry_of : Entry A L → sections.Entry A L
  entry_of (Bracketed location attributes) = sections.bracketed location (members_of attributes.items)
  entry_of (Single a) = sections.single a

  -- the section whose entries the table has, in the order in which they were defined
  abbrev pub section_of : OutlineTable A L → Section A L
  section_of table = map (λ e. (e.0, entry_of e.1)) table.entries.entries

  -- what was found beside an item
  abbrev pub said_beside : Outlined A L → Beside A L
  said_beside found = record { attributes = found_under found.attributes.items; location = option_copied found.location }

  -- An entry isn't taken: one has its index, or memory was refused.
  abbrev pub RefusesEntry : Section A L → ℕ → OutlineError → Type 0
  RefusesEntry s index error = ((error ≡ OutlineRedefined) × IsSome (entry_among s index)) ⊎ ((error ≡ Memory) × (entry_among s index ≡ None))

  -- The attributes under these keys were found.
  abbrev pub HasAttributes : Section A L → List (Identifier × Reference A) → List (Bor Identifier × Bor A) → Type 0
  HasAttributes s references found = attributes_of s (members_of references) ≡ Some (found_under found)

  -- the number of the first key under which no attribute is found
  abbrev pub first_unknown : Section A L → List (List ℕ × sections.Reference A) → Option ℕ
  first_unknown s [] = None
  first_unknown s (m ∷ ms) = if is_some (attribute_of s m.1) then option_map suc (first_unknown s ms) else Some 0

  -- The attributes under these keys aren't told: there is a first one that isn't found, or memory was refused.
  abbrev pub LacksAttribute : Section A L → List (Identifier × Reference A) → OutlineError → Type 0
  LacksAttribute s references error = (error ≡ Memory) ⊎ ((index : ℕ) × (error ≡ UnknownInEntry index) × (first_unknown s (members_of references) ≡ Some index))

  -- what stands under the keys of an entry in brackets
  abbrev pub members_in : Option (sections.Entry A L) → Option (List (List ℕ × sections.Reference A))
  members_in None = None
  members_in (Some (sections.bracketed location members)) = Some members
  members_in (Some (sections.single a)) = None

  -- The index leads to an entry in brackets, and this is the number of the first key in it under which no attribute is found.
  abbrev pub IsUnknownIn : Section A L → (mark index : ℕ) → Type 0
  IsUnknownIn s mark index = (members : List (List ℕ × sections.Reference A)) × (members_in (entry_among s mark) ≡ Some members) × (first_unknown s members ≡ Some index)

  -- The mark leads to no entry in brackets; or it leads to one, and in that entry a mark leads to no single attribute, or memory was
  -- refused.
  abbrev pub LeadsNowhere : Section A L → ℕ → OutlineError → Type 0
  LeadsNowhere s mark UnknownOutline = members_in (entry_among s mark) ≡ None
  LeadsNowhere s mark (UnknownInEntry index) = IsUnknownIn s mark index
  LeadsNowhere s mark Memory = (members : List (List ℕ × sections.Reference A)) × (members_in (entry_among s mark) ≡ Some members)
  LeadsNowhere s mark OutlineRedefined = ⊥
