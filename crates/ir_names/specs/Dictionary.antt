-- What a contract sees of an attribute dictionary: its names, byte by byte, with their attributes, in order.
use Rattle.std.specs.Prelude.{◌≡◌, ℕ, Bool, true, false, List, [], ◌∷◌, ◌++◌, Option, Some, None, option_map, if◌then◌else◌, map, bytes_eq, String}
use Rattle.std.specs.List.{list_all, list_any, AllZip, IsDistinct}
use Rattle.std.specs.Borrow.{Bor}
use Rattle.std.specs.HashMap.{entries_eq}
use Rattle.std.specs.Option.{option_eq}
use Rattle.std.specs.Map.{lookup, remove_entry}
use Rattle.std.specs.String.{string_bytes}
use Rattle.ir_names.specs.Text.{is_identifier}
use Rattle.ir_names.specs.declared.dictionary.Entry.{Entry}

-- entries with their names as bytes
abbrev pub named_entries : {X Y : Type 0} → List (String Y × X) → List (List ℕ × X)
named_entries es = map (λ e. (string_bytes e.0, e.1)) es

-- an entry, with its name as bytes
abbrev pub named : {D K A T : Type 0} → Entry D K A T → List ℕ × A
named e = (string_bytes e.name, e.attr)

-- there is an entry, and it has the name
abbrev pub is_under : {D K A T : Type 0} → Option (Entry D K A T) → List ℕ → Bool
is_under None key = false
is_under (Some e) key = bytes_eq key (string_bytes e.name)

-- entries behind a first one, if there is one
abbrev pub with_first : {E : Type 0} → Option E → List E → List E
with_first None es = es
with_first (Some e) es = e ∷ es

-- these entries with their names as bytes
unfoldable pub all_entries : {D K A T Y : Type 0} → Option (Entry D K A T) → List (String Y × A) → List (List ℕ × A)
all_entries first others = with_first (option_map named first) (named_entries others)

-- what references to texts lead to
abbrev pub texts : List (Bor (List ℕ)) → List (List ℕ)
texts names = map (λ name. name.now) names

module _ {X : Type 0} where
  -- the attribute under a name
  abbrev pub attribute_at : List (List ℕ × X) → List ℕ → Option X
  attribute_at es key = lookup (bytes_eq key) es

  -- the entries after an attribute is put under a name: a name that is there keeps its place, and a new one goes last
  abbrev pub with_attribute : List (List ℕ × X) → List ℕ → X → List (List ℕ × X)
  with_attribute [] key attr = (key, attr) ∷ []
  with_attribute (e ∷ es) key attr = if bytes_eq key e.0 then (e.0, attr) ∷ es else e ∷ with_attribute es key attr

  -- the attribute stands under the name, and under each other name what stood there
  abbrev pub SetsAttribute : List (List ℕ × X) → List (List ℕ × X) → List ℕ → X → Type 0
  SetsAttribute old new key attr = (other : List ℕ) → attribute_at new other ≡ (if bytes_eq key other then Some attr else attribute_at old other)

  -- the names, in their order
  abbrev pub names_of : List (List ℕ × X) → List (List ℕ)
  names_of es = map (λ e. e.0) es

  -- no name stands twice
  abbrev pub AreNamesDistinct : List (List ℕ × X) → Type 0
  AreNamesDistinct es = IsDistinct bytes_eq (names_of es)

  -- each name is the text of an identifier
  abbrev pub AreNamesIdentifiers : List (List ℕ × X) → Type 0
  AreNamesIdentifiers es = list_all is_identifier (names_of es) ≡ true

  -- the entries are those of a dictionary
  pub record AreEntries (es : List (List ℕ × X)) : Type 0 where
    pub distinct : AreNamesDistinct es
    pub identifiers : AreNamesIdentifiers es

  -- the entries without the one under a name; the others keep their order
  abbrev pub without_attribute : List (List ℕ × X) → List ℕ → List (List ℕ × X)
  without_attribute es key = remove_entry (bytes_eq key) es

  -- nothing stands under the name, and under each other name what stood there
  abbrev pub RemovesAttribute : List (List ℕ × X) → List (List ℕ × X) → List ℕ → Type 0
  RemovesAttribute old new key = (other : List ℕ) → attribute_at new other ≡ (if bytes_eq key other then None else attribute_at old other)

  -- the entries have the name
  abbrev pub contains_name : List (List ℕ × X) → List ℕ → Bool
  contains_name es name = list_any (bytes_eq name) (names_of es)

  module _ (eq : X → X → Bool) where
    -- an entry of the same name, whose attribute equals the other's
    abbrev pub IsCopy : List ℕ × X → List ℕ × X → Type 0
    IsCopy e copy = (copy.0 ≡ e.0) × (eq copy.1 e.1 ≡ true)

    -- the same names in the same order, and under each an attribute that equals the other's
    abbrev pub AreCopies : List (List ℕ × X) → List (List ℕ × X) → Type 0
    AreCopies es copies = AllZip IsCopy es copies

    -- a copy of the entry stands behind the others
    pub record AddsCopy (old new : List (List ℕ × X)) (e : List ℕ × X) : Type 0 where
      pub copy : List ℕ × X
      pub added : new ≡ old ++ copy ∷ []
      pub same : IsCopy e copy

    -- both have attributes under the same names, and equal ones, in whatever order
    abbrev pub are_equal : List (List ℕ × X) → List (List ℕ × X) → Bool
    are_equal es fs = entries_eq bytes_eq (λ e f. eq e.1 f.1) es fs

    -- an attribute stands under the entry's name, and the entry's equals it
    abbrev pub agrees : List (List ℕ × X) → List ℕ × X → Bool
    agrees es e = option_eq eq (Some e.1) (attribute_at es e.0)
