-- The section of outlined attributes: what marks lead to.
use Rattle.std.specs.Prelude.{◌≡◌, ℕ, suc, ◌+◌, ◌==◌, List, [], ◌∷◌, ◌++◌, map, length, flat_map, Bool, true, Option, Some, None, if◌then◌else◌}
use Rattle.std.specs.List.{list_any}
use Rattle.ir_outlines.specs.Marks.{Beside, marked}

-- what stands under a key of an entry: an attribute, or a mark that leads to one
pub data Reference (A : Type 0) : Type 0 where
  here : A → Reference A
  at_mark : ℕ → Reference A

-- an entry: what an item has beside the tree, or a single attribute
pub data Entry (A L : Type 0) : Type 0 where
  bracketed : Option L → List (List ℕ × Reference A) → Entry A L
  single : A → Entry A L

-- entries with their indices, in the order of the text
abbrev pub Section : Type 0 → Type 0 → Type 0
Section A L = List (ℕ × Entry A L)

-- their indices
abbrev pub indices_of : {A L : Type 0} → Section A L → List ℕ
indices_of s = map (λ e. e.0) s

-- ---- printing

-- What a dialect says: whether an attribute under a key is printed once, and whether two attributes are one.
pub record Sharing (A : Type 0) : Type 0 where
  pub is_once : List ℕ → A → Bool
  pub is_same : A → A → Bool

-- two attributes are one exactly where they are equal
pub record IsSameExactly {A : Type 0} (d : Sharing A) : Type 0 where
  pub same : (x y : A) → d.is_same x y ≡ true → x ≡ y
  pub itself : (x : A) → d.is_same x x ≡ true

module _ {A : Type 0} (d : Sharing A) where
  -- the attributes that are printed once
  abbrev pub once_in : List (List ℕ × A) → List A
  once_in [] = []
  once_in (m ∷ ms) = if d.is_once m.0 m.1 then m.1 ∷ once_in ms else once_in ms

  -- the attributes seen so far, with these, each once, in order of first mention
  abbrev pub with_distinct : List A → List A → List A
  with_distinct seen [] = seen
  with_distinct seen (x ∷ xs) = with_distinct (if list_any (d.is_same x) seen then seen else seen ++ x ∷ []) xs

  -- the place of an attribute among others
  abbrev pub index_of : List A → A → ℕ
  index_of [] x = 0
  index_of (y ∷ ys) x = if d.is_same x y then 0 else suc (index_of ys x)

  -- an attribute under its key, or the mark of one that is printed once; these have marks from `base` on
  abbrev pub reference : ℕ → List A → List ℕ × A → List ℕ × Reference A
  reference base once m = (m.0, if d.is_once m.0 m.1 then at_mark (base + index_of once m.1) else here m.1)

-- entries with indices from n on
abbrev pub indexed : {A L : Type 0} → ℕ → List (Entry A L) → Section A L
indexed n [] = []
indexed n (e ∷ es) = (n, e) ∷ indexed (n + 1) es

module _ {A L : Type 0} (d : Sharing A) where
  -- the print-once attributes of some items
  abbrev pub once_of : List (Beside A L) → List A
  once_of bs = with_distinct d [] (flat_map (λ (b : Beside A L). once_in d b.attributes) bs)

  abbrev pub entry : ℕ → List A → Beside A L → Entry A L
  entry base once b = bracketed b.location (map (reference d base once) b.attributes)

  -- the entries of marked items, in the order of their marks, and then the print-once attributes
  abbrev pub entries_of : List (Beside A L) → List (Entry A L)
  entries_of ms = map (entry (length ms) (once_of ms)) ms ++ map single (once_of ms)

  -- the section that is printed behind items with these beside them
  abbrev pub section_of : List (Beside A L) → Section A L
  section_of bs = indexed 0 (entries_of (marked bs))

-- ---- resolving

-- what two options hold together, where both hold something
abbrev pub both : {X Y Z : Type 0} → Option X → Option Y → (X → Y → Z) → Option Z
both (Some x) (Some y) f = Some (f x y)
both (Some x) None f = None
both None o f = None

-- the entry with an index: the first, where several have it
abbrev pub entry_among : {A L : Type 0} → Section A L → ℕ → Option (Entry A L)
entry_among [] n = None
entry_among (e ∷ es) n = if e.0 == n then Some e.1 else entry_among es n

-- a mark in an entry leads to a single attribute
abbrev pub single_in : {A L : Type 0} → Option (Entry A L) → Option A
single_in None = None
single_in (Some (bracketed l ms)) = None
single_in (Some (single a)) = Some a

-- what an item has beside the tree, where its attributes are known
abbrev pub with_location : {A L : Type 0} → Option L → Option (List (List ℕ × A)) → Option (Beside A L)
with_location l None = None
with_location l (Some ms) = Some (record { attributes = ms; location = l })

module _ {A L : Type 0} (s : Section A L) where
  abbrev pub attribute_of : Reference A → Option A
  attribute_of (here a) = Some a
  attribute_of (at_mark n) = single_in (entry_among s n)

  abbrev pub attributes_of : List (List ℕ × Reference A) → Option (List (List ℕ × A))
  attributes_of [] = Some []
  attributes_of (m ∷ ms) = both (attribute_of m.1) (attributes_of ms) (λ a as_. (m.0, a) ∷ as_)

  -- the mark of an item leads to a bracketed entry
  abbrev pub bracketed_in : Option (Entry A L) → Option (Beside A L)
  bracketed_in None = None
  bracketed_in (Some (bracketed l ms)) = with_location l (attributes_of ms)
  bracketed_in (Some (single a)) = None

  -- what stands beside an item with this mark, or with none
  abbrev pub beside_of : Option ℕ → Option (Beside A L)
  beside_of None = Some (record { attributes = []; location = None })
  beside_of (Some n) = bracketed_in (entry_among s n)

  -- What stands beside items with these marks: None where a mark leads to nothing that it may lead to. Several items may have one mark,
  -- and entries that no mark leads to are dropped.
  abbrev pub besides_in : List (Option ℕ) → Option (List (Beside A L))
  besides_in [] = Some []
  besides_in (m ∷ ms) = both (beside_of m) (besides_in ms) (λ b bs. b ∷ bs)
