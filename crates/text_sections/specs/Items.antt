-- What stands beside the items of a text, as it is handed in to be printed.
use Rattle.std.specs.Prelude.{ℕ, Bool, List, map, flat_map}
use Rattle.std.specs.Borrow.{Bor}
use Rattle.ir_outlines.specs.Marks.{Beside, marked}
use Rattle.ir_outlines.specs.Section.{Sharing, Reference, once_in, reference}
use Rattle.outline_tables.specs.Tables.{said_beside}
use Rattle.outline_tables.specs.declared.entries.Outlined.{Outlined}

-- what stands beside each item
abbrev pub said_items : {A L : Type 0} → List (Outlined A L) → List (Beside A L)
said_items items = map said_beside items

-- the attributes that references lead to
abbrev pub attributes_in : {A : Type 0} → List (Bor A) → List A
attributes_in references = map (λ a. a.now) references

-- which attributes are printed once, and which are one
abbrev pub sharing : {A : Type 0} → (List ℕ → A → Bool) → (A → A → Bool) → Sharing A
sharing is_once eq = record { is_once = is_once; is_same = eq }

-- what stands under the keys of an item: its attributes, or the marks of those that are printed once, which have marks from `base` on
abbrev pub members_beside : {A : Type 0} → Sharing A → (base : ℕ) → List A → List (List ℕ × A) → List (List ℕ × Reference A)
members_beside d base once ms = map (reference d base once) ms

-- the attributes of marked items that are printed once, in order, as often as they are there
abbrev pub once_among : {A L : Type 0} → Sharing A → List (Beside A L) → List A
once_among {A} {L} d bs = flat_map (λ (b : Beside A L). once_in d b.attributes) (marked bs)
