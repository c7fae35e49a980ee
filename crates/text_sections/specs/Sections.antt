-- Sections as they are made of items.
use Rattle.std.specs.Prelude.{ℕ, ◌≡◌, Bool, List, length}
use Rattle.ir_outlines.specs.Marks.{marked}
use Rattle.ir_outlines.specs.Section.{once_of}
use Rattle.text_sections.specs.Items.{attributes_in, said_items, sharing}
use Rattle.text_sections.specs.declared.section.Section.{Section}

-- A section was made of its items: it has their print-once attributes, and counts those that are marked.
pub record IsMade {A L : Type 0} (is_once : List ℕ → A → Bool) (eq : A → A → Bool) (s : Section A L) : Type 0 where
  pub once : attributes_in s.once.keys ≡ once_of (sharing is_once eq) (marked (said_items s.items.now))
  pub marked : s.marked ≡ length (marked (said_items s.items.now))

-- all attributes and all locations can be printed
abbrev pub CanPrintParts : {A L : Type 0} → (A → Type 0) → (L → Type 0) → Type 0
CanPrintParts {A} {L} can_attribute can_location = ((a : A) → can_attribute a) × ((l : L) → can_location l)
