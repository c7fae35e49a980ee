-- The lines of a section.
use Rattle.std.specs.Prelude.{ℕ, ◌≡◌, ◌++◌, List, map, flat_map, codes}
use Rattle.ir_print.specs.Layout.{mark_text}
use Rattle.ir_outlines.specs.Marks.{Beside, marked}
use Rattle.ir_outlines.specs.Section.{Sharing, entry, indexed, single}
use Rattle.text_sections.specs.Texts.{Token, line_tokens}

-- the lines of those of these items that are marked, whose indices are the numbers from n on
abbrev pub item_lines : {A L : Type 0} → Sharing A → (base : ℕ) → List A → (n : ℕ) → List (Beside A L) → List (Token A L)
item_lines d base once n bs = flat_map line_tokens (indexed n (map (entry d base once) (marked bs)))

-- the lines of attributes that are printed once
abbrev pub once_lines : {A L : Type 0} → ℕ → List A → List (Token A L)
once_lines n as_ = flat_map line_tokens (indexed n (map single as_))

-- a line with an index was written, and what is printed so as its entry
abbrev pub AddsLine : (List ℕ → Type 0) → ℕ → (old new : List ℕ) → Type 0
AddsLine prints index old new = (bytes : List ℕ) × prints bytes × (new ≡ (((old ++ mark_text index) ++ codes " = ") ++ bytes) ++ codes "\n")
