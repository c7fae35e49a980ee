-- What the parts of printing say of themselves.
use Rattle.std.specs.Prelude.{◌≡◌, ℕ, ◌<◌, ◌^◌, Bool, true, false, List, [], ◌++◌, Option, codes}
use Rattle.std.specs.Fmt.{decimal}
use Rattle.ir_names.specs.Tree.{node, no_tree, a_tree}
use Rattle.ir_names.specs.declared.kinds.Signedness.{Signedness}
use Rattle.ir_print.specs.declared.format.Number.{Number}
use Rattle.ir_print.specs.Formats.{Step, symbol_name}
use Rattle.ir_print.specs.Layout.{Chunk, spell, line, Before, an_id, a_word, a_part, Deeper, leaf_on, leaf_chunk, number_text, width_text, mark_text}
use Rattle.ir_print.specs.Pieces.{value_of_kind, list, item, chosen, operands, successor, region, leaf, Leaf, ValueTree, Pieces}
use Rattle.ir_print.specs.Shown.{AreDigitsOf, IsNumber, IsWidth, IsLeaf}
use Rattle.ir_print.specs.Shapes.{IsInRange}
use Rattle.ir_print.specs.declared.format.LeafValue.{LeafValue}
use Rattle.text_printing.specs.declared.words.Before as code
use Rattle.text_printing.specs.declared.words.Before.TheVariants as code_before

-- what stands before a step of a format, as the layout has it
abbrev pub before_of : code.Before → Before
before_of code_before.Id = an_id
before_of code_before.Literal = a_word
before_of code_before.Part = a_part

-- what stands before an operation of a block: `;` behind another one, and a line end
abbrev pub next_line : (is_first : Bool) (indent : ℕ) → List ℕ
next_line true n = line n
next_line false n = codes ";" ++ line n

-- a text that was written, where these chunks stand for the rest
abbrev pub AddsText : (old new : List ℕ) → List Chunk → List Chunk → Type 0
AddsText old new rest whole = new ++ spell rest ≡ old ++ spell whole

-- a number was written, where 64 bits hold it
abbrev pub AddsNumber : Option Number → (old new : List ℕ) → Type 0
AddsNumber n old new =
    (negative : Bool) (magnitude : ℕ) → IsNumber n negative magnitude → magnitude < 2 ^ 64 →
    new ≡ old ++ number_text negative magnitude

-- a number without a sign was written, where 64 bits hold it
abbrev pub AddsUnsigned : Option ℕ → (old new : List ℕ) → Type 0
AddsUnsigned n old new = (magnitude : ℕ) → AreDigitsOf n magnitude → magnitude < 2 ^ 64 → new ≡ old ++ decimal magnitude

-- a mark was written, where 64 bits hold its number
abbrev pub AddsMark : Option ℕ → (old new : List ℕ) → Type 0
AddsMark o old new = (n : ℕ) → AreDigitsOf o n → n < 2 ^ 64 → new ≡ old ++ mark_text n

-- a width was written, where 32 bits hold it
abbrev pub AddsWidth : Signedness → Option ℕ → (old new : List ℕ) → Type 0
AddsWidth sign w old new =
    (bits : ℕ) → IsWidth w bits → bits < 2 ^ 32 → new ≡ old ++ width_text sign bits

-- what stands before a leaf: `@` before the name of a symbol
abbrev pub sign_of : Step → List ℕ
sign_of symbol_name = codes "@"
sign_of _ = []

-- a leaf was written, at this step of a format
abbrev pub AddsLeaf : Step → LeafValue → (old new : List ℕ) → Type 0
AddsLeaf s l old new = (x : Leaf) (rest : List Chunk) → IsLeaf l x → IsInRange x → AddsText old new rest (leaf_on s (leaf_chunk x) rest)

abbrev mutual
  -- Leaves are those that can be read, and at most so many lists and choices stand in one another. What a type or an attribute
  -- says isn't looked at.
  pub IsReadable : ℕ → ValueTree → Type 0
  IsReadable d (node (value_of_kind sort n) ts) = Unit {0}
  IsReadable d (node list ts) = Deeper d (λ e. AreReadable e ts)
  IsReadable d (node item ts) = AreReadable d ts
  IsReadable d (node (chosen n) ts) = Deeper d (λ e. AreReadable e ts)
  IsReadable d (node (operands n) ts) = Unit {0}
  IsReadable d (node (successor n) ts) = Unit {0}
  IsReadable d (node region ts) = Unit {0}
  IsReadable d (node (leaf x) ts) = IsInRange x

  pub AreReadable : ℕ → Pieces → Type 0
  AreReadable d no_tree = Unit {0}
  AreReadable d (a_tree t ts) = IsReadable d t × AreReadable d ts
