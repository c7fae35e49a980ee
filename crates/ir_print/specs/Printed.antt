-- The names with which values and blocks are printed.
use Rattle.std.specs.Prelude.{◌≡◌, ℕ, ◌+◌, List, [], ◌++◌, Option, Some, None, codes}
use Rattle.std.specs.Fmt.{decimal}
use Rattle.ir_names.specs.declared.identifier.Identifier.{Identifier}
use Rattle.ir_names.specs.Identifier.{text_of}

-- the name of the value with a number: `v` and the number
abbrev pub value_name : ℕ → List ℕ
value_name number = codes "v" ++ decimal number

-- what stands before a block's own name: its label and `_`, where it has one
abbrev pub label_front : Option Identifier → List ℕ
label_front None = []
label_front (Some id) = text_of id ++ codes "_"

-- A block's label is this text: the empty one where it has none.
abbrev pub IsLabel : Option Identifier → List ℕ → Type 0
IsLabel (Some id) text = text_of id ≡ text
IsLabel None text = text ≡ []

-- the name of the block in a slot, from 0, with a version: its label, `block`, the slot from 1, `v` and the version
abbrev pub block_name : (front : List ℕ) (slot version : ℕ) → List ℕ
block_name front slot version = front ++ (codes "block" ++ (decimal (slot + 1) ++ (codes "v" ++ decimal version)))
