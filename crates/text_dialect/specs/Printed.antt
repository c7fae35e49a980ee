-- The names with which operations, regions and blocks of a context are printed.
use Rattle.std.specs.Prelude.{◌≡◌, ℕ, ◌+◌, List, [], ◌++◌, Option, Some, None, codes}
use Rattle.std.specs.Fmt.{decimal}
use Rattle.ir_names.specs.declared.identifier.Identifier.{Identifier}
use Rattle.ir_names.specs.Identifier.{text_of}
use Rattle.ir_program.specs.declared.handles.Ptr.{Ptr}
use Rattle.ir_program.specs.declared.handles.Operation.{Operation}
use Rattle.ir_program.specs.declared.handles.BasicBlock.{BasicBlock}
use Rattle.ir_program.specs.declared.handles.Value.{Value}
use Rattle.ir_print.specs.Pieces.{Entity}
use Rattle.ir_print.specs.Shown.{Saying}
use Rattle.text_dialect.specs.Seen.{SeenBlock, Seen}
use Rattle.text_dialect.specs.Standing.{Naming, HasTree}

-- the name of the value with a number: `v` and the number
abbrev pub value_name : ℕ → List ℕ
value_name number = codes "v" ++ decimal number

-- what stands before a block's own name: its label and `_`, where it has one
abbrev pub label_front : Option Identifier → List ℕ
label_front None = []
label_front (Some id) = text_of id ++ codes "_"

-- the name of the block in a slot, from 0, with a version: its label, `block`, the slot from 1, `v` and the version
abbrev pub block_name : (front : List ℕ) (slot version : ℕ) → List ℕ
block_name front slot version = front ++ (codes "block" ++ (decimal (slot + 1) ++ (codes "v" ++ decimal version)))

-- the value is printed so
abbrev pub IsValueName : Value → List ℕ → Type 0
IsValueName v name = name ≡ value_name v.number

-- the block is printed with this label
abbrev pub IsBlockName : Ptr BasicBlock → SeenBlock → List ℕ → Type 0
IsBlockName p b label = label ≡ block_name (label_front b.label) p.key.slot p.key.version

-- the names with which values and blocks are printed
abbrev pub printed_names : {K A T : Type 0} → Seen K A T → Naming (List ℕ)
printed_names s = record {
  value = IsValueName;
  block = λ p named. (v : SeenBlock) × (s.block p ≡ Some v) × IsBlockName p v named;
}

-- an operation is printed as a tree with these names
abbrev pub PrintsAs : {K A T : Type 0} → Saying K A T → Seen K A T → Ptr Operation → Entity (List ℕ) → Type 0
PrintsAs says s p t = HasTree says (printed_names s) IsBlockName s p t
