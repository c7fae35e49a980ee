-- What an operation is printed as for debugging: without what stands in its regions, and without types and attributes.
use Rattle.std.specs.Prelude.{ℕ, zero, suc, ◌+◌, List, [], ◌∷◌, ◌++◌, length, map, Option, None, Some, codes, option_and_then}
use Rattle.std.specs.Fmt.{decimal}
use Rattle.std.specs.List.{flat_map}
use Rattle.std.specs.Option.{option_map_or}
use Rattle.ir_names.specs.Identifier.{text_of}
use Rattle.ir_names.specs.Names.{dotted}
use Rattle.ir_names.specs.declared.identifier.Identifier.{Identifier}
use Rattle.ir_context.specs.Kept.{kind_at, label_at}
use Rattle.ir_context.specs.declared.notes.BlockNotes.{BlockNotes}
use Rattle.ir_context.specs.declared.notes.OperationData.{OperationData}
use Rattle.ir_program.specs.Lists.{regions_in}
use Rattle.ir_program.specs.Program.{Program, TypedValue, results_at}
use Rattle.ir_program.specs.Rows.{operands_at, successors_at}
use Rattle.ir_program.specs.declared.handles.BasicBlock.{BasicBlock}
use Rattle.ir_program.specs.declared.handles.Operation.{Operation}
use Rattle.ir_program.specs.declared.handles.Ptr.{Ptr}
use Rattle.ir_program.specs.declared.handles.Value.{Value}
use Rattle.debug_printing.specs.declared.rows.Row.{Row}
use Rattle.debug_printing.specs.declared.rows.Row.TheVariants.{Results, Operands, Successors}

-- `v` and the number of a value
abbrev pub value_name : Value → List ℕ
value_name v = codes "v" ++ decimal v.number

-- a label and `_`, if there is a label
abbrev pub label_front : Option Identifier → List ℕ
label_front None = []
label_front (Some id) = text_of id ++ codes "_"

-- `^`, the block's label and `_`, `block` and its slot from 1, `v` and its version
abbrev pub labelled_name : Ptr BasicBlock → Option Identifier → List ℕ
labelled_name p label = codes "^" ++ (label_front label ++ (codes "block" ++ (decimal (p.key.slot + 1) ++ (codes "v" ++ decimal p.key.version))))

-- what stands before a member of a list: nothing before the first
abbrev pub separator_before : ℕ → List ℕ
separator_before zero = []
separator_before (suc k) = codes ", "

-- texts with `, ` between them
abbrev pub joined : List (List ℕ) → List ℕ
joined [] = []
joined (t ∷ ts) = t ++ flat_map (λ (text : List ℕ). codes ", " ++ text) ts

-- ` = ` behind the names of results, if there are any
abbrev pub results_text : List (List ℕ) → List ℕ
results_text [] = []
results_text (t ∷ ts) = joined (t ∷ ts) ++ codes " = "

-- the names of successors in brackets, if there are any
abbrev pub successors_text : List (List ℕ) → List ℕ
successors_text [] = []
successors_text (t ∷ ts) = codes " [" ++ (joined (t ∷ ts) ++ codes "]")

-- ` {..}` for each of so many regions
abbrev pub regions_text : ℕ → List ℕ
regions_text zero = []
regions_text (suc n) = regions_text n ++ codes " {..}"

-- a dialect and its types
module _ {D TypeKind AttrKind TypeBody Saved Location OpKind Attr TypeKey : Type 0} where
  module _ (c : Program (OperationData D TypeKind AttrKind TypeBody Saved Location OpKind Attr TypeKey) (BlockNotes D TypeKind AttrKind TypeBody Saved Location OpKind Attr TypeKey)) where
    -- the name of a block, with its label, if it has one
    abbrev pub block_name : Ptr BasicBlock → List ℕ
    block_name p = labelled_name p (option_and_then (λ (label : Option Identifier). label) (label_at c p))

    module _ (op : Ptr Operation) where
      -- the names in a row of an operation
      abbrev pub names_in : Row → List (List ℕ)
      names_in Results = map (λ (t : TypedValue). value_name t.value) (results_at c op)
      names_in Operands = map value_name (operands_at c op)
      names_in Successors = map block_name (successors_at c op)

      -- `v3, v4 = dialect.name(v1, v2) [^block1v1] {..}`: what an operation with this id is printed as
      abbrev pub operation_text : List ℕ → List ℕ
      operation_text id =
          results_text (names_in Results)
          ++ (id ++ (codes "(" ++ (joined (names_in Operands) ++ (codes ")"
          ++ (successors_text (names_in Successors) ++ regions_text (length (regions_in c op)))))))

      -- what an operation of kinds with these names is printed as, or that the handle leads to none
      abbrev pub debug_text : (OpKind → List ℕ × List ℕ) → List ℕ
      debug_text names = option_map_or (λ kind. operation_text (dotted (names kind))) (kind_at c op) (codes "<no operation>")
