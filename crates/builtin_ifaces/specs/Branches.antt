-- Which operands a branch forwards along its edges, and when the blocks at their ends can take them.
use Rattle.std.specs.Prelude.{◌≡◌, ℕ, ◌+◌, ◌<◌, ◌≤◌, List, Option, Some, IfSome, length, slice_get, slice_range}
use Rattle.ir_program.specs.Program.{Program, argument_count, arguments_at, type_in}
use Rattle.ir_program.specs.Rows.{operands_at, successors_at}
use Rattle.ir_program.specs.declared.handles.Ptr.{Ptr}
use Rattle.ir_program.specs.declared.handles.Operation.{Operation}
use Rattle.ir_program.specs.declared.handles.BasicBlock.{BasicBlock}
use Rattle.ir_program.specs.declared.handles.Value.{Value}
use Rattle.ir_context.specs.Kept.{kind_at}
use Rattle.ir_context.specs.declared.notes.OperationData.{OperationData}
use Rattle.op_ifaces.specs.Rows.{row_type}
use Rattle.op_ifaces.specs.declared.rows.Row.TheVariants.{Operands}
use Rattle.builtin_ifaces.specs.Segments.{HasSegment}
use Rattle.builtin_tables.specs.declared.dialect.SuccessorLayout.{SuccessorLayout}
use Rattle.builtin_tables.specs.declared.dialect.SuccessorLayout.TheVariants.{Trailing, Segments}

module _ {D TypeKind AttrKind TypeBody Saved Location OpKind Attr TypeKey B : Type 0} (held_sizes : Attr → Option (List ℕ)) (segment_count : OpKind → List (List ℕ × Attr) → ℕ) (c : Program (OperationData D TypeKind AttrKind TypeBody Saved Location OpKind Attr TypeKey) B) (op : Ptr Operation) where
  -- the operands from the start up to the end, which is not among them, are forwarded along the edge with this number
  abbrev pub ForwardsRange : SuccessorLayout → ℕ → ℕ → ℕ → Type 0
  ForwardsRange (Trailing from) s start end = (start ≡ from) × (end ≡ length (operands_at c op)) × (from ≤ end)
  ForwardsRange (Segments first) s start end = HasSegment held_sizes segment_count c op (first + s) start end

  module _ (layout : SuccessorLayout) where
    -- the operands that are forwarded along the edge have the types of the block's arguments, in number and order
    pub record SuccessorFits (s : ℕ) (block : Ptr BasicBlock) : Type 0 where
      pub start : ℕ
      pub end : ℕ
      pub forwards : ForwardsRange layout s start end
      pub many : start + argument_count c block ≡ end
      pub types : (k : ℕ) → k < argument_count c block → row_type c op Operands (start + k) ≡ type_in (arguments_at c block) k

    -- each edge fits
    abbrev pub SuccessorsFit : Type 0
    SuccessorsFit = (s : ℕ) (block : Ptr BasicBlock) → slice_get (successors_at c op) s ≡ Some block → SuccessorFits s block

    -- these are the operands that are forwarded along the edge
    pub record AreSuccessorOperands (s : ℕ) (values : List Value) : Type 0 where
      pub start : ℕ
      pub end : ℕ
      pub forwards : ForwardsRange layout s start end
      pub values_are : values ≡ slice_range (operands_at c op) start end

  -- each edge fits, in the layout that operations of the kind have
  abbrev pub BranchFits : (OpKind → SuccessorLayout) → Type 0
  BranchFits layout = IfSome (kind_at c op) (λ kind. SuccessorsFit (layout kind))
