-- What is answered of a segment whose operands aren't as wanted.
use Rattle.std.specs.Prelude.{ℕ, List, Option}
use Rattle.ir_program.specs.Program.{Program}
use Rattle.ir_program.specs.declared.handles.Ptr.{Ptr}
use Rattle.ir_program.specs.declared.handles.Operation.{Operation}
use Rattle.ir_context.specs.declared.notes.OperationData.{OperationData}
use Rattle.builtin_ifaces.specs.Segments.{HasSegment}
use Rattle.symbol_ifaces.specs.declared.segment_types.SegmentNImplsTyErr.{SegmentNImplsTyErr}
use Rattle.symbol_ifaces.specs.declared.segment_types.SegmentNImplsTyErr.TheVariants.{SegmentNotFound, Impls}

-- a dialect and its types; `held_sizes` says which sizes an attribute holds, and `segment_count` how many segments the operands of an operation of a kind with these attributes are in
module _ {D TypeKind AttrKind TypeBody Saved Location OpKind Attr TypeKey B : Type 0} (held_sizes : Attr → Option (List ℕ)) (segment_count : OpKind → List (List ℕ × Attr) → ℕ) (c : Program (OperationData D TypeKind AttrKind TypeBody Saved Location OpKind Attr TypeKey) B) (op : Ptr Operation) (s : ℕ) where
  -- the operands are in segments, and one has this number
  abbrev pub IsThere : Type 0
  IsThere = (start : ℕ) × (end : ℕ) × HasSegment held_sizes segment_count c op s start end

  -- what a fault says: that there is no such segment, or that there is one
  abbrev pub IsFaultOf : SegmentNImplsTyErr → Type 0
  IsFaultOf (SegmentNotFound n) = IsThere → ⊥
  IsFaultOf (Impls fault) = IsThere
