-- Operands in segments: which of them each segment has.
use Rattle.std.specs.Prelude.{◌≡◌, ℕ, ◌+◌, ◌<◌, List, Option, Some, option_map, length, slice_range, sum, take, Bool}
use Rattle.ir_base.specs.declared.types.TypeHandle.{TypeHandle}
use Rattle.ir_program.specs.Program.{Program}
use Rattle.ir_program.specs.Rows.{operands_at}
use Rattle.ir_program.specs.Lent.{payload_at}
use Rattle.ir_program.specs.declared.handles.Ptr.{Ptr}
use Rattle.ir_program.specs.declared.handles.Operation.{Operation}
use Rattle.ir_program.specs.declared.handles.Value.{Value}
use Rattle.ir_context.specs.declared.notes.OperationData.{OperationData}
use Rattle.op_ifaces.specs.Rows.{row_length, row_type}
use Rattle.op_ifaces.specs.Rules.{AllPassIn}
use Rattle.op_ifaces.specs.declared.rows.Row.TheVariants.{Operands}
use Rattle.builtin_ifaces.specs.Attributes.{held_under}
use Rattle.builtin_tables.specs.Keys.{segment_sizes}

-- there is a segment with this number; it begins behind those before it, and ends where the next one begins. The end is not in it
pub record IsSegmentAt (sizes : List ℕ) (s start end : ℕ) : Type 0 where
  pub there : s < length sizes
  pub begins : start ≡ sum (take s sizes)
  pub ends : end ≡ sum (take (s + 1) sizes)

-- a dialect and its types; `held_sizes` says which sizes an attribute holds, and `segment_count` how many segments the operands of an operation of a kind with these attributes are in
module _ {D TypeKind AttrKind TypeBody Saved Location OpKind Attr TypeKey B : Type 0} (held_sizes : Attr → Option (List ℕ)) (segment_count : OpKind → List (List ℕ × Attr) → ℕ) (c : Program (OperationData D TypeKind AttrKind TypeBody Saved Location OpKind Attr TypeKey) B) (op : Ptr Operation) where
  -- the sizes that the attribute under the key for them holds
  abbrev pub sizes_at : Option (List ℕ)
  sizes_at = held_under c op held_sizes segment_sizes

  -- how many segments the dialect expects
  abbrev pub expected_segments : Option ℕ
  expected_segments = option_map (λ o. segment_count o.kind o.notes.attributes) (payload_at c op)

  -- these are the sizes of the segments: an attribute holds them, there are as many as expected, and they add up to the operands
  pub record AreSegmentSizes (sizes : List ℕ) : Type 0 where
    pub held : sizes_at ≡ Some sizes
    pub many : expected_segments ≡ Some (length sizes)
    pub all : sum sizes ≡ length (operands_at c op)

  -- the operands are in segments
  abbrev pub HasSegments : Type 0
  HasSegments = (sizes : List ℕ) × AreSegmentSizes sizes

  -- the operands from the start up to the end, which is not among them, are the segment with this number
  pub record HasSegment (s start end : ℕ) : Type 0 where
    pub sizes : List ℕ
    pub are : AreSegmentSizes sizes
    pub within : IsSegmentAt sizes s start end

  -- these are the operands of the segment with this number
  pub record AreSegmentOperands (s : ℕ) (values : List Value) : Type 0 where
    pub start : ℕ
    pub end : ℕ
    pub is : HasSegment s start end
    pub values_are : values ≡ slice_range (operands_at c op) start end

  -- there is a segment with this number, and the type of each of its operands passes the test
  pub record SegmentPasses (test : TypeHandle → Bool) (s : ℕ) : Type 0 where
    pub start : ℕ
    pub end : ℕ
    pub is : HasSegment s start end
    pub pass : AllPassIn (row_type c op Operands) (row_length c op Operands) test start end
