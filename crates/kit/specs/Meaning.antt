-- What the optimisations ask of operations and blocks of `kit`.
use Rattle.std.specs.Prelude.{ℕ, zero, suc, ◌+◌, ◌-◌, Bool, true, false, not, ◌&&◌, List, [], ◌∷◌, Option, Some, None}
use Rattle.std.specs.Prelude.{if◌then◌else◌, nat_eq, nat_le, min, length, replicate, slice_index}
use Rattle.ir_base.specs.declared.types.TypeHandle.{TypeHandle}
use Rattle.ir_names.specs.declared.interfaces.OpInterface.TheVariants as op
use Rattle.ir_names.specs.declared.kinds.Signedness.TheVariants.{Signless}
use Rattle.ir_names.specs.Dictionary.{attribute_at, with_attribute}
use Rattle.ir_context.specs.declared.notes.OperationData.{OperationData}
use Rattle.ir_context.specs.declared.notes.BlockNotes.{BlockNotes}
use Rattle.ir_trees.specs.Renames.{holding}
use Rattle.opt_trees.specs.Dialect.{Dialect}
use Rattle.kit_ops.specs.declared.attributes.IntegerAttr.{IntegerAttr}
use Rattle.kit_ops.specs.declared.attributes.KitAttr.{KitAttr}
use Rattle.kit_ops.specs.declared.attributes.KitAttr.TheVariants as attrs
use Rattle.kit_ops.specs.declared.attributes.KitAttrKind.{KitAttrKind}
use Rattle.kit_ops.specs.declared.attributes.KitLocation.{KitLocation}
use Rattle.kit_ops.specs.declared.attributes.KitLocation.TheVariants.{Unknown}
use Rattle.kit.specs.declared.dialect.Kit.{Kit}
use Rattle.kit.specs.declared.dialect.Unused.{Unused}
use Rattle.kit_ops.specs.declared.arithmetic.Arithmetic.{Arithmetic}
use Rattle.kit_ops.specs.declared.arithmetic.Comparison.{Comparison}
use Rattle.kit_ops.specs.declared.kinds.KitOp.{KitOp}
use Rattle.kit_ops.specs.declared.kinds.KitOp.TheVariants as ops
use Rattle.kit_ops.specs.declared.types.KitType.{KitType}
use Rattle.kit_ops.specs.declared.types.KitTypeKind.{KitTypeKind}
use Rattle.kit_ops.specs.Arithmetic.{calc, compare}
use Rattle.kit.specs.Dropped.{less_sizes, less_names}
use Rattle.kit_ops.specs.Keys.{constant_value, segment_sizes, given_names}
use Rattle.kit_ops.specs.Table.{row_of, has_interface}

-- what an operation of the dialect carries
abbrev pub KitOperation : Type 0
KitOperation = OperationData Kit KitTypeKind KitAttrKind Unused Unused KitLocation KitOp KitAttr KitType

-- what a block carries
abbrev pub KitBlock : Type 0
KitBlock = BlockNotes Kit KitTypeKind KitAttrKind Unused Unused KitLocation KitOp KitAttr KitType

-- attributes under their names
abbrev pub Entries : Type 0
Entries = List (List ℕ × KitAttr)

-- folds

-- the integer that an attribute is, if it is one
abbrev pub integer_in : Option KitAttr → Option IntegerAttr
integer_in (Some (attrs.Integer a)) = Some a
integer_in _ = None

-- the numbers are of one type, of 1 to 64 bits
abbrev pub are_numbers : IntegerAttr → IntegerAttr → Bool
are_numbers a b = nat_eq a.ty.number b.ty.number && (nat_le 1 a.integer.width && nat_le a.integer.width 64)

-- the integer with other bits, if there are any
abbrev pub with_bits : IntegerAttr → Option ℕ → Option IntegerAttr
with_bits a None = None
with_bits a (Some n) = Some (record a { bits = n })

-- what arithmetic gives for two integers: one of their type
abbrev pub calculated : Arithmetic → IntegerAttr → IntegerAttr → Option IntegerAttr
calculated k a b = if are_numbers a b then with_bits a (calc k a.integer.width a.bits b.bits) else None

-- the bit of a type: 1 where something holds, and else 0
abbrev pub bit_of : TypeHandle → Bool → IntegerAttr
bit_of t holds = record {
  ty = t;
  integer = record { signedness = Signless; width = 1 };
  bits = if holds then 1 else 0;
}

-- what a comparison whose result has this type gives for two integers
abbrev pub compared : Comparison → TypeHandle → IntegerAttr → IntegerAttr → Option IntegerAttr
compared k t a b = if are_numbers a b then Some (bit_of t (compare k a.bits b.bits)) else None

-- what is given for two operands that are both known
abbrev pub of_both : (IntegerAttr → IntegerAttr → Option IntegerAttr) → List (Option IntegerAttr) → Option IntegerAttr
of_both f (Some a ∷ Some b ∷ []) = f a b
of_both f _ = None

-- what the result of an operation is, if its type is the third argument, by what is known of its operands
abbrev pub value_of : KitOp → Entries → TypeHandle → List (Option IntegerAttr) → Option IntegerAttr
value_of ops.Constant es t xs = integer_in (attribute_at es constant_value)
value_of (ops.Arithmetic k) es t xs = of_both (calculated k) xs
value_of (ops.Comparison k) es t xs = of_both (compared k t) xs
value_of _ es t xs = None

-- the integer, if it has this type
abbrev pub if_of_type : TypeHandle → Option IntegerAttr → Option IntegerAttr
if_of_type t None = None
if_of_type t (Some a) = if nat_eq a.ty.number t.number then Some a else None

-- one answer for each result, and a known one only where there is one result
abbrev pub fold_of : KitOp → Entries → List TypeHandle → List (Option IntegerAttr) → List (Option IntegerAttr)
fold_of k es [] xs = []
fold_of k es (t ∷ []) xs = if_of_type t (value_of k es t xs) ∷ []
fold_of k es (t ∷ (u ∷ ts)) xs = replicate (length (t ∷ (u ∷ ts))) None

-- branches

-- the edge that a condition picks, if it is known: the first on 1, and else the second
abbrev pub picked_by : Option IntegerAttr → Option ℕ
picked_by None = None
picked_by (Some a) = Some (if nat_eq a.bits 1 then 0 else 1)

-- what is known of the first operand
abbrev pub condition : List (Option IntegerAttr) → Option IntegerAttr
condition [] = None
condition (x ∷ xs) = x

-- the edge that a branch takes, if it is known: the one of an unconditional branch, and what its condition picks
abbrev pub edge_of : KitOp → List (Option IntegerAttr) → Option ℕ
edge_of ops.CondBr xs = picked_by (condition xs)
edge_of ops.Br xs = Some 0
edge_of _ xs = None

-- whether the edge is the one that is picked; any may be, where none is
abbrev pub is_picked : Option ℕ → ℕ → Bool
is_picked None i = true
is_picked (Some j) i = nat_eq j i

-- whether an edge may be taken: of a conditional branch whose condition is known, the one that it picks
abbrev pub feasible_of : KitOp → List (Option IntegerAttr) → ℕ → Bool
feasible_of ops.CondBr xs i = is_picked (picked_by (condition xs)) i
feasible_of _ xs i = true

-- so many indices from the first one on
abbrev pub range : ℕ → ℕ → List ℕ
range s zero = []
range s (suc n) = s ∷ range (suc s) n

-- the sizes of segments that an attribute holds
abbrev pub sizes_in : Option KitAttr → List ℕ
sizes_in (Some (attrs.SegmentSizes sizes)) = sizes.items
sizes_in _ = []

-- how many operands a conditional branch forwards to its first successor: its second segment, behind the condition
abbrev pub first_size : Entries → ℕ
first_size es = slice_index (sizes_in (attribute_at es segment_sizes)) 1

-- a branch forwards all operands; a conditional one those behind the condition, as its segments say
abbrev pub forwards_of : KitOp → ℕ → ℕ → ℕ → List ℕ
forwards_of ops.Br first n s = if nat_eq s 0 then range 0 n else []
forwards_of ops.CondBr first n s =
    if nat_eq s 0 then range 1 (min first (n - 1)) else (if nat_eq s 1 then range (1 + first) (n - (1 + first)) else [])
forwards_of _ first n s = []

-- what goes

-- the entries with another attribute under a name, made of the one that is there, if one is
abbrev pub changed_to : Entries → List ℕ → (KitAttr → KitAttr) → Option KitAttr → Entries
changed_to es key f None = es
changed_to es key f (Some a) = with_attribute es key (f a)

abbrev pub changed_at : Entries → List ℕ → (KitAttr → KitAttr) → Entries
changed_at es key f = changed_to es key f (attribute_at es key)

-- sizes of segments less what goes of each segment
abbrev pub without_operands : (ℕ → Bool) → KitAttr → KitAttr
without_operands p (attrs.SegmentSizes sizes) = attrs.SegmentSizes (less_sizes p sizes)
without_operands p a = a

-- names without those that go
abbrev pub without_names : (ℕ → Bool) → KitAttr → KitAttr
without_names p (attrs.GivenNames names) = attrs.GivenNames (less_names p names)
without_names p a = a

-- the attributes of an operation without the operands at these indices
abbrev pub dropped_of : KitOp → (ℕ → Bool) → Entries → Entries
dropped_of ops.CondBr p es = changed_at es segment_sizes (without_operands p)
dropped_of _ p es = es

-- whether it is of the kind that the name says

abbrev pub is_module : KitOp → Bool
is_module ops.Module = true
is_module _ = false

abbrev pub is_function : KitOp → Bool
is_function ops.Func = true
is_function _ = false

abbrev pub is_br : KitOp → Bool
is_br ops.Br = true
is_br _ = false

abbrev pub is_constant : KitOp → Bool
is_constant ops.Constant = true
is_constant _ = false

-- an operation that comes from no source
abbrev pub operation_of : KitOp → Entries → KitOperation
operation_of k es = record { kind = k; notes = record { attributes = es; loc = Unknown } }

-- the dialect: what ends a block, branches, folds or has side effects is said by the table. Arguments may go of a
-- function's blocks, but not of its entry. What comes first runs first, but in a module
abbrev pub kit : Dialect (holding KitOperation KitBlock TypeHandle) IntegerAttr
kit = record {
  is_foldable = λ c. has_interface c.kind op.ConstFold;
  fold = λ c ts xs. fold_of c.kind c.notes.attributes ts xs;
  is_branch = λ c. has_interface c.kind op.Branch;
  feasible = λ c xs i. feasible_of c.kind xs i;
  edge = λ c xs. edge_of c.kind xs;
  forwards = λ c n s. forwards_of c.kind (first_size c.notes.attributes) n s;
  is_terminator = λ c. has_interface c.kind op.IsTerminator;
  has_effects = λ c. (row_of c.kind).has_effects;
  can_remove = λ c region first. is_function c.kind && not first;
  plain = Some (operation_of ops.Br []);
  is_plain = λ c. is_br c.kind;
  constant = λ a. Some (operation_of ops.Constant ((constant_value, attrs.Integer a) ∷ []));
  constant_type = λ a. a.ty;
  is_constant = λ c. is_constant c.kind;
  is_ssa = λ c region. not (is_module c.kind);
  drop_operands = λ c p. record c { notes = record c.notes { attributes = dropped_of c.kind p c.notes.attributes } };
  drop_names = λ b p. record b { attributes = changed_at b.attributes given_names (without_names p) };
}
