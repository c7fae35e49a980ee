-- What operations and blocks of `kit` say, apart from the context: kinds, attributes as maps, and types by numbers that
-- contexts may share. Names of values, labels and locations say nothing.
use Rattle.std.specs.Prelude.{ℕ, ◌+◌, Bool, List, [], ◌∷◌, Option, Some, None, bytes_eq, if◌then◌else◌, nat_eq, nat_le}
use Rattle.std.specs.Prelude.{true, ◌&&◌, length, not, option_and_then, option_map, replicate, slice_index, slice_set}
use Rattle.std.specs.Prelude.{string_bytes}
use Rattle.ir_base.specs.declared.types.TypeHandle.{TypeHandle}
use Rattle.ir_names.specs.Dictionary.{attribute_at}
use Rattle.ir_names.specs.Identifier.{text_of}
use Rattle.ir_names.specs.declared.interfaces.OpInterface.TheVariants as op
use Rattle.ir_names.specs.declared.kinds.Signedness.TheVariants.{Signless}
use Rattle.ir_trees.specs.Names.{Contents}
use Rattle.ir_trees.specs.Renames.{holding}
use Rattle.opt_trees.specs.Dialect.{Dialect}
use Rattle.opt_meanings.specs.Meanings.{Meanings, Bijection}
use Rattle.kit_ops.specs.Arithmetic.{calc, compare}
use Rattle.kit_ops.specs.Keys.{constant_value, segment_sizes}
use Rattle.kit_ops.specs.Table.{row_of, has_interface}
use Rattle.kit_ops.specs.declared.attributes.IntegerAttr.{IntegerAttr}
use Rattle.kit_ops.specs.declared.attributes.KitAttr.{KitAttr}
use Rattle.kit_ops.specs.declared.attributes.KitAttr.TheVariants as attrs
use Rattle.kit_ops.specs.declared.arithmetic.Arithmetic.{Arithmetic}
use Rattle.kit_ops.specs.declared.arithmetic.Comparison.{Comparison}
use Rattle.kit_ops.specs.declared.kinds.KitOp.{KitOp}
use Rattle.kit_ops.specs.declared.kinds.KitOp.TheVariants as ops
use Rattle.kit_ops.specs.declared.types.IntegerType.{IntegerType}
use Rattle.kit.specs.Dropped.{kept}
use Rattle.kit.specs.Meaning.{Entries, KitOperation, is_br, is_constant, is_function, is_module, forwards_of}
use Rattle.kit_views.specs.Reading.{kit_contents}

-- an integer, by the number of its type
pub record Number : Type 0 where
  pub ty : ℕ
  pub integer : IntegerType
  pub bits : ℕ

-- what an attribute says
pub data Attribute : Type 0 where
  Integer : (n : Number) → Attribute
  Name : (text : List ℕ) → Attribute
  OfType : (ty : ℕ) → Attribute
  Sizes : (sizes : List ℕ) → Attribute
  Note : (bytes : List ℕ) → Attribute
  Origin : (bytes : List ℕ) → Attribute

-- what an operation says: its kind, and attributes under names
pub record OperationMeaning : Type 0 where
  pub kind : KitOp
  pub attributes : List ℕ → Option Attribute

-- what is said of operations, of blocks, which is their attributes under names, and of types
abbrev pub sayings : Contents
sayings = holding OperationMeaning (List ℕ → Option Attribute) ℕ

-- 1. what is meant

-- types by these numbers
module _ (number : TypeHandle → ℕ) where
  abbrev pub number_meant : IntegerAttr → Number
  number_meant a = record { ty = number a.ty; integer = a.integer; bits = a.bits }

  -- names of values mean nothing
  abbrev pub attribute_meant : KitAttr → Option Attribute
  attribute_meant (attrs.Integer a) = Some (Integer (number_meant a))
  attribute_meant (attrs.Identifier name) = Some (Name (text_of name))
  attribute_meant (attrs.«Type» ty) = Some (OfType (number ty))
  attribute_meant (attrs.SegmentSizes sizes) = Some (Sizes sizes.items)
  attribute_meant (attrs.GivenNames names) = None
  attribute_meant (attrs.Note text) = Some (Note (string_bytes text))
  attribute_meant (attrs.Origin text) = Some (Origin (string_bytes text))

  -- what attributes mean, as a map
  abbrev pub entries_meant : Entries → List ℕ → Option Attribute
  entries_meant entries key = option_and_then attribute_meant (attribute_at entries key)

  abbrev pub operation_meant : KitOperation → OperationMeaning
  operation_meant c = record { kind = c.kind; attributes = entries_meant c.notes.attributes }

  -- what is said in trees of a context whose types have these numbers
  abbrev pub meanings : Meanings kit_contents sayings
  meanings = record { operation = operation_meant; block = λ b. entries_meant b.attributes; value = number }

-- integers, where each number is one type's
abbrev pub integers : Bijection TypeHandle ℕ → Bijection IntegerAttr Number
integers w = record {
  to = number_meant w.to;
  from = λ n. record { ty = w.from n.ty; integer = n.integer; bits = n.bits };
  there = λ a i. record { ty = w.there a.ty i; integer = a.integer; bits = a.bits };
  back = λ n i. record { ty = w.back n.ty i; integer = n.integer; bits = n.bits };
}

-- 2. what the optimisations ask, as of `kit` (kit/specs/Meaning.antt), on what is said

-- the number that an attribute says, as `integer_in` of `kit`
abbrev pub number_in : Option Attribute → Option Number
number_in (Some (Integer n)) = Some n
number_in _ = None

-- what is calculated and compared, as of `kit`, on what is said

abbrev pub are_numbers : Number → Number → Bool
are_numbers a b = nat_eq a.ty b.ty && (nat_le 1 a.integer.width && nat_le a.integer.width 64)

abbrev pub with_bits : Number → Option ℕ → Option Number
with_bits a None = None
with_bits a (Some n) = Some (record a { bits = n })

abbrev pub calculated : Arithmetic → Number → Number → Option Number
calculated k a b = if are_numbers a b then with_bits a (calc k a.integer.width a.bits b.bits) else None

abbrev pub bit_of : ℕ → Bool → Number
bit_of t holds = record {
  ty = t;
  integer = record { signedness = Signless; width = 1 };
  bits = if holds then 1 else 0;
}

abbrev pub compared : Comparison → ℕ → Number → Number → Option Number
compared k t a b = if are_numbers a b then Some (bit_of t (compare k a.bits b.bits)) else None

-- what an operation with these attributes folds to, as of `kit`, on what is said

abbrev pub of_both : (Number → Number → Option Number) → List (Option Number) → Option Number
of_both f (Some a ∷ Some b ∷ []) = f a b
of_both f _ = None

abbrev pub value_of : KitOp → (List ℕ → Option Attribute) → ℕ → List (Option Number) → Option Number
value_of ops.Constant at t xs = number_in (at constant_value)
value_of (ops.Arithmetic k) at t xs = of_both (calculated k) xs
value_of (ops.Comparison k) at t xs = of_both (compared k t) xs
value_of _ at t xs = None

abbrev pub if_of_type : ℕ → Option Number → Option Number
if_of_type t None = None
if_of_type t (Some a) = if nat_eq a.ty t then Some a else None

abbrev pub fold_of : KitOp → (List ℕ → Option Attribute) → List ℕ → List (Option Number) → List (Option Number)
fold_of k at [] xs = []
fold_of k at (t ∷ []) xs = if_of_type t (value_of k at t xs) ∷ []
fold_of k at (t ∷ (u ∷ ts)) xs = replicate (length (t ∷ (u ∷ ts))) None

-- the edges that a branch may take, as of `kit`, on what is said

abbrev pub picked_by : Option Number → Option ℕ
picked_by None = None
picked_by (Some a) = Some (if nat_eq a.bits 1 then 0 else 1)

abbrev pub condition : List (Option Number) → Option Number
condition [] = None
condition (x ∷ xs) = x

abbrev pub edge_of : KitOp → List (Option Number) → Option ℕ
edge_of ops.CondBr xs = picked_by (condition xs)
edge_of ops.Br xs = Some 0
edge_of _ xs = None

abbrev pub is_picked : Option ℕ → ℕ → Bool
is_picked None i = true
is_picked (Some j) i = nat_eq j i

abbrev pub feasible_of : KitOp → List (Option Number) → ℕ → Bool
feasible_of ops.CondBr xs i = is_picked (picked_by (condition xs)) i
feasible_of _ xs i = true

-- sizes of segments, as of `kit`, on what is said

abbrev pub sizes_in : Option Attribute → List ℕ
sizes_in (Some (Sizes sizes)) = sizes
sizes_in _ = []

abbrev pub first_size : (List ℕ → Option Attribute) → ℕ
first_size at = slice_index (sizes_in (at segment_sizes)) 1

-- what is left where operands go, as of `kit`, on what is said

-- sizes of segments less what goes of each segment behind the condition
abbrev pub without_operands : (ℕ → Bool) → Attribute → Attribute
without_operands p (Sizes xs) = Sizes
    (slice_set (slice_set xs 1 (kept p 1 (slice_index xs 1))) 2 (kept p (1 + slice_index xs 1) (slice_index xs 2)))
without_operands p a = a

-- another attribute under a name, made of the one that is there, if one is
abbrev pub changed_at : (List ℕ → Option Attribute) → List ℕ → (Attribute → Attribute) → List ℕ → Option Attribute
changed_at at key f other = if bytes_eq key other then option_map f (at key) else at other

abbrev pub dropped_of : KitOp → (ℕ → Bool) → (List ℕ → Option Attribute) → List ℕ → Option Attribute
dropped_of ops.CondBr p at = changed_at at segment_sizes (without_operands p)
dropped_of _ p at = at

-- the one attribute under this name
abbrev pub alone_at : List ℕ → Attribute → List ℕ → Option Attribute
alone_at key a other = if bytes_eq other key then Some a else None

-- the dialect, on what is said. What a block says stays where arguments go, since names of values say nothing
abbrev pub kit_said : Dialect sayings Number
kit_said = record {
  is_foldable = λ c. has_interface c.kind op.ConstFold;
  fold = λ c ts xs. fold_of c.kind c.attributes ts xs;
  is_branch = λ c. has_interface c.kind op.Branch;
  feasible = λ c xs i. feasible_of c.kind xs i;
  edge = λ c xs. edge_of c.kind xs;
  forwards = λ c n s. forwards_of c.kind (first_size c.attributes) n s;
  is_terminator = λ c. has_interface c.kind op.IsTerminator;
  has_effects = λ c. (row_of c.kind).has_effects;
  can_remove = λ c region first. is_function c.kind && not first;
  plain = Some (record { kind = ops.Br; attributes = λ key. None });
  is_plain = λ c. is_br c.kind;
  constant = λ a. Some (record { kind = ops.Constant; attributes = alone_at constant_value (Integer a) });
  constant_type = λ a. a.ty;
  is_constant = λ c. is_constant c.kind;
  is_ssa = λ c region. not (is_module c.kind);
  drop_operands = λ c p. record c { attributes = dropped_of c.kind p c.attributes };
  drop_names = λ b p. b;
}
