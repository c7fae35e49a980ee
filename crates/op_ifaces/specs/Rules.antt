-- What the interfaces ask of an operation.
use Rattle.std.specs.Prelude.{◌≡◌, ℕ, ◌+◌, ◌<◌, ◌≤◌, Bool, true, Option, Some, Result, Ok, Err, length, slice_get}
use Rattle.ir_base.specs.declared.types.TypeHandle.{TypeHandle}
use Rattle.ir_program.specs.Program.{Program}
use Rattle.ir_program.specs.Lists.{regions_in, blocks_in}
use Rattle.ir_program.specs.declared.handles.Ptr.{Ptr}
use Rattle.ir_program.specs.declared.handles.Operation.{Operation}
use Rattle.ir_program.specs.declared.handles.Region.{Region}
use Rattle.op_ifaces.specs.Rows.{passes_test, row_type, row_length}
use Rattle.op_ifaces.specs.declared.ranges.IndexRange.{IndexRange}
use Rattle.op_ifaces.specs.declared.ranges.IndexRange.TheVariants.{Range, NotEnough, Empty}
use Rattle.op_ifaces.specs.declared.rows.Row.TheVariants.{Operands, Results}

-- a verifier accepts exactly where the rule holds
abbrev pub AcceptsExactly : {E : Type 0} → Result Unit E → Type 0 → Type 0
AcceptsExactly (Ok u) Rule = Rule
AcceptsExactly (Err e) Rule = Rule → ⊥

-- rules on a row: the type at each index, and how many there are
module _ (row : ℕ → Option TypeHandle) (count : ℕ) where
  -- each type of the row from the first index up to the end, which is not in it, passes the test
  abbrev pub AllPassIn : (TypeHandle → Bool) → ℕ → ℕ → Type 0
  AllPassIn test start end = (k : ℕ) → start ≤ k → k < end → passes_test test (row k) ≡ true

  -- each type of the row passes the test
  abbrev pub AllPass : (TypeHandle → Bool) → Type 0
  AllPass test = AllPassIn test 0 count

  -- there is a type at this index, and it passes the test
  abbrev pub PassesAt : (TypeHandle → Bool) → ℕ → Type 0
  PassesAt test n = (n < count) × (passes_test test (row n) ≡ true)

  -- there is one at least, and all are alike
  pub record HasOneType : Type 0 where
    pub some : 0 < count
    pub same : (k : ℕ) → k < count → row k ≡ row 0

  -- the members that a range names are there and pass the test
  abbrev pub RangePasses : (TypeHandle → Bool) → IndexRange → Type 0
  RangePasses test (Range m end) = AllPassIn test m (end + 1)
  RangePasses test NotEnough = ⊥
  RangePasses test Empty = Unit {0}

module _ {O B : Type 0} (c : Program O B) (op : Ptr Operation) where
  -- operands and results, one at least of each, have one type
  pub record HasOneTypeThroughout : Type 0 where
    pub operands : HasOneType (row_type c op Operands) (row_length c op Operands)
    pub results : HasOneType (row_type c op Results) (row_length c op Results)
    pub same : row_type c op Operands 0 ≡ row_type c op Results 0

  -- each region has exactly one block
  abbrev pub HasSingleBlocks : Type 0
  HasSingleBlocks = (k : ℕ) (r : Ptr Region) → slice_get (regions_in c op) k ≡ Some r → length (blocks_in c r) ≡ 1
