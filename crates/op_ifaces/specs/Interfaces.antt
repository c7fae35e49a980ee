-- What each interface asks of an operation.
use Rattle.std.specs.Prelude.{◌≡◌, ℕ, ◌≤◌, Bool, true, false, List, ◌&&◌, length}
use Rattle.std.specs.Str.{bytes_eq}
use Rattle.ir_base.specs.declared.types.TypeHandle.{TypeHandle}
use Rattle.ir_names.specs.declared.interfaces.OpInterface.{OpInterface}
use Rattle.ir_names.specs.declared.interfaces.OpInterface.TheVariants as interface
use Rattle.ir_names.specs.declared.interfaces.TypeInterface.{TypeInterface}
use Rattle.ir_names.specs.declared.interfaces.TypeTest.{TypeTest}
use Rattle.ir_names.specs.declared.interfaces.TypeTest.TheVariants.{Kind, Interface}
use Rattle.ir_program.specs.Program.{Program, result_count}
use Rattle.ir_program.specs.Rows.{operands_at, successors_at}
use Rattle.ir_program.specs.Lists.{regions_in}
use Rattle.ir_program.specs.declared.handles.Ptr.{Ptr}
use Rattle.ir_program.specs.declared.handles.Operation.{Operation}
use Rattle.ir_types.specs.Views.{TypesView}
use Rattle.ir_types.specs.Interned.{passes}
use Rattle.op_ifaces.specs.Ranges.{index_range}
use Rattle.op_ifaces.specs.Rows.{row_length, row_type}
use Rattle.op_ifaces.specs.Rules.{AllPass, PassesAt, RangePasses, HasOneType, HasOneTypeThroughout, HasSingleBlocks}
use Rattle.op_ifaces.specs.declared.rows.Row.TheVariants.{Operands, Results}

-- what an interface asks can be told from rows, regions and types alone: it reads no attribute, and isn't a dialect's own
abbrev pub is_told_by_rows : OpInterface → Bool
is_told_by_rows interface.Branch = false
is_told_by_rows interface.RegionBranch = false
is_told_by_rows interface.OperandSegment = false
is_told_by_rows interface.SymbolOp = false
is_told_by_rows interface.SymbolTable = false
is_told_by_rows interface.CallOp = false
is_told_by_rows (interface.SegmentN n test) = false
is_told_by_rows interface.SideEffects = false
is_told_by_rows interface.BlockArgRemoval = false
is_told_by_rows interface.ConstFold = false
is_told_by_rows interface.BranchOpFold = false
is_told_by_rows (interface.Other name) = false
is_told_by_rows i = true

-- a dialect's types: the names that the id of a type's kind is made of, and which interfaces a type implements
module _ {K : Type 0} (id : K → List ℕ × List ℕ) (has : K → TypeInterface → Bool) where
  -- a type passes the test
  abbrev pub key_passes : TypeTest → K → Bool
  key_passes (Kind dialect name) key = bytes_eq (id key).0 dialect.now && bytes_eq (id key).1 name.now
  key_passes (Interface i) key = has key i

  module _ {O B TypeBody Saved : Type 0} (c : Program O B) (types : TypesView K TypeBody Saved) (op : Ptr Operation) where
    -- the type behind a handle passes the test, which a handle that leads to none doesn't
    abbrev pub type_passes : TypeTest → TypeHandle → Bool
    type_passes test = passes (key_passes test) types

    -- what an interface asks of the types of operands and results; most ask nothing
    abbrev pub TypesRule : OpInterface → Type 0
    TypesRule (interface.AllOperands test) = AllPass (row_type c op Operands) (row_length c op Operands) (type_passes test)
    TypesRule (interface.OperandN n test) = PassesAt (row_type c op Operands) (row_length c op Operands) (type_passes test) n
    TypesRule (interface.OperandsMN m n test) = RangePasses (row_type c op Operands) (row_length c op Operands) (type_passes test) (index_range m n (row_length c op Operands))
    TypesRule (interface.AllResults test) = AllPass (row_type c op Results) (row_length c op Results) (type_passes test)
    TypesRule (interface.ResultN n test) = PassesAt (row_type c op Results) (row_length c op Results) (type_passes test) n
    TypesRule (interface.ResultsMN m n test) = RangePasses (row_type c op Results) (row_length c op Results) (type_passes test) (index_range m n (row_length c op Results))
    TypesRule i = Unit {0}

    -- what an interface asks that can be told by rows
    abbrev pub Rule : OpInterface → Type 0
    Rule (interface.NResults n) = result_count c op ≡ n
    Rule (interface.AtMostNResults n) = result_count c op ≤ n
    Rule (interface.AtLeastNResults n) = n ≤ result_count c op
    Rule interface.OptionalResult = result_count c op ≤ 1
    Rule interface.OneResult = result_count c op ≡ 1
    Rule (interface.NOpds n) = length (operands_at c op) ≡ n
    Rule (interface.AtMostNOpds n) = length (operands_at c op) ≤ n
    Rule (interface.AtLeastNOpds n) = n ≤ length (operands_at c op)
    Rule interface.OptionalOpd = length (operands_at c op) ≤ 1
    Rule interface.OneOpd = length (operands_at c op) ≡ 1
    Rule (interface.NSuccs n) = length (successors_at c op) ≡ n
    Rule interface.OneSucc = length (successors_at c op) ≡ 1
    Rule (interface.NRegions n) = length (regions_in c op) ≡ n
    Rule interface.OneRegion = length (regions_in c op) ≡ 1
    Rule (interface.AtMostNRegions n) = length (regions_in c op) ≤ n
    Rule interface.AtMostOneRegion = length (regions_in c op) ≤ 1
    Rule interface.SingleBlockRegion = HasSingleBlocks c op
    Rule interface.SameOperandsType = HasOneType (row_type c op Operands) (row_length c op Operands)
    Rule interface.SameResultsType = HasOneType (row_type c op Results) (row_length c op Results)
    Rule interface.SameOperandsAndResultType = HasOneTypeThroughout c op
    Rule i = TypesRule i
