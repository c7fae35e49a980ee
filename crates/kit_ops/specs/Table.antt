-- What each kind of operations is: one row a kind.
use Rattle.std.specs.Prelude.{ℕ, Bool, true, false, List, [], ◌∷◌, codes, map}
use Rattle.std.specs.List.{list_any}
use Rattle.ir_names.specs.declared.interfaces.OpInterface.{OpInterface}
use Rattle.ir_names.specs.declared.interfaces.OpInterface.TheVariants as op
use Rattle.ir_names.specs.contracts.interfaces.OpInterfacePartialEq.TheImpl as of_interfaces
use Rattle.kit_ops.specs.declared.kinds.KitOp.{KitOp}
use Rattle.kit_ops.specs.declared.kinds.KitOp.TheVariants as ops
use Rattle.kit_ops.specs.declared.table.Count.{Count}
use Rattle.kit_ops.specs.declared.table.Count.TheVariants.{Exactly, Any}
use Rattle.kit_ops.specs.declared.table.Row.{Row}
use Rattle.kit_ops.specs.Arithmetic.{NameAndEffects, named_arithmetic, comparison_name}
use Rattle.kit_ops.specs.Keys.{symbol_name, function_type, constant_value, segment_sizes, callee, callee_type}

-- what a kind is: its dialect and its own name, how many results, operands, successors and regions its operations
-- have, the keys of the attributes that are its own, its interfaces, and whether its operations do more than give
-- their results
pub record KindRow : Type 0 where
  pub dialect : List ℕ
  pub name : List ℕ
  pub results : Count
  pub operands : Count
  pub successors : ℕ
  pub regions : ℕ
  pub keys : List (List ℕ)
  pub interfaces : List OpInterface
  pub has_effects : Bool

-- the row of the operations of arithmetic: two operands and one result, all of one type
abbrev pub arithmetic_row : NameAndEffects → KindRow
arithmetic_row named = record {
  dialect = codes "kit";
  name = named.name;
  results = Exactly 1;
  operands = Exactly 2;
  successors = 0;
  regions = 0;
  keys = [];
  interfaces = op.OneResult ∷ op.NOpds 2 ∷ op.SameOperandsAndResultType ∷ op.SameOperandsType ∷ op.SameResultsType
      ∷ op.ConstFold ∷ op.SideEffects ∷ [];
  has_effects = named.has_effects;
}

-- the row of comparisons: two operands of one type, one result
abbrev pub comparison_row : List ℕ → KindRow
comparison_row name = record {
  dialect = codes "kit";
  name = name;
  results = Exactly 1;
  operands = Exactly 2;
  successors = 0;
  regions = 0;
  keys = [];
  interfaces = op.OneResult ∷ op.NOpds 2 ∷ op.SameOperandsType ∷ op.ConstFold ∷ op.SideEffects ∷ [];
  has_effects = false;
}

-- the row of each kind; one that doesn't say whether it has side effects has them
abbrev pub row_of : KitOp → KindRow
row_of ops.Module = record {
  dialect = codes "builtin";
  name = codes "module";
  results = Exactly 0;
  operands = Exactly 0;
  successors = 0;
  regions = 1;
  keys = symbol_name ∷ [];
  interfaces = op.OneRegion ∷ op.SingleBlockRegion ∷ op.NoTerminator ∷ op.SymbolOp ∷ op.SymbolTable
      ∷ op.IsolatedFromAbove ∷ op.RegionKind ∷ op.NResults 0 ∷ op.NOpds 0 ∷ [];
  has_effects = true;
}
row_of ops.Func = record {
  dialect = codes "builtin";
  name = codes "func";
  results = Exactly 0;
  operands = Exactly 0;
  successors = 0;
  regions = 1;
  keys = symbol_name ∷ function_type ∷ [];
  interfaces = op.OneRegion ∷ op.SymbolOp ∷ op.IsolatedFromAbove ∷ op.BlockArgRemoval ∷ op.NResults 0 ∷ op.NOpds 0
      ∷ [];
  has_effects = true;
}
row_of ops.Constant = record {
  dialect = codes "builtin";
  name = codes "constant";
  results = Exactly 1;
  operands = Exactly 0;
  successors = 0;
  regions = 0;
  keys = constant_value ∷ [];
  interfaces = op.OneResult ∷ op.NOpds 0 ∷ op.ConstFold ∷ op.SideEffects ∷ [];
  has_effects = false;
}
row_of ops.ForwardRef = record {
  dialect = codes "builtin";
  name = codes "forward_ref";
  results = Exactly 1;
  operands = Exactly 0;
  successors = 0;
  regions = 0;
  keys = [];
  interfaces = [];
  has_effects = true;
}
row_of (ops.Arithmetic a) = arithmetic_row (named_arithmetic a)
row_of (ops.Comparison c) = comparison_row (comparison_name c)
row_of ops.Br = record {
  dialect = codes "kit";
  name = codes "br";
  results = Exactly 0;
  operands = Any;
  successors = 1;
  regions = 0;
  keys = [];
  interfaces = op.IsTerminator ∷ op.Branch ∷ op.OneSucc ∷ op.BranchOpFold ∷ [];
  has_effects = true;
}
row_of ops.CondBr = record {
  dialect = codes "kit";
  name = codes "cond_br";
  results = Exactly 0;
  operands = Any;
  successors = 2;
  regions = 0;
  keys = segment_sizes ∷ [];
  interfaces = op.IsTerminator ∷ op.Branch ∷ op.NSuccs 2 ∷ op.OperandSegment ∷ op.BranchOpFold ∷ [];
  has_effects = true;
}
row_of ops.Call = record {
  dialect = codes "kit";
  name = codes "call";
  results = Any;
  operands = Any;
  successors = 0;
  regions = 0;
  keys = callee ∷ callee_type ∷ [];
  interfaces = op.CallOp ∷ op.SymbolUserOp ∷ op.SideEffects ∷ [];
  has_effects = true;
}
row_of ops.Emit = record {
  dialect = codes "kit";
  name = codes "emit";
  results = Exactly 0;
  operands = Exactly 1;
  successors = 0;
  regions = 0;
  keys = [];
  interfaces = op.OneOpd ∷ op.NResults 0 ∷ op.SideEffects ∷ [];
  has_effects = true;
}
row_of ops.Return = record {
  dialect = codes "kit";
  name = codes "return";
  results = Exactly 0;
  operands = Any;
  successors = 0;
  regions = 0;
  keys = [];
  interfaces = op.IsTerminator ∷ op.NResults 0 ∷ [];
  has_effects = true;
}

-- what a row of the program says
abbrev pub said_by : Row → KindRow
said_by row = record {
  dialect = row.dialect.now;
  name = row.name.now;
  results = row.results;
  operands = row.operands;
  successors = row.successors;
  regions = row.regions;
  keys = map (λ key. key.now) row.keys.now;
  interfaces = row.interfaces.now;
  has_effects = row.has_effects;
}

-- whether the kind implements the interface
abbrev pub has_interface : KitOp → OpInterface → Bool
has_interface kind interface = list_any (λ held. of_interfaces.eq-value.it held interface) (row_of kind).interfaces
