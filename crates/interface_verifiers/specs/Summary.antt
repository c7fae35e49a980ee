-- What a dialect says of its kinds of operations, its attributes and its types.
use Rattle.std.specs.Prelude.{ℕ, Bool, List, Option}
use Rattle.ir_base.specs.declared.types.TypeHandle.{TypeHandle}
use Rattle.ir_names.specs.declared.interfaces.OpInterface.{OpInterface}
use Rattle.ir_names.specs.declared.interfaces.TypeInterface.{TypeInterface}
use Rattle.builtin_tables.specs.declared.dialect.CalleePlace.{CalleePlace}
use Rattle.builtin_tables.specs.declared.dialect.SuccessorLayout.{SuccessorLayout}

-- Of a kind of operations: its names (the dialect's and its own), the interfaces that the dialect's table lists, and which it implements; in how many
-- segments its operands are, by the attributes; which operands a branch forwards; the key and the place of what a call calls, and the key of its type.
-- Of an attribute: the identifier, the type or the sizes that it holds, and the type that it has.
-- Of a type: the names of its kind, and which interfaces it implements.
pub record DialectSummary (OpKind Attr TypeKey : Type 0) : Type 0 where
  pub names : OpKind → List ℕ × List ℕ
  pub interfaces : OpKind → List OpInterface
  pub implements : OpKind → OpInterface → Bool
  pub segment_count : OpKind → List (List ℕ × Attr) → ℕ
  pub layout : OpKind → SuccessorLayout
  pub callee_key : OpKind → List ℕ
  pub callee_place : OpKind → CalleePlace
  pub callee_type_key : OpKind → List ℕ
  pub held_identifier : Attr → Option (List ℕ)
  pub held_type : Attr → Option TypeHandle
  pub held_sizes : Attr → Option (List ℕ)
  pub type_of : Attr → Option TypeHandle
  pub type_names : TypeKey → List ℕ × List ℕ
  pub type_implements : TypeKey → TypeInterface → Bool
