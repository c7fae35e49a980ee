-- What contracts see of symbol tables that are kept by the operations that hold them.
use Rattle.std.specs.Prelude.{◌≡◌, ◌≢◌, ℕ, Bool, ◌&&◌, nat_eq, List, [], ◌∷◌, ◌++◌, Option, Some, None, IsSome}
use Rattle.std.specs.Map.{lookup}
use Rattle.ir_program.specs.Program.{Program, operation_at}
use Rattle.ir_program.specs.declared.handles.IRNode.TheVariants.{Operation as OperationNode}
use Rattle.ir_program.specs.declared.handles.Operation.{Operation}
use Rattle.ir_program.specs.declared.handles.Ptr.{Ptr}
use Rattle.ir_queries.specs.Ancestors.{IsNearest}
use Rattle.ir_symbols.specs.Symbols.{HasOneBlock, IsTable}
use Rattle.ir_symbols.specs.Tables.{IsNoTableBy, IsTableOf}
use Rattle.ir_symbols.specs.declared.errors.SymbolTableErr.{SymbolTableErr}
use Rattle.ir_symbols.specs.declared.tables.SymbolTable.{SymbolTable}

-- the two handles are one
abbrev pub same_handle : Ptr Operation → Ptr Operation → Bool
same_handle p q = nat_eq p.key.slot q.key.slot && nat_eq p.key.version q.key.version

-- tables with their operations, in the order in which they were made
abbrev pub TableEntries : Type 0
TableEntries = List (Ptr Operation × SymbolTable)

-- the table that is kept of an operation
abbrev pub table_in : TableEntries → Ptr Operation → Option SymbolTable
table_in tables op = lookup (same_handle op) tables

-- no table is kept of the operation, and of each other one is kept what was
pub record ForgetsTable (old new : TableEntries) (op : Ptr Operation) : Type 0 where
  pub gone : table_in new op ≡ None
  pub others : (other : Ptr Operation) → other ≢ op → table_in new other ≡ table_in old other

module _ {O B : Type 0} (name_in : O → Option (List ℕ)) (holds_table : O → Bool) (c : Program O B) where
  -- each table that is kept of a live operation is that of the operation: it has exactly the symbols of the operation's block
  abbrev pub AreInStep : TableEntries → Type 0
  AreInStep tables = (op : Ptr Operation) (table : SymbolTable) → table_in tables op ≡ Some table → IsSome (operation_at c op) → IsTableOf name_in holds_table c op table

  -- the tables with that of an operation: as they were where it is kept, else it comes last
  pub data KeepsTable (op : Ptr Operation) (old : TableEntries) : TableEntries → Type 0 where
    kept : IsSome (table_in old op) → KeepsTable op old old
    made : table_in old op ≡ None → (table : SymbolTable) → IsTableOf name_in holds_table c op table → KeepsTable op old (old ++ (op, table) ∷ [])

  -- no table is kept of the operation, and none is made, since it holds none, or two of its symbols have one name, or there is no memory
  pub record IsNotKeptBy (op : Ptr Operation) (tables : TableEntries) (error : SymbolTableErr) : Type 0 where
    pub absent : table_in tables op ≡ None
    pub no_table : IsNoTableBy name_in holds_table c op error

  -- the tables after a look-up in an operation's: no other is made, and none of an operation that holds a table and hasn't one region with
  -- one block, where there is nothing to look up
  pub data LooksUpIn (op : Ptr Operation) (old : TableEntries) : TableEntries → Type 0 where
    looked_up : {new : TableEntries} → KeepsTable op old new → LooksUpIn op old new
    no_body : (HasOneBlock c op → ⊥) → LooksUpIn op old old

  -- the tables after a look-up from an operation: that in the nearest table around it, if there is one
  pub data LooksUpFrom (from : Ptr Operation) (old : TableEntries) : TableEntries → Type 0 where
    nearest : {new : TableEntries} → (op : Ptr Operation) → IsNearest OperationNode c (OperationNode from) (IsTable holds_table c) op → LooksUpIn op old new → LooksUpFrom from old new
    no_table : LooksUpFrom from old old

  -- the nearest table around the operation isn't kept, and isn't made
  pub record IsNotKeptFromBy (from : Ptr Operation) (tables : TableEntries) (error : SymbolTableErr) : Type 0 where
    pub op : Ptr Operation
    pub is_nearest : IsNearest OperationNode c (OperationNode from) (IsTable holds_table c) op
    pub not_kept : IsNotKeptBy op tables error
