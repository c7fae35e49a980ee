-- What a symbol table asks of the operations in it.
use Rattle.std.specs.Prelude.{◌≡◌, ◌≢◌, ◌⊎◌, ℕ, Bool, List, Option, Some, None}
use Rattle.ir_program.specs.Lists.{StandsInside}
use Rattle.ir_program.specs.Program.{Program}
use Rattle.ir_program.specs.declared.handles.IRNode.TheVariants.{Operation as OperationNode}
use Rattle.ir_program.specs.declared.handles.Operation.{Operation}
use Rattle.ir_program.specs.declared.handles.Ptr.{Ptr}
use Rattle.ir_walks.specs.Places.{Holds}
use Rattle.ir_symbols.specs.Lookups.{IsFoundIn}
use Rattle.ir_symbols.specs.Symbols.{IsTable}
use Rattle.ir_symbols.specs.TableWalks.{IsNestedTable, forward}
use Rattle.ir_symbols.specs.Tables.{SharesName}
use Rattle.symbol_ifaces.specs.declared.symbol_tables.SymbolTableInterfaceErr.{SymbolTableInterfaceErr}
use Rattle.symbol_ifaces.specs.declared.symbol_tables.SymbolTableInterfaceErr.TheVariants.{SymbolRedefined, UnknownSymbol}

-- `holds_table` says of what an operation carries whether it holds a table
module _ {O B : Type 0} (holds_table : O → Bool) (c : Program O B) (table op : Ptr Operation) where
  -- a table that is in this one, and is another, holds the operation
  pub record IsNestedIn : Type 0 where
    pub holder : Ptr Operation
    pub inside : StandsInside c (OperationNode table) (OperationNode holder)
    pub nested : IsNestedTable holds_table c table holder
    pub holds : Holds c forward (OperationNode holder) (OperationNode op)

  -- the table holds the operation, and no table further in does
  pub record IsOfTable : Type 0 where
    pub held : Holds c forward (OperationNode table) (OperationNode op)
    pub not_nested : IsNestedIn → ⊥

-- `name_in` says of what operations carry which names they have
module _ {O B : Type 0} (name_in : O → Option (List ℕ)) (c : Program O B) (table : Ptr Operation) where
  -- a symbol of the table's block has the name
  abbrev pub Knows : List ℕ → Type 0
  Knows name = (found : Ptr Operation) × IsFoundIn name_in c table name (Some found)

  -- if the operation uses a name, the table knows it; `uses` says of an operation which name it uses
  abbrev pub KnowsSymbolOf : (Ptr Operation → Option (List ℕ)) → Ptr Operation → Type 0
  KnowsSymbolOf uses user = (name : List ℕ) → uses user ≡ Some name → Knows name

module _ {O B : Type 0} (name_in : O → Option (List ℕ)) (holds_table : O → Bool) (uses : Ptr Operation → Option (List ℕ)) (c : Program O B) (table : Ptr Operation) where
  -- the table knows what is used in it, but not in a table further in
  abbrev pub KnowsAllUsed : Type 0
  KnowsAllUsed = (user : Ptr Operation) → IsOfTable holds_table c table user → KnowsSymbolOf name_in c table uses user

  -- the names of its symbols are distinct, and it knows what is used in it
  pub record HasSymbols : Type 0 where
    pub distinct : SharesName name_in holds_table c table → ⊥
    pub used : KnowsAllUsed

  -- what is asked of an operation: nothing, where it holds no table
  abbrev pub IsConsistent : Type 0
  IsConsistent = IsTable holds_table c table → HasSymbols

  -- the operation is in the table, and uses a name that the table doesn't know
  pub record IsUnknownTo (user : Ptr Operation) : Type 0 where
    pub of_table : IsOfTable holds_table c table user
    pub unknown : KnowsSymbolOf name_in c table uses user → ⊥

  -- why a table is refused: each reason only where none of those above it is there
  abbrev pub IsRefusedBy : SymbolTableInterfaceErr → Type 0
  IsRefusedBy SymbolRedefined = SharesName name_in holds_table c table
  IsRefusedBy (UnknownSymbol user) = (SharesName name_in holds_table c table → ⊥) × IsUnknownTo user

  -- the operation is the table itself, or the table knows what it uses. No public clause speaks of it
  abbrev pub IsServed : Ptr Operation → Type 0
  IsServed user = user ≢ table → KnowsSymbolOf name_in c table uses user

-- an operation is looked at: the first of which the fact doesn't hold is kept. No public clause speaks of it
abbrev pub Looks : (Ptr Operation → Type 0) → Option (Ptr Operation) → Ptr Operation → Option (Ptr Operation) → Type 0
Looks Fact None op new = ((new ≡ None) × Fact op) ⊎ ((new ≡ Some op) × (Fact op → ⊥))
Looks Fact (Some found) op new = new ≡ Some found

-- the fact holds where the premise does. No public clause speaks of it
pub record Offers (Premise Fact : Type 0) : Type 0 where
  pub given : Premise → Fact
