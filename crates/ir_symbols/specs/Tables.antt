-- What contracts see of a symbol table.
use Rattle.std.specs.Prelude.{◌≡◌, ◌≢◌, ◌↔◌, ℕ, Bool, List, Option, Some, cond, bytes_eq, String}
use Rattle.std.specs.Global.{Global}
use Rattle.std.specs.BTreeMap.{BTreeMap, get_by_text, IsUnchanged}
use Rattle.ir_program.specs.Program.{Program}
use Rattle.ir_program.specs.declared.handles.Operation.{Operation}
use Rattle.ir_program.specs.declared.handles.BasicBlock.{BasicBlock}
use Rattle.ir_program.specs.declared.handles.Ptr.{Ptr}
use Rattle.ir_symbols.specs.Symbols.{IsSymbolIn, HasSharedName, IsTable, HasBody}
use Rattle.ir_symbols.specs.declared.errors.SymbolTableErr.{SymbolTableErr}
use Rattle.ir_symbols.specs.declared.errors.SymbolTableErr.TheVariants as err
use Rattle.ir_symbols.specs.declared.tables.SymbolTable.{SymbolTable}

-- operations by texts
abbrev pub Names : Type 0
Names = BTreeMap (String Global) (Ptr Operation)

-- exactly the symbols of a block, each under its name
abbrev pub AreSymbolsOf : {O B : Type 0} → (O → Option (List ℕ)) → Program O B → Ptr BasicBlock → Names → Type 0
AreSymbolsOf name_in c block names = (name : List ℕ) (op : Ptr Operation) → (get_by_text names name ≡ Some op) ↔ IsSymbolIn name_in c block name op

-- the operation is under the name, and under each other name is what was there
abbrev pub SetsName : Names → Names → List ℕ → Ptr Operation → Type 0
SetsName old new name op = (other : List ℕ) → get_by_text new other ≡ cond (bytes_eq name other) (Some op) (get_by_text old other)

-- the operation that a table has under a name
abbrev pub entry_at : SymbolTable → List ℕ → Option (Ptr Operation)
entry_at table name = get_by_text table.names name

-- a table has exactly the symbols of its block, each under its name
abbrev pub Agrees : {O B : Type 0} → (O → Option (List ℕ)) → Program O B → SymbolTable → Type 0
Agrees name_in c table = AreSymbolsOf name_in c table.body table.names

-- the tables are of one operation and one block
pub record IsOfSame (old new : SymbolTable) : Type 0 where
  pub op : new.op ≡ old.op
  pub body : new.body ≡ old.body

-- the tables have the same entries
pub record IsSameTable (old new : SymbolTable) : Type 0 where
  pub of_same : IsOfSame old new
  pub entries : IsUnchanged old.names new.names

-- the operation is under the name, and under each other name is what was there
pub record SetsEntry (old new : SymbolTable) (name : List ℕ) (op : Ptr Operation) : Type 0 where
  pub of_same : IsOfSame old new
  pub entries : SetsName old.names new.names name op

-- no name leads to the operation, and names that led to another one lead there still
pub record TakesEntries (old new : SymbolTable) (op : Ptr Operation) : Type 0 where
  pub of_same : IsOfSame old new
  pub entries : (name : List ℕ) (other : Ptr Operation) → (entry_at new name ≡ Some other) ↔ ((entry_at old name ≡ Some other) × (other ≢ op))

-- some name leads to the operation
abbrev pub HasEntryOf : SymbolTable → Ptr Operation → Type 0
HasEntryOf table op = (name : List ℕ) × (entry_at table name ≡ Some op)

module _ {O B : Type 0} (name_in : O → Option (List ℕ)) (holds_table : O → Bool) (c : Program O B) (op : Ptr Operation) where
  -- the table is that of the operation: it has exactly the symbols of the operation's block
  pub record IsTableOf (table : SymbolTable) : Type 0 where
    pub of_op : table.op ≡ op
    pub is_table : IsTable holds_table c op
    pub of_body : HasBody c op table.body
    pub agrees : Agrees name_in c table

  -- the operation's block has two operations of one name
  abbrev pub SharesName : Type 0
  SharesName = (body : Ptr BasicBlock) × HasBody c op body × HasSharedName name_in c body

  -- why no table is made of an operation: each reason only where none of those above it is there
  abbrev pub IsNoTableBy : SymbolTableErr → Type 0
  IsNoTableBy err.DoesNotImplementSymbolTableInterface = IsTable holds_table c op → ⊥
  IsNoTableBy err.SymbolRedefined = IsTable holds_table c op × SharesName
  IsNoTableBy err.Memory = IsTable holds_table c op × (SharesName → ⊥)
  IsNoTableBy err.DoesNotImplementSymbolOpInterface = ⊥
  IsNoTableBy err.WrongParent = ⊥
  IsNoTableBy err.WrongInsertionPoint = ⊥
