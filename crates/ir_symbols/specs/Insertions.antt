-- When an operation can be put into a symbol table and its block, why it is refused, and where it is put.
use Rattle.std.specs.Prelude.{◌≡◌, ◌≢◌, ℕ, List, Option, Some, None, IsSome}
use Rattle.ir_program.specs.Lists.{StandsInBlock, StandsInside, IsUnlinkedOperation}
use Rattle.ir_program.specs.ListEdits.{PutsOperationBefore, PutsOperationLast}
use Rattle.ir_program.specs.Program.{Program}
use Rattle.ir_program.specs.declared.handles.BasicBlock.{BasicBlock}
use Rattle.ir_program.specs.declared.handles.IRNode.TheVariants.{Operation as OperationNode, BasicBlock as BlockNode}
use Rattle.ir_program.specs.declared.handles.Operation.{Operation}
use Rattle.ir_program.specs.declared.handles.Ptr.{Ptr}
use Rattle.ir_symbols.specs.Symbols.{name_at}
use Rattle.ir_symbols.specs.Tables.{entry_at, SetsEntry}
use Rattle.ir_symbols.specs.declared.errors.SymbolTableErr.{SymbolTableErr}
use Rattle.ir_symbols.specs.declared.errors.SymbolTableErr.TheVariants as err
use Rattle.ir_symbols.specs.declared.tables.SymbolTable.{SymbolTable}

module _ {O B : Type 0} (c : Program O B) (body : Ptr BasicBlock) (op : Ptr Operation) where
  -- the operation is one of the block's, or is of no block and isn't around this one
  pub data CanStandIn : Type 0 where
    there : StandsInBlock c op body → CanStandIn
    free : IsUnlinkedOperation c op → (StandsInside c (OperationNode op) (BlockNode body) → ⊥) → CanStandIn

  -- the mark, if there is one, is another operation of the block
  abbrev pub IsMark : Option (Ptr Operation) → Type 0
  IsMark None = Unit {0}
  IsMark (Some mark) = (mark ≢ op) × StandsInBlock c mark body

  -- the operation can be one of the block's, before the mark or at the end
  pub record HasPlace (before : Option (Ptr Operation)) : Type 0 where
    pub stands : CanStandIn
    pub mark : IsMark before

-- the table has another operation under the name
pub record HasOther (table : SymbolTable) (name : List ℕ) (op : Ptr Operation) : Type 0 where
  pub other : Ptr Operation
  pub entry : entry_at table name ≡ Some other
  pub differs : other ≢ op

module _ {O B : Type 0} (name_in : O → Option (List ℕ)) (c : Program O B) (table : SymbolTable) (op : Ptr Operation) where
  -- the table has another operation under the operation's name
  pub record IsTaken : Type 0 where
    pub name : List ℕ
    pub named : name_at name_in c op ≡ Some name
    pub taken : HasOther table name op

  -- the operation has a name, and the table has no other operation under it
  pub record HasFreeName : Type 0 where
    pub named : IsSome (name_at name_in c op)
    pub free : (name : List ℕ) → name_at name_in c op ≡ Some name → HasOther table name op → ⊥

  -- the operation can be put into the table, and before the mark or at the end of the table's block
  pub record CanInsert (before : Option (Ptr Operation)) : Type 0 where
    pub name : HasFreeName
    pub place : HasPlace c table.body op before

  -- why an operation is refused: each reason only where none of those above it is there, and want of memory only where no other is
  abbrev pub IsRefusedBy : Option (Ptr Operation) → SymbolTableErr → Type 0
  IsRefusedBy before err.DoesNotImplementSymbolOpInterface = name_at name_in c op ≡ None
  IsRefusedBy before err.SymbolRedefined = IsTaken
  IsRefusedBy before err.WrongParent = HasFreeName × (CanStandIn c table.body op → ⊥)
  IsRefusedBy before err.WrongInsertionPoint = HasFreeName × CanStandIn c table.body op × (IsMark c table.body op before → ⊥)
  IsRefusedBy before err.Memory = CanInsert before
  IsRefusedBy before err.DoesNotImplementSymbolTableInterface = ⊥

  -- the operation is under its name, and under each other name is what was there
  abbrev pub InsertsEntry : SymbolTable → Type 0
  InsertsEntry new = (name : List ℕ) → name_at name_in c op ≡ Some name → SetsEntry table new name op

-- an operation of no block is before the mark, or at the end of the block
abbrev pub PutsIn : {O B : Type 0} → Program O B → Program O B → Ptr BasicBlock → Ptr Operation → Option (Ptr Operation) → Type 0
PutsIn old new body op None = PutsOperationLast old new body op
PutsIn old new body op (Some mark) = PutsOperationBefore old new mark op

-- an operation of no block is put into this one, and one of this block stays where it is
pub data PutsSymbol {O B : Type 0} (old new : Program O B) (body : Ptr BasicBlock) (op : Ptr Operation) (before : Option (Ptr Operation)) : Type 0 where
  put : IsUnlinkedOperation old op → PutsIn old new body op before → PutsSymbol old new body op before
  stays : StandsInBlock old op body → new ≡ old → PutsSymbol old new body op before
