-- Half way through the operations of a block. No public clause cites this module.
use Rattle.std.specs.Prelude.{◌≡◌, ◌≢◌, ◌↔◌, ℕ, List, Option, Some, None, IsSome, slice_get}
use Rattle.std.specs.BTreeMap.{get_by_text}
use Rattle.ir_program.specs.Program.{Program}
use Rattle.ir_program.specs.declared.handles.Operation.{Operation}
use Rattle.ir_program.specs.declared.handles.Ptr.{Ptr}
use Rattle.ir_symbols.specs.Scans.{first_named}
use Rattle.ir_symbols.specs.Symbols.{name_at}
use Rattle.ir_symbols.specs.Tables.{Names, SetsName}
use Rattle.ir_symbols.specs.declared.errors.SymbolTableErr.{SymbolTableErr}
use Rattle.ir_symbols.specs.declared.errors.SymbolTableErr.TheVariants as err

-- the operation is one of these
abbrev pub IsAmong : List (Ptr Operation) → Ptr Operation → Type 0
IsAmong ops op = (k : ℕ) × (slice_get ops k ≡ Some op)

-- a name is there already, or there was no memory
abbrev pub IsNotCollectedBy : Type 0 → SymbolTableErr → Type 0
IsNotCollectedBy There err.SymbolRedefined = There
IsNotCollectedBy There err.Memory = Unit {0}
IsNotCollectedBy There e = ⊥

-- a name is there twice, or there was no memory, and no name is there twice
abbrev pub IsToldBy : Type 0 → SymbolTableErr → Type 0
IsToldBy Shared err.SymbolRedefined = Shared
IsToldBy Shared err.Memory = Shared → ⊥
IsToldBy Shared e = ⊥

module _ {O B : Type 0} (name_in : O → Option (List ℕ)) (c : Program O B) where
  -- exactly those of the operations that have names, each under its name
  abbrev pub AreSymbolsAmong : List (Ptr Operation) → Names → Type 0
  AreSymbolsAmong ops names = (name : List ℕ) (op : Ptr Operation) → (get_by_text names name ≡ Some op) ↔ (IsAmong ops op × (name_at name_in c op ≡ Some name))

  -- the operation has a name, and some operation is under it
  pub record IsNamedAlready (names : Names) (op : Ptr Operation) : Type 0 where
    pub name : List ℕ
    pub named : name_at name_in c op ≡ Some name
    pub there : IsSome (get_by_text names name)

  -- an operation without a name changes nothing, and one with a name is put under it, where none was
  pub record AddsSymbol (old new : Names) (op : Ptr Operation) : Type 0 where
    pub unnamed : name_at name_in c op ≡ None → new ≡ old
    pub named : (name : List ℕ) → name_at name_in c op ≡ Some name → (get_by_text old name ≡ None) × SetsName old new name op

  -- the operation is the first of these that has its name, or has none
  abbrev pub IsFirstOfName : List (Ptr Operation) → Ptr Operation → Type 0
  IsFirstOfName ops op = (name : List ℕ) → name_at name_in c op ≡ Some name → first_named name_in c name ops ≡ Some op

  -- the operation has a name, and isn't the first of these that has it
  pub record ComesLater (ops : List (Ptr Operation)) (op : Ptr Operation) : Type 0 where
    pub name : List ℕ
    pub named : name_at name_in c op ≡ Some name
    pub later : first_named name_in c name ops ≢ Some op
