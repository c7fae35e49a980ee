-- What contracts say of the results of an operation and of where they are used.
use Rattle.std.specs.Prelude.{◌≡◌, ℕ, List, length, Some, slice_get}
use Rattle.ir_program.specs.Program.{Program, results_at, value_in}
use Rattle.ir_program.specs.Uses.{IsUse, IsUsed}
use Rattle.ir_program.specs.declared.handles.Ptr.{Ptr}
use Rattle.ir_program.specs.declared.handles.Operation.{Operation}
use Rattle.ir_program.specs.declared.handles.Value.{Value}
use Rattle.ir_program.specs.declared.handles.Use.{Use}

module _ {O B : Type 0} where
  -- the value is one of the operation's results
  abbrev pub IsResultOf : Program O B → Ptr Operation → Value → Type 0
  IsResultOf c p v = (k : ℕ) × (value_in (results_at c p) k ≡ Some v)

  -- some operation takes a result of the operation
  abbrev pub HasUsedResult : Program O B → Ptr Operation → Type 0
  HasUsedResult c p = (v : Value) × IsResultOf c p v × IsUsed c v

  -- the uses of all values of which P holds, each once, in any order
  pub record AreUsesWhere (c : Program O B) (P : Value → Type 0) (us : List (Use Value)) : Type 0 where
    pub once : (i j : ℕ) (u : Use Value) → slice_get us i ≡ Some u → slice_get us j ≡ Some u → i ≡ j
    pub sound : (i : ℕ) (u : Use Value) → slice_get us i ≡ Some u → IsUse c u × P u.def
    pub all : (u : Use Value) → IsUse c u → P u.def → (i : ℕ) × (slice_get us i ≡ Some u)

  -- the uses of the results of an operation, each once, in any order
  abbrev pub AreResultUses : Program O B → Ptr Operation → List (Use Value) → Type 0
  AreResultUses c p us = AreUsesWhere c (IsResultOf c p) us

  -- the results of an operation have so many uses
  abbrev pub IsResultUseCount : Program O B → Ptr Operation → ℕ → Type 0
  IsResultUseCount c p n = (us : List (Use Value)) × AreResultUses c p us × (length us ≡ n)
