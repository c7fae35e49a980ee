-- What contracts say of uses that a predicate chooses.
use Rattle.std.specs.Prelude.{◌≡◌, ℕ, Bool, List, Some, slice_get}
use Rattle.std.specs.Fn.{FnReturns}
use denote.Param.Members.{Shared}
use denote.Ref.{Bor}
use Rattle.ir_program.specs.Uses.{IsUseIn}
use Rattle.ir_program.specs.declared.handles.Ptr.{Ptr}
use Rattle.ir_program.specs.declared.handles.Operation.{Operation}
use Rattle.ir_program.specs.declared.handles.Use.{Use}

-- in a row of each operation: each of these uses is there, and is one of x
abbrev pub AreUsesNaming : {K : Type 0} → (Ptr Operation → List K) → K → List (Use K) → Type 0
AreUsesNaming {K} rows x us = (k : ℕ) (u : Use K) → slice_get us k ≡ Some u → IsUseIn rows u × (u.def ≡ x)

-- asked about u, the predicate f may answer b
pub record MaySay {F U : Type 0} (g : Shared F (Bor U × Unit {0}) Bool) (f : F) (u : U) (b : Bool) : Type 0 where
  pub asked : Bor U
  pub shows : asked.now ≡ u
  pub says : FnReturns g f (asked, tt) b
