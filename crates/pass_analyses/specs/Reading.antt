-- What is said of a caller's analyses.
use Rattle.std.specs.Prelude.{ℕ, List}
use Rattle.ir_program.specs.declared.handles.Operation.{Operation}
use Rattle.ir_program.specs.declared.handles.Ptr.{Ptr}

-- Analyses E of kinds K over contexts C: a type with a case for each kind.
pub record Reading (C K E : Type 0) : Type 1 where
  -- the kind of an analysis
  pub kind_of : E → K
  -- how far a kind is from those that need nothing: what one needs has a lower rank
  pub rank_of : K → ℕ
  -- the kinds that one is computed from
  pub needed : K → List K
  -- what computing a kind of an operation gives in a context: it may be one of several analyses that say the same
  pub gives : C → K → Ptr Operation → E → Type 0
