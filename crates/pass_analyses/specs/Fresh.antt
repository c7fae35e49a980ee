-- Whether what is cached is what computing now gives.
use Rattle.std.specs.Prelude.{◌≡◌, Bool, true, List, Some, IsSome, Contains}
use Rattle.ir_context.specs.Views.{ContextView}
use Rattle.ir_program.specs.Program.{operation_at}
use Rattle.ir_program.specs.declared.handles.Operation.{Operation}
use Rattle.ir_program.specs.declared.handles.Ptr.{Ptr}
use Rattle.pass_analyses.specs.Cached.{Entries, cached, is_listed}

module _ {K E O B T : Type 0} (eq : K → K → Bool) (Gives : ContextView O B T → K → Ptr Operation → E → Type 0) where
  -- what is cached of these kinds of the operation is what computing now gives
  abbrev pub AreFresh : List K → ContextView O B T → Ptr Operation → Entries K E → Type 0
  AreFresh ks c p es = (k : K) → Contains ks k → (a : E) → cached eq es k p ≡ Some a → Gives c k p a

  -- so is all that is cached of operations that are live
  abbrev pub AllFresh : ContextView O B T → Entries K E → Type 0
  AllFresh c es = (k : K) (p : Ptr Operation) (a : E) → cached eq es k p ≡ Some a → IsSome (operation_at c.program p)
      → Gives c k p a

  -- so is what is cached of operations that are live and of kinds in the list
  abbrev pub ListedFresh : List K → ContextView O B T → Entries K E → Type 0
  ListedFresh ks c es = (k : K) (p : Ptr Operation) (a : E) → is_listed eq ks k ≡ true → cached eq es k p ≡ Some a
      → IsSome (operation_at c.program p) → Gives c k p a
