-- What passes leave can be written, and how they are refused.
use Rattle.std.proofs.Common.{◌≡◌, ℕ, List, Result, Err, map, refl, sym, ap, subst, ◌∙◌}
use Rattle.std.specs.Prelude.{IsErrAnd}
use Rattle.ir_base.specs.declared.growth.GrowError.{GrowError}
use Rattle.ir_base.specs.declared.growth.GrowError.TheVariants as grow
use Rattle.ir_program.specs.declared.handles.Operation.{Operation}
use Rattle.ir_program.specs.declared.handles.Ptr.{Ptr}
use Rattle.ir_trees.proofs.OneTree.{one_tree}
use Rattle.ir_trees.specs.Stands.{StandsFor}
use Rattle.kit.specs.Context.{KitContext, KitTree}
use Rattle.kit_behaviour.specs.PassLists.{Pass}
use Rattle.kit_optimiser.specs.Passed.{FillsUp, IsOptimised, pass_of}
use Rattle.kit_ops.specs.declared.pass.KitPass.{KitPass}
use Rattle.kit_writable_trees.specs.Writable.{IsWritableRoot}
use Rattle.irkit_running.proofs.ReadLemmas.{at_error}
use Rattle.irkit_running.specs.Known.{CanBeWritten}
use Rattle.irkit_running.specs.Lists.{EndsPasses}

-- what could be written can be written after the passes
pub stays_writable : (xs : List Pass) (old new : KitContext) (root : Ptr Operation) (t : KitTree) → StandsFor old.program root t
    → CanBeWritten old root → IsOptimised xs old new root → CanBeWritten new root
stays_writable xs old new root t stands can passed u there =
    let left = passed.tree t stands in
    subst (λ types. IsWritableRoot types.keys u) (sym passed.types)
    (subst (IsWritableRoot old.types.keys) (one_tree new.program root left.0 u left.1 there) (left.3 (can t stands)))

refused_for : {V : Type 0} (passes : List KitPass) (old : KitContext) (root : Ptr Operation) (text_of : V → List ℕ) (e : GrowError)
    → (e ≡ grow.CounterFull → FillsUp (map pass_of passes) old root) → EndsPasses passes old root text_of (Err e)
refused_for passes old root text_of grow.CounterFull full = full refl
refused_for passes old root text_of grow.Memory full = tt

-- passes that are refused make no text
pub refused : {X V : Type 0} (passes : List KitPass) (old : KitContext) (root : Ptr Operation) (text_of : V → List ℕ)
    (ran : Result X GrowError) (e : GrowError) (r : Result V GrowError) → ran ≡ Err e
    → (ran ≡ Err grow.CounterFull → FillsUp (map pass_of passes) old root) → IsErrAnd r (λ x. x ≡ e)
    → EndsPasses passes old root text_of r
refused passes old root text_of ran e r was full is =
    at_error (EndsPasses passes old root text_of) r e is (refused_for passes old root text_of e (λ same. full (was ∙ ap Err same)))
