-- What optimisations make of a module of a context.
use Rattle.std.specs.Prelude.{◌≡◌, ℕ, ◌≤◌, ◌^◌, List, [], ◌∷◌, ◌++◌}
use Rattle.ir_program.specs.declared.handles.Operation.{Operation}
use Rattle.ir_program.specs.declared.handles.Ptr.{Ptr}
use Rattle.ir_trees.specs.Stands.{by_handle, StandsFor}
use Rattle.ir_types.specs.Interned.{key_at}
use Rattle.kit.specs.Context.{KitContext, KitTree}
use Rattle.kit.specs.Meaning.{kit}
use Rattle.kit_behaviour.specs.PassLists.{Pass, SccpPass, LeanSccpPass, DcePass, SimplifyPass}
use Rattle.kit_ruled_passes.specs.Held.{HoldsModule}
use Rattle.kit_ruled_views.specs.TreePasses.{IsTreePass, IsTreeAfter, IsSoundTree}
use Rattle.kit_ops.specs.declared.pass.KitPass.{KitPass}
use Rattle.kit_ops.specs.declared.pass.KitPass.TheVariants as passes
use Rattle.kit_writable_trees.specs.Writable.{IsWritableRoot}
use Rattle.opt_sccp.specs.Sccp.{MovesCounterTo}

-- the pass on programs that it is: constant propagation puts constants in for used values alone
abbrev pub pass_of : KitPass → Pass
pass_of passes.Sccp = LeanSccpPass
pass_of passes.Dce = DcePass
pass_of passes.SimplifyCfg = SimplifyPass

-- The operation holds a module afterwards, which has the same types to choose from. Where it stood for a tree, it
-- stands for one now of which `Makes` tells, and which can be written as a text where the first could be.
pub record Leaves (Makes : KitTree → KitTree → Type 0) (old new : KitContext) (root : Ptr Operation) : Type 0 where
  pub holds : HoldsModule new root
  pub types : new.types ≡ old.types
  pub tree : (t : KitTree) → StandsFor old.program root t →
      (u : KitTree) × StandsFor new.program root u × Makes t u
      × (IsWritableRoot old.types.keys t → IsWritableRoot old.types.keys u)

-- what one pass leaves
abbrev pub IsPassed : Pass → KitContext → KitContext → Ptr Operation → Type 0
IsPassed x old new root = Leaves (IsTreePass {N = by_handle} x) old new root

-- what a list of passes leaves, one after another, whatever numbers the names of functions have
abbrev pub IsOptimised : List Pass → KitContext → KitContext → Ptr Operation → Type 0
IsOptimised xs old new root =
    Leaves
    (λ t u. (numbered : List ℕ → ℕ) → IsTreeAfter {N = by_handle} (key_at old.types) numbered xs t u) old new root

-- what the old context has come of by a list of passes, the new one has come of by the list with the pass behind it
abbrev pub ExtendsPasses : Pass → KitContext → KitContext → Ptr Operation → Type 0
ExtendsPasses x old new root = (start : KitContext) (xs : List Pass) → IsOptimised xs start old root →
    IsOptimised (xs ++ x ∷ []) start new root

-- the tree that the operation stands for is sound, whatever numbers the names of functions have
abbrev pub IsSoundRoot : KitContext → Ptr Operation → Type 0
IsSoundRoot s root = (t : KitTree) → StandsFor s.program root t → (numbered : List ℕ → ℕ) →
    IsSoundTree {N = by_handle} (key_at s.types) numbered t

-- What a pass moves the counter of values to: constant propagation takes a number for each value that gets a constant,
-- and the others take none.
abbrev pub CountsTo : Pass → KitContext → Ptr Operation → ℕ → Type 0
CountsTo SccpPass old root n = ⊥
CountsTo LeanSccpPass old root n = MovesCounterTo kit old.program root n
CountsTo DcePass old root n = n ≡ old.program.counter
CountsTo SimplifyPass old root n = n ≡ old.program.counter

-- from context to context, one pass after another, each of which takes the numbers of values that it does
abbrev pub RunsPasses : List Pass → KitContext → KitContext → Ptr Operation → Type 0
RunsPasses [] old new root = new ≡ old
RunsPasses (x ∷ xs) old new root =
    (next : KitContext) × IsPassed x old next root × CountsTo x old root next.program.counter × RunsPasses xs next new root

-- the pass takes more numbers of values than are left
abbrev pub StopsFull : Pass → KitContext → Ptr Operation → Type 0
StopsFull x old root = (n : ℕ) × CountsTo x old root n × (2 ^ 64 ≤ n)

-- The passes of a list leave too few numbers of values for one of them: those before it are made, and it takes more
-- than are left.
pub record FillsUp (xs : List Pass) (old : KitContext) (root : Ptr Operation) : Type 0 where
  pub done : List Pass
  pub next : Pass
  pub rest : List Pass
  pub parts : done ++ next ∷ rest ≡ xs
  pub reached : KitContext
  pub runs : RunsPasses done old reached root
  pub full : StopsFull next reached root
