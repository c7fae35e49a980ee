-- The statements of the laws.
use Rattle.ir_program.specs.declared.handles.Operation.{Operation}
use Rattle.ir_program.specs.declared.handles.Ptr.{Ptr}
use Rattle.ir_program.specs.declared.handles.Value.{Value}
use Rattle.ir_trees.specs.Stands.{by_handle, StandsFor}
use Rattle.kit.specs.Context.{KitProgram, KitTree}
use Rattle.opt_trees.specs.Dce.{TreeSurroundings}
use Rattle.opt_trees.specs.Occurrences.{Has, defined_in}
use Rattle.opt_dialect.specs.declared.status.IRStatus.{IRStatus}
use Rattle.opt_inside.specs.Around.{IsTakenOutside, SaysAround}
use Rattle.opt_dce.specs.Thins.{IsOutcome}
use Rattle.ir_opts.specs.SimplifiedTree.{SimplifiesTree}
use Rattle.kit.specs.Meaning.{kit}
use Rattle.kit_ops.specs.declared.attributes.IntegerAttr.{IntegerAttr}
use Rattle.kit_views.specs.FlatBranches.{KnowsConstants}
use Rattle.kit_ruled_views.specs.TreePasses.{IsDceAlone, IsSimplifiedAlone}

-- where the operation stood for a tree, it stands for one now of which this holds
abbrev pub LeavesTree : KitProgram → KitProgram → Ptr Operation → (KitTree → KitTree → Type 0) → Type 0
LeavesTree old new root Makes = (t : KitTree) → StandsFor old root t → (u : KitTree) × StandsFor new root u × Makes t u

-- what dead code elimination leaves is the tree without what is dead, and nothing in it is named from outside
abbrev pub RemovedStandAlone : Type 0
RemovedStandAlone = (old new : KitProgram) (root : Ptr Operation) (status : IRStatus) (t : KitTree) →
    ((v : Value) → Has v (defined_in t.regions) → IsTakenOutside old root v → ⊥) → IsOutcome kit old new root t status →
    (u : KitTree) × StandsFor new root u × IsDceAlone t u

-- what simplification of control flow leaves is the simplified tree, under other names of operations that are kept apart
abbrev pub SimplifiedStandAlone : Type 0
SimplifiedStandAlone = (old new : KitProgram) (root : Ptr Operation) (t : KitTree) →
    ((w : TreeSurroundings by_handle IntegerAttr) → SaysAround kit old root w → KnowsConstants w t) →
    SimplifiesTree kit old new root t → (u : KitTree) × StandsFor new root u × IsSimplifiedAlone t u
