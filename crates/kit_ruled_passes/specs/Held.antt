-- Modules of a context that stay apart from all else in it.
use Rattle.std.specs.Prelude.{IsSome}
use Rattle.ir_program.specs.Program.{operation_at}
use Rattle.ir_program.specs.declared.handles.Operation.{Operation}
use Rattle.ir_program.specs.declared.handles.Ptr.{Ptr}
use Rattle.ir_trees.specs.Stands.{by_handle, StandsFor}
use Rattle.kit.specs.Context.{KitContext, KitTree}
use Rattle.opt_inside.specs.Around.{SaysAround}
use Rattle.opt_trees.specs.Dce.{TreeSurroundings}
use Rattle.kit.specs.Meaning.{kit}
use Rattle.kit_ops.specs.declared.attributes.IntegerAttr.{IntegerAttr}
use Rattle.kit_ruled_passes.specs.Entering.{IsEnteredNowhere}
use Rattle.kit_ruled_views.specs.Functions.{IsSelfContained, KeepsRules}

-- an operation of a context stands for a module that keeps the rules, and no operation outside it leads to a block in it
-- or takes a value of it
pub record HoldsModule (s : KitContext) (root : Ptr Operation) : Type 0 where
  pub live : IsSome (operation_at s.program root)
  pub rules : KeepsRules s root
  pub entered : IsEnteredNowhere s root
  pub contained : IsSelfContained s root

-- it holds of the module's tree and of what the context says beside it
abbrev pub OfModule : KitContext → Ptr Operation → (TreeSurroundings by_handle IntegerAttr → KitTree → Type 0) → Type 0
OfModule s root P = (w : TreeSurroundings by_handle IntegerAttr) → SaysAround kit s.program root w →
    (t : KitTree) → StandsFor s.program root t → P w t
