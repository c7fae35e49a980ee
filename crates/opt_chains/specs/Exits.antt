-- Blocks that end in a bare branch with one successor, and what that forwards.
use Rattle.std.specs.Prelude.{◌≡◌, true, [], ◌∷◌, ◌++◌, Some}
use Rattle.ir_program.specs.Lists.{operations_in}
use Rattle.ir_program.specs.Program.{Program, OperationView, operation_at}
use Rattle.ir_program.specs.declared.handles.Ptr.{Ptr}
use Rattle.ir_program.specs.declared.handles.Operation.{Operation}
use Rattle.ir_program.specs.declared.handles.BasicBlock.{BasicBlock}
use Rattle.ir_trees.specs.Stands.{in_program}
use Rattle.opt_trees.specs.Dialect.{Dialect}
use Rattle.opt_chains.specs.Merging.{front}

-- the block ends in a branch without results and regions, whose one successor is the target
pub record IsBareExit {O B A : Type 0} (d : Dialect (in_program O B) A) (c : Program O B) (b : Ptr BasicBlock) (branch : Ptr Operation) (target : Ptr BasicBlock) : Type 0 where
  pub ends : operations_in c b ≡ front (operations_in c b) ++ branch ∷ []
  pub view : OperationView O
  pub there : operation_at c branch ≡ Some view
  pub branches : d.is_branch view.payload ≡ true
  pub results : view.results ≡ []
  pub regions : view.regions ≡ []
  pub successors : view.successors ≡ target ∷ []
