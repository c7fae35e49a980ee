use Rattle.ir_trees.specs.Stands.{by_handle}
use Rattle.kit_ruled_views.proofs.programs.FunctionSizes.{program_within}
use Rattle.kit_ruled_views.proofs.modules_bound_functions.Goals as goal

pub returns : goal.returns
returns c = λ leads numbered same t p is. program_within {N = by_handle} same leads numbered t p is
