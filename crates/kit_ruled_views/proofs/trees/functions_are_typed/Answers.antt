use Rattle.kit_ruled_views.proofs.FunctionTypes.{typed_function}
use Rattle.kit_ruled_views.proofs.trees.functions_are_typed.Goals as goal

pub returns : goal.returns
returns c = typed_function
