use Rattle.kit_ruled_views.proofs.programs.ListsOnTrees.{list_on}
use Rattle.kit_ruled_views.proofs.lists_are_lists.Goals as goal

pub returns : goal.returns
returns g c = λ told leads numbered xs t r p after is. list_on told leads numbered xs t r p after is
