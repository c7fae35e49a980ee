-- What functions of a module carry, by their paths.
use Rattle.std.specs.Prelude.{ℕ, List, Option, option_map}
use Rattle.ir_trees.specs.Names.{Names}
use Rattle.ir_trees.specs.Trees.{Root}
use Rattle.kit.specs.Meaning.{KitOperation}
use Rattle.kit_ruled_views.specs.Paths.{locate}
use Rattle.kit_views.specs.Reading.{kit_contents}

-- what the function that a path leads to carries: its kind and its attributes, the name and the type among them
abbrev pub function_content : {N : Names} → (List ℕ → ℕ) → List ℕ → Root N kit_contents → Option KitOperation
function_content {N} numbered path t = option_map (λ (u : Root N kit_contents). u.head.content) (locate numbered path t)
