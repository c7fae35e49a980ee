-- When two texts say the same module.
use Rattle.std.specs.Prelude.{ℕ, List}
use Rattle.ir_forest.specs.Closed.{IsSameModule}
use Rattle.ir_print.specs.Pieces.{Entity}
use Rattle.irkit_refusals.specs.Texts.{SaysTree}

-- The texts say trees that are the same but for labels: kinds, types and attributes at each place, which definitions
-- operands name, and which blocks edges name.
pub record HaveOneModule (text other : List ℕ) : Type 0 where
  pub tree : Entity ℕ
  pub other_tree : Entity ℕ
  pub says_it : SaysTree text tree
  pub other_says : SaysTree other other_tree
  pub same : IsSameModule tree other_tree
