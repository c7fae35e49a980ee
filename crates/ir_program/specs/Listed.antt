-- What the lists of every program keep, by slots. No public clause cites this module.
use Rattle.std.specs.Prelude.{◌≡◌, ℕ, true, List, IsSome}
use Rattle.ir_arena.specs.declared.arena.Slot.{Slot}
use Rattle.ir_arena.specs.Arena.{held}
use Rattle.ir_entities.specs.Links.{has, AreDistinctNumbers, AreApart, list_at}
use Rattle.ir_entities.specs.Forest.{IsForest}
use Rattle.ir_program.specs.Program.{Program}

-- nothing stands in two lists or twice in one, what stands in one is there, and so is what holds it
pub record AreListed {O B : Type 0} (c : Program O B) : Type 0 where
  pub forest : IsForest c.forest
  pub ops_apart : AreApart c.forest.in_blocks.lists
  pub blocks_apart : AreApart c.forest.in_regions.lists
  pub regions_apart : AreApart c.forest.in_ops.lists
  pub ops_once : (b : ℕ) → AreDistinctNumbers (list_at c.forest.in_blocks.lists b)
  pub blocks_once : (r : ℕ) → AreDistinctNumbers (list_at c.forest.in_regions.lists r)
  pub regions_once : (p : ℕ) → AreDistinctNumbers (list_at c.forest.in_ops.lists p)

-- there is a value in each of the slots
abbrev pub AreHeld : {T : Type 0} → List (Slot T) → List ℕ → Type 0
AreHeld slots is = (i : ℕ) → has i is ≡ true → IsSome (held slots i)
