-- Marks of items, by their counts of uses.
use Rattle.std.specs.Prelude.{◌≡◌, ℕ, List, length, map, nat_eq, take, drop, true, Some, slice_get, ◌↔◌}
use Rattle.opt_rows.specs.declared.dead_problem.DeadProblem.{DeadProblem}
use Rattle.opt_rows.specs.declared.dead_problem.DeadItems.{DeadItems}
use Rattle.opt_rows.specs.Dead.{Whole, Slot, IsDeadItem}

-- the lists are as long as there are operations and arguments, and exactly the dead are marked
pub record AreDead (p : DeadProblem) (dead : DeadItems) : Type 0 where
  pub operations_len : length dead.operations.items ≡ length p.operations
  pub arguments_len : length dead.arguments.items ≡ length p.arguments.items
  pub operations : (a : ℕ) → slice_get dead.operations.items a ≡ Some true ↔ IsDeadItem p (Whole a)
  pub arguments : (v : ℕ) → slice_get dead.arguments.items v ≡ Some true ↔ IsDeadItem p (Slot v)

-- the first so many counts are those of the operations, the others those of the arguments; zeros are marked
pub record AreMarked (operations : ℕ) (uses : List ℕ) (dead : DeadItems) : Type 0 where
  pub operations_are : dead.operations.items ≡ map (λ n. nat_eq n 0) (take operations uses)
  pub arguments_are : dead.arguments.items ≡ map (λ n. nat_eq n 0) (drop operations uses)
