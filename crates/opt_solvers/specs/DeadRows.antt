-- What each item excuses once it goes, and what goes with it.
use Rattle.std.specs.Prelude.{◌≡◌, ◌⊎◌, ℕ, List, false, length, replicate, Option, Some, None, slice_get}
use Rattle.digraph.specs.Work.{Adds}
use Rattle.digraph.specs.declared.worklist.Worklist.{Worklist}
use Rattle.opt_rows.specs.declared.dead_problem.Operand.{Operand}
use Rattle.opt_rows.specs.declared.dead_problem.DeadProblem.{DeadProblem}
use Rattle.opt_steps.specs.declared.dead_release.Counts.{Counts}
use Rattle.opt_solvers.specs.declared.dead_items.DeadTables.{DeadTables}
use Rattle.opt_rows.specs.Rows.{row_at}
use Rattle.opt_rows.specs.LinkedRows.{TableLists}
use Rattle.opt_rows.specs.DeadCandidates.{all_operands}
use Rattle.opt_steps.specs.DeadPlaces.{ValueUse, all_places, slot, around_operation, AreKeptRows}
use Rattle.opt_steps.specs.DeadRelease.{ExcusesAll, IsStarted}
use Rattle.opt_solvers.specs.DeadUses.{kept_by, first_uses, CountsItems}

-- the number of an argument among the items, if there is one
abbrev pub slot_of : DeadProblem → Option ℕ → Option ℕ
slot_of p None = None
slot_of p (Some v) = Some (slot p v)

-- the item is the user of the place, or the argument that it is forwarded to
abbrev pub Excuses : DeadProblem → ValueUse → ℕ → Type 0
Excuses p q x = (q.user ≡ Some x) ⊎ (slot_of p q.operand.argument ≡ Some x)

-- the number is that of a place that the item excuses
abbrev pub IsExcusedBy : DeadProblem → ℕ → ℕ → Type 0
IsExcusedBy p x k = (q : ValueUse) × (slice_get (all_places p) k ≡ Some q) × Excuses p q x

-- the operand with this number is forwarded to the argument
abbrev pub ForwardsOperand : List Operand → ℕ → ℕ → Type 0
ForwardsOperand operands v k = (o : Operand) × (slice_get operands k ≡ Some o) × (o.argument ≡ Some v)

-- the numbers of the operands that are forwarded to each argument
abbrev pub AreForwardedPlaces : DeadProblem → List (List ℕ) → Type 0
AreForwardedPlaces p rows = TableLists (ForwardsOperand (all_operands p.operations)) rows (length p.arguments.items)

-- the operations that are directly in each operation
abbrev pub AreInner : DeadProblem → List (List ℕ) → Type 0
AreInner p rows = TableLists (λ x i. around_operation p i ≡ Some x) rows (length p.operations)

-- what each place keeps, which are forwarded to each argument, and what is in each operation
pub record AreDeadTables (p : DeadProblem) (t : DeadTables) : Type 0 where
  pub kept : AreKeptRows p (all_places p) t.keeps
  pub forwarded : AreForwardedPlaces p t.forwarded
  pub inner : AreInner p t.inner

-- an item goes: what it excuses is excused, and what is directly in it is added to the work
pub record LetsGo (p : DeadProblem) (t : DeadTables) (item : ℕ) (old new : Counts) : Type 0 where
  pub between : Worklist
  pub excuses : ExcusesAll t.keeps (IsExcusedBy p item) old.excused.items new.excused.items old.uses.items new.uses.items old.work between
  pub adds : Adds between new.work (row_at t.inner item)

-- before any item goes nothing is excused, each item has as many uses as keep it, and those without any have died
pub record AreFirstCounts (p : DeadProblem) (t : DeadTables) (c : Counts) : Type 0 where
  pub excused : c.excused.items ≡ replicate (length t.keeps) false
  pub uses : CountsItems (kept_by t.keeps) (first_uses p) c.uses.items
  pub died : IsStarted c.uses.items c.work
