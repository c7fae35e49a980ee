-- The uses of values, and the items that each of them keeps.
use Rattle.std.specs.Prelude.{◌≡◌, ◌⊎◌, ◌<◌, ◌≤◌, ◌+◌, ℕ, suc, List, [], ◌∷◌, ◌++◌, length, map, Option, Some, None, slice_get, Contains, ◌↔◌}
use Rattle.digraph.specs.Counts.{count_of}
use Rattle.opt_rows.specs.declared.dead_problem.Definer.{Definer}
use Rattle.opt_rows.specs.declared.dead_problem.Definer.TheVariants.{Result, Argument as ByArgument, Outside}
use Rattle.opt_rows.specs.declared.dead_problem.Operand.{Operand}
use Rattle.opt_rows.specs.declared.dead_problem.Argument.{Argument}
use Rattle.opt_rows.specs.declared.dead_problem.DeadProblem.{DeadProblem}
use Rattle.opt_rows.specs.DeadCandidates.{Candidate, around_of}
use Rattle.opt_rows.specs.Rows.{row_at}
use Rattle.opt_rows.specs.Dead.{HasOperand, IsInOperation}

-- a use of a value: by the operation whose operand it is, or by none, from outside or by the root
pub record ValueUse : Type 0 where
  pub user : Option ℕ
  pub operand : Operand

-- the place of an operand
abbrev pub operand_place : ℕ → Operand → ValueUse
operand_place user o = record { user = Some user; operand = o }

-- the place of a use from outside or by the root
abbrev pub kept_place : Definer → ValueUse
kept_place d = record { user = None; operand = record { definer = d; argument = None } }

-- the places of the operands of operations in turn, the first of which has this number
abbrev pub operand_places : ℕ → List Candidate → List ValueUse
operand_places i [] = []
operand_places i (c ∷ cs) = map (operand_place i) c.operands ++ operand_places (suc i) cs

-- all uses: the operands of all operations, and behind them the uses from outside and by the root
abbrev pub all_places : DeadProblem → List ValueUse
all_places p = operand_places 0 p.operations ++ map kept_place p.kept.items

-- an operand of an operation
abbrev pub IsOperandPlace : DeadProblem → ValueUse → Type 0
IsOperandPlace p q = (i : ℕ) × (q.user ≡ Some i) × HasOperand p i q.operand

-- a use from outside or by the root, which is forwarded to no argument
abbrev pub IsKeptPlace : DeadProblem → ValueUse → Type 0
IsKeptPlace p q = (q.user ≡ None) × (q.operand.argument ≡ None) × Contains p.kept.items q.operand.definer

-- a use of a value
abbrev pub IsValueUse : DeadProblem → ValueUse → Type 0
IsValueUse p q = IsOperandPlace p q ⊎ IsKeptPlace p q

-- what an entry of the table says that its block is directly in
abbrev pub around_of_argument : Option Argument → Option ℕ
around_of_argument None = None
around_of_argument (Some c) = c.around

-- the operation that an operation, or the block of an argument, is directly in
abbrev pub around_operation : DeadProblem → ℕ → Option ℕ
around_operation p i = around_of (slice_get p.operations i)

abbrev pub around_argument : DeadProblem → ℕ → Option ℕ
around_argument p v = around_of_argument (slice_get p.arguments.items v)

-- the operation that the definition of a value is directly in
abbrev pub around_definer : DeadProblem → Definer → Option ℕ
around_definer p (Result b) = around_operation p b
around_definer p (ByArgument v) = around_argument p v
around_definer p Outside = None

-- the operation that a user is directly in
abbrev pub around_user : DeadProblem → Option ℕ → Option ℕ
around_user p None = None
around_user p (Some i) = around_operation p i

-- the number of an argument among the items: operations come first
abbrev pub slot : DeadProblem → ℕ → ℕ
slot p v = length p.operations + v

-- how many items there are
abbrev pub items : DeadProblem → ℕ
items p = length p.operations + length p.arguments.items

-- the number of the item that a value is a result of, or is
abbrev pub maker : DeadProblem → Definer → Option ℕ
maker p (Result b) = Some b
maker p (ByArgument v) = Some (slot p v)
maker p Outside = None

-- the operation a is the one given, or around it
abbrev pub IsAtOrAround : DeadProblem → Option ℕ → ℕ → Type 0
IsAtOrAround p from a = (j : ℕ) × (from ≡ Some j) × IsInOperation p a j

-- the operation is around the first, and not around the second
abbrev pub IsBetween : DeadProblem → Option ℕ → Option ℕ → ℕ → Type 0
IsBetween p inner outer x = IsAtOrAround p inner x × (IsAtOrAround p outer x → ⊥)

-- a use keeps the item that makes the value, and what is around this and not around the user
abbrev pub PlaceKeeps : DeadProblem → Option ℕ → Definer → ℕ → Type 0
PlaceKeeps p user d x = (maker p d ≡ Some x) ⊎ IsBetween p (around_definer p d) (around_user p user) x

-- the items that a use keeps, each once
pub record KeepsRow (p : DeadProblem) (user : Option ℕ) (d : Definer) (row : List ℕ) : Type 0 where
  pub exact : (x : ℕ) → Contains row x ↔ PlaceKeeps p user d x
  pub within : (x : ℕ) → Contains row x → x < items p
  pub once : (x : ℕ) → count_of x row ≤ 1

-- the number of an operation that there is
abbrev pub IsOperationNumber : DeadProblem → Option ℕ → Type 0
IsOperationNumber p o = (j : ℕ) → o ≡ Some j → j < length p.operations

-- the number of what defines a value is that of an operation or an argument
abbrev pub IsKnownDefiner : DeadProblem → Definer → Type 0
IsKnownDefiner p (Result b) = b < length p.operations
IsKnownDefiner p (ByArgument v) = v < length p.arguments.items
IsKnownDefiner p Outside = Unit {0}

-- outwards from an operation to one that is not above a limit: of the operations up to the limit the same are around it
pub record GoesOut (p : DeadProblem) (from : Option ℕ) (limit : ℕ) (to : Option ℕ) : Type 0 where
  pub number : IsOperationNumber p to
  pub low : (j : ℕ) → to ≡ Some j → j ≤ limit
  pub around : (a : ℕ) → a ≤ limit → IsAtOrAround p from a ↔ IsAtOrAround p to a

-- the row has numbers above that of the operation alone, each once
pub record AreNumbersAbove (from : Option ℕ) (row : List ℕ) : Type 0 where
  pub behind : (x j : ℕ) → Contains row x → from ≡ Some j → j < x
  pub once : (x : ℕ) → count_of x row ≤ 1

-- a row has more: what is around the one operation, and not around the other
pub record Crosses (p : DeadProblem) (inner outer : Option ℕ) (old new : List ℕ) : Type 0 where
  pub exact : (x : ℕ) → Contains new x ↔ Contains old x ⊎ IsBetween p inner outer x
  pub once : (x : ℕ) → count_of x new ≤ 1

-- row by row, the items that each place keeps
pub record AreKeptRows (p : DeadProblem) (places : List ValueUse) (rows : List (List ℕ)) : Type 0 where
  pub len : length rows ≡ length places
  pub row : (k : ℕ) (q : ValueUse) → slice_get places k ≡ Some q → KeepsRow p q.user q.operand.definer (row_at rows k)

-- behind the rows of any places there are now those of these
abbrev pub KeepMore : DeadProblem → List ValueUse → List (List ℕ) → List (List ℕ) → Type 0
KeepMore p more old new = (places : List ValueUse) → AreKeptRows p places old → AreKeptRows p (places ++ more) new
