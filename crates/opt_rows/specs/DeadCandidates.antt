-- Operations as dead code elimination sees them, and the lists that they are kept in.
use Rattle.std.specs.Prelude.{◌≡◌, ◌+◌, ℕ, zero, suc, Bool, true, false, List, [], ◌∷◌, ◌++◌, length, Option, Some, None}
use Rattle.opt_rows.specs.declared.dead_problem.Operand.{Operand}
use Rattle.opt_rows.specs.Rows.{AreEnds}

-- an operation: whether nothing but uses keeps it, the operation that it is in, if that is none of the root's own, and its operands
pub record Candidate : Type 0 where
  pub may_go : Bool
  pub around : Option ℕ
  pub operands : List Operand

-- whether nothing but uses keeps an operation
abbrev pub may_go_of : Candidate → Bool
may_go_of c = c.may_go

-- what an entry of the table says that it is directly in
abbrev pub around_of : Option Candidate → Option ℕ
around_of None = None
around_of (Some c) = c.around

-- what an entry of the table uses
abbrev pub operands_of : Option Candidate → List Operand
operands_of None = []
operands_of (Some c) = c.operands

-- the operands of all operations, one after the other
abbrev pub all_operands : List Candidate → List Operand
all_operands [] = []
all_operands (c ∷ cs) = c.operands ++ all_operands cs

-- how many operands the operations before the one with this number have
abbrev pub operands_before : List Candidate → ℕ → ℕ
operands_before cs zero = 0
operands_before [] (suc i) = 0
operands_before (c ∷ cs) (suc i) = length c.operands + operands_before cs i

-- the operations of which these lists say in turn whether each may go, what it is in, and what it uses
abbrev pub candidates_of : List Bool → List (Option ℕ) → List (List Operand) → List Candidate
candidates_of [] arounds rows = []
candidates_of (m ∷ ms) [] rows = []
candidates_of (m ∷ ms) (a ∷ arounds) [] = []
candidates_of (m ∷ ms) (a ∷ arounds) (row ∷ rows) = record { may_go = m; around = a; operands = row } ∷ candidates_of ms arounds rows

-- what an operation is in, by whether it is in any
abbrev pub around_if : Bool → ℕ → Option ℕ
around_if true n = Some n
around_if false n = None

-- what each operation is in
abbrev pub arounds_of : List Bool → List ℕ → List (Option ℕ)
arounds_of [] ns = []
arounds_of (b ∷ bs) [] = []
arounds_of (b ∷ bs) (n ∷ ns) = around_if b n ∷ arounds_of bs ns

-- each list says something of each operation, and the operands of each end where that is said
pub record AreColumns (may_go is_inside : List Bool) (around ends : List ℕ) (operands : List Operand) : Type 0 where
  pub insides : length is_inside ≡ length may_go
  pub arounds : length around ≡ length may_go
  pub rows : length ends ≡ length may_go
  pub are_ends : AreEnds 0 ends (length operands)
