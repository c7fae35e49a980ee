-- Where a branch goes by what is known of its operands, and the change that follows.
use Rattle.std.specs.Prelude.{◌≡◌, ◌&&◌, ℕ, suc, Bool, not, List, [], ◌∷◌, Option, Some, None, is_some, if◌then◌else◌}
use Rattle.ir_program.specs.Lent.{payload_at}
use Rattle.ir_program.specs.Program.{Program}
use Rattle.ir_program.specs.declared.handles.Operation.{Operation}
use Rattle.ir_program.specs.declared.handles.Ptr.{Ptr}
use Rattle.ir_trees.specs.Stands.{in_program}
use Rattle.opt_decide.specs.Replaced.{DecidesBranch}
use Rattle.opt_dialect.specs.declared.status.IRStatus.{IRStatus}
use Rattle.opt_dialect.specs.declared.status.IRStatus.TheVariants.{Unchanged, Changed}
use Rattle.opt_trees.specs.Dialect.{Dialect}

-- the elements whose index is picked, in their order
abbrev pub picked : {X : Type 0} → (ℕ → Bool) → List X → List X
picked p [] = []
picked p (x ∷ xs) = if p 0 then x ∷ picked (λ i. p (suc i)) xs else picked (λ i. p (suc i)) xs

module _ {O B A : Type 0} (d : Dialect (in_program O B) A) where
  -- the edge that known operands of a branch pick, where it isn't unconditional and the dialect has a branch that is
  abbrev pub edge_by : Option O → List (Option A) → Option ℕ
  edge_by None known = None
  edge_by (Some payload) known =
      if d.is_branch payload && (not (d.is_plain payload) && is_some d.plain) then d.edge payload known else None

  -- what becomes of a branch by what is known of its operands, and whether anything was changed
  pub data FoldsBranch (old new : Program O B) (known : List (Option A)) (op : Ptr Operation) : IRStatus → Type 0 where
    -- they pick an edge: a new unconditional branch along it is in its place, and all else is as it was
    folded : (edge : ℕ) (branch : Ptr Operation) → edge_by (payload_at old op) known ≡ Some edge
        → DecidesBranch d old new (record { op = op; edge = edge }) branch → FoldsBranch old new known op Changed
    -- they pick none, and nothing is changed
    kept : edge_by (payload_at old op) known ≡ None → new ≡ old → FoldsBranch old new known op Unchanged
