use Rattle.std.proofs.Common.{◌≡◌, ℕ, Some, length, slice_get}
use Rattle.ir_program.specs.declared.handles.Operation.{Operation}
use Rattle.ir_program.specs.declared.handles.Ptr.{Ptr}
use Rattle.opt_rows.specs.DeadCandidates.{Candidate}
use Rattle.opt_inside.specs.Numbered.{numbers_of}
use Rattle.opt_dce.specs.liveness.Problems.{IsCandidate}
use Rattle.opt_dce.proofs.liveness.candidates.candidates.Given as goal

abbrev pub invariant-loop-op : goal.invariant-loop-op
invariant-loop-op g l = record {
  len : length l.rows ≡ l.op-index;
  rows : (i : ℕ) (row : Candidate) → slice_get l.rows i ≡ Some row → (p : Ptr Operation) → slice_get l.inside.operations.keys i ≡ Some p → IsCandidate g.D.Meanings.meaning l.program (numbers_of l.inside) p row;
}
