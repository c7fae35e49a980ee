use Rattle.std.proofs.Common.{◌≡◌, length}
use Rattle.ir_trees.specs.Stands.{by_handle, ProgramTree, StandsFor}
use Rattle.opt_trees.specs.Simplify.{StartingRegions}
use Rattle.opt_inside.specs.reach.Fates.{AreFates}
use Rattle.opt_inside.specs.reach.Starts.{IsStartIn}
use Rattle.opt_inside.proofs.reach.fates.judge_all.Given as goal

-- the fates of the first blocks
abbrev pub invariant-loop-number : goal.invariant-loop-number
invariant-loop-number g l = record {
  len : length l.fates.items ≡ l.number;
  fates : (p : StartingRegions by_handle) → IsStartIn l.program l.start p → (t : ProgramTree g.row.D-Operation.Denot g.row.D-Block.Denot) → StandsFor l.program l.fn.op t → AreFates g.D.Meanings.meaning p t l.inside.blocks.keys l.fates.items;
}
