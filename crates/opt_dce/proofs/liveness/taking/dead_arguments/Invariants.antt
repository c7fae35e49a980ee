use Rattle.std.proofs.Common.{take}
use Rattle.opt_inside.specs.Numbered.{numbers_of}
use Rattle.opt_dce.specs.liveness.Taken.{Picks, AreGoing, HasGoing, block_of}
use Rattle.opt_dce.proofs.liveness.taking.dead_arguments.Given as goal

abbrev pub invariant-loop-block : goal.invariant-loop-block
invariant-loop-block g l = Picks block_of (λ a. AreGoing l.program (numbers_of l.inside) l.arguments a.block a.marks.items) (HasGoing l.program (numbers_of l.inside) l.arguments) (take l.block-index l.inside.blocks.keys) l.dead.items
