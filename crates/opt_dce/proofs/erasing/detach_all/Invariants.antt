use Rattle.std.proofs.Common.{◌≡◌, take}
use Rattle.ir_trees.specs.ListRewrites.{is_among}
use Rattle.opt_dce.specs.Steps.{DetachesPicked}
use Rattle.opt_dce.proofs.erasing.detach_all.Given as goal

-- the operations up to here are out of their blocks
abbrev pub invariant-loop-op : goal.invariant-loop-op
invariant-loop-op g l = record { detached : DetachesPicked l.fn.ctx.program l.ctx.program (is_among (take l.op-index l.ops)); types : l.ctx.types ≡ l.fn.ctx.types; numbers : l.ctx.program.counter ≡ l.fn.ctx.program.counter }
