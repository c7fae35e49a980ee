use Rattle.std.proofs.Common.{◌≡◌, take}
use Rattle.ir_trees.specs.ListRewrites.{is_among}
use Rattle.opt_dce.specs.Steps.{DropsPicked}
use Rattle.opt_dce.proofs.erasing.drop_uses.Given as goal

-- the uses of the operations up to here are taken away
abbrev pub invariant-loop-op : goal.invariant-loop-op
invariant-loop-op g l = record { dropped : DropsPicked l.fn.ctx.program l.ctx.program (is_among (take l.op-index l.ops)); types : l.ctx.types ≡ l.fn.ctx.types; numbers : l.ctx.program.counter ≡ l.fn.ctx.program.counter }
