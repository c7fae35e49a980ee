use Rattle.std.proofs.Common.{◌≡◌, take}
use Rattle.opt_simplify.specs.Removed.{is_listed}
use Rattle.opt_simplify.specs.Removed.{DropsPickedBlocks}
use Rattle.opt_simplify.proofs.remove_blocks.drop_uses.Given as goal

-- the uses of the operations up to here are taken away
abbrev pub invariant-loop-block : goal.invariant-loop-block
invariant-loop-block g l = record { dropped : DropsPickedBlocks l.fn.ctx.program l.ctx.program (is_listed (take l.block-index l.blocks)); types : l.ctx.types ≡ l.fn.ctx.types; numbers : l.ctx.program.counter ≡ l.fn.ctx.program.counter }
