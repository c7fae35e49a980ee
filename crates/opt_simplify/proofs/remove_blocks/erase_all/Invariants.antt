use Rattle.std.proofs.Common.{◌≡◌, take}
use Rattle.opt_simplify.specs.Removed.{is_listed}
use Rattle.opt_simplify.specs.Removed.{ErasesPickedBlocks}
use Rattle.opt_simplify.proofs.remove_blocks.erase_all.Given as goal

-- the operations up to here are erased
abbrev pub invariant-loop-block : goal.invariant-loop-block
invariant-loop-block g l = record { erased : ErasesPickedBlocks l.fn.ctx.program l.ctx.program (is_listed (take l.block-index l.blocks)); types : l.ctx.types ≡ l.fn.ctx.types; numbers : l.ctx.program.counter ≡ l.fn.ctx.program.counter }
