use Rattle.std.proofs.Common.{◌≡◌, ℕ, length, Some, slice_get}
use Rattle.ir_program.specs.declared.handles.Ptr.{Ptr}
use Rattle.ir_program.specs.declared.handles.BasicBlock.{BasicBlock}
use Rattle.opt_rows.specs.declared.chains.ChainBlock.{ChainBlock}
use Rattle.opt_inside.specs.declared.reach.fates.Fate.{Fate}
use Rattle.opt_chains.specs.NextBlocks.{IsChainBlock}
use Rattle.opt_chains.proofs.next_blocks.chain_blocks.Given as goal

-- the blocks before this one are seen
abbrev pub invariant-loop-number : goal.invariant-loop-number
invariant-loop-number g l = record {
  len : length l.seen.items ≡ l.number;
  each : (k : ℕ) (b : Ptr BasicBlock) (f : Fate) (x : ChainBlock) → slice_get l.blocks.keys k ≡ Some b → slice_get l.fates k ≡ Some f → slice_get l.seen.items k ≡ Some x → IsChainBlock g.D.Meanings.meaning l.program l.blocks.keys f b x;
}
