use Rattle.ir_program.specs.Lists.{StandsInRegion}
use Rattle.ir_program.specs.declared.handles.Ptr.{Ptr}
use Rattle.ir_program.specs.declared.handles.BasicBlock.{BasicBlock}
use Rattle.opt_chains.proofs.NextElsewhere.{NoneBefore}
use Rattle.opt_chains.proofs.chain_joins.holds_one.Given as goal

-- none of the blocks before this one stands there
abbrev pub invariant-loop-block : goal.invariant-loop-block
invariant-loop-block g l = NoneBefore (λ (b : Ptr BasicBlock). StandsInRegion l.program b l.region) l.blocks l.block-index
