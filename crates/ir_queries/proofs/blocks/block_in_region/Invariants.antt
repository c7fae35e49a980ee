use Rattle.ir_queries.proofs.Ways.{Climbs}
use Rattle.ir_program.specs.Lists.{StandsInRegion}
use Rattle.ir_program.specs.declared.handles.IRNode.TheVariants.{BasicBlock as BlockNode}
use Rattle.ir_queries.proofs.blocks.block_in_region.Given as goal

abbrev pub invariant-loop-node : goal.invariant-loop-node
invariant-loop-node g l = Climbs BlockNode l.program l.fn.inner (λ x. StandsInRegion l.program x l.region) l.yielded l.node-iterator
