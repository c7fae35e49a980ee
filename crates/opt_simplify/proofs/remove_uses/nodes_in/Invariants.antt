use Rattle.std.proofs.Common.{take}
use Rattle.std.specs.Prelude.{◌↔◌}
use Rattle.ir_program.specs.declared.handles.IRNode.{IRNode}
use Rattle.ir_trees.specs.Searched.{Lists}
use Rattle.opt_simplify.specs.Removed.{IsWithinPickedBlocks, is_listed}
use Rattle.opt_simplify.proofs.remove_uses.nodes_in.Given as goal

-- the first blocks and what is in them
abbrev pub invariant-loop-block : goal.invariant-loop-block
invariant-loop-block g l = (e : IRNode) → Lists l.nodes.keys e ↔ IsWithinPickedBlocks l.program (is_listed (take l.block-index l.blocks)) e
