use Rattle.ir_program.specs.declared.handles.IRNode.TheVariants.{BasicBlock as BlockNode}
use Rattle.ir_mutable_walks_tests.proofs.Edits.{unchanged}
use Rattle.ir_mutable_walks_tests.proofs.callers.change_if_there.Goals as goal

pub returns-else-has_block : goal.returns-else-has_block
returns-else-has_block c = λ h. unchanged c.args.program.now (BlockNode c.args.block) h
