use Rattle.ir_program.specs.declared.handles.IRNode.TheVariants.{BasicBlock as BlockNode}
use Rattle.ir_mutable_walks_tests.proofs.Edits.{edited, unchanged}
use Rattle.ir_mutable_walks_tests.proofs.callers.take_last.Goals as goal

pub unlink_operation-requires : goal.unlink_operation-requires
unlink_operation-requires c = (c.args.block, c.in-Some.ensures.stands)

pub returns-in-Some : goal.returns-in-Some
returns-in-Some c = edited c.args.program.now c.unlink_operation.new.self c.args.block _ c.requires (c.unlink_operation.ensures.edited c.args.block c.in-Some.ensures.stands.index c.in-Some.ensures.stands.here)

pub returns-in-None : goal.returns-in-None
returns-in-None c = unchanged c.args.program.now (BlockNode c.args.block) c.requires
