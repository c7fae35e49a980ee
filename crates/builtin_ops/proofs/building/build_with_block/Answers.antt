use Rattle.ir_program.proofs.defined.KeptTypes.{unchanged-types}
use Rattle.builtin_ops.proofs.BuildingLemmas.{built, still_unlinked, undone}
use Rattle.builtin_ops.proofs.building.build_with_block.Goals as goal

pub take_back-requires-clause-unlinked : goal.take_back-requires-clause-unlinked
take_back-requires-clause-unlinked g c = still_unlinked c.args.ctx.now.program c.new_operation.new.self.program c.in_ok-op.op c.args.payload c.in_ok-op.ensures.built c.new_block.new.self.program c.in-Err.ensures.err

pub returns-in-Ok-clause-built : goal.returns-in-Ok-clause-built
returns-in-Ok-clause-built g c = built c.args.ctx.now.program c.new_operation.new.self.program c.in_ok-op.op c.args.payload c.in_ok-op.ensures.built c.new_block.new.self.program c.in-Ok.block c.args.block_payload c.args.arguments.now c.in-Ok.ensures.built c.put_in.new.ctx.program c.put_in.ensures.edited c.put_in.ensures.values

pub returns-in-Err-clause-err : goal.returns-in-Err-clause-err
returns-in-Err-clause-err g c = undone c.args.ctx.now.program c.new_operation.new.self.program c.in_ok-op.op c.args.payload c.in_ok-op.ensures.built c.new_block.new.self.program c.in-Err.ensures.err c.take_back.new.ctx.program c.take_back.ensures.taken

pub returns-in-Err-clause-err_values : goal.returns-in-Err-clause-err_values
returns-in-Err-clause-err_values g c = unchanged-types c.args.ctx.now.program c.take_back.new.ctx.program (undone c.args.ctx.now.program c.new_operation.new.self.program c.in_ok-op.op c.args.payload c.in_ok-op.ensures.built c.new_block.new.self.program c.in-Err.ensures.err c.take_back.new.ctx.program c.take_back.ensures.taken)
