use Rattle.std.proofs.Common.{ℕ, ◌<◌, sym, subst}
use Rattle.ir_program.specs.Made.{TakesBackOperation}
use Rattle.ir_program.proofs.made.Frames.{on_err}
use Rattle.ir_program.proofs.defined.KeptTypes.{unchanged-types}
use Rattle.ir_program.proofs.made.BuildSteps.{made-there, made-values, made-blocks, filled-there, filled-bare, filled-unlinked, filled-unused, filled-numbers, built, undone}
use Rattle.ir_program.proofs.program.Program.build_operation.Goals as goal

pub returns-in_err-op-clause-err : goal.returns-in_err-op-clause-err
returns-in_err-op-clause-err g c = on_err _ c.in_err-op.ensures.err

pub returns-in_err-op-clause-err_types : goal.returns-in_err-op-clause-err_types
returns-in_err-op-clause-err_types g c = on_err _ (unchanged-types c.args.self.now c.new_operation.new.self c.in_err-op.ensures.err)

pub fill_operation-requires-clause-operands : goal.fill_operation-requires-clause-operands
fill_operation-requires-clause-operands g c = made-values c.args.self.now c.new_operation.new.self c.in_ok-op.op c.args.payload c.in_ok-op.ensures.made c.args.operands.now c.requires.operands

pub take_back_operation-requires-clause-unlinked : goal.take_back_operation-requires-clause-unlinked
take_back_operation-requires-clause-unlinked g c = filled-unlinked c.args.self.now c.new_operation.new.self c.in_ok-op.op c.args.payload c.in_ok-op.ensures.made c.fill_operation.new.self c.in-Err.ensures.err.0 c.in-Err.ensures.err.1 c.in-Err.ensures.err.2 c.in-Err.ensures.err.3 c.in-Err.ensures.err.4 c.in_ok-op.ensures.unlinked

pub take_back_operation-requires-clause-unused : goal.take_back_operation-requires-clause-unused
take_back_operation-requires-clause-unused g c = filled-unused c.args.self.now c.new_operation.new.self c.in_ok-op.op c.args.payload c.in_ok-op.ensures.made c.fill_operation.new.self c.in-Err.ensures.err.0 c.in-Err.ensures.err.1 c.in-Err.ensures.err.2 c.in-Err.ensures.err.3 c.in-Err.ensures.err.4 c.know_values.ensures.used

pub take_back_operation-requires-clause-numbers : goal.take_back_operation-requires-clause-numbers
take_back_operation-requires-clause-numbers g c = λ v ne live. subst (λ (n : ℕ). v.number < n) (sym c.next_number-counter.ensures) (filled-numbers c.args.self.now c.new_operation.new.self c.in_ok-op.op c.args.payload c.in_ok-op.ensures.made c.fill_operation.new.self c.in-Err.ensures.err.0 c.in-Err.ensures.err.1 c.in-Err.ensures.err.2 c.in-Err.ensures.err.3 c.in-Err.ensures.err.4 c.know_values.ensures.given v ne live)

pub returns-in-Ok-clause-built : goal.returns-in-Ok-clause-built
returns-in-Ok-clause-built g c = built c.args.self.now c.new_operation.new.self c.in_ok-op.op c.args.payload c.in_ok-op.ensures.made c.fill_operation.new.self c.args.results.now c.args.operands.now c.args.successors.now c.in-Ok.ensures.filled.0 c.in-Ok.ensures.filled.2 c.args.regions c.in-Ok.ensures.filled.1 c.in_ok-op.ensures.unlinked

pub returns-in-Err-clause-err : goal.returns-in-Err-clause-err
returns-in-Err-clause-err g c = undone c.args.self.now c.new_operation.new.self c.in_ok-op.op c.args.payload c.in_ok-op.ensures.made c.fill_operation.new.self c.in-Err.ensures.err.0 c.in-Err.ensures.err.1 c.in-Err.ensures.err.2 c.in-Err.ensures.err.3 c.in-Err.ensures.err.4 c.take_back_operation.new.self (subst (TakesBackOperation c.fill_operation.new.self c.take_back_operation.new.self c.in_ok-op.op) c.next_number-counter.ensures c.take_back_operation.ensures)

pub returns-in-Err-clause-err_types : goal.returns-in-Err-clause-err_types
returns-in-Err-clause-err_types g c = unchanged-types c.args.self.now c.take_back_operation.new.self (undone c.args.self.now c.new_operation.new.self c.in_ok-op.op c.args.payload c.in_ok-op.ensures.made c.fill_operation.new.self c.in-Err.ensures.err.0 c.in-Err.ensures.err.1 c.in-Err.ensures.err.2 c.in-Err.ensures.err.3 c.in-Err.ensures.err.4 c.take_back_operation.new.self (subst (TakesBackOperation c.fill_operation.new.self c.take_back_operation.new.self c.in_ok-op.op) c.next_number-counter.ensures c.take_back_operation.ensures))

pub fill_operation-requires-clause-operation : goal.fill_operation-requires-clause-operation
fill_operation-requires-clause-operation g c = made-there c.args.self.now c.new_operation.new.self c.in_ok-op.op c.args.payload c.in_ok-op.ensures.made

pub fill_operation-requires-clause-successors : goal.fill_operation-requires-clause-successors
fill_operation-requires-clause-successors g c = made-blocks c.args.self.now c.new_operation.new.self c.in_ok-op.op c.args.payload c.in_ok-op.ensures.made c.args.successors.now c.requires.successors

pub take_back_operation-requires-clause-operation : goal.take_back_operation-requires-clause-operation
take_back_operation-requires-clause-operation g c = filled-there c.args.self.now c.new_operation.new.self c.in_ok-op.op c.args.payload c.in_ok-op.ensures.made c.fill_operation.new.self c.in-Err.ensures.err.0 c.in-Err.ensures.err.1 c.in-Err.ensures.err.2 c.in-Err.ensures.err.3 c.in-Err.ensures.err.4

pub take_back_operation-requires-clause-bare : goal.take_back_operation-requires-clause-bare
take_back_operation-requires-clause-bare g c = filled-bare c.args.self.now c.new_operation.new.self c.in_ok-op.op c.args.payload c.in_ok-op.ensures.made c.fill_operation.new.self c.in-Err.ensures.err.0 c.in-Err.ensures.err.1 c.in-Err.ensures.err.2 c.in-Err.ensures.err.3 c.in-Err.ensures.err.4
