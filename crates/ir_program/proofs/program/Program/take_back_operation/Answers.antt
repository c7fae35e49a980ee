use Rattle.std.proofs.Common.{sym, subst}
use Rattle.ir_program.specs.Made.{TakesBackOperation}
use Rattle.ir_program.proofs.made.TakeBacks.{operation-apart, operation_left-below, operation-taken_back}
use Rattle.ir_program.proofs.program.Program.take_back_operation.Goals as goal

pub erase_operation-requires-clause-apart : goal.erase_operation-requires-clause-apart
erase_operation-requires-clause-apart g c = operation-apart c.args.self.now c.args.op c.requires.bare c.requires.unused

pub lower_counter-requires : goal.lower_counter-requires
lower_counter-requires g c = operation_left-below c.args.self.now c.erase_operation.new.self c.args.counter c.args.op c.requires.operation c.requires.bare c.requires.numbers c.erase_operation.ensures

pub returns : goal.returns
returns g c = subst (λ x. TakesBackOperation c.args.self.now x c.args.op c.args.counter) (sym c.lower_counter.ensures) (operation-taken_back c.args.self.now c.erase_operation.new.self c.args.counter c.args.op c.requires.operation c.requires.unlinked c.requires.bare c.erase_operation.ensures)
