use Rattle.std.proofs.Common.{ℕ, ◌<◌, take, sym, subst}
use Rattle.ir_program.specs.Made.{TakesBackBlock}
use Rattle.ir_program.proofs.made.Frames.{on_err}
use Rattle.ir_program.proofs.defined.KeptTypes.{unchanged-types}
use Rattle.ir_program.proofs.made.BlockBuilds.{given-unlinked, given-unused, given-untargeted, given-numbers, block-built, block-undone}
use Rattle.ir_program.proofs.program.Program.build_block.Goals as goal

pub returns-in_err-block-clause-err_types : goal.returns-in_err-block-clause-err_types
returns-in_err-block-clause-err_types g c = on_err _ (unchanged-types c.args.self.now c.new_block.new.self c.in_err-block.ensures.err)

pub take_back_block-requires-clause-unlinked : goal.take_back_block-requires-clause-unlinked
take_back_block-requires-clause-unlinked g c = given-unlinked c.args.self.now c.new_block.new.self c.in_ok-block.block c.args.payload c.in_ok-block.ensures.made c.add_arguments.new.self (take c.in-Err.ensures.err.0 c.args.arguments.now) c.in-Err.ensures.err.2 c.in_ok-block.ensures.unlinked

pub take_back_block-requires-clause-unused : goal.take_back_block-requires-clause-unused
take_back_block-requires-clause-unused g c = given-unused c.args.self.now c.new_block.new.self c.in_ok-block.block c.args.payload c.in_ok-block.ensures.made c.add_arguments.new.self (take c.in-Err.ensures.err.0 c.args.arguments.now) c.in-Err.ensures.err.2 c.know_values.ensures.used

pub take_back_block-requires-clause-untargeted : goal.take_back_block-requires-clause-untargeted
take_back_block-requires-clause-untargeted g c = given-untargeted c.args.self.now c.new_block.new.self c.in_ok-block.block c.args.payload c.in_ok-block.ensures.made c.add_arguments.new.self (take c.in-Err.ensures.err.0 c.args.arguments.now) c.in-Err.ensures.err.2 c.know_successors.ensures

pub take_back_block-requires-clause-numbers : goal.take_back_block-requires-clause-numbers
take_back_block-requires-clause-numbers g c = λ v ne live. subst (λ (n : ℕ). v.number < n) (sym c.next_number-counter.ensures) (given-numbers c.args.self.now c.new_block.new.self c.in_ok-block.block c.args.payload c.in_ok-block.ensures.made c.add_arguments.new.self (take c.in-Err.ensures.err.0 c.args.arguments.now) c.in-Err.ensures.err.2 c.know_values.ensures.given v ne live)

pub returns-in-Ok-clause-built : goal.returns-in-Ok-clause-built
returns-in-Ok-clause-built g c = block-built c.args.self.now c.new_block.new.self c.in_ok-block.block c.args.payload c.in_ok-block.ensures.made c.add_arguments.new.self c.args.arguments.now c.in-Ok.ensures.added c.in_ok-block.ensures.unlinked

pub returns-in-Err-clause-err : goal.returns-in-Err-clause-err
returns-in-Err-clause-err g c = block-undone c.args.self.now c.new_block.new.self c.in_ok-block.block c.args.payload c.in_ok-block.ensures.made c.add_arguments.new.self (take c.in-Err.ensures.err.0 c.args.arguments.now) c.in-Err.ensures.err.2 c.take_back_block.new.self (subst (TakesBackBlock c.add_arguments.new.self c.take_back_block.new.self c.in_ok-block.block) c.next_number-counter.ensures c.take_back_block.ensures)

pub returns-in-Err-clause-err_types : goal.returns-in-Err-clause-err_types
returns-in-Err-clause-err_types g c = unchanged-types c.args.self.now c.take_back_block.new.self (block-undone c.args.self.now c.new_block.new.self c.in_ok-block.block c.args.payload c.in_ok-block.ensures.made c.add_arguments.new.self (take c.in-Err.ensures.err.0 c.args.arguments.now) c.in-Err.ensures.err.2 c.take_back_block.new.self (subst (TakesBackBlock c.add_arguments.new.self c.take_back_block.new.self c.in_ok-block.block) c.next_number-counter.ensures c.take_back_block.ensures))
