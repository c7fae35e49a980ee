use Rattle.std.proofs.Common.{sym, subst}
use Rattle.ir_program.specs.Made.{TakesBackBlock}
use Rattle.ir_program.proofs.made.TakeBacks.{block-apart, block_left-below, block-taken_back}
use Rattle.ir_program.proofs.program.Program.take_back_block.Goals as goal

pub erase_block-requires-clause-apart : goal.erase_block-requires-clause-apart
erase_block-requires-clause-apart g c = block-apart c.args.self.now c.args.block c.requires.bare c.requires.unused c.requires.untargeted

pub lower_counter-requires : goal.lower_counter-requires
lower_counter-requires g c = block_left-below c.args.self.now c.erase_block.new.self c.args.counter c.args.block c.requires.block c.requires.bare c.requires.numbers c.erase_block.ensures

pub returns : goal.returns
returns g c = subst (λ x. TakesBackBlock c.args.self.now x c.args.block c.args.counter) (sym c.lower_counter.ensures) (block-taken_back c.args.self.now c.erase_block.new.self c.args.counter c.args.block c.requires.block c.requires.unlinked c.requires.bare c.erase_block.ensures)
