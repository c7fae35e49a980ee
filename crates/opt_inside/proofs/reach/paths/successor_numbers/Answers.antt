use Rattle.std.proofs.Common.{arith}
use Rattle.ir_program.specs.Rows.{successors_at}
use Rattle.opt_inside.specs.reach.Paths.{number_in}
use Rattle.opt_inside.proofs.ReachLemmas.Lists.{mapped_next, mapped_all}
use Rattle.opt_inside.proofs.reach.paths.successor_numbers.Goals as goal

pub loop-i-preserved : goal.loop-i-preserved
loop-i-preserved g c = mapped_next (number_in c.args.blocks.now.keys) (successors_at c.args.program.now c.args.op) c.loop-i.row.items c.push.new.self.items c.loop-i.i c.successor.result c.number_of_block.result c.successor.ensures.exact c.number_of_block.ensures c.in_ok-push.ensures.items c.loop-i.invariant

pub returns : goal.returns
returns g c = mapped_all (number_in c.args.blocks.now.keys) (successors_at c.args.program.now c.args.op) c.loop-i.row.items c.loop-i.i (omega arith) c.loop-i.invariant
