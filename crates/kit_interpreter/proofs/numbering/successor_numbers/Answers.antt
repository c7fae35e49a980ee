use Rattle.std.proofs.Common.{arith}
use Rattle.ir_program.specs.Rows.{successors_at}
use Rattle.kit_places.specs.Numbers.{block_number}
use Rattle.kit_places.proofs.Rows.{mapped_next, mapped_all}
use Rattle.kit_interpreter.proofs.numbering.successor_numbers.Goals as goal

pub loop-i-preserved : goal.loop-i-preserved
loop-i-preserved g c = mapped_next (block_number c.args.blocks.now.keys)
    (successors_at c.args.program.now c.args.op) c.loop-i.row.items c.push.new.self.items c.loop-i.i
    c.successor.result c.number_of_block.result c.successor.ensures.exact c.number_of_block.ensures
    c.in_ok-push.ensures.items c.loop-i.invariant

pub returns : goal.returns
returns g c = mapped_all (block_number c.args.blocks.now.keys) (successors_at c.args.program.now c.args.op)
    c.loop-i.row.items c.loop-i.i (omega arith) c.loop-i.invariant
