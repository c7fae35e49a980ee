use Rattle.std.proofs.Common.{◌≡◌, take}
use Rattle.std.specs.Prelude.{map}
use Rattle.ir_program.specs.Rows.{successors_at}
use Rattle.opt_inside.specs.reach.Paths.{number_in}
use Rattle.opt_inside.proofs.reach.paths.successor_numbers.Given as goal

-- the numbers of the first ones
abbrev pub invariant-loop-i : goal.invariant-loop-i
invariant-loop-i g l = l.row.items ≡ map (number_in l.blocks.keys) (take l.i (successors_at l.program l.op))
