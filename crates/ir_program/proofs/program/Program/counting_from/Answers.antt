use Rattle.std.proofs.Common.{ap, option_map}
use Rattle.ir_program.proofs.made.Empty.{empty_program, get_empty}
use Rattle.ir_program.proofs.program.Program.counting_from.Goals as goal

pub invariant_of-result : goal.invariant_of-result
invariant_of-result g c = empty_program _ c.new.ensures.ops c.new.ensures.blocks c.new.ensures.regions c.new-2.ensures.definitions c.new-2.ensures.places c.new-3.ensures.definitions c.new-3.ensures.places

pub returns-clause-operations : goal.returns-clause-operations
returns-clause-operations g c p = ap (option_map _) (get_empty _ p.key c.new.ensures.ops)

pub returns-clause-blocks : goal.returns-clause-blocks
returns-clause-blocks g c p = ap (option_map _) (get_empty _ p.key c.new.ensures.blocks)

pub returns-clause-regions : goal.returns-clause-regions
returns-clause-regions g c p = ap (option_map _) (get_empty _ p.key c.new.ensures.regions)
