use Rattle.opt_solvers.proofs.FactsStepping.{block_inside, block_runs, block_solving, block_stepped, value_inside, value_solving, value_waiting, value_stepped, idle}
use Rattle.opt_solvers.proofs.facts.step.Goals as goal

pub visit_block-requires-clause-in_range : goal.visit_block-requires-clause-in_range
visit_block-requires-clause-in_range g c = block_inside _ c.args.problem.now c.args.tables.now c.requires.tables c.args.solver.now c.requires.solving c.requires.waiting c.take_block.new.self c.in-Some.block c.in-Some.ensures.some

pub visit_block-requires-clause-running : goal.visit_block-requires-clause-running
visit_block-requires-clause-running g c = block_runs _ c.args.problem.now c.args.tables.now c.requires.tables c.args.solver.now c.requires.solving c.requires.waiting c.take_block.new.self c.in-Some.block c.in-Some.ensures.some

pub visit_block-requires-clause-solving : goal.visit_block-requires-clause-solving
visit_block-requires-clause-solving g c = block_solving _ c.args.problem.now c.args.tables.now c.requires.tables c.args.solver.now c.requires.solving c.requires.waiting c.take_block.new.self c.in-Some.block c.in-Some.ensures.some

pub returns-in-Some : goal.returns-in-Some
returns-in-Some g c = block_stepped _ c.args.problem.now c.args.tables.now c.requires.tables c.args.solver.now c.requires.solving c.requires.waiting c.take_block.new.self c.in-Some.block c.in-Some.ensures.some c.visit_block.new.solver c.in_ok-visit_block.ensures

pub tell_value-requires-clause-in_range : goal.tell_value-requires-clause-in_range
tell_value-requires-clause-in_range g c = value_inside _ c.args.problem.now c.args.tables.now c.requires.tables c.args.solver.now c.requires.solving c.requires.waiting c.take_block.new.self c.take_value.new.self c.in_default.ensures.none c.in-Some-take_value.value c.in-Some-take_value.ensures.some

pub tell_value-requires-clause-solving : goal.tell_value-requires-clause-solving
tell_value-requires-clause-solving g c = value_solving _ c.args.problem.now c.args.tables.now c.requires.tables c.args.solver.now c.requires.solving c.requires.waiting c.take_block.new.self c.take_value.new.self c.in_default.ensures.none c.in-Some-take_value.value c.in-Some-take_value.ensures.some

pub tell_value-requires-clause-waiting : goal.tell_value-requires-clause-waiting
tell_value-requires-clause-waiting g c = value_waiting _ c.args.problem.now c.args.tables.now c.requires.tables c.args.solver.now c.requires.solving c.requires.waiting c.take_block.new.self c.take_value.new.self c.in_default.ensures.none c.in-Some-take_value.value c.in-Some-take_value.ensures.some

pub returns-in-Some-take_value : goal.returns-in-Some-take_value
returns-in-Some-take_value g c = value_stepped _ c.args.problem.now c.args.tables.now c.requires.tables c.args.solver.now c.requires.solving c.requires.waiting c.take_block.new.self c.take_value.new.self c.in_default.ensures.none c.in-Some-take_value.value c.in-Some-take_value.ensures.some c.tell_value.new.solver c.in_ok-tell_value.ensures

pub returns : goal.returns
returns g c = idle _ c.args.problem.now c.args.tables.now c.requires.tables c.args.solver.now c.requires.solving c.requires.waiting c.take_block.new.self c.take_value.new.self c.in_default.ensures.none c.in_default-take_value.ensures.none
