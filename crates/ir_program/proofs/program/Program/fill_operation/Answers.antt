use Rattle.ir_program.proofs.made.BuildSteps.{regions-came, operands-came, successors-came, results-came, all-filled}
use Rattle.ir_program.proofs.program.Program.fill_operation.Goals as goal

pub returns-in_err-add_regions-clause-err : goal.returns-in_err-add_regions-clause-err
returns-in_err-add_regions-clause-err g c = regions-came _ c.args.self.now c.add_regions.new.self c.args.op c.args.regions c.in_err-add_regions.ensures.err

pub returns-in_err-add_operands-clause-err : goal.returns-in_err-add_operands-clause-err
returns-in_err-add_operands-clause-err g c = operands-came _ c.args.self.now c.add_regions.new.self c.add_operands.new.self c.args.op c.in_ok-add_regions.ensures.added.0 c.args.operands.now c.in_ok-add_regions.ensures.added.2 c.in_err-add_operands.ensures.err

pub returns-in_err-add_successors-clause-err : goal.returns-in_err-add_successors-clause-err
returns-in_err-add_successors-clause-err g c = successors-came _ c.args.self.now c.add_regions.new.self c.add_operands.new.self c.add_successors.new.self c.args.op c.in_ok-add_regions.ensures.added.0 c.args.operands.now c.args.successors.now c.in_ok-add_regions.ensures.added.2 c.in_ok-add_operands.ensures.added c.in_err-add_successors.ensures.err

pub returns-clause-err : goal.returns-clause-err
returns-clause-err g c = results-came _ c.args.self.now c.add_regions.new.self c.add_operands.new.self c.add_successors.new.self c.add_results.new.self c.args.op c.in_ok-add_regions.ensures.added.0 c.args.results.now c.args.operands.now c.args.successors.now c.in_ok-add_regions.ensures.added.2 c.in_ok-add_operands.ensures.added c.in_ok-add_successors.ensures.added c.add_results.ensures.err

pub returns-clause-filled : goal.returns-clause-filled
returns-clause-filled g c = all-filled _ c.args.self.now c.add_regions.new.self c.add_operands.new.self c.add_successors.new.self c.add_results.new.self c.args.op c.args.results.now c.args.operands.now c.args.successors.now c.args.regions c.in_ok-add_regions.ensures.added c.in_ok-add_operands.ensures.added c.in_ok-add_successors.ensures.added c.add_results.ensures.added
