use Rattle.kit_execution.proofs.executing.execute.Goals as goal

pub exec-requires-clause-can_run : goal.exec-requires-clause-can_run
exec-requires-clause-can_run c = c.know_runs.ensures.can_run c.args.path.now
