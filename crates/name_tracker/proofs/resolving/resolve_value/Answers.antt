use Rattle.name_tracker.proofs.resolving.resolve_value.Goals as goal

pub returns-in-Some-clause-unused : goal.returns-in-Some-clause-unused
returns-in-Some-clause-unused g c = λ other. c.erase_operation.ensures.unused c.args.stand_in (c.replace_all_uses_with.ensures.unused other)
