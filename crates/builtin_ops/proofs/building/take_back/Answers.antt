use Rattle.builtin_ops.proofs.BuildingLemmas.{may_go_by, taken_back}
use Rattle.builtin_ops.proofs.building.take_back.Goals as goal

pub erase-requires-clause-apart : goal.erase-requires-clause-apart
erase-requires-clause-apart g c = may_go_by c.program.result.now c.args.ctx.now.program c.program.ensures c.args.op c.requires.bare c.requires.results c.know_values.ensures.stands c.know_values.ensures.used

pub returns-clause-taken : goal.returns-clause-taken
returns-clause-taken g c = taken_back c.args.ctx.now.program c.erase.new.ctx.program c.args.op c.requires.operation c.requires.unlinked c.requires.bare c.erase.ensures.erased
