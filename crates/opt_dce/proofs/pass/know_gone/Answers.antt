use Rattle.opt_dce.proofs.Gone.{gone_below, idle_same, same_idle}
use Rattle.opt_dce.proofs.pass.know_gone.Goals as goal

pub returns-clause-below : goal.returns-clause-below
returns-clause-below g c t stands w gone is =
    gone_below g.D.Meanings.meaning g.met.D.OptDialect.lawful c.args.program.now c.args.op t (c.know_occurrences.ensures.sound t stands) (c.know_occurrences.ensures.blocks_sound t stands) c.know_values.ensures.definer w gone is

pub returns-clause-idle : goal.returns-clause-idle
returns-clause-idle g c t stands w gone is plan planned = (
  idle_same g.D.Meanings.meaning g.met.D.OptDialect.lawful c.args.program.now c.args.op t (c.know_occurrences.ensures.sound t stands) (c.know_occurrences.ensures.blocks_sound t stands) c.know_values.ensures.definer w gone is plan planned,
  same_idle g.D.Meanings.meaning g.met.D.OptDialect.lawful c.args.program.now c.args.op t (c.know_occurrences.ensures.sound t stands) (c.know_occurrences.ensures.blocks_sound t stands) c.know_values.ensures.definer w gone is plan planned,
)
