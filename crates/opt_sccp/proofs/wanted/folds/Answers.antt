-- The operation's block and what it carries.
use Rattle.std.proofs.Common.{sym, ◌∙◌}
use Rattle.opt_sccp.proofs.WantedAt.{not_at, folds, folds_runs}
use Rattle.opt_sccp.proofs.wanted.folds.Goals as goal

pub returns-in_default : goal.returns-in_default
returns-in_default g c k h = not_at (λ l. c.in_default.ensures.parent l.block l.in_block)

pub returns : goal.returns
returns g c k h = (
  λ yes. folds g.D.Meanings.meaning c.args.program.now k c.args.op c.in-Some.block c.payload-payload.result.now c.in-Some.ensures.parent c.in-Some.ensures.only c.payload-payload.ensures
      (sym c.is_foldable.ensures ∙ c.if-not-is_foldable.false) (sym c.is_constant.ensures ∙ c.if-is_constant.false) (sym (c.runs.ensures k h) ∙ yes),
  λ l. c.runs.ensures k h ∙ folds_runs g.D.Meanings.meaning c.args.program.now k c.args.op c.in-Some.block c.payload-payload.result.now c.in-Some.ensures.parent c.in-Some.ensures.only c.payload-payload.ensures l,
)
