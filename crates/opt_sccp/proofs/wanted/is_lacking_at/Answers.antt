-- What it takes to lack an operand, one after the other.
use Rattle.std.proofs.Common.{◌≡◌, true, false, sym, ◌∙◌}
use Rattle.opt_sccp.proofs.WantedAt.{held, not_at, lacks, lacks_runs, lacks_ssa, lacks_undetermined}
use Rattle.opt_sccp.proofs.wanted.is_lacking_at.Goals as goal

pub returns-in_default : goal.returns-in_default
returns-in_default g c k h = not_at (λ l. c.in_default.ensures.parent l.block l.in_block)

pub returns-then-not-runs : goal.returns-then-not-runs
returns-then-not-runs g c k h = not_at (λ l.
    let e : false ≡ true = sym c.if-not-runs.true ∙ c.runs.ensures k h ∙ lacks_runs g.D.Meanings.meaning c.args.program.now k c.args.op c.in-Some.block l.view.payload c.in-Some.ensures.parent c.in-Some.ensures.only (held c.args.program.now c.args.op l.view l.there) l in cc)

pub returns-then-not-is_in_ssa : goal.returns-then-not-is_in_ssa
returns-then-not-is_in_ssa g c k h = not_at (λ l.
    let e : false ≡ true = sym c.if-not-is_in_ssa.true ∙ c.is_in_ssa.ensures.1 (lacks_ssa g.D.Meanings.meaning c.args.program.now k c.args.op c.in-Some.block l.view.payload c.in-Some.ensures.parent c.in-Some.ensures.only (held c.args.program.now c.args.op l.view l.there) l) in cc)

pub returns : goal.returns
returns g c k h = (
  λ yes. lacks g.D.Meanings.meaning c.args.program.now k c.args.op c.in-Some.block c.payload.result.now c.in-Some.ensures.parent c.in-Some.ensures.only c.payload.ensures
      (sym (c.runs.ensures k h) ∙ c.if-not-runs.false) (c.is_in_ssa.ensures.0 c.if-not-is_in_ssa.false) (c.asks.ensures.0 c.if-not-asks.false) ((c.has_undetermined.ensures k h).0 yes),
  λ l. (c.has_undetermined.ensures k h).1 (lacks_undetermined g.D.Meanings.meaning c.args.program.now k c.args.op c.in-Some.block c.payload.result.now c.in-Some.ensures.parent c.in-Some.ensures.only c.payload.ensures l),
)
