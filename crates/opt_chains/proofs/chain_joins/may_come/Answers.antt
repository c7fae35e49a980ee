use Rattle.std.proofs.Common.{true≢false, sym, subst}
use Rattle.opt_chains.specs.Chained.{StartsSomewhere}
use Rattle.opt_chains.proofs.NextElsewhere.{begins_there, begins_in}
use Rattle.opt_chains.proofs.chain_joins.may_come.Goals as goal

pub returns-in_default : goal.returns-in_default
returns-in_default g c = record { begins = λ e. begins_there c.args.program.now c.args.start c.in_default.not-Region; elsewhere = λ e. absurd (true≢false e) }

pub returns-clause-begins : goal.returns-clause-begins
returns-clause-begins g c e = subst (StartsSomewhere c.args.program.now) (sym c.in-Region.is) (begins_in c.args.program.now c.in-Region.region c.parent_operation-owner.result c.parent_operation-owner.ensures.stands)
