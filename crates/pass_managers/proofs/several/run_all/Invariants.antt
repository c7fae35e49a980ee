use Rattle.pass_managers.proofs.RanSome.{RanSome}
use Rattle.pass_managers.proofs.several.run_all.Given as goal

abbrev pub invariant-loop-index : goal.invariant-loop-index
invariant-loop-index g l =
    RanSome g.P.Pass.behaviour g.D.Verified.accepts g.E.Kind.PartialEq.eq l.op l.fn.ctx l.fn.analyses l.fn.passes
    l.index l.passes l.ctx l.analyses l.changed
