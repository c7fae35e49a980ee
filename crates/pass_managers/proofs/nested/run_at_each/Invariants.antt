use Rattle.pass_managers.proofs.RanNested.{RanNested}
use Rattle.pass_managers.proofs.nested.run_at_each.Given as goal

abbrev pub invariant-loop-child : goal.invariant-loop-child
invariant-loop-child g l =
    RanNested g.P.Pass.behaviour g.D.Verified.accepts g.E.Kind.PartialEq.eq l.fn.op l.fn.nested l.fn.ctx l.fn.analyses l.fn.pass
    l.child-index l.pass l.ctx l.analyses l.changed
