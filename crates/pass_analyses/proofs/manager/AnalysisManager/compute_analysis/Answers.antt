use Rattle.pass_analyses.proofs.Filling.{fills_fresh}
use Rattle.pass_analyses.proofs.manager.AnalysisManager.compute_analysis.Goals as goal

pub returns-in-Ok-clause-fresh : goal.returns-in-Ok-clause-fresh
returns-in-Ok-clause-fresh g c all = fills_fresh g.E.Kind.PartialEq.eq g.met.E.Analysis.same_kinds g.E.Analysis.reading
    c.args.ctx.now c.args.op c.requires.live c.in-Ok.ensures.filled all
