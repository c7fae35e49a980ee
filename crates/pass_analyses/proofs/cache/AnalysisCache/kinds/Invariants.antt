use Rattle.std.proofs.Common.{◌≡◌, take}
use Rattle.pass_analyses.specs.Cached.{kinds_of}
use Rattle.pass_analyses.proofs.cache.AnalysisCache.kinds.Given as goal

abbrev pub invariant-loop-index : goal.invariant-loop-index
invariant-loop-index g l = l.kinds.items ≡ take l.index (kinds_of l.self.entries.entries)
