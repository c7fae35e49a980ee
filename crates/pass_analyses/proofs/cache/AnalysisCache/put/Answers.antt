use Rattle.std.proofs.Common.{◌∙◌}
use Rattle.indexmap.proofs.CallerLemmas.{insert_entry-new}
use Rattle.pass_analyses.specs.Cached.{same_key}
use Rattle.pass_analyses.proofs.cache.AnalysisCache.put.Goals as goal

-- a new key goes last
pub returns-clause-ok : goal.returns-clause-ok
returns-clause-ok g c = c.in_ok-insert.ensures.entries
    ∙ insert_entry-new (same_key g.K.PartialEq.eq) c.args.self.now.entries (c.args.kind, c.args.op) c.args.analysis c.requires
