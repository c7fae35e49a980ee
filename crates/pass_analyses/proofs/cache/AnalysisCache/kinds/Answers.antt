use Rattle.std.proofs.Common.{◌∙◌}
use Rattle.std.proofs.lemmas.List.{take_more}
use Rattle.std.proofs.lemmas.Option.{get_or_from_slice_get, slice_get_within}
use Rattle.pass_analyses.specs.Cached.{kinds_of}
use Rattle.pass_analyses.proofs.cache.AnalysisCache.kinds.Goals as goal

pub loop-index-preserved : goal.loop-index-preserved
loop-index-preserved g c =
    let all = kinds_of c.args.self.now.entries.entries in
    let i = c.loop-index.index in
    let k = c.kind_at.result in
    let within = slice_get_within all i k c.kind_at.ensures in
    let grown = take_more all i k within in
    let is = get_or_from_slice_get all i k k c.kind_at.ensures in
    c.in_ok-push.ensures.items ∙ rw (c.loop-index.invariant, grown, is)
