use Rattle.irkit_streams.proofs.StreamLemmas.{took_more, took_none, fits_more}
use Rattle.irkit_streams.proofs.writing.write_text.Goals as goal

pub loop-taken-preserved : goal.loop-taken-preserved
loop-taken-preserved g c =
    let took = c.in-Some.ensures in
    (fits_more _ _ _ c.loop-taken.invariant.0 took.1, took_more _ _ _ _ _ _ c.loop-taken.invariant.1 took.2, took.3)

pub returns-in-None : goal.returns-in-None
returns-in-None g c = (c.loop-taken-test.true, took_none _ _ _ _ c.loop-taken.invariant.1 c.in-None.ensures.0, c.in-None.ensures.1)
