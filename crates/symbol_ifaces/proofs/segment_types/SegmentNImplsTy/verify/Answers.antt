use Rattle.std.proofs.lemmas.Bool.{false≢true}
use Rattle.symbol_ifaces.proofs.segment_types.SegmentNImplsTy.verify.Goals as goal

pub returns-in-Err-clause-exact : goal.returns-in-Err-clause-exact
returns-in-Err-clause-exact g c = λ passes. c.in-Err.ensures (record { own = rw c.INTERFACE.ensures passes; rows = λ told. absurd (false≢true told) })
