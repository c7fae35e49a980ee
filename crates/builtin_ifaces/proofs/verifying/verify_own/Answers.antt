use Rattle.builtin_ifaces.proofs.verifying.verify_own.Goals as goal

pub returns-in-Err : goal.returns-in-Err
returns-in-Err g c = rw c.in-SegmentN.is c.in-Err.ensures
