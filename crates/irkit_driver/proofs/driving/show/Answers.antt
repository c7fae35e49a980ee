use Rattle.std.proofs.Common.{refl, subst}
use Rattle.irkit_streams.specs.Ends.{TookAll, TookFirst}
use Rattle.irkit_driver.specs.Works.Shows.{cut, whole}
use Rattle.irkit_driver.proofs.driving.show.Goals as goal

pub returns-in-Ok : goal.returns-in-Ok
returns-in-Ok g c =
    whole refl
    (subst (TookAll g.W.Write.contents c.args.output.now c.write_text.new.writer) c.as_bytes.ensures.value c.in-Ok.ensures) refl

pub returns-in-Err : goal.returns-in-Err
returns-in-Err g c =
    cut c.in-Err.fault.taken refl
    (subst (λ text. TookFirst g.W.Write.contents c.args.output.now c.write_text.new.writer text c.in-Err.fault.taken)
    c.as_bytes.ensures.value c.in-Err.ensures) c.tell_fault.ensures
