use Rattle.std.proofs.Common.{subst}
use Rattle.irkit_driver.specs.Told.{Told}
use Rattle.irkit_words.specs.Lines.{memory_line}
use Rattle.irkit_driver.proofs.faults.tell_refusal.Goals as goal

pub returns-in-Memory : goal.returns-in-Memory
returns-in-Memory g c =
    let told : Told g.F.Write.contents c.args.faults.now c.tell.new.faults memory_line =
    subst (Told g.F.Write.contents c.args.faults.now c.tell.new.faults) c.as_bytes.ensures.value c.tell.ensures in
    rw c.in-Memory.is told
