use Rattle.std.proofs.Common.{codes, refl, string_bytes, subst}
use Rattle.irkit_driver.specs.Told.{Told}
use Rattle.irkit_words.specs.Lines.{memory_line}
use Rattle.irkit_driver.proofs.faults.tell_fault.Goals as goal

pub returns-in-Ok : goal.returns-in-Ok
returns-in-Ok g c = (
  string_bytes c.in-Ok.line,
  c.in-Ok.ensures,
  subst (Told g.F.Write.contents c.args.faults.now c.tell.new.faults) c.as_bytes.ensures.value c.tell.ensures,
)

pub returns-in-Err : goal.returns-in-Err
returns-in-Err g c = (
  memory_line,
  (codes "memory", refl),
  subst (Told g.F.Write.contents c.args.faults.now c.tell-in-Err.new.faults) c.as_bytes-in-Err.ensures.value
      c.tell-in-Err.ensures,
)
