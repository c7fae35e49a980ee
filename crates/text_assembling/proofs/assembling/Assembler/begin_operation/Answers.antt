use Rattle.std.proofs.Common.{refl}
use Rattle.std.proofs.lemmas.Result.{on_ok_weaker}
use Rattle.text_assembling.proofs.assembling.Assembler.begin_operation.Goals as goal

-- What begins depends neither on the spare operands and labels before nor on those behind.
pub returns-clause-begun : goal.returns-clause-begun
returns-clause-begun g c = on_ok_weaker c.begin.result
    (λ h. (
      record { kind = c.args.kind; operands = c.clear.new.self; labels = c.clear-2.new.self; regions = c.new-3.result },
      record { here = h.here; around = h.around; taken = h.taken },
      refl,
      c.clear.ensures.items,
      c.clear-2.ensures.items,
      c.new-3.ensures.items,
    ))
    c.begin.ensures.begun
