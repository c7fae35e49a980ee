use Rattle.std.proofs.lemmas.Result.{on_ok_weaker}
use Rattle.text_assembling.proofs.assembling.Assembler.begin_region.Goals as goal

pub returns-clause-begun : goal.returns-clause-begun
returns-clause-begun g c = on_ok_weaker c.begin.result (λ h. (c.new.result, h, c.new.ensures.items)) c.begin.ensures.begun
