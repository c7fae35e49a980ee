use Rattle.std.proofs.Common.{sym, ◌∙◌}
use Rattle.pass_managers.specs.Running.{not_accepted, not_told}
use Rattle.pass_managers.proofs.verifying.verify.Goals.{then-is_memory, else-is_memory}
use Rattle.pass_managers.proofs.verifying.verify.Goals as goal

pub returns-after-is_memory-clause-refused : goal.returns-after-is_memory-clause-refused
returns-after-is_memory-clause-refused g c =
    elim c.if-is_memory.branch [
      | then-is_memory w ↦ rw w.result-is not_told
      | else-is_memory w ↦ rw w.result-is (not_accepted (c.in-Err.ensures.refused (sym c.is_memory.ensures ∙ w.if-is_memory.false)))
    ]
