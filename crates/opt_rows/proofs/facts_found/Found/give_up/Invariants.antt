use Rattle.std.proofs.Common.{take}
use Rattle.opt_rows.specs.Known.{AllAny}
use Rattle.opt_rows.specs.FactsFound.{Meets}
use Rattle.opt_rows.proofs.facts_found.Found.give_up.Given as goal

abbrev pub invariant-loop-value : goal.invariant-loop-value
invariant-loop-value g l = Meets (λ k. AllAny k.of (take l.value-index l.values)) l.initial.self l.self
