use Rattle.std.proofs.Common.{take}
use Rattle.opt_solvers.proofs.FactsSeeing.{IsUnseen}
use Rattle.opt_solvers.proofs.facts_seen.Seen.new.Given as goal

abbrev pub invariant-loop-number : goal.invariant-loop-number
invariant-loop-number g l = IsUnseen g.row.K.Denot (take l.number l.rows) l.blank.ends.items l.blank.found.items l.blank.missing.items
