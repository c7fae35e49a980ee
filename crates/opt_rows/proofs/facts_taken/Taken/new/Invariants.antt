use Rattle.std.proofs.Common.{take}
use Rattle.opt_rows.proofs.FactsTaking.{IsUntaken}
use Rattle.opt_rows.proofs.facts_taken.Taken.new.Given as goal

abbrev pub invariant-loop-number : goal.invariant-loop-number
invariant-loop-number l = IsUntaken (take l.number l.rows) l.ends.items l.marks.items
