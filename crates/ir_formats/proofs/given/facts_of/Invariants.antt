use Rattle.std.proofs.Common.{◌≡◌, map, take}
use Rattle.ir_formats.specs.Given.{dense, plain_part}
use Rattle.ir_formats.specs.Predicting.{plain_facts}
use Rattle.ir_formats.proofs.given.facts_of.Given as goal

abbrev pub invariant-loop-part : goal.invariant-loop-part
invariant-loop-part l = map plain_facts l.all.items ≡ map (dense l.columns) (map plain_part (take l.part-index l.table))
