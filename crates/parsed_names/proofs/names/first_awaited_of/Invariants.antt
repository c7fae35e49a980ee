use Rattle.std.proofs.Common.{◌≡◌, length}
use Rattle.ir_names.specs.Dictionary.{named_entries}
use Rattle.parsed_names.specs.Names.{first_awaited}
use Rattle.parsed_names.proofs.names.first_awaited_of.Given as goal

-- the first name that is awaited is the first of those that are left
abbrev pub invariant-loop-name : goal.invariant-loop-name
invariant-loop-name g l = first_awaited (named_entries l.names) ≡ first_awaited (named_entries l.fn.names)

abbrev pub decreases-loop-name : goal.decreases-loop-name
decreases-loop-name g l = length l.names
