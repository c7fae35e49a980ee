use Rattle.ir_program.specs.Lists.{blocks_in}
use Rattle.kit_checks.proofs.Finding.{IsPast}
use Rattle.kit_checks.proofs.places.block_index.Given as goal

-- the one that is looked for isn't among those that were seen, and so many were
abbrev pub invariant-loop-other : goal.invariant-loop-other
invariant-loop-other g l = IsPast (blocks_in l.program l.fn.region) l.fn.block l.other-iterator l.index
