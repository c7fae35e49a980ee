use Rattle.std.proofs.Common.{◌≡◌, refl}
use Rattle.ir_walks.proofs.Measure.{turns_left}
use Rattle.location_erasing.specs.Located.{located, block_located}
use Rattle.location_erasing.proofs.Locating.{WalkedSoFar, preorder}
use Rattle.location_erasing.proofs.erasing.erase_inside.Given as goal

-- the walk of the program as it was came so far, and gave a location to all that it called
abbrev pub invariant-turns : goal.invariant-turns
invariant-turns g l = record {
  walking : WalkedSoFar (located g.D.DialectTables.nowhere) (block_located g.D.DialectTables.nowhere) (λ d. refl) (λ n. refl) l.initial.ctx.program l.root l.at l.ctx.program;
  types : l.ctx.types ≡ l.initial.ctx.types;
}

abbrev pub decreases-turns : goal.decreases-turns
decreases-turns g l = turns_left l.initial.ctx.program preorder l.root l.at
