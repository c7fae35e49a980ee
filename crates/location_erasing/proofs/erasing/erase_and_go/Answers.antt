use Rattle.std.proofs.Common.{sym, subst}
use Rattle.ir_program.specs.Lists.{StandsInside}
use Rattle.ir_walks.specs.Turns.{node_of}
use Rattle.location_erasing.specs.Located.{located, block_located}
use Rattle.location_erasing.proofs.Turning.{inside_stays}
use Rattle.location_erasing.proofs.erasing.erase_and_go.Goals as goal

pub go_on-requires-clause-inside : goal.go_on-requires-clause-inside
go_on-requires-clause-inside g c =
    subst (λ p. StandsInside p c.args.root (node_of c.args.at)) (sym c.program.ensures)
    (inside_stays (located g.D.DialectTables.nowhere) (block_located g.D.DialectTables.nowhere) c.args.ctx.now.program c.erase_on_arriving.new.ctx.program c.args.root c.args.at c.erase_on_arriving.ensures.erased c.requires.inside)
