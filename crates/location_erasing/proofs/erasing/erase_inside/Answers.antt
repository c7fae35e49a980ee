use Rattle.std.proofs.Common.{refl, ◌∙◌}
use Rattle.location_erasing.specs.Located.{located, block_located}
use Rattle.location_erasing.proofs.Locating.{begins, ends, at_inside, at_live, goes_on, lowers}
use Rattle.location_erasing.proofs.erasing.erase_inside.Goals as goal

pub turns-init : goal.turns-init
turns-init g c = record { walking = begins (located g.D.DialectTables.nowhere) (block_located g.D.DialectTables.nowhere) (λ d. refl) (λ n. refl) c.args.ctx.now.program c.args.root; types = refl }

pub erase_and_go-at-requires-clause-live : goal.erase_and_go-at-requires-clause-live
erase_and_go-at-requires-clause-live g c =
    at_live (located g.D.DialectTables.nowhere) (block_located g.D.DialectTables.nowhere) (λ d. refl) (λ n. refl) c.args.ctx.now.program c.args.root c.know_context.ensures c.turns.at c.in-Some.cursor c.in-Some.is c.turns.ctx.program c.turns.invariant.walking

pub erase_and_go-at-requires-clause-inside : goal.erase_and_go-at-requires-clause-inside
erase_and_go-at-requires-clause-inside g c =
    at_inside (located g.D.DialectTables.nowhere) (block_located g.D.DialectTables.nowhere) (λ d. refl) (λ n. refl) c.args.ctx.now.program c.args.root c.know_context.ensures c.turns.at c.in-Some.cursor c.in-Some.is c.turns.ctx.program c.turns.invariant.walking

pub turns-preserved : goal.turns-preserved
turns-preserved g c = record {
  walking = goes_on (located g.D.DialectTables.nowhere) (block_located g.D.DialectTables.nowhere) (λ d. refl) (λ n. refl) c.args.ctx.now.program c.args.root c.know_context.ensures c.turns.at c.in-Some.cursor c.in-Some.is c.turns.ctx.program c.turns.invariant.walking c.erase_and_go-at.new.ctx.program c.erase_and_go-at.ensures.erased c.erase_and_go-at.result c.erase_and_go-at.ensures.turn;
  types = c.erase_and_go-at.ensures.types ∙ c.turns.invariant.types;
}

pub turns-smaller : goal.turns-smaller
turns-smaller g c =
    lowers (located g.D.DialectTables.nowhere) (block_located g.D.DialectTables.nowhere) (λ d. refl) (λ n. refl) c.args.ctx.now.program c.args.root c.know_context.ensures c.turns.at c.in-Some.cursor c.in-Some.is c.turns.ctx.program c.turns.invariant.walking c.erase_and_go-at.new.ctx.program c.erase_and_go-at.ensures.erased c.erase_and_go-at.result c.erase_and_go-at.ensures.turn

pub returns-clause-erased : goal.returns-clause-erased
returns-clause-erased g c = ends (located g.D.DialectTables.nowhere) (block_located g.D.DialectTables.nowhere) (λ d. refl) (λ n. refl) c.args.ctx.now.program c.args.root c.know_context.ensures c.turns.at c.in_default.is c.turns.ctx.program c.turns.invariant.walking
