use Rattle.std.proofs.Common.{sym, subst}
use Rattle.kit_checks.specs.World.{world_of}
use Rattle.kit_checks.specs.Searching.{KeptAt}
use Rattle.kit_checks.proofs.Searched.{kept_if, broken_if}
use Rattle.kit_checks.proofs.search.broken_at.Goals as goal

pub returns-then-keeps : goal.returns-then-keeps
returns-then-keeps c =
    subst (KeptAt (world_of c.args.ctx.now) c.args.ctx.now.program c.args.root c.args.rule) (sym c.in-Operation.is)
    (kept_if (world_of c.args.ctx.now) c.args.ctx.now.program c.args.root c.args.rule c.in-Operation.op c.keeps.result c.if-keeps.true c.keeps.ensures)

pub returns-else-keeps : goal.returns-else-keeps
returns-else-keeps c =
    (c.in-Operation.is, broken_if (world_of c.args.ctx.now) c.args.ctx.now.program c.args.root c.args.rule c.in-Operation.op c.keeps.result c.if-keeps.false c.keeps.ensures)
