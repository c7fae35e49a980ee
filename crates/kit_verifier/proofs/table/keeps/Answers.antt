use Rattle.std.proofs.Common.{subst, sym}
use Rattle.kit_checks.specs.Searching.{Tells}
use Rattle.kit_checks.specs.World.{world_of}
use Rattle.kit_verifier.specs.Tables.{IsTable, rule_of}
use Rattle.kit_verifier.proofs.table.keeps.Goals as goal

pub module_holds-requires-clause-table : goal.module_holds-requires-clause-table
module_holds-requires-clause-table c = subst (IsTable (world_of c.args.ctx.now) c.args.ctx.now.program c.args.root) c.in-Repeats.is c.requires.table

pub calls_fit-requires-clause-table : goal.calls_fit-requires-clause-table
calls_fit-requires-clause-table c = subst (IsTable (world_of c.args.ctx.now) c.args.ctx.now.program c.args.root) c.in-Callees.is c.requires.table

pub returns-in-Repeats : goal.returns-in-Repeats
returns-in-Repeats c =
    subst (λ t. Tells (world_of c.args.ctx.now) c.args.ctx.now.program c.args.root (rule_of t) c.args.op c.module_holds.result) (sym c.in-Repeats.is) c.module_holds.ensures

pub returns-in-Callees : goal.returns-in-Callees
returns-in-Callees c =
    subst (λ t. Tells (world_of c.args.ctx.now) c.args.ctx.now.program c.args.root (rule_of t) c.args.op c.calls_fit.result) (sym c.in-Callees.is) c.calls_fit.ensures
