use Rattle.std.proofs.Common.{subst}
use Rattle.ir_trees.specs.Stands.{StandsFor}
use Rattle.kit.specs.Context.{KitProgram, KitTree}
use Rattle.kit_execution.proofs.Paths.{can_run, path_moves}
use Rattle.kit_execution.proofs.executing.know_runs.Goals as goal

pub returns-clause-can_run : goal.returns-clause-can_run
returns-clause-can_run c = can_run c.args.ctx.now c.args.root c.requires.obeys
    (subst (λ (p : KitProgram). (t : KitTree) × StandsFor p c.args.root t) c.program.ensures c.know_tree.ensures)

pub returns-clause-moves : goal.returns-clause-moves
returns-clause-moves c = path_moves c.args.ctx.now c.args.root c.requires.obeys
    (subst (λ (p : KitProgram). (t : KitTree) × StandsFor p c.args.root t) c.program.ensures c.know_tree.ensures)
