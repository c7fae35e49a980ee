use Rattle.std.proofs.Common.{Some, sym, subst}
use Rattle.ir_walks.specs.declared.turns.Cursor.TheVariants.{Arriving, Leaving}
use Rattle.ir_walks.specs.Turns.{IsTurn, enters, passes, exits}
use Rattle.ir_walks.proofs.turns.go_on.Goals as goal

pub returns-in-Advance : goal.returns-in-Advance
returns-in-Advance g c =
    subst (λ at. IsTurn c.args.program.now c.args.config.now c.args.root at c.args.answer (Some c.enter.result)) (sym c.in-Arriving.is)
    (subst (λ a. IsTurn c.args.program.now c.args.config.now c.args.root (Arriving c.in-Arriving.node) a (Some c.enter.result)) (sym c.in-Advance.is)
    (enters c.in-Arriving.node c.enter.result c.enter.ensures))

pub returns-in-Skip : goal.returns-in-Skip
returns-in-Skip g c =
    subst (λ at. IsTurn c.args.program.now c.args.config.now c.args.root at c.args.answer (Some (Leaving c.in-Arriving.node))) (sym c.in-Arriving.is)
    (subst (λ a. IsTurn c.args.program.now c.args.config.now c.args.root (Arriving c.in-Arriving.node) a (Some (Leaving c.in-Arriving.node))) (sym c.in-Skip.is)
    (passes c.in-Arriving.node))

pub returns-in-Leaving : goal.returns-in-Leaving
returns-in-Leaving g c =
    subst (λ at. IsTurn c.args.program.now c.args.config.now c.args.root at c.args.answer c.exit.result) (sym c.in-Leaving.is)
    (exits c.in-Leaving.node c.args.answer c.exit.result c.exit.ensures)
