use Rattle.std.proofs.Common.{sym, subst}
use Rattle.ir_walks.specs.Turns.{Exits, all_done}
use Rattle.ir_walks.proofs.Holders.{exits_beside, exits_out}
use Rattle.ir_walks.proofs.Nodes.{nodes_equal, nodes_differ}
use Rattle.ir_walks.proofs.turns.exit.Goals as goal

pub returns-then-eq : goal.returns-then-eq
returns-then-eq g c = all_done (nodes_equal c.args.node c.args.root c.eq.result c.eq.ensures c.if-eq.true)

pub returns-in-Some : goal.returns-in-Some
returns-in-Some g c = exits_beside c.args.program.now c.args.config.now c.args.root c.args.node c.requires.inside (nodes_differ c.args.node c.args.root c.eq.result c.eq.ensures c.if-eq.false) c.next_beside.result c.next_beside.ensures c.in-Some.next c.in-Some.is

pub returns-in-None : goal.returns-in-None
returns-in-None g c = subst (λ o. Exits c.args.program.now c.args.config.now c.args.root c.args.node o) (sym c.leaving.ensures)
    (exits_out c.args.program.now c.args.config.now c.args.root c.args.node c.requires.inside (nodes_differ c.args.node c.args.root c.eq.result c.eq.ensures c.if-eq.false) c.next_beside.result c.next_beside.ensures c.in-None.is c.holder.result c.holder.ensures)
