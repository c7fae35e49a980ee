use Rattle.ir_mutable_walks.proofs.Passing.{passing, inside_here, stops_here, passes_on, left_lowers, stops_at_end}
use Rattle.ir_mutable_walks.proofs.Stays.{live_in}
use Rattle.ir_walks.proofs.Trees.{inside}
use Rattle.ir_walks.specs.Turns.{node_of}
use Rattle.ir_mutable_walks.proofs.turning.next_call.Goals as goal

pub turns-init : goal.turns-init
turns-init g c = passing c.args.program.now c.args.config.now c.args.root c.args.from c.requires.inside

pub go_on-at-requires-clause-live : goal.go_on-at-requires-clause-live
go_on-at-requires-clause-live g c =
    live_in c.args.program.now c.args.root c.requires.known (node_of c.in-Some.cursor)
    (inside c.args.program.now c.args.root (node_of c.in-Some.cursor) (inside_here c.args.program.now c.args.config.now c.args.root c.args.from c.turns.at c.in-Some.cursor c.in-Some.is c.turns.invariant))

pub go_on-at-requires-clause-inside : goal.go_on-at-requires-clause-inside
go_on-at-requires-clause-inside g c = inside_here c.args.program.now c.args.config.now c.args.root c.args.from c.turns.at c.in-Some.cursor c.in-Some.is c.turns.invariant

pub returns-then-is_called_at : goal.returns-then-is_called_at
returns-then-is_called_at g c = stops_here c.args.program.now c.args.config.now c.args.root c.args.from c.turns.at c.in-Some.cursor c.in-Some.is c.turns.invariant (c.is_called_at.ensures.yes c.if-is_called_at.true)

pub turns-preserved : goal.turns-preserved
turns-preserved g c = passes_on c.args.program.now c.args.config.now c.args.root c.args.from c.turns.at c.in-Some.cursor c.in-Some.is c.turns.invariant c.requires.known c.go_on-at.result c.go_on-at.ensures (c.is_called_at.ensures.no c.if-is_called_at.false)

pub turns-smaller : goal.turns-smaller
turns-smaller g c = left_lowers c.args.program.now c.args.config.now c.args.root c.args.from c.turns.at c.in-Some.cursor c.in-Some.is c.turns.invariant c.requires.known c.go_on-at.result c.go_on-at.ensures

pub returns : goal.returns
returns g c = stops_at_end c.args.program.now c.args.config.now c.args.root c.args.from c.turns.at c.in_default.is c.turns.invariant
