use Rattle.ir_walks.specs.Turns.{node_of}
use Rattle.ir_walks.proofs.Trees.{inside}
use Rattle.ir_mutable_walks.proofs.OneTurn.{turn_inside}
use Rattle.ir_mutable_walks.proofs.Stays.{live_in}
use Rattle.ir_mutable_walks.proofs.turning.go_to_next.Goals as goal

pub go_on-from-requires-clause-live : goal.go_on-from-requires-clause-live
go_on-from-requires-clause-live g c = live_in c.args.program.now c.args.root c.requires.known (node_of c.args.at) (inside c.args.program.now c.args.root (node_of c.args.at) c.requires.inside)

pub next_call-requires-clause-inside : goal.next_call-requires-clause-inside
next_call-requires-clause-inside g c = turn_inside c.args.program.now c.args.config.now c.args.root c.requires.known c.args.at c.requires.inside c.args.answer c.go_on-from.result c.go_on-from.ensures

pub returns : goal.returns
returns g c = record { from = c.go_on-from.result; turn = c.go_on-from.ensures; comes = c.next_call.ensures }
