use Rattle.std.proofs.Common.{sym}
use Rattle.ir_walks.specs.Levels.{members}
use Rattle.ir_walks.specs.Turns.{to_first, to_end}
use Rattle.ir_walks.proofs.Sequences.{starts, is_empty}
use Rattle.ir_walks.proofs.turns.enter.Goals as goal

pub returns-in-Some : goal.returns-in-Some
returns-in-Some g c =
    let s = starts (members c.args.program.now c.args.config.now c.args.node) c.in-Some.first (sym c.in-Some.ensures) in
    to_first c.in-Some.first s.0 s.1

pub returns-in-None : goal.returns-in-None
returns-in-None g c = to_end (is_empty (members c.args.program.now c.args.config.now c.args.node) (sym c.in-None.ensures))
