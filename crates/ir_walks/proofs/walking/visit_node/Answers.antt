use Rattle.ir_walks.specs.declared.results.WalkContinue.TheVariants.{Advance}
use Rattle.ir_walks.specs.Calls.{Visits}
use Rattle.ir_walks.specs.Turns.{called_at, IsKnown}
use Rattle.ir_walks.proofs.Walked.{starts, turns, turn_lowers, stands_inside, is_live, visit_made, visit_ends}
use Rattle.ir_walks.proofs.walking.visit_node.Goals as goal

pub turns-init : goal.turns-init
turns-init g c = starts c.args.program.now c.args.config.now c.args.root (Visits g.F.FnMut c.args.ctx.now) (c.args.callback, c.args.state.now)

pub go_on-at-requires-clause-live : goal.go_on-at-requires-clause-live
go_on-at-requires-clause-live g c =
    is_live c.args.program.now c.args.config.now c.args.root c.know_inside.ensures (Visits g.F.FnMut c.args.ctx.now) (c.args.callback, c.args.state.now) c.turns.at c.in-Some.cursor c.in-Some.is (c.turns.callback, c.turns.state) c.turns.invariant

pub go_on-at-requires-clause-inside : goal.go_on-at-requires-clause-inside
go_on-at-requires-clause-inside g c =
    stands_inside c.args.program.now c.args.config.now c.args.root c.know_inside.ensures (Visits g.F.FnMut c.args.ctx.now) (c.args.callback, c.args.state.now) c.turns.at c.in-Some.cursor c.in-Some.is (c.turns.callback, c.turns.state) c.turns.invariant

pub turns-preserved : goal.turns-preserved
turns-preserved g c =
    let known : IsKnown c.args.program.now c.args.root = c.know_inside.ensures in
    let made = visit_made c.args.program.now c.args.config.now c.args.root known g.F.FnMut c.args.ctx.now c.args.callback c.args.state.now (called_at c.args.config.now c.in-Some.cursor) c.turns.callback c.turns.state c.show.new.callback c.show.new.state c.show.ensures in
    turns c.args.program.now c.args.config.now c.args.root known (Visits g.F.FnMut c.args.ctx.now) (c.args.callback, c.args.state.now) c.turns.at c.in-Some.cursor c.in-Some.is (c.turns.callback, c.turns.state) c.turns.invariant Advance (c.show.new.callback, c.show.new.state) made c.go_on-at.result c.go_on-at.ensures

pub turns-smaller : goal.turns-smaller
turns-smaller g c =
    let known : IsKnown c.args.program.now c.args.root = c.know_inside.ensures in
    let made = visit_made c.args.program.now c.args.config.now c.args.root known g.F.FnMut c.args.ctx.now c.args.callback c.args.state.now (called_at c.args.config.now c.in-Some.cursor) c.turns.callback c.turns.state c.show.new.callback c.show.new.state c.show.ensures in
    turn_lowers c.args.program.now c.args.config.now c.args.root known (Visits g.F.FnMut c.args.ctx.now) (c.args.callback, c.args.state.now) c.turns.at c.in-Some.cursor c.in-Some.is (c.turns.callback, c.turns.state) c.turns.invariant Advance (c.show.new.callback, c.show.new.state) made c.go_on-at.result c.go_on-at.ensures

pub returns : goal.returns
returns g c = visit_ends c.args.program.now c.args.config.now c.args.root c.know_inside.ensures g.F.FnMut c.args.ctx.now c.args.callback c.args.state.now c.turns.at c.turns.callback c.turns.state c.in_default.is c.turns.invariant
