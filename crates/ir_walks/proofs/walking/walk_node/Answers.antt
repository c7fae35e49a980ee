use Rattle.std.proofs.Common.{subst, sym}
use Rattle.ir_walks.specs.Calls.{Answers, EndsWalk}
use Rattle.ir_walks.specs.Turns.{called_at, IsTurn, IsKnown}
use Rattle.ir_walks.proofs.Walked.{starts, turns, turn_lowers, stands_inside, is_live, answer_made, ends, breaks}
use Rattle.ir_walks.proofs.walking.walk_node.Goals as goal

pub turns-init : goal.turns-init
turns-init g c = starts c.args.program.now c.args.config.now c.args.root (Answers g.F.FnMut c.args.ctx.now) (c.args.callback, c.args.state.now)

pub go_on-at-requires-clause-live : goal.go_on-at-requires-clause-live
go_on-at-requires-clause-live g c =
    let known : IsKnown c.args.program.now c.args.root = c.know_inside.ensures in
    (is_live c.args.program.now c.args.config.now c.args.root known (Answers g.F.FnMut c.args.ctx.now) (c.args.callback, c.args.state.now) c.turns.at c.in-Some.cursor c.in-Some.is (c.turns.callback, c.turns.state) c.turns.invariant)

pub go_on-at-requires-clause-inside : goal.go_on-at-requires-clause-inside
go_on-at-requires-clause-inside g c =
    let known : IsKnown c.args.program.now c.args.root = c.know_inside.ensures in
    (stands_inside c.args.program.now c.args.config.now c.args.root known (Answers g.F.FnMut c.args.ctx.now) (c.args.callback, c.args.state.now) c.turns.at c.in-Some.cursor c.in-Some.is (c.turns.callback, c.turns.state) c.turns.invariant)

pub returns-in-Break : goal.returns-in-Break
returns-in-Break g c =
    let known : IsKnown c.args.program.now c.args.root = c.know_inside.ensures in
    breaks c.args.program.now c.args.config.now c.args.root known g.F.FnMut c.args.ctx.now c.args.callback c.args.state.now c.turns.at c.in-Some.cursor c.in-Some.is c.turns.callback c.turns.state c.turns.invariant c.in-Break.value c.ask.new.callback c.ask.new.state c.in-Break.ensures

pub turns-preserved : goal.turns-preserved
turns-preserved g c =
    let known : IsKnown c.args.program.now c.args.root = c.know_inside.ensures in
    let turn : IsTurn c.args.program.now c.args.config.now c.args.root c.in-Some.cursor c.in-Continue.answer c.go_on-at.result = c.go_on-at.ensures in
    let made = answer_made c.args.program.now c.args.config.now c.args.root known g.F.FnMut c.args.ctx.now c.args.callback c.args.state.now (called_at c.args.config.now c.in-Some.cursor) c.in-Continue.answer c.turns.callback c.turns.state c.ask.new.callback c.ask.new.state c.in-Continue.ensures in
    turns c.args.program.now c.args.config.now c.args.root known (Answers g.F.FnMut c.args.ctx.now) (c.args.callback, c.args.state.now) c.turns.at c.in-Some.cursor c.in-Some.is (c.turns.callback, c.turns.state) c.turns.invariant c.in-Continue.answer (c.ask.new.callback, c.ask.new.state) made c.go_on-at.result turn

pub turns-smaller : goal.turns-smaller
turns-smaller g c =
    let known : IsKnown c.args.program.now c.args.root = c.know_inside.ensures in
    let turn : IsTurn c.args.program.now c.args.config.now c.args.root c.in-Some.cursor c.in-Continue.answer c.go_on-at.result = c.go_on-at.ensures in
    let made = answer_made c.args.program.now c.args.config.now c.args.root known g.F.FnMut c.args.ctx.now c.args.callback c.args.state.now (called_at c.args.config.now c.in-Some.cursor) c.in-Continue.answer c.turns.callback c.turns.state c.ask.new.callback c.ask.new.state c.in-Continue.ensures in
    turn_lowers c.args.program.now c.args.config.now c.args.root known (Answers g.F.FnMut c.args.ctx.now) (c.args.callback, c.args.state.now) c.turns.at c.in-Some.cursor c.in-Some.is (c.turns.callback, c.turns.state) c.turns.invariant c.in-Continue.answer (c.ask.new.callback, c.ask.new.state) made c.go_on-at.result turn

pub returns : goal.returns
returns g c =
    let known : IsKnown c.args.program.now c.args.root = c.know_inside.ensures in
    subst (λ r. EndsWalk c.args.program.now c.args.config.now c.args.root g.F.FnMut c.args.ctx.now c.args.callback c.args.state.now r c.turns.state) (sym c.walk_advance.ensures)
    (ends c.args.program.now c.args.config.now c.args.root known g.F.FnMut c.args.ctx.now c.args.callback c.args.state.now c.turns.at c.turns.callback c.turns.state c.in_default.is c.turns.invariant)
