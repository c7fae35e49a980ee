use Rattle.std.proofs.Common.{◌≡◌, [], subst, sym}
use Rattle.ir_program.specs.declared.handles.IRNode.TheVariants.{Operation as OperationNode}
use Rattle.ir_walks.specs.Turns.{IsKnown, IsTurn}
use Rattle.ir_walks.proofs.Walked.{starts, turns, turn_lowers, stands_inside, is_live}
use Rattle.ir_symbols.specs.TableWalks.{EndsTableWalk, forward}
use Rattle.ir_symbols.proofs.TableWalked.{Takes, made_of, ends_table, breaks_table}
use Rattle.ir_symbols.proofs.walking.walk_table.Goals as goal

pub turns-init : goal.turns-init
turns-init g c = ([], starts c.args.program.now forward (OperationNode c.args.table) (Takes g.O.SymbolPayload.holds_table c.args.program.now c.args.table g.F.FnMut c.args.ctx.now) ((c.args.callback, c.args.state.now), []))

pub ask_at-requires-clause-live : goal.ask_at-requires-clause-live
ask_at-requires-clause-live g c =
    is_live c.args.program.now forward (OperationNode c.args.table) c.know_inside.ensures (Takes g.O.SymbolPayload.holds_table c.args.program.now c.args.table g.F.FnMut c.args.ctx.now) ((c.args.callback, c.args.state.now), [])
    c.turns.at c.in-Some.cursor c.in-Some.is ((c.turns.callback, c.turns.state), c.turns.invariant.0) c.turns.invariant.1

pub go_on-at-requires-clause-live : goal.go_on-at-requires-clause-live
go_on-at-requires-clause-live g c =
    is_live c.args.program.now forward (OperationNode c.args.table) c.know_inside.ensures (Takes g.O.SymbolPayload.holds_table c.args.program.now c.args.table g.F.FnMut c.args.ctx.now) ((c.args.callback, c.args.state.now), [])
    c.turns.at c.in-Some.cursor c.in-Some.is ((c.turns.callback, c.turns.state), c.turns.invariant.0) c.turns.invariant.1

pub go_on-at-requires-clause-inside : goal.go_on-at-requires-clause-inside
go_on-at-requires-clause-inside g c =
    stands_inside c.args.program.now forward (OperationNode c.args.table) c.know_inside.ensures (Takes g.O.SymbolPayload.holds_table c.args.program.now c.args.table g.F.FnMut c.args.ctx.now) ((c.args.callback, c.args.state.now), [])
    c.turns.at c.in-Some.cursor c.in-Some.is ((c.turns.callback, c.turns.state), c.turns.invariant.0) c.turns.invariant.1

pub turns-preserved : goal.turns-preserved
turns-preserved g c =
    let turn : IsTurn c.args.program.now forward (OperationNode c.args.table) c.in-Some.cursor c.in-Continue.answer c.go_on-at.result = c.go_on-at.ensures in
    let made = made_of g.O.SymbolPayload.holds_table c.args.program.now c.args.table g.F.FnMut c.args.ctx.now c.in-Some.cursor c.in-Continue.answer c.turns.callback c.turns.state c.ask_at.new.callback c.ask_at.new.state c.turns.invariant.0 c.in-Continue.ensures in (
      made.0,
      turns c.args.program.now forward (OperationNode c.args.table) c.know_inside.ensures (Takes g.O.SymbolPayload.holds_table c.args.program.now c.args.table g.F.FnMut c.args.ctx.now) ((c.args.callback, c.args.state.now), [])
          c.turns.at c.in-Some.cursor c.in-Some.is ((c.turns.callback, c.turns.state), c.turns.invariant.0) c.turns.invariant.1 c.in-Continue.answer ((c.ask_at.new.callback, c.ask_at.new.state), made.0) made.1 c.go_on-at.result turn,
    )

pub turns-smaller : goal.turns-smaller
turns-smaller g c =
    let turn : IsTurn c.args.program.now forward (OperationNode c.args.table) c.in-Some.cursor c.in-Continue.answer c.go_on-at.result = c.go_on-at.ensures in
    let made = made_of g.O.SymbolPayload.holds_table c.args.program.now c.args.table g.F.FnMut c.args.ctx.now c.in-Some.cursor c.in-Continue.answer c.turns.callback c.turns.state c.ask_at.new.callback c.ask_at.new.state c.turns.invariant.0 c.in-Continue.ensures in
    turn_lowers c.args.program.now forward (OperationNode c.args.table) c.know_inside.ensures (Takes g.O.SymbolPayload.holds_table c.args.program.now c.args.table g.F.FnMut c.args.ctx.now) ((c.args.callback, c.args.state.now), [])
    c.turns.at c.in-Some.cursor c.in-Some.is ((c.turns.callback, c.turns.state), c.turns.invariant.0) c.turns.invariant.1 c.in-Continue.answer ((c.ask_at.new.callback, c.ask_at.new.state), made.0) made.1 c.go_on-at.result turn

pub returns-in-Break : goal.returns-in-Break
returns-in-Break g c =
    breaks_table g.O.SymbolPayload.holds_table c.args.program.now c.args.table g.F.FnMut c.args.ctx.now c.know_inside.ensures c.turns.at c.in-Some.cursor c.in-Some.is c.turns.invariant.0 c.args.callback c.args.state.now
    c.turns.callback c.turns.state c.turns.invariant.1 c.in-Break.value c.ask_at.new.callback c.ask_at.new.state c.in-Break.ensures

pub returns : goal.returns
returns g c = subst (λ r. EndsTableWalk g.O.SymbolPayload.holds_table c.args.program.now c.args.table g.F.FnMut c.args.ctx.now c.args.callback c.args.state.now r c.turns.state) (sym c.walk_advance.ensures)
    (ends_table g.O.SymbolPayload.holds_table c.args.program.now c.args.table g.F.FnMut c.args.ctx.now c.know_inside.ensures c.turns.at c.turns.invariant.0 c.args.callback c.args.state.now c.turns.callback c.turns.state c.in_default.is c.turns.invariant.1)
