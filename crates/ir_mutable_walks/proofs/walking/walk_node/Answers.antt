use Rattle.std.proofs.Common.{refl}
use Rattle.ir_mutable_walks.specs.Changes.{moment, program_at, Answers, Ends}
use Rattle.ir_mutable_walks.proofs.Ended.{calling, is_live, stops_at, goes, meets_limit, breaks_off, done}
use Rattle.ir_mutable_walks.proofs.walking.walk_node.Goals as goal

pub calls-init : goal.calls-init
calls-init g c = calling (program_at g.C.HasProgram.program_of) (Answers g.F.FnMut) c.args.config.now c.args.root c.args.limit (moment c.args.callback c.args.ctx.now c.args.state.now) c.requires.live c.first_call-at.result c.first_call-at.ensures

pub call_and_go-requires-clause-live : goal.call_and_go-requires-clause-live
call_and_go-requires-clause-live g c = is_live (program_at g.C.HasProgram.program_of) (Answers g.F.FnMut) c.args.config.now c.args.root c.args.limit (moment c.args.callback c.args.ctx.now c.args.state.now) c.calls.left c.calls.at c.in-Some.cursor c.in-Some.is (moment c.calls.callback c.calls.ctx c.calls.state) c.calls.invariant

pub call_and_go-requires-clause-stops : goal.call_and_go-requires-clause-stops
call_and_go-requires-clause-stops g c = stops_at (program_at g.C.HasProgram.program_of) (Answers g.F.FnMut) c.args.config.now c.args.root c.args.limit (moment c.args.callback c.args.ctx.now c.args.state.now) c.calls.left c.calls.at c.in-Some.cursor c.in-Some.is (moment c.calls.callback c.calls.ctx c.calls.state) c.calls.invariant

pub returns-then-left-eq0 : goal.returns-then-left-eq0
returns-then-left-eq0 g c = (c.calls.callback, meets_limit (program_at g.C.HasProgram.program_of) (Answers g.F.FnMut) c.args.config.now c.args.root c.args.limit (moment c.args.callback c.args.ctx.now c.args.state.now) c.calls.left c.calls.at c.in-Some.cursor c.in-Some.is (moment c.calls.callback c.calls.ctx c.calls.state) c.calls.invariant c.if-left-eq0.true)

pub returns-in-Break : goal.returns-in-Break
returns-in-Break g c =
    (c.call_and_go.new.callback, breaks_off (program_at g.C.HasProgram.program_of) (Answers g.F.FnMut) c.args.config.now c.args.root c.args.limit (moment c.args.callback c.args.ctx.now c.args.state.now) c.calls.left c.calls.at c.in-Some.cursor c.in-Some.is (moment c.calls.callback c.calls.ctx c.calls.state) c.calls.invariant c.if-left-eq0.false (Ends g.F.FnMut c.in-Break.value) (moment c.call_and_go.new.callback c.call_and_go.new.ctx c.call_and_go.new.state) c.in-Break.ensures.call c.call_and_go.ensures.leaves)

pub calls-preserved : goal.calls-preserved
calls-preserved g c =
    let e = c.in-Continue.ensures.call in
    goes (program_at g.C.HasProgram.program_of) (Answers g.F.FnMut) c.args.config.now c.args.root c.args.limit (moment c.args.callback c.args.ctx.now c.args.state.now) c.calls.left c.calls.at c.in-Some.cursor c.in-Some.is (moment c.calls.callback c.calls.ctx c.calls.state) c.calls.invariant c.if-left-eq0.false e.0 (moment c.call_and_go.new.callback c.call_and_go.new.ctx c.call_and_go.new.state) e.1 c.call_and_go.ensures.leaves c.in-Continue.next e.2

pub returns : goal.returns
returns g c = (refl, c.calls.callback, done (program_at g.C.HasProgram.program_of) (Answers g.F.FnMut) c.args.config.now c.args.root c.args.limit (moment c.args.callback c.args.ctx.now c.args.state.now) c.calls.left c.calls.at c.in_default.is (moment c.calls.callback c.calls.ctx c.calls.state) c.calls.invariant)
