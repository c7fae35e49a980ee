use Rattle.std.proofs.Common.{refl}
use Rattle.ir_walks.specs.declared.results.WalkContinue.TheVariants.{Advance}
use Rattle.ir_mutable_walks.specs.Changes.{moment, program_at, Visits}
use Rattle.ir_mutable_walks.proofs.Ended.{calling, is_live, stops_at, goes, meets_limit, done}
use Rattle.ir_mutable_walks.proofs.walking.visit_node.Goals as goal

pub calls-init : goal.calls-init
calls-init g c = calling (program_at g.C.HasProgram.program_of) (Visits g.F.FnMut) c.args.config.now c.args.root c.args.limit (moment c.args.callback c.args.ctx.now c.args.state.now) c.requires.live c.first_call-at.result c.first_call-at.ensures

pub show_and_go-at-requires-clause-live : goal.show_and_go-at-requires-clause-live
show_and_go-at-requires-clause-live g c = is_live (program_at g.C.HasProgram.program_of) (Visits g.F.FnMut) c.args.config.now c.args.root c.args.limit (moment c.args.callback c.args.ctx.now c.args.state.now) c.calls.left c.calls.at c.in-Some.cursor c.in-Some.is (moment c.calls.callback c.calls.ctx c.calls.state) c.calls.invariant

pub show_and_go-at-requires-clause-stops : goal.show_and_go-at-requires-clause-stops
show_and_go-at-requires-clause-stops g c = stops_at (program_at g.C.HasProgram.program_of) (Visits g.F.FnMut) c.args.config.now c.args.root c.args.limit (moment c.args.callback c.args.ctx.now c.args.state.now) c.calls.left c.calls.at c.in-Some.cursor c.in-Some.is (moment c.calls.callback c.calls.ctx c.calls.state) c.calls.invariant

pub returns-then-left-eq0 : goal.returns-then-left-eq0
returns-then-left-eq0 g c = (c.calls.callback, meets_limit (program_at g.C.HasProgram.program_of) (Visits g.F.FnMut) c.args.config.now c.args.root c.args.limit (moment c.args.callback c.args.ctx.now c.args.state.now) c.calls.left c.calls.at c.in-Some.cursor c.in-Some.is (moment c.calls.callback c.calls.ctx c.calls.state) c.calls.invariant c.if-left-eq0.true)

pub calls-preserved : goal.calls-preserved
calls-preserved g c =
    goes (program_at g.C.HasProgram.program_of) (Visits g.F.FnMut) c.args.config.now c.args.root c.args.limit (moment c.args.callback c.args.ctx.now c.args.state.now) c.calls.left c.calls.at c.in-Some.cursor c.in-Some.is (moment c.calls.callback c.calls.ctx c.calls.state) c.calls.invariant c.if-left-eq0.false Advance (moment c.show_and_go-at.new.callback c.show_and_go-at.new.ctx c.show_and_go-at.new.state) (refl, c.show_and_go-at.ensures.call) c.show_and_go-at.ensures.leaves c.show_and_go-at.result c.show_and_go-at.ensures.goes_on

pub returns : goal.returns
returns g c = (c.calls.callback, done (program_at g.C.HasProgram.program_of) (Visits g.F.FnMut) c.args.config.now c.args.root c.args.limit (moment c.args.callback c.args.ctx.now c.args.state.now) c.calls.left c.calls.at c.in_default.is (moment c.calls.callback c.calls.ctx c.calls.state) c.calls.invariant)
