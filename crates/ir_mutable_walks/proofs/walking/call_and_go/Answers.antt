use Rattle.std.proofs.Common.{sym, subst}
use Rattle.std.specs.declared.ops.ControlFlow.TheVariants.{Continue, Break}
use Rattle.ir_program.specs.Lists.{StandsInside}
use Rattle.ir_mutable_walks.specs.Changes.{moment, ChangesOn}
use Rattle.ir_mutable_walks.specs.Passes.{Leaves}
use Rattle.ir_mutable_walks.proofs.walking.call_and_go.Goals as goal

pub call_and_know-requires-clause-inside : goal.call_and_know-requires-clause-inside
call_and_know-requires-clause-inside g c = subst (StandsInside (g.C.HasProgram.program_of c.args.ctx.now) c.args.root) (sym c.node_of.ensures) c.requires.stops.inside

pub after_call-requires-clause-known : goal.after_call-requires-clause-known
after_call-requires-clause-known g c = c.call_and_know.ensures.leaves.after

pub after_call-requires-clause-inside : goal.after_call-requires-clause-inside
after_call-requires-clause-inside g c = subst (StandsInside (g.C.HasProgram.program_of c.call_and_know.new.ctx) c.args.root) c.node_of.ensures c.call_and_know.ensures.inside

pub returns-in-Break-clause-leaves : goal.returns-in-Break-clause-leaves
returns-in-Break-clause-leaves g c = subst (Leaves c.args.root (g.C.HasProgram.program_of c.args.ctx.now) (g.C.HasProgram.program_of c.call_and_know.new.ctx)) c.node_of.ensures c.call_and_know.ensures.leaves

pub returns-in-Continue-clause-leaves : goal.returns-in-Continue-clause-leaves
returns-in-Continue-clause-leaves g c = subst (Leaves c.args.root (g.C.HasProgram.program_of c.args.ctx.now) (g.C.HasProgram.program_of c.call_and_know.new.ctx)) c.node_of.ensures c.call_and_know.ensures.leaves

pub returns-in-Break-clause-call : goal.returns-in-Break-clause-call
returns-in-Break-clause-call g c = subst (λ n. ChangesOn g.F.FnMut (moment c.args.callback.now c.args.ctx.now c.args.state.now) n (Break c.in-Break.value) (moment c.call_and_know.new.callback c.call_and_know.new.ctx c.call_and_know.new.state)) c.node_of.ensures c.in-Break.ensures.changes

pub returns-in-Continue-clause-call : goal.returns-in-Continue-clause-call
returns-in-Continue-clause-call g c =
    (c.in-Continue.answer, subst (λ n. ChangesOn g.F.FnMut (moment c.args.callback.now c.args.ctx.now c.args.state.now) n (Continue c.in-Continue.answer) (moment c.call_and_know.new.callback c.call_and_know.new.ctx c.call_and_know.new.state)) c.node_of.ensures c.in-Continue.ensures.changes, c.after_call.ensures)
