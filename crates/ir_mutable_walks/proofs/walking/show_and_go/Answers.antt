use Rattle.std.proofs.Common.{sym, subst}
use Rattle.ir_program.specs.Lists.{StandsInside}
use Rattle.ir_mutable_walks.specs.Changes.{moment, ChangesOn}
use Rattle.ir_mutable_walks.specs.Passes.{Leaves}
use Rattle.ir_mutable_walks.proofs.walking.show_and_go.Goals as goal

pub call_and_know-requires-clause-inside : goal.call_and_know-requires-clause-inside
call_and_know-requires-clause-inside g c = subst (StandsInside (g.C.HasProgram.program_of c.args.ctx.now) c.args.root) (sym c.node_of.ensures) c.requires.stops.inside

pub after_call-requires-clause-known : goal.after_call-requires-clause-known
after_call-requires-clause-known g c = c.call_and_know.ensures.leaves.after

pub after_call-requires-clause-inside : goal.after_call-requires-clause-inside
after_call-requires-clause-inside g c = subst (StandsInside (g.C.HasProgram.program_of c.call_and_know.new.ctx) c.args.root) c.node_of.ensures c.call_and_know.ensures.inside

pub returns-clause-leaves : goal.returns-clause-leaves
returns-clause-leaves g c = subst (Leaves c.args.root (g.C.HasProgram.program_of c.args.ctx.now) (g.C.HasProgram.program_of c.call_and_know.new.ctx)) c.node_of.ensures c.call_and_know.ensures.leaves

pub returns-clause-call : goal.returns-clause-call
returns-clause-call g c = subst (λ n. ChangesOn g.F.FnMut (moment c.args.callback.now c.args.ctx.now c.args.state.now) n tt (moment c.call_and_know.new.callback c.call_and_know.new.ctx c.call_and_know.new.state)) c.node_of.ensures c.call_and_know.ensures.changes
