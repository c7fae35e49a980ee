use Rattle.ir_context.proofs.KnownTypes.{grown_known}
use Rattle.ir_context.proofs.arguments.PtrBasicBlockArgumentCalls.push_argument.Goals as goal

pub invariant_of-ctx : goal.invariant_of-ctx
invariant_of-ctx g c = grown_known _ c.ctx.inside.program c.push_argument.new.self c.ctx.invariant c.args.ty (rw (← c.ctx.view_is) at c.requires.known) c.push_argument.result c.push_argument.ensures.defined c.push_argument.ensures.err_types

pub returns-clause-pushed : goal.returns-clause-pushed
returns-clause-pushed g c = rw (← c.ctx.view_is) c.push_argument.ensures.pushed
