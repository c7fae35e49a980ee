use Rattle.ir_context.proofs.KnownTypes.{grown_known}
use Rattle.ir_context.proofs.arguments.PtrBasicBlockArgumentCalls.insert_argument.Goals as goal

pub invariant_of-ctx : goal.invariant_of-ctx
invariant_of-ctx g c = grown_known _ c.ctx.inside.program c.insert_argument.new.self c.ctx.invariant c.args.ty (rw (← c.ctx.view_is) at c.requires.known) c.insert_argument.result c.insert_argument.ensures.defined c.insert_argument.ensures.err_types

pub returns-clause-inserted : goal.returns-clause-inserted
returns-clause-inserted g c = rw (← c.ctx.view_is) c.insert_argument.ensures.inserted
