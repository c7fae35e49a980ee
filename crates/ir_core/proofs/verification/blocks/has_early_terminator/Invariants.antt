use Rattle.ir_names.specs.declared.interfaces.OpInterface.TheVariants.{IsTerminator}
use Rattle.ir_program.specs.Lists.{operations_in}
use Rattle.ir_core.specs.verification.Endings.{implements}
use Rattle.ir_core.proofs.VerificationLemmas.Early.{IsLooked}
use Rattle.ir_core.proofs.verification.blocks.has_early_terminator.Given as goal

abbrev pub invariant-loop-op : goal.invariant-loop-op
invariant-loop-op g l = IsLooked (implements g.D.DialectTables.op_has l.ctx.program IsTerminator) (operations_in l.ctx.program l.fn.block) l.found l.op-iterator
