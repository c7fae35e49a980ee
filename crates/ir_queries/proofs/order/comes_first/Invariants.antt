use Rattle.ir_queries.proofs.FirstOf.{IsPast}
use Rattle.ir_program.specs.Lists.{operations_in}
use Rattle.ir_queries.proofs.order.comes_first.Given as goal

abbrev pub invariant-loop-op : goal.invariant-loop-op
invariant-loop-op g l = IsPast (operations_in l.program l.fn.block) l.a l.b l.yielded l.op-iterator
