use Rattle.std.proofs.Common.{Some, ap, sym, ◌∙◌, arith}
use Rattle.ir_program.specs.Program.{results_at}
use Rattle.opt_decide.proofs.Found.{equal_then, found_first, found_nowhere}
use Rattle.opt_decide.proofs.alone.result_index.Goals as goal

pub returns-then-eq : goal.returns-then-eq
returns-then-eq g c = sym (found_first (results_at c.args.program.now c.args.op) Some c.args.value c.loop-i.i (c.result.ensures.value ∙ ap Some (equal_then c.result.result c.args.value c.eq.result c.eq.ensures c.if-eq.true)) c.loop-i.invariant)

pub returns : goal.returns
returns g c = sym (found_nowhere (results_at c.args.program.now c.args.op) Some c.args.value (λ k less. c.loop-i.invariant k (omega arith)))
