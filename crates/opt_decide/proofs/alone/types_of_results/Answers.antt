use Rattle.std.proofs.Common.{arith}
use Rattle.ir_program.specs.Program.{TypedValue, results_at}
use Rattle.opt_decide.proofs.Filled.{typed_next, mapped_all}
use Rattle.opt_decide.proofs.alone.types_of_results.Goals as goal

pub loop-i-preserved : goal.loop-i-preserved
loop-i-preserved g c =
    typed_next (results_at c.args.program.now c.args.op) c.loop-i.types.items c.push.new.self.items c.loop-i.i c.result_type.result c.result_type.ensures c.in_ok-push.ensures.items c.loop-i.invariant

pub returns : goal.returns
returns g c = mapped_all (λ (t : TypedValue). t.ty) (results_at c.args.program.now c.args.op) c.loop-i.types.items c.loop-i.i (omega arith) c.loop-i.invariant
