use Rattle.ir_program.specs.Program.{results_at}
use Rattle.opt_inside.specs.Numbered.{values_in}
use Rattle.opt_inside.proofs.Added.{next_added, value_at}
use Rattle.opt_inside.proofs.numbering.add_results.Goals as goal

pub loop-index-preserved : goal.loop-index-preserved
loop-index-preserved g c =
    next_added c.args.values.now.items c.loop-index.values.items c.push.new.self.items (values_in (results_at c.args.program.now c.args.op)) c.loop-index.index c.result.result c.loop-index.invariant
    (value_at (results_at c.args.program.now c.args.op) c.loop-index.index c.result.result c.result.ensures.value) c.in_ok-push.ensures.items
