use Rattle.ir_program.specs.Program.{arguments_at}
use Rattle.opt_inside.specs.Numbered.{values_in}
use Rattle.opt_inside.proofs.Added.{next_added, value_at}
use Rattle.opt_inside.proofs.numbering.add_arguments.Goals as goal

pub loop-index-preserved : goal.loop-index-preserved
loop-index-preserved g c =
    next_added c.args.values.now.items c.loop-index.values.items c.push.new.self.items (values_in (arguments_at c.args.program.now c.args.block)) c.loop-index.index c.argument.result c.loop-index.invariant
    (value_at (arguments_at c.args.program.now c.args.block) c.loop-index.index c.argument.result c.argument.ensures.value) c.in_ok-push.ensures.items
