use Rattle.ir_formats.specs.Given.{is_in}
use Rattle.ir_formats.proofs.Makes.{marks_more}
use Rattle.ir_formats.proofs.given.follows.Goals as goal

pub loop-column-preserved : goal.loop-column-preserved
loop-column-preserved c = marks_more (is_in c.args.part.now.follows.now) c.loop-column.column _ _ _ c.loop-column.invariant c.is_in.ensures c.in_ok-push.ensures.items
