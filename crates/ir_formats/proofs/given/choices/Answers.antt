use Rattle.ir_formats.specs.Given.{rule_at}
use Rattle.ir_formats.proofs.Makes.{marks_more}
use Rattle.ir_formats.proofs.given.choices.Goals as goal

pub loop-column-preserved : goal.loop-column-preserved
loop-column-preserved c = marks_more (rule_at c.args.part.now.choices.now) c.loop-column.column _ _ _ c.loop-column.invariant c.rule_at.ensures c.in_ok-push.ensures.items
