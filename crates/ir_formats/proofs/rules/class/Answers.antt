use Rattle.ir_formats.specs.Rules.{texts, takes}
use Rattle.ir_formats.proofs.Makes.{marks_more}
use Rattle.ir_formats.proofs.rules.class.Goals as goal

pub loop-kind-preserved : goal.loop-kind-preserved
loop-kind-preserved c = marks_more (takes (texts c.args.words.now) c.args.sign) c.loop-kind.kind _ _ _ c.loop-kind.invariant c.is_taken.ensures c.in_ok-push.ensures.items
