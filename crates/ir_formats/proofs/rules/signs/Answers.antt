use Rattle.ir_formats.specs.Rules.{texts, class_of}
use Rattle.ir_formats.proofs.Makes.{classes_more}
use Rattle.ir_formats.proofs.rules.signs.Goals as goal

pub loop-sign-preserved : goal.loop-sign-preserved
loop-sign-preserved c = classes_more (class_of (texts c.args.words.now)) c.loop-sign.sign _ _ _ c.loop-sign.invariant c.in_ok-class.ensures c.in_ok-push.ensures.items
