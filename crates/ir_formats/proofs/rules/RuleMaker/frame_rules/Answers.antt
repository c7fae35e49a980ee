use Rattle.std.proofs.lemmas.Result.{on_ok_weaker}
use Rattle.ir_formats.proofs.Makes.{frame_added}
use Rattle.ir_formats.proofs.rules.RuleMaker.frame_rules.Goals as goal

pub returns : goal.returns
returns c = on_ok_weaker c.argument_rules.result (frame_added _ _ _ _ _ c.in_ok-operation_rules.ensures c.in_ok-region_rules.ensures c.in_ok-block_rules.ensures)
    c.argument_rules.ensures
