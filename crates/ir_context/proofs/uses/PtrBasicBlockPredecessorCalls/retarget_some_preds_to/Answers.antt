use Rattle.std.proofs.Common.{sym, ◌∙◌}
use Rattle.ir_context.proofs.uses.PtrBasicBlockPredecessorCalls.retarget_some_preds_to.Goals as goal

pub invariant_of-ctx : goal.invariant_of-ctx
invariant_of-ctx g c = λ v ty at. c.ctx.invariant v ty (sym (c.retarget_uses.ensures.values.types v) ∙ at)
