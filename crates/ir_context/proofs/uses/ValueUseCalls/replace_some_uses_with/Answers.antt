use Rattle.std.proofs.Common.{sym, ◌∙◌}
use Rattle.ir_context.proofs.uses.ValueUseCalls.replace_some_uses_with.Goals as goal

pub invariant_of-ctx : goal.invariant_of-ctx
invariant_of-ctx g c = λ v ty at. c.ctx.invariant v ty (sym (c.replace_uses.ensures.values.types v) ∙ at)
