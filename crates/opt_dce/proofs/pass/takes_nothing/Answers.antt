use Rattle.std.proofs.Common.{sym, ap, ◌∙◌}
use Rattle.std.proofs.lemmas.Bool.{eqb-true, eq-eqb}
use Rattle.std.specs.List.{list_any}
use Rattle.opt_dce.proofs.Outcomes.{idle_then, idle_else}
use Rattle.opt_dce.proofs.pass.takes_nothing.Goals as goal

pub returns-then-is_empty : goal.returns-then-is_empty
returns-then-is_empty c =
    let plan = c.args.plan.now in
    idle_then plan (sym plan.operations.ok.0 ∙ eqb-true _ _ (sym c.is_empty.ensures ∙ c.if-is_empty.true)) c.has_marks.result (c.has_marks.ensures ∙ ap (list_any _) c.deref.ensures.value)

pub returns-else-is_empty : goal.returns-else-is_empty
returns-else-is_empty c =
    let plan = c.args.plan.now in
    idle_else plan c.is_empty.result c.if-is_empty.false (λ e. c.is_empty.ensures ∙ eq-eqb _ _ (plan.operations.ok.0 ∙ e))
