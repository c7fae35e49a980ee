use Rattle.std.proofs.Common.{◌∙◌, sym, true≢false}
use Rattle.kit_checks.specs.World.{world_of}
use Rattle.kit_verifier.proofs.Verdicts.{names_decide}
use Rattle.kit_verifier.proofs.verify.keeps_all_rules.Goals as goal

pub returns-then-not-keeps_local : goal.returns-then-not-keeps_local
returns-then-not-keeps_local c = (
  λ holds. absurd (true≢false (sym holds)),
  λ kept. absurd (true≢false
      (sym (c.in_ok-keeps_local.ensures.1 (λ r tested. kept r)) ∙ c.if-not-keeps_local.true)),
)

pub returns : goal.returns
returns c =
    names_decide (world_of c.args.ctx.now) c.args.ctx.now.program c.args.root
    (c.in_ok-keeps_local.ensures.0 c.if-not-keeps_local.false) c.keeps_names.result c.keeps_names.ensures
