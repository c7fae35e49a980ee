use Rattle.std.proofs.Common.{◌≡◌, ◌<◌, ◌∙◌, true≢false, length, below_more, arith, sym, subst}
use Rattle.std.proofs.lemmas.Option.{same_Some}
use Rattle.ir_program.specs.Program.{results_at}
use Rattle.ir_program.specs.Uses.{IsUsed}
use Rattle.ir_queries.proofs.ResultUses.{value_within}
use Rattle.ir_queries.proofs.uses.has_used_result.Goals as goal

pub loop-i-preserved : goal.loop-i-preserved
loop-i-preserved g c = below_more _ _ c.loop-i.invariant (λ v at used. let is : v ≡ c.result.result = same_Some v c.result.result (sym at ∙ c.result.ensures.value) in
    true≢false (sym (c.is_used.ensures.1 (subst (IsUsed c.args.program.now) is used)) ∙ c.if-is_used.false))

pub returns : goal.returns
returns g c = (
  λ h. absurd (true≢false (sym h)),
  λ h. let within : h.1.0 < length (results_at c.args.program.now c.args.op) = value_within (results_at c.args.program.now c.args.op) h.1.0 h.0 h.1.1 in
      absurd (c.loop-i.invariant h.1.0 (omega arith) h.0 h.1.1 h.2),
)
