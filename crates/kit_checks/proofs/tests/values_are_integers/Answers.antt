use Rattle.std.proofs.Common.{◌∙◌, sym, true≢false}
use Rattle.std.proofs.lemmas.Bool.{false≢true}
use Rattle.kit_checks.proofs.tests.values_are_integers.Goals as goal

pub returns-then-not-results_pass : goal.returns-then-not-results_pass
returns-then-not-results_pass c s at = (
  λ h. absurd (false≢true h),
  λ keeps. absurd (true≢false (sym ((c.results_pass.ensures s.op at.tree).1 keeps.results) ∙ c.if-not-results_pass.true)),
)

pub returns : goal.returns
returns c s at = (
  λ h. record { results = (c.results_pass.ensures s.op at.tree).0 c.if-not-results_pass.false; arguments = (c.blocks_pass.ensures s.op at.tree).0 h },
  λ keeps. (c.blocks_pass.ensures s.op at.tree).1 keeps.arguments,
)
