use Rattle.std.proofs.Common.{◌∙◌, refl, sym, true≢false}
use Rattle.kit_checks.proofs.tests.has_filled_blocks.Goals as goal

pub returns-then-not-is_function : goal.returns-then-not-is_function
returns-then-not-is_function c u s = (
  λ h kind. absurd (true≢false (sym (c.is_function.ensures.1 (sym (c.kind_of.ensures u s) ∙ kind)) ∙ c.if-not-is_function.true)),
  λ h. refl,
)

pub returns : goal.returns
returns c u s = (
  λ h kind. (c.blocks_pass.ensures u s).0 h,
  λ h. (c.blocks_pass.ensures u s).1 (h (c.kind_of.ensures u s ∙ c.is_function.ensures.0 c.if-not-is_function.false)),
)
