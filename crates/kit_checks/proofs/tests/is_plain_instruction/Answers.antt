use Rattle.std.proofs.Common.{◌∙◌, ap, sym, true≢false}
use Rattle.std.proofs.lemmas.Bool.{false≢true}
use Rattle.kit_checks.specs.Words.{is_instruction}
use Rattle.kit_checks.proofs.tests.is_plain_instruction.Goals as goal

pub returns-then-not-is_instruction : goal.returns-then-not-is_instruction
returns-then-not-is_instruction c u s = (
  λ h. absurd (false≢true h),
  λ t. absurd (true≢false (sym t.0 ∙ ap is_instruction (c.kind_of.ensures u s) ∙ sym c.is_instruction.ensures ∙ c.if-not-is_instruction.true)),
)

pub returns : goal.returns
returns c u s = (
  λ h. (ap is_instruction (c.kind_of.ensures u s) ∙ sym c.is_instruction.ensures ∙ c.if-not-is_instruction.false, (c.has_regions.ensures u s).0 h),
  λ t. (c.has_regions.ensures u s).1 t.1,
)
