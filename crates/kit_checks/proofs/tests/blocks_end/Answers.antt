use Rattle.std.proofs.Common.{◌∙◌, sym, true≢false}
use Rattle.std.proofs.lemmas.Bool.{false≢true}
use Rattle.kit_checks.proofs.tests.blocks_end.Goals as goal

pub returns-then-not-ends_well : goal.returns-then-not-ends_well
returns-then-not-ends_well c s at = (
  λ h. absurd (false≢true h),
  λ keeps. absurd (true≢false (sym ((c.ends_well.ensures s at).1 keeps.last) ∙ c.if-not-ends_well.true)),
)

pub returns : goal.returns
returns c s at = (
  λ h. record { last = (c.ends_well.ensures s at).0 c.if-not-ends_well.false; none_empty = (c.has_filled_blocks.ensures s.op at.tree).0 h },
  λ keeps. (c.has_filled_blocks.ensures s.op at.tree).1 keeps.none_empty,
)
