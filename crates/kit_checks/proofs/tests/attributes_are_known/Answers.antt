use Rattle.std.proofs.Common.{◌∙◌, sym, true≢false}
use Rattle.std.proofs.lemmas.Bool.{false≢true}
use Rattle.kit_checks.proofs.tests.attributes_are_known.Goals as goal

pub returns-then-is_forward_ref : goal.returns-then-is_forward_ref
returns-then-is_forward_ref c s at = (
  λ h. absurd (false≢true h),
  λ keeps. absurd (keeps.no_forward_ref (c.kind_of.ensures s.op at.tree ∙ c.is_forward_ref.ensures.0 c.if-is_forward_ref.true)),
)

pub returns-then-not-has_known_attributes : goal.returns-then-not-has_known_attributes
returns-then-not-has_known_attributes c s at = (
  λ h. absurd (false≢true h),
  λ keeps. absurd (true≢false (sym ((c.has_known_attributes.ensures s.op at.tree).1 keeps.own) ∙ c.if-not-has_known_attributes.true)),
)

pub returns : goal.returns
returns c s at = (
  λ h. record {
    no_forward_ref = λ is. true≢false (sym (c.is_forward_ref.ensures.1 (sym (c.kind_of.ensures s.op at.tree) ∙ is)) ∙ c.if-is_forward_ref.false);
    own = (c.has_known_attributes.ensures s.op at.tree).0 c.if-not-has_known_attributes.false;
    blocks = (c.blocks_pass.ensures s.op at.tree).0 h;
  },
  λ keeps. (c.blocks_pass.ensures s.op at.tree).1 keeps.blocks,
)
