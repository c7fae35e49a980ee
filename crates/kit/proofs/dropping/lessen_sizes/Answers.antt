use Rattle.std.proofs.Common.{sym, ap, ◌∙◌}
use Rattle.opt_dialect.specs.Masks.{marked}
use Rattle.kit_ops.specs.declared.attributes.KitAttr.TheVariants.{SegmentSizes}
use Rattle.kit.specs.Meaning.{without_operands}
use Rattle.kit.proofs.dropping.lessen_sizes.Goals as goal

pub returns-in-SegmentSizes : goal.returns-in-SegmentSizes
returns-in-SegmentSizes c =
    ap SegmentSizes c.lessen.ensures ∙ sym (ap (without_operands (marked c.args.marks.now)) c.in-SegmentSizes.is)
