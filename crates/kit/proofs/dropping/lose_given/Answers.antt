use Rattle.std.proofs.Common.{sym, ap, ◌∙◌}
use Rattle.opt_dialect.specs.Masks.{marked}
use Rattle.kit_ops.specs.declared.attributes.KitAttr.TheVariants.{GivenNames}
use Rattle.kit.specs.Meaning.{without_names}
use Rattle.kit.proofs.dropping.lose_given.Goals as goal

pub returns-in-GivenNames : goal.returns-in-GivenNames
returns-in-GivenNames c =
    ap GivenNames c.lose.ensures ∙ sym (ap (without_names (marked c.args.marks.now)) c.in-GivenNames.is)
