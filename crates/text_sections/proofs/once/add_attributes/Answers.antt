use Rattle.std.proofs.Common.{◌∙◌, ◌+◌, ap, drop}
use Rattle.ir_outlines.specs.Section.{once_in, with_distinct}
use Rattle.outline_tables.specs.Tables.{found_under}
use Rattle.text_sections.specs.Items.{attributes_in, sharing}
use Rattle.text_sections.proofs.ItemLemmas.{attributes-next}
use Rattle.text_sections.proofs.once.add_attributes.Goals as goal

pub loop-attribute-preserved : goal.loop-attribute-preserved
loop-attribute-preserved g c =
    let d = sharing g.A.PrintOnce.is_once g.A.PartialEq.eq in
    let attributes = c.args.attributes.now in
    let i = c.loop-attribute.attribute-index in
    ap (λ seen. with_distinct d seen (once_in d (found_under (drop (i + 1) attributes)))) c.in_ok-add_attribute.ensures
    ∙ attributes-next d attributes i c.attribute-item.result (attributes_in c.loop-attribute.once.keys) c.loop-attribute-test.true c.attribute-item.is
    ∙ c.loop-attribute.invariant
