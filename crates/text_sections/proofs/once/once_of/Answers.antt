use Rattle.std.proofs.Common.{◌∙◌, ◌+◌, ap, drop}
use Rattle.ir_outlines.specs.Section.{with_distinct}
use Rattle.text_sections.specs.Items.{attributes_in, once_among, said_items, sharing}
use Rattle.text_sections.proofs.ItemLemmas.{items-next}
use Rattle.text_sections.proofs.once.once_of.Goals as goal

pub loop-item-preserved : goal.loop-item-preserved
loop-item-preserved g c =
    let d = sharing g.A.PrintOnce.is_once g.A.PartialEq.eq in
    let items = c.args.items.now in
    let i = c.loop-item.item-index in
    ap (λ seen. with_distinct d seen (once_among d (said_items (drop (i + 1) items)))) c.in_ok-add_item.ensures
    ∙ items-next d items i c.item-item.result (attributes_in c.loop-item.once.keys) c.loop-item-test.true c.item-item.is
    ∙ c.loop-item.invariant
