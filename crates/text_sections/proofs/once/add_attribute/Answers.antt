use Rattle.std.proofs.Common.{◌∙◌, ◌∷◌, [], ap, cond, sym}
use Rattle.ir_outlines.specs.Section.{with_distinct}
use Rattle.text_sections.specs.Items.{attributes_in, sharing}
use Rattle.text_sections.proofs.ItemLemmas.{key_added}
use Rattle.text_sections.proofs.once.add_attribute.Goals as goal

pub returns-in_ok-insert : goal.returns-in_ok-insert
returns-in_ok-insert g c =
    let d = sharing g.A.PrintOnce.is_once g.A.PartialEq.eq in
    ap attributes_in c.in_ok-insert.ensures.keys
    ∙ key_added d c.args.once.now.keys c.args.attribute
    ∙ ap (λ b. with_distinct d (attributes_in c.args.once.now.keys) (cond b (c.args.attribute.now ∷ []) []))
    (sym (ap (λ t. g.A.PrintOnce.is_once t c.args.attribute.now) (sym c.as_str.ensures.text) ∙ sym c.is_once.ensures ∙ c.if-is_once.true))
