use Rattle.std.proofs.Common.{◌∙◌, sym, Bor}
use Rattle.text_sections.specs.Items.{sharing}
use Rattle.text_sections.proofs.ItemLemmas.{found_at, index_is, not_found}
use Rattle.text_sections.proofs.entries.once_index.Goals as goal

pub returns-in-Some : goal.returns-in-Some
returns-in-Some g c = sym (index_is (sharing g.A.PrintOnce.is_once g.A.PartialEq.eq) c.args.attribute.now c.args.section.now.once.keys
    ∙ found_at (λ (k : Bor g.row.A.Denot). g.A.PartialEq.eq c.args.attribute.now k.now) c.args.section.now.once.keys c.in-Some.index (sym c.get_index_of.ensures.index ∙ c.in-Some.is))

pub returns-in-None : goal.returns-in-None
returns-in-None g c = c.len.ensures.len ∙ sym (index_is (sharing g.A.PrintOnce.is_once g.A.PartialEq.eq) c.args.attribute.now c.args.section.now.once.keys
    ∙ not_found (λ (k : Bor g.row.A.Denot). g.A.PartialEq.eq c.args.attribute.now k.now) c.args.section.now.once.keys (sym c.get_index_of.ensures.index ∙ c.in-None.is))
