use Rattle.std.proofs.Common.{◌≡◌, ◌∙◌, ◌∷◌, ◌++◌, List, ℕ, ap, sym, subst}
use Rattle.std.specs.Prelude.{codes}
use Rattle.ir_outlines.specs.Marks.{marked}
use Rattle.ir_outlines.specs.Section.{once_of, section_of}
use Rattle.text_writers.specs.declared.state.State.{State}
use Rattle.text_sections.specs.Items.{attributes_in, said_items, sharing}
use Rattle.text_sections.specs.Lines.{item_lines, once_lines}
use Rattle.text_sections.specs.Texts.{AddsTokens, Token, prints_nothing, section_tokens, sign}
use Rattle.text_sections.proofs.LineLemmas.{section_lines}
use Rattle.text_sections.proofs.TextLemmas.{adds_both, attributes_alone, sign_added}
use Rattle.text_sections.proofs.printing.print_section.Goals as goal

pub returns-clause-text : goal.returns-clause-text
returns-clause-text g c =
    let pa : g.row.A.Denot → List ℕ → Type 0 = λ a. g.A.Printable.prints a c.args.context.now c.args.state.now in
    let pl : g.row.L.Denot → List ℕ → Type 0 = λ l. g.L.Printable.prints l c.args.context.now c.args.state.now in
    let written = g.W.TextWriter.written in
    let d = sharing g.A.PrintOnce.is_once g.A.PartialEq.eq in
    let bs = said_items c.args.section.now.items.now in
    let base = c.args.section.now.marked in
    let once = attributes_in c.args.section.now.once.keys in
    let old = written c.args.out.now in
    let a = written c.write_text.new.self in
    let b = written c.print_items.new.out in
    let new = written c.print_once.new.out in
    let lines = item_lines {L = g.row.L.Denot} d base once 0 bs in
    let last = once_lines {L = g.row.L.Denot} base once in
    let said : AddsTokens {A = g.row.A.Denot} {L = g.row.L.Denot} pa prints_nothing b last new =
    subst (λ (s : State). AddsTokens {A = g.row.A.Denot} {L = g.row.L.Denot} (λ x. g.A.Printable.prints x c.args.context.now s) prints_nothing b last new) c.in_ok-print_items.ensures.state c.in_ok-print_once.ensures.text in
    let whole : section_tokens (section_of d bs) ≡ sign (codes "\noutlined_attributes:\n") ∷ (lines ++ last) =
    section_lines d bs (λ none. c.if-section-eq0.false (c.requires.made.marked ∙ none))
    ∙ ap (λ m. sign (codes "\noutlined_attributes:\n") ∷ (item_lines d m (once_of d (marked bs)) 0 bs ++ once_lines m (once_of d (marked bs)))) (sym c.requires.made.marked)
    ∙ ap (λ o. sign (codes "\noutlined_attributes:\n") ∷ (item_lines d base o 0 bs ++ once_lines base o)) (sym c.requires.made.once) in
    subst (λ (ts : List (Token g.row.A.Denot g.row.L.Denot)). AddsTokens pa pl old ts new) (sym whole)
    (sign_added pa pl (codes "\noutlined_attributes:\n") old a new (lines ++ last) c.in_ok-write_text.ensures
    (adds_both pa pl a b new lines last c.in_ok-print_items.ensures.text (attributes_alone pa pl b new last said)))
