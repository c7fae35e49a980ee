use Rattle.std.proofs.Common.{◌∙◌, ◌+◌, ◌∷◌, [], List, ℕ, sym, subst, drop, arith, refl, length}
use Rattle.std.proofs.lemmas.List.{drop_all}
use Rattle.ir_outlines.specs.Marks.{Beside, marked}
use Rattle.outline_tables.specs.Tables.{said_beside}
use Rattle.outline_tables.specs.declared.entries.Outlined.{Outlined}
use Rattle.text_writers.specs.declared.state.State.{State}
use Rattle.text_sections.specs.Items.{attributes_in, said_items, sharing}
use Rattle.text_sections.specs.Lines.{item_lines}
use Rattle.text_sections.specs.Texts.{AddsTokens, Token}
use Rattle.text_sections.proofs.ItemLemmas.{marked-next}
use Rattle.text_sections.proofs.LineLemmas.{lines-next, marked_one}
use Rattle.text_sections.proofs.TextLemmas.{adds_both}
use Rattle.text_sections.proofs.printing.print_items.Goals as goal

pub loop-item-preserved : goal.loop-item-preserved
loop-item-preserved g c =
    let pa : g.row.A.Denot → List ℕ → Type 0 = λ a. g.A.Printable.prints a c.args.context.now c.args.state.now in
    let pl : g.row.L.Denot → List ℕ → Type 0 = λ l. g.L.Printable.prints l c.args.context.now c.args.state.now in
    let written = g.W.TextWriter.written in
    let d = sharing g.A.PrintOnce.is_once g.A.PartialEq.eq in
    let base = c.args.section.now.marked in
    let once = attributes_in c.args.section.now.once.keys in
    let items = c.args.section.now.items.now in
    let i = c.loop-item.item-index in
    let n = c.loop-item.index in
    let b = said_beside c.item-item.result in
    let bs = said_items (drop (i + 1) items) in
    let old = written c.loop-item.out in
    let mid = written c.print_item_line.new.out in
    let line : AddsTokens pa pl old (item_lines d base once n (b ∷ [])) mid =
    subst (λ (s : State). AddsTokens (λ a. g.A.Printable.prints a c.args.context.now s) (λ l. g.L.Printable.prints l c.args.context.now s) old (item_lines d base once n (b ∷ [])) mid)
    c.loop-item.invariant.0 c.in_ok-index.ensures.text in (
      c.in_ok-index.ensures.state ∙ c.loop-item.invariant.0,
      omega (arith, c.in_ok-index.ensures.next, marked_one b, c.loop-item.invariant.1),
      λ new h. c.loop-item.invariant.2 new
          (subst (λ (cs : List (Beside g.row.A.Denot g.row.L.Denot)). AddsTokens pa pl old (item_lines d base once n cs) new)
          (sym (marked-next items i c.item-item.result c.loop-item-test.true c.item-item.is))
          (subst (λ (ts : List (Token g.row.A.Denot g.row.L.Denot)). AddsTokens pa pl old ts new) (sym (lines-next d base once b bs n))
          (adds_both pa pl old mid new (item_lines d base once n (b ∷ [])) (item_lines d base once (n + length (marked (b ∷ []))) bs) line
          (subst (λ m. AddsTokens pa pl mid (item_lines d base once m bs) new) c.in_ok-index.ensures.next h)))),
    )

pub returns-clause-text : goal.returns-clause-text
returns-clause-text g c =
    let pa : g.row.A.Denot → List ℕ → Type 0 = λ a. g.A.Printable.prints a c.args.context.now c.args.state.now in
    let pl : g.row.L.Denot → List ℕ → Type 0 = λ l. g.L.Printable.prints l c.args.context.now c.args.state.now in
    let out = g.W.TextWriter.written c.loop-item.out in
    c.loop-item.invariant.2 out
    (subst (λ (xs : List (Outlined g.row.A.Denot g.row.L.Denot)). AddsTokens pa pl out (item_lines (sharing g.A.PrintOnce.is_once g.A.PartialEq.eq) c.args.section.now.marked (attributes_in c.args.section.now.once.keys) c.loop-item.index (said_items xs)) out)
    (sym (drop_all c.loop-item.item-index c.args.section.now.items.now c.loop-item-test.false)) refl)
