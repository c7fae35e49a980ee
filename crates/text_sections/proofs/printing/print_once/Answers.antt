use Rattle.std.proofs.Common.{◌∙◌, ◌+◌, List, ℕ, Bor, ap, sym, subst, drop, arith}
use Rattle.std.specs.Prelude.{option_copied}
use Rattle.ir_outlines.specs.Section.{single}
use Rattle.text_writers.specs.declared.state.State.{State}
use Rattle.text_sections.specs.Items.{attributes_in}
use Rattle.text_sections.specs.Lines.{once_lines, AddsLine}
use Rattle.text_sections.specs.Texts.{AddsTokens, line_tokens, prints_nothing}
use Rattle.text_sections.proofs.LineLemmas.{drop_there, line_added}
use Rattle.text_sections.proofs.TextLemmas.{adds_both}
use Rattle.text_sections.proofs.printing.print_once.Goals as goal

pub loop-place-preserved : goal.loop-place-preserved
loop-place-preserved g c =
    let pa : g.row.A.Denot → List ℕ → Type 0 = λ a. g.A.Printable.prints a c.args.context.now c.args.state.now in
    let pl : g.row.L.Denot → List ℕ → Type 0 = prints_nothing in
    let written = g.W.TextWriter.written in
    let keys = c.args.section.now.once.keys in
    let i = c.loop-place.place in
    let n = c.args.section.now.marked + i in
    let a = c.in-Some.attribute.now in
    let old = written c.loop-place.out in
    let mid = written c.print_once_line.new.out in
    let line : AddsLine (pa a.now) n old mid =
    subst (λ (s : State). AddsLine (g.A.Printable.prints a.now c.args.context.now s) n old mid) c.loop-place.invariant.0 c.in_ok-print_once_line.ensures.text in (
      c.in_ok-print_once_line.ensures.state ∙ c.loop-place.invariant.0,
      λ new h. c.loop-place.invariant.1 new
          (subst (λ (ks : List (Bor g.row.A.Denot)). AddsTokens {A = g.row.A.Denot} {L = g.row.L.Denot} pa prints_nothing old (once_lines n (attributes_in ks)) new)
          (sym (drop_there keys i a (sym c.get_index.ensures.key ∙ ap option_copied c.in-Some.is)))
          (adds_both pa pl old mid new (line_tokens (n, single a.now)) (once_lines (n + 1) (attributes_in (drop (i + 1) keys)))
          (line_added pa pl a.now n old mid line)
          (subst (λ m. AddsTokens {A = g.row.A.Denot} {L = g.row.L.Denot} pa prints_nothing mid (once_lines m (attributes_in (drop (i + 1) keys))) new) (omega arith) h))),
    )
