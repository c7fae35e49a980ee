use Rattle.std.proofs.Common.{◌∙◌, ◌+◌, ◌∷◌, List, ℕ, Bor, ap, sym, subst, refl, drop}
use Rattle.std.proofs.lemmas.List.{drop_all, drop_more}
use Rattle.ir_names.specs.declared.identifier.Identifier.{Identifier}
use Rattle.ir_names.specs.Identifier.{text_of}
use Rattle.ir_outlines.specs.Section.{reference}
use Rattle.outline_tables.specs.Tables.{found_under}
use Rattle.text_writers.specs.declared.state.State.{State}
use Rattle.text_sections.specs.Items.{attributes_in, members_beside, sharing}
use Rattle.text_sections.specs.Texts.{AddsTokens, member_tokens, members_from, prints_nothing}
use Rattle.text_sections.proofs.TextLemmas.{member_added}
use Rattle.text_sections.proofs.entries.print_members.Goals as goal

pub loop-member-preserved : goal.loop-member-preserved
loop-member-preserved g c =
    let pa : g.row.A.Denot → List ℕ → Type 0 = λ a. g.A.Printable.prints a c.args.context.now c.args.state.now in
    let written = g.W.TextWriter.written in
    let d = sharing g.A.PrintOnce.is_once g.A.PartialEq.eq in
    let refer = reference d c.args.section.now.marked (attributes_in c.args.section.now.once.keys) in
    let xs = c.args.attributes.now in
    let i = c.loop-member.member-index in
    let x = c.member-item.result in
    let m = refer (text_of x.0.now, x.1.now) in
    let inner : AddsTokens {A = g.row.A.Denot} {L = g.row.L.Denot} pa prints_nothing (written c.print_separator.new.out) (member_tokens m) (written c.print_member.new.out) =
    subst (λ (s : State). AddsTokens {A = g.row.A.Denot} {L = g.row.L.Denot} (λ a. g.A.Printable.prints a c.args.context.now s) prints_nothing (written c.print_separator.new.out) (member_tokens m) (written c.print_member.new.out))
    c.loop-member.invariant.0 c.in_ok-print_member.ensures.text in (
      c.in_ok-print_member.ensures.state ∙ c.loop-member.invariant.0,
      λ new h. c.loop-member.invariant.1 new
          (subst (λ (ms : List (Bor Identifier × Bor g.row.A.Denot)). AddsTokens {A = g.row.A.Denot} {L = g.row.L.Denot} pa prints_nothing (written c.loop-member.out) (members_from c.loop-member.is_first (members_beside d c.args.section.now.marked (attributes_in c.args.section.now.once.keys) (found_under ms))) new)
          (sym (drop_more xs i x c.loop-member-test.true ∙ ap (λ y. y ∷ drop (i + 1) xs) (sym c.member-item.is)))
          (member_added pa prints_nothing c.loop-member.is_first m (members_beside d c.args.section.now.marked (attributes_in c.args.section.now.once.keys) (found_under (drop (i + 1) xs))) (written c.loop-member.out) (written c.print_separator.new.out) (written c.print_member.new.out) new
          c.in_ok-print_separator.ensures inner h)),
    )

pub returns-clause-text : goal.returns-clause-text
returns-clause-text g c =
    let pa : g.row.A.Denot → List ℕ → Type 0 = λ a. g.A.Printable.prints a c.args.context.now c.args.state.now in
    let written = g.W.TextWriter.written in
    let d = sharing g.A.PrintOnce.is_once g.A.PartialEq.eq in
    let xs = c.args.attributes.now in
    c.loop-member.invariant.1 (written c.loop-member.out)
    (subst (λ (ms : List (Bor Identifier × Bor g.row.A.Denot)). AddsTokens {A = g.row.A.Denot} {L = g.row.L.Denot} pa prints_nothing (written c.loop-member.out) (members_from c.loop-member.is_first (members_beside d c.args.section.now.marked (attributes_in c.args.section.now.once.keys) (found_under ms))) (written c.loop-member.out))
    (sym (drop_all c.loop-member.member-index xs c.loop-member-test.false)) refl)
