use Rattle.std.proofs.Common.{◌∷◌, [], ◌++◌, List, ℕ, Bor, subst, true}
use Rattle.ir_names.specs.declared.identifier.Identifier.{Identifier}
use Rattle.std.specs.Prelude.{codes, option_copied}
use Rattle.outline_tables.specs.Tables.{found_under}
use Rattle.text_writers.specs.declared.state.State.{State}
use Rattle.text_sections.specs.Items.{attributes_in, members_beside, sharing}
use Rattle.text_sections.specs.Texts.{AddsTokens, location_tokens, members_from, prints_nothing, sign}
use Rattle.text_sections.proofs.TextLemmas.{adds_both, attributes_alone, locations_alone, sign_added, sign_ends}
use Rattle.text_sections.proofs.entries.print_item.Goals as goal

pub returns-clause-text : goal.returns-clause-text
returns-clause-text g c =
    let pa : g.row.A.Denot → List ℕ → Type 0 = λ a. g.A.Printable.prints a c.args.context.now c.args.state.now in
    let pl : g.row.L.Denot → List ℕ → Type 0 = λ l. g.L.Printable.prints l c.args.context.now c.args.state.now in
    let written = g.W.TextWriter.written in
    let old = written c.args.out.now in
    let a = written c.print_location.new.out in
    let b = written c.write_text.new.self in
    let e = written c.print_members.new.out in
    let new = written c.write_text-2.new.self in
    let members = members_from {L = g.row.L.Denot} true (members_beside (sharing g.A.PrintOnce.is_once g.A.PartialEq.eq) c.args.section.now.marked (attributes_in c.args.section.now.once.keys) (found_under c.args.item.now.attributes.items)) in
    let given = λ (items : List (Bor Identifier × Bor g.row.A.Denot)). members_from {L = g.row.L.Denot} true (members_beside (sharing g.A.PrintOnce.is_once g.A.PartialEq.eq) c.args.section.now.marked (attributes_in c.args.section.now.once.keys) (found_under items)) in
    let said : AddsTokens {A = g.row.A.Denot} {L = g.row.L.Denot} pa prints_nothing b members e =
    subst (λ (s : State). AddsTokens {A = g.row.A.Denot} {L = g.row.L.Denot} (λ x. g.A.Printable.prints x c.args.context.now s) prints_nothing b members e) c.in_ok-print_location.ensures.state
    (subst (λ (items : List (Bor Identifier × Bor g.row.A.Denot)). AddsTokens {A = g.row.A.Denot} {L = g.row.L.Denot} (λ x. g.A.Printable.prints x c.args.context.now c.print_location.new.state) prints_nothing b (given items) e) c.as_slice.ensures.value c.in_ok-print_members.ensures.text) in
    adds_both pa pl old a new (location_tokens (option_copied c.args.item.now.location)) (sign (codes "[") ∷ (members ++ sign (codes "]") ∷ []))
    (locations_alone pa pl old a (location_tokens (option_copied c.args.item.now.location)) c.in_ok-print_location.ensures.text)
    (sign_added pa pl (codes "[") a b new (members ++ sign (codes "]") ∷ []) c.in_ok-write_text.ensures
    (adds_both pa pl b e new members (sign (codes "]") ∷ []) (attributes_alone pa pl b e members said) (sign_ends pa pl (codes "]") e new c.in_ok-write_text-2.ensures)))
