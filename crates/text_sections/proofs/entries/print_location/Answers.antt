use Rattle.std.proofs.Common.{sym, subst, Option, Bor, List, ◌∷◌, [], ℕ}
use Rattle.std.specs.Prelude.{codes, option_copied}
use Rattle.text_sections.specs.Texts.{AddsTokens, location, location_tokens, prints_nothing, sign}
use Rattle.text_sections.proofs.TextLemmas.{sign_added, sign_ends}
use Rattle.text_sections.proofs.entries.print_location.Goals as goal

pub returns-clause-text : goal.returns-clause-text
returns-clause-text g c =
    let written = g.W.TextWriter.written in
    let pl : g.row.L.Denot → List ℕ → Type 0 = λ l. g.L.Printable.prints l c.args.context.now c.args.state.now in
    let pa : g.row.A.Denot → List ℕ → Type 0 = prints_nothing in
    let tail : AddsTokens {A = g.row.A.Denot} {L = g.row.L.Denot} pa pl (written c.write_text.new.self) (location c.in-Some.location.now ∷ sign (codes "], ") ∷ []) (written c.write_text-2.new.self) =
    (written c.fmt.new.out, c.in_ok-fmt.ensures.text, sign_ends pa pl (codes "], ") (written c.fmt.new.out) (written c.write_text-2.new.self) c.in_ok-write_text-2.ensures) in
    subst (λ (o : Option (Bor g.row.L.Denot)). AddsTokens {A = g.row.A.Denot} {L = g.row.L.Denot} pa pl (written c.args.out.now) (location_tokens (option_copied o)) (written c.write_text-2.new.self)) (sym c.in-Some.is)
    (sign_added pa pl (codes "@[") (written c.args.out.now) (written c.write_text.new.self) (written c.write_text-2.new.self) (location c.in-Some.location.now ∷ sign (codes "], ") ∷ []) c.in_ok-write_text.ensures tail)
