use Rattle.std.proofs.Common.{◌∙◌, sym, refl}
use Rattle.std.proofs.lemmas.Bool.{true≢false}
use Rattle.text_parsables.proofs.NameLemmas.{read_identifier, reads_name}
use Rattle.text_parsables.proofs.names.IdentifierParsable.parse.Goals as goal

pub unreachable-requires : goal.unreachable-requires
unreachable-requires g c =
    let text = read_identifier c.args.stream.now.position c.in-Ok-Some.end c.in-Ok-Some.text (rw c.in-Ok-Some.field-0-is at c.in-Ok-Some.ensures) in
    let none = c.in-Err-try_from_string.ensures.invalid.0 refl in
    true≢false (sym text ∙ none)

pub returns-in-Ok : goal.returns-in-Ok
returns-in-Ok g c = reads_name c.args.stream.now c.in-Ok-Some.end c.in-Ok-Some.text c.in-Ok.name
    (rw c.in-Ok-Some.field-0-is at c.in-Ok-Some.ensures) c.in-Ok.ensures.text
