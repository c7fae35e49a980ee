use Rattle.std.proofs.Common.{◌∙◌, ap, sym, subst}
use Rattle.ir_names.proofs.Entries.{named_entries-insert_entry, attribute_at-with_attribute}
use Rattle.ir_names.specs.Dictionary.{named_entries}
use Rattle.ir_names.specs.Identifier.{text_of}
use Rattle.parsed_names.specs.Names.{Names, knowing, Knows}
use Rattle.parsed_names.proofs.names.NameScope.know.Goals as goal

pub returns-clause-known : goal.returns-clause-known
returns-clause-known g c =
    ap named_entries c.in_ok-insert.ensures.entries
    ∙ named_entries-insert_entry c.into_string.result c.args.known c.self.inside.names.entries
    ∙ ap (λ name. knowing (named_entries c.self.inside.names.entries) name c.args.known) c.into_string.ensures.text
    ∙ ap (λ names. knowing names (text_of c.args.name) c.args.known) c.self.view_is

pub returns-clause-others : goal.returns-clause-others
returns-clause-others g c =
    let P : Names g.row.V.Denot → Type 0 = λ names. Knows c.args.self.now names (text_of c.args.name) c.args.known in
    subst P (sym (returns-clause-known g c)) (attribute_at-with_attribute c.args.self.now (text_of c.args.name) c.args.known)
