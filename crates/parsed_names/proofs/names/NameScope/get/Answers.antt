use Rattle.std.proofs.Common.{◌∙◌, sym, ap}
use Rattle.ir_names.proofs.Entries.{attribute_at-named_entries}
use Rattle.parsed_names.specs.Names.{known_of}
use Rattle.parsed_names.proofs.names.NameScope.get.Goals as goal

pub returns : goal.returns
returns g c =
    c.copied.ensures ∙ c.get.ensures.value
    ∙ sym (attribute_at-named_entries c.args.name.now c.self.inside.names.entries)
    ∙ ap (λ names. known_of names c.args.name.now) c.self.view_is
