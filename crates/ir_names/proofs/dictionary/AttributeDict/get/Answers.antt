use Rattle.std.proofs.Common.{◌≡◌, false, sym, ◌∙◌}
use Rattle.std.specs.Str.{bytes_eq}
use Rattle.std.specs.String.{string_bytes}
use Rattle.ir_names.specs.Dictionary.{all_entries}
use Rattle.ir_names.proofs.Entries.{attribute_at-named_entries}
use Rattle.ir_names.proofs.dictionary.AttributeDict.get.Goals as goal

pub returns-in-None : goal.returns-in-None
unfolding all_entries
returns-in-None g c = rw (← c.self.view_is, c.in-None.is) (c.get.ensures ∙ sym (attribute_at-named_entries c.args.key.now c.self.inside.others))

pub returns-else-eq : goal.returns-else-eq
unfolding all_entries
returns-else-eq g c =
    let e : bytes_eq c.args.key.now (string_bytes c.in-Some.entry.name) ≡ false = rw (← c.as_str.ensures.value) (sym c.eq.ensures ∙ c.if-eq.false) in
    rw (← c.self.view_is, c.in-Some.is, e) (c.get-in-Some.ensures ∙ sym (attribute_at-named_entries c.args.key.now c.self.inside.others))
