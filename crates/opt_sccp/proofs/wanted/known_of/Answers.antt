-- The number of a value leads to what is known of it.
use Rattle.std.proofs.Common.{Bool, slice_get, unwrap_or, sym, ap, ◌∙◌}
use Rattle.std.specs.List.{position}
use Rattle.ir_program.specs.declared.handles.Value.{Value}
use Rattle.opt_rows.specs.declared.known.Known.TheVariants.{Any}
use Rattle.opt_inside.specs.Numbered.{numbers_of}
use Rattle.opt_sccp.proofs.Lookups.{known_found, known_not_found, value_tests}
use Rattle.opt_sccp.proofs.wanted.known_of.Goals as goal

pub returns-in-Some : goal.returns-in-Some
returns-in-Some g c k h = c.item_or.ensures ∙ ap (λ xs. unwrap_or (slice_get xs c.in-Some.number) Any) c.deref.ensures.value
    ∙ known_found (numbers_of c.args.inside.now) c.args.facts.now.runs.items c.args.facts.now.known.items k h c.args.value c.in-Some.number
    (ap (λ (f : Value → Bool). position f c.args.inside.now.values.keys) (sym (value_tests c.args.value)) ∙ sym c.get_index_of.ensures.index ∙ c.in-Some.is)

pub returns-in-None : goal.returns-in-None
returns-in-None g c k h = known_not_found (numbers_of c.args.inside.now) c.args.facts.now.runs.items c.args.facts.now.known.items k h c.args.value
    (ap (λ (f : Value → Bool). position f c.args.inside.now.values.keys) (sym (value_tests c.args.value)) ∙ sym c.get_index_of.ensures.index ∙ c.in-None.is)
