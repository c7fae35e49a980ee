use Rattle.std.proofs.Common.{Bool, sym, ap, ◌∙◌}
use Rattle.std.specs.List.{position}
use Rattle.ir_program.specs.Replacing.{same_value}
use Rattle.ir_program.specs.declared.handles.Value.{Value}
use Rattle.opt_inside.proofs.FactsLemmas.Places.{no_place, a_place}
use Rattle.opt_inside.proofs.FactsLemmas.ValueTests.{value_test}
use Rattle.opt_inside.proofs.facts.numbers.number_of_value.Goals as goal

pub returns-in-Some : goal.returns-in-Some
returns-in-Some c = a_place (same_value c.args.value) c.args.inside.now.values.keys c.in-Some.number (sym c.in-Some.is ∙ c.get_index_of.ensures.index ∙ ap (λ (f : Value → Bool). position f c.args.inside.now.values.keys) (value_test c.args.value))

pub returns-in-None : goal.returns-in-None
returns-in-None c = c.len.ensures.len ∙ sym (no_place (same_value c.args.value) c.args.inside.now.values.keys (sym c.in-None.is ∙ c.get_index_of.ensures.index ∙ ap (λ (f : Value → Bool). position f c.args.inside.now.values.keys) (value_test c.args.value)))
