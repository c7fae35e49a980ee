use Rattle.std.proofs.Common.{◌∙◌, arith}
use Rattle.std.proofs.lemmas.Option.{slice_get-map}
use Rattle.std.proofs.lemmas.List.{length-map}
use Rattle.ir_program.specs.Program.{TypedValue, results_at}
use Rattle.opt_inside.specs.Numbered.{numbers_of}
use Rattle.opt_inside.specs.facts.Problem.{value_number, values_of}
use Rattle.opt_inside.proofs.FactsLemmas.Lists.{mapped_next, mapped_all}
use Rattle.opt_inside.proofs.facts.numbers.result_numbers.Goals as goal

pub loop-i-preserved : goal.loop-i-preserved
loop-i-preserved g c =
    let all = results_at c.args.program.now c.args.op in
    mapped_next (value_number (numbers_of c.args.inside.now)) (values_of all) c.loop-i.row.items c.push.new.self.items c.loop-i.i c.result.result c.number_of_value.result
    (slice_get-map (λ (t : TypedValue). t.value) all c.loop-i.i ∙ c.result.ensures.value) c.number_of_value.ensures c.in_ok-push.ensures.items c.loop-i.invariant

pub returns : goal.returns
returns g c =
    let all = results_at c.args.program.now c.args.op in
    let len = length-map all (λ (t : TypedValue). t.value) in
    mapped_all (value_number (numbers_of c.args.inside.now)) (values_of all) c.loop-i.row.items c.loop-i.i (omega (arith, len)) c.loop-i.invariant
