use Rattle.std.proofs.Common.{◌∙◌, arith}
use Rattle.std.proofs.lemmas.Option.{slice_get-map}
use Rattle.std.proofs.lemmas.List.{length-map}
use Rattle.ir_program.specs.Program.{TypedValue, results_at}
use Rattle.opt_inside.specs.facts.Folds.{result_types}
use Rattle.opt_inside.proofs.FactsLemmas.Lists.{put_next, put_all}
use Rattle.opt_inside.proofs.facts.folding.types_of_results.Goals as goal

pub loop-i-preserved : goal.loop-i-preserved
loop-i-preserved g c =
    let all = results_at c.args.program.now c.args.op in
    put_next (result_types all) c.loop-i.types.items c.push.new.self.items c.loop-i.i c.result_type.result
    (slice_get-map (λ (t : TypedValue). t.ty) all c.loop-i.i ∙ c.result_type.ensures) c.in_ok-push.ensures.items c.loop-i.invariant

pub returns : goal.returns
returns g c =
    let all = results_at c.args.program.now c.args.op in
    let len = length-map all (λ (t : TypedValue). t.ty) in
    put_all (result_types all) c.loop-i.types.items c.loop-i.i (omega (arith, len)) c.loop-i.invariant
