use Rattle.std.proofs.Common.{arith, ◌≡◌, ◌∙◌, map, length, sym, true≢false}
use Rattle.std.proofs.lemmas.List.{length-map}
use Rattle.std.proofs.lemmas.Option.{slice_get-map}
use Rattle.ir_program.specs.Program.{TypedValue, results_at}
use Rattle.kit_checks.specs.World.{world_of}
use Rattle.kit_checks.specs.Passing.{TypePasses}
use Rattle.kit_checks.proofs.Everys.{every_none, every_more, every_all, not_every, is_every}
use Rattle.kit_checks.proofs.Trees.{result_types}
use Rattle.kit_checks.proofs.types.results_pass.Goals as goal

pub loop-index-init : goal.loop-index-init
loop-index-init c = every_none (TypePasses (world_of c.args.ctx.now) c.args.test) (map (λ (t : TypedValue). t.ty) (results_at c.args.ctx.now.program c.args.op))

pub loop-index-preserved : goal.loop-index-preserved
loop-index-preserved c =
    every_more (TypePasses (world_of c.args.ctx.now) c.args.test) (map (λ (t : TypedValue). t.ty) (results_at c.args.ctx.now.program c.args.op)) c.loop-index.index c.get_type.result (slice_get-map (λ (t : TypedValue). t.ty) (results_at c.args.ctx.now.program c.args.op) c.loop-index.index ∙ c.get_type.ensures)
    (c.type_passes.ensures.0 c.if-not-type_passes.false) c.loop-index.invariant

pub returns-then-not-type_passes : goal.returns-then-not-type_passes
returns-then-not-type_passes c u s =
    not_every (TypePasses (world_of c.args.ctx.now) c.args.test) _ _ c.loop-index.index c.get_type.result (result_types c.args.ctx.now.program c.args.op u s)
    (slice_get-map (λ (t : TypedValue). t.ty) (results_at c.args.ctx.now.program c.args.op) c.loop-index.index ∙ c.get_type.ensures)
    (λ h. true≢false (sym (c.type_passes.ensures.1 h) ∙ c.if-not-type_passes.true))

pub returns : goal.returns
returns c u s =
    is_every (TypePasses (world_of c.args.ctx.now) c.args.test) _ _ (result_types c.args.ctx.now.program c.args.op u s)
    (every_all (TypePasses (world_of c.args.ctx.now) c.args.test) (map (λ (t : TypedValue). t.ty) (results_at c.args.ctx.now.program c.args.op)) c.loop-index.index
    (let m : length (map (λ (t : TypedValue). t.ty) (results_at c.args.ctx.now.program c.args.op)) ≡ length (results_at c.args.ctx.now.program c.args.op) = length-map (results_at c.args.ctx.now.program c.args.op) (λ (t : TypedValue). t.ty) in
    m ∙ sym c.get_num_results-index-end.ensures ∙ (let e : c.get_num_results-index-end.result ≡ c.loop-index.index = omega arith in e)) c.loop-index.invariant)
