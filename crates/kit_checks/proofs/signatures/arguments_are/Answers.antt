use Rattle.std.proofs.Common.{◌≡◌, ◌↔◌, ◌∙◌, IsTrue, Some, ap, arith, false, length, map, refl, sym, subst, true≢false}
use Rattle.std.proofs.lemmas.List.{length-map}
use Rattle.std.proofs.lemmas.Option.{slice_get-get_or, slice_get-map}
use Rattle.ir_program.specs.Program.{TypedValue, arguments_at}
use Rattle.kit_checks.proofs.Rows.{agree_more, agree_all, not_at, agree_none}
use Rattle.kit_checks.proofs.Trees.{argument_types}
use Rattle.kit_checks.proofs.signatures.arguments_are.Goals as goal

pub loop-index-preserved : goal.loop-index-preserved
loop-index-preserved c =
    let here = slice_get-get_or c.args.types.now c.loop-index.index (record { number = 0 }) c.loop-index-test.true in
    agree_more (map (λ (t : TypedValue). t.ty) (arguments_at c.args.ctx.now.program c.args.block)) c.args.types.now c.loop-index.index
    (slice_get-map (λ (t : TypedValue). t.ty) (arguments_at c.args.ctx.now.program c.args.block) c.loop-index.index ∙ c.argument_type.ensures ∙ ap Some (c.type_passes.ensures.0 c.if-not-type_passes.false) ∙ sym here) c.loop-index.invariant

pub returns-then-not-type_passes : goal.returns-then-not-type_passes
returns-then-not-type_passes c b s =
    let here = slice_get-get_or c.args.types.now c.loop-index.index (record { number = 0 }) c.loop-index-test.true in
    subst (λ l. IsTrue false ↔ (l ≡ c.args.types.now)) (sym (argument_types c.args.ctx.now.program c.args.block b s))
    (not_at (map (λ (t : TypedValue). t.ty) (arguments_at c.args.ctx.now.program c.args.block)) c.args.types.now c.loop-index.index c.argument_type.result _
    (slice_get-map (λ (t : TypedValue). t.ty) (arguments_at c.args.ctx.now.program c.args.block) c.loop-index.index ∙ c.argument_type.ensures) here
    (λ same. true≢false (sym (c.type_passes.ensures.1 same) ∙ c.if-not-type_passes.true)))

pub returns : goal.returns
returns c b s = (
  λ h. argument_types c.args.ctx.now.program c.args.block b s
      ∙ agree_all (map (λ (t : TypedValue). t.ty) (arguments_at c.args.ctx.now.program c.args.block)) c.args.types.now c.loop-index.index
      (let m : length (map (λ (t : TypedValue). t.ty) (arguments_at c.args.ctx.now.program c.args.block)) ≡ length (arguments_at c.args.ctx.now.program c.args.block) = length-map (arguments_at c.args.ctx.now.program c.args.block) (λ (t : TypedValue). t.ty) in
      m ∙ sym c.argument_count.ensures ∙ (let e : c.argument_count.result ≡ length c.args.types.now = omega arith in e)) c.loop-index-test.false c.loop-index.invariant,
  λ h. refl,
)

pub loop-index-init : goal.loop-index-init
loop-index-init c = let p = c.args.ctx.now.program in agree_none (map (λ (t : TypedValue). t.ty) (arguments_at p c.args.block)) c.args.types.now
