use Rattle.std.proofs.Common.{◌≡◌, ◌↔◌, ◌∙◌, IsTrue, Some, ap, arith, false, length, map, option_map, refl, sym, subst, true≢false}
use Rattle.std.proofs.lemmas.List.{length-map}
use Rattle.std.proofs.lemmas.Option.{slice_get-get_or, slice_get-map}
use Rattle.ir_program.specs.Program.{type_at}
use Rattle.ir_program.specs.Rows.{operands_at}
use Rattle.kit_checks.proofs.Rows.{agree_more, agree_all, not_at, agree_none}
use Rattle.kit_checks.proofs.Trees.{operands_are}
use Rattle.kit_checks.proofs.signatures.operands_are.Goals as goal

pub loop-index-preserved : goal.loop-index-preserved
loop-index-preserved c =
    let here = slice_get-get_or c.args.types.now c.loop-index.index (record { number = 0 }) c.loop-index-test.true in
    agree_more (map (type_at c.args.ctx.now.program) (operands_at c.args.ctx.now.program c.args.op)) (map Some c.args.types.now) c.loop-index.index
    (slice_get-map (type_at c.args.ctx.now.program) (operands_at c.args.ctx.now.program c.args.op) c.loop-index.index ∙ c.operand_type.ensures ∙ ap (λ t. Some (Some t)) (c.type_passes.ensures.0 c.if-not-type_passes.false)
    ∙ sym (slice_get-map Some c.args.types.now c.loop-index.index ∙ ap (option_map Some) here)) c.loop-index.invariant

pub returns-then-not-type_passes : goal.returns-then-not-type_passes
returns-then-not-type_passes c u s =
    let here = slice_get-get_or c.args.types.now c.loop-index.index (record { number = 0 }) c.loop-index-test.true in
    subst (λ l. IsTrue false ↔ (map (type_at c.args.ctx.now.program) l ≡ map Some c.args.types.now)) (sym (operands_are c.args.ctx.now.program c.args.op u s))
    (not_at (map (type_at c.args.ctx.now.program) (operands_at c.args.ctx.now.program c.args.op)) (map Some c.args.types.now) c.loop-index.index (Some c.operand_type.result) _
    (slice_get-map (type_at c.args.ctx.now.program) (operands_at c.args.ctx.now.program c.args.op) c.loop-index.index ∙ c.operand_type.ensures)
    (slice_get-map Some c.args.types.now c.loop-index.index ∙ ap (option_map Some) here)
    (λ same. true≢false (sym (c.type_passes.ensures.1 (cc same)) ∙ c.if-not-type_passes.true)))

pub returns : goal.returns
returns c u s = (
  λ h. ap (map (type_at c.args.ctx.now.program)) (operands_are c.args.ctx.now.program c.args.op u s)
      ∙ agree_all (map (type_at c.args.ctx.now.program) (operands_at c.args.ctx.now.program c.args.op)) (map Some c.args.types.now) c.loop-index.index
      (length-map (operands_at c.args.ctx.now.program c.args.op) (type_at c.args.ctx.now.program) ∙ sym c.get_num_operands.ensures
      ∙ (let e : c.get_num_operands.result ≡ length c.args.types.now = omega arith in e) ∙ sym (length-map c.args.types.now Some))
      (let m = length-map c.args.types.now Some in let l = c.loop-index-test.false in omega arith) c.loop-index.invariant,
  λ h. refl,
)

pub loop-index-init : goal.loop-index-init
loop-index-init c = let p = c.args.ctx.now.program in agree_none (map (type_at p) (operands_at p c.args.op)) (map Some c.args.types.now)
