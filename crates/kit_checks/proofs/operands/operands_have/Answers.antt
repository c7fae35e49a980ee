use Rattle.std.proofs.Common.{arith, ◌≡◌, ◌∙◌, map, Some, sym, ap, true≢false}
use Rattle.std.proofs.lemmas.List.{length-map}
use Rattle.std.proofs.lemmas.Option.{slice_get-map}
use Rattle.ir_program.specs.Program.{type_at}
use Rattle.ir_program.specs.Rows.{operands_at}
use Rattle.kit_checks.proofs.Everys.{every_none, every_more, every_all, not_every, is_every}
use Rattle.kit_checks.proofs.Trees.{operands_are}
use Rattle.kit_checks.proofs.operands.operands_have.Goals as goal

pub loop-index-init : goal.loop-index-init
loop-index-init c = every_none (λ o. o ≡ Some c.args.ty) (map (type_at c.args.ctx.now.program) (operands_at c.args.ctx.now.program c.args.op))

pub loop-index-preserved : goal.loop-index-preserved
loop-index-preserved c =
    every_more (λ o. o ≡ Some c.args.ty) (map (type_at c.args.ctx.now.program) (operands_at c.args.ctx.now.program c.args.op)) c.loop-index.index (Some c.operand_type.result)
    (slice_get-map (type_at c.args.ctx.now.program) (operands_at c.args.ctx.now.program c.args.op) c.loop-index.index ∙ c.operand_type.ensures)
    (ap Some (c.type_passes.ensures.0 c.if-not-type_passes.false)) c.loop-index.invariant

pub returns-then-not-type_passes : goal.returns-then-not-type_passes
returns-then-not-type_passes c u s =
    not_every (λ o. o ≡ Some c.args.ty) _ (map (type_at c.args.ctx.now.program) (operands_at c.args.ctx.now.program c.args.op)) c.loop-index.index (Some c.operand_type.result) (ap (map (type_at c.args.ctx.now.program)) (operands_are c.args.ctx.now.program c.args.op u s))
    (slice_get-map (type_at c.args.ctx.now.program) (operands_at c.args.ctx.now.program c.args.op) c.loop-index.index ∙ c.operand_type.ensures)
    (λ h. true≢false (sym (c.type_passes.ensures.1 (let e : Some c.operand_type.result ≡ Some c.args.ty = h in cc)) ∙ c.if-not-type_passes.true))

pub returns : goal.returns
returns c u s =
    is_every (λ o. o ≡ Some c.args.ty) _ (map (type_at c.args.ctx.now.program) (operands_at c.args.ctx.now.program c.args.op)) (ap (map (type_at c.args.ctx.now.program)) (operands_are c.args.ctx.now.program c.args.op u s))
    (every_all (λ o. o ≡ Some c.args.ty) (map (type_at c.args.ctx.now.program) (operands_at c.args.ctx.now.program c.args.op)) c.loop-index.index
    (length-map (operands_at c.args.ctx.now.program c.args.op) (type_at c.args.ctx.now.program) ∙ sym c.get_num_operands-index-end.ensures ∙ (let e : c.get_num_operands-index-end.result ≡ c.loop-index.index = omega arith in e)) c.loop-index.invariant)
