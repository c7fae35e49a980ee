use Rattle.std.proofs.Common.{arith, ◌≡◌, ◌∙◌, refl, sym, true≢false}
use Rattle.ir_program.specs.Rows.{operands_at}
use Rattle.kit_checks.specs.Naming.{MayName}
use Rattle.kit_checks.proofs.Everys.{every_none, every_more, every_all, not_every, is_every}
use Rattle.kit_checks.proofs.naming.names_visible.Goals as goal

pub loop-index-init : goal.loop-index-init
loop-index-init g c = every_none (MayName c.args.program.now c.args.op c.args.spot) (operands_at c.args.program.now c.args.op)

pub loop-index-preserved : goal.loop-index-preserved
loop-index-preserved g c =
    every_more (MayName c.args.program.now c.args.op c.args.spot) (operands_at c.args.program.now c.args.op) c.loop-index.index c.operand.result c.operand.ensures.exact (c.may_name.ensures.0 c.if-not-may_name.false) c.loop-index.invariant

pub returns-then-not-may_name : goal.returns-then-not-may_name
returns-then-not-may_name g c =
    not_every (MayName c.args.program.now c.args.op c.args.spot) _ (operands_at c.args.program.now c.args.op) c.loop-index.index c.operand.result refl c.operand.ensures.exact
    (λ h. true≢false (sym (c.may_name.ensures.1 h) ∙ c.if-not-may_name.true))

pub returns : goal.returns
returns g c =
    is_every (MayName c.args.program.now c.args.op c.args.spot) _ (operands_at c.args.program.now c.args.op) refl
    (every_all (MayName c.args.program.now c.args.op c.args.spot) (operands_at c.args.program.now c.args.op) c.loop-index.index
    (sym c.operand_count-index-end.ensures ∙ (let e : c.operand_count-index-end.result ≡ c.loop-index.index = omega arith in e)) c.loop-index.invariant)
