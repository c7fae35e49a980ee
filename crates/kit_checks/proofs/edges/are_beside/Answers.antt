use Rattle.std.proofs.Common.{arith, ◌≡◌, ◌∙◌, refl, sym, true≢false}
use Rattle.ir_program.specs.Rows.{successors_at}
use Rattle.kit_checks.specs.Handing.{IsBeside}
use Rattle.kit_checks.proofs.Everys.{every_none, every_more, every_all, not_every, is_every}
use Rattle.kit_checks.proofs.edges.are_beside.Goals as goal

pub loop-index-init : goal.loop-index-init
loop-index-init g c = every_none (IsBeside c.args.program.now c.args.op) (successors_at c.args.program.now c.args.op)

pub loop-index-preserved : goal.loop-index-preserved
loop-index-preserved g c =
    every_more (IsBeside c.args.program.now c.args.op) (successors_at c.args.program.now c.args.op) c.loop-index.index c.successor.result c.successor.ensures.exact (c.is_beside.ensures.0 c.if-not-is_beside.false) c.loop-index.invariant

pub returns-then-not-is_beside : goal.returns-then-not-is_beside
returns-then-not-is_beside g c =
    not_every (IsBeside c.args.program.now c.args.op) _ (successors_at c.args.program.now c.args.op) c.loop-index.index c.successor.result refl c.successor.ensures.exact
    (λ h. true≢false (sym (c.is_beside.ensures.1 h) ∙ c.if-not-is_beside.true))

pub returns : goal.returns
returns g c =
    is_every (IsBeside c.args.program.now c.args.op) _ (successors_at c.args.program.now c.args.op) refl
    (every_all (IsBeside c.args.program.now c.args.op) (successors_at c.args.program.now c.args.op) c.loop-index.index
    (sym c.successor_count-index-end.ensures ∙ (let e : c.successor_count-index-end.result ≡ c.loop-index.index = omega arith in e)) c.loop-index.invariant)
