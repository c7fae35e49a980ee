use Rattle.std.proofs.Common.{refl}
use Rattle.std.proofs.lemmas.Bool.{both_ways}
use Rattle.ir_program.specs.Preorder.{nodes_inside}
use Rattle.ir_core.specs.verification.Endings.{IsFlawed}
use Rattle.ir_core.proofs.VerificationLemmas.Passed.{node_there, passed-at, passed-next, passed-over, all-at}
use Rattle.ir_core.proofs.verification.blocks.some_has_flaw.Goals as goal

pub returns-then-is_flawed : goal.returns-then-is_flawed
returns-then-is_flawed g c =
    let at = passed-at (λ node. IsFlawed g.D.DialectTables.op_has c.args.ctx.now.program c.args.flaw node → ⊥) (nodes_inside c.args.ctx.now.program c.args.outer) c.loop-node.node-iterator c.next.new.self c.in-Some.node c.in-Some.ensures.steps c.loop-node.invariant in (
      λ t. record { block = c.in-Some.node; inside = c.nodes_inside-node-items.ensures.inside.inside at.0 c.in-Some.node at.1; flawed = (c.is_flawed.ensures (node_there c.args.ctx.now.program c.args.outer (λ node. IsFlawed g.D.DialectTables.op_has c.args.ctx.now.program c.args.flaw node → ⊥) (nodes_inside c.args.ctx.now.program c.args.outer) c.loop-node.node-iterator c.next.new.self c.in-Some.node c.nodes_inside-node-items.ensures.inside c.loop-node.invariant c.in-Some.ensures.steps)).0 c.if-is_flawed.true },
      λ s. refl,
    )

pub loop-node-preserved : goal.loop-node-preserved
loop-node-preserved g c =
    passed-next (λ node. IsFlawed g.D.DialectTables.op_has c.args.ctx.now.program c.args.flaw node → ⊥) (nodes_inside c.args.ctx.now.program c.args.outer) c.loop-node.node-iterator c.next.new.self c.in-Some.node c.in-Some.ensures.steps
    (λ flawed. both_ways c.is_flawed.result c.if-is_flawed.false ((c.is_flawed.ensures (node_there c.args.ctx.now.program c.args.outer (λ node. IsFlawed g.D.DialectTables.op_has c.args.ctx.now.program c.args.flaw node → ⊥) (nodes_inside c.args.ctx.now.program c.args.outer) c.loop-node.node-iterator c.next.new.self c.in-Some.node c.nodes_inside-node-items.ensures.inside c.loop-node.invariant c.in-Some.ensures.steps)).1 flawed)) c.loop-node.invariant

pub returns : goal.returns
returns g c =
    let all = passed-over (λ node. IsFlawed g.D.DialectTables.op_has c.args.ctx.now.program c.args.flaw node → ⊥) (nodes_inside c.args.ctx.now.program c.args.outer) c.loop-node.node-iterator c.in-None.ensures.steps.0 c.loop-node.invariant in (
      λ t. cc,
      λ s.
          let at = c.nodes_inside-node-items.ensures.inside.all s.block s.inside in
          absurd (all-at (λ node. IsFlawed g.D.DialectTables.op_has c.args.ctx.now.program c.args.flaw node → ⊥) (nodes_inside c.args.ctx.now.program c.args.outer) all at.0 s.block at.1 s.flawed),
    )
