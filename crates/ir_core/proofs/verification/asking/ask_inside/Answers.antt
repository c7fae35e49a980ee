use Rattle.ir_program.specs.Preorder.{nodes_inside}
use Rattle.ir_core.specs.verification.Tests.{tests_of, tests_inside}
use Rattle.ir_core.proofs.VerificationLemmas.Asked.{ok-of, err-of, answers-err, handed-on}
use Rattle.ir_core.proofs.VerificationLemmas.Passed.{node_there, AcceptsAll, passed-next, passed-over, fault-inside, all-flat}
use Rattle.ir_core.proofs.verification.asking.ask_inside.Goals as goal

pub loop-node-preserved : goal.loop-node-preserved
loop-node-preserved g c =
    passed-next (AcceptsAll (g.V.Verifiers.accepts c.args.verifiers.now c.args.ctx.now) (g.V.Verifiers.answers c.args.verifiers.now c.args.ctx.now) (tests_of c.args.ctx.now.program)) (nodes_inside c.args.ctx.now.program c.args.outer) c.loop-node.node-iterator c.next.new.self c.in-Some.node c.in-Some.ensures.steps
    (ok-of (g.V.Verifiers.accepts c.args.verifiers.now c.args.ctx.now) (g.V.Verifiers.answers c.args.verifiers.now c.args.ctx.now) (tests_of c.args.ctx.now.program c.in-Some.node) c.ask_node.result c.in_ok-ask_node.field-0 c.in_ok-ask_node.was (c.ask_node.ensures (node_there c.args.ctx.now.program c.args.outer (AcceptsAll (g.V.Verifiers.accepts c.args.verifiers.now c.args.ctx.now) (g.V.Verifiers.answers c.args.verifiers.now c.args.ctx.now) (tests_of c.args.ctx.now.program)) (nodes_inside c.args.ctx.now.program c.args.outer) c.loop-node.node-iterator c.next.new.self c.in-Some.node c.nodes_inside-node-items.ensures.inside c.loop-node.invariant c.in-Some.ensures.steps)))
    c.loop-node.invariant

pub returns-in_err-ask_node : goal.returns-in_err-ask_node
returns-in_err-ask_node g c =
    answers-err (g.V.Verifiers.accepts c.args.verifiers.now c.args.ctx.now) (g.V.Verifiers.answers c.args.verifiers.now c.args.ctx.now) (tests_inside c.args.ctx.now.program c.args.outer) c.from_residual.result c.in_err-ask_node.field-0.0 (handed-on c.from_residual.result c.in_err-ask_node.field-0.0 c.from_residual.ensures.1)
    (fault-inside (g.V.Verifiers.accepts c.args.verifiers.now c.args.ctx.now) (g.V.Verifiers.answers c.args.verifiers.now c.args.ctx.now) (tests_of c.args.ctx.now.program) (nodes_inside c.args.ctx.now.program c.args.outer) c.loop-node.node-iterator c.next.new.self c.in-Some.node c.in_err-ask_node.field-0.0 c.in-Some.ensures.steps c.loop-node.invariant
    (err-of (g.V.Verifiers.accepts c.args.verifiers.now c.args.ctx.now) (g.V.Verifiers.answers c.args.verifiers.now c.args.ctx.now) (tests_of c.args.ctx.now.program c.in-Some.node) c.ask_node.result c.in_err-ask_node.field-0.0 c.in_err-ask_node.was (c.ask_node.ensures (node_there c.args.ctx.now.program c.args.outer (AcceptsAll (g.V.Verifiers.accepts c.args.verifiers.now c.args.ctx.now) (g.V.Verifiers.answers c.args.verifiers.now c.args.ctx.now) (tests_of c.args.ctx.now.program)) (nodes_inside c.args.ctx.now.program c.args.outer) c.loop-node.node-iterator c.next.new.self c.in-Some.node c.nodes_inside-node-items.ensures.inside c.loop-node.invariant c.in-Some.ensures.steps))))

pub returns : goal.returns
returns g c =
    all-flat (g.V.Verifiers.accepts c.args.verifiers.now c.args.ctx.now) (g.V.Verifiers.answers c.args.verifiers.now c.args.ctx.now) (tests_of c.args.ctx.now.program) (nodes_inside c.args.ctx.now.program c.args.outer)
    (passed-over (AcceptsAll (g.V.Verifiers.accepts c.args.verifiers.now c.args.ctx.now) (g.V.Verifiers.answers c.args.verifiers.now c.args.ctx.now) (tests_of c.args.ctx.now.program)) (nodes_inside c.args.ctx.now.program c.args.outer) c.loop-node.node-iterator c.in-None.ensures.steps.0 c.loop-node.invariant)
