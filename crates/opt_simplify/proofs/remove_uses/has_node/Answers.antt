use Rattle.ir_program.specs.contracts.handles.IRNodePartialEq.TheImpl.{eq-value}
use Rattle.opt_simplify.proofs.RemovedNodes.{node_same, node_own}
use Rattle.opt_simplify.proofs.RemovedUses.{any_listed}
use Rattle.opt_simplify.proofs.remove_uses.has_node.Goals as goal

pub returns : goal.returns
returns c = any_listed eq-value.it node_same c.args.nodes.now.keys c.args.node (node_own c.args.node) c.contains.result c.contains.ensures
