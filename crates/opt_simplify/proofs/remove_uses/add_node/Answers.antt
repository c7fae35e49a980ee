use Rattle.ir_program.specs.contracts.handles.IRNodePartialEq.TheImpl.{eq-value}
use Rattle.opt_simplify.proofs.RemovedNodes.{node_same}
use Rattle.opt_simplify.proofs.RemovedUses.{gained}
use Rattle.opt_simplify.proofs.remove_uses.add_node.Goals as goal

pub returns : goal.returns
returns c = gained eq-value.it node_same c.args.nodes.now.keys c.insert.new.self.keys c.args.node c.in_ok-insert.ensures.keys
