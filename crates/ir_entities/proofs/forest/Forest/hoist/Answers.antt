use Rattle.ir_entities.proofs.Takes.{hoisted_seen}
use Rattle.ir_entities.proofs.forest.Forest.hoist.Goals as goal

pub invariant_of-self : goal.invariant_of-self
invariant_of-self g c = (hoisted_seen _ c.args.self.now c.self.view_is c.self.invariant c.args.x c.args.op c.append.new.self c.append.ensures.nodes c.append.ensures.lists c.requires.root c.requires.inside c.requires.differ c.requires.used c.requires.used_op).0

pub returns-clause-pruned : goal.returns-clause-pruned
returns-clause-pruned g c = (hoisted_seen _ c.args.self.now c.self.view_is c.self.invariant c.args.x c.args.op c.append.new.self c.append.ensures.nodes c.append.ensures.lists c.requires.root c.requires.inside c.requires.differ c.requires.used c.requires.used_op).1

pub returns-clause-bare : goal.returns-clause-bare
returns-clause-bare g c = (hoisted_seen _ c.args.self.now c.self.view_is c.self.invariant c.args.x c.args.op c.append.new.self c.append.ensures.nodes c.append.ensures.lists c.requires.root c.requires.inside c.requires.differ c.requires.used c.requires.used_op).2
