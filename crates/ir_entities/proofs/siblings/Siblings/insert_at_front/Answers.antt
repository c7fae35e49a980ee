use Rattle.ir_entities.specs.Links.{node_at}
use Rattle.ir_entities.specs.Unique.{lists_one}
use Rattle.ir_entities.proofs.Writes.{room_front, front_is}
use Rattle.ir_entities.proofs.siblings.Siblings.insert_at_front.Goals as goal

pub link-requires-clause-next : goal.link-requires-clause-next
link-requires-clause-next c = (room_front c.self.inside c.args.self.now c.self.view_is c.args.list c.index.result.now c.requires.list c.index.ensures).after

pub invariant_of-self-inside : goal.invariant_of-self-inside
invariant_of-self-inside c = ((_, front_is c.self.inside c.args.self.now c.self.view_is c.args.list c.index.result.now c.requires.list c.index.ensures c.args.node c.link.new.nodes.items c.link.new.ends.items c.requires.unlinked c.requires.node c.link.ensures.nodes c.link.ensures.ends), tt)

pub returns-clause-lists : goal.returns-clause-lists
returns-clause-lists c = lists_one (node_at c.link.new.nodes.items) c.link.new.ends.items _ _ (assumption c)
    (front_is c.self.inside c.args.self.now c.self.view_is c.args.list c.index.result.now c.requires.list c.index.ensures c.args.node c.link.new.nodes.items c.link.new.ends.items c.requires.unlinked c.requires.node c.link.ensures.nodes c.link.ensures.ends)
