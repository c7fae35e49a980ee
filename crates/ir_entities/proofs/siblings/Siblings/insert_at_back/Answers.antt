use Rattle.ir_entities.specs.Links.{node_at}
use Rattle.ir_entities.specs.Unique.{lists_one}
use Rattle.ir_entities.proofs.Writes.{room_back, back_is}
use Rattle.ir_entities.proofs.siblings.Siblings.insert_at_back.Goals as goal

pub link-requires-clause-prev : goal.link-requires-clause-prev
link-requires-clause-prev c = (room_back c.self.inside c.args.self.now c.self.view_is c.args.list c.index.result.now c.requires.list c.index.ensures).before

pub invariant_of-self-inside : goal.invariant_of-self-inside
invariant_of-self-inside c = ((_, back_is c.self.inside c.args.self.now c.self.view_is c.args.list c.index.result.now c.requires.list c.index.ensures c.args.node c.link.new.nodes.items c.link.new.ends.items c.requires.unlinked c.requires.node c.link.ensures.nodes c.link.ensures.ends), tt)

pub returns-clause-lists : goal.returns-clause-lists
returns-clause-lists c = lists_one (node_at c.link.new.nodes.items) c.link.new.ends.items _ _ (assumption c)
    (back_is c.self.inside c.args.self.now c.self.view_is c.args.list c.index.result.now c.requires.list c.index.ensures c.args.node c.link.new.nodes.items c.link.new.ends.items c.requires.unlinked c.requires.node c.link.ensures.nodes c.link.ensures.ends)
