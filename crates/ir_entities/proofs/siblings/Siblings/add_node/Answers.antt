use Rattle.std.specs.Prelude.{is_ok}
use Rattle.ir_entities.specs.Links.{node_at}
use Rattle.ir_entities.specs.Unique.{lists_one}
use Rattle.ir_entities.proofs.Writes.{are_lists, maybe_more}
use Rattle.ir_entities.proofs.siblings.Siblings.add_node.Goals as goal

pub invariant_of-self-inside : goal.invariant_of-self-inside
invariant_of-self-inside c = ((_, maybe_more (is_ok c.push.result) c.self.inside.nodes.items c.push.new.self.items c.self.inside.ends.items c.args.self.now.lists c.push.ensures.items (are_lists c.self.inside c.args.self.now c.self.view_is)), tt)

pub returns-in_err-push-clause-lists : goal.returns-in_err-push-clause-lists
returns-in_err-push-clause-lists c = lists_one (node_at c.push.new.self.items) c.self.inside.ends.items _ _ (assumption c)
    (maybe_more (is_ok c.push.result) c.self.inside.nodes.items c.push.new.self.items c.self.inside.ends.items c.args.self.now.lists c.push.ensures.items (are_lists c.self.inside c.args.self.now c.self.view_is))

pub returns-clause-lists : goal.returns-clause-lists
returns-clause-lists c = lists_one (node_at c.push.new.self.items) c.self.inside.ends.items _ _ (assumption c)
    (maybe_more (is_ok c.push.result) c.self.inside.nodes.items c.push.new.self.items c.self.inside.ends.items c.args.self.now.lists c.push.ensures.items (are_lists c.self.inside c.args.self.now c.self.view_is))
