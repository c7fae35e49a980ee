use Rattle.std.proofs.Common.{sym, ◌∙◌}
use Rattle.ir_entities.specs.Links.{node_at}
use Rattle.ir_entities.specs.Unique.{lists_one}
use Rattle.ir_entities.proofs.Writes.{room_at, put_after_is, no_parent}
use Rattle.ir_entities.proofs.siblings.Siblings.insert_after.Goals as goal

pub link-requires-clause-next : goal.link-requires-clause-next
link-requires-clause-next c = (room_at c.self.inside c.args.self.now c.self.view_is c.args.mark c.index-at.result.now c.requires.mark_in c.index-at.ensures c.in-Some.list (sym c.get.ensures ∙ c.in-Some.is)).after

pub link-requires-clause-list : goal.link-requires-clause-list
link-requires-clause-list c = (room_at c.self.inside c.args.self.now c.self.view_is c.args.mark c.index-at.result.now c.requires.mark_in c.index-at.ensures c.in-Some.list (sym c.get.ensures ∙ c.in-Some.is)).list

pub invariant_of-self-inside : goal.invariant_of-self-inside
invariant_of-self-inside c = ((_, put_after_is c.self.inside c.args.self.now c.self.view_is c.args.mark c.index-at.result.now c.requires.mark_in c.index-at.ensures c.in-Some.list c.args.node c.link.new.nodes.items c.link.new.ends.items (sym c.get.ensures ∙ c.in-Some.is) c.requires.unlinked c.requires.node (rw c.to.ensures at c.link.ensures.nodes) (rw c.to.ensures at c.link.ensures.ends)), tt)

pub returns-in-Some-clause-lists : goal.returns-in-Some-clause-lists
returns-in-Some-clause-lists c = lists_one (node_at c.link.new.nodes.items) c.link.new.ends.items _ _ (assumption c)
    (put_after_is c.self.inside c.args.self.now c.self.view_is c.args.mark c.index-at.result.now c.requires.mark_in c.index-at.ensures c.in-Some.list c.args.node c.link.new.nodes.items c.link.new.ends.items (sym c.get.ensures ∙ c.in-Some.is) c.requires.unlinked c.requires.node (rw c.to.ensures at c.link.ensures.nodes) (rw c.to.ensures at c.link.ensures.ends))

pub returns-in_default-clause-lists : goal.returns-in_default-clause-lists
returns-in_default-clause-lists c = absurd (no_parent c.self.inside c.args.self.now c.self.view_is c.args.mark c.index-at.result.now c.requires.mark_in c.index-at.ensures c.requires.mark (λ l e. c.in_default.not-Some l (c.get.ensures ∙ e)))
