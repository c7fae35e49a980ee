use Rattle.std.proofs.Common.{sym, ◌∙◌, false}
use Rattle.ir_entities.specs.Links.{node_at}
use Rattle.ir_entities.specs.Unique.{lists_one}
use Rattle.ir_entities.proofs.Appends.{has_as}
use Rattle.ir_entities.proofs.Writes.{room_at, without_is, no_parent, set_without, out_of_all}
use Rattle.ir_entities.proofs.siblings.Siblings.unlink.Goals as goal

pub cut-requires-clause-prev : goal.cut-requires-clause-prev
cut-requires-clause-prev c = (room_at c.self.inside c.args.self.now c.self.view_is c.args.node c.index-at.result.now c.requires.node c.index-at.ensures c.in-Some.list (sym c.get.ensures ∙ c.in-Some.is)).before

pub cut-requires-clause-next : goal.cut-requires-clause-next
cut-requires-clause-next c = (room_at c.self.inside c.args.self.now c.self.view_is c.args.node c.index-at.result.now c.requires.node c.index-at.ensures c.in-Some.list (sym c.get.ensures ∙ c.in-Some.is)).after

pub cut-requires-clause-list : goal.cut-requires-clause-list
cut-requires-clause-list c = (room_at c.self.inside c.args.self.now c.self.view_is c.args.node c.index-at.result.now c.requires.node c.index-at.ensures c.in-Some.list (sym c.get.ensures ∙ c.in-Some.is)).list

pub invariant_of-self-inside : goal.invariant_of-self-inside
invariant_of-self-inside c = ((_, without_is c.self.inside c.args.self.now c.self.view_is c.args.node c.index-at.result.now c.requires.node c.index-at.ensures c.in-Some.list c.cut.new.nodes.items c.cut.new.ends.items (sym c.get.ensures ∙ c.in-Some.is) c.cut.ensures.nodes c.cut.ensures.ends), tt)

pub returns-in-Some-clause-lists : goal.returns-in-Some-clause-lists
returns-in-Some-clause-lists c = lists_one (node_at c.cut.new.nodes.items) c.cut.new.ends.items _ _ (assumption c)
    (without_is c.self.inside c.args.self.now c.self.view_is c.args.node c.index-at.result.now c.requires.node c.index-at.ensures c.in-Some.list c.cut.new.nodes.items c.cut.new.ends.items (sym c.get.ensures ∙ c.in-Some.is) c.cut.ensures.nodes c.cut.ensures.ends)

pub returns-in_default-clause-lists : goal.returns-in_default-clause-lists
returns-in_default-clause-lists c = absurd (no_parent c.self.inside c.args.self.now c.self.view_is c.args.node c.index-at.result.now c.requires.node c.index-at.ensures c.requires.linked (λ l e. c.in_default.not-Some l (c.get.ensures ∙ e)))

pub returns-in-Some-clause-one : goal.returns-in-Some-clause-one
returns-in-Some-clause-one c d h = lists_one (node_at c.cut.new.nodes.items) c.cut.new.ends.items _ _ (assumption c)
    (without_is c.self.inside c.args.self.now c.self.view_is c.args.node c.index-at.result.now c.requires.node c.index-at.ensures c.in-Some.list c.cut.new.nodes.items c.cut.new.ends.items (sym c.get.ensures ∙ c.in-Some.is) c.cut.ensures.nodes c.cut.ensures.ends)
    ∙ set_without c.self.inside c.args.self.now c.self.view_is c.args.node c.index-at.result.now c.requires.node c.index-at.ensures c.in-Some.list (sym c.get.ensures ∙ c.in-Some.is) d h

pub returns-in-Some-clause-unlinked : goal.returns-in-Some-clause-unlinked
returns-in-Some-clause-unlinked c d = has_as (node_at c.cut.new.nodes.items) c.cut.new.ends.items _ _ _ d false (assumption c)
    (without_is c.self.inside c.args.self.now c.self.view_is c.args.node c.index-at.result.now c.requires.node c.index-at.ensures c.in-Some.list c.cut.new.nodes.items c.cut.new.ends.items (sym c.get.ensures ∙ c.in-Some.is) c.cut.ensures.nodes c.cut.ensures.ends)
    (out_of_all c.self.inside c.args.self.now c.self.view_is c.args.node c.index-at.result.now c.requires.node c.index-at.ensures d)

pub returns-in_default-clause-one : goal.returns-in_default-clause-one
returns-in_default-clause-one c = absurd (no_parent c.self.inside c.args.self.now c.self.view_is c.args.node c.index-at.result.now c.requires.node c.index-at.ensures c.requires.linked (λ l e. c.in_default.not-Some l (c.get.ensures ∙ e)))

pub returns-in_default-clause-unlinked : goal.returns-in_default-clause-unlinked
returns-in_default-clause-unlinked c = absurd (no_parent c.self.inside c.args.self.now c.self.view_is c.args.node c.index-at.result.now c.requires.node c.index-at.ensures c.requires.linked (λ l e. c.in_default.not-Some l (c.get.ensures ∙ e)))
