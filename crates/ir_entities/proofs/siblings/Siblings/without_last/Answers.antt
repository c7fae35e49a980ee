use Rattle.ir_entities.specs.Links.{list_at}
use Rattle.ir_entities.proofs.Spans.{has_dropped, distinct_here, one_between, last_alone, last_within, last_goes}
use Rattle.std.proofs.Common.{ap, ◌∷◌, [], ◌∙◌}
use Rattle.ir_entities.proofs.siblings.Siblings.without_last.Goals as goal

pub prev_of-before-requires : goal.prev_of-before-requires
prev_of-before-requires c = (has_dropped c.args.span.first c.args.span.last (list_at c.args.self.now.lists c.args.list) c.requires).1

pub returns-then-span-clause-items : goal.returns-then-span-clause-items
returns-then-span-clause-items c = one_between c.args.span.first c.args.span.last (list_at c.args.self.now.lists c.args.list) c.if-span.true c.requires ∙ ap (λ z. z ∷ []) c.if-span.true

pub returns-in_err-last-clause-items : goal.returns-in_err-last-clause-items
returns-in_err-last-clause-items c = absurd (last_alone c.args.span.first c.args.span.last (list_at c.args.self.now.lists c.args.list) c.if-span.false (distinct_here c.args.self.now.lists c.args.list c.args.span.first c.args.span.last c.requires c.know_members.ensures.distinct c.know_members.ensures.known) c.requires c.in_err-last.ensures.items)

pub returns-clause-within : goal.returns-clause-within
returns-clause-within c = last_within c.args.span.first c.args.span.last c.in_ok-last.last (list_at c.args.self.now.lists c.args.list) c.if-span.false (distinct_here c.args.self.now.lists c.args.list c.args.span.first c.args.span.last c.requires c.know_members.ensures.distinct c.know_members.ensures.known) c.requires c.in_ok-last.ensures.within c.in_ok-last.ensures.items

pub returns-clause-items : goal.returns-clause-items
returns-clause-items c = last_goes c.args.span.first c.args.span.last c.in_ok-last.last (list_at c.args.self.now.lists c.args.list) c.if-span.false (distinct_here c.args.self.now.lists c.args.list c.args.span.first c.args.span.last c.requires c.know_members.ensures.distinct c.know_members.ensures.known) c.requires c.in_ok-last.ensures.within c.in_ok-last.ensures.items
