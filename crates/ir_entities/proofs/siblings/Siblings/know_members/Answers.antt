use Rattle.ir_entities.proofs.Walks.{distinct_at, in_nodes, at_most, list_known}
use Rattle.ir_entities.proofs.siblings.Siblings.know_members.Goals as goal

pub returns-clause-distinct : goal.returns-clause-distinct
returns-clause-distinct c d lt = distinct_at c.self.inside c.args.self.now c.self.view_is d lt

pub returns-clause-below : goal.returns-clause-below
returns-clause-below c d x h = in_nodes c.self.inside c.args.self.now c.self.view_is d x h

pub returns-clause-short : goal.returns-clause-short
returns-clause-short c d lt = at_most _ _ (distinct_at c.self.inside c.args.self.now c.self.view_is d lt) (λ q h. in_nodes c.self.inside c.args.self.now c.self.view_is d q h)

pub returns-clause-known : goal.returns-clause-known
returns-clause-known c d some = list_known c.args.self.now.lists d some
