use Rattle.std.proofs.Common.{rules, ◌≡◌, ◌∷◌, get_or}
use Rattle.opt_rows.specs.LinkedRows.{items_from}
use Rattle.opt_rows.proofs.Linking.{first_taken, rest_inside}
use Rattle.opt_rows.proofs.linked_rows.RowItemsIterator.next.Goals as goal

pub invariant_of-self : goal.invariant_of-self
invariant_of-self g c = (
  c.self.invariant.0,
  rest_inside c.self.inside.links.now c.self.inside.next c.in_ok-index.index c.index-self-index.result c.self.invariant.0 c.self.invariant.1 c.in_ok-index.ensures.0 c.in_ok-index.ensures.1,
)

pub returns-clause-steps : goal.returns-clause-steps
returns-clause-steps g c =
    first_taken c.self.inside.links.now c.self.inside.next c.in_ok-index.index c.index-self-index.result c.args.self.now c.self.invariant.0 c.self.invariant.1 c.self.view_is c.in_ok-index.ensures.0 c.in_ok-index.ensures.1

pub returns-clause-goes : goal.returns-clause-goes
returns-clause-goes g c =
    let first = get_or c.self.inside.links.now c.in_ok-index.index c.index-self-index.result in
    let e : c.args.self.now ≡ first.item ∷ items_from c.self.inside.links.now first.next = first_taken c.self.inside.links.now c.self.inside.next c.in_ok-index.index c.index-self-index.result c.args.self.now c.self.invariant.0 c.self.invariant.1 c.self.view_is c.in_ok-index.ensures.0 c.in_ok-index.ensures.1 in
    search rules
