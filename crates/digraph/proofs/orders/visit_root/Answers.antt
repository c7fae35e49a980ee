use Rattle.std.proofs.Common.{rules, ℕ, Vec, Global, ◌++◌, ◌∷◌, [], sym, ap, ◌∙◌, subst}
use Rattle.std.specs.Prelude.{IsTrue}
use Rattle.std.proofs.lemmas.List.{map-append}
use Rattle.digraph.specs.Graph.{successors}
use Rattle.digraph.specs.Orders.{rows_of}
use Rattle.digraph.specs.Searches.{orders}
use Rattle.digraph.specs.Visits.{VisitsApart}
use Rattle.digraph.proofs.Visiting.{apart_passes, apart_begins}
use Rattle.digraph.proofs.orders.visit_root.Goals as goal

pub returns-in_ok-push-clause-visited : goal.returns-in_ok-push-clause-visited
returns-in_ok-push-clause-visited c = λ o ns v.
    let e = ap rows_of c.in_ok-push.ensures.items ∙ map-append (λ (row : Vec ℕ Global). row.items) c.args.parts.now.items (c.in_ok-visit_apart.field-0 ∷ []) in
    subst (λ xs. VisitsApart (successors c.args.graph.now) o (ns ++ c.args.root ∷ []) xs (orders c.visit_apart.new.self)) (sym e)
    (apart_begins (successors c.args.graph.now) (orders c.visit_apart.new.self) c.args.root c.in_ok-visit_apart.field-0.items v
    (λ t. let h : IsTrue c.has_seen.result = c.has_seen.ensures.1 (c.requires.search.marked c.args.root t) in let f = c.if-not-has_seen.true in search rules)
    c.in_ok-visit_apart.ensures.visited c.in_ok-visit_apart.ensures.part)

pub returns-else-not-has_seen-clause-visited : goal.returns-else-not-has_seen-clause-visited
returns-else-not-has_seen-clause-visited c = λ o ns v.
    let h : IsTrue c.has_seen.result = search rules in apart_passes (successors c.args.graph.now) c.args.root v (c.requires.search.seen c.args.root (c.has_seen.ensures.0 h))
