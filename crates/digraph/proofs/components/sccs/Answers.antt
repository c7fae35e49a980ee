use Rattle.std.proofs.Common.{rules, ◌<◌, length, sym, ap, ◌∙◌, subst, arith}
use Rattle.std.proofs.lemmas.List.Elements.{All-contains}
use Rattle.digraph.specs.Graph.{successors}
use Rattle.std.specs.Prelude.{IsTrue, ◌↔◌}
use Rattle.digraph.specs.Gathers.{AnyUnmarked}
use Rattle.digraph.proofs.Searching.{successors_at, successors_in}
use Rattle.digraph.proofs.Marking.{marked_read, unmarked_read}
use Rattle.digraph.specs.Visits.{empty, Visits}
use Rattle.digraph.specs.Orders.{order_of}
use Rattle.digraph.proofs.Parting.{Parted, parting_begins, passed, parted, parting_ends, turned_in, last_in}
use Rattle.digraph.proofs.components.sccs.Goals as goal

pub parts-init : goal.parts-init
parts-init c =
    subst (λ xs. Parted c.args.graph.now c.in_ok-work.work c.in_ok-orders.orders.post.items xs) (sym c.new-parts.ensures.items)
    (parting_begins c.args.graph.now c.in_ok-work.work c.in_ok-roots.roots.items (order_of c.in_ok-orders.orders) c.requires.graph c.in_ok-work.ensures
    c.in_ok-roots.ensures.all
    (λ k h. All-contains (λ n. n < length c.args.graph.now) c.in_ok-roots.roots.items k c.in_ok-roots.ensures.within h)
    (subst (λ xs. Visits (successors c.args.graph.now) empty xs (order_of c.in_ok-orders.orders)) c.deref.ensures.value c.in_ok-orders.ensures))

pub index-requires : goal.index-requires
index-requires c = let z = last_in c.args.graph.now c.parts.work c.parts.orders.post.items c.pop.new.self.items c.in-Some.root c.parts.parts.items c.in-Some.ensures.items c.parts.invariant in let l = c.parts.invariant.len in search rules

pub gather-requires-clause-reverse : goal.gather-requires-clause-reverse
gather-requires-clause-reverse c = turned_in c.args.graph.now c.args.reverse.now c.requires.reverse

pub gather-requires-clause-root : goal.gather-requires-clause-root
gather-requires-clause-root c = let z = last_in c.args.graph.now c.parts.work c.parts.orders.post.items c.pop.new.self.items c.in-Some.root c.parts.parts.items c.in-Some.ensures.items c.parts.invariant in omega (arith, z, c.requires.reverse.len)

pub parts-preserved-in-Continue-branch-5 : goal.parts-preserved-in-Continue-branch-5
parts-preserved-in-Continue-branch-5 c =
    subst (λ xs. Parted c.args.graph.now c.gather.new.work c.pop.new.self.items xs) (sym c.in_ok-push.ensures.items)
    (parted c.args.graph.now c.args.reverse.now c.requires.reverse c.parts.work c.gather.new.work c.parts.orders.post.items c.pop.new.self.items c.in-Some.root c.parts.parts.items (record { nodes = c.in_ok-nodes.nodes; is_cyclic = c.has_unmarked-is_cyclic.result }) c.in-Some.ensures.items c.parts.invariant
    (unmarked_read c.parts.work.marked.items c.in-Some.root c.index.result.now c.index.ensures c.if-not-index.true) c.in_ok-nodes.ensures
    (let z = last_in c.args.graph.now c.parts.work c.parts.orders.post.items c.pop.new.self.items c.in-Some.root c.parts.parts.items c.in-Some.ensures.items c.parts.invariant in
    let e = successors_at c.args.reverse.now c.in-Some.root c.index-reverse-root.result (omega (arith, z, c.requires.reverse.len)) (search rules) in
    subst (λ xs. IsTrue c.has_unmarked-is_cyclic.result ↔ AnyUnmarked c.parts.work.marked.items xs) (c.deref-then-not-index-2.ensures.value ∙ sym e)
    (subst (λ ms. IsTrue c.has_unmarked-is_cyclic.result ↔ AnyUnmarked ms c.deref-then-not-index-2.result.now) c.deref-then-not-index.ensures.value c.has_unmarked-is_cyclic.ensures)))

pub parts-preserved : goal.parts-preserved
parts-preserved c = let z = last_in c.args.graph.now c.parts.work c.parts.orders.post.items c.pop.new.self.items c.in-Some.root c.parts.parts.items c.in-Some.ensures.items c.parts.invariant in let l = c.parts.invariant.len in
    passed c.args.graph.now c.parts.work c.parts.orders.post.items c.pop.new.self.items c.in-Some.root c.parts.parts.items c.in-Some.ensures.items c.parts.invariant
    (marked_read c.parts.work.marked.items c.in-Some.root c.index.result.now (omega arith) c.index.ensures c.if-not-index.false)

pub returns : goal.returns
returns c = parting_ends c.args.graph.now c.parts.work c.parts.parts.items (subst (λ xs. Parted c.args.graph.now c.parts.work xs c.parts.parts.items) (search rules) c.parts.invariant)

pub offset_bounds-reverse-root : goal.offset_bounds-reverse-root
offset_bounds-reverse-root c = let z = last_in c.args.graph.now c.parts.work c.parts.orders.post.items c.pop.new.self.items c.in-Some.root c.parts.parts.items c.in-Some.ensures.items c.parts.invariant in let l = c.requires.reverse.len in let r : c.in-Some.root < length c.args.reverse.now = omega (arith, z, l) in search rules

pub bounds-reverse-root : goal.bounds-reverse-root
bounds-reverse-root c = let z = last_in c.args.graph.now c.parts.work c.parts.orders.post.items c.pop.new.self.items c.in-Some.root c.parts.parts.items c.in-Some.ensures.items c.parts.invariant in let l = c.requires.reverse.len in omega (arith, z, l)

pub has_unmarked-is_cyclic-requires : goal.has_unmarked-is_cyclic-requires
has_unmarked-is_cyclic-requires c = let z = last_in c.args.graph.now c.parts.work c.parts.orders.post.items c.pop.new.self.items c.in-Some.root c.parts.parts.items c.in-Some.ensures.items c.parts.invariant in let l = c.requires.reverse.len in
    successors_in c.args.reverse.now c.in-Some.root _ _ (turned_in c.args.graph.now c.args.reverse.now c.requires.reverse)
    (ap length c.deref-then-not-index.ensures.value ∙ c.parts.invariant.len ∙ sym l)
    (successors_at c.args.reverse.now c.in-Some.root c.index-reverse-root.result (omega (arith, z, l)) (search rules) ∙ sym c.deref-then-not-index-2.ensures.value)
