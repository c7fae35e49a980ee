use Rattle.std.proofs.Common.{rules, ℕ, ◌≡◌, length, sym, ap, ◌∙◌, subst, arith, Bool, Vec, Global, ◌↔◌}
use Rattle.digraph.specs.Marks.{IsMarked}
use Rattle.digraph.specs.Work.{Adds}
use Rattle.digraph.specs.Graph.{successors, Reaches}
use Rattle.digraph.proofs.Searching.{successors_at, successors_in, search_begins, search_goes_on, search_ends}
use Rattle.digraph.proofs.reach.reached.Goals as goal

pub loop-node-init : goal.loop-node-init
loop-node-init c = search_begins c.args.graph.now c.args.entry c.in_ok-work.work c.add.new.self c.in_ok-work.ensures c.in_ok-add.ensures

pub offset_bounds-graph-node : goal.offset_bounds-graph-node
offset_bounds-graph-node c = let h = c.in-Some.ensures.some.in_range in let l = c.loop-node.invariant.len in search rules

pub bounds-graph-node : goal.bounds-graph-node
bounds-graph-node c = let h = c.in-Some.ensures.some.in_range in let l = c.loop-node.invariant.len in omega arith

pub add_all-requires : goal.add_all-requires
add_all-requires c = let h = c.in-Some.ensures.some.in_range in let l = c.loop-node.invariant.len in successors_in c.args.graph.now c.in-Some.node _ _ c.requires.graph (ap (λ (v : Vec Bool Global). length v.items) c.in-Some.ensures.marked ∙ l)
    (successors_at c.args.graph.now c.in-Some.node c.index-graph-node.result (omega arith) (search rules) ∙ (search rules))

pub loop-node-preserved : goal.loop-node-preserved
loop-node-preserved c = let h = c.in-Some.ensures.some.in_range in let l = c.loop-node.invariant.len in
    let e : successors c.args.graph.now c.in-Some.node ≡ c.deref.result.now = successors_at c.args.graph.now c.in-Some.node c.index-graph-node.result (omega arith) (search rules) ∙ (search rules) in
    search_goes_on c.args.graph.now c.args.entry c.loop-node.work c.take.new.self c.add_all.new.self c.in-Some.node c.loop-node.invariant c.in-Some.ensures.some c.in-Some.ensures.marked
    (subst (λ s. Adds c.take.new.self c.add_all.new.self s) (sym e) c.in_ok-add_all.ensures)

pub returns : goal.returns
returns c = subst (λ (v : Vec Bool Global). (n : ℕ) → IsMarked v.items n ↔ Reaches (successors c.args.graph.now) c.args.entry n) (sym (c.into_marked.ensures ∙ c.in_default.ensures.marked))
    (search_ends c.args.graph.now c.args.entry c.loop-node.work c.loop-node.invariant c.in_default.ensures.none)
