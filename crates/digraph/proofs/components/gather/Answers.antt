use Rattle.std.proofs.Common.{rules, ◌≡◌, length, Bool, Vec, Global, sym, ap, ◌∙◌, subst, arith}
use Rattle.digraph.specs.Graph.{successors}
use Rattle.digraph.specs.Work.{Adds}
use Rattle.digraph.proofs.Searching.{successors_at, successors_in}
use Rattle.digraph.proofs.Gathering.{IsGathering, gathering_begins, gathering_goes_on, gathering_ends}
use Rattle.digraph.proofs.components.gather.Goals as goal

pub loop-node-init : goal.loop-node-init
loop-node-init c = subst (IsGathering (successors c.args.reverse.now) c.args.root c.args.work.now c.add.new.self) (sym c.new-part.ensures.items) (gathering_begins (successors c.args.reverse.now) c.args.root c.args.work.now c.add.new.self c.requires.waits c.in_ok-add.ensures)

pub add_all-requires : goal.add_all-requires
add_all-requires c = let h = c.in-Some.ensures.some.in_range in let l = c.loop-node.invariant.len in
    successors_in c.args.reverse.now c.in-Some.node _ _ c.requires.reverse (ap (λ (v : Vec Bool Global). length v.items) c.in-Some.ensures.marked ∙ l ∙ c.requires.len)
    (successors_at c.args.reverse.now c.in-Some.node c.index-reverse-node.result (omega arith) (search rules) ∙ (search rules))

pub loop-node-preserved : goal.loop-node-preserved
loop-node-preserved c = let h = c.in-Some.ensures.some.in_range in let l = c.loop-node.invariant.len in
    let e : successors c.args.reverse.now c.in-Some.node ≡ c.deref.result.now = successors_at c.args.reverse.now c.in-Some.node c.index-reverse-node.result (omega arith) (search rules) ∙ (search rules) in
    subst (IsGathering (successors c.args.reverse.now) c.args.root c.args.work.now c.add_all.new.self) (sym c.in_ok-push.ensures.items)
    (gathering_goes_on (successors c.args.reverse.now) c.args.root c.args.work.now c.loop-node.work c.take.new.self c.add_all.new.self c.in-Some.node c.loop-node.part.items c.loop-node.invariant c.in-Some.ensures.some c.in-Some.ensures.marked
    (subst (λ s. Adds c.take.new.self c.add_all.new.self s) (sym e) c.in_ok-add_all.ensures))

pub returns : goal.returns
returns c = gathering_ends (successors c.args.reverse.now) c.args.root c.args.work.now c.loop-node.work c.take.new.self c.loop-node.part.items c.loop-node.invariant c.in_default.ensures.none c.in_default.ensures.marked c.in_default.ensures.empty
