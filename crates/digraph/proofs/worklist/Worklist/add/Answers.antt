use Rattle.std.proofs.Common.{rules, sym, refl, subst}
use Rattle.digraph.specs.Marks.{IsMarked}
use Rattle.digraph.proofs.Marking.{marked_read, waiting_marked, mark_added, none_added, only_one}
use Rattle.digraph.proofs.worklist.Worklist.add.Goals as goal

pub invariant_of-self : goal.invariant_of-self
invariant_of-self c = record { waiting_marked = waiting_marked c.args.self.now.marked.items c.args.self.now.waiting.items c.push.new.self.items c.args.node _ c.push.ensures.items c.args.self.now.waiting_marked c.requires }

pub returns-in_ok-push : goal.returns-in_ok-push
returns-in_ok-push c = mark_added _ _ _ c.requires (search rules) refl c.in_ok-push.ensures.items

pub returns-else-not-index : goal.returns-else-not-index
returns-else-not-index c = none_added _ _ (λ n h. subst (λ k. IsMarked c.args.self.now.marked.items k) (sym (only_one c.args.node n h)) (marked_read c.args.self.now.marked.items c.args.node c.index.result.now c.requires c.index.ensures c.if-not-index.false))
