use Rattle.std.proofs.Common.{◌<◌, ◌++◌, ◌∷◌, [], refl, sym, subst}
use Rattle.digraph.specs.Work.{Adds}
use Rattle.digraph.proofs.Marking.{none_added, added_more}
use Rattle.opt_rows.proofs.Lists.{next_within, next_done, all_done}
use Rattle.opt_steps.proofs.DeadLists.{none_in}
use Rattle.opt_solvers.proofs.dead_items.add_inside.Goals as goal

pub loop-operation-init : goal.loop-operation-init
loop-operation-init c = (none_added c.args.work.now [] (λ n h. absurd (none_in n h)), c.into_iter-operation-iterator.ensures.into_iter_gives)

pub add-requires : goal.add-requires
add-requires c = subst (λ n. c.in-Some.operation < n) (sym c.loop-operation.invariant.0.len) (c.requires c.in-Some.operation (next_within c.loop-operation.yielded c.loop-operation.operation-iterator _ c.args.inside c.in-Some.operation c.in-Some.ensures.steps c.loop-operation.invariant.1))

pub loop-operation-preserved : goal.loop-operation-preserved
loop-operation-preserved c =
    let ks = c.loop-operation.yielded in let n = c.in-Some.operation in (
      added_more c.args.work.now c.loop-operation.work c.add.new.self ks (n ∷ []) (ks ++ n ∷ []) refl c.loop-operation.invariant.0 c.in_ok-add.ensures,
      next_done ks c.loop-operation.operation-iterator _ c.args.inside n c.in-Some.ensures.steps c.loop-operation.invariant.1,
    )

pub returns : goal.returns
returns c = subst (Adds c.args.work.now c.loop-operation.work) (all_done c.loop-operation.yielded c.loop-operation.operation-iterator c.args.inside c.in-None.ensures.steps.0 c.loop-operation.invariant.1) c.loop-operation.invariant.0
