use Rattle.std.proofs.Common.{sym, subst}
use Rattle.std.specs.Prelude.{◌↔◌}
use Rattle.digraph.specs.Marks.{IsMarked}
use Rattle.opt_trees.specs.Simplify.{IsReached}
use Rattle.opt_inside.proofs.ReachLemmas.Ends.{if_ok}
use Rattle.opt_inside.proofs.ReachLemmas.ReachTest.{has_reach_test}
use Rattle.opt_inside.proofs.reach.fates.find_fates.Goals as goal

pub judge_all-requires-clause-reached : goal.judge_all-requires-clause-reached
judge_all-requires-clause-reached g c = λ t stands k b here under. subst (λ ms. IsMarked ms k ↔ IsReached t b) (sym c.deref.ensures.value) (c.in_ok-marks.ensures c.args.start c.requires.edges t stands k b here under)

pub returns-clause-reached : goal.returns-clause-reached
returns-clause-reached g c = if_ok c.judge_all.result _ _ c.judge_all.ensures.len (λ fates h t stands. has_reach_test t)
