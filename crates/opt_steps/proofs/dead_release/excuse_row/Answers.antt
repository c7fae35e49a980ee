use Rattle.std.proofs.Common.{◌≡◌, ◌∷◌, ◌++◌, [], inr, inl, ⊎_elim, sym, subst}
use Rattle.std.specs.Prelude.{Contains}
use Rattle.std.proofs.lemmas.List.Elements.{Contains-append_left, Contains-push, Contains-push_cases}
use Rattle.opt_steps.specs.DeadRelease.{ExcusesMore}
use Rattle.opt_rows.proofs.Lists.{next_within, next_done, all_done}
use Rattle.opt_steps.proofs.DeadLists.{none_in}
use Rattle.opt_steps.proofs.DeadReleasing.{nothing_excused, excused_then}
use Rattle.opt_steps.proofs.dead_release.excuse_row.Goals as goal

pub loop-place-init : goal.loop-place-init
loop-place-init c = (
  nothing_excused c.args.keeps.now c.args.counts.now.excused.items c.args.counts.now.uses.items c.args.counts.now.work c.requires.counts (λ k. Contains [] k) (λ k h. absurd (none_in k h)),
  c.into_iter-place-iterator.ensures.into_iter_gives,
)

pub excuse-requires-clause-place : goal.excuse-requires-clause-place
excuse-requires-clause-place c = c.requires.places c.in-Some.place (next_within c.loop-place.yielded c.loop-place.place-iterator _ c.args.places c.in-Some.place c.in-Some.ensures.steps c.loop-place.invariant.1)

pub loop-place-preserved : goal.loop-place-preserved
loop-place-preserved c =
    let ks = c.loop-place.yielded in let n = c.in-Some.place in (
      excused_then c.args.keeps.now (λ k. Contains ks k) (λ k. k ≡ n) (λ k. Contains (ks ++ n ∷ []) k)
          (λ k h. Contains-append_left ks (n ∷ []) k h) (λ k e. subst (Contains (ks ++ n ∷ [])) (sym e) (Contains-push ks n)) (λ k h. ⊎_elim (λ d. inl d) (λ e. inr (sym e)) (Contains-push_cases ks n k h))
          c.args.counts.now.excused.items c.loop-place.counts.excused.items c.excuse.new.counts.excused.items
          c.args.counts.now.uses.items c.loop-place.counts.uses.items c.excuse.new.counts.uses.items c.args.counts.now.work c.loop-place.counts.work c.excuse.new.counts.work c.loop-place.invariant.0 c.in_ok-excuse.ensures,
      next_done ks c.loop-place.place-iterator _ c.args.places n c.in-Some.ensures.steps c.loop-place.invariant.1,
    )

pub returns : goal.returns
returns c = subst (λ ks. ExcusesMore c.args.keeps.now (λ k. Contains ks k) c.args.counts.now c.loop-place.counts) (all_done c.loop-place.yielded c.loop-place.place-iterator c.args.places c.in-None.ensures.steps.0 c.loop-place.invariant.1) c.loop-place.invariant.0
