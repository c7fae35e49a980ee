use Rattle.std.proofs.Common.{◌≡◌, ◌⊎◌, inl, inr, ⊎_elim, ℕ, ◌≤◌, ◌<◌, ◌+◌, rules, subst, arith}
use Rattle.opt_steps.specs.DeadRelease.{ExcusesMore}
use Rattle.opt_steps.proofs.DeadReleasing.{nothing_excused, excused_then}
use Rattle.opt_steps.proofs.dead_release.excuse_between.Goals as goal

pub loop-place-init : goal.loop-place-init
loop-place-init c = nothing_excused c.args.keeps.now c.args.counts.now.excused.items c.args.counts.now.uses.items c.args.counts.now.work c.requires.counts (λ k. (c.args.from ≤ k) × (k < c.args.from)) (λ k (f, t). absurd (omega (arith, f, t)))

pub loop-place-preserved : goal.loop-place-preserved
loop-place-preserved c =
    let n = c.loop-place.place in let l : c.args.from ≤ n = search rules in
    excused_then c.args.keeps.now (λ k. (c.args.from ≤ k) × (k < n)) (λ k. k ≡ n) (λ k. (c.args.from ≤ k) × (k < n + 1))
    (λ k (f, t). (f, omega (arith, t))) (λ k e. (omega (arith, e, l), omega (arith, e))) (λ k (f, t). ⊎_elim (λ s. inl (f, s)) (λ e. inr e) (below_or k n t))
    c.args.counts.now.excused.items c.loop-place.counts.excused.items c.excuse.new.counts.excused.items
    c.args.counts.now.uses.items c.loop-place.counts.uses.items c.excuse.new.counts.uses.items c.args.counts.now.work c.loop-place.counts.work c.excuse.new.counts.work c.loop-place.invariant c.in_ok-excuse.ensures
  where
    below_or : (k n : ℕ) → k < n + 1 → (k < n) ⊎ (k ≡ n)
    below_or k n h = grind arith

pub returns : goal.returns
returns c =
    let e : c.loop-place.place ≡ c.args.to = search rules in
    subst (λ n. ExcusesMore c.args.keeps.now (λ k. (c.args.from ≤ k) × (k < n)) c.args.counts.now c.loop-place.counts) e c.loop-place.invariant
