-- What is kept of a cache after a pass is fresh, where what the pass lists is.
use Rattle.std.proofs.Common.{◌≡◌, Bool, true, false, cond, ◌&&◌, List, Option, Some, None, refl, sym, ap, subst, ◌∙◌}
use Rattle.std.proofs.lemmas.Map.Entries.{lookup-filter-keys}
use Rattle.ir_program.specs.declared.handles.Operation.{Operation}
use Rattle.ir_program.specs.declared.handles.Ptr.{Ptr}
use Rattle.opt_dialect.specs.Statuses.{either}
use Rattle.opt_dialect.specs.declared.status.IRStatus.{IRStatus}
use Rattle.opt_dialect.specs.declared.status.IRStatus.TheVariants.{Unchanged, Changed}
use Rattle.pass_analyses.specs.Cached.{Entries, cached, is_listed, of_kinds, same_handle, same_key}
use Rattle.pass_analyses.specs.Fresh.{AllFresh, ListedFresh}
use Rattle.pass_managers.specs.Behaviour.{AnswerIn, ContextIn, ManagerIn, PassTypes}
use Rattle.pass_managers.specs.Laws.{KindsEqual, ReadingIn}
use Rattle.pass_managers.specs.Running.{Retains}

-- neither of two statuses is a change
pub either_unchanged : (t u : IRStatus) → either t u ≡ Unchanged → (t ≡ Unchanged) × (u ≡ Unchanged)
either_unchanged Unchanged u e = (refl, e)
either_unchanged Changed u e = absurd (cc e)

-- a kind that is listed is cached as it was, and no other
kept_of : {K E : Type 0} (eq : K → K → Bool) (same : (j k : K) → eq j k ≡ true → j ≡ k) (ks : List K) (es : Entries K E) (k : K)
    (p : Ptr Operation) → cached eq (of_kinds eq ks es) k p ≡ cond (is_listed eq ks k) (cached eq es k p) None
kept_of eq same ks es k p = lookup-filter-keys (same_key eq (k, p)) (λ key. is_listed eq ks key.0) (is_listed eq ks k)
    (λ key is. let one : k ≡ key.0 = same k key.0 (first (eq k key.0) (same_handle p key.1) is) in ap (λ j. is_listed eq ks j) (sym one)) es
  where
    first : (a b : Bool) → (a && b) ≡ true → a ≡ true
    first true b e = refl
    first false b e = absurd (cc e)

split : {X : Type 0} (b : Bool) (o : Option X) (a : X) → cond b o None ≡ Some a → (b ≡ true) × (o ≡ Some a)
split true o a h = (refl, h)
split false o a h = absurd (cc h)

module _ (s : PassTypes) (eq : KindsEqual s) (same : (j k : s.kind) → eq j k ≡ true → j ≡ k) (reading : ReadingIn s) where
  pub retained_fresh : (d : ContextIn s) (r : AnswerIn s) (l k : ManagerIn s) → Retains s eq r l k
      → ListedFresh eq reading.gives r.preserved.items d l.analyses.entries.entries
      × (r.ir_changed ≡ Unchanged → AllFresh eq reading.gives d l.analyses.entries.entries)
      → AllFresh eq reading.gives d k.analyses.entries.entries
  retained_fresh d r l k keeps fresh = by r.ir_changed refl
    where
      by : (t : IRStatus) → r.ir_changed ≡ t → AllFresh eq reading.gives d k.analyses.entries.entries
      by Unchanged e = subst (λ (n : ManagerIn s). AllFresh eq reading.gives d n.analyses.entries.entries) (sym (keeps.unchanged e)) (fresh.1 e)
      by Changed e = λ j p a is live.
          let es = l.analyses.entries.entries in
          let kept : cond (is_listed eq r.preserved.items j) (cached eq es j p) None ≡ Some a =
          sym (ap (λ fs. cached eq fs j p) (keeps.changed e) ∙ kept_of eq same r.preserved.items es j p) ∙ is in
          let both = split (is_listed eq r.preserved.items j) (cached eq es j p) a kept in
          fresh.0 j p a both.0 both.1 live
