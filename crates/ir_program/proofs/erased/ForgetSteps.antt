-- The threads of definitions go out of use one after the other.
use Rattle.std.proofs.Common.{◌≡◌, ◌≢◌, ⊎_elim, ℕ, ◌<◌, ◌+◌, true, List, length, Option, Some, None, IsSome, option_map, refl, sym, ap, ◌∙◌, subst, arith, slice_get}
use Rattle.std.proofs.lemmas.Bool.{cases_eq, both_ways}
use Rattle.std.proofs.lemmas.Option.{slice_get-map, slice_get_within}
use Rattle.ir_entities.specs.Links.{has}
use Rattle.ir_entities.specs.Uses.{Uses, key_of, place_of, named_of, NamesDefinition, IsDefined, SetsKey}
use Rattle.ir_program.specs.Forgets.{threads_of, AreUnnamed, ForgetsThreads}
use Rattle.ir_program.specs.declared.handles.Value.{Value}
use Rattle.ir_program.specs.declared.records.Definition.{Definition}
use Rattle.ir_program.proofs.lists.Slotted.{at_has, has_at, once_at}

-- the threads of the definitions up to index `to` are out of use; the others are as they were
pub record ForgetsTo (old new : Uses Value) (ds : List Definition) (to : ℕ) : Type 0 where
  pub places : new.places ≡ old.places
  pub gone : (j : ℕ) (d : Definition) → j < to → slice_get ds j ≡ Some d → key_of new d.thread ≡ None
  pub kept : (t : ℕ) → ((j : ℕ) (d : Definition) → j < to → slice_get ds j ≡ Some d → d.thread ≢ t) → key_of new t ≡ key_of old t

-- a definition has a thread, and a thread a definition
pub thread-at : (ds : List Definition) (j : ℕ) (d : Definition) → slice_get ds j ≡ Some d → slice_get (threads_of ds) j ≡ Some d.thread
thread-at ds j d at = slice_get-map (λ (x : Definition). x.thread) ds j ∙ ap (option_map (λ (x : Definition). x.thread)) at

pub has-thread : (ds : List Definition) (j : ℕ) (d : Definition) → slice_get ds j ≡ Some d → has d.thread (threads_of ds) ≡ true
has-thread ds j d at = at_has (threads_of ds) j d.thread (thread-at ds j d at)

pub at-thread : (ds : List Definition) (t : ℕ) → has t (threads_of ds) ≡ true → (j : ℕ) × (d : Definition) × (slice_get ds j ≡ Some d) × (d.thread ≡ t)
at-thread ds t h =
    let at : (j : ℕ) × (slice_get (threads_of ds) j ≡ Some t) = has_at (threads_of ds) t h in
    by at.0 at.1 (slice_get ds at.0) refl
  where
    by : (j : ℕ) → slice_get (threads_of ds) j ≡ Some t → (o : Option Definition) → slice_get ds j ≡ o → (j : ℕ) × (d : Definition) × (slice_get ds j ≡ Some d) × (d.thread ≡ t)
    by j at None none = let s : None ≡ Some t = sym (slice_get-map (λ (x : Definition). x.thread) ds j ∙ ap (option_map (λ (x : Definition). x.thread)) none) ∙ at in cc
    by j at (Some d) some = let s : Some d.thread ≡ Some t = sym (thread-at ds j d some) ∙ at in (j, d, some, cc)

-- nothing is named that was not
pub same-names : {K : Type 0} (old new : Uses K) (q t : ℕ) → new.places ≡ old.places → NamesDefinition new q t → NamesDefinition old q t
same-names old new q t places names = subst (λ ps. named_of (place_of (record old { places = ps }) q) ≡ Some t) places names

module _ (old new : Uses Value) (ds : List Definition) (k : ℕ) (d : Definition) (unnamed : AreUnnamed old (threads_of ds)) (done : ForgetsTo old new ds k) (at : slice_get ds k ≡ Some d) where
  -- the next thread is in use still, and no place names it
  pub forget-defined : IsDefined new d.thread
  forget-defined =
      let was : IsSome (key_of old d.thread) = unnamed.defined d.thread (has-thread ds k d at) in
      subst IsSome (sym (done.kept d.thread (λ j e lt here same.
      let one : j ≡ k = once_at (threads_of ds) j k d.thread unnamed.distinct (thread-at ds j e here ∙ ap Some same) (thread-at ds k d at) in
      omega (arith, one, lt)))) was

  pub forget-unnamed : (q : ℕ) → NamesDefinition new q d.thread → ⊥
  forget-unnamed q names = unnamed.unnamed d.thread q (has-thread ds k d at) (same-names old new q d.thread done.places names)

  -- one step of the loop
  pub forget-next : (later : Uses Value) → SetsKey new later d.thread None → later.places ≡ new.places → ForgetsTo old later ds (k + 1)
  forget-next later sets places = record {
    places = places ∙ done.places;
    gone = λ j e lt here. ⊎_elim
        (λ (same : e.thread ≡ d.thread). ap (key_of later) same ∙ sets.changed)
        (λ ne. let less : j ≢ k = λ one. ne (let s : Some e ≡ Some d = sym here ∙ ap (slice_get ds) one ∙ at in let q : e ≡ d = cc in ap (λ (x : Definition). x.thread) q) in
        sets.others e.thread ne ∙ done.gone j e (below j lt less) here)
        (cases_eq e.thread d.thread);
    kept = λ t free. sets.others t (λ same. free k d (omega arith) at (sym same)) ∙ done.kept t (λ j e lt here. free j e (omega (arith, lt)) here);
  }
    where
      below : (j : ℕ) → j < k + 1 → j ≢ k → j < k
      below j lt ne = ⊎_elim (λ e. absurd (ne e)) (λ _. omega (arith, lt, ne)) (cases_eq j k)

-- before the first step, and after the last
pub forget-begins : (u : Uses Value) (ds : List Definition) → ForgetsTo u u ds 0
forget-begins u ds = record { places = refl; gone = λ j d lt here. absurd (omega (arith, lt)); kept = λ t free. refl }

pub forget-over : (old new : Uses Value) (ds : List Definition) → ForgetsTo old new ds (length ds) → ForgetsThreads old new (threads_of ds)
forget-over old new ds done = record {
  places = done.places;
  gone = λ t h.
      let at : (j : ℕ) × (d : Definition) × (slice_get ds j ≡ Some d) × (d.thread ≡ t) = at-thread ds t h in
      subst (λ x. key_of new x ≡ None) at.3 (done.gone at.0 at.1 (slice_get_within ds at.0 at.1 at.2) at.2);
  kept = λ t h. done.kept t (λ j d lt here same. both_ways (has t (threads_of ds)) h (subst (λ x. has x (threads_of ds) ≡ true) same (has-thread ds j d here)));
}
