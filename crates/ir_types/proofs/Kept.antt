-- A value that is put among others unless an equal one is there: what that comes to, by the key or the handle that is answered.
use Rattle.std.proofs.Common.{true≢false, ◌≡◌, ◌↔◌, ℕ, ◌<◌, Bool, true, false, cond, List, [], ◌∷◌, ◌++◌, length, slice_get, Result, Ok, Err, IfOk, OnOk, OnErr, Option, Some, None, refl, sym, ap, ◌∙◌, arith, length-append}
use Rattle.std.specs.Cmp.{IsEquivalence}
use Rattle.std.specs.List.{IsDistinct, list_any, position_or_len}
use Rattle.indexmap.specs.IndexSet.{insert_key}
use Rattle.ir_types.specs.Views.{TypesView}
use Rattle.ir_types.specs.Interned.{with_type}
use Rattle.ir_types.proofs.Places.{once_from_distinct, found, first_place, place-of_key, place-fresh, insert_key-found, slice_get-insert_key, slice_get-append_within}

-- names of places, each with the number of its own
module _ {K R E : Type 0} (eq : K → K → Bool) (laws : IsEquivalence eq) (number : R → ℕ) (one_name : (r s : R) → number r ≡ number s → r ≡ s) (old : List K) (key : K) where
  -- a key that is there is answered by its name
  pub known_name : IsDistinct eq old → (result : Result R E) → IfOk result (λ r. number r ≡ position_or_len (eq key) old) → OnErr result (list_any (eq key) old ≡ false)
      → (r : R) (kept : K) → slice_get old (number r) ≡ Some kept → eq key kept ≡ true → result ≡ Ok r
  known_name distinct (Ok x) place absent r kept e same = ap Ok (one_name x r (place ∙ first_place eq laws old (once_from_distinct eq laws old distinct) key (number r) kept e same))
  known_name distinct (Err x) place absent r kept e same = absurd (true≢false (sym (found eq laws old (once_from_distinct eq laws old distinct) key (number r) kept e same) ∙ absent))

  -- a key that isn't there is answered by the next name
  pub next_name : (next : R) → number next ≡ length old → (result : Result R E) → IfOk result (λ r. number r ≡ position_or_len (eq key) old) → list_any (eq key) old ≡ false → IfOk result (λ r. r ≡ next)
  next_name next is (Ok x) place absent = one_name x next (place ∙ place-fresh (eq key) old key absent ∙ sym is)
  next_name next is (Err x) place absent = tt

  -- the name that is answered is that of the place
  pub name_of_place : (named : R) → number named ≡ position_or_len (eq key) old → (result : Result R E) → IfOk result (λ r. number r ≡ position_or_len (eq key) old) → IfOk result (λ r. r ≡ named)
  name_of_place named is (Ok x) place = one_name x named (place ∙ sym is)
  name_of_place named is (Err x) place = tt

  -- keys are equal exactly where they have the name that is answered
  pub one_name_each : (new : List K) → IsDistinct eq new → (result : Result R E) → IfOk result (λ r. (held : K) × (slice_get new (number r) ≡ Some held) × (eq key held ≡ true))
      → IfOk result (λ r. (other : R) (kept : K) → slice_get new (number other) ≡ Some kept → ((other ≡ r) ↔ (eq key kept ≡ true)))
  one_name_each new distinct (Ok x) equal = λ other kept e.
      let both = place-of_key eq laws new (once_from_distinct eq laws new distinct) key equal.0 (number x) equal.1 equal.2 (number other) kept e in (
        λ h. both.0 (ap number h),
        λ h. one_name other x (both.1 h),
      )
  one_name_each new distinct (Err x) equal = tt

module _ {K R E : Type 0} (eq : K → K → Bool) (old new : List K) (key : K) (result : Result R E) where
  -- where a key is there, nothing changes
  pub same_keys : OnOk result (new ≡ insert_key eq old key) → OnErr result (new ≡ old) → list_any (eq key) old ≡ true → new ≡ old
  same_keys ok err there = by result ok err
    where
      by : (r : Result R E) → OnOk r (new ≡ insert_key eq old key) → OnErr r (new ≡ old) → new ≡ old
      by (Ok x) is _ = is ∙ insert_key-found eq old key there
      by (Err x) _ is = is

  -- each key keeps its place
  pub kept_keys : OnOk result (new ≡ insert_key eq old key) → OnErr result (new ≡ old) → (i : ℕ) (x : K) → slice_get old i ≡ Some x → slice_get new i ≡ Some x
  kept_keys ok err i x e = by result ok err
    where
      by : (r : Result R E) → OnOk r (new ≡ insert_key eq old key) → OnErr r (new ≡ old) → slice_get new i ≡ Some x
      by (Ok y) is _ = rw is (slice_get-insert_key eq old key i x e)
      by (Err y) _ is = rw is e

module _ {K B R E : Type 0} (eq : K → K → Bool) (keys more_keys : List K) (bodies more_bodies : List (Option B)) (key : K) (result : Result R E) where
  -- the types with this key among them, from their lists
  pub types_with : {S : Type 0} (saved : List S) → OnOk result (more_keys ≡ insert_key eq keys key) → OnOk result (more_bodies ≡ cond (list_any (eq key) keys) bodies (bodies ++ None ∷ []))
      → let before : TypesView K B S = record { keys = keys; bodies = bodies; saved = saved } in let after : TypesView K B S = record { keys = more_keys; bodies = more_bodies; saved = saved } in OnOk result (after ≡ with_type eq before key)
  types_with {S} saved new_keys new_bodies = by result new_keys new_bodies
    where
      before : TypesView K B S
      before = record { keys = keys; bodies = bodies; saved = saved }

      after : TypesView K B S
      after = record { keys = more_keys; bodies = more_bodies; saved = saved }

      chosen : (b : Bool) → more_keys ≡ cond b keys (keys ++ key ∷ []) → more_bodies ≡ cond b bodies (bodies ++ None ∷ [])
          → after ≡ cond b before (record { keys = keys ++ key ∷ []; bodies = bodies ++ None ∷ []; saved = saved })
      chosen true e f = λ j. record { keys = e j; bodies = f j; saved = saved }
      chosen false e f = λ j. record { keys = e j; bodies = f j; saved = saved }

      by : (r : Result R E) → OnOk r (more_keys ≡ insert_key eq keys key) → OnOk r (more_bodies ≡ cond (list_any (eq key) keys) bodies (bodies ++ None ∷ []))
          → OnOk r (after ≡ with_type eq before key)
      by (Ok x) e f = chosen (list_any (eq key) keys) e f
      by (Err x) e f = tt

  module _ (ok : OnOk result (more_bodies ≡ cond (list_any (eq key) keys) bodies (bodies ++ None ∷ []))) (err : OnErr result (more_bodies ≡ bodies)) where
    -- where the key is there, the bodies stay
    pub same_bodies : list_any (eq key) keys ≡ true → more_bodies ≡ bodies
    same_bodies there = by result ok err
      where
        by : (r : Result R E) → OnOk r (more_bodies ≡ cond (list_any (eq key) keys) bodies (bodies ++ None ∷ [])) → OnErr r (more_bodies ≡ bodies) → more_bodies ≡ bodies
        by (Ok x) is _ = is ∙ ap (λ b. cond b bodies (bodies ++ None ∷ [])) there
        by (Err x) _ is = is

    -- each body stays
    pub kept_bodies : (i : ℕ) → i < length bodies → slice_get more_bodies i ≡ slice_get bodies i
    kept_bodies i within = by result ok err
      where
        chosen : (b : Bool) → slice_get (cond b bodies (bodies ++ None ∷ [])) i ≡ slice_get bodies i
        chosen true = refl
        chosen false = slice_get-append_within bodies (None ∷ []) i within

        by : (r : Result R E) → OnOk r (more_bodies ≡ cond (list_any (eq key) keys) bodies (bodies ++ None ∷ [])) → OnErr r (more_bodies ≡ bodies) → slice_get more_bodies i ≡ slice_get bodies i
        by (Ok x) is _ = rw is (chosen (list_any (eq key) keys))
        by (Err x) _ is = rw is

    -- each key has a place for a body
    pub kept_lengths : OnOk result (more_keys ≡ insert_key eq keys key) → OnErr result (more_keys ≡ keys) → length keys ≡ length bodies → length more_keys ≡ length more_bodies
    kept_lengths keys_ok keys_err fits = by result keys_ok keys_err ok err
      where
        chosen : (b : Bool) → length (cond b keys (keys ++ key ∷ [])) ≡ length (cond b bodies (bodies ++ None ∷ []))
        chosen true = fits
        chosen false = grind (arith, length-append)

        by : (r : Result R E) → OnOk r (more_keys ≡ insert_key eq keys key) → OnErr r (more_keys ≡ keys) → OnOk r (more_bodies ≡ cond (list_any (eq key) keys) bodies (bodies ++ None ∷ [])) → OnErr r (more_bodies ≡ bodies)
            → length more_keys ≡ length more_bodies
        by (Ok x) e _ f _ = ap length e ∙ chosen (list_any (eq key) keys) ∙ ap length (sym f)
        by (Err x) _ e _ f = ap length e ∙ fits ∙ ap length (sym f)
