-- Threads go out of use as the walk over all inside an entity goes on.
use Rattle.std.proofs.Common.{◌≡◌, ◌↔◌, ⊎_elim, inl, inr, ℕ, ◌<◌, true, List, ◌∷◌, length, Option, Some, None, IfSome, refl, sym, ap, ◌∙◌, subst, arith}
use Rattle.std.proofs.lemmas.Bool.{cases_Bool, both_ways}
use Rattle.ir_entities.specs.declared.forest.Place.{Place}
use Rattle.ir_entities.specs.Shape.{Shape, IsInside, itself}
use Rattle.ir_entities.specs.Forest.{Forest, HoldsInUse, shape_of}
use Rattle.ir_entities.specs.Links.{has, AreDistinctNumbers}
use Rattle.ir_entities.specs.Uses.{Uses, key_of}
use Rattle.ir_entities.specs.Walk.{walk_of, places_from, AreOnce, IsOneOf}
use Rattle.ir_program.specs.Erases.{NoneNames}
use Rattle.ir_program.specs.Forgets.{AreUnnamed, ForgetsThreads}
use Rattle.ir_program.proofs.erased.DropWalks.{once-from}
use Rattle.ir_program.proofs.erased.ForgetSteps.{same-names}

-- the threads are those of the keys that stand at a place, each once
pub record AreThreadsAt {K : Type 0} (place : K → Place) (at : Place) (u : Uses K) (threads : List ℕ) : Type 0 where
  pub distinct : AreDistinctNumbers threads
  pub stands : (t : ℕ) → has t threads ≡ true → (v : K) × (key_of u t ≡ Some v) × (place v ≡ at)
  pub all : (t : ℕ) (v : K) → key_of u t ≡ Some v → place v ≡ at → has t threads ≡ true

-- so it is where the walk over what is inside x has come to `rest`
pub record ForgetsUpTo {K : Type 0} (s : Shape) (x : Place) (place : K → Place) (old new : Uses K) (rest : List Place) : Type 0 where
  pub places : new.places ≡ old.places
  pub gone : (t : ℕ) (v : K) → key_of old t ≡ Some v → IsInside s x (place v) → (IsOneOf (place v) rest → ⊥) → key_of new t ≡ None
  pub kept : (t : ℕ) (v : K) → key_of old t ≡ Some v → IsOneOf (place v) rest → key_of new t ≡ Some v
  pub outside : (t : ℕ) (v : K) → key_of old t ≡ Some v → (IsInside s x (place v) → ⊥) → key_of new t ≡ Some v
  pub known : (t : ℕ) (v : K) → key_of new t ≡ Some v → key_of old t ≡ Some v

one_key : {K : Type 0} (o : Option K) (v w : K) → o ≡ Some v → o ≡ Some w → w ≡ v
one_key o v w h g = let s : Some w ≡ Some v = sym g ∙ h in cc

module _ {K : Type 0} (s : Shape) (x : Place) (place : K → Place) (old new : Uses K) where
  module _ (at : Place) (rest : List Place) (threads : List ℕ) (once : AreOnce (at ∷ rest)) (inside : IsInside s x at) (done : ForgetsUpTo s x place old new (at ∷ rest)) (here : AreThreadsAt place at old threads) where
    -- the threads at the next place are in use still, and no place names one of them
    forgets-unnamed : NoneNames s x place old → AreUnnamed new threads
    forgets-unnamed unnamed = record {
      distinct = here.distinct;
      defined = λ t h.
          let v = here.stands t h in
          let key : key_of new t ≡ Some v.0 = done.kept t v.0 v.1 (inl v.2) in
          rw key refl;
      unnamed = λ t q h names.
          let v = here.stands t h in
          unnamed t q v.0 v.1 (subst (IsInside s x) (sym v.2) inside) (same-names old new q t done.places names);
    }

    stood : (t : ℕ) (v : K) → key_of old t ≡ Some v → has t threads ≡ true → place v ≡ at
    stood t v key h =
        let w = here.stands t h in
        ap place (one_key (key_of old t) w.0 v w.1 key) ∙ w.2

    -- one step of the walk
    forgets-step : (later : Uses K) → ForgetsThreads new later threads → ForgetsUpTo s x place old later rest
    forgets-step later forgets = record {
      places = forgets.places ∙ done.places;
      gone = λ t v key in_x free. ⊎_elim
          (λ h. forgets.gone t h)
          (λ h. forgets.kept t h ∙ done.gone t v key in_x (λ one. ⊎_elim (λ same. both_ways (has t threads) h (here.all t v key same)) free one))
          (cases_Bool (has t threads));
      kept = λ t v key one. ⊎_elim
          (λ h. absurd (once.0 (subst (λ z. IsOneOf z rest) (stood t v key h) one)))
          (λ h. forgets.kept t h ∙ done.kept t v key (inr one))
          (cases_Bool (has t threads));
      outside = λ t v key out. ⊎_elim
          (λ h. absurd (out (subst (IsInside s x) (sym (stood t v key h)) inside)))
          (λ h. forgets.kept t h ∙ done.outside t v key out)
          (cases_Bool (has t threads));
      known = λ t v key. ⊎_elim
          (λ h. let c : None ≡ Some v = sym (forgets.gone t h) ∙ key in cc)
          (λ h. done.known t v (sym (forgets.kept t h) ∙ key))
          (cases_Bool (has t threads));
    }

-- before the first step
pub forgets-begins : {K : Type 0} (s : Shape) (x : Place) (place : K → Place) (u : Uses K) (rest : List Place) → ((e : Place) → IsInside s x e → IsOneOf e rest) → ForgetsUpTo s x place u u rest
forgets-begins s x place u rest all = record {
  places = refl;
  gone = λ t v key inside free. absurd (free (all (place v) inside));
  kept = λ t v key one. key;
  outside = λ t v key out. key;
  known = λ t v key. key;
}

-- what holds where the walk of x has come to `at`: it stands inside x, and none that comes after it has come before
pub record IsAt {O B R : Type 0} (f : Forest O B R) (x : Place) (at : Option Place) : Type 0 where
  pub stands : IfSome at (λ k. HoldsInUse f k × IsInside (shape_of f) x k)
  pub once : AreOnce (places_from at (walk_of f x))

module _ {O B R : Type 0} (f : Forest O B R) (x : Place) where
  pub at-first : HoldsInUse f x → AreOnce (walk_of f x) → IsAt f x (Some x)
  at-first used once = record { stands = (used, itself); once = once-from (Some x) (walk_of f x) once }

  pub all-first : ((e : Place) → IsOneOf e (walk_of f x) ↔ IsInside (shape_of f) x e) → places_from (Some x) (walk_of f x) ≡ walk_of f x → (e : Place) → IsInside (shape_of f) x e → IsOneOf e (places_from (Some x) (walk_of f x))
  all-first all begins e inside = subst (IsOneOf e) (sym begins) ((all e).1 inside)

  module _ (here : Place) (at next : Option Place) (is : at ≡ Some here) (come : IsAt f x at)
      (rest : places_from (Some here) (walk_of f x) ≡ here ∷ places_from next (walk_of f x)) where
    goes-on : places_from at (walk_of f x) ≡ here ∷ places_from next (walk_of f x)
    goes-on = ap (λ o. places_from o (walk_of f x)) is ∙ rest

    once-here : AreOnce (here ∷ places_from next (walk_of f x))
    once-here = subst AreOnce goes-on come.once

    stands-here : HoldsInUse f here × IsInside (shape_of f) x here
    stands-here = subst (λ o. IfSome o (λ k. HoldsInUse f k × IsInside (shape_of f) x k)) is come.stands

    pub at-next : IfSome next (λ k. HoldsInUse f k × IsInside (shape_of f) x k) → IsAt f x next
    at-next inside = record { stands = inside; once = once-here.1 }

    pub at-less : length (places_from next (walk_of f x)) < length (places_from at (walk_of f x))
    at-less = let e : length (places_from at (walk_of f x)) ≡ length (here ∷ places_from next (walk_of f x)) = ap length goes-on in omega (arith, e)

    module _ {K : Type 0} (place : K → Place) (old new : Uses K) (threads : List ℕ) (done : ForgetsUpTo (shape_of f) x place old new (places_from at (walk_of f x))) (stand : AreThreadsAt place here old threads) where
      up-to-here : ForgetsUpTo (shape_of f) x place old new (here ∷ places_from next (walk_of f x))
      up-to-here = subst (ForgetsUpTo (shape_of f) x place old new) goes-on done

      pub unnamed-here : NoneNames (shape_of f) x place old → AreUnnamed new threads
      unnamed-here = forgets-unnamed (shape_of f) x place old new here (places_from next (walk_of f x)) threads once-here stands-here.1 up-to-here stand

      pub step-here : (later : Uses K) → ForgetsThreads new later threads → ForgetsUpTo (shape_of f) x place old later (places_from next (walk_of f x))
      step-here = forgets-step (shape_of f) x place old new here (places_from next (walk_of f x)) threads once-here stands-here.1 up-to-here stand
