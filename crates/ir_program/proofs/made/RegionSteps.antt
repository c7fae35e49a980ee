-- What a loop that adds one region at a time has added.
use Rattle.std.proofs.Common.{◌≡◌, ◌≢◌, ℕ, zero, suc, ◌+◌, ◌<◌, ◌⊎◌, inl, inr, ⊎_elim, List, [], ◌∷◌, ◌++◌, length, Some, None, option_map, slice_get, Result, Ok, Err, OnErr, refl, sym, ap, ◌∙◌, subst, append_assoc, append-nil, length-append}
use Rattle.ir_arena.specs.Arena.{IsSpent}
use Rattle.ir_program.specs.Program.{Program, OperationView, operation_at, region_at}
use Rattle.ir_program.specs.Edits.{IsUnchanged}
use Rattle.ir_program.specs.Made.{IsNoneOf, MakesRegion, MakesRegions, AddsRegions, AddsRegionCount, AddsFewerRegions}
use Rattle.ir_program.specs.declared.handles.Ptr.{Ptr}
use Rattle.ir_program.specs.declared.handles.Operation.{Operation}
use Rattle.ir_program.specs.declared.handles.Region.{Region}
use Rattle.ir_program.proofs.made.Frames.{same_or_not}
use Rattle.ir_program.proofs.defined.KeptTypes.{regions_more-types, unchanged-types}
use Rattle.ir_program.proofs.made.AddSteps.{erased-then, kept-erased, map-then, map-same_as}

-- one more handle at the end of a list
at_last : {X : Type 0} (xs : List X) (y : X) → slice_get (xs ++ y ∷ []) (length xs) ≡ Some y
at_last [] y = refl
at_last (x ∷ xs) y = at_last xs y

at_earlier : {X : Type 0} (xs : List X) (y x : X) (k : ℕ) → slice_get xs k ≡ Some x → slice_get (xs ++ y ∷ []) k ≡ Some x
at_earlier [] y x k h = cc
at_earlier (z ∷ xs) y x zero h = h
at_earlier (z ∷ xs) y x (suc k) h = at_earlier xs y x k h

earlier_or_last : {X : Type 0} (xs : List X) (y x : X) (k : ℕ) → slice_get (xs ++ y ∷ []) k ≡ Some x → (slice_get xs k ≡ Some x) ⊎ ((k ≡ length xs) × (x ≡ y))
earlier_or_last [] y x zero h = let is : x ≡ y = cc in inr (refl, is)
earlier_or_last [] y x (suc k) h = cc
earlier_or_last (z ∷ xs) y x zero h = inl h
earlier_or_last (z ∷ xs) y x (suc k) h = ⊎_elim (λ e. inl e) (λ e. inr (ap suc e.0, e.1)) (earlier_or_last xs y x k h)

neither : {E : Type 0} (p q : Ptr E) (ps : List (Ptr E)) → p ≢ q → IsNoneOf ps q → IsNoneOf (p ∷ ps) q
neither p q ps ne none zero h = let is : p ≡ q = cc in ne is
neither p q ps ne none (suc k) h = none k h

-- the handle is one of these, or none of them
pub one_or_none : {E : Type 0} (ps : List (Ptr E)) (q : Ptr E) → ((k : ℕ) × (slice_get ps k ≡ Some q)) ⊎ IsNoneOf ps q
one_or_none [] q = inr (λ k h. cc)
one_or_none (p ∷ ps) q = ⊎_elim
    (λ (e : p ≡ q). inl (0, ap Some e))
    (λ ne. ⊎_elim (λ at. inl (suc at.0, at.1)) (λ none. inr (neither p q ps ne none)) (one_or_none ps q))
    (same_or_not p q)

module _ {O B : Type 0} where
  pub regions-none : (c : Program O B) (p : Ptr Operation) → AddsRegions c c p []
  regions-none c p = record {
    regions = record { fresh = λ k r h. cc; unspent = λ k r h. cc; distinct = λ j k r h i. cc; made = λ k r h. cc; others = λ q none. refl };
    holder = map-same_as _ (λ (o : OperationView O). ap (λ l. record o { regions = l }) (sym (append-nil o.regions))) (operation_at c p);
    operations = λ q ne. refl;
    blocks = λ q. refl;
    types = λ v. refl;
    erased = kept-erased c;
    counter = refl;
  }

  module _ (a b c : Program O B) (p : Ptr Operation) (rs : List (Ptr Region)) (adds : AddsRegions a b p rs) where
    made-next : (r : Ptr Region) → MakesRegion b c p r → MakesRegions a c (rs ++ r ∷ [])
    made-next r makes = record {
      fresh = λ k q h. ⊎_elim (λ e. adds.regions.fresh k q e) (λ e. subst (λ x. region_at a x ≡ None) (sym e.1) (sym (adds.regions.others r apart) ∙ makes.fresh)) (earlier_or_last rs r q k h);
      unspent = λ k q h. ⊎_elim (λ e. adds.regions.unspent k q e) (λ e s. makes.unspent (subst (λ (x : Ptr Region). IsSpent b.forest.regions x.key) e.1 (adds.erased.regions q.key s))) (earlier_or_last rs r q k h);
      distinct = λ j k q h i. ⊎_elim
          (λ e. ⊎_elim (λ f. adds.regions.distinct j k q e f) (λ f. absurd (apart j (e ∙ ap Some f.1))) (earlier_or_last rs r q k i))
          (λ e. ⊎_elim (λ f. absurd (apart k (f ∙ ap Some e.1))) (λ f. e.0 ∙ sym f.0) (earlier_or_last rs r q k i))
          (earlier_or_last rs r q j h);
      made = λ k q h. ⊎_elim
          (λ e. makes.others q (λ is. apart k (e ∙ ap Some is)) ∙ adds.regions.made k q e)
          (λ e. subst (λ x. region_at c x ≡ Some (record { blocks = [] })) (sym e.1) makes.made)
          (earlier_or_last rs r q k h);
      others = λ q none. makes.others q (λ is. none (length rs) (at_last rs r ∙ ap Some (sym is))) ∙ adds.regions.others q (λ k h. none k (at_earlier rs r q k h));
    }
      where
        -- the last one is none of the others, since it led to nothing before
        apart : IsNoneOf rs r
        apart k h = let none : region_at b r ≡ None = makes.fresh in let there : region_at b r ≡ Some (record { blocks = [] }) = adds.regions.made k r h in cc

    pub regions-next : (r : Ptr Region) → MakesRegion b c p r → AddsRegions a c p (rs ++ r ∷ [])
    regions-next r makes = record {
      regions = made-next r makes;
      holder = makes.holder ∙ ap (option_map _) adds.holder ∙ map-then _ _ _ (λ (o : OperationView O). ap (λ l. record o { regions = l }) (append_assoc o.regions rs (r ∷ []))) (operation_at a p);
      operations = λ q ne. makes.operations q ne ∙ adds.operations q ne;
      blocks = λ q. makes.blocks q ∙ adds.blocks q;
      types = λ v. regions_more-types b c p (r ∷ []) makes.holder makes.operations makes.blocks v ∙ adds.types v;
      erased = erased-then a b c adds.erased makes.erased;
      counter = makes.counter ∙ adds.counter;
    }

    -- where nothing changed since, the same was added
    pub regions-still : IsUnchanged b c → AddsRegions a c p rs
    regions-still same = record {
      regions = record {
        fresh = adds.regions.fresh;
        unspent = adds.regions.unspent;
        distinct = adds.regions.distinct;
        made = λ k r h. same.regions r ∙ adds.regions.made k r h;
        others = λ q none. same.regions q ∙ adds.regions.others q none;
      };
      holder = same.operations p ∙ adds.holder;
      operations = λ q ne. same.operations q ∙ adds.operations q ne;
      blocks = λ q. same.blocks q ∙ adds.blocks q;
      types = λ v. unchanged-types b c same v ∙ adds.types v;
      erased = erased-then a b c adds.erased same.erased;
      counter = same.counter ∙ adds.counter;
    }

  -- as many as came, with one more
  pub count-next : (a b c : Program O B) (p : Ptr Operation) (n : ℕ) (r : Ptr Region) → AddsRegionCount a b p n → MakesRegion b c p r → AddsRegionCount a c p (n + 1)
  count-next a b c p n r adds makes = (adds.0 ++ r ∷ [], length-append adds.0 (r ∷ []) ∙ ap (λ (m : ℕ). m + 1) adds.1, regions-next a b c p adds.0 adds.2 r makes)

  -- what came before an error came
  pub fewer-came : {T E : Type 0} (x : Result T E) (a b c : Program O B) (p : Ptr Operation) (n m : ℕ) → n < m → AddsRegionCount a b p n → IsUnchanged b c → OnErr x (AddsFewerRegions a c p m)
  fewer-came (Ok t) a b c p n m lt adds same = tt
  fewer-came (Err e) a b c p n m lt adds same = (adds.0, subst (λ (k : ℕ). k < m) (sym adds.1) lt, regions-still a b c p adds.0 adds.2 same)
