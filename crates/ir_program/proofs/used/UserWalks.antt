-- Users are looked at as the walk over a thread goes on, and as the walk over all inside an entity does.
use Rattle.std.proofs.Common.{◌≡◌, ◌↔◌, ⊎_elim, ◌⊎◌, inl, inr, ℕ, ◌<◌, ◌+◌, true, List, [], ◌∷◌, length, Option, Some, None, IsSome, refl, sym, ap, ◌∙◌, subst, arith, slice_get, unwrap_or, option_map}
use Rattle.std.proofs.lemmas.Bool.{cases_eq}
use Rattle.std.proofs.lemmas.Option.{slice_get_within}
use Rattle.ir_arena.specs.declared.arena.Key.{Key}
use Rattle.ir_arena.specs.Arena.{get, held}
use Rattle.ir_entities.specs.Forest.{Forest, shape_of}
use Rattle.ir_entities.specs.Links.{has}
use Rattle.ir_entities.specs.Placed.{IsPlaced, place_at}
use Rattle.ir_entities.specs.Shape.{Shape, IsInside}
use Rattle.ir_entities.specs.Uses.{Uses, key_of, place_of, NamesDefinition, IsDefined, PlaceOfUse as UsePlace}
use Rattle.ir_entities.specs.Walk.{walk_of, places_from, IsOneOf}
use Rattle.ir_entities.specs.declared.forest.Place.{Place}
use Rattle.ir_entities.specs.declared.forest.Place.TheVariants.{Op, Block}
use Rattle.ir_program.specs.Erases.{MakeProgram, value_place, block_place}
use Rattle.ir_program.specs.Forgets.{threads_of, value_threads_in, block_threads_in}
use Rattle.ir_program.specs.UsersInside.{HaveUsers, IsApartAt}
use Rattle.ir_program.specs.declared.handles.Ptr.{Ptr}
use Rattle.ir_program.specs.declared.handles.BasicBlock.{BasicBlock}
use Rattle.ir_program.specs.declared.handles.Value.{Value}
use Rattle.ir_program.specs.declared.records.Definition.{Definition}
use Rattle.ir_program.specs.declared.records.OperationRecord.{OperationRecord}
use Rattle.ir_program.specs.declared.records.BlockRecord.{BlockRecord}
use Rattle.ir_program.specs.declared.records.RegionRecord.{RegionRecord}
use Rattle.ir_program.proofs.erased.ForgetSteps.{at-thread}
use Rattle.ir_program.proofs.erased.ForgetThreads.{values-at, blocks-at}
use Rattle.ir_program.proofs.erased.ForgetWalks.{all-first}
use Rattle.ir_program.proofs.made.Lent.{some_is, held-was}

-- the users of a thread's places are inside x, but for those of the places that are still to come
pub record AreSeen {K : Type 0} (s : Shape) (x : Place) (u : Uses K) (t : ℕ) (rest : List ℕ) : Type 0 where
  pub named : (p : ℕ) → has p rest ≡ true → NamesDefinition u p t
  pub seen : (p i k : ℕ) → place_of u p ≡ Some (place_at t i k) → (has p rest ≡ true) ⊎ IsInside s x (Op i)

-- what holds of the thread of each definition holds of each thread
pub each-thread : (P : ℕ → Type 0) (ds : List Definition) → ((j : ℕ) (d : Definition) → j < length ds → slice_get ds j ≡ Some d → P d.thread) → (t : ℕ) → has t (threads_of ds) ≡ true → P t
each-thread P ds all t h =
    let at : (j : ℕ) × (d : Definition) × (slice_get ds j ≡ Some d) × (d.thread ≡ t) = at-thread ds t h in
    subst P at.3 (all at.0 at.1 (slice_get_within ds at.0 at.1 at.2) at.2)

-- one definition more
pub one-more : (P : Definition → Type 0) (ds : List Definition) (n : ℕ) (d : Definition) → slice_get ds n ≡ Some d → P d → ((j : ℕ) (e : Definition) → j < n → slice_get ds j ≡ Some e → P e)
    → (j : ℕ) (e : Definition) → j < n + 1 → slice_get ds j ≡ Some e → P e
one-more P ds n d here holds below j e lt at = ⊎_elim
    (λ (same : j ≡ n). let s : Some d ≡ Some e = sym here ∙ ap (slice_get ds) (sym same) ∙ at in let q : d ≡ e = cc in subst P q holds)
    (λ ne. below j e (omega (arith, lt, ne)) at)
    (cases_eq j n)

module _ {O B : Type 0} (f : Forest (OperationRecord O) (BlockRecord B) RegionRecord) (u : Uses Value) (w : Uses (Ptr BasicBlock)) where
  -- so it is where the walk over what is inside x has come to `rest`
  abbrev pub IsApartUpTo : Place → List Place → Type 0
  IsApartUpTo x rest = (e : Place) → IsInside (shape_of f) x e → IsOneOf e rest ⊎ IsApartAt f u w x e

  have-users : (place : ℕ → Option UsePlace) (row : OperationRecord O → List ℕ) → IsPlaced place (λ i. unwrap_or (option_map row (held f.ops i)) []) → (p : ℕ) (at : UsePlace) → place p ≡ Some at → IsSome (held f.ops at.user)
  have-users place row placed p at here = by (held f.ops at.user) refl
    where
      by : (o : Option (OperationRecord O)) → held f.ops at.user ≡ o → IsSome (held f.ops at.user)
      by None none = let e : None ≡ Some p = sym (ap (λ o. slice_get (unwrap_or (option_map row o) []) at.index) none) ∙ placed.all p at here in cc
      by (Some o) some = rw some refl

  module _ (sound : MakeProgram f u w) where
    pub value-users : HaveUsers f u
    value-users = have-users (place_of u) (λ (r : OperationRecord O). r.operands.items) sound.1.operands

    pub target-users : HaveUsers f w
    target-users = have-users (place_of w) (λ (r : OperationRecord O). r.successors.items) sound.1.successors

  -- the threads of what stands in a slot
  pub result-threads : (at : Place) (i : ℕ) (k : Key) (r : OperationRecord O) → at ≡ Op i → k.slot ≡ i → Some r ≡ get f.ops k → value_threads_in f at ≡ threads_of r.results.items
  result-threads at i k r is slot here =
      let there : held f.ops i ≡ Some r = ap (held f.ops) (sym slot) ∙ held-was f.ops k r r (sym here) in
      ap (value_threads_in f) is ∙ ap (λ o. threads_of (unwrap_or (option_map (λ (x : OperationRecord O). x.results.items) o) [])) there

  pub argument-threads : (at : Place) (i : ℕ) (k : Key) (r : BlockRecord B) → at ≡ Block i → k.slot ≡ i → Some r ≡ get f.blocks k → value_threads_in f at ≡ threads_of r.arguments.items
  argument-threads at i k r is slot here =
      let there : held f.blocks i ≡ Some r = ap (held f.blocks) (sym slot) ∙ held-was f.blocks k r r (sym here) in
      ap (value_threads_in f) is ∙ ap (λ o. threads_of (unwrap_or (option_map (λ (x : BlockRecord B). x.arguments.items) o) [])) there

  module _ (sound : MakeProgram f u w) (at : Place) (t : ℕ) where
    pub value-defined : has t (value_threads_in f at) ≡ true → IsDefined u t
    value-defined h = let v : (v : Value) × (key_of u t ≡ Some v) × (value_place v ≡ at) = (values-at f u w sound at).stands t h in some_is (key_of u t) v.0 v.1

    pub block-defined : has t (block_threads_in f at) ≡ true → IsDefined w t
    block-defined h = let v : (v : Ptr BasicBlock) × (key_of w t ≡ Some v) × (block_place v ≡ at) = (blocks-at f u w sound at).stands t h in some_is (key_of w t) v.0 v.1

  -- before the first step of the walk, after one, and after the last
  module _ (x : Place) where
    pub apart-begins : ((e : Place) → IsOneOf e (walk_of f x) ↔ IsInside (shape_of f) x e) → places_from (Some x) (walk_of f x) ≡ walk_of f x → IsApartUpTo x (places_from (Some x) (walk_of f x))
    apart-begins all begins e inside = inl (all-first f x all begins e inside)

    pub apart-next : (here : Place) (at next : Option Place) → at ≡ Some here → places_from (Some here) (walk_of f x) ≡ here ∷ places_from next (walk_of f x)
        → IsApartAt f u w x here → IsApartUpTo x (places_from at (walk_of f x)) → IsApartUpTo x (places_from next (walk_of f x))
    apart-next here at next is rest apart done e inside = ⊎_elim
        (λ one. ⊎_elim
        (λ same. inr (subst (IsApartAt f u w x) (sym same) apart))
        inl
        (subst (IsOneOf e) (ap (λ o. places_from o (walk_of f x)) is ∙ rest) one))
        inr
        (done e inside)

    pub apart-over : (at : Option Place) → at ≡ None → IsApartUpTo x (places_from at (walk_of f x)) → (e : Place) → IsInside (shape_of f) x e → IsApartAt f u w x e
    apart-over at is done e inside = ⊎_elim (λ (h : IsOneOf e []). absurd h) (λ h. h) (subst (λ o. IsOneOf e (places_from o (walk_of f x)) ⊎ IsApartAt f u w x e) is (done e inside))
