-- Lists of slots, and the lists of the handles of what is in them.
use Rattle.std.proofs.Common.{◌≡◌, ◌≢◌, ℕ, zero, suc, ◌<◌, ◌+◌, ◌-◌, ⊎_elim, true, false, eqb, List, [], ◌∷◌, map, length, Option, Some, None, IsSome, option_map, unwrap_or, slice_get, insert, remove, take, drop, set, refl, sym, ap, ◌∙◌, arith, add-one}
use Rattle.std.proofs.lemmas.Bool.{eqb-true, eq-eqb, ne_eqb, or_left, or_right, or_parts, or_cases, cases_Bool, both_ways}
use Rattle.std.proofs.lemmas.List.{get_or-set_same, get_or-set_other, map-append, take-map, drop-map}
use Rattle.std.proofs.lemmas.Option.{slice_get-map, slice_get_within, unwrap_or-slice_get}
use Rattle.std.specs.List.{AllWithin, HoldsAt}
use Rattle.ir_arena.specs.declared.arena.Key.{Key}
use Rattle.ir_arena.specs.declared.arena.Slot.{Slot}
use Rattle.ir_arena.specs.Arena.{get, held, slot_at}
use Rattle.ir_entities.specs.Links.{has, list_at, first_or, last_or, next_in, prev_in, prev_from, put_after, put_before, without, AreDistinctNumbers, AreApart}
use Rattle.ir_entities.specs.Forest.{pointer_to}
use Rattle.ir_entities.proofs.Trees.{pointer_is, list_at-map}
use Rattle.ir_arena.proofs.Slots.{live_slot}
use Rattle.ir_program.specs.Handles.{handle}
use Rattle.ir_program.specs.declared.handles.Ptr.{Ptr}

pub some_of_map : {A V : Type 0} (f : A → V) (o : Option A) → IsSome (option_map f o) → IsSome o
some_of_map f None h = cc
some_of_map f (Some x) h = refl

pub map_of_some : {A V : Type 0} (f : A → V) (o : Option A) → IsSome o → IsSome (option_map f o)
map_of_some f None h = cc
map_of_some f (Some x) h = refl

-- a list of what is there, and none of what isn't
pub list_of_some : {A V X : Type 0} (g : V → List X) (f : A → V) (o : Option A) (xs : List X) → ((a : A) → g (f a) ≡ xs) → IsSome o → unwrap_or (option_map g (option_map f o)) [] ≡ xs
list_of_some g f None xs e h = cc
list_of_some g f (Some x) xs e h = e x

pub some_of_list : {A V X : Type 0} (g : V → List X) (f : A → V) (o : Option A) (k : ℕ) (x : X) → slice_get (unwrap_or (option_map g (option_map f o)) []) k ≡ Some x → IsSome o
some_of_list g f None k x h = cc
some_of_list g f (Some a) k x h = refl

-- an edit of what is there, and what is as it was
pub map_edited : {A V : Type 0} (o : Option A) (f g : A → V) (edit : V → V) → ((a : A) → g a ≡ edit (f a)) → option_map g o ≡ option_map edit (option_map f o)
map_edited None f g edit e = refl
map_edited (Some a) f g edit e = ap Some (e a)

pub map_same : {A V : Type 0} (o : Option A) (f g : A → V) → (IsSome o → (a : A) → g a ≡ f a) → option_map g o ≡ option_map f o
map_same None f g e = refl
map_same (Some a) f g e = ap Some (e refl a)

-- what a list has stands at some index, and what stands at an index it has
pub at_has : (xs : List ℕ) (k i : ℕ) → slice_get xs k ≡ Some i → has i xs ≡ true
at_has [] k i h = cc
at_has (x ∷ xs) zero i h = or_left (eqb i x) (has i xs) (eq-eqb i x (cc))
at_has (x ∷ xs) (suc k) i h = or_right (eqb i x) (has i xs) (at_has xs k i h)

pub has_at : (xs : List ℕ) (i : ℕ) → has i xs ≡ true → (k : ℕ) × (slice_get xs k ≡ Some i)
has_at [] i h = absurd (both_ways false refl h)
has_at (x ∷ xs) i h = ⊎_elim
    (λ t. (zero, ap Some (sym (eqb-true i x t))))
    (λ t. let r : (k : ℕ) × (slice_get xs k ≡ Some i) = has_at xs i t in (suc r.0, r.1))
    (or_cases (eqb i x) (has i xs) h)

-- where a search for an item ends
pub not_found : {X : Type 0} (xs : List X) (x : X) (k : ℕ) → AllWithin (λ y. y ≢ x) xs 0 (length xs) → slice_get xs k ≡ Some x → ⊥
not_found xs x k all at =
    let within : k < length xs = slice_get_within xs k x at in
    all k x (omega arith) within (sym (unwrap_or-slice_get xs k x) ∙ ap (λ o. unwrap_or o x) at)

pub found_at : {X : Type 0} (xs : List X) (x : X) (k : ℕ) → k < length xs → HoldsAt (λ y. y ≡ x) xs k → slice_get xs k ≡ Some x
found_at [] x k lt h = absurd (omega arith)
found_at (y ∷ ys) x zero lt h = ap Some (h x)
found_at (y ∷ ys) x (suc k) lt h = let less : k < length ys = omega arith in found_at ys x k less h

-- the same number stands at one index only
pub once_at : (xs : List ℕ) (j k i : ℕ) → AreDistinctNumbers xs → slice_get xs j ≡ Some i → slice_get xs k ≡ Some i → j ≡ k
once_at [] j k i d h g = cc
once_at (x ∷ xs) zero zero i d h g = refl
once_at (x ∷ xs) zero (suc k) i d h g = let e : x ≡ i = cc in absurd (both_ways (has i xs) (rw e at d.0) (at_has xs k i g))
once_at (x ∷ xs) (suc j) zero i d h g = let e : x ≡ i = cc in absurd (both_ways (has i xs) (rw e at d.0) (at_has xs j i h))
once_at (x ∷ xs) (suc j) (suc k) i d h g = ap suc (once_at xs j k i d.1 h g)

differs : (x i k : ℕ) (xs : List ℕ) → has x xs ≡ false → slice_get xs k ≡ Some i → eqb i x ≡ false
differs x i k xs d h = ne_eqb i x (λ e. both_ways (has i xs) (rw (← e) at d) (at_has xs k i h))

-- what comes next, and what came before, by the index
pub first_at : (xs : List ℕ) → first_or None xs ≡ slice_get xs 0
first_at [] = refl
first_at (x ∷ xs) = refl

last_from : (x : ℕ) (xs : List ℕ) → last_or (Some x) xs ≡ slice_get (x ∷ xs) (length xs)
last_from x [] = refl
last_from x (y ∷ ys) = last_from y ys

pub last_at : (xs : List ℕ) → last_or None xs ≡ slice_get xs (length xs - 1)
last_at [] = refl
last_at (x ∷ xs) = let e : length (x ∷ xs) - 1 ≡ length xs = omega arith in rw e (last_from x xs)

next_suc : (xs : List ℕ) (k i : ℕ) → AreDistinctNumbers xs → slice_get xs k ≡ Some i → next_in i xs ≡ slice_get xs (suc k)
next_suc [] k i d h = cc
next_suc (x ∷ xs) zero i d h = let e : eqb i x ≡ true = eq-eqb i x (cc) in rw e (first_at xs)
next_suc (x ∷ xs) (suc k) i d h = let e : eqb i x ≡ false = differs x i k xs d.0 h in rw e (next_suc xs k i d.1 h)

pub next_at : (xs : List ℕ) (k i : ℕ) → AreDistinctNumbers xs → slice_get xs k ≡ Some i → next_in i xs ≡ slice_get xs (k + 1)
next_at xs k i d h = rw (add-one k) (next_suc xs k i d h)

prev_suc : (i : ℕ) (p : Option ℕ) (xs : List ℕ) (k : ℕ) → AreDistinctNumbers xs → slice_get xs (suc k) ≡ Some i → prev_from p i xs ≡ slice_get xs k
prev_suc i p [] k d h = cc
prev_suc i p (x ∷ []) k d h = let e : None ≡ Some i = h in cc
prev_suc i p (x ∷ y ∷ ys) zero d h =
    let e : eqb i x ≡ false = differs x i zero (y ∷ ys) d.0 h in
    let f : eqb i y ≡ true = eq-eqb i y (cc) in
    rw (e, f) refl
prev_suc i p (x ∷ y ∷ ys) (suc k) d h =
    let e : eqb i x ≡ false = differs x i (suc k) (y ∷ ys) d.0 h in
    rw e (prev_suc i (Some x) (y ∷ ys) k d.1 h)

pub prev_at : (xs : List ℕ) (k i : ℕ) → AreDistinctNumbers xs → slice_get xs (k + 1) ≡ Some i → prev_in i xs ≡ slice_get xs k
prev_at xs k i d h = prev_suc i None xs k d (rw (add-one k) at h)

pub prev_first : (xs : List ℕ) (i : ℕ) → slice_get xs 0 ≡ Some i → prev_in i xs ≡ None
prev_first [] i h = refl
prev_first (x ∷ xs) i h = let e : eqb i x ≡ true = eq-eqb i x (cc) in rw e refl

-- the edits by the index
put_after_suc : (xs : List ℕ) (k m x : ℕ) → AreDistinctNumbers xs → slice_get xs k ≡ Some m → put_after m x xs ≡ insert xs (suc k) x
put_after_suc [] k m x d h = cc
put_after_suc (y ∷ ys) zero m x d h = let e : eqb m y ≡ true = eq-eqb m y (cc) in rw e refl
put_after_suc (y ∷ ys) (suc k) m x d h = let e : eqb m y ≡ false = differs y m k ys d.0 h in rw e (ap (λ zs. y ∷ zs) (put_after_suc ys k m x d.1 h))

pub put_after_at : (xs : List ℕ) (k m x : ℕ) → AreDistinctNumbers xs → slice_get xs k ≡ Some m → put_after m x xs ≡ insert xs (k + 1) x
put_after_at xs k m x d h = rw (add-one k) (put_after_suc xs k m x d h)

pub put_before_at : (xs : List ℕ) (k m x : ℕ) → AreDistinctNumbers xs → slice_get xs k ≡ Some m → put_before m x xs ≡ insert xs k x
put_before_at [] k m x d h = cc
put_before_at (y ∷ ys) zero m x d h = let e : eqb m y ≡ true = eq-eqb m y (cc) in rw e refl
put_before_at (y ∷ ys) (suc k) m x d h = let e : eqb m y ≡ false = differs y m k ys d.0 h in rw e (ap (λ zs. y ∷ zs) (put_before_at ys k m x d.1 h))

pub without_at : (xs : List ℕ) (k m : ℕ) → AreDistinctNumbers xs → slice_get xs k ≡ Some m → without m xs ≡ remove xs k
without_at [] k m d h = cc
without_at (y ∷ ys) zero m d h = let e : eqb m y ≡ true = eq-eqb m y (cc) in rw e refl
without_at (y ∷ ys) (suc k) m d h = let e : eqb m y ≡ false = differs y m k ys d.0 h in rw e (ap (λ zs. y ∷ zs) (without_at ys k m d.1 h))

-- where the mark doesn't stand nothing changes
put_after_none : (m x : ℕ) (xs : List ℕ) → has m xs ≡ false → put_after m x xs ≡ xs
put_after_none m x [] h = refl
put_after_none m x (y ∷ ys) h = let p : (eqb m y ≡ false) × (has m ys ≡ false) = or_parts (eqb m y) (has m ys) h in rw p.0 (ap (λ zs. y ∷ zs) (put_after_none m x ys p.1))

put_before_none : (m x : ℕ) (xs : List ℕ) → has m xs ≡ false → put_before m x xs ≡ xs
put_before_none m x [] h = refl
put_before_none m x (y ∷ ys) h = let p : (eqb m y ≡ false) × (has m ys ≡ false) = or_parts (eqb m y) (has m ys) h in rw p.0 (ap (λ zs. y ∷ zs) (put_before_none m x ys p.1))

without_none : (m : ℕ) (xs : List ℕ) → has m xs ≡ false → without m xs ≡ xs
without_none m [] h = refl
without_none m (y ∷ ys) h = let p : (eqb m y ≡ false) × (has m ys ≡ false) = or_parts (eqb m y) (has m ys) h in rw p.0 (ap (λ zs. y ∷ zs) (without_none m ys p.1))

-- list c is this now, and each other list what it was
pub record SetsList (old new : List (List ℕ)) (c : ℕ) (xs : List ℕ) : Type 0 where
  pub here : list_at new c ≡ xs
  pub others : (d : ℕ) → d ≢ c → list_at new d ≡ list_at old d

pub set_list : (ls : List (List ℕ)) (c : ℕ) (xs : List ℕ) → c < length ls → SetsList ls (set ls c xs) c xs
set_list ls c xs lt = record { here = get_or-set_same ls c xs [] lt; others = λ d ne. get_or-set_other ls c d xs [] ne }

module _ (ls : List (List ℕ)) (apart : AreApart ls) (c k m : ℕ) (d : AreDistinctNumbers (list_at ls c)) (at : slice_get (list_at ls c) k ≡ Some m) where
  elsewhere : (e : ℕ) → e ≢ c → has m (list_at ls e) ≡ false
  elsewhere e ne = ⊎_elim (λ t. absurd (ne (apart m e c t (at_has (list_at ls c) k m at)))) (λ f. f) (cases_Bool (has m (list_at ls e)))

  pub put_after_list : (x : ℕ) → SetsList ls (map (put_after m x) ls) c (insert (list_at ls c) (k + 1) x)
  put_after_list x = record {
    here = list_at-map (put_after m x) ls c refl ∙ put_after_at (list_at ls c) k m x d at;
    others = λ e ne. list_at-map (put_after m x) ls e refl ∙ put_after_none m x (list_at ls e) (elsewhere e ne);
  }

  pub put_before_list : (x : ℕ) → SetsList ls (map (put_before m x) ls) c (insert (list_at ls c) k x)
  put_before_list x = record {
    here = list_at-map (put_before m x) ls c refl ∙ put_before_at (list_at ls c) k m x d at;
    others = λ e ne. list_at-map (put_before m x) ls e refl ∙ put_before_none m x (list_at ls e) (elsewhere e ne);
  }

  pub without_list : SetsList ls (map (without m) ls) c (remove (list_at ls c) k)
  without_list = record {
    here = list_at-map (without m) ls c refl ∙ without_at (list_at ls c) k m d at;
    others = λ e ne. list_at-map (without m) ls e refl ∙ without_none m (list_at ls e) (elsewhere e ne);
  }

pub map-insert : {X Y : Type 0} (f : X → Y) (xs : List X) (i : ℕ) (x : X) → map f (insert xs i x) ≡ insert (map f xs) i (f x)
map-insert f xs i x = map-append f (take i xs) (x ∷ drop i xs) ∙ rw (take-map f i xs, drop-map f i xs) refl

pub map-remove : {X Y : Type 0} (f : X → Y) (xs : List X) (i : ℕ) → map f (remove xs i) ≡ remove (map f xs) i
map-remove f xs i = map-append f (take i xs) (drop (suc i) xs) ∙ rw (take-map f i xs, drop-map f (suc i) xs) refl

module _ {T : Type 0} (slots : List (Slot T)) where
  pub held_is : (k : Key) → IsSome (get slots k) → IsSome (held slots k.slot)
  held_is k live = (live_slot slots k live).used

  pub pointer_live : (i : ℕ) → IsSome (held slots i) → IsSome (get slots (pointer_to slots i))
  pointer_live i h = let e : eqb (slot_at slots i).version (slot_at slots i).version ≡ true = eq-eqb _ _ refl in rw e h

module _ {T E : Type 0} (slots : List (Slot T)) where
  -- the handle of what is in a slot now
  abbrev pub of_slot : ℕ → Ptr E
  of_slot i = handle (pointer_to slots i)

  -- a handle that leads somewhere is that of its slot
  pub handle_is : (p : Ptr E) → IsSome (get slots p.key) → of_slot p.key.slot ≡ p
  handle_is p live = let f : Key → Ptr E = λ k. handle k in ap f (pointer_is slots p.key live)

  -- two handles that lead somewhere, of one slot, are one
  pub one_handle : (p q : Ptr E) → IsSome (get slots p.key) → IsSome (get slots q.key) → p.key.slot ≡ q.key.slot → p ≡ q
  one_handle p q lp lq e = sym (handle_is p lp) ∙ ap of_slot e ∙ handle_is q lq

  slot_of : (o : Option ℕ) (p : Ptr E) → option_map of_slot o ≡ Some p → o ≡ Some p.key.slot
  slot_of None p h = cc
  slot_of (Some i) p h = let e : of_slot i ≡ p = cc in ap (λ (q : Ptr E). Some q.key.slot) e

  pub at_slot : (is : List ℕ) (k : ℕ) (p : Ptr E) → slice_get (map of_slot is) k ≡ Some p → slice_get is k ≡ Some p.key.slot
  at_slot is k p h = slot_of (slice_get is k) p (sym (slice_get-map of_slot is k) ∙ h)

  pub at_handle : (is : List ℕ) (k : ℕ) (p : Ptr E) → IsSome (get slots p.key) → slice_get is k ≡ Some p.key.slot → slice_get (map of_slot is) k ≡ Some p
  at_handle is k p live h = slice_get-map of_slot is k ∙ ap (option_map of_slot) h ∙ ap Some (handle_is p live)
