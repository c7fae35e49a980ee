-- Places stay in the rows of their users, each at its index, as rows are edited.
use Rattle.std.proofs.Common.{◌≡◌, ◌≢◌, ◌⊎◌, inl, inr, ℕ, zero, suc, ◌-◌, ◌<◌, ◌≤◌, true, false, nat_eq, nat_le, nat_lt, List, [], ◌∷◌, ◌++◌, length, insert, remove, slice_get, Option, Some, None, refl, sym, ap, subst, ◌∙◌, arith}
use Rattle.std.proofs.lemmas.Bool.{cases_order, eq-eqb, ne_eqb, le-leb, lt-leb, lt-ltb, le-ltb}
use Rattle.std.proofs.lemmas.Option.{slice_get_within}
use Rattle.ir_entities.specs.Uses.{PlaceOfUse}
use Rattle.ir_entities.specs.Placed.{place_at, IsPlaced, shifted_up, shifted_down, KeepsOtherRows, PushesPlace, InsertsPlace, RemovesPlace, StandsAlike, ClearsRow}

pub differ : (a b : ℕ) → (a ≡ b) ⊎ (a ≢ b)
differ a b = by (cases_order a b)
  where
    by : (a ≡ b) ⊎ ((a < b) ⊎ (b < a)) → (a ≡ b) ⊎ (a ≢ b)
    by (inl e) = inl e
    by (inr (inl h)) = inr (λ e. omega arith)
    by (inr (inr h)) = inr (λ e. omega arith)

pub below_or_not : (a b : ℕ) → (a < b) ⊎ (b ≤ a)
below_or_not a b = by (cases_order a b)
  where
    by : (a ≡ b) ⊎ ((a < b) ⊎ (b < a)) → (a < b) ⊎ (b ≤ a)
    by (inl e) = inr (omega arith)
    by (inr (inl h)) = inl h
    by (inr (inr h)) = inr (omega arith)

pub at_most_or_not : (a b : ℕ) → (a ≤ b) ⊎ (b < a)
at_most_or_not a b = by (cases_order a b)
  where
    by : (a ≡ b) ⊎ ((a < b) ⊎ (b < a)) → (a ≤ b) ⊎ (b < a)
    by (inl e) = inl (omega arith)
    by (inr (inl h)) = inl (omega arith)
    by (inr (inr h)) = inr h

-- what stands in a list before, at and behind the place of an insertion
pub insert-before : (xs : List ℕ) (k p j : ℕ) → k ≤ length xs → j < k → slice_get (insert xs k p) j ≡ slice_get xs j
insert-before [] k p j h l = absurd (omega arith)
insert-before (x ∷ xs) zero p j h l = absurd (omega arith)
insert-before (x ∷ xs) (suc k) p zero h l = refl
insert-before (x ∷ xs) (suc k) p (suc j) h l = insert-before xs k p j (omega arith) (omega arith)

pub insert-at : (xs : List ℕ) (k p : ℕ) → k ≤ length xs → slice_get (insert xs k p) k ≡ Some p
insert-at [] zero p h = refl
insert-at [] (suc k) p h = absurd (omega arith)
insert-at (x ∷ xs) zero p h = refl
insert-at (x ∷ xs) (suc k) p h = insert-at xs k p (omega arith)

pub insert-behind : (xs : List ℕ) (k p j : ℕ) → k ≤ length xs → k ≤ j → slice_get (insert xs k p) (suc j) ≡ slice_get xs j
insert-behind [] zero p j h l = refl
insert-behind [] (suc k) p j h l = absurd (omega arith)
insert-behind (x ∷ xs) zero p j h l = refl
insert-behind (x ∷ xs) (suc k) p zero h l = absurd (omega arith)
insert-behind (x ∷ xs) (suc k) p (suc j) h l = insert-behind xs k p j (omega arith) (omega arith)

-- what stands in a list before and behind the place of a removal
pub remove-before : (xs : List ℕ) (k j : ℕ) → j < k → slice_get (remove xs k) j ≡ slice_get xs j
remove-before [] zero j l = refl
remove-before [] (suc k) j l = refl
remove-before (x ∷ xs) zero j l = absurd (omega arith)
remove-before (x ∷ xs) (suc k) zero l = refl
remove-before (x ∷ xs) (suc k) (suc j) l = remove-before xs k j (omega arith)

pub remove-behind : (xs : List ℕ) (k j : ℕ) → k ≤ j → slice_get (remove xs k) j ≡ slice_get xs (suc j)
remove-behind [] zero j l = refl
remove-behind [] (suc k) j l = refl
remove-behind (x ∷ xs) zero j l = refl
remove-behind (x ∷ xs) (suc k) zero l = absurd (omega arith)
remove-behind (x ∷ xs) (suc k) (suc j) l = remove-behind xs k j (omega arith)

-- the end of a list is where an insertion appends
pub insert-end : (xs : List ℕ) (p : ℕ) → insert xs (length xs) p ≡ xs ++ p ∷ []
insert-end [] p = refl
insert-end (x ∷ xs) p = ap (λ (ys : List ℕ). x ∷ ys) (insert-end xs p)

pub the_place : (x y : PlaceOfUse) → Some x ≡ Some y → x ≡ y
the_place x y e = cc

pub no_place : (x : PlaceOfUse) → None ≡ Some x → ⊥
no_place x e = cc

pub the_item : (p q : ℕ) → Some p ≡ Some q → p ≡ q
the_item p q e = cc

module _ (place : ℕ → Option PlaceOfUse) (row : ℕ → List ℕ) (placed : IsPlaced place row) where
  -- a place that stands at two indices, or in two rows, is one at one index
  pub placed-distinct : (i j k l p : ℕ) → slice_get (row i) k ≡ Some p → slice_get (row j) l ≡ Some p → (i ≡ j) × (k ≡ l)
  placed-distinct i j k l p e f =
      let first = placed.held i k p e in
      let second = placed.held j l p f in
      let same : place_at first.0 i k ≡ place_at second.0 j l = the_place _ _ (sym first.1 ∙ second.1) in
      (ap (λ (x : PlaceOfUse). x.user) same, ap (λ (x : PlaceOfUse). x.index) same)

  -- what stands in a row is in use
  pub placed-used : (i k p : ℕ) → slice_get (row i) k ≡ Some p → place p ≡ None → ⊥
  placed-used i k p e h = let own = placed.held i k p e in no_place _ (sym h ∙ own.1)

  module _ (new : ℕ → Option PlaceOfUse) where
    -- the same places in rows that are the same, each by itself
    pub placed-same : (rows : ℕ → List ℕ) → ((q : ℕ) → new q ≡ place q) → ((i : ℕ) → rows i ≡ row i) → IsPlaced new rows
    placed-same rows places same = record {
      held = λ i k p e.
          let own = placed.held i k p (rw (← same i) e) in
          (own.0, places p ∙ own.1);
      all = λ p x e. rw (same x.user) (placed.all p x (sym (places p) ∙ e));
    }

    alike : (o n : Option PlaceOfUse) (x : PlaceOfUse) → StandsAlike o n → o ≡ Some x → (d : ℕ) × (n ≡ Some (record x { definition = d }))
    alike None n x h e = absurd (no_place x e)
    alike (Some y) n x h e = subst (λ (z : PlaceOfUse). (d : ℕ) × (n ≡ Some (record z { definition = d }))) (the_place y x e) h

    alike_back : (o n : Option PlaceOfUse) (x : PlaceOfUse) → StandsAlike o n → n ≡ Some x → (d : ℕ) × (o ≡ Some (record x { definition = d }))
    alike_back None n x h e = absurd (no_place x (sym h ∙ e))
    alike_back (Some y) n x h e = let same : record y { definition = h.0 } ≡ x = the_place _ x (sym h.1 ∙ e) in (y.definition, ap (λ (z : PlaceOfUse). Some (record z { definition = y.definition })) same)

    -- places that name other definitions stand where they stood
    pub placed-renamed : ((q : ℕ) → StandsAlike (place q) (new q)) → IsPlaced new row
    placed-renamed alikes = record {
      held = λ i k p e.
          let own = placed.held i k p e in
          alike (place p) (new p) (place_at own.0 i k) (alikes p) own.1;
      all = λ p x e.
          let own = alike_back (place p) (new p) x (alikes p) e in
          placed.all p (record x { definition = own.0 }) own.1;
    }

    -- an edit of one row
    placed-edited : (rows : ℕ → List ℕ) (i : ℕ)
        → KeepsOtherRows row rows i
        → ((k q : ℕ) → slice_get (rows i) k ≡ Some q → (d : ℕ) × (new q ≡ Some (place_at d i k)))
        → ((q : ℕ) (x : PlaceOfUse) → new q ≡ Some x → x.user ≡ i → slice_get (rows i) x.index ≡ Some q)
        → ((q : ℕ) (x : PlaceOfUse) → x.user ≢ i → new q ≡ Some x → place q ≡ Some x)
        → ((q : ℕ) (x : PlaceOfUse) → x.user ≢ i → place q ≡ Some x → new q ≡ Some x)
        → IsPlaced new rows
    placed-edited rows i rest inside mine before after = record { held = held; all = all }
      where
        held_by : (j k q : ℕ) → slice_get (rows j) k ≡ Some q → (j ≡ i) ⊎ (j ≢ i) → (d : ℕ) × (new q ≡ Some (place_at d j k))
        held_by j k q e (inl h) = subst (λ (u : ℕ). (d : ℕ) × (new q ≡ Some (place_at d u k))) (sym h) (inside k q (subst (λ (u : ℕ). slice_get (rows u) k ≡ Some q) h e))
        held_by j k q e (inr h) =
            let own = placed.held j k q (rw (← rest j h) e) in
            (own.0, after q (place_at own.0 j k) h own.1)

        held : (j k q : ℕ) → slice_get (rows j) k ≡ Some q → (d : ℕ) × (new q ≡ Some (place_at d j k))
        held j k q e = held_by j k q e (differ j i)

        all_by : (q : ℕ) (x : PlaceOfUse) → new q ≡ Some x → (x.user ≡ i) ⊎ (x.user ≢ i) → slice_get (rows x.user) x.index ≡ Some q
        all_by q x e (inl h) = rw h (mine q x e h)
        all_by q x e (inr h) = rw (rest x.user h) (placed.all q x (before q x h e))

        all : (q : ℕ) (x : PlaceOfUse) → new q ≡ Some x → slice_get (rows x.user) x.index ≡ Some q
        all q x e = all_by q x e (differ x.user i)

    -- a row that was cleared
    pub placed-cleared : (rows : ℕ → List ℕ) (i : ℕ) → ClearsRow place new row rows i → IsPlaced new rows
    placed-cleared rows i clears = placed-edited rows i clears.rest inside mine before after
      where
        nothing : (k q : ℕ) → slice_get (rows i) k ≡ Some q → ⊥
        nothing k q e = let none : slice_get (rows i) k ≡ None = ap (λ (xs : List ℕ). slice_get xs k) clears.changed in let clash : None ≡ Some q = sym none ∙ e in cc

        inside : (k q : ℕ) → slice_get (rows i) k ≡ Some q → (d : ℕ) × (new q ≡ Some (place_at d i k))
        inside k q e = absurd (nothing k q e)

        stayed : (o : Option PlaceOfUse) (q : ℕ) (x : PlaceOfUse) → place q ≡ o → new q ≡ Some x → (place q ≡ Some x) × (x.user ≢ i)
        stayed None q x e f =
            let out : (k : ℕ) → slice_get (row i) k ≡ Some q → ⊥ = λ k s. placed-used i k q s e in
            absurd (no_place x (sym e ∙ (sym (clears.others q out) ∙ f)))
        stayed (Some y) q x e f = stayed_by (differ y.user i)
          where
            stayed_by : (y.user ≡ i) ⊎ (y.user ≢ i) → (place q ≡ Some x) × (x.user ≢ i)
            stayed_by (inl h) = absurd (no_place x (sym (clears.gone y.index q (subst (λ (u : ℕ). slice_get (row u) y.index ≡ Some q) h (placed.all q y e))) ∙ f))
            stayed_by (inr h) =
                let out : (k : ℕ) → slice_get (row i) k ≡ Some q → ⊥ = λ k s. let own = placed.held i k q s in h (ap (λ (z : PlaceOfUse). z.user) (the_place y (place_at own.0 i k) (sym e ∙ own.1))) in
                let was : place q ≡ Some x = sym (clears.others q out) ∙ f in
                (was, λ u. h (ap (λ (z : PlaceOfUse). z.user) (the_place y x (sym e ∙ was)) ∙ u))

        mine : (q : ℕ) (x : PlaceOfUse) → new q ≡ Some x → x.user ≡ i → slice_get (rows i) x.index ≡ Some q
        mine q x e h = absurd ((stayed (place q) q x refl e).1 h)

        before : (q : ℕ) (x : PlaceOfUse) → x.user ≢ i → new q ≡ Some x → place q ≡ Some x
        before q x h e = (stayed (place q) q x refl e).0

        after : (q : ℕ) (x : PlaceOfUse) → x.user ≢ i → place q ≡ Some x → new q ≡ Some x
        after q x h e =
            let out : (k : ℕ) → slice_get (row i) k ≡ Some q → ⊥ = λ k s. let own = placed.held i k q s in h (ap (λ (z : PlaceOfUse). z.user) (the_place x (place_at own.0 i k) (sym e ∙ own.1))) in
            clears.others q out ∙ e

-- a place that moves keeps its user; behind the insertion its index is one more
pub up_other : (i k : ℕ) (x : PlaceOfUse) → x.user ≢ i → shifted_up i k (Some x) ≡ Some x
up_other i k x h = let e : nat_eq x.user i ≡ false = ne_eqb x.user i h in rw e refl

pub up_before : (i k d j : ℕ) → j < k → shifted_up i k (Some (place_at d i j)) ≡ Some (place_at d i j)
up_before i k d j h = let e : nat_eq i i ≡ true = eq-eqb i i refl in let f : nat_le k j ≡ false = lt-leb k j h in rw (e, f) refl

pub up_behind : (i k d j : ℕ) → k ≤ j → shifted_up i k (Some (place_at d i j)) ≡ Some (place_at d i (suc j))
up_behind i k d j h = let e : nat_eq i i ≡ true = eq-eqb i i refl in let f : nat_le k j ≡ true = le-leb k j h in rw (e, f) refl

pub down_other : (i k : ℕ) (x : PlaceOfUse) → x.user ≢ i → shifted_down i k (Some x) ≡ Some x
down_other i k x h = let e : nat_eq x.user i ≡ false = ne_eqb x.user i h in rw e refl

pub down_before : (i k d j : ℕ) → j ≤ k → shifted_down i k (Some (place_at d i j)) ≡ Some (place_at d i j)
down_before i k d j h = let e : nat_eq i i ≡ true = eq-eqb i i refl in let f : nat_lt k j ≡ false = le-ltb k j h in rw (e, f) refl

pub down_behind : (i k d j : ℕ) → k < j → shifted_down i k (Some (place_at d i j)) ≡ Some (place_at d i (j - 1))
down_behind i k d j h = let e : nat_eq i i ≡ true = eq-eqb i i refl in let f : nat_lt k j ≡ true = lt-ltb k j h in rw (e, f) refl

up_user : (i k : ℕ) (y x : PlaceOfUse) → shifted_up i k (Some y) ≡ Some x → y.user ≡ x.user
up_user i k y x f = ap (λ (z : PlaceOfUse). z.user) (the_place _ x f)

down_user : (i k : ℕ) (y x : PlaceOfUse) → shifted_down i k (Some y) ≡ Some x → y.user ≡ x.user
down_user i k y x f = ap (λ (z : PlaceOfUse). z.user) (the_place _ x f)

-- a place of user i, at its index
pub own : (i : ℕ) (y : PlaceOfUse) → y.user ≡ i → y ≡ place_at y.definition i y.index
own i y h = ap (λ (u : ℕ). place_at y.definition u y.index) h

pub user_kept : (x y : PlaceOfUse) → Some x ≡ Some y → x.user ≡ y.user
user_kept x y e = ap (λ (z : PlaceOfUse). z.user) (the_place x y e)

pub index_kept : (x y : PlaceOfUse) → Some x ≡ Some y → x.index ≡ y.index
index_kept x y e = ap (λ (z : PlaceOfUse). z.index) (the_place x y e)

module _ (place new : ℕ → Option PlaceOfUse) (row rows : ℕ → List ℕ) (placed : IsPlaced place row) where
  -- a place that is put into a row
  module _ (i k p d : ℕ) (inserts : InsertsPlace place new row rows i k p d) where
    entered : (q j : ℕ) → slice_get (row i) j ≡ Some q → q ≢ p
    entered q j s e = placed-used place row placed i j q s (ap place e ∙ inserts.fresh)

    put : (j q : ℕ) → slice_get (rows i) j ≡ Some q → slice_get (insert (row i) k p) j ≡ Some q
    put j q e = sym (ap (λ (xs : List ℕ). slice_get xs j) inserts.changed) ∙ e

    put_inside : (j q : ℕ) → slice_get (insert (row i) k p) j ≡ Some q → (j ≡ k) ⊎ ((j < k) ⊎ (k < j)) → (c : ℕ) × (new q ≡ Some (place_at c i j))
    put_inside j q e (inl h) =
        let same : q ≡ p = the_item q p (sym e ∙ (ap (slice_get (insert (row i) k p)) h ∙ insert-at (row i) k p inserts.within)) in
        (d, ap new same ∙ (inserts.here ∙ ap (λ (u : ℕ). Some (place_at d i u)) (sym h)))
    put_inside j q e (inr (inl h)) =
        let was : slice_get (row i) j ≡ Some q = sym (insert-before (row i) k p j inserts.within h) ∙ e in
        let its = placed.held i j q was in
        (its.0, inserts.others q (entered q j was) ∙ (ap (shifted_up i k) its.1 ∙ up_before i k its.0 j h))
    put_inside zero q e (inr (inr h)) = absurd (omega arith)
    put_inside (suc j) q e (inr (inr h)) =
        let was : slice_get (row i) j ≡ Some q = sym (insert-behind (row i) k p j inserts.within (omega arith)) ∙ e in
        let its = placed.held i j q was in
        (its.0, inserts.others q (entered q j was) ∙ (ap (shifted_up i k) its.1 ∙ up_behind i k its.0 j (omega arith)))

    -- where a place stood that is at user i now
    put_mine : (o : Option PlaceOfUse) (q : ℕ) (x : PlaceOfUse) → place q ≡ o → shifted_up i k o ≡ Some x → x.user ≡ i → slice_get (insert (row i) k p) x.index ≡ Some q
    put_mine None q x e f u = absurd (no_place x f)
    put_mine (Some y) q x e f u = by (differ y.user i)
      where
        step : y.user ≡ i → (y.index < k) ⊎ (k ≤ y.index) → slice_get (insert (row i) k p) x.index ≡ Some q
        step h (inl l) =
            let moved : Some (place_at y.definition i y.index) ≡ Some x = sym (up_before i k y.definition y.index l) ∙ (ap (λ (z : PlaceOfUse). shifted_up i k (Some z)) (sym (own i y h)) ∙ f) in
            let at : y.index ≡ x.index = index_kept (place_at y.definition i y.index) x moved in
            ap (slice_get (insert (row i) k p)) (sym at) ∙ (insert-before (row i) k p y.index inserts.within l ∙ (ap (λ (u : ℕ). slice_get (row u) y.index) (sym h) ∙ placed.all q y e))
        step h (inr l) =
            let moved : Some (place_at y.definition i (suc y.index)) ≡ Some x = sym (up_behind i k y.definition y.index l) ∙ (ap (λ (z : PlaceOfUse). shifted_up i k (Some z)) (sym (own i y h)) ∙ f) in
            let at : suc y.index ≡ x.index = index_kept (place_at y.definition i (suc y.index)) x moved in
            ap (slice_get (insert (row i) k p)) (sym at) ∙ (insert-behind (row i) k p y.index inserts.within l ∙ (ap (λ (u : ℕ). slice_get (row u) y.index) (sym h) ∙ placed.all q y e))

        by : (y.user ≡ i) ⊎ (y.user ≢ i) → slice_get (insert (row i) k p) x.index ≡ Some q
        by (inl h) = step h (below_or_not y.index k)
        by (inr h) = absurd (h (user_kept y x (sym (up_other i k y h) ∙ f) ∙ u))

    put_before : (o : Option PlaceOfUse) (x : PlaceOfUse) → x.user ≢ i → shifted_up i k o ≡ Some x → o ≡ Some x
    put_before None x h f = absurd (no_place x f)
    put_before (Some y) x h f = by (differ y.user i)
      where
        by : (y.user ≡ i) ⊎ (y.user ≢ i) → Some y ≡ Some x
        by (inl u) = absurd (h (sym (up_user i k y x f) ∙ u))
        by (inr u) = sym (up_other i k y u) ∙ f

    pub placed-inserted : IsPlaced new rows
    placed-inserted = placed-edited place row placed new rows i inserts.rest inside mine before after
      where
        inside : (j q : ℕ) → slice_get (rows i) j ≡ Some q → (c : ℕ) × (new q ≡ Some (place_at c i j))
        inside j q e = put_inside j q (put j q e) (cases_order j k)

        mine_by : (q : ℕ) (x : PlaceOfUse) → new q ≡ Some x → x.user ≡ i → (q ≡ p) ⊎ (q ≢ p) → slice_get (insert (row i) k p) x.index ≡ Some q
        mine_by q x e u (inl h) =
            let at : k ≡ x.index = index_kept (place_at d i k) x (sym inserts.here ∙ (ap new (sym h) ∙ e)) in
            ap (slice_get (insert (row i) k p)) (sym at) ∙ (insert-at (row i) k p inserts.within ∙ ap Some (sym h))
        mine_by q x e u (inr h) = put_mine (place q) q x refl (sym (inserts.others q h) ∙ e) u

        mine : (q : ℕ) (x : PlaceOfUse) → new q ≡ Some x → x.user ≡ i → slice_get (rows i) x.index ≡ Some q
        mine q x e u = ap (λ (xs : List ℕ). slice_get xs x.index) inserts.changed ∙ mine_by q x e u (differ q p)

        before_by : (q : ℕ) (x : PlaceOfUse) → x.user ≢ i → new q ≡ Some x → (q ≡ p) ⊎ (q ≢ p) → place q ≡ Some x
        before_by q x h e (inl s) = absurd (h (sym (user_kept (place_at d i k) x (sym inserts.here ∙ (ap new (sym s) ∙ e)))))
        before_by q x h e (inr s) = put_before (place q) x h (sym (inserts.others q s) ∙ e)

        before : (q : ℕ) (x : PlaceOfUse) → x.user ≢ i → new q ≡ Some x → place q ≡ Some x
        before q x h e = before_by q x h e (differ q p)

        after : (q : ℕ) (x : PlaceOfUse) → x.user ≢ i → place q ≡ Some x → new q ≡ Some x
        after q x h e =
            let other : q ≢ p = λ s. no_place x (sym inserts.fresh ∙ (ap place (sym s) ∙ e)) in
            inserts.others q other ∙ (ap (shifted_up i k) e ∙ up_other i k x h)

  -- a place that goes out of a row
  module _ (i k p : ℕ) (removes : RemovesPlace place new row rows i k p) where
    left : (q j : ℕ) → slice_get (row i) j ≡ Some q → j ≢ k → q ≢ p
    left q j s h e = h ((placed-distinct place row placed i i j k q s (removes.stood ∙ ap Some (sym e))).1)

    taken : (j q : ℕ) → slice_get (rows i) j ≡ Some q → slice_get (remove (row i) k) j ≡ Some q
    taken j q e = sym (ap (λ (xs : List ℕ). slice_get xs j) removes.changed) ∙ e

    taken_inside : (j q : ℕ) → slice_get (remove (row i) k) j ≡ Some q → (j < k) ⊎ (k ≤ j) → (c : ℕ) × (new q ≡ Some (place_at c i j))
    taken_inside j q e (inl h) =
        let was : slice_get (row i) j ≡ Some q = sym (remove-before (row i) k j h) ∙ e in
        let its = placed.held i j q was in
        let other : j ≢ k = λ s. omega arith in
        (its.0, removes.others q (left q j was other) ∙ (ap (shifted_down i k) its.1 ∙ down_before i k its.0 j (omega arith)))
    taken_inside j q e (inr h) =
        let was : slice_get (row i) (suc j) ≡ Some q = sym (remove-behind (row i) k j h) ∙ e in
        let its = placed.held i (suc j) q was in
        let other : suc j ≢ k = λ s. omega arith in
        let less : suc j - 1 ≡ j = omega arith in
        (its.0, removes.others q (left q (suc j) was other) ∙ (ap (shifted_down i k) its.1 ∙ (down_behind i k its.0 (suc j) (omega arith) ∙ ap (λ (n : ℕ). Some (place_at its.0 i n)) less)))

    -- where a place stood that is at user i still
    taken_mine : (o : Option PlaceOfUse) (q : ℕ) (x : PlaceOfUse) → q ≢ p → place q ≡ o → shifted_down i k o ≡ Some x → x.user ≡ i → slice_get (remove (row i) k) x.index ≡ Some q
    taken_mine None q x n e f u = absurd (no_place x f)
    taken_mine (Some y) q x n e f u = by (differ y.user i)
      where
        stood : y.user ≡ i → slice_get (row i) y.index ≡ Some q
        stood h = ap (λ (u : ℕ). slice_get (row u) y.index) (sym h) ∙ placed.all q y e

        step : y.user ≡ i → (y.index ≡ k) ⊎ ((y.index < k) ⊎ (k < y.index)) → slice_get (remove (row i) k) x.index ≡ Some q
        step h (inl s) = absurd (n (the_item q p (sym (stood h) ∙ (ap (slice_get (row i)) s ∙ removes.stood))))
        step h (inr (inl l)) =
            let moved : Some (place_at y.definition i y.index) ≡ Some x = sym (down_before i k y.definition y.index (omega arith)) ∙ (ap (λ (z : PlaceOfUse). shifted_down i k (Some z)) (sym (own i y h)) ∙ f) in
            let at : y.index ≡ x.index = index_kept (place_at y.definition i y.index) x moved in
            ap (slice_get (remove (row i) k)) (sym at) ∙ (remove-before (row i) k y.index l ∙ stood h)
        step h (inr (inr l)) =
            let moved : Some (place_at y.definition i (y.index - 1)) ≡ Some x = sym (down_behind i k y.definition y.index l) ∙ (ap (λ (z : PlaceOfUse). shifted_down i k (Some z)) (sym (own i y h)) ∙ f) in
            let at : y.index - 1 ≡ x.index = index_kept (place_at y.definition i (y.index - 1)) x moved in
            let more : suc (y.index - 1) ≡ y.index = omega arith in
            ap (slice_get (remove (row i) k)) (sym at) ∙ (remove-behind (row i) k (y.index - 1) (omega arith) ∙ (ap (slice_get (row i)) more ∙ stood h))

        by : (y.user ≡ i) ⊎ (y.user ≢ i) → slice_get (remove (row i) k) x.index ≡ Some q
        by (inl h) = step h (cases_order y.index k)
        by (inr h) = absurd (h (user_kept y x (sym (down_other i k y h) ∙ f) ∙ u))

    taken_before : (o : Option PlaceOfUse) (x : PlaceOfUse) → x.user ≢ i → shifted_down i k o ≡ Some x → o ≡ Some x
    taken_before None x h f = absurd (no_place x f)
    taken_before (Some y) x h f = by (differ y.user i)
      where
        by : (y.user ≡ i) ⊎ (y.user ≢ i) → Some y ≡ Some x
        by (inl u) = absurd (h (sym (down_user i k y x f) ∙ u))
        by (inr u) = sym (down_other i k y u) ∙ f

    pub placed-removed : IsPlaced new rows
    placed-removed = placed-edited place row placed new rows i removes.rest inside mine before after
      where
        inside : (j q : ℕ) → slice_get (rows i) j ≡ Some q → (c : ℕ) × (new q ≡ Some (place_at c i j))
        inside j q e = taken_inside j q (taken j q e) (below_or_not j k)

        mine_by : (q : ℕ) (x : PlaceOfUse) → new q ≡ Some x → x.user ≡ i → (q ≡ p) ⊎ (q ≢ p) → slice_get (remove (row i) k) x.index ≡ Some q
        mine_by q x e u (inl h) = absurd (no_place x (sym removes.gone ∙ (ap new (sym h) ∙ e)))
        mine_by q x e u (inr h) = taken_mine (place q) q x h refl (sym (removes.others q h) ∙ e) u

        mine : (q : ℕ) (x : PlaceOfUse) → new q ≡ Some x → x.user ≡ i → slice_get (rows i) x.index ≡ Some q
        mine q x e u = ap (λ (xs : List ℕ). slice_get xs x.index) removes.changed ∙ mine_by q x e u (differ q p)

        before_by : (q : ℕ) (x : PlaceOfUse) → x.user ≢ i → new q ≡ Some x → (q ≡ p) ⊎ (q ≢ p) → place q ≡ Some x
        before_by q x h e (inl s) = absurd (no_place x (sym removes.gone ∙ (ap new (sym s) ∙ e)))
        before_by q x h e (inr s) = taken_before (place q) x h (sym (removes.others q s) ∙ e)

        before : (q : ℕ) (x : PlaceOfUse) → x.user ≢ i → new q ≡ Some x → place q ≡ Some x
        before q x h e = before_by q x h e (differ q p)

        after : (q : ℕ) (x : PlaceOfUse) → x.user ≢ i → place q ≡ Some x → new q ≡ Some x
        after q x h e =
            let its = placed.held i k p removes.stood in
            let other : q ≢ p = λ s. h (sym (user_kept (place_at its.0 i k) x (sym its.1 ∙ (ap place (sym s) ∙ e)))) in
            removes.others q other ∙ (ap (shifted_down i k) e ∙ down_other i k x h)

  -- a place that is put behind the others of a row
  module _ (i p d : ℕ) (pushes : PushesPlace place new row rows i p d) where
    up_past : (o : Option PlaceOfUse) (q : ℕ) → place q ≡ o → o ≡ shifted_up i (length (row i)) o
    up_past None q e = refl
    up_past (Some y) q e = by (differ y.user i)
      where
        by : (y.user ≡ i) ⊎ (y.user ≢ i) → Some y ≡ shifted_up i (length (row i)) (Some y)
        by (inl h) =
            let stood : slice_get (row i) y.index ≡ Some q = ap (λ (u : ℕ). slice_get (row u) y.index) (sym h) ∙ placed.all q y e in
            let within : y.index < length (row i) = slice_get_within (row i) y.index q stood in
            ap Some (own i y h) ∙ (sym (up_before i (length (row i)) y.definition y.index within) ∙ ap (λ (z : PlaceOfUse). shifted_up i (length (row i)) (Some z)) (sym (own i y h)))
        by (inr h) = sym (up_other i (length (row i)) y h)

    pub pushed-inserts : InsertsPlace place new row rows i (length (row i)) p d
    pushed-inserts = record {
      within = omega arith;
      fresh = pushes.fresh;
      changed = pushes.changed ∙ sym (insert-end (row i) p);
      rest = pushes.rest;
      here = pushes.here;
      others = λ q h. pushes.others q h ∙ up_past (place q) q refl;
    }

    pub placed-pushed : IsPlaced new rows
    placed-pushed = placed-inserted i (length (row i)) p d pushed-inserts
