-- What stands where in lists, and in tables of rows that gain items.
use Rattle.std.proofs.Common.{zero, ◌≡◌, ◌⊎◌, inl, inr, ⊎_elim, ℕ, suc, ◌+◌, ◌-◌, ◌<◌, List, [], ◌∷◌, ◌++◌, Some, Bool, true, false, nat_eq, length, get_or, take, replicate, refl, sym, ap, ◌∙◌, subst, append_assoc, append-nil, arith, eq-eqb}
use Rattle.std.specs.Prelude.{Contains, slice_get}
use Rattle.std.proofs.Math.ListN.{set}
use Rattle.std.proofs.lemmas.Option.{slice_get_read, slice_get_within, none-some, same_Some, get_or_from_slice_get}
use Rattle.std.proofs.lemmas.List.{length-set, length-replicate, length-take-le, take_more, take_all}
use Rattle.opt_rows.specs.Rows.{listed, row_at}
use Rattle.opt_rows.specs.LinkedRows.{RowsGain, TableLists}

pub same_numbers : (i j : ℕ) → nat_eq i j ≡ true → i ≡ j
same_numbers i j e = grind arith

pub decide : (i j : ℕ) → (i ≡ j) ⊎ (i ≡ j → ⊥)
decide i j = go (nat_eq i j) refl
  where
    go : (b : Bool) → nat_eq i j ≡ b → (i ≡ j) ⊎ (i ≡ j → ⊥)
    go true e = inl (same_numbers i j e)
    go false e = inr (λ q. let t = eq-eqb i j q in absurd (cc (sym e ∙ t)))

-- one more of a list
pub next_of : {X : Type 0} (xs : List X) (i : ℕ) (x : X) → i < length xs → x ≡ get_or xs i x → take (i + 1) xs ≡ take i xs ++ x ∷ []
next_of xs i x h e = take_more xs i x h ∙ ap (λ y. take i xs ++ y ∷ []) (sym e)

-- what stands in a list of the same everywhere
pub get_replicate : {X : Type 0} (n i : ℕ) (x y : X) → slice_get (replicate n x) i ≡ Some y → y ≡ x
get_replicate zero i x y e = absurd (none-some y e)
get_replicate (suc n) zero x y e = same_Some y x (sym e)
get_replicate (suc n) (suc i) x y e = get_replicate n i x y e

-- what stands at a place after a write
pub get_set : {X : Type 0} (xs : List X) (i : ℕ) (x : X) (k : ℕ) → i < length xs → ((k ≡ i) × (slice_get (set xs i x) k ≡ Some x)) ⊎ ((k ≡ i → ⊥) × (slice_get (set xs i x) k ≡ slice_get xs k))
get_set [] i x k h = absurd (omega (arith, h))
get_set (y ∷ xs) zero x zero h = inl (refl, refl)
get_set (y ∷ xs) zero x (suc k) h = inr ((λ e. omega (arith, e)), refl)
get_set (y ∷ xs) (suc i) x zero h = inr ((λ e. omega (arith, e)), refl)
get_set (y ∷ xs) (suc i) x (suc k) h = ⊎_elim
    (λ o. inl (ap suc o.0, o.1))
    (λ o. inr ((λ e. o.0 (omega (arith, e))), o.1))
    (get_set xs i x k (omega (arith, h)))

-- a list that is made longer
pub resized : {X : Type 0} (old new : List X) (n l k m : ℕ) (x : X) → new ≡ take n old ++ replicate (n - m) x → n ≡ l + k → l ≡ length old → m ≡ length old → new ≡ old ++ replicate k x
resized old new n l k m x e h q r =
    e ∙ (ap (λ (xs : List _). xs ++ replicate (n - m) x) (take_all n old (omega (arith, h, q))) ∙ ap (λ (j : ℕ). old ++ replicate j x) (omega (arith, h, q, r)))

module _ {X : Type 0} where
  pub get-set_same : (xs : List X) (i : ℕ) (x : X) → i < length xs → slice_get (set xs i x) i ≡ Some x
  get-set_same [] i x h = absurd (omega arith)
  get-set_same (y ∷ ys) zero x h = refl
  get-set_same (y ∷ ys) (suc i) x h = get-set_same ys i x (omega arith)

  pub get-set_other : (xs : List X) (i j : ℕ) (x : X) → (j ≡ i → ⊥) → slice_get (set xs i x) j ≡ slice_get xs j
  get-set_other [] i j x h = refl
  get-set_other (y ∷ ys) zero zero x h = absurd (h refl)
  get-set_other (y ∷ ys) zero (suc j) x h = refl
  get-set_other (y ∷ ys) (suc i) zero x h = refl
  get-set_other (y ∷ ys) (suc i) (suc j) x h = get-set_other ys i j x (λ e. h (ap suc e))

  pub get_contains : (xs : List X) (i : ℕ) (x : X) → slice_get xs i ≡ Some x → Contains xs x
  get_contains xs i x e = (i, slice_get_within xs i x e, get_or_from_slice_get xs i x x e)

  pub contains_get : (xs : List X) (x : X) → Contains xs x → (i : ℕ) × (slice_get xs i ≡ Some x)
  contains_get xs x c = (c.0, slice_get_read xs (length xs) c.0 x refl c.1 (sym c.2))

  pub get_push_left : (xs : List X) (y z : X) (i : ℕ) → slice_get xs i ≡ Some z → slice_get (xs ++ y ∷ []) i ≡ Some z
  get_push_left [] y z i e = absurd (none-some z e)
  get_push_left (x ∷ xs) y z zero e = e
  get_push_left (x ∷ xs) y z (suc i) e = get_push_left xs y z i e

  pub get_push_before : (xs : List X) (y : X) (i : ℕ) → i < length xs → slice_get (xs ++ y ∷ []) i ≡ slice_get xs i
  get_push_before [] y i h = absurd (omega arith)
  get_push_before (x ∷ xs) y zero h = refl
  get_push_before (x ∷ xs) y (suc i) h = get_push_before xs y i (omega arith)

  pub get_push_last : (xs : List X) (y : X) → slice_get (xs ++ y ∷ []) (length xs) ≡ Some y
  get_push_last [] y = refl
  get_push_last (x ∷ xs) y = get_push_last xs y

  pub get_push_cases : (xs : List X) (y z : X) (i : ℕ) → slice_get (xs ++ y ∷ []) i ≡ Some z → (slice_get xs i ≡ Some z) ⊎ ((i ≡ length xs) × (y ≡ z))
  get_push_cases [] y z zero e = inr (refl, same_Some y z e)
  get_push_cases [] y z (suc i) e = absurd (none-some z e)
  get_push_cases (x ∷ xs) y z zero e = inl e
  get_push_cases (x ∷ xs) y z (suc i) e = ⊎_elim (λ q. inl q) (λ q. inr (ap suc q.0, q.1)) (get_push_cases xs y z i e)

  -- one more of a list, by its index
  pub get_more_cases : (xs : List X) (i : ℕ) (y z : X) (j : ℕ) → i < length xs → y ≡ get_or xs i y → slice_get (take (i + 1) xs) j ≡ Some z → (slice_get (take i xs) j ≡ Some z) ⊎ ((j ≡ i) × (y ≡ z))
  get_more_cases xs i y z j h e q = ⊎_elim (λ a. inl a) (λ a. inr (a.0 ∙ length-take-le i xs (omega arith), a.1)) (get_push_cases (take i xs) y z j (sym (ap (λ ys. slice_get ys j) (next_of xs i y h e)) ∙ q))

  pub get_more_left : (xs : List X) (i : ℕ) (y z : X) (j : ℕ) → i < length xs → y ≡ get_or xs i y → slice_get (take i xs) j ≡ Some z → slice_get (take (i + 1) xs) j ≡ Some z
  get_more_left xs i y z j h e q = ap (λ ys. slice_get ys j) (next_of xs i y h e) ∙ get_push_left (take i xs) y z j q

  pub get_more_last : (xs : List X) (i : ℕ) (y : X) → i < length xs → y ≡ get_or xs i y → slice_get (take (i + 1) xs) i ≡ Some y
  get_more_last xs i y h e = ap (λ ys. slice_get ys i) (next_of xs i y h e) ∙ subst (λ j. slice_get (take i xs ++ y ∷ []) j ≡ Some y) (length-take-le i xs (omega arith)) (get_push_last (take i xs) y)

  -- an element of the front of a list
  pub get_take : (xs : List X) (i j : ℕ) (z : X) → slice_get xs j ≡ Some z → j < i → slice_get (take i xs) j ≡ Some z
  get_take xs zero j z e h = absurd (omega arith)
  get_take [] (suc i) j z e h = e
  get_take (x ∷ xs) (suc i) zero z e h = e
  get_take (x ∷ xs) (suc i) (suc j) z e h = get_take xs i j z e (omega arith)

  pub get_from_take : (xs : List X) (i j : ℕ) (z : X) → slice_get (take i xs) j ≡ Some z → slice_get xs j ≡ Some z
  get_from_take xs zero j z e = absurd (none-some z e)
  get_from_take [] (suc i) j z e = e
  get_from_take (x ∷ xs) (suc i) zero z e = e
  get_from_take (x ∷ xs) (suc i) (suc j) z e = get_from_take xs i j z e

module _ {X : Type 0} where
  pub contains_first : (x : X) (xs : List X) → Contains (x ∷ xs) x
  contains_first x xs = (0, omega arith, refl)

  pub contains_behind : (y : X) (xs : List X) (x : X) → Contains xs x → Contains (y ∷ xs) x
  contains_behind y xs x c = (suc c.0, (let h = c.1 in omega (arith, h)), c.2)

  pub contains_cases : (y : X) (xs : List X) (x : X) → Contains (y ∷ xs) x → (y ≡ x) ⊎ Contains xs x
  contains_cases y xs x c = go c.0 c.1 c.2
    where
      go : (i : ℕ) → i < length (y ∷ xs) → get_or (y ∷ xs) i x ≡ x → (y ≡ x) ⊎ Contains xs x
      go zero h e = inl e
      go (suc i) h e = inr (i, omega (arith, h), e)

  -- part of a list was gone over: the next item is in the list
  pub next_within : (done rest next all : List X) (x : X) → rest ≡ x ∷ next → done ++ rest ≡ all → Contains all x
  next_within done rest next all x e h = subst (λ xs. Contains xs x) (ap (λ r. done ++ r) (sym e) ∙ h) (go done)
    where
      go : (done : List X) → Contains (done ++ x ∷ next) x
      go [] = contains_first x next
      go (y ∷ ys) = contains_behind y (ys ++ x ∷ next) x (go ys)

  pub next_done : (done rest next all : List X) (x : X) → rest ≡ x ∷ next → done ++ rest ≡ all → (done ++ x ∷ []) ++ next ≡ all
  next_done done rest next all x e h = append_assoc done (x ∷ []) next ∙ (ap (λ r. done ++ r) (sym e) ∙ h)

  pub all_done : (done rest all : List X) → rest ≡ [] → done ++ rest ≡ all → done ≡ all
  all_done done rest all e h = sym (append-nil done) ∙ (ap (λ r. done ++ r) (sym e) ∙ h)

  pub table-set_same : (t : List (List X)) (i : ℕ) (row : List X) → i < length t → row_at (set t i row) i ≡ row
  table-set_same t i row h = ap listed (get-set_same t i row h)

  pub table-set_other : (t : List (List X)) (i j : ℕ) (row : List X) → (j ≡ i → ⊥) → row_at (set t i row) j ≡ row_at t j
  table-set_other t i j row h = ap listed (get-set_other t i j row h)

  pub gained_one : (t u : List (List X)) (i : ℕ) (x : X) → i < length t → u ≡ set t i (x ∷ row_at t i) → RowsGain (λ n y. (n ≡ i) × (y ≡ x)) t u
  gained_one t u i x h q = subst (RowsGain (λ n y. (n ≡ i) × (y ≡ x)) t) (sym q) (record {
    len = length-set t i (x ∷ row_at t i);
    keeps = λ n y c. ⊎_elim
        (λ s. subst (λ m. Contains (row_at (set t i (x ∷ row_at t i)) m) y) (sym s) (subst (λ xs. Contains xs y) (sym there) (contains_behind x (row_at t i) y (subst (λ m. Contains (row_at t m) y) s c))))
        (λ s. subst (λ xs. Contains xs y) (sym (table-set_other t i n (x ∷ row_at t i) s)) c)
        (decide n i);
    has = λ n y s. subst (λ m. Contains (row_at (set t i (x ∷ row_at t i)) m) y) (sym s.0) (subst (λ z. Contains (row_at (set t i (x ∷ row_at t i)) i) z) (sym s.1) (subst (λ xs. Contains xs x) (sym there) (contains_first x (row_at t i))));
    only = λ n y c. ⊎_elim
        (λ s. ⊎_elim (λ a. inr (s, sym a)) (λ a. inl (subst (λ m. Contains (row_at t m) y) (sym s) a)) (contains_cases x (row_at t i) y (subst (λ xs. Contains xs y) there (subst (λ m. Contains (row_at (set t i (x ∷ row_at t i)) m) y) s c))))
        (λ s. inl (subst (λ xs. Contains xs y) (table-set_other t i n (x ∷ row_at t i) s) c))
        (decide n i);
  })
    where
      there : row_at (set t i (x ∷ row_at t i)) i ≡ x ∷ row_at t i
      there = table-set_same t i (x ∷ row_at t i) h

  pub gained_then : (P Q R : ℕ → X → Type 0) → ((n : ℕ) (x : X) → P n x → R n x) → ((n : ℕ) (x : X) → Q n x → R n x) → ((n : ℕ) (x : X) → R n x → P n x ⊎ Q n x) → (a b c : List (List X)) → RowsGain P a b → RowsGain Q b c → RowsGain R a c
  gained_then P Q R f g h a b c p q = record {
    len = q.len ∙ p.len;
    keeps = λ n x s. q.keeps n x (p.keeps n x s);
    has = λ n x s. ⊎_elim (λ d. q.keeps n x (p.has n x d)) (λ d. q.has n x d) (h n x s);
    only = λ n x s. ⊎_elim (λ d. ⊎_elim (λ o. inl o) (λ o. inr (f n x o)) (p.only n x d)) (λ d. inr (g n x d)) (q.only n x s);
  }

  pub gained_none : (P : ℕ → X → Type 0) → ((n : ℕ) (x : X) → P n x → ⊥) → (a : List (List X)) → RowsGain P a a
  gained_none P f a = record {
    len = refl;
    keeps = λ n x s. s;
    has = λ n x s. absurd (f n x s);
    only = λ n x s. inl s;
  }

  pub gained_as : (P Q : ℕ → X → Type 0) → ((n : ℕ) (x : X) → P n x → Q n x) → ((n : ℕ) (x : X) → Q n x → P n x) → (a b : List (List X)) → RowsGain P a b → RowsGain Q a b
  gained_as P Q f g a b p = record {
    len = p.len;
    keeps = p.keeps;
    has = λ n x s. p.has n x (g n x s);
    only = λ n x s. ⊎_elim (λ o. inl o) (λ o. inr (f n x o)) (p.only n x s);
  }

  -- a table that was empty lists what it gained
  pub all_listed : (P : ℕ → X → Type 0) (count : ℕ) (a b : List (List X)) → TableLists (λ n x. ⊥) a count → RowsGain P a b → TableLists P b count
  all_listed P count a b e p = record {
    len = p.len ∙ e.len;
    has = p.has;
    only = λ n x s. ⊎_elim (λ o. absurd (e.only n x o)) (λ o. o) (p.only n x s);
  }

  nothing_at : (row : List X) (count n : ℕ) → row ≡ [] → row_at (replicate count row) n ≡ []
  nothing_at row zero n e = refl
  nothing_at row (suc count) zero e = e
  nothing_at row (suc count) (suc n) e = nothing_at row count n e

  -- a table of empty rows
  pub emptied : (t : List (List X)) (count : ℕ) → t ≡ replicate count [] → TableLists (λ n x. ⊥) t count
  emptied t count e = record {
    len = ap length e ∙ length-replicate count [];
    has = λ n x s. absurd s;
    only = λ n x s. let c : Contains [] x = subst (λ xs. Contains xs x) (ap (λ u. row_at u n) e ∙ nothing_at [] count n refl) s in omega (arith, c.1);
  }
