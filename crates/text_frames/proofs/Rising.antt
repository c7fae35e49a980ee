-- Numbers that rise, and values that are set at them.
use Rattle.std.proofs.Common.{◌≡◌, ℕ, zero, suc, ◌+◌, ◌<◌, ◌≤◌, ◌⊎◌, inl, inr, List, [], ◌∷◌, ◌++◌, map, length, Option, Some, None, slice_get, slice_set, refl, sym, ap, subst, ◌∙◌, arith}
use Rattle.std.proofs.lemmas.List.{length-set, length-map}
use Rattle.ir_base.specs.declared.types.TypeHandle.{TypeHandle}
use Rattle.ir_program.specs.declared.handles.Value.{Value}
use Rattle.ir_program.specs.declared.handles.DefiningEntity.{DefiningEntity}
use Rattle.ir_program.specs.Adds.{numbered_values}
use Rattle.ir_program.specs.Program.{TypedValue}
use Rattle.text_dialect.specs.Seen.{types_of}
use Rattle.text_frames.specs.Worlds.{Rises, set_all, values_alone}

-- ---- lists

pub some_is : {X : Type 0} (x y : X) → Some x ≡ Some y → x ≡ y
some_is x y h = cc

pub get_below : {X : Type 0} (xs : List X) (i : ℕ) (x : X) → slice_get xs i ≡ Some x → i < length xs
get_below [] i x h = cc
get_below (y ∷ xs) zero x h = omega arith
get_below (y ∷ xs) (suc i) x h = let more = get_below xs i x h in omega (arith, more)

pub get_there : {X : Type 0} (xs : List X) (i : ℕ) → i < length xs → (x : X) × (slice_get xs i ≡ Some x)
get_there [] i lt = absurd (omega (arith, lt))
get_there (y ∷ xs) zero lt = (y, refl)
get_there (y ∷ xs) (suc i) lt = get_there xs i (omega (arith, lt))

pub get_last : {X : Type 0} (xs : List X) (x : X) → slice_get (xs ++ x ∷ []) (length xs) ≡ Some x
get_last [] x = refl
get_last (y ∷ xs) x = get_last xs x

pub get_map : {X Y : Type 0} (f : X → Y) (xs : List X) (i : ℕ) (y : Y) → slice_get (map f xs) i ≡ Some y
    → (x : X) × (slice_get xs i ≡ Some x) × (f x ≡ y)
get_map f [] i y h = cc
get_map f (x ∷ xs) zero y h = (x, refl, some_is (f x) y h)
get_map f (x ∷ xs) (suc i) y h = get_map f xs i y h

pub get_set_same : {X : Type 0} (xs : List X) (i : ℕ) (x : X) → i < length xs → slice_get (slice_set xs i x) i ≡ Some x
get_set_same [] i x lt = absurd (omega (arith, lt))
get_set_same (y ∷ xs) zero x lt = refl
get_set_same (y ∷ xs) (suc i) x lt = get_set_same xs i x (omega (arith, lt))

pub get_set_other : {X : Type 0} (xs : List X) (i j : ℕ) (x : X) → (i ≡ j → ⊥)
    → slice_get (slice_set xs i x) j ≡ slice_get xs j
get_set_other [] i j x ne = refl
get_set_other (y ∷ xs) zero zero x ne = absurd (ne refl)
get_set_other (y ∷ xs) zero (suc j) x ne = refl
get_set_other (y ∷ xs) (suc i) zero x ne = refl
get_set_other (y ∷ xs) (suc i) (suc j) x ne = get_set_other xs i j x (λ e. ne (ap suc e))

get_set_from : {X : Type 0} (xs : List X) (i j : ℕ) (x y : X) → slice_get (slice_set xs i x) j ≡ Some y
    → (slice_get xs j ≡ Some y) ⊎ ((i ≡ j) × (x ≡ y))
get_set_from [] i j x y h = inl h
get_set_from (z ∷ xs) zero zero x y h = inr (refl, some_is x y h)
get_set_from (z ∷ xs) zero (suc j) x y h = inl h
get_set_from (z ∷ xs) (suc i) zero x y h = inl h
get_set_from (z ∷ xs) (suc i) (suc j) x y h = elim (get_set_from xs i j x y h)
    [ inl e ↦ inl e | inr e ↦ inr (ap suc e.0, e.1) ]

pub below_or : (n m : ℕ) → n < m + 1 → (n < m) ⊎ (n ≡ m)
below_or zero zero lt = inr refl
below_or zero (suc m) lt = inl (omega arith)
below_or (suc n) zero lt = absurd (omega (arith, lt))
below_or (suc n) (suc m) lt = elim (below_or n m (omega (arith, lt)))
    [ inl e ↦ inl (omega (arith, e)) | inr e ↦ inr (ap suc e) ]

-- ---- numbers that rise

pub rises_within : (low : ℕ) (ns : List ℕ) (high : ℕ) → Rises low ns high → low ≤ high
rises_within low [] high h = h
rises_within low (n ∷ ns) high h = let more = rises_within (suc n) ns high h.1 in omega (arith, h.0, more)

pub rises_from : (low high first : ℕ) (ns : List ℕ) → first ≤ low → Rises low ns high → Rises first ns high
rises_from low high first [] le h = omega (arith, le, h)
rises_from low high first (n ∷ ns) le h = (omega (arith, le, h.0), h.1)

pub rises_to : (low high last : ℕ) (ns : List ℕ) → high ≤ last → Rises low ns high → Rises low ns last
rises_to low high last [] le h = omega (arith, le, h)
rises_to low high last (n ∷ ns) le h = (h.0, rises_to (suc n) high last ns le h.1)

pub rises_join : (low : ℕ) (ms ns : List ℕ) (middle high : ℕ) → Rises low ms middle → Rises middle ns high
    → Rises low (ms ++ ns) high
rises_join low [] ns middle high h k = rises_from middle high low ns h k
rises_join low (m ∷ ms) ns middle high h k = (h.0, rises_join (suc m) ms ns middle high h.1 k)

pub rises_split : (low : ℕ) (ms ns : List ℕ) (high : ℕ) → Rises low (ms ++ ns) high
    → (middle : ℕ) × Rises low ms middle × Rises middle ns high
rises_split low [] ns high h = (low, omega arith, h)
rises_split low (m ∷ ms) ns high h = let more = rises_split (suc m) ms ns high h.1 in (more.0, (h.0, more.1), more.2)

-- the first of two parts, and the second
pub rises_left : (low : ℕ) (ms ns : List ℕ) (high : ℕ) → Rises low (ms ++ ns) high → Rises low ms high
rises_left low ms ns high h = let parts = rises_split low ms ns high h in
    rises_to low parts.0 high ms (rises_within parts.0 ns high parts.2) parts.1

pub rises_right : (low : ℕ) (ms ns : List ℕ) (high : ℕ) → Rises low (ms ++ ns) high → Rises low ns high
rises_right low ms ns high h = let parts = rises_split low ms ns high h in
    rises_from parts.0 high low ns (rises_within low ms parts.0 parts.1) parts.2

-- one more number at the end
pub rises_put : (low : ℕ) (ns : List ℕ) (high n last : ℕ) → Rises low ns high → high ≤ n → n < last
    → Rises low (ns ++ n ∷ []) last
rises_put low ns high n last h le lt = rises_join low ns (n ∷ []) high last h (le, omega (arith, lt))

pub rises_at : (low : ℕ) (ns : List ℕ) (high i n : ℕ) → Rises low ns high → slice_get ns i ≡ Some n
    → (low ≤ n) × (n < high)
rises_at low [] high i n h at = cc
rises_at low (m ∷ ns) high zero n h at =
    let e : m ≡ n = some_is m n at in
    let more = rises_within (suc m) ns high h.1 in
    (omega (arith, h.0, e), omega (arith, more, e))
rises_at low (m ∷ ns) high (suc i) n h at = let more = rises_at (suc m) ns high i n h.1 at in
    (omega (arith, h.0, more.0), more.1)

-- a number in the first part is below each in the second
pub rises_apart : (low : ℕ) (ms ns : List ℕ) (high i j m n : ℕ) → Rises low (ms ++ ns) high → slice_get ms i ≡ Some m
    → slice_get ns j ≡ Some n → m < n
rises_apart low ms ns high i j m n h at to =
    let parts = rises_split low ms ns high h in
    let first = rises_at low ms parts.0 i m parts.1 at in
    let second = rises_at parts.0 ns high j n parts.2 to in
    omega (arith, first.1, second.0)

pub rises_other : (low : ℕ) (ms ns : List ℕ) (high i j n : ℕ) → Rises low (ms ++ ns) high → slice_get ms i ≡ Some n
    → slice_get ns j ≡ Some n → ⊥
rises_other low ms ns high i j n h at to = let lt = rises_apart low ms ns high i j n n h at to in omega (arith, lt)

-- ---- values that are set at numbers

pub set_all_length : (ns : List ℕ) (vs : List Value) (values : List (Option Value))
    → length (set_all ns vs values) ≡ length values
set_all_length [] vs values = refl
set_all_length (n ∷ ns) [] values = refl
set_all_length (n ∷ ns) (v ∷ vs) values = set_all_length ns vs (slice_set values n (Some v))
    ∙ length-set values n (Some v)

-- other numbers are left
pub set_all_other : (ns : List ℕ) (vs : List Value) (values : List (Option Value)) (k : ℕ)
    → ((i : ℕ) → slice_get ns i ≡ Some k → ⊥) → slice_get (set_all ns vs values) k ≡ slice_get values k
set_all_other [] vs values k apart = refl
set_all_other (n ∷ ns) [] values k apart = refl
set_all_other (n ∷ ns) (v ∷ vs) values k apart =
    set_all_other ns vs (slice_set values n (Some v)) k (λ i e. apart (suc i) e)
    ∙ get_set_other values n k (Some v) (λ e. apart zero (ap (λ (m : ℕ). Some m) e))

-- each number gets the value beside it
pub set_all_at : (low : ℕ) (ns : List ℕ) (high : ℕ) (vs : List Value) (values : List (Option Value))
    → Rises low ns high → high ≤ length values
    → (i n : ℕ) (v : Value) → slice_get ns i ≡ Some n → slice_get vs i ≡ Some v
    → slice_get (set_all ns vs values) n ≡ Some (Some v)
set_all_at low [] high vs values h le i n v at to = cc
set_all_at low (m ∷ ns) high [] values h le i n v at to = cc
set_all_at low (m ∷ ns) high (u ∷ vs) values h le zero n v at to =
    let e : m ≡ n = some_is m n at in
    let k : u ≡ v = some_is u v to in
    let more = rises_within (suc m) ns high h.1 in
    subst (λ (z : ℕ). slice_get (set_all ns vs (slice_set values m (Some u))) z ≡ Some (Some v)) e
    (set_all_other ns vs (slice_set values m (Some u)) m
    (λ i there. (let above = rises_at (suc m) ns high i m h.1 there in omega (arith, above.0)))
    ∙ (get_set_same values m (Some u) (omega (arith, more, le)) ∙ ap (λ (x : Value). Some (Some x)) k))
set_all_at low (m ∷ ns) high (u ∷ vs) values h le (suc i) n v at to =
    set_all_at (suc m) ns high vs (slice_set values m (Some u)) h.1 (omega (arith, le, length-set values m (Some u)))
    i n v at to

-- a value that stands there stood there, or was set
pub set_all_from : (ns : List ℕ) (vs : List Value) (values : List (Option Value)) (k : ℕ) (v : Value)
    → slice_get (set_all ns vs values) k ≡ Some (Some v)
    → (slice_get values k ≡ Some (Some v)) ⊎ ((i : ℕ) × (slice_get ns i ≡ Some k) × (slice_get vs i ≡ Some v))
set_all_from [] vs values k v h = inl h
set_all_from (n ∷ ns) [] values k v h = inl h
set_all_from (n ∷ ns) (u ∷ vs) values k v h = elim (set_all_from ns vs (slice_set values n (Some u)) k v h) [
  | inl e ↦ elim (get_set_from values n k (Some u) (Some v) e)
      [ inl old ↦ inl old | inr new ↦ inr (zero, ap (λ (m : ℕ). Some m) new.0, new.1) ]
  | inr e ↦ inr (suc e.0, e.1, e.2)
]

-- values that are made stay where those are set that weren't
pub set_all_keeps : (ns : List ℕ) (vs : List Value) (values : List (Option Value))
    → ((i n : ℕ) → slice_get ns i ≡ Some n → slice_get values n ≡ Some None)
    → (k : ℕ) (v : Value) → slice_get values k ≡ Some (Some v) → slice_get (set_all ns vs values) k ≡ Some (Some v)
set_all_keeps ns vs values waits k v h = set_all_other ns vs values k
    (λ i at. (let e : Some None ≡ Some (Some v) = sym (waits i k at) ∙ h in cc)) ∙ h

-- ---- values with numbers

-- as many are numbered as there are types
pub numbered_length : (e : DefiningEntity) (n : ℕ) (ts : List TypeHandle) → length (numbered_values e n ts) ≡ length ts
numbered_length e n [] = refl
numbered_length e n (t ∷ ts) = ap suc (numbered_length e (suc n) ts)

-- which are their types
pub numbered_types : (e : DefiningEntity) (n : ℕ) (ts : List TypeHandle) → types_of (numbered_values e n ts) ≡ ts
numbered_types e n [] = refl
numbered_types e n (t ∷ ts) = ap (λ (us : List TypeHandle). t ∷ us) (numbered_types e (suc n) ts)

abbrev pub numbered_value : DefiningEntity → ℕ → Value
numbered_value e n = record { definer = e; number = n }

pub numbered_at : (e : DefiningEntity) (n : ℕ) (ts : List TypeHandle) (i : ℕ) (v : TypedValue)
    → slice_get (numbered_values e n ts) i ≡ Some v → v.value ≡ numbered_value e (n + i)
numbered_at e n [] i v h = cc
numbered_at e n (t ∷ ts) zero v h =
    let same : n ≡ n + 0 = omega arith in
    sym (ap (λ (x : TypedValue). x.value) (some_is _ v h)) ∙ ap (numbered_value e) same
numbered_at e n (t ∷ ts) (suc i) v h =
    let same : suc n + i ≡ n + suc i = omega arith in
    numbered_at e (suc n) ts i v h ∙ ap (numbered_value e) same

-- the values of such definitions
pub made_length : (e : DefiningEntity) (n : ℕ) (ts : List TypeHandle)
    → length (values_alone (numbered_values e n ts)) ≡ length ts
made_length e n ts = length-map (numbered_values e n ts) (λ (v : TypedValue). v.value) ∙ numbered_length e n ts

pub made_at : (e : DefiningEntity) (n : ℕ) (ts : List TypeHandle) (i : ℕ) (v : Value)
    → slice_get (values_alone (numbered_values e n ts)) i ≡ Some v → v ≡ numbered_value e (n + i)
made_at e n ts i v h =
    let x = get_map (λ (u : TypedValue). u.value) (numbered_values e n ts) i v h in
    sym x.2 ∙ numbered_at e n ts i x.0 x.1
