-- Numbers bound in a list of numbers.
use Rattle.std.proofs.Common.{◌≡◌, ℕ, ◌+◌, ◌<◌, ◌≤◌, List, [], ◌∷◌, length, get_or, set, drop, refl, ap, arith, nat_eq, if◌then◌else◌, min, ⊎_elim}
use Rattle.std.proofs.lemmas.List.{get_or-set_same, get_or-set_other, drop_more, drop_all}
use Rattle.std.proofs.lemmas.Bool.{cases_eq, cases_lt}
use Rattle.kit_flat.specs.Machine.{bind, bind_all}
use Rattle.kit_flat.specs.View.{numbers_of}

at_place : (vs : List ℕ) (i n w : ℕ) → i < length vs → get_or (set vs i n) w 0 ≡
    (if nat_eq i w then n else get_or vs w 0)
at_place vs i n w h = grind (arith, get_or-set_same, get_or-set_other, cases_eq i w)

pub bind_set : (vs : List ℕ) (i n : ℕ) → i < length vs → numbers_of (set vs i n) ≡ bind nat_eq (numbers_of vs) i n
bind_set vs i n h = λ t w. at_place vs i n w h t

-- one more of each
pub bind_more : (vs names numbers : List ℕ) (i : ℕ) → i < length names → i < length numbers
    → get_or names i 0 < length vs → bind_all nat_eq (numbers_of (set vs (get_or names i 0) (get_or numbers i 0)))
    (drop (i + 1) names) (drop (i + 1) numbers) ≡ bind_all nat_eq (numbers_of vs) (drop i names) (drop i numbers)
bind_more vs names numbers i h k b =
    let e = drop_more names i 0 h in
    let d = drop_more numbers i 0 k in
    let s = bind_set vs (get_or names i 0) (get_or numbers i 0) b in
    rw (e, d) (ap (λ (n : ℕ → ℕ). bind_all nat_eq n (drop (i + 1) names) (drop (i + 1) numbers)) s)

pub bind_none : (numbers : ℕ → ℕ) (names : List ℕ) → bind_all nat_eq numbers names [] ≡ numbers
bind_none numbers [] = refl
bind_none numbers (v ∷ vs) = refl

pub bind_end : (old : ℕ → ℕ) (names numbers : List ℕ) (i : ℕ) → min (length names) (length numbers) ≤ i
    → bind_all nat_eq old (drop i names) (drop i numbers) ≡ old
bind_end old names numbers i h =
    ⊎_elim
    (λ (l : length names < length numbers). let e : length names ≤ i = omega arith in rw (drop_all i names e) refl)
    (λ (l : length numbers ≤ length names). let e : length numbers ≤ i = omega arith in rw (drop_all i numbers e)
    (bind_none old (drop i names)))
    (cases_lt (length names) (length numbers))
