-- What stands in a list, and the words of formats.
use Rattle.std.proofs.Common.{◌≡◌, ℕ, zero, suc, ◌<◌, List, [], ◌∷◌, ◌++◌, Some, Bool, true, false, ◌==◌, if◌then◌else◌, length, slice_get, refl, sym, subst, ◌⊎◌, inl, inr, arith}
use Rattle.std.specs.Str.{bytes_eq}
use Rattle.std.proofs.lemmas.Slice.Eq.{bytes_eq-Decides}
use Rattle.ir_print.specs.Formats.{Formats, Kind}
use Rattle.ir_formats.specs.declared.rules.Sort.{Sort}
use Rattle.ir_formats.specs.declared.rules.Sort.TheVariants as sort
use Rattle.ir_formats.specs.Rules.{number_of, with_word, with_words, frame_words, words_in, words_of_kinds, words_of, kinds_of}
use Rattle.ir_formats.proofs.Spelled.{number_at, below_of}

-- ---- lists

-- it stands in the list
abbrev pub IsAmong : {A : Type 0} → A → List A → Type 0
IsAmong x [] = ⊥
IsAmong x (y ∷ ys) = (x ≡ y) ⊎ IsAmong x ys

-- each of the first stands in the second
pub record AreAmong {A : Type 0} (xs ys : List A) : Type 0 where
  pub among : (x : A) → IsAmong x xs → IsAmong x ys

pub among_front : {A : Type 0} (x : A) (xs ys : List A) → IsAmong x xs → IsAmong x (xs ++ ys)
among_front x [] ys h = absurd h
among_front x (z ∷ zs) ys (inl e) = inl e
among_front x (z ∷ zs) ys (inr h) = inr (among_front x zs ys h)

pub among_back : {A : Type 0} (x : A) (xs ys : List A) → IsAmong x ys → IsAmong x (xs ++ ys)
among_back x [] ys h = h
among_back x (z ∷ zs) ys h = inr (among_back x zs ys h)

pub among_either : {A : Type 0} (x : A) (xs ys : List A) → IsAmong x (xs ++ ys) → IsAmong x xs ⊎ IsAmong x ys
among_either x [] ys h = inr h
among_either x (z ∷ zs) ys (inl e) = inl (inl e)
among_either x (z ∷ zs) ys (inr h) = elim (among_either x zs ys h) [ inl i ↦ inl (inr i) | inr i ↦ inr i ]

pub among_at : {A : Type 0} (x : A) (xs : List A) (i : ℕ) → slice_get xs i ≡ Some x → IsAmong x xs
among_at x [] i e = cc
among_at x (y ∷ ys) zero e = inl (let same : Some y ≡ Some x = e in cc)
among_at x (y ∷ ys) (suc i) e = inr (among_at x ys i e)

pub fronts_among : {A : Type 0} (xs ys zs : List A) → AreAmong (xs ++ ys) zs → AreAmong xs zs
fronts_among xs ys zs h = record { among = λ x i. h.among x (among_front x xs ys i) }

pub backs_among : {A : Type 0} (xs ys zs : List A) → AreAmong (xs ++ ys) zs → AreAmong ys zs
backs_among xs ys zs h = record { among = λ x i. h.among x (among_back x xs ys i) }

-- ---- words

same_words : (v w : List ℕ) → v ≡ w → bytes_eq v w ≡ true
same_words v w e = (bytes_eq-Decides v w).1 e

-- a word among others has a number below theirs
pub number_below : (ws : List (List ℕ)) (w : List ℕ) → IsAmong w ws → number_of ws w < length ws
number_below [] w h = absurd h
number_below (v ∷ ws) w h = go (bytes_eq w v) refl h (number_below ws w)
  where
    go : (b : Bool) → bytes_eq w v ≡ b → IsAmong w (v ∷ ws) → (IsAmong w ws → number_of ws w < length ws) → (if b then 0 else suc (number_of ws w)) < suc (length ws)
    go true e i rest = omega arith
    go false e (inl same) rest = let t = same_words w v same in cc
    go false e (inr i) rest = let lt = rest i in omega arith

-- a word with a number below those of others is among them
pub among_below : (ws : List (List ℕ)) (w : List ℕ) → number_of ws w < length ws → IsAmong w ws
among_below ws w lt = among_at w ws (number_of ws w) (number_at ws w lt)

word_kept : (ws : List (List ℕ)) (t w : List ℕ) → IsAmong w ws → IsAmong w (with_word ws t)
word_kept ws t w h = go (number_of ws t == length ws)
  where
    go : (b : Bool) → IsAmong w (if b then ws ++ t ∷ [] else ws)
    go true = among_front w ws (t ∷ []) h
    go false = h

word_added : (ws : List (List ℕ)) (t : List ℕ) → IsAmong t (with_word ws t)
word_added ws t = go (number_of ws t == length ws) refl
  where
    go : (b : Bool) → (number_of ws t == length ws) ≡ b → IsAmong t (if b then ws ++ t ∷ [] else ws)
    go true e = among_back t ws (t ∷ []) (inl refl)
    go false e = among_below ws t (below_of ws t e)

word_from : (ws : List (List ℕ)) (t w : List ℕ) → IsAmong w (with_word ws t) → IsAmong w ws ⊎ (w ≡ t)
word_from ws t w h = go (number_of ws t == length ws) h
  where
    single : IsAmong w (t ∷ []) → w ≡ t
    single (inl e) = e
    single (inr i) = absurd i

    go : (b : Bool) → IsAmong w (if b then ws ++ t ∷ [] else ws) → IsAmong w ws ⊎ (w ≡ t)
    go true i = elim (among_either w ws (t ∷ []) i) [ inl j ↦ inl j | inr j ↦ inr (single j) ]
    go false i = inl i

words_kept : (ts ws : List (List ℕ)) (w : List ℕ) → IsAmong w ws → IsAmong w (with_words ws ts)
words_kept [] ws w h = h
words_kept (t ∷ ts) ws w h = words_kept ts (with_word ws t) w (word_kept ws t w h)

words_added : (ts ws : List (List ℕ)) (w : List ℕ) → IsAmong w ts → IsAmong w (with_words ws ts)
words_added [] ws w h = absurd h
words_added (t ∷ ts) ws w (inl e) = words_kept ts (with_word ws t) w (subst (λ x. IsAmong x (with_word ws t)) (sym e) (word_added ws t))
words_added (t ∷ ts) ws w (inr h) = words_added ts (with_word ws t) w h

words_from : (ts ws : List (List ℕ)) (w : List ℕ) → IsAmong w (with_words ws ts) → IsAmong w ws ⊎ IsAmong w ts
words_from [] ws w h = inl h
words_from (t ∷ ts) ws w h = elim (words_from ts (with_word ws t) w h) [
  | inl i ↦ elim (word_from ws t w i) [ inl j ↦ inl j | inr e ↦ inr (inl e) ]
  | inr i ↦ inr (inr i)
]

-- ---- the words of formats

pub frame_among : (f : Formats) (w : List ℕ) → IsAmong w frame_words → IsAmong w (words_of f)
frame_among f w h =
    words_kept (words_of_kinds f.attributes) _ w (words_kept (words_of_kinds f.types) _ w (words_kept (words_of_kinds f.operations) _ w (words_added frame_words [] w h)))

kind_words_among : (f : Formats) (s : Sort) (w : List ℕ) → IsAmong w (words_of_kinds (kinds_of f s)) → IsAmong w (words_of f)
kind_words_among f sort.Operation w h = words_kept (words_of_kinds f.attributes) _ w (words_kept (words_of_kinds f.types) _ w (words_added (words_of_kinds f.operations) (with_words [] frame_words) w h))
kind_words_among f sort.«Type» w h =
    words_kept (words_of_kinds f.attributes) _ w (words_added (words_of_kinds f.types) (with_words (with_words [] frame_words) (words_of_kinds f.operations)) w h)
kind_words_among f sort.Attribute w h =
    words_added (words_of_kinds f.attributes) (with_words (with_words (with_words [] frame_words) (words_of_kinds f.operations)) (words_of_kinds f.types)) w h

kinds_words : (ks : List Kind) (n : ℕ) (k : Kind) (w : List ℕ) → slice_get ks n ≡ Some k → IsAmong w (k.id ∷ words_in k.format) → IsAmong w (words_of_kinds ks)
kinds_words [] n k w e h = cc
kinds_words (j ∷ ks) zero k w e h = let same : k ≡ j = let t : Some j ≡ Some k = e in cc in among_front w (j.id ∷ words_in j.format) (words_of_kinds ks) (subst (λ (x : Kind). IsAmong w (x.id ∷ words_in x.format)) same h)
kinds_words (j ∷ ks) (suc n) k w e h = among_back w (j.id ∷ words_in j.format) (words_of_kinds ks) (kinds_words ks n k w e h)

-- the id of a kind, and the words in its format
pub kind_among : (f : Formats) (s : Sort) (n : ℕ) (k : Kind) → slice_get (kinds_of f s) n ≡ Some k → AreAmong (k.id ∷ words_in k.format) (words_of f)
kind_among f s n k e = record { among = λ w h. kind_words_among f s w (kinds_words (kinds_of f s) n k w e h) }

-- where each word of the words is from
pub data WordFrom (f : Formats) (w : List ℕ) : Type 0 where
  of_frame : IsAmong w frame_words → WordFrom f w
  of_kind : (s : Sort) (n : ℕ) (k : Kind) → slice_get (kinds_of f s) n ≡ Some k → IsAmong w (k.id ∷ words_in k.format) → WordFrom f w

kinds_from : (ks : List Kind) (w : List ℕ) → IsAmong w (words_of_kinds ks) → (n : ℕ) × (k : Kind) × (slice_get ks n ≡ Some k) × IsAmong w (k.id ∷ words_in k.format)
kinds_from [] w h = absurd h
kinds_from (j ∷ ks) w h = elim (among_either w (j.id ∷ words_in j.format) (words_of_kinds ks) h) [
  | inl i ↦ (0, j, refl, i)
  | inr i ↦ (let r = kinds_from ks w i in (suc r.0, r.1, r.2, r.3))
]

of_sort : (f : Formats) (s : Sort) (w : List ℕ) → IsAmong w (words_of_kinds (kinds_of f s)) → WordFrom f w
of_sort f s w h = let r = kinds_from (kinds_of f s) w h in of_kind s r.0 r.1 r.2 r.3

pub word_source : (f : Formats) (w : List ℕ) → IsAmong w (words_of f) → WordFrom f w
word_source f w h = elim (words_from (words_of_kinds f.attributes) _ w h) [
  | inr i ↦ of_sort f sort.Attribute w i
  | inl i ↦ elim (words_from (words_of_kinds f.types) _ w i) [
    | inr j ↦ of_sort f sort.«Type» w j
    | inl j ↦ elim (words_from (words_of_kinds f.operations) _ w j) [
      | inr k ↦ of_sort f sort.Operation w k
      | inl k ↦ elim (words_from frame_words [] w k) [ inl l ↦ absurd l | inr l ↦ of_frame l ]
    ]
  ]
]
