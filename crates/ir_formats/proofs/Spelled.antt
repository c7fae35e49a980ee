-- Numbers of texts.
use Rattle.std.proofs.Common.{◌≡◌, ◌≢◌, ◌⊎◌, inl, inr, get_or, drop, append_assoc, ℕ, zero, suc, ◌+◌, ◌<◌, ◌≤◌, List, [], ◌∷◌, ◌++◌, Bool, true, false, not, ◌||◌, Bor, length, map, refl, sym, ap, ◌∙◌, arith, slice_get, Some, cond}
use Rattle.std.specs.Prelude.{◌==◌, if◌then◌else◌}
use Rattle.std.specs.Str.{bytes_eq, chars}
use Rattle.std.specs.List.{position_or_len, list_any, AllByRecursion, IsDistinct}
use Rattle.std.proofs.lemmas.Bool.{cases_lt, eq-eqb, eqb-true}
use Rattle.std.proofs.lemmas.Slice.Eq.{bytes_eq-Decides}
use Rattle.std.proofs.lemmas.List.{map-append, length-append, length-map, get_or_past}
use Rattle.ir_tokens.specs.declared.tokens.Token.{Token}
use Rattle.ir_characters.specs.Texts.{codes_of, owned_codes}
use Rattle.ir_characters.specs.declared.text.Text.{Text}
use Rattle.ir_characters.specs.declared.characters.Characters.{Characters}
use Rattle.ir_formats.specs.Words.{spellings, text_of, is_spelled, spelled_texts, name_number, known_with, AlikeInNumber}
use Rattle.ir_formats.proofs.Makes.{drop_item}
use Rattle.ir_formats.specs.Rules.{texts, number_of, with_word, with_words}
use Rattle.ir_formats.specs.Spelling.{NumbersWords}

differ : (a b : ℕ) → a ≢ b → (a == b) ≡ false
differ a b h = go (a == b) refl
  where
    go : (x : Bool) → (a == b) ≡ x → (a == b) ≡ false
    go true e = absurd (h (eqb-true a b e))
    go false e = e

next_same : (a b : ℕ) → (suc a == suc b) ≡ (a == b)
next_same a b = go (a == b) refl
  where
    go : (x : Bool) → (a == b) ≡ x → (suc a == suc b) ≡ (a == b)
    go true e = eq-eqb (suc a) (suc b) (ap suc (eqb-true a b e)) ∙ sym e
    go false e = differ (suc a) (suc b) (λ h. let same : a ≡ b = omega arith in let f = eq-eqb a b same in cc) ∙ sym e

first_more : (b : Bool) (m n : ℕ) → m ≡ n → cond (not b) (1 + m) 0 ≡ (if b then 0 else suc n)
first_more true m n e = refl
first_more false m n e = omega arith

-- the number of a text among others is its place
pub number_is : (ks : List Text) (t : List ℕ) → position_or_len (λ (k : Text). bytes_eq t (codes_of k)) ks ≡ number_of (map codes_of ks) t
number_is [] t = refl
number_is (k ∷ ks) t = first_more (bytes_eq t (codes_of k)) _ _ (number_is ks t)

any_more : (b c : Bool) (m n : ℕ) → c ≡ not (m == n) → (b || c) ≡ not ((if b then 0 else suc m) == suc n)
any_more true c m n e = ap not (sym (differ 0 (suc n) (λ h. omega arith)))
any_more false c m n e = e ∙ ap not (sym (next_same m n))

-- a text is among others where its number is below theirs
pub any_is : (ks : List Text) (t : List ℕ) → list_any (λ (k : Text). bytes_eq t (codes_of k)) ks ≡ not (number_of (map codes_of ks) t == length (map codes_of ks))
any_is [] t = refl
any_is (k ∷ ks) t = any_more (bytes_eq t (codes_of k)) _ _ _ (any_is ks t)

not_not : (b c : Bool) → c ≡ not b → not c ≡ b
not_not true c e = ap not e
not_not false c e = ap not e

-- whether a text is a new one
pub new_is : (ks : List Text) (t : List ℕ) → not (list_any (λ (k : Text). bytes_eq t (codes_of k)) ks) ≡ (number_of (map codes_of ks) t == length (map codes_of ks))
new_is ks t = not_not (number_of (map codes_of ks) t == length (map codes_of ks)) _ (any_is ks t)

added_by : (b c : Bool) (ks : List Text) (t : Text) → c ≡ not b → map codes_of (if c then ks else ks ++ t ∷ []) ≡ (if b then map codes_of ks ++ codes_of t ∷ [] else map codes_of ks)
added_by true c ks t e = rw e (map-append codes_of ks (t ∷ []))
added_by false c ks t e = rw e refl

-- the texts with one more
pub added_is : (ks : List Text) (t : Text) → map codes_of (if list_any (λ (k : Text). bytes_eq (codes_of t) (codes_of k)) ks then ks else ks ++ t ∷ []) ≡ with_word (map codes_of ks) (codes_of t)
added_is ks t = added_by (number_of (map codes_of ks) (codes_of t) == length (map codes_of ks)) _ ks t (any_is ks (codes_of t))

-- numbers are at most the number of texts
pub number_le : (ws : List (List ℕ)) (t : List ℕ) → number_of ws t ≤ length ws
number_le [] t = omega arith
number_le (w ∷ ws) t = go (bytes_eq t w) (number_le ws t)
  where
    go : (b : Bool) → number_of ws t ≤ length ws → (if b then 0 else suc (number_of ws t)) ≤ suc (length ws)
    go true h = omega arith
    go false h = omega arith

same_text : (a b : List ℕ) → bytes_eq a b ≡ true → a ≡ b
same_text a b e = (bytes_eq-Decides a b).0 e

-- what stands at the number of a text that is among them is that text
pub number_at : (ws : List (List ℕ)) (t : List ℕ) → number_of ws t < length ws → slice_get ws (number_of ws t) ≡ Some t
number_at [] t lt = absurd (omega arith)
number_at (w ∷ ws) t lt = go (bytes_eq t w) refl lt (number_at ws t)
  where
    go : (b : Bool) → bytes_eq t w ≡ b → (if b then 0 else suc (number_of ws t)) < suc (length ws) → (number_of ws t < length ws → slice_get ws (number_of ws t) ≡ Some t)
        → slice_get (w ∷ ws) (if b then 0 else suc (number_of ws t)) ≡ Some t
    go true e lt rest = ap Some (sym (same_text t w e))
    go false e lt rest = rest (omega arith)

-- texts that are put behind others don't change the numbers of these
keeps_number : (ws more : List (List ℕ)) (t : List ℕ) → number_of ws t < length ws → number_of (ws ++ more) t ≡ number_of ws t
keeps_number [] more t lt = absurd (omega arith)
keeps_number (w ∷ ws) more t lt = go (bytes_eq t w) lt (keeps_number ws more t)
  where
    go : (b : Bool) → (if b then 0 else suc (number_of ws t)) < suc (length ws) → (number_of ws t < length ws → number_of (ws ++ more) t ≡ number_of ws t)
        → (if b then 0 else suc (number_of (ws ++ more) t)) ≡ (if b then 0 else suc (number_of ws t))
    go true lt rest = refl
    go false lt rest = ap suc (rest (omega arith))

-- a new text has the number behind the others
new_number : (ws : List (List ℕ)) (t : List ℕ) → number_of ws t ≡ length ws → number_of (ws ++ t ∷ []) t ≡ length ws
new_number [] t e = ap (λ (b : Bool). if b then 0 else 1) ((bytes_eq-Decides t t).1 refl)
new_number (w ∷ ws) t e = go (bytes_eq t w) e (new_number ws t)
  where
    go : (b : Bool) → (if b then 0 else suc (number_of ws t)) ≡ suc (length ws) → (number_of ws t ≡ length ws → number_of (ws ++ t ∷ []) t ≡ length ws)
        → (if b then 0 else suc (number_of (ws ++ t ∷ []) t)) ≡ suc (length ws)
    go true e rest = absurd (omega arith)
    go false e rest = ap suc (rest (omega arith))

-- Text t is among these, with number n.
pub record IsNumbered (ws : List (List ℕ)) (t : List ℕ) (n : ℕ) : Type 0 where
  pub is : number_of ws t ≡ n
  pub among : n < length ws

-- a text that is no new one has a lower number
pub below_of : (ws : List (List ℕ)) (t : List ℕ) → (number_of ws t == length ws) ≡ false → number_of ws t < length ws
below_of ws t e = go (cases_lt (number_of ws t) (length ws))
  where
    go : (number_of ws t < length ws) ⊎ (length ws ≤ number_of ws t) → number_of ws t < length ws
    go (inl less) = less
    go (inr more) = let le = number_le ws t in let same : number_of ws t ≡ length ws = omega arith in let yes_so = eq-eqb (number_of ws t) (length ws) same in cc

with_by : (ws : List (List ℕ)) (t : List ℕ) (b : Bool) → (number_of ws t == length ws) ≡ b → IsNumbered (if b then ws ++ t ∷ [] else ws) t (number_of ws t)
with_by ws t true e = let n = eqb-true (number_of ws t) (length ws) e in record { is = new_number ws t n ∙ sym n; among = omega (arith, length-append ws (t ∷ []), n) }
with_by ws t false e = record { is = refl; among = below_of ws t e }

-- a text that is put at the end, if it is a new one, is among them
pub numbered_with : (ws : List (List ℕ)) (t : List ℕ) → IsNumbered (with_word ws t) t (number_of ws t)
numbered_with ws t = with_by ws t (number_of ws t == length ws) refl

more_by : (ws : List (List ℕ)) (t u : List ℕ) (n : ℕ) (b : Bool) → IsNumbered ws t n → IsNumbered (if b then ws ++ u ∷ [] else ws) t n
more_by ws t u n true h = let lt : number_of ws t < length ws = omega (arith, h.is, h.among) in record { is = keeps_number ws (u ∷ []) t lt ∙ h.is; among = omega (arith, length-append ws (u ∷ []), h.among) }
more_by ws t u n false h = h

-- further texts don't change that
numbered_more : (ws : List (List ℕ)) (t u : List ℕ) (n : ℕ) → IsNumbered ws t n → IsNumbered (with_word ws u) t n
numbered_more ws t u n h = more_by ws t u n (number_of ws u == length ws) h

pub numbered_all : (ws us : List (List ℕ)) (t : List ℕ) (n : ℕ) → IsNumbered ws t n → IsNumbered (with_words ws us) t n
numbered_all ws [] t n h = h
numbered_all ws (u ∷ us) t n h = numbered_all (with_word ws u) us t n (numbered_more ws t u n h)

apart : (a b : List ℕ) → bytes_eq b a ≡ false → bytes_eq a b ≡ false
apart a b e = go (bytes_eq a b) refl
  where
    go : (x : Bool) → bytes_eq a b ≡ x → bytes_eq a b ≡ false
    go true h = let same : b ≡ a = sym (same_text a b h) in let yes_so = (bytes_eq-Decides b a).1 same in cc
    go false h = h

-- what stands behind a text isn't equal to it
later_apart : (k : Text) (ks : List Text) (i : ℕ) (u : Text) → AllByRecursion (λ (y : Text). bytes_eq (codes_of k) (codes_of y) ≡ false) ks → slice_get ks i ≡ Some u → bytes_eq (codes_of k) (codes_of u) ≡ false
later_apart k [] i u all e = cc
later_apart k (y ∷ ys) zero u all e = let same : y ≡ u = cc in rw (← same) all.0
later_apart k (y ∷ ys) (suc i) u all e = later_apart k ys i u all.1 e

-- among different texts each has the number of its place
pub number_here : (ks : List Text) (i : ℕ) (u : Text) (t : List ℕ) → IsDistinct (λ (a b : Text). bytes_eq (codes_of a) (codes_of b)) ks → slice_get ks i ≡ Some u → bytes_eq t (codes_of u) ≡ true
    → (i ≡ number_of (map codes_of ks) t) × (i < length (map codes_of ks))
unfolding IsDistinct
number_here [] i u t apart_all e same = cc
number_here (k ∷ ks) zero u t apart_all e same =
    let first : k ≡ u = cc in
    let here : bytes_eq t (codes_of k) ≡ true = rw first same in
    (ap (λ (b : Bool). if b then 0 else suc (number_of (map codes_of ks) t)) (sym here), omega arith)
number_here (k ∷ ks) (suc i) u t apart_all e same =
    let rest = number_here ks i u t apart_all.1 e same in
    let is : t ≡ codes_of u = same_text t (codes_of u) same in
    let other : bytes_eq t (codes_of k) ≡ false = apart t (codes_of k) (rw is (later_apart k ks i u apart_all.0 e)) in
    (ap suc rest.0 ∙ ap (λ (b : Bool). if b then 0 else suc (number_of (map codes_of ks) t)) (sym other), omega (arith, rest.1))

-- ---- tokens

among_here : (cs : List ℕ) (ws : List (List ℕ)) (ts : List Token) (t : Token) (b : Bool) → b ≡ true
    → number_of (with_words ws (if b then text_of cs t ∷ spelled_texts cs ts else spelled_texts cs ts)) (text_of cs t) < length (with_words ws (if b then text_of cs t ∷ spelled_texts cs ts else spelled_texts cs ts))
among_here cs ws ts t true e = let h = numbered_all (with_word ws (text_of cs t)) (spelled_texts cs ts) (text_of cs t) (number_of ws (text_of cs t)) (numbered_with ws (text_of cs t)) in rw h.is h.among
among_here cs ws ts t false e = cc

among_later : (cs : List ℕ) (ws : List (List ℕ)) (ts : List Token) (u t : Token) (b : Bool)
    → number_of (with_words (with_word ws (text_of cs u)) (spelled_texts cs ts)) (text_of cs t) < length (with_words (with_word ws (text_of cs u)) (spelled_texts cs ts))
    → number_of (with_words ws (spelled_texts cs ts)) (text_of cs t) < length (with_words ws (spelled_texts cs ts))
    → number_of (with_words ws (if b then text_of cs u ∷ spelled_texts cs ts else spelled_texts cs ts)) (text_of cs t) < length (with_words ws (if b then text_of cs u ∷ spelled_texts cs ts else spelled_texts cs ts))
among_later cs ws ts u t true h k = h
among_later cs ws ts u t false h k = k

-- the texts of tokens that may be words or names are among all of these
among_all : (cs : List ℕ) (ws : List (List ℕ)) (ts : List Token) (i : ℕ) (t : Token) → slice_get ts i ≡ Some t → is_spelled t.kind ≡ true
    → number_of (with_words ws (spelled_texts cs ts)) (text_of cs t) < length (with_words ws (spelled_texts cs ts))
among_all cs ws [] i t e h = cc
among_all cs ws (u ∷ us) zero t e h = let same : u ≡ t = cc in rw same (among_here cs ws us t (is_spelled t.kind) h)
among_all cs ws (u ∷ us) (suc i) t e h = among_later cs ws us u t (is_spelled u.kind) (among_all cs (with_word ws (text_of cs u)) us i t e h) (among_all cs ws us i t e h)

read_map : {A : Type 0} (f : A → ℕ) (xs : List A) (i : ℕ) (x : A) → slice_get xs i ≡ Some x → get_or (map f xs) i 0 ≡ f x
read_map f [] i x e = cc
read_map f (y ∷ ys) zero x e = ap f (same_item y x e)
  where
    same_item : {A : Type 0} (y x : A) → Some y ≡ Some x → y ≡ x
    same_item y x e = cc
read_map f (y ∷ ys) (suc i) x e = read_map f ys i x e

number_read : (cs : List ℕ) (ts : List Token) (all : List (List ℕ)) (none : ℕ) (ns : List ℕ) → ns ≡ map (name_number all none cs) ts → (i : ℕ) (t : Token) → slice_get ts i ≡ Some t → is_spelled t.kind ≡ true → get_or ns i 0 ≡ number_of all (text_of cs t)
number_read cs ts all none ns e i t at h = rw e (read_map (name_number all none cs) ts i t at ∙ ap (λ (b : Bool). if b then number_of all (text_of cs t) else none) h)

one_text : (ws : List (List ℕ)) (a b : List ℕ) → number_of ws a ≡ number_of ws b → number_of ws a < length ws → number_of ws b < length ws → a ≡ b
one_text ws a b e lt_a lt_b = same a b (sym (number_at ws a lt_a) ∙ (ap (slice_get ws) e ∙ number_at ws b lt_b))
  where
    same : (a b : List ℕ) → Some a ≡ Some b → a ≡ b
    same a b e = cc

-- tokens that are numbered by their texts have one number where they are spelled alike
pub alike_by : (cs : List ℕ) (first : List (List ℕ)) (ts : List Token) (none : ℕ) (ns : List ℕ) → ns ≡ map (name_number (with_words first (spelled_texts cs ts)) none cs) ts → AlikeInNumber cs ts ns
alike_by cs first ts none ns e i j s t at_i at_j spelled_s spelled_t =
    let all = with_words first (spelled_texts cs ts) in
    let a = number_read cs ts all none ns e i s at_i spelled_s in
    let b = number_read cs ts all none ns e j t at_j spelled_t in (
      λ same. one_text all (text_of cs s) (text_of cs t) (sym a ∙ (same ∙ b)) (among_all cs first ts i s at_i spelled_s) (among_all cs first ts j t at_j spelled_t),
      λ same. a ∙ (ap (number_of all) same ∙ sym b),
    )

-- ---- the numbers of words, by those of known texts

read_text : (ws ks : List (List ℕ)) (i : ℕ) (t : List ℕ) (d : ℕ) → slice_get ks i ≡ Some t → get_or (map (number_of ws) ks) i d ≡ number_of ws t
read_text ws [] i t d e = cc
read_text ws (k ∷ ks) zero t d e = let same : k ≡ t = cc in ap (number_of ws) same
read_text ws (k ∷ ks) (suc i) t d e = read_text ws ks i t d e

-- a text that isn't among others has no lower number among more of them
later_number : (ws more : List (List ℕ)) (t : List ℕ) → length ws ≤ number_of ws t → length ws ≤ number_of (ws ++ more) t
later_number [] more t le = omega arith
later_number (w ∷ ws) more t le = go (bytes_eq t w) le (later_number ws more t)
  where
    go : (b : Bool) → suc (length ws) ≤ (if b then 0 else suc (number_of ws t)) → (length ws ≤ number_of ws t → length ws ≤ number_of (ws ++ more) t)
        → suc (length ws) ≤ (if b then 0 else suc (number_of (ws ++ more) t))
    go true le rest = absurd (omega arith)
    go false le rest = let more_so = rest (omega arith) in omega arith

numbers_append : (ws known : List (List ℕ)) (u : List ℕ) (found : List ℕ) → NumbersWords ws known found → NumbersWords ws (known ++ u ∷ []) found
numbers_append ws known u found h = record {
  first = omega (arith, length-append known (u ∷ []), h.first);
  word = λ t. go t (cases_lt (number_of known t) (length known));
}
  where
    go : (t : List ℕ) → (number_of known t < length known) ⊎ (length known ≤ number_of known t) → get_or found (number_of (known ++ u ∷ []) t) (length ws) ≡ number_of ws t
    go t (inl less) = ap (λ n. get_or found n (length ws)) (keeps_number known (u ∷ []) t less) ∙ h.word t
    go t (inr more) =
        let later = later_number known (u ∷ []) t more in
        get_or_past found (number_of (known ++ u ∷ []) t) (length ws) (omega (arith, h.first)) ∙ (sym (get_or_past found (number_of known t) (length ws) (omega (arith, h.first))) ∙ h.word t)

numbers_by : (ws known : List (List ℕ)) (u : List ℕ) (found : List ℕ) (b : Bool) → NumbersWords ws known found → NumbersWords ws (if b then known ++ u ∷ [] else known) found
numbers_by ws known u found true h = numbers_append ws known u found h
numbers_by ws known u found false h = h

-- texts that are put behind others change no numbers of words
numbers_with : (ws known : List (List ℕ)) (u : List ℕ) (found : List ℕ) → NumbersWords ws known found → NumbersWords ws (with_word known u) found
numbers_with ws known u found h = numbers_by ws known u found (number_of known u == length known) h

numbers_if : (ws known : List (List ℕ)) (u : List ℕ) (found : List ℕ) (b : Bool) → NumbersWords ws known found → NumbersWords ws (if b then with_word known u else known) found
numbers_if ws known u found true h = numbers_with ws known u found h
numbers_if ws known u found false h = h

-- nor does a token
pub numbers_known : (ws known known' : List (List ℕ)) (cs : List ℕ) (t : Token) (found : List ℕ) → known' ≡ known_with known cs t → NumbersWords ws known found → NumbersWords ws known' found
numbers_known ws known known' cs t found e h = rw e (numbers_if ws known (text_of cs t) found (is_spelled t.kind) h)

-- After i words: the texts of these, with the numbers of the words that they are. A text that is none of these is no word before i.
pub record Begun (words : List Characters) (i : ℕ) (known : List (List ℕ)) (found : List ℕ) : Type 0 where
  pub words_found : found ≡ map (number_of (spellings words)) known
  pub ahead : (text : List ℕ) → length known ≤ number_of known text → number_of (spellings words) text ≡ i + number_of (spellings (drop i words)) text

-- all words are put in
pub begun_all : (words : List Characters) (i : ℕ) (known : List (List ℕ)) (found : List ℕ) → length words ≤ i → Begun words i known found → NumbersWords (spellings words) known found
begun_all words i known found le h = record {
  first = omega (arith, many);
  word = λ t. go t (cases_lt (number_of known t) (length known));
}
  where
    ws : List (List ℕ)
    ws = spellings words

    many : length found ≡ length known
    many = ap length h.words_found ∙ length-map known (number_of ws)

    go : (t : List ℕ) → (number_of known t < length known) ⊎ (length known ≤ number_of known t) → get_or found (number_of known t) (length ws) ≡ number_of ws t
    go t (inl less) = rw h.words_found (read_text ws known (number_of known t) t (length ws) (number_at known t less))
    go t (inr more) =
        let none = h.ahead t more in
        let most = number_le ws t in
        let count = length-map words owned_codes in
        get_or_past found (number_of known t) (length ws) (omega (arith, many)) ∙ omega (arith, none, most, count)

module _ (words : List Characters) (i : ℕ) (w : Characters) (known : List (List ℕ)) (found : List ℕ) (lt : i < length words) (at : w ≡ get_or words i w) (h : Begun words i known found) where
  this_word : (t : List ℕ) (b : Bool) → bytes_eq t (owned_codes w) ≡ b → number_of (spellings (drop i words)) t ≡ (if b then 0 else suc (number_of (spellings (drop (i + 1) words)) t))
  this_word t b e = ap (λ us. number_of (spellings us) t) (drop_item words i w lt at) ∙ ap (λ (c : Bool). if c then 0 else suc (number_of (spellings (drop (i + 1) words)) t)) e

  ahead_more : (t : List ℕ) → length (with_word known (owned_codes w)) ≤ number_of (with_word known (owned_codes w)) t → number_of (spellings words) t ≡ (i + 1) + number_of (spellings (drop (i + 1) words)) t
  ahead_more t le = go (cases_lt (number_of known t) (length known))
    where
      other : length known ≤ number_of known t → (b : Bool) → bytes_eq t (owned_codes w) ≡ b → number_of (spellings words) t ≡ (i + 1) + number_of (spellings (drop (i + 1) words)) t
      other more true e =
          let here = numbered_with known (owned_codes w) in
          let same = ap (number_of (with_word known (owned_codes w))) (same_text t (owned_codes w) e) in
          absurd (omega (arith, le, here.is, here.among, same))
      other more false e = omega (arith, h.ahead t more, this_word t false e)

      go : (number_of known t < length known) ⊎ (length known ≤ number_of known t) → number_of (spellings words) t ≡ (i + 1) + number_of (spellings (drop (i + 1) words)) t
      go (inl less) = let stays = numbered_more known t (owned_codes w) (number_of known t) (record { is = refl; among = less }) in absurd (omega (arith, le, stays.is, stays.among))
      go (inr more) = other more (bytes_eq t (owned_codes w)) refl

  found_by : (b : Bool) → (number_of known (owned_codes w) == length known) ≡ b → (if b then found ++ i ∷ [] else found) ≡ map (number_of (spellings words)) (if b then known ++ owned_codes w ∷ [] else known)
  found_by true e =
      let new : length known ≤ number_of known (owned_codes w) = omega (arith, eqb-true (number_of known (owned_codes w)) (length known) e) in
      let is : number_of (spellings words) (owned_codes w) ≡ i = omega (arith, h.ahead (owned_codes w) new, this_word (owned_codes w) true ((bytes_eq-Decides (owned_codes w) (owned_codes w)).1 refl)) in
      rw (map-append (number_of (spellings words)) known (owned_codes w ∷ []), is) (ap (λ ns. ns ++ i ∷ []) h.words_found)
  found_by false e = h.words_found

  -- one word more
  pub begun_more : (text : List ℕ) (known' : List (List ℕ)) (found' : List ℕ) (is_new : Bool) → text ≡ owned_codes w → is_new ≡ (number_of known text == length known) → known' ≡ with_word known text
      → found' ≡ (if is_new then found ++ i ∷ [] else found) → Begun words (i + 1) known' found'
  begun_more text known' found' is_new is new know find = rw (know, find, new, is) record {
    words_found = found_by (number_of known (owned_codes w) == length known) refl;
    ahead = ahead_more;
  }

-- within a list what is read doesn't hang on the default
pub any_default : {A : Type 0} (xs : List A) (i : ℕ) (a b : A) → i < length xs → get_or xs i a ≡ get_or xs i b
any_default [] i a b lt = absurd (omega arith)
any_default (x ∷ xs) zero a b lt = refl
any_default (x ∷ xs) (suc i) a b lt = any_default xs i a b (omega arith)

-- ---- the characters of words

-- one word more is spelled
pub word_spelled : (ws : List (Bor (List ℕ))) (i : ℕ) (w : Bor (List ℕ)) (xs ys : List Characters) (v : Characters) (all : List (List ℕ)) → i < length ws → w ≡ get_or ws i w → spellings xs ++ map chars (texts (drop i ws)) ≡ all
    → owned_codes v ≡ chars w.now → ys ≡ xs ++ v ∷ [] → spellings ys ++ map chars (texts (drop (i + 1) ws)) ≡ all
word_spelled ws i w xs ys v all lt at e is more =
    let rest = map chars (texts (drop (i + 1) ws)) in
    rw (more, map-append owned_codes xs (v ∷ [])) (append_assoc (spellings xs) (owned_codes v ∷ []) rest
    ∙ (ap (λ (t : List ℕ). spellings xs ++ (t ∷ rest)) is ∙ (ap (λ us. spellings xs ++ map chars (texts us)) (sym (drop_item ws i w lt at)) ∙ e)))
