-- The words of formats that can be printed are words, and those are ASCII.
use Rattle.std.proofs.Common.{◌≡◌, ℕ, zero, suc, ◌<◌, List, [], ◌∷◌, Some, Bool, true, false, not, ◌&&◌, ◌||◌, ◌==◌, if◌then◌else◌, nat_lt, codes, map, length, slice_get, refl, sym, subst, ap, ◌∙◌, ◌⊎◌, inl, inr, arith}
use Rattle.std.specs.Str.{bytes_eq, chars, IsAscii}
use Rattle.std.specs.List.{list_all, list_any}
use Rattle.std.proofs.lemmas.Bool.{eqb-true}
use Rattle.std.proofs.lemmas.Bool.Decides.{nat_tests}
use Rattle.std.proofs.lemmas.Slice.Eq.{bytes_eq-Decides}
use Rattle.std.proofs.lemmas.Str.{chars-IsAscii}
use Rattle.ir_print.specs.Formats as step
use Rattle.ir_print.specs.Formats.{Formats, Kind, Step, Steps, no_steps, Choices, no_choice, a_choice}
use Rattle.ir_formats.specs.declared.rules.Sort.{Sort}
use Rattle.ir_formats.specs.declared.rules.Sort.TheVariants as sort
use Rattle.ir_tokens.specs.declared.tokens.TokenKind.{TokenKind}
use Rattle.ir_tokens.specs.declared.tokens.TokenKind.TheVariants as kinds
use Rattle.ir_tokens.specs.Tokens.{is_letter, is_digit, is_name_char, is_sign}
use Rattle.ir_formats.specs.Words.{is_width, is_spelled}
use Rattle.ir_formats.specs.Rules.{words_in_step, words_in, words_in_choices, words_of, parts_of, kinds_of, frame_words}
use Rattle.ir_rereading.specs.Printable.{ends_name, is_word, less_spaces, is_before_spaces, is_printed, BoundaryBefore, apart, part, behind, begins_apart, ends_apart, may_follow, may_take, is_step_apart, are_steps_apart, are_choices_apart, is_kind_printable, is_printable}
use Rattle.ir_rereading.proofs.layouts.Marks.{has_dot, behind_minus, other_kind, kind_of_text}
use Rattle.ir_rereading.proofs.layouts.Among.{IsAmong, among_either, WordFrom, of_frame, of_kind, word_source}
use Rattle.ir_formats.proofs.Booleans.{both_hold}

one_holds : (a b : Bool) → a || b ≡ true → (a ≡ true) ⊎ (b ≡ true)
one_holds true b e = inl refl
one_holds false b e = inr e

-- ---- what is printable

-- what is tested of formats that can be printed
pub record Tested (f : Formats) : Type 0 where
  pub words : length (words_of f) < 65536
  pub operations : list_all is_kind_printable f.operations ≡ true
  pub types : list_all is_kind_printable f.types ≡ true
  pub attributes : list_all is_kind_printable f.attributes ≡ true

five_tests : (a b c d e : Bool) → a && b && c && d && e ≡ true → (a ≡ true) × (b ≡ true) × (c ≡ true) × (d ≡ true) × (e ≡ true)
five_tests true true true true e h = (refl, refl, refl, refl, h)
five_tests true true true false e h = cc
five_tests true true false d e h = cc
five_tests true false c d e h = cc
five_tests false b c d e h = cc

pub tested : (f : Formats) → is_printable f ≡ true → Tested f
tested f h =
    let t = five_tests (nat_lt (length (words_of f)) 65536) (nat_lt (parts_of f) 65536) (list_all is_kind_printable f.operations) (list_all is_kind_printable f.types) (list_all is_kind_printable f.attributes) h in
    record { words = let e = t.0 in grind (arith, nat_tests); operations = t.2; types = t.3; attributes = t.4 }

printable_at : (ks : List Kind) (n : ℕ) (k : Kind) → list_all is_kind_printable ks ≡ true → slice_get ks n ≡ Some k → is_kind_printable k ≡ true
printable_at [] n k h e = cc
printable_at (j ∷ ks) zero k h e = let same : j ≡ k = let t : Some j ≡ Some k = e in cc in subst (λ (x : Kind). is_kind_printable x ≡ true) same (both_hold (is_kind_printable j) (list_all is_kind_printable ks) h).0
printable_at (j ∷ ks) (suc n) k h e = printable_at ks n k (both_hold (is_kind_printable j) (list_all is_kind_printable ks) h).1 e

pub kind_printable : (f : Formats) (s : Sort) (n : ℕ) (k : Kind) → Tested f → slice_get (kinds_of f s) n ≡ Some k → is_kind_printable k ≡ true
kind_printable f sort.Operation n k t e = printable_at f.operations n k t.operations e
kind_printable f sort.«Type» n k t e = printable_at f.types n k t.types e
kind_printable f sort.Attribute n k t e = printable_at f.attributes n k t.attributes e

-- ---- words are words

single : (v w : List ℕ) → is_word v ≡ true → IsAmong w (v ∷ []) → is_word w ≡ true
single v w h (inl e) = subst (λ x. is_word x ≡ true) (sym e) h
single v w h (inr i) = absurd i

printed_word : (printed text : List ℕ) → is_printed printed text ≡ true → is_word text ≡ true
printed_word printed text h = (both_hold (is_word text) (is_before_spaces text (less_spaces printed)) h).0

list_tests : (a b c d : Bool) → a && b && c && d ≡ true → (a ≡ true) × (d ≡ true)
list_tests true true true d h = (refl, h)
list_tests true true false d h = cc
list_tests true false c d h = cc
list_tests false b c d h = cc

mid_test : (a b c : Bool) → a && b && c ≡ true → (a ≡ true) × (b ≡ true) × (c ≡ true)
mid_test true true c h = (refl, refl, h)
mid_test true false c h = cc
mid_test false b c h = cc

mutual
  step_words : (s : Step) (w : List ℕ) → is_step_apart s ≡ true → ((printed text : List ℕ) → s ≡ step.word printed text → is_word text ≡ true) → IsAmong w (words_in_step s) → is_word w ≡ true
  step_words (step.word printed text) w h own i = single text w (own printed text refl) i
  step_words step.operands w h own i = single (codes ",") w refl i
  step_words step.successor w h own i = single (codes ",") w refl i
  step_words step.symbol_name w h own i = single (codes "@") w refl i
  step_words (step.list_of member printed text) w h own (inl e) =
      let t = list_tests (is_printed printed text) (begins_apart printed) (ends_apart printed) (are_steps_apart part member) h in
      subst (λ x. is_word x ≡ true) (sym e) (printed_word printed text t.0)
  step_words (step.list_of member printed text) w h own (inr i) =
      let t = list_tests (is_printed printed text) (begins_apart printed) (ends_apart printed) (are_steps_apart part member) h in
      steps_words member part w t.1 i
  step_words (step.choice_of cs) w h own i = choices_words cs w h i
  step_words _ w h own i = absurd i

  steps_words : (ss : Steps) (edge : BoundaryBefore) (w : List ℕ) → are_steps_apart edge ss ≡ true → IsAmong w (words_in ss) → is_word w ≡ true
  steps_words no_steps edge w h i = absurd i
  steps_words (step.step (step.word printed text) ss) edge w h i =
      let t = mid_test (is_printed printed text) (may_follow edge printed) (are_steps_apart (behind printed) ss) h in
      elim (among_either w (text ∷ []) (words_in ss) i) [
        | inl j ↦ single text w (printed_word printed text t.0) j
        | inr j ↦ steps_words ss (behind printed) w t.2 j
      ]
  steps_words (step.step s ss) edge w h i =
      let t = mid_test (may_take edge) (is_step_apart s) (are_steps_apart part ss) h in
      elim (among_either w (words_in_step s) (words_in ss) i) [
        | inl j ↦ step_words s w t.1 (λ printed text e. cc) j
        | inr j ↦ steps_words ss part w t.2 j
      ]

  choices_words : (cs : Choices) (w : List ℕ) → are_choices_apart cs ≡ true → IsAmong w (words_in_choices cs) → is_word w ≡ true
  choices_words no_choice w h i = absurd i
  choices_words (a_choice ss cs) w h i =
      let t = both_hold (are_steps_apart apart ss) (are_choices_apart cs) h in
      elim (among_either w (words_in ss) (words_in_choices cs) i) [
        | inl j ↦ steps_words ss apart w t.0 j
        | inr j ↦ choices_words cs w t.1 j
      ]

frame_word : (w : List ℕ) → IsAmong w frame_words → is_word w ≡ true
frame_word w h = go frame_words refl h
  where
    go : (ws : List (List ℕ)) → list_all is_word ws ≡ true → IsAmong w ws → is_word w ≡ true
    go [] t i = absurd i
    go (v ∷ ws) t (inl e) = subst (λ x. is_word x ≡ true) (sym e) (both_hold (is_word v) (list_all is_word ws) t).0
    go (v ∷ ws) t (inr i) = go ws (both_hold (is_word v) (list_all is_word ws) t).1 i

kind_word : (k : Kind) (w : List ℕ) → is_kind_printable k ≡ true → IsAmong w (k.id ∷ words_in k.format) → is_word w ≡ true
kind_word k w h (inl e) = subst (λ x. is_word x ≡ true) (sym e) (both_hold (is_word k.id) (are_steps_apart apart k.format) h).0
kind_word k w h (inr i) = steps_words k.format apart w (both_hold (is_word k.id) (are_steps_apart apart k.format) h).1 i

-- each word of the formats is a word
pub is_word_among : (f : Formats) → Tested f → (w : List ℕ) → IsAmong w (words_of f) → is_word w ≡ true
is_word_among f t w h = go (word_source f w h)
  where
    go : WordFrom f w → is_word w ≡ true
    go (of_frame i) = frame_word w i
    go (of_kind s n k e i) = kind_word k w (kind_printable f s n k t e) i

-- ---- words by their forms

-- what is tested of each sign is so of a sign
sign_by : (p : ℕ → Bool) (c : ℕ) (cs : List ℕ) → list_all p cs ≡ true → list_any (λ s. c == s) cs ≡ true → p c ≡ true
sign_by p c [] h e = cc
sign_by p c (d ∷ cs) h e =
    let t = both_hold (p d) (list_all p cs) h in
    elim (one_holds (c == d) (list_any (λ s. c == s) cs) e) [
      | inl same ↦ subst (λ x. p x ≡ true) (sym (eqb-true c d same)) t.0
      | inr more ↦ sign_by p c cs t.1 more
    ]

-- a word that is no width: one that begins with a letter, a sign, or `->`
pub data WordForm : List ℕ → Type 0 where
  lettered : {c : ℕ} {cs : List ℕ} → is_letter c ≡ true → ends_name false cs ≡ true → WordForm (c ∷ cs)
  signed : {c : ℕ} → is_sign c ≡ true → WordForm (c ∷ [])
  arrow : WordForm (codes "->")

pub word_form : (w : List ℕ) → is_word w ≡ true → WordForm w
word_form [] h = cc
word_form (c ∷ cs) h =
    let t = both_hold (not (is_width (c ∷ cs))) _ h in
    three (is_letter c && ends_name false cs) (is_sign c && bytes_eq cs []) (bytes_eq (c ∷ cs) (codes "->")) t.1
    (λ a. let u = both_hold (is_letter c) (ends_name false cs) a in lettered u.0 u.1)
    (λ a. let u = both_hold (is_sign c) (bytes_eq cs []) a in subst (λ x. WordForm (c ∷ x)) (sym ((bytes_eq-Decides cs []).0 u.1)) (signed u.0))
    (λ a. subst WordForm (sym ((bytes_eq-Decides (c ∷ cs) (codes "->")).0 a)) arrow)
  where
    three : (a b d : Bool) → a || b || d ≡ true → (a ≡ true → WordForm (c ∷ cs)) → (b ≡ true → WordForm (c ∷ cs)) → (d ≡ true → WordForm (c ∷ cs)) → WordForm (c ∷ cs)
    three true b d e x y z = x refl
    three false true d e x y z = y refl
    three false false d e x y z = z e

pub not_width : (w : List ℕ) → is_word w ≡ true → is_width w ≡ false
not_width [] h = refl
not_width (c ∷ cs) h = go (is_width (c ∷ cs)) (both_hold (not (is_width (c ∷ cs))) _ h).0
  where
    go : (b : Bool) → not b ≡ true → b ≡ false
    go true e = cc
    go false e = refl

-- ---- words are ASCII

ascii_more : (c : ℕ) (cs : List ℕ) → c < 128 → IsAscii cs → IsAscii (c ∷ cs)
ascii_more c cs h t zero = h
ascii_more c cs h t (suc i) = t i

ascii_none : IsAscii []
ascii_none i = omega arith

letter_ascii : (c : ℕ) → is_letter c ≡ true → c < 128
letter_ascii c h = grind (arith, nat_tests)

name_ascii : (c : ℕ) → is_name_char c ≡ true → c < 128
name_ascii c h = grind (arith, nat_tests)

end_ascii : (dotted : Bool) (cs : List ℕ) → ends_name dotted cs ≡ true → IsAscii cs
end_ascii dotted [] h = ascii_none
end_ascii dotted (c ∷ []) h = ascii_more c [] (name_ascii c h) ascii_none
end_ascii dotted (c ∷ d ∷ cs) h = go (c == 46) refl h (end_ascii true cs) (end_ascii dotted (d ∷ cs))
  where
    go : (b : Bool) → (c == 46) ≡ b → (if b then not dotted && is_letter d && ends_name true cs else is_name_char c && ends_name dotted (d ∷ cs)) ≡ true
        → (ends_name true cs ≡ true → IsAscii cs) → (ends_name dotted (d ∷ cs) ≡ true → IsAscii (d ∷ cs)) → IsAscii (c ∷ d ∷ cs)
    go true e t first second =
        let u = mid_test (not dotted) (is_letter d) (ends_name true cs) t in
        ascii_more c (d ∷ cs) (let same = eqb-true c 46 e in omega arith) (ascii_more d cs (letter_ascii d u.1) (first u.2))
    go false e t first second =
        let u = both_hold (is_name_char c) (ends_name dotted (d ∷ cs)) t in
        ascii_more c (d ∷ cs) (name_ascii c u.0) (second u.1)

sign_ascii : (c : ℕ) → is_sign c ≡ true → c < 128
sign_ascii c h = let e = sign_by (λ x. nat_lt x 128) c (codes "{}()[]<>,;:=@^?") refl h in grind (arith, nat_tests)

form_ascii : {w : List ℕ} → WordForm w → IsAscii w
form_ascii (lettered {c} {cs} a b) = ascii_more c cs (letter_ascii c a) (end_ascii false cs b)
form_ascii (signed {c} a) = ascii_more c [] (sign_ascii c a) ascii_none
form_ascii arrow = ascii_more 45 (62 ∷ []) (omega arith) (ascii_more 62 [] (omega arith) ascii_none)

pub word_ascii : (w : List ℕ) → is_word w ≡ true → IsAscii w
word_ascii w h = form_ascii (word_form w h)

plain_all : (ws : List (List ℕ)) → ((w : List ℕ) → IsAmong w ws → is_word w ≡ true) → map chars ws ≡ ws
plain_all [] h = refl
plain_all (w ∷ ws) h =
    let one : chars w ≡ w = chars-IsAscii w (word_ascii w (h w (inl refl))) in
    let rest : map chars ws ≡ ws = plain_all ws (λ v i. h v (inr i)) in
    ap (λ x. x ∷ map chars ws) one ∙ ap (λ xs. w ∷ xs) rest

-- The words of formats that can be printed are their own characters.
pub words_plain : (f : Formats) → is_printable f ≡ true → map chars (words_of f) ≡ words_of f
words_plain f h = plain_all (words_of f) (is_word_among f (tested f h))

-- ---- words are tokens that may be words

sort_sign : (c : ℕ) → is_sign c ≡ true → is_spelled (kind_of_text (c ∷ [])) ≡ true
sort_sign c h = sign_by (λ x. is_spelled (kind_of_text (x ∷ []))) c (codes "{}()[]<>,;:=@^?") refl h

sort_letter : (c : ℕ) (cs : List ℕ) → is_letter c ≡ true → is_spelled (kind_of_text (c ∷ cs)) ≡ true
sort_letter c cs h = go (is_letter c) (has_dot cs) (if is_digit c then kinds.Digits else (if c == 45 then behind_minus cs else other_kind c)) h
  where
    go : (a b : Bool) (k : TokenKind) → a ≡ true → is_spelled (if a then (if b then kinds.Dotted else kinds.Name) else k) ≡ true
    go true true k e = refl
    go true false k e = refl
    go false b k e = cc

form_spelled : {w : List ℕ} → WordForm w → is_spelled (kind_of_text w) ≡ true
form_spelled (lettered {c} {cs} a b) = sort_letter c cs a
form_spelled (signed {c} a) = sort_sign c a
form_spelled arrow = refl

pub word_spelled : (w : List ℕ) → is_word w ≡ true → is_spelled (kind_of_text w) ≡ true
word_spelled w h = form_spelled (word_form w h)
