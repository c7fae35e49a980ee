-- Words are tokens, and no other texts are.
use Rattle.std.proofs.Common.{◌≡◌, ℕ, zero, suc, ◌<◌, Bool, true, false, ◌||◌, List, [], ◌∷◌, length, refl, sym, ap, subst, ◌∙◌, arith, inl, inr, codes, if◌then◌else◌, ◌==◌}
use Rattle.std.specs.Prelude.{slice_index, bytes_eq}
use Rattle.std.specs.List.{list_all}
use Rattle.std.proofs.lemmas.Bool.Decides.{Decides-eqb}
use Rattle.std.proofs.lemmas.Slice.Eq.{bytes_eq-Decides}
use Rattle.ir_names.specs.Text.{is_identifier}
use Rattle.ir_tokens.specs.declared.tokens.TokenKind.{TokenKind}
use Rattle.ir_tokens.specs.declared.tokens.TokenKind.TheVariants.{Name, Dotted, Digits, Negative, Mark, Text, Sign, Arrow, InMemory, Bad}
use Rattle.ir_tokens.specs.Tokens.{is_letter, is_digit, is_name_char, is_sign, IsName, Spells}
use Rattle.ir_formats.specs.Words.{is_width, are_digits, is_signless_width}
use Rattle.ir_format_checks.specs.Tokens.{is_sign_or_name, IsWord}
use Rattle.ir_format_checks.specs.Test.{is_one_sign, is_word}
use Rattle.ir_format_checks.proofs.Booleans.{or_left, or_right, or_cases, and_both, and_first, and_second}

-- ---- texts

all_at : (p : ℕ → Bool) (cs : List ℕ) → list_all p cs ≡ true → (k : ℕ) → k < length cs → p (slice_index cs k) ≡ true
all_at p [] h k lt = absurd (omega arith)
all_at p (c ∷ cs) h zero lt = and_first (p c) (list_all p cs) h
all_at p (c ∷ cs) h (suc k) lt = all_at p cs (and_second (p c) (list_all p cs) h) k (omega arith)

all_from : (p : ℕ → Bool) (cs : List ℕ) → ((k : ℕ) → k < length cs → p (slice_index cs k) ≡ true) → list_all p cs ≡ true
all_from p [] h = refl
all_from p (c ∷ cs) h = and_both _ _ (h 0 (omega arith)) (all_from p cs (λ k lt. h (suc k) (omega arith)))

-- ---- names

pub identifier_is : (w : List ℕ) → is_identifier w ≡ true → IsName w 0 (length w)
identifier_is [] h = absurd (let t : false ≡ true = h in cc)
identifier_is (c ∷ cs) h =
    let letter : is_letter c ≡ true = and_first (is_letter c) (list_all is_name_char cs) h in
    let whole : list_all is_name_char (c ∷ cs) ≡ true = and_both (is_name_char c) (list_all is_name_char cs) (or_left (is_letter c) (is_digit c) letter) (and_second (is_letter c) (list_all is_name_char cs) h) in
    (omega arith, letter, λ k lo lt. all_at is_name_char (c ∷ cs) whole k lt)

pub identifier_was : (w : List ℕ) → IsName w 0 (length w) → is_identifier w ≡ true
identifier_was [] h = absurd (let z : 0 < 0 = h.0 in omega arith)
identifier_was (c ∷ cs) h = and_both (is_letter c) (list_all is_name_char cs) h.1 (all_from is_name_char cs (λ k lt. h.2 (suc k) (omega arith) (omega arith)))

digits_later : (cs : List ℕ) → list_all is_digit cs ≡ true → list_all is_name_char cs ≡ true
digits_later [] h = refl
digits_later (c ∷ cs) h = and_both _ _ (or_right (is_letter c) (is_digit c) (and_first (is_digit c) (list_all is_digit cs) h)) (digits_later cs (and_second (is_digit c) (list_all is_digit cs) h))

-- ---- words

sign_is : (w : List ℕ) → is_one_sign w ≡ true → IsWord w
sign_is [] h = absurd (let t : false ≡ true = h in cc)
sign_is (c ∷ []) h = record { kind = Sign c; sort = refl; spelled = (h, refl, refl) }
sign_is (c ∷ d ∷ cs) h = absurd (let t : false ≡ true = h in cc)

pub word_is : (w : List ℕ) → is_word w ≡ true → IsWord w
word_is w h = elim (or_cases (is_identifier w) (is_one_sign w || bytes_eq w (codes "->")) h) [
  | inl a ↦ record { kind = Name; sort = refl; spelled = identifier_is w a }
  | inr b ↦ elim (or_cases (is_one_sign w) (bytes_eq w (codes "->")) b) [
    | inl s ↦ sign_is w s
    | inr e ↦ subst IsWord (sym ((bytes_eq-Decides w (codes "->")).0 e)) (record { kind = Arrow; sort = refl; spelled = (refl, refl, refl) })
  ]
]

-- a text of one character that is a sign
sign_was : (w : List ℕ) (c : ℕ) → Spells w 0 (length w) (Sign c) → is_one_sign w ≡ true
sign_was [] c h = absurd (let e : 0 ≡ 1 = h.2 in cc)
sign_was (d ∷ []) c h = let same : d ≡ c = h.1 in subst (λ x. is_sign x ≡ true) (sym same) h.0
sign_was (d ∷ e ∷ cs) c h = absurd (let l : length (d ∷ e ∷ cs) ≡ 1 = h.2 in omega arith)

arrow_was : (w : List ℕ) → Spells w 0 (length w) Arrow → w ≡ codes "->"
arrow_was [] h = absurd (let e : 0 ≡ 2 = h.2 in cc)
arrow_was (a ∷ []) h = absurd (let l : length (a ∷ []) ≡ 2 = h.2 in omega arith)
arrow_was (a ∷ b ∷ []) h = let first : a ≡ 45 = h.0 in let second : b ≡ 62 = h.1 in ap (λ x. x ∷ b ∷ []) first ∙ ap (λ x. 45 ∷ x ∷ []) second
arrow_was (a ∷ b ∷ c ∷ cs) h = absurd (let l : length (a ∷ b ∷ c ∷ cs) ≡ 2 = h.2 in omega arith)

spelled_was : (w : List ℕ) (k : TokenKind) → is_sign_or_name k ≡ true → Spells w 0 (length w) k → is_word w ≡ true
spelled_was w Name s h = or_left (is_identifier w) _ (identifier_was w h)
spelled_was w (Sign c) s h = or_right (is_identifier w) _ (or_left (is_one_sign w) _ (sign_was w c h))
spelled_was w Arrow s h = or_right (is_identifier w) _ (or_right (is_one_sign w) _ ((bytes_eq-Decides w (codes "->")).1 (arrow_was w h)))
spelled_was w Dotted s h = cc
spelled_was w Digits s h = cc
spelled_was w Negative s h = cc
spelled_was w Mark s h = cc
spelled_was w Text s h = cc
spelled_was w InMemory s h = cc
spelled_was w Bad s h = cc

pub word_was : (w : List ℕ) → IsWord w → is_word w ≡ true
word_was w h = spelled_was w h.kind h.sort h.spelled

-- ---- widths

signless_name : (cs : List ℕ) → is_signless_width cs ≡ true → list_all is_name_char cs ≡ true
signless_name [] h = refl
signless_name (c ∷ cs) h = at (c == 105) refl h where
  at : (b : Bool) → (c == 105) ≡ b → (if b then are_digits cs else false) ≡ true → list_all is_name_char (c ∷ cs) ≡ true
  at true e g = subst (λ x. list_all is_name_char (x ∷ cs) ≡ true) (sym ((Decides-eqb c 105).0 e)) (digits_later cs (and_first (list_all is_digit cs) _ g))
  at false e g = cc

-- widths are names
pub width_name : (w : List ℕ) → is_width w ≡ true → is_identifier w ≡ true
width_name [] h = cc
width_name (c ∷ cs) h = at (c == 105) refl h where
  letter_of : (d : ℕ) → is_letter d ≡ true → list_all is_name_char cs ≡ true → c ≡ d → is_identifier (c ∷ cs) ≡ true
  letter_of d l g e = subst (λ x. is_identifier (x ∷ cs) ≡ true) (sym e) (and_both (is_letter d) (list_all is_name_char cs) l g)

  first : (b : Bool) → (c == 115 || c == 117) ≡ b → (if b then is_signless_width cs else false) ≡ true → is_identifier (c ∷ cs) ≡ true
  first true e g = elim (or_cases (c == 115) (c == 117) e) [
    | inl a ↦ letter_of 115 refl (signless_name cs g) ((Decides-eqb c 115).0 a)
    | inr b ↦ letter_of 117 refl (signless_name cs g) ((Decides-eqb c 117).0 b)
  ]
  first false e g = cc

  at : (b : Bool) → (c == 105) ≡ b → (if b then are_digits cs else (if c == 115 || c == 117 then is_signless_width cs else false)) ≡ true → is_identifier (c ∷ cs) ≡ true
  at true e g = letter_of 105 refl (digits_later cs (and_first (list_all is_digit cs) _ g)) ((Decides-eqb c 105).0 e)
  at false e g = first (c == 115 || c == 117) refl g
