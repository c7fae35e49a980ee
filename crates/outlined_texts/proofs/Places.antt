-- The front of a text has the text's lines and columns.
use Rattle.std.proofs.Common.{Bool, ◌≡◌, ℕ, ◌+◌, ◌<◌, ◌≤◌, inl, inr, List, [], ◌∷◌, Option, Some, None, length, slice_index, take, true, false, suc, arith, refl, sym, ◌∙◌, ap, subst}
use Rattle.std.specs.Prelude.{◌==◌, ◌&&◌, if◌then◌else◌, nat_le, nat_lt}
use Rattle.std.proofs.lemmas.Bool.{and_parts, cases_Bool, leb-true, ltb-true, or_cases}
use Rattle.std.proofs.lemmas.Bool.Decides.{nat_tests}
use Rattle.std.proofs.lemmas.List.{get_or-take, length-take-le}
use Rattle.std.proofs.Math.Nat.{eq-or-lt_of_le}
use Rattle.ir_characters.specs.Texts.{owned_codes}
use Rattle.ir_tokens.specs.declared.tokens.TokenKind.{TokenKind}
use Rattle.ir_tokens.specs.declared.tokens.TokenKind.TheVariants.{Mark}
use Rattle.ir_tokens.specs.declared.tokens.Token.{Token}
use Rattle.ir_tokens.specs.Tokens.{is_digit, place, place_from, ReadsAs, Spells}
use Rattle.text_marking.specs.Marks.{is_mark}
use Rattle.text_marking.specs.Taking.{is_in_mark, IsBare}
use Rattle.text_marking.proofs.Separated.{hits, last_or_more, mark_kind}
use Rattle.outlined_texts.specs.declared.splitting.OutlinedText.{OutlinedText}
use Rattle.outlined_texts.specs.Sections.{front_of, section_of}
use Rattle.outlined_texts.specs.Splits.{IsSplit}
use Rattle.outlined_texts.proofs.Fronts.{section_inside}

-- texts with line feeds at the same places
line_like : (line column : ℕ) (xs ys : List ℕ) → length xs ≡ length ys → ((k : ℕ) → k < length xs → (slice_index xs k == 10) ≡ (slice_index ys k == 10))
    → place_from line column xs ≡ place_from line column ys
line_like line column [] [] e same = refl
line_like line column [] (y ∷ ys) e same = absurd (omega arith)
line_like line column (x ∷ xs) [] e same = absurd (omega arith)
line_like line column (x ∷ xs) (y ∷ ys) e same =
    by (x == 10) (y == 10) (same 0 (omega arith))
    (λ l c. line_like l c xs ys (omega arith) (λ k lt. same (suc k) (omega arith)))
  where
    by : (a b : Bool) → a ≡ b → ((l c : ℕ) → place_from l c xs ≡ place_from l c ys)
        → (if a then place_from (line + 1) 1 xs else place_from line (column + 1) xs) ≡ (if b then place_from (line + 1) 1 ys else place_from line (column + 1) ys)
    by true true same rest = rest (line + 1) 1
    by false false same rest = rest line (column + 1)
    by true false same rest = cc
    by false true same rest = cc

digit_no_line : (c : ℕ) → is_digit c ≡ true → (c == 10) ≡ false
digit_no_line c h = grind (arith, nat_tests)

-- a mark has no line feed
mark_no_line : (cs : List ℕ) (t : Token) (k : ℕ) → Spells cs t.start t.end t.kind → hits k t ≡ true → (slice_index cs k == 10) ≡ false
mark_no_line cs t k spelled here =
    let parts = and_parts (is_mark t.kind) (nat_le t.start k && nat_lt k t.end) here in
    let within = and_parts (nat_le t.start k) (nat_lt k t.end) parts.1 in
    let lo : t.start ≤ k = leb-true t.start k within.0 in
    let hi : k < t.end = ltb-true k t.end within.1 in
    let mark : Spells cs t.start t.end Mark = subst (λ (kind : TokenKind). Spells cs t.start t.end kind) (mark_kind t.kind parts.0) spelled in
    elim (eq-or-lt_of_le lo) [
      | inl at ↦ ap (λ (n : ℕ). slice_index cs n == 10) (sym at) ∙ ap (λ (c : ℕ). c == 10) mark.0
      | inr after ↦ digit_no_line (slice_index cs k) (mark.1.1 k (omega arith) hi)
    ]

marks_no_line : (cs : List ℕ) (from : ℕ) (ts : List Token) (k : ℕ) → ReadsAs cs from ts → is_in_mark ts k ≡ true → (slice_index cs k == 10) ≡ false
marks_no_line cs from [] k r here = cc
marks_no_line cs from (t ∷ ts) k r here = elim (or_cases (hits k t) (is_in_mark ts k) here) [
  | inl first ↦ mark_no_line cs t k r.2.spelled first
  | inr later ↦ elim (last_or_more t.kind r.3) [
    | inl none ↦ absurd (let no : false ≡ true = sym (ap (λ us. is_in_mark us k) none) ∙ later in cc)
    | inr more ↦ marks_no_line cs t.end ts k more later
  ]
]

bare_lines : (cs : List ℕ) (ts : List Token) (bare : List ℕ) → ReadsAs cs 0 ts → IsBare cs ts bare → (k : ℕ) → (slice_index bare k == 10) ≡ (slice_index cs k == 10)
bare_lines cs ts bare r h k = elim (cases_Bool (is_in_mark ts k)) [
  | inl here ↦ ap (λ (c : ℕ). c == 10) (h.in_marks k here) ∙ sym (marks_no_line cs 0 ts k r here)
  | inr elsewhere ↦ ap (λ (c : ℕ). c == 10) (h.elsewhere k elsewhere)
]

-- a front of a text
pub record IsFrontOf (front cs : List ℕ) : Type 0 where
  pub few : length front ≤ length cs
  pub same : (k : ℕ) → k < length front → slice_index front k ≡ slice_index cs k

front_is : (cs : List ℕ) (us : List Token) (section : Option ℕ) → ReadsAs cs 0 us → section ≡ section_of cs us → IsFrontOf (front_of section cs) cs
front_is cs us None reads is = record { few = omega arith; same = λ k lt. refl }
front_is cs us (Some start) reads is =
    let inside : start ≤ length cs = section_inside cs us (Some start) reads is in
    let long : length (take start cs) ≡ start = length-take-le start cs inside in
    record { few = omega arith; same = λ k lt. get_or-take start cs k 0 (omega arith) }

-- each place of the front has the line and the column that it has in the text
pub places_stay_lem : (cs : List ℕ) (split : OutlinedText) (k : ℕ) → IsSplit cs split → k ≤ length (owned_codes split.front)
    → place (take k (owned_codes split.front)) ≡ place (take k cs)
places_stay_lem cs split k h le =
    let front = front_is cs h.tokens split.section h.reads h.section in
    let few : length (front_of split.section cs) ≤ length cs = front.few in
    let whole : length (owned_codes split.front) ≡ length (front_of split.section cs) = h.taken.bare.long in
    let long : length (take k (owned_codes split.front)) ≡ k = length-take-le k (owned_codes split.front) le in
    let other : length (take k cs) ≡ k = length-take-le k cs (omega arith) in
    line_like 1 1 (take k (owned_codes split.front)) (take k cs) (omega arith) (λ i lt.
    ap (λ (c : ℕ). c == 10) (get_or-take k (owned_codes split.front) i 0 (omega arith))
    ∙ bare_lines (front_of split.section cs) h.taken.tokens (owned_codes split.front) h.taken.reads h.taken.bare i
    ∙ ap (λ (c : ℕ). c == 10) (front.same i (omega arith))
    ∙ sym (ap (λ (c : ℕ). c == 10) (get_or-take k cs i 0 (omega arith))))
