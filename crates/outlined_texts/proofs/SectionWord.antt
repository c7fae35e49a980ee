-- A text that begins with the word of the section.
use Rattle.std.proofs.Common.{◌≡◌, ℕ, ◌<◌, ◌≤◌, inl, inr, List, [], ◌∷◌, ◌++◌, Some, length, slice_index, true, false, arith, refl, sym, ◌∙◌, ap, subst, suc, zero}
use Rattle.std.specs.Prelude.{codes}
use Rattle.std.specs.Char.{is_whitespace}
use Rattle.std.proofs.lemmas.Bool.{cases_Bool, eq-eqb}
use Rattle.std.proofs.lemmas.List.{get_or_append_left}
use Rattle.std.proofs.lemmas.List.Folds.{list_all_at}
use Rattle.ir_tokens.specs.declared.tokens.TokenKind.{TokenKind}
use Rattle.ir_tokens.specs.declared.tokens.TokenKind.TheVariants.{Name, Dotted, Sign, InMemory}
use Rattle.ir_tokens.specs.declared.tokens.Token.{Token}
use Rattle.ir_tokens.specs.Tokens.{AreAllOfKind, is_name_char, IsGap, IsToken, LastIfBad, NoLonger, ReadsAs, Spells}
use Rattle.ir_tokens.proofs.TokenLongest.{first, in_memory_begins, IsSignKind, IsWord, name_longest, past_dot, places, sign_only, word_only}
use Rattle.outlined_texts.specs.Appended.{IsSectionText}
use Rattle.outlined_texts.specs.Sections.{begins_with_colon, has_sign, section_behind}

word : List ℕ
word = codes "outlined_attributes"

-- a line feed, the word, `:` and more
abbrev whole : List ℕ → List ℕ
whole more = 10 ∷ (codes "outlined_attributes:" ++ more)

all_name : (more : List ℕ) → AreAllOfKind is_name_char (whole more) 1 20
all_name more zero lo hi = absurd (omega arith)
all_name more (suc n) lo hi =
    let here : slice_index (codes "outlined_attributes" ++ 58 ∷ more) n ≡ slice_index (codes "outlined_attributes") n =
    get_or_append_left (codes "outlined_attributes") (58 ∷ more) 0 n (let few : n < 19 = omega arith in few) in
    ap is_name_char here ∙ elim (cases_Bool (is_name_char (slice_index (codes "outlined_attributes") n))) [
      | inl yes_ ↦ yes_
      | inr no_ ↦
          let none : true ≡ false = list_all_at is_name_char (codes "outlined_attributes") n 0 (let few : n < 19 = omega arith in few) no_ in
          cc
    ]

long : (more : List ℕ) → 21 ≤ length (whole more)
long more = omega arith

spells_word : (more : List ℕ) → Spells (whole more) 1 20 Name
spells_word more = (omega arith, refl, all_name more)

word_longest : (more : List ℕ) → NoLonger (whole more) 1 20
word_longest more = name_longest (whole more) 1 20 refl (omega arith) (all_name more) (λ lt. refl) (λ dot. absurd (omega (arith, dot)))

-- the first token begins with the word
starts_at : (more : List ℕ) (t : Token) → IsGap (whole more) 0 t.start → IsToken (whole more) t → t.start ≡ 1
starts_at more t gap token = elim (places t.start 1) [
  | inl before ↦
      let none : t.start ≡ 0 = omega arith in
      let no : true ≡ false = ap (λ (k : ℕ). is_whitespace (slice_index (whole more) k)) (sym none) ∙ token.visible in cc
  | inr (inl at) ↦ at
  | inr (inr after) ↦ let no : false ≡ true = gap 1 (omega arith) after in cc
]

kind_is_name : (more : List ℕ) (k : TokenKind) → IsWord k → Spells (whole more) 1 20 k → k ≡ Name
kind_is_name more Name w s = refl
kind_is_name more Dotted w s = absurd (past_dot (whole more) 1 20 s.0 (all_name more) (omega (arith, s.1.0)) (omega (arith, s.3.0)) s.2)
kind_is_name more _ w s = absurd w

-- and is the word
first_is_word : (more : List ℕ) (t : Token) → IsGap (whole more) 0 t.start → IsToken (whole more) t → t ≡ record { kind = Name; start = 1; end = 20 }
first_is_word more t gap token =
    let begins : t.start ≡ 1 = starts_at more t gap token in
    let spelled : Spells (whole more) 1 t.end t.kind = subst (λ (n : ℕ). Spells (whole more) n t.end t.kind) begins token.spelled in
    let longest : NoLonger (whole more) 1 t.end = subst (λ (n : ℕ). NoLonger (whole more) n t.end) begins token.longest in
    let enough = long more in
    let ends : t.end ≡ 20 = elim (places t.end 20) [
      | inl before ↦ absurd (longest 20 Name before (omega arith) (spells_word more))
      | inr (inl at) ↦ at
      | inr (inr after) ↦ absurd (word_longest more t.end t.kind after token.inside spelled)
    ] in
    let there : Spells (whole more) 1 20 t.kind = subst (λ (n : ℕ). Spells (whole more) 1 n t.kind) ends spelled in
    let kind : t.kind ≡ Name = kind_is_name more t.kind (word_only 111 t.kind refl (first (whole more) 1 20 t.kind (omega arith) there)) there in
    let by_kind : TokenKind → Token = λ k. record { kind = k; start = t.start; end = t.end } in
    let by_start : ℕ → Token = λ n. record { kind = Name; start = n; end = t.end } in
    let by_end : ℕ → Token = λ n. record { kind = Name; start = 1; end = n } in
    ap by_kind kind ∙ ap by_start begins ∙ ap by_end ends

-- a sign behind the word is `:`
sign_is_colon : (more : List ℕ) (end : ℕ) (k : TokenKind) → IsSignKind k → Spells (whole more) 20 end k → has_sign 58 k ≡ true
sign_is_colon more end (Sign c) w s = eq-eqb c 58 (sym s.1)
sign_is_colon more end InMemory w s = absurd (let no : 58 ≡ 60 = in_memory_begins (whole more) 20 s.0 in omega (arith, no))
sign_is_colon more end _ w s = absurd w

-- the next token is it
second_is_colon : (more : List ℕ) (u : Token) → 20 ≤ u.start → IsGap (whole more) 20 u.start → IsToken (whole more) u → has_sign 58 u.kind ≡ true
second_is_colon more u from gap token =
    let begins : u.start ≡ 20 = elim (places u.start 20) [
      | inl before ↦ absurd (omega arith)
      | inr (inl at) ↦ at
      | inr (inr after) ↦ (let no : false ≡ true = gap 20 (omega arith) after in cc)
    ] in
    let spelled : Spells (whole more) 20 u.end u.kind = subst (λ (n : ℕ). Spells (whole more) n u.end u.kind) begins token.spelled in
    let longest : NoLonger (whole more) 20 u.end = subst (λ (n : ℕ). NoLonger (whole more) n u.end) begins token.longest in
    let enough = long more in
    elim (places u.end 21) [
      | inl before ↦ absurd (longest 21 (Sign 58) before (omega arith) (refl, refl, refl))
      | inr after ↦
          let some : 20 < u.end = elim after [ inl at ↦ omega arith | inr more_ ↦ omega arith ] in
          sign_is_colon more u.end u.kind (sign_only 58 u.kind refl (first (whole more) 20 u.end u.kind some spelled)) spelled
    ]

colon_behind : (more : List ℕ) (us : List Token) → ReadsAs (whole more) 20 us → begins_with_colon us ≡ true
colon_behind more [] r = let enough = long more in let no : false ≡ true = r 20 (omega arith) (omega arith) in cc
colon_behind more (u ∷ us) r = second_is_colon more u r.0 r.1 r.2

begins_here : (more : List ℕ) (us : List Token) → begins_with_colon us ≡ true
    → section_behind (whole more) 0 false (record { kind = Name; start = 1; end = 20 } ∷ us) ≡ Some 1
begins_here more us colon = rw colon refl

pub section_word : (more : List ℕ) (us : List Token) → ReadsAs (whole more) 0 us → IsSectionText (codes "outlined_attributes:" ++ more) us
section_word more [] r = let enough = long more in let no : false ≡ true = r 1 (omega arith) (omega arith) in cc
section_word more (t ∷ us) r =
    let is : t ≡ record { kind = Name; start = 1; end = 20 } = first_is_word more t r.1 r.2 in
    let rest : ReadsAs (whole more) 20 us = subst (λ (v : Token). LastIfBad v.kind (us ≡ []) (ReadsAs (whole more) v.end us)) is r.3 in
    record {
      reads = r;
      begins = subst (λ (v : Token). section_behind (whole more) 0 false (v ∷ us) ≡ Some 1) (sym is) (begins_here more us (colon_behind more us rest));
      no_colon = ap (λ (v : Token). has_sign 58 v.kind) is;
    }
