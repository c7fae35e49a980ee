-- A text reads as one list of tokens.
use Rattle.std.proofs.Common.{◌≡◌, ℕ, ◌+◌, ◌<◌, ◌≤◌, inl, inr, List, [], ◌∷◌, length, slice_index, true, false, arith, refl, sym, ◌∙◌, ap, subst}
use Rattle.ir_tokens.specs.declared.tokens.TokenKind.{TokenKind}
use Rattle.ir_tokens.specs.declared.tokens.TokenKind.TheVariants.{Name, Dotted, Digits, Negative, Mark, Text, Sign, Arrow, InMemory, Bad}
use Rattle.ir_tokens.specs.declared.tokens.Token.{Token}
use Rattle.ir_tokens.specs.Tokens.{IsGap, IsToken, LastIfBad, ReadsAs, Spells, NoLonger, is_sign, is_digit}
use Rattle.ir_tokens.proofs.TokenLongest.{IsWord, IsDigitsKind, IsMinusKind, IsMarkKind, IsTextKind, IsSignKind, first, word_only, digits_only, minus_only, mark_only, text_only, sign_only, past_dot, apart, closes_after, in_memory_begins, places}

-- ---- one kind

name_is : (cs : List ℕ) (i j : ℕ) (k : TokenKind) → IsWord k → Spells cs i j Name → Spells cs i j k → Name ≡ k
name_is cs i j Name w s r = refl
name_is cs i j Dotted w s r = absurd (past_dot cs i j r.0 s.2 (omega (arith, r.1.0)) (omega (arith, r.3.0)) r.2)
name_is cs i j _ w s r = absurd w

dotted_is : (cs : List ℕ) (i j : ℕ) (k : TokenKind) → IsWord k → Spells cs i j Dotted → Spells cs i j k → Dotted ≡ k
dotted_is cs i j Name w s r = absurd (past_dot cs i j s.0 r.2 (omega (arith, s.1.0)) (omega (arith, s.3.0)) s.2)
dotted_is cs i j Dotted w s r = refl
dotted_is cs i j _ w s r = absurd w

digits_is : (k : TokenKind) → IsDigitsKind k → Digits ≡ k
digits_is Digits w = refl
digits_is _ w = absurd w

negative_is : (cs : List ℕ) (i j : ℕ) (k : TokenKind) → IsMinusKind k → Spells cs i j Negative → Spells cs i j k → Negative ≡ k
negative_is cs i j Negative w s r = refl
negative_is cs i j Arrow w s r = absurd (apart is_digit (slice_index cs (i + 1)) 62 (s.1.1 (i + 1) (omega arith) s.1.0) refl r.1)
negative_is cs i j _ w s r = absurd w

arrow_is : (cs : List ℕ) (i j : ℕ) (k : TokenKind) → IsMinusKind k → Spells cs i j Arrow → Spells cs i j k → Arrow ≡ k
arrow_is cs i j Negative w s r = absurd (apart is_digit (slice_index cs (i + 1)) 62 (r.1.1 (i + 1) (omega arith) r.1.0) refl s.1)
arrow_is cs i j Arrow w s r = refl
arrow_is cs i j _ w s r = absurd w

mark_is : (k : TokenKind) → IsMarkKind k → Mark ≡ k
mark_is Mark w = refl
mark_is _ w = absurd w

text_is : (k : TokenKind) → IsTextKind k → Text ≡ k
text_is Text w = refl
text_is _ w = absurd w

sign_is : (cs : List ℕ) (i j c : ℕ) (k : TokenKind) → IsSignKind k → Spells cs i j (Sign c) → Spells cs i j k → Sign c ≡ k
sign_is cs i j c (Sign d) w s r = ap Sign (sym s.1 ∙ r.1)
sign_is cs i j c InMemory w s r = absurd (omega (arith, s.2, r.1))
sign_is cs i j c _ w s r = absurd w

in_memory_is : (cs : List ℕ) (i j : ℕ) (k : TokenKind) → IsSignKind k → Spells cs i j InMemory → Spells cs i j k → InMemory ≡ k
in_memory_is cs i j (Sign d) w s r = absurd (omega (arith, s.1, r.2))
in_memory_is cs i j InMemory w s r = refl
in_memory_is cs i j _ w s r = absurd w

bad_is : (cs : List ℕ) (i j : ℕ) (k : TokenKind) → j ≡ i → Spells cs i j k → Bad ≡ k
bad_is cs i j Name e r = absurd (omega (arith, r.0))
bad_is cs i j Dotted e r = absurd (omega (arith, r.1.0, r.3.0))
bad_is cs i j Digits e r = absurd (omega (arith, r.0))
bad_is cs i j Negative e r = absurd (omega (arith, r.1.0))
bad_is cs i j Mark e r = absurd (omega (arith, r.1.0))
bad_is cs i j Text e r = let after = closes_after cs r.1 in absurd (omega (arith, after))
bad_is cs i j (Sign c) e r = absurd (omega (arith, r.2))
bad_is cs i j Arrow e r = absurd (omega (arith, r.2))
bad_is cs i j InMemory e r = absurd (omega (arith, r.1))
bad_is cs i j Bad e r = refl

same_kind : (cs : List ℕ) (i j : ℕ) (k l : TokenKind) → Spells cs i j k → Spells cs i j l → k ≡ l
same_kind cs i j Name l s r = name_is cs i j l (word_only (slice_index cs i) l s.1 (first cs i j l s.0 r)) s r
same_kind cs i j Dotted l s r = dotted_is cs i j l (word_only (slice_index cs i) l s.1.1 (first cs i j l (omega (arith, s.1.0, s.3.0)) r)) s r
same_kind cs i j Digits l s r = digits_is l (digits_only (slice_index cs i) l (s.1 i (omega arith) s.0) (first cs i j l s.0 r))
same_kind cs i j Negative l s r = negative_is cs i j l (minus_only (slice_index cs i) l s.0 (first cs i j l (omega (arith, s.1.0)) r)) s r
same_kind cs i j Mark l s r = mark_is l (mark_only (slice_index cs i) l s.0 (first cs i j l (omega (arith, s.1.0)) r))
same_kind cs i j Text l s r = let after = closes_after cs s.1 in text_is l (text_only (slice_index cs i) l s.0 (first cs i j l (omega (arith, after)) r))
same_kind cs i j (Sign c) l s r = sign_is cs i j c l (sign_only (slice_index cs i) l (ap is_sign s.1 ∙ s.0) (first cs i j l (omega (arith, s.2)) r)) s r
same_kind cs i j Arrow l s r = arrow_is cs i j l (minus_only (slice_index cs i) l s.0 (first cs i j l (omega (arith, s.2)) r)) s r
same_kind cs i j InMemory l s r = in_memory_is cs i j l (sign_only (slice_index cs i) l (ap is_sign (in_memory_begins cs i s.0)) (first cs i j l (omega (arith, s.1)) r)) s r
same_kind cs i j Bad l s r = bad_is cs i j l s r

-- ---- one token

-- a token does not begin inside a gap
in_gap : (cs : List ℕ) (i n : ℕ) (t : Token) → IsGap cs i n → i ≤ t.start → t.start < n → IsToken cs t → ⊥
in_gap cs i n t gap lo hi token = let e : true ≡ false = sym (gap t.start lo hi) ∙ token.visible in cc

same_start : (cs : List ℕ) (i : ℕ) (t u : Token) → i ≤ t.start → IsGap cs i t.start → IsToken cs t → i ≤ u.start → IsGap cs i u.start → IsToken cs u → t.start ≡ u.start
same_start cs i t u lo gap token lo2 gap2 token2 = elim (places t.start u.start) [
  | inl before ↦ absurd (in_gap cs i u.start t gap2 lo before token)
  | inr (inl at) ↦ at
  | inr (inr after) ↦ absurd (in_gap cs i t.start u gap lo2 after token2)
]

same_end : (cs : List ℕ) (i j m : ℕ) (k l : TokenKind) → Spells cs i j k → NoLonger cs i j → j ≤ length cs → Spells cs i m l → NoLonger cs i m → m ≤ length cs → j ≡ m
same_end cs i j m k l s longest lo r longest2 hi = elim (places j m) [
  | inl before ↦ absurd (longest m l before hi r)
  | inr (inl at) ↦ at
  | inr (inr after) ↦ absurd (longest2 j k after lo s)
]

token_same : (t u : Token) → t.kind ≡ u.kind → t.start ≡ u.start → t.end ≡ u.end → t ≡ u
token_same t u a b c =
    let f : TokenKind → Token = λ k. record { kind = k; start = t.start; end = t.end } in
    let g : ℕ → Token = λ s. record { kind = u.kind; start = s; end = t.end } in
    let h : ℕ → Token = λ e. record { kind = u.kind; start = u.start; end = e } in
    ap f a ∙ ap g b ∙ ap h c

same_token : (cs : List ℕ) (i : ℕ) (t u : Token) → i ≤ t.start → IsGap cs i t.start → IsToken cs t → i ≤ u.start → IsGap cs i u.start → IsToken cs u → t ≡ u
same_token cs i t u lo gap token lo2 gap2 token2 =
    let starts = same_start cs i t u lo gap token lo2 gap2 token2 in
    let spelled : Spells cs t.start u.end u.kind = subst (λ (n : ℕ). Spells cs n u.end u.kind) (sym starts) token2.spelled in
    let longest : NoLonger cs t.start u.end = subst (λ (n : ℕ). NoLonger cs n u.end) (sym starts) token2.longest in
    let ends = same_end cs t.start t.end u.end t.kind u.kind token.spelled token.longest token.inside spelled longest token2.inside in
    let spelled2 : Spells cs t.start t.end u.kind = subst (λ (n : ℕ). Spells cs t.start n u.kind) (sym ends) spelled in
    token_same t u (same_kind cs t.start t.end t.kind u.kind token.spelled spelled2) starts ends

-- ---- one list

no_more : (cs : List ℕ) (i : ℕ) (t : Token) → IsGap cs i (length cs) → i ≤ t.start → IsToken cs t → ⊥
no_more cs i t gap lo token = in_gap cs i (length cs) t gap lo token.begins token

same_rest : (cs : List ℕ) (k : TokenKind) (end : ℕ) (ts us : List Token) → ((i : ℕ) → ReadsAs cs i ts → ReadsAs cs i us → ts ≡ us)
    → LastIfBad k (ts ≡ []) (ReadsAs cs end ts) → LastIfBad k (us ≡ []) (ReadsAs cs end us) → ts ≡ us
same_rest cs Name e ts us more f g = more e f g
same_rest cs Dotted e ts us more f g = more e f g
same_rest cs Digits e ts us more f g = more e f g
same_rest cs Negative e ts us more f g = more e f g
same_rest cs Mark e ts us more f g = more e f g
same_rest cs Text e ts us more f g = more e f g
same_rest cs (Sign c) e ts us more f g = more e f g
same_rest cs Arrow e ts us more f g = more e f g
same_rest cs InMemory e ts us more f g = more e f g
same_rest cs Bad e ts us more f g = f ∙ sym g

pub one_reading_lem : (cs : List ℕ) (i : ℕ) (ts us : List Token) → ReadsAs cs i ts → ReadsAs cs i us → ts ≡ us
one_reading_lem cs i [] [] r s = refl
one_reading_lem cs i [] (u ∷ us) r s = absurd (no_more cs i u r s.0 s.2)
one_reading_lem cs i (t ∷ ts) [] r s = absurd (no_more cs i t s r.0 r.2)
one_reading_lem cs i (t ∷ ts) (u ∷ us) r s =
    let heads = same_token cs i t u r.0 r.1 r.2 s.0 s.1 s.2 in
    let after : LastIfBad t.kind (us ≡ []) (ReadsAs cs t.end us) = subst (λ (v : Token). LastIfBad v.kind (us ≡ []) (ReadsAs cs v.end us)) (sym heads) s.3 in
    let tails = same_rest cs t.kind t.end ts us (λ j. one_reading_lem cs j ts us) r.3 after in
    ap (λ v. v ∷ ts) heads ∙ ap (λ vs. u ∷ vs) tails
