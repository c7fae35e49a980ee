-- One token comes next.
use Rattle.std.proofs.Common.{◌≡◌, ℕ, ◌+◌, ◌≤◌, inl, inr, List, [], ◌∷◌, ◌++◌, length, slice_index, arith, refl, sym, ◌∙◌, ap, subst}
use Rattle.std.proofs.lemmas.List.{append_cancel_left}
use Rattle.std.specs.Char.{is_whitespace}
use Rattle.std.specs.List.{take_while}
use Rattle.ir_tokens.specs.declared.tokens.TokenKind.{TokenKind}
use Rattle.ir_tokens.specs.declared.tokens.TokenKind.TheVariants.{Name, Dotted, Digits, Negative, Mark, Text, Sign, Arrow, InMemory, Bad}
use Rattle.ir_tokens.specs.Tokens.{Spells, NoLonger, IsLongestToken, is_sign, is_digit}
use Rattle.ir_tokens.proofs.TokenLongest.{IsWord, IsDigitsKind, IsMinusKind, IsMarkKind, IsTextKind, IsSignKind, first, word_only, digits_only, minus_only, mark_only, text_only, sign_only, past_dot, apart, closes_after, in_memory_begins, places}
use Rattle.stream_tokens.specs.Lexemes.{IsNextToken}

-- ---- one kind

name_is : (cs : List ℕ) (i j : ℕ) (k : TokenKind) → IsWord k → Spells cs i j Name → Spells cs i j k → Name ≡ k
name_is cs i j Name w s r = refl
name_is cs i j Dotted w s r = absurd (past_dot cs i j r.0 s.2 (omega (arith, r.1.0)) (omega (arith, r.3.0)) r.2)
name_is cs i j _ w s r = absurd w

dotted_is : (cs : List ℕ) (i j : ℕ) (k : TokenKind) → IsWord k → Spells cs i j Dotted → Spells cs i j k → Dotted ≡ k
dotted_is cs i j Name w s r = absurd (past_dot cs i j s.0 r.2 (omega (arith, s.1.0)) (omega (arith, s.3.0)) s.2)
dotted_is cs i j Dotted w s r = refl
dotted_is cs i j _ w s r = absurd w

digits_is : (k : TokenKind) → IsDigitsKind k → Digits ≡ k
digits_is Digits w = refl
digits_is _ w = absurd w

negative_is : (cs : List ℕ) (i j : ℕ) (k : TokenKind) → IsMinusKind k → Spells cs i j Negative → Spells cs i j k → Negative ≡ k
negative_is cs i j Negative w s r = refl
negative_is cs i j Arrow w s r = absurd (apart is_digit (slice_index cs (i + 1)) 62 (s.1.1 (i + 1) (omega arith) s.1.0) refl r.1)
negative_is cs i j _ w s r = absurd w

arrow_is : (cs : List ℕ) (i j : ℕ) (k : TokenKind) → IsMinusKind k → Spells cs i j Arrow → Spells cs i j k → Arrow ≡ k
arrow_is cs i j Negative w s r = absurd (apart is_digit (slice_index cs (i + 1)) 62 (r.1.1 (i + 1) (omega arith) r.1.0) refl s.1)
arrow_is cs i j Arrow w s r = refl
arrow_is cs i j _ w s r = absurd w

mark_is : (k : TokenKind) → IsMarkKind k → Mark ≡ k
mark_is Mark w = refl
mark_is _ w = absurd w

text_is : (k : TokenKind) → IsTextKind k → Text ≡ k
text_is Text w = refl
text_is _ w = absurd w

sign_is : (cs : List ℕ) (i j c : ℕ) (k : TokenKind) → IsSignKind k → Spells cs i j (Sign c) → Spells cs i j k → Sign c ≡ k
sign_is cs i j c (Sign d) w s r = ap Sign (sym s.1 ∙ r.1)
sign_is cs i j c InMemory w s r = absurd (omega (arith, s.2, r.1))
sign_is cs i j c _ w s r = absurd w

in_memory_is : (cs : List ℕ) (i j : ℕ) (k : TokenKind) → IsSignKind k → Spells cs i j InMemory → Spells cs i j k → InMemory ≡ k
in_memory_is cs i j (Sign d) w s r = absurd (omega (arith, s.1, r.2))
in_memory_is cs i j InMemory w s r = refl
in_memory_is cs i j _ w s r = absurd w

bad_is : (cs : List ℕ) (i j : ℕ) (k : TokenKind) → j ≡ i → Spells cs i j k → Bad ≡ k
bad_is cs i j Name e r = absurd (omega (arith, r.0))
bad_is cs i j Dotted e r = absurd (omega (arith, r.1.0, r.3.0))
bad_is cs i j Digits e r = absurd (omega (arith, r.0))
bad_is cs i j Negative e r = absurd (omega (arith, r.1.0))
bad_is cs i j Mark e r = absurd (omega (arith, r.1.0))
bad_is cs i j Text e r = let after = closes_after cs r.1 in absurd (omega (arith, after))
bad_is cs i j (Sign c) e r = absurd (omega (arith, r.2))
bad_is cs i j Arrow e r = absurd (omega (arith, r.2))
bad_is cs i j InMemory e r = absurd (omega (arith, r.1))
bad_is cs i j Bad e r = refl

same_kind : (cs : List ℕ) (i j : ℕ) (k l : TokenKind) → Spells cs i j k → Spells cs i j l → k ≡ l
same_kind cs i j Name l s r = name_is cs i j l (word_only (slice_index cs i) l s.1 (first cs i j l s.0 r)) s r
same_kind cs i j Dotted l s r = dotted_is cs i j l (word_only (slice_index cs i) l s.1.1 (first cs i j l (omega (arith, s.1.0, s.3.0)) r)) s r
same_kind cs i j Digits l s r = digits_is l (digits_only (slice_index cs i) l (s.1 i (omega arith) s.0) (first cs i j l s.0 r))
same_kind cs i j Negative l s r = negative_is cs i j l (minus_only (slice_index cs i) l s.0 (first cs i j l (omega (arith, s.1.0)) r)) s r
same_kind cs i j Mark l s r = mark_is l (mark_only (slice_index cs i) l s.0 (first cs i j l (omega (arith, s.1.0)) r))
same_kind cs i j Text l s r = let after = closes_after cs s.1 in text_is l (text_only (slice_index cs i) l s.0 (first cs i j l (omega (arith, after)) r))
same_kind cs i j (Sign c) l s r = sign_is cs i j c l (sign_only (slice_index cs i) l (ap is_sign s.1 ∙ s.0) (first cs i j l (omega (arith, s.2)) r)) s r
same_kind cs i j Arrow l s r = arrow_is cs i j l (minus_only (slice_index cs i) l s.0 (first cs i j l (omega (arith, s.2)) r)) s r
same_kind cs i j InMemory l s r = in_memory_is cs i j l (sign_only (slice_index cs i) l (ap is_sign (in_memory_begins cs i s.0)) (first cs i j l (omega (arith, s.1)) r)) s r
same_kind cs i j Bad l s r = bad_is cs i j l s r

-- ---- one token

same_end : (cs : List ℕ) (i j m : ℕ) (k l : TokenKind) → Spells cs i j k → NoLonger cs i j → j ≤ length cs → Spells cs i m l → NoLonger cs i m → m ≤ length cs → j ≡ m
same_end cs i j m k l s longest lo r longest2 hi = elim (places j m) [
  | inl before ↦ absurd (longest m l before hi r)
  | inr (inl at) ↦ at
  | inr (inr after) ↦ absurd (longest2 j k after lo s)
]

-- two fronts of the same length of one text
fronts_same : (t u r s : List ℕ) → t ++ r ≡ u ++ s → length t ≡ length u → (t ≡ u) × (r ≡ s)
fronts_same [] [] r s e n = (refl, e)
fronts_same [] (y ∷ u) r s e n = absurd (omega (arith, n))
fronts_same (x ∷ t) [] r s e n = absurd (omega (arith, n))
fronts_same (x ∷ t) (y ∷ u) r s e n =
    let firsts : x ≡ y = cc in
    let rests : t ++ r ≡ u ++ s = cc in
    let more = fronts_same t u r s rests (omega (arith, n)) in
    ((let whole : x ∷ t ≡ y ∷ u = ap (λ (z : ℕ). z ∷ t) firsts ∙ ap (λ (zs : List ℕ). y ∷ zs) more.0 in whole), more.1)

pub one_token : (cs t u r s : List ℕ) (k l : TokenKind) → IsNextToken cs k t r → IsNextToken cs l u s → (k ≡ l) × (t ≡ u) × (r ≡ s)
one_token cs t u r s k l h g =
    let white = take_while is_whitespace cs in
    let same : t ++ r ≡ u ++ s = append_cancel_left white (t ++ r) (u ++ s) (sym h.stands ∙ g.stands) in
    let longest : IsLongestToken (t ++ r) 0 (l, length u) = subst (λ (xs : List ℕ). IsLongestToken xs 0 (l, length u)) (sym same) g.longest in
    let ends = same_end (t ++ r) 0 (length t) (length u) k l h.longest.spelled h.longest.longest h.longest.inside longest.spelled longest.longest longest.inside in
    let both = fronts_same t u r s same ends in
    let spelled : Spells (t ++ r) 0 (length t) l = subst (λ (n : ℕ). Spells (t ++ r) 0 n l) (sym ends) longest.spelled in
    (same_kind (t ++ r) 0 (length t) k l h.longest.spelled spelled, both.0, both.1)
