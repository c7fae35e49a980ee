-- Tokens whose characters are in another text.
use Rattle.std.proofs.Common.{Bool, ◌≡◌, ◌≢◌, ℕ, ◌+◌, ◌-◌, ◌<◌, ◌≤◌, inl, inr, List, length, slice_index, true, false, arith, refl, sym, ◌∙◌, ap, subst}
use Rattle.std.specs.Prelude.{codes, nat_lt, slice_range}
use Rattle.std.specs.Char.{is_whitespace}
use Rattle.std.proofs.lemmas.List.{ext_get_or}
use Rattle.std.proofs.lemmas.List.Edits.{get_or-between, length-between}
use Rattle.std.proofs.lemmas.List.Folds.{list_all_at}
use Rattle.std.proofs.lemmas.Bool.{cases_lt}
use Rattle.ir_tokens.specs.declared.tokens.TokenKind.{TokenKind}
use Rattle.ir_tokens.specs.declared.tokens.TokenKind.TheVariants.{Name, Dotted, Digits, Negative, Mark, Text, Sign, Arrow, InMemory, Bad}
use Rattle.ir_tokens.specs.declared.tokens.Token.{Token}
use Rattle.ir_tokens.specs.Tokens.{is_letter, is_digit, is_name_char, AreAllOfKind, AreDigits, IsName, Spells, NoLonger, ClosesText, IsToken}
use Rattle.ir_tokens.specs.Tokens.ClosesText.{closing, plain, escaped}
use Rattle.ir_tokens.proofs.TokenLongest.{First, first, text_only, IsTextKind, closes_after, text_longest, apart, places}
use Rattle.ir_tokens.proofs.TokenSteps.{spells_after}

-- the characters from i to before j of one text are those from i' on of the other
abbrev pub Moved : List ℕ → List ℕ → ℕ → ℕ → ℕ → Type 0
Moved cs cs' i j i' = (k k' : ℕ) → i ≤ k → k < j → k' + i ≡ k + i' → slice_index cs k ≡ slice_index cs' k'

-- the other way round
pub moved_back : (cs cs' : List ℕ) (i j i' j' : ℕ) → j' + i ≡ j + i' → Moved cs cs' i j i' → Moved cs' cs i' j' i
moved_back cs cs' i j i' j' ends same k k' lo hi at = sym (same k' k (omega arith) (omega arith) (omega arith))

-- ---- what characters spell

kind_moved : (p : ℕ → Bool) (cs cs' : List ℕ) (i j i' j' : ℕ) → j' + i ≡ j + i' → Moved cs cs' i j i' → AreAllOfKind p cs i j → AreAllOfKind p cs' i' j'
kind_moved p cs cs' i j i' j' ends same all k lo hi =
    let from : ℕ = k + i - i' in
    let is : slice_index cs from ≡ slice_index cs' k = same from k (omega arith) (omega arith) (omega arith) in
    ap p (sym is) ∙ all from (omega arith) (omega arith)

name_moved : (cs cs' : List ℕ) (i j i' j' : ℕ) → j' + i ≡ j + i' → Moved cs cs' i j i' → IsName cs i j → IsName cs' i' j'
name_moved cs cs' i j i' j' ends same name = (
  omega (arith, name.0),
  ap is_letter (sym (same i i' (omega arith) name.0 (omega arith))) ∙ name.1,
  kind_moved is_name_char cs cs' i j i' j' ends same name.2,
)

digits_moved : (cs cs' : List ℕ) (i j i' j' : ℕ) → j' + i ≡ j + i' → Moved cs cs' i j i' → AreDigits cs i j → AreDigits cs' i' j'
digits_moved cs cs' i j i' j' ends same digits = (
  omega (arith, digits.0),
  kind_moved is_digit cs cs' i j i' j' ends same digits.1,
)

-- what is behind some first characters
pub moved_behind : (cs cs' : List ℕ) (i j i' n n' : ℕ) → i ≤ n → n' + i ≡ n + i' → Moved cs cs' i j i' → Moved cs cs' n j n'
moved_behind cs cs' i j i' n n' lo at same k k' from to is = same k k' (omega arith) to (omega arith)

-- some first characters
pub moved_front : (cs cs' : List ℕ) (i j i' n : ℕ) → n ≤ j → Moved cs cs' i j i' → Moved cs cs' i n i'
moved_front cs cs' i j i' n hi same k k' from to is = same k k' from (omega arith) is

closes_moved : (cs cs' : List ℕ) {i j : ℕ} → ClosesText cs i j → (i' j' : ℕ) → j' + i ≡ j + i' → Moved cs cs' i j i' → ClosesText cs' i' j'
closes_moved cs cs' {i} {j} (closing e n) i' j' ends same =
    closing (sym (same i i' (omega arith) (omega arith) (omega arith)) ∙ e) (omega arith)
closes_moved cs cs' {i} {j} (plain a b n c) i' j' ends same =
    let after = closes_after cs c in
    let is : slice_index cs i ≡ slice_index cs' i' = same i i' (omega arith) (omega arith) (omega arith) in
    plain (λ e. a (is ∙ e)) (λ e. b (is ∙ e)) refl
    (closes_moved cs cs' c (i' + 1) j' (omega arith) (λ k k' lo hi at. same k k' (omega arith) hi (omega arith)))
closes_moved cs cs' {i} {j} (escaped a n c) i' j' ends same =
    let after = closes_after cs c in
    let is : slice_index cs i ≡ slice_index cs' i' = same i i' (omega arith) (omega arith) (omega arith) in
    escaped (sym is ∙ a) refl
    (closes_moved cs cs' c (i' + 2) j' (omega arith) (λ k k' lo hi at. same k k' (omega arith) hi (omega arith)))

pub spells_moved : (cs cs' : List ℕ) (i j i' j' : ℕ) (k : TokenKind) → j' + i ≡ j + i' → Moved cs cs' i j i' → Spells cs i j k → Spells cs' i' j' k
spells_moved cs cs' i j i' j' Name ends same s = name_moved cs cs' i j i' j' ends same s
spells_moved cs cs' i j i' j' Dotted ends same s =
    let dot : ℕ = s.0 in
    let dot' : ℕ = dot + i' - i in
    let before : i < dot = s.1.0 in
    let behind : dot + 1 < j = s.3.0 in (
      dot',
      name_moved cs cs' i dot i' dot' (omega arith) (moved_front cs cs' i j i' dot (omega arith) same) s.1,
      sym (same dot dot' (omega arith) (omega arith) (omega arith)) ∙ s.2,
      name_moved cs cs' (dot + 1) j (dot' + 1) j' (omega arith) (moved_behind cs cs' i j i' (dot + 1) (dot' + 1) (omega arith) (omega arith) same) s.3,
    )
spells_moved cs cs' i j i' j' Digits ends same s = digits_moved cs cs' i j i' j' ends same s
spells_moved cs cs' i j i' j' Negative ends same s = (
  sym (same i i' (omega arith) (omega (arith, s.1.0)) (omega arith)) ∙ s.0,
  digits_moved cs cs' (i + 1) j (i' + 1) j' (omega arith) (moved_behind cs cs' i j i' (i + 1) (i' + 1) (omega arith) (omega arith) same) s.1,
)
spells_moved cs cs' i j i' j' Mark ends same s = (
  sym (same i i' (omega arith) (omega (arith, s.1.0)) (omega arith)) ∙ s.0,
  digits_moved cs cs' (i + 1) j (i' + 1) j' (omega arith) (moved_behind cs cs' i j i' (i + 1) (i' + 1) (omega arith) (omega arith) same) s.1,
)
spells_moved cs cs' i j i' j' Text ends same s =
    let after = closes_after cs s.1 in (
      sym (same i i' (omega arith) (omega arith) (omega arith)) ∙ s.0,
      closes_moved cs cs' s.1 (i' + 1) j' (omega arith) (moved_behind cs cs' i j i' (i + 1) (i' + 1) (omega arith) (omega arith) same),
    )
spells_moved cs cs' i j i' j' (Sign c) ends same s = (
  s.0,
  sym (same i i' (omega arith) (omega (arith, s.2)) (omega arith)) ∙ s.1,
  omega (arith, s.2),
)
spells_moved cs cs' i j i' j' Arrow ends same s = (
  sym (same i i' (omega arith) (omega (arith, s.2)) (omega arith)) ∙ s.0,
  sym (same (i + 1) (i' + 1) (omega arith) (omega (arith, s.2)) (omega arith)) ∙ s.1,
  omega (arith, s.2),
)
spells_moved cs cs' i j i' j' InMemory ends same s = (
  (λ k lt. sym (same (i + k) (i' + k) (omega arith) (omega (arith, s.1)) (omega arith)) ∙ s.0 k lt),
  omega (arith, s.1),
)
spells_moved cs cs' i j i' j' Bad ends same s = omega (arith, s)

-- a token ends at its start or behind it
pub spells_from : (cs : List ℕ) (i j : ℕ) (k : TokenKind) → Spells cs i j k → i ≤ j
spells_from cs i j Name s = omega (arith, s.0)
spells_from cs i j Dotted s = omega (arith, s.1.0, s.3.0)
spells_from cs i j Digits s = omega (arith, s.0)
spells_from cs i j Negative s = omega (arith, s.1.0)
spells_from cs i j Mark s = omega (arith, s.1.0)
spells_from cs i j Text s = let after = closes_after cs s.1 in omega (arith, after)
spells_from cs i j (Sign c) s = omega (arith, s.2)
spells_from cs i j Arrow s = omega (arith, s.2)
spells_from cs i j InMemory s = omega (arith, s.1)
spells_from cs i j Bad s = omega (arith, s)

-- ---- tokens

-- No token at the same place of another text is longer, where that is the same up to its end.
longest_moved : (cs cs' : List ℕ) (i j i' j' : ℕ) → j' + i ≡ j + i' → i ≤ j → length cs' + i ≡ length cs + i' → Moved cs cs' i (length cs) i'
    → NoLonger cs i j → NoLonger cs' i' j'
longest_moved cs cs' i j i' j' ends lo all same longest m' k lt le s =
    let m : ℕ = m' + i - i' in
    let from : i' ≤ m' = spells_from cs' i' m' k s in
    let back : Moved cs' cs i' (length cs') i = moved_back cs cs' i (length cs) i' (length cs') all same in
    longest m k (omega arith) (omega arith)
    (spells_moved cs' cs i' m' i m k (omega arith) (moved_front cs' cs i' (length cs') i m' le back) s)

-- a token of a text is one of a text that is the same from there up to its end
pub token_to_end : (cs cs' : List ℕ) (t t' : Token) → t'.kind ≡ t.kind → t'.end + t.start ≡ t.end + t'.start
    → length cs' + t.start ≡ length cs + t'.start → Moved cs cs' t.start (length cs) t'.start → IsToken cs t → IsToken cs' t'
token_to_end cs cs' t t' kinds ends all same token =
    let lo : t.start ≤ t.end = spells_from cs t.start t.end t.kind token.spelled in
    let begins : t.start < length cs = token.begins in
    let inside : t.end ≤ length cs = token.inside in
    record {
      begins = omega arith;
      visible = ap is_whitespace (sym (same t.start t'.start (omega arith) begins (omega arith))) ∙ token.visible;
      inside = omega arith;
      spelled = subst (λ (k : TokenKind). Spells cs' t'.start t'.end k) (sym kinds)
          (spells_moved cs cs' t.start t.end t'.start t'.end t.kind ends (moved_front cs cs' t.start (length cs) t'.start t.end inside same) token.spelled);
      longest = longest_moved cs cs' t.start t.end t'.start t'.end ends lo all same token.longest;
    }

-- no character of `<in-memory>` is a space
no_space_in_memory : (q : ℕ) → q < 11 → slice_index (codes "<in-memory>") q ≡ 32 → ⊥
no_space_in_memory q lt e =
    let none : true ≡ false = list_all_at (λ c. nat_lt 32 c) (codes "<in-memory>") q 0 lt (ap (λ (c : ℕ). nat_lt 32 c) e) in cc

-- only a text in quotes has a space behind its first character
covers_space : (cs : List ℕ) (i m p : ℕ) (k : TokenKind) → i < p → p < m → slice_index cs p ≡ 32 → Spells cs i m k → IsTextKind k
covers_space cs i m p Name lo hi e s = absurd (apart is_name_char (slice_index cs p) 32 (s.2 p (omega arith) hi) refl e)
covers_space cs i m p Dotted lo hi e s = elim (places p s.0) [
  | inl before ↦ absurd (apart is_name_char (slice_index cs p) 32 (s.1.2 p (omega arith) before) refl e)
  | inr (inl at) ↦ let dot : slice_index cs p ≡ 46 = ap (slice_index cs) at ∙ s.2 in absurd (omega (arith, dot))
  | inr (inr after) ↦ absurd (apart is_name_char (slice_index cs p) 32 (s.3.2 p (omega arith) hi) refl e)
]
covers_space cs i m p Digits lo hi e s = absurd (apart is_digit (slice_index cs p) 32 (s.1 p (omega arith) hi) refl e)
covers_space cs i m p Negative lo hi e s = absurd (apart is_digit (slice_index cs p) 32 (s.1.1 p (omega arith) hi) refl e)
covers_space cs i m p Mark lo hi e s = absurd (apart is_digit (slice_index cs p) 32 (s.1.1 p (omega arith) hi) refl e)
covers_space cs i m p Text lo hi e s = tt
covers_space cs i m p (Sign c) lo hi e s = absurd (omega (arith, s.2))
covers_space cs i m p Arrow lo hi e s =
    let at : p ≡ i + 1 = omega (arith, s.2) in
    let is : slice_index cs p ≡ 62 = ap (slice_index cs) at ∙ s.1 in absurd (omega (arith, is))
covers_space cs i m p InMemory lo hi e s =
    let q : ℕ = p - i in
    let at : i + q ≡ p = omega arith in
    let short : q < 11 = omega (arith, s.1) in
    absurd (no_space_in_memory q short (sym (s.0 q short) ∙ (ap (slice_index cs) at ∙ e)))
covers_space cs i m p Bad lo hi e s = absurd (omega (arith, s))

-- a text in quotes begins with `"`
quote_first : (c : ℕ) (k : TokenKind) → IsTextKind k → First k c → c ≡ 34
quote_first c Text w f = f
quote_first c _ w f = absurd w

-- and ends with one
closes_of : (cs : List ℕ) (i j : ℕ) (k : TokenKind) → IsTextKind k → Spells cs i j k → ClosesText cs (i + 1) j
closes_of cs i j Text w s = s.1
closes_of cs i j _ w s = absurd w

-- no token at the same place of another text is longer, where that is the same up to a space behind it
longest_before_space : (cs cs' : List ℕ) (i j i' j' p p' : ℕ) (k : TokenKind) → k ≢ Bad → Spells cs i j k → NoLonger cs i j → j' + i ≡ j + i'
    → j ≤ p → p ≤ length cs → p' + i ≡ p + i' → slice_index cs' p' ≡ 32 → Moved cs cs' i p i' → NoLonger cs' i' j'
longest_before_space cs cs' i j i' j' p p' k good s longest ends behind inside at space same m' l lt le s' =
    let some : i < j = spells_after cs i j k s good in
    let front : Moved cs cs' i j i' = moved_front cs cs' i p i' j behind same in
    elim (cases_lt p' m') [
      | inl past ↦
          let quoted : IsTextKind l = covers_space cs' i' m' p' l (omega arith) past space s' in
          let quote' : slice_index cs' i' ≡ 34 = quote_first (slice_index cs' i') l quoted (first cs' i' m' l (omega arith) s') in
          let quote : slice_index cs i ≡ 34 = front i i' (omega arith) some (omega arith) ∙ quote' in
          let closes : ClosesText cs (i + 1) j =
          closes_of cs i j k (text_only (slice_index cs i) k quote (first cs i j k some s)) s in
          let closes' : ClosesText cs' (i' + 1) j' = closes_moved cs cs' closes (i' + 1) j' (omega arith)
          (moved_behind cs cs' i j i' (i + 1) (i' + 1) (omega arith) (omega arith) front) in
          text_longest cs' i' j' quote' closes' m' l lt le s'
      | inr short ↦
          let m : ℕ = m' + i - i' in
          let from : i' ≤ m' = spells_from cs' i' m' l s' in
          let back : Moved cs' cs i' p' i = moved_back cs cs' i p i' p' at same in
          longest m l (omega arith) (omega arith)
          (spells_moved cs' cs i' m' i m l (omega arith) (moved_front cs' cs i' p' i m' short back) s')
    ]

-- a token of a text is one of a text that is the same from there up to a space behind it
pub token_before_space : (cs cs' : List ℕ) (t t' : Token) (p p' : ℕ) → t.kind ≢ Bad → t'.kind ≡ t.kind → t'.end + t.start ≡ t.end + t'.start
    → t.end ≤ p → p ≤ length cs → p' + t.start ≡ p + t'.start → p' < length cs' → slice_index cs' p' ≡ 32
    → Moved cs cs' t.start p t'.start → IsToken cs t → IsToken cs' t'
token_before_space cs cs' t t' p p' good kinds ends behind inside at within space same token =
    let some : t.start < t.end = spells_after cs t.start t.end t.kind token.spelled good in
    record {
      begins = omega arith;
      visible = ap is_whitespace (sym (same t.start t'.start (omega arith) (omega arith) (omega arith))) ∙ token.visible;
      inside = omega arith;
      spelled = subst (λ (k : TokenKind). Spells cs' t'.start t'.end k) (sym kinds)
          (spells_moved cs cs' t.start t.end t'.start t'.end t.kind ends (moved_front cs cs' t.start p t'.start t.end behind same) token.spelled);
      longest = longest_before_space cs cs' t.start t.end t'.start t'.end p p' t.kind good token.spelled token.longest ends behind inside at space same;
    }

-- the characters of a part that is the same
pub part_moved : (cs cs' : List ℕ) (i j i' j' : ℕ) → i ≤ j → j ≤ length cs → j' ≤ length cs' → j' + i ≡ j + i' → Moved cs cs' i j i'
    → slice_range cs i j ≡ slice_range cs' i' j'
part_moved cs cs' i j i' j' lo hi hi' ends same =
    let many : length (slice_range cs i j) ≡ j - i = length-between cs i j hi in
    let many' : length (slice_range cs' i' j') ≡ j' - i' = length-between cs' i' j' hi' in
    let all : length (slice_range cs i j) ≡ length (slice_range cs' i' j') = omega arith in
    ext_get_or 0 (slice_range cs i j) (slice_range cs' i' j') all (λ k lt.
    get_or-between cs i j k 0 (omega arith) ∙ (same (i + k) (i' + k) (omega arith) (omega arith) (omega arith)
    ∙ sym (get_or-between cs' i' j' k 0 (omega arith))))
