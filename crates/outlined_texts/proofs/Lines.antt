-- The tokens of two texts, one behind the other, where a line feed is between them.
use Rattle.std.proofs.Common.{Bool, ◌≡◌, ◌≢◌, ℕ, ◌+◌, ◌-◌, ◌<◌, ◌≤◌, inl, inr, List, [], ◌∷◌, ◌++◌, length, map, slice_index, true, false, ◌||◌, arith, refl, sym, ◌∙◌, ap, length-append}
use Rattle.std.specs.Prelude.{codes, nat_lt}
use Rattle.std.specs.Char.{is_whitespace}
use Rattle.std.specs.List.{list_any}
use Rattle.std.proofs.lemmas.Bool.{cases_lt}
use Rattle.std.proofs.lemmas.List.{get_or_append_left, get_or-append-add}
use Rattle.std.proofs.lemmas.List.Folds.{list_all_at}
use Rattle.std.proofs.Math.Seq.{get_or-append_seam}
use Rattle.ir_tokens.specs.declared.tokens.TokenKind.{TokenKind}
use Rattle.ir_tokens.specs.declared.tokens.TokenKind.TheVariants.{Name, Dotted, Digits, Negative, Mark, Text, Sign, Arrow, InMemory, Bad}
use Rattle.ir_tokens.specs.declared.tokens.Token.{Token}
use Rattle.ir_tokens.specs.Tokens.{is_bad, is_digit, is_name_char, ClosesText, IsGap, IsToken, NoLonger, ReadsAs, Spells}
use Rattle.ir_tokens.proofs.TokenLongest.{apart, First, first, IsTextKind, places, text_longest, text_only}
use Rattle.ir_tokens.proofs.TokenSteps.{spells_after}
use Rattle.text_marking.proofs.Moved.{Moved, spells_moved, token_to_end}
use Rattle.text_marking.proofs.Separated.{bad_is_last, bad_or_more, gap_before, last_if_bad}

-- ---- a line feed in a token

no_line_in_memory : (q : ℕ) → q < 11 → slice_index (codes "<in-memory>") q ≡ 10 → ⊥
no_line_in_memory q lt e =
    let none : true ≡ false = list_all_at (λ c. nat_lt 10 c) (codes "<in-memory>") q 0 lt (ap (λ (c : ℕ). nat_lt 10 c) e) in cc

-- only a text in quotes has a line feed behind its first character
covers_line : (cs : List ℕ) (i m p : ℕ) (k : TokenKind) → i < p → p < m → slice_index cs p ≡ 10 → Spells cs i m k → IsTextKind k
covers_line cs i m p Name lo hi e s = absurd (apart is_name_char (slice_index cs p) 10 (s.2 p (omega arith) hi) refl e)
covers_line cs i m p Dotted lo hi e s = elim (places p s.0) [
  | inl before ↦ absurd (apart is_name_char (slice_index cs p) 10 (s.1.2 p (omega arith) before) refl e)
  | inr (inl at) ↦ let dot : slice_index cs p ≡ 46 = ap (slice_index cs) at ∙ s.2 in absurd (omega (arith, dot))
  | inr (inr after) ↦ absurd (apart is_name_char (slice_index cs p) 10 (s.3.2 p (omega arith) hi) refl e)
]
covers_line cs i m p Digits lo hi e s = absurd (apart is_digit (slice_index cs p) 10 (s.1 p (omega arith) hi) refl e)
covers_line cs i m p Negative lo hi e s = absurd (apart is_digit (slice_index cs p) 10 (s.1.1 p (omega arith) hi) refl e)
covers_line cs i m p Mark lo hi e s = absurd (apart is_digit (slice_index cs p) 10 (s.1.1 p (omega arith) hi) refl e)
covers_line cs i m p Text lo hi e s = tt
covers_line cs i m p (Sign c) lo hi e s = absurd (omega (arith, s.2))
covers_line cs i m p Arrow lo hi e s =
    let at : p ≡ i + 1 = omega (arith, s.2) in
    let is : slice_index cs p ≡ 62 = ap (slice_index cs) at ∙ s.1 in absurd (omega (arith, is))
covers_line cs i m p InMemory lo hi e s =
    let q : ℕ = p - i in
    let at : i + q ≡ p = omega arith in
    let short : q < 11 = omega (arith, s.1) in
    absurd (no_line_in_memory q short (sym (s.0 q short) ∙ (ap (slice_index cs) at ∙ e)))
covers_line cs i m p Bad lo hi e s = absurd (omega (arith, s))

quote_first : (c : ℕ) (k : TokenKind) → IsTextKind k → First k c → c ≡ 34
quote_first c Text w f = f
quote_first c _ w f = absurd w

closes_of : (cs : List ℕ) (i j : ℕ) (k : TokenKind) → IsTextKind k → Spells cs i j k → ClosesText cs (i + 1) j
closes_of cs i j Text w s = s.1
closes_of cs i j _ w s = absurd w

-- ---- the first text

-- what is before the line feed
pub before_line : (cs more : List ℕ) (k : ℕ) → k < length cs → slice_index (cs ++ 10 ∷ more) k ≡ slice_index cs k
before_line cs more k lt = get_or_append_left cs (10 ∷ more) 0 k lt

pub moved_there : (cs more : List ℕ) (i j : ℕ) → j ≤ length cs → Moved cs (cs ++ 10 ∷ more) i j i
moved_there cs more i j le k k' lo hi at = let one : k' ≡ k = omega arith in rw one (sym (before_line cs more k (omega arith)))

moved_back_there : (cs more : List ℕ) (i j : ℕ) → j ≤ length cs → Moved (cs ++ 10 ∷ more) cs i j i
moved_back_there cs more i j le k k' lo hi at = let one : k' ≡ k = omega arith in rw one (before_line cs more k (omega arith))

-- no longer token begins where one of the first text does
longest_before_line : (cs more : List ℕ) (t : Token) → t.kind ≢ Bad → IsToken cs t → NoLonger (cs ++ 10 ∷ more) t.start t.end
longest_before_line cs more t good token m l lt le s =
    let some : t.start < t.end = spells_after cs t.start t.end t.kind token.spelled good in
    let inside : t.end ≤ length cs = token.inside in
    elim (cases_lt (length cs) m) [
      | inl past ↦
          let quoted : IsTextKind l = covers_line (cs ++ 10 ∷ more) t.start m (length cs) l (omega arith) past (get_or-append_seam cs 10 more 0) s in
          let quote' : slice_index (cs ++ 10 ∷ more) t.start ≡ 34 =
          quote_first (slice_index (cs ++ 10 ∷ more) t.start) l quoted (first (cs ++ 10 ∷ more) t.start m l (omega arith) s) in
          let quote : slice_index cs t.start ≡ 34 = sym (before_line cs more t.start (omega arith)) ∙ quote' in
          let text : IsTextKind t.kind = text_only (slice_index cs t.start) t.kind quote (first cs t.start t.end t.kind some token.spelled) in
          let spelled : Spells (cs ++ 10 ∷ more) t.start t.end t.kind =
          spells_moved cs (cs ++ 10 ∷ more) t.start t.end t.start t.end t.kind refl (moved_there cs more t.start t.end inside) token.spelled in
          text_longest (cs ++ 10 ∷ more) t.start t.end quote' (closes_of (cs ++ 10 ∷ more) t.start t.end t.kind text spelled) m l lt le s
      | inr short ↦ token.longest m l lt short (spells_moved (cs ++ 10 ∷ more) cs t.start m t.start m l refl (moved_back_there cs more t.start m short) s)
    ]

token_before_line : (cs more : List ℕ) (t : Token) → t.kind ≢ Bad → IsToken cs t → IsToken (cs ++ 10 ∷ more) t
token_before_line cs more t good token =
    let some : t.start < t.end = spells_after cs t.start t.end t.kind token.spelled good in
    let inside : t.end ≤ length cs = token.inside in
    let all : length (cs ++ 10 ∷ more) ≡ length cs + length (10 ∷ more) = length-append cs (10 ∷ more) in
    record {
      begins = omega arith;
      visible = ap is_whitespace (before_line cs more t.start (omega arith)) ∙ token.visible;
      inside = omega arith;
      spelled = spells_moved cs (cs ++ 10 ∷ more) t.start t.end t.start t.end t.kind refl (moved_there cs more t.start t.end inside) token.spelled;
      longest = longest_before_line cs more t good token;
    }

gap_before_line : (cs more : List ℕ) (i j : ℕ) → j ≤ length cs → IsGap cs i j → IsGap (cs ++ 10 ∷ more) i j
gap_before_line cs more i j le gap k lo hi = ap is_whitespace (before_line cs more k (omega arith)) ∙ gap k lo hi

pub neither : (a b : Bool) → (a || b) ≡ false → (a ≡ false) × (b ≡ false)
neither true b e = cc
neither false b e = (refl, e)

-- the tokens of the first text, and those behind it
pub reads_both : (cs more : List ℕ) (from : ℕ) (ts vs : List Token) → from ≤ length cs → ReadsAs cs from ts → list_any (λ (t : Token). is_bad t.kind) ts ≡ false
    → ReadsAs (cs ++ 10 ∷ more) (length cs) vs → ReadsAs (cs ++ 10 ∷ more) from (ts ++ vs)
reads_both cs more from [] vs le r good behind = gap_before (cs ++ 10 ∷ more) from (length cs) vs le (gap_before_line cs more from (length cs) (omega arith) r) behind
reads_both cs more from (t ∷ ts) vs le r good behind =
    let parts = neither (is_bad t.kind) (list_any (λ (u : Token). is_bad u.kind) ts) good in
    let inside : t.end ≤ length cs = r.2.inside in
    let begins : t.start < length cs = r.2.begins in
    let not_bad : t.kind ≢ Bad = λ bad. (let no : true ≡ false = sym (ap is_bad bad) ∙ parts.0 in cc) in (
      r.0,
      gap_before_line cs more from t.start (omega arith) r.1,
      token_before_line cs more t not_bad r.2,
      elim (bad_or_more t.kind r.3) [
        | inl (bad, last) ↦ absurd (not_bad bad)
        | inr (fine, rest) ↦ last_if_bad t.kind (λ bad. absurd (not_bad bad)) (reads_both cs more t.end ts vs inside rest parts.1 behind)
      ],
    )

-- ---- the second text

-- a token so many characters further on
abbrev pub shifted : ℕ → Token → Token
shifted n t = record { kind = t.kind; start = n + t.start; end = n + t.end }

pub behind_first : (cs ss : List ℕ) (i j : ℕ) → Moved ss (cs ++ ss) i j (length cs + i)
behind_first cs ss i j k k' lo hi at = let one : k' ≡ length cs + k = omega arith in rw one (sym (get_or-append-add cs ss k 0))

pub reads_shifted : (cs ss : List ℕ) (from : ℕ) (us : List Token) → ReadsAs ss from us → ReadsAs (cs ++ ss) (length cs + from) (map (shifted (length cs)) us)
reads_shifted cs ss from [] r = λ k lo hi.
    let all = length-append cs ss in
    let n : ℕ = k - length cs in
    let one : k ≡ length cs + n = omega arith in
    rw one (ap is_whitespace (get_or-append-add cs ss n 0) ∙ r n (omega arith) (omega arith))
reads_shifted cs ss from (t ∷ us) r =
    let all = length-append cs ss in
    let from_here : from ≤ t.start = r.0 in (
      omega arith,
      (λ k lo hi.
          let n : ℕ = k - length cs in
          let one : k ≡ length cs + n = omega arith in
          rw one (ap is_whitespace (get_or-append-add cs ss n 0) ∙ r.1 n (omega arith) (omega arith))),
      token_to_end ss (cs ++ ss) t (shifted (length cs) t) refl (omega arith) (omega arith) (behind_first cs ss t.start (length ss)) r.2,
      elim (bad_or_more t.kind r.3) [
        | inl (bad, last) ↦ bad_is_last t.kind _ _ bad (ap (map (shifted (length cs))) last)
        | inr (good, more) ↦ last_if_bad t.kind (λ bad. absurd (good bad)) (reads_shifted cs ss t.end us more)
      ],
    )
