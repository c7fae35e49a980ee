-- The steps of a reading of tokens.
use Rattle.std.proofs.Common.{◌≡◌, ◌≢◌, ℕ, ◌+◌, ◌<◌, inl, inr, List, [], ◌∷◌, length, slice_index, true, arith, refl}
use Rattle.std.proofs.Math.Nat.{eq-or-lt_of_le}
use Rattle.std.specs.Char.{is_whitespace}
use Rattle.ir_tokens.specs.declared.tokens.TokenKind.{TokenKind}
use Rattle.ir_tokens.specs.declared.tokens.TokenKind.TheVariants.{Name, Dotted, Digits, Negative, Mark, Text, Sign, Arrow, InMemory, Bad}
use Rattle.ir_tokens.specs.declared.tokens.Token.{Token}
use Rattle.ir_tokens.specs.Tokens.{IsGap, IsToken, LastIfBad, ReadsAs, Spells}
use Rattle.ir_tokens.proofs.TokenLongest.{closes_after}

gap_grows : (cs : List ℕ) (i j : ℕ) → is_whitespace (slice_index cs i) ≡ true → IsGap cs (i + 1) j → IsGap cs i j
gap_grows cs i j w gap k lo hi = elim (eq-or-lt_of_le lo) [ inl e ↦ rw (← e) w | inr lt ↦ gap k (omega arith) hi ]

pub gap_more : (cs : List ℕ) (i : ℕ) (ts : List Token) → is_whitespace (slice_index cs i) ≡ true → ReadsAs cs (i + 1) ts → ReadsAs cs i ts
gap_more cs i [] w r = gap_grows cs i (length cs) w r
gap_more cs i (t ∷ ts) w r = (omega arith, gap_grows cs i t.start w r.1, r.2, r.3)

follows_more : (k : TokenKind) (p q : Type 0) → k ≢ Bad → q → LastIfBad k p q
follows_more Name p q n h = h
follows_more Dotted p q n h = h
follows_more Digits p q n h = h
follows_more Negative p q n h = h
follows_more Mark p q n h = h
follows_more Text p q n h = h
follows_more (Sign c) p q n h = h
follows_more Arrow p q n h = h
follows_more InMemory p q n h = h
follows_more Bad p q n h = absurd (n refl)

pub token_more : (cs : List ℕ) (at : ℕ) (t : Token) (ts : List Token) → t.start ≡ at → IsToken cs t → t.kind ≢ Bad → ReadsAs cs t.end ts → ReadsAs cs at (t ∷ ts)
token_more cs at t ts e token n r = (omega arith, λ k lo hi. absurd (omega arith), token, follows_more t.kind _ _ n r)

pub spells_after : (cs : List ℕ) (i j : ℕ) (k : TokenKind) → Spells cs i j k → k ≢ Bad → i < j
spells_after cs i j Name s n = s.0
spells_after cs i j Dotted s n = omega (arith, s.1.0, s.3.0)
spells_after cs i j Digits s n = s.0
spells_after cs i j Negative s n = omega (arith, s.1.0)
spells_after cs i j Mark s n = omega (arith, s.1.0)
spells_after cs i j Text s n = let after = closes_after cs s.1 in omega (arith, after)
spells_after cs i j (Sign c) s n = omega arith
spells_after cs i j Arrow s n = omega arith
spells_after cs i j InMemory s n = omega arith
spells_after cs i j Bad s n = absurd (n refl)
