-- A text apart from its marks.
use Rattle.std.specs.Prelude.{◌≡◌, ℕ, ◌&&◌, nat_le, nat_lt, Bool, true, false, List, length, map, slice_index}
use Rattle.std.specs.List.{list_any}
use Rattle.ir_characters.specs.Texts.{owned_codes}
use Rattle.ir_tokens.specs.declared.tokens.Token.{Token}
use Rattle.ir_tokens.specs.Tokens.{ReadsAs}
use Rattle.text_marking.specs.declared.taking.MarkedText.{MarkedText}
use Rattle.text_marking.specs.declared.taking.Taking.{Taking}
use Rattle.text_marking.specs.Marks.{is_mark, marks_of, token_characters, without_marks}

-- the place is in one of the marks among these tokens
abbrev pub is_in_mark : List Token → ℕ → Bool
is_in_mark ts k = list_any (λ t. is_mark t.kind && (nat_le t.start k && nat_lt k t.end)) ts

-- The bare text of a text that has these tokens: as long as the text, a space (32) at each place in a mark, and at each
-- other place the character of the text.
pub record IsBare (cs : List ℕ) (ts : List Token) (bare : List ℕ) : Type 0 where
  pub long : length bare ≡ length cs
  pub in_marks : (k : ℕ) → is_in_mark ts k ≡ true → slice_index bare k ≡ 32
  pub elsewhere : (k : ℕ) → is_in_mark ts k ≡ false → slice_index bare k ≡ slice_index cs k

-- The text has these tokens. The marks that were taken are the marks among them, and the bare text has the others, each of
-- which is where it was and has the same kind and characters.
pub record TakesMarks (cs : List ℕ) (taken : MarkedText) : Type 0 where
  pub tokens : List Token
  pub reads : ReadsAs cs 0 tokens
  pub marks : taken.marks.items ≡ marks_of cs tokens
  pub bare : IsBare cs tokens (owned_codes taken.bare)
  pub others : ReadsAs (owned_codes taken.bare) 0 (without_marks tokens)
  pub characters : map (token_characters (owned_codes taken.bare)) (without_marks tokens)
      ≡ map (token_characters cs) (without_marks tokens)

-- the same of the first tokens of a text, but for what its bare text has for tokens
pub record HasTaken (cs : List ℕ) (ts : List Token) (t : Taking) : Type 0 where
  pub marks : t.taken.marks.items ≡ marks_of cs ts
  pub others : t.others ≡ length (without_marks ts)
  pub bare : IsBare cs ts (owned_codes t.taken.bare)
