-- The marks of a text, by its tokens.
use Rattle.std.specs.Prelude.{ℕ, ◌+◌, ◌-◌, ◌^◌, ◌++◌, nat_lt, Bool, true, false, List, [], ◌∷◌, Option, Some, None, drop, replicate, slice_range, take, if◌then◌else◌}
use Rattle.std.specs.Str.Parse.{digits_value}
use Rattle.ir_tokens.specs.declared.tokens.TokenKind.{TokenKind}
use Rattle.ir_tokens.specs.declared.tokens.TokenKind.TheVariants as kind
use Rattle.ir_tokens.specs.declared.tokens.Token.{Token}
use Rattle.text_marking.specs.declared.taking.Mark.{Mark}

-- the token is a mark
abbrev pub is_mark : TokenKind → Bool
is_mark kind.Mark = true
is_mark _ = false

-- the tokens that are no marks
abbrev pub without_marks : List Token → List Token
without_marks [] = []
without_marks (t ∷ ts) = if is_mark t.kind then without_marks ts else t ∷ without_marks ts

-- the characters of a token
abbrev pub token_characters : List ℕ → Token → List ℕ
token_characters cs t = slice_range cs t.start t.end

-- the number that digits write, if it is below 2^64
abbrev pub number_in_64_bits : List ℕ → Option ℕ
number_in_64_bits digits = if nat_lt (digits_value 10 digits) (2 ^ 64) then Some (digits_value 10 digits) else None

-- the mark that a token of the text is, where so many tokens before it are no marks: its number is that of the digits
-- behind the `!`
abbrev pub mark_of : List ℕ → ℕ → Token → Mark
mark_of cs others t = record {
  start = t.start;
  number = number_in_64_bits (slice_range cs (t.start + 1) t.end);
  tokens_before = others;
}

-- the marks among tokens, where so many tokens before these are no marks
abbrev pub marks_behind : List ℕ → ℕ → List Token → List Mark
marks_behind cs others [] = []
marks_behind cs others (t ∷ ts) = if is_mark t.kind
    then mark_of cs others t ∷ marks_behind cs others ts
    else marks_behind cs (others + 1) ts

-- the marks of a text that has these tokens, in its order
abbrev pub marks_of : List ℕ → List Token → List Mark
marks_of cs ts = marks_behind cs 0 ts

-- the characters with spaces (32) from i to before j
abbrev pub blanked : List ℕ → ℕ → ℕ → List ℕ
blanked cs i j = take i cs ++ (replicate (j - i) 32 ++ drop j cs)
