-- What comes next in characters.
use Rattle.std.specs.Prelude.{◌≡◌, ◌⊎◌, ℕ, Bool, true, false, List, Option, Some, None}
use Rattle.std.specs.Char.{is_whitespace}
use Rattle.std.specs.List.{take_while}
use Rattle.ir_print.specs.Formats.{Steps, Choices, alternative}
use Rattle.ir_format_checks.specs.Tokens.{TokenClass, Column, takes}
use Rattle.ir_format_checks.specs.Decided.{Follow, all_begin, one_begins, all_firsts, all_may_be_empty, one_may_be_empty}
use Rattle.ir_format_readings.specs.Language.{allows}
use Rattle.stream_tokens.specs.declared.lexemes.Lexeme.{Lexeme}
use Rattle.stream_tokens.specs.Lexemes.{IsNextToken}
use Rattle.token_classes.specs.Classes.{is_lexeme_of}

-- this comes next: a token behind white space, or the end
abbrev pub ComesNext : List ℕ → Column → Type 0
ComesNext cs None = cs ≡ take_while is_whitespace cs
ComesNext cs (Some t) = (rest : List ℕ) × IsNextToken cs t.kind t.text rest

-- whatever comes next is one of these
abbrev pub MayCome : Follow Column → List ℕ → Type 0
MayCome next cs = (x : Column) → ComesNext cs x → allows next x ≡ true

-- the token, if there is one, is of the class
abbrev pub is_next_of : Option Lexeme → TokenClass → Bool
is_next_of None c = false
is_next_of (Some token) c = is_lexeme_of token c

-- what comes next, and whether a text of the steps may begin with it
pub record Begins (cs : List ℕ) (ss : Steps) (begins : Bool) : Type 0 where
  pub column : Column
  pub comes : ComesNext cs column
  pub told : begins ≡ all_firsts ss column

-- ---- choices, by a test of the classes that come next

-- the format with this number begins so; there is none where none does
abbrev pub IsBeginning : (TokenClass → Bool) → Choices → Option ℕ → Type 0
IsBeginning p cs None = one_begins p cs ≡ false
IsBeginning p cs (Some n) = (a : Steps) × (alternative cs n ≡ Some a) × (all_begin p a ≡ true)

-- the format with this number may be empty; there is none where none may
abbrev pub IsEmptyOne : Choices → Option ℕ → Type 0
IsEmptyOne cs None = one_may_be_empty cs ≡ false
IsEmptyOne cs (Some n) = (a : Steps) × (alternative cs n ≡ Some a) × (all_may_be_empty a ≡ true)

-- the format with this number begins so, or none does and it may be empty; there is none where none does either
abbrev pub IsChoice : (TokenClass → Bool) → Choices → Option ℕ → Type 0
IsChoice p cs None = (one_begins p cs ≡ false) × (one_may_be_empty cs ≡ false)
IsChoice p cs (Some n) = (a : Steps) × (alternative cs n ≡ Some a)
    × ((all_begin p a ≡ true) ⊎ ((all_may_be_empty a ≡ true) × (one_begins p cs ≡ false)))

-- what comes next, and the format that it decides for
pub record Chooses (cs : List ℕ) (formats : Choices) (found : Option ℕ) : Type 0 where
  pub column : Column
  pub comes : ComesNext cs column
  pub chosen : IsChoice (takes column) formats found
