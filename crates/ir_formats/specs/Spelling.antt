-- The texts that were numbered.
use Rattle.std.specs.Prelude.{◌≡◌, ℕ, ◌+◌, ◌<◌, ◌≤◌, true, List, [], ◌∷◌, ◌++◌, ◌==◌, if◌then◌else◌, Option, Some, length, map, slice_get, slice_index, slice_index_or, slice_set}
use Rattle.ir_tokens.specs.declared.tokens.TokenKind.{TokenKind}
use Rattle.ir_tokens.specs.declared.tokens.TokenKind.TheVariants.{Sign}
use Rattle.ir_tokens.specs.Tokens.{is_sign, IsLongestToken}
use Rattle.ir_formats.specs.Words.{word_kind}
use Rattle.ir_characters.specs.Texts.{codes_of}
use Rattle.ir_formats.specs.declared.words.Spellings.{Spellings}
use Rattle.ir_formats.specs.Rules.{number_of}

-- the texts that have a number, by their numbers
abbrev pub known_texts : Spellings → List (List ℕ)
known_texts s = map codes_of s.known.keys

-- The words are among the known texts, before all others, and these are the numbers of the words there: what stands at the number of
-- a text is the number of the word that it is. A text whose number is behind these is no word, so that its number as a word is how many
-- words there are.
pub record NumbersWords (words known : List (List ℕ)) (numbers : List ℕ) : Type 0 where
  pub first : length numbers ≤ length known
  pub word : (text : List ℕ) → slice_index_or numbers (number_of known text) (length words) ≡ number_of words text

-- the numbers of the words that the known texts are, with that of a word whose text may be known
abbrev pub numbers_with : List ℕ → ℕ → List (List ℕ) → List ℕ → List ℕ
numbers_with numbers number known text = if number_of known text == length known then numbers ++ number ∷ [] else numbers

-- The longest token here is the sign that stands here.
abbrev pub IsSignAt : List ℕ → ℕ → Type 0
IsSignAt cs at = IsLongestToken cs at (Sign (slice_index cs at), at + 1)

-- What is kept of each character is kept of a sign.
abbrev pub AreAllSigns : List (Option (ℕ × ℕ)) → Type 0
AreAllSigns signs = (c : ℕ) (found : ℕ × ℕ) → slice_get signs c ≡ Some (Some found) → is_sign c ≡ true

-- the kind and the number of a sign, for these words and these known texts
pub record IsKnownSign (words known : List (List ℕ)) (c : ℕ) (found : ℕ × ℕ) : Type 0 where
  pub sign : is_sign c ≡ true
  pub kind : found.0 ≡ word_kind (number_of words (c ∷ [])) (length words) 6
  pub number : number_of known (c ∷ []) ≡ found.1
  pub among : found.1 < length known

-- What is kept of each character is its kind and its number, and it is a sign.
abbrev pub AreSigns : List (List ℕ) → List (List ℕ) → List (Option (ℕ × ℕ)) → Type 0
AreSigns words known signs = (c : ℕ) (found : ℕ × ℕ) → slice_get signs c ≡ Some (Some found) → IsKnownSign words known c found

-- the kinds and numbers that are kept of signs, with those of a token, if it is one
abbrev pub signs_with : List (Option (ℕ × ℕ)) → TokenKind → ℕ × ℕ → List (Option (ℕ × ℕ))
signs_with signs (Sign c) found = slice_set signs c (Some found)
signs_with signs _ found = signs
