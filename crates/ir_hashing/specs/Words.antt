-- What characters feed a hasher: how many there are, and these, three to a word of 64 bits.
--     word a b c               three characters as one word
--     words codes              characters as words; the last one may have fewer
--     word_writes codes        what these words feed a hasher
--     character_writes codes   the same behind the number of characters
use Rattle.std.specs.Prelude.{ℕ, ◌*◌, ◌%◌, ◌^◌, List, [], ◌∷◌, ◌++◌, length, flat_map, bit_or}
use Rattle.std.specs.Hash as fed

-- `x << by` at `u64`
abbrev pub shl : ℕ → ℕ → ℕ
shl x by = (x * 2 ^ by) % 2 ^ 64

abbrev pub word : ℕ → ℕ → ℕ → ℕ
word a b c = bit_or (bit_or a (shl b 21)) (shl c 42)

abbrev pub words : List ℕ → List ℕ
words [] = []
words (a ∷ []) = word a 0 0 ∷ []
words (a ∷ b ∷ []) = word a b 0 ∷ []
words (a ∷ b ∷ c ∷ rest) = word a b c ∷ words rest

abbrev pub word_writes : List ℕ → List (List ℕ)
word_writes codes = flat_map fed.u64 (words codes)

abbrev pub character_writes : List ℕ → List (List ℕ)
character_writes codes = fed.usize (length codes) ++ word_writes codes
