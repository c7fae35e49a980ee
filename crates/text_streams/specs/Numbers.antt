-- The text of a number, at the front of a text.
use Rattle.std.specs.Prelude.{ℕ, ◌==◌, Bool, false, List, [], ◌∷◌, Option, None, Some, if◌then◌else◌}
use Rattle.std.specs.List.{take_while}
use Rattle.std.specs.Char.{is_digit}
use Rattle.text_streams.specs.Quotes.{Said}

-- whether a text begins with a digit in a base
abbrev pub begins_with_digit : ℕ → List ℕ → Bool
begins_with_digit radix [] = false
begins_with_digit radix (c ∷ cs) = is_digit c radix

-- the digits in a base at the front of a text, as many as there are
abbrev pub digits_text : ℕ → List ℕ → List ℕ
digits_text radix cs = take_while (λ c. is_digit c radix) cs

-- characters that say themselves
abbrev pub as_they_are : List ℕ → Said
as_they_are cs = (cs, cs)

-- the number in a base at the front of a text: a `-` (45), where there is one, and one digit at least
abbrev pub number_text : ℕ → List ℕ → Option Said
number_text radix [] = None
number_text radix (c ∷ cs) =
    if c == 45 then (if begins_with_digit radix cs then Some (as_they_are (c ∷ digits_text radix cs)) else None)
    else (if is_digit c radix then Some (as_they_are (digits_text radix (c ∷ cs))) else None)
