-- Which texts are identifiers.
use Rattle.std.specs.Prelude.{ℕ, Bool, false, ◌&&◌, ◌||◌, List, [], ◌∷◌, nat_le, nat_eq, if◌then◌else◌, map, ◌++◌}
use Rattle.std.specs.List.{list_all}

-- the code is that of a letter or of `_`
abbrev pub is_first_code : ℕ → Bool
is_first_code c = (nat_le 97 c && nat_le c 122) || (nat_le 65 c && nat_le c 90) || nat_eq c 95

-- the code is that of a letter, of `_` or of a digit
abbrev pub is_later_code : ℕ → Bool
is_later_code c = is_first_code c || (nat_le 48 c && nat_le c 57)

-- the codes are those of an identifier: a letter or `_`, then letters, `_` and digits
abbrev pub is_identifier : List ℕ → Bool
is_identifier [] = false
is_identifier (c ∷ cs) = is_first_code c && list_all is_later_code cs

-- the code is that of a digit
abbrev pub is_digit_code : ℕ → Bool
is_digit_code c = nat_le 48 c && nat_le c 57

-- the code where an identifier can have it, else that of `_`
abbrev pub clean_code : ℕ → ℕ
clean_code c = if is_later_code c then c else 95

-- what is put in front of a text, so that an identifier can begin with it: `_` where it is empty or begins with a digit
abbrev pub front_of : List ℕ → List ℕ
front_of [] = 95 ∷ []
front_of (c ∷ cs) = if is_digit_code c then 95 ∷ [] else []

-- an identifier like a text: each code that it can't have is `_`
abbrev pub clean_text : List ℕ → List ℕ
clean_text cs = front_of cs ++ map clean_code cs
