use Rattle.std.specs.Prelude.{◌≡◌, ℕ, zero, suc, Option, Some, None, refl}

-- the number that a link leads to, by what it keeps: 0 for none, and one more than the number
abbrev pub linked : ℕ → Option ℕ
linked zero = None
linked (suc n) = Some n

-- what a link keeps of a number or none
abbrev pub code_of : Option ℕ → ℕ
code_of None = zero
code_of (Some n) = suc n

pub code_of_linked : (c : ℕ) → code_of (linked c) ≡ c
code_of_linked zero = refl
code_of_linked (suc n) = refl
