-- Numbers of texts, by which programs name functions.
use Rattle.std.specs.Prelude.{◌≡◌, ℕ, List}

-- different texts have different numbers
abbrev pub NumbersTextsApart : (List ℕ → ℕ) → Type 0
NumbersTextsApart numbered = (a b : List ℕ) → numbered a ≡ numbered b → a ≡ b
