-- Marks put into a text.
use Rattle.std.specs.Prelude.{ℕ, ◌++◌, List, [], ◌∷◌, codes, decimal, drop, length, max, min, slice_range}

-- what is put in for a mark: a space, `!` and the digits of its number
abbrev pub spaced_mark : ℕ → List ℕ
spaced_mark n = codes " !" ++ decimal n

-- where a mark is put into so many characters, of which those before `from` are done: at its offset, but not before `from`
-- nor past the end
abbrev pub next_place : ℕ → ℕ → ℕ → ℕ
next_place many from offset = min (max from offset) many

-- the characters from `from` on, with a mark of each number put in at its offset
abbrev pub with_marks_from : List ℕ → ℕ → List (ℕ × ℕ) → List ℕ
with_marks_from cs from [] = drop from cs
with_marks_from cs from (m ∷ ms) = let place = next_place (length cs) from m.0 in
    slice_range cs from place ++ (spaced_mark m.1 ++ with_marks_from cs place ms)

-- the text with a mark of each number put in at its offset
abbrev pub with_marks : List ℕ → List (ℕ × ℕ) → List ℕ
with_marks cs ms = with_marks_from cs 0 ms
