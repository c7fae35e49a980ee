-- What is printed between the members of a list, in bytes.
use Rattle.std.specs.Prelude.{ℕ, ◌≡◌, Bool, true, false, List, [], ◌∷◌, ◌++◌, encode_utf8}
use Rattle.std.specs.List.{flat_map, AllZip}
use Rattle.text_writers.specs.declared.separators.ListSeparator.{ListSeparator}
use Rattle.text_writers.specs.declared.separators.ListSeparator.TheVariants as separators

-- the text of a separator: a line ends with a line feed (10), and a space is 32
abbrev pub separator_text : ListSeparator → List ℕ
separator_text separators.None = []
separator_text separators.Newline = encode_utf8 10
separator_text (separators.CharNewline c) = encode_utf8 c ++ encode_utf8 10
separator_text (separators.Char c) = encode_utf8 c
separator_text (separators.CharSpace c) = encode_utf8 c ++ encode_utf8 32

-- what is printed before a member: nothing before the first
abbrev pub separator_before : Bool → ListSeparator → List ℕ
separator_before true separator = []
separator_before false separator = separator_text separator

-- texts with a separator between them
abbrev pub separated : List ℕ → List (List ℕ) → List ℕ
separated separator [] = []
separated separator (t ∷ ts) = t ++ flat_map (λ text. separator ++ text) ts

-- Each member is printed as a text, and the bytes are these texts with the separator between them.
abbrev pub PrintsSeparated : {T : Type 0} → (T → List ℕ → Type 0) → ListSeparator → List T → List ℕ → Type 0
PrintsSeparated prints separator members bytes =
    (texts : List (List ℕ)) × AllZip prints members texts × (bytes ≡ separated (separator_text separator) texts)
