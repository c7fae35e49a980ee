-- What a contract says of the sources of a legaliser and of their identifiers.
use Rattle.std.specs.Prelude.{◌≡◌, ◌↔◌, ◌⊎◌, ℕ, ◌+◌, ◌-◌, ◌^◌, ◌≤◌, ◌<◌, Bool, true, false, List, [], ◌∷◌, ◌++◌, Option, Some, is_some, option_map, bytes_eq, decimal}
use Rattle.std.specs.List.{find}

-- a source and its identifier
abbrev pub Given : Type 0
Given = List ℕ × List ℕ

-- the sources with their identifiers, in the order in which they came, and the number that is tried next
pub record Legalised : Type 0 where
  pub given : List Given
  pub counter : ℕ

-- the identifier that a source was given
abbrev pub name_of : List Given → List ℕ → Option (List ℕ)
name_of given source = option_map (λ e. e.1) (find (λ e. bytes_eq source e.0) given)

-- the source that an identifier was given to
abbrev pub source_of : List Given → List ℕ → Option (List ℕ)
source_of given name = option_map (λ e. e.0) (find (λ e. bytes_eq name e.1) given)

-- the identifier was given to a source
abbrev pub is_taken : List Given → List ℕ → Bool
is_taken given name = is_some (source_of given name)

-- a source has an identifier exactly where that was given to the source, so different sources have different identifiers
abbrev pub GivesOneToOne : List Given → Type 0
GivesOneToOne given = (source name : List ℕ) → (name_of given source ≡ Some name) ↔ (source_of given name ≡ Some source)

-- what a number makes of a text: the text, `_` and the number
abbrev pub numbered : List ℕ → ℕ → List ℕ
numbered text n = text ++ 95 ∷ decimal n

-- each number from one to below another makes of the text what is taken
abbrev pub AreTaken : List Given → List ℕ → ℕ → ℕ → Type 0
AreTaken given text from to = (n : ℕ) → from ≤ n → n < to → is_taken given (numbered text n) ≡ true

-- the identifier is the text with the first number, from one on, that makes what isn't taken, and the counter goes past that
pub record IsNumberedText (given : List Given) (text : List ℕ) (from : ℕ) (name : List ℕ) (counter : ℕ) : Type 0 where
  pub number : ℕ
  pub from_here : from ≤ number
  pub name_is : name ≡ numbered text number
  pub earlier : AreTaken given text from number
  pub free : is_taken given name ≡ false
  pub next : counter ≡ number + 1

-- the identifier is the text, where that isn't taken, else numbered
abbrev pub IsFresh : List Given → List ℕ → ℕ → List ℕ → ℕ → Type 0
IsFresh given text from name counter = ((is_taken given text ≡ false) × (name ≡ text) × (counter ≡ from)) ⊎ ((is_taken given text ≡ true) × IsNumberedText given text from name counter)

-- the text is taken, and so is what each number from the counter to below the greatest makes of it
abbrev pub IsFull : Legalised → List ℕ → Type 0
IsFull l text = (is_taken l.given text ≡ true) × AreTaken l.given text l.counter (2 ^ 64 - 1)

-- the source has the identifier from here on
abbrev pub with_name : List Given → List ℕ → List ℕ → List Given
with_name given source name = given ++ (source, name) ∷ []
