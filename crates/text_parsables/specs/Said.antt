-- Values of texts that say something at their front.
use Rattle.std.specs.Prelude.{ℕ, ◌≡◌, ◌⊎◌, List, [], Option, None, Some, Result, Ok, Err, encode_utf8_all}
use Rattle.std.specs.String.{string_bytes}
use Rattle.std.specs.declared.alloc.Global.{Global}
use Rattle.std.specs.declared.string.String.{String}
use Rattle.text_streams.specs.declared.faults.TextError.{TextError}
use Rattle.text_streams.specs.declared.faults.TextError.TheVariants.{Memory, Syntax}
use Rattle.text_streams.specs.Numbers.{number_text}
use Rattle.text_streams.specs.Quotes.{Said, quoted_text}
use Rattle.text_parsables.specs.Fronts.{Front, Fronts}

-- Why nothing is read: nothing is said, or what is said is refused. Memory may be refused.
abbrev pub SaysNothing : Option Said → (List ℕ → Type 0) → TextError → Type 0
SaysNothing said IsRefused cause = (cause ≡ Memory) ⊎ ((cause ≡ Syntax) × ((said ≡ None) ⊎ ((what : Said) × (said ≡ Some what) × IsRefused what.0)))

-- A value is what a text says at its front, by the characters that say it. A fault is met where the text begins.
abbrev pub Says : {T : Type 0} → Option Said → (List ℕ → T → Type 0) → (List ℕ → Type 0) → Front T → Type 0
Says said Means IsRefused (Ok answer) = (what : List ℕ) × (said ≡ Some (what, answer.0)) × Means what answer.1
Says said Means IsRefused (Err answer) = (answer.0 ≡ []) × SaysNothing said IsRefused answer.1

-- that, by the text alone: the state stays the same
abbrev pub SaysAlone : {S T : Type 0} → (List ℕ → Option Said) → (List ℕ → T → Type 0) → (List ℕ → Type 0) → Fronts S T
SaysAlone said Means IsRefused text old front new = Says (said text) Means IsRefused front × (new ≡ old)

-- a decimal number, with as many digits as there are, in the range of its type
abbrev pub NumberStands : {S T E : Type 0} → (ℕ → List ℕ → Result T E → Type 0) → Fronts S T
NumberStands {E = E} parses =
    SaysAlone (number_text 10) (λ cs number. parses 10 (encode_utf8_all cs) (Ok number)) (λ cs. (e : E) × parses 10 (encode_utf8_all cs) (Err e))

-- what a text in quotes says
abbrev pub QuotedStands : {S : Type 0} → Fronts S (String Global)
QuotedStands = SaysAlone quoted_text (λ cs text. string_bytes text ≡ encode_utf8_all cs) (λ cs. ⊥)
