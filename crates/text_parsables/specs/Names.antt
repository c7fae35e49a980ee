-- Names and words at the front of a text.
use Rattle.std.specs.Prelude.{ℕ, ◌≡◌, List, [], ◌∷◌, Bool, true, false, Option, None, Some, if◌then◌else◌, codes}
use Rattle.std.specs.List.{take_while}
use Rattle.ir_names.specs.Identifier.{text_of}
use Rattle.ir_names.specs.Text.{is_first_code, is_later_code}
use Rattle.ir_names.specs.declared.identifier.Identifier.{Identifier}
use Rattle.text_streams.specs.Quotes.{Said}
use Rattle.text_parsables.specs.Fronts.{Fronts}
use Rattle.text_parsables.specs.Said.{SaysAlone}

-- the name at the front of a text: a letter or `_`, and as many letters, `_` and digits as follow
abbrev pub name_text : List ℕ → Option Said
name_text [] = None
name_text (c ∷ cs) =
    if is_first_code c then Some (c ∷ take_while is_later_code cs, c ∷ take_while is_later_code cs) else None

-- a name
abbrev pub NameStands : {S : Type 0} → Fronts S Identifier
NameStands = SaysAlone name_text (λ cs id. text_of id ≡ cs) (λ cs. ⊥)

-- the word for a truth
abbrev pub word_of : Bool → List ℕ
word_of true = codes "true"
word_of false = codes "false"

-- one of the two words, which is no part of a longer name
abbrev pub TruthStands : {S : Type 0} → Fronts S Bool
TruthStands = SaysAlone name_text (λ cs truth. cs ≡ word_of truth) (λ cs. (truth : Bool) → cs ≡ word_of truth → ⊥)
