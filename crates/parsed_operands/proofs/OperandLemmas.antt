-- Lemmas on names that were read.
use Rattle.std.proofs.Common.{◌≡◌, ◌∙◌, sym, ap, ℕ, Bool, true, false, cond, List, [], ◌∷◌, Some, None}
use Rattle.std.specs.List.{take_while}
use Rattle.ir_names.specs.Identifier.{text_of}
use Rattle.ir_names.specs.Text.{is_first_code, is_later_code}
use Rattle.ir_names.specs.declared.identifier.Identifier.{Identifier}
use Rattle.text_streams.specs.declared.stream.StateStream.{StateStream}
use Rattle.text_streams.specs.Positions.{left}
use Rattle.text_streams.specs.Quotes.{Said}
use Rattle.text_parsables.specs.Fronts.{ReadsValue}
use Rattle.text_parsables.specs.Names.{name_text, NameStands}

twice_at : (b : Bool) (word : List ℕ) (said : Said) → cond b (Some (word, word)) None ≡ Some said → said.0 ≡ said.1
twice_at true word said e =
    sym (ap (λ o. elim o [ None ↦ word | Some s ↦ s.0 ]) e) ∙ ap (λ o. elim o [ None ↦ word | Some s ↦ s.1 ]) e
twice_at false word said e = cc

-- a name says itself
pub name_twice : (text : List ℕ) (said : Said) → name_text text ≡ Some said → said.0 ≡ said.1
name_twice [] said e = cc
name_twice (c ∷ cs) said e = twice_at (is_first_code c) (c ∷ take_while is_later_code cs) said e

-- the name that was read is there
pub name_there : {S : Type 0} (old new : StateStream S) (id : Identifier) → ReadsValue NameStands old new id → name_text (left old.position) ≡ Some (text_of id, text_of id)
name_there old new id h =
    let said = h.stands.0 in
    let same : said.0 ≡ h.characters = name_twice (left old.position) (said.0, h.characters) said.1 in
    said.1 ∙ ap (λ cs. Some (said.0, cs)) (sym same) ∙ ap (λ cs. Some (cs, cs)) (sym said.2)
