use Rattle.std.proofs.Common.{◌≡◌, ◌∙◌, ◌++◌, ap, map, take}
use Rattle.std.proofs.lemmas.List.{take_all}
use Rattle.ir_names.specs.Text.{is_identifier, front_of, clean_code}
use Rattle.ir_names.proofs.Identifiers.{clean_valid}
use Rattle.ir_names.proofs.identifier.clean_characters.Goals as goal

pub invariant_of-result : goal.invariant_of-result
invariant_of-result c =
    let whole : take c.loop-character.character-index c.args.characters.now ≡ c.args.characters.now = take_all c.loop-character.character-index c.args.characters.now c.loop-character-test.false in
    record { valid = ap is_identifier (c.loop-character.invariant ∙ ap (λ cs. front_of c.args.characters.now ++ map clean_code cs) whole) ∙ clean_valid c.args.characters.now }
