use Rattle.std.proofs.Common.{◌≡◌, ◌∙◌, IfOk, Ok, subst}
use Rattle.std.proofs.lemmas.Iterator.{YieldsList-from_chars, items_from_collect}
use Rattle.ir_names.specs.Identifier.{text_of}
use Rattle.ir_names.specs.Text.{clean_text}
use Rattle.ir_names.proofs.identifier.Identifier.clean.Goals as goal

pub returns : goal.returns
returns c =
    let items = items_from_collect {E = Unit {0}} (Ok c.in_ok-characters.characters) c.in_ok-characters.ensures.ran (YieldsList-from_chars c.args.source.now c.utf8.source c.chars.ensures.rest) in
    subst (λ cs. IfOk c.clean_characters.result (λ id. text_of id ≡ clean_text cs)) (c.deref.ensures.value ∙ items) c.clean_characters.ensures
