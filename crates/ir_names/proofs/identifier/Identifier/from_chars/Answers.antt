use Rattle.std.proofs.Common.{◌<◌, ◌++◌, ◌∷◌, [], take, sym, ap, subst, ◌∙◌}
use Rattle.std.proofs.lemmas.List.{take_more}
use Rattle.std.specs.String.{string_bytes}
use Rattle.ir_names.proofs.Identifiers.{identifier_small}
use Rattle.ir_names.proofs.identifier.Identifier.from_chars.Goals as goal

pub loop-character-preserved : goal.loop-character-preserved
loop-character-preserved c =
    let chars = c.args.chars.now in
    let at = c.loop-character.character-index in
    let character = c.character-item.result in
    let small = identifier_small chars at character (sym c.are_valid.ensures ∙ c.if-not-are_valid.false) c.loop-character-test.true in
    c.in_ok-push.ensures.bytes ∙ (ap (λ bytes. string_bytes c.loop-character.text ++ bytes) (c.in_ok-push.ensures.ascii (subst (λ code. code < 128) (sym c.character-item.is) small))
    ∙ (ap (λ front. front ++ character ∷ []) c.loop-character.invariant ∙ (ap (λ code. take at chars ++ code ∷ []) c.character-item.is ∙ sym (take_more chars at character c.loop-character-test.true))))
