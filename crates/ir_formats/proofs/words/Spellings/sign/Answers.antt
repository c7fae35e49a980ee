use Rattle.std.proofs.Common.{◌≡◌, ◌∙◌, ◌+◌, Option, Some, ℕ, slice_get, slice_index, refl, sym, ap, true, arith}
use Rattle.ir_characters.specs.Texts.{codes_of}
use Rattle.std.proofs.lemmas.Bool.{ltb-true}
use Rattle.std.proofs.lemmas.Option.{slice_get_read}
use Rattle.ir_tokens.specs.Tokens.{is_sign, IsInMemory}
use Rattle.ir_tokens.proofs.TokenLongest.{sign_longest}
use Rattle.ir_formats.proofs.words.Spellings.sign.Goals as goal
use Rattle.ir_formats.proofs.words.Spellings.sign.Goals.{else-sign-eq60-via-then-sign-eq60+else-at-eq105, else-sign-eq60-via-else-sign-eq60}

pub returns-else-sign-eq60 : goal.returns-else-sign-eq60
returns-else-sign-eq60 c =
    let cs = codes_of c.args.chars in
    let at = c.args.at in
    let kept : slice_get c.args.self.now.signs.items (slice_index cs at) ≡ Some (Some c.in-Some-Some.found) =
    rw (← c.at-sign.ensures.character, ← c.deref.ensures.value) (slice_get_read c.deref.result.now _ c.at-sign.result c.in-Some-Some.field-0.now refl (ltb-true _ _ (sym c.in-Some-Some.ensures.lookup.0)) c.in-Some-Some.ensures.lookup.1 ∙ ap (λ (x : Option (ℕ × ℕ)). Some x) c.in-Some-Some.field-0-is) in
    let sign : is_sign (slice_index cs at) ≡ true = c.requires.signs _ _ kept in
    let behind : at ≡ at + 0 = omega arith in
    let alone : IsInMemory cs at → ⊥ = λ found. elim c.else-sign-eq60.branch [
      | else-sign-eq60-via-then-sign-eq60+else-at-eq105 w ↦ w.if-at-eq105.false (w.at.ensures.character ∙ found 1 (omega arith))
      | else-sign-eq60-via-else-sign-eq60 w ↦ w.if-sign-eq60.false (c.at-sign.ensures.character ∙ (ap (slice_index cs) behind ∙ found 0 (omega arith)))
    ] in
    (record { inside = omega arith; spelled = (sign, refl, refl); longest = sign_longest cs at sign alone }, kept)
