use Rattle.std.proofs.Common.{◌≡◌, ℕ, ◌+◌, ◌*◌, ◌-◌, ◌≤◌, ◌<◌, ◌^◌, Option, SomeIff, List, length, ◌∙◌, sym, ap, subst, drop, arith}
use Rattle.std.proofs.lemmas.List.{drop_all}
use Rattle.ir_characters.specs.Texts.{codes_of}
use Rattle.ir_forest.specs.Meaning.{digits, digits_from}
use Rattle.text_frames.proofs.Digits.{digits_grow, digits_next}
use Rattle.text_frames.proofs.source.digits_value.Goals as goal

pub returns-in_err-value : goal.returns-in_err-value
returns-in_err-value c =
    let cs = codes_of c.args.text in
    let from = c.args.from in
    let i = c.loop-place.place in
    let value = 10 * c.loop-place.value + (c.at.result - 48) in
    let within : i < length cs = omega (arith, c.len-place-end.ensures.count, c.loop-place-test.true) in
    let more : digits_from value (drop (i + 1) cs) ≡ digits (drop from cs) = sym (digits_next cs i _ c.at.result c.loop-place.value within (sym c.at.ensures.character)) ∙ c.loop-place.invariant.1 in
    let great : 2 ^ 64 ≤ digits (drop from cs) = omega (arith, c.in_err-value.ensures, digits_grow (drop (i + 1) cs) value, more) in
    subst (λ (r : Option ℕ). SomeIff r (digits (drop from cs) < 2 ^ 64) (digits (drop from cs))) (sym c.from_residual.ensures) (λ h. omega (arith, h, great))

pub returns : goal.returns
returns c =
    let cs = codes_of c.args.text in
    let from = c.args.from in
    let end = drop_all c.loop-place.place cs (omega (arith, c.len-place-end.ensures.count, c.loop-place-test.false)) in
    let all : c.loop-place.value ≡ digits (drop from cs) = ap (λ (xs : List ℕ). digits_from c.loop-place.value xs) (sym end) ∙ c.loop-place.invariant.1 in
    (omega (arith, all, c.loop-place.invariant.0), all)
