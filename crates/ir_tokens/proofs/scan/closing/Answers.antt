use Rattle.std.proofs.Common.{◌≡◌, arith, refl, slice_index}
use Rattle.ir_characters.specs.Texts.{codes_of}
use Rattle.ir_tokens.specs.Tokens.ClosesText.{closing, plain, escaped}
use Rattle.ir_tokens.proofs.TokenLongest.{closes_plain, closes_escaped, closes_inside}
use Rattle.ir_tokens.proofs.scan.closing.Goals as goal

pub returns-then-c-eq34 : goal.returns-then-c-eq34
returns-then-c-eq34 c = (omega arith, c.loop-at.invariant.1 _ (closing (rw (← c.at-c.ensures.character) c.if-c-eq34.true) refl))

pub loop-at-preserved-then-c-eq92 : goal.loop-at-preserved-then-c-eq92
loop-at-preserved-then-c-eq92 c =
    let escape : slice_index (codes_of c.args.chars) c.loop-at.at ≡ 92 = rw (← c.at-c.ensures.character) c.if-c-eq92.true in
    (omega arith, λ j k. c.loop-at.invariant.1 j (escaped escape refl k), λ j k. closes_escaped _ _ escape j (c.loop-at.invariant.2 j k))

pub loop-at-preserved : goal.loop-at-preserved
loop-at-preserved c =
    let no_quote = rw c.at-c.ensures.character at c.if-c-eq34.false in
    let no_escape = rw c.at-c.ensures.character at c.if-c-eq92.false in
    (omega arith, λ j k. c.loop-at.invariant.1 j (plain no_quote no_escape refl k), λ j k. closes_plain _ _ no_quote no_escape j (c.loop-at.invariant.2 j k))

pub returns : goal.returns
returns c = λ j le k. closes_inside (codes_of c.args.chars) c.loop-at.at j (omega arith) le (c.loop-at.invariant.2 j k)
