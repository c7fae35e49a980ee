use Rattle.std.proofs.Common.{◌≡◌, ◌∙◌, refl, sym, subst, Some, None, inl, inr, encode_utf8_all}
use Rattle.std.specs.String.{string_bytes}
use Rattle.text_streams.specs.declared.stream.StateStream.{StateStream}
use Rattle.text_streams.specs.Numbers.{digits_text}
use Rattle.text_streams.specs.Positions.{left}
use Rattle.text_streams.specs.Quotes.{Said}
use Rattle.text_streams.specs.Streams.{Reads}
use Rattle.text_locations.proofs.ReadingLemmas.{exit, digits_number}
use Rattle.text_locations.proofs.places.read_digits.Goals as goal

some_injective : {X : Type 0} (x y : X) → Some x ≡ Some y → x ≡ y
some_injective x y e = cc

none-is_some : {X : Type 0} {x : X} → None ≡ Some x → ⊥
none-is_some e = cc

pub returns-then-not-begins_with_digit : goal.returns-then-not-begins_with_digit
returns-then-not-begins_with_digit g c = inr (record {
  here = record { position = c.skip_spaces-stream.result; state = c.args.stream.now.state };
  spaces = record { behind = c.skip_spaces-stream.ensures; state = refl };
  without = sym c.if-not-begins_with_digit.ensures;
  at = c.fault_at.ensures;
})

pub returns-in_err-text : goal.returns-in_err-text
returns-in_err-text g c =
    let there = digits_number (left c.skip_spaces-stream.result) (sym c.if-not-begins_with_digit.ensures) in
    exit _ _ c.from_residual.result c.in_err-text.field-0.0 c.from_residual.ensures.1
    (elim c.in_err-text.ensures.why [
      | inl memory ↦ inl memory
      | inr why ↦ elim why.1 [
        | inl none ↦ absurd (none-is_some (sym none ∙ there))
        | inr said ↦ absurd said.2
      ]
    ])

pub returns : goal.returns
returns g c =
    let here : StateStream g.row.S.Denot = record { position = c.skip_spaces-stream.result; state = c.args.stream.now.state } in
    let digits = digits_text 10 (left c.skip_spaces-stream.result) in
    let there = digits_number (left c.skip_spaces-stream.result) (sym c.if-not-begins_with_digit.ensures) in
    let said : c.in_ok-text.ensures.said ≡ (digits, digits) = some_injective _ _ (sym c.in_ok-text.ensures.there ∙ there) in
    let P : Said → Type 0 = λ s. string_bytes c.in_ok-text.text ≡ encode_utf8_all s.0 in
    let Q : Said → Type 0 = λ s. Reads here c.number_as_string_parse.new.stream s.1 in
    record {
      here = here;
      spaces = record { behind = c.skip_spaces-stream.ensures; state = refl };
      place = refl;
      there = sym c.if-not-begins_with_digit.ensures;
      text = subst P said c.in_ok-text.ensures.holds;
      reads = subst Q said c.in_ok-text.ensures.reads;
    }
