use Rattle.std.proofs.Common.{◌≡◌, ◌∙◌, refl, subst, inr, List, [], Option, Some, None, Err, Global, encode_utf8_all}
use Rattle.std.specs.String.{string_bytes}
use Rattle.std.specs.declared.string.String.{String}
use Rattle.text_streams.specs.declared.position.Position.{Position}
use Rattle.text_streams.specs.Numbers.{number_text}
use Rattle.text_streams.specs.Positions.{left}
use Rattle.text_streams.specs.Quotes.{Said, Answers}
use Rattle.text_streams.proofs.parsers.number_parse.Goals as goal

-- an answer that is a text is what is said
answered : (front : Option Said) (from : Position) (text : String Global) (to : Position) → Answers front [] from (Some (text, to)) →
    (said : Said) × (front ≡ Some said) × (string_bytes text ≡ encode_utf8_all said.0)
answered None from text to e = cc
answered (Some said) from text to h = (said, refl, h.0)

pub returns : goal.returns
returns g c =
    let front = number_text c.args.radix (left c.args.stream.now.position) in
    let P : Option (String Global × Position) → Type 0 = λ read. Answers front [] c.args.stream.now.position read in
    let said = answered front c.args.stream.now.position c.in-Some.text c.in-Some.end (subst P c.in-Some.is c.in-Ok.ensures) in
    let Q : List _ → Type 0 = λ bytes. g.T.FromStrRadix.parses c.args.radix bytes (Err c.in-Err-from_str_radix.field-0) in
    record {
      stays = record { stays = refl; here = c.fault-in-Err-from_str_radix.ensures.here; unconsumed = c.fault-in-Err-from_str_radix.ensures.unconsumed };
      why = inr (
        c.fault-in-Err-from_str_radix.ensures.cause,
        inr (
          said.0,
          said.1,
          (c.in-Err-from_str_radix.field-0, subst Q (c.as_str.ensures.value ∙ said.2) c.in-Err-from_str_radix.ensures),
        ),
      );
    }
