use Rattle.std.proofs.Common.{◌≡◌, ◌∙◌, ap, refl}
use Rattle.ir_characters.specs.Texts.{codes_of}
use Rattle.ir_names.specs.Text.{is_identifier}
use Rattle.text_frames.proofs.Bytes.{no_identifier}
use Rattle.text_frames.proofs.making.identifier_of.Goals as goal

pub returns-in-Err-clause-invalid : goal.returns-in-Err-clause-invalid
returns-in-Err-clause-invalid c =
    let is : codes_of c.args.text ≡ c.in-Bytes.bytes.now = ap codes_of c.in-Bytes.is in
    (λ _. ap is_identifier is ∙ no_identifier c.in-Bytes.bytes.now c.in-Err.ensures.cases.0, λ _. refl)
