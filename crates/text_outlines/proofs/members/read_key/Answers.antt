use Rattle.std.proofs.Common.{refl, inl, inr}
use Rattle.text_locations.proofs.ReadingLemmas.{exit}
use Rattle.text_outlines.proofs.members.read_key.Goals as goal

pub returns-in_err-name : goal.returns-in_err-name
returns-in_err-name g c = exit _ _ c.from_residual.result c.in_err-name.field-0.0 c.from_residual.ensures.1 (
  record { position = c.skip_spaces-stream.result; state = c.args.stream.now.state },
  record { behind = c.skip_spaces-stream.ensures; state = refl },
  inl c.in_err-name.ensures,
)

pub returns-in_err-note : goal.returns-in_err-note
returns-in_err-note g c = exit _ _ c.from_residual-in_err-note.result c.in_err-note.field-0.0 c.from_residual-in_err-note.ensures.1 (
  record { position = c.skip_spaces-stream.result; state = c.args.stream.now.state },
  record { behind = c.skip_spaces-stream.ensures; state = refl },
  inr (c.in_ok-name.name, c.read_name.new.stream, c.in_ok-name.ensures, c.in_err-note.ensures),
)
