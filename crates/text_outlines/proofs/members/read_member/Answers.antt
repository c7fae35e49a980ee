use Rattle.std.proofs.Common.{refl, inl, inr}
use Rattle.text_locations.proofs.ReadingLemmas.{exit}
use Rattle.text_outlines.proofs.members.read_member.Goals as goal

pub returns-in_err-name : goal.returns-in_err-name
returns-in_err-name g c = exit _ _ c.from_residual.result c.in_err-name.field-0.0 c.from_residual.ensures.1
    (inl c.in_err-name.ensures)

pub returns-in_err-expect : goal.returns-in_err-expect
returns-in_err-expect g c = exit _ _ c.from_residual-in_err-expect.result c.in_err-expect.field-0.0 c.from_residual-in_err-expect.ensures.1
    (inr (c.in_ok-name.name, c.read_key.new.keys, c.read_key.new.stream, c.in_ok-name.ensures, inl c.in_err-expect.ensures))

pub returns-in_err-reference : goal.returns-in_err-reference
returns-in_err-reference g c = exit _ _ c.from_residual-in_err-reference.result c.in_err-reference.field-0.0 c.from_residual-in_err-reference.ensures.1
    (inr (c.in_ok-name.name, c.read_key.new.keys, c.read_key.new.stream, c.in_ok-name.ensures, inr (c.expect.new.stream, c.in_ok-expect.ensures, record { position = c.skip_spaces-stream.result; state = c.expect.new.stream.state }, record { behind = c.skip_spaces-stream.ensures; state = refl }, c.in_err-reference.ensures)))
