use Rattle.std.proofs.Common.{sym}
use Rattle.std.specs.Char.{is_whitespace}
use Rattle.text_streams.proofs.PositionLemmas.{while_step, while_stop, while_end}
use Rattle.text_streams.proofs.position.Position.skip_spaces.Goals as goal

pub loop-character-preserved : goal.loop-character-preserved
loop-character-preserved c = λ to h. c.loop-character.invariant to
    (while_step is_whitespace c.loop-character.position c.in-Some.next to c.in-Some.character
    c.in-Some.ensures (sym c.if-not-is_whitespace.ensures) h)

pub returns-then-not-is_whitespace : goal.returns-then-not-is_whitespace
returns-then-not-is_whitespace c = c.loop-character.invariant _
    (while_stop is_whitespace c.loop-character.position c.in-Some.next c.in-Some.character c.in-Some.ensures (sym c.if-not-is_whitespace.ensures))

pub returns-in_default : goal.returns-in_default
returns-in_default c = c.loop-character.invariant _ (while_end is_whitespace c.loop-character.position c.in_default.ensures)
