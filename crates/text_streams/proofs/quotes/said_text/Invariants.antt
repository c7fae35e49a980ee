use Rattle.std.proofs.Common.{[], length, Option, Global}
use Rattle.std.specs.String.{string_bytes}
use Rattle.std.specs.declared.string.String.{String}
use Rattle.text_streams.specs.declared.position.Position.{Position}
use Rattle.text_streams.specs.Positions.{left}
use Rattle.text_streams.specs.Quotes.{said_in, Answers}
use Rattle.text_streams.proofs.quotes.said_text.Given as goal

-- an answer to what is said from here on, behind what was said, is an answer to all of it
abbrev pub invariant-loop-character : goal.invariant-loop-character
invariant-loop-character l = (answer : Option (String Global × Position)) →
    Answers (said_in (left l.position)) (string_bytes l.text) l.position answer → Answers (said_in (left l.fn.position)) [] l.fn.position answer

abbrev pub decreases-loop-character : goal.decreases-loop-character
decreases-loop-character l = length (left l.position)
