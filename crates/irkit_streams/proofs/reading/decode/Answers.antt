use Rattle.std.proofs.Common.{sym}
use Rattle.std.specs.Str.{IsAscii}
use Rattle.std.proofs.lemmas.Str.{IsUtf8-from_ascii, chars-IsAscii}
use Rattle.irkit_streams.proofs.reading.decode.Goals as goal

pub returns-then-is_ascii : goal.returns-then-is_ascii
returns-then-is_ascii c =
    let ascii : IsAscii c.args.bytes.items = rw c.deref.ensures.value at c.if-is_ascii.ensures.cases in
    (IsUtf8-from_ascii c.args.bytes.items ascii, sym (chars-IsAscii c.args.bytes.items ascii))
