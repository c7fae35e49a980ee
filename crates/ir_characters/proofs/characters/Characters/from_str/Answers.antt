use Rattle.std.proofs.Common.{rules}
use Rattle.std.proofs.lemmas.Str.{chars-IsAscii, chars_from_encodes}
use Rattle.ir_characters.proofs.characters.Characters.from_str.Goals as goal

pub returns-then-is_ascii : goal.returns-then-is_ascii
returns-then-is_ascii c =
    let ascii = c.if-is_ascii.ensures.cases in
    search (rules, chars-IsAscii c.args.string.now)

pub returns : goal.returns
returns c = search (rules, chars_from_encodes)
