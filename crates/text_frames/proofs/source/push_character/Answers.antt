use Rattle.std.proofs.Common.{rules}
use Rattle.std.proofs.lemmas.Str.{IsUtf8-string_bytes}
use Rattle.text_frames.proofs.Quotes.{pushed_where_ok}
use Rattle.text_frames.proofs.source.push_character.Goals as goal

pub returns : goal.returns
returns c = pushed_where_ok c.push.result _ _ c.args.c (IsUtf8-string_bytes c.args.text.now) (search rules) c.push.ensures.bytes
