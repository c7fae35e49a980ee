use Rattle.std.proofs.Common.{refl, chars}
use Rattle.text_writers.proofs.QuoteLemmas.{written-in_quotes}
use Rattle.text_writers.proofs.quotes.QuotedTextPrintable.fmt.Goals as goal

pub returns-clause-text : goal.returns-clause-text
returns-clause-text g c = (
  _,
  refl,
  written-in_quotes (g.W.TextWriter.written c.args.out.now) (g.W.TextWriter.written c.loop-character.out) (g.W.TextWriter.written c.write_character-2.new.self)
      (chars c.loop-character.rest.now) (chars c.args.self.now.text.now) c.in_default.ensures c.loop-character.invariant.1 c.in_ok-write_character-2.ensures,
)
