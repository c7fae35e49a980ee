use Rattle.std.proofs.Common.{sym, ◌∙◌}
use Rattle.ir_characters.specs.Texts.{codes_of}
use Rattle.ir_formats.proofs.Spelled.{number_here}
use Rattle.ir_formats.proofs.words.has_number.Goals as goal

pub returns-in-Some : goal.returns-in-Some
returns-in-Some c same = number_here c.args.known.now.keys c.args.number c.in-Some.found.now (codes_of c.args.text) c.len.ensures.unique (sym c.in-Some.ensures.key) (sym c.eq.ensures ∙ same)
