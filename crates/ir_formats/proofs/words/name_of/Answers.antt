use Rattle.std.proofs.Common.{◌∙◌, ap, map}
use Rattle.ir_characters.specs.Texts.{codes_of}
use Rattle.ir_formats.proofs.Spelled.{number_is, new_is, added_is}
use Rattle.ir_formats.proofs.words.name_of.Goals as goal

pub returns-clause-number : goal.returns-clause-number
returns-clause-number c = c.in_ok-insert_full.ensures.index ∙ number_is c.args.known.now.keys (codes_of c.args.text)

pub returns-clause-known : goal.returns-clause-known
returns-clause-known c = ap (map codes_of) c.in_ok-insert_full.ensures.keys ∙ added_is c.args.known.now.keys c.args.text

pub returns-clause-is_new : goal.returns-clause-is_new
returns-clause-is_new c = c.in_ok-insert_full.ensures.added ∙ new_is c.args.known.now.keys (codes_of c.args.text)
