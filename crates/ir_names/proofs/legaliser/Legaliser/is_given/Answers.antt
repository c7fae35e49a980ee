use Rattle.std.proofs.Common.{◌∙◌, sym}
use Rattle.ir_names.specs.Identifier.{text_of}
use Rattle.ir_names.proofs.Legalised.{taken_among}
use Rattle.ir_names.proofs.legaliser.Legaliser.is_given.Goals as goal

pub returns : goal.returns
returns c = rw (← c.self.view_is) (c.contains.ensures ∙ sym (taken_among c.self.inside.sources.keys c.self.inside.names.keys c.self.invariant.0 (text_of c.args.name.now)))
