use Rattle.std.proofs.Common.{ap, ◌∙◌, map}
use Rattle.std.specs.Prelude.{option_map}
use Rattle.ir_names.specs.Identifier.{text_of}
use Rattle.builtin_ops.proofs.NameLemmas.{map-remove}
use Rattle.builtin_ops.proofs.name_lists.without_name.Goals as goal

pub returns : goal.returns
returns c = ap (map (option_map text_of)) c.remove.ensures.items ∙ map-remove (option_map text_of) c.args.names.items c.args.i
