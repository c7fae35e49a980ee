use Rattle.std.proofs.lemmas.List.{map-set}
use Rattle.std.specs.Prelude.{option_map}
use Rattle.ir_names.specs.Identifier.{text_of}
use Rattle.builtin_ops.proofs.name_lists.with_name.Goals as goal

pub returns : goal.returns
returns c = map-set (option_map text_of) c.args.names.items c.args.i c.args.name
