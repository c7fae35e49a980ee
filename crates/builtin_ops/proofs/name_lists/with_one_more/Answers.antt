use Rattle.std.proofs.Common.{ap, ◌∙◌, map}
use Rattle.std.specs.Prelude.{option_map}
use Rattle.ir_names.specs.Identifier.{text_of}
use Rattle.builtin_ops.proofs.NameLemmas.{map-insert}
use Rattle.builtin_ops.proofs.name_lists.with_one_more.Goals as goal

pub returns : goal.returns
returns c = ap (map (option_map text_of)) c.in_ok-insert.ensures.items ∙ map-insert (option_map text_of) c.args.names.items c.args.i c.args.name
