use Rattle.std.proofs.Common.{◌≡◌, map}
use Rattle.std.specs.Prelude.{option_map}
use Rattle.ir_names.specs.Identifier.{text_of}
use Rattle.builtin_ops.specs.Names.{no_names}
use Rattle.builtin_ops.proofs.name_lists.blank_names.Given as goal

abbrev pub invariant-loop-i : goal.invariant-loop-i
invariant-loop-i l = map (option_map text_of) l.names.items ≡ no_names l._i
