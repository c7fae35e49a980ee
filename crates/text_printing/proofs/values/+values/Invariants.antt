use Rattle.std.proofs.Common.{◌+◌, ◌*◌, drop}
use Rattle.std.specs.String.{string_bytes}
use Rattle.std.specs.Str.{trim}
use Rattle.ir_print.specs.Formats.{list_of, steps_of}
use Rattle.text_printing.specs.Printing.{before_of}
use Rattle.text_printing.proofs.ListOwed.{ShowsGoodMembers, members_left}
use Rattle.text_printing.proofs.Owed.{Owed}
use Rattle.text_printing.proofs.ValuesOwed.{FormatOwed}
use Rattle.text_printing.proofs.values.+values.Given as goal

abbrev pub decreases-print_type : goal.decreases-print_type
decreases-print_type g l = 256 * l.left

abbrev pub decreases-print_attribute : goal.decreases-print_attribute
decreases-print_attribute g l = 256 * l.left

abbrev pub decreases-print_parts : goal.decreases-print_parts
decreases-print_parts g l = 256 * l.left + (3 * l.lists + 2)

abbrev pub decreases-print_part : goal.decreases-print_part
decreases-print_part g l = 256 * l.left + (3 * l.lists + 1)

abbrev pub decreases-print_choice : goal.decreases-print_choice
decreases-print_choice g l = 256 * l.left + (3 * l.lists + 3)

abbrev pub decreases-print_list : goal.decreases-print_list
decreases-print_list g l = 256 * l.left + (3 * l.lists + 3)

abbrev pub invariant-print_list-loop-parts : goal.invariant-print_list-loop-parts
invariant-print_list-loop-parts g l =
    Owed (ShowsGoodMembers g.D.TextDialect.says l.ctx.types.keys l.left l.lists) (members_left g.D.TextDialect.formats (list_of (steps_of l.member) l.separator (trim l.separator)))
    l.members (drop l.parts-index l.members) l.is_first (string_bytes l.initial.out) (string_bytes l.out)

abbrev pub invariant-print_parts-loop-directive : goal.invariant-print_parts-loop-directive
invariant-print_parts-loop-directive g l =
    FormatOwed g.D.TextDialect.says l.ctx.types.keys g.D.TextDialect.formats l.left l.lists l.parts (drop l.next l.parts) l.format (drop l.directive-index l.format)
    (before_of l.fn.from) (before_of l.before) (string_bytes l.fn.out) (string_bytes l.out)
