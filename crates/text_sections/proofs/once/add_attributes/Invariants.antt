use Rattle.std.proofs.Common.{◌≡◌, drop}
use Rattle.ir_outlines.specs.Section.{once_in, with_distinct}
use Rattle.outline_tables.specs.Tables.{found_under}
use Rattle.text_sections.specs.Items.{attributes_in, sharing}
use Rattle.text_sections.proofs.once.add_attributes.Given as goal

-- with those that are left all are put in
abbrev pub invariant-loop-attribute : goal.invariant-loop-attribute
invariant-loop-attribute g l =
    with_distinct (sharing g.A.PrintOnce.is_once g.A.PartialEq.eq) (attributes_in l.once.keys) (once_in (sharing g.A.PrintOnce.is_once g.A.PartialEq.eq) (found_under (drop l.attribute-index l.attributes)))
    ≡ with_distinct (sharing g.A.PrintOnce.is_once g.A.PartialEq.eq) (attributes_in l.fn.once.keys) (once_in (sharing g.A.PrintOnce.is_once g.A.PartialEq.eq) (found_under l.attributes))
