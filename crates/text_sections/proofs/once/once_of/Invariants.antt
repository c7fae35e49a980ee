use Rattle.std.proofs.Common.{◌≡◌, drop}
use Rattle.ir_outlines.specs.Marks.{marked}
use Rattle.ir_outlines.specs.Section.{once_of, with_distinct}
use Rattle.text_sections.specs.Items.{attributes_in, once_among, said_items, sharing}
use Rattle.text_sections.proofs.once.once_of.Given as goal

-- with those of the items that are left all are put in
abbrev pub invariant-loop-item : goal.invariant-loop-item
invariant-loop-item g l =
    with_distinct (sharing g.A.PrintOnce.is_once g.A.PartialEq.eq) (attributes_in l.once.keys)
    (once_among (sharing g.A.PrintOnce.is_once g.A.PartialEq.eq) (said_items (drop l.item-index l.items)))
    ≡ once_of (sharing g.A.PrintOnce.is_once g.A.PartialEq.eq) (marked (said_items l.items))
