use Rattle.std.proofs.Common.{◌≡◌, ◌++◌, ◌≤◌, drop}
use Rattle.ir_outlines.specs.Marks.{marks_from, marks_of}
use Rattle.text_sections.specs.Items.{said_items}
use Rattle.text_sections.proofs.marks.marks_of.Given as goal

-- with those of the items that are left all marks are there
abbrev pub invariant-loop-item : goal.invariant-loop-item
invariant-loop-item g l = (l.marks.items ++ marks_from l.next (said_items (drop l.item-index l.items)) ≡ marks_of (said_items l.items)) × (l.next ≤ l.item-index)
