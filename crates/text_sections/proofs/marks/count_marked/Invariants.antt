use Rattle.std.proofs.Common.{◌≡◌, ◌+◌, ◌≤◌, drop, length}
use Rattle.ir_outlines.specs.Marks.{marked}
use Rattle.text_sections.specs.Items.{said_items}
use Rattle.text_sections.proofs.marks.count_marked.Given as goal

-- with those among the items that are left all are counted
abbrev pub invariant-loop-item : goal.invariant-loop-item
invariant-loop-item g l = (l.count + length (marked (said_items (drop l.item-index l.items))) ≡ length (marked (said_items l.items))) × (l.count ≤ l.item-index)
