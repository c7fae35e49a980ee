use Rattle.std.proofs.Common.{take}
use Rattle.digraph.specs.Transpose.{AddsSource}
use Rattle.digraph.proofs.transpose.add_source.Given as goal

abbrev pub invariant-loop-successor : goal.invariant-loop-successor
invariant-loop-successor l = AddsSource l.initial.reverse.items l.reverse.items l.node (take l.successor-index l.row)
