use Rattle.std.proofs.Common.{◌≡◌, ◌++◌, take}
use Rattle.opt_rows.proofs.edge_list.EdgeList.append.Given as goal

abbrev pub invariant-loop-index : goal.invariant-loop-index
invariant-loop-index l = l.self ≡ l.initial.self ++ take l.index l.more
