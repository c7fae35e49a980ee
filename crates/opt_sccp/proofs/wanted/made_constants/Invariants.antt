-- The values before the index are gone over.
use Rattle.std.proofs.Common.{take}
use Rattle.ir_trees.specs.Stands.{by_handle}
use Rattle.opt_inside.specs.facts.ByNumber.{AreFactsBy}
use Rattle.opt_inside.specs.Numbered.{numbers_of}
use Rattle.opt_trees.specs.Facts.{Facts}
use Rattle.opt_sccp.specs.Wanted.{AreMade}
use Rattle.opt_sccp.proofs.wanted.made_constants.Given as goal

abbrev pub invariant-loop-number : goal.invariant-loop-number
invariant-loop-number g l = (k : Facts by_handle g.row.D-Constant.Denot) → AreFactsBy (numbers_of l.inside) l.facts.runs.items l.facts.known.items k → AreMade g.D.Meanings.meaning l.program k (take l.number l.inside.values.keys) l.made.items
