use Rattle.std.proofs.Common.{sym, ap, ◌∙◌, arith}
use Rattle.opt_rows.specs.OperationRows.{Row}
use Rattle.opt_rows.proofs.OperationLists.{row_stands}
use Rattle.opt_rows.proofs.operation_rows.OperationRows.results.Goals as goal

pub row-requires : goal.row-requires
row-requires c = let h = (row_stands c.args.self.now c.self.inside.columns c.args.number c.self.view_is c.requires).0 in let m = c.self.invariant.results in omega (arith, h, m)

pub returns : goal.returns
returns c = c.row.ensures ∙ sym (ap (λ (x : Row). x.results) (row_stands c.args.self.now c.self.inside.columns c.args.number c.self.view_is c.requires).1)
