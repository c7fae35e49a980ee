use Rattle.std.proofs.Common.{rules, ◌<◌, length, refl, sym, ap, ◌∙◌}
use Rattle.std.specs.Prelude.{unwrap_or}
use Rattle.std.proofs.lemmas.Option.{slice_get_read}
use Rattle.opt_rows.specs.OperationRows.{Row}
use Rattle.opt_rows.proofs.OperationLists.{row_stands}
use Rattle.opt_rows.proofs.operation_rows.OperationRows.block.Goals as goal

pub index-requires : goal.index-requires
index-requires c =
    let h = (row_stands c.args.self.now c.self.inside.columns c.args.number c.self.view_is c.requires).0 in
    let l : c.args.number < length c.self.inside.columns.blocks.items = h in search rules

pub returns : goal.returns
returns c =
    let e = row_stands c.args.self.now c.self.inside.columns c.args.number c.self.view_is c.requires in
    let h = e.0 in
    let l : c.args.number < length c.self.inside.columns.blocks.items = h in
    sym (ap (λ (x : Row). x.block) e.1 ∙ ap (λ o. unwrap_or o 0) (slice_get_read c.self.inside.columns.blocks.items (length c.self.inside.columns.blocks.items) c.args.number c.index.result.now refl l c.index.ensures))
