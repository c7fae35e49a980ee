use Rattle.std.proofs.Common.{rules, ◌<◌, length, refl, sym, ap, ◌∙◌, arith}
use Rattle.std.specs.Prelude.{unwrap_or}
use Rattle.std.proofs.lemmas.Option.{slice_get_read}
use Rattle.opt_rows.specs.declared.facts_problem.Role.TheVariants.{Other}
use Rattle.opt_rows.specs.OperationRows.{Row}
use Rattle.opt_rows.proofs.OperationLists.{row_stands}
use Rattle.opt_rows.proofs.operation_rows.OperationRows.role.Goals as goal

pub index-requires : goal.index-requires
index-requires c =
    let h = (row_stands c.args.self.now c.self.inside.columns c.args.number c.self.view_is c.requires).0 in
    let l : c.args.number < length c.self.inside.columns.roles.items = (let m = c.self.invariant.roles in omega (arith, h, m)) in search rules

pub returns : goal.returns
returns c =
    let e = row_stands c.args.self.now c.self.inside.columns c.args.number c.self.view_is c.requires in
    let h = e.0 in
    let l : c.args.number < length c.self.inside.columns.roles.items = (let m = c.self.invariant.roles in omega (arith, h, m)) in
    sym (ap (λ (x : Row). x.role) e.1 ∙ ap (λ o. unwrap_or o Other) (slice_get_read c.self.inside.columns.roles.items (length c.self.inside.columns.roles.items) c.args.number c.index.result.now refl l c.index.ensures))
