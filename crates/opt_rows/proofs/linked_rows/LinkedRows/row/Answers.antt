use Rattle.std.proofs.Common.{rules, ◌≤◌, ◌<◌, List, length, sym, ap, ◌∙◌, subst}
use Rattle.opt_rows.specs.declared.linked_rows.Linked.{Linked}
use Rattle.opt_rows.specs.Rows.{row_at}
use Rattle.opt_rows.specs.LinkedRows.{items_from, LeadBack}
use Rattle.opt_rows.proofs.Linking.{first_there, first_inside, row_items}
use Rattle.opt_rows.proofs.linked_rows.LinkedRows.row.Goals as goal

pub index-requires : goal.index-requires
index-requires g c =
    let i = c.self.inside in
    let h : c.args.index < length i.firsts.items = first_there i.links.items i.firsts.items c.args.self.now c.args.index c.self.view_is c.requires in search rules

pub invariant_of-result : goal.invariant_of-result
invariant_of-result g c =
    let i = c.self.inside in
    let h = first_there i.links.items i.firsts.items c.args.self.now c.args.index c.self.view_is c.requires in
    let e = sym c.deref.ensures.value in (
      subst (λ (ls : List (Linked g.row.X.Denot)). LeadBack ls) e c.self.invariant.back,
      subst (λ (ls : List (Linked g.row.X.Denot)). c.index.result.now ≤ length ls) e (first_inside i.links.items i.firsts.items c.args.index c.index.result.now c.self.invariant h c.index.ensures),
    )

pub returns : goal.returns
returns g c =
    let i = c.self.inside in
    let h = first_there i.links.items i.firsts.items c.args.self.now c.args.index c.self.view_is c.requires in
    ap (λ (ls : List (Linked g.row.X.Denot)). items_from ls c.index.result.now) c.deref.ensures.value
    ∙ (row_items i.links.items i.firsts.items c.args.index c.index.result.now h c.index.ensures
    ∙ ap (λ (rs : List (List g.row.X.Denot)). row_at rs c.args.index) c.self.view_is)
