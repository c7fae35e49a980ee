use Rattle.std.proofs.Common.{rules, ◌≡◌, ◌<◌, ◌∷◌, List, length, map, sym, ap, ◌∙◌, subst}
use Rattle.std.proofs.Math.ListN.{set}
use Rattle.opt_rows.specs.declared.linked_rows.Linked.{Linked}
use Rattle.opt_rows.specs.Rows.{row_at}
use Rattle.opt_rows.specs.LinkedRows.{items_from, AreLinked}
use Rattle.opt_rows.proofs.Linking.{first_there, item_put, item_linked}
use Rattle.opt_rows.proofs.linked_rows.LinkedRows.put.Goals as goal

pub index-next-requires : goal.index-next-requires
index-next-requires g c =
    let i = c.self.inside in
    let h : c.args.index < length i.firsts.items = first_there i.links.items i.firsts.items c.args.self.now c.args.index c.self.view_is c.requires in search rules

pub invariant_of-self : goal.invariant_of-self
invariant_of-self g c = subst (λ (ls : List (Linked g.row.X.Denot)). AreLinked ls c.self.inside.firsts.items) (sym c.in_err-push.ensures.items) c.self.invariant

pub returns-in_err-push-clause-err : goal.returns-in_err-push-clause-err
returns-in_err-push-clause-err g c =
    let i = c.self.inside in
    let e : map (items_from c.push.new.self.items) i.firsts.items ≡ c.args.self.now = ap (λ (ls : List (Linked g.row.X.Denot)). map (items_from ls) i.firsts.items) c.in_err-push.ensures.items ∙ c.self.view_is in search rules

pub index_mut-requires : goal.index_mut-requires
index_mut-requires g c =
    let i = c.self.inside in
    let h : c.args.index < length i.firsts.items = first_there i.links.items i.firsts.items c.args.self.now c.args.index c.self.view_is c.requires in search rules

pub invariant_of-self-2 : goal.invariant_of-self-2
invariant_of-self-2 g c =
    let i = c.self.inside in
    let h = first_there i.links.items i.firsts.items c.args.self.now c.args.index c.self.view_is c.requires in
    let m : c.len.result ≡ length c.push.new.self.items = search rules in
    item_linked i.links.items c.push.new.self.items i.firsts.items c.args.index c.index-next.result.now c.len.result c.args.item c.self.invariant h c.index-next.ensures c.in_ok-push.ensures.items m

pub returns-clause-ok : goal.returns-clause-ok
returns-clause-ok g c =
    let i = c.self.inside in
    let h = first_there i.links.items i.firsts.items c.args.self.now c.args.index c.self.view_is c.requires in
    let m : c.len.result ≡ length c.push.new.self.items = search rules in
    item_put i.links.items c.push.new.self.items i.firsts.items c.args.index c.index-next.result.now c.len.result c.args.item c.self.invariant h c.index-next.ensures c.in_ok-push.ensures.items m
    ∙ ap (λ (rs : List (List g.row.X.Denot)). set rs c.args.index (c.args.item ∷ row_at rs c.args.index)) c.self.view_is
