use Rattle.std.proofs.Common.{◌≡◌, [], ◌∷◌, ◌++◌, length, take, refl, sym, ap, ◌∙◌}
use Rattle.std.proofs.lemmas.List.{take_all, take_more}
use Rattle.std.proofs.lemmas.Option.{slice_get_read}
use Rattle.opt_inside.proofs.Lookups.{added, next_new}
use Rattle.opt_inside.proofs.sets.set_of.Goals as goal

pub loop-item-preserved : goal.loop-item-preserved
loop-item-preserved g c =
    let at = slice_get_read c.args.items.now (length c.args.items.now) c.loop-item.item-index c.item-item.result refl c.loop-item-test.true c.item-item.is in
    let new = next_new c.loop-item.set.keys c.args.items.now c.loop-item.item-index c.item-item.result c.loop-item.invariant c.requires.once at in
    let put : c.insert.new.self.keys ≡ c.loop-item.set.keys ++ c.item-item.result ∷ [] = added g.T.PartialEq.eq c.requires.same c.loop-item.set.keys c.insert.new.self.keys c.item-item.result new c.in_ok-insert.ensures.keys in
    let more = take_more c.args.items.now c.loop-item.item-index c.item-item.result c.loop-item-test.true in
    put ∙ ap (λ l. l ++ c.item-item.result ∷ []) c.loop-item.invariant ∙ ap (λ x. take c.loop-item.item-index c.args.items.now ++ x ∷ []) c.item-item.is ∙ sym more

pub returns : goal.returns
returns g c = c.loop-item.invariant ∙ take_all c.loop-item.item-index c.args.items.now c.loop-item-test.false
