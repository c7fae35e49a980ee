use Rattle.std.proofs.Common.{rules, ◌≡◌, ◌<◌, ◌+◌, ◌^◌, get_or, length, ap, arith}
use Rattle.std.proofs.Math.ListN.{set}
use Rattle.std.proofs.lemmas.List.Elements.{Contains-get_or}
use Rattle.opt_solvers.proofs.DeadCounting.{read_any, item_counted, item_fits}
use Rattle.opt_solvers.proofs.dead_uses.count_items.Goals as goal

pub index_mut-requires : goal.index_mut-requires
index_mut-requires c =
    let h = c.requires.within (get_or c.args.items.now c.loop-item.item-index 0) (Contains-get_or c.args.items.now c.loop-item.item-index 0 c.loop-item-test.true) in
    let l = c.loop-item.invariant.len in
    let k : get_or c.args.items.now c.loop-item.item-index 0 < length c.loop-item.uses.items = omega (arith, h, l) in search rules

pub overflow_add-index_mut : goal.overflow_add-index_mut
overflow_add-index_mut c =
    let x = get_or c.args.items.now c.loop-item.item-index 0 in
    let h = c.requires.within x (Contains-get_or c.args.items.now c.loop-item.item-index 0 c.loop-item-test.true) in
    let l = c.loop-item.invariant.len in
    let f = item_fits (2 ^ 64) c.args.uses.now.items c.loop-item.uses.items c.args.items.now c.loop-item.item-index x c.loop-item-test.true (search rules) (c.requires.fits x) c.loop-item.invariant in
    let e : c.index_mut.result.now ≡ get_or c.loop-item.uses.items x 0 = read_any c.loop-item.uses.items x c.index_mut.result.now (omega (arith, h, l)) c.index_mut.ensures.value in omega (arith, f, e)

pub loop-item-preserved : goal.loop-item-preserved
loop-item-preserved c =
    let x = get_or c.args.items.now c.loop-item.item-index 0 in
    let h = c.requires.within x (Contains-get_or c.args.items.now c.loop-item.item-index 0 c.loop-item-test.true) in
    let l = c.loop-item.invariant.len in
    let e : c.index_mut.result.now ≡ get_or c.loop-item.uses.items x 0 = read_any c.loop-item.uses.items x c.index_mut.result.now (omega (arith, h, l)) c.index_mut.ensures.value in
    item_counted c.args.uses.now.items c.loop-item.uses.items _ c.args.items.now c.loop-item.item-index x c.loop-item-test.true (search rules) (omega (arith, h, l)) (ap (λ n. set c.loop-item.uses.items x (n + 1)) e) c.loop-item.invariant
