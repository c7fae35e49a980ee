use Rattle.std.proofs.Common.{rules, ◌<◌, ◌++◌, ◌∷◌, [], get_or, length, refl, sym, ap, ◌∙◌, subst, arith}
use Rattle.std.proofs.lemmas.List.{take_all}
use Rattle.digraph.specs.Transpose.{AddsSource}
use Rattle.digraph.proofs.Searching.{successors_at}
use Rattle.digraph.proofs.Reversing.{no_source, source_next}
use Rattle.digraph.proofs.transpose.add_source.Goals as goal

pub loop-successor-preserved : goal.loop-successor-preserved
loop-successor-preserved c =
    let s = get_or c.args.row.now c.loop-successor.successor-index 0 in
    let l = c.requires c.loop-successor.successor-index 0 c.loop-successor-test.true in
    let m : s < length c.loop-successor.reverse.items = omega (arith, l, c.loop-successor.invariant.len) in
    source_next c.args.reverse.now.items c.loop-successor.reverse.items _ c.args.node c.args.row.now c.loop-successor.successor-index s c.push.new.self c.loop-successor-test.true (search rules) m
    (c.in_ok-push.ensures.items ∙ ap (λ xs. xs ++ c.args.node ∷ []) (sym (successors_at c.loop-successor.reverse.items s c.index_mut.result.now m (search rules)))) refl c.loop-successor.invariant

pub loop-successor-init : goal.loop-successor-init
loop-successor-init c = no_source c.args.reverse.now.items c.args.node

pub index_mut-requires : goal.index_mut-requires
index_mut-requires c =
    let within = c.requires c.loop-successor.successor-index 0 c.loop-successor-test.true in
    omega (arith, within, c.loop-successor.invariant.len, c.loop-successor.reverse.ok.0)

pub returns : goal.returns
returns c =
    subst (λ ns. AddsSource c.args.reverse.now.items c.loop-successor.reverse.items c.args.node ns)
    (take_all c.loop-successor.successor-index c.args.row.now c.loop-successor-test.false)
    c.loop-successor.invariant
