use Rattle.std.proofs.Common.{◌<◌, ◌++◌, ◌∷◌, [], length, refl, sym, ap, subst, ◌∙◌, ⊎_elim, arith, rules}
use Rattle.std.proofs.Math.ListN.{set}
use Rattle.digraph.proofs.Reversing.{no_source, source_next}
use Rattle.digraph.proofs.Searching.{successors_at}
use Rattle.edge_graphs.proofs.edges.add_edge.Goals as goal

pub returns : goal.returns
returns c = λ a b h.
    let rows = c.args.rows.now.items in
    let grown = set rows c.args.from c.push.new.self in
    let s = source_next rows rows grown c.args.to (c.args.from ∷ []) 0 c.args.from c.push.new.self (omega arith) refl c.requires.from
    (c.in_ok-push.ensures.items ∙ ap (λ xs. xs ++ c.args.to ∷ []) (sym (successors_at rows c.args.from c.index_mut.result.now c.requires.from (search rules)))) refl (no_source rows c.args.to) in
    let l = s.len in
    let t = c.requires.to in
    ⊎_elim (λ o. let r = c.requires.rows a b o in omega (arith, r, l)) (λ e. let q = e.0 in omega (arith, q, l, t)) (s.only b a h)
