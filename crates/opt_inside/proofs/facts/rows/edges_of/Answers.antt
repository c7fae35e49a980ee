use Rattle.std.proofs.Common.{ℕ, List, [], ◌∷◌, ◌++◌, ap, ◌∙◌, arith}
use Rattle.opt_inside.specs.Numbered.{numbers_of}
use Rattle.opt_inside.specs.facts.Problem.{IsEdge, branches_to}
use Rattle.opt_inside.proofs.FactsLemmas.Lists.{paired_none, paired_next, paired_all}
use Rattle.opt_inside.proofs.FactsLemmas.Edges.{edge_within, edge_there, edge_is}
use Rattle.opt_inside.proofs.facts.rows.edges_of.Goals as goal

pub successor-requires : goal.successor-requires
successor-requires g c = edge_within g.D.Meanings.meaning c.args.program.now (numbers_of c.args.inside.now) c.args.op c.requires c.loop-i.i c.edge_count-i-end.result c.edge_count-i-end.ensures c.loop-i-test.true

pub loop-i-init : goal.loop-i-init
loop-i-init g c = λ o there. paired_none (IsEdge {B = g.row.D-Block.Denot} g.D.Meanings.meaning (numbers_of c.args.inside.now) o) _ _ c.clear.ensures

pub loop-i-preserved : goal.loop-i-preserved
loop-i-preserved g c = λ o there.
    let d = g.D.Meanings.meaning in
    let n = numbers_of c.args.inside.now in
    paired_next (IsEdge {B = g.row.D-Block.Denot} d n o) (branches_to {B = g.row.D-Block.Denot} d o) c.loop-i.edges c.push.new.self c.loop-i.i c.successor.result
    (record { target = c.number_of_block-target.result; forwards = c.in_ok-forwards.forwards.items })
    (edge_there d c.args.program.now n c.args.op o there c.loop-i.i c.edge_count-i-end.result c.edge_count-i-end.ensures c.loop-i-test.true c.successor.result c.successor.ensures.exact)
    (edge_is d c.args.program.now n c.args.op o there c.loop-i.i c.successor.result _ c.number_of_block-target.ensures c.in_ok-forwards.ensures)
    (c.in_ok-push.ensures.ok ∙ ap (λ (fs : List ℕ). c.loop-i.edges ++ (record { target = c.number_of_block-target.result; forwards = fs }) ∷ []) c.deref.ensures.value) (c.loop-i.invariant o there)

pub returns : goal.returns
returns g c = λ o there.
    let d = g.D.Meanings.meaning in
    let n = numbers_of c.args.inside.now in
    paired_all (IsEdge {B = g.row.D-Block.Denot} d n o) (branches_to {B = g.row.D-Block.Denot} d o) c.loop-i.edges c.loop-i.i
    (let e = c.edge_count-i-end.ensures o there in let f = c.loop-i-test.false in omega (arith, e, f)) (c.loop-i.invariant o there)
