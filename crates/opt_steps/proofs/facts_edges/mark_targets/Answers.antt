use Rattle.std.proofs.Common.{ℕ, ◌<◌, Some, Option, length, sym, ap, ◌∙◌, subst, arith, rules}
use Rattle.std.proofs.Math.ListN.{set}
use Rattle.std.specs.declared.vec.Vec.{Vec}
use Rattle.std.specs.declared.alloc.Global.{Global}
use Rattle.opt_rows.specs.OperationRows.{row_numbered, edge_numbered}
use Rattle.opt_rows.proofs.OperationLists.{edge_there, edge_contained}
use Rattle.opt_steps.proofs.FactsEdging.{marks_none, mark_more, mark_same, marks_all}
use Rattle.opt_steps.proofs.facts_edges.mark_targets.Goals as goal
use Rattle.opt_steps.proofs.facts_edges.mark_targets.Goals.{then-is_feasible, else-is_feasible}

pub loop-index-init : goal.loop-index-init
loop-index-init g c = marks_none _ _ _ _ _

pub index_mut-requires : goal.index_mut-requires
index_mut-requires g c =
    let es = (row_numbered c.args.problem.now.rows c.args.number).edges in
    let h : c.loop-index.index < length es = omega (arith, c.loop-index-test.true, c.edge_count-index-end.ensures) in
    let e = edge_numbered es c.loop-index.index in
    let k : c.target.result < length c.loop-index.marks.items = subst (λ n. n < length c.loop-index.marks.items) (sym c.target.ensures) (subst (λ n. e.target < n) (sym c.loop-index.invariant.len) (c.requires.targets e (edge_contained es c.loop-index.index h))) in search rules

pub loop-index-preserved : goal.loop-index-preserved
loop-index-preserved g c =
    let es = (row_numbered c.args.problem.now.rows c.args.number).edges in
    let h : c.loop-index.index < length es = omega (arith, c.loop-index-test.true, c.edge_count-index-end.ensures) in
    let e = edge_numbered es c.loop-index.index in
    let k : e.target < length c.loop-index.marks.items = subst (λ n. e.target < n) (sym c.loop-index.invariant.len) (c.requires.targets e (edge_contained es c.loop-index.index h)) in
    let q = edge_there es c.loop-index.index h in
    let items : Vec (Option ℕ) Global → _ = λ v. v.items in
    elim c.if-is_feasible.branch [
      | then-is_feasible w ↦ mark_more _ _ _ _ c.loop-index.index e c.args.marks.now.items c.loop-index.marks.items _ q (sym c.is_feasible.ensures ∙ w.if-is_feasible.true) k
          (ap items w.marks-is ∙ ap (λ n. set c.loop-index.marks.items n (Some c.args.number)) w.target.ensures) c.loop-index.invariant
      | else-is_feasible w ↦ mark_same _ _ _ _ c.loop-index.index e c.args.marks.now.items c.loop-index.marks.items _ q (sym c.is_feasible.ensures ∙ w.if-is_feasible.false) (ap items w.marks-is) c.loop-index.invariant
    ]

pub returns : goal.returns
returns g c = marks_all _ _ _ _ c.loop-index.index c.args.marks.now.items c.loop-index.marks.items (omega (arith, c.loop-index-test.false, c.edge_count-index-end.ensures)) c.loop-index.invariant
