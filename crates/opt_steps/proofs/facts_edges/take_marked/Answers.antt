use Rattle.std.proofs.Common.{◌≡◌, ◌<◌, None, Some, get_or, length, sym, ap, ◌∙◌, subst, arith, rules}
use Rattle.std.specs.Prelude.{slice_get}
use Rattle.std.proofs.lemmas.Option.{slice_get-get_or, same_Some}
use Rattle.opt_rows.specs.OperationRows.{row_numbered, edge_numbered}
use Rattle.opt_steps.specs.FactsEdges.{TakesEdge}
use Rattle.opt_rows.proofs.OperationLists.{edge_there}
use Rattle.opt_steps.proofs.FactsEdging.{no_edges, edge_more, edge_same, edges_all, target_below, marked_same, marked_other}
use Rattle.opt_steps.proofs.facts_edges.take_marked.Goals as goal
use Rattle.opt_steps.proofs.facts_edges.take_marked.Goals.{then-eq+then-not-is_taken+in_ok-take_edge, else-eq, else-eq-via-then-eq+else-not-is_taken, else-eq-via-else-eq}

pub loop-index-init : goal.loop-index-init
loop-index-init g c = no_edges _ _ _ _ _ _

pub offset_bounds-marks-target : goal.offset_bounds-marks-target
offset_bounds-marks-target g c =
    let l : c.loop-index.index < length (row_numbered c.args.problem.now.rows c.args.number).edges = omega (arith, c.loop-index-test.true, c.edge_count-index-end.ensures) in
    let h : c.target-target.result < length c.args.marks.now = subst (λ n. c.target-target.result < n) (sym c.requires.marks) (target_below c.args.problem.now c.args.number c.loop-index.index c.target-target.result c.requires.problem c.requires.in_range l c.target-target.ensures) in search rules

pub bounds-marks-target : goal.bounds-marks-target
bounds-marks-target g c =
    let l : c.loop-index.index < length (row_numbered c.args.problem.now.rows c.args.number).edges = omega (arith, c.loop-index-test.true, c.edge_count-index-end.ensures) in
    subst (λ n. c.target-target.result < n) (sym c.requires.marks) (target_below c.args.problem.now c.args.number c.loop-index.index c.target-target.result c.requires.problem c.requires.in_range l c.target-target.ensures)

pub take_edge-requires-clause-blocks : goal.take_edge-requires-clause-blocks
take_edge-requires-clause-blocks g c = c.loop-index.invariant.steps.blocks_len ∙ c.requires.blocks

pub take_edge-requires-clause-values : goal.take_edge-requires-clause-values
take_edge-requires-clause-values g c = c.loop-index.invariant.steps.values_len ∙ c.requires.values

pub is_taken-requires-clause-row : goal.is_taken-requires-clause-row
is_taken-requires-clause-row g c = subst (λ n. c.args.number < n) (sym c.loop-index.invariant.len) c.requires.taken

pub is_taken-requires-clause-edge : goal.is_taken-requires-clause-edge
is_taken-requires-clause-edge g c =
    let l : c.loop-index.index < length (row_numbered c.args.problem.now.rows c.args.number).edges = omega (arith, c.loop-index-test.true, c.edge_count-index-end.ensures) in
    subst (λ n. c.loop-index.index < n) (sym (c.loop-index.invariant.edges_len ∙ c.requires.edges)) l

pub take-requires-clause-row : goal.take-requires-clause-row
take-requires-clause-row g c = subst (λ n. c.args.number < n) (sym c.loop-index.invariant.len) c.requires.taken

pub take-requires-clause-edge : goal.take-requires-clause-edge
take-requires-clause-edge g c =
    let l : c.loop-index.index < length (row_numbered c.args.problem.now.rows c.args.number).edges = omega (arith, c.loop-index-test.true, c.edge_count-index-end.ensures) in
    subst (λ n. c.loop-index.index < n) (sym (c.loop-index.invariant.edges_len ∙ c.requires.edges)) l

pub loop-index-preserved : goal.loop-index-preserved
loop-index-preserved g c =
    let r = row_numbered c.args.problem.now.rows c.args.number in
    let l : c.loop-index.index < length r.edges = omega (arith, c.loop-index-test.true, c.edge_count-index-end.ensures) in
    let e = edge_numbered r.edges c.loop-index.index in
    let q = edge_there r.edges c.loop-index.index l in
    let k : c.target-target.result < length c.args.marks.now = subst (λ n. c.target-target.result < n) (sym c.requires.marks) (target_below c.args.problem.now c.args.number c.loop-index.index c.target-target.result c.requires.problem c.requires.in_range l c.target-target.ensures) in
    let x = get_or c.args.marks.now c.target-target.result None in
    let f : slice_get c.args.marks.now e.target ≡ Some x = ap (slice_get c.args.marks.now) (sym c.target-target.ensures) ∙ slice_get-get_or c.args.marks.now c.target-target.result None k in
    let w = subst (λ n. c.args.number < n) (sym c.loop-index.invariant.len) c.requires.taken in
    let h = subst (λ n. c.loop-index.index < n) (sym (c.loop-index.invariant.edges_len ∙ c.requires.edges)) l in
    elim c.if-eq.branch [
      | then-eq+then-not-is_taken+in_ok-take_edge v ↦ edge_more c.args.problem.now c.args.number r c.args.marks.now c.loop-index.index e c.args.taken.now c.loop-index.taken c.if-eq.taken c.args.found.now c.loop-index.found c.if-eq.found
          q (f ∙ ap (λ y. Some y) (marked_same x c.args.number (sym c.eq.ensures ∙ v.if-eq.true))) w h (v.taken-is ∙ v.take.ensures) c.loop-index.invariant (subst (TakesEdge c.args.problem.now r e c.loop-index.found) (sym v.found-is) v.in_ok-take_edge.ensures)
      | else-eq v ↦ edge_same c.args.problem.now c.args.number r c.args.marks.now c.loop-index.index e c.args.taken.now c.loop-index.taken c.if-eq.taken c.args.found.now c.loop-index.found c.if-eq.found
          q (elim v.else-eq.branch [
            | else-eq-via-then-eq+else-not-is_taken u ↦ λ m. u.is_taken.ensures ∙ ap (λ y. Some y) u.if-not-is_taken.false
            | else-eq-via-else-eq u ↦ λ m. absurd (marked_other x c.args.number (sym c.eq.ensures ∙ u.if-eq.false) (same_Some x (Some c.args.number) (sym f ∙ m)))
          ]) v.taken-is v.found-is c.loop-index.invariant
    ]

pub returns : goal.returns
returns g c = edges_all c.args.problem.now c.args.number (row_numbered c.args.problem.now.rows c.args.number) c.args.marks.now c.loop-index.index c.args.taken.now c.loop-index.taken c.args.found.now c.loop-index.found (omega (arith, c.loop-index-test.false, c.edge_count-index-end.ensures)) c.loop-index.invariant
