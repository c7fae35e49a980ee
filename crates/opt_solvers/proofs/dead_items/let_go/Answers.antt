use Rattle.std.proofs.Common.{◌≡◌, ◌+◌, ◌-◌, ◌≤◌, ◌<◌, suc, length, sym, ap, subst, ◌∙◌, arith}
use Rattle.std.specs.Prelude.{Contains}
use Rattle.std.proofs.lemmas.Result.{on_ok_weaker}
use Rattle.digraph.specs.Work.{Adds}
use Rattle.digraph.proofs.Marking.{none_added}
use Rattle.opt_rows.specs.Rows.{row_at}
use Rattle.opt_rows.specs.DeadCandidates.{operands_before}
use Rattle.opt_solvers.specs.DeadRows.{IsExcusedBy}
use Rattle.opt_steps.proofs.DeadLists.{none_in}
use Rattle.opt_steps.proofs.DeadPlacing.{before_rises, before_within}
use Rattle.opt_steps.proofs.DeadReleasing.{excused_as}
use Rattle.opt_solvers.proofs.DeadNoting.{operation_excuses, excused_operands, argument_excuses, excused_forwarded, forwarded_within, none_inside, inner_within}
use Rattle.opt_solvers.proofs.dead_items.let_go.Goals as goal

pub excuse_between-requires-clause-from : goal.excuse_between-requires-clause-from
excuse_between-requires-clause-from c =
    let p = c.args.problem.now in let x = c.args.item in
    let r = before_rises p x (let l = c.if-item-operations.true in let m = c.len-operations.ensures.len in omega (arith, l, m)) in
    let n : x + 1 ≡ suc x = omega arith in
    let f = c.operands_before-from.ensures in let t = c.operands_before-to.ensures ∙ ap (operands_before p.operations) n in omega (arith, r, f, t)

pub excuse_between-requires-clause-to : goal.excuse_between-requires-clause-to
excuse_between-requires-clause-to c =
    let w = before_within c.args.problem.now (c.args.item + 1) in let t = c.operands_before-to.ensures in let l = c.requires.tables.kept.len in omega (arith, w, t, l)

pub add_inside-requires : goal.add_inside-requires
add_inside-requires c i h =
    let w = inner_within c.args.problem.now c.args.tables.now.inner c.args.item i c.requires.tables.inner (subst (λ xs. Contains xs i) c.row.ensures h) in
    let e = c.in_ok-excuse_between.ensures in
    let m = e.counted.marks in let n = e.len in let l = c.requires.len in omega (arith, w, m, n, l)

pub excuse_row-requires-clause-places : goal.excuse_row-requires-clause-places
excuse_row-requires-clause-places c k h =
    let v = c.args.item - c.len-operations.result in
    let past : c.args.item ≡ length c.args.problem.now.operations + v = (let f = c.if-item-operations.false in let l = c.len-operations.ensures.len in omega (arith, f, l)) in
    let w = forwarded_within c.args.problem.now c.requires.problem c.args.tables.now.forwarded c.requires.tables.forwarded c.args.item v past k (subst (λ xs. Contains xs k) c.row-places.ensures h) in
    let l = c.requires.tables.kept.len in omega (arith, w, l)

pub returns-in_ok-excuse_between : goal.returns-in_ok-excuse_between
returns-in_ok-excuse_between c =
    let p = c.args.problem.now in let x = c.args.item in
    let h : x < length p.operations = (let l = c.if-item-operations.true in let m = c.len-operations.ensures.len in omega (arith, l, m)) in
    let n : x + 1 ≡ suc x = omega arith in
    let f = c.operands_before-from.ensures in let t = c.operands_before-to.ensures ∙ ap (operands_before p.operations) n in
    on_ok_weaker c.add_inside.result (λ a. record {
      between = c.excuse_between.new.counts.work;
      excuses = excused_as c.args.tables.now.keeps (λ k. (c.operands_before-from.result ≤ k) × (k < c.operands_before-to.result)) (IsExcusedBy p x)
          (λ k (g, u). operation_excuses p c.requires.problem x k h (omega (arith, f, g)) (omega (arith, t, u))) (λ k e. let r = excused_operands p c.requires.problem x k h e in (let g = r.0 in omega (arith, f, g), let u = r.1 in omega (arith, t, u)))
          c.args.counts.now.excused.items c.excuse_between.new.counts.excused.items c.args.counts.now.uses.items c.excuse_between.new.counts.uses.items c.args.counts.now.work c.excuse_between.new.counts.work c.in_ok-excuse_between.ensures;
      adds = subst (Adds c.excuse_between.new.counts.work c.add_inside.new.work) c.row.ensures a;
    }) c.add_inside.ensures

pub returns-else-item-operations : goal.returns-else-item-operations
returns-else-item-operations c =
    let p = c.args.problem.now in let x = c.args.item in let t = c.args.tables.now in
    let v = x - c.len-operations.result in
    let past : x ≡ length p.operations + v = (let f = c.if-item-operations.false in let l = c.len-operations.ensures.len in omega (arith, f, l)) in
    on_ok_weaker c.excuse_row.result (λ a. record {
      between = c.excuse_row.new.counts.work;
      excuses = excused_as t.keeps (λ k. Contains c.row-places.result k) (IsExcusedBy p x)
          (λ k h. argument_excuses p c.requires.problem t.forwarded c.requires.tables.forwarded x v past k (subst (λ xs. Contains xs k) c.row-places.ensures h))
          (λ k e. subst (λ xs. Contains xs k) (sym c.row-places.ensures) (excused_forwarded p c.requires.problem t.forwarded c.requires.tables.forwarded x v past k e))
          c.args.counts.now.excused.items c.excuse_row.new.counts.excused.items c.args.counts.now.uses.items c.excuse_row.new.counts.uses.items c.args.counts.now.work c.excuse_row.new.counts.work a;
      adds = none_added c.excuse_row.new.counts.work (row_at t.inner x) (λ n h. absurd (none_in n (subst (λ xs. Contains xs n) (none_inside p t.inner x c.requires.tables.inner (omega (arith, past))) h)));
    }) c.excuse_row.ensures
