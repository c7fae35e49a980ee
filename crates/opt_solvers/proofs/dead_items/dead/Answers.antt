use Rattle.std.proofs.Common.{◌≡◌, ◌∙◌, Bool, Vec, Global, length, ap, subst, refl}
use Rattle.std.proofs.lemmas.Result.{IfOk-weaker}
use Rattle.opt_solvers.specs.DeadItems.{AreMarked}
use Rattle.opt_solvers.proofs.DeadDying.{item_taken, dying_begins, dying_goes_on, dying_ends, are_dead}
use Rattle.opt_solvers.proofs.dead_items.dead.Goals as goal

pub loop-item-init : goal.loop-item-init
loop-item-init c =
    let first = c.in_ok-counts.ensures in
    let counts = c.in_ok-counts.counts in
    let are = c.in_ok-tables.ensures in (
      are,
      dying_begins c.args.problem.now c.in_ok-tables.tables c.requires are counts.excused.items counts.uses.items counts.work _ first.excused refl first.uses first.died,
    )

pub let_go-requires-clause-counts : goal.let_go-requires-clause-counts
let_go-requires-clause-counts c =
    let s = c.loop-item.invariant.1.counted in
    record { places = s.places; marks = ap (λ (m : Vec Bool Global). length m.items) c.in-Some.ensures.marked ∙ s.marks; within = s.within; enough = s.enough }

pub let_go-requires-clause-item : goal.let_go-requires-clause-item
let_go-requires-clause-item c =
    item_taken c.args.problem.now c.in_ok-tables.tables _ _ _ _ c.in-Some.item c.loop-item.invariant.1 c.in-Some.ensures.some

pub loop-item-preserved : goal.loop-item-preserved
loop-item-preserved c =
    let g = c.in_ok-let_go.ensures in (
      c.loop-item.invariant.0,
      dying_goes_on c.args.problem.now c.in_ok-tables.tables c.requires c.loop-item.invariant.0 c.loop-item.counts.excused.items c.let_go.new.counts.excused.items c.loop-item.counts.uses.items c.let_go.new.counts.uses.items c.loop-item.counts.work c.take.new.self g.between c.let_go.new.counts.work c.in-Some.item c.loop-item.invariant.1 c.in-Some.ensures.some c.in-Some.ensures.marked g.excuses g.adds,
    )

pub returns : goal.returns
returns c =
    let a : c.len.result ≡ length c.args.problem.now.operations = c.len.ensures.len in
    let f = dying_ends c.args.problem.now c.in_ok-tables.tables c.requires c.loop-item.invariant.0 c.loop-item.counts.excused.items c.loop-item.counts.uses.items c.loop-item.counts.work c.loop-item.invariant.1 c.in_default.ensures.none in
    IfOk-weaker c.unused.result _ _ (λ d m. are_dead c.args.problem.now c.len.result c.loop-item.counts.uses.items d a c.loop-item.invariant.1.len f (subst (λ xs. AreMarked c.len.result xs d) c.deref.ensures.value m)) c.unused.ensures
