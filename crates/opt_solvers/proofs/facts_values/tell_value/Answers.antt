use Rattle.std.proofs.Common.{◌<◌, sym, ◌∙◌, subst}
use Rattle.std.specs.Prelude.{Contains}
use Rattle.std.proofs.lemmas.Option.{slice_get_within}
use Rattle.opt_rows.specs.declared.known.Known.TheVariants.{Undetermined}
use Rattle.opt_rows.specs.Facts.{arguments_of}
use Rattle.opt_rows.proofs.FactsFalling.{or_read}
use Rattle.opt_rows.proofs.Lists.{get_contains}
use Rattle.opt_solvers.proofs.FactsTelling.{told_begins, next_reads, next_told, told_all}
use Rattle.opt_solvers.proofs.facts_values.tell_value.Goals as goal

pub forward-requires-clause-arguments : goal.forward-requires-clause-arguments
forward-requires-clause-arguments g c = λ x t.
    let w = c.requires.tables.slots.only c.args.value x (subst (λ xs. Contains xs x) c.row.ensures t) in
    subst (λ n. x.argument < n) (sym c.requires.solving.values_len) (c.requires.problem.arguments w.along.edge.target x.argument (get_contains (arguments_of c.args.problem.now w.along.edge.target) w.along.forwards.index x.argument w.along.forwards.argument))

pub forward-requires-clause-rows : goal.forward-requires-clause-rows
forward-requires-clause-rows g c = λ x t.
    let w = c.requires.tables.slots.only c.args.value x (subst (λ xs. Contains xs x) c.row.ensures t) in
    subst (λ n. x.row < n) (sym c.requires.solving.taken_len) (slice_get_within c.args.problem.now.rows x.row w.row w.there)

pub forward-requires-clause-edges : goal.forward-requires-clause-edges
forward-requires-clause-edges g c = λ x t.
    let w = c.requires.tables.slots.only c.args.value x (subst (λ xs. Contains xs x) c.row.ensures t) in
    subst (λ n. x.edge < n) (sym (c.requires.solving.edges_len x.row w.row w.there)) (slice_get_within w.row.edges x.edge w.along.edge w.along.there)

pub loop-place-init : goal.loop-place-init
loop-place-init g c =
    let s = c.args.solver.now in
    told_begins _ c.args.problem.now c.args.tables.now c.requires.tables s c.args.value c.index-fact.result.now c.forward.new.found c.row.result c.into_iter-place-iterator.result c.requires.solving
    (or_read s.found.known.items c.args.value c.index-fact.result.now Undetermined (subst (λ n. c.args.value < n) (sym c.requires.solving.values_len) c.requires.in_range) c.index-fact.ensures) c.row.ensures (c.into_iter-place-iterator.ensures.into_iter_gives ∙ c.row-place-items.ensures)
    c.in_ok-forward.ensures c.requires.waiting

pub see_place-requires-clause-reads : goal.see_place-requires-clause-reads
see_place-requires-clause-reads g c = next_reads _ c.args.problem.now c.args.solver.now.found c.loop-place.solver c.args.value c.in-Some.place c.loop-place.place-iterator _ c.in-Some.ensures.steps c.loop-place.invariant

pub loop-place-preserved : goal.loop-place-preserved
loop-place-preserved g c = next_told _ c.args.problem.now c.args.solver.now.found c.loop-place.solver c.see_place.new.solver c.args.value c.in-Some.place c.loop-place.place-iterator _ c.in-Some.ensures.steps c.loop-place.invariant c.in_ok-see_place.ensures

pub returns : goal.returns
returns g c = told_all _ c.args.problem.now c.args.solver.now.found c.loop-place.solver c.args.value c.loop-place.place-iterator c.in-None.ensures.steps.0 c.loop-place.invariant
