use Rattle.opt_rows.specs.OperationRows.{row_numbered, Row}
use Rattle.opt_rows.proofs.OperationLists.{row_there, row_contained}
use Rattle.std.proofs.Common.{◌≡◌, ◌<◌, true, false, length, sym, ap, ◌∙◌, subst, rules}
use Rattle.std.proofs.lemmas.Option.{slice_get_within, same_Some}
use Rattle.opt_rows.specs.FactsFound.{facts_of}
use Rattle.opt_rows.proofs.FactsFalling.{or_read}
use Rattle.opt_rows.proofs.Lists.{get_contains}
use Rattle.opt_solvers.proofs.FactsTelling.{place_solving, place_refreshed, place_idle}
use Rattle.opt_solvers.proofs.facts_values.see_place.Goals as goal

pub index-fact-requires : goal.index-fact-requires
index-fact-requires g c =
    let w = c.requires.reads in
    let h : c.args.value < length c.args.solver.now.found.known.items = subst (λ n. c.args.value < n) (sym c.requires.solving.values_len) ((c.requires.problem.rows w.row (get_contains c.args.problem.now.rows c.args.place.row w.row w.there)).operands c.args.value (get_contains w.row.operands c.args.place.operand c.args.value w.operand)) in search rules

pub see-requires-clause-row : goal.see-requires-clause-row
see-requires-clause-row g c =
    let w = c.requires.reads in subst (λ n. c.args.place.row < n) (sym c.requires.solving.seen_len) (slice_get_within c.args.problem.now.rows c.args.place.row w.row w.there)

pub see-requires-clause-index : goal.see-requires-clause-index
see-requires-clause-index g c =
    let w = c.requires.reads in
    subst (λ n. c.args.place.operand < n) (sym (c.requires.solving.operands_len c.args.place.row w.row w.there)) (slice_get_within w.row.operands c.args.place.operand c.args.value w.operand)

pub block-requires : goal.block-requires
block-requires g c = slice_get_within c.args.problem.now.rows c.args.place.row c.requires.reads.row c.requires.reads.there

pub index-requires : goal.index-requires
index-requires g c =
    let rows = c.args.problem.now.rows in
    let w = c.requires.reads in
    let r = row_numbered rows c.args.place.row in
    let b = subst (λ n. r.block < n) (sym c.requires.solving.blocks_len) (c.requires.problem.rows r (row_contained rows c.args.place.row (slice_get_within rows c.args.place.row w.row w.there))).block in
    let h : c.block.result < length c.args.solver.now.found.runs.items = subst (λ n. n < length c.args.solver.now.found.runs.items) (sym c.block.ensures) b in search rules

pub refresh_row-requires-clause-in_range : goal.refresh_row-requires-clause-in_range
refresh_row-requires-clause-in_range g c = slice_get_within c.args.problem.now.rows c.args.place.row c.requires.reads.row c.requires.reads.there

pub refresh_row-requires-clause-solving : goal.refresh_row-requires-clause-solving
refresh_row-requires-clause-solving g c = place_solving _ c.args.problem.now c.args.solver.now c.args.value c.args.place c.see.new.self c.index-fact.result.now c.requires.problem c.requires.solving c.requires.reads c.index-fact.ensures c.see.ensures

pub refresh_row-requires-clause-running : goal.refresh_row-requires-clause-running
refresh_row-requires-clause-running g c =
    let rows = c.args.problem.now.rows in
    let w = c.requires.reads in
    let r0 = row_numbered rows c.args.place.row in
    let at = row_there rows c.args.place.row (slice_get_within rows c.args.place.row w.row w.there) in
    let b = subst (λ n. n < length c.args.solver.now.found.runs.items) (sym c.block.ensures) (subst (λ n. r0.block < n) (sym c.requires.solving.blocks_len) (c.requires.problem.rows r0 (row_contained rows c.args.place.row (slice_get_within rows c.args.place.row w.row w.there))).block) in
    let e = ap (facts_of c.args.solver.now.found).runs (sym c.block.ensures) ∙ or_read c.args.solver.now.found.runs.items c.block.result c.index.result.now false b c.index.ensures in
    λ r t. ap (λ (x : Row). (facts_of c.args.solver.now.found).runs x.block) (same_Some r r0 (sym t ∙ at)) ∙ (e ∙ c.if-index.true)

pub returns-in_ok-refresh_row : goal.returns-in_ok-refresh_row
returns-in_ok-refresh_row g c = place_refreshed _ c.args.problem.now c.args.solver.now c.args.value c.args.place c.see.new.self c.index-fact.result.now c.requires.problem c.requires.solving c.requires.reads c.index-fact.ensures c.see.ensures c.refresh_row.new.solver c.in_ok-refresh_row.ensures

pub returns-else-index : goal.returns-else-index
returns-else-index g c =
    let rows = c.args.problem.now.rows in
    let w = c.requires.reads in
    let r0 = row_numbered rows c.args.place.row in
    let at = row_there rows c.args.place.row (slice_get_within rows c.args.place.row w.row w.there) in
    let b = subst (λ n. n < length c.args.solver.now.found.runs.items) (sym c.block.ensures) (subst (λ n. r0.block < n) (sym c.requires.solving.blocks_len) (c.requires.problem.rows r0 (row_contained rows c.args.place.row (slice_get_within rows c.args.place.row w.row w.there))).block) in
    let e = ap (facts_of c.args.solver.now.found).runs (sym c.block.ensures) ∙ or_read c.args.solver.now.found.runs.items c.block.result c.index.result.now false b c.index.ensures in
    place_idle _ c.args.problem.now c.args.solver.now c.args.value c.args.place c.see.new.self c.index-fact.result.now c.requires.problem c.requires.solving c.requires.reads c.index-fact.ensures c.see.ensures
    (λ t. let f = sym (ap (λ (x : Row). (facts_of c.args.solver.now.found).runs x.block) (same_Some w.row r0 (sym w.there ∙ at))) ∙ t in let n : true ≡ false = sym f ∙ (e ∙ c.if-index.false) in absurd (cc n))
