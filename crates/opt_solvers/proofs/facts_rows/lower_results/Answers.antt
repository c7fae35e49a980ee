use Rattle.std.proofs.Common.{◌≡◌, ◌<◌, Some, length, map, get_or, refl, sym, ap, ◌∙◌, subst, arith, rules}
use Rattle.std.specs.Prelude.{option_map}
use Rattle.std.proofs.lemmas.Option.{slice_get_read, slice_get-get_or, slice_get-map}
use Rattle.std.proofs.lemmas.List.{length-map}
use Rattle.std.proofs.lemmas.List.Elements.{Contains-get_or}
use Rattle.opt_rows.specs.Known.{AllBelow, answer}
use Rattle.opt_rows.specs.FactsFound.{Meets}
use Rattle.opt_solvers.proofs.FactsVisiting.{below_more, below_none, below_end}
use Rattle.opt_solvers.proofs.facts_rows.lower_results.Goals as goal

pub loop-index-init : goal.loop-index-init
loop-index-init g c = below_none _ _ _

pub lower-requires-clause-in_range : goal.lower-requires-clause-in_range
lower-requires-clause-in_range g c =
    let h : c.loop-index.index < length c.args.results.now = omega (arith, c.min-index-end.ensures) in
    let v = get_or c.args.results.now c.loop-index.index 0 in
    subst (λ n. v < n) (sym c.loop-index.invariant.steps.values_len) (c.requires.results v (Contains-get_or c.args.results.now c.loop-index.index 0 h))

pub loop-index-preserved : goal.loop-index-preserved
loop-index-preserved g c =
    let h : c.loop-index.index < length c.args.results.now = omega (arith, c.min-index-end.ensures) in
    let k : c.loop-index.index < length c.in_ok-folds.folds.items = search rules in
    let x = c.index.result.now in
    let f = slice_get_read c.in_ok-folds.folds.items (length c.in_ok-folds.folds.items) c.loop-index.index x refl k c.index.ensures in
    below_more c.args.results.now (map answer c.in_ok-folds.folds.items) c.loop-index.index (get_or c.args.results.now c.loop-index.index 0) c.of_answer.result c.args.found.now c.loop-index.found c.lower.new.self
    (slice_get-get_or c.args.results.now c.loop-index.index 0 h)
    (slice_get-map answer c.in_ok-folds.folds.items c.loop-index.index ∙ (ap (option_map answer) f ∙ ap (λ y. Some y) (sym c.of_answer.ensures))) c.loop-index.invariant c.in_ok-lower.ensures

pub returns : goal.returns
returns g c =
    let b : c.len.result ≡ length c.in_ok-folds.folds.items = search rules in
    let d = length-map c.in_ok-folds.folds.items answer in
    subst (λ ys. Meets (λ l. AllBelow l.of c.args.results.now (map answer ys)) c.args.found.now c.loop-index.found) c.in_ok-folds.ensures
    (below_end c.args.results.now (map answer c.in_ok-folds.folds.items) c.loop-index.index c.args.found.now c.loop-index.found (λ j h k. omega (arith, b, h, k, d, c.min-index-end.ensures, c.loop-index-test.false)) c.loop-index.invariant)
