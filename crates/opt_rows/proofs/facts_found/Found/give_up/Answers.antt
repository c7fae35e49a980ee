use Rattle.std.proofs.Common.{◌<◌, get_or, sym, subst, rules}
use Rattle.std.proofs.lemmas.List.Elements.{Contains-get_or}
use Rattle.opt_rows.proofs.FactsEntering.{gave_up_more}
use Rattle.opt_rows.proofs.facts_found.Found.give_up.Goals as goal

pub lower-requires-clause-in_range : goal.lower-requires-clause-in_range
lower-requires-clause-in_range g c =
    let v = get_or c.args.values.now c.loop-value.value-index 0 in
    subst (λ n. v < n) (sym c.loop-value.invariant.steps.values_len) (c.requires.in_range v (Contains-get_or c.args.values.now c.loop-value.value-index 0 c.loop-value-test.true))

pub loop-value-preserved : goal.loop-value-preserved
loop-value-preserved g c = gave_up_more c.args.self.now c.loop-value.self c.lower.new.self c.args.values.now c.loop-value.value-index (get_or c.args.values.now c.loop-value.value-index 0) c.loop-value-test.true (search rules) c.loop-value.invariant c.in_ok-lower.ensures
