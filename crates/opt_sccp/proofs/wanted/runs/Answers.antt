-- The number of a block leads to its mark.
use Rattle.std.proofs.Common.{Bool, List, false, slice_get, unwrap_or, sym, ap, ◌∙◌}
use Rattle.opt_inside.specs.Numbered.{numbers_of}
use Rattle.opt_sccp.proofs.Lookups.{runs_found, runs_not_found}
use Rattle.opt_sccp.proofs.wanted.runs.Goals as goal

pub returns-in-Some : goal.returns-in-Some
returns-in-Some g c k h = c.item_or.ensures ∙ ap (λ (xs : List Bool). unwrap_or (slice_get xs c.in-Some.number) false) c.deref.ensures.value
    ∙ runs_found (numbers_of c.args.inside.now) c.args.facts.now.runs.items c.args.facts.now.known.items k h c.args.block c.in-Some.number (sym c.get_index_of.ensures.index ∙ c.in-Some.is)

pub returns-in-None : goal.returns-in-None
returns-in-None g c k h = runs_not_found (numbers_of c.args.inside.now) c.args.facts.now.runs.items c.args.facts.now.known.items k h c.args.block (sym c.get_index_of.ensures.index ∙ c.in-None.is)
