use Rattle.std.proofs.Common.{refl, sym, ◌∙◌}
use Rattle.ir_core.proofs.EditsLemmas.Asked.{successor_popped}
use Rattle.ir_core.proofs.edits.successors.pop_successor.Goals as goal

pub returns : goal.returns
returns g c = (
  sym c.is_live.ensures ∙ c.if-not-is_live.false,
  (refl, c.pop_successor.ensures.popped, successor_popped _ _ _ _ c.pop_successor.ensures.block c.pop_successor.ensures.none, record { values = c.pop_successor.ensures.values; types = c.pop_successor.ensures.types }),
)
