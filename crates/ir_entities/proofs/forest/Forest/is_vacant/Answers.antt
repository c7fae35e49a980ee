use Rattle.std.proofs.Common.{true≢false, sym, ◌∙◌}
use Rattle.ir_entities.proofs.forest.Forest.is_vacant.Goals.{then-is_vacant, else-is_vacant}
use Rattle.ir_entities.proofs.forest.Forest.is_vacant.Goals as goal

pub returns-then-is_vacant-2 : goal.returns-then-is_vacant-2
returns-then-is_vacant-2 g c = rw (← c.self.view_is) (elim c.if-is_vacant.branch [
  | then-is_vacant w ↦ (
    λ t. (c.is_vacant.ensures.0 w.if-is_vacant.true, w.is_vacant-then-is_vacant.ensures.0 (sym w.value-is ∙ c.if-is_vacant-2.true), c.is_vacant-then-is_vacant-2.ensures.0 t),
    λ all. c.is_vacant-then-is_vacant-2.ensures.1 all.2,
  )
  | else-is_vacant w ↦ absurd (true≢false (sym c.if-is_vacant-2.true ∙ w.value-is ∙ w.if-is_vacant.false))
])

pub returns-else-is_vacant-2 : goal.returns-else-is_vacant-2
returns-else-is_vacant-2 g c = rw (← c.self.view_is) (elim c.if-is_vacant.branch [
  | then-is_vacant w ↦ (
    λ t. absurd (true≢false (sym t ∙ c.if-is_vacant-2.false)),
    λ all. w.value-is ∙ w.is_vacant-then-is_vacant.ensures.1 all.1,
  )
  | else-is_vacant w ↦ (
    λ t. absurd (true≢false (sym t ∙ c.if-is_vacant-2.false)),
    λ all. absurd (true≢false (sym (c.is_vacant.ensures.1 all.0) ∙ w.if-is_vacant.false)),
  )
])
