use Rattle.std.proofs.Common.{true≢false, refl, sym, ◌∙◌}
use Rattle.ir_core.proofs.edits.block_lists.insert_block_before.Goals as goal

pub insert_before-requires-clause-unlinked : goal.insert_before-requires-clause-unlinked
insert_before-requires-clause-unlinked g c = (c.can_stand.ensures.0 c.if-not-can_stand.false).1

pub returns : goal.returns
returns g c =
    let stands = c.can_stand.ensures.0 c.if-not-can_stand.false in
    ((stands.0, stands.1, c.is_linked.ensures.linked.0 c.if-not-is_linked.false, λ s. true≢false (sym (c.is_inside.ensures.1 s) ∙ c.if-is_inside.false)), (refl, c.insert_before.ensures.edited, record { values = c.insert_before.ensures.values; types = c.insert_before.ensures.types }))
