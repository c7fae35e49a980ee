use Rattle.std.proofs.Common.{refl}
use Rattle.ir_walks.specs.declared.config.Direction.TheVariants.{Reverse}
use Rattle.ir_walks.proofs.Holders.{region_before}
use Rattle.ir_walks.proofs.lists.region_before.Goals as goal

pub returns-then-index-eq0 : goal.returns-then-index-eq0
returns-then-index-eq0 g c = region_before c.args.program.now c.know_lists.ensures.regions c.args.region c.parent_operation-op.result c.region_index-index.result c.parent_operation-op.ensures.only c.region_index-index.ensures Reverse refl _
    (λ z. refl) (λ n. absurd (n c.if-index-eq0.true))

pub returns-else-index-eq0 : goal.returns-else-index-eq0
returns-else-index-eq0 g c = region_before c.args.program.now c.know_lists.ensures.regions c.args.region c.parent_operation-op.result c.region_index-index.result c.parent_operation-op.ensures.only c.region_index-index.ensures Reverse refl c.region.result
    (λ z. absurd (c.if-index-eq0.false z)) (λ n. c.region.ensures.region)
