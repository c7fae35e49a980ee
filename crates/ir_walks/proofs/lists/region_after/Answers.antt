use Rattle.std.proofs.Common.{◌+◌, ◌≤◌, length, refl, sym, arith}
use Rattle.std.proofs.lemmas.Option.{slice_get_past}
use Rattle.ir_program.specs.Lists.{regions_in}
use Rattle.ir_walks.specs.declared.config.Direction.TheVariants.{Forward}
use Rattle.ir_walks.proofs.Holders.{region_after}
use Rattle.ir_walks.proofs.lists.region_after.Goals as goal

pub returns-then-index-count : goal.returns-then-index-count
returns-then-index-count g c = region_after c.args.program.now c.know_lists.ensures.regions c.args.region c.parent_operation-op.result c.region_index-index.result c.parent_operation-op.ensures.only c.region_index-index.ensures Forward refl c.region.result c.region.ensures.region

pub returns-else-index-count : goal.returns-else-index-count
returns-else-index-count g c =
    let few : length (regions_in c.args.program.now c.parent_operation-op.result) ≤ c.region_index-index.result + 1 = omega (arith, c.if-index-count.false, c.region_count-count.ensures) in
    region_after c.args.program.now c.know_lists.ensures.regions c.args.region c.parent_operation-op.result c.region_index-index.result c.parent_operation-op.ensures.only c.region_index-index.ensures Forward refl _
    (sym (slice_get_past (regions_in c.args.program.now c.parent_operation-op.result) (c.region_index-index.result + 1) few))
