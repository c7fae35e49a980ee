use Rattle.std.proofs.Common.{◌≡◌, Some, rules, tests}
use Rattle.ir_program.specs.Lists.{blocks_in, StandsInRegion}
use Rattle.ir_graph.specs.RegionLaws.{place_in, in_place}
use Rattle.ir_graph.proofs.local_edges.is_block_of.Goals as goal

pub returns : goal.returns
returns g c = (
  λ h. let found : c.parent_region.result ≡ Some c.args.region = search (rules, tests) in
      let stands : StandsInRegion c.args.program.now c.args.block c.args.region = rw found at c.parent_region.ensures.parent in
      in_place (blocks_in c.args.program.now c.args.region) stands.index c.args.block stands.here,
  λ h. let at = place_in (blocks_in c.args.program.now c.args.region) c.args.block h in
      let found : c.parent_region.result ≡ Some c.args.region = c.parent_region.ensures.only c.args.region (c.know_lists.ensures.blocks c.args.region at.0 c.args.block at.1) in
      search (rules, tests),
)
