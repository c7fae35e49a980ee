use Rattle.std.proofs.Common.{◌≡◌, ◌∙◌, true≢false, Some, sym, subst}
use Rattle.std.specs.Prelude.{Contains}
use Rattle.std.proofs.lemmas.Option.{same_Some}
use Rattle.ir_program.specs.Lists.{operations_in, blocks_in}
use Rattle.ir_graph.specs.RegionLaws.{place_in, in_place}
use Rattle.ir_graph.proofs.local_edges.is_operation_of.Goals as goal

pub returns-in-Some : goal.returns-in-Some
returns-in-Some g c = (
  λ h. let stands = c.in-Some.ensures.parent in
      record { block = c.in-Some.block; in_region = c.is_block_of.ensures.0 h; in_block = in_place (operations_in c.args.program.now c.in-Some.block) stands.index c.args.op stands.here },
  λ h. let at = place_in (operations_in c.args.program.now h.block) c.args.op h.in_block in
      let found : Some c.in-Some.block ≡ Some h.block = sym c.in-Some.is ∙ c.parent_block.ensures.only h.block (c.know_lists.ensures.operations h.block at.0 c.args.op at.1) in
      c.is_block_of.ensures.1 (subst (Contains (blocks_in c.args.program.now c.args.region)) (sym (same_Some c.in-Some.block h.block found)) h.in_region),
)

pub returns-in-None : goal.returns-in-None
returns-in-None g c = (
  λ h. absurd (true≢false (sym h)),
  λ h. let at = place_in (operations_in c.args.program.now h.block) c.args.op h.in_block in
      let found = c.parent_block.ensures.only h.block (c.know_lists.ensures.operations h.block at.0 c.args.op at.1) in
      cc (found, c.in-None.is),
)
