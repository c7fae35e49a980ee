use Rattle.std.proofs.Common.{◌≡◌, ◌<◌, ◌∙◌, true≢false, length, below_more, refl, arith, sym, subst}
use Rattle.std.specs.Prelude.{Contains}
use Rattle.std.proofs.lemmas.Option.{same_Some, slice_get_within}
use Rattle.ir_program.specs.Lists.{blocks_in}
use Rattle.ir_program.specs.Rows.{successors_at}
use Rattle.ir_graph.specs.RegionLaws.{place_in, in_place}
use Rattle.ir_graph.proofs.local_edges.leads_inside.Goals as goal

pub loop-i-preserved : goal.loop-i-preserved
loop-i-preserved g c = below_more _ _ c.loop-i.invariant (λ s at. let is : s ≡ c.successor.result = same_Some s c.successor.result (sym at ∙ c.successor.ensures.exact) in
    subst (Contains (blocks_in c.args.program.now c.args.region)) (sym is) (c.is_block_of.ensures.0 c.if-not-is_block_of.false))

pub returns-then-not-is_block_of : goal.returns-then-not-is_block_of
returns-then-not-is_block_of g c = (
  λ h. absurd (true≢false (sym h)),
  λ h. let there = c.is_block_of.ensures.1 (h c.successor.result (in_place (successors_at c.args.program.now c.args.op) c.loop-i.i c.successor.result c.successor.ensures.exact)) in
      absurd (true≢false (sym there ∙ c.if-not-is_block_of.true)),
)

pub returns : goal.returns
returns g c = (
  λ h s k. let at = place_in (successors_at c.args.program.now c.args.op) s k in
      let within : at.0 < length (successors_at c.args.program.now c.args.op) = slice_get_within (successors_at c.args.program.now c.args.op) at.0 s at.1 in
      c.loop-i.invariant at.0 (omega arith) s at.1,
  λ h. refl,
)
