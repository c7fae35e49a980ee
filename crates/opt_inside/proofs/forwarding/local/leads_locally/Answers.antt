use Rattle.std.proofs.Common.{◌≡◌, ◌<◌, ◌∙◌, true≢false, length, below_more, refl, arith, sym, subst}
use Rattle.std.proofs.lemmas.Option.{same_Some, slice_get_within}
use Rattle.ir_program.specs.Rows.{successors_at}
use Rattle.opt_inside.specs.forwarding.Local.{IsLocalEdge}
use Rattle.opt_inside.proofs.forwarding.local.leads_locally.Goals as goal

pub loop-index-preserved : goal.loop-index-preserved
loop-index-preserved g c = below_more _ _ c.loop-index.invariant (λ s at. let is : s ≡ c.successor.result = same_Some s c.successor.result (sym at ∙ c.successor.ensures.exact) in
    subst (IsLocalEdge g.D.Meanings.meaning.is_terminator c.args.program.now c.args.op) (sym is) (c.is_local_edge.ensures.0 c.if-not-is_local_edge.false))

pub returns-then-not-is_local_edge : goal.returns-then-not-is_local_edge
returns-then-not-is_local_edge g c = (
  λ h. absurd (true≢false (sym h)),
  λ h. absurd (true≢false (sym (c.is_local_edge.ensures.1 (h c.successor.result c.loop-index.index c.successor.ensures.exact)) ∙ c.if-not-is_local_edge.true)),
)

pub returns : goal.returns
returns g c = (
  λ h s k at. let within : k < length (successors_at c.args.program.now c.args.op) = slice_get_within (successors_at c.args.program.now c.args.op) k s at in
      c.loop-index.invariant k (omega arith) s at,
  λ h. refl,
)
