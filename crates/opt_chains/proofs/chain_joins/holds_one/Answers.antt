use Rattle.std.proofs.Common.{true≢false, refl, sym, ◌∙◌, arith}
use Rattle.std.proofs.lemmas.Option.{slice_get-get_or, slice_get_within}
use Rattle.ir_program.specs.Lists.{StandsInRegion}
use Rattle.ir_program.specs.Program.{no_handle}
use Rattle.ir_program.specs.declared.handles.Ptr.{Ptr}
use Rattle.ir_program.specs.declared.handles.BasicBlock.{BasicBlock}
use Rattle.opt_chains.proofs.NextElsewhere.{none_more}
use Rattle.opt_chains.proofs.chain_joins.holds_one.Goals as goal

pub stands_in-requires : goal.stands_in-requires
stands_in-requires g c = c.requires _ (c.loop-block.block-index, slice_get-get_or c.args.blocks.now c.loop-block.block-index no_handle c.loop-block-test.true)

pub returns-then-stands_in : goal.returns-then-stands_in
returns-then-stands_in g c = (
  λ h. (_, (c.loop-block.block-index, slice_get-get_or c.args.blocks.now c.loop-block.block-index no_handle c.loop-block-test.true), c.stands_in.ensures.0 c.if-stands_in.true),
  λ h. refl,
)

pub loop-block-preserved : goal.loop-block-preserved
loop-block-preserved g c = none_more (λ (b : Ptr BasicBlock). StandsInRegion c.args.program.now b c.args.region) c.args.blocks.now c.loop-block.block-index _ c.loop-block.invariant
    (slice_get-get_or c.args.blocks.now c.loop-block.block-index no_handle c.loop-block-test.true) (λ s. true≢false (sym (c.stands_in.ensures.1 s) ∙ c.if-stands_in.false))

pub returns : goal.returns
returns g c = (
  λ h. absurd (true≢false (sym h)),
  λ held.
      let l = slice_get_within c.args.blocks.now held.1.0 held.0 held.1.1 in
      absurd (c.loop-block.invariant held.1.0 held.0 (omega (arith, l, c.loop-block-test.false)) held.1.1 held.2),
)
