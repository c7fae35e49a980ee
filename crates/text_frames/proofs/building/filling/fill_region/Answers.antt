use Rattle.std.proofs.Common.{◌≡◌, Some, slice_get, get_or, sym, subst, ◌∙◌, ◌∷◌, [], take, arith}
use Rattle.std.proofs.lemmas.Option.{slice_get-get_or}
use Rattle.ir_program.specs.Program.{no_handle, block_at}
use Rattle.text_dialect.specs.Seen.{seen, seen_block}
use Rattle.text_frames.specs.building.Made.{FillsRegion}
use Rattle.text_frames.proofs.BuildingLemmas.Apart.{AreRegionsListed}
use Rattle.text_frames.proofs.BuildingLemmas.Filled.{fills_both, put_fills, next_loose, still_holder, holder_stands, can_put}
use Rattle.text_frames.proofs.BuildingLemmas.Members.{take_step}
use Rattle.text_frames.proofs.BuildingLemmas.Numbers.{gives_nothing, gives_still}
use Rattle.text_frames.proofs.BuildingLemmas.Opened.{unlinked_block}
use Rattle.text_frames.proofs.BuildingLemmas.Options.{unmapped_there}
use Rattle.text_frames.proofs.BuildingLemmas.Payloads.{payloads_still}
use Rattle.text_frames.proofs.building.filling.fill_region.Goals as goal

pub insert_at_back-requires-clause-region : goal.insert_at_back-requires-clause-region
insert_at_back-requires-clause-region g c =
    let listed : AreRegionsListed c.program.result.now = (c.know_lists.ensures.regions, c.know_lists.ensures.regions_once) in
    let now : AreRegionsListed c.loop-block.ctx.program = subst AreRegionsListed c.program.ensures listed in
    let holder = still_holder (seen c.args.ctx.now) (seen c.loop-block.ctx) c.args.region c.loop-block.invariant.filled.operations c.loop-block.invariant.filled.blocks c.requires.holder in
    (holder_stands c.loop-block.ctx now c.args.region holder).region

pub insert_at_back-requires-clause-block : goal.insert_at_back-requires-clause-block
insert_at_back-requires-clause-block g c =
    unmapped_there seen_block (block_at c.loop-block.ctx.program (get_or c.args.blocks.now c.loop-block.block-index no_handle)) (next_loose (seen c.args.ctx.now) (seen c.loop-block.ctx) c.args.region c.args.blocks.now c.loop-block.block-index _ c.requires.loose c.requires.distinct
    (slice_get-get_or c.args.blocks.now c.loop-block.block-index no_handle (omega arith)) c.loop-block.invariant.filled).there

pub insert_at_back-requires-clause-unlinked : goal.insert_at_back-requires-clause-unlinked
insert_at_back-requires-clause-unlinked g c =
    unlinked_block c.loop-block.ctx (get_or c.args.blocks.now c.loop-block.block-index no_handle) (next_loose (seen c.args.ctx.now) (seen c.loop-block.ctx) c.args.region c.args.blocks.now c.loop-block.block-index _ c.requires.loose c.requires.distinct
    (slice_get-get_or c.args.blocks.now c.loop-block.block-index no_handle (omega arith)) c.loop-block.invariant.filled)

pub insert_at_back-requires-clause-apart : goal.insert_at_back-requires-clause-apart
insert_at_back-requires-clause-apart g c =
    let listed : AreRegionsListed c.program.result.now = (c.know_lists.ensures.regions, c.know_lists.ensures.regions_once) in
    let now : AreRegionsListed c.loop-block.ctx.program = subst AreRegionsListed c.program.ensures listed in
    let holder = still_holder (seen c.args.ctx.now) (seen c.loop-block.ctx) c.args.region c.loop-block.invariant.filled.operations c.loop-block.invariant.filled.blocks c.requires.holder in
    can_put c.loop-block.ctx now (get_or c.args.blocks.now c.loop-block.block-index no_handle) c.args.region holder

pub loop-block-preserved : goal.loop-block-preserved
loop-block-preserved g c =
    let b = get_or c.args.blocks.now c.loop-block.block-index no_handle in
    let here : slice_get c.args.blocks.now c.loop-block.block-index ≡ Some b = slice_get-get_or c.args.blocks.now c.loop-block.block-index no_handle (omega arith) in
    record {
      filled = subst (λ bs. FillsRegion (seen c.args.ctx.now) (seen c.insert_at_back.new.ctx) c.args.region bs) (sym (take_step c.args.blocks.now c.loop-block.block-index b here))
          (fills_both (seen c.args.ctx.now) (seen c.loop-block.ctx) (seen c.insert_at_back.new.ctx) c.args.region (take c.loop-block.block-index c.args.blocks.now) (b ∷ []) c.loop-block.invariant.filled
          (put_fills c.loop-block.ctx c.insert_at_back.new.ctx c.insert_at_back.ensures.types c.args.region b c.insert_at_back.ensures.edited));
      numbers = gives_still c.args.ctx.now.program c.loop-block.ctx.program c.insert_at_back.new.ctx.program 0 c.loop-block.invariant.numbers
          (gives_nothing c.loop-block.ctx.program c.insert_at_back.new.ctx.program c.insert_at_back.ensures.values.counter c.insert_at_back.ensures.edited.erased
          (payloads_still c.loop-block.ctx.program c.insert_at_back.new.ctx.program c.insert_at_back.ensures.edited.operations c.insert_at_back.ensures.edited.blocks));
      types = c.insert_at_back.ensures.types ∙ c.loop-block.invariant.types;
    }
