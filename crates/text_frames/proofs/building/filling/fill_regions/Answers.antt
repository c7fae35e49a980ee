use Rattle.std.proofs.Common.{◌≡◌, Some, option_map, slice_get, length, refl, sym, ap, subst, unwrap_or, [], ◌∙◌, take, arith}
use Rattle.std.proofs.lemmas.Option.{slice_get_read, slice_get-map}
use Rattle.text_dialect.specs.Seen.{seen}
use Rattle.text_frames.specs.building.Loose.{AreLooseBlocks, AreDistinctHandles, regions_of}
use Rattle.text_frames.specs.building.Made.{FillsRegion, lists_of}
use Rattle.text_frames.proofs.BuildingLemmas.Apart.{AreRegionsListed}
use Rattle.text_frames.proofs.BuildingLemmas.Filled.{fills_step, next_list_loose, regions_seen, regions_distinct}
use Rattle.text_frames.proofs.BuildingLemmas.Numbers.{gives_still}
use Rattle.text_frames.proofs.building.filling.fill_regions.Goals as goal

pub fill_region-requires-clause-loose : goal.fill_region-requires-clause-loose
fill_region-requires-clause-loose g c =
    let read : slice_get c.args.lists.now c.loop-index.index ≡ Some c.index-lists-index.result = slice_get_read c.args.lists.now (length c.args.lists.now) c.loop-index.index c.index-lists-index.result refl (omega arith) c.index-lists-index.is in
    let here : slice_get (lists_of c.args.lists.now) c.loop-index.index ≡ Some c.index-lists-index.result.items = slice_get-map (λ xs. xs.items) c.args.lists.now c.loop-index.index ∙ ap (option_map (λ xs. xs.items)) read in
    subst (λ bs. AreLooseBlocks (seen c.loop-index.ctx) bs) (sym c.deref.ensures.value)
    (next_list_loose (seen c.args.ctx.now) (seen c.loop-index.ctx) (take c.loop-index.index (regions_of (seen c.args.ctx.now) c.args.op)) (lists_of c.args.lists.now) c.loop-index.index c.index-lists-index.result.items c.requires.loose c.requires.apart here c.loop-index.invariant.filled)

pub fill_region-requires-clause-distinct : goal.fill_region-requires-clause-distinct
fill_region-requires-clause-distinct g c =
    let read : slice_get c.args.lists.now c.loop-index.index ≡ Some c.index-lists-index.result = slice_get_read c.args.lists.now (length c.args.lists.now) c.loop-index.index c.index-lists-index.result refl (omega arith) c.index-lists-index.is in
    let here : slice_get (lists_of c.args.lists.now) c.loop-index.index ≡ Some c.index-lists-index.result.items = slice_get-map (λ xs. xs.items) c.args.lists.now c.loop-index.index ∙ ap (option_map (λ xs. xs.items)) read in
    subst (λ bs. AreDistinctHandles bs) (sym c.deref.ensures.value) (λ j k p a b. (c.requires.apart c.loop-index.index c.loop-index.index j k c.index-lists-index.result.items c.index-lists-index.result.items p here here a b).1)

pub loop-index-preserved : goal.loop-index-preserved
loop-index-preserved g c =
    let i = c.loop-index.index in
    let s = seen c.args.ctx.now in
    let t = seen c.loop-index.ctx in
    let read : slice_get c.args.lists.now i ≡ Some c.index-lists-index.result = slice_get_read c.args.lists.now (length c.args.lists.now) i c.index-lists-index.result refl (omega arith) c.index-lists-index.is in
    let here : slice_get (lists_of c.args.lists.now) i ≡ Some c.index-lists-index.result.items = slice_get-map (λ xs. xs.items) c.args.lists.now i ∙ ap (option_map (λ xs. xs.items)) read in
    let same : regions_of t c.args.op ≡ regions_of s c.args.op = ap (λ o. unwrap_or (option_map (λ y. y.regions) o) []) (c.loop-index.invariant.filled.operations c.args.op) in
    let listed : AreRegionsListed c.program.result.now = (c.know_lists.ensures.regions, c.know_lists.ensures.regions_once) in
    let now : AreRegionsListed c.loop-index.ctx.program = subst AreRegionsListed c.program.ensures listed in
    let at : slice_get (regions_of s c.args.op) i ≡ Some c.get_region-region.result = ap (λ rs. slice_get rs i) (sym (regions_seen c.loop-index.ctx c.args.op ∙ same)) ∙ c.get_region-region.ensures.region in
    let distinct : AreDistinctHandles (regions_of s c.args.op) = subst (λ rs. AreDistinctHandles rs) same (regions_distinct c.loop-index.ctx now c.args.op) in
    record {
      filled = fills_step s t (seen c.fill_region.new.ctx) (regions_of s c.args.op) (lists_of c.args.lists.now) i c.get_region-region.result c.index-lists-index.result.items c.loop-index.invariant.filled at here distinct
          (subst (λ bs. FillsRegion t (seen c.fill_region.new.ctx) c.get_region-region.result bs) c.deref.ensures.value c.fill_region.ensures.filled);
      numbers = gives_still c.args.ctx.now.program c.loop-index.ctx.program c.fill_region.new.ctx.program 0 c.loop-index.invariant.numbers c.fill_region.ensures.numbers;
      types = c.fill_region.ensures.types ∙ c.loop-index.invariant.types;
    }
