use Rattle.std.proofs.Common.{◌≡◌, take}
use Rattle.text_dialect.specs.Seen.{seen}
use Rattle.text_frames.specs.building.Kept.{GivesNumbers}
use Rattle.text_frames.specs.building.Made.{FillsRegion}
use Rattle.text_frames.proofs.building.filling.fill_region.Given as goal

-- the blocks up to here are in the region
abbrev pub invariant-loop-block : goal.invariant-loop-block
invariant-loop-block g l = record {
  filled : FillsRegion (seen l.fn.ctx) (seen l.ctx) l.region (take l.block-index l.blocks);
  numbers : GivesNumbers l.fn.ctx.program l.ctx.program 0;
  types : l.ctx.types ≡ l.fn.ctx.types;
}
