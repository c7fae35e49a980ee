use Rattle.std.proofs.Common.{◌≡◌, take}
use Rattle.text_dialect.specs.Seen.{seen}
use Rattle.text_frames.specs.building.Kept.{GivesNumbers}
use Rattle.text_frames.specs.building.Loose.{regions_of}
use Rattle.text_frames.specs.building.Made.{FillsRegions, lists_of}
use Rattle.text_frames.proofs.building.filling.fill_regions.Given as goal

-- the regions up to here are filled
abbrev pub invariant-loop-index : goal.invariant-loop-index
invariant-loop-index g l = record {
  filled : FillsRegions (seen l.fn.ctx) (seen l.ctx) (take l.index (regions_of (seen l.fn.ctx) l.op)) (take l.index (lists_of l.lists));
  numbers : GivesNumbers l.fn.ctx.program l.ctx.program 0;
  types : l.ctx.types ≡ l.fn.ctx.types;
}
