use Rattle.std.proofs.Common.{◌≡◌, take}
use Rattle.text_dialect.specs.Seen.{seen}
use Rattle.text_frames.specs.building.Kept.{GivesNumbers}
use Rattle.text_frames.specs.building.Made.{LinksSuccessors}
use Rattle.text_frames.proofs.building.linking.link_successors.Given as goal

-- the blocks up to here are successors
abbrev pub invariant-loop-block : goal.invariant-loop-block
invariant-loop-block g l = record {
  linked : LinksSuccessors (seen l.fn.ctx) (seen l.ctx) l.op (take l.block-index l.blocks);
  numbers : GivesNumbers l.fn.ctx.program l.ctx.program 0;
  types : l.ctx.types ≡ l.fn.ctx.types;
}
