use Rattle.std.proofs.Common.{◌≡◌, List, take}
use Rattle.ir_program.specs.declared.handles.BasicBlock.{BasicBlock}
use Rattle.ir_program.specs.declared.handles.Ptr.{Ptr}
use Rattle.text_dialect.specs.Seen.{seen}
use Rattle.text_frames.specs.building.Kept.{GivesNumbers}
use Rattle.text_frames.specs.building.Made.{LinksSuccessors}
use Rattle.text_frames.specs.Linking.{AreTargets}
use Rattle.text_frames.proofs.linking.link_edges.Given as goal

-- the blocks that the labels up to here mean are successors
abbrev pub invariant-loop-label : goal.invariant-loop-label
invariant-loop-label g l = record {
  linked : (bs : List (Ptr BasicBlock)) → AreTargets (seen l.fn.ctx) l.blocks l.resolution.definitions bs
      l.labels → LinksSuccessors (seen l.fn.ctx) (seen l.ctx) l.op (take l.label-index bs);
  numbers : GivesNumbers l.fn.ctx.program l.ctx.program 0;
  types : l.ctx.types ≡ l.fn.ctx.types;
}
