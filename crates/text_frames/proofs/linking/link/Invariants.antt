use Rattle.std.proofs.Common.{◌≡◌}
use Rattle.text_dialect.specs.Seen.{seen}
use Rattle.text_frames.specs.building.Kept.{GivesNumbers}
use Rattle.text_frames.proofs.Linked.{LinksFirst, KeepsHeld}
use Rattle.text_frames.proofs.linking.link.Given as goal

-- the operations up to here have their operands and successors
abbrev pub invariant-loop-index : goal.invariant-loop-index
invariant-loop-index g l = record {
  linked : LinksFirst (seen l.fn.ctx) (seen l.ctx) l.assembly.values.items l.assembly.blocks.items
      l.resolution.definitions l.assembly.pending.items l.index;
  held : KeepsHeld (seen l.fn.ctx) (seen l.ctx) l.assembly.pending.items;
  numbers : GivesNumbers l.fn.ctx.program l.ctx.program 0;
  types : l.ctx.types ≡ l.fn.ctx.types;
}
