use Rattle.std.proofs.Common.{◌≡◌, take}
use Rattle.ir_program.specs.Adds.{AreLiveValues}
use Rattle.text_dialect.specs.Seen.{seen}
use Rattle.text_frames.specs.building.Kept.{GivesNumbers}
use Rattle.text_frames.specs.building.Made.{LinksOperands}
use Rattle.text_frames.proofs.building.linking.link_operands.Given as goal

-- the values up to here are operands
abbrev pub invariant-loop-value : goal.invariant-loop-value
invariant-loop-value g l = record {
  linked : LinksOperands (seen l.fn.ctx) (seen l.ctx) l.op (take l.value-index l.values);
  live : AreLiveValues l.ctx.program l.values;
  numbers : GivesNumbers l.fn.ctx.program l.ctx.program 0;
  types : l.ctx.types ≡ l.fn.ctx.types;
}
