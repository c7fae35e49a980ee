use Rattle.std.proofs.Common.{◌≡◌, take}
use Rattle.ir_program.specs.Edits.{KeepsErased}
use Rattle.text_dialect.specs.Seen.{seen}
use Rattle.text_frames.specs.building.Inside.{ErasesNodes, KeepsPayloadsOutside}
use Rattle.text_frames.proofs.building.discarding.erase_all.Given as goal

-- the things up to here are erased
abbrev pub invariant-loop-thing : goal.invariant-loop-thing
invariant-loop-thing g l = record {
  gone : ErasesNodes (seen l.fn.ctx) (seen l.ctx) (take l.thing-index l.things);
  erased : KeepsErased l.fn.ctx.program l.ctx.program;
  payloads : KeepsPayloadsOutside (seen l.fn.ctx) l.things l.fn.ctx.program l.ctx.program;
  types : l.ctx.types ≡ l.fn.ctx.types;
}
