use Rattle.std.proofs.Common.{◌≡◌, List, take}
use Rattle.ir_program.specs.declared.handles.Value.{Value}
use Rattle.text_dialect.specs.Seen.{seen}
use Rattle.text_frames.specs.building.Kept.{GivesNumbers}
use Rattle.text_frames.specs.building.Made.{LinksOperands}
use Rattle.text_frames.specs.Linking.{AreMeant}
use Rattle.text_frames.proofs.linking.link_one.Given as goal

-- the values that the tokens up to here mean are operands
abbrev pub invariant-loop-token : goal.invariant-loop-token
invariant-loop-token g l = record {
  linked : (vs : List Value) → AreMeant (seen l.fn.ctx) l.values l.resolution.definitions vs
      l.tokens → LinksOperands (seen l.fn.ctx) (seen l.ctx) l.op (take l.token-index vs);
  numbers : GivesNumbers l.fn.ctx.program l.ctx.program 0;
  types : l.ctx.types ≡ l.fn.ctx.types;
}
