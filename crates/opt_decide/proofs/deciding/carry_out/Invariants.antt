use Rattle.std.proofs.Common.{◌≡◌, take}
use Rattle.opt_decide.specs.Phase.{HasDecided}
use Rattle.opt_decide.proofs.deciding.carry_out.Given as goal

-- the first decisions are carried out
abbrev pub invariant-loop-decision : goal.invariant-loop-decision
invariant-loop-decision g l = record {
  decided : HasDecided g.D.Meanings.meaning l.fn.ctx.program l.ctx.program (take l.decision-index l.decisions);
  types : l.ctx.types ≡ l.fn.ctx.types;
  numbers : l.ctx.program.counter ≡ l.fn.ctx.program.counter;
}
