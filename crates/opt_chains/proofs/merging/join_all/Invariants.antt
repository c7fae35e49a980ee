use Rattle.std.proofs.Common.{◌≡◌, take}
use Rattle.opt_chains.specs.Merging.{HasJoined}
use Rattle.opt_chains.proofs.merging.join_all.Given as goal

-- the steps up to here are taken
abbrev pub invariant-loop-join : goal.invariant-loop-join
invariant-loop-join g l = record { joined : HasJoined l.fn.ctx.program l.ctx.program (take l.join-index l.joins); types : l.ctx.types ≡ l.fn.ctx.types; numbers : l.ctx.program.counter ≡ l.fn.ctx.program.counter }
