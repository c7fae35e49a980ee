use Rattle.std.proofs.Common.{take}
use Rattle.opt_chains.specs.stand_ins.Forwarded.{IsPaired}
use Rattle.opt_chains.specs.stand_ins.Tables.{Gives}
use Rattle.opt_chains.proofs.stand_ins.forwarding.give_arguments.Given as goal

-- the values before this one are given
abbrev pub invariant-loop-index : goal.invariant-loop-index
invariant-loop-index g l = Gives l.inside.values.keys (IsPaired l.program l.block (take l.index l.values)) l.initial.given.items l.given.items
