use Rattle.std.proofs.Common.{take}
use Rattle.opt_chains.specs.stand_ins.Forwarded.{IsForwarded}
use Rattle.opt_chains.specs.stand_ins.Tables.{IsGivenTable}
use Rattle.opt_chains.proofs.stand_ins.forwarding.forwarded_values.Given as goal

-- what is forwarded to the blocks before this one
abbrev pub invariant-loop-join : goal.invariant-loop-join
invariant-loop-join g l = IsGivenTable l.inside.values.keys (IsForwarded g.D.Meanings.meaning l.program (take l.join-index l.joins)) l.given.items
