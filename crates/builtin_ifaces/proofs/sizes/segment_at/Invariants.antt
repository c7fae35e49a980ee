use Rattle.std.proofs.Common.{◌≡◌, ◌≤◌, sum, take}
use Rattle.builtin_ifaces.proofs.sizes.segment_at.Given as goal

-- the next segment begins behind those before it, and the one that is asked for is none of these
abbrev pub invariant-loop-i : goal.invariant-loop-i
invariant-loop-i l = record { before : l.start ≡ sum (take l.i l.sizes); earlier : l.i ≤ l.s }
