use Rattle.std.proofs.Common.{◌≡◌, drop, nat_eq}
use Rattle.kit_flat.specs.Machine.{bind_all}
use Rattle.kit_flat.specs.View.{numbers_of}
use Rattle.kit_flat.proofs.frames.bind.Given as goal

abbrev pub invariant-loop-i : goal.invariant-loop-i
invariant-loop-i l = bind_all nat_eq (numbers_of l.values) (drop l.i l.names) (drop l.i l.numbers) ≡ bind_all nat_eq
    (numbers_of l.initial.values) l.names l.numbers
