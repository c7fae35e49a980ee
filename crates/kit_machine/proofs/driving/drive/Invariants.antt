use Rattle.std.proofs.Common.{◌≡◌, nat_eq}
use Rattle.kit_flat.specs.Machine.{run}
use Rattle.kit_flat.specs.View.{flat_code, state_view}
use Rattle.kit_flat.specs.Sound.{IsRunning}
use Rattle.kit_machine.proofs.driving.drive.Given as goal

abbrev pub invariant-loop-left : goal.invariant-loop-left
invariant-loop-left l = record {
  same : run nat_eq (flat_code l.code.functions.items) l.left (state_view l.running) ≡ run nat_eq
      (flat_code l.code.functions.items) l.limit (state_view l.initial.running);
  going : IsRunning l.code.functions.items l.running;
}

abbrev pub decreases-loop-left : goal.decreases-loop-left
decreases-loop-left l = l.left
