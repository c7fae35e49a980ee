-- Worked rows: a branch on a number, and what the pass makes of it.
use Rattle.std.proofs.Common.{◌≡◌, ℕ, zero, suc, Bool, true, false, [], ◌∷◌, Some, refl}
use Rattle.kit_behaviour.specs.Machine.{Cases, Const, Branch, Return, Fun, Ended, FunctionsByPath, start, run}
use Rattle.kit_behaviour.specs.Numbering.{place_fun}
use Rattle.kit_behaviour.specs.Places.{Place, Arg, Res, same_place}
use Rattle.kit_behaviour.specs.SimplifiedBlocks.{branched, keep}
use Rattle.kit_behaviour.proofs.ControlFlow.PlacesJoined.{merged}

-- v chooses between no case, 0 and 7
abbrev switch : ℕ → Fun Place
switch v =
    record { arguments = []; ops = Const (Res 0 0 0) v ∷ Const (Res 0 1 0) 3 ∷ Const (Res 0 2 0) 4 ∷ Branch (Cases (0 ∷ 7 ∷ [])) (Res 0 0 0 ∷ []) (record { target = 1; forwards = [] }) (record { target = 2; forwards = Res 0 1 0 ∷ [] } ∷ record { target = 2; forwards = Res 0 2 0 ∷ [] } ∷ []) ∷ [] }
    ∷ record { arguments = []; ops = Return (Res 0 0 0 ∷ []) ∷ [] }
    ∷ record { arguments = Arg 2 0 ∷ []; ops = Return (Arg 2 0 ∷ []) ∷ [] }
    ∷ []

abbrev only : Fun Place → FunctionsByPath Place
only f path = Some f

at_seven : run same_place (only (switch 7)) 5 (start same_place (only (switch 7)) (1 ∷ []) []) ≡ Ended (4 ∷ []) []
at_seven = refl

at_zero : run same_place (only (switch 0)) 5 (start same_place (only (switch 0)) (1 ∷ []) []) ≡ Ended (3 ∷ []) []
at_zero = refl

at_nine : run same_place (only (switch 9)) 5 (start same_place (only (switch 9)) (1 ∷ []) []) ≡ Ended (9 ∷ []) []
at_nine = refl

-- the branch at 7, the blocks that are left, and the chain
abbrev reach : ℕ → Bool
reach (suc zero) = false
reach zero = true
reach (suc (suc b)) = true

abbrev taken : ℕ → Bool
taken zero = false
taken (suc zero) = true
taken (suc (suc b)) = false

abbrev names : Place → Place
names (Arg (suc zero) zero) = Res 0 2 0
names (Arg (suc zero) (suc i)) = Arg 0 0
names (Arg zero i) = Arg zero i
names (Arg (suc (suc b)) i) = Arg (suc (suc b)) i
names (Res b o i) = Res b o i

seven_left : place_fun same_place (merged taken names 1 (place_fun same_place (keep reach (branched (Some (switch 7)))))) ≡ Some (record { arguments = []; ops = Const (Res 0 0 0) 7 ∷ Const (Res 0 1 0) 3 ∷ Const (Res 0 2 0) 4 ∷ Return (Res 0 2 0 ∷ []) ∷ [] } ∷ [])
seven_left = refl
