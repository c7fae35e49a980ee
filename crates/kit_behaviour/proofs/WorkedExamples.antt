-- Worked rows, by computation.
use Rattle.std.proofs.Common.{◌≡◌, ℕ, zero, suc, Bool, true, false, [], ◌∷◌, Some, None, refl}
use Rattle.kit_ops.specs.declared.arithmetic.Arithmetic.TheVariants.{Add, Sub, Mul}
use Rattle.kit_ops.specs.declared.arithmetic.Comparison.TheVariants.{Equal}
use Rattle.kit_behaviour.specs.Machine.{Calculated, Compared, Edge, Const, Calc, Call, Plain, Nonzero, Branch, Return, Fun, State, Going, Ended, Trapped, FunctionsByPath, start, run, left_in}
use Rattle.kit_behaviour.specs.InsertedConstants.{same_name, Made, with_constants}
use Rattle.kit_behaviour.specs.RemovedValues.{thinned}
use Rattle.kit_behaviour.specs.Numbering.{placed}
use Rattle.kit_behaviour.specs.Places.{Place, Arg, Res, same_place}
use Rattle.kit_behaviour.specs.Facts.{branch_knows, Lacks, Open, Fact, Undetermined, Known, Unknown, FactAtOrBelow, folds_to, FunctionFacts, OpsClosed, AreClosedFacts, AreMostPreciseFacts}
use Rattle.kit_behaviour.specs.ConstantPropagation.{all_wanted, IsSccpOfFunctions}
use Rattle.kit_behaviour.specs.DeadValues.{all_uses_dead}
use Rattle.kit_behaviour.proofs.Lattice.FactLemmas.{at_trans, fold_mono}

abbrev only : Fun Place → FunctionsByPath Place
only f path = Some f

abbrev plain : ℕ → Edge Place
plain b = record { target = b; forwards = [] }

-- n times the factorial of n - 1, by a call of itself
abbrev factorial : Fun Place
factorial =
    record { arguments = Arg 0 0 ∷ []; ops = Const (Res 0 0 0) 0 ∷ Const (Res 0 1 0) 1 ∷ Calc (Compared Equal) 64 (Res 0 2 0) (Arg 0 0) (Res 0 0 0) ∷ Branch Nonzero (Res 0 2 0 ∷ []) (plain 1) (plain 2 ∷ []) ∷ [] }
    ∷ record { arguments = []; ops = Return (Res 0 1 0 ∷ []) ∷ [] }
    ∷ record { arguments = []; ops = Calc (Calculated Sub) 64 (Res 2 0 0) (Arg 0 0) (Res 0 1 0) ∷ Call (Res 2 1 0 ∷ []) 7 (Res 2 0 0 ∷ []) ∷ Calc (Calculated Mul) 64 (Res 2 2 0) (Arg 0 0) (Res 2 1 0) ∷ Return (Res 2 2 0 ∷ []) ∷ [] }
    ∷ []

abbrev is_going : {V : Type 0} → State V → Bool
is_going (Going fs o) = true
is_going (Ended ns o) = false
is_going (Trapped o) = false

ends : run same_place (only factorial) 29 (start same_place (only factorial) (7 ∷ []) (3 ∷ [])) ≡ Ended (6 ∷ []) []
ends = refl

not_before : is_going (run same_place (only factorial) 28 (start same_place (only factorial) (7 ∷ []) (3 ∷ []))) ≡ true
not_before = refl

-- a known sum: its constant is put before it, and what is returned names it
abbrev sum : Fun Place
sum = record { arguments = []; ops = Const (Res 0 0 0) 255 ∷ Const (Res 0 1 0) 1 ∷ Calc (Calculated Add) 8 (Res 0 2 0) (Res 0 0 0) (Res 0 1 0) ∷ Return (Res 0 2 0 ∷ []) ∷ [] } ∷ []

abbrev made : Made Place
made (Arg b i) = None
made (Res b (suc (suc o)) i) = Some 0
made (Res b _ i) = None

sum_after : placed (same_name same_place) (with_constants (λ path. made) (only sum)) (1 ∷ []) ≡ Some (record { arguments = []; ops = Const (Res 0 0 0) 255 ∷ Const (Res 0 1 0) 1 ∷ Const (Res 0 2 0) 0 ∷ Calc (Calculated Add) 8 (Res 0 3 0) (Res 0 0 0) (Res 0 1 0) ∷ Return (Res 0 2 0 ∷ []) ∷ [] } ∷ [])
sum_after = refl

sum_ends : run same_place (only sum) 4 (start same_place (only sum) (1 ∷ []) []) ≡ Ended (0 ∷ []) []
sum_ends = refl

-- an argument that only a dead operation uses goes, with what is forwarded to it
abbrev forwarding_sum : Fun Place
forwarding_sum =
    record { arguments = []; ops = Const (Res 0 0 0) 1 ∷ Branch Plain [] (record { target = 1; forwards = Res 0 0 0 ∷ [] }) [] ∷ [] }
    ∷ record { arguments = Arg 1 0 ∷ []; ops = Calc (Calculated Add) 8 (Res 1 0 0) (Arg 1 0) (Arg 1 0) ∷ Return [] ∷ [] }
    ∷ []

forwarding_sum_after : placed same_place (thinned (λ path v. true) (only forwarding_sum)) (1 ∷ []) ≡ Some (record { arguments = []; ops = Branch Plain [] (plain 1) [] ∷ [] } ∷ record { arguments = []; ops = Return [] ∷ [] } ∷ [])
forwarding_sum_after = refl

-- its most precise facts: nothing is said of what isn't there
abbrev first_runs : ℕ → Bool
first_runs zero = true
first_runs (suc b) = false

abbrev sum_value : Place → Fact
sum_value (Res zero zero zero) = Known 255
sum_value (Res zero (suc zero) zero) = Known 1
sum_value (Res zero (suc (suc zero)) zero) = Known 0
sum_value (Res zero zero (suc i)) = Undetermined
sum_value (Res zero (suc zero) (suc i)) = Undetermined
sum_value (Res zero (suc (suc zero)) (suc i)) = Undetermined
sum_value (Res zero (suc (suc (suc o))) i) = Undetermined
sum_value (Res (suc b) o i) = Undetermined
sum_value (Arg b i) = Undetermined

abbrev sum_facts : FunctionFacts Place
sum_facts = record { runs = first_runs; of = sum_value }

top : (z : Fact) → FactAtOrBelow z Undetermined
top Undetermined = tt
top (Known n) = tt
top Unknown = tt

later_closed : (b : ℕ) → OpsClosed (Some sum) sum_facts (left_in (Some sum) (suc b) 0)
later_closed b = tt

sum_closed : AreClosedFacts (Some sum) sum_facts
sum_closed = record { entry_runs = refl; entry_unknown = tt; ops = each }
  where
    each : (b : ℕ) → first_runs b ≡ true → OpsClosed (Some sum) sum_facts (left_in (Some sum) b 0)
    each zero r = (refl, (refl, (refl, (tt, tt))))
    each (suc b) r = later_closed b

sum_least : (l : FunctionFacts Place) → AreClosedFacts (Some sum) l → (v : Place) → FactAtOrBelow (l.of v) (sum_value v)
sum_least l c (Res zero zero zero) = (c.ops 0 c.entry_runs).0
sum_least l c (Res zero (suc zero) zero) = (c.ops 0 c.entry_runs).1.0
sum_least l c (Res zero (suc (suc zero)) zero) =
    at_trans (l.of (Res 0 2 0)) (folds_to (Calculated Add) 8 (l.of (Res 0 0 0)) (l.of (Res 0 1 0))) (Known 0) (c.ops 0 c.entry_runs).1.1.0
    (fold_mono (Calculated Add) 8 (l.of (Res 0 0 0)) (Known 255) (l.of (Res 0 1 0)) (Known 1) (c.ops 0 c.entry_runs).0 (c.ops 0 c.entry_runs).1.0)
sum_least l c (Res zero zero (suc i)) = top (l.of (Res 0 0 (suc i)))
sum_least l c (Res zero (suc zero) (suc i)) = top (l.of (Res 0 1 (suc i)))
sum_least l c (Res zero (suc (suc zero)) (suc i)) = top (l.of (Res 0 2 (suc i)))
sum_least l c (Res zero (suc (suc (suc o))) i) = top (l.of (Res 0 (suc (suc (suc o))) i))
sum_least l c (Res (suc b) o i) = top (l.of (Res (suc b) o i))
sum_least l c (Arg b i) = top (l.of (Arg b i))

sum_best : AreMostPreciseFacts (Some sum) sum_facts
sum_best = record { closed = sum_closed; best = λ l c. record { fewer = fewer l c; above = sum_least l c } }
  where
    fewer : (l : FunctionFacts Place) → AreClosedFacts (Some sum) l → (b : ℕ) → first_runs b ≡ true → l.runs b ≡ true
    fewer l c zero r = c.entry_runs
    fewer l c (suc b) r = absurd (cc r)

-- the row: the pass of these facts, and no other, gives this
sum_is : IsSccpOfFunctions all_wanted (only sum) (λ path. Some (record { arguments = []; ops = Const (Res 0 0 0) 255 ∷ Const (Res 0 1 0) 1 ∷ Const (Res 0 2 0) 0 ∷ Calc (Calculated Add) 8 (Res 0 3 0) (Res 0 0 0) (Res 0 1 0) ∷ Return (Res 0 2 0 ∷ []) ∷ [] } ∷ []))
sum_is = record { facts = λ path. sum_facts; best = λ path. sum_best; is = λ path. refl }

-- a loop that only passes an argument on keeps it: the least set is empty there
abbrev looping : Fun Place
looping =
    record { arguments = Arg 0 0 ∷ []; ops = Branch Plain [] (record { target = 1; forwards = Arg 0 0 ∷ [] }) [] ∷ [] }
    ∷ record { arguments = Arg 1 0 ∷ []; ops = Branch Plain [] (record { target = 1; forwards = Arg 1 0 ∷ [] }) [] ∷ [] }
    ∷ []

loop_kept : all_uses_dead same_place (Some looping) (λ v. false) (Arg 1 0) ≡ false
loop_kept = refl

-- a branch asks nothing while a value that it forwards is undetermined, whatever decides it
abbrev nothing_known : FunctionFacts Place
nothing_known = record { runs = λ b. true; of = λ v. Undetermined }

asks_nothing : branch_knows nothing_known [] (record { target = 1; forwards = Arg 0 0 ∷ [] } ∷ []) ≡ Lacks
asks_nothing = refl

-- and all of its edges, where none is and one that decides it is unknown
abbrev all_unknown : FunctionFacts Place
all_unknown = record { runs = λ b. true; of = λ v. Unknown }

asks_all : branch_knows all_unknown (Res 0 0 0 ∷ []) (record { target = 1; forwards = Arg 0 0 ∷ [] } ∷ []) ≡ Open
asks_all = refl
