-- When runs of functions agree: those of one input, and those of what `run` reads and of the text that it writes. An answer
-- of a run is what `ExecutionGives`: an outcome, or why there is none.
use Rattle.std.specs.Prelude.{◌≡◌, ◌≤◌, ◌*◌, ℕ, suc, ◌+◌, List, [], ◌∷◌, Result, Ok, Err}
use Rattle.ir_program.specs.declared.handles.Operation.{Operation}
use Rattle.ir_program.specs.declared.handles.Ptr.{Ptr}
use Rattle.kit.specs.Context.{KitContext}
use Rattle.kit_behaviour.specs.Machine.{IsPrefixOf}
use Rattle.kit_flat.specs.declared.outcome.Outcome.{Outcome}
use Rattle.kit_flat.specs.declared.outcome.Outcome.TheVariants.{Ended, Trapped, Limit}
use Rattle.kit_interpreter.specs.declared.executing.ExecFault.{ExecFault}
use Rattle.kit_interpreter.specs.declared.executing.ExecFault.TheVariants.{Memory, WrongPath, WrongArguments}
use Rattle.kit_ops.specs.declared.pass.KitPass.{KitPass}
use Rattle.kit_ruled_views.specs.Operations.{operations_below}
use Rattle.irkit_refusals.specs.Texts.{IsAcceptedAs}
use Rattle.irkit_running.specs.Outcomes.{ExecutionGives, RunGives}
use Rattle.irkit_running.specs.Paths.{IsAnswerOfRun}

-- what was emitted, first to last
abbrev pub emissions_of : Outcome → List ℕ
emissions_of (Ended values emissions) = emissions.items
emissions_of (Trapped emissions) = emissions.items
emissions_of (Limit emissions) = emissions.items

-- The two show the same: both ended with the same values, or both trapped, or of both the steps ran out, and the same was
-- emitted.
abbrev pub AreSameOutcomes : Outcome → Outcome → Type 0
AreSameOutcomes (Ended values emissions) (Ended others sent) = (values.items ≡ others.items) × (emissions.items ≡ sent.items)
AreSameOutcomes (Trapped emissions) (Trapped sent) = emissions.items ≡ sent.items
AreSameOutcomes (Limit emissions) (Limit sent) = emissions.items ≡ sent.items
AreSameOutcomes _ _ = ⊥

-- What the first shows the second shows, too: where the first is over they are the same, and where its steps ran out the
-- second emitted at least what it did, in that order, first.
abbrev pub ShowsOutcome : Outcome → Outcome → Type 0
ShowsOutcome (Limit emissions) b = IsPrefixOf emissions.items (emissions_of b)
ShowsOutcome a b = AreSameOutcomes a b

-- the run ended or trapped
abbrev pub IsOver : Outcome → Type 0
IsOver (Ended values emissions) = Unit {0}
IsOver (Trapped emissions) = Unit {0}
IsOver (Limit emissions) = ⊥

-- Both are outcomes, or both are refused for the same fault: the path or the numbers are wrong in both or in neither. Where
-- memory was refused nothing is known.
abbrev pub AreRefusedAlike : Result Outcome ExecFault → Result Outcome ExecFault → Type 0
AreRefusedAlike (Err Memory) answer = Unit {0}
AreRefusedAlike answer (Err Memory) = Unit {0}
AreRefusedAlike (Ok a) (Ok b) = Unit {0}
AreRefusedAlike (Err WrongPath) (Err WrongPath) = Unit {0}
AreRefusedAlike (Err WrongArguments) (Err WrongArguments) = Unit {0}
AreRefusedAlike _ _ = ⊥

-- 1. one input

-- Whether a run is refused, and why, is told by the bytes, the path and the numbers alone: not by the context that the bytes
-- are read into, nor by the limit.
abbrev pub OneRefusal : Type 0
OneRefusal = (bytes word xs : List ℕ) (n m : ℕ) (a b : Result Outcome ExecFault) → ExecutionGives bytes word xs n a →
    ExecutionGives bytes word xs m b → AreRefusedAlike a b

-- With one limit there is one outcome.
abbrev pub OneOutcome : Type 0
OneOutcome = (bytes word xs : List ℕ) (n : ℕ) (a b : Outcome) → ExecutionGives bytes word xs n (Ok a) →
    ExecutionGives bytes word xs n (Ok b) → AreSameOutcomes a b

-- It is the outcome in whatever context the input is read into.
abbrev pub SameAnywhere : Type 0
SameAnywhere = (bytes word xs : List ℕ) (n : ℕ) (a : Outcome) → ExecutionGives bytes word xs n (Ok a) → (s : KitContext)
    (root : Ptr Operation) → IsAcceptedAs bytes s root → IsAnswerOfRun s root word xs n (Ok a)

-- With a larger limit the outcome shows no less, and what was over stays as it was.
abbrev pub LongerShowsMore : Type 0
LongerShowsMore = (bytes word xs : List ℕ) (n m : ℕ) (a b : Outcome) → n ≤ m → ExecutionGives bytes word xs n (Ok a) →
    ExecutionGives bytes word xs m (Ok b) → ShowsOutcome a b

-- 2. what `run` reads, and what it writes

-- What a run in the first input shows in n steps the run in the other, of the same path on the same numbers, shows in n * c
-- steps, so with each limit that is no smaller.
abbrev pub FollowsIn : ℕ → List ℕ → List ℕ → Type 0
FollowsIn c bytes other = (word xs : List ℕ) (n m : ℕ) (a b : Outcome) → n * c ≤ m → ExecutionGives bytes word xs n (Ok a) →
    ExecutionGives other word xs m (Ok b) → ShowsOutcome a b

-- What a run in the first input comes to in n steps, where it ended or trapped, the run in the other comes to in at most
-- n * c steps, in whatever context that is read into.
abbrev pub EndsIn : ℕ → List ℕ → List ℕ → Type 0
EndsIn c bytes other = (word xs : List ℕ) (n : ℕ) (a : Outcome) → IsOver a → ExecutionGives bytes word xs n (Ok a) →
    (s : KitContext) (root : Ptr Operation) → IsAcceptedAs other s root →
    (m : ℕ) × (m ≤ n * c) × IsAnswerOfRun s root word xs m (Ok a)

-- The runs in the one follow those in the other, within this factor, and come to the same end.
pub record ExecuteAlike (c : ℕ) (bytes text : List ℕ) : Type 0 where
  pub there : FollowsIn c bytes text
  pub back : FollowsIn c text bytes
  pub ends : EndsIn c bytes text
  pub ends_back : EndsIn c text bytes

-- Runs of the text that `run` writes are refused where those of what it reads are, for the same fault.
abbrev pub WrittenRefuseAlike : Type 0
WrittenRefuseAlike = (passes : List KitPass) (bytes text : List ℕ) → RunGives passes bytes text → (word xs : List ℕ)
    (n m : ℕ) (a b : Result Outcome ExecFault) → ExecutionGives bytes word xs n a → ExecutionGives text word xs m b →
    AreRefusedAlike a b

-- All runs of the two are alike within one factor.
abbrev pub WrittenExecuteAlike : Type 0
WrittenExecuteAlike = (passes : List KitPass) (bytes text : List ℕ) → RunGives passes bytes text →
    (c : ℕ) × ExecuteAlike c bytes text

-- Of one pass it is one more than the operations of both modules, below the modules themselves.
abbrev pub OnePassExecutesAlike : Type 0
OnePassExecutesAlike = (pass : KitPass) (bytes text : List ℕ) (h : RunGives (pass ∷ []) bytes text) →
    ExecuteAlike (suc (operations_below h.accepted.0.holds.tree + operations_below h.gives.written.holds.tree)) bytes text
