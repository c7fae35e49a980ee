-- What the answers of the interpreter say of the machine's states.
use Rattle.std.specs.Prelude.{◌≡◌, ℕ, ◌+◌, List, ◌∷◌, set, map, reverse, nat_eq}
use Rattle.kit_flat.specs.Machine.{MachineFrame, MachineState, Going, Ended, Trapped, follow, step}
use Rattle.kit_flat.specs.declared.flat.FlatEdge.{FlatEdge}
use Rattle.kit_flat.specs.declared.flat.FlatFunction.{FlatFunction}
use Rattle.kit_flat.specs.declared.interpreter.Running.{Running}
use Rattle.kit_flat.specs.declared.interpreter.Turn.{Turn}
use Rattle.kit_flat.specs.declared.interpreter.Turn.TheVariants.{On, Over, Failed, Lost}
use Rattle.kit_flat.specs.declared.outcome.Outcome.{Outcome}
use Rattle.kit_flat.specs.declared.outcome.Outcome.TheVariants as outcomes
use Rattle.kit_flat.specs.View.{frame_view, edge_view, flat_code, state_view}
use Rattle.kit_flat.specs.Sound.{IsRunning}

-- the state is what the outcome says: ended with values, trapped, or going on, with what was emitted
abbrev pub OutcomeShows : {V B F : Type 0} → MachineState V B F → Outcome → Type 0
OutcomeShows {V} {B} {F} s (outcomes.Ended values emissions) = s ≡ Ended values.items emissions.items
OutcomeShows {V} {B} {F} s (outcomes.Trapped emissions) = s ≡ Trapped emissions.items
OutcomeShows {V} {B} {F} s (outcomes.Limit emissions) = (frames : List (MachineFrame V B F))
    × (s ≡ Going frames emissions.items)

-- the state after a step: r goes on, it has ended with these values, it has trapped, or it stays as it is
abbrev pub TurnShows : List FlatFunction → MachineState ℕ ℕ ℕ → Running → Turn → Type 0
TurnShows fs s r On = (s ≡ state_view r) × IsRunning fs r
TurnShows fs s r (Over values) = s ≡ Ended values.items r.emissions.items
TurnShows fs s r Failed = s ≡ Trapped r.emissions.items
TurnShows fs s r Lost = (s ≡ state_view r) × (step nat_eq (flat_code fs) s ≡ s)

-- the state in which the frame on top went along an edge, and all else stays
abbrev pub along : List FlatFunction → Running → FlatEdge → MachineState ℕ ℕ ℕ
along fs r e = Going (follow nat_eq (flat_code fs) (frame_view r.top) (edge_view e) ∷ map frame_view (reverse r.waiting.items))
    r.emissions.items

-- the value is bound to the number, the frame on top is at its next instruction, and all else stays
pub record BindsNumber (r t : Running) (value number : ℕ) : Type 0 where
  pub function_same : t.top.function ≡ r.top.function
  pub block_same : t.top.block ≡ r.top.block
  pub index_next : t.top.index ≡ r.top.index + 1
  pub bound : t.top.values.items ≡ set r.top.values.items value number
  pub waiting_same : t.waiting.items ≡ r.waiting.items
  pub emissions_same : t.emissions.items ≡ r.emissions.items
