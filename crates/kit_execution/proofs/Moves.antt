-- Runs of functions that are safe move on in every state.
use Rattle.std.proofs.Common.{◌≡◌, ℕ, zero, suc, ◌<◌, List, [], ◌∷◌, map, drop, length, Option, Some, None, IsSome, option_map, unwrap_or, slice_get, refl, sym, ap, ◌∙◌, subst}
use Rattle.ir_program.specs.Program.{BlockView, block_at}
use Rattle.ir_program.specs.Lists.{operations_in}
use Rattle.ir_program.specs.Replacing.{same_value}
use Rattle.ir_program.specs.declared.handles.Ptr.{Ptr}
use Rattle.ir_program.specs.declared.handles.Operation.{Operation}
use Rattle.ir_program.specs.declared.handles.BasicBlock.{BasicBlock}
use Rattle.ir_program.specs.declared.handles.Value.{Value}
use Rattle.ir_trees.specs.Searched.{Lists}
use Rattle.kit.specs.Context.{KitContext}
use Rattle.kit.specs.Meaning.{KitBlock}
use Rattle.kit_ops.specs.Arithmetic.{calc, compare, bit}
use Rattle.kit_flat.specs.Machine as machine
use Rattle.kit_flat.specs.Machine.{Other, Code, MachineEdge, MachineFrame, MachineState, Going, Ended, Trapped, next, follow, chosen, with_result, effect, after, first_frame, on_top, returned, operations_from, rest_of, step, run, start}
use Rattle.kit_checks.proofs.Everys.{at_index}
use Rattle.kit_places.specs.Store.{body_of, block_seen, module_code, op_at}
use Rattle.kit_execution.specs.Moving.{HasExecuted, Moves}
use Rattle.kit_execution.proofs.Safe.{IsCallee, IsSafe}
use Rattle.kit_execution.proofs.Shapes.{KitSeen, GoesOn}

abbrev KitCode : Type 0
KitCode = Code Value (Ptr BasicBlock) (Ptr Operation)

abbrev KitFrame : Type 0
KitFrame = MachineFrame Value (Ptr BasicBlock) (Ptr Operation)

abbrev KitState : Type 0
KitState = MachineState Value (Ptr BasicBlock) (Ptr Operation)

abbrev KitEdge : Type 0
KitEdge = MachineEdge Value (Ptr BasicBlock)

-- what is left of a list from a member on begins with it
dropped : {X Y : Type 0} (g : X → Y) (xs : List X) (i : ℕ) (x : X) → slice_get xs i ≡ Some x → (rest : List Y) × (drop i (map g xs) ≡ g x ∷ rest)
dropped g [] i x h = cc
dropped g (y ∷ ys) zero x h = let same : y ≡ x = cc in (map g ys, ap (λ z. g z ∷ map g ys) same)
dropped g (y ∷ ys) (suc i) x h = dropped g ys i x h

module _ (s : KitContext) (m : Ptr Operation) (safe : (g : Ptr Operation) → IsCallee s m g → IsSafe s m g) where
  abbrev code : KitCode
  code = module_code s m

  -- a frame of a function of the module, in one of its blocks, at an operation there
  record IsAt (f : KitFrame) : Type 0 where
    callee : IsCallee s m f.function
    listed : Lists (body_of s.program f.function) f.block
    here : f.index < length (operations_in s.program f.block)

  -- so, with an operation behind it
  record IsWaiting (f : KitFrame) : Type 0 where
    callee : IsCallee s m f.function
    listed : Lists (body_of s.program f.function) f.block
    behind : suc f.index < length (operations_in s.program f.block)

  abbrev AllWait : List KitFrame → Type 0
  AllWait [] = Unit {0}
  AllWait (f ∷ fs) = IsWaiting f × AllWait fs

  -- the innermost frame is at an operation, and the others wait
  abbrev IsRunning : KitState → Type 0
  IsRunning (Going [] out) = ⊥
  IsRunning (Going (f ∷ fs) out) = IsAt f × AllWait fs
  IsRunning (Ended values out) = Unit {0}
  IsRunning (Trapped out) = Unit {0}

  -- ---- frames

  next_at : (f : KitFrame) (numbers : Value → ℕ) → IsWaiting f → IsAt (next f numbers)
  next_at f numbers w = record { callee = w.callee; listed = w.listed; here = w.behind }

  waiting : (f : KitFrame) → IsAt f → suc f.index < length (operations_in s.program f.block) → IsWaiting f
  waiting f at more = record { callee = at.callee; listed = at.listed; behind = more }

  follow_at : (f : KitFrame) (e : KitEdge) → IsAt f → Lists (body_of s.program f.function) e.target → IsAt (follow same_value code f e)
  follow_at f e at target = record { callee = at.callee; listed = target; here = (safe f.function at.callee).filled e.target target }

  chosen_at : (f : KitFrame) (n : ℕ) (e d : KitEdge) → IsAt f → Lists (body_of s.program f.function) e.target → Lists (body_of s.program f.function) d.target
      → IsAt (follow same_value code f (chosen n d e))
  chosen_at f zero e d at te td = follow_at f d at td
  chosen_at f (suc n) e d at te td = follow_at f e at te

  -- a function that is entered is at its first operation
  entered_on : (g : Ptr Operation) (xs : List ℕ) (fs : List KitFrame) (out : List ℕ) → IsCallee s m g → AllWait fs
      → IsSome (code.entry g) × IsRunning (on_top (option_map (first_frame same_value code g xs) (code.entry g)) fs out)
  entered_on g xs fs out callee waits =
      let b = at_index (body_of s.program g) 0 (safe g callee).entry in
      let listed : Lists (body_of s.program g) b.0 = (0, b.1) in (
        subst IsSome (sym b.1) refl,
        subst (λ (o : Option (Ptr BasicBlock)). IsRunning (on_top (option_map (first_frame same_value code g xs) o) fs out)) (sym b.1)
            (record { callee = callee; listed = listed; here = (safe g callee).filled b.0 listed }, waits),
      )

  returned_on : (fs : List KitFrame) (ns out : List ℕ) → AllWait fs → IsRunning (returned same_value code fs ns out)
  returned_on [] ns out waits = tt
  returned_on (f ∷ fs) ns out waits = (next_at f (machine.bind_all same_value f.numbers (machine.results_of (rest_of code f)) ns) waits.0, waits.1)

  -- ---- operations

  module _ (f : KitFrame) (fs : List KitFrame) (out : List ℕ) (at : IsAt f) (waits : AllWait fs) where
    -- the effect of these operations isn't a standstill, and what comes of it goes on
    abbrev GoesWell : List KitSeen → Type 0
    GoesWell os = HasExecuted same_value code (effect same_value code f os) × IsRunning (after same_value code f fs out (effect same_value code f os))

    result_well : (r : Value) (o : Option ℕ) → suc f.index < length (operations_in s.program f.block)
        → HasExecuted same_value code (with_result same_value f r o) × IsRunning (after same_value code f fs out (with_result same_value f r o))
    result_well r None more = (tt, tt)
    result_well r (Some n) more = (tt, (next_at f (machine.bind same_value f.numbers r n) (waiting f at more), waits))

    goes_well : (o : KitSeen) (rest : List KitSeen)
        → GoesOn (suc f.index < length (operations_in s.program f.block)) (Lists (body_of s.program f.function)) (IsCallee s m) o → GoesWell (o ∷ rest)
    goes_well (machine.Constant r n) rest more = (tt, (next_at f (machine.bind same_value f.numbers r n) (waiting f at more), waits))
    goes_well (machine.Calculate a w r x y) rest more = result_well r (calc a w (f.numbers x) (f.numbers y)) more
    goes_well (machine.Compare a r x y) rest more =
        (tt, (next_at f (machine.bind same_value f.numbers r (bit (compare a (f.numbers x) (f.numbers y)))) (waiting f at more), waits))
    goes_well (machine.Emit x) rest more = (tt, (next_at f f.numbers (waiting f at more), waits))
    goes_well (machine.Call rs None xs) rest none = absurd none
    goes_well (machine.Call rs (Some g) xs) rest goes = entered_on g (map f.numbers xs) (f ∷ fs) out goes.0 (waiting f at goes.1, waits)
    goes_well (machine.Br e) rest target = (tt, (follow_at f e at target, waits))
    goes_well (machine.CondBr x e d) rest targets = (tt, (chosen_at f (f.numbers x) e d at targets.0 targets.1, waits))
    goes_well (machine.Return xs) rest end = (tt, returned_on fs (map f.numbers xs) out waits)
    goes_well Other rest none = absurd none

    -- what is left in the block begins with an operation
    left : (o : Option (BlockView KitBlock)) → block_at s.program f.block ≡ o → IsSome o → GoesWell (rest_of code f)
    left None is some = absurd (cc)
    left (Some v) is some =
        let listed : operations_in s.program f.block ≡ v.operations = ap (λ o. unwrap_or (option_map (λ (w : BlockView KitBlock). w.operations) o) []) is in
        let q = at_index (operations_in s.program f.block) f.index at.here in
        let here : slice_get v.operations f.index ≡ Some q.0 = sym (ap (λ (ps : List (Ptr Operation)). slice_get ps f.index) listed) ∙ q.1 in
        let d = dropped (op_at s m) v.operations f.index q.0 here in
        let rest : rest_of code f ≡ op_at s m q.0 ∷ d.0 = ap (λ (o : Option (BlockView KitBlock)). operations_from (option_map (block_seen s m) o) f.index) is ∙ d.1 in
        subst GoesWell (sym rest) (goes_well (op_at s m q.0) d.0 ((safe f.function at.callee).goes_on f.block f.index q.0 at.listed q.1))

    frame_well : GoesWell (rest_of code f)
    frame_well = left (block_at s.program f.block) refl ((safe f.function at.callee).live f.block at.listed)

  -- ---- runs

  step_well : (x : KitState) → IsRunning x → Moves same_value code x × IsRunning (step same_value code x)
  step_well (Going [] out) runs = absurd runs
  step_well (Going (f ∷ fs) out) runs = frame_well f fs out runs.0 runs.1
  step_well (Ended values out) runs = (tt, tt)
  step_well (Trapped out) runs = (tt, tt)

  run_well : (n : ℕ) (x : KitState) → IsRunning x → IsRunning (run same_value code n x)
  run_well zero x runs = runs
  run_well (suc n) x runs = run_well n (step same_value code x) (step_well x runs).1

  pub moves_on : (f : Ptr Operation) → IsCallee s m f → (xs : List ℕ) (n : ℕ) → Moves same_value code (run same_value code n (start same_value code f xs))
  moves_on f callee xs n = (step_well (run same_value code n (start same_value code f xs)) (run_well n (start same_value code f xs) (entered_on f xs [] [] callee tt).1)).0
