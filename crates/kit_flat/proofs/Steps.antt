-- One step of the flat form is one step of what the machine sees of it.
use Rattle.std.proofs.Common.{◌≡◌, ℕ, zero, suc, ◌+◌, ◌-◌, ◌^◌, ◌<◌, List, [], ◌∷◌, ◌++◌, length, get_or, map, reverse, refl, ap, sym, ◌∙◌, subst, arith, nat_eq, Some, None, Option, slice_get, Vec, Global}
use Rattle.std.specs.Option.{option_map}
use Rattle.std.specs.List.{All}
use Rattle.std.proofs.lemmas.List.{length-set, reverse-append}
use Rattle.std.proofs.lemmas.List.Elements.{All-push, All-pop}
use Rattle.kit_ops.specs.declared.arithmetic.Arithmetic.{Arithmetic}
use Rattle.kit_ops.specs.declared.arithmetic.Comparison.{Comparison}
use Rattle.kit_flat.specs.Machine.{MachineOp, Code, MachineFrame, MachineState, Going, Ended, Trapped}
use Rattle.kit_flat.specs.Machine.{MachineEffect, Next, Stays, arguments_of, operations_from, rest_of, effect}
use Rattle.kit_flat.specs.Machine.{after, returned, bind, bind_all, next, follow, with_result, chosen}
use Rattle.kit_flat.specs.Machine.{first_frame, entered, on_top, resumed, results_of, step}
use Rattle.kit_ops.specs.Arithmetic.{calc, compare, bit}
use Rattle.kit_flat.specs.declared.flat.FlatEdge.{FlatEdge}
use Rattle.kit_flat.specs.declared.flat.Instruction.{Instruction}
use Rattle.kit_flat.specs.declared.flat.Instruction.TheVariants.{Constant, Calculate, Compare, Emit, Call, Br, CondBr, Return}
use Rattle.kit_flat.specs.declared.flat.FlatBlock.{FlatBlock}
use Rattle.kit_flat.specs.declared.flat.FlatFunction.{FlatFunction}
use Rattle.kit_flat.specs.declared.frames.FlatFrame.{FlatFrame}
use Rattle.kit_flat.specs.declared.interpreter.Running.{Running}
use Rattle.kit_flat.specs.declared.interpreter.Turn.TheVariants.{On}
use Rattle.kit_flat.specs.View.{edge_view, op_view, block_view, block_in, flat_code, count_of, numbers_of, frame_view, state_view}
use Rattle.kit_flat.specs.Sound.{FlatFunctionsFit, InstructionFits, Fetched, IsActive, IsAtInstruction, IsRunning, instruction_in, results_named}
use Rattle.kit_flat.specs.Shows.{TurnShows, BindsNumber, along}
use Rattle.kit_flat.proofs.Binds.{bind_set}
use Rattle.kit_flat.proofs.Places.{rest_at, rest_none}

-- the frame on top went along an edge, and all else stays
pub record FollowsEdge (fs : List FlatFunction) (r t : Running) (e : FlatEdge) : Type 0 where
  pub goes : frame_view t.top ≡ follow nat_eq (flat_code fs) (frame_view r.top) (edge_view e)
  pub active : IsActive fs t.top
  pub waiting_same : t.waiting.items ≡ r.waiting.items
  pub emissions_same : t.emissions.items ≡ r.emissions.items

module _ (fs : List FlatFunction) where
  abbrev P : Code ℕ ℕ ℕ
  P = flat_code fs

  abbrev block_of : FlatFrame → Option FlatBlock
  block_of a = block_in (slice_get fs a.function) a.block

  abbrev rest : FlatFrame → List (MachineOp ℕ ℕ ℕ)
  rest a = operations_from (option_map block_view (block_of a)) (suc a.index)

  effect_at : (a : FlatFrame) (x : Instruction) → Fetched fs a (Some x)
      → effect nat_eq P (frame_view a) (rest_of P (frame_view a)) ≡ effect nat_eq P (frame_view a) (op_view x ∷ rest a)
  effect_at a x at = ap (effect nat_eq P (frame_view a)) (rest_at (block_of a) a.index x at.here)

  effect_lost : (a : FlatFrame) → Fetched fs a None → effect nat_eq P (frame_view a) (rest_of P (frame_view a)) ≡ Stays
  effect_lost a at = ap (effect nat_eq P (frame_view a)) (rest_none (block_of a) a.index at.here)

  next_frame : (a b : FlatFrame) (numbers : ℕ → ℕ) → b.function ≡ a.function → b.block ≡ a.block
      → b.index ≡ a.index + 1 → numbers_of b.values.items ≡ numbers → next (frame_view a) numbers ≡ frame_view b
  next_frame a b numbers f k i e =
      let s : suc a.index ≡ b.index = omega arith in
      λ t. record { function = sym f t; block = sym k t; index = s t; numbers = sym e t }

  still_active : (a b : FlatFrame) → IsActive fs a → b.function ≡ a.function
      → length b.values.items ≡ length a.values.items → IsActive fs b
  still_active a b h f l = record {
    within = subst (λ (k : ℕ). k < length fs) (sym f) h.within;
    sized = l ∙ h.sized ∙ ap (λ k. count_of (slice_get fs k)) (sym f);
  }

  module _ (r : Running) (running : IsRunning fs r) where
    abbrev S : MachineState ℕ ℕ ℕ
    S = step nat_eq P (state_view r)

    abbrev Gs : List (MachineFrame ℕ ℕ ℕ)
    Gs = map frame_view (reverse r.waiting.items)

    abbrev then : MachineEffect ℕ ℕ ℕ → MachineState ℕ ℕ ℕ
    then = after nat_eq P (frame_view r.top) Gs r.emissions.items

    pub step_at : (x : Instruction) → Fetched fs r.top (Some x) → S ≡ then
        (effect nat_eq P (frame_view r.top) (op_view x ∷ rest r.top))
    step_at x at = ap then (effect_at r.top x at)

    on : (state : MachineState ℕ ℕ ℕ) (t : Running) (g : MachineFrame ℕ ℕ ℕ) (out : List ℕ) → state ≡ Going (g ∷ Gs) out → g ≡ frame_view t.top
        → IsActive fs t.top → t.waiting.items ≡ r.waiting.items → t.emissions.items ≡ out → TurnShows fs state t On
    on state t g out s e h w o = (
      s ∙ (λ i. Going (e i ∷ map frame_view (reverse (sym w i))) (sym o i)),
      record { top_active = h; all_waiting = subst (All (IsAtInstruction fs)) (sym w) running.all_waiting },
    )

    pub lost : Fetched fs r.top None → S ≡ state_view r
    lost at = ap then (effect_lost r.top at)

    -- a number bound, and on
    set_turn : (x : Instruction) → Fetched fs r.top (Some x) → (v n : ℕ)
        → effect nat_eq P (frame_view r.top) (op_view x ∷ rest r.top) ≡ Next
        (next (frame_view r.top) (bind nat_eq (numbers_of r.top.values.items) v n)) → v < length r.top.values.items
        → (t : Running) → BindsNumber r t v n → TurnShows fs S t On
    set_turn x at v n d h t t_is =
        let same : numbers_of t.top.values.items ≡ bind nat_eq (numbers_of r.top.values.items) v n = ap numbers_of t_is.bound
        ∙ bind_set r.top.values.items v n h in
        on S t (next (frame_view r.top) (bind nat_eq (numbers_of r.top.values.items) v n)) r.emissions.items
        (step_at x at ∙ ap then d)
        (next_frame r.top t.top (bind nat_eq (numbers_of r.top.values.items) v n) t_is.function_same t_is.block_same t_is.index_next same)
        (still_active r.top t.top running.top_active t_is.function_same (ap length t_is.bound ∙ length-set r.top.values.items v n))
        t_is.waiting_same
        t_is.emissions_same

    pub constant_turn : (v n : ℕ) → Fetched fs r.top (Some (Constant v n)) → (t : Running) → BindsNumber r t v n → TurnShows fs S t On
    constant_turn v n at = set_turn (Constant v n) at v n refl at.fits.0

    pub calculate_turn : (k : Arithmetic) (w v x y n : ℕ) → Fetched fs r.top (Some (Calculate k w v x y))
        → calc k w (get_or r.top.values.items x 0) (get_or r.top.values.items y 0) ≡ Some n → (t : Running) → BindsNumber r t v n → TurnShows fs S t On
    calculate_turn k w v x y n at e = set_turn (Calculate k w v x y) at v n
        (ap (with_result nat_eq (frame_view r.top) v) e) at.fits.0.1

    pub calculate_fault : (k : Arithmetic) (w v x y : ℕ) → Fetched fs r.top (Some (Calculate k w v x y))
        → calc k w (get_or r.top.values.items x 0) (get_or r.top.values.items y 0) ≡ None
        → S ≡ Trapped r.emissions.items
    calculate_fault k w v x y at e = step_at (Calculate k w v x y) at
        ∙ ap (λ o. then (with_result nat_eq (frame_view r.top) v o)) e

    pub compare_turn : (k : Comparison) (v x y n : ℕ) → Fetched fs r.top (Some (Compare k v x y))
        → bit (compare k (get_or r.top.values.items x 0) (get_or r.top.values.items y 0)) ≡ n → (t : Running) → BindsNumber r t v n → TurnShows fs S t On
    compare_turn k v x y n at e = set_turn (Compare k v x y) at v n
        (ap (λ m. Next (next (frame_view r.top) (bind nat_eq (numbers_of r.top.values.items) v m))) e) at.fits.0.0

    pub emit_turn : (x : ℕ) → Fetched fs r.top (Some (Emit x)) → (t : Running) → t.top.function ≡ r.top.function
        → t.top.block ≡ r.top.block → t.top.index ≡ r.top.index + 1 → t.top.values.items ≡ r.top.values.items
        → t.waiting.items ≡ r.waiting.items → t.emissions.items ≡ r.emissions.items ++ get_or r.top.values.items x 0
        ∷ [] → TurnShows fs S t On
    emit_turn x at t f b i e w o =
        on S t (next (frame_view r.top) (numbers_of r.top.values.items))
        (r.emissions.items ++ get_or r.top.values.items x 0 ∷ [])
        (step_at (Emit x) at)
        (next_frame r.top t.top (numbers_of r.top.values.items) f b i (ap numbers_of e))
        (still_active r.top t.top running.top_active f (ap length e))
        w
        o

    pub goes_along : (t : Running) (e : FlatEdge) → FollowsEdge fs r t e → TurnShows fs (along fs r e) t On
    goes_along t e h = on (along fs r e) t (follow nat_eq P (frame_view r.top) (edge_view e)) r.emissions.items refl
        (sym h.goes) h.active h.waiting_same h.emissions_same

    chosen_view : (n : ℕ) (a b : FlatEdge) → chosen n (edge_view b) (edge_view a) ≡ edge_view (chosen n b a)
    chosen_view zero a b = refl
    chosen_view (suc n) a b = refl

    pub branch_at : (x : ℕ) (a b : FlatEdge) → Fetched fs r.top (Some (CondBr x a b))
        → S ≡ along fs r (chosen (numbers_of r.top.values.items x) b a)
    branch_at x a b at = step_at (CondBr x a b) at
        ∙ ap (λ e. Going (follow nat_eq P (frame_view r.top) e ∷ Gs) r.emissions.items)
        (chosen_view (numbers_of r.top.values.items x) a b)

    pub call_at : (rs xs : Vec ℕ Global) (g : ℕ) (operands : List ℕ) → Fetched fs r.top (Some (Call rs g xs))
        → operands ≡ xs.items
        → S ≡ on_top (entered nat_eq P g (map (numbers_of r.top.values.items) operands)) (frame_view r.top ∷ Gs) r.emissions.items
    call_at rs xs g operands at e = step_at (Call rs g xs) at
        ∙ ap (λ l. on_top (entered nat_eq P g (map (numbers_of r.top.values.items) l)) (frame_view r.top ∷ Gs) r.emissions.items) (sym e)

    pub calls : (g : ℕ) (operands : List ℕ) → IsAtInstruction fs r.top → (t : Running)
        → frame_view t.top ≡ first_frame nat_eq P g (map (numbers_of r.top.values.items) operands) 0
        → IsActive fs t.top → t.waiting.items ≡ r.waiting.items ++ r.top ∷ [] → t.emissions.items ≡ r.emissions.items
        → TurnShows fs
        (on_top (entered nat_eq P g (map (numbers_of r.top.values.items) operands)) (frame_view r.top ∷ Gs) r.emissions.items) t On
    calls g operands here t e h w o =
        let ws = ap (λ l. map frame_view (reverse l)) w ∙ ap (map frame_view)
        (reverse-append r.waiting.items (r.top ∷ [])) in (
          (λ i. Going (sym e i ∷ sym ws i) (sym o i)),
          record {
            top_active = h;
            all_waiting = subst (All (IsAtInstruction fs)) (sym w)
                (All-push (IsAtInstruction fs) r.waiting.items r.top running.all_waiting here);
          },
        )

    pub return_at : (xs : Vec ℕ Global) (values : List ℕ) → Fetched fs r.top (Some (Return xs)) → values ≡ xs.items
        → S ≡ returned nat_eq P Gs (map (numbers_of r.top.values.items) values) r.emissions.items
    return_at xs values at e = step_at (Return xs) at
        ∙ ap (λ l. returned nat_eq P Gs (map (numbers_of r.top.values.items) l) r.emissions.items) (sym e)

    pub over : (ns : List ℕ) → r.waiting.items ≡ [] → returned nat_eq P Gs ns r.emissions.items ≡ Ended ns r.emissions.items
    over ns w = ap (λ l. returned nat_eq P (map frame_view (reverse l)) ns r.emissions.items) w

    pub return_turn : (ns : List ℕ) (t : Running) (a : FlatFrame) → r.waiting.items ≡ t.waiting.items ++ a ∷ []
        → frame_view t.top ≡ resumed nat_eq P (frame_view a) ns → IsActive fs t.top
        → t.emissions.items ≡ r.emissions.items
        → TurnShows fs (returned nat_eq P Gs ns r.emissions.items) t On
    return_turn ns t a w e h o =
        let ws = ap (λ l. map frame_view (reverse l)) w ∙ ap (map frame_view)
        (reverse-append t.waiting.items (a ∷ [])) in (
          ap (λ l. returned nat_eq P l ns r.emissions.items) ws
              ∙ (λ i. Going (sym e i ∷ map frame_view (reverse t.waiting.items)) (sym o i)),
          record {
            top_active = h;
            all_waiting = (All-pop (IsAtInstruction fs) r.waiting.items t.waiting.items (Some a) w
                running.all_waiting).0;
          },
        )

  named : (x : Instruction) (rest : List (MachineOp ℕ ℕ ℕ)) → results_of (op_view x ∷ rest) ≡ results_named x
  named (Constant r n) rest = refl
  named (Calculate f w r x y) rest = refl
  named (Compare f r x y) rest = refl
  named (Emit x) rest = refl
  named (Call rs g xs) rest = refl
  named (Br e) rest = refl
  named (CondBr x e d) rest = refl
  named (Return xs) rest = refl

  pub resumes_at : (a b : FlatFrame) (x : Instruction) (ns : List ℕ) → Fetched fs a (Some x)
      → b.function ≡ a.function → b.block ≡ a.block → b.index ≡ a.index + 1
      → numbers_of b.values.items ≡ bind_all nat_eq (numbers_of a.values.items) (results_named x) ns
      → frame_view b ≡ resumed nat_eq P (frame_view a) ns
  resumes_at a b x ns at f k i e =
      sym (next_frame a b (bind_all nat_eq (numbers_of a.values.items) (results_named x) ns) f k i e)
      ∙ ap (λ (vs : List ℕ). next (frame_view a) (bind_all nat_eq (numbers_of a.values.items) vs ns))
      (sym (named x (rest a)) ∙ ap results_of (sym (rest_at (block_of a) a.index x at.here)))

  pub followed : (r t : Running) (e : FlatEdge) (f : FlatFunction) → IsActive fs r.top
      → slice_get fs r.top.function ≡ Some f → t.top.function ≡ r.top.function → t.top.block ≡ e.target
      → t.top.index ≡ 0 → numbers_of t.top.values.items ≡ bind_all nat_eq (numbers_of r.top.values.items)
      (arguments_of (option_map block_view (block_in (Some f) e.target)))
      (map (numbers_of r.top.values.items) e.operands.items) → length t.top.values.items ≡ length r.top.values.items
      → t.waiting.items ≡ r.waiting.items → t.emissions.items ≡ r.emissions.items → FollowsEdge fs r t e
  followed r t e f h s n b i v l w o = record {
    goes = λ j. record {
      function = n j;
      block = b j;
      index = i j;
      numbers = (v ∙ ap (λ (q : Option FlatFunction). bind_all nat_eq (numbers_of r.top.values.items)
          (arguments_of (option_map block_view (block_in q e.target)))
          (map (numbers_of r.top.values.items) e.operands.items)) (sym s)) j;
    };
    active = still_active r.top t.top h n l;
    waiting_same = w;
    emissions_same = o;
  }

pub fits_there : (fs : List FlatFunction) → FlatFunctionsFit fs → (i : ℕ) (f : FlatFunction) → slice_get fs i ≡ Some f
    → (n : ℕ) → n ≡ count_of (slice_get fs i) → (b j : ℕ) (blk : FlatBlock) (x : Instruction)
    → slice_get f.blocks.items b ≡ Some blk → slice_get blk.instructions.items j ≡ Some x
    → InstructionFits (length fs) n x
fits_there fs s i f e n l b j blk x g h =
    let k : n ≡ f.values = l ∙ ap count_of e in
    subst (λ (q : ℕ). InstructionFits (length fs) q x) (sym k)
    (((s.functions_fit i f e).blocks_fit b blk g).instructions_fit j x h)

pub fetched_none : (fs : List FlatFunction) (a : FlatFrame) (f : FlatFunction) → slice_get fs a.function ≡ Some f
    → slice_get f.blocks.items a.block ≡ None → Fetched fs a None
fetched_none fs a f e g = record {
  here = ap (λ o. instruction_in (block_in o a.block) a.index) e
      ∙ ap (λ o. instruction_in o a.index) g;
  fits = tt;
}

pub fetched_no_op : (fs : List FlatFunction) (a : FlatFrame) (f : FlatFunction) (b : FlatBlock)
    → slice_get fs a.function ≡ Some f → slice_get f.blocks.items a.block ≡ Some b
    → slice_get b.instructions.items a.index ≡ None → Fetched fs a None
fetched_no_op fs a f b e g h = record {
  here = ap (λ o. instruction_in (block_in o a.block) a.index) e
      ∙ ap (λ o. instruction_in o a.index) g ∙ h;
  fits = tt;
}

pub fetched_some : (fs : List FlatFunction) → FlatFunctionsFit fs → (a : FlatFrame) → IsActive fs a
    → (f : FlatFunction) (b : FlatBlock) (x : Instruction) → slice_get fs a.function ≡ Some f
    → slice_get f.blocks.items a.block ≡ Some b → slice_get b.instructions.items a.index ≡ Some x
    → a.index < 2 ^ 64 - 1 → Fetched fs a (Some x)
fetched_some fs s a h f b x e g k l = record {
  here = ap (λ o. instruction_in (block_in o a.block) a.index) e ∙ ap (λ o. instruction_in o a.index) g ∙ k;
  fits = (fits_there fs s a.function f e (length a.values.items) h.sized a.block a.index b x g k, l);
}

pub stuck : (fs : List FlatFunction) (r : Running) → IsRunning fs r → Fetched fs r.top None
    → step nat_eq (flat_code fs) (step nat_eq (flat_code fs) (state_view r)) ≡ step nat_eq (flat_code fs) (state_view r)
stuck fs r h at = ap (step nat_eq (flat_code fs)) (lost fs r h at)
