-- Runs of a flat module are runs of the code that it is.
use Rattle.std.proofs.Common.{◌≡◌, ℕ, zero, suc, ◌<◌, ◌≤◌, Bool, List, [], ◌∷◌, ◌++◌, length, map, drop, refl, ap, sym, ◌∙◌, subst, arith, nat_eq, Some, None, Option, slice_get, if◌then◌else◌, ⊎_elim, get_or}
use Rattle.std.specs.Option.{option_map}
use Rattle.std.proofs.lemmas.Option.{slice_get-map, slice_get_cases}
use Rattle.std.proofs.lemmas.List.Elements.{All-head, All-tail}
use Rattle.kit_flat.specs.Machine.{MachineOp, Code, MachineFrame, MachineState, Going, Ended, Trapped}
use Rattle.kit_flat.specs.Machine.{MachineEffect, Next, Emits, Enters, Leaves, Traps, Stays, arguments_of}
use Rattle.kit_flat.specs.Machine.{operations_from, rest_of, effect, after, returned, bind, bind_all, next}
use Rattle.kit_flat.specs.Machine.{follow, with_result, chosen, entered, on_top, first_frame, resumed}
use Rattle.kit_flat.specs.Machine.{results_of, step, run, start}
use Rattle.kit_ops.specs.Arithmetic.{calc, compare, bit}
use Rattle.kit_flat.specs.declared.flat.FlatEdge.{FlatEdge}
use Rattle.kit_flat.specs.declared.flat.Instruction.{Instruction}
use Rattle.kit_flat.specs.declared.flat.Instruction.TheVariants.{Constant, Calculate, Compare, Emit, Call, Br, CondBr, Return}
use Rattle.kit_flat.specs.declared.flat.FlatBlock.{FlatBlock}
use Rattle.kit_flat.specs.declared.flat.FlatFunction.{FlatFunction}
use Rattle.kit_flat.specs.declared.outcome.Outcome.{Outcome}
use Rattle.kit_flat.specs.declared.outcome.Outcome.TheVariants as outcomes
use Rattle.kit_flat.specs.View.{edge_view, op_view, block_view, block_in, flat_code}
use Rattle.kit_flat.specs.Sound.{AreBelow, EdgeOperandsFit, InstructionFits}
use Rattle.kit_flat.specs.Shows.{OutcomeShows}
use Rattle.kit_flat.specs.Renames.{rename_edge, rename_op, rename_block, FlatNames, TargetsAreInside, IsModuleOf}
use Rattle.kit_flat.proofs.Places.{drop_at_place, drop_past, rest_at, rest_none}

-- ---- numbers of values

-- values have the same numbers under their names
abbrev pub Agree : {W : Type 0} → (ℕ → W) → ℕ → (ℕ → ℕ) → (W → ℕ) → Type 0
Agree value n a b = (v : ℕ) → v < n → b (value v) ≡ a v

module _ {W : Type 0} (same : W → W → Bool) (value : ℕ → W) (n : ℕ)
    (apart : (v w : ℕ) → v < n → w < n → same (value v) (value w) ≡ nat_eq v w) where
  pub bind_agree : (a : ℕ → ℕ) (b : W → ℕ) → Agree value n a b → (v k : ℕ) → v < n
      → Agree value n (bind nat_eq a v k) (bind same b (value v) k)
  bind_agree a b h v k l = λ w m.
      ap (λ (t : Bool). if t then k else b (value w)) (apart v w l m)
      ∙ ap (λ (j : ℕ). if nat_eq v w then k else j) (h w m)

  pub bind_all_agree : (a : ℕ → ℕ) (b : W → ℕ) → Agree value n a b → (vs ns : List ℕ) → AreBelow n vs
      → Agree value n (bind_all nat_eq a vs ns) (bind_all same b (map value vs) ns)
  bind_all_agree a b h [] ns l = h
  bind_all_agree a b h (v ∷ vs) [] l = h
  bind_all_agree a b h (v ∷ vs) (k ∷ ns) l =
      bind_all_agree (bind nat_eq a v k) (bind same b (value v) k)
      (bind_agree a b h v k (All-head (λ (i : ℕ). i < n) v vs l)) vs ns (All-tail (λ (i : ℕ). i < n) v vs l)

  -- the same where the lists are these
  pub rebind_agree : (a : ℕ → ℕ) (b : W → ℕ) → Agree value n a b → (vs : List ℕ) → AreBelow n vs → (us : List ℕ)
      → us ≡ vs → (ws : List W) → ws ≡ map value vs → (ns ms : List ℕ) → ms ≡ ns
      → Agree value n (bind_all nat_eq a us ns) (bind_all same b ws ms)
  rebind_agree a b h vs l us e ws d ns ms m = λ v k.
      (λ i. bind_all same b (d i) (m i) (value v)) ∙ bind_all_agree a b h vs ns l v k
      ∙ (λ i. bind_all nat_eq a (sym e i) ns v)

pub map_agree : {W : Type 0} (value : ℕ → W) (n : ℕ) (a : ℕ → ℕ) (b : W → ℕ) → Agree value n a b → (vs : List ℕ)
    → AreBelow n vs → map b (map value vs) ≡ map a vs
map_agree value n a b h [] l = refl
map_agree value n a b h (v ∷ vs) l =
    let e = h v (All-head (λ (i : ℕ). i < n) v vs l) in
    let t = map_agree value n a b h vs (All-tail (λ (i : ℕ). i < n) v vs l) in
    λ i. e i ∷ t i

-- the results that a call names
pub results_renamed : {W C G : Type 0} (value : ℕ → W) (block : ℕ → C) (function : ℕ → G) (x : Instruction)
    (rest : List (MachineOp ℕ ℕ ℕ)) (more : List (MachineOp W C G)) → results_of
    (rename_op value block function (op_view x) ∷ more) ≡ map value (results_of (op_view x ∷ rest))
results_renamed value block function (Constant r n) rest more = refl
results_renamed value block function (Calculate f w r x y) rest more = refl
results_renamed value block function (Compare f r x y) rest more = refl
results_renamed value block function (Emit x) rest more = refl
results_renamed value block function (Call rs g xs) rest more = refl
results_renamed value block function (Br e) rest more = refl
results_renamed value block function (CondBr x e d) rest more = refl
results_renamed value block function (Return xs) rest more = refl

results_below : (m n : ℕ) (x : Instruction) (rest : List (MachineOp ℕ ℕ ℕ)) → InstructionFits m n x
    → AreBelow n (results_of (op_view x ∷ rest))
results_below m n (Constant r k) rest h = λ i d l. absurd (omega (arith, l))
results_below m n (Calculate f w r x y) rest h = λ i d l. absurd (omega (arith, l))
results_below m n (Compare f r x y) rest h = λ i d l. absurd (omega (arith, l))
results_below m n (Emit x) rest h = λ i d l. absurd (omega (arith, l))
results_below m n (Call rs g xs) rest h = h.0
results_below m n (Br e) rest h = λ i d l. absurd (omega (arith, l))
results_below m n (CondBr x e d) rest h = λ i c l. absurd (omega (arith, l))
results_below m n (Return xs) rest h = λ i d l. absurd (omega (arith, l))

-- ---- steps

module _ {W C G : Type 0} (same : W → W → Bool) (q : Code W C G) (names : FlatNames W C G) (fs : List FlatFunction)
    (module_of : IsModuleOf same q names fs) where
  abbrev P : Code ℕ ℕ ℕ
  P = flat_code fs

  -- a frame of the flat module at a block, and the same frame under the names
  pub record FrameAlike (f : MachineFrame ℕ ℕ ℕ) (g : MachineFrame W C G) : Type 0 where
    pub flat : FlatFunction
    pub flat_there : slice_get fs f.function ≡ Some flat
    pub here : FlatBlock
    pub here_there : slice_get flat.blocks.items f.block ≡ Some here
    pub function : g.function ≡ names.function f.function
    pub block : g.block ≡ names.block f.function f.block
    pub index : g.index ≡ f.index
    pub numbers : Agree (names.value f.function) flat.values f.numbers g.numbers

  abbrev pub FramesAlike : List (MachineFrame ℕ ℕ ℕ) → List (MachineFrame W C G) → Type 0
  FramesAlike [] [] = Unit {0}
  FramesAlike [] (g ∷ gs) = ⊥
  FramesAlike (f ∷ fs) [] = ⊥
  FramesAlike (f ∷ fs) (g ∷ gs) = FrameAlike f g × FramesAlike fs gs

  abbrev pub StateAlike : MachineState ℕ ℕ ℕ → MachineState W C G → Type 0
  StateAlike (Going fs out) (Going gs shown) = FramesAlike fs gs × (shown ≡ out)
  StateAlike (Ended ns out) (Ended ms shown) = (ms ≡ ns) × (shown ≡ out)
  StateAlike (Trapped out) (Trapped shown) = shown ≡ out
  StateAlike s t = ⊥

  abbrev EffectAlike : MachineEffect ℕ ℕ ℕ → MachineEffect W C G → Type 0
  EffectAlike (Next f) (Next g) = FrameAlike f g
  EffectAlike (Emits n f) (Emits m g) = (m ≡ n) × FrameAlike f g
  EffectAlike (Enters i xs) (Enters h ys) = (h ≡ names.function i) × (ys ≡ xs) × (i < length fs)
  EffectAlike (Leaves xs) (Leaves ys) = ys ≡ xs
  EffectAlike Traps Traps = Unit {0}
  EffectAlike Stays Stays = Unit {0}
  EffectAlike s t = ⊥

  block_there : (i b : ℕ) (f : FlatFunction) (x : FlatBlock) → slice_get fs i ≡ Some f
      → slice_get f.blocks.items b ≡ Some x → P.block i b ≡ Some (block_view x)
  block_there i b f x e h = ap (λ o. option_map block_view (block_in o b)) e ∙ ap (option_map block_view) h

  block_named : (i b : ℕ) (f : FlatFunction) (x : FlatBlock) → slice_get fs i ≡ Some f
      → slice_get f.blocks.items b ≡ Some x → q.block (names.function i) (names.block i b) ≡ Some
      (rename_block (names.value i) (names.block i) names.function (block_view x))
  block_named i b f x e h = (module_of.functions i f e).blocks b x h

  module _ (f : MachineFrame ℕ ℕ ℕ) (g : MachineFrame W C G) (h : FrameAlike f g) where
    abbrev value : ℕ → W
    value = names.value f.function

    abbrev ren : MachineOp ℕ ℕ ℕ → MachineOp W C G
    ren = rename_op value (names.block f.function) names.function

    abbrev left : List (MachineOp ℕ ℕ ℕ)
    left = drop (suc f.index) (map op_view h.here.instructions.items)

    abbrev more : List (MachineOp W C G)
    more = drop (suc f.index) (map ren (map op_view h.here.instructions.items))

    block_q : q.block g.function g.block ≡ Some
        (rename_block value (names.block f.function) names.function (block_view h.here))
    block_q = (λ i. q.block (h.function i) (h.block i)) ∙ block_named f.function f.block h.flat h.here h.flat_there
        h.here_there

    rest_p : (x : Instruction) → slice_get h.here.instructions.items f.index ≡ Some x → rest_of P f ≡ op_view x ∷ left
    rest_p x e =
        ap (λ o. operations_from o f.index) (block_there f.function f.block h.flat h.here h.flat_there h.here_there)
        ∙ rest_at (Some h.here) f.index x e

    rest_q : (x : Instruction) → slice_get h.here.instructions.items f.index ≡ Some x
        → rest_of q g ≡ ren (op_view x) ∷ more
    rest_q x e =
        (λ i. operations_from (block_q i) (h.index i))
        ∙ drop_at_place (map ren (map op_view h.here.instructions.items)) f.index (ren (op_view x))
        (slice_get-map ren (map op_view h.here.instructions.items) f.index
        ∙ ap (option_map ren) (slice_get-map op_view h.here.instructions.items f.index ∙ ap (option_map op_view) e))

    none_p : slice_get h.here.instructions.items f.index ≡ None → rest_of P f ≡ []
    none_p e =
        ap (λ o. operations_from o f.index) (block_there f.function f.block h.flat h.here h.flat_there h.here_there)
        ∙ rest_none (Some h.here) f.index e

    none_q : slice_get h.here.instructions.items f.index ≡ None → rest_of q g ≡ []
    none_q e =
        (λ i. operations_from (block_q i) (h.index i))
        ∙ drop_past (map ren (map op_view h.here.instructions.items)) f.index
        (slice_get-map ren (map op_view h.here.instructions.items) f.index
        ∙ ap (option_map ren) (slice_get-map op_view h.here.instructions.items f.index ∙ ap (option_map op_view) e))

    fits : (x : Instruction) → slice_get h.here.instructions.items f.index ≡ Some x
        → InstructionFits (length fs) h.flat.values x
    fits x e = ((module_of.sound.functions_fit f.function h.flat h.flat_there).blocks_fit f.block h.here
        h.here_there).instructions_fit f.index x e

    leads : (x : Instruction) → slice_get h.here.instructions.items f.index ≡ Some x
        → TargetsAreInside (length h.flat.blocks.items) x
    leads x e = (module_of.functions f.function h.flat h.flat_there).inside f.block h.here h.here_there f.index x e

    abbrev apart : (v w : ℕ) → v < h.flat.values → w < h.flat.values → same (value v) (value w) ≡ nat_eq v w
    apart = (module_of.functions f.function h.flat h.flat_there).apart

    next_alike : (a : ℕ → ℕ) (b : W → ℕ) → Agree value h.flat.values a b → FrameAlike (next f a) (next g b)
    next_alike a b agree = record {
      flat = h.flat;
      flat_there = h.flat_there;
      here = h.here;
      here_there = h.here_there;
      function = h.function;
      block = h.block;
      index = ap suc h.index;
      numbers = agree;
    }

    set_alike : (v k : ℕ) → v < h.flat.values → FrameAlike (next f (bind nat_eq f.numbers v k))
        (next g (bind same g.numbers (value v) k))
    set_alike v k l = next_alike (bind nat_eq f.numbers v k) (bind same g.numbers (value v) k)
        (bind_agree same value h.flat.values apart f.numbers g.numbers h.numbers v k l)

    result_alike : (v : ℕ) → v < h.flat.values → (o : Option ℕ)
        → EffectAlike (with_result nat_eq f v o) (with_result same g (value v) o)
    result_alike v l None = tt
    result_alike v l (Some k) = set_alike v k l

    read : (xs : List ℕ) → AreBelow h.flat.values xs → map g.numbers (map value xs) ≡ map f.numbers xs
    read xs l = map_agree value h.flat.values f.numbers g.numbers h.numbers xs l

    follow_at : (e : FlatEdge) → EdgeOperandsFit h.flat.values e → (x : FlatBlock)
        → slice_get h.flat.blocks.items e.target ≡ Some x → FrameAlike (follow nat_eq P f (edge_view e))
        (follow same q g (rename_edge value (names.block f.function) (edge_view e)))
    follow_at e l x at = record {
      flat = h.flat;
      flat_there = h.flat_there;
      here = x;
      here_there = at;
      function = h.function;
      block = refl;
      index = refl;
      numbers =
          rebind_agree same value h.flat.values apart f.numbers g.numbers h.numbers x.arguments.items
          ((module_of.sound.functions_fit f.function h.flat h.flat_there).blocks_fit e.target x at).arguments_fit
          (arguments_of (P.block f.function e.target))
          (ap arguments_of (block_there f.function e.target h.flat x h.flat_there at))
          (arguments_of (q.block g.function (names.block f.function e.target)))
          (ap arguments_of ((λ i. q.block (h.function i) (names.block f.function e.target))
          ∙ block_named f.function e.target h.flat x h.flat_there at))
          (map f.numbers e.operands.items)
          (map g.numbers (map value e.operands.items))
          (read e.operands.items l);
    }

    follow_alike : (e : FlatEdge) → EdgeOperandsFit h.flat.values e → e.target < length h.flat.blocks.items
        → FrameAlike (follow nat_eq P f (edge_view e))
        (follow same q g (rename_edge value (names.block f.function) (edge_view e)))
    follow_alike e l t =
        ⊎_elim
        (λ (w : (x : FlatBlock) × (e.target < length h.flat.blocks.items)
        × (slice_get h.flat.blocks.items e.target ≡ Some x) × (get_or h.flat.blocks.items e.target x ≡ x)).
        follow_at e l w.0 w.2)
        (λ (w : (length h.flat.blocks.items ≤ e.target) × (slice_get h.flat.blocks.items e.target ≡ None)). absurd
        (omega (arith, w.0)))
        (slice_get_cases h.flat.blocks.items e.target).1

    chosen_alike : (n : ℕ) (e d : FlatEdge) → EdgeOperandsFit h.flat.values e → EdgeOperandsFit h.flat.values d
        → e.target < length h.flat.blocks.items → d.target < length h.flat.blocks.items
        → FrameAlike (follow nat_eq P f (chosen n (edge_view d) (edge_view e)))
        (follow same q g (chosen n (rename_edge value (names.block f.function) (edge_view d))
        (rename_edge value (names.block f.function) (edge_view e))))
    chosen_alike zero e d k l s t = follow_alike d l t
    chosen_alike (suc n) e d k l s t = follow_alike e k s

    effect_alike : (x : Instruction) → InstructionFits (length fs) h.flat.values x
        → TargetsAreInside (length h.flat.blocks.items) x → EffectAlike (effect nat_eq P f (op_view x ∷ left))
        (effect same q g (ren (op_view x) ∷ more))
    effect_alike (Constant r k) l t = set_alike r k l
    effect_alike (Calculate a w r x y) l t =
        let e : calc a w (g.numbers (value x)) (g.numbers (value y)) ≡ calc a w (f.numbers x)
        (f.numbers y) = λ i. calc a w (h.numbers x l.2 i) (h.numbers y l.3 i) in
        subst (λ (o : Option ℕ). EffectAlike (with_result nat_eq f r (calc a w (f.numbers x) (f.numbers y)))
        (with_result same g (value r) o)) (sym e) (result_alike r l.1 (calc a w (f.numbers x) (f.numbers y)))
    effect_alike (Compare a r x y) l t =
        let e : bit (compare a (g.numbers (value x)) (g.numbers (value y))) ≡ bit
        (compare a (f.numbers x) (f.numbers y)) = λ i. bit (compare a (h.numbers x l.1 i) (h.numbers y l.2 i)) in
        subst (λ (k : ℕ). FrameAlike (next f (bind nat_eq f.numbers r
        (bit (compare a (f.numbers x) (f.numbers y))))) (next g (bind same g.numbers (value r) k))) (sym e)
        (set_alike r (bit (compare a (f.numbers x) (f.numbers y))) l.0)
    effect_alike (Emit x) l t = (h.numbers x l, next_alike f.numbers g.numbers h.numbers)
    effect_alike (Call rs k xs) l t = (refl, read xs.items l.1, l.2)
    effect_alike (Br e) l t = follow_alike e l t
    effect_alike (CondBr x e d) l t =
        subst (λ (k : ℕ). FrameAlike (follow nat_eq P f (chosen (f.numbers x) (edge_view d) (edge_view e)))
        (follow same q g (chosen k (rename_edge value (names.block f.function) (edge_view d))
        (rename_edge value (names.block f.function) (edge_view e)))))
        (sym (h.numbers x l.0)) (chosen_alike (f.numbers x) e d l.1 l.2 t.0 t.1)
    effect_alike (Return xs) l t = read xs.items l

    effects_alike : EffectAlike (effect nat_eq P f (rest_of P f)) (effect same q g (rest_of q g))
    effects_alike =
        ⊎_elim
        (λ (w : (x : Instruction) × (f.index < length h.here.instructions.items)
        × (slice_get h.here.instructions.items f.index ≡ Some x)
        × (get_or h.here.instructions.items f.index x ≡ x)).
        subst (λ (r : List (MachineOp W C G)). EffectAlike (effect nat_eq P f (rest_of P f)) (effect same q g r))
        (sym (rest_q w.0 w.2))
        (subst (λ (r : List (MachineOp ℕ ℕ ℕ)). EffectAlike (effect nat_eq P f r)
        (effect same q g (ren (op_view w.0) ∷ more))) (sym (rest_p w.0 w.2))
        (effect_alike w.0 (fits w.0 w.2) (leads w.0 w.2))))
        (λ (w : (length h.here.instructions.items ≤ f.index) × (slice_get h.here.instructions.items f.index ≡ None)).
        subst (λ (r : List (MachineOp W C G)). EffectAlike (effect nat_eq P f (rest_of P f)) (effect same q g r))
        (sym (none_q w.1))
        (subst (λ (r : List (MachineOp ℕ ℕ ℕ)). EffectAlike (effect nat_eq P f r) (effect same q g [])) (sym (none_p w.1)) tt))
        (slice_get_cases h.here.instructions.items f.index).1

    -- what a call returned is bound alike
    resumed_alike : (ns : List ℕ) → FrameAlike (resumed nat_eq P f ns) (resumed same q g ns)
    resumed_alike ns =
        ⊎_elim
        (λ (w : (x : Instruction) × (f.index < length h.here.instructions.items)
        × (slice_get h.here.instructions.items f.index ≡ Some x)
        × (get_or h.here.instructions.items f.index x ≡ x)).
        next_alike (bind_all nat_eq f.numbers (results_of (rest_of P f)) ns)
        (bind_all same g.numbers (results_of (rest_of q g)) ns)
        (rebind_agree same value h.flat.values apart f.numbers g.numbers h.numbers (results_of (op_view w.0 ∷ left))
        (results_below (length fs) h.flat.values w.0 left (fits w.0 w.2))
        (results_of (rest_of P f)) (ap results_of (rest_p w.0 w.2)) (results_of (rest_of q g))
        (ap results_of (rest_q w.0 w.2) ∙ results_renamed value (names.block f.function) names.function w.0 left
        more) ns ns refl))
        (λ (w : (length h.here.instructions.items ≤ f.index) × (slice_get h.here.instructions.items f.index ≡ None)).
        next_alike (bind_all nat_eq f.numbers (results_of (rest_of P f)) ns)
        (bind_all same g.numbers (results_of (rest_of q g)) ns)
        (rebind_agree same value h.flat.values apart f.numbers g.numbers h.numbers []
        (λ i d l. absurd (omega (arith, l)))
        (results_of (rest_of P f)) (ap results_of (none_p w.1)) (results_of (rest_of q g))
        (ap results_of (none_q w.1)) ns ns refl))
        (slice_get_cases h.here.instructions.items f.index).1

  first_at : (i : ℕ) (flat : FlatFunction) → slice_get fs i ≡ Some flat → (x : FlatBlock)
      → slice_get flat.blocks.items 0 ≡ Some x → (xs : List ℕ)
      → FrameAlike (first_frame nat_eq P i xs 0) (first_frame same q (names.function i) xs (names.block i 0))
  first_at i flat e x at xs = record {
    flat = flat;
    flat_there = e;
    here = x;
    here_there = at;
    function = refl;
    block = refl;
    index = refl;
    numbers =
        rebind_agree same (names.value i) flat.values (module_of.functions i flat e).apart (λ v. 0) (λ v. 0)
        (λ v l. refl) x.arguments.items
        ((module_of.sound.functions_fit i flat e).blocks_fit 0 x at).arguments_fit
        (arguments_of (P.block i 0))
        (ap arguments_of (block_there i 0 flat x e at))
        (arguments_of (q.block (names.function i) (names.block i 0)))
        (ap arguments_of (block_named i 0 flat x e at))
        xs
        xs
        refl;
  }

  -- a call's frame, on top of frames that are alike
  enter_at : (i : ℕ) (flat : FlatFunction) → slice_get fs i ≡ Some flat
      → (xs : List ℕ) (gs : List (MachineFrame ℕ ℕ ℕ)) (ks : List (MachineFrame W C G)) (out : List ℕ) → FramesAlike gs ks
      → StateAlike (on_top (entered nat_eq P i xs) gs out) (on_top (entered same q (names.function i) xs) ks out)
  enter_at i flat e xs gs ks out l =
      let entry = (module_of.functions i flat e).entry in
      ⊎_elim
      (λ (w : (x : FlatBlock) × (0 < length flat.blocks.items) × (slice_get flat.blocks.items 0 ≡ Some x)
      × (get_or flat.blocks.items 0 x ≡ x)).
      subst (λ (o : Option C). StateAlike (on_top (entered nat_eq P i xs) gs out)
      (on_top (option_map (first_frame same q (names.function i) xs) o) ks out)) (sym entry)
      ((first_at i flat e w.0 w.2 xs, l), refl))
      (λ (w : (length flat.blocks.items ≤ 0) × (slice_get flat.blocks.items 0 ≡ None)). absurd
      (let k = (module_of.functions i flat e).first in omega (arith, w.0, k)))
      (slice_get_cases flat.blocks.items 0).1

  enter_alike : (i : ℕ) → i < length fs → (xs : List ℕ) (gs : List (MachineFrame ℕ ℕ ℕ)) (ks : List (MachineFrame W C G))
      (out : List ℕ) → FramesAlike gs ks
      → StateAlike (on_top (entered nat_eq P i xs) gs out) (on_top (entered same q (names.function i) xs) ks out)
  enter_alike i b xs gs ks out l =
      ⊎_elim
      (λ (w : (x : FlatFunction) × (i < length fs) × (slice_get fs i ≡ Some x) × (get_or fs i x ≡ x)). enter_at i
      w.0 w.2 xs gs ks out l)
      (λ (w : (length fs ≤ i) × (slice_get fs i ≡ None)). absurd (omega (arith, w.0, b)))
      (slice_get_cases fs i).1

  return_alike : (gs : List (MachineFrame ℕ ℕ ℕ)) (ks : List (MachineFrame W C G)) (ns out : List ℕ) → FramesAlike gs ks
      → StateAlike (returned nat_eq P gs ns out) (returned same q ks ns out)
  return_alike [] [] ns out l = (refl, refl)
  return_alike [] (k ∷ ks) ns out l = absurd l
  return_alike (g ∷ gs) [] ns out l = absurd l
  return_alike (g ∷ gs) (k ∷ ks) ns out l = ((resumed_alike g k l.0 ns, l.1), refl)

  after_alike : (f : MachineFrame ℕ ℕ ℕ) (g : MachineFrame W C G) → FrameAlike f g
      → (gs : List (MachineFrame ℕ ℕ ℕ)) (ks : List (MachineFrame W C G)) → FramesAlike gs ks
      → (out : List ℕ) (s : MachineEffect ℕ ℕ ℕ) (t : MachineEffect W C G) → EffectAlike s t
      → StateAlike (after nat_eq P f gs out s) (after same q g ks out t)
  after_alike f g h gs ks l out (Next a) (Next b) e = ((e, l), refl)
  after_alike f g h gs ks l out (Emits n a) (Emits m b) e = ((e.1, l), ap (λ (k : ℕ). out ++ k ∷ []) e.0)
  after_alike f g h gs ks l out (Enters i xs) (Enters j ys) e =
      subst (λ (k : G). StateAlike (on_top (entered nat_eq P i xs) (f ∷ gs) out)
      (on_top (entered same q k ys) (g ∷ ks) out)) (sym e.0)
      (subst (λ (zs : List ℕ). StateAlike (on_top (entered nat_eq P i xs) (f ∷ gs) out)
      (on_top (entered same q (names.function i) zs) (g ∷ ks) out)) (sym e.1)
      (enter_alike i e.2 xs (f ∷ gs) (g ∷ ks) out (h, l)))
  after_alike f g h gs ks l out (Leaves xs) (Leaves ys) e = subst
      (λ (zs : List ℕ). StateAlike (returned nat_eq P gs xs out) (returned same q ks zs out)) (sym e)
      (return_alike gs ks xs out l)
  after_alike f g h gs ks l out Traps Traps e = refl
  after_alike f g h gs ks l out Stays Stays e = ((h, l), refl)
  after_alike f g h gs ks l out s t e = absurd e

  step_going : (gs : List (MachineFrame ℕ ℕ ℕ)) (ks : List (MachineFrame W C G)) (out : List ℕ) → FramesAlike gs ks
      → StateAlike (step nat_eq P (Going gs out)) (step same q (Going ks out))
  step_going [] [] out l = (tt, refl)
  step_going [] (k ∷ ks) out l = absurd l
  step_going (g ∷ gs) [] out l = absurd l
  step_going (g ∷ gs) (k ∷ ks) out l = after_alike g k l.0 gs ks l.1 out (effect nat_eq P g (rest_of P g))
      (effect same q k (rest_of q k)) (effects_alike g k l.0)

  step_alike : (s : MachineState ℕ ℕ ℕ) (t : MachineState W C G) → StateAlike s t → StateAlike (step nat_eq P s) (step same q t)
  step_alike (Going gs out) (Going ks shown) h = subst
      (λ (o : List ℕ). StateAlike (step nat_eq P (Going gs out)) (step same q (Going ks o))) (sym h.1)
      (step_going gs ks out h.0)
  step_alike (Ended ns out) (Ended ms shown) h = h
  step_alike (Trapped out) (Trapped shown) h = h
  step_alike s t h = absurd h

  pub run_alike : (n : ℕ) (s : MachineState ℕ ℕ ℕ) (t : MachineState W C G) → StateAlike s t
      → StateAlike (run nat_eq P n s) (run same q n t)
  run_alike zero s t h = h
  run_alike (suc n) s t h = run_alike n (step nat_eq P s) (step same q t) (step_alike s t h)

  ended_is : (ns out : List ℕ) (t : MachineState W C G) → StateAlike (Ended ns out) t → t ≡ Ended ns out
  ended_is ns out (Ended ms shown) h = λ i. Ended (h.0 i) (h.1 i)
  ended_is ns out t h = absurd h

  trapped_is : (out : List ℕ) (t : MachineState W C G) → StateAlike (Trapped out) t → t ≡ Trapped out
  trapped_is out (Trapped shown) h = ap Trapped h
  trapped_is out t h = absurd h

  going_is : (gs : List (MachineFrame ℕ ℕ ℕ)) (out : List ℕ) (t : MachineState W C G) → StateAlike (Going gs out) t
      → (ks : List (MachineFrame W C G)) × (t ≡ Going ks out)
  going_is gs out (Going ks shown) h = (ks, ap (Going ks) h.1)
  going_is gs out t h = absurd h

  -- an outcome of the one is one of the other
  pub shows_alike : (s : MachineState ℕ ℕ ℕ) (t : MachineState W C G) (o : Outcome) → StateAlike s t → OutcomeShows s o
      → OutcomeShows t o
  shows_alike s t (outcomes.Ended values emissions) a h = ended_is values.items emissions.items t
      (subst (λ (r : MachineState ℕ ℕ ℕ). StateAlike r t) h a)
  shows_alike s t (outcomes.Trapped emissions) a h = trapped_is emissions.items t
      (subst (λ (r : MachineState ℕ ℕ ℕ). StateAlike r t) h a)
  shows_alike s t (outcomes.Limit emissions) a h = going_is h.0 emissions.items t
      (subst (λ (r : MachineState ℕ ℕ ℕ). StateAlike r t) h.1 a)

  pub started_alike : (i : ℕ) → i < length fs → (xs : List ℕ)
      → StateAlike (start nat_eq P i xs) (start same q (names.function i) xs)
  started_alike i b xs = enter_alike i b xs [] [] [] tt
