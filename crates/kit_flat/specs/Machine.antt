-- The machine of kit, on functions of basic blocks. V is the type of the names of values, B of blocks and F of
-- functions: the handles of a context, or the
-- numbers of a flat form.
use Rattle.std.specs.Prelude.{ℕ, zero, suc, Bool, List, [], ◌∷◌, ◌++◌, map, drop, Option, Some, None}
use Rattle.std.specs.Prelude.{if◌then◌else◌, option_map}
use Rattle.kit_ops.specs.declared.arithmetic.Arithmetic.{Arithmetic}
use Rattle.kit_ops.specs.declared.arithmetic.Comparison.{Comparison}
use Rattle.kit_ops.specs.Arithmetic.{calc, compare, bit}

-- ---- functions

-- a block that a branch may go on to, and the values that are forwarded to its arguments
pub record MachineEdge (V B : Type 0) : Type 0 where
  pub target : B
  pub operands : List V

-- an operation as the machine sees it. r and rs are results, x, y and xs operands, w a width; a callee is there only
-- if a function has its name
pub data MachineOp (V B F : Type 0) : Type 0 where
  Constant : (r : V) (n : ℕ) → MachineOp V B F
  Calculate : (f : Arithmetic) (w : ℕ) (r x y : V) → MachineOp V B F
  Compare : (f : Comparison) (r x y : V) → MachineOp V B F
  Emit : (x : V) → MachineOp V B F
  Call : (rs : List V) (callee : Option F) (xs : List V) → MachineOp V B F
  Br : (e : MachineEdge V B) → MachineOp V B F
  CondBr : (x : V) (e d : MachineEdge V B) → MachineOp V B F
  Return : (xs : List V) → MachineOp V B F
  -- what the machine doesn't execute
  Other : MachineOp V B F

-- a block: its arguments, and its operations in order
pub record MachineBlock (V B F : Type 0) : Type 0 where
  pub arguments : List V
  pub operations : List (MachineOp V B F)

-- the functions of a module: the entry block of a function, and its blocks
pub record Code (V B F : Type 0) : Type 0 where
  pub entry : F → Option B
  pub block : F → B → Option (MachineBlock V B F)

-- ---- states

-- a function that runs, the place of the operation that is next, and the numbers of its values. A value that isn't
-- bound is 0
pub record MachineFrame (V B F : Type 0) : Type 0 where
  pub function : F
  pub block : B
  pub index : ℕ
  pub numbers : V → ℕ

-- a run that goes on has its frames, the innermost first; each but the innermost waits at a call
pub data MachineState (V B F : Type 0) : Type 0 where
  Going : (frames : List (MachineFrame V B F)) (emissions : List ℕ) → MachineState V B F
  Ended : (values emissions : List ℕ) → MachineState V B F
  Trapped : (emissions : List ℕ) → MachineState V B F

-- one value bound
abbrev pub bind : {V : Type 0} → (V → V → Bool) → (V → ℕ) → V → ℕ → V → ℕ
bind same numbers v n = λ w. if same v w then n else numbers w

-- values bound to numbers, the first to the first, as far as both go. The numbers are read before
abbrev pub bind_all : {V : Type 0} → (V → V → Bool) → (V → ℕ) → List V → List ℕ → V → ℕ
bind_all same numbers [] ns = numbers
bind_all same numbers (v ∷ vs) [] = numbers
bind_all same numbers (v ∷ vs) (n ∷ ns) = bind_all same (bind same numbers v n) vs ns

-- the operations of a block from an index on
abbrev pub operations_from : {V B F : Type 0} → Option (MachineBlock V B F) → ℕ → List (MachineOp V B F)
operations_from None i = []
operations_from (Some b) i = drop i b.operations

-- the arguments of a block, none where it isn't there
abbrev pub arguments_of : {V B F : Type 0} → Option (MachineBlock V B F) → List V
arguments_of None = []
arguments_of (Some b) = b.arguments

-- the operations that are left where a frame is
abbrev pub rest_of : {V B F : Type 0} → Code V B F → MachineFrame V B F → List (MachineOp V B F)
rest_of code f = operations_from (code.block f.function f.block) f.index

-- ---- one operation

-- what an operation does: the frame goes on, it goes on after a number was emitted, a function is called, the
-- function is left, it traps, or nothing at all
pub data MachineEffect (V B F : Type 0) : Type 0 where
  Next : (f : MachineFrame V B F) → MachineEffect V B F
  Emits : (n : ℕ) (f : MachineFrame V B F) → MachineEffect V B F
  Enters : (callee : F) (xs : List ℕ) → MachineEffect V B F
  Leaves : (xs : List ℕ) → MachineEffect V B F
  Traps : MachineEffect V B F
  Stays : MachineEffect V B F

-- on to the next operation of the block, with these numbers
abbrev pub next : {V B F : Type 0} → MachineFrame V B F → (V → ℕ) → MachineFrame V B F
next f numbers = record { function = f.function; block = f.block; index = suc f.index; numbers = numbers }

-- to the first operation of a block, its arguments bound all at once
abbrev pub follow : {V B F : Type 0} → (V → V → Bool) → Code V B F → MachineFrame V B F → MachineEdge V B → MachineFrame V B F
follow same code f e =
    record {
      function = f.function;
      block = e.target;
      index = 0;
      numbers = bind_all same f.numbers (arguments_of (code.block f.function e.target)) (map f.numbers e.operands);
    }

-- a result bound, where there is one
abbrev pub with_result : {V B F : Type 0} → (V → V → Bool) → MachineFrame V B F → V → Option ℕ → MachineEffect V B F
with_result same f r None = Traps
with_result same f r (Some n) = Next (next f (bind same f.numbers r n))

-- the first on 0, the second on any other number
abbrev pub chosen : {A : Type 0} → ℕ → A → A → A
chosen zero otherwise taken = otherwise
chosen (suc n) otherwise taken = taken

-- a function called, where it is there
abbrev pub called : {V B F : Type 0} → Option F → List ℕ → MachineEffect V B F
called None xs = Stays
called (Some g) xs = Enters g xs

-- the effect of the first operation of those that are left
abbrev pub effect : {V B F : Type 0} → (V → V → Bool) → Code V B F → MachineFrame V B F → List (MachineOp V B F) → MachineEffect V B F
effect same code f [] = Stays
effect same code f (Constant r n ∷ rest) = Next (next f (bind same f.numbers r n))
effect same code f (Calculate a w r x y ∷ rest) = with_result same f r (calc a w (f.numbers x) (f.numbers y))
effect same code f (Compare a r x y ∷ rest) = Next
    (next f (bind same f.numbers r (bit (compare a (f.numbers x) (f.numbers y)))))
effect same code f (Emit x ∷ rest) = Emits (f.numbers x) (next f f.numbers)
effect same code f (Call rs callee xs ∷ rest) = called callee (map f.numbers xs)
effect same code f (Br e ∷ rest) = Next (follow same code f e)
effect same code f (CondBr x e d ∷ rest) = Next (follow same code f (chosen (f.numbers x) d e))
effect same code f (Return xs ∷ rest) = Leaves (map f.numbers xs)
effect same code f (Other ∷ rest) = Stays

-- ---- steps

-- the first frame of a function, at its entry block with the arguments bound
abbrev pub first_frame : {V B F : Type 0} → (V → V → Bool) → Code V B F → F → List ℕ → B → MachineFrame V B F
first_frame same code g xs b = record {
  function = g;
  block = b;
  index = 0;
  numbers = bind_all same (λ v. 0)
      (arguments_of (code.block g b)) xs;
}

-- the frame of a call, where the function has a block
abbrev pub entered : {V B F : Type 0} → (V → V → Bool) → Code V B F → F → List ℕ → Option (MachineFrame V B F)
entered same code g xs = option_map (first_frame same code g xs) (code.entry g)

-- the results that a call names
abbrev pub results_of : {V B F : Type 0} → List (MachineOp V B F) → List V
results_of (Call rs callee xs ∷ rest) = rs
results_of _ = []

-- a frame that waits at a call goes on with what the call returned
abbrev pub resumed : {V B F : Type 0} → (V → V → Bool) → Code V B F → MachineFrame V B F → List ℕ → MachineFrame V B F
resumed same code f ns = next f (bind_all same f.numbers (results_of (rest_of code f)) ns)

-- a return to the frame that waits; from the first frame the run has ended
abbrev pub returned : {V B F : Type 0} → (V → V → Bool) → Code V B F → List (MachineFrame V B F) → List ℕ → List ℕ
    → MachineState V B F
returned same code [] ns out = Ended ns out
returned same code (f ∷ fs) ns out = Going (resumed same code f ns ∷ fs) out

-- a call's frame on top of those that wait; where there is none, all stays
abbrev pub on_top : {V B F : Type 0} → Option (MachineFrame V B F) → List (MachineFrame V B F) → List ℕ → MachineState V B F
on_top None fs out = Going fs out
on_top (Some g) fs out = Going (g ∷ fs) out

-- the state after an effect of the frame f, above the frames fs
abbrev pub after : {V B F : Type 0} → (V → V → Bool) → Code V B F → MachineFrame V B F → List (MachineFrame V B F) → List ℕ
    → MachineEffect V B F → MachineState V B F
after same code f fs out (Next g) = Going (g ∷ fs) out
after same code f fs out (Emits n g) = Going (g ∷ fs) (out ++ n ∷ [])
after same code f fs out (Enters g xs) = on_top (entered same code g xs) (f ∷ fs) out
after same code f fs out (Leaves xs) = returned same code fs xs out
after same code f fs out Traps = Trapped out
after same code f fs out Stays = Going (f ∷ fs) out

-- one step executes one operation. A run that is over stays as it is
abbrev pub step : {V B F : Type 0} → (V → V → Bool) → Code V B F → MachineState V B F → MachineState V B F
step same code (Going [] out) = Going [] out
step same code (Going (f ∷ fs) out) = after same code f fs out (effect same code f (rest_of code f))
step same code (Ended ns out) = Ended ns out
step same code (Trapped out) = Trapped out

-- the state after at most n steps
abbrev pub run : {V B F : Type 0} → (V → V → Bool) → Code V B F → ℕ → MachineState V B F → MachineState V B F
run same code zero s = s
run same code (suc n) s = run same code n (step same code s)

-- the first state of a function on these numbers
abbrev pub start : {V B F : Type 0} → (V → V → Bool) → Code V B F → F → List ℕ → MachineState V B F
start same code g xs = on_top (entered same code g xs) [] []
