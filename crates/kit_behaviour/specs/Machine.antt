-- The machine on functions of basic blocks. V is the type of the names of values: places, or handles of a store, or
-- texts. Values are natural numbers; of an integer type of width w, those below 2 ^ w.
use Rattle.std.specs.Prelude.{◌≡◌, ℕ, zero, suc, ◌*◌, ◌≤◌, Bool, List, [], ◌∷◌, ◌++◌, map, Option, Some}
use Rattle.std.specs.Prelude.{None, if◌then◌else◌, nat_eq, length, slice_get, drop}
use Rattle.kit_ops.specs.declared.arithmetic.Arithmetic.{Arithmetic}
use Rattle.kit_ops.specs.declared.arithmetic.Comparison.{Comparison}
use Rattle.kit_ops.specs.Arithmetic as numbers
use Rattle.kit_ops.specs.Arithmetic.{compare, bit}

-- 1. programs

-- arithmetic and comparisons, all unsigned
pub data Arith : Type 0 where
  Calculated : (a : Arithmetic) → Arith
  Compared : (c : Comparison) → Arith

-- the result at width w, or none where the operation traps
abbrev pub calc : Arith → ℕ → ℕ → ℕ → Option ℕ
calc (Calculated a) w x y = numbers.calc a w x y
calc (Compared c) w x y = Some (bit (compare c x y))

-- a successor, by its number in the function, with what the branch forwards to its arguments
pub record Edge (V : Type 0) : Type 0 where
  pub target : ℕ
  pub forwards : List V

-- how a branch chooses among its edges by the numbers of its operands: the first (br); the first unless the number is
-- 0, then the second (cond_br); the edge of the case with the number, else the first (switch)
pub data Select : Type 0 where
  Plain : Select
  Nonzero : Select
  Cases : (ns : List ℕ) → Select

-- the number of the edge of the case n, where the edges of the cases are numbered from i on; 0 is the default's
abbrev pub case_of : List ℕ → ℕ → ℕ → ℕ
case_of [] i n = 0
case_of (m ∷ ms) i n = if nat_eq n m then i else case_of ms (suc i) n

-- the number of the edge that is taken; the one place where the ways to choose are told apart
abbrev pub chosen : Select → List ℕ → ℕ
chosen Plain ns = 0
chosen Nonzero [] = 0
chosen Nonzero (zero ∷ ns) = 1
chosen Nonzero (suc n ∷ ns) = 0
chosen (Cases ms) [] = 0
chosen (Cases ms) (n ∷ ns) = case_of ms 1 n

-- the edge with this number, else d
abbrev pub nth : {V : Type 0} → Edge V → List (Edge V) → ℕ → Edge V
nth d [] n = d
nth d (e ∷ es) zero = e
nth d (e ∷ es) (suc n) = nth d es n

-- the edge with this number among e and those that follow it; the first where there is none
abbrev pub edge_at : {V : Type 0} → Edge V → List (Edge V) → ℕ → Edge V
edge_at e es n = nth e (e ∷ es) n

-- each edge has the property
abbrev pub AllEdges : {V : Type 0} → (Edge V → Type 0) → List (Edge V) → Type 0
AllEdges P [] = Unit {0}
AllEdges P (e ∷ es) = P e × AllEdges P es

-- an operation, as the machine sees it:
-- a constant n; arithmetic at width w; emission of a number; a call by name; a branch with the operands that it
-- chooses by, and one edge or more; a return
pub data Op (V : Type 0) : Type 0 where
  Const : (r : V) (n : ℕ) → Op V
  Calc : (f : Arith) (w : ℕ) (r : V) (x y : V) → Op V
  Emit : (x : V) → Op V
  Call : (rs : List V) (callee : ℕ) (xs : List V) → Op V
  Branch : (s : Select) (xs : List V) (e : Edge V) (es : List (Edge V)) → Op V
  Return : (xs : List V) → Op V

pub record Block (V : Type 0) : Type 0 where
  pub arguments : List V
  pub ops : List (Op V)

-- a function is its blocks, the entry first
abbrev pub Fun : Type 0 → Type 0
Fun V = List (Block V)

-- the functions below a root, by their paths; a path has the innermost name first
abbrev pub FunctionsByPath : Type 0 → Type 0
FunctionsByPath V = List ℕ → Option (Fun V)

-- how many blocks a function has
abbrev pub size : {V : Type 0} → Option (Fun V) → ℕ
size None = 0
size (Some f) = length f

-- the operations of a block from the ith on
abbrev pub ops_left : {V : Type 0} → Option (Block V) → ℕ → List (Op V)
ops_left None i = []
ops_left (Some b) i = drop i b.ops

-- the operations of the function's block b from the ith on; none where there is no such block
abbrev pub left_in : {V : Type 0} → Option (Fun V) → ℕ → ℕ → List (Op V)
left_in None b i = []
left_in (Some f) b i = ops_left (slice_get f b) i

abbrev pub arguments_of : {V : Type 0} → Option (Block V) → List V
arguments_of None = []
arguments_of (Some b) = b.arguments

-- the arguments of the function's block b; none where there is no such block
abbrev pub arguments_in : {V : Type 0} → Option (Fun V) → ℕ → List V
arguments_in None b = []
arguments_in (Some f) b = arguments_of (slice_get f b)

-- 2. steps

-- the numbers of the values of a frame; 0 where none was bound yet
abbrev pub Env : Type 0 → Type 0
Env V = V → ℕ

-- one activation of a function, at an operation of a block
pub record Frame (V : Type 0) : Type 0 where
  pub path : List ℕ
  pub block : ℕ
  pub index : ℕ
  pub env : Env V

-- a run goes on, the innermost frame first; has ended with values; or has trapped. Each has what was emitted so far
pub data State (V : Type 0) : Type 0 where
  Going : (frames : List (Frame V)) (out : List ℕ) → State V
  Ended : (values out : List ℕ) → State V
  Trapped : (out : List ℕ) → State V

-- one value bound
abbrev pub bind : {V : Type 0} → (V → V → Bool) → Env V → V → ℕ → Env V
bind same env v n = λ w. if same v w then n else env w

-- all of them bound at once: the numbers were read before
abbrev pub bind_all : {V : Type 0} → (V → V → Bool) → Env V → List V → List ℕ → Env V
bind_all same env [] ns = env
bind_all same env (v ∷ vs) [] = env
bind_all same env (v ∷ vs) (n ∷ ns) = bind_all same (bind same env v n) vs ns

-- what an operation does in its frame: it goes on there; emits a number and goes on; calls; returns; traps. Lost is a
-- frame that is at no operation, which no function that keeps the rules comes to
pub data Effect (V : Type 0) : Type 0 where
  Next : (f : Frame V) → Effect V
  Out : (n : ℕ) (f : Frame V) → Effect V
  Enter : (callee : ℕ) (xs : List ℕ) → Effect V
  Exit : (xs : List ℕ) → Effect V
  Fault : Effect V
  Lost : Effect V

-- at the next operation of the block
abbrev pub next : {V : Type 0} → Frame V → Env V → Frame V
next f env = record { path = f.path; block = f.block; index = suc f.index; env = env }

-- along an edge, to the first operation of its target
abbrev pub go : {V : Type 0} → (V → V → Bool) → Option (Fun V) → Frame V → Edge V → Frame V
go same fun f e =
    record {
      path = f.path;
      block = e.target;
      index = 0;
      env = bind_all same f.env (arguments_in fun e.target) (map f.env e.forwards);
    }

abbrev pub with_result : {V : Type 0} → (V → V → Bool) → Frame V → V → Option ℕ → Effect V
with_result same f r None = Fault
with_result same f r (Some n) = Next (next f (bind same f.env r n))

-- what the first of these operations does
abbrev pub effect : {V : Type 0} → (V → V → Bool) → Option (Fun V) → Frame V → List (Op V) → Effect V
effect same fun f [] = Lost
effect same fun f (Const r n ∷ ops) = Next (next f (bind same f.env r n))
effect same fun f (Calc a w r x y ∷ ops) = with_result same f r (calc a w (f.env x) (f.env y))
effect same fun f (Emit x ∷ ops) = Out (f.env x) (next f f.env)
effect same fun f (Call rs callee xs ∷ ops) = Enter callee (map f.env xs)
effect same fun f (Branch s xs e es ∷ ops) = Next (go same fun f (edge_at e es (chosen s (map f.env xs))))
effect same fun f (Return xs ∷ ops) = Exit (map f.env xs)

-- what the frame's operation does
abbrev pub act : {V : Type 0} → (V → V → Bool) → FunctionsByPath V → Frame V → Effect V
act same p f = effect same (p f.path) f (left_in (p f.path) f.block f.index)

-- the path of a callee: a function of the nearest enclosing module
abbrev pub beside : List ℕ → ℕ → List ℕ
beside [] name = name ∷ []
beside (own ∷ path) name = name ∷ path

-- the frame of a call: at the entry's first operation, its arguments bound
abbrev pub entry : {V : Type 0} → (V → V → Bool) → FunctionsByPath V → List ℕ → List ℕ → Frame V
entry same p path xs =
    record { path = path; block = 0; index = 0; env = bind_all same (λ v. 0) (arguments_in (p path) 0) xs }

abbrev pub results_of : {V : Type 0} → List (Op V) → List V
results_of (Call rs callee xs ∷ ops) = rs
results_of _ = []

-- a frame that waits at a call goes on, the call's results bound to what was returned
abbrev pub resume : {V : Type 0} → (V → V → Bool) → FunctionsByPath V → Frame V → List ℕ → Frame V
resume same p f ns = next f (bind_all same f.env (results_of (left_in (p f.path) f.block f.index)) ns)

-- a return to the frame that waits; from the first frame the run has ended
abbrev pub return_to : {V : Type 0} → (V → V → Bool) → FunctionsByPath V → List (Frame V) → List ℕ → List ℕ → State V
return_to same p [] ns out = Ended ns out
return_to same p (f ∷ fs) ns out = Going (resume same p f ns ∷ fs) out

-- the state after an effect of the frame f above the frames fs
abbrev pub done : {V : Type 0} → (V → V → Bool) → FunctionsByPath V → Frame V → List (Frame V) → List ℕ → Effect V → State V
done same p f fs out (Next g) = Going (g ∷ fs) out
done same p f fs out (Out n g) = Going (g ∷ fs) (out ++ n ∷ [])
done same p f fs out (Enter callee xs) = Going (entry same p (beside f.path callee) xs ∷ f ∷ fs) out
done same p f fs out (Exit xs) = return_to same p fs xs out
done same p f fs out Fault = Trapped out
done same p f fs out Lost = Going (f ∷ fs) out

-- one step; a run that is over stays as it is
abbrev pub step : {V : Type 0} → (V → V → Bool) → FunctionsByPath V → State V → State V
step same p (Going [] out) = Going [] out
step same p (Going (f ∷ fs) out) = done same p f fs out (act same p f)
step same p (Ended ns out) = Ended ns out
step same p (Trapped out) = Trapped out

-- the state after n steps, so after at most n steps of a run that ends
abbrev pub run : {V : Type 0} → (V → V → Bool) → FunctionsByPath V → ℕ → State V → State V
run same p zero s = s
run same p (suc n) s = run same p n (step same p s)

-- a run of the function with this path on these numbers
abbrev pub start : {V : Type 0} → (V → V → Bool) → FunctionsByPath V → List ℕ → List ℕ → State V
start same p path xs = Going (entry same p path xs ∷ []) []

-- 3. behaviour

-- what was emitted
abbrev pub out_of : {V : Type 0} → State V → List ℕ
out_of (Going fs out) = out
out_of (Ended ns out) = out
out_of (Trapped out) = out

abbrev pub IsPrefixOf : List ℕ → List ℕ → Type 0
IsPrefixOf xs ys = (rest : List ℕ) × (xs ++ rest ≡ ys)

-- what the first run shows the second shows too: the end, the values and all emissions of a run that is over, the
-- trap and all emissions, and else at least the emissions so far
abbrev pub Shown : {V W : Type 0} → State V → State W → Type 0
Shown (Going fs out) t = IsPrefixOf out (out_of t)
Shown (Ended ns out) t = t ≡ Ended ns out
Shown (Trapped out) t = t ≡ Trapped out

-- whatever p shows in n steps q shows in at most n * c steps, of each function, on any numbers
abbrev pub FollowsWithin :
    {V W : Type 0} → (V → V → Bool) → (W → W → Bool) → ℕ → FunctionsByPath V → FunctionsByPath W → Type 0
FollowsWithin same same' c p q =
    (path xs : List ℕ) (n : ℕ)
    → (m : ℕ) × (m ≤ n * c) × Shown (run same p n (start same p path xs)) (run same' q m (start same' q path xs))

-- the two programs behave alike, and neither takes more than c times as many steps as the other
pub record Alike {V W : Type 0} (same : V → V → Bool) (same' : W → W → Bool) (c : ℕ) (p : FunctionsByPath V) (q : FunctionsByPath W)
    : Type 0 where
  pub there : FollowsWithin same same' c p q
  pub back : FollowsWithin same' same c q p
