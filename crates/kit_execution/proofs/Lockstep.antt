-- A module of a context and a program whose functions are seen alike make the same steps.
use Rattle.std.proofs.Common.{◌≡◌, ℕ, zero, suc, ◌<◌, List, [], ◌∷◌, ◌++◌, map, length, Option, Some, None}
use Rattle.std.proofs.Common.{option_map, slice_get, refl, sym, ap, ◌∙◌, subst, arith}
use Rattle.std.proofs.lemmas.Option.{slice_get-get_or}
use Rattle.ir_program.specs.Program.{no_handle}
use Rattle.ir_program.specs.Replacing.{same_value}
use Rattle.ir_program.specs.declared.handles.Ptr.{Ptr}
use Rattle.ir_program.specs.declared.handles.Operation.{Operation}
use Rattle.ir_program.specs.declared.handles.BasicBlock.{BasicBlock}
use Rattle.ir_program.specs.declared.handles.Value.{Value}
use Rattle.kit.specs.Context.{KitContext}
use Rattle.kit_ops.specs.Arithmetic.{calc, compare, bit}
use Rattle.kit_behaviour.specs.Machine as flat
use Rattle.kit_behaviour.specs.Rules.{EdgeFits, AllEdgesFit}
use Rattle.kit_execution.specs.Moving.{HasExecuted, Moves}
use Rattle.kit_flat.specs.Machine as machine
use Rattle.kit_places.specs.Numbers.{block_with}
use Rattle.kit_places.specs.Store.{body_of, module_code}
use Rattle.kit_execution.specs.Outcomes.{SameOutcome}

-- ---- operations

-- what the two machines see
abbrev pub FlatOp : Type 0
FlatOp = flat.Op Value

abbrev pub SeenOp : Type 0
SeenOp = machine.MachineOp Value (Ptr BasicBlock) (Ptr Operation)

abbrev pub SeenEdge : Type 0
SeenEdge = machine.MachineEdge Value (Ptr BasicBlock)

abbrev pub Names : Type 0
Names = ℕ → Option (Ptr Operation)

-- an operation of a flat function whose blocks have these handles, where functions have these numbers
module _ (blocks : List (Ptr BasicBlock)) (named : Names) where
  abbrev pub seen_edge : flat.Edge Value → SeenEdge
  seen_edge e = record { target = block_with blocks e.target; operands = e.forwards }

  abbrev pub seen : FlatOp → SeenOp
  seen (flat.Const r n) = machine.Constant r n
  seen (flat.Calc (flat.Calculated a) w r x y) = machine.Calculate a w r x y
  seen (flat.Calc (flat.Compared c) w r x y) = machine.Compare c r x y
  seen (flat.Emit x) = machine.Emit x
  seen (flat.Call rs c xs) = machine.Call rs (named c) xs
  seen (flat.Branch flat.Plain xs e es) = machine.Br (seen_edge e)
  seen (flat.Branch flat.Nonzero [] e es) = machine.Other
  seen (flat.Branch flat.Nonzero (x ∷ xs) e []) = machine.Other
  seen (flat.Branch flat.Nonzero (x ∷ xs) e (d ∷ ds)) = machine.CondBr x (seen_edge e) (seen_edge d)
  seen (flat.Branch (flat.Cases ns) xs e es) = machine.Other
  seen (flat.Return xs) = machine.Return xs

  results_seen : (ops : List FlatOp) → machine.results_of (map seen ops) ≡ flat.results_of ops
  results_seen [] = refl
  results_seen (flat.Const r n ∷ ops) = refl
  results_seen (flat.Calc (flat.Calculated a) w r x y ∷ ops) = refl
  results_seen (flat.Calc (flat.Compared c) w r x y ∷ ops) = refl
  results_seen (flat.Emit x ∷ ops) = refl
  results_seen (flat.Call rs c xs ∷ ops) = refl
  results_seen (flat.Branch flat.Plain xs e es ∷ ops) = refl
  results_seen (flat.Branch flat.Nonzero [] e es ∷ ops) = refl
  results_seen (flat.Branch flat.Nonzero (x ∷ xs) e [] ∷ ops) = refl
  results_seen (flat.Branch flat.Nonzero (x ∷ xs) e (d ∷ ds) ∷ ops) = refl
  results_seen (flat.Branch (flat.Cases ns) xs e es ∷ ops) = refl
  results_seen (flat.Return xs ∷ ops) = refl

-- ---- numbers

bind_same : (env : Value → ℕ) (vs : List Value) (ns : List ℕ) →
    machine.bind_all same_value env vs ns ≡ flat.bind_all same_value env vs ns
bind_same env [] ns = refl
bind_same env (v ∷ vs) [] = refl
bind_same env (v ∷ vs) (n ∷ ns) = bind_same (flat.bind same_value env v n) vs ns

-- ---- states

abbrev pub SeenFrame : Type 0
SeenFrame = machine.MachineFrame Value (Ptr BasicBlock) (Ptr Operation)

abbrev pub SeenState : Type 0
SeenState = machine.MachineState Value (Ptr BasicBlock) (Ptr Operation)

module _ (s : KitContext) (m : Ptr Operation) where
  abbrev code : machine.Code Value (Ptr BasicBlock) (Ptr Operation)
  code = module_code s m

  module _ (named : Names) where
    -- a function of the context is seen as this flat one
    pub record IsSeenAs (function : Ptr Operation) (fun : Option (flat.Fun Value)) : Type 0 where
      pub entry : 0 < length (body_of s.program function)
      pub count : flat.size fun ≡ length (body_of s.program function)
      pub arguments : (j : ℕ) (b : Ptr BasicBlock) → slice_get (body_of s.program function) j ≡ Some b →
          machine.arguments_of (code.block function b) ≡ flat.arguments_in fun j
      pub operations : (j i : ℕ) (b : Ptr BasicBlock) → slice_get (body_of s.program function) j ≡ Some b →
          machine.operations_from (code.block function b) i ≡ map (seen (body_of s.program function) named)
          (flat.left_in fun j i)
      pub edges : (j i : ℕ) → AllEdgesFit fun (flat.left_in fun j i)

    module _ (q : flat.FunctionsByPath Value) (within : List ℕ)
        (views : (name : ℕ) (function : Ptr Operation) → named name ≡ Some function →
        IsSeenAs function (q (name ∷ within))) where
      -- a frame of both machines
      record Both : Type 0 where
        function : Ptr Operation
        name : ℕ
        is : named name ≡ Some function
        block : Ptr BasicBlock
        number : ℕ
        at : slice_get (body_of s.program function) number ≡ Some block
        index : ℕ
        env : Value → ℕ

      abbrev left : Both → SeenFrame
      left p = record { function = p.function; block = p.block; index = p.index; numbers = p.env }

      abbrev right : Both → flat.Frame Value
      right p = record { path = p.name ∷ within; block = p.number; index = p.index; env = p.env }

      -- a state of both machines
      data States : Type 0 where
        Runs : (top : Both) (waiting : List Both) (out : List ℕ) → States
        Ends : (values out : List ℕ) → States
        Faults : (out : List ℕ) → States

      abbrev left_state : States → SeenState
      left_state (Runs p ps out) = machine.Going (left p ∷ map left ps) out
      left_state (Ends values out) = machine.Ended values out
      left_state (Faults out) = machine.Trapped out

      abbrev right_state : States → flat.State Value
      right_state (Runs p ps out) = flat.Going (right p ∷ map right ps) out
      right_state (Ends values out) = flat.Ended values out
      right_state (Faults out) = flat.Trapped out

      -- the two states are one of both machines
      record InStep (x : SeenState) (y : flat.State Value) : Type 0 where
        both : States
        left_is : x ≡ left_state both
        right_is : y ≡ right_state both

      abbrev blocks_of : Both → List (Ptr BasicBlock)
      blocks_of p = body_of s.program p.function

      abbrev fun_of : Both → Option (flat.Fun Value)
      fun_of p = q (p.name ∷ within)

      abbrev rest_of : Both → List FlatOp
      rest_of p = flat.left_in (fun_of p) p.number p.index

      rest_seen : (p : Both) → machine.rest_of code (left p) ≡ map (seen (blocks_of p) named) (rest_of p)
      rest_seen p = (views p.name p.function p.is).operations p.number p.index p.block p.at

      -- at the next operation
      abbrev moved : Both → (Value → ℕ) → Both
      moved p env = record {
        function = p.function;
        name = p.name;
        is = p.is;
        block = p.block;
        number = p.number;
        at = p.at;
        index = suc p.index;
        env = env;
      }

      -- a function that is entered
      module _ (h : Ptr Operation) (c : ℕ) (is : named c ≡ Some h) (xs : List ℕ) where
        abbrev view : IsSeenAs h (q (c ∷ within))
        view = views c h is

        first_there : slice_get (body_of s.program h) 0 ≡ Some (block_with (body_of s.program h) 0)
        first_there = slice_get-get_or (body_of s.program h) 0 no_handle view.entry

        abbrev entering : Both
        entering = record {
          function = h;
          name = c;
          is = is;
          block = block_with (body_of s.program h) 0;
          number = 0;
          at = first_there;
          index = 0;
          env = flat.bind_all same_value (λ v. 0) (flat.arguments_in (q (c ∷ within)) 0) xs;
        }

        entering_is : machine.entered same_value code h xs ≡ Some (left entering)
        entering_is =
            ap (option_map (machine.first_frame same_value code h xs)) first_there
            ∙ ap (λ (env : Value → ℕ). Some (record {
              function = h;
              block = block_with (body_of s.program h) 0;
              index = 0;
              numbers = env;
            }))
            (ap (λ vs. machine.bind_all same_value (λ v. 0) vs xs)
            (view.arguments 0 (block_with (body_of s.program h) 0) first_there)
            ∙ bind_same (λ v. 0) (flat.arguments_in (q (c ∷ within)) 0) xs)

      -- a return to the frame that waits
      returns : (ps : List Both) (ns out : List ℕ) →
          InStep (machine.returned same_value code (map left ps) ns out)
          (flat.return_to same_value q (map right ps) ns out)
      returns [] ns out = record { both = Ends ns out; left_is = refl; right_is = refl }
      returns (w ∷ ws) ns out =
          let results : machine.results_of (machine.rest_of code (left w)) ≡ flat.results_of (rest_of w) =
          ap machine.results_of (rest_seen w) ∙ results_seen (blocks_of w) named (rest_of w) in
          let env : machine.bind_all same_value w.env (machine.results_of (machine.rest_of code (left w))) ns
          ≡ flat.bind_all same_value w.env (flat.results_of (rest_of w)) ns =
          ap (λ vs. machine.bind_all same_value w.env vs ns) results
          ∙ bind_same w.env (flat.results_of (rest_of w)) ns in
          record {
            both = Runs (moved w (flat.bind_all same_value w.env (flat.results_of (rest_of w)) ns)) ws out;
            left_is = ap (λ (e : Value → ℕ). machine.Going (machine.next (left w) e ∷ map left ws) out) env;
            right_is = refl;
          }

      module _ (p : Both) (ps : List Both) (out : List ℕ) where
        abbrev Goes : machine.MachineEffect Value (Ptr BasicBlock) (Ptr Operation) → flat.Effect Value → Type 0
        Goes x y = InStep (machine.after same_value code (left p) (map left ps) out x)
            (flat.done same_value q (right p) (map right ps) out y)

        result_goes : (r : Value) (o : Option ℕ) →
            Goes (machine.with_result same_value (left p) r o) (flat.with_result same_value (right p) r o)
        result_goes r None = record { both = Faults out; left_is = refl; right_is = refl }
        result_goes r (Some n) = record {
          both = Runs (moved p (flat.bind same_value p.env r n)) ps out;
          left_is = refl;
          right_is = refl;
        }

        edge_goes : (e : flat.Edge Value) → EdgeFits (fun_of p) e →
            Goes (machine.Next (machine.follow same_value code (left p) (seen_edge (blocks_of p) named e)))
            (flat.Next (flat.go same_value (fun_of p) (right p) e))
        edge_goes e fits =
            let view = views p.name p.function p.is in
            let target : Ptr BasicBlock = block_with (blocks_of p) e.target in
            let there : slice_get (blocks_of p) e.target ≡ Some target =
            slice_get-get_or (blocks_of p) e.target no_handle (omega (arith, fits.leads, view.count)) in
            let env : machine.bind_all same_value p.env (machine.arguments_of (code.block p.function target))
            (map p.env e.forwards)
            ≡ flat.bind_all same_value p.env (flat.arguments_in (fun_of p) e.target) (map p.env e.forwards) =
            ap (λ vs. machine.bind_all same_value p.env vs (map p.env e.forwards))
            (view.arguments e.target target there)
            ∙ bind_same p.env (flat.arguments_in (fun_of p) e.target) (map p.env e.forwards) in
            record {
              both = Runs (record {
                function = p.function;
                name = p.name;
                is = p.is;
                block = target;
                number = e.target;
                at = there;
                index = 0;
                env = flat.bind_all same_value p.env (flat.arguments_in (fun_of p) e.target) (map p.env e.forwards);
              }) ps out;
              left_is = ap (λ (n : Value → ℕ). machine.Going
                  (record { function = p.function; block = target; index = 0; numbers = n } ∷ map left ps) out) env;
              right_is = refl;
            }

        call_goes : (o : Option (Ptr Operation)) (c : ℕ) → named c ≡ o → (xs : List ℕ) →
            HasExecuted same_value code (machine.called o xs) → Goes (machine.called o xs) (flat.Enter c xs)
        call_goes None c is xs done = absurd done
        call_goes (Some h) c is xs done = record {
          both = Runs (entering h c is xs) (p ∷ ps) out;
          left_is = ap (λ o. machine.on_top o (left p ∷ map left ps) out) (entering_is h c is xs);
          right_is = refl;
        }

        fork_goes : (n : ℕ) (e d : flat.Edge Value) (ds : List (flat.Edge Value)) → EdgeFits (fun_of p) e →
            EdgeFits (fun_of p) d →
            Goes (machine.Next (machine.follow same_value code (left p)
            (machine.chosen n (seen_edge (blocks_of p) named d) (seen_edge (blocks_of p) named e))))
            (flat.Next (flat.go same_value (fun_of p) (right p)
            (flat.edge_at e (d ∷ ds) (flat.chosen flat.Nonzero (n ∷ [])))))
        fork_goes zero e d ds fits other = edge_goes d other
        fork_goes (suc n) e d ds fits other = edge_goes e fits

        fork_more : (n : ℕ) (ns : List ℕ) → flat.chosen flat.Nonzero (n ∷ []) ≡ flat.chosen flat.Nonzero (n ∷ ns)
        fork_more zero ns = refl
        fork_more (suc n) ns = refl

        abbrev SeenAct : List FlatOp → machine.MachineEffect Value (Ptr BasicBlock) (Ptr Operation)
        SeenAct ops = machine.effect same_value code (left p) (map (seen (blocks_of p) named) ops)

        op_goes : (ops : List FlatOp) → AllEdgesFit (fun_of p) ops →
            HasExecuted same_value code (SeenAct ops) →
            Goes (SeenAct ops) (flat.effect same_value (fun_of p) (right p) ops)
        op_goes [] fit done = absurd done
        op_goes (flat.Const r n ∷ ops) fit done = result_goes r (Some n)
        op_goes (flat.Calc (flat.Calculated a) w r x y ∷ ops) fit done = result_goes r (calc a w (p.env x) (p.env y))
        op_goes (flat.Calc (flat.Compared c) w r x y ∷ ops) fit done =
            result_goes r (Some (bit (compare c (p.env x) (p.env y))))
        op_goes (flat.Emit x ∷ ops) fit done = record {
          both = Runs (moved p p.env) ps (out ++ p.env x ∷ []);
          left_is = refl;
          right_is = refl;
        }
        op_goes (flat.Call rs c xs ∷ ops) fit done = call_goes (named c) c refl (map p.env xs) done
        op_goes (flat.Branch flat.Plain xs e es ∷ ops) fit done = edge_goes e fit.0.0
        op_goes (flat.Branch flat.Nonzero [] e es ∷ ops) fit done = absurd done
        op_goes (flat.Branch flat.Nonzero (x ∷ xs) e [] ∷ ops) fit done = absurd done
        op_goes (flat.Branch flat.Nonzero (x ∷ xs) e (d ∷ ds) ∷ ops) fit done =
            subst (λ k. Goes (SeenAct (flat.Branch flat.Nonzero (x ∷ xs) e (d ∷ ds) ∷ ops))
            (flat.Next (flat.go same_value (fun_of p) (right p) (flat.edge_at e (d ∷ ds) k))))
            (fork_more (p.env x) (map p.env xs)) (fork_goes (p.env x) e d ds fit.0.0 fit.0.1.0)
        op_goes (flat.Branch (flat.Cases ns) xs e es ∷ ops) fit done = absurd done
        op_goes (flat.Return xs ∷ ops) fit done = returns ps (map p.env xs) out

      step_goes : (z : States) → Moves same_value code (left_state z) →
          InStep (machine.step same_value code (left_state z)) (flat.step same_value q (right_state z))
      step_goes (Runs p ps out) moves =
          let rest = rest_seen p in
          subst (λ os. InStep (machine.after same_value code (left p) (map left ps) out
          (machine.effect same_value code (left p) os))
          (flat.done same_value q (right p) (map right ps) out (flat.act same_value q (right p)))) (sym rest)
          (op_goes p ps out (rest_of p) ((views p.name p.function p.is).edges p.number p.index)
          (subst (λ os. HasExecuted same_value code (machine.effect same_value code (left p) os)) rest moves))
      step_goes (Ends values out) moves = record { both = Ends values out; left_is = refl; right_is = refl }
      step_goes (Faults out) moves = record { both = Faults out; left_is = refl; right_is = refl }

      run_goes : (n : ℕ) (z : States) →
          ((k : ℕ) → Moves same_value code (machine.run same_value code k (left_state z))) →
          InStep (machine.run same_value code n (left_state z)) (flat.run same_value q n (right_state z))
      run_goes zero z moves = record { both = z; left_is = refl; right_is = refl }
      run_goes (suc n) z moves =
          let t = step_goes z (moves 0) in
          let rest = run_goes n t.both
          (λ k. subst (λ x. Moves same_value code (machine.run same_value code k x)) t.left_is (moves (suc k))) in
          record {
            both = rest.both;
            left_is = ap (machine.run same_value code n) t.left_is ∙ rest.left_is;
            right_is = ap (flat.run same_value q n) t.right_is ∙ rest.right_is;
          }

      same_outcome : (z : States) → SameOutcome (left_state z) (right_state z)
      same_outcome (Runs p ps out) = refl
      same_outcome (Ends values out) = (refl, refl)
      same_outcome (Faults out) = refl

      -- the runs of a function are in step
      pub runs_alike : (name : ℕ) (function : Ptr Operation) → named name ≡ Some function → (xs : List ℕ) →
          ((k : ℕ) → Moves same_value code
          (machine.run same_value code k (machine.start same_value code function xs))) →
          (n : ℕ) →
          SameOutcome (machine.run same_value code n (machine.start same_value code function xs))
          (flat.run same_value q n (flat.start same_value q (name ∷ within) xs))
      runs_alike name function is xs moves n =
          let first : States = Runs (entering function name is xs) [] [] in
          let start : machine.start same_value code function xs ≡ left_state first =
          ap (λ o. machine.on_top o [] []) (entering_is function name is xs) in
          let runs = run_goes n first
          (λ k. subst (λ x. Moves same_value code (machine.run same_value code k x)) start (moves k)) in
          let same : SameOutcome (machine.run same_value code n (left_state first))
          (flat.run same_value q n (right_state first)) =
          subst (λ x. SameOutcome x (flat.run same_value q n (right_state first))) (sym runs.left_is)
          (subst (SameOutcome (left_state runs.both)) (sym runs.right_is) (same_outcome runs.both)) in
          subst (λ x. SameOutcome (machine.run same_value code n x) (flat.run same_value q n (right_state first)))
          (sym start) same
