-- What is known where a problem has been made of what is inside an operation.
use Rattle.std.proofs.Common.{◌<◌, ◌≡◌, ◌⊎◌, inl, inr, ⊎_elim, ℕ, zero, suc, List, [], ◌∷◌, Option, Some, None, map, length, slice_get, option_map, unwrap_or, refl, sym, ap, ◌∙◌, arith}
use Rattle.std.specs.Prelude.{IsSome, ◌↔◌, Result, Ok, Err, IfOk}
use Rattle.std.proofs.lemmas.Option.{slice_get_cases, slice_get_within, same_Some}
use Rattle.ir_base.specs.declared.types.TypeHandle.{TypeHandle}
use Rattle.ir_program.specs.Program.{Program, TypedValue, OperationView, BlockView, IsLiveValue, operation_at, block_at, results_at, arguments_at, value_in, type_at}
use Rattle.ir_program.specs.Definers.{values_at, StandsAtDefiner}
use Rattle.ir_program.specs.Rows.{operands_at, successors_at}
use Rattle.ir_program.specs.Lists.{StandsInBlock, StandsInRegion, StandsInOperation}
use Rattle.ir_program.specs.declared.handles.Region.{Region}
use Rattle.ir_program.specs.declared.handles.Ptr.{Ptr}
use Rattle.ir_program.specs.declared.handles.Operation.{Operation}
use Rattle.ir_program.specs.declared.handles.BasicBlock.{BasicBlock}
use Rattle.ir_program.specs.declared.handles.Value.{Value}
use Rattle.ir_program.specs.declared.handles.DefiningEntity.{DefiningEntity}
use Rattle.ir_trees.specs.Renames.{names_of}
use Rattle.ir_trees.specs.Stands.{in_program, defined_by, ProgramTree, StandsFor}
use Rattle.opt_trees.specs.Dialect.{Dialect, Lawful}
use Rattle.opt_trees.specs.Occurrences.{Has, OperationsApart, occurrences_of, block_occurrences_of, defined_in}
use Rattle.opt_rows.specs.declared.dead_problem.DeadProblem.{DeadProblem}
use Rattle.opt_inside.specs.Edges.{HasLocalEdgesBelow}
use Rattle.opt_inside.specs.Numbered.{Numbers, NumbersInside}
use Rattle.opt_inside.specs.Occurring.{Found, FoundBlock, IsBelowRoot, IsBlockBelow, IsDefinedBelow, IsOccurrence, IsBlockOccurrence}
use Rattle.opt_inside.proofs.Around.{HasLists}
use Rattle.opt_dce.specs.liveness.Problems.{AreThere, IsProblemOf}

pub record Ground {O B A : Type 0} (d : Dialect (in_program O B) A) (c : Program O B) (op : Ptr Operation) (n : Numbers) (problem : DeadProblem) : Type 0 where
  pub lists : HasLists c
  pub numbers : NumbersInside c op n
  pub rows : IsProblemOf d c n op problem
  pub there : AreThere c n
  pub definer : (e : DefiningEntity) (k : ℕ) (v : Value) → value_in (values_at c e) k ≡ Some v → v.definer ≡ e
  pub stands : (v : Value) (ty : TypeHandle) → type_at c v ≡ Some ty → StandsAtDefiner c v ty
  pub live : (p : Ptr Operation) (k : ℕ) (v : Value) → slice_get (operands_at c p) k ≡ Some v → IsLiveValue c v
  pub lawful : Lawful d
  pub edges : HasLocalEdgesBelow d.is_terminator c op
  pub root : IsSome (operation_at c op)
  pub parents_first : (i j : ℕ) (p q : Ptr Operation) (b : Ptr BasicBlock) (r : Ptr Region) → slice_get n.operations i ≡ Some p → slice_get n.operations j ≡ Some q → StandsInBlock c p b → StandsInRegion c b r → StandsInOperation c r q → j < i

-- what is found in a tree of the operation
pub record Occurs {O B : Type 0} (c : Program O B) (op : Ptr Operation) (t : ProgramTree O B) : Type 0 where
  pub root : StandsFor c op t
  pub sound : (o : Found O B) → Has o (occurrences_of t) → IsOccurrence c op o
  pub found : (p : Ptr Operation) → IsBelowRoot c op p → (o : Found O B) × Has o (occurrences_of t) × (o.head.name ≡ p)
  pub one : OperationsApart t
  pub blocks_sound : (x : FoundBlock O B) → Has x (block_occurrences_of t) → IsBlockOccurrence c op x
  pub blocks_found : (b : Ptr BasicBlock) → IsBlockBelow c op b → (x : FoundBlock O B) × Has x (block_occurrences_of t) × (x.label.name ≡ b)
  pub inside : (o : Found O B) → Has o (occurrences_of t) → (v : Value) → Has v (defined_in o.regions) ↔ IsDefinedBelow c o.head.name v

-- lists and options

pub at_index : {X Y : Type 0} (xs : List X) (ys : List Y) (i : ℕ) (x : X) → slice_get xs i ≡ Some x → length ys ≡ length xs → (y : Y) × (slice_get ys i ≡ Some y)
at_index xs ys i x h e = ⊎_elim (λ w. (w.0, w.2)) (λ w. absurd (omega (arith, slice_get_within xs i x h, w.0, e))) (slice_get_cases ys i).1

pub none_or : {X : Type 0} (o : Option X) → (o ≡ None) ⊎ ((x : X) × (o ≡ Some x))
none_or None = inl refl
none_or (Some x) = inr (x, refl)

pub same_or : (a b : ℕ) → (a ≡ b) ⊎ (a ≡ b → ⊥)
same_or zero zero = inl refl
same_or zero (suc b) = inr (λ e. cc)
same_or (suc a) zero = inr (λ e. cc)
same_or (suc a) (suc b) = ⊎_elim (λ e. inl (ap suc e)) (λ ne. inr (λ e. let q : a ≡ b = omega arith in ne q)) (same_or a b)

pub ok_then : {T E : Type 0} {P Q : T → Type 0} (r : Result T E) → ((x : T) → P x → Q x) → IfOk r P → IfOk r Q
ok_then (Ok x) f h = f x h
ok_then (Err e) f h = h

-- the values of definitions

pub has_value_in : (ts : List TypedValue) (v : Value) → Has v (names_of (map defined_by ts)) → (k : ℕ) × (value_in ts k ≡ Some v)
has_value_in [] v h = absurd h
has_value_in (t ∷ ts) v h = ⊎_elim (λ e. (zero, ap Some (sym e))) (λ r. let w = has_value_in ts v r in (suc w.0, w.1)) h

pub value_in_has : (ts : List TypedValue) (k : ℕ) (v : Value) → value_in ts k ≡ Some v → Has v (names_of (map defined_by ts))
value_in_has [] k v h = absurd (cc h)
value_in_has (t ∷ ts) zero v h = inl (sym (same_Some t.value v h))
value_in_has (t ∷ ts) (suc k) v h = inr (value_in_has ts k v h)

-- what is said of an operation or a block that is there

module _ {O B : Type 0} (c : Program O B) where
  pub results_here : (p : Ptr Operation) (w : OperationView O) → operation_at c p ≡ Some w → results_at c p ≡ w.results
  results_here p w h = ap (λ o. unwrap_or (option_map (λ (z : OperationView O). z.results) o) []) h

  pub operands_here : (p : Ptr Operation) (w : OperationView O) → operation_at c p ≡ Some w → operands_at c p ≡ w.operands
  operands_here p w h = ap (λ o. unwrap_or (option_map (λ (z : OperationView O). z.operands) o) []) h

  pub successors_here : (p : Ptr Operation) (w : OperationView O) → operation_at c p ≡ Some w → successors_at c p ≡ w.successors
  successors_here p w h = ap (λ o. unwrap_or (option_map (λ (z : OperationView O). z.successors) o) []) h

  pub arguments_here : (b : Ptr BasicBlock) (w : BlockView B) → block_at c b ≡ Some w → arguments_at c b ≡ w.arguments
  arguments_here b w h = ap (λ o. unwrap_or (option_map (λ (z : BlockView B). z.arguments) o) []) h

  pub view_of_operand : (p : Ptr Operation) (k : ℕ) (v : Value) → slice_get (operands_at c p) k ≡ Some v → (w : OperationView O) × (operation_at c p ≡ Some w)
  view_of_operand p k v h = ⊎_elim
      (λ e. let none : slice_get (operands_at c p) k ≡ None = ap (λ o. slice_get (unwrap_or (option_map (λ (z : OperationView O). z.operands) o) []) k) e in absurd (cc (none, h)))
      (λ w. w)
      (none_or (operation_at c p))

  pub same_view : (p q : Ptr Operation) (v w : OperationView O) → p ≡ q → operation_at c p ≡ Some v → operation_at c q ≡ Some w → v ≡ w
  same_view p q v w e a b = same_Some v w (sym a ∙ ap (operation_at c) e ∙ b)
