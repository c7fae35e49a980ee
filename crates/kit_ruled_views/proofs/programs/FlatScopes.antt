-- What an operation may name by the rules is in scope in the flat view of its function.
use Rattle.std.proofs.Common.{◌≡◌, ◌⊎◌, ⊎_elim, inl, inr, ℕ, zero, suc, Bool, true, false, cond, ◌==◌, List, [], ◌∷◌}
use Rattle.std.proofs.Common.{◌++◌, take, Some, slice_get, refl, sym, subst}
use Rattle.ir_program.specs.declared.handles.BasicBlock.{BasicBlock}
use Rattle.ir_program.specs.declared.handles.Ptr.{Ptr}
use Rattle.ir_program.specs.declared.handles.Value.{Value}
use Rattle.ir_trees.specs.Names.{Names, Contents}
use Rattle.ir_trees.specs.Renames.{names_of}
use Rattle.ir_trees.specs.Trees.{Head, Operations, end, operation, block}
use Rattle.ir_trees.proofs.Members.{has_either}
use Rattle.kit.specs.Context.{KitTree}
use Rattle.opt_trees.specs.Occurrences.{Has}
use Rattle.kit.specs.Meaning.{KitOperation, KitBlock}
use Rattle.kit_behaviour.specs.Machine.{Plain, Nonzero, Cases, Op, Const, Calc, Emit, Call, Branch, Return, Fun}
use Rattle.kit_behaviour.specs.Machine.{arguments_in}
use Rattle.kit_behaviour.specs.Rules.{operands}
use Rattle.kit_behaviour.specs.Scopes.{In, AllIn, defs, all_defs, entry_values, at_start, OpsWith}
use Rattle.kit_behaviour.proofs.Propagation.ScopeLemmas.{in_append}
use Rattle.kit_checks.specs.Sites.{Listed, operation_list}
use Rattle.kit_checks.specs.Words.{values_before, values_if, first_body, results_of}
use Rattle.kit_views.specs.FlatView.{IsOp, AreOps, AreFlatBlocks}
use Rattle.kit_views.specs.Reading.{Reading, kit_contents}
use Rattle.kit_ruled_views.proofs.FunctionSites.{KitBlocks, KitBody}
use Rattle.kit_ruled_views.proofs.programs.FlatDefined.{results_are}

-- an operation has its operands in its flat view, in order
operands_are : {N : Names} {S : Contents} (r : Reading S) (names : List N.block) (h : Head N S) (op : Op N.value) →
    IsOp r names h op → h.operands ≡ operands op
operands_are r names h (Const v n) is = is.0.operands
operands_are r names h (Calc f w v x y) is = is.0.operands
operands_are r names h (Emit x) is = is.operands
operands_are r names h (Call rs c xs) is = is.0.operands
operands_are r names h (Branch Plain xs e es) is = is.0.operands
operands_are r names h (Branch Nonzero xs e es) is = is.0.operands
operands_are r names h (Branch (Cases ns) xs e es) is = absurd is
operands_are r names h (Return xs) is = is.operands

has_in : {X : Type 0} (x : X) (xs : List X) → Has x xs → In x xs
has_in x [] h = h
has_in x (y ∷ ys) h = ⊎_elim (λ e. inl e) (λ k. inr (has_in x ys k)) h

all_in : {X : Type 0} (xs ys : List X) → ((x : X) → Has x xs → In x ys) → AllIn xs ys
all_in [] ys h = tt
all_in (x ∷ xs) ys h = (h x (inl refl), all_in xs ys (λ y i. h y (inr i)))

-- each operand of the operation is in scope
abbrev pub Sees : List Value → Op Value → Type 0
Sees a op = AllIn (operands op) a

module _ (r : Reading kit_contents) (names : List (Ptr BasicBlock)) where
  -- the results of operations are what their flat views define
  results_in : (os : Listed KitOperation KitBlock Operations) (ps : List (Op Value)) → AreOps r names os ps →
      (x : Value) → Has x (results_of (operation_list os)) → In x (all_defs ps)
  results_in end ps are x has = absurd has
  results_in (operation h rs more) [] are x has = absurd are
  results_in (operation h rs more) (p ∷ ps) are x has =
      in_append x (defs p) (all_defs ps) (⊎_elim
      (λ here. inl (has_in x (defs p) (subst (Has x) (results_are r names h p are.1) here)))
      (λ later. inr (results_in more ps are.2 x later))
      (has_either (names_of h.results) (results_of (operation_list more)) x has))

  -- each operand of these operations is a result of one before it among them, or one of a
  abbrev pub AreNamed : Listed KitOperation KitBlock Operations → List Value → Type 0
  AreNamed os a = (k : ℕ) (u : KitTree) → slice_get (operation_list os) k ≡ Some u → (x : Value) →
      Has x u.head.operands → Has x (results_of (take k (operation_list os))) ⊎ In x a

  pub ops_see : (os : Listed KitOperation KitBlock Operations) (ps : List (Op Value)) → AreOps r names os ps →
      (a : List Value) → AreNamed os a → OpsWith Sees a ps
  ops_see end [] are a named = tt
  ops_see end (p ∷ ps) are a named = absurd are
  ops_see (operation h rs more) [] are a named = absurd are
  ops_see (operation h rs more) (p ∷ ps) are a named = (
    all_in (operands p) a
        (λ x i. ⊎_elim (λ none. absurd none) (λ j. j)
        (named 0 (record { head = h; regions = rs }) refl x
        (subst (Has x) (sym (operands_are r names h p are.1)) i))),
    ops_see more ps are.2 (defs p ++ a)
        (λ k u at x i. ⊎_elim
        (λ has. ⊎_elim
        (λ own. inr (in_append x (defs p) a (inl (has_in x (defs p)
        (subst (Has x) (results_are r names h p are.1) own)))))
        (λ later. inl later)
        (has_either (names_of h.results) (results_of (take k (operation_list more))) x has))
        (λ j. inr (in_append x (defs p) a (inr j)))
        (named (suc k) u at x i)),
  )

  -- the values of the entry block
  pub entry_sees : (bs : KitBlocks) (f : Fun Value) → AreFlatBlocks r names bs f → (x : Value) →
      Has x (values_if (first_body bs)) → In x (entry_values (Some f))
  entry_sees end f are x has = absurd has
  entry_sees (block l os more) [] are x has = absurd are
  entry_sees (block l os more) (k ∷ ks) are x has =
      in_append x k.arguments (all_defs k.ops) (⊎_elim
      (λ here. inl (has_in x k.arguments (subst (Has x) are.0 here)))
      (λ later. inr (results_in os k.ops are.1 x later))
      (has_either (names_of l.arguments) (results_of (operation_list os)) x has))

  -- what a block's operation may name is in scope at the start of the block, or a result of an operation before it
  pub start_sees : (bs : KitBlocks) (f : Fun Value) → AreFlatBlocks r names bs f → (b : ℕ) (body : KitBody) →
      names_of body.label.arguments ≡ arguments_in (Some f) b → (k : ℕ) (x : Value) →
      Has x (values_before body k ++ cond (b == 0) [] (values_if (first_body bs))) →
      Has x (results_of (take k (operation_list body.operations))) ⊎ In x (at_start (Some f) b)
  start_sees bs f are b body arguments k x has =
      ⊎_elim
      (λ own. ⊎_elim
      (λ here. inr (of_arguments b (has_in x (arguments_in (Some f) b) (subst (Has x) arguments here))))
      (λ earlier. inl earlier)
      (has_either (names_of body.label.arguments) (results_of (take k (operation_list body.operations))) x own))
      (λ outside. inr (of_entry b outside))
      (has_either (values_before body k) (cond (b == 0) [] (values_if (first_body bs))) x has)
    where
      of_arguments : (b : ℕ) → In x (arguments_in (Some f) b) → In x (at_start (Some f) b)
      of_arguments zero i = i
      of_arguments (suc b) i = in_append x (arguments_in (Some f) (suc b)) (entry_values (Some f)) (inl i)

      of_some : (b : ℕ) (first : Bool) → Has x (cond first [] (values_if (first_body bs))) →
          In x (at_start (Some f) (suc b))
      of_some b true i = absurd i
      of_some b false i =
          in_append x (arguments_in (Some f) (suc b)) (entry_values (Some f)) (inr (entry_sees bs f are x i))

      of_entry : (b : ℕ) → Has x (cond (b == 0) [] (values_if (first_body bs))) → In x (at_start (Some f) b)
      of_entry zero i = absurd i
      of_entry (suc b) i = of_some b (suc b == 0) i
