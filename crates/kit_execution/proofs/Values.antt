-- The values that operations of a function may name, in its tree and in the program.
use Rattle.std.proofs.Common.{◌≡◌, ◌⊎◌, inl, inr, ⊎_elim, ℕ, zero, suc, Bool, true, false, cond, ◌==◌, List, [], ◌∷◌, map, take, length, Option, Some, None, option_map, unwrap_or, slice_get, refl, sym, ap, ◌∙◌, subst}
use Rattle.std.proofs.lemmas.List.{length-map}
use Rattle.ir_program.specs.Program.{TypedValue, OperationView, BlockView, results_at, arguments_at}
use Rattle.ir_program.specs.Lists.{operations_in}
use Rattle.ir_program.specs.declared.handles.Ptr.{Ptr}
use Rattle.ir_program.specs.declared.handles.Operation.{Operation}
use Rattle.ir_program.specs.declared.handles.BasicBlock.{BasicBlock}
use Rattle.ir_program.specs.declared.handles.Value.{Value}
use Rattle.ir_trees.specs.Searched.{Lists}
use Rattle.ir_trees.specs.Stands.{ProgramHead, ProgramLabel, AreTree, StandsFor, defined_by}
use Rattle.ir_trees.specs.Trees.{Blocks}
use Rattle.ir_trees.proofs.Members.{Has, at_has, has_at, has_either}
use Rattle.kit.specs.Context.{KitProgram, KitTree}
use Rattle.kit.specs.Meaning.{KitBlock, KitOperation}
use Rattle.kit_checks.specs.Located.{IsBody}
use Rattle.kit_checks.specs.Sites.{operation_list, block_list, Around}
use Rattle.kit_checks.specs.Words as words
use Rattle.kit_checks.specs.Words.{joined, results_of, values_in, values_before, values_if, first_body, visible}
use Rattle.kit_checks.proofs.Down.{block_listed, operation_listed, operations_are}
use Rattle.kit_places.specs.Numbers.{values_of}
use Rattle.kit_places.specs.Store.{body_of}
use Rattle.kit_interpreter.specs.Lowering.{IsValueIn}
use Rattle.kit_execution.proofs.Bodies.{KitBlocks, KitBody}

-- ---- lists

has_take : {X : Type 0} (n : ℕ) (xs : List X) (x : X) → Has x (take n xs) → Has x xs
has_take zero [] x h = h
has_take zero (y ∷ xs) x h = absurd h
has_take (suc n) [] x h = h
has_take (suc n) (y ∷ xs) x h = ⊎_elim (λ same. inl same) (λ rest. inr (has_take n xs x rest)) h

-- a result of some of these operations is one of one of them
made_by : (us : List KitTree) (v : Value) → Has v (results_of us) → (u : KitTree) × Has u us × Has v (words.values_of u.head.results)
made_by [] v h = absurd h
made_by (u ∷ us) v h = ⊎_elim
    (λ here. (u, inl refl, here))
    (λ rest. let m = made_by us v rest in (m.0, inr m.1, m.2))
    (has_either (words.values_of u.head.results) (results_of us) v h)

defined_values : (ts : List TypedValue) → words.values_of (map defined_by ts) ≡ values_of ts
defined_values [] = refl
defined_values (t ∷ ts) = ap (λ l. t.value ∷ l) (defined_values ts)

-- ---- definitions

module _ (c : KitProgram) where
  pub result_values : (q : Ptr Operation) (u : KitTree) → StandsFor c q u → words.values_of u.head.results ≡ values_of (results_at c q)
  result_values q u s = ap (λ (h : ProgramHead KitOperation KitBlock). words.values_of h.results) s.head ∙ defined_values s.view.results
      ∙ sym (ap (λ (o : Option (OperationView KitOperation)). values_of (unwrap_or (option_map (λ (x : OperationView KitOperation). x.results) o) [])) s.there)

  argument_values : (b : Ptr BasicBlock) (body : KitBody) → IsBody c b body → words.values_of body.label.arguments ≡ values_of (arguments_at c b)
  argument_values b body s = ap (λ (l : ProgramLabel KitOperation KitBlock). words.values_of l.arguments) s.label ∙ defined_values s.view.arguments
      ∙ sym (ap (λ (o : Option (BlockView KitBlock)). values_of (unwrap_or (option_map (λ (x : BlockView KitBlock). x.arguments) o) [])) s.there)

  pub result_count : (q : Ptr Operation) (u : KitTree) → StandsFor c q u → length (values_of (results_at c q)) ≡ length u.head.results
  result_count q u s = sym (ap length (result_values q u s)) ∙ length-map u.head.results (λ d. d.name)

  -- the value is an argument of the block, or a result of an operation there
  abbrev IsOf : Ptr BasicBlock → Value → Type 0
  IsOf b v = Lists (values_of (arguments_at c b)) v ⊎ ((q : Ptr Operation) × Lists (operations_in c b) q × Lists (values_of (results_at c q)) v)

  of_arguments : (b : Ptr BasicBlock) (body : KitBody) → IsBody c b body → (v : Value) → Has v (words.values_of body.label.arguments) → IsOf b v
  of_arguments b body is v has = inl (has_at (values_of (arguments_at c b)) v (subst (Has v) (argument_values b body is) has))

  of_results : (b : Ptr BasicBlock) (body : KitBody) → IsBody c b body → (v : Value) (u : KitTree) → Has u (operation_list body.operations)
      → Has v (words.values_of u.head.results) → IsOf b v
  of_results b body is v u in_block in_op =
      let k = has_at (operation_list body.operations) u in_block in
      let l = operation_listed c is.view.operations body.operations is.operations k.0 u k.1 in
      inr (
        u.head.name,
        (k.0, subst (λ (ps : List (Ptr Operation)). slice_get ps k.0 ≡ Some u.head.name) (operations_are c b body is) l.0),
        has_at (values_of (results_at c u.head.name)) v (subst (Has v) (result_values u.head.name u l.1) in_op),
      )

  of_body : (b : Ptr BasicBlock) (body : KitBody) → IsBody c b body → (v : Value) → Has v (values_in body) → IsOf b v
  of_body b body is v has = ⊎_elim
      (of_arguments b body is v)
      (λ made. let m = made_by (operation_list body.operations) v made in of_results b body is v m.0 m.1 m.2)
      (has_either (words.values_of body.label.arguments) (results_of (operation_list body.operations)) v has)

  of_front : (b : Ptr BasicBlock) (body : KitBody) → IsBody c b body → (k : ℕ) (v : Value) → Has v (values_before body k) → IsOf b v
  of_front b body is k v has = ⊎_elim
      (of_arguments b body is v)
      (λ made.
      let m = made_by (take k (operation_list body.operations)) v made in
      of_results b body is v m.0 (has_take k (operation_list body.operations) m.0 m.1) m.2)
      (has_either (words.values_of body.label.arguments) (results_of (take k (operation_list body.operations))) v has)

  -- ---- what is visible

  module _ (f : Ptr Operation) (blocks : KitBlocks) (tree : AreTree c Blocks (body_of c f) blocks) where
    -- a block of the tree is one of the function's
    pub block_there : (j : ℕ) (body : KitBody) → slice_get (block_list blocks) j ≡ Some body
        → Lists (body_of c f) body.label.name × IsBody c body.label.name body
    block_there j body here = let l = block_listed c (body_of c f) blocks tree j body here in ((j, l.0), l.1)

    in_first : (o : Option KitBody) → slice_get (block_list blocks) 0 ≡ o → (v : Value) → Has v (values_if o) → IsValueIn c (body_of c f) v
    in_first None here v has = absurd has
    in_first (Some body) here v has =
        let b = block_there 0 body here in
        (body.label.name, b.0, of_body body.label.name body b.1 v has)

    in_entry : (outside : Bool) (v : Value) → Has v (cond outside [] (values_if (first_body blocks))) → IsValueIn c (body_of c f) v
    in_entry true v has = absurd has
    in_entry false v has = in_first (first_body blocks) refl v has

    -- a visible value is one of the function's
    pub visible_in : (a : Around KitOperation KitBlock) → a.blocks ≡ blocks → (b : Ptr BasicBlock) → Lists (body_of c f) b → IsBody c b a.body
        → (v : Value) → Lists (visible a) v → IsValueIn c (body_of c f) v
    visible_in a same b listed is v at = ⊎_elim
        (λ front. (b, listed, of_front b a.body is a.index v front))
        (λ entry. in_entry (a.number == 0) v (subst (λ bs. Has v (cond (a.number == 0) [] (values_if (first_body bs)))) same entry))
        (has_either (values_before a.body a.index) (cond (a.number == 0) [] (values_if (first_body a.blocks))) v (at_has (visible a) at.0 v at.1))
