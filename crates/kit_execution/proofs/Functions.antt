-- A function of a module that keeps the rules can run.
use Rattle.std.proofs.Common.{◌≡◌, ◌≢◌, ⊎_elim, ℕ, suc, ◌+◌, ◌<◌, true, false, true≢false, cond, List, [], ◌∷◌, length, Option, Some, IsSome, option_map, option_and_then, slice_get, refl, sym, ap, ◌∙◌, subst, arith}
use Rattle.std.proofs.lemmas.Bool.{cases_eq}
use Rattle.std.proofs.lemmas.List.{append-nil}
use Rattle.std.proofs.lemmas.Option.{same_Some, slice_get_within}
use Rattle.ir_names.specs.Dictionary.{attribute_at}
use Rattle.ir_program.specs.Program.{results_at, type_in}
use Rattle.ir_program.specs.Lists.{operations_in}
use Rattle.ir_program.specs.Rows.{operands_at, successors_at}
use Rattle.ir_program.specs.declared.handles.Ptr.{Ptr}
use Rattle.ir_program.specs.declared.handles.Operation.{Operation}
use Rattle.ir_program.specs.declared.handles.BasicBlock.{BasicBlock}
use Rattle.ir_program.specs.declared.handles.Value.{Value}
use Rattle.ir_trees.specs.Searched.{Lists}
use Rattle.ir_trees.specs.Stands.{AreTree, StandsFor}
use Rattle.ir_trees.specs.Trees.{Blocks}
use Rattle.kit.specs.Context.{KitContext, KitTree}
use Rattle.kit.specs.Meaning.{KitBlock, KitOperation}
use Rattle.kit_ops.specs.Keys as keys
use Rattle.kit_ops.specs.declared.kinds.KitOp.{KitOp}
use Rattle.kit_ops.specs.declared.kinds.KitOp.TheVariants as ops
use Rattle.kit_checks.specs.declared.rule.Rule.{Rule}
use Rattle.kit_checks.specs.declared.rule.Rule.TheVariants as rule
use Rattle.kit_checks.specs.Faults.{Keeps, KeptEverywhere}
use Rattle.kit_checks.specs.Located.{IsBody}
use Rattle.kit_checks.specs.Rules.{HasFunctionBody, CallsFunction, FitsKind}
use Rattle.kit_checks.specs.Sites.{operation_list, block_list, Around}
use Rattle.kit_checks.specs.Words.{first_body, first_module, members_of, visible, callee_name, is_module, is_terminator, identifier_in}
use Rattle.kit_checks.specs.World.{world_of}
use Rattle.kit_checks.proofs.Down.{step_to, operation_listed, operations_are}
use Rattle.kit_checks.proofs.Trees.{operands_are, successors_are, operation_count}
use Rattle.kit_checks.proofs.Upward.{block_tree}
use Rattle.kit_places.specs.Numbers.{values_of}
use Rattle.kit_places.specs.Store.{body_of, members, function_named, is_function_named, width_at, form_of, form_at, op_if, op_at}
use Rattle.kit_interpreter.specs.Lowering.{IsValueIn, CanRun, FunctionsCanRun}
use Rattle.kit_places.proofs.Located.{first_listed}
use Rattle.kit_execution.proofs.Reached.{outer_if, IsReached}
use Rattle.kit_execution.proofs.First.{first_passes, passing_found}
use Rattle.kit_execution.proofs.Words.{KitOperationNotes, tree_attribute, payload_is, function_kind, function_passes}
use Rattle.kit_execution.proofs.Bodies.{KitBlocks, KitBody, KitSite, only_region, every_first, not_empty, AreFirst, body_tree, IsSeenAt, IsInner, inner, IsModuleBody, module_body}
use Rattle.kit_execution.proofs.Values.{result_count, block_there, visible_in}
use Rattle.kit_execution.proofs.Executed.{has_width, IsRuled, executed}
use Rattle.kit_execution.proofs.Safe.{IsCallee, IsSafe}
use Rattle.kit_execution.proofs.Shapes.{GoesOn, is_executed}

-- what the machine sees of an operation, by the tree that it stands for
op_is : (s : KitContext) (m q : Ptr Operation) (u : KitTree) → StandsFor s.program q u
    → op_at s m q ≡ op_if (form_of u.head.content.kind (tree_attribute u) (option_and_then (width_at s) (type_in (results_at s.program q) 0)) (function_named s.program m))
    (values_of (results_at s.program q)) u.head.operands u.head.successors
op_is s m q u stands =
    let form : form_at s m q ≡ form_of u.head.content.kind (tree_attribute u) (option_and_then (width_at s) (type_in (results_at s.program q) 0)) (function_named s.program m) =
    ap (λ (o : Option KitOperation). option_and_then
    (λ kind. form_of kind (λ key. option_and_then (λ (n : KitOperationNotes). attribute_at n.attributes key) (option_map (λ (d : KitOperation). d.notes) o))
    (option_and_then (width_at s) (type_in (results_at s.program q) 0)) (function_named s.program m))
    (option_map (λ (d : KitOperation). d.kind) o)) (payload_is s.program q u stands) in
    λ i. op_if (form i) (values_of (results_at s.program q)) (sym (operands_are s.program q u stands) i) (sym (successors_are s.program q u stands) i)

module _ (s : KitContext) (t : KitTree) (obeys : (r : Rule) → KeptEverywhere (world_of s) t r) where
  pub keeps : (x : KitSite) → IsReached t x → (r : Rule) → Keeps (world_of s) r x
  keeps x at r = obeys r at.place x at.there

  -- a module, at its site in the tree
  pub record IsModuleAt (m : Ptr Operation) (x : KitSite) : Type 0 where
    pub seen : IsSeenAt s.program t m x
    pub kind : x.op.head.content.kind ≡ ops.Module

  module _ (m : Ptr Operation) (x : KitSite) (at : IsModuleAt m x) where
    -- its block, and its members
    pub body : IsModuleBody s.program m x.op
    body = module_body s.program m x.op at.seen.tree ((keeps x at.seen.reached rule.ModuleHolds).body at.kind)

    pub member : (k : ℕ) (p : Ptr Operation) → slice_get (members s.program m) k ≡ Some p → IsInner s.program t x body.blocks 0 k body.block p
    member k p h = inner s.program t m x at.seen body.blocks body.first 0 k body.block p body.here
        (subst (λ (l : List (Ptr Operation)). slice_get l k ≡ Some p) body.members_are h)

    -- a function of its tree is found in it by its name
    found : (u : KitTree) → Lists (members_of x.op) u → (name : List ℕ) → u.head.content.kind ≡ ops.Func
        → option_and_then identifier_in (tree_attribute u keys.symbol_name) ≡ Some name → (g : Ptr Operation) × (function_named s.program m name ≡ Some g)
    found u l name kind named =
        let here : slice_get (operation_list body.body.operations) l.0 ≡ Some u =
        ap (λ (us : List KitTree). slice_get us l.0) (sym (body.all ∙ append-nil (operation_list body.body.operations))) ∙ l.1 in
        let it = operation_listed s.program body.is.view.operations body.body.operations body.is.operations l.0 u here in
        let at_member : slice_get (members s.program m) l.0 ≡ Some u.head.name =
        ap (λ (ps : List (Ptr Operation)). slice_get ps l.0) (body.members_are ∙ sym (operations_are s.program body.block body.body body.is)) ∙ it.0 in
        passing_found (is_function_named s.program name) (members s.program m) l.0 u.head.name at_member
        (function_passes s.program u.head.name u it.1 name kind named)

    module _ (name : List ℕ) (f : Ptr Operation) (k : ℕ) (here : slice_get (members s.program m) k ≡ Some f) (test : is_function_named s.program name f ≡ true) where
      -- the function, at its site
      function : IsInner s.program t x body.blocks 0 k body.block f
      function = member k f here

      abbrev site : KitSite
      site = step_to x (outer_if x.around) body.blocks 0 function.body k function.op

      kind : function.op.head.content.kind ≡ ops.Func
      kind = function_kind s.program f function.op function.seen.tree name test

      -- its blocks
      blocks : (bs : KitBlocks) × AreFirst function.op bs
      blocks =
          let format : FitsKind (world_of s) function.op ops.Func = subst (FitsKind (world_of s) function.op) kind (keeps site function.seen.reached rule.FitsFormat) in
          only_region function.op format.0.regions

      tree : AreTree s.program Blocks (body_of s.program f) blocks.0
      tree = body_tree s.program f function.op blocks.0 function.seen.tree blocks.1

      entry : 0 < length (body_of s.program f)
      entry =
          let has : HasFunctionBody (world_of s) function.op = keeps site function.seen.reached rule.FunctionHasType kind in
          let first : slice_get (block_list blocks.0) 0 ≡ Some has.entry = sym (ap (option_and_then first_body) blocks.1) ∙ has.has_entry in
          let l = block_there s.program f blocks.0 tree 0 has.entry first in
          let w = slice_get_within (body_of s.program f) l.0.0 has.entry.label.name l.0.1 in
          omega (arith, w)

      -- the module is the nearest one around the operations of its blocks
      nearest_is : first_module (world_of s) (function.op ∷ x.op ∷ outer_if x.around) ≡ Some x.op
      nearest_is =
          ap (λ (o : KitOp). cond (is_module o) (Some function.op) (first_module (world_of s) (x.op ∷ outer_if x.around))) kind
          ∙ ap (λ (o : KitOp). cond (is_module o) (Some x.op) (first_module (world_of s) (outer_if x.around))) at.kind

      module _ (b : Ptr BasicBlock) (q : Ptr Operation) (in_b : Lists (body_of s.program f) b) (in_q : Lists (operations_in s.program b) q) where
        -- an operation of the function, at its site
        it : IsInner s.program t site blocks.0 in_b.0 in_q.0 b q
        it = inner s.program t f site function.seen blocks.0 blocks.1 in_b.0 in_q.0 b q in_b.1 in_q.1

        abbrev around : Around KitOperation KitBlock
        around = record { owner = function.op; outer = outer_if site.around; blocks = blocks.0; number = in_b.0; body = it.body; index = in_q.0 }

        abbrev place : KitSite
        place = step_to site (outer_if site.around) blocks.0 in_b.0 it.body in_q.0 it.op

        operands : (v : Value) → Lists (operands_at s.program q) v → IsValueIn s.program (body_of s.program f) v
        operands v l =
            let listed : slice_get it.op.head.operands l.0 ≡ Some v = ap (λ (vs : List Value). slice_get vs l.0) (operands_are s.program q it.op it.seen.tree) ∙ l.1 in
            let sees : Lists (visible around) v = (keeps place it.seen.reached rule.OperandsAreVisible).inside around refl l.0 v listed in
            visible_in s.program f blocks.0 tree around refl b in_b it.is v sees

        successors : (d : Ptr BasicBlock) → Lists (successors_at s.program q) d → Lists (body_of s.program f) d
        successors d l =
            let listed : slice_get it.op.head.successors l.0 ≡ Some d = ap (λ (bs : List (Ptr BasicBlock)). slice_get bs l.0) (successors_are s.program q it.op it.seen.tree) ∙ l.1 in
            let edge = keeps place it.seen.reached rule.EdgesFit l.0 d listed in
            let same : edge.0 ≡ around = sym (same_Some around edge.0 edge.1) in
            let in_blocks : Lists (block_list blocks.0) edge.2.body = subst (λ (a : Around KitOperation KitBlock). Lists (block_list a.blocks) edge.2.body) same edge.2.here in
            subst (Lists (body_of s.program f)) edge.2.named (block_there s.program f blocks.0 tree in_blocks.0 edge.2.body in_blocks.1).0

        called : it.op.head.content.kind ≡ ops.Call
            → (called_name : List ℕ) × (g : Ptr Operation) × (callee_name (world_of s) it.op ≡ Some called_name)
            × (function_named s.program m called_name ≡ Some g) × IsCallee s m g
        called is_call =
            let call = keeps place it.seen.reached rule.CallsFit is_call in
            let same : call.0 ≡ around = sym (same_Some around call.0 call.1) in
            let calls : CallsFunction (world_of s) it.op around = subst (CallsFunction (world_of s) it.op) same call.2 in
            let scope : calls.scope ≡ x.op = sym (same_Some x.op calls.scope (sym nearest_is ∙ calls.nearest)) in
            let g = found calls.function (subst (λ (u : KitTree). Lists (members_of u) calls.function) scope calls.member) calls.name calls.is_function calls.named in
            (calls.name, g.0, calls.has_name, g.1, (calls.name, g.1))

        -- one that ends no block isn't the last there
        behind : is_terminator it.op.head.content.kind ≡ false → suc in_q.0 < length (operations_in s.program b)
        behind other =
            let w = slice_get_within (operations_in s.program b) in_q.0 q in_q.1 in
            let last = (keeps place it.seen.reached rule.BlocksEnd).last around (refl, kind) in
            let many = operation_count s.program b it.body it.is in
            ⊎_elim
            (λ (ends : in_q.0 + 1 ≡ length (operations_in s.program b)). absurd (true≢false (sym (last.1 (ends ∙ sym many)) ∙ other)))
            (λ (more : in_q.0 + 1 ≢ length (operations_in s.program b)). omega (arith, w, more))
            (cases_eq (in_q.0 + 1) (length (operations_in s.program b)))

        ruled : IsRuled s it.op (function_named s.program m) (option_and_then (width_at s) (type_in (results_at s.program q) 0))
            (suc in_q.0 < length (operations_in s.program b)) (Lists (body_of s.program f)) (IsCallee s m) it.op.head.content.kind
        ruled = record {
          instruction = (keeps place it.seen.reached rule.FunctionHolds around (refl, kind)).0;
          format = keeps place it.seen.reached rule.FitsFormat;
          constant = keeps place it.seen.reached rule.ConstantsFit;
          wide = has_width s q it.op it.seen.tree (keeps place it.seen.reached rule.ValuesAreIntegers).results;
          callee = called;
          behind = behind;
          targets = λ d l. successors d (l.0, sym (ap (λ (bs : List (Ptr BasicBlock)). slice_get bs l.0) (successors_are s.program q it.op it.seen.tree)) ∙ l.1);
        }

        goes_on : GoesOn (suc in_q.0 < length (operations_in s.program b)) (Lists (body_of s.program f)) (IsCallee s m) (op_at s m q)
        goes_on = subst
            (GoesOn (suc in_q.0 < length (operations_in s.program b)) (Lists (body_of s.program f)) (IsCallee s m)) (sym (op_is s m q it.op it.seen.tree))
            (executed s it.op (function_named s.program m) (option_and_then (width_at s) (type_in (results_at s.program q) 0))
            (suc in_q.0 < length (operations_in s.program b)) (Lists (body_of s.program f)) (IsCallee s m)
            (values_of (results_at s.program q)) (result_count s.program q it.op it.seen.tree) it.op.head.content.kind ruled)

      can_run : CanRun s m f
      can_run = record {
        entry = entry;
        executes = λ b q in_b in_q. is_executed
            (suc in_q.0 < length (operations_in s.program b)) (Lists (body_of s.program f)) (IsCallee s m) (op_at s m q) (goes_on b q in_b in_q);
        operands = λ b q v in_b in_q. operands b q in_b in_q v;
        successors = λ b q d in_b in_q. successors b q in_b in_q d;
      }

      -- a block of the function, in its tree
      block_tree_of : (b : Ptr BasicBlock) (in_b : Lists (body_of s.program f) b) → (body : KitBody) × (slice_get (block_list blocks.0) in_b.0 ≡ Some body) × IsBody s.program b body
      block_tree_of b in_b = block_tree s.program (body_of s.program f) blocks.0 tree in_b.0 b in_b.1

      filled : (b : Ptr BasicBlock) → Lists (body_of s.program f) b → 0 < length (operations_in s.program b)
      filled b in_b =
          let it = block_tree_of b in_b in
          let all = (keeps site function.seen.reached rule.BlocksEnd).none_empty kind in
          let here = every_first (λ (x : KitBody). operation_list x.operations ≢ []) function.op blocks.0 blocks.1 all in_b.0 it.0 it.1 in
          let many = operation_count s.program b it.0 it.2 in
          let some = not_empty (operation_list it.0.operations) here in
          omega (arith, many, some)

      safe : IsSafe s m f
      safe = record {
        entry = entry;
        live = λ b in_b. let it = block_tree_of b in_b in subst IsSome (sym it.2.there) refl;
        filled = filled;
        goes_on = λ b k q in_b here. goes_on b q in_b (k, here);
      }

    pub functions_can_run : FunctionsCanRun s m
    functions_can_run name f is =
        let l = first_listed (is_function_named s.program name) (members s.program m) f is in
        can_run name f l.0 l.1 (first_passes (is_function_named s.program name) (members s.program m) f is)

    pub callees_safe : (f : Ptr Operation) → IsCallee s m f → IsSafe s m f
    callees_safe f is =
        let l = first_listed (is_function_named s.program is.0) (members s.program m) f is.1 in
        safe is.0 f l.0 l.1 (first_passes (is_function_named s.program is.0) (members s.program m) f is.1)
