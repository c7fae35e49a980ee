-- A program into which constants have been put holds the trees with these constants.
use Rattle.std.proofs.Common.{◌≡◌, ◌≢◌, List, [], ◌∷◌, ◌++◌, map, Option, Some, None, option_map, refl, sym, ap, ◌∙◌}
use Rattle.std.proofs.lemmas.List.{append-nil}
use Rattle.ir_base.specs.declared.types.TypeHandle.{TypeHandle}
use Rattle.ir_program.specs.Program.{Program, OperationView, BlockView, operation_at}
use Rattle.ir_program.specs.declared.handles.Ptr.{Ptr}
use Rattle.ir_program.specs.declared.handles.Operation.{Operation}
use Rattle.ir_program.specs.declared.handles.Value.{Value}
use Rattle.ir_trees.specs.Trees.{Defined, Operations, Tree, end}
use Rattle.ir_trees.specs.Stands.{by_handle, in_program, ProgramTree, label_of, AreTree, no_operations, no_regions, first_operation, StandsFor}
use Rattle.ir_trees.specs.Rewrites.{roots, rewritten_root, operations_after, RewritesInside}
use Rattle.ir_trees.proofs.ListEdited.{AreOrderly, all_blocks}
use Rattle.ir_trees.proofs.Rewritten.{rewritten_tree}
use Rattle.opt_trees.specs.Dialect.{Dialect}
use Rattle.opt_trees.specs.Occurrences.{Has}
use Rattle.opt_sccp.specs.Placed.{Placed, placed_for, renamed, constant_if, for_results, for_arguments, puts_constants, HasPutConstants}
use Rattle.opt_sccp.proofs.PlacedLists.{placed_has}

module _ {O B A : Type 0} (d : Dialect (in_program O B) A) (old new : Program O B) (ps : List (Placed O A)) (put : HasPutConstants d old new ps) where
  -- what was there is none of the constants
  pub not_placed : (p : Ptr Operation) (v : OperationView O) → operation_at old p ≡ Some v → (x : Placed O A) → Has x ps → p ≢ x.op
  not_placed p v there x h e = let n : Some v ≡ None = sym there ∙ ap (operation_at old) e ∙ (put.constants x h).fresh in cc

  pub operation_now : (p : Ptr Operation) (v : OperationView O) → operation_at old p ≡ Some v → operation_at new p ≡ Some (record v { operands = renamed (placed_for ps) v.operands })
  operation_now p v there = put.operations p (not_placed p v there) ∙ ap (option_map (λ (x : OperationView O). record x { operands = renamed (placed_for ps) x.operands })) there

  found : (v : Value) (o : Option (Placed O A)) → placed_for ps v ≡ o → (x : Placed O A) → o ≡ Some x → Has x ps
  found v o e x h = (placed_has ps v x (e ∙ h)).0

  one_there : (o : Option (Placed O A)) → ((x : Placed O A) → o ≡ Some x → Has x ps) → (t : Tree by_handle (in_program O B) Operations)
      → AreTree new Operations (roots t) t → AreTree new Operations (roots (constant_if d o t)) (constant_if d o t)
  one_there None h t there = there
  one_there (Some x) h t there = first_operation x.op (roots t) _ end t (put.constants x (h x refl)).there no_regions there

  results_there : (vs : List (Defined Value TypeHandle)) → AreTree new Operations (roots (for_results d (placed_for ps) vs)) (for_results d (placed_for ps) vs)
  results_there [] = no_operations
  results_there (v ∷ vs) = one_there (placed_for ps v.name) (found v.name (placed_for ps v.name) refl) (for_results d (placed_for ps) vs) (results_there vs)

  arguments_there : (vs : List (Defined Value TypeHandle)) (t : Tree by_handle (in_program O B) Operations) → AreTree new Operations (roots t) t
      → AreTree new Operations (roots (for_arguments d (placed_for ps) vs t)) (for_arguments d (placed_for ps) vs t)
  arguments_there [] t there = there
  arguments_there (v ∷ vs) t there = arguments_there vs (constant_if d (placed_for ps v.name) t) (one_there (placed_for ps v.name) (found v.name (placed_for ps v.name) refl) t there)

  module _ (lists : AreOrderly old) (op : Ptr Operation) where
    pub rewrites : RewritesInside old new op (puts_constants d (placed_for ps))
    rewrites = record {
      operations = λ p v s there. (record v { operands = renamed (placed_for ps) v.operands }, operation_now p v there, refl, refl);
      regions = λ r v s there. (v, put.regions r ∙ there, sym (all_blocks old lists (puts_constants d (placed_for ps)) (λ b l. refl) r v there));
      blocks = λ b v s there. (
        record v { operations = roots (for_arguments d (placed_for ps) (label_of {O = O} b v).arguments end) ++ operations_after old (puts_constants d (placed_for ps)) v.operations },
        put.blocks b ∙ ap (option_map (λ (l : BlockView B). record l { operations = roots (for_arguments d (placed_for ps) (label_of {O = O} b l).arguments end) ++ operations_after old (puts_constants d (placed_for ps)) l.operations })) there,
        refl,
        ap (λ xs. roots (for_arguments d (placed_for ps) (label_of {O = O} b v).arguments end) ++ xs) (sym (append-nil (operations_after old (puts_constants d (placed_for ps)) v.operations))),
      );
      around = λ p v b l s here listed there. (results_there (map _ v.results), no_operations);
      ends = λ b v s there. (arguments_there (map _ v.arguments) end no_operations, no_operations);
    }

    pub stands_now : (t : ProgramTree O B) → StandsFor old op t → StandsFor new op (rewritten_root (puts_constants d (placed_for ps)) t)
    stands_now = rewritten_tree old new op (puts_constants d (placed_for ps)) rewrites
