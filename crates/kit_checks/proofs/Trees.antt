-- What the tree of an operation says in lists is what the program lists.
use Rattle.std.proofs.Common.{◌≡◌, suc, List, [], ◌∷◌, map, length, option_map, unwrap_or, refl, sym, ap, ◌∙◌}
use Rattle.ir_program.specs.Program.{Program, TypedValue, OperationView, BlockView, results_at, arguments_at}
use Rattle.ir_program.specs.Lists.{operations_in, regions_in}
use Rattle.ir_program.specs.Rows.{operands_at, successors_at}
use Rattle.ir_program.specs.declared.handles.Ptr.{Ptr}
use Rattle.ir_program.specs.declared.handles.Operation.{Operation}
use Rattle.ir_program.specs.declared.handles.Region.{Region}
use Rattle.ir_program.specs.declared.handles.BasicBlock.{BasicBlock}
use Rattle.ir_trees.specs.Stands.{ProgramTree, AreTree, no_operations, no_regions, first_operation, first_region, StandsFor, defined_by}
use Rattle.ir_trees.specs.Trees.{Operations, Regions}
use Rattle.kit_checks.specs.Located.{IsBody}
use Rattle.kit_checks.specs.Sites.{Listed, Body, operation_list, region_list}
use Rattle.kit_checks.specs.Words.{types_of}
use Rattle.kit_checks.proofs.Down.{regions_are, operations_are}

module _ {O B : Type 0} (c : Program O B) where
  many_operations : (ps : List (Ptr Operation)) (ops : Listed O B Operations) → AreTree c Operations ps ops → length (operation_list ops) ≡ length ps
  many_operations _ _ no_operations = refl
  many_operations _ _ (first_operation p ps v rs rest there below behind) = ap suc (many_operations ps rest behind)

  many_regions : (rs : List (Ptr Region)) (regions : Listed O B Regions) → AreTree c Regions rs regions → length (region_list regions) ≡ length rs
  many_regions _ _ no_regions = refl
  many_regions _ _ (first_region r rs v bs rest there below behind) = ap suc (many_regions rs rest behind)

  pub region_count : (op : Ptr Operation) (u : ProgramTree O B) → StandsFor c op u → length (region_list u.regions) ≡ length (regions_in c op)
  region_count op u s = many_regions s.view.regions u.regions s.regions ∙ ap length (regions_are c op u s)

  pub operation_count : (b : Ptr BasicBlock) (body : Body O B) → IsBody c b body → length (operation_list body.operations) ≡ length (operations_in c b)
  operation_count b body s = many_operations s.view.operations body.operations s.operations ∙ ap length (operations_are c b body s)

  -- the types of results and of arguments
  defined_types : (ts : List TypedValue) → types_of (map defined_by ts) ≡ map (λ (t : TypedValue). t.ty) ts
  defined_types [] = refl
  defined_types (t ∷ ts) = ap (λ l. t.ty ∷ l) (defined_types ts)

  pub result_types : (op : Ptr Operation) (u : ProgramTree O B) → StandsFor c op u → types_of u.head.results ≡ map (λ (t : TypedValue). t.ty) (results_at c op)
  result_types op u s = ap (λ h. types_of h.results) s.head ∙ defined_types s.view.results ∙ sym (ap (λ o. map (λ (t : TypedValue). t.ty) (unwrap_or (option_map (λ (x : OperationView O). x.results) o) [])) s.there)

  pub argument_types : (b : Ptr BasicBlock) (body : Body O B) → IsBody c b body → types_of body.label.arguments ≡ map (λ (t : TypedValue). t.ty) (arguments_at c b)
  argument_types b body s = ap (λ l. types_of l.arguments) s.label ∙ defined_types s.view.arguments ∙ sym (ap (λ o. map (λ (t : TypedValue). t.ty) (unwrap_or (option_map (λ (x : BlockView B). x.arguments) o) [])) s.there)

  pub operands_are : (op : Ptr Operation) (u : ProgramTree O B) → StandsFor c op u → u.head.operands ≡ operands_at c op
  operands_are op u s = ap (λ h. h.operands) s.head ∙ sym (ap (λ o. unwrap_or (option_map (λ (x : OperationView O). x.operands) o) []) s.there)

  pub successors_are : (op : Ptr Operation) (u : ProgramTree O B) → StandsFor c op u → u.head.successors ≡ successors_at c op
  successors_are op u s = ap (λ h. h.successors) s.head ∙ sym (ap (λ o. unwrap_or (option_map (λ (x : OperationView O). x.successors) o) []) s.there)
