-- Where the rules are kept all functions that a run may call can run, and runs move on: a path leads to a function of a
-- module at a site.
use Rattle.std.proofs.Common.{◌≡◌, ℕ, ◌&&◌, List, [], ◌∷◌, map, Option, Some, None, option_map, refl, subst}
use Rattle.ir_names.specs.Identifier.{text_of}
use Rattle.ir_names.specs.declared.identifier.Identifier.{Identifier}
use Rattle.ir_context.specs.Kept.{kind_at}
use Rattle.ir_program.specs.declared.handles.Ptr.{Ptr}
use Rattle.ir_program.specs.declared.handles.Operation.{Operation}
use Rattle.ir_trees.specs.Stands.{StandsFor}
use Rattle.kit.specs.Context.{KitContext, KitTree}
use Rattle.kit_ops.specs.Keys as keys
use Rattle.kit_checks.specs.declared.rule.Rule.{Rule}
use Rattle.kit_checks.specs.declared.rule.Rule.TheVariants as rule
use Rattle.kit_checks.specs.Faults.{KeptEverywhere}
use Rattle.kit_checks.specs.World.{world_of}
use Rattle.kit_checks.proofs.Down.{both, step_to}
use Rattle.kit_places.specs.declared.places.Place.{Place}
use Rattle.kit_places.specs.Store.{is_name, is_module, attribute_of, members, function_named, module_named, locate}
use Rattle.kit_places.specs.Placed.{place_of}
use Rattle.kit_interpreter.specs.Lowering.{ModuleCanRun}
use Rattle.kit_interpreter.specs.Running.{PathCanRun}
use Rattle.kit_places.proofs.Located.{first_listed}
use Rattle.kit_execution.specs.Obeying.{ObeysRules}
use Rattle.kit_execution.specs.Moving.{NeverStays, PathMoves}
use Rattle.kit_execution.proofs.Reached.{outer_if, root_reached}
use Rattle.kit_execution.proofs.First.{first_passes}
use Rattle.kit_execution.proofs.Words.{module_kind}
use Rattle.kit_execution.proofs.Bodies.{KitSite}
use Rattle.kit_execution.proofs.Functions.{keeps, IsModuleAt, body, member, functions_can_run, callees_safe}
use Rattle.kit_execution.proofs.ModuleTables.{symbol_table}
use Rattle.kit_execution.proofs.Safe.{IsCallee}
use Rattle.kit_execution.proofs.Moves.{moves_on}

module _ (s : KitContext) (t : KitTree) (obeys : (r : Rule) → KeptEverywhere (world_of s) t r) where
  -- a module in a module
  inner_module : (m : Ptr Operation) (x : KitSite) → IsModuleAt s t obeys m x → (name : List ℕ) (k : Ptr Operation) → module_named s.program m name ≡ Some k
      → (y : KitSite) × IsModuleAt s t obeys k y
  inner_module m x at name k is =
      let test = λ (p : Ptr Operation). is_module (kind_at s.program p) && is_name name (attribute_of s.program p keys.symbol_name) in
      let l = first_listed test (members s.program m) k is in
      let it = member s t obeys m x at l.0 k l.1 in (
        step_to x (outer_if x.around) (body s t obeys m x at).blocks 0 it.body l.0 it.op,
        record { seen = it.seen; kind = module_kind s.program k it.op it.seen.tree name (first_passes test (members s.program m) k is) },
      )

  -- the place is in a module at a site, and its function is found there by a name
  record IsSited (p : Place) : Type 0 where
    site : KitSite
    at : IsModuleAt s t obeys p.within site
    callee : IsCallee s p.within p.function

  placed : (m : Ptr Operation) (x : KitSite) → IsModuleAt s t obeys m x → (name : List ℕ) (o : Option (Ptr Operation)) (p : Place)
      → function_named s.program m name ≡ o → option_map (λ f. record { within = m; function = f }) o ≡ Some p → IsSited p
  placed m x at name None p is h = cc
  placed m x at name (Some f) p is h =
      let here : Place = record { within = m; function = f } in
      let same : here ≡ p = cc in
      subst IsSited same (record { site = x; at = at; callee = (name, is) })

  located : (m : Ptr Operation) (x : KitSite) → IsModuleAt s t obeys m x → (path : List (List ℕ)) (p : Place) → locate s.program m path ≡ Some p → IsSited p
  located m x at [] p h = cc
  located m x at (name ∷ []) p h = placed m x at name (function_named s.program m name) p refl h
  located m x at (name ∷ next ∷ path) p h =
      let k = both (λ n. locate s.program n (next ∷ path)) (module_named s.program m name) p h in
      let y = inner_module m x at name k.0 k.1 in
      located k.0 y.0 y.1 (next ∷ path) p k.2

  module _ (root : Ptr Operation) (stands : StandsFor s.program root t) (path : List Identifier) (p : Place) (is : place_of s root path ≡ Some p) where
    root_is : IsModuleAt s t obeys root (record { op = t; around = None })
    root_is = record {
      seen = record { reached = root_reached t; tree = stands };
      kind = keeps s t obeys (record { op = t; around = None }) (root_reached t) rule.RootIsModule refl;
    }

    sited : IsSited p
    sited = located root (record { op = t; around = None }) root_is (map text_of path) p is

    pub place_can_run : ModuleCanRun s p.within
    place_can_run = record {
      table = symbol_table s t obeys p.within sited.site sited.at;
      functions = functions_can_run s t obeys p.within sited.site sited.at;
    }

    pub place_moves : NeverStays s p
    place_moves = moves_on s p.within (callees_safe s t obeys p.within sited.site sited.at) p.function sited.callee

-- in a module that keeps the rules
module _ (s : KitContext) (root : Ptr Operation) (obeys : ObeysRules s root) (tree : (t : KitTree) × StandsFor s.program root t) where
  pub can_run : (path : List Identifier) → PathCanRun s root path
  can_run path p is = place_can_run s tree.0 (obeys tree.0 tree.1) root tree.1 path p is

  pub path_moves : (path : List Identifier) → PathMoves s root path
  path_moves path p is = place_moves s tree.0 (obeys tree.0 tree.1) root tree.1 path p is
