-- What a context tells of an operation that it has.
use Rattle.std.proofs.Common.{◌≡◌, ℕ, List, [], ◌∷◌, Some, None, option_map, inl, inr, IsSome, length, refl, sym, ap, subst, ◌∙◌}
use Rattle.std.specs.Prelude.{unwrap_or, slice_get, map}
use Rattle.ir_base.specs.declared.types.TypeHandle.{TypeHandle}
use Rattle.ir_program.specs.Definers.{values_at}
use Rattle.ir_program.specs.Program.{Program, OperationView, BlockView, TypedValue, IsLiveValue, block_at, operation_at, value_in, type_at, type_in}
use Rattle.ir_program.specs.declared.handles.BasicBlock.{BasicBlock}
use Rattle.ir_program.specs.declared.handles.DefiningEntity.{DefiningEntity}
use Rattle.ir_program.specs.declared.handles.DefiningEntity.TheVariants.{Op as ByOp, Block as ByBlock}
use Rattle.ir_program.specs.declared.handles.Operation.{Operation}
use Rattle.ir_program.specs.declared.handles.Ptr.{Ptr}
use Rattle.ir_program.specs.declared.handles.Value.{Value}
use Rattle.ir_trees.specs.Stands.{StandsFor, defined_by}
use Rattle.ir_trees.specs.Trees.{Defined}
use Rattle.kit.specs.Context.{KitContext, KitTree}
use Rattle.kit_checks.specs.Faults.{KeptEverywhere}
use Rattle.kit_checks.specs.KitWorld.{HasDeclaredTypes}
use Rattle.kit_checks.specs.Rules.{FitsKind}
use Rattle.kit_checks.specs.Sites.{Site}
use Rattle.kit_checks.specs.World.{world_of}
use Rattle.kit_checks.specs.declared.rule.Rule.{Rule}
use Rattle.kit_checks.specs.declared.rule.Rule.TheVariants as rule
use Rattle.kit.specs.Meaning.{KitOperation, KitBlock}
use Rattle.kit_pass_rules.proofs.Lists.{map_at, has_at_index, index_of_has}
use Rattle.kit_text_programs.specs.RuleLaws.{HaveWrittenTypes}
use Rattle.opt_inside.specs.Occurring.{IsDefinedBelow}
use Rattle.ir_trees.specs.Renames.{names_of}
use Rattle.opt_trees.specs.Occurrences.{Has}

-- values have the types with which they stand at what defines them
abbrev pub AreTypedAtDefiners : Program KitOperation KitBlock → Type 0
AreTypedAtDefiners c = (e : DefiningEntity) (k : ℕ) (v : Value) → value_in (values_at c e) k ≡ Some v
    → type_at c v ≡ type_in (values_at c e) k

module _ (c : Program KitOperation KitBlock) (typed : AreTypedAtDefiners c) where
  -- a definition of an entity has its type
  defined_type : (e : DefiningEntity) (vs : List TypedValue) → values_at c e ≡ vs → (d : Defined Value TypeHandle)
      → Has d (map defined_by vs) → type_at c d.name ≡ Some d.holds
  defined_type e vs same d h =
      let i = index_of_has (map defined_by vs) d h in
      let v = map_at defined_by vs i.0 d i.1 in
      let row : slice_get (values_at c e) i.0 ≡ Some v.0 = ap (λ l. slice_get l i.0) same ∙ v.1 in
      let value : value_in (values_at c e) i.0 ≡ Some v.0.value = ap (option_map (λ (x : TypedValue). x.value)) row in
      let ty : type_in (values_at c e) i.0 ≡ Some v.0.ty = ap (option_map (λ (x : TypedValue). x.ty)) row in
      subst (λ (z : Defined Value TypeHandle). type_at c z.name ≡ Some z.holds) v.2 (typed e i.0 v.0.value value ∙ ty)

  results_at_view : (p : Ptr Operation) (w : OperationView KitOperation) → operation_at c p ≡ Some w
      → values_at c (ByOp p) ≡ w.results
  results_at_view p w there = ap (λ z. unwrap_or (option_map (λ (v : OperationView KitOperation). v.results) z) []) there

  arguments_at_view : (b : Ptr BasicBlock) (w : BlockView KitBlock) → block_at c b ≡ Some w
      → values_at c (ByBlock b) ≡ w.arguments
  arguments_at_view b w there = ap (λ z. unwrap_or (option_map (λ (v : BlockView KitBlock). v.arguments) z) []) there

  -- a value that an entity defines is live
  live_at : (e : DefiningEntity) (vs : List TypedValue) → values_at c e ≡ vs → (v : Value) → Has v (names_of (map defined_by vs))
      → IsLiveValue c v
  live_at e vs same v h =
      let ds = map defined_by vs in
      let i = index_of_has (names_of ds) v h in
      let d = map_at (λ (z : Defined Value TypeHandle). z.name) ds i.0 v i.1 in
      let ty = defined_type e vs same d.0 (has_at_index ds i.0 d.0 d.1) in
      subst (λ z. IsSome (type_at c z)) d.2 (subst IsSome (sym ty) refl)

  -- a value that is defined below an operation is live
  pub live_below : (op : Ptr Operation) (v : Value) → IsDefinedBelow c op v → IsLiveValue c v
  live_below op v (inl (p, w, below, there, has)) = live_at (ByOp p) w.results (results_at_view p w there) v has
  live_below op v (inr (b, w, below, there, has)) = live_at (ByBlock b) w.arguments (arguments_at_view b w there) v has

  -- the results of an operation have the types that its tree says
  pub root_typed : (op : Ptr Operation) (t : KitTree) → StandsFor c op t → (d : Defined Value TypeHandle)
      → Has d t.head.results → type_at c d.name ≡ Some d.holds
  root_typed op t s d h =
      defined_type (ByOp op) s.view.results (results_at_view op s.view s.there) d (subst (Has d) (ap (λ z. z.results) s.head) h)

-- values have the types that are written, in the tree and at the operation
pub written_types : (s : KitContext) (op : Ptr Operation) → AreTypedAtDefiners s.program → (t : KitTree) → StandsFor s.program op t
    → HasDeclaredTypes (type_at s.program) t → HaveWrittenTypes s t
written_types s op typed t stands inside = record {
  inside = record { results = inside.results; arguments = inside.arguments };
  results = root_typed s.program typed op t stands;
}

nothing : {X : Type 0} (xs : List X) → length xs ≡ 0 → xs ≡ []
nothing [] e = refl
nothing (x ∷ xs) e = cc e

-- a module that keeps the rules has no results
pub module_gives_nothing : (s : KitContext) (t : KitTree) → ((r : Rule) → KeptEverywhere (world_of s) t r) → t.head.results ≡ []
module_gives_nothing s t kept =
    let site : Site KitOperation KitBlock = record { op = t; around = None } in
    let kind = kept rule.RootIsModule [] site refl refl in
    let fits = subst (FitsKind (world_of s) t) kind (kept rule.FitsFormat [] site refl) in
    nothing t.head.results fits.0.results

-- and goes on to no block
pub module_goes_nowhere : (s : KitContext) (t : KitTree) → ((r : Rule) → KeptEverywhere (world_of s) t r)
    → t.head.successors ≡ []
module_goes_nowhere s t kept =
    let site : Site KitOperation KitBlock = record { op = t; around = None } in
    let kind = kept rule.RootIsModule [] site refl refl in
    let fits = subst (FitsKind (world_of s) t) kind (kept rule.FitsFormat [] site refl) in
    nothing t.head.successors fits.0.successors
