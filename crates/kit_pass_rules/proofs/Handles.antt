-- Handles of a program are apart in its trees, and its values have the types that the trees say.
use Rattle.std.proofs.Common.{◌≡◌, ℕ, List, [], map, Some, option_map, unwrap_or, slice_get, sym, ap, ◌∙◌, subst}
use Rattle.ir_base.specs.declared.types.TypeHandle.{TypeHandle}
use Rattle.ir_program.specs.Definers.{values_at, StandsAtDefiner}
use Rattle.ir_program.specs.Program.{Program, OperationView, BlockView, TypedValue, type_at, type_in, value_in}
use Rattle.ir_program.specs.declared.handles.DefiningEntity.{DefiningEntity}
use Rattle.ir_program.specs.declared.handles.DefiningEntity.TheVariants.{Op as ByOp, Block as ByBlock}
use Rattle.ir_program.specs.declared.handles.Operation.{Operation}
use Rattle.ir_program.specs.declared.handles.Ptr.{Ptr}
use Rattle.ir_program.specs.declared.handles.Value.{Value}
use Rattle.ir_trees.specs.Stands.{StandsFor, defined_by}
use Rattle.ir_trees.specs.Trees.{Defined}
use Rattle.kit.specs.Context.{KitTree}
use Rattle.kit.specs.Meaning.{KitOperation, KitBlock}
use Rattle.kit_checks.specs.KitWorld.{HasDeclaredTypes}
use Rattle.kit_pass_rules.specs.Worlds.{HandlesAreApart}
use Rattle.kit_pass_rules.proofs.Lists.{map_at, has_at_index, index_of_has}
use Rattle.kit_pass_rules.proofs.Walk.{BlockOf}
use Rattle.opt_inside.specs.Occurring.{OfItsTree, EachFound, EachBlock, IsOccurrence, IsBlockOccurrence}
use Rattle.opt_trees.specs.Occurrences.{Has, OperationsApart, BlocksApart, block_occurrences_of}
use Rattle.opt_trees.specs.Simplify.{ArgumentsApart}

-- what is told of a program and of the trees of an operation
pub record Told (c : Program KitOperation KitBlock) (op : Ptr Operation) : Type 0 where
  pub definer : (e : DefiningEntity) (k : ℕ) (v : Value) → value_in (values_at c e) k ≡ Some v → v.definer ≡ e
  pub typed : (e : DefiningEntity) (k : ℕ) (v : Value) → value_in (values_at c e) k ≡ Some v → type_at c v ≡ type_in (values_at c e) k
  pub stands : (v : Value) (ty : TypeHandle) → type_at c v ≡ Some ty → StandsAtDefiner c v ty
  pub sound : OfItsTree c op (λ t. EachFound t (IsOccurrence c op))
  pub one : OfItsTree c op OperationsApart
  pub blocks_sound : OfItsTree c op (λ t. EachBlock t (IsBlockOccurrence c op))
  pub blocks_one : OfItsTree c op BlocksApart

module _ (c : Program KitOperation KitBlock) (op : Ptr Operation) (told : Told c op) (t : KitTree) (s : StandsFor c op t) where
  -- a definition of an entity has its type
  defined_type : (e : DefiningEntity) (vs : List TypedValue) → values_at c e ≡ vs → (d : Defined Value TypeHandle) → Has d (map defined_by vs) → type_at c d.name ≡ Some d.holds
  defined_type e vs same d h =
      let i = index_of_has (map defined_by vs) d h in
      let v = map_at defined_by vs i.0 d i.1 in
      let row : slice_get (values_at c e) i.0 ≡ Some v.0 = ap (λ l. slice_get l i.0) same ∙ v.1 in
      let value : value_in (values_at c e) i.0 ≡ Some v.0.value = ap (option_map (λ (x : TypedValue). x.value)) row in
      let ty : type_in (values_at c e) i.0 ≡ Some v.0.ty = ap (option_map (λ (x : TypedValue). x.ty)) row in
      subst (λ (z : Defined Value TypeHandle). type_at c z.name ≡ Some z.holds) v.2 (told.typed e i.0 v.0.value value ∙ ty)

  pub typed_in : HasDeclaredTypes (type_at c) t
  typed_in = record {
    results = λ o h d i.
        let x = told.sound t s o h in
        defined_type (ByOp o.head.name) x.view.results (ap (λ z. unwrap_or (option_map (λ (v : OperationView KitOperation). v.results) z) []) x.there) d
        (subst (Has d) (ap (λ z. z.results) x.head) i);
    arguments = λ b h d i.
        let x = told.blocks_sound t s b h in
        defined_type (ByBlock b.label.name) x.view.arguments (ap (λ z. unwrap_or (option_map (λ (v : BlockView KitBlock). v.arguments) z) []) x.there) d
        (subst (Has d) (ap (λ z. z.arguments) x.label) i);
  }

  -- an argument is one of its definer
  argument_at : (x : BlockOf KitOperation KitBlock) → Has x (block_occurrences_of t) → (v : Value) (i : ℕ) →
      slice_get (map (λ (d : Defined Value TypeHandle). d.name) x.label.arguments) i ≡ Some v → value_in (values_at c (ByBlock x.label.name)) i ≡ Some v
  argument_at x h v i e =
      let b = told.blocks_sound t s x h in
      let d = map_at (λ (d : Defined Value TypeHandle). d.name) x.label.arguments i v e in
      let y = map_at defined_by b.view.arguments i d.0 (sym (ap (λ z. slice_get z.arguments i) b.label) ∙ d.1) in
      let same : values_at c (ByBlock x.label.name) ≡ b.view.arguments = ap (λ z. unwrap_or (option_map (λ (v : BlockView KitBlock). v.arguments) z) []) b.there in
      let row : slice_get (values_at c (ByBlock x.label.name)) i ≡ Some y.0 = ap (λ l. slice_get l i) same ∙ y.1 in
      ap (option_map (λ (z : TypedValue). z.value)) row ∙ ap Some (ap (λ (z : Defined Value TypeHandle). z.name) y.2 ∙ d.2)

  block_name : (e : DefiningEntity) (x y : BlockOf KitOperation KitBlock) → e ≡ ByBlock x.label.name → e ≡ ByBlock y.label.name → x.label.name ≡ y.label.name
  block_name e x y p q = let z : ByBlock x.label.name ≡ ByBlock y.label.name = sym p ∙ q in cc z

  arguments_apart : ArgumentsApart t
  arguments_apart x y v i j hx hy ex ey =
      let vx = argument_at x hx v i ex in
      let vy = argument_at y hy v j ey in
      let dx : v.definer ≡ ByBlock x.label.name = told.definer (ByBlock x.label.name) i v vx in
      let dy : v.definer ≡ ByBlock y.label.name = told.definer (ByBlock y.label.name) j v vy in
      let d = map_at (λ (d : Defined Value TypeHandle). d.name) x.label.arguments i v ex in
      let ty : type_at c v ≡ Some d.0.holds = subst (λ z. type_at c z ≡ Some d.0.holds) d.2 (typed_in.arguments x hx d.0 (has_at_index x.label.arguments i d.0 d.1)) in
      let st = told.stands v d.0.holds ty in
      let a : i ≡ st.index = st.once i (ap (λ e. value_in (values_at c e) i) dx ∙ vx) in
      let b : j ≡ st.index = st.once j (ap (λ e. value_in (values_at c e) j) dy ∙ vy) in
      (told.blocks_one t s x y hx hy (block_name v.definer x y dx dy), a ∙ sym b)

  pub apart : HandlesAreApart t
  apart = record { operations = told.one t s; blocks = told.blocks_one t s; arguments = arguments_apart }
