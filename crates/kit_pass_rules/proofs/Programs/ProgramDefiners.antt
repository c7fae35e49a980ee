-- In a tree of a program no value is both an argument of a block and a result of an operation: it has one definer.
use Rattle.std.proofs.Common.{◌≡◌, List, [], map, Some, option_map, unwrap_or, slice_get, sym, ap, ◌∙◌, subst}
use Rattle.ir_base.specs.declared.types.TypeHandle.{TypeHandle}
use Rattle.ir_program.specs.Definers.{values_at}
use Rattle.ir_program.specs.Program.{Program, OperationView, BlockView, TypedValue, value_in}
use Rattle.ir_program.specs.declared.handles.BasicBlock.{BasicBlock}
use Rattle.ir_program.specs.declared.handles.DefiningEntity.{DefiningEntity}
use Rattle.ir_program.specs.declared.handles.DefiningEntity.TheVariants.{Op as ByOp, Block as ByBlock}
use Rattle.ir_program.specs.declared.handles.Operation.{Operation}
use Rattle.ir_program.specs.declared.handles.Ptr.{Ptr}
use Rattle.ir_program.specs.declared.handles.Value.{Value}
use Rattle.ir_trees.specs.Stands.{StandsFor, defined_by}
use Rattle.ir_trees.specs.Trees.{Defined}
use Rattle.kit.specs.Context.{KitTree}
use Rattle.kit.specs.Meaning.{KitOperation, KitBlock}
use Rattle.kit_pass_rules.specs.ChainLaws.{DefinersApart}
use Rattle.kit_pass_rules.proofs.Handles.{Told}
use Rattle.kit_pass_rules.proofs.Lists.{map_at, index_of_has}
use Rattle.opt_trees.specs.Occurrences.{Has}

module _ (c : Program KitOperation KitBlock) (op : Ptr Operation) (told : Told c op) (t : KitTree)
    (s : StandsFor c op t) where
  -- a value of an entity's list is defined by the entity
  definer_is : (e : DefiningEntity) (vs : List TypedValue) → values_at c e ≡ vs → (v : Value) →
      Has v (map (λ (d : Defined Value TypeHandle). d.name) (map defined_by vs)) → v.definer ≡ e
  definer_is e vs same v h =
      let i = index_of_has (map (λ (d : Defined Value TypeHandle). d.name) (map defined_by vs)) v h in
      let d = map_at (λ (d : Defined Value TypeHandle). d.name) (map defined_by vs) i.0 v i.1 in
      let y = map_at defined_by vs i.0 d.0 d.1 in
      let row : slice_get (values_at c e) i.0 ≡ Some y.0 = ap (λ l. slice_get l i.0) same ∙ y.1 in
      let value : value_in (values_at c e) i.0 ≡ Some v =
      ap (option_map (λ (x : TypedValue). x.value)) row ∙ ap Some
      (ap (λ (z : Defined Value TypeHandle). z.name) y.2 ∙ d.2) in
      told.definer e i.0 v value

  no_both : (b : Ptr BasicBlock) (o : Ptr Operation) → ByBlock b ≡ ByOp o → ⊥
  no_both b o e = cc e

  pub definers_apart : DefinersApart t
  definers_apart x o v hx ho a g =
      let p = told.blocks_sound t s x hx in
      let q = told.sound t s o ho in
      let argument : v.definer ≡ ByBlock x.label.name =
      definer_is (ByBlock x.label.name) p.view.arguments (ap
      (λ z. unwrap_or (option_map (λ (v : BlockView KitBlock). v.arguments) z) []) p.there) v
      (subst (λ l. Has v (map (λ (d : Defined Value TypeHandle). d.name) l.arguments)) p.label a) in
      let result : v.definer ≡ ByOp o.head.name =
      definer_is (ByOp o.head.name) q.view.results (ap (λ z. unwrap_or
      (option_map (λ (v : OperationView KitOperation). v.results) z) []) q.there) v
      (subst (λ h. Has v (map (λ (d : Defined Value TypeHandle). d.name) h.results)) q.head g) in
      no_both x.label.name o.head.name (sym argument ∙ result)
