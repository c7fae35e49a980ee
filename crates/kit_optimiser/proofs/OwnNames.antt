-- The tree of an operation of a context has names of its own.
use Rattle.std.proofs.Common.{◌≡◌, List, [], ◌∷◌, ◌++◌, refl, sym, ap, ◌∙◌, subst}
use Rattle.std.proofs.lemmas.List.{append-nil}
use Rattle.ir_program.specs.Preorder.{nodes_inside, AreInside, IsPreorder, StandOnceEach, more}
use Rattle.ir_program.specs.Program.{Program}
use Rattle.ir_program.specs.declared.handles.IRNode.{IRNode}
use Rattle.ir_program.specs.declared.handles.IRNode.TheVariants.{Operation as OperationNode}
use Rattle.ir_program.specs.declared.handles.Operation.{Operation}
use Rattle.ir_program.specs.declared.handles.Ptr.{Ptr}
use Rattle.ir_trees.specs.Searched.{AreDistinct, operation_names, block_names}
use Rattle.ir_trees.specs.Stands.{StandsFor}
use Rattle.kit.specs.Context.{KitTree}
use Rattle.opt_trees.specs.Occurrences.{defined_in}
use Rattle.opt_inside.proofs.Added.{HasValues}
use Rattle.opt_inside.proofs.Among.{numbers_among}
use Rattle.opt_inside.proofs.Around.{HasLists}
use Rattle.opt_inside.proofs.Counting.{numbering_ends}
use Rattle.kit.specs.Meaning.{KitOperation, KitBlock}
use Rattle.kit_ruled_views.specs.Ruled.{HasOwnNames}

root_first : {O B : Type 0} (c : Program O B) (e : IRNode) (all : List IRNode) → IsPreorder c (e ∷ []) all
    → (ns : List IRNode) × (all ≡ e ∷ ns)
root_first c _ _ (more e es inner rest d ds) = (inner ++ rest, refl)

-- what is known of the program and of what is inside the root
pub record IsKnown (c : Program KitOperation KitBlock) (root : Ptr Operation) : Type 0 where
  pub lists : HasLists c
  pub values : HasValues c
  pub operations : (t : KitTree) → StandsFor c root t → AreDistinct (operation_names t)
  pub blocks : (t : KitTree) → StandsFor c root t → AreDistinct (block_names t)
  pub inside : AreInside c (OperationNode root) (nodes_inside c (OperationNode root))
  pub once : StandOnceEach (nodes_inside c (OperationNode root))
  pub order : IsPreorder c (OperationNode root ∷ []) (nodes_inside c (OperationNode root))

module _ (c : Program KitOperation KitBlock) (root : Ptr Operation) (known : IsKnown c root) (t : KitTree)
    (stands : StandsFor c root t) where
  own_values : AreDistinct (defined_in t.regions)
  own_values =
      let first = root_first c (OperationNode root) (nodes_inside c (OperationNode root)) known.order in
      let parts = first.1 ∙ ap (λ l. OperationNode root ∷ l) (sym (append-nil first.0)) in
      let numbers = numbering_ends c root known.inside known.values known.once known.order (numbers_among c first.0) []
      refl (record { done = first.0; parts = parts; numbers = refl }) in
      subst AreDistinct (numbers.in_preorder t stands).values numbers.values_once

  pub own_names : HasOwnNames t
  own_names = record {
    operations = known.operations t stands;
    blocks = known.blocks t stands;
    values = own_values;
  }
