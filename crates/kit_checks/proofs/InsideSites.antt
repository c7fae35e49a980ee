-- What is inside the root is at a place of its tree.
use Rattle.std.proofs.Common.{◌≡◌, ℕ, List, [], ◌∷◌, ◌++◌, Some, map, option_map, slice_get, refl, ap, ◌∙◌, subst}
use Rattle.std.proofs.lemmas.Option.{slice_get-map}
use Rattle.ir_program.specs.Lists.{StandsInside, itself, in_block, in_region, in_operation}
use Rattle.ir_program.specs.Lists.{operations_in, blocks_in, regions_in}
use Rattle.ir_program.specs.Preorder.{nodes_in}
use Rattle.ir_program.specs.Program.{Program}
use Rattle.ir_program.specs.declared.handles.IRNode.{IRNode}
use Rattle.ir_program.specs.declared.handles.IRNode.TheVariants.{Operation as OperationNode}
use Rattle.ir_program.specs.declared.handles.IRNode.TheVariants.{Region as RegionNode, BasicBlock as BlockNode}
use Rattle.ir_program.specs.declared.handles.Ptr.{Ptr}
use Rattle.ir_program.specs.declared.handles.Operation.{Operation}
use Rattle.ir_trees.specs.Stands.{ProgramTree, StandsFor}
use Rattle.opt_inside.proofs.Around.{HasLists}
use Rattle.kit_checks.specs.Located.{IsSiteOf, LeadsDown}
use Rattle.kit_checks.specs.Sites.{Site, site_at}
use Rattle.kit_checks.proofs.Down.{located}
use Rattle.kit_checks.proofs.Upward.{is_place}

module _ {O B : Type 0} (c : Program O B) where
  -- one step further down
  further_down : (e : IRNode) (path : List ℕ) (holder inner : IRNode) (k : ℕ) → LeadsDown c e path holder
      → slice_get (nodes_in c holder) k ≡ Some inner → LeadsDown c e (path ++ k ∷ []) inner
  further_down e [] holder inner k is here =
      (inner, ap (λ x. slice_get (nodes_in c x) k) is ∙ here, refl)
  further_down e (j ∷ path) holder inner k down here =
      (down.0, down.1, further_down down.0 path holder inner k down.2 here)

  listed : {X : Type 0} (f : X → IRNode) (xs : List X) (k : ℕ) (x : X) → slice_get xs k ≡ Some x
      → slice_get (map f xs) k ≡ Some (f x)
  listed f xs k x h = slice_get-map f xs k ∙ ap (option_map f) h

  -- the indices from the root down to what is inside it
  pub way_to : (root e : IRNode) → StandsInside c root e → (path : List ℕ) × LeadsDown c root path e
  way_to root _ itself = ([], refl)
  way_to root _ (in_block p b s inside) =
      let up = way_to root (BlockNode b) inside in (
        up.0 ++ s.index ∷ [],
        further_down root up.0 (BlockNode b) (OperationNode p) s.index up.1
            (listed OperationNode (operations_in c b) s.index p s.here),
      )
  way_to root _ (in_region b r s inside) =
      let up = way_to root (RegionNode r) inside in (
        up.0 ++ s.index ∷ [],
        further_down root up.0 (RegionNode r) (BlockNode b) s.index up.1
            (listed BlockNode (blocks_in c r) s.index b s.here),
      )
  way_to root _ (in_operation r p s inside) =
      let up = way_to root (OperationNode p) inside in (
        up.0 ++ s.index ∷ [],
        further_down root up.0 (OperationNode p) (RegionNode r) s.index up.1
            (listed RegionNode (regions_in c p) s.index r s.here),
      )

  -- the place of an operation in a tree, and its site there
  pub record IsPlaced (root : Ptr Operation) (t : ProgramTree O B) (op : Ptr Operation) : Type 0 where
    pub place : List ℕ
    pub site : Site O B
    pub there : site_at t place ≡ Some site
    pub at : IsSiteOf c root op site

  -- each operation inside the root has one in the tree that the root stands for
  pub placed : HasLists c → (root : Ptr Operation) (t : ProgramTree O B) → StandsFor c root t
      → (op : Ptr Operation) → StandsInside c (OperationNode root) (OperationNode op) → IsPlaced root t op
  placed lists root t stands op inside =
      let way = way_to (OperationNode root) (OperationNode op) inside in
      let x = is_place c root op way.0 way.1 t stands in
      record {
        place = way.0;
        site = x.0;
        there = x.1;
        at = subst (λ (n : Ptr Operation). IsSiteOf c root n x.0) x.2 (located c lists root t stands way.0 x.0 x.1);
      }
