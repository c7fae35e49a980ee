-- An operation inside the root is at a place of the root's tree.
use Rattle.std.proofs.Common.{◌≡◌, ℕ, List, [], ◌∷◌, ◌++◌, map, Some, option_map, slice_get, refl, ap, ◌∙◌}
use Rattle.std.proofs.lemmas.Option.{slice_get-map}
use Rattle.ir_program.specs.Lists.{StandsInside, itself, in_block, in_region, in_operation, operations_in, blocks_in}
use Rattle.ir_program.specs.Lists.{regions_in}
use Rattle.ir_program.specs.Preorder.{nodes_in}
use Rattle.ir_program.specs.Program.{Program}
use Rattle.ir_program.specs.declared.handles.IRNode.{IRNode}
use Rattle.ir_program.specs.declared.handles.IRNode.TheVariants.{Operation as OperationNode, Region as RegionNode}
use Rattle.ir_program.specs.declared.handles.IRNode.TheVariants.{BasicBlock as BlockNode}
use Rattle.kit_checks.specs.Located.{LeadsDown}

module _ {O B : Type 0} (c : Program O B) where
  -- one step further down
  further_down : (e : IRNode) (path : List ℕ) (holder inner : IRNode) (k : ℕ) → LeadsDown c e path holder
      → slice_get (nodes_in c holder) k ≡ Some inner → LeadsDown c e (path ++ k ∷ []) inner
  further_down e [] holder inner k is here =
      (inner, ap (λ x. slice_get (nodes_in c x) k) is ∙ here, refl)
  further_down e (j ∷ path) holder inner k down here =
      (down.0, down.1, further_down down.0 path holder inner k down.2 here)

  mapped : {X : Type 0} (f : X → IRNode) (xs : List X) (k : ℕ) (x : X) → slice_get xs k ≡ Some x
      → slice_get (map f xs) k ≡ Some (f x)
  mapped f xs k x h = slice_get-map f xs k ∙ ap (option_map f) h

  -- the indices from the root down to what is inside it
  pub path_down : (root e : IRNode) → StandsInside c root e → (path : List ℕ) × LeadsDown c root path e
  path_down root _ itself = ([], refl)
  path_down root _ (in_block p b s inside) =
      let up = path_down root (BlockNode b) inside in (
        up.0 ++ s.index ∷ [],
        further_down root up.0 (BlockNode b) (OperationNode p) s.index up.1
            (mapped OperationNode (operations_in c b) s.index p s.here),
      )
  path_down root _ (in_region b r s inside) =
      let up = path_down root (RegionNode r) inside in (
        up.0 ++ s.index ∷ [],
        further_down root up.0 (RegionNode r) (BlockNode b) s.index up.1
            (mapped BlockNode (blocks_in c r) s.index b s.here),
      )
  path_down root _ (in_operation r p s inside) =
      let up = path_down root (OperationNode p) inside in (
        up.0 ++ s.index ∷ [],
        further_down root up.0 (OperationNode p) (RegionNode r) s.index up.1
            (mapped RegionNode (regions_in c p) s.index r s.here),
      )
