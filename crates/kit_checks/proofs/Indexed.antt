-- The index of an entity in what it is in, and answers of calls that may be refused.
use Rattle.std.proofs.Common.{◌≡◌, ℕ, map, Option, Some, option_map, slice_get, Result, Ok, Err, IfOk, sym, ap, ◌∙◌, subst}
use Rattle.std.proofs.lemmas.Option.{slice_get-map}
use Rattle.ir_program.specs.Around.{StandsIn}
use Rattle.ir_program.specs.Lists.{StandsInBlock, StandsInRegion, StandsInOperation, operations_in, blocks_in, regions_in}
use Rattle.ir_program.specs.Preorder.{nodes_in}
use Rattle.ir_program.specs.Program.{Program}
use Rattle.ir_program.specs.declared.handles.IRNode.{IRNode}
use Rattle.ir_program.specs.declared.handles.IRNode.TheVariants.{Operation as OperationNode, Region as RegionNode, BasicBlock as BlockNode}
use Rattle.ir_program.specs.declared.handles.Ptr.{Ptr}
use Rattle.ir_program.specs.declared.handles.Operation.{Operation}
use Rattle.ir_program.specs.declared.handles.Region.{Region}
use Rattle.ir_program.specs.declared.handles.BasicBlock.{BasicBlock}

-- what holds of an answer holds of it by other words
pub ok_map : {X E : Type 0} {P Q : X → Type 0} (r : Result X E) → ((x : X) → P x → Q x) → IfOk r P → IfOk r Q
ok_map (Ok x) f h = f x h
ok_map (Err e) f h = h

module _ {O B : Type 0} (c : Program O B) where
  pub operation_indexed : (node : IRNode) (op : Ptr Operation) (o : Option (Ptr BasicBlock)) (block : Ptr BasicBlock) (k : ℕ) → node ≡ OperationNode op →
      ((b : Ptr BasicBlock) → StandsInBlock c op b → o ≡ Some b) → o ≡ Some block → slice_get (operations_in c block) k ≡ Some op →
      (holder : IRNode) → StandsIn c node holder → slice_get (nodes_in c holder) k ≡ Some node
  operation_indexed node op o block k is only there here (BlockNode b) s =
      let st : StandsInBlock c op b = subst (λ n. StandsIn c n (BlockNode b)) is s in
      let same : b ≡ block = let e : Some b ≡ Some block = sym (only b st) ∙ there in cc in
      subst (λ z. slice_get (map OperationNode (operations_in c z)) k ≡ Some node) (sym same) (slice_get-map OperationNode (operations_in c block) k ∙ ap (option_map OperationNode) here ∙ ap Some (sym is))
  operation_indexed node op o block k is only there here (OperationNode b) s = absurd (subst (λ n. StandsIn c n (OperationNode b)) is s)
  operation_indexed node op o block k is only there here (RegionNode b) s = absurd (subst (λ n. StandsIn c n (RegionNode b)) is s)

  pub block_indexed : (node : IRNode) (block : Ptr BasicBlock) (o : Option (Ptr Region)) (region : Ptr Region) (k : ℕ) → node ≡ BlockNode block →
      ((r : Ptr Region) → StandsInRegion c block r → o ≡ Some r) → o ≡ Some region → slice_get (blocks_in c region) k ≡ Some block →
      (holder : IRNode) → StandsIn c node holder → slice_get (nodes_in c holder) k ≡ Some node
  block_indexed node block o region k is only there here (RegionNode b) s =
      let st : StandsInRegion c block b = subst (λ n. StandsIn c n (RegionNode b)) is s in
      let same : b ≡ region = let e : Some b ≡ Some region = sym (only b st) ∙ there in cc in
      subst (λ z. slice_get (map BlockNode (blocks_in c z)) k ≡ Some node) (sym same) (slice_get-map BlockNode (blocks_in c region) k ∙ ap (option_map BlockNode) here ∙ ap Some (sym is))
  block_indexed node op o block k is only there here (OperationNode b) s = absurd (subst (λ n. StandsIn c n (OperationNode b)) is s)
  block_indexed node op o block k is only there here (BlockNode b) s = absurd (subst (λ n. StandsIn c n (BlockNode b)) is s)

  pub region_indexed : (node : IRNode) (region : Ptr Region) (k : ℕ) → node ≡ RegionNode region →
      ((op : Ptr Operation) (j : ℕ) → slice_get (regions_in c op) j ≡ Some region → k ≡ j) →
      (holder : IRNode) → StandsIn c node holder → slice_get (nodes_in c holder) k ≡ Some node
  region_indexed node region k is index (OperationNode p) s =
      let st : StandsInOperation c region p = subst (λ n. StandsIn c n (OperationNode p)) is s in
      subst (λ z. slice_get (map RegionNode (regions_in c p)) z ≡ Some node) (sym (index p st.index st.here)) (slice_get-map RegionNode (regions_in c p) st.index ∙ ap (option_map RegionNode) st.here ∙ ap Some (sym is))
  region_indexed node op k is index (BlockNode b) s = absurd (subst (λ n. StandsIn c n (BlockNode b)) is s)
  region_indexed node op k is index (RegionNode b) s = absurd (subst (λ n. StandsIn c n (RegionNode b)) is s)
