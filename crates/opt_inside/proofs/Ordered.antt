-- The entities inside an operation, in order, are those that are found in its tree, in order.
use Rattle.std.proofs.Common.{◌≡◌, List, [], ◌∷◌, ◌++◌, map, Some, option_map, unwrap_or, refl, sym, ap, ◌∙◌, subst}
use Rattle.std.proofs.lemmas.List.{map-append, append-nil}
use Rattle.ir_program.specs.Preorder.{nodes_in, IsPreorder, nothing, more}
use Rattle.ir_program.specs.Program.{Program, OperationView, BlockView, RegionView, operation_at, block_at, region_at}
use Rattle.ir_program.specs.declared.handles.IRNode.{IRNode}
use Rattle.ir_program.specs.declared.handles.IRNode.TheVariants.{Operation as OperationNode, Region as RegionNode, BasicBlock as BlockNode}
use Rattle.ir_program.specs.declared.handles.Ptr.{Ptr}
use Rattle.ir_program.specs.declared.handles.Operation.{Operation}
use Rattle.ir_program.specs.declared.handles.Region.{Region}
use Rattle.ir_program.specs.declared.handles.BasicBlock.{BasicBlock}
use Rattle.ir_trees.specs.Stands.{by_handle, in_program, Handles, ProgramTree, head_of, label_of, AreTree, no_operations, no_blocks, no_regions, first_operation, first_block, first_region, StandsFor}
use Rattle.ir_trees.specs.Trees.{Sort, Operations, Blocks, Regions, Tree}
use Rattle.ir_trees.proofs.Grown.{nodes}
use Rattle.ir_trees.proofs.Picked.{operations_among, blocks_among, operations_joined, blocks_joined}
use Rattle.opt_trees.specs.Occurrences.{Inside, inner, next_block, next_region, at_root, occurrences_in, block_occurrences_in, defined_in}
use Rattle.opt_inside.specs.Numbered.{AreInPreorder}
use Rattle.opt_inside.specs.Occurring.{Found, FoundBlock}
use Rattle.opt_inside.proofs.Among.{values_of, values_among, numbers_among, values_joined, results_are, arguments_are}

abbrev name : {O B : Type 0} → Found O B → Ptr Operation
name o = o.head.name

abbrev block_name : {O B : Type 0} → FoundBlock O B → Ptr BasicBlock
block_name x = x.label.name

module _ {O B : Type 0} (c : Program O B) where
  in_operation : (e : IRNode) (p : Ptr Operation) (v : OperationView O) → e ≡ OperationNode p → operation_at c p ≡ Some v → nodes_in c e ≡ nodes Regions v.regions
  in_operation e p v same there = ap (nodes_in c) same ∙ ap (λ o. map RegionNode (unwrap_or (option_map (λ (x : OperationView O). x.regions) o) [])) there

  in_block : (e : IRNode) (b : Ptr BasicBlock) (v : BlockView B) → e ≡ BlockNode b → block_at c b ≡ Some v → nodes_in c e ≡ nodes Operations v.operations
  in_block e b v same there = ap (nodes_in c) same ∙ ap (λ o. map OperationNode (unwrap_or (option_map (λ (x : BlockView B). x.operations) o) [])) there

  in_region : (e : IRNode) (r : Ptr Region) (v : RegionView) → e ≡ RegionNode r → region_at c r ≡ Some v → nodes_in c e ≡ nodes Blocks v.blocks
  in_region e r v same there = ap (nodes_in c) same ∙ ap (λ o. map BlockNode (unwrap_or (option_map (λ (x : RegionView). x.blocks) o) [])) there

  -- the entities of a list of a tree, in order
  record AreInOrder {s : Sort} (t : Tree by_handle (in_program O B) s) (i : Inside by_handle (in_program O B) s) (ns : List IRNode) : Type 0 where
    operations : operations_among ns ≡ map name (occurrences_in t i)
    blocks : blocks_among ns ≡ map block_name (block_occurrences_in t i)
    values : values_among c ns ≡ defined_in t

  ordered : (s : Sort) (hs : Handles s) (t : Tree by_handle (in_program O B) s) (i : Inside by_handle (in_program O B) s) (es ns : List IRNode) → AreTree c s hs t → IsPreorder c es ns → es ≡ nodes s hs → AreInOrder t i ns
  ordered _ _ _ i _ _ no_operations nothing same = record { operations = refl; blocks = refl; values = refl }
  ordered _ _ _ i _ _ no_blocks nothing same = record { operations = refl; blocks = refl; values = refl }
  ordered _ _ _ i _ _ no_regions nothing same = record { operations = refl; blocks = refl; values = refl }
  ordered _ _ _ i _ _ no_operations (more e es inside rest d ds) same = absurd (cc)
  ordered _ _ _ i _ _ no_blocks (more e es inside rest d ds) same = absurd (cc)
  ordered _ _ _ i _ _ no_regions (more e es inside rest d ds) same = absurd (cc)
  ordered _ _ _ i _ _ (first_operation p ps v rs left there below behind) nothing same = absurd (cc)
  ordered _ _ _ i _ _ (first_block p ps v rs left there below behind) nothing same = absurd (cc)
  ordered _ _ _ i _ _ (first_region p ps v rs left there below behind) nothing same = absurd (cc)
  ordered _ _ _ i _ _ (first_operation p ps v rs left there below behind) (more e es inside rest d ds) same =
      let first : e ≡ OperationNode p = cc in
      let a = ordered Regions v.regions rs (inner (head_of p v) i) (nodes_in c e) inside below d (in_operation e p v first there) in
      let b = ordered Operations ps left i es rest behind ds cc in
      record {
        operations = ap (λ x. operations_among (x ∷ (inside ++ rest))) first ∙ ap (λ l. p ∷ l) (operations_joined inside rest ∙ (λ k. a.operations k ++ b.operations k) ∙ sym (map-append name (occurrences_in rs (inner (head_of p v) i)) (occurrences_in left i)));
        blocks = ap (λ x. blocks_among (x ∷ (inside ++ rest))) first ∙ blocks_joined inside rest ∙ (λ k. a.blocks k ++ b.blocks k) ∙ sym (map-append block_name (block_occurrences_in rs (inner (head_of p v) i)) (block_occurrences_in left i));
        values = ap (λ x. values_among c (x ∷ (inside ++ rest))) first ∙ ap (λ l. values_of c (OperationNode p) ++ l) (values_joined c inside rest ∙ (λ k. a.values k ++ b.values k)) ∙ ap (λ l. l ++ (defined_in rs ++ defined_in left)) (sym (results_are c p v there));
      }
  ordered _ _ _ i _ _ (first_block p ps v ops left there below behind) (more e es inside rest d ds) same =
      let first : e ≡ BlockNode p = cc in
      let a = ordered Operations v.operations ops (record { spot = i; label = label_of p v }) (nodes_in c e) inside below d (in_block e p v first there) in
      let b = ordered Blocks ps left (next_block i) es rest behind ds cc in
      record {
        operations = ap (λ x. operations_among (x ∷ (inside ++ rest))) first ∙ operations_joined inside rest ∙ (λ k. a.operations k ++ b.operations k) ∙ sym (map-append name (occurrences_in ops (record { spot = i; label = label_of p v })) (occurrences_in left (next_block i)));
        blocks = ap (λ x. blocks_among (x ∷ (inside ++ rest))) first ∙ ap (λ l. p ∷ l) (blocks_joined inside rest ∙ (λ k. a.blocks k ++ b.blocks k) ∙ sym (map-append block_name (block_occurrences_in ops (record { spot = i; label = label_of p v })) (block_occurrences_in left (next_block i))));
        values = ap (λ x. values_among c (x ∷ (inside ++ rest))) first ∙ ap (λ l. values_of c (BlockNode p) ++ l) (values_joined c inside rest ∙ (λ k. a.values k ++ b.values k)) ∙ ap (λ l. l ++ (defined_in ops ++ defined_in left)) (sym (arguments_are c p v there));
      }
  ordered _ _ _ i _ _ (first_region p ps v bs left there below behind) (more e es inside rest d ds) same =
      let first : e ≡ RegionNode p = cc in
      let a = ordered Blocks v.blocks bs i (nodes_in c e) inside below d (in_region e p v first there) in
      let b = ordered Regions ps left (next_region i) es rest behind ds cc in
      record {
        operations = ap (λ x. operations_among (x ∷ (inside ++ rest))) first ∙ operations_joined inside rest ∙ (λ k. a.operations k ++ b.operations k) ∙ sym (map-append name (occurrences_in bs i) (occurrences_in left (next_region i)));
        blocks = ap (λ x. blocks_among (x ∷ (inside ++ rest))) first ∙ blocks_joined inside rest ∙ (λ k. a.blocks k ++ b.blocks k) ∙ sym (map-append block_name (block_occurrences_in bs i) (block_occurrences_in left (next_region i)));
        values = ap (λ x. values_among c (x ∷ (inside ++ rest))) first ∙ values_joined c inside rest ∙ (λ k. a.values k ++ b.values k);
      }

  ends : (es ns : List IRNode) → IsPreorder c es ns → es ≡ [] → ns ≡ []
  ends _ _ nothing same = refl
  ends _ _ (more e es inside rest d ds) same = absurd (cc)

  -- of the entities behind the root
  pub in_preorder : (op : Ptr Operation) (ns : List IRNode) → IsPreorder c (OperationNode op ∷ []) (OperationNode op ∷ ns) → (t : ProgramTree O B) → StandsFor c op t → AreInPreorder t (numbers_among c ns)
  in_preorder op ns order t stands = of (OperationNode op ∷ []) (OperationNode op ∷ ns) order refl refl
    where
      of : (es all : List IRNode) → IsPreorder c es all → es ≡ OperationNode op ∷ [] → all ≡ OperationNode op ∷ ns → AreInPreorder t (numbers_among c ns)
      of _ _ nothing is whole = absurd (cc)
      of _ _ (more e es inside rest d ds) is whole =
          let first : e ≡ OperationNode op = cc in
          let none : rest ≡ [] = ends es rest ds (cc) in
          let parts : inside ++ rest ≡ ns = cc in
          let all : inside ≡ ns = sym (append-nil inside) ∙ ap (λ l. inside ++ l) (sym none) ∙ parts in
          let a = ordered Regions stands.view.regions t.regions (at_root t) (nodes_in c e) inside stands.regions d (in_operation e op stands.view first stands.there) in
          subst (λ l. AreInPreorder t (numbers_among c l)) all (record { operations = a.operations; blocks = a.blocks; values = a.values })
