-- The handles in a tree are those inside its operation, in order.
use Rattle.std.proofs.Common.{◌≡◌, ◌↔◌, ℕ, List, [], ◌∷◌, ◌++◌, map, Some, slice_get, option_map, unwrap_or, refl, sym, ap, ◌∙◌, subst, ⊎_elim}
use Rattle.std.proofs.lemmas.List.{map-append, append-nil}
use Rattle.ir_program.specs.Program.{Program, OperationView, BlockView, RegionView, operation_at, block_at, region_at}
use Rattle.ir_program.specs.Lists.{StandsInside}
use Rattle.ir_program.specs.Rows.{operands_at, successors_at}
use Rattle.ir_program.specs.Preorder.{nodes_in, IsPreorder, nothing, more, AreInside, StandOnceEach}
use Rattle.ir_program.specs.declared.handles.IRNode.{IRNode}
use Rattle.ir_program.specs.declared.handles.IRNode.TheVariants.{Operation as OperationNode, Region as RegionNode, BasicBlock as BlockNode}
use Rattle.ir_program.specs.declared.handles.Ptr.{Ptr}
use Rattle.ir_program.specs.declared.handles.Operation.{Operation}
use Rattle.ir_program.specs.declared.handles.BasicBlock.{BasicBlock}
use Rattle.ir_program.specs.declared.handles.Value.{Value}
use Rattle.ir_trees.specs.Trees.{Head, Label, Sort, Operations, Blocks, Regions, Tree, end, Root}
use Rattle.ir_trees.specs.Searched.{Lists, AreDistinct, heads_in, labels_in, heads_of, operation_names, block_names, UsesValue, UsesBlock}
use Rattle.ir_trees.specs.Stands.{by_handle, in_program, Handles, head_of, AreTree, no_operations, no_blocks, no_regions, first_operation, first_block, first_region, StandsFor}
use Rattle.ir_trees.proofs.Members.{Has, Once, at_has, has_at, once_of, once_at, has_made, has_map, has_either}
use Rattle.ir_trees.proofs.Picked.{operations_among, blocks_among, operations_joined, blocks_joined, operation_picked, operation_from, block_picked, block_from, operations_once, blocks_once}
use Rattle.ir_trees.proofs.Grown.{nodes}

module _ {O B : Type 0} where
  abbrev named : Head by_handle (in_program O B) → Ptr Operation
  named h = h.name

  abbrev called : Label by_handle (in_program O B) → Ptr BasicBlock
  called l = l.name

  module _ (c : Program O B) where
    below_operation : (e : IRNode) (p : Ptr Operation) (v : OperationView O) → e ≡ OperationNode p → operation_at c p ≡ Some v → nodes_in c e ≡ nodes Regions v.regions
    below_operation e p v same there = ap (nodes_in c) same ∙ ap (λ o. map RegionNode (unwrap_or (option_map (λ (x : OperationView O). x.regions) o) [])) there

    below_block : (e : IRNode) (b : Ptr BasicBlock) (v : BlockView B) → e ≡ BlockNode b → block_at c b ≡ Some v → nodes_in c e ≡ nodes Operations v.operations
    below_block e b v same there = ap (nodes_in c) same ∙ ap (λ o. map OperationNode (unwrap_or (option_map (λ (x : BlockView B). x.operations) o) [])) there

    below_region : (e : IRNode) (r : _) (v : RegionView) → e ≡ RegionNode r → region_at c r ≡ Some v → nodes_in c e ≡ nodes Blocks v.blocks
    below_region e r v same there = ap (nodes_in c) same ∙ ap (λ o. map BlockNode (unwrap_or (option_map (λ (x : RegionView). x.blocks) o) [])) there

    operations_named : (s : Sort) (hs : Handles s) (t : Tree by_handle (in_program O B) s) (es ns : List IRNode) → AreTree c s hs t → IsPreorder c es ns → es ≡ nodes s hs → operations_among ns ≡ map named (heads_in t)
    operations_named _ _ _ _ _ no_operations nothing same = refl
    operations_named _ _ _ _ _ no_blocks nothing same = refl
    operations_named _ _ _ _ _ no_regions nothing same = refl
    operations_named _ _ _ _ _ no_operations (more e es inner rest d ds) same = cc
    operations_named _ _ _ _ _ no_blocks (more e es inner rest d ds) same = cc
    operations_named _ _ _ _ _ no_regions (more e es inner rest d ds) same = cc
    operations_named _ _ _ _ _ (first_operation p ps v rs left there below behind) nothing same = cc
    operations_named _ _ _ _ _ (first_block p ps v rs left there below behind) nothing same = cc
    operations_named _ _ _ _ _ (first_region p ps v rs left there below behind) nothing same = cc
    operations_named _ _ _ _ _ (first_operation p ps v rs left there below behind) (more e es inner rest d ds) same =
        let first : e ≡ OperationNode p = cc in
        let a = operations_named Regions v.regions rs (nodes_in c e) inner below d (below_operation e p v first there) in
        let b = operations_named Operations ps left es rest behind ds cc in
        ap (λ x. operations_among (x ∷ (inner ++ rest))) first ∙ ap (λ l. p ∷ l) (operations_joined inner rest ∙ (λ i. a i ++ b i) ∙ sym (map-append named (heads_in rs) (heads_in left)))
    operations_named _ _ _ _ _ (first_block p ps v ops left there below behind) (more e es inner rest d ds) same =
        let first : e ≡ BlockNode p = cc in
        let a = operations_named Operations v.operations ops (nodes_in c e) inner below d (below_block e p v first there) in
        let b = operations_named Blocks ps left es rest behind ds cc in
        ap (λ x. operations_among (x ∷ (inner ++ rest))) first ∙ operations_joined inner rest ∙ (λ i. a i ++ b i) ∙ sym (map-append named (heads_in ops) (heads_in left))
    operations_named _ _ _ _ _ (first_region p ps v bs left there below behind) (more e es inner rest d ds) same =
        let first : e ≡ RegionNode p = cc in
        let a = operations_named Blocks v.blocks bs (nodes_in c e) inner below d (below_region e p v first there) in
        let b = operations_named Regions ps left es rest behind ds cc in
        ap (λ x. operations_among (x ∷ (inner ++ rest))) first ∙ operations_joined inner rest ∙ (λ i. a i ++ b i) ∙ sym (map-append named (heads_in bs) (heads_in left))

    blocks_named : (s : Sort) (hs : Handles s) (t : Tree by_handle (in_program O B) s) (es ns : List IRNode) → AreTree c s hs t → IsPreorder c es ns → es ≡ nodes s hs → blocks_among ns ≡ map called (labels_in t)
    blocks_named _ _ _ _ _ no_operations nothing same = refl
    blocks_named _ _ _ _ _ no_blocks nothing same = refl
    blocks_named _ _ _ _ _ no_regions nothing same = refl
    blocks_named _ _ _ _ _ no_operations (more e es inner rest d ds) same = cc
    blocks_named _ _ _ _ _ no_blocks (more e es inner rest d ds) same = cc
    blocks_named _ _ _ _ _ no_regions (more e es inner rest d ds) same = cc
    blocks_named _ _ _ _ _ (first_operation p ps v rs left there below behind) nothing same = cc
    blocks_named _ _ _ _ _ (first_block p ps v rs left there below behind) nothing same = cc
    blocks_named _ _ _ _ _ (first_region p ps v rs left there below behind) nothing same = cc
    blocks_named _ _ _ _ _ (first_operation p ps v rs left there below behind) (more e es inner rest d ds) same =
        let first : e ≡ OperationNode p = cc in
        let a = blocks_named Regions v.regions rs (nodes_in c e) inner below d (below_operation e p v first there) in
        let b = blocks_named Operations ps left es rest behind ds cc in
        ap (λ x. blocks_among (x ∷ (inner ++ rest))) first ∙ blocks_joined inner rest ∙ (λ i. a i ++ b i) ∙ sym (map-append called (labels_in rs) (labels_in left))
    blocks_named _ _ _ _ _ (first_block p ps v ops left there below behind) (more e es inner rest d ds) same =
        let first : e ≡ BlockNode p = cc in
        let a = blocks_named Operations v.operations ops (nodes_in c e) inner below d (below_block e p v first there) in
        let b = blocks_named Blocks ps left es rest behind ds cc in
        ap (λ x. blocks_among (x ∷ (inner ++ rest))) first ∙ ap (λ l. p ∷ l) (blocks_joined inner rest ∙ (λ i. a i ++ b i) ∙ sym (map-append called (labels_in ops) (labels_in left)))
    blocks_named _ _ _ _ _ (first_region p ps v bs left there below behind) (more e es inner rest d ds) same =
        let first : e ≡ RegionNode p = cc in
        let a = blocks_named Blocks v.blocks bs (nodes_in c e) inner below d (below_region e p v first there) in
        let b = blocks_named Regions ps left es rest behind ds cc in
        ap (λ x. blocks_among (x ∷ (inner ++ rest))) first ∙ blocks_joined inner rest ∙ (λ i. a i ++ b i) ∙ sym (map-append called (labels_in bs) (labels_in left))

    -- each operation of a tree is what its handle leads to
    head_record : (s : Sort) (hs : Handles s) (t : Tree by_handle (in_program O B) s) → AreTree c s hs t → (h : Head by_handle (in_program O B)) → Has h (heads_in t) → (v : OperationView O) × (operation_at c h.name ≡ Some v) × (h ≡ head_of h.name v)
    head_record _ _ _ no_operations h has = absurd has
    head_record _ _ _ no_blocks h has = absurd has
    head_record _ _ _ no_regions h has = absurd has
    head_record _ _ _ (first_operation p ps v rs left there below behind) h has = ⊎_elim
        (λ same. let n : h.name ≡ p = ap named same in (v, ap (operation_at c) n ∙ there, same ∙ ap (λ q. head_of q v) (sym n)))
        (λ more. ⊎_elim (head_record Regions v.regions rs below h) (head_record Operations ps left behind h) (has_either (heads_in rs) (heads_in left) h more))
        has
    head_record _ _ _ (first_block p ps v ops left there below behind) h has = ⊎_elim (head_record Operations v.operations ops below h) (head_record Blocks ps left behind h) (has_either (heads_in ops) (heads_in left) h has)
    head_record _ _ _ (first_region p ps v bs left there below behind) h has = ⊎_elim (head_record Blocks v.blocks bs below h) (head_record Regions ps left behind h) (has_either (heads_in bs) (heads_in left) h has)

    root_record : (op : Ptr Operation) (t : Root by_handle (in_program O B)) → StandsFor c op t → (h : Head by_handle (in_program O B)) → Has h (heads_of t) → (v : OperationView O) × (operation_at c h.name ≡ Some v) × (h ≡ head_of h.name v)
    root_record op t stands h has = ⊎_elim
        (λ same. let n : h.name ≡ op = ap named (same ∙ stands.head) in (stands.view, ap (operation_at c) n ∙ stands.there, same ∙ stands.head ∙ ap (λ q. head_of q stands.view) (sym n)))
        (head_record Regions stands.view.regions t.regions stands.regions h)
        has

    -- of the tree of an operation, and the entities inside it in order
    module _ (op : Ptr Operation) (t : Root by_handle (in_program O B)) (stands : StandsFor c op t) where
      root_named : (ns : List IRNode) → IsPreorder c (OperationNode op ∷ []) ns → operations_among ns ≡ operation_names t
      root_named _ (more e es inner rest d ds) =
          let a = operations_named Regions stands.view.regions t.regions (nodes_in c (OperationNode op)) inner stands.regions d (below_operation (OperationNode op) op stands.view refl stands.there) in
          let b : operations_among rest ≡ [] = operations_named Operations [] end [] rest no_operations ds refl in
          let n : op ≡ t.head.name = sym (ap named stands.head) in
          (λ i. n i ∷ ((operations_joined inner rest ∙ (λ j. a j ++ b j) ∙ append-nil (map named (heads_in t.regions))) i))

      root_called : (ns : List IRNode) → IsPreorder c (OperationNode op ∷ []) ns → blocks_among ns ≡ block_names t
      root_called _ (more e es inner rest d ds) =
          let a = blocks_named Regions stands.view.regions t.regions (nodes_in c (OperationNode op)) inner stands.regions d (below_operation (OperationNode op) op stands.view refl stands.there) in
          let b : blocks_among rest ≡ [] = blocks_named Operations [] end [] rest no_operations ds refl in
          blocks_joined inner rest ∙ (λ j. a j ++ b j) ∙ append-nil (map called (labels_in t.regions))

      module _ (ns : List IRNode) (order : IsPreorder c (OperationNode op ∷ []) ns) (inside : AreInside c (OperationNode op) ns) where
        pub operations_inside : (p : Ptr Operation) → Lists (operation_names t) p ↔ StandsInside c (OperationNode op) (OperationNode p)
        operations_inside p = (
          (λ l. let h : Has (OperationNode p) ns = operation_from ns p (subst (Has p) (sym (root_named ns order)) (at_has (operation_names t) l.0 p l.1)) in
              let k = has_at ns (OperationNode p) h in inside.inside k.0 (OperationNode p) k.1),
          (λ s. let k = inside.all (OperationNode p) s in has_at (operation_names t) p (subst (Has p) (root_named ns order) (operation_picked ns p (at_has ns k.0 (OperationNode p) k.1)))),
        )

        pub blocks_inside : (b : Ptr BasicBlock) → Lists (block_names t) b ↔ StandsInside c (OperationNode op) (BlockNode b)
        blocks_inside b = (
          (λ l. let h : Has (BlockNode b) ns = block_from ns b (subst (Has b) (sym (root_called ns order)) (at_has (block_names t) l.0 b l.1)) in
              let k = has_at ns (BlockNode b) h in inside.inside k.0 (BlockNode b) k.1),
          (λ s. let k = inside.all (BlockNode b) s in has_at (block_names t) b (subst (Has b) (root_called ns order) (block_picked ns b (at_has ns k.0 (BlockNode b) k.1)))),
        )

        pub operations_distinct : StandOnceEach ns → AreDistinct (operation_names t)
        operations_distinct once = once_at (operation_names t) (subst Once (root_named ns order) (operations_once ns (once_of ns once)))

        pub blocks_distinct : StandOnceEach ns → AreDistinct (block_names t)
        blocks_distinct once = once_at (block_names t) (subst Once (root_called ns order) (blocks_once ns (once_of ns once)))

        -- an operation of the tree is inside, and its handle leads to what its head says
        abbrev Leads : Head by_handle (in_program O B) → Ptr Operation → Type 0
        Leads h p = (v : OperationView O) × (operation_at c p ≡ Some v) × (h ≡ head_of p v)

        user_inside : (h : Head by_handle (in_program O B)) → Lists (heads_of t) h → (p : Ptr Operation) → h.name ≡ p → StandsInside c (OperationNode op) (OperationNode p) × Leads h p
        user_inside h listed p name =
            let has = at_has (heads_of t) listed.0 h listed.1 in
            let r = root_record op t stands h has in (
              (operations_inside p).0 (has_at (operation_names t) p (subst (λ q. Has q (operation_names t)) name (has_map named (heads_of t) h has))),
              subst (Leads h) name r,
            )

        -- an operation inside is one of the tree
        inside_user : (p : Ptr Operation) → StandsInside c (OperationNode op) (OperationNode p) → (h : Head by_handle (in_program O B)) × Lists (heads_of t) h × (h.name ≡ p)
        inside_user p inside =
            let l = (operations_inside p).1 inside in
            let m = has_made named (heads_of t) p (at_has (operation_names t) l.0 p l.1) in
            (m.0, has_at (heads_of t) m.0 m.1, sym m.2)

        operands_are : (h : Head by_handle (in_program O B)) (p : Ptr Operation) → Leads h p → operands_at c p ≡ h.operands
        operands_are h p r = ap (λ o. unwrap_or (option_map (λ (y : OperationView O). y.operands) o) []) r.1 ∙ sym (ap (λ (g : Head by_handle (in_program O B)). g.operands) r.2)

        successors_are : (h : Head by_handle (in_program O B)) (p : Ptr Operation) → Leads h p → successors_at c p ≡ h.successors
        successors_are h p r = ap (λ o. unwrap_or (option_map (λ (y : OperationView O). y.successors) o) []) r.1 ∙ sym (ap (λ (g : Head by_handle (in_program O B)). g.successors) r.2)

        pub values_used : (x : Value) (p : Ptr Operation) (i : ℕ) → UsesValue t x p i ↔ (StandsInside c (OperationNode op) (OperationNode p) × (slice_get (operands_at c p) i ≡ Some x))
        values_used x p i = (
          (λ u. let r = user_inside u.head u.stands p u.named in (r.0, ap (λ l. slice_get l i) (operands_are u.head p r.1) ∙ u.operand)),
          (λ s. let m = inside_user p s.0 in
              let r = user_inside m.0 m.1 p m.2 in
              record { head = m.0; stands = m.1; named = m.2; operand = ap (λ l. slice_get l i) (sym (operands_are m.0 p r.1)) ∙ s.1 }),
        )

        pub blocks_used : (x : Ptr BasicBlock) (p : Ptr Operation) (i : ℕ) → UsesBlock t x p i ↔ (StandsInside c (OperationNode op) (OperationNode p) × (slice_get (successors_at c p) i ≡ Some x))
        blocks_used x p i = (
          (λ u. let r = user_inside u.head u.stands p u.named in (r.0, ap (λ l. slice_get l i) (successors_are u.head p r.1) ∙ u.successor)),
          (λ s. let m = inside_user p s.0 in
              let r = user_inside m.0 m.1 p m.2 in
              record { head = m.0; stands = m.1; named = m.2; successor = ap (λ l. slice_get l i) (sym (successors_are m.0 p r.1)) ∙ s.1 }),
        )
