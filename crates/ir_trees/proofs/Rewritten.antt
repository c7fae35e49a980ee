-- Where each record is what a rewriting makes of the old one, the tree is so too.
use Rattle.std.proofs.Common.{◌≡◌, zero, suc, Bool, true, false, List, ◌∷◌, ◌++◌, Some, cond, refl, sym, ap, ◌∙◌, subst}
use Rattle.ir_program.specs.Program.{Program, OperationView, BlockView, RegionView, operation_at, block_at, region_at}
use Rattle.ir_program.specs.declared.handles.IRNode.TheVariants.{Operation as OperationNode, Region as RegionNode, BasicBlock as BlockNode}
use Rattle.ir_program.specs.declared.handles.Ptr.{Ptr}
use Rattle.ir_program.specs.declared.handles.Operation.{Operation}
use Rattle.ir_program.specs.declared.handles.Region.{Region}
use Rattle.ir_program.specs.declared.handles.BasicBlock.{BasicBlock}
use Rattle.ir_trees.specs.Trees.{Head, Label, Sort, Operations, Blocks, Regions, Tree, operation, block, Root}
use Rattle.ir_trees.specs.Searched.{Lists}
use Rattle.ir_trees.specs.Stands.{by_handle, in_program, Handles, head_of, label_of, AreTree, no_operations, no_blocks, no_regions, first_operation, first_block, first_region, StandsFor}
use Rattle.ir_trees.specs.Rewrites.{Rewriting, joined, roots, rewritten, rewritten_root, in_place, block_in_place, operations_after, blocks_after, Stays, root, in_operation, in_region, in_block, RewritesInside}

-- one list of operations, then another
both_there : {O B : Type 0} (c : Program O B) (ps qs : List (Ptr Operation)) (a b : Tree by_handle (in_program O B) Operations) → AreTree c Operations ps a → AreTree c Operations qs b → AreTree c Operations (ps ++ qs) (joined a b)
both_there c _ qs _ b no_operations rest = rest
both_there c _ qs _ b (first_operation p ps v rs left there below behind) rest = first_operation p (ps ++ qs) v rs (joined left b) there below (both_there c ps qs left b behind rest)

module _ {O B : Type 0} (old new : Program O B) (op : Ptr Operation) (w : Rewriting by_handle (in_program O B)) (all : RewritesInside old new op w) where
  -- what stands in place of a list
  abbrev After : (s : Sort) → Handles s → Handles s
  After Operations hs = operations_after old w hs
  After Blocks hs = blocks_after old w hs
  After Regions hs = hs

  -- the handle is one of what is in something that stays
  abbrev InBlock : Ptr Operation → Type 0
  InBlock p = (b : Ptr BasicBlock) × (l : BlockView B) × Stays old w op (BlockNode b) × (block_at old b ≡ Some l) × Lists l.operations p

  abbrev InRegion : Ptr BasicBlock → Type 0
  InRegion b = (r : Ptr Region) × (v : RegionView) × Stays old w op (RegionNode r) × (region_at old r ≡ Some v) × Lists v.blocks b

  abbrev InOperation : Ptr Region → Type 0
  InOperation r = (p : Ptr Operation) × (v : OperationView O) × Stays old w op (OperationNode p) × (operation_at old p ≡ Some v) × Lists v.regions r

  -- each of the list is
  abbrev Held : (s : Sort) → Handles s → Type 0
  Held Operations hs = (p : Ptr Operation) → Lists hs p → InBlock p
  Held Blocks hs = (b : Ptr BasicBlock) → Lists hs b → InRegion b
  Held Regions hs = (r : Ptr Region) → Lists hs r → InOperation r

  operation_kept : (p : Ptr Operation) (v : OperationView O) (ps : List (Ptr Operation)) (rs : Tree by_handle (in_program O B) Regions) (rest : Tree by_handle (in_program O B) Operations) (b : Bool) → w.keeps (head_of p v) ≡ b
      → operation_at old p ≡ Some v → InBlock p → (w.keeps (head_of p v) ≡ true → AreTree new Regions v.regions (rewritten w rs)) → AreTree new Operations ps rest
      → AreTree new Operations (cond b (p ∷ ps) ps) (cond b (operation (w.head (head_of p v)) (rewritten w rs) rest) rest)
  operation_kept p v ps rs rest true e there here below later =
      let s : Stays old w op (OperationNode p) = in_block here.0 here.1 p v here.2 here.3 here.4 there e in
      let r = all.operations p v s there in
      subst (λ (g : Head by_handle (in_program O B)). AreTree new Operations (p ∷ ps) (operation g (rewritten w rs) rest)) r.2
      (first_operation p ps r.0 (rewritten w rs) rest r.1 (subst (λ x. AreTree new Regions x (rewritten w rs)) (sym r.3) (below e)) later)
  operation_kept p v ps rs rest false e there here below later = later

  block_kept : (b : Ptr BasicBlock) (v : BlockView B) (bs : List (Ptr BasicBlock)) (ops : Tree by_handle (in_program O B) Operations) (rest : Tree by_handle (in_program O B) Blocks) (k : Bool) → w.keeps_block (label_of b v) ≡ k
      → block_at old b ≡ Some v → InRegion b → (w.keeps_block (label_of b v) ≡ true → AreTree new Operations (operations_after old w v.operations) (rewritten w ops)) → AreTree new Blocks bs rest
      → AreTree new Blocks (cond k (b ∷ bs) bs) (cond k (block (w.label (label_of b v)) (joined (w.first (label_of b v)) (joined (rewritten w ops) (w.last (label_of b v)))) rest) rest)
  block_kept b v bs ops rest true e there here below later =
      let s : Stays old w op (BlockNode b) = in_region here.0 here.1 b v here.2 here.3 here.4 there e in
      let r = all.blocks b v s there in
      let put = all.ends b v s there in
      let all_of : Tree by_handle (in_program O B) Operations = joined (w.first (label_of b v)) (joined (rewritten w ops) (w.last (label_of b v))) in
      let inner : AreTree new Operations (roots (w.first (label_of b v)) ++ (operations_after old w v.operations ++ roots (w.last (label_of b v)))) all_of =
      both_there new (roots (w.first (label_of b v))) (operations_after old w v.operations ++ roots (w.last (label_of b v))) (w.first (label_of b v)) (joined (rewritten w ops) (w.last (label_of b v))) put.0
      (both_there new (operations_after old w v.operations) (roots (w.last (label_of b v))) (rewritten w ops) (w.last (label_of b v)) (below e) put.1) in
      subst (λ (g : Label by_handle (in_program O B)). AreTree new Blocks (b ∷ bs) (block g all_of rest)) r.2
      (first_block b bs r.0 all_of rest r.1 (subst (λ x. AreTree new Operations x all_of) (sym r.3) inner) later)
  block_kept b v bs ops rest false e there here below later = later

  kept : (s : Sort) (hs : Handles s) (t : Tree by_handle (in_program O B) s) → AreTree old s hs t → Held s hs → AreTree new s (After s hs) (rewritten w t)
  kept _ _ _ no_operations held = no_operations
  kept _ _ _ no_blocks held = no_blocks
  kept _ _ _ no_regions held = no_regions
  kept _ _ _ (first_operation p ps v rs rest there below behind) held =
      let here = held p (zero, refl) in
      let later = kept Operations ps rest behind (λ q l. held q (suc l.0, l.1)) in
      let put = all.around p v here.0 here.1 here.2 here.3 here.4 there in
      let left = both_there new (roots (w.after (head_of p v))) (operations_after old w ps) (w.after (head_of p v)) (rewritten w rest) put.1 later in
      subst (λ o. AreTree new Operations (in_place old w p o (operations_after old w ps)) (rewritten w (operation (head_of p v) rs rest))) (sym there)
      (both_there new (roots (w.before (head_of p v))) _ (w.before (head_of p v)) _ put.0
      (operation_kept p v (roots (w.after (head_of p v)) ++ operations_after old w ps) rs (joined (w.after (head_of p v)) (rewritten w rest)) (w.keeps (head_of p v)) refl there here
      (λ e. kept Regions v.regions rs below (λ r l. (p, v, in_block here.0 here.1 p v here.2 here.3 here.4 there e, there, l))) left))
  kept _ _ _ (first_block b bs v ops rest there below behind) held =
      let here = held b (zero, refl) in
      let later = kept Blocks bs rest behind (λ q l. held q (suc l.0, l.1)) in
      subst (λ o. AreTree new Blocks (block_in_place old w b o (blocks_after old w bs)) (rewritten w (block (label_of b v) ops rest))) (sym there)
      (block_kept b v (blocks_after old w bs) ops (rewritten w rest) (w.keeps_block (label_of b v)) refl there here
      (λ e. kept Operations v.operations ops below (λ p l. (b, v, in_region here.0 here.1 b v here.2 here.3 here.4 there e, there, l))) later)
  kept _ _ _ (first_region r rs v bs rest there below behind) held =
      let here = held r (zero, refl) in
      let s : Stays old w op (RegionNode r) = in_operation here.0 here.1 r here.2 here.3 here.4 in
      let g = all.regions r v s there in
      let inner = kept Blocks v.blocks bs below (λ b l. (r, v, s, there, l)) in
      first_region r rs g.0 (rewritten w bs) (rewritten w rest) g.1 (subst (λ x. AreTree new Blocks x (rewritten w bs)) (sym g.2) inner) (kept Regions rs rest behind (λ q l. held q (suc l.0, l.1)))

  pub rewritten_tree : (t : Root by_handle (in_program O B)) → StandsFor old op t → StandsFor new op (rewritten_root w t)
  rewritten_tree t h =
      let r = all.operations op h.view root h.there in
      let inner = kept Regions h.view.regions t.regions h.regions (λ q l. (op, h.view, root, h.there, l)) in
      record { view = r.0; there = r.1; head = ap w.head h.head ∙ sym r.2; regions = subst (λ x. AreTree new Regions x (rewritten w t.regions)) (sym r.3) inner }
