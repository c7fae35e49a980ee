-- Erasing an operation or a block makes of the trees around it what leaving it out does.
use Rattle.std.proofs.Common.{◌≡◌, ◌≢◌, ◌⊎◌, ⊎_elim, inl, inr, ℕ, zero, suc, true, false, not, List, [], ◌∷◌, Some, slice_get, option_map, unwrap_or, remove, refl, sym, ap, ◌∙◌, subst}
use Rattle.std.proofs.lemmas.List.{append-nil}
use Rattle.ir_program.specs.Program.{Program, OperationView, BlockView, RegionView, operation_at, block_at, region_at}
use Rattle.ir_program.specs.Erased.{ErasesOperation, ErasesBlock}
use Rattle.ir_program.specs.Lists.{regions_in, StandsInBlock, StandsInRegion, StandsInOperation, StandsInside, itself, in_block, in_region, in_operation}
use Rattle.ir_program.specs.Replacing.{same_block}
use Rattle.ir_program.specs.declared.handles.IRNode.{IRNode}
use Rattle.ir_program.specs.declared.handles.IRNode.TheVariants.{Operation as OperationNode, Region as RegionNode, BasicBlock as BlockNode}
use Rattle.ir_program.specs.declared.handles.Ptr.{Ptr}
use Rattle.ir_program.specs.declared.handles.Operation.{Operation}
use Rattle.ir_program.specs.declared.handles.BasicBlock.{BasicBlock}
use Rattle.ir_program.specs.declared.handles.Region.{Region}
use Rattle.ir_program.proofs.made.Frames.{same_or_not}
use Rattle.ir_trees.specs.Stands.{by_handle, in_program, head_of, label_of, no_operations}
use Rattle.ir_trees.specs.Rewrites.{Rewriting, rewritten_root, operations_after, Stays, root, in_operation as stays_in_operation, in_region as stays_in_region, in_block as stays_in_block}
use Rattle.ir_trees.specs.ListRewrites.{same_operation, leaves_out, leaves_out_block, TurnsIntoOutside}
use Rattle.ir_trees.proofs.Members.{Has, at_has}
use Rattle.ir_trees.proofs.HandleTests.{operation_yes, operation_no, block_yes, block_no}
use Rattle.ir_trees.proofs.ListMembers.{not_mark, out_none, out_at, only_staying}
use Rattle.ir_trees.proofs.ListEdited.{AreOrderly, in_record, in_region_record, listed_there, blocks_there, listed_once, blocks_listed_once, operations_placed, blocks_staying, all_blocks, all_operations}
use Rattle.ir_trees.proofs.Rewritten.{rewritten_tree}

-- a handle is in a list at some index, or not in it
found_or_not : {E : Type 0} (p : Ptr E) (xs : List (Ptr E)) → ((k : ℕ) × (slice_get xs k ≡ Some p)) ⊎ (Has p xs → ⊥)
found_or_not p [] = inr (λ h. h)
found_or_not p (x ∷ xs) = ⊎_elim
    (λ (e : p ≡ x). inl (zero, ap Some (sym e)))
    (λ (ne : p ≢ x). ⊎_elim (λ r. inl (suc r.0, r.1)) (λ none. inr (λ h. ⊎_elim ne none h)) (found_or_not p xs))
    (same_or_not p x)

module _ {O B : Type 0} (c : Program O B) (x : IRNode) where
  -- what holds an entity directly is inside x too
  abbrev HolderInside : IRNode → Type 0
  HolderInside (OperationNode p) = (b : Ptr BasicBlock) × StandsInBlock c p b × StandsInside c x (BlockNode b)
  HolderInside (BlockNode b) = (r : Ptr Region) × StandsInRegion c b r × StandsInside c x (RegionNode r)
  HolderInside (RegionNode r) = (p : Ptr Operation) × StandsInOperation c r p × StandsInside c x (OperationNode p)

  itself_or_held : (e : IRNode) → StandsInside c x e → (x ≡ e) ⊎ HolderInside e
  itself_or_held _ itself = inl refl
  itself_or_held _ (in_block p b s i) = inr (b, s, i)
  itself_or_held _ (in_region b r s i) = inr (r, s, i)
  itself_or_held _ (in_operation r p s i) = inr (p, s, i)

module _ {O B : Type 0} (old : Program O B) (lists : AreOrderly old) where
  in_operation_record : (p : Ptr Operation) (v : OperationView O) → operation_at old p ≡ Some v → regions_in old p ≡ v.regions
  in_operation_record p v there = ap (λ o. unwrap_or (option_map (λ (y : OperationView O). y.regions) o) []) there

  -- what stays isn't inside what is left out
  module _ (w : Rewriting by_handle (in_program O B)) (op : Ptr Operation) (x : IRNode)
      (out : (p : Ptr Operation) (v : OperationView O) → x ≡ OperationNode p → w.keeps (head_of p v) ≡ true → ⊥)
      (block_out : (b : Ptr BasicBlock) (l : BlockView B) → x ≡ BlockNode b → w.keeps_block (label_of b l) ≡ true → ⊥)
      (no_region : (r : Ptr Region) → x ≡ RegionNode r → ⊥)
      (apart : StandsInside old x (OperationNode op) → ⊥) where
    stays_outside : (e : IRNode) → Stays old w op e → StandsInside old x e → ⊥
    stays_outside _ root i = apart i
    stays_outside _ (stays_in_operation p v r stays there listed) i = ⊎_elim
        (λ (e : x ≡ RegionNode r). no_region r e)
        (λ (h : HolderInside old x (RegionNode r)).
        let q = lists.regions_once r h.0 p h.1.index listed.0 h.1.here (ap (λ xs. slice_get xs listed.0) (in_operation_record p v there) ∙ listed.1) in
        stays_outside (OperationNode p) stays (subst (λ y. StandsInside old x (OperationNode y)) q.0 h.2))
        (itself_or_held old x (RegionNode r) i)
    stays_outside _ (stays_in_region r v b l stays there listed is keeps) i = ⊎_elim
        (λ (e : x ≡ BlockNode b). block_out b l e keeps)
        (λ (h : HolderInside old x (BlockNode b)).
        let q = lists.blocks_once b h.0 r h.1.index listed.0 h.1.here (ap (λ xs. slice_get xs listed.0) (in_region_record old lists r v there) ∙ listed.1) in
        stays_outside (RegionNode r) stays (subst (λ y. StandsInside old x (RegionNode y)) q.0 h.2))
        (itself_or_held old x (BlockNode b) i)
    stays_outside _ (stays_in_block b l p v stays there listed is keeps) i = ⊎_elim
        (λ (e : x ≡ OperationNode p). out p v e keeps)
        (λ (h : HolderInside old x (OperationNode p)).
        let q = lists.operations_once p h.0 b h.1.index listed.0 h.1.here (ap (λ xs. slice_get xs listed.0) (in_record old lists b l there) ∙ listed.1) in
        stays_outside (BlockNode b) stays (subst (λ y. StandsInside old x (BlockNode y)) q.0 h.2))
        (itself_or_held old x (OperationNode p) i)

  pub operation_erased : (new : Program O B) (p : Ptr Operation) → ErasesOperation old new p → TurnsIntoOutside old new (OperationNode p) (rewritten_root (leaves_out p))
  operation_erased new p erases op t apart =
      let outside : (e : IRNode) → Stays old (leaves_out p) op e → StandsInside old (OperationNode p) e → ⊥ = stays_outside (leaves_out p) op (OperationNode p)
      (λ q v e k. let s : q ≡ p = cc in let y : same_operation q p ≡ true = operation_yes q p s in let f : not (same_operation q p) ≡ false = ap not y in cc)
      (λ b l e k. cc) (λ r e. cc) apart in
      let list = λ (q : Ptr BasicBlock) (l : BlockView B) (there : block_at old q ≡ Some l). append-nil (operations_after old (leaves_out p) l.operations) ∙ operations_placed old lists (leaves_out p) (λ x. []) (λ x. []) (not_mark same_operation operation_yes operation_no p p) (λ x v. refl) (λ x v. refl) (λ x v. refl) l.operations (listed_there old lists q l there) ∙ only_staying (not_mark same_operation operation_yes operation_no p p) l.operations in
      rewritten_tree old new op (leaves_out p) (record {
        operations = λ q v s there. (v, erases.operations q (outside (OperationNode q) s) ∙ there, refl, refl);
        regions = λ r v s there. (v, erases.regions r (outside (RegionNode r) s) ∙ there, sym (all_blocks old lists (leaves_out p) (λ x l. refl) r v there));
        blocks = λ q v s there. ⊎_elim
            (λ (here : (k : ℕ) × (slice_get v.operations k ≡ Some p)). (
              record v { operations = remove v.operations here.0 },
              erases.holder q here.0 (ap (λ xs. slice_get xs here.0) (in_record old lists q v there) ∙ here.1) ∙ ap (option_map (λ (y : BlockView B). record y { operations = remove y.operations here.0 })) there,
              refl,
              sym (list q v there ∙ out_at same_operation operation_yes operation_no p p v.operations here.0 (listed_once old lists q v there) here.1),
            ))
            (λ (none : Has p v.operations → ⊥). (
              v,
              erases.blocks q (outside (BlockNode q) s) (λ h. none (at_has v.operations h.index p (ap (λ xs. slice_get xs h.index) (sym (in_record old lists q v there)) ∙ h.here))) ∙ there,
              refl,
              sym (list q v there ∙ out_none same_operation operation_yes operation_no p p v.operations none),
            ))
            (found_or_not p v.operations);
        around = λ q v b l s e i there. (no_operations, no_operations);
        ends = λ q v s there. (no_operations, no_operations);
      }) t

  pub block_erased : (new : Program O B) (b : Ptr BasicBlock) → ErasesBlock old new b → TurnsIntoOutside old new (BlockNode b) (rewritten_root (leaves_out_block b))
  block_erased new b erases op t apart =
      let outside : (e : IRNode) → Stays old (leaves_out_block b) op e → StandsInside old (BlockNode b) e → ⊥ = stays_outside (leaves_out_block b) op (BlockNode b)
      (λ p v e k. cc)
      (λ q l e k. let s : q ≡ b = cc in let y : same_block q b ≡ true = block_yes q b s in let f : not (same_block q b) ≡ false = ap not y in cc)
      (λ r e. cc) apart in
      let list = λ (q : Ptr Region) (v : RegionView) (there : region_at old q ≡ Some v). blocks_staying old lists (leaves_out_block b) (not_mark same_block block_yes block_no b b) (λ x l. refl) v.blocks (blocks_there old lists q v there) in
      rewritten_tree old new op (leaves_out_block b) (record {
        operations = λ q v s there. (v, erases.operations q (outside (OperationNode q) s) ∙ there, refl, refl);
        regions = λ r v s there. ⊎_elim
            (λ (here : (k : ℕ) × (slice_get v.blocks k ≡ Some b)). (
              record v { blocks = remove v.blocks here.0 },
              erases.holder r here.0 (ap (λ xs. slice_get xs here.0) (in_region_record old lists r v there) ∙ here.1) ∙ ap (option_map (λ (y : RegionView). record y { blocks = remove y.blocks here.0 })) there,
              sym (list r v there ∙ out_at same_block block_yes block_no b b v.blocks here.0 (blocks_listed_once old lists r v there) here.1),
            ))
            (λ (none : Has b v.blocks → ⊥). (
              v,
              erases.regions r (outside (RegionNode r) s) (λ h. none (at_has v.blocks h.index b (ap (λ xs. slice_get xs h.index) (sym (in_region_record old lists r v there)) ∙ h.here))) ∙ there,
              sym (list r v there ∙ out_none same_block block_yes block_no b b v.blocks none),
            ))
            (found_or_not b v.blocks);
        blocks = λ q v s there. (v, erases.blocks q (outside (BlockNode q) s) ∙ there, refl, sym (append-nil (operations_after old (leaves_out_block b) v.operations) ∙ all_operations old lists (leaves_out_block b) (λ x u. refl) (λ x u. refl) (λ x u. refl) q v there));
        around = λ q v d l s e i there. (no_operations, no_operations);
        ends = λ q v s there. (no_operations, no_operations);
      }) t
