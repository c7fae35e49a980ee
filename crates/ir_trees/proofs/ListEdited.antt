-- Single edits of lists make of trees what their rewritings do.
use Rattle.std.proofs.Common.{◌≡◌, ◌≢◌, ⊎_elim, inl, inr, ℕ, ◌+◌, Bool, true, false, cond, List, [], ◌∷◌, ◌++◌, Option, Some, None, IsSome, slice_get, option_map, unwrap_or, insert, remove, refl, sym, ap, ◌∙◌, subst}
use Rattle.std.proofs.lemmas.List.{append-nil}
use Rattle.ir_program.specs.Program.{Program, OperationView, BlockView, RegionView, operation_at, block_at, region_at}
use Rattle.ir_program.specs.Edits.{EditsBlock}
use Rattle.ir_program.specs.ListEdits.{PutsOperationFirst, PutsOperationLast, PutsOperationBefore, PutsOperationAfter, TakesOutOperation, TakesOutBlock}
use Rattle.ir_program.specs.Lists.{operations_in, blocks_in, regions_in, StandsInBlock, StandsInRegion, StandsInside, in_block, IsLinkedBlock, IsLinkedOperation, StandOnce}
use Rattle.ir_program.specs.Replacing.{same_block}
use Rattle.ir_program.specs.declared.handles.IRNode.TheVariants.{Operation as OperationNode, BasicBlock as BlockNode}
use Rattle.ir_program.specs.declared.handles.Ptr.{Ptr}
use Rattle.ir_program.specs.declared.handles.Operation.{Operation}
use Rattle.ir_program.specs.declared.handles.BasicBlock.{BasicBlock}
use Rattle.ir_program.specs.declared.handles.Region.{Region}
use Rattle.ir_program.proofs.made.Frames.{same_or_not}
use Rattle.ir_trees.specs.Trees.{Head, Label, Operations, end, operation}
use Rattle.ir_trees.specs.Stands.{by_handle, in_program, ProgramTree, head_of, label_of, AreTree, no_operations, first_operation, StandsFor}
use Rattle.ir_trees.specs.Rewrites.{Rewriting, roots, rewritten_root, operations_after, block_in_place, blocks_after, in_place, TurnsInto}
use Rattle.ir_trees.specs.ListRewrites.{same_operation, list_of, puts_before, puts_after, puts_first, puts_last, leaves_out, leaves_out_block, CanBePutAt}
use Rattle.ir_trees.proofs.Members.{Has, Once, has_at, once_of}
use Rattle.ir_trees.proofs.HandleTests.{operation_yes, operation_no, block_yes, block_no}
use Rattle.ir_trees.proofs.ListMembers.{placed, staying, at_mark, not_mark, all_stay, before_none, before_at, after_none, after_at, out_none, out_at, only_staying, all_staying}
use Rattle.ir_trees.proofs.Changed.{unmoved_tree}
use Rattle.ir_trees.proofs.Rewritten.{rewritten_tree}

-- what `know_lists` tells of a program
pub record AreOrderly {O B : Type 0} (c : Program O B) : Type 0 where
  pub operations_once : StandOnce (operations_in c)
  pub blocks_once : StandOnce (blocks_in c)
  pub regions_once : StandOnce (regions_in c)
  pub operations : (block : Ptr BasicBlock) (k : ℕ) (op : Ptr Operation) → slice_get (operations_in c block) k ≡ Some op → StandsInBlock c op block
  pub blocks : (region : Ptr Region) (k : ℕ) (block : Ptr BasicBlock) → slice_get (blocks_in c region) k ≡ Some block → StandsInRegion c block region
  pub apart : (op : Ptr Operation) (block : Ptr BasicBlock) → StandsInBlock c op block → StandsInside c (OperationNode op) (BlockNode block) → ⊥

-- something that is there is something
something : {X : Type 0} (o : Option X) → IsSome o → (x : X) × (o ≡ Some x)
something (Some x) h = (x, refl)
something None h = cc

module _ {O B : Type 0} (old : Program O B) (lists : AreOrderly old) where
  -- what a block's record and a region's list
  pub in_record : (b : Ptr BasicBlock) (l : BlockView B) → block_at old b ≡ Some l → operations_in old b ≡ l.operations
  in_record b l there = ap (λ o. unwrap_or (option_map (λ (x : BlockView B). x.operations) o) []) there

  pub in_region_record : (r : Ptr Region) (l : RegionView) → region_at old r ≡ Some l → blocks_in old r ≡ l.blocks
  in_region_record r l there = ap (λ o. unwrap_or (option_map (λ (x : RegionView). x.blocks) o) []) there

  -- each that is listed is there
  pub listed_there : (b : Ptr BasicBlock) (l : BlockView B) → block_at old b ≡ Some l → (q : Ptr Operation) → Has q l.operations → (v : OperationView O) × (operation_at old q ≡ Some v)
  listed_there b l there q has =
      let k = has_at l.operations q has in
      let s = lists.operations b k.0 q (ap (λ xs. slice_get xs k.0) (in_record b l there) ∙ k.1) in
      something (operation_at old q) s.operation

  pub blocks_there : (r : Ptr Region) (l : RegionView) → region_at old r ≡ Some l → (q : Ptr BasicBlock) → Has q l.blocks → (v : BlockView B) × (block_at old q ≡ Some v)
  blocks_there r l there q has =
      let k = has_at l.blocks q has in
      let s = lists.blocks r k.0 q (ap (λ xs. slice_get xs k.0) (in_region_record r l there) ∙ k.1) in
      something (block_at old q) s.block

  -- each once
  pub listed_once : (b : Ptr BasicBlock) (l : BlockView B) → block_at old b ≡ Some l → Once l.operations
  listed_once b l there = let e = in_record b l there in
      once_of l.operations (λ j k q x y. (lists.operations_once q b b j k (ap (λ xs. slice_get xs j) e ∙ x) (ap (λ xs. slice_get xs k) e ∙ y)).1)

  pub blocks_listed_once : (r : Ptr Region) (l : RegionView) → region_at old r ≡ Some l → Once l.blocks
  blocks_listed_once r l there = let e = in_region_record r l there in
      once_of l.blocks (λ j k q x y. (lists.blocks_once q r r j k (ap (λ xs. slice_get xs j) e ∙ x) (ap (λ xs. slice_get xs k) e ∙ y)).1)

  -- and in no other list
  pub elsewhere : (p : Ptr Operation) (b q : Ptr BasicBlock) (k : ℕ) (l : BlockView B) → slice_get (operations_in old b) k ≡ Some p → q ≢ b → block_at old q ≡ Some l → Has p l.operations → ⊥
  elsewhere p b q k l h ne there has =
      let j = has_at l.operations p has in
      ne (lists.operations_once p q b j.0 k (ap (λ xs. slice_get xs j.0) (in_record q l there) ∙ j.1) h).0

  pub block_elsewhere : (p : Ptr BasicBlock) (b q : Ptr Region) (k : ℕ) (l : RegionView) → slice_get (blocks_in old b) k ≡ Some p → q ≢ b → region_at old q ≡ Some l → Has p l.blocks → ⊥
  block_elsewhere p b q k l h ne there has =
      let j = has_at l.blocks p has in
      ne (lists.blocks_once p q b j.0 k (ap (λ xs. slice_get xs j.0) (in_region_record q l there) ∙ j.1) h).0

  pub at_index : (b : Ptr BasicBlock) (l : BlockView B) (k : ℕ) (p : Ptr Operation) → block_at old b ≡ Some l → slice_get (operations_in old b) k ≡ Some p → slice_get l.operations k ≡ Some p
  at_index b l k p there h = ap (λ xs. slice_get xs k) (sym (in_record b l there)) ∙ h

  pub at_region_index : (r : Ptr Region) (l : RegionView) (k : ℕ) (p : Ptr BasicBlock) → region_at old r ≡ Some l → slice_get (blocks_in old r) k ≡ Some p → slice_get l.blocks k ≡ Some p
  at_region_index r l k p there h = ap (λ xs. slice_get xs k) (sym (in_region_record r l there)) ∙ h

  module _ (w : Rewriting by_handle (in_program O B)) where
    -- a rewriting that asks for names alone, on lists
    pub operations_placed : (before after : Ptr Operation → List (Ptr Operation)) (keeps : Ptr Operation → Bool)
        → ((p : Ptr Operation) (v : OperationView O) → roots (w.before (head_of p v)) ≡ before p) → ((p : Ptr Operation) (v : OperationView O) → roots (w.after (head_of p v)) ≡ after p) → ((p : Ptr Operation) (v : OperationView O) → w.keeps (head_of p v) ≡ keeps p)
        → (ps : List (Ptr Operation)) → ((q : Ptr Operation) → Has q ps → (v : OperationView O) × (operation_at old q ≡ Some v)) → operations_after old w ps ≡ placed before after keeps ps
    operations_placed before after keeps b a k [] there = refl
    operations_placed before after keeps b a k (p ∷ ps) there =
        let v = there p (inl refl) in
        let rest = operations_placed before after keeps b a k ps (λ q h. there q (inr h)) in
        ap (λ o. in_place old w p o (operations_after old w ps)) v.1 ∙ (λ i. b p v.0 i ++ cond (k p v.0 i) (p ∷ (a p v.0 i ++ rest i)) (a p v.0 i ++ rest i))

    pub blocks_staying : (keeps : Ptr BasicBlock → Bool) → ((b : Ptr BasicBlock) (v : BlockView B) → w.keeps_block (label_of b v) ≡ keeps b)
        → (bs : List (Ptr BasicBlock)) → ((q : Ptr BasicBlock) → Has q bs → (v : BlockView B) × (block_at old q ≡ Some v)) → blocks_after old w bs ≡ staying keeps bs
    blocks_staying keeps k [] there = refl
    blocks_staying keeps k (b ∷ bs) there =
        let v = there b (inl refl) in
        let rest = blocks_staying keeps k bs (λ q h. there q (inr h)) in
        ap (λ o. block_in_place old w b o (blocks_after old w bs)) v.1 ∙ (λ i. cond (k b v.0 i) (b ∷ rest i) (rest i))

    -- all blocks of a region stay, and all operations of a block
    pub all_blocks : ((b : Ptr BasicBlock) (v : BlockView B) → w.keeps_block (label_of b v) ≡ true) → (r : Ptr Region) (v : RegionView) → region_at old r ≡ Some v → blocks_after old w v.blocks ≡ v.blocks
    all_blocks k r v there = blocks_staying (λ b. true) k v.blocks (blocks_there r v there) ∙ all_staying v.blocks

    pub all_operations : ((p : Ptr Operation) (v : OperationView O) → roots (w.before (head_of p v)) ≡ []) → ((p : Ptr Operation) (v : OperationView O) → roots (w.after (head_of p v)) ≡ []) → ((p : Ptr Operation) (v : OperationView O) → w.keeps (head_of p v) ≡ true)
        → (b : Ptr BasicBlock) (l : BlockView B) → block_at old b ≡ Some l → operations_after old w l.operations ≡ l.operations
    all_operations b a k q l there = operations_placed (λ p. []) (λ p. []) (λ p. true) b a k l.operations (listed_there q l there) ∙ all_stay same_operation operation_yes operation_no l.operations

    -- the list that the rewriting makes of a block's
    abbrev list_after : Ptr BasicBlock → BlockView B → List (Ptr Operation)
    list_after b l = roots (w.first (label_of b l)) ++ (operations_after old w l.operations ++ roots (w.last (label_of b l)))

    -- where one block's list is edited
    block_edited : (new : Program O B) (b : Ptr BasicBlock) (edit : List (Ptr Operation) → List (Ptr Operation)) → EditsBlock old new b (λ v. record v { operations = edit v.operations })
        → ((h : Head by_handle (in_program O B)) → w.head h ≡ h) → ((l : Label by_handle (in_program O B)) → w.label l ≡ l) → ((q : Ptr BasicBlock) (l : BlockView B) → w.keeps_block (label_of q l) ≡ true)
        → ((l : BlockView B) → block_at old b ≡ Some l → list_after b l ≡ edit l.operations)
        → ((q : Ptr BasicBlock) (l : BlockView B) → q ≢ b → block_at old q ≡ Some l → list_after q l ≡ l.operations)
        → ((h : Head by_handle (in_program O B)) → AreTree new Operations (roots (w.before h)) (w.before h) × AreTree new Operations (roots (w.after h)) (w.after h))
        → ((l : Label by_handle (in_program O B)) → AreTree new Operations (roots (w.first l)) (w.first l) × AreTree new Operations (roots (w.last l)) (w.last l))
        → TurnsInto old new (rewritten_root w)
    block_edited new b edit edits heads labels keeps here others around ends op t = rewritten_tree old new op w (record {
      operations = λ p v s there. (v, edits.operations p ∙ there, sym (heads (head_of p v)), refl);
      regions = λ r v s there. (v, edits.regions r ∙ there, sym (all_blocks keeps r v there));
      blocks = λ q v s there. ⊎_elim
          (λ (same : q ≡ b). (
            record v { operations = edit v.operations },
            ap (block_at new) same ∙ edits.edited ∙ ap (option_map (λ (x : BlockView B). record x { operations = edit x.operations })) (ap (block_at old) (sym same) ∙ there),
            sym (labels (label_of q v)),
            subst (λ x. edit v.operations ≡ list_after x v) (sym same) (sym (here v (ap (block_at old) (sym same) ∙ there))),
          ))
          (λ (other : q ≢ b). (v, edits.others q other ∙ there, sym (labels (label_of q v)), sym (others q v other there)))
          (same_or_not q b);
      around = λ p v q l s e i there. around (head_of p v);
      ends = λ q v s there. ends (label_of q v);
    }) t

  -- what is put
  module _ (new : Program O B) (p : Ptr Operation) (s : ProgramTree O B) (b : Ptr BasicBlock) (edit : BlockView B → BlockView B) (edits : EditsBlock old new b edit) (ready : CanBePutAt old (BlockNode b) p s) where
    put_stands : StandsFor new p s
    put_stands = unmoved_tree old new p (record {
      operations = λ q i. edits.operations q;
      blocks = λ q i. edits.others q (λ e. ready.apart (subst (λ x. StandsInside old (OperationNode p) (BlockNode x)) e i));
      regions = λ r i. edits.regions r;
    }) s ready.stands

    put_alone : AreTree new Operations (s.head.name ∷ []) (list_of s)
    put_alone = subst (λ (h : Head by_handle (in_program O B)). AreTree new Operations (h.name ∷ []) (operation h s.regions end)) (sym put_stands.head) (first_operation p [] put_stands.view s.regions end put_stands.there put_stands.regions no_operations)

    put_where : (t : Bool) → AreTree new Operations (roots (cond t (list_of s) end)) (cond t (list_of s) end)
    put_where true = put_alone
    put_where false = no_operations

    put_name : s.head.name ≡ p
    put_name = ap (λ (h : Head by_handle (in_program O B)). h.name) put_stands.head

    put_roots : (t : Bool) → roots (cond t (list_of s) end) ≡ cond t (p ∷ []) []
    put_roots true = ap (λ x. x ∷ []) put_name
    put_roots false = refl

  pub put_before : (new : Program O B) (mark p : Ptr Operation) (s : ProgramTree O B) → IsLinkedOperation old mark → CanBePutAt old (OperationNode mark) p s → PutsOperationBefore old new mark p → TurnsInto old new (rewritten_root (puts_before mark s))
  put_before new mark p s linked ready puts =
      let b = linked.0 in let k = linked.1.index in
      let edits = puts b k linked.1.here in
      let ready_there : CanBePutAt old (BlockNode b) p s = record { stands = ready.stands; apart = λ i. ready.apart (in_block mark b linked.1 i) } in
      let names = put_roots new p s b _ edits ready_there in
      let list = λ (q : Ptr BasicBlock) (l : BlockView B) (there : block_at old q ≡ Some l). append-nil (operations_after old (puts_before mark s) l.operations) ∙ operations_placed (puts_before mark s) (at_mark same_operation operation_yes operation_no mark p) (λ x. []) (λ x. true) (λ x v. names (same_operation x mark)) (λ x v. refl) (λ x v. refl) l.operations (listed_there q l there) in
      block_edited (puts_before mark s) new b (λ xs. insert xs k p) edits (λ h. refl) (λ l. refl) (λ q l. refl)
      (λ l there. list b l there ∙ before_at same_operation operation_yes operation_no mark p l.operations k (listed_once b l there) (at_index b l k mark there linked.1.here))
      (λ q l ne there. list q l there ∙ before_none same_operation operation_yes operation_no mark p l.operations (elsewhere mark b q k l linked.1.here ne there))
      (λ h. (put_where new p s b _ edits ready_there (same_operation h.name mark), no_operations))
      (λ l. (no_operations, no_operations))

  pub put_after : (new : Program O B) (mark p : Ptr Operation) (s : ProgramTree O B) → IsLinkedOperation old mark → CanBePutAt old (OperationNode mark) p s → PutsOperationAfter old new mark p → TurnsInto old new (rewritten_root (puts_after mark s))
  put_after new mark p s linked ready puts =
      let b = linked.0 in let k = linked.1.index in
      let edits = puts b k linked.1.here in
      let ready_there : CanBePutAt old (BlockNode b) p s = record { stands = ready.stands; apart = λ i. ready.apart (in_block mark b linked.1 i) } in
      let names = put_roots new p s b _ edits ready_there in
      let list = λ (q : Ptr BasicBlock) (l : BlockView B) (there : block_at old q ≡ Some l). append-nil (operations_after old (puts_after mark s) l.operations) ∙ operations_placed (puts_after mark s) (λ x. []) (at_mark same_operation operation_yes operation_no mark p) (λ x. true) (λ x v. refl) (λ x v. names (same_operation x mark)) (λ x v. refl) l.operations (listed_there q l there) in
      block_edited (puts_after mark s) new b (λ xs. insert xs (k + 1) p) edits (λ h. refl) (λ l. refl) (λ q l. refl)
      (λ l there. list b l there ∙ after_at same_operation operation_yes operation_no mark p l.operations k (listed_once b l there) (at_index b l k mark there linked.1.here))
      (λ q l ne there. list q l there ∙ after_none same_operation operation_yes operation_no mark p l.operations (elsewhere mark b q k l linked.1.here ne there))
      (λ h. (no_operations, put_where new p s b _ edits ready_there (same_operation h.name mark)))
      (λ l. (no_operations, no_operations))

  pub put_first : (new : Program O B) (b : Ptr BasicBlock) (p : Ptr Operation) (s : ProgramTree O B) → CanBePutAt old (BlockNode b) p s → PutsOperationFirst old new b p → TurnsInto old new (rewritten_root (puts_first b s))
  put_first new b p s ready edits =
      let names = put_roots new p s b _ edits ready in
      let same_list = λ (q : Ptr BasicBlock) (l : BlockView B) (there : block_at old q ≡ Some l). append-nil (operations_after old (puts_first b s) l.operations) ∙ all_operations (puts_first b s) (λ x v. refl) (λ x v. refl) (λ x v. refl) q l there in
      let here : roots (cond (same_block b b) (list_of s) end) ≡ p ∷ [] = names (same_block b b) ∙ ap (λ t. cond t (p ∷ []) []) (block_yes b b refl) in
      let none = λ (q : Ptr BasicBlock) (ne : q ≢ b). names (same_block q b) ∙ ap (λ t. cond t (p ∷ []) []) (block_no q b ne) in
      block_edited (puts_first b s) new b (λ xs. p ∷ xs) edits (λ h. refl) (λ l. refl) (λ q l. refl)
      (λ l there. (λ i. here i ++ same_list b l there i))
      (λ q l ne there. (λ i. none q ne i ++ same_list q l there i))
      (λ h. (no_operations, no_operations))
      (λ l. (put_where new p s b _ edits ready (same_block l.name b), no_operations))

  pub put_last : (new : Program O B) (b : Ptr BasicBlock) (p : Ptr Operation) (s : ProgramTree O B) → CanBePutAt old (BlockNode b) p s → PutsOperationLast old new b p → TurnsInto old new (rewritten_root (puts_last b s))
  put_last new b p s ready edits =
      let names = put_roots new p s b _ edits ready in
      let same_list = all_operations (puts_last b s) (λ x v. refl) (λ x v. refl) (λ x v. refl) in
      let here : roots (cond (same_block b b) (list_of s) end) ≡ p ∷ [] = names (same_block b b) ∙ ap (λ t. cond t (p ∷ []) []) (block_yes b b refl) in
      let none = λ (q : Ptr BasicBlock) (ne : q ≢ b). names (same_block q b) ∙ ap (λ t. cond t (p ∷ []) []) (block_no q b ne) in
      block_edited (puts_last b s) new b (λ xs. xs ++ p ∷ []) edits (λ h. refl) (λ l. refl) (λ q l. refl)
      (λ l there. (λ i. same_list b l there i ++ here i))
      (λ q l ne there. (λ i. same_list q l there i ++ none q ne i) ∙ append-nil l.operations)
      (λ h. (no_operations, no_operations))
      (λ l. (no_operations, put_where new p s b _ edits ready (same_block l.name b)))

  pub taken_out : (new : Program O B) (p : Ptr Operation) → IsLinkedOperation old p → TakesOutOperation old new p → TurnsInto old new (rewritten_root (leaves_out p))
  taken_out new p linked takes =
      let b = linked.0 in let k = linked.1.index in
      let list = λ (q : Ptr BasicBlock) (l : BlockView B) (there : block_at old q ≡ Some l). append-nil (operations_after old (leaves_out p) l.operations) ∙ operations_placed (leaves_out p) (λ x. []) (λ x. []) (not_mark same_operation operation_yes operation_no p p) (λ x v. refl) (λ x v. refl) (λ x v. refl) l.operations (listed_there q l there) ∙ only_staying (not_mark same_operation operation_yes operation_no p p) l.operations in
      block_edited (leaves_out p) new b (λ xs. remove xs k) (takes b k linked.1.here) (λ h. refl) (λ l. refl) (λ q l. refl)
      (λ l there. list b l there ∙ out_at same_operation operation_yes operation_no p p l.operations k (listed_once b l there) (at_index b l k p there linked.1.here))
      (λ q l ne there. list q l there ∙ out_none same_operation operation_yes operation_no p p l.operations (elsewhere p b q k l linked.1.here ne there))
      (λ h. (no_operations, no_operations))
      (λ l. (no_operations, no_operations))

  -- what was taken out
  pub taken_stands : (new : Program O B) (p : Ptr Operation) (s : ProgramTree O B) → IsLinkedOperation old p → TakesOutOperation old new p → StandsFor old p s → StandsFor new p s
  taken_stands new p s linked takes stands =
      let b = linked.0 in
      let edits = takes b linked.1.index linked.1.here in
      unmoved_tree old new p (record {
        operations = λ q i. edits.operations q;
        blocks = λ q i. edits.others q (λ e. lists.apart p b linked.1 (subst (λ x. StandsInside old (OperationNode p) (BlockNode x)) e i));
        regions = λ r i. edits.regions r;
      }) s stands

  pub block_taken_out : (new : Program O B) (b : Ptr BasicBlock) → IsLinkedBlock old b → TakesOutBlock old new b → TurnsInto old new (rewritten_root (leaves_out_block b))
  block_taken_out new b linked takes op t =
      let r = linked.0 in let k = linked.1.index in
      let edits = takes r k linked.1.here in
      let list = λ (q : Ptr Region) (v : RegionView) (there : region_at old q ≡ Some v). blocks_staying (leaves_out_block b) (not_mark same_block block_yes block_no b b) (λ x l. refl) v.blocks (blocks_there q v there) in
      rewritten_tree old new op (leaves_out_block b) (record {
        operations = λ p v s there. (v, edits.operations p ∙ there, refl, refl);
        regions = λ q v s there. ⊎_elim
            (λ (same : q ≡ r).
            let here : region_at old r ≡ Some v = ap (region_at old) (sym same) ∙ there in (
              record v { blocks = remove v.blocks k },
              ap (region_at new) same ∙ edits.edited ∙ ap (option_map (λ (x : RegionView). record x { blocks = remove x.blocks k })) here,
              sym (list q v there ∙ out_at same_block block_yes block_no b b v.blocks k (blocks_listed_once q v there) (at_region_index r v k b here linked.1.here)),
            ))
            (λ (other : q ≢ r). (v, edits.others q other ∙ there, sym (list q v there ∙ out_none same_block block_yes block_no b b v.blocks (block_elsewhere b r q k v linked.1.here other there))))
            (same_or_not q r);
        blocks = λ q v s there. (v, edits.blocks q ∙ there, refl, sym (append-nil (operations_after old (leaves_out_block b) v.operations) ∙ all_operations (leaves_out_block b) (λ x u. refl) (λ x u. refl) (λ x u. refl) q v there));
        around = λ p v q l s e i there. (no_operations, no_operations);
        ends = λ q v s there. (no_operations, no_operations);
      }) t
