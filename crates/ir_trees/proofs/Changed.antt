-- Where what is inside an operation keeps what it holds, and has other heads and labels, the tree is the old one with these heads and labels.
use Rattle.std.proofs.Common.{◌≡◌, ◌≢◌, ◌⊎◌, inl, inr, ⊎_elim, ℕ, zero, suc, List, [], ◌∷◌, Option, Some, IsSome, slice_get, option_map, unwrap_or, refl, sym, ap, ◌∙◌, subst}
use Rattle.ir_program.specs.Program.{Program, OperationView, BlockView, RegionView, operation_at, block_at, region_at}
use Rattle.ir_program.specs.Edits.{EditsOperation, EditsBlock, EditsOperations}
use Rattle.ir_program.proofs.made.Alike.{key_or_not}
use Rattle.ir_program.proofs.made.Frames.{same_handle}
use Rattle.ir_program.specs.Lists.{StandsInside, itself, in_block, in_region, in_operation}
use Rattle.ir_program.specs.declared.handles.IRNode.TheVariants.{Operation as OperationNode, Region as RegionNode, BasicBlock as BlockNode}
use Rattle.ir_program.specs.declared.handles.Ptr.{Ptr}
use Rattle.ir_program.specs.declared.handles.Operation.{Operation}
use Rattle.ir_program.specs.declared.handles.Region.{Region}
use Rattle.ir_program.specs.declared.handles.BasicBlock.{BasicBlock}
use Rattle.ir_trees.specs.Trees.{Head, Label, Sort, Operations, Blocks, Regions, Tree, end, operation, block, region, Root}
use Rattle.ir_trees.specs.Stands.{by_handle, in_program, Handles, head_of, label_of, AreTree, no_operations, no_blocks, no_regions, first_operation, first_block, first_region, StandsFor}
use Rattle.ir_trees.specs.Rewrites.{changed, changed_root, ChangesInside, KeepsInside}

-- handles are the same or not
same_or_not : {E : Type 0} (p q : Ptr E) → (p ≡ q) ⊎ (p ≢ q)
same_or_not {E} p q = ⊎_elim (λ e. inl (same_handle p q e)) (λ ne. inr (λ h. ne (ap (λ (x : Ptr E). x.key) h))) (key_or_not p.key q.key)

is_there : {X : Type 0} (o : Option X) (x : X) → o ≡ Some x → IsSome o
is_there o x e = subst IsSome (sym e) refl

module _ {O B : Type 0} (old : Program O B) where
  operations_there : (ps : List (Ptr Operation)) (t : Tree by_handle (in_program O B) Operations) → AreTree old Operations ps t → (k : ℕ) (p : Ptr Operation) → slice_get ps k ≡ Some p → IsSome (operation_at old p)
  operations_there _ _ no_operations k p h = cc
  operations_there _ _ (first_operation q ps v rs rest there below behind) zero p h = let s : Some q ≡ Some p = h in let e : q ≡ p = cc in subst (λ x. IsSome (operation_at old x)) e (is_there (operation_at old q) v there)
  operations_there _ _ (first_operation q ps v rs rest there below behind) (suc k) p h = operations_there ps rest behind k p h

  blocks_there : (bs : List (Ptr BasicBlock)) (t : Tree by_handle (in_program O B) Blocks) → AreTree old Blocks bs t → (k : ℕ) (b : Ptr BasicBlock) → slice_get bs k ≡ Some b → IsSome (block_at old b)
  blocks_there _ _ no_blocks k p h = cc
  blocks_there _ _ (first_block q ps v rs rest there below behind) zero p h = let s : Some q ≡ Some p = h in let e : q ≡ p = cc in subst (λ x. IsSome (block_at old x)) e (is_there (block_at old q) v there)
  blocks_there _ _ (first_block q ps v rs rest there below behind) (suc k) p h = blocks_there ps rest behind k p h

  regions_there : (rs : List (Ptr Region)) (t : Tree by_handle (in_program O B) Regions) → AreTree old Regions rs t → (k : ℕ) (r : Ptr Region) → slice_get rs k ≡ Some r → IsSome (region_at old r)
  regions_there _ _ no_regions k p h = cc
  regions_there _ _ (first_region q ps v rs rest there below behind) zero p h = let s : Some q ≡ Some p = h in let e : q ≡ p = cc in subst (λ x. IsSome (region_at old x)) e (is_there (region_at old q) v there)
  regions_there _ _ (first_region q ps v rs rest there below behind) (suc k) p h = regions_there ps rest behind k p h

  module _ (new : Program O B) (op : Ptr Operation) (f : Head by_handle (in_program O B) → Head by_handle (in_program O B)) (g : Label by_handle (in_program O B) → Label by_handle (in_program O B)) (changes : ChangesInside old new op f g) where
    -- each of the list is inside
    abbrev AllInside : (s : Sort) → Handles s → Type 0
    AllInside Operations hs = (k : ℕ) (p : Ptr Operation) → slice_get hs k ≡ Some p → StandsInside old (OperationNode op) (OperationNode p)
    AllInside Blocks hs = (k : ℕ) (b : Ptr BasicBlock) → slice_get hs k ≡ Some b → StandsInside old (OperationNode op) (BlockNode b)
    AllInside Regions hs = (k : ℕ) (r : Ptr Region) → slice_get hs k ≡ Some r → StandsInside old (OperationNode op) (RegionNode r)

    in_it : (p : Ptr Operation) (v : OperationView O) (rs : Tree by_handle (in_program O B) Regions) → operation_at old p ≡ Some v → AreTree old Regions v.regions rs → StandsInside old (OperationNode op) (OperationNode p) → AllInside Regions v.regions
    in_it p v rs there below inside k r h = in_operation r p (record { region = regions_there v.regions rs below k r h; operation = is_there (operation_at old p) v there; index = k; here = ap (λ o. slice_get (unwrap_or (option_map (λ (x : OperationView O). x.regions) o) []) k) there ∙ h }) inside

    in_place : (s : Sort) (hs : Handles s) (t : Tree by_handle (in_program O B) s) → AreTree old s hs t → AllInside s hs → AreTree new s hs (changed f g t)
    in_place _ _ _ no_operations inside = no_operations
    in_place _ _ _ no_blocks inside = no_blocks
    in_place _ _ _ no_regions inside = no_regions
    in_place _ _ _ (first_operation p ps v rs rest there below behind) inside =
        let here = inside zero p refl in
        let u = changes.operations p v here there in
        let inner = in_place Regions v.regions rs below (in_it p v rs there below here) in
        subst (λ h. AreTree new Operations (p ∷ ps) (operation h (changed f g rs) (changed f g rest))) u.2
        (first_operation p ps u.0 (changed f g rs) (changed f g rest) u.1 (subst (λ l. AreTree new Regions l (changed f g rs)) (sym u.3) inner) (in_place Operations ps rest behind (λ k q h. inside (suc k) q h)))
    in_place _ _ _ (first_block b bs v ops rest there below behind) inside =
        let here = inside zero b refl in
        let u = changes.blocks b v here there in
        let inner = in_place Operations v.operations ops below (λ k p h. in_block p b (record { operation = operations_there v.operations ops below k p h; block = is_there (block_at old b) v there; index = k; here = ap (λ o. slice_get (unwrap_or (option_map (λ (x : BlockView B). x.operations) o) []) k) there ∙ h }) here) in
        subst (λ l. AreTree new Blocks (b ∷ bs) (block l (changed f g ops) (changed f g rest))) u.2
        (first_block b bs u.0 (changed f g ops) (changed f g rest) u.1 (subst (λ l. AreTree new Operations l (changed f g ops)) (sym u.3) inner) (in_place Blocks bs rest behind (λ k q h. inside (suc k) q h)))
    in_place _ _ _ (first_region r rs v bs rest there below behind) inside =
        let here = inside zero r refl in
        first_region r rs v (changed f g bs) (changed f g rest) (changes.regions r here ∙ there)
        (in_place Blocks v.blocks bs below (λ k b h. in_region b r (record { block = blocks_there v.blocks bs below k b h; region = is_there (region_at old r) v there; index = k; here = ap (λ o. slice_get (unwrap_or (option_map (λ (x : RegionView). x.blocks) o) []) k) there ∙ h }) here))
        (in_place Regions rs rest behind (λ k q h. inside (suc k) q h))

    pub changed_tree : (t : Root by_handle (in_program O B)) → StandsFor old op t → StandsFor new op (changed_root f g t)
    changed_tree t h =
        let u = changes.operations op h.view itself h.there in
        let inner = in_place Regions h.view.regions t.regions h.regions (in_it op h.view t.regions h.there h.regions itself) in
        record { view = u.0; there = u.1; head = ap f h.head ∙ sym u.2; regions = subst (λ l. AreTree new Regions l (changed f g t.regions)) (sym u.3) inner }

module _ {O B : Type 0} where
  -- a tree with its own heads and labels
  own : {s : Sort} (t : Tree by_handle (in_program O B) s) → changed (λ h. h) (λ l. l) t ≡ t
  own end = refl
  own (operation h rs rest) = λ i. operation h (own rs i) (own rest i)
  own (block l ops rest) = λ i. block l (own ops i) (own rest i)
  own (region bs rest) = λ i. region (own bs i) (own rest i)

  own_root : (t : Root by_handle (in_program O B)) → changed_root (λ h. h) (λ l. l) t ≡ t
  own_root t = λ i. record { head = t.head; regions = own t.regions i }

  pub unmoved_tree : (old new : Program O B) (op : Ptr Operation) → KeepsInside old new op → (t : Root by_handle (in_program O B)) → StandsFor old op t → StandsFor new op t
  unmoved_tree old new op keeps t stands = subst (StandsFor new op) (own_root t)
      (changed_tree old new op (λ h. h) (λ l. l) (record {
        operations = λ p v inside there. (v, keeps.operations p inside ∙ there, refl, refl);
        blocks = λ b v inside there. (v, keeps.blocks b inside ∙ there, refl, refl);
        regions = keeps.regions;
      }) t stands)

  -- where each operation is edited and holds what it held
  pub edited_tree : (old new : Program O B) (op : Ptr Operation) (edit : Ptr Operation → OperationView O → OperationView O) (f : Head by_handle (in_program O B) → Head by_handle (in_program O B))
      → EditsOperations old new edit → ((p : Ptr Operation) (v : OperationView O) → (head_of p (edit p v) ≡ f (head_of p v)) × ((edit p v).regions ≡ v.regions))
      → (t : Root by_handle (in_program O B)) → StandsFor old op t → StandsFor new op (changed_root f (λ l. l) t)
  edited_tree old new op edit f edits says t stands = changed_tree old new op f (λ l. l) (record {
    operations = λ p v inside there. (edit p v, edits.edited p ∙ ap (option_map (edit p)) there, (says p v).0, (says p v).1);
    blocks = λ b v inside there. (v, edits.blocks b ∙ there, refl, refl);
    regions = λ r inside. edits.regions r;
  }) t stands

  -- where one operation is edited and holds what it held
  pub one_edited_tree : (old new : Program O B) (op p : Ptr Operation) (edit : OperationView O → OperationView O) (f : Head by_handle (in_program O B) → Head by_handle (in_program O B))
      → EditsOperation old new p edit → ((v : OperationView O) → (head_of p (edit v) ≡ f (head_of p v)) × ((edit v).regions ≡ v.regions)) → ((h : Head by_handle (in_program O B)) → h.name ≢ p → f h ≡ h)
      → (t : Root by_handle (in_program O B)) → StandsFor old op t → StandsFor new op (changed_root f (λ l. l) t)
  one_edited_tree old new op p edit f edits says others t stands = changed_tree old new op f (λ l. l) (record {
    operations = λ q v inside there. ⊎_elim
        (λ (same : q ≡ p). (
          edit v,
          ap (operation_at new) same ∙ edits.edited ∙ ap (option_map edit) (ap (operation_at old) (sym same) ∙ there),
          ap (λ x. head_of x (edit v)) same ∙ (says v).0 ∙ ap (λ x. f (head_of x v)) (sym same),
          (says v).1,
        ))
        (λ (other : q ≢ p). (v, edits.others q other ∙ there, sym (others (head_of q v) other), refl))
        (same_or_not q p);
    blocks = λ b v inside there. (v, edits.blocks b ∙ there, refl, refl);
    regions = λ r inside. edits.regions r;
  }) t stands

  -- where one block is edited and holds what it held
  pub one_block_edited_tree : (old new : Program O B) (op : Ptr Operation) (b : Ptr BasicBlock) (edit : BlockView B → BlockView B) (g : Label by_handle (in_program O B) → Label by_handle (in_program O B))
      → EditsBlock old new b edit → ((v : BlockView B) → (label_of b (edit v) ≡ g (label_of b v)) × ((edit v).operations ≡ v.operations)) → ((l : Label by_handle (in_program O B)) → l.name ≢ b → g l ≡ l)
      → (t : Root by_handle (in_program O B)) → StandsFor old op t → StandsFor new op (changed_root (λ h. h) g t)
  one_block_edited_tree old new op b edit g edits says others t stands = changed_tree old new op (λ h. h) g (record {
    operations = λ q v inside there. (v, edits.operations q ∙ there, refl, refl);
    blocks = λ q v inside there. ⊎_elim
        (λ (same : q ≡ b). (
          edit v,
          ap (block_at new) same ∙ edits.edited ∙ ap (option_map edit) (ap (block_at old) (sym same) ∙ there),
          ap (λ x. label_of x (edit v)) same ∙ (says v).0 ∙ ap (λ x. g (label_of x v)) (sym same),
          (says v).1,
        ))
        (λ (other : q ≢ b). (v, edits.others q other ∙ there, sym (others (label_of q v) other), refl))
        (same_or_not q b);
    regions = λ r inside. edits.regions r;
  }) t stands
