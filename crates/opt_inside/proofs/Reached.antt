-- All that stands inside the root is found in its tree, once.
use Rattle.std.proofs.Common.{◌≡◌, ◌⊎◌, inl, inr, ⊎_elim, ℕ, List, [], ◌∷◌, ◌++◌, map, Some, slice_get, refl, sym, ap, ◌∙◌, subst}
use Rattle.std.proofs.lemmas.List.{map-append}
use Rattle.ir_program.specs.Program.{Program, OperationView, RegionView, operation_at, region_at}
use Rattle.ir_program.specs.Lists.{operations_in, StandsInside, StandsInRegion, itself, in_block, in_region, in_operation}
use Rattle.ir_program.specs.declared.handles.IRNode.{IRNode}
use Rattle.ir_program.specs.declared.handles.IRNode.TheVariants.{Operation as OperationNode, Region as RegionNode, BasicBlock as BlockNode}
use Rattle.ir_program.specs.declared.handles.Ptr.{Ptr}
use Rattle.ir_program.specs.declared.handles.Operation.{Operation}
use Rattle.ir_program.specs.declared.handles.Region.{Region}
use Rattle.ir_program.specs.declared.handles.BasicBlock.{BasicBlock}
use Rattle.ir_trees.specs.Names.{Names, Contents}
use Rattle.ir_trees.specs.Places.{AnOperation}
use Rattle.ir_trees.specs.Searched.{AreDistinct, heads_in, labels_in, operation_names, block_names}
use Rattle.ir_trees.specs.Trees.{Head, Label, Sort, Operations, Blocks, Regions, Tree, end, operation, block, region, Root}
use Rattle.ir_trees.specs.Stands.{by_handle, in_program, ProgramTree, head_of, AreTree, StandsFor}
use Rattle.ir_trees.proofs.Members.{Once, once_of, has_map}
use Rattle.opt_trees.specs.Occurrences.{Has, Spot, Inside, Occurrence, BlockOccurrence, inner, next_block, next_region, at_root, occurrences_in, block_occurrences_in, occurrences_of, block_occurrences_of}
use Rattle.opt_inside.specs.Occurring.{Found, FoundBlock, AreBeside, IsFoundIn, SiteIsFound, IsBelowRoot, IsBlockBelow}
use Rattle.opt_inside.proofs.Closed.{blocks_below, operations_of_block, operation_of, block_of, region_of}
use Rattle.opt_inside.proofs.Around.{HasLists, around_operation, around_block}
use Rattle.opt_inside.proofs.Spots.{operations_are, blocks_are, regions_are}
use Rattle.opt_inside.proofs.Walked.{sound, blocks_sound}

-- what is told apart by its name
one_of : {X Y : Type 0} (f : X → Y) (xs : List X) → Once (map f xs) → (x y : X) → Has x xs → Has y xs → f x ≡ f y → x ≡ y
one_of f [] once x y hx hy same = absurd hx
one_of f (z ∷ xs) once x y hx hy same = ⊎_elim
    (λ a. ⊎_elim
    (λ b. a ∙ sym b)
    (λ b. absurd (once.0 (subst (λ n. Has n (map f xs)) (sym same ∙ ap f a) (has_map f xs y b))))
    hy)
    (λ a. ⊎_elim
    (λ b. absurd (once.0 (subst (λ n. Has n (map f xs)) (same ∙ ap f b) (has_map f xs x a))))
    (λ b. one_of f xs once.1 x y a b same)
    hy)
    hx

module _ {N : Names} {S : Contents} where
  abbrev name_of : Occurrence N S → N.operation
  name_of o = o.head.name

  abbrev block_name_of : BlockOccurrence N S → N.block
  block_name_of x = x.label.name

  abbrev head_name : Head N S → N.operation
  head_name h = h.name

  abbrev label_name : Label N S → N.block
  label_name l = l.name

  names_found : (s : Sort) (t : Tree N S s) (i : Inside N S s) → map name_of (occurrences_in t i) ≡ map head_name (heads_in t)
  names_found _ end i = refl
  names_found _ (operation h rs rest) i =
      let a = names_found Regions rs (inner h i) in
      let b = names_found Operations rest i in
      ap (λ l. h.name ∷ l) (map-append name_of (occurrences_in rs (inner h i)) (occurrences_in rest i) ∙ (λ k. a k ++ b k) ∙ sym (map-append head_name (heads_in rs) (heads_in rest)))
  names_found _ (block l ops rest) i =
      let a = names_found Operations ops (record { spot = i; label = l }) in
      let b = names_found Blocks rest (next_block i) in
      map-append name_of (occurrences_in ops (record { spot = i; label = l })) (occurrences_in rest (next_block i)) ∙ (λ k. a k ++ b k) ∙ sym (map-append head_name (heads_in ops) (heads_in rest))
  names_found _ (region bs rest) i =
      let a = names_found Blocks bs i in
      let b = names_found Regions rest (next_region i) in
      map-append name_of (occurrences_in bs i) (occurrences_in rest (next_region i)) ∙ (λ k. a k ++ b k) ∙ sym (map-append head_name (heads_in bs) (heads_in rest))

  block_names_found : (s : Sort) (t : Tree N S s) (i : Inside N S s) → map block_name_of (block_occurrences_in t i) ≡ map label_name (labels_in t)
  block_names_found _ end i = refl
  block_names_found _ (operation h rs rest) i =
      let a = block_names_found Regions rs (inner h i) in
      let b = block_names_found Operations rest i in
      map-append block_name_of (block_occurrences_in rs (inner h i)) (block_occurrences_in rest i) ∙ (λ k. a k ++ b k) ∙ sym (map-append label_name (labels_in rs) (labels_in rest))
  block_names_found _ (block l ops rest) i =
      let a = block_names_found Operations ops (record { spot = i; label = l }) in
      let b = block_names_found Blocks rest (next_block i) in
      ap (λ xs. l.name ∷ xs) (map-append block_name_of (block_occurrences_in ops (record { spot = i; label = l })) (block_occurrences_in rest (next_block i)) ∙ (λ k. a k ++ b k) ∙ sym (map-append label_name (labels_in ops) (labels_in rest)))
  block_names_found _ (region bs rest) i =
      let a = block_names_found Blocks bs i in
      let b = block_names_found Regions rest (next_region i) in
      map-append block_name_of (block_occurrences_in bs i) (block_occurrences_in rest (next_region i)) ∙ (λ k. a k ++ b k) ∙ sym (map-append label_name (labels_in bs) (labels_in rest))

  -- an operation or a block is found once
  pub one : (t : Root N S) → AreDistinct (operation_names t) → (o q : Occurrence N S) → Has o (occurrences_of t) → Has q (occurrences_of t) → o.head.name ≡ q.head.name → o ≡ q
  one t distinct o q = one_of name_of (occurrences_of t) (subst Once (sym (names_found Regions t.regions (at_root t))) (once_of (operation_names t) distinct).1) o q

  pub blocks_one : (t : Root N S) → AreDistinct (block_names t) → (x y : BlockOccurrence N S) → Has x (block_occurrences_of t) → Has y (block_occurrences_of t) → x.label.name ≡ y.label.name → x ≡ y
  blocks_one t distinct x y = one_of block_name_of (block_occurrences_of t) (subst Once (sym (block_names_found Regions t.regions (at_root t))) (once_of (block_names t) distinct)) x y

  together : (a b d : Spot N S) → AreBeside a d → AreBeside b d → AreBeside a b
  together a b d f g = record { owner = f.owner ∙ sym g.owner; region = f.region ∙ sym g.region; around = f.around ∙ sym g.around; within = f.within ∙ sym g.within }

module _ {O B : Type 0} (c : Program O B) (op : Ptr Operation) (lists : HasLists c) (t : ProgramTree O B) (stands : StandsFor c op t) where
  -- an operation that is the root or is found, with what is found in its regions
  record MeetsOperation (p : Ptr Operation) : Type 0 where
    view : OperationView O
    there : operation_at c p ≡ Some view
    regions : Tree by_handle (in_program O B) Regions
    tree : AreTree c Regions view.regions regions
    at : Spot by_handle (in_program O B)
    all : (x : FoundBlock O B) → Has x (block_occurrences_in regions at) → Has x (block_occurrences_of t)
    which : (p ≡ op) ⊎ ((o : Found O B) × Has o (occurrences_of t) × (o.head.name ≡ p))

  -- a region of such an operation, with what is found in it
  record MeetsRegion (r : Ptr Region) : Type 0 where
    view : RegionView
    there : region_at c r ≡ Some view
    blocks : Tree by_handle (in_program O B) Blocks
    tree : AreTree c Blocks view.blocks blocks
    at : Spot by_handle (in_program O B)
    all : (x : FoundBlock O B) → Has x (block_occurrences_in blocks at) → Has x (block_occurrences_of t)

  abbrev Meets : IRNode → Type 0
  Meets (OperationNode p) = MeetsOperation p
  Meets (RegionNode r) = MeetsRegion r
  Meets (BlockNode b) = (x : FoundBlock O B) × Has x (block_occurrences_of t) × (x.label.name ≡ b)

  -- the operation of a block that is found, by its index
  pub found_in_block : (x : FoundBlock O B) → Has x (block_occurrences_of t) → (k : ℕ) (p : Ptr Operation) → slice_get (operations_in c x.label.name) k ≡ Some p
      → IsFoundIn t x k p
  found_in_block x has k p at =
      let i = blocks_sound c op lists t stands x has in
      let h = operation_of c i.view.operations x.operations (record { spot = x.spot; label = x.label }) i.operations k p (ap (λ l. slice_get l k) (sym (operations_are c x.label.name i.view i.there)) ∙ at) in
      let o : Found O B = record { site = record { spot = x.spot; label = x.label }; head = head_of p h.view; regions = h.regions } in
      record { operation = o; found = operations_of_block Regions t.regions (at_root t) x has o h.has; named = refl; site = refl; there = h.reach }

  meets : (e : IRNode) → StandsInside c (OperationNode op) e → Meets e
  meets _ itself = record { view = stands.view; there = stands.there; regions = t.regions; tree = stands.regions; at = at_root t; all = λ x h. h; which = inl refl }
  meets _ (in_block p b s w) =
      let m = meets (BlockNode b) w in
      let o = found_in_block m.0 m.1 s.index p (ap (λ z. slice_get (operations_in c z) s.index) m.2 ∙ s.here) in
      let i = sound c op lists t stands o.operation o.found in
      record {
        view = i.view;
        there = subst (λ z. operation_at c z ≡ Some i.view) o.named i.there;
        regions = o.operation.regions;
        tree = i.regions;
        at = inner o.operation.head o.operation.site;
        all = blocks_below Regions t.regions (at_root t) o.operation o.found;
        which = inr (o.operation, o.found, o.named);
      }
  meets _ (in_region b r s w) =
      let m = meets (RegionNode r) w in
      let h = block_of c m.view.blocks m.blocks m.at m.tree s.index b (ap (λ l. slice_get l s.index) (sym (blocks_are c r m.view m.there)) ∙ s.here) in
      (h.found, m.all h.found h.has, h.named)
  meets _ (in_operation r p s w) =
      let m = meets (OperationNode p) w in
      let h = region_of c m.view.regions m.regions m.at m.tree s.index r (ap (λ l. slice_get l s.index) (sym (regions_are c p m.view m.there)) ∙ s.here) in
      record { view = h.view; there = h.there; blocks = h.blocks; tree = h.tree; at = h.at; all = λ x g. m.all x (h.all x g) }

  pub found : (p : Ptr Operation) → IsBelowRoot c op p → (o : Found O B) × Has o (occurrences_of t) × (o.head.name ≡ p)
  found p below = let m = meets (OperationNode p) below.inside in ⊎_elim (λ e. absurd (below.other e)) (λ h. h) m.which

  pub blocks_found : (b : Ptr BasicBlock) → IsBlockBelow c op b → (x : FoundBlock O B) × Has x (block_occurrences_of t) × (x.label.name ≡ b)
  blocks_found b below = meets (BlockNode b) below

  sited : (o : Found O B) (x : FoundBlock O B) (k : ℕ) (p : Ptr Operation) → Has x (block_occurrences_of t) → (q : IsFoundIn t x k p) → q.operation ≡ o → slice_get (operations_in c o.site.label.name) k ≡ Some o.head.name → SiteIsFound c t o
  sited o x k p has q same here =
      let site : o.site ≡ record { spot = x.spot; label = x.label } = ap (λ (z : Found O B). z.site) (sym same) ∙ q.site in
      record {
        block = x;
        found = has;
        label = λ j. (sym site j).label;
        spot = λ j. (sym site j).spot;
        index = k;
        here = here;
        there = q.there ∙ ap (λ (z : Found O B). Some (AnOperation (record { head = z.head; regions = z.regions }))) same;
      }

  module _ (distinct : AreDistinct (operation_names t)) (blocks_distinct : AreDistinct (block_names t)) where
    pub site : (o : Found O B) → Has o (occurrences_of t) → SiteIsFound c t o
    site o has =
        let i = sound c op lists t stands o has in
        let b = o.site.label.name in
        let below : IsBlockBelow c op b = ⊎_elim
        (λ (e : OperationNode op ≡ OperationNode o.head.name). let same : o.head.name ≡ op = cc in absurd (i.below.other same))
        (λ w. w)
        (around_operation c lists (OperationNode op) o.head.name b i.in_block i.below.inside) in
        let x = blocks_found b below in
        let at : slice_get (operations_in c x.0.label.name) i.in_block.index ≡ Some o.head.name = ap (λ z. slice_get (operations_in c z) i.in_block.index) x.2 ∙ i.in_block.here in
        let q = found_in_block x.0 x.1 i.in_block.index o.head.name at in
        sited o x.0 i.in_block.index o.head.name x.1 q (one t distinct q.operation o q.found has q.named) i.in_block.here

    -- a block that is found is where its region says
    of_region : (x : FoundBlock O B) → Has x (block_occurrences_of t) → (r : Ptr Region) → StandsInRegion c x.label.name r → (m : MeetsRegion r) → AreBeside x.spot m.at
    of_region x has r s m =
        let h = block_of c m.view.blocks m.blocks m.at m.tree s.index x.label.name (ap (λ l. slice_get l s.index) (sym (blocks_are c r m.view m.there)) ∙ s.here) in
        subst (λ (z : FoundBlock O B). AreBeside z.spot m.at) (blocks_one t blocks_distinct h.found x (m.all h.found h.has) has h.named) h.spot

    pub beside : (x y : FoundBlock O B) → Has x (block_occurrences_of t) → Has y (block_occurrences_of t) → (r : Ptr Region) → StandsInRegion c x.label.name r → StandsInRegion c y.label.name r → AreBeside x.spot y.spot
    beside x y hx hy r sx sy =
        let i = blocks_sound c op lists t stands x hx in
        let w : StandsInside c (OperationNode op) (RegionNode r) = ⊎_elim
        (λ (e : OperationNode op ≡ BlockNode x.label.name). cc)
        (λ up. up)
        (around_block c lists (OperationNode op) x.label.name r sx i.below) in
        let m : MeetsRegion r = meets (RegionNode r) w in
        together x.spot y.spot m.at (of_region x hx r sx m) (of_region y hy r sy m)
