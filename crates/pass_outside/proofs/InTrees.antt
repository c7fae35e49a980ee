-- What is in the tree of an operation is inside the operation, and what is inside it is in its tree.
use Rattle.std.proofs.Common.{◌≡◌, ◌≢◌, ◌⊎◌, inl, inr, ⊎_elim, ℕ, zero, suc, List, [], ◌∷◌, ◌++◌, Option, Some, IsSome}
use Rattle.std.proofs.Common.{option_map, unwrap_or, slice_get, refl, sym, ap, ◌∙◌, subst}
use Rattle.ir_program.specs.Lists.{StandsInBlock, StandsInside, itself, in_block, in_region, in_operation}
use Rattle.ir_program.specs.Program.{Program, OperationView, BlockView, RegionView, operation_at, block_at, region_at}
use Rattle.ir_program.specs.declared.handles.BasicBlock.{BasicBlock}
use Rattle.ir_program.specs.declared.handles.IRNode.{IRNode}
use Rattle.ir_program.specs.declared.handles.IRNode.TheVariants.{Operation as OperationNode, Region as RegionNode}
use Rattle.ir_program.specs.declared.handles.IRNode.TheVariants.{BasicBlock as BlockNode}
use Rattle.ir_program.specs.declared.handles.Operation.{Operation}
use Rattle.ir_program.specs.declared.handles.Ptr.{Ptr}
use Rattle.ir_program.specs.declared.handles.Region.{Region}
use Rattle.ir_program.specs.declared.handles.Value.{Value}
use Rattle.ir_trees.specs.Names.{Names, Contents}
use Rattle.ir_trees.specs.Renames.{names_of}
use Rattle.ir_trees.specs.Stands.{by_handle, in_program, Handles, ProgramTree, head_of, label_of, AreTree, StandsFor}
use Rattle.ir_trees.specs.Stands.{no_operations, no_blocks, no_regions, first_operation, first_block, first_region}
use Rattle.ir_trees.specs.Trees.{Head, Label, Sort, Operations, Blocks, Regions, Tree, end, operation, block, region}
use Rattle.opt_inside.specs.Occurring.{IsDefinedBelow}
use Rattle.opt_trees.specs.Occurrences.{Has, defined_in}
use Rattle.opt_trees.proofs.NoneDead.{has-left, has-right}

-- ---- of trees

module _ {N : Names} {S : Contents} where
  -- the operation, or the block, is in the part of a tree
  abbrev pub HasOperation : {s : Sort} → Tree N S s → N.operation → Type 0
  HasOperation end p = ⊥
  HasOperation (operation h rs rest) p = (p ≡ h.name) ⊎ (HasOperation rs p ⊎ HasOperation rest p)
  HasOperation (block l os rest) p = HasOperation os p ⊎ HasOperation rest p
  HasOperation (region bs rest) p = HasOperation bs p ⊎ HasOperation rest p

  abbrev pub HasBlock : {s : Sort} → Tree N S s → N.block → Type 0
  HasBlock end b = ⊥
  HasBlock (operation h rs rest) b = HasBlock rs b ⊎ HasBlock rest b
  HasBlock (block l os rest) b = (b ≡ l.name) ⊎ (HasBlock os b ⊎ HasBlock rest b)
  HasBlock (region bs rest) b = HasBlock bs b ⊎ HasBlock rest b

  -- the second part has what the first has
  pub record Includes {s r : Sort} (x : Tree N S s) (y : Tree N S r) : Type 0 where
    pub operations : (p : N.operation) → HasOperation x p → HasOperation y p
    pub blocks : (b : N.block) → HasBlock x b → HasBlock y b
    pub values : (v : N.value) → Has v (defined_in x) → Has v (defined_in y)

  pub includes_all : {s : Sort} (x : Tree N S s) → Includes x x
  includes_all x = record { operations = λ p i. i; blocks = λ b i. i; values = λ v i. i }

  pub includes_both : {s r q : Sort} (x : Tree N S s) (y : Tree N S r) (z : Tree N S q) → Includes x y → Includes y z
      → Includes x z
  includes_both x y z f g = record {
    operations = λ p i. g.operations p (f.operations p i);
    blocks = λ b i. g.blocks b (f.blocks b i);
    values = λ v i. g.values v (f.values v i);
  }

  module _ (h : Head N S) (rs : Tree N S Regions) (rest : Tree N S Operations) where
    pub has_regions : Includes rs (operation h rs rest)
    has_regions = record {
      operations = λ p i. inr (inl i);
      blocks = λ b i. inl i;
      values = λ v i. has-right v (names_of h.results) (defined_in rs ++ defined_in rest)
          (has-left v (defined_in rs) (defined_in rest) i);
    }

    pub has_operations : Includes rest (operation h rs rest)
    has_operations = record {
      operations = λ p i. inr (inr i);
      blocks = λ b i. inr i;
      values = λ v i. has-right v (names_of h.results) (defined_in rs ++ defined_in rest)
          (has-right v (defined_in rs) (defined_in rest) i);
    }

  module _ (l : Label N S) (os : Tree N S Operations) (rest : Tree N S Blocks) where
    pub has_body : Includes os (block l os rest)
    has_body = record {
      operations = λ p i. inl i;
      blocks = λ b i. inr (inl i);
      values = λ v i. has-right v (names_of l.arguments) (defined_in os ++ defined_in rest)
          (has-left v (defined_in os) (defined_in rest) i);
    }

    pub has_later : Includes rest (block l os rest)
    has_later = record {
      operations = λ p i. inr i;
      blocks = λ b i. inr (inr i);
      values = λ v i. has-right v (names_of l.arguments) (defined_in os ++ defined_in rest)
          (has-right v (defined_in os) (defined_in rest) i);
    }

  module _ (bs : Tree N S Blocks) (rest : Tree N S Regions) where
    pub has_blocks : Includes bs (region bs rest)
    has_blocks = record {
      operations = λ p i. inl i;
      blocks = λ b i. inl i;
      values = λ v i. has-left v (defined_in bs) (defined_in rest) i;
    }

    pub has_next : Includes rest (region bs rest)
    has_next = record {
      operations = λ p i. inr i;
      blocks = λ b i. inr i;
      values = λ v i. has-right v (defined_in bs) (defined_in rest) i;
    }

-- an operation is in the part or isn't, where operations are told apart
pub has_or_not : {N : Names} {S : Contents} {s : Sort} (x : Tree N S s) (p : N.operation)
    → ((q : N.operation) → (p ≡ q) ⊎ (p ≢ q)) → HasOperation x p ⊎ (HasOperation x p → ⊥)
has_or_not end p same = inr (λ h. h)
has_or_not (operation h rs rest) p same = ⊎_elim
    (λ (e : p ≡ h.name). inl (inl e))
    (λ (other : p ≢ h.name). ⊎_elim
    (λ i. inl (inr (inl i)))
    (λ none. ⊎_elim
    (λ i. inl (inr (inr i)))
    (λ no_more. inr (λ i. ⊎_elim other (λ j. ⊎_elim none no_more j) i))
    (has_or_not rest p same))
    (has_or_not rs p same))
    (same h.name)
has_or_not (block l os rest) p same = ⊎_elim
    (λ i. inl (inl i))
    (λ none. ⊎_elim
    (λ i. inl (inr i))
    (λ no_more. inr (λ i. ⊎_elim none no_more i))
    (has_or_not rest p same))
    (has_or_not os p same)
has_or_not (region bs rest) p same = ⊎_elim
    (λ i. inl (inl i))
    (λ none. ⊎_elim
    (λ i. inl (inr i))
    (λ no_more. inr (λ i. ⊎_elim none no_more i))
    (has_or_not rest p same))
    (has_or_not bs p same)

pub same_some : {X : Type 0} (o : Option X) (x y : X) → o ≡ Some x → o ≡ Some y → x ≡ y
same_some o x y h g = let e : Some x ≡ Some y = sym h ∙ g in cc

-- ---- of programs

module _ {O B : Type 0} (c : Program O B) where
  -- the operation, the block or the region leads to something that is in the part
  pub record OperationIn {s : Sort} (y : Tree by_handle (in_program O B) s) (p : Ptr Operation) : Type 0 where
    pub view : OperationView O
    pub there : operation_at c p ≡ Some view
    pub regions : Tree by_handle (in_program O B) Regions
    pub tree : AreTree c Regions view.regions regions
    pub inner : Includes regions y
    pub has : HasOperation y p
    pub results : (v : Value) → Has v (names_of (head_of {B = B} p view).results) → Has v (defined_in y)

  pub record BlockIn {s : Sort} (y : Tree by_handle (in_program O B) s) (b : Ptr BasicBlock) : Type 0 where
    pub view : BlockView B
    pub there : block_at c b ≡ Some view
    pub operations : Tree by_handle (in_program O B) Operations
    pub tree : AreTree c Operations view.operations operations
    pub inner : Includes operations y
    pub has : HasBlock y b
    pub arguments : (v : Value) → Has v (names_of (label_of {O = O} b view).arguments) → Has v (defined_in y)

  pub record RegionIn {s : Sort} (y : Tree by_handle (in_program O B) s) (r : Ptr Region) : Type 0 where
    pub view : RegionView
    pub there : region_at c r ≡ Some view
    pub blocks : Tree by_handle (in_program O B) Blocks
    pub tree : AreTree c Blocks view.blocks blocks
    pub inner : Includes blocks y

  module _ {s r : Sort} (x : Tree by_handle (in_program O B) s) (y : Tree by_handle (in_program O B) r)
      (more : Includes x y) where
    operation_more : (p : Ptr Operation) → OperationIn x p → OperationIn y p
    operation_more p i = record {
      view = i.view;
      there = i.there;
      regions = i.regions;
      tree = i.tree;
      inner = includes_both i.regions x y i.inner more;
      has = more.operations p i.has;
      results = λ v h. more.values v (i.results v h);
    }

    block_more : (b : Ptr BasicBlock) → BlockIn x b → BlockIn y b
    block_more b i = record {
      view = i.view;
      there = i.there;
      operations = i.operations;
      tree = i.tree;
      inner = includes_both i.operations x y i.inner more;
      has = more.blocks b i.has;
      arguments = λ v h. more.values v (i.arguments v h);
    }

    region_more : (p : Ptr Region) → RegionIn x p → RegionIn y p
    region_more p i = record {
      view = i.view;
      there = i.there;
      blocks = i.blocks;
      tree = i.tree;
      inner = includes_both i.blocks x y i.inner more;
    }

  -- what is listed is in the tree of the list
  operation_of : (ps : List (Ptr Operation)) (os : Tree by_handle (in_program O B) Operations)
      → AreTree c Operations ps os → (k : ℕ) (p : Ptr Operation) → slice_get ps k ≡ Some p → OperationIn os p
  operation_of _ _ no_operations k p at = cc
  operation_of _ _ (first_operation q ps v rs rest there below behind) zero p at =
      let same : q ≡ p = cc in
      subst (OperationIn (operation (head_of q v) rs rest)) same (record {
        view = v;
        there = there;
        regions = rs;
        tree = below;
        inner = has_regions (head_of q v) rs rest;
        has = inl refl;
        results = λ x h. has-left x (names_of (head_of {B = B} q v).results) (defined_in rs ++ defined_in rest) h;
      })
  operation_of _ _ (first_operation q ps v rs rest there below behind) (suc k) p at =
      operation_more rest (operation (head_of q v) rs rest) (has_operations (head_of q v) rs rest) p
      (operation_of ps rest behind k p at)

  block_of : (ds : List (Ptr BasicBlock)) (bs : Tree by_handle (in_program O B) Blocks) → AreTree c Blocks ds bs
      → (k : ℕ) (b : Ptr BasicBlock) → slice_get ds k ≡ Some b → BlockIn bs b
  block_of _ _ no_blocks k b at = cc
  block_of _ _ (first_block q ds v os rest there below behind) zero b at =
      let same : q ≡ b = cc in
      subst (BlockIn (block (label_of q v) os rest)) same (record {
        view = v;
        there = there;
        operations = os;
        tree = below;
        inner = has_body (label_of q v) os rest;
        has = inl refl;
        arguments = λ x h. has-left x (names_of (label_of {O = O} q v).arguments) (defined_in os ++ defined_in rest) h;
      })
  block_of _ _ (first_block q ds v os rest there below behind) (suc k) b at =
      block_more rest (block (label_of q v) os rest) (has_later (label_of q v) os rest) b
      (block_of ds rest behind k b at)

  region_of : (rs : List (Ptr Region)) (x : Tree by_handle (in_program O B) Regions) → AreTree c Regions rs x
      → (k : ℕ) (r : Ptr Region) → slice_get rs k ≡ Some r → RegionIn x r
  region_of _ _ no_regions k r at = cc
  region_of _ _ (first_region q rs v bs rest there below behind) zero r at =
      let same : q ≡ r = cc in
      subst (RegionIn (region bs rest)) same
      (record { view = v; there = there; blocks = bs; tree = below; inner = has_blocks bs rest })
  region_of _ _ (first_region q rs v bs rest there below behind) (suc k) r at =
      region_more rest (region bs rest) (has_next bs rest) r (region_of rs rest behind k r at)

  module _ (root : Ptr Operation) (t : ProgramTree O B) (stands : StandsFor c root t) where
    -- the root, or an operation in the tree
    record IsReached (p : Ptr Operation) : Type 0 where
      view : OperationView O
      there : operation_at c p ≡ Some view
      regions : Tree by_handle (in_program O B) Regions
      tree : AreTree c Regions view.regions regions
      inner : Includes regions t.regions
      which : (p ≡ root) ⊎ OperationIn t.regions p

    abbrev Reaches : IRNode → Type 0
    Reaches (OperationNode p) = IsReached p
    Reaches (BlockNode b) = BlockIn t.regions b
    Reaches (RegionNode r) = RegionIn t.regions r

    reach : (e : IRNode) → StandsInside c (OperationNode root) e → Reaches e
    reach _ itself = record {
      view = stands.view;
      there = stands.there;
      regions = t.regions;
      tree = stands.regions;
      inner = includes_all t.regions;
      which = inl refl;
    }
    reach _ (in_block p b s w) =
        let m = reach (BlockNode b) w in
        let at : slice_get m.view.operations s.index ≡ Some p =
        ap (λ o. slice_get (unwrap_or (option_map (λ (x : BlockView B). x.operations) o) []) s.index) (sym m.there)
        ∙ s.here in
        let i = operation_more m.operations t.regions m.inner p
        (operation_of m.view.operations m.operations m.tree s.index p at) in
        record { view = i.view; there = i.there; regions = i.regions; tree = i.tree; inner = i.inner; which = inr i }
    reach _ (in_region b r s w) =
        let m = reach (RegionNode r) w in
        let at : slice_get m.view.blocks s.index ≡ Some b =
        ap (λ o. slice_get (unwrap_or (option_map (λ (x : RegionView). x.blocks) o) []) s.index) (sym m.there)
        ∙ s.here in
        block_more m.blocks t.regions m.inner b (block_of m.view.blocks m.blocks m.tree s.index b at)
    reach _ (in_operation r p s w) =
        let m = reach (OperationNode p) w in
        let at : slice_get m.view.regions s.index ≡ Some r =
        ap (λ o. slice_get (unwrap_or (option_map (λ (x : OperationView O). x.regions) o) []) s.index) (sym m.there)
        ∙ s.here in
        region_more m.regions t.regions m.inner r (region_of m.view.regions m.regions m.tree s.index r at)

    pub operation_reached : (p : Ptr Operation) → StandsInside c (OperationNode root) (OperationNode p)
        → (p ≡ root) ⊎ OperationIn t.regions p
    operation_reached p i = (reach (OperationNode p) i).which

    pub block_reached : (b : Ptr BasicBlock) → StandsInside c (OperationNode root) (BlockNode b)
        → BlockIn t.regions b
    block_reached b i = reach (BlockNode b) i

    -- a value that is defined below the root is defined in its tree
    pub value_reached : (v : Value) → IsDefinedBelow c root v → Has v (defined_in t.regions)
    value_reached v d = ⊎_elim
        (λ g. ⊎_elim
        (λ e. absurd (g.2.other e))
        (λ i. i.results v (subst (λ (w : OperationView O). Has v (names_of (head_of {B = B} g.0 w).results))
        (same_some (operation_at c g.0) g.1 i.view g.3 i.there) g.4))
        (operation_reached g.0 g.2.inside))
        (λ g.
        let i = block_reached g.0 g.2 in
        i.arguments v (subst (λ (w : BlockView B). Has v (names_of (label_of {O = O} g.0 w).arguments))
        (same_some (block_at c g.0) g.1 i.view g.3 i.there) g.4))
        d

    -- these are operations of a block, blocks of a region, or regions of an operation that is inside the root
    record InBlock (ps : List (Ptr Operation)) : Type 0 where
      holder : Ptr BasicBlock
      view : BlockView B
      there : block_at c holder ≡ Some view
      listed : (k : ℕ) (p : Ptr Operation) → slice_get ps k ≡ Some p → (j : ℕ) × (slice_get view.operations j ≡ Some p)
      inside : StandsInside c (OperationNode root) (BlockNode holder)

    record InRegion (bs : List (Ptr BasicBlock)) : Type 0 where
      holder : Ptr Region
      view : RegionView
      there : region_at c holder ≡ Some view
      listed : (k : ℕ) (b : Ptr BasicBlock) → slice_get bs k ≡ Some b → (j : ℕ) × (slice_get view.blocks j ≡ Some b)
      inside : StandsInside c (OperationNode root) (RegionNode holder)

    record InOperation (rs : List (Ptr Region)) : Type 0 where
      holder : Ptr Operation
      view : OperationView O
      there : operation_at c holder ≡ Some view
      listed : (k : ℕ) (r : Ptr Region) → slice_get rs k ≡ Some r → (j : ℕ) × (slice_get view.regions j ≡ Some r)
      inside : StandsInside c (OperationNode root) (OperationNode holder)

    abbrev AreIn : (s : Sort) → Handles s → Type 0
    AreIn Operations ps = InBlock ps
    AreIn Blocks bs = InRegion bs
    AreIn Regions rs = InOperation rs

    -- the operation is in a block that is inside the root
    abbrev pub IsHeld : Ptr Operation → Type 0
    IsHeld p = (b : Ptr BasicBlock) × StandsInBlock c p b × StandsInside c (OperationNode root) (BlockNode b)

    held_inside : (p : Ptr Operation) → IsHeld p → StandsInside c (OperationNode root) (OperationNode p)
    held_inside p h = in_block p h.0 h.1 h.2

    -- the first of them is inside the root
    first_operation_held : (p : Ptr Operation) (ps : List (Ptr Operation)) (v : OperationView O)
        → operation_at c p ≡ Some v → InBlock (p ∷ ps) → IsHeld p
    first_operation_held p ps v there i =
        let at = i.listed zero p refl in (
          i.holder,
          record {
            operation = subst IsSome (sym there) refl;
            block = subst IsSome (sym i.there) refl;
            index = at.0;
            here = ap (λ o. slice_get (unwrap_or (option_map (λ (x : BlockView B). x.operations) o) []) at.0) i.there
                ∙ at.1;
          },
          i.inside,
        )

    first_block_inside : (b : Ptr BasicBlock) (bs : List (Ptr BasicBlock)) (v : BlockView B)
        → block_at c b ≡ Some v → InRegion (b ∷ bs) → StandsInside c (OperationNode root) (BlockNode b)
    first_block_inside b bs v there i =
        let at = i.listed zero b refl in
        in_region b i.holder (record {
          block = subst IsSome (sym there) refl;
          region = subst IsSome (sym i.there) refl;
          index = at.0;
          here = ap (λ o. slice_get (unwrap_or (option_map (λ (x : RegionView). x.blocks) o) []) at.0) i.there ∙ at.1;
        }) i.inside

    first_region_inside : (r : Ptr Region) (rs : List (Ptr Region)) (v : RegionView)
        → region_at c r ≡ Some v → InOperation (r ∷ rs) → StandsInside c (OperationNode root) (RegionNode r)
    first_region_inside r rs v there i =
        let at = i.listed zero r refl in
        in_operation r i.holder (record {
          region = subst IsSome (sym there) refl;
          operation = subst IsSome (sym i.there) refl;
          index = at.0;
          here = ap (λ o. slice_get (unwrap_or (option_map (λ (x : OperationView O). x.regions) o) []) at.0) i.there
              ∙ at.1;
        }) i.inside

    -- the others, and what is in the first
    later_operations : (p : Ptr Operation) (ps : List (Ptr Operation)) → InBlock (p ∷ ps) → InBlock ps
    later_operations p ps i = record {
      holder = i.holder;
      view = i.view;
      there = i.there;
      listed = λ k q h. i.listed (suc k) q h;
      inside = i.inside;
    }

    later_blocks : (b : Ptr BasicBlock) (bs : List (Ptr BasicBlock)) → InRegion (b ∷ bs) → InRegion bs
    later_blocks b bs i = record {
      holder = i.holder;
      view = i.view;
      there = i.there;
      listed = λ k q h. i.listed (suc k) q h;
      inside = i.inside;
    }

    later_regions : (r : Ptr Region) (rs : List (Ptr Region)) → InOperation (r ∷ rs) → InOperation rs
    later_regions r rs i = record {
      holder = i.holder;
      view = i.view;
      there = i.there;
      listed = λ k q h. i.listed (suc k) q h;
      inside = i.inside;
    }

    of_operation : (p : Ptr Operation) (ps : List (Ptr Operation)) (v : OperationView O) → operation_at c p ≡ Some v
        → InBlock (p ∷ ps) → InOperation v.regions
    of_operation p ps v there i = record {
      holder = p;
      view = v;
      there = there;
      listed = λ k r h. (k, h);
      inside = held_inside p (first_operation_held p ps v there i);
    }

    of_block : (b : Ptr BasicBlock) (bs : List (Ptr BasicBlock)) (v : BlockView B) → block_at c b ≡ Some v
        → InRegion (b ∷ bs) → InBlock v.operations
    of_block b bs v there i = record {
      holder = b;
      view = v;
      there = there;
      listed = λ k p h. (k, h);
      inside = first_block_inside b bs v there i;
    }

    of_region : (r : Ptr Region) (rs : List (Ptr Region)) (v : RegionView) → region_at c r ≡ Some v
        → InOperation (r ∷ rs) → InRegion v.blocks
    of_region r rs v there i = record {
      holder = r;
      view = v;
      there = there;
      listed = λ k b h. (k, h);
      inside = first_region_inside r rs v there i;
    }

    operation_down : (s : Sort) (hs : Handles s) (x : Tree by_handle (in_program O B) s) → AreTree c s hs x
        → AreIn s hs → (q : Ptr Operation) → HasOperation x q → IsHeld q
    operation_down _ _ _ no_operations i q h = absurd h
    operation_down _ _ _ no_blocks i q h = absurd h
    operation_down _ _ _ no_regions i q h = absurd h
    operation_down _ _ _ (first_operation p ps v rs rest there below behind) i q h = ⊎_elim
        (λ e. subst IsHeld (sym e) (first_operation_held p ps v there i))
        (λ j. ⊎_elim
        (operation_down Regions v.regions rs below (of_operation p ps v there i) q)
        (operation_down Operations ps rest behind (later_operations p ps i) q)
        j)
        h
    operation_down _ _ _ (first_block b bs v os rest there below behind) i q h = ⊎_elim
        (operation_down Operations v.operations os below (of_block b bs v there i) q)
        (operation_down Blocks bs rest behind (later_blocks b bs i) q)
        h
    operation_down _ _ _ (first_region r rs v bs rest there below behind) i q h = ⊎_elim
        (operation_down Blocks v.blocks bs below (of_region r rs v there i) q)
        (operation_down Regions rs rest behind (later_regions r rs i) q)
        h

    block_down : (s : Sort) (hs : Handles s) (x : Tree by_handle (in_program O B) s) → AreTree c s hs x
        → AreIn s hs → (d : Ptr BasicBlock) → HasBlock x d → StandsInside c (OperationNode root) (BlockNode d)
    block_down _ _ _ no_operations i d h = absurd h
    block_down _ _ _ no_blocks i d h = absurd h
    block_down _ _ _ no_regions i d h = absurd h
    block_down _ _ _ (first_operation p ps v rs rest there below behind) i d h = ⊎_elim
        (block_down Regions v.regions rs below (of_operation p ps v there i) d)
        (block_down Operations ps rest behind (later_operations p ps i) d)
        h
    block_down _ _ _ (first_block b bs v os rest there below behind) i d h = ⊎_elim
        (λ e. subst (λ z. StandsInside c (OperationNode root) (BlockNode z)) (sym e)
        (first_block_inside b bs v there i))
        (λ j. ⊎_elim
        (block_down Operations v.operations os below (of_block b bs v there i) d)
        (block_down Blocks bs rest behind (later_blocks b bs i) d)
        j)
        h
    block_down _ _ _ (first_region r rs v bs rest there below behind) i d h = ⊎_elim
        (block_down Blocks v.blocks bs below (of_region r rs v there i) d)
        (block_down Regions rs rest behind (later_regions r rs i) d)
        h

    of_root : InOperation stands.view.regions
    of_root = record {
      holder = root;
      view = stands.view;
      there = stands.there;
      listed = λ k r h. (k, h);
      inside = itself;
    }

    -- an operation or a block in the tree is inside the root
    pub operation_held : (p : Ptr Operation) → HasOperation t.regions p → IsHeld p
    operation_held p h = operation_down Regions stands.view.regions t.regions stands.regions of_root p h

    pub operation_inside : (p : Ptr Operation) → HasOperation t.regions p
        → StandsInside c (OperationNode root) (OperationNode p)
    operation_inside p h = held_inside p (operation_held p h)

    pub block_inside : (b : Ptr BasicBlock) → HasBlock t.regions b → StandsInside c (OperationNode root) (BlockNode b)
    block_inside b h = block_down Regions stands.view.regions t.regions stands.regions of_root b h
