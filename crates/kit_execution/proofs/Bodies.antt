-- The blocks of an operation's first region and what is in them, in the program and at sites of a tree.
use Rattle.std.proofs.Common.{◌≡◌, ◌≢◌, ℕ, ◌<◌, List, [], ◌∷◌, ◌++◌, map, length, Option, Some, option_map, unwrap_or, slice_get, refl, sym, ap, ◌∙◌, subst, arith}
use Rattle.ir_program.specs.Lists.{operations_in, blocks_in, regions_in}
use Rattle.ir_program.specs.declared.handles.Ptr.{Ptr}
use Rattle.ir_program.specs.declared.handles.Operation.{Operation}
use Rattle.ir_program.specs.declared.handles.BasicBlock.{BasicBlock}
use Rattle.ir_trees.specs.Stands.{AreTree, StandsFor}
use Rattle.ir_trees.specs.Trees.{Blocks}
use Rattle.ir_trees.proofs.Members.{Has, at_has, has_front}
use Rattle.kit.specs.Context.{KitProgram, KitTree}
use Rattle.kit.specs.Meaning.{KitBlock, KitOperation}
use Rattle.kit_checks.specs.Located.{IsBody}
use Rattle.kit_checks.specs.Rules.{HasModuleBody}
use Rattle.kit_checks.specs.Sites.{Listed, Body, operation_list, block_list, region_list, Site}
use Rattle.kit_checks.specs.Words.{Every, joined, bodies_of, members_of}
use Rattle.kit_checks.proofs.Down.{step_to, region_listed, block_listed, regions_are, operations_are}
use Rattle.kit_checks.proofs.Everys.{at_index}
use Rattle.kit_checks.proofs.Passed.{every_has}
use Rattle.kit_checks.proofs.Upward.{block_tree, operation_tree}
use Rattle.kit_places.specs.Store.{body_of, members}
use Rattle.kit_execution.proofs.Reached.{outer_if, IsReached, step_reached}

-- lists of blocks, blocks and sites of trees of `kit`
abbrev pub KitBlocks : Type 0
KitBlocks = Listed KitOperation KitBlock Blocks

abbrev pub KitBody : Type 0
KitBody = Body KitOperation KitBlock

abbrev pub KitSite : Type 0
KitSite = Site KitOperation KitBlock

-- the blocks are those of the first region
abbrev pub AreFirst : KitTree → KitBlocks → Type 0
AreFirst u blocks = slice_get (region_list u.regions) 0 ≡ Some blocks

-- one region is the first
pub only_region : (u : KitTree) → length (region_list u.regions) ≡ 1 → (blocks : KitBlocks) × AreFirst u blocks
only_region u one = at_index (region_list u.regions) 0 (omega (arith, one))

module _ (c : KitProgram) where
  pub body_tree : (p : Ptr Operation) (u : KitTree) (blocks : KitBlocks) → StandsFor c p u → AreFirst u blocks
      → AreTree c Blocks (body_of c p) blocks
  body_tree p u blocks s here =
      let r = region_listed c s.view.regions u.regions s.regions 0 blocks here in
      let first : slice_get (regions_in c p) 0 ≡ Some r.0 = sym (ap (λ l. slice_get l 0) (regions_are c p u s)) ∙ r.1 in
      let is : body_of c p ≡ blocks_in c r.0 = ap (λ o. unwrap_or (option_map (blocks_in c) o) []) first in
      subst (λ (bs : List (Ptr BasicBlock)). AreTree c Blocks bs blocks) (sym is) r.2.listed

  -- an operation, and its site in the tree of the root
  pub record IsSeenAt (t : KitTree) (p : Ptr Operation) (s : KitSite) : Type 0 where
    pub reached : IsReached t s
    pub tree : StandsFor c p s.op

  -- an operation in a block of the first region of another one
  pub record IsInner (t : KitTree) (s : KitSite) (blocks : KitBlocks) (j k : ℕ) (b : Ptr BasicBlock) (q : Ptr Operation) : Type 0 where
    pub body : KitBody
    pub is : IsBody c b body
    pub block_here : slice_get (block_list blocks) j ≡ Some body
    pub op : KitTree
    pub op_here : slice_get (operation_list body.operations) k ≡ Some op
    pub seen : IsSeenAt t q (step_to s (outer_if s.around) blocks j body k op)

  pub inner : (t : KitTree) (p : Ptr Operation) (s : KitSite) → IsSeenAt t p s → (blocks : KitBlocks) → AreFirst s.op blocks
      → (j k : ℕ) (b : Ptr BasicBlock) (q : Ptr Operation) → slice_get (body_of c p) j ≡ Some b
      → slice_get (operations_in c b) k ≡ Some q → IsInner t s blocks j k b q
  inner t p s at blocks first j k b q hb hq =
      let block = block_tree c (body_of c p) blocks (body_tree p s.op blocks at.tree first) j b hb in
      let it = operation_tree c block.2.view.operations block.0.operations block.2.operations k q
      (subst (λ (l : List (Ptr Operation)). slice_get l k ≡ Some q) (sym (operations_are c b block.0 block.2)) hq) in
      record {
        body = block.0;
        is = block.2;
        block_here = block.1;
        op = it.0;
        op_here = it.1;
        seen = record {
          reached = step_reached t s at.reached 0 j k blocks block.0 it.0 first block.1 it.1;
          tree = it.2;
        };
      }

-- ---- modules

-- the one block of a module, which its members are in
pub record IsModuleBody (c : KitProgram) (m : Ptr Operation) (u : KitTree) : Type 0 where
  pub blocks : KitBlocks
  pub first : AreFirst u blocks
  pub body : KitBody
  pub block_here : slice_get (block_list blocks) 0 ≡ Some body
  pub block : Ptr BasicBlock
  pub here : slice_get (body_of c m) 0 ≡ Some block
  pub is : IsBody c block body
  pub members_are : members c m ≡ operations_in c block
  pub all : members_of u ≡ operation_list body.operations ++ []

one_listed : {X Y : Type 0} (f : X → Y) (xs : List X) (y : Y) → map f xs ≡ y ∷ [] → (x : X) × (slice_get xs 0 ≡ Some x) × (f x ≡ y)
one_listed f [] y h = cc
one_listed f (x ∷ xs) y h = let e : f x ≡ y = cc in (x, refl, e)

pub module_body : (c : KitProgram) (m : Ptr Operation) (u : KitTree) → StandsFor c m u → HasModuleBody u → IsModuleBody c m u
module_body c m u s has =
    let r = one_listed block_list (region_list u.regions) (has.body ∷ []) has.one in
    let at : slice_get (block_list r.0) 0 ≡ Some has.body = ap (λ (l : List KitBody). slice_get l 0) r.2 in
    let l = block_listed c (body_of c m) r.0 (body_tree c m u r.0 s r.1) 0 has.body at in
    record {
      blocks = r.0;
      first = r.1;
      body = has.body;
      block_here = at;
      block = has.body.label.name;
      here = l.0;
      is = l.1;
      members_are = ap (λ (o : Option (Ptr BasicBlock)). unwrap_or (option_map (operations_in c) o) []) l.0;
      all = ap (λ (ls : List (List KitBody)). joined (map (λ (b : KitBody). operation_list b.operations) (joined ls))) has.one;
    }

-- ---- blocks

in_first_region : (rs : List KitBlocks) (blocks : KitBlocks) (body : KitBody) → slice_get rs 0 ≡ Some blocks → Has body (block_list blocks)
    → Has body (joined (map block_list rs))
in_first_region [] blocks body h has = cc
in_first_region (r ∷ rs) blocks body h has =
    let same : blocks ≡ r = cc in
    has_front (block_list r) (joined (map block_list rs)) body (subst (λ (bs : KitBlocks). Has body (block_list bs)) same has)

-- what holds of the blocks of all regions holds of those of the first
pub every_first : (P : KitBody → Type 0) (u : KitTree) (blocks : KitBlocks) → AreFirst u blocks → Every P (bodies_of u) → Every P (block_list blocks)
every_first P u blocks first every k body here =
    every_has P (bodies_of u) every body (in_first_region (region_list u.regions) blocks body first (at_has (block_list blocks) k body here))

pub not_empty : {X : Type 0} (xs : List X) → xs ≢ [] → 0 < length xs
not_empty [] filled = absurd (filled refl)
not_empty (x ∷ xs) filled = omega arith
