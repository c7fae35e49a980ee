-- Blocks in regions: what the forest's lists say of the handles.
use Rattle.std.proofs.lemmas.Bool.{both_ways}
use Rattle.std.proofs.Common.{◌≡◌, ℕ, ◌+◌, ◌-◌, length, true, map, Option, Some, None, IsSome, IsNone, IfSome, MatchOption, option_map, slice_get, refl, sym, ap, subst, ◌∙◌, get_or}
use Rattle.std.specs.List.{All}
use Rattle.std.proofs.lemmas.Option.{slice_get-get_or}
use Rattle.ir_arena.specs.Arena.{get, held}
use Rattle.ir_entities.specs.Links.{has, list_at, first_or, last_or, next_in, prev_in, IsUnlinked}
use Rattle.ir_program.specs.Program.{Program, RegionView, block_at, region_at, region_of}
use Rattle.ir_program.specs.Listed.{AreListed}
use Rattle.ir_program.specs.Lists.{blocks_in, StandsInRegion, IsUnlinkedBlock}
use Rattle.ir_program.specs.declared.handles.Ptr.{Ptr}
use Rattle.ir_program.specs.declared.handles.BasicBlock.{BasicBlock}
use Rattle.ir_program.specs.declared.handles.Region.{Region}
use Rattle.ir_program.proofs.lists.Slotted.{of_slot, handle_is, pointer_live, list_of_some, some_of_list}
use Rattle.ir_program.proofs.lists.There.{block_got, block_there, region_got, region_there}
use Rattle.ir_program.proofs.lists.Levels.{IsLevel, item_live, stands_in, one_holder, unlinked_slot, has_slot, first_handle, first_held, last_handle, last_held, next_handle, next_held, prev_handle, prev_held, prev_none}

module _ {O B : Type 0} (c : Program O B) where
  abbrev pub IsLevelOfRegions : Type 0
  IsLevelOfRegions = IsLevel c.forest.blocks c.forest.regions c.forest.in_regions.lists (blocks_in c)

  pub in_regions : AreListed c → IsLevelOfRegions
  in_regions known = record {
    some = λ b k p h. some_of_list (λ (v : RegionView). v.blocks) (λ u. region_of c b) (get c.forest.regions b.key) k p h;
    all = λ b live. list_of_some (λ (v : RegionView). v.blocks) (λ u. region_of c b) (get c.forest.regions b.key) (map (of_slot c.forest.blocks) (list_at c.forest.in_regions.lists b.key.slot)) (λ a. refl) live;
    members = λ b i h. known.forest.blocks.members b i h;
    holders = λ b i h. known.forest.blocks.holders b i h;
    apart = known.blocks_apart;
    distinct = known.blocks_once;
  }

  module _ (level : IsLevelOfRegions) where
    pub stands_in_region : (b : Ptr Region) (k : ℕ) (p : Ptr BasicBlock) → slice_get (blocks_in c b) k ≡ Some p → StandsInRegion c p b
    stands_in_region b k p h = record {
      block = block_there c p (item_live c.forest.blocks c.forest.regions c.forest.in_regions.lists (blocks_in c) level b k p h);
      region = region_there c b (level.some b k p h);
      index = k;
      here = h;
    }

    pub one_region : (p : Ptr BasicBlock) (a b : Ptr Region) → StandsInRegion c p a → StandsInRegion c p b → a ≡ b
    one_region p a b s t = one_holder c.forest.blocks c.forest.regions c.forest.in_regions.lists (blocks_in c) level p a b s.index t.index s.here t.here

    pub unlinked_block : (p : Ptr BasicBlock) → IsSome (block_at c p) → IsUnlinkedBlock c p → IsUnlinked c.forest.in_regions.lists p.key.slot
    unlinked_block p live free = unlinked_slot c.forest.blocks c.forest.regions c.forest.in_regions.lists (blocks_in c) level p (block_got c p live) (λ b k h. free b (stands_in_region b k p h))

    pub first_stands : (b : Ptr Region) (k : ℕ) (o : Option (Ptr BasicBlock)) → o ≡ slice_get (blocks_in c b) k → IfSome o (λ p. StandsInRegion c p b)
    first_stands b k None e = tt
    first_stands b k (Some p) e = stands_in_region b k p (sym e)

    pub region_of_slot : (p : Ptr BasicBlock) (b : ℕ) → IsSome (block_at c p) → has p.key.slot (list_at c.forest.in_regions.lists b) ≡ true → StandsInRegion c p (of_slot c.forest.regions b)
    region_of_slot p b live h =
        let at : (k : ℕ) × (slice_get (blocks_in c (of_slot c.forest.regions b)) k ≡ Some p) = stands_in c.forest.blocks c.forest.regions c.forest.in_regions.lists (blocks_in c) level b p (block_got c p live) h in
        stands_in_region (of_slot c.forest.regions b) at.0 p at.1

-- what the answers of the forest's calls say by handles
module _ {O B : Type 0} (i c : Program O B) (seen : i ≡ c) (known : AreListed c) where
  level : IsLevelOfRegions c
  level = in_regions c known

  lists_seen : i.forest.in_regions.lists ≡ c.forest.in_regions.lists
  lists_seen = ap (λ (w : Program O B). w.forest.in_regions.lists) seen

  -- there is an block in the slot, if it is one
  abbrev pub IsHeldBlock : Option ℕ → Type 0
  IsHeldBlock o = IfSome o (λ s. IsSome (held c.forest.blocks s))

  module _ (b : Ptr Region) (live : IsSome (region_at c b)) (o : Option ℕ) where
    first_seen : o ≡ first_or None (list_at i.forest.in_regions.lists b.key.slot) → o ≡ first_or None (list_at c.forest.in_regions.lists b.key.slot)
    first_seen e = e ∙ ap (λ ls. first_or None (list_at ls b.key.slot)) lists_seen

    last_seen : o ≡ last_or None (list_at i.forest.in_regions.lists b.key.slot) → o ≡ last_or None (list_at c.forest.in_regions.lists b.key.slot)
    last_seen e = e ∙ ap (λ ls. last_or None (list_at ls b.key.slot)) lists_seen

    pub first_block_held : o ≡ first_or None (list_at i.forest.in_regions.lists b.key.slot) → IsHeldBlock o
    first_block_held e = first_held c.forest.blocks c.forest.regions c.forest.in_regions.lists (blocks_in c) level b (region_got c b live) o (first_seen e)

    pub first_block_is : o ≡ first_or None (list_at i.forest.in_regions.lists b.key.slot) → option_map (of_slot c.forest.blocks) o ≡ slice_get (blocks_in c b) 0
    first_block_is e = first_handle c.forest.blocks c.forest.regions c.forest.in_regions.lists (blocks_in c) level b (region_got c b live) o (first_seen e)

    pub last_block_held : o ≡ last_or None (list_at i.forest.in_regions.lists b.key.slot) → IsHeldBlock o
    last_block_held e = last_held c.forest.blocks c.forest.regions c.forest.in_regions.lists (blocks_in c) level b (region_got c b live) o (last_seen e)

    pub last_block_is : o ≡ last_or None (list_at i.forest.in_regions.lists b.key.slot) → option_map (of_slot c.forest.blocks) o ≡ slice_get (blocks_in c b) (length (blocks_in c b) - 1)
    last_block_is e = last_handle c.forest.blocks c.forest.regions c.forest.in_regions.lists (blocks_in c) level b (region_got c b live) o (last_seen e)

  pub blocks_stand : (b : Ptr Region) (k : ℕ) (o : Option (Ptr BasicBlock)) → o ≡ slice_get (blocks_in c b) k → IfSome o (λ p. StandsInRegion c p b)
  blocks_stand b k o e = first_stands c level b k o e

  module _ (p : Ptr BasicBlock) (live : IsSome (block_at c p)) (o : Option ℕ) where
    -- the slot of what comes next, and of what came before
    abbrev pub ComesNext : Program O B → Type 0
    ComesNext w = (b : ℕ) → has p.key.slot (list_at w.forest.in_regions.lists b) ≡ true → o ≡ next_in p.key.slot (list_at w.forest.in_regions.lists b)

    abbrev pub CameBefore : Program O B → Type 0
    CameBefore w = (b : ℕ) → has p.key.slot (list_at w.forest.in_regions.lists b) ≡ true → o ≡ prev_in p.key.slot (list_at w.forest.in_regions.lists b)

    abbrev pub NoneAtRoot : Program O B → Type 0
    NoneAtRoot w = IsUnlinked w.forest.in_regions.lists p.key.slot → o ≡ None

    pub next_block_held : ComesNext i → NoneAtRoot i → IsHeldBlock o
    next_block_held n r = next_held c.forest.blocks c.forest.regions c.forest.in_regions.lists (blocks_in c) level p (block_got c p live) o (subst ComesNext seen n) (subst NoneAtRoot seen r)

    pub next_block_is : ComesNext i → (b : Ptr Region) (k : ℕ) → slice_get (blocks_in c b) k ≡ Some p → option_map (of_slot c.forest.blocks) o ≡ slice_get (blocks_in c b) (k + 1)
    next_block_is n = next_handle c.forest.blocks c.forest.regions c.forest.in_regions.lists (blocks_in c) level p (block_got c p live) o (subst ComesNext seen n)

    pub prev_block_held : CameBefore i → NoneAtRoot i → IsHeldBlock o
    prev_block_held n r = prev_held c.forest.blocks c.forest.regions c.forest.in_regions.lists (blocks_in c) level p (block_got c p live) o (subst CameBefore seen n) (subst NoneAtRoot seen r)

    pub prev_block_is : CameBefore i → (b : Ptr Region) (k : ℕ) → slice_get (blocks_in c b) (k + 1) ≡ Some p → option_map (of_slot c.forest.blocks) o ≡ slice_get (blocks_in c b) k
    prev_block_is n = prev_handle c.forest.blocks c.forest.regions c.forest.in_regions.lists (blocks_in c) level p (block_got c p live) o (subst CameBefore seen n)

    pub prev_block_none : CameBefore i → (b : Ptr Region) → slice_get (blocks_in c b) 0 ≡ Some p → option_map (of_slot {E = BasicBlock} c.forest.blocks) o ≡ None
    prev_block_none n = prev_none c.forest.blocks c.forest.regions c.forest.in_regions.lists (blocks_in c) level p (block_got c p live) o (subst CameBefore seen n)

    pub no_block_at_root : NoneAtRoot i → IsUnlinkedBlock c p → option_map (of_slot {E = BasicBlock} c.forest.blocks) o ≡ None
    no_block_at_root r free = ap (option_map (of_slot c.forest.blocks)) (subst NoneAtRoot seen r (unlinked_block c level p live free))

    pub block_answer_live : IsHeldBlock o → (r : Option (Ptr BasicBlock)) → r ≡ option_map (of_slot c.forest.blocks) o → IfSome r (λ q. IsSome (block_at c q))
    block_answer_live h r e = subst (λ (z : Option (Ptr BasicBlock)). IfSome z (λ q. IsSome (block_at c q))) (sym e) (answered o h) where
      answered : (o : Option ℕ) → IsHeldBlock o → IfSome (option_map (of_slot {E = BasicBlock} c.forest.blocks) o) (λ q. IsSome (block_at c q))
      answered None h = tt
      answered (Some s) h = block_there c (of_slot c.forest.blocks s) (pointer_live c.forest.blocks s h)

    -- the slot of the region that it stands in
    abbrev pub IsParentSlot : Program O B → Type 0
    IsParentSlot w = IfSome o (λ b. has p.key.slot (list_at w.forest.in_regions.lists b) ≡ true)

    abbrev pub IsOnlyParentSlot : Program O B → Type 0
    IsOnlyParentSlot w = (b : ℕ) → has p.key.slot (list_at w.forest.in_regions.lists b) ≡ true → o ≡ Some b

    abbrev pub IsRootWithout : Program O B → Type 0
    IsRootWithout w = IsNone o → IsUnlinked w.forest.in_regions.lists p.key.slot

    pub parent_region_held : IsParentSlot i → IfSome o (λ b. IsSome (held c.forest.regions b))
    parent_region_held l = held_parent o (subst IsParentSlot seen l) where
      held_parent : (o : Option ℕ) → IfSome o (λ b. has p.key.slot (list_at c.forest.in_regions.lists b) ≡ true) → IfSome o (λ b. IsSome (held c.forest.regions b))
      held_parent None h = tt
      held_parent (Some b) h = level.holders b p.key.slot h

    pub parent_region_is : IsParentSlot i → IsRootWithout i → (r : Option (Ptr Region)) → r ≡ option_map (of_slot c.forest.regions) o → MatchOption r (IsUnlinkedBlock c p) (λ b. StandsInRegion c p b)
    parent_region_is l root r e = subst (λ (z : Option (Ptr Region)). MatchOption z (IsUnlinkedBlock c p) (λ b. StandsInRegion c p b)) (sym e) (by_cases o (subst IsParentSlot seen l) (subst IsRootWithout seen root)) where
      by_cases : (o : Option ℕ) → IfSome o (λ b. has p.key.slot (list_at c.forest.in_regions.lists b) ≡ true) → (IsNone o → IsUnlinked c.forest.in_regions.lists p.key.slot) → MatchOption (option_map (of_slot {E = Region} c.forest.regions) o) (IsUnlinkedBlock c p) (λ b. StandsInRegion c p b)
      by_cases None h root = λ b s. both_ways _ (root refl b.key.slot) (has_slot c.forest.blocks c.forest.regions c.forest.in_regions.lists (blocks_in c) level b s.index p s.here)
      by_cases (Some b) h root = region_of_slot c level p b live h

    pub only_parent_region : IsOnlyParentSlot i → (b : Ptr Region) → StandsInRegion c p b → option_map (of_slot c.forest.regions) o ≡ Some b
    only_parent_region only b s = ap (option_map (of_slot c.forest.regions)) (subst IsOnlyParentSlot seen only b.key.slot (has_slot c.forest.blocks c.forest.regions c.forest.in_regions.lists (blocks_in c) level b s.index p s.here)) ∙ ap Some (handle_is c.forest.regions b (region_got c b s.region))

pub all_blocks_stand : {O B : Type 0} (c : Program O B) → AreListed c → (b : Ptr Region) → All (λ p. StandsInRegion c p b) (blocks_in c b)
all_blocks_stand c known b k p lt = stands_in_region c (in_regions c known) b k (get_or (blocks_in c b) k p) (slice_get-get_or (blocks_in c b) k p lt)
