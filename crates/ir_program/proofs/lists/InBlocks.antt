-- Operations in blocks: what the forest's lists say of the handles.
use Rattle.std.proofs.lemmas.Bool.{both_ways}
use Rattle.std.proofs.Common.{◌≡◌, ℕ, ◌+◌, ◌-◌, length, true, map, Option, Some, None, IsSome, IsNone, IfSome, MatchOption, option_map, slice_get, refl, sym, ap, subst, ◌∙◌, get_or}
use Rattle.std.specs.List.{All}
use Rattle.std.proofs.lemmas.Option.{slice_get-get_or}
use Rattle.ir_arena.specs.Arena.{get, held}
use Rattle.ir_entities.specs.Links.{has, list_at, first_or, last_or, next_in, prev_in, IsUnlinked}
use Rattle.ir_program.specs.Program.{Program, BlockView, operation_at, block_at, block_of}
use Rattle.ir_program.specs.Listed.{AreListed}
use Rattle.ir_program.specs.Lists.{operations_in, StandsInBlock, IsUnlinkedOperation}
use Rattle.ir_program.specs.declared.handles.Ptr.{Ptr}
use Rattle.ir_program.specs.declared.handles.Operation.{Operation}
use Rattle.ir_program.specs.declared.handles.BasicBlock.{BasicBlock}
use Rattle.ir_program.proofs.lists.Slotted.{of_slot, handle_is, pointer_live, list_of_some, some_of_list}
use Rattle.ir_program.proofs.lists.There.{operation_got, operation_there, block_got, block_there}
use Rattle.ir_program.proofs.lists.Levels.{IsLevel, item_live, stands_in, one_holder, unlinked_slot, has_slot, first_handle, first_held, last_handle, last_held, next_handle, next_held, prev_handle, prev_held, prev_none}

module _ {O B : Type 0} (c : Program O B) where
  abbrev pub IsLevelOfBlocks : Type 0
  IsLevelOfBlocks = IsLevel c.forest.ops c.forest.blocks c.forest.in_blocks.lists (operations_in c)

  pub in_blocks : AreListed c → IsLevelOfBlocks
  in_blocks known = record {
    some = λ b k p h. some_of_list (λ (v : BlockView B). v.operations) (block_of c b) (get c.forest.blocks b.key) k p h;
    all = λ b live. list_of_some (λ (v : BlockView B). v.operations) (block_of c b) (get c.forest.blocks b.key) (map (of_slot c.forest.ops) (list_at c.forest.in_blocks.lists b.key.slot)) (λ a. refl) live;
    members = λ b i h. known.forest.ops.members b i h;
    holders = λ b i h. known.forest.ops.holders b i h;
    apart = known.ops_apart;
    distinct = known.ops_once;
  }

  module _ (level : IsLevelOfBlocks) where
    pub stands_in_block : (b : Ptr BasicBlock) (k : ℕ) (p : Ptr Operation) → slice_get (operations_in c b) k ≡ Some p → StandsInBlock c p b
    stands_in_block b k p h = record {
      operation = operation_there c p (item_live c.forest.ops c.forest.blocks c.forest.in_blocks.lists (operations_in c) level b k p h);
      block = block_there c b (level.some b k p h);
      index = k;
      here = h;
    }

    pub one_block : (p : Ptr Operation) (a b : Ptr BasicBlock) → StandsInBlock c p a → StandsInBlock c p b → a ≡ b
    one_block p a b s t = one_holder c.forest.ops c.forest.blocks c.forest.in_blocks.lists (operations_in c) level p a b s.index t.index s.here t.here

    pub unlinked_operation : (p : Ptr Operation) → IsSome (operation_at c p) → IsUnlinkedOperation c p → IsUnlinked c.forest.in_blocks.lists p.key.slot
    unlinked_operation p live free = unlinked_slot c.forest.ops c.forest.blocks c.forest.in_blocks.lists (operations_in c) level p (operation_got c p live) (λ b k h. free b (stands_in_block b k p h))

    pub first_stands : (b : Ptr BasicBlock) (k : ℕ) (o : Option (Ptr Operation)) → o ≡ slice_get (operations_in c b) k → IfSome o (λ p. StandsInBlock c p b)
    first_stands b k None e = tt
    first_stands b k (Some p) e = stands_in_block b k p (sym e)

    pub block_of_slot : (p : Ptr Operation) (b : ℕ) → IsSome (operation_at c p) → has p.key.slot (list_at c.forest.in_blocks.lists b) ≡ true → StandsInBlock c p (of_slot c.forest.blocks b)
    block_of_slot p b live h =
        let at : (k : ℕ) × (slice_get (operations_in c (of_slot c.forest.blocks b)) k ≡ Some p) = stands_in c.forest.ops c.forest.blocks c.forest.in_blocks.lists (operations_in c) level b p (operation_got c p live) h in
        stands_in_block (of_slot c.forest.blocks b) at.0 p at.1

-- what the answers of the forest's calls say by handles
module _ {O B : Type 0} (i c : Program O B) (seen : i ≡ c) (known : AreListed c) where
  level : IsLevelOfBlocks c
  level = in_blocks c known

  lists_seen : i.forest.in_blocks.lists ≡ c.forest.in_blocks.lists
  lists_seen = ap (λ (w : Program O B). w.forest.in_blocks.lists) seen

  -- there is an operation in the slot, if it is one
  abbrev pub IsHeldOperation : Option ℕ → Type 0
  IsHeldOperation o = IfSome o (λ s. IsSome (held c.forest.ops s))

  module _ (b : Ptr BasicBlock) (live : IsSome (block_at c b)) (o : Option ℕ) where
    first_seen : o ≡ first_or None (list_at i.forest.in_blocks.lists b.key.slot) → o ≡ first_or None (list_at c.forest.in_blocks.lists b.key.slot)
    first_seen e = e ∙ ap (λ ls. first_or None (list_at ls b.key.slot)) lists_seen

    last_seen : o ≡ last_or None (list_at i.forest.in_blocks.lists b.key.slot) → o ≡ last_or None (list_at c.forest.in_blocks.lists b.key.slot)
    last_seen e = e ∙ ap (λ ls. last_or None (list_at ls b.key.slot)) lists_seen

    pub first_op_held : o ≡ first_or None (list_at i.forest.in_blocks.lists b.key.slot) → IsHeldOperation o
    first_op_held e = first_held c.forest.ops c.forest.blocks c.forest.in_blocks.lists (operations_in c) level b (block_got c b live) o (first_seen e)

    pub first_op_is : o ≡ first_or None (list_at i.forest.in_blocks.lists b.key.slot) → option_map (of_slot c.forest.ops) o ≡ slice_get (operations_in c b) 0
    first_op_is e = first_handle c.forest.ops c.forest.blocks c.forest.in_blocks.lists (operations_in c) level b (block_got c b live) o (first_seen e)

    pub last_op_held : o ≡ last_or None (list_at i.forest.in_blocks.lists b.key.slot) → IsHeldOperation o
    last_op_held e = last_held c.forest.ops c.forest.blocks c.forest.in_blocks.lists (operations_in c) level b (block_got c b live) o (last_seen e)

    pub last_op_is : o ≡ last_or None (list_at i.forest.in_blocks.lists b.key.slot) → option_map (of_slot c.forest.ops) o ≡ slice_get (operations_in c b) (length (operations_in c b) - 1)
    last_op_is e = last_handle c.forest.ops c.forest.blocks c.forest.in_blocks.lists (operations_in c) level b (block_got c b live) o (last_seen e)

  pub ops_stand : (b : Ptr BasicBlock) (k : ℕ) (o : Option (Ptr Operation)) → o ≡ slice_get (operations_in c b) k → IfSome o (λ p. StandsInBlock c p b)
  ops_stand b k o e = first_stands c level b k o e

  module _ (p : Ptr Operation) (live : IsSome (operation_at c p)) (o : Option ℕ) where
    -- the slot of what comes next, and of what came before
    abbrev pub ComesNext : Program O B → Type 0
    ComesNext w = (b : ℕ) → has p.key.slot (list_at w.forest.in_blocks.lists b) ≡ true → o ≡ next_in p.key.slot (list_at w.forest.in_blocks.lists b)

    abbrev pub CameBefore : Program O B → Type 0
    CameBefore w = (b : ℕ) → has p.key.slot (list_at w.forest.in_blocks.lists b) ≡ true → o ≡ prev_in p.key.slot (list_at w.forest.in_blocks.lists b)

    abbrev pub NoneAtRoot : Program O B → Type 0
    NoneAtRoot w = IsUnlinked w.forest.in_blocks.lists p.key.slot → o ≡ None

    pub next_op_held : ComesNext i → NoneAtRoot i → IsHeldOperation o
    next_op_held n r = next_held c.forest.ops c.forest.blocks c.forest.in_blocks.lists (operations_in c) level p (operation_got c p live) o (subst ComesNext seen n) (subst NoneAtRoot seen r)

    pub next_op_is : ComesNext i → (b : Ptr BasicBlock) (k : ℕ) → slice_get (operations_in c b) k ≡ Some p → option_map (of_slot c.forest.ops) o ≡ slice_get (operations_in c b) (k + 1)
    next_op_is n = next_handle c.forest.ops c.forest.blocks c.forest.in_blocks.lists (operations_in c) level p (operation_got c p live) o (subst ComesNext seen n)

    pub prev_op_held : CameBefore i → NoneAtRoot i → IsHeldOperation o
    prev_op_held n r = prev_held c.forest.ops c.forest.blocks c.forest.in_blocks.lists (operations_in c) level p (operation_got c p live) o (subst CameBefore seen n) (subst NoneAtRoot seen r)

    pub prev_op_is : CameBefore i → (b : Ptr BasicBlock) (k : ℕ) → slice_get (operations_in c b) (k + 1) ≡ Some p → option_map (of_slot c.forest.ops) o ≡ slice_get (operations_in c b) k
    prev_op_is n = prev_handle c.forest.ops c.forest.blocks c.forest.in_blocks.lists (operations_in c) level p (operation_got c p live) o (subst CameBefore seen n)

    pub prev_op_none : CameBefore i → (b : Ptr BasicBlock) → slice_get (operations_in c b) 0 ≡ Some p → option_map (of_slot {E = Operation} c.forest.ops) o ≡ None
    prev_op_none n = prev_none c.forest.ops c.forest.blocks c.forest.in_blocks.lists (operations_in c) level p (operation_got c p live) o (subst CameBefore seen n)

    pub no_op_at_root : NoneAtRoot i → IsUnlinkedOperation c p → option_map (of_slot {E = Operation} c.forest.ops) o ≡ None
    no_op_at_root r free = ap (option_map (of_slot c.forest.ops)) (subst NoneAtRoot seen r (unlinked_operation c level p live free))

    pub op_answer_live : IsHeldOperation o → (r : Option (Ptr Operation)) → r ≡ option_map (of_slot c.forest.ops) o → IfSome r (λ q. IsSome (operation_at c q))
    op_answer_live h r e = subst (λ (z : Option (Ptr Operation)). IfSome z (λ q. IsSome (operation_at c q))) (sym e) (answered o h) where
      answered : (o : Option ℕ) → IsHeldOperation o → IfSome (option_map (of_slot {E = Operation} c.forest.ops) o) (λ q. IsSome (operation_at c q))
      answered None h = tt
      answered (Some s) h = operation_there c (of_slot c.forest.ops s) (pointer_live c.forest.ops s h)

    -- the slot of the block that it stands in
    abbrev pub IsParentSlot : Program O B → Type 0
    IsParentSlot w = IfSome o (λ b. has p.key.slot (list_at w.forest.in_blocks.lists b) ≡ true)

    abbrev pub IsOnlyParentSlot : Program O B → Type 0
    IsOnlyParentSlot w = (b : ℕ) → has p.key.slot (list_at w.forest.in_blocks.lists b) ≡ true → o ≡ Some b

    abbrev pub IsRootWithout : Program O B → Type 0
    IsRootWithout w = IsNone o → IsUnlinked w.forest.in_blocks.lists p.key.slot

    pub parent_block_held : IsParentSlot i → IfSome o (λ b. IsSome (held c.forest.blocks b))
    parent_block_held l = held_parent o (subst IsParentSlot seen l) where
      held_parent : (o : Option ℕ) → IfSome o (λ b. has p.key.slot (list_at c.forest.in_blocks.lists b) ≡ true) → IfSome o (λ b. IsSome (held c.forest.blocks b))
      held_parent None h = tt
      held_parent (Some b) h = level.holders b p.key.slot h

    pub parent_block_is : IsParentSlot i → IsRootWithout i → (r : Option (Ptr BasicBlock)) → r ≡ option_map (of_slot c.forest.blocks) o → MatchOption r (IsUnlinkedOperation c p) (λ b. StandsInBlock c p b)
    parent_block_is l root r e = subst (λ (z : Option (Ptr BasicBlock)). MatchOption z (IsUnlinkedOperation c p) (λ b. StandsInBlock c p b)) (sym e) (by_cases o (subst IsParentSlot seen l) (subst IsRootWithout seen root)) where
      by_cases : (o : Option ℕ) → IfSome o (λ b. has p.key.slot (list_at c.forest.in_blocks.lists b) ≡ true) → (IsNone o → IsUnlinked c.forest.in_blocks.lists p.key.slot) → MatchOption (option_map (of_slot {E = BasicBlock} c.forest.blocks) o) (IsUnlinkedOperation c p) (λ b. StandsInBlock c p b)
      by_cases None h root = λ b s. both_ways _ (root refl b.key.slot) (has_slot c.forest.ops c.forest.blocks c.forest.in_blocks.lists (operations_in c) level b s.index p s.here)
      by_cases (Some b) h root = block_of_slot c level p b live h

    pub only_parent_block : IsOnlyParentSlot i → (b : Ptr BasicBlock) → StandsInBlock c p b → option_map (of_slot c.forest.blocks) o ≡ Some b
    only_parent_block only b s = ap (option_map (of_slot c.forest.blocks)) (subst IsOnlyParentSlot seen only b.key.slot (has_slot c.forest.ops c.forest.blocks c.forest.in_blocks.lists (operations_in c) level b s.index p s.here)) ∙ ap Some (handle_is c.forest.blocks b (block_got c b s.block))

pub all_operations_stand : {O B : Type 0} (c : Program O B) → AreListed c → (b : Ptr BasicBlock) → All (λ p. StandsInBlock c p b) (operations_in c b)
all_operations_stand c known b k p lt = stands_in_block c (in_blocks c known) b k (get_or (operations_in c b) k p) (slice_get-get_or (operations_in c b) k p lt)
