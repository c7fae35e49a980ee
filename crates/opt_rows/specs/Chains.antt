-- Chains of blocks that are joined, and values that are followed to what they stand for, over numbers.
use Rattle.std.specs.Prelude.{◌≡◌, ℕ, false, List, Option, Some, slice_get}
use Rattle.opt_rows.specs.declared.chains.ChainBlock.{ChainBlock}

-- the block a goes on to b alone, another block, which is no entry and which nothing else leads to
pub record IsJoinedTo (blocks : List ChainBlock) (a b : ℕ) : Type 0 where
  pub from : ChainBlock
  pub there : slice_get blocks a ≡ Some from
  pub only : from.only ≡ Some b
  pub to : ChainBlock
  pub target_there : slice_get blocks b ≡ Some to
  pub not_entry : to.is_entry ≡ false
  pub single : to.edges ≡ 1
  pub other : a ≡ b → ⊥

-- followed until it stands for no other
pub data EndsUpAt (next : List (Option ℕ)) : ℕ → ℕ → Type 0 where
  stops : (v : ℕ) → ((u : ℕ) → slice_get next v ≡ Some (Some u) → ⊥) → EndsUpAt next v v
  goes_on : (v u x : ℕ) → slice_get next v ≡ Some (Some u) → EndsUpAt next u x → EndsUpAt next v x

-- following leads from the one to the other, by one step at least
pub data StepsAlong (next : List (Option ℕ)) : ℕ → ℕ → Type 0 where
  goes : (v u : ℕ) → slice_get next v ≡ Some (Some u) → StepsAlong next v u
  goes_by : (v u x : ℕ) → slice_get next v ≡ Some (Some u) → StepsAlong next u x → StepsAlong next v x
