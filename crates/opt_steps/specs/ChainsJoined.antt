-- The list of which block is joined to which.
use Rattle.std.specs.Prelude.{◌≡◌, ℕ, List, length, Option, Some, slice_get, ◌↔◌}
use Rattle.opt_rows.specs.declared.chains.ChainBlock.{ChainBlock}
use Rattle.opt_rows.specs.Chains.{IsJoinedTo}

-- at each block stands the one that it is joined to, if there is one
pub record AreJoined (blocks : List ChainBlock) (next : List (Option ℕ)) : Type 0 where
  pub len : length next ≡ length blocks
  pub exact : (a b : ℕ) → slice_get next a ≡ Some (Some b) ↔ IsJoinedTo blocks a b
