-- The pass on control flow where values are named by their places: what an argument of a chain's later block stands for
-- is then told by its name alone.
use Rattle.std.specs.Prelude.{◌≡◌, ◌≤◌, ℕ, Bool, false, not, List, Option, Some, None, if◌then◌else◌, slice_get}
use Rattle.std.specs.Prelude.{unwrap_or}
use Rattle.kit_behaviour.specs.Machine.{Fun, FunctionsByPath}
use Rattle.kit_behaviour.specs.Numbering.{place_fun}
use Rattle.kit_behaviour.specs.Places.{Place, Arg, Res, same_place}
use Rattle.kit_behaviour.specs.RemovedValues.{thin}
use Rattle.kit_behaviour.specs.Replacement.{replace}
use Rattle.kit_behaviour.specs.SimplifiedBlocks.{IsReachedSet, keep, edges_in, IsJoinedSet, Depth, forwarded_to, join_fun}
use Rattle.kit_behaviour.specs.SimplifiedBlocks.{branched}

-- what an argument of a chain's later block stands for: what the one edge to that block forwards to it; of any other
-- value nothing
abbrev pub forward : (ℕ → Bool) → Option (Fun Place) → Place → Option Place
forward j f (Res b o i) = None
forward j f (Arg t i) = if j t then Some (unwrap_or (slice_get (forwarded_to t (edges_in f)) i) (Arg 0 0)) else None

-- v stands for u: followed until it is no argument of such a block
pub data Follows (n : Place → Option Place) : Place → Place → Type 0 where
  stop : (v u : Place) → n v ≡ None → u ≡ v → Follows n v u
  more : (v w u : Place) → n v ≡ Some w → Follows n w u → Follows n v u

-- the arguments of chains' later blocks
abbrev pub taken_arg : (ℕ → Bool) → Place → Bool
taken_arg j (Arg t i) = j t
taken_arg j (Res b o i) = false

-- the arguments of chains' later blocks replaced by what they stand for, and removed
abbrev pub replaced_args : (ℕ → Bool) → (Place → Place) → Option (Fun Place) → Option (Fun Place)
replaced_args j s f = thin (taken_arg j) (replace s f)

-- each chain joined at its first block, and the later blocks dropped; k is at least the number of further blocks of
-- each chain
abbrev pub merged : (ℕ → Bool) → (Place → Place) → ℕ → Option (Fun Place) → Option (Fun Place)
merged j s k f = keep (λ b. not (j b)) (join_fun j k (replaced_args j s f))

-- g is what joining makes of f
pub record IsMerged (f g : Option (Fun Place)) : Type 0 where
  pub taken : ℕ → Bool
  pub names : Place → Place
  pub most : ℕ
  pub is_taken : IsJoinedSet f taken
  pub follows : (v : Place) → Follows (forward taken f) v (names v)
  pub long : (b n : ℕ) → Depth f taken b n → n ≤ most
  pub is : g ≡ place_fun same_place (merged taken names most f)

-- g is what the pass makes of f
pub record Simplifies (f g : Option (Fun Place)) : Type 0 where
  pub reach : ℕ → Bool
  pub reached : IsReachedSet (branched f) reach
  pub merges : IsMerged (place_fun same_place (keep reach (branched f))) g

-- q is what the pass makes of p, function by function
pub record IsSimplify (p q : FunctionsByPath Place) : Type 0 where
  pub each : (path : List ℕ) → Simplifies (p path) (q path)
