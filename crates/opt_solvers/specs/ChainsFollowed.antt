-- What following numbers to their ends keeps and gives.
use Rattle.std.specs.Prelude.{◌≡◌, ◌⊎◌, ◌<◌, ℕ, Bool, true, false, List, length, replicate, ◌∷◌, [], ◌++◌, Option, Some, None, slice_get, slice_set, Contains}
use Rattle.opt_solvers.specs.declared.chains_followed.Mark.{Mark}
use Rattle.opt_solvers.specs.declared.chains_followed.Mark.TheVariants.{New, OnPath, Done}
use Rattle.opt_solvers.specs.declared.chains_followed.Following.{Following}
use Rattle.opt_rows.specs.Chains.{EndsUpAt, StepsAlong}

-- what a number stands for is a number below the count
abbrev pub AreLinksInRange : List (Option ℕ) → Type 0
AreLinksInRange next = (v u : ℕ) → slice_get next v ≡ Some (Some u) → u < length next

-- the number has this mark
abbrev pub HasMark : Following → ℕ → Mark → Type 0
HasMark s v m = slice_get s.marks.items v ≡ Some m

-- this is written as the end of the number
abbrev pub HasFinal : Following → ℕ → ℕ → Type 0
HasFinal s v f = slice_get s.finals.items v ≡ Some f

-- what has been followed has its end, and no path is being walked
pub record IsFollowing (next : List (Option ℕ)) (s : Following) : Type 0 where
  pub marks : length s.marks.items ≡ length next
  pub finals : length s.finals.items ≡ length next
  pub done : (v f : ℕ) → HasMark s v Done → HasFinal s v f → EndsUpAt next v f
  pub no_path : (v : ℕ) → HasMark s v OnPath → ⊥

-- so many numbers, of which none has been followed
pub record AreUnfollowed (count : ℕ) (s : Following) : Type 0 where
  pub marks : s.marks.items ≡ replicate count New
  pub finals : length s.finals.items ≡ count

-- one number more is on the path
pub record EntersPath (old new : Following) (path longer : List ℕ) (at : ℕ) : Type 0 where
  pub marks : new.marks.items ≡ slice_set old.marks.items at OnPath
  pub finals : new.finals.items ≡ old.finals.items
  pub pushed : longer ≡ path ++ at ∷ []

-- all on the path have the same end
pub record EndsPath (next : List (Option ℕ)) (old new : Following) (path : List ℕ) (start end : ℕ) : Type 0 where
  pub marks : length new.marks.items ≡ length next
  pub finals : new.finals.items ≡ old.finals.items
  pub keeps : (v : ℕ) → HasMark old v Done → HasMark new v Done
  pub done : (v : ℕ) → HasMark new v Done → HasMark old v Done
  pub on_path : (v : ℕ) → HasMark new v OnPath → Contains path v
  pub in_range : (v : ℕ) → Contains path v → v < length next
  pub follows : (v : ℕ) → Contains path v → EndsUpAt next v end
  pub begun : HasMark old start Done ⊎ Contains path start

-- the walk came back to itself, or it has an end
abbrev pub Walks : List (Option ℕ) → Following → Following → List ℕ → ℕ → Option ℕ → Type 0
Walks next old new path start None = (v : ℕ) × StepsAlong next v v
Walks next old new path start (Some end) = EndsPath next old new path start end

-- the marks and the ends of the number are the same
abbrev pub IsSameAt : Following → Following → ℕ → Type 0
IsSameAt old new v = (slice_get new.marks.items v ≡ slice_get old.marks.items v) × (slice_get new.finals.items v ≡ slice_get old.finals.items v)

-- all on the path are done with this end, and nothing else changed
pub record WritesBack (old new : Following) (path : List ℕ) (end : ℕ) : Type 0 where
  pub marks : length new.marks.items ≡ length old.marks.items
  pub finals : length new.finals.items ≡ length old.finals.items
  pub here : (v : ℕ) → Contains path v → HasMark new v Done × HasFinal new v end
  pub cases : (v : ℕ) → Contains path v ⊎ IsSameAt old new v

-- the number has its end, and all that had theirs still have it
pub record FinalIsKnown (next : List (Option ℕ)) (old new : Following) (start : ℕ) : Type 0 where
  pub following : IsFollowing next new
  pub keeps : (v : ℕ) → HasMark old v Done → HasMark new v Done
  pub there : HasMark new start Done

-- the number has an end, which is known now, or following leads from some number back to it
abbrev pub FindsFinal : List (Option ℕ) → Following → Following → ℕ → Bool → Type 0
FindsFinal next old new start false = (v : ℕ) × StepsAlong next v v
FindsFinal next old new start true = FinalIsKnown next old new start

-- each number has its end, and following leads from none back to it
pub record AreFinals (next : List (Option ℕ)) (finals : List ℕ) : Type 0 where
  pub len : length finals ≡ length next
  pub follows : (v f : ℕ) → slice_get finals v ≡ Some f → EndsUpAt next v f
  pub never_back : (v : ℕ) → StepsAlong next v v → ⊥
