-- Marks on indices.
use Rattle.std.specs.Prelude.{ℕ, Bool, false, List, unwrap_or, slice_get}

-- the indices that are marked; those past the end of the list are not
abbrev pub marked : List Bool → ℕ → Bool
marked marks i = unwrap_or (slice_get marks i) false
