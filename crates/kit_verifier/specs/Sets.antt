-- Sets as lists of members, and what is put to them.
use Rattle.std.specs.Prelude.{◌↔◌, ◌⊎◌, ℕ, List, map}
use Rattle.std.specs.Borrow.{Bor}
use Rattle.opt_trees.specs.Occurrences.{Has}

-- the new list has what the old one has, and those of which it holds
abbrev pub Gains : {X : Type 0} → List X → List X → (X → Type 0) → Type 0
Gains {X} old new P = (x : X) → Has x new ↔ (Has x old ⊎ P x)

-- the texts that references lead to
abbrev pub texts_of : List (Bor (List ℕ)) → List (List ℕ)
texts_of keys = map (λ (k : Bor (List ℕ)). k.now) keys
