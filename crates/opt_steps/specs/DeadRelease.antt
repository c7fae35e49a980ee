-- Counts of uses while places are excused, and the items that die by it.
use Rattle.std.specs.Prelude.{◌≡◌, ◌⊎◌, ◌<◌, ◌≤◌, ◌+◌, ℕ, Bool, List, [], ◌∷◌, length, nat_eq, if◌then◌else◌, slice_index, Contains, ◌↔◌}
use Rattle.digraph.specs.Counts.{count_of}
use Rattle.opt_rows.specs.Rows.{row_at}
use Rattle.digraph.specs.Marks.{IsMarked}
use Rattle.digraph.specs.Work.{HasNode, Waits, Adds}
use Rattle.digraph.specs.declared.worklist.Worklist.{Worklist}
use Rattle.opt_steps.specs.declared.dead_release.Counts.{Counts}

-- the item, if it has no uses
abbrev pub newly : ℕ → ℕ → List ℕ
newly uses item = if nat_eq uses 0 then item ∷ [] else []

-- the items without uses wait
pub record IsStarted (uses : List ℕ) (work : Worklist) : Type 0 where
  pub len : length work.marked.items ≡ length uses
  pub has : (x : ℕ) → x < length uses → slice_index uses x ≡ 0 → HasNode work x
  pub only : (x : ℕ) → HasNode work x → (x < length uses) × (slice_index uses x ≡ 0)
  pub waits : (x : ℕ) → HasNode work x → Waits work x

-- items have at least so many uses as they are to lose
pub record IsReleasable (items uses : List ℕ) (work : Worklist) : Type 0 where
  pub marks : length work.marked.items ≡ length uses
  pub within : (x : ℕ) → Contains items x → x < length uses
  pub enough : (x : ℕ) → count_of x items ≤ slice_index uses x

-- items lose a use each, and those without uses are added to the work
pub record Releases (items old new : List ℕ) (before after : Worklist) : Type 0 where
  pub len : length new ≡ length old
  pub counts : (x : ℕ) → slice_index new x + count_of x items ≡ slice_index old x
  pub added : List ℕ
  pub adds : Adds before after added
  pub spent : (x : ℕ) → Contains added x → (slice_index new x ≡ 0) × Contains items x
  pub all : (x : ℕ) → Contains items x → slice_index new x ≡ 0 → Contains added x

-- how often the rows of places that aren't excused have a number
abbrev pub keeping : List Bool → List (List ℕ) → ℕ → ℕ
keeping [] rows x = 0
keeping (b ∷ bs) [] x = 0
keeping (b ∷ bs) (row ∷ rows) x = (if b then 0 else count_of x row) + keeping bs rows x

-- each item has a use for each place that keeps it and isn't excused
pub record IsCounted (keeps : List (List ℕ)) (excused : List Bool) (uses : List ℕ) (work : Worklist) : Type 0 where
  pub places : length excused ≡ length keeps
  pub marks : length work.marked.items ≡ length uses
  pub within : (k x : ℕ) → Contains (row_at keeps k) x → x < length uses
  pub enough : (x : ℕ) → keeping excused keeps x ≤ slice_index uses x

-- such places are excused too, the items that they keep lose their uses, and those without uses are added to the work
pub record ExcusesAll (keeps : List (List ℕ)) (Such : ℕ → Type 0) (excused more : List Bool) (old new : List ℕ) (before after : Worklist) : Type 0 where
  pub counted : IsCounted keeps more new after
  pub len : length new ≡ length old
  pub marked : (k : ℕ) → IsMarked more k ↔ IsMarked excused k ⊎ Such k
  pub counts : (x : ℕ) → slice_index new x + keeping excused keeps x ≡ slice_index old x + keeping more keeps x
  pub less : (x : ℕ) → slice_index new x ≤ slice_index old x
  pub added : List ℕ
  pub adds : Adds before after added
  pub spent : (x : ℕ) → Contains added x → (slice_index new x ≡ 0) × (x < length new)
  pub all : (x : ℕ) → slice_index new x ≡ 0 → (slice_index old x ≡ 0) ⊎ Contains added x

-- the same of the counts in one struct
abbrev pub AreCounts : List (List ℕ) → Counts → Type 0
AreCounts keeps c = IsCounted keeps c.excused.items c.uses.items c.work

abbrev pub ExcusesMore : List (List ℕ) → (ℕ → Type 0) → Counts → Counts → Type 0
ExcusesMore keeps Such a b = ExcusesAll keeps Such a.excused.items b.excused.items a.uses.items b.uses.items a.work b.work
