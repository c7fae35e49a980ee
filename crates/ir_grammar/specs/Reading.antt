-- What is read, and where it is refused.
use Rattle.std.specs.Prelude.{◌≡◌, Bool, true, false, ℕ, zero, suc, ◌+◌, ◌<◌, ◌≤◌, List, [], ◌∷◌, ◌++◌, ◌-◌, ◌⊎◌, Option, Some, None, cond, take, length}
use Rattle.ir_grammar.specs.declared.grammar.Action.{Action}
use Rattle.ir_grammar.specs.declared.grammar.Action.TheVariants.{BeginRegion, EndRegion, Begin, End, BeginItem, BeginChoice}
use Rattle.ir_grammar.specs.declared.grammar.Event.{Event}
use Rattle.ir_grammar.specs.declared.grammar.Event.TheVariants.{Took, Did}
use Rattle.ir_grammar.specs.declared.grammar.Grammar.{Grammar}
use Rattle.ir_grammar.specs.declared.grammar.Stop.{Stop}
use Rattle.ir_grammar.specs.declared.grammar.Stop.TheVariants.{Text, Stuck, Deep}
use Rattle.ir_grammar.specs.Grammar.{IsTextOf, IsText, IsViable}

-- The first n tokens are the longest front that begins a text.
pub record IsLongestFront (g : Grammar) (root : ℕ) (ts : List ℕ) (n : ℕ) : Type 0 where
  pub within : n ≤ length ts
  pub viable : IsViable g root (take n ts)
  pub longest : n < length ts → IsViable g root (take (n + 1) ts) → ⊥

-- of what is done in all, what is done at the first n tokens, before the next is taken
abbrev pub through : List Event → ℕ → List Event
through [] n = []
through (Took ∷ es) zero = []
through (Took ∷ es) (suc n) = Took ∷ through es n
through (Did a ∷ es) n = Did a ∷ through es n

-- the number of tokens that were taken
abbrev pub tooks : List Event → ℕ
tooks [] = 0
tooks (Took ∷ es) = suc (tooks es)
tooks (Did a ∷ es) = tooks es

-- the second list begins with the first
abbrev pub IsPrefix : List Event → List Event → Type 0
IsPrefix es fs = (more : List Event) × (fs ≡ es ++ more)

-- The action begins a member of a list, or one of several formats, whose first token is the next one.
abbrev pub begins_member : Action → Bool
begins_member BeginItem = true
begins_member (BeginChoice n) = true
begins_member _ = false

-- nothing is done but that members begin
abbrev pub OnlyBegins : List Event → Type 0
OnlyBegins [] = Unit {0}
OnlyBegins (Took ∷ es) = ⊥
OnlyBegins (Did a ∷ es) = (begins_member a ≡ true) × OnlyBegins es

-- The first list is the second, but for members that begin at its end.
abbrev pub IsMostly : List Event → List Event → Type 0
IsMostly es fs = (begun : List Event) × (es ≡ fs ++ begun) × OnlyBegins begun

-- The two lists are one, but for members that begin at the end of each.
abbrev pub AreMostlyAlike : List Event → List Event → Type 0
AreMostlyAlike es fs = (front : List Event) × IsMostly es front × IsMostly fs front

-- This is done at the front by a text that begins with it, and no text that does does more at it: but for members of lists that
-- begin with the next token, which is none of the front's.
pub record IsMost (g : Grammar) (root : ℕ) (front : List ℕ) (es : List Event) : Type 0 where
  pub some : (more : List ℕ) × (all : List Event) × IsTextOf g root (front ++ more) all × IsMostly (through all (length front)) es
  pub most : (more : List ℕ) (all : List Event) → IsTextOf g root (front ++ more) all → (start : List Event) × IsMostly (through all (length front)) start × IsPrefix start es

-- the action begins a part that counts for the depth: a region, a type or an attribute
abbrev pub opens : Action → Bool
opens BeginRegion = true
opens (Begin sort kind) = true
opens _ = false

-- the action ends such a part
abbrev pub closes : Action → Bool
closes EndRegion = true
closes (End sort) = true
closes _ = false

-- how many parts are open after an action, with d open before
abbrev pub depth_at : ℕ → Action → ℕ
depth_at d a = cond (opens a) (d + 1) (cond (closes a) (d - 1) d)

-- how many parts are open after events, with d open before
abbrev pub depth_after : ℕ → List Event → ℕ
depth_after d [] = d
depth_after d (Took ∷ es) = depth_after d es
depth_after d (Did a ∷ es) = depth_after (depth_at d a) es

-- Of events with d parts open before: a part begins where so many are open.
abbrev pub OpensMore : ℕ → ℕ → List Event → Type 0
OpensMore many d [] = ⊥
OpensMore many d (Took ∷ es) = OpensMore many d es
OpensMore many d (Did a ∷ es) = ((opens a ≡ true) × (many ≤ d)) ⊎ OpensMore many (depth_at d a) es

-- Of events behind n tokens, with d parts open: a part begins at token k, the one before it, where so many are open.
abbrev pub OpensAt : ℕ → ℕ → ℕ → List Event → ℕ → Type 0
OpensAt many n d [] k = ⊥
OpensAt many n d (Took ∷ es) k = OpensAt many (n + 1) d es k
OpensAt many n d (Did a ∷ es) k = ((opens a ≡ true) × (many ≤ d) × (k ≡ n - 1)) ⊎ OpensAt many n (depth_at d a) es k

-- The first part with so many others around it begins at this token, or there is none.
abbrev pub IsFirstDeep : ℕ → List Event → Option ℕ → Type 0
IsFirstDeep many es None = (k : ℕ) → OpensAt many 0 0 es k → ⊥
IsFirstDeep many es (Some k) = OpensAt many 0 0 es k × ((j : ℕ) → OpensAt many 0 0 es j → k ≤ j)

-- Each text that begins with the first n tokens does this up to the last of them, and opens too many parts before it.
pub record IsCutShort (g : Grammar) (root : ℕ) (many : ℕ) (ts : List ℕ) (n : ℕ) (es : List Event) : Type 0 where
  pub within : n ≤ length ts
  pub viable : IsViable g root (take n ts)
  pub each : (more : List ℕ) (all : List Event) → IsTextOf g root (take n ts ++ more) all → IsPrefix es all
  pub took : tooks es ≡ n
  pub last : (before : List Event) × (es ≡ before ++ Took ∷ []) × OpensMore many 0 before

-- What reading tokens of these kinds answers: why it stops, after how many tokens, and what was done. `many` parts may be open.
abbrev pub Reads : Grammar → ℕ → ℕ → List ℕ → Stop → ℕ → List Event → Type 0
Reads g root many ts Text n es = IsLongestFront g root ts n × IsMost g root (take n ts) es × IsTextOf g root (take n ts) es
Reads g root many ts Stuck n es = IsLongestFront g root ts n × IsMost g root (take n ts) es × (IsText g root (take n ts) → ⊥)
Reads g root many ts Deep n es = IsCutShort g root many ts n es
