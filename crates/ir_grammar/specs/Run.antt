-- How far a reader has come.
use Rattle.std.specs.Prelude.{◌≡◌, ℕ, suc, ◌-◌, ◌≤◌, List, [], ◌∷◌, ◌++◌, length, ◌⊎◌, Bool, true, false, Option, Some, None}
use Rattle.ir_grammar.specs.declared.grammar.Symbol.{Symbol}
use Rattle.ir_grammar.specs.declared.grammar.Event.{Event}
use Rattle.ir_grammar.specs.declared.grammar.Event.TheVariants.{Took}
use Rattle.ir_grammar.specs.declared.grammar.Grammar.{Grammar}
use Rattle.ir_grammar.specs.declared.grammar.Stop.{Stop}
use Rattle.ir_grammar.specs.declared.grammar.Stop.TheVariants.{Text, Stuck, Deep}
use Rattle.ir_grammar.specs.Grammar.{Derives, IsTextOf, IsText}
use Rattle.ir_grammar.specs.Table.{column_of}
use Rattle.ir_grammar.specs.Reading.{through, tooks, IsPrefix, IsMostly, IsMost, IsFirstDeep, depth_after}

-- After the tokens done, which did this, the stack stands for what may come, whatever it is.
pub record LeadsToStack (g : Grammar) (root : ℕ) (done : List ℕ) (did : List Event) (stack : List Symbol) : Type 0 where
  pub took : tooks did ≡ length done
  pub on : (ts : List ℕ) (more : List Event) → Derives g stack ts more → IsTextOf g root (done ++ ts) (did ++ more)
  pub back : (ts : List ℕ) (all : List Event) → IsTextOf g root (done ++ ts) all → (more : List Event) × (all ≡ did ++ more) × Derives g stack ts more

-- The same, where what comes begins at this column.
pub record LeadsAt (g : Grammar) (root : ℕ) (done : List ℕ) (did : List Event) (stack : List Symbol) (c : ℕ) : Type 0 where
  pub took : tooks did ≡ length done
  pub on : (ts : List ℕ) (more : List Event) → Derives g stack ts more → IsTextOf g root (done ++ ts) (did ++ more)
  pub back : (ts : List ℕ) (all : List Event) → column_of ts ≡ c → IsTextOf g root (done ++ ts) all → (more : List Event) × (all ≡ did ++ more) × Derives g stack ts more

-- The same, for texts of which more may end at the last token done than did. The others go on, and did no more but begin members.
pub record Closes (g : Grammar) (root : ℕ) (done : List ℕ) (did : List Event) (stack : List Symbol) : Type 0 where
  pub took : tooks did ≡ length done
  pub on : (ts : List ℕ) (more : List Event) → Derives g stack ts more → IsTextOf g root (done ++ ts) (did ++ more)
  pub back : (ts : List ℕ) (all : List Event) → IsTextOf g root (done ++ ts) all
      → (((start : List Event) × IsMostly (through all (length done)) start × IsPrefix start did) × (ts ≡ [] → ⊥)) ⊎ ((more : List Event) × (all ≡ did ++ more) × Derives g stack ts more)

-- no text goes on at this column
abbrev pub IsStuck : Grammar → ℕ → List ℕ → ℕ → Type 0
IsStuck g root done c = (ts : List ℕ) (all : List Event) → column_of ts ≡ c → IsTextOf g root (done ++ ts) all → ⊥

-- the stack after a token that may come, or that none may come
abbrev pub Advances : Grammar → ℕ → List ℕ → ℕ → Bool → List Event → List Symbol → Type 0
Advances g root done k true did stack = LeadsToStack g root (done ++ k ∷ []) did stack
Advances g root done k false did stack = IsStuck g root done (suc k) × Closes g root done did stack

-- the new events are the old ones, some actions and a token
abbrev pub Grows : List Event → List Event → Type 0
Grows old new = (acts : List Event) × (new ≡ (old ++ acts) ++ Took ∷ [])

-- How many parts are open after these events, of which none is too deep; or none where the first that is too deep began at the
-- last of n tokens.
abbrev pub IsDepth : ℕ → ℕ → List Event → Option ℕ → Type 0
IsDepth many n es None = IsFirstDeep many es (Some (n - 1))
IsDepth many n es (Some d) = (d ≤ many) × (d ≡ depth_after 0 es) × IsFirstDeep many es None

-- what closing all that may end answers
abbrev pub Ends : Grammar → ℕ → List ℕ → Stop → List Event → Type 0
Ends g root front Text es = IsMost g root front es × IsTextOf g root front es
Ends g root front Stuck es = IsMost g root front es × (IsText g root front → ⊥)
Ends g root front Deep es = ⊥
