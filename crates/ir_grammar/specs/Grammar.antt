-- A grammar, and the texts that it has. Texts are lists of the kinds of their tokens.
use Rattle.std.specs.Prelude.{◌≡◌, ℕ, List, [], ◌∷◌, ◌++◌, Option, Some, None, Bool, true, false, slice_get, slice_index_or}
use Rattle.ir_grammar.specs.declared.grammar.Action.{Action}
use Rattle.ir_grammar.specs.declared.grammar.Symbol.{Symbol}
use Rattle.ir_grammar.specs.declared.grammar.Symbol.TheVariants.{Sign, Part, Act}
use Rattle.ir_grammar.specs.declared.grammar.Event.{Event}
use Rattle.ir_grammar.specs.declared.grammar.Event.TheVariants.{Took, Did}
use Rattle.ir_grammar.specs.declared.grammar.Rule.{Rule}
use Rattle.ir_grammar.specs.declared.grammar.Class.{Class}
use Rattle.ir_grammar.specs.declared.grammar.Grammar.{Grammar}

-- the sign, if there is one, stands for this kind of token
abbrev pub accepted : Option Class → ℕ → Bool
accepted None k = false
accepted (Some class) k = slice_index_or class.kinds.items k false

-- tokens of this kind may stand where a sign does
abbrev pub accepts : Grammar → ℕ → ℕ → Bool
accepts g s k = accepted (slice_get g.signs.items s) k

-- The symbols stand for tokens of these kinds, and reading them does this: a sign takes a token, an action takes none,
-- and a part stands for the body of one of its rules.
pub data Derives (g : Grammar) : List Symbol → List ℕ → List Event → Type 0 where
  Finished : Derives g [] [] []
  Shifted : {s k : ℕ} {ss : List Symbol} {ts : List ℕ} {es : List Event} → accepts g s k ≡ true → Derives g ss ts es → Derives g (Sign s ∷ ss) (k ∷ ts) (Took ∷ es)
  Acted : {a : Action} {ss : List Symbol} {ts : List ℕ} {es : List Event} → Derives g ss ts es → Derives g (Act a ∷ ss) ts (Did a ∷ es)
  Expanded : {n : ℕ} {ss : List Symbol} {ts : List ℕ} {es : List Event} (p : ℕ) (r : Rule) → slice_get g.rules.items p ≡ Some r → r.part ≡ n → Derives g (r.body.items ++ ss) ts es → Derives g (Part n ∷ ss) ts es

-- a whole text of the root, and what reading it does
abbrev pub IsTextOf : Grammar → ℕ → List ℕ → List Event → Type 0
IsTextOf g root ts es = Derives g (Part root ∷ []) ts es

-- a whole text of the root
abbrev pub IsText : Grammar → ℕ → List ℕ → Type 0
IsText g root ts = (es : List Event) × IsTextOf g root ts es

-- some text begins with these tokens
abbrev pub IsViable : Grammar → ℕ → List ℕ → Type 0
IsViable g root ts = (more : List ℕ) × IsText g root (ts ++ more)
