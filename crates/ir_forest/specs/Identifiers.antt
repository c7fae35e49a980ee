-- What the names of a text are spelled like.
use Rattle.std.specs.Prelude.{◌≡◌, ℕ, ◌+◌, ◌-◌, List, [], ◌∷◌, true}
use Rattle.ir_names.specs.Text.{is_identifier}
use Rattle.ir_grammar.specs.declared.grammar.Action.{Action}
use Rattle.ir_grammar.specs.declared.grammar.Action.TheVariants as act
use Rattle.ir_grammar.specs.declared.grammar.Event.{Event}
use Rattle.ir_print.specs.declared.format.LeafSort.TheVariants as leaves
use Rattle.ir_grammar.specs.declared.grammar.Event.TheVariants.{Took, Did}

-- an action that keeps a name, done behind a token of these characters, comes behind an identifier
abbrev pub IsSpelt : Action → List ℕ → Type 0
IsSpelt (act.Leaf leaves.Name) cs = is_identifier cs ≡ true
IsSpelt act.Label cs = is_identifier cs ≡ true
IsSpelt _ cs = Unit {0}

-- Each action of the events is spelt so, given the characters of each token; n tokens have been taken before.
abbrev pub AreSpelt : (ℕ → List ℕ) → ℕ → List Event → Type 0
AreSpelt text n [] = Unit {0}
AreSpelt text n (Took ∷ es) = AreSpelt text (n + 1) es
AreSpelt text n (Did a ∷ es) = IsSpelt a (text (n - 1)) × AreSpelt text n es
