-- Which tokens name definitions of values, which mention values, which name blocks, and which mention blocks.
use Rattle.std.specs.Prelude.{ℕ, ◌+◌, ◌-◌, List, [], ◌∷◌, ◌++◌}
use Rattle.ir_grammar.specs.declared.grammar.Action.{Action}
use Rattle.ir_grammar.specs.declared.grammar.Action.TheVariants as act
use Rattle.ir_grammar.specs.declared.grammar.Event.{Event}
use Rattle.ir_grammar.specs.declared.grammar.Event.TheVariants.{Took, Did}

-- the token of an action, if it names a definition
abbrev pub defined_by : Action → ℕ → List ℕ
defined_by act.Result k = k ∷ []
defined_by act.Argument k = k ∷ []
defined_by _ k = []

-- the tokens that name definitions among events, so many tokens having been taken before
abbrev pub defined_from : ℕ → List Event → List ℕ
defined_from n [] = []
defined_from n (Took ∷ es) = defined_from (n + 1) es
defined_from n (Did a ∷ es) = defined_by a (n - 1) ++ defined_from n es

-- the same of the tokens that mention values
abbrev pub mentioned_by : Action → ℕ → List ℕ
mentioned_by act.Operand k = k ∷ []
mentioned_by _ k = []

abbrev pub mentioned_from : ℕ → List Event → List ℕ
mentioned_from n [] = []
mentioned_from n (Took ∷ es) = mentioned_from (n + 1) es
mentioned_from n (Did a ∷ es) = mentioned_by a (n - 1) ++ mentioned_from n es

-- the same of the tokens that name blocks, their labels
abbrev pub labelled_by : Action → ℕ → List ℕ
labelled_by act.Label k = k ∷ []
labelled_by _ k = []

abbrev pub labelled_from : ℕ → List Event → List ℕ
labelled_from n [] = []
labelled_from n (Took ∷ es) = labelled_from (n + 1) es
labelled_from n (Did a ∷ es) = labelled_by a (n - 1) ++ labelled_from n es

-- the same of the tokens that mention blocks, the labels of edges
abbrev pub label_mentioned_by : Action → ℕ → List ℕ
label_mentioned_by act.BeginSuccessor k = k ∷ []
label_mentioned_by _ k = []

abbrev pub label_mentioned_from : ℕ → List Event → List ℕ
label_mentioned_from n [] = []
label_mentioned_from n (Took ∷ es) = label_mentioned_from (n + 1) es
label_mentioned_from n (Did a ∷ es) = label_mentioned_by a (n - 1) ++ label_mentioned_from n es
