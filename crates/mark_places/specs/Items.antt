-- Which item a mark belongs to: an operation, or a block by its header.
use Rattle.std.specs.Prelude.{◌≡◌, ℕ, ◌+◌, ◌-◌, ◌==◌, List, [], ◌∷◌, Option, Some, None, slice_index_or}
use Rattle.std.specs.List.{position}
use Rattle.ir_grammar.specs.declared.grammar.Action.{Action}
use Rattle.ir_grammar.specs.declared.grammar.Action.TheVariants.{EndOperation, Header}
use Rattle.ir_grammar.specs.declared.grammar.Event.{Event}
use Rattle.ir_grammar.specs.declared.grammar.Event.TheVariants.{Took, Did}

-- The number of tokens behind which the item ends that an action ends, if it ends one, where so many tokens are taken: an
-- operation ends behind all of them, and the header of a block before the last one, which is its `:`.
abbrev pub end_at : ℕ → Action → Option ℕ
end_at taken EndOperation = Some taken
end_at taken Header = Some (taken - 1)
end_at taken _ = None

-- the ends with this one before them, if there is one
abbrev pub with_end : Option ℕ → List ℕ → List ℕ
with_end None ends = ends
with_end (Some end) ends = end ∷ ends

-- the ends of the items of some events, before which so many tokens are taken
abbrev pub ends_behind : ℕ → List Event → List ℕ
ends_behind taken [] = []
ends_behind taken (Took ∷ es) = ends_behind (taken + 1) es
ends_behind taken (Did a ∷ es) = with_end (end_at taken a) (ends_behind taken es)

-- the numbers of tokens behind which the items end that reading gave these events for, in the order of the events
abbrev pub ends_of : List Event → List ℕ
ends_of es = ends_behind 0 es

-- the number of the item that a mark with so many tokens before it belongs to: the first that ends behind as many
abbrev pub item_of : List ℕ → ℕ → Option ℕ
item_of ends tokens = position (λ end. end == tokens) ends

-- the table has at each number of tokens the item that a mark behind so many belongs to
abbrev pub AreItemsOf : List ℕ → List (Option ℕ) → Type 0
AreItemsOf ends table = (tokens : ℕ) → slice_index_or table tokens None ≡ item_of ends tokens
