-- What reading did, as trees.
use Rattle.std.specs.Prelude.{◌≡◌, ℕ, ◌+◌, ◌-◌, List, [], ◌∷◌, ◌++◌, Option, Some, None, Bool, true, false}
use Rattle.ir_names.specs.Tree.{LabelledTree, Trees, node, no_tree, a_tree}
use Rattle.ir_grammar.specs.declared.grammar.Action.{Action}
use Rattle.ir_grammar.specs.declared.grammar.Action.TheVariants.{Operation, EndOperation, BeginRegion, EndRegion, Label, EndBlock, Begin, End, BeginOperands, EndOperands, BeginSuccessor, EndSuccessor, BeginList, BeginItem, EndItem, EndList, BeginChoice, EndChoice}
use Rattle.ir_grammar.specs.declared.grammar.Event.{Event}
use Rattle.ir_grammar.specs.declared.grammar.Event.TheVariants.{Took, Did}

-- the action that ends what an action begins
abbrev pub end_of : Action → Option Action
end_of (Operation kind) = Some EndOperation
end_of BeginRegion = Some EndRegion
end_of Label = Some EndBlock
end_of (Begin sort kind) = Some (End sort)
end_of BeginOperands = Some EndOperands
end_of BeginSuccessor = Some EndSuccessor
end_of BeginList = Some EndList
end_of BeginItem = Some EndItem
end_of (BeginChoice n) = Some EndChoice
end_of _ = None

-- whether an action ends something
abbrev pub is_end : Action → Bool
is_end EndOperation = true
is_end EndRegion = true
is_end EndBlock = true
is_end (End sort) = true
is_end EndOperands = true
is_end EndSuccessor = true
is_end EndItem = true
is_end EndList = true
is_end EndChoice = true
is_end _ = false

-- an action, and the token at which it was done
abbrev pub Deed : Type 0
Deed = Action × ℕ

-- the actions among events, each with the token that was taken last, so many having been taken before
abbrev pub deeds_from : ℕ → List Event → List Deed
deeds_from n [] = []
deeds_from n (Took ∷ es) = deeds_from (n + 1) es
deeds_from n (Did a ∷ es) = (a, n - 1) ∷ deeds_from n es

-- the actions among the events of a text, each with its token
abbrev pub deeds : List Event → List Deed
deeds es = deeds_from 0 es

-- An action that begins something or stands alone, its token, and the token at which what it begins ends.
pub record ActionSpan : Type 0 where
  pub action : Action
  pub first : ℕ
  pub last : ℕ

-- the last action of a tree, if its first begins something
abbrev pub ending : Option Action → ℕ → List Deed
ending None last = []
ending (Some a) last = (a, last) ∷ []

abbrev mutual
  -- the actions for which a tree stands: that which begins it, those of what is in it, and that which ends it
  pub deeds_of : LabelledTree ActionSpan → List Deed
  deeds_of (node s ts) = (s.action, s.first) ∷ (deeds_in ts ++ ending (end_of s.action) s.last)

  -- the actions for which trees stand, one after the other
  pub deeds_in : Trees ActionSpan → List Deed
  deeds_in no_tree = []
  deeds_in (a_tree t ts) = deeds_of t ++ deeds_in ts

-- A step that begins nothing ends nothing either: it stands alone, at one token, and nothing is in it.
abbrev pub IsWholeStep : Option Action → ActionSpan → Trees ActionSpan → Type 0
IsWholeStep (Some end) s ts = Unit {0}
IsWholeStep None s ts = (is_end s.action ≡ false) × (s.last ≡ s.first) × (ts ≡ no_tree)

-- Each step of the trees is what its action is: so deeds stand for one forest at most.
abbrev pub AreWhole : Trees ActionSpan → Type 0
AreWhole no_tree = Unit {0}
AreWhole (a_tree (node s ts) rest) = IsWholeStep (end_of s.action) s ts × AreWhole ts × AreWhole rest

-- reading did what these trees stand for
abbrev pub IsForestOf : List Event → Trees ActionSpan → Type 0
IsForestOf es ts = AreWhole ts × (deeds es ≡ deeds_in ts)

-- the tree is among what was read, whole
abbrev pub HasWholeTree : List Event → LabelledTree ActionSpan → Type 0
HasWholeTree es t = AreWhole (a_tree t no_tree) × (before : List Deed) × (after : List Deed) × (deeds es ≡ before ++ (deeds_of t ++ after))
