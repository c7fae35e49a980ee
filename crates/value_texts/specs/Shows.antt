-- Which pieces parts show, given which a single part shows.
use Rattle.std.specs.Prelude.{List, [], ◌∷◌, Vec}
use Rattle.std.specs.Global.{Global}
use Rattle.ir_names.specs.Tree.{node, no_tree, a_tree}
use Rattle.ir_print.specs.Pieces.{item, ValueTree, Pieces}

-- each part shows the piece beside it, and neither has more
abbrev pub ShowsAll : {P : Type 0} → (P → ValueTree → Type 0) → List P → Pieces → Type 0
ShowsAll R [] no_tree = Unit {0}
ShowsAll R (p ∷ ps) (a_tree t ts) = R p t × ShowsAll R ps ts
ShowsAll R _ _ = ⊥

-- the parts of a member of a list show the pieces of this one
abbrev pub ShowsMember : {P : Type 0} → (P → ValueTree → Type 0) → List P → ValueTree → Type 0
ShowsMember R ps (node item ts) = ShowsAll R ps ts
ShowsMember R ps (node _ ts) = ⊥

-- each member of a list shows the one beside it, and neither has more
abbrev pub ShowsMembers : {P : Type 0} → (P → ValueTree → Type 0) → List (Vec P Global) → Pieces → Type 0
ShowsMembers R [] no_tree = Unit {0}
ShowsMembers R (m ∷ ms) (a_tree t ts) = ShowsMember R m.items t × ShowsMembers R ms ts
ShowsMembers R _ _ = ⊥
