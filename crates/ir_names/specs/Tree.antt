-- Trees.
use Rattle.std.specs.Prelude.{ℕ, suc, List, [], ◌∷◌}

mutual
  -- a label, and the trees below it in their order
  pub data LabelledTree (L : Type 0) : Type 0 where
    node : L → Trees L → LabelledTree L

  pub data Trees (L : Type 0) : Type 0 where
    no_tree : Trees L
    a_tree : LabelledTree L → Trees L → Trees L

-- the label of a tree
abbrev pub label_of : {L : Type 0} → LabelledTree L → L
label_of (node l ts) = l

-- the trees below it
abbrev pub below : {L : Type 0} → LabelledTree L → Trees L
below (node l ts) = ts

-- how many trees there are
abbrev pub count : {L : Type 0} → Trees L → ℕ
count no_tree = 0
count (a_tree t ts) = suc (count ts)

-- the trees, one after the other
abbrev pub members : {L : Type 0} → Trees L → List (LabelledTree L)
members no_tree = []
members (a_tree t ts) = t ∷ members ts

-- the first trees, and then the others
abbrev pub join : {L : Type 0} → Trees L → Trees L → Trees L
join no_tree us = us
join (a_tree t ts) us = a_tree t (join ts us)
