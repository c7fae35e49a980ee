-- Which pieces can show what is said.
use Rattle.std.specs.Prelude.{◌≡◌, ℕ, List, refl}
use Rattle.std.proofs.Common.{sym, subst}
use Rattle.ir_names.specs.Tree.{LabelledTree, Trees, node, no_tree, a_tree}
use Rattle.ir_print.specs.Pieces.{value_of_kind, list, item, operands, successor, region, leaf, ValueTree, Pieces, chosen}
use Rattle.ir_print.specs.declared.format.ValueSort.TheVariants as sorts
use Rattle.ir_print.specs.Shown.{Said, said_type, said_attribute, said_list, said_item, said_operands, said_successor, said_region, said_leaf, Saying, Shows, ShowsAll, ShowsType, ShowsAttribute, said_choice}

module _ {K A T : Type 0} (says : Saying K A T) (types : List T) where
  -- the piece of what is said
  abbrev pub SeenPiece : LabelledTree (Said A) → ValueTree → Type 0
  SeenPiece (node (said_type ty) us) t = (n : ℕ) × (ts : Pieces) × (t ≡ node (value_of_kind sorts.«Type» n) ts) × ShowsType says types ty (node (value_of_kind sorts.«Type» n) ts)
  SeenPiece (node (said_attribute a) us) t = (n : ℕ) × (ts : Pieces) × (t ≡ node (value_of_kind sorts.Attribute n) ts) × ShowsAttribute says types a (node (value_of_kind sorts.Attribute n) ts)
  SeenPiece (node said_list us) t = (ts : Pieces) × (t ≡ node list ts) × ShowsAll says types us ts
  SeenPiece (node said_item us) t = (ts : Pieces) × (t ≡ node item ts) × ShowsAll says types us ts
  SeenPiece (node (said_choice n) us) t = (ts : Pieces) × (t ≡ node (chosen n) ts) × ShowsAll says types us ts
  SeenPiece (node (said_operands n) us) t = (ts : Pieces) × (t ≡ node (operands n) ts)
  SeenPiece (node (said_successor n) us) t = (ts : Pieces) × (t ≡ node (successor n) ts)
  SeenPiece (node said_region us) t = (ts : Pieces) × (t ≡ node region ts)
  SeenPiece (node (said_leaf l) us) t = (ts : Pieces) × (t ≡ node (leaf l) ts)

  -- what is shown is seen
  pub seen : (x : LabelledTree (Said A)) (t : ValueTree) → Shows says types x t → SeenPiece x t
  seen x (node (value_of_kind sorts.«Type» n) ts) h = subst (λ y. SeenPiece y (node (value_of_kind sorts.«Type» n) ts)) (sym h.3) (n, ts, refl, (h.0, h.1, h.2, refl, h.4, h.5, h.6))
  seen x (node (value_of_kind sorts.Attribute n) ts) h = subst (λ y. SeenPiece y (node (value_of_kind sorts.Attribute n) ts)) (sym h.2) (n, ts, refl, (h.0, h.1, refl, h.3, h.4))
  seen x (node list ts) h = subst (λ y. SeenPiece y (node list ts)) (sym h.1) (ts, refl, h.2)
  seen x (node item ts) h = subst (λ y. SeenPiece y (node item ts)) (sym h.1) (ts, refl, h.2)
  seen x (node (chosen n) ts) h = subst (λ y. SeenPiece y (node (chosen n) ts)) (sym h.1) (ts, refl, h.2)
  seen x (node (operands n) ts) h = subst (λ y. SeenPiece y (node (operands n) ts)) (sym h) (ts, refl)
  seen x (node (successor n) ts) h = subst (λ y. SeenPiece y (node (successor n) ts)) (sym h) (ts, refl)
  seen x (node region ts) h = subst (λ y. SeenPiece y (node region ts)) (sym h) (ts, refl)
  seen x (node (leaf l) ts) h = subst (λ y. SeenPiece y (node (leaf l) ts)) (sym h) (ts, refl)

  -- nothing is shown by no pieces
  pub none_seen : (ps : Pieces) → ShowsAll says types no_tree ps → ps ≡ no_tree
  none_seen no_tree h = refl
  none_seen (a_tree t ts) h = absurd h

  -- what is said is shown by one piece each
  pub first_seen : (x : LabelledTree (Said A)) (us : Trees (Said A)) (ps : Pieces) → ShowsAll says types (a_tree x us) ps → (t : ValueTree) × (ts : Pieces) × (ps ≡ a_tree t ts) × SeenPiece x t × ShowsAll says types us ts
  first_seen x us no_tree h = absurd h
  first_seen x us (a_tree t ts) h = (t, ts, refl, seen x t h.0, h.1)

  pub one_seen : (x : LabelledTree (Said A)) (ps : Pieces) → ShowsAll says types (a_tree x no_tree) ps → (t : ValueTree) × (ps ≡ a_tree t no_tree) × SeenPiece x t
  one_seen x ps h = let first = first_seen x no_tree ps h in
      let e : ps ≡ a_tree first.0 no_tree = subst (λ (us : Pieces). ps ≡ a_tree first.0 us) (none_seen first.1 first.4) first.2 in (first.0, e, first.3)

  pub two_seen : (x y : LabelledTree (Said A)) (ps : Pieces) → ShowsAll says types (a_tree x (a_tree y no_tree)) ps → (t u : ValueTree) × (ps ≡ a_tree t (a_tree u no_tree)) × SeenPiece x t × SeenPiece y u
  two_seen x y ps h = let first = first_seen x (a_tree y no_tree) ps h in let rest = one_seen y first.1 first.4 in
      let e : ps ≡ a_tree first.0 (a_tree rest.0 no_tree) = subst (λ (us : Pieces). ps ≡ a_tree first.0 us) rest.1 first.2 in (first.0, rest.0, e, first.3, rest.2)

  pub three_seen : (x y z : LabelledTree (Said A)) (ps : Pieces) → ShowsAll says types (a_tree x (a_tree y (a_tree z no_tree))) ps → (t u v : ValueTree) × (ps ≡ a_tree t (a_tree u (a_tree v no_tree))) × SeenPiece x t × SeenPiece y u × SeenPiece z v
  three_seen x y z ps h = let first = first_seen x (a_tree y (a_tree z no_tree)) ps h in let rest = two_seen y z first.1 first.4 in
      let e : ps ≡ a_tree first.0 (a_tree rest.0 (a_tree rest.1 no_tree)) = subst (λ (us : Pieces). ps ≡ a_tree first.0 us) rest.2 first.2 in (first.0, rest.0, rest.1, e, first.3, rest.3, rest.4)
