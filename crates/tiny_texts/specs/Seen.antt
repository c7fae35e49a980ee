-- Which pieces show what is said, and which parts are which pieces.
use Rattle.std.specs.Prelude.{◌≡◌, ℕ, ◌^◌, nat_lt, Bool, true, false, List, [], ◌∷◌, Option, Some, None, refl}
use Rattle.std.proofs.Common.{sym, ap, ◌∙◌, subst, arith}
use Rattle.std.proofs.lemmas.Bool.Decides.{nat_tests}
use Rattle.std.proofs.lemmas.Option.{none-some, same_Some, some_pair_parts}
use Rattle.ir_names.specs.Tree.{LabelledTree, Trees, node, no_tree, a_tree, label_of}
use Rattle.ir_print.specs.Pieces.{Leaf, Piece, value_of_kind, list, item, chosen, operands, successor, region, leaf, name, number, unsigned, width, quoted, mark, ValueTree, Pieces}
use Rattle.ir_print.specs.declared.format.LeafValue.{LeafValue}
use Rattle.ir_print.specs.declared.format.LeafValue.TheVariants as read
use Rattle.ir_print.specs.declared.format.Part.{Part}
use Rattle.ir_print.specs.declared.format.ValueSort.TheVariants as sorts
use Rattle.ir_print.specs.Shown.{Said, said_attribute, said_operands, said_successor, said_region, said_leaf, alone, AreDigitsOf, IsLeaf, Shows, ShowsAll, ShowsPart, ShowsParts}
use Rattle.tiny_texts.specs.declared.dialect.Int.{Int}
use Rattle.tiny_texts.specs.declared.dialect.Constant.{Constant}
use Rattle.tiny_texts.specs.declared.dialect.TinyOp.{TinyOp}
use Rattle.tiny_texts.specs.Making.{piece_of, piece_of_leaf, one_part}
use Rattle.tiny_texts.specs.Forms.{attr_number}
use Rattle.tiny_texts.specs.Kinds.{kind_of}
use Rattle.tiny_texts.specs.Says.{says, one, only, magnitude, leaf_of, said_of_attribute, used, is_used, one_piece}

-- what is said where a test holds
pub only_if : {X : Type 0} (b : Bool) (s : Option X) (x : X) → only b s ≡ Some x → (b ≡ true) × (s ≡ Some x)
only_if true s x e = (refl, e)
only_if false s x e = absurd (none-some x e)

-- an attribute says itself
pub attribute_says : (a : Constant) (n : ℕ) (us : Trees (Said Constant)) → said_of_attribute a ≡ Some (n, us) →
    (nat_lt (magnitude a) (2 ^ 64) ≡ true) × (attr_number (kind_of a) ≡ n) × (one (alone (said_leaf (leaf_of a))) ≡ us)
attribute_says a n us e =
    let said = only_if (nat_lt (magnitude a) (2 ^ 64)) (Some (attr_number (kind_of a), one (alone (said_leaf (leaf_of a))))) (n, us) e in
    let same = some_pair_parts (attr_number (kind_of a)) n (one (alone (said_leaf (leaf_of a)))) us said.1 in
    (said.0, same.0, same.1)

-- the dialect has attributes
attribute_used : (k n : ℕ) → k ≡ n → Some (value_of_kind sorts.Attribute k) ≡ used (value_of_kind sorts.Attribute n)
attribute_used k n e = ap (λ (i : ℕ). used (value_of_kind sorts.Attribute i)) e

-- the piece that shows what is said, if the dialect has such pieces
abbrev pub said_piece : Said Constant → Option Piece
said_piece (said_attribute a) = Some (value_of_kind sorts.Attribute (attr_number (kind_of a)))
said_piece (said_operands n) = Some (operands n)
said_piece (said_successor n) = Some (successor n)
said_piece said_region = Some region
said_piece (said_leaf l) = used (leaf l)
said_piece said = None

module _ (types : List Int) where
  -- what is said is the piece that it is shown by
  heard : (x : LabelledTree (Said Constant)) (t : ValueTree) → Shows says types x t → said_piece (label_of x) ≡ used (label_of t)
  heard x (node (value_of_kind sorts.«Type» n) ts) h = ap (λ y. said_piece (label_of y)) h.3
  heard x (node (value_of_kind sorts.Attribute n) ts) h = ap (λ y. said_piece (label_of y)) h.2 ∙ attribute_used (attr_number (kind_of h.0)) n (attribute_says h.0 n h.1 h.3).1
  heard x (node list ts) h = ap (λ y. said_piece (label_of y)) h.1
  heard x (node item ts) h = ap (λ y. said_piece (label_of y)) h.1
  heard x (node (chosen n) ts) h = ap (λ y. said_piece (label_of y)) h.1
  heard x (node (operands n) ts) h = ap (λ y. said_piece (label_of y)) h
  heard x (node (successor n) ts) h = ap (λ y. said_piece (label_of y)) h
  heard x (node region ts) h = ap (λ y. said_piece (label_of y)) h
  heard x (node (leaf l) ts) h = ap (λ y. said_piece (label_of y)) h

  -- a piece that the dialect has is the one that it is
  labelled : (t : ValueTree) (p : Piece) → used (label_of t) ≡ Some p → (ts : Pieces) × (t ≡ node p ts)
  labelled (node q ts) p e = (ts, ap (λ (r : Piece). node r ts) (same_Some q p (only_if (is_used q) (Some q) p e).1))

  -- the one thing that is said is shown by one piece
  pub one_heard : (x : Said Constant) (p : Piece) (ps : Pieces) → said_piece x ≡ Some p → ShowsAll says types (one (alone x)) ps →
      (ts : Pieces) × (ps ≡ one (node p ts)) × Shows says types (alone x) (node p ts)
  one_heard x p no_tree e h = absurd h
  one_heard x p (a_tree t no_tree) e h =
      let piece = labelled t p (sym (heard (alone x) t h.0) ∙ e) in
      (piece.0, ap one piece.1, subst (λ (u : ValueTree). Shows says types (alone x) u) piece.1 h.0)
  one_heard x p (a_tree t (a_tree u us)) e h = absurd h.1

  pub none_heard : (ps : Pieces) → ShowsAll says types no_tree ps → ps ≡ no_tree
  none_heard no_tree h = refl
  none_heard (a_tree t ts) h = absurd h

-- ---- parts

-- the attribute that is said, or this one
abbrev attribute_in : Constant → Said Constant → Constant
attribute_in a (said_attribute b) = b
attribute_in a said = a

-- a number is as many bits
digits_read : (o : Option ℕ) (m : ℕ) → AreDigitsOf o m → piece_of_leaf (read.Digits o) ≡ used (leaf (unsigned m))
digits_read (Some n) m h = ap (λ (k : ℕ). used (leaf (unsigned k))) h
digits_read None m h =
    let great : nat_lt m (2 ^ 64) ≡ false = grind (arith, nat_tests) in ap (λ (b : Bool). only b (Some (leaf (unsigned m)))) (sym great)

-- a mark is as many bits
mark_read : (o : Option ℕ) (m : ℕ) → AreDigitsOf o m → piece_of_leaf (read.Mark o) ≡ used (leaf (mark m))
mark_read (Some n) m h = ap (λ (k : ℕ). used (leaf (mark k))) h
mark_read None m h =
    let great : nat_lt m (2 ^ 64) ≡ false = grind (arith, nat_tests) in ap (λ (b : Bool). only b (Some (leaf (mark m)))) (sym great)

leaf_read : (v : LeafValue) (l : Leaf) → IsLeaf v l → piece_of_leaf v ≡ used (leaf l)
leaf_read (read.Name id) (name cs) h = refl
leaf_read (read.Name id) l h = absurd h
leaf_read (read.Number o) (number b m) h = refl
leaf_read (read.Number o) l h = absurd h
leaf_read (read.Digits o) (unsigned m) h = digits_read o m h
leaf_read (read.Digits o) l h = absurd h
leaf_read (read.Width s o) (width sign bits) h = refl
leaf_read (read.Width s o) l h = absurd h
leaf_read (read.Text s) (quoted cs) h = refl
leaf_read (read.Text s) l h = absurd h
leaf_read (read.Mark o) (mark m) h = mark_read o m h
leaf_read (read.Mark o) l h = absurd h

module _ {D : Type 0} (types : List Int) where
  part_read : (p : Part D TinyOp Constant Int) (t : ValueTree) → ShowsPart says types p t → piece_of p ≡ used (label_of t)
  part_read p (node (value_of_kind sorts.«Type» n) ts) h = ap piece_of h.1
  part_read p (node (value_of_kind sorts.Attribute n) ts) h =
      let same : h.0 ≡ h.2.0 = ap (λ y. attribute_in h.0 (label_of y)) h.2.2 in
      ap piece_of h.1
      ∙ (ap (λ (a : Constant). Some (value_of_kind sorts.Attribute (attr_number (kind_of a)))) same
      ∙ attribute_used (attr_number (kind_of h.2.0)) n (attribute_says h.2.0 n h.2.1 h.2.3).1)
  part_read p (node list ts) h = ap piece_of h.1
  part_read p (node item ts) h = absurd h
  part_read p (node (chosen n) ts) h = ap piece_of h.1
  part_read p (node (operands n) ts) h = ap piece_of h
  part_read p (node (successor n) ts) h = ap piece_of h
  part_read p (node region ts) h = ap piece_of h
  part_read p (node (leaf l) ts) h = ap piece_of h.1 ∙ leaf_read h.0 l h.2

  -- the one part is the one piece
  pub parts_read : (ps : List (Part D TinyOp Constant Int)) (ts : Pieces) → ShowsParts says types ps ts → one_part ps ≡ one_piece ts
  parts_read [] no_tree h = refl
  parts_read [] (a_tree t ts) h = absurd h
  parts_read (p ∷ ps) no_tree h = absurd h
  parts_read (p ∷ []) (a_tree t no_tree) h = part_read p t h.0
  parts_read (p ∷ []) (a_tree t (a_tree u us)) h = absurd h.1
  parts_read (p ∷ q ∷ ps) (a_tree t no_tree) h = absurd h.1
  parts_read (p ∷ q ∷ ps) (a_tree t (a_tree u us)) h = refl
