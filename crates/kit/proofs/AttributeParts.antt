-- The parts that attributes are printed with show what they say.
use Rattle.std.proofs.Common.{◌≡◌, ℕ, ◌+◌, ◌<◌, ◌≤◌, Bool, List, [], ◌∷◌, ◌++◌, take, length, get_or, map, Option, Some, None, option_map, Vec, refl, sym, ap, ◌∙◌, subst}
use Rattle.std.specs.Global.{Global}
use Rattle.std.proofs.lemmas.List.{take_all, take_more}
use Rattle.std.proofs.lemmas.Option.{some_pair_parts}
use Rattle.ir_names.specs.declared.identifier.Identifier.{Identifier}
use Rattle.ir_names.specs.Identifier.{text_of}
use Rattle.ir_names.specs.Tree.{LabelledTree, Trees, node, no_tree, a_tree}
use Rattle.ir_print.specs.declared.format.Part.{Part}
use Rattle.ir_print.specs.declared.format.Part.TheVariants as part
use Rattle.ir_print.specs.declared.format.LeafValue.TheVariants as read
use Rattle.ir_print.specs.declared.format.ValueSort.TheVariants as sorts
use Rattle.ir_print.specs.Pieces.{Leaf, value_of_kind, name, unsigned, ValueTree, Pieces}
use Rattle.ir_print.specs.Shown.{Said, said_list, said_item, said_leaf, alone, IsLeaf, Pairs, ShowsAll, ShowsPart, ShowsParts, ShowsMember, ShowsMembers, ShowsAttribute}
use Rattle.kit_ops.specs.declared.kinds.KitOp.{KitOp}
use Rattle.kit_ops.specs.declared.types.KitType.{KitType}
use Rattle.kit_ops.specs.declared.attributes.KitAttr.{KitAttr}
use Rattle.kit_ops.specs.declared.attributes.KitAttr.TheVariants as attrs
use Rattle.kit.specs.Parts.{IsListOf, AreSizeParts, AreGivenNameParts}
use Rattle.kit.specs.Says.{says, one, only, members_said, size_said, given_name_said, are_sizes, said_of_attribute}
use Rattle.kit.specs.Readable.{said_if}
use Rattle.kit.specs.Seen.{SeenPiece, seen, none_seen, one_seen}

-- ---- lists

-- one more pair
pub pairs_more : {X Y : Type 0} (R : X → Y → Type 0) (xs : List X) (ys : List Y) (x : X) (y : Y) → Pairs R xs ys → R x y → Pairs R (xs ++ x ∷ []) (ys ++ y ∷ [])
pairs_more R [] [] x y h r = (r, tt)
pairs_more R [] (b ∷ ys) x y h r = absurd h
pairs_more R (a ∷ xs) [] x y h r = absurd h
pairs_more R (a ∷ xs) (b ∷ ys) x y h r = (h.0, pairs_more R xs ys x y h.1 r)

pub pairs_next : {X Y : Type 0} (R : X → Y → Type 0) (xs new : List X) (ys : List Y) (k : ℕ) (x : X) (d : Y) → k < length ys → new ≡ xs ++ x ∷ [] → Pairs R xs (take k ys) → R x (get_or ys k d) → Pairs R new (take (k + 1) ys)
pairs_next R xs new ys k x d small e h r =
    subst (λ vs. Pairs R vs (take (k + 1) ys)) (sym e)
    (subst (λ vs. Pairs R (xs ++ x ∷ []) vs) (sym (take_more ys k d small)) (pairs_more R xs (take k ys) x (get_or ys k d) h r))

pub pairs_all : {X Y : Type 0} (R : X → Y → Type 0) (xs : List X) (ys : List Y) (k : ℕ) → length ys ≤ k → Pairs R xs (take k ys) → Pairs R xs ys
pairs_all R xs ys k past h = subst (λ vs. Pairs R xs vs) (take_all k ys past) h

-- pairs with what values stand for
pub pairs_mapped : {X Y Z : Type 0} (R : X → Z → Type 0) (f : Y → Z) (xs : List X) (ys : List Y) → Pairs (λ x y. R x (f y)) xs ys → Pairs R xs (map f ys)
pairs_mapped R f [] [] h = tt
pairs_mapped R f [] (y ∷ ys) h = absurd h
pairs_mapped R f (x ∷ xs) [] h = absurd h
pairs_mapped R f (x ∷ xs) (y ∷ ys) h = (h.0, pairs_mapped R f xs ys h.1)

-- ---- attributes

module _ (types : List KitType) where
  -- the attribute says this, with whatever number
  said_shown : (attr : KitAttr) (m n : ℕ) (us : Trees (Said KitAttr)) (ps : Pieces) → said_of_attribute attr ≡ Some (m, us) → ShowsAttribute says types attr (node (value_of_kind sorts.Attribute n) ps) → ShowsAll says types us ps
  said_shown attr m n us ps e h =
      let same : h.0 ≡ attr = let f = h.2 in cc in
      let whole = some_pair_parts m n us h.1 (sym e ∙ (sym (ap said_of_attribute same) ∙ h.3)) in
      subst (λ (vs : Trees (Said KitAttr)). ShowsAll says types vs ps) (sym whole.1) h.4

  -- sizes that say anything have at most 32 bits
  sizes_shown : (sizes : Vec ℕ Global) (n : ℕ) (ps : Pieces) → ShowsAttribute says types (attrs.SegmentSizes sizes) (node (value_of_kind sorts.Attribute n) ps) → ShowsAll says types (one (node said_list (members_said size_said sizes.items))) ps
  sizes_shown sizes n ps h =
      let said = one (node said_list (members_said size_said sizes.items)) in
      let same : h.0 ≡ attrs.SegmentSizes sizes = let f = h.2 in cc in
      let small = said_if (are_sizes sizes.items) (Some (3, said)) n h.1 (sym (ap said_of_attribute same) ∙ h.3) in
      said_shown (attrs.SegmentSizes sizes) 3 n said ps (ap (λ (b : Bool). only b (Some (3, said))) small.0) h

module _ (D : Type 0) (types : List KitType) where
  -- ---- what is said, by its parts

  abbrev ShownBy : LabelledTree (Said KitAttr) → List (Part D KitOp KitAttr KitType) → Type 0
  ShownBy x qs = (t : ValueTree) → SeenPiece says types x t → ShowsParts says types qs (a_tree t no_tree)

  leaf_parted : (x : Leaf) (l : _) → IsLeaf l x → ShownBy (alone (said_leaf x)) (part.Leaf l ∷ [])
  leaf_parted x l is t s = (subst (λ (v : ValueTree). ShowsPart {D = D} says types (part.Leaf l) v) (sym s.1) (l, refl, is), tt)

  -- a tree alone is shown by its parts
  one_parted : (x : LabelledTree (Said KitAttr)) (qs : List (Part D KitOp KitAttr KitType)) (ps : Pieces) → ShownBy x qs → ShowsAll says types (one x) ps → ShowsParts says types qs ps
  one_parted x qs ps k h = let piece = one_seen says types x ps h in subst (λ (us : Pieces). ShowsParts says types qs us) (sym piece.1) (k piece.0 piece.2)

  -- members of a list, each of which says one tree
  members_parted : {X : Type 0} (R : List (Part D KitOp KitAttr KitType) → X → Type 0) (say : X → LabelledTree (Said KitAttr)) → ((qs : List (Part D KitOp KitAttr KitType)) (x : X) → R qs x → ShownBy (say x) qs) →
      (ms : List (Vec (Part D KitOp KitAttr KitType) Global)) (xs : List X) (ts : Pieces) → Pairs (λ m x. R m.items x) ms xs → ShowsAll says types (members_said say xs) ts → ShowsMembers says types ms ts
  members_parted R say k [] [] no_tree e h = tt
  members_parted R say k [] [] (a_tree t ts) e h = absurd h
  members_parted R say k [] (x ∷ xs) ts e h = absurd e
  members_parted R say k (m ∷ ms) [] ts e h = absurd e
  members_parted R say k (m ∷ ms) (x ∷ xs) no_tree e h = absurd h
  members_parted R say k (m ∷ ms) (x ∷ xs) (a_tree t ts) e h =
      let member = seen says types (node said_item (one (say x))) t h.0 in (
        subst (λ (v : ValueTree). ShowsMember says types m.items v) (sym member.1) (one_parted (say x) m.items member.0 (k m.items x e.0) member.2),
        members_parted R say k ms xs ts e.1 h.1,
      )

  list_parted : {X : Type 0} (R : List (Part D KitOp KitAttr KitType) → X → Type 0) (say : X → LabelledTree (Said KitAttr)) → ((qs : List (Part D KitOp KitAttr KitType)) (x : X) → R qs x → ShownBy (say x) qs) →
      (xs : List X) (p : Part D KitOp KitAttr KitType) → IsListOf R xs p → ShownBy (node said_list (members_said say xs)) (p ∷ [])
  list_parted R say k xs p is t s =
      (subst (λ (v : ValueTree). ShowsPart says types p v) (sym s.1) (is.0, is.1, members_parted R say k is.0.items xs s.0 is.2 s.2), tt)

  size_parted : (qs : List (Part D KitOp KitAttr KitType)) (n : ℕ) → AreSizeParts qs n → ShownBy (size_said n) qs
  size_parted qs n e = subst (λ rs. ShownBy (size_said n) rs) (sym e) (leaf_parted (unsigned n) (read.Digits (Some n)) refl)

  given_name_parted : (qs : List (Part D KitOp KitAttr KitType)) (o : Option (List ℕ)) → AreGivenNameParts qs o → ShownBy (given_name_said o) qs
  given_name_parted qs (Some cs) are t s =
      let inner : ShowsParts {D = D} says types (part.Leaf (read.Name are.0) ∷ []) s.0 =
      one_parted (alone (said_leaf (name cs))) (part.Leaf (read.Name are.0) ∷ []) s.0 (leaf_parted (name cs) (read.Name are.0) are.1) s.2 in
      subst (λ rs. ShowsParts says types rs (a_tree t no_tree)) (sym are.3)
      (subst (λ (v : ValueTree). ShowsPart says types (part.Choice 0 are.2) v) (sym s.1) (are.2, refl, subst (λ rs. ShowsParts says types rs s.0) (sym are.4) inner), tt)
  given_name_parted qs None are t s =
      let inner : ShowsParts {D = D} says types [] s.0 = subst (λ (us : Pieces). ShowsParts {D = D} says types [] us) (sym (none_seen says types s.0 s.2)) tt in
      subst (λ rs. ShowsParts says types rs (a_tree t no_tree)) (sym are.1)
      (subst (λ (v : ValueTree). ShowsPart says types (part.Choice 1 are.0) v) (sym s.1) (are.0, refl, subst (λ rs. ShowsParts says types rs s.0) (sym are.2) inner), tt)

  pub sizes_parted : (sizes : Vec ℕ Global) (p : Part D KitOp KitAttr KitType) (qs : List (Part D KitOp KitAttr KitType)) (n : ℕ) (ps : Pieces) → IsListOf AreSizeParts sizes.items p → qs ≡ p ∷ [] →
      ShowsAttribute says types (attrs.SegmentSizes sizes) (node (value_of_kind sorts.Attribute n) ps) → ShowsParts says types qs ps
  sizes_parted sizes p qs n ps e is h =
      subst (λ rs. ShowsParts says types rs ps) (sym is)
      (one_parted (node said_list (members_said size_said sizes.items)) (p ∷ []) ps (list_parted AreSizeParts size_said size_parted sizes.items p e) (sizes_shown types sizes n ps h))

  pub names_parted : (names : Vec (Option Identifier) Global) (p : Part D KitOp KitAttr KitType) (qs : List (Part D KitOp KitAttr KitType)) (n : ℕ) (ps : Pieces) → IsListOf AreGivenNameParts (map (option_map text_of) names.items) p → qs ≡ p ∷ [] →
      ShowsAttribute says types (attrs.GivenNames names) (node (value_of_kind sorts.Attribute n) ps) → ShowsParts says types qs ps
  names_parted names p qs n ps e is h =
      let texts = map (option_map text_of) names.items in
      let said = node said_list (members_said given_name_said texts) in
      subst (λ rs. ShowsParts says types rs ps) (sym is)
      (one_parted said (p ∷ []) ps (list_parted AreGivenNameParts given_name_said given_name_parted texts p e) (said_shown types (attrs.GivenNames names) 4 n (one said) ps refl h))
