-- A handle shows one text, where nothing stands below what has no pieces of its own.
use Rattle.std.proofs.Common.{◌≡◌, ℕ, List, Some, refl, sym, ap, ◌∙◌, subst}
use Rattle.std.specs.Prelude.{slice_get}
use Rattle.std.proofs.lemmas.Option.{same_Some, some_pair_parts}
use Rattle.ir_base.specs.declared.types.TypeHandle.{TypeHandle}
use Rattle.ir_forest.specs.Bare.{IsBare, AreBare}
use Rattle.ir_names.specs.Tree.{LabelledTree, Trees, node, no_tree, a_tree}
use Rattle.ir_print.specs.Pieces.{Piece, value_of_kind, list, item, operands, successor, region, leaf, chosen}
use Rattle.ir_print.specs.Pieces.{ValueTree, Pieces}
use Rattle.ir_print.specs.Shown.{Said, said_type, said_attribute, said_list, said_item, said_operands, said_successor, said_region, said_leaf, said_choice}
use Rattle.ir_print.specs.Shown.{alone, Saying, Shows, ShowsAll}
use Rattle.ir_print.specs.declared.format.ValueSort.TheVariants as sorts
use Rattle.kit.specs.Seen.{seen}

-- of one piece, with what stands below it
same_node : (p q : Piece) (ts us : Pieces) → p ≡ q → ts ≡ us → node p ts ≡ node q us
same_node p q ts us e h i = node (e i) (h i)

-- a text that is a piece with nothing below it, as another is
bare_node : (p : Piece) (ts us : Pieces) (q : ValueTree) → ts ≡ no_tree → q ≡ node p us → us ≡ no_tree → node p ts ≡ q
bare_node p ts us q e f g = same_node p p ts us refl (e ∙ sym g) ∙ sym f

module _ {K A T : Type 0} (says : Saying K A T) (types : List T) where
  one_type : (a c : TypeHandle) → ◌≡◌ {A = LabelledTree (Said A)} (alone (said_type a)) (alone (said_type c)) → a ≡ c
  one_type a c e = cc

  one_attribute : (a c : A) → ◌≡◌ {A = LabelledTree (Said A)} (alone (said_attribute a)) (alone (said_attribute c)) → a ≡ c
  one_attribute a c e = cc

  -- what the key under a handle says it says once
  type_once : (a c : TypeHandle) (j k : T) (n m : ℕ) (us vs : Trees (Said A)) → a ≡ c → slice_get types a.number ≡ Some j →
      slice_get types c.number ≡ Some k → says.of_type j ≡ Some (n, us) → says.of_type k ≡ Some (m, vs) → (n ≡ m) × (us ≡ vs)
  type_once a c j k n m us vs e at there h g =
      let keys : j ≡ k = same_Some j k (sym at ∙ ap (λ (x : TypeHandle). slice_get types x.number) e ∙ there) in
      some_pair_parts n m us vs (sym h ∙ ap says.of_type keys ∙ g)

  -- what an attribute says it says once
  attribute_once : (a c : A) (n m : ℕ) (us vs : Trees (Said A)) → a ≡ c → says.of_attribute a ≡ Some (n, us) →
      says.of_attribute c ≡ Some (m, vs) → (n ≡ m) × (us ≡ vs)
  attribute_once a c n m us vs e h g = some_pair_parts n m us vs (sym h ∙ ap says.of_attribute e ∙ g)

  -- what is shown of what is the same
  shown_as : (x y : LabelledTree (Said A)) (q : ValueTree) → x ≡ y → Shows says types x q → Shows says types y q
  shown_as x y q e h = subst (λ z. Shows says types z q) e h

  -- pieces that show what is the same
  all_shown_as : (us vs : Trees (Said A)) (ts : Pieces) → us ≡ vs → ShowsAll says types vs ts → ShowsAll says types us ts
  all_shown_as us vs ts e h = subst (λ z. ShowsAll says types z ts) (sym e) h

  -- what is bare, where it is this
  bare_as : (q t : ValueTree) → q ≡ t → IsBare q → IsBare t
  bare_as q t e h = subst IsBare e h

  mutual
    -- what is said has one text
    pub one_text : (r q : ValueTree) (x : LabelledTree (Said A)) → Shows says types x r → Shows says types x q → IsBare r → IsBare q → r ≡ q
    one_text (node (value_of_kind sorts.«Type» n) ts) q x (a, key, us, e, at, h, all) k b c =
        let other = seen says types (alone (said_type a)) q (shown_as x (alone (said_type a)) q e k) in
        let z = other.3 in
        let once = type_once a z.0 key z.1 n other.0 us z.2 (one_type a z.0 z.3) at z.4 h z.5 in
        let inside = pieces_once ts other.1 us all (all_shown_as us z.2 other.1 once.1 z.6) b
        (bare_as q (node (value_of_kind sorts.«Type» other.0) other.1) other.2 c) in
        same_node (value_of_kind sorts.«Type» n) (value_of_kind sorts.«Type» other.0) ts other.1 (ap (value_of_kind sorts.«Type») once.0) inside ∙ sym other.2
    one_text (node (value_of_kind sorts.Attribute n) ts) q x (a, us, e, h, all) k b c =
        let other = seen says types (alone (said_attribute a)) q (shown_as x (alone (said_attribute a)) q e k) in
        let z = other.3 in
        let once = attribute_once a z.0 n other.0 us z.1 (one_attribute a z.0 z.2) h z.3 in
        let inside = pieces_once ts other.1 us all (all_shown_as us z.1 other.1 once.1 z.4) b
        (bare_as q (node (value_of_kind sorts.Attribute other.0) other.1) other.2 c) in
        same_node (value_of_kind sorts.Attribute n) (value_of_kind sorts.Attribute other.0) ts other.1 (ap (value_of_kind sorts.Attribute) once.0) inside ∙ sym other.2
    one_text (node list ts) q x (us, e, all) k b c =
        let other = seen says types (node said_list us) q (shown_as x (node said_list us) q e k) in
        let inside = pieces_once ts other.0 us all other.2 b (bare_as q (node list other.0) other.1 c) in
        same_node list list ts other.0 refl inside ∙ sym other.1
    one_text (node item ts) q x (us, e, all) k b c =
        let other = seen says types (node said_item us) q (shown_as x (node said_item us) q e k) in
        let inside = pieces_once ts other.0 us all other.2 b (bare_as q (node item other.0) other.1 c) in
        same_node item item ts other.0 refl inside ∙ sym other.1
    one_text (node (chosen n) ts) q x (us, e, all) k b c =
        let other = seen says types (node (said_choice n) us) q (shown_as x (node (said_choice n) us) q e k) in
        let inside = pieces_once ts other.0 us all other.2 b (bare_as q (node (chosen n) other.0) other.1 c) in
        same_node (chosen n) (chosen n) ts other.0 refl inside ∙ sym other.1
    one_text (node (operands n) ts) q x e k b c =
        let other = seen says types (alone (said_operands n)) q (shown_as x (alone (said_operands n)) q e k) in
        bare_node (operands n) ts other.0 q b other.1 (bare_as q (node (operands n) other.0) other.1 c)
    one_text (node (successor n) ts) q x e k b c =
        let other = seen says types (alone (said_successor n)) q (shown_as x (alone (said_successor n)) q e k) in
        bare_node (successor n) ts other.0 q b other.1 (bare_as q (node (successor n) other.0) other.1 c)
    one_text (node region ts) q x e k b c =
        let other = seen says types (alone said_region) q (shown_as x (alone said_region) q e k) in
        bare_node region ts other.0 q b other.1 (bare_as q (node region other.0) other.1 c)
    one_text (node (leaf l) ts) q x e k b c =
        let other = seen says types (alone (said_leaf l)) q (shown_as x (alone (said_leaf l)) q e k) in
        bare_node (leaf l) ts other.0 q b other.1 (bare_as q (node (leaf l) other.0) other.1 c)

    -- and so have pieces
    pieces_once : (ts qs : Pieces) (us : Trees (Said A)) → ShowsAll says types us ts → ShowsAll says types us qs → AreBare ts →
        AreBare qs → ts ≡ qs
    pieces_once no_tree no_tree us h k b c = refl
    pieces_once no_tree (a_tree q qs) no_tree h k b c = absurd k
    pieces_once no_tree (a_tree q qs) (a_tree u us) h k b c = absurd h
    pieces_once (a_tree t ts) qs no_tree h k b c = absurd h
    pieces_once (a_tree t ts) no_tree (a_tree u us) h k b c = absurd k
    pieces_once (a_tree t ts) (a_tree q qs) (a_tree u us) h k b c =
        let first = one_text t q u h.0 k.0 b.0 c.0 in
        let rest = pieces_once ts qs us h.1 k.1 b.1 c.1 in
        λ i. a_tree (first i) (rest i)
