-- Renaming by own names, and twice; what is found by search in a renamed tree; renaming and rewriting.
use Rattle.std.proofs.Common.{◌≡◌, ℕ, List, ◌∷◌, ◌++◌, map, Option, Some, None, option_map, slice_get, refl, sym, ap, ◌∙◌, subst, inr, ⊎_elim}
use Rattle.std.proofs.lemmas.List.{map-append, map-id}
use Rattle.std.proofs.lemmas.Simd.{map-map}
use Rattle.std.proofs.lemmas.Option.{slice_get-map}
use Rattle.ir_trees.specs.Names.{Names, Contents}
use Rattle.ir_trees.specs.Trees.{Defined, Head, Label, Sort, Tree, end, operation, block, region, Root}
use Rattle.ir_trees.specs.Searched.{Lists, heads_in, labels_in, heads_of, labels_of, operation_names, block_names, UsesValue, UsesBlock}
use Rattle.ir_trees.specs.Renames.{Maps, own_names, twice, rename_defined, rename_head, rename_label, rename, rename_root, names_of, values_at, values_in, blocks_in, values_of, blocks_of, IsOneToOne}
use Rattle.ir_trees.proofs.Members.{Has, at_has, has_at, has_front, has_back, has_either}

module _ {N : Names} {S : Contents} where
  own_head : (h : Head N S) → rename_head own_names h ≡ h
  own_head h = λ i. record { name = h.name; content = h.content; results = map-id h.results i; operands = map-id h.operands i; successors = map-id h.successors i }

  own_label : (l : Label N S) → rename_label own_names l ≡ l
  own_label l = λ i. record { name = l.name; content = l.content; arguments = map-id l.arguments i }

  own_tree : {s : Sort} (t : Tree N S s) → rename own_names t ≡ t
  own_tree end = refl
  own_tree (operation h rs rest) = λ i. operation (own_head h i) (own_tree rs i) (own_tree rest i)
  own_tree (block l ops rest) = λ i. block (own_label l i) (own_tree ops i) (own_tree rest i)
  own_tree (region bs rest) = λ i. region (own_tree bs i) (own_tree rest i)

  pub own_root : (t : Root N S) → rename_root own_names t ≡ t
  own_root t = λ i. record { head = own_head t.head i; regions = own_tree t.regions i }

module _ {N M P : Names} {S : Contents} (g : Maps M P) (f : Maps N M) where
  head_twice : (h : Head N S) → rename_head g (rename_head f h) ≡ rename_head (twice g f) h
  head_twice h = λ i. record { name = g.operation (f.operation h.name); content = h.content; results = map-map (rename_defined g.value) (rename_defined f.value) h.results i; operands = map-map g.value f.value h.operands i; successors = map-map g.block f.block h.successors i }

  label_twice : (l : Label N S) → rename_label g (rename_label f l) ≡ rename_label (twice g f) l
  label_twice l = λ i. record { name = g.block (f.block l.name); content = l.content; arguments = map-map (rename_defined g.value) (rename_defined f.value) l.arguments i }

  tree_twice : {s : Sort} (t : Tree N S s) → rename g (rename f t) ≡ rename (twice g f) t
  tree_twice end = refl
  tree_twice (operation h rs rest) = λ i. operation (head_twice h i) (tree_twice rs i) (tree_twice rest i)
  tree_twice (block l ops rest) = λ i. block (label_twice l i) (tree_twice ops i) (tree_twice rest i)
  tree_twice (region bs rest) = λ i. region (tree_twice bs i) (tree_twice rest i)

  pub root_twice : (t : Root N S) → rename_root g (rename_root f t) ≡ rename_root (twice g f) t
  root_twice t = λ i. record { head = head_twice t.head i; regions = tree_twice t.regions i }

-- a member of what a map makes of a list is made of a member
pub listed : {X Y : Type 0} (f : X → Y) (xs : List X) (ys : List Y) → ys ≡ map f xs → (x : X) → Lists xs x → Lists ys (f x)
listed f xs ys e x l = (l.0, ap (λ zs. slice_get zs l.0) e ∙ slice_get-map f xs l.0 ∙ ap (option_map f) l.1)

from_some : {X Y : Type 0} (f : X → Y) (o : Option X) (y : Y) → option_map f o ≡ Some y → (x : X) × (o ≡ Some x) × (f x ≡ y)
from_some f None y e = cc
from_some f (Some x) y e = (x, refl, cc)

pub listed_from : {X Y : Type 0} (f : X → Y) (xs : List X) (ys : List Y) → ys ≡ map f xs → (y : Y) → Lists ys y → (x : X) × Lists xs x × (f x ≡ y)
listed_from f xs ys e y l =
    let r = from_some f (slice_get xs l.0) y (sym (slice_get-map f xs l.0) ∙ ap (λ zs. slice_get zs l.0) (sym e) ∙ l.1) in
    (r.0, (l.0, r.1), r.2)

pub both_parts : {X Y : Type 0} (f : X → Y) (xs ys : List X) (us vs : List Y) → us ≡ map f xs → vs ≡ map f ys → us ++ vs ≡ map f (xs ++ ys)
both_parts f xs ys us vs a b = (λ i. a i ++ b i) ∙ sym (map-append f xs ys)

pub names_renamed : {V W T : Type 0} (f : V → W) (ds : List (Defined V T)) → names_of (map (rename_defined {T = T} f) ds) ≡ map f (names_of ds)
names_renamed {V} {W} {T} f ds = map-map (λ (d : Defined W T). d.name) (rename_defined f) ds ∙ sym (map-map f (λ (d : Defined V T). d.name) ds)

module _ {N M : Names} {S : Contents} (m : Maps N M) where
  pub heads_under : {s : Sort} (t : Tree N S s) → heads_in (rename m t) ≡ map (rename_head m) (heads_in t)
  heads_under end = refl
  heads_under (operation h rs rest) = ap (λ l. rename_head m h ∷ l) (both_parts (rename_head m) (heads_in rs) (heads_in rest) _ _ (heads_under rs) (heads_under rest))
  heads_under (block l ops rest) = both_parts (rename_head m) (heads_in ops) (heads_in rest) _ _ (heads_under ops) (heads_under rest)
  heads_under (region bs rest) = both_parts (rename_head m) (heads_in bs) (heads_in rest) _ _ (heads_under bs) (heads_under rest)

  labels_under : {s : Sort} (t : Tree N S s) → labels_in (rename m t) ≡ map (rename_label m) (labels_in t)
  labels_under end = refl
  labels_under (operation h rs rest) = both_parts (rename_label m) (labels_in rs) (labels_in rest) _ _ (labels_under rs) (labels_under rest)
  labels_under (block l ops rest) = ap (λ x. rename_label m l ∷ x) (both_parts (rename_label m) (labels_in ops) (labels_in rest) _ _ (labels_under ops) (labels_under rest))
  labels_under (region bs rest) = both_parts (rename_label m) (labels_in bs) (labels_in rest) _ _ (labels_under bs) (labels_under rest)

  pub heads_renamed : (t : Root N S) → heads_of (rename_root m t) ≡ map (rename_head m) (heads_of t)
  heads_renamed t = ap (λ l. rename_head m t.head ∷ l) (heads_under t.regions)

  pub labels_renamed : (t : Root N S) → labels_of (rename_root m t) ≡ map (rename_label m) (labels_of t)
  labels_renamed t = labels_under t.regions

  pub operation_names_renamed : (t : Root N S) → operation_names (rename_root m t) ≡ map m.operation (operation_names t)
  operation_names_renamed t =
      ap (λ l. map (λ (h : Head M S). h.name) l) (heads_renamed t) ∙ map-map (λ (h : Head M S). h.name) (rename_head m) (heads_of t) ∙ sym (map-map m.operation (λ (h : Head N S). h.name) (heads_of t))

  pub block_names_renamed : (t : Root N S) → block_names (rename_root m t) ≡ map m.block (block_names t)
  block_names_renamed t =
      ap (λ l. map (λ (h : Label M S). h.name) l) (labels_renamed t) ∙ map-map (λ (h : Label M S). h.name) (rename_label m) (labels_of t) ∙ sym (map-map m.block (λ (h : Label N S). h.name) (labels_of t))

  pub values_at_renamed : (h : Head N S) → values_at (rename_head m h) ≡ map m.value (values_at h)
  values_at_renamed h = both_parts m.value (names_of h.results) h.operands _ _ (names_renamed m.value h.results) refl

  pub values_under : {s : Sort} (t : Tree N S s) → values_in (rename m t) ≡ map m.value (values_in t)
  values_under end = refl
  values_under (operation h rs rest) = both_parts m.value (values_at h) (values_in rs ++ values_in rest) _ _ (values_at_renamed h) (both_parts m.value (values_in rs) (values_in rest) _ _ (values_under rs) (values_under rest))
  values_under (block l ops rest) = both_parts m.value (names_of l.arguments) (values_in ops ++ values_in rest) _ _ (names_renamed m.value l.arguments) (both_parts m.value (values_in ops) (values_in rest) _ _ (values_under ops) (values_under rest))
  values_under (region bs rest) = both_parts m.value (values_in bs) (values_in rest) _ _ (values_under bs) (values_under rest)

  pub blocks_under : {s : Sort} (t : Tree N S s) → blocks_in (rename m t) ≡ map m.block (blocks_in t)
  blocks_under end = refl
  blocks_under (operation h rs rest) = both_parts m.block h.successors (blocks_in rs ++ blocks_in rest) _ _ refl (both_parts m.block (blocks_in rs) (blocks_in rest) _ _ (blocks_under rs) (blocks_under rest))
  blocks_under (block l ops rest) = ap (λ x. m.block l.name ∷ x) (both_parts m.block (blocks_in ops) (blocks_in rest) _ _ (blocks_under ops) (blocks_under rest))
  blocks_under (region bs rest) = both_parts m.block (blocks_in bs) (blocks_in rest) _ _ (blocks_under bs) (blocks_under rest)

  pub values_renamed : (t : Root N S) → values_of (rename_root m t) ≡ map m.value (values_of t)
  values_renamed t = both_parts m.value (values_at t.head) (values_in t.regions) _ _ (values_at_renamed t.head) (values_under t.regions)

  pub blocks_renamed : (t : Root N S) → blocks_of (rename_root m t) ≡ map m.block (blocks_of t)
  blocks_renamed t = both_parts m.block t.head.successors (blocks_in t.regions) _ _ refl (blocks_under t.regions)

  -- what a use in a tree is in the renamed tree, and back
  pub value_uses_renamed : (t : Root N S) (y : M.value) (q : M.operation) (i : ℕ) → UsesValue (rename_root m t) y q i → (x : N.value) × (p : N.operation) × UsesValue t x p i × (m.value x ≡ y) × (m.operation p ≡ q)
  value_uses_renamed t y q i u =
      let h = listed_from (rename_head m) (heads_of t) _ (heads_renamed t) u.head u.stands in
      let x = from_some m.value (slice_get h.0.operands i) y (sym (slice_get-map m.value h.0.operands i) ∙ ap (λ (k : Head M S). slice_get k.operands i) h.2 ∙ u.operand) in
      (x.0, h.0.name, record { head = h.0; stands = h.1; named = refl; operand = x.1 }, x.2, ap (λ (k : Head M S). k.name) h.2 ∙ u.named)

  pub value_use_renamed : (t : Root N S) (x : N.value) (p : N.operation) (i : ℕ) → UsesValue t x p i → UsesValue (rename_root m t) (m.value x) (m.operation p) i
  value_use_renamed t x p i u = record {
    head = rename_head m u.head;
    stands = listed (rename_head m) (heads_of t) _ (heads_renamed t) u.head u.stands;
    named = ap m.operation u.named;
    operand = slice_get-map m.value u.head.operands i ∙ ap (option_map m.value) u.operand;
  }

  pub block_uses_renamed : (t : Root N S) (y : M.block) (q : M.operation) (i : ℕ) → UsesBlock (rename_root m t) y q i → (x : N.block) × (p : N.operation) × UsesBlock t x p i × (m.block x ≡ y) × (m.operation p ≡ q)
  block_uses_renamed t y q i u =
      let h = listed_from (rename_head m) (heads_of t) _ (heads_renamed t) u.head u.stands in
      let x = from_some m.block (slice_get h.0.successors i) y (sym (slice_get-map m.block h.0.successors i) ∙ ap (λ (k : Head M S). slice_get k.successors i) h.2 ∙ u.successor) in
      (x.0, h.0.name, record { head = h.0; stands = h.1; named = refl; successor = x.1 }, x.2, ap (λ (k : Head M S). k.name) h.2 ∙ u.named)

  pub block_use_renamed : (t : Root N S) (x : N.block) (p : N.operation) (i : ℕ) → UsesBlock t x p i → UsesBlock (rename_root m t) (m.block x) (m.operation p) i
  block_use_renamed t x p i u = record {
    head = rename_head m u.head;
    stands = listed (rename_head m) (heads_of t) _ (heads_renamed t) u.head u.stands;
    named = ap m.operation u.named;
    successor = slice_get-map m.block u.head.successors i ∙ ap (option_map m.block) u.successor;
  }

module _ {N : Names} {S : Contents} where
  -- what an operation of a tree mentions is mentioned in the tree
  taken : {s : Sort} (t : Tree N S s) (h : Head N S) (x : N.value) → Has h (heads_in t) → Has x h.operands → Has x (values_in t)
  taken end h x here has = absurd here
  taken (operation g rs rest) h x here has = ⊎_elim
      (λ (same : h ≡ g). has_front (values_at g) (values_in rs ++ values_in rest) x (has_back (names_of g.results) g.operands x (subst (λ (k : Head N S). Has x k.operands) same has)))
      (λ r. has_back (values_at g) (values_in rs ++ values_in rest) x (⊎_elim (λ a. has_front (values_in rs) (values_in rest) x (taken rs h x a has)) (λ b. has_back (values_in rs) (values_in rest) x (taken rest h x b has)) (has_either (heads_in rs) (heads_in rest) h r)))
      here
  taken (block l ops rest) h x here has = has_back (names_of l.arguments) (values_in ops ++ values_in rest) x
      (⊎_elim (λ a. has_front (values_in ops) (values_in rest) x (taken ops h x a has)) (λ b. has_back (values_in ops) (values_in rest) x (taken rest h x b has)) (has_either (heads_in ops) (heads_in rest) h here))
  taken (region bs rest) h x here has =
      ⊎_elim (λ a. has_front (values_in bs) (values_in rest) x (taken bs h x a has)) (λ b. has_back (values_in bs) (values_in rest) x (taken rest h x b has)) (has_either (heads_in bs) (heads_in rest) h here)

  led_to : {s : Sort} (t : Tree N S s) (h : Head N S) (x : N.block) → Has h (heads_in t) → Has x h.successors → Has x (blocks_in t)
  led_to end h x here has = absurd here
  led_to (operation g rs rest) h x here has = ⊎_elim
      (λ (same : h ≡ g). has_front g.successors (blocks_in rs ++ blocks_in rest) x (subst (λ (k : Head N S). Has x k.successors) same has))
      (λ r. has_back g.successors (blocks_in rs ++ blocks_in rest) x (⊎_elim (λ a. has_front (blocks_in rs) (blocks_in rest) x (led_to rs h x a has)) (λ b. has_back (blocks_in rs) (blocks_in rest) x (led_to rest h x b has)) (has_either (heads_in rs) (heads_in rest) h r)))
      here
  led_to (block l ops rest) h x here has = inr
      (⊎_elim (λ a. has_front (blocks_in ops) (blocks_in rest) x (led_to ops h x a has)) (λ b. has_back (blocks_in ops) (blocks_in rest) x (led_to rest h x b has)) (has_either (heads_in ops) (heads_in rest) h here))
  led_to (region bs rest) h x here has =
      ⊎_elim (λ a. has_front (blocks_in bs) (blocks_in rest) x (led_to bs h x a has)) (λ b. has_back (blocks_in bs) (blocks_in rest) x (led_to rest h x b has)) (has_either (heads_in bs) (heads_in rest) h here)

  value_met : (t : Root N S) (x : N.value) (p : N.operation) (i : ℕ) → UsesValue t x p i → Lists (values_of t) x
  value_met t x p i u =
      let takes = at_has u.head.operands i x u.operand in
      has_at (values_of t) x (⊎_elim
      (λ (same : u.head ≡ t.head). has_front (values_at t.head) (values_in t.regions) x (has_back (names_of t.head.results) t.head.operands x (subst (λ (k : Head N S). Has x k.operands) same takes)))
      (λ r. has_back (values_at t.head) (values_in t.regions) x (taken t.regions u.head x r takes))
      (at_has (heads_of t) u.stands.0 u.head u.stands.1))

  block_met : (t : Root N S) (x : N.block) (p : N.operation) (i : ℕ) → UsesBlock t x p i → Lists (blocks_of t) x
  block_met t x p i u =
      let leads = at_has u.head.successors i x u.successor in
      has_at (blocks_of t) x (⊎_elim
      (λ (same : u.head ≡ t.head). has_front t.head.successors (blocks_in t.regions) x (subst (λ (k : Head N S). Has x k.successors) same leads))
      (λ r. has_back t.head.successors (blocks_in t.regions) x (led_to t.regions u.head x r leads))
      (at_has (heads_of t) u.stands.0 u.head u.stands.1))

  user_met : (t : Root N S) (p : N.operation) (h : Head N S) → Lists (heads_of t) h → h.name ≡ p → Lists (operation_names t) p
  user_met t p h l e = subst (Lists (operation_names t)) e (listed (λ (k : Head N S). k.name) (heads_of t) (operation_names t) refl h l)

  module _ {M : Names} (m : Maps N M) where
    pub value_use_from : (t : Root N S) → IsOneToOne m t → (x : N.value) (p : N.operation) (i : ℕ) → Lists (values_of t) x → Lists (operation_names t) p → UsesValue (rename_root m t) (m.value x) (m.operation p) i → UsesValue t x p i
    value_use_from t one x p i a b u =
        let r = value_uses_renamed m t (m.value x) (m.operation p) i u in
        let e : r.0 ≡ x = one.values r.0 x (value_met t r.0 r.1 i r.2) a r.3 in
        let f : r.1 ≡ p = one.operations r.1 p (user_met t r.1 r.2.head r.2.stands r.2.named) b r.4 in
        subst (λ z. UsesValue t x z i) f (subst (λ z. UsesValue t z r.1 i) e r.2)

    pub block_use_from : (t : Root N S) → IsOneToOne m t → (x : N.block) (p : N.operation) (i : ℕ) → Lists (blocks_of t) x → Lists (operation_names t) p → UsesBlock (rename_root m t) (m.block x) (m.operation p) i → UsesBlock t x p i
    block_use_from t one x p i a b u =
        let r = block_uses_renamed m t (m.block x) (m.operation p) i u in
        let e : r.0 ≡ x = one.blocks r.0 x (block_met t r.0 r.1 i r.2) a r.3 in
        let f : r.1 ≡ p = one.operations r.1 p (user_met t r.1 r.2.head r.2.stands r.2.named) b r.4 in
        subst (λ z. UsesBlock t x z i) f (subst (λ z. UsesBlock t z r.1 i) e r.2)
