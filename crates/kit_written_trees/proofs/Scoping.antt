-- What is written of a tree in which operands are in scope defines what it mentions.
use Rattle.std.proofs.Common.{if◌then◌else◌, ◌≡◌, ◌∙◌, ◌⊎◌, inl, inr, ⊎_elim, ℕ, zero, suc, Bool, true, false, List, [], ◌∷◌, ◌++◌, map, refl, ap, sym, subst}
use Rattle.ir_base.specs.declared.types.TypeHandle.{TypeHandle}
use Rattle.ir_forest.specs.Closed.{AreIn, all_mentioned, all_defined, all_definitions_of, in_scope, is_isolated_head, IsScope, AreScoped}
use Rattle.ir_forest.specs.Closed as text
use Rattle.ir_print.specs.Pieces.{ValueTree, Pieces, operation, a_region, block, Entities}
use Rattle.ir_print.specs.Shown.{Pairs}
use Rattle.ir_program.specs.declared.handles.BasicBlock.{BasicBlock}
use Rattle.ir_program.specs.declared.handles.Ptr.{Ptr}
use Rattle.ir_program.specs.declared.handles.Value.{Value}
use Rattle.ir_trees.specs.Renames.{names_of}
use Rattle.ir_trees.specs.Stands.{by_handle}
use Rattle.ir_trees.specs.Trees.{Defined, Sort, Operations, Blocks, Regions, end}
use Rattle.ir_trees.specs.Trees as tree
use Rattle.opt_trees.specs.Occurrences.{Has, defined_in}
use Rattle.kit_ops.specs.declared.types.KitType.{KitType}
use Rattle.kit_ruled_passes.specs.Scopes.{KitLabel, IsResultHere, IsOfBlock, IsOfEntry, IsNone, Scoped}
use Rattle.kit_writable_trees.specs.Writable.{types_in, count_of, IsWritable}
use Rattle.kit_written_trees.proofs.Known.{has_left, has_right, has_parts}
use Rattle.kit_written_trees.proofs.Numbered.{get_has, has_get}
use Rattle.kit_written_trees.proofs.Written.{Part, own_label, named_so, head_text, written}

-- each of the first is among the second
pub in_by_has : {N : Type 0} (xs ys : List N) → ((n : N) → Has n xs → Has n ys) → AreIn xs ys
in_by_has xs ys h i x e = has_get x ys (h x (get_has x xs i e))

pub has_image : {V N : Type 0} (ν : V → N) (v : V) (xs : List V) → Has v xs → Has (ν v) (map ν xs)
has_image ν v [] h = absurd h
has_image ν v (x ∷ xs) (inl e) = inl (ap ν e)
has_image ν v (x ∷ xs) (inr h) = inr (has_image ν v xs h)

pub of_image : {V N : Type 0} (ν : V → N) (n : N) (xs : List V) → Has n (map ν xs) → (v : V) × Has v xs × (n ≡ ν v)
of_image ν n [] h = absurd h
of_image ν n (x ∷ xs) (inl e) = (x, inl refl, e)
of_image ν n (x ∷ xs) (inr h) = let later = of_image ν n xs h in (later.0, inr later.1, later.2)

pub map_joined : {V N : Type 0} (ν : V → N) (xs ys : List V) → map ν (xs ++ ys) ≡ map ν xs ++ map ν ys
map_joined ν [] ys = refl
map_joined ν (x ∷ xs) ys = ap (λ zs. ν x ∷ zs) (map_joined ν xs ys)

regroup : {X : Type 0} (xs ys zs : List X) → (xs ++ ys) ++ zs ≡ xs ++ (ys ++ zs)
regroup [] ys zs = refl
regroup (x ∷ xs) ys zs = ap (λ ws. x ∷ ws) (regroup xs ys zs)

module _ {N : Type 0} (isolated : ℕ → Bool) (types : List KitType) (ν : Value → N)
    (β : Ptr BasicBlock → N) where
  -- the names of definitions
  pub names_same : (R : TypeHandle → ValueTree → Type 0) (ds : List (Defined Value TypeHandle)) (ys : List ValueTree)
      → Pairs R (types_in ds) ys → text.names_of (named_so types ν β ds ys) ≡ map ν (names_of ds)
  names_same R [] [] h = refl
  names_same R [] (y ∷ ys) h = absurd h
  names_same R (d ∷ ds) [] h = absurd h
  names_same R (d ∷ ds) (y ∷ ys) h = ap (λ ns. ν d.name ∷ ns) (names_same R ds ys h.1)

  -- all definitions, in the order of the text
  pub definitions_same : {s : Sort} (d : ℕ) (x : Part s) (w : IsWritable {N = by_handle} types d x)
      → all_definitions_of (written types ν β d x w) ≡ map ν (defined_in x)
  definitions_same d end w = refl
  definitions_same d (tree.operation h rs rest) w =
      (λ i. (names_same _ h.results w.0.shapes w.0.typed i
      ++ definitions_same d rs w.1 i) ++ definitions_same d rest w.2 i)
      ∙ regroup (map ν (names_of h.results)) (map ν (defined_in rs)) (map ν (defined_in rest))
      ∙ ap (λ ns. map ν (names_of h.results) ++ ns) (sym (map_joined ν (defined_in rs) (defined_in rest)))
      ∙ sym (map_joined ν (names_of h.results) (defined_in rs ++ defined_in rest))
  definitions_same d (tree.block l os rest) w =
      (λ i. (names_same _ l.arguments w.0.arguments.shapes w.0.arguments.shown i
      ++ definitions_same d os w.1 i) ++ definitions_same d rest w.2 i)
      ∙ regroup (map ν (names_of l.arguments)) (map ν (defined_in os)) (map ν (defined_in rest))
      ∙ ap (λ ns. map ν (names_of l.arguments) ++ ns) (sym (map_joined ν (defined_in os) (defined_in rest)))
      ∙ sym (map_joined ν (names_of l.arguments) (defined_in os ++ defined_in rest))
  definitions_same zero (tree.region bs rest) w = absurd w.0
  definitions_same (suc e) (tree.region bs rest) w =
      (λ i. definitions_same e bs w.0 i ++ definitions_same (suc e) rest w.1 i)
      ∙ sym (map_joined ν (defined_in bs) (defined_in rest))

  -- ---- what is defined in the scope of a part

  abbrev texts : {s : Sort} (d : ℕ) (x : Part s) → IsWritable {N = by_handle} types d x → Entities N
  texts d x w = written types ν β d x w

  result_here : (d : ℕ) (os : Part Operations) (w : IsWritable {N = by_handle} types d os) (v : Value) → IsResultHere os v
      → Has (ν v) (all_defined isolated (texts d os w))
  result_here d end w v h = absurd h
  result_here d (tree.operation h rs rest) w v (inl here) =
      let own = text.names_of (named_so types ν β h.results w.0.shapes) in
      let inner = in_scope isolated (head_text types ν β d (count_of rs) h w.0) (all_defined isolated (texts d rs w.1)) in
      has_left (ν v) (own ++ inner) (all_defined isolated (texts d rest w.2)) (has_left (ν v) own inner
      (subst (Has (ν v)) (sym (names_same _ h.results w.0.shapes w.0.typed)) (has_image ν v (names_of h.results) here)))
  result_here d (tree.operation h rs rest) w v (inr there) =
      let own = text.names_of (named_so types ν β h.results w.0.shapes) in
      let inner = in_scope isolated (head_text types ν β d (count_of rs) h w.0) (all_defined isolated (texts d rs w.1)) in
      has_right (ν v) (own ++ inner) (all_defined isolated (texts d rest w.2)) (result_here d rest w.2 v there)

  of_block : (d : ℕ) (l : KitLabel) (os : Part Operations) (rest : Part Blocks)
      (w : IsWritable {N = by_handle} types d (tree.block l os rest)) (v : Value) → IsOfBlock l os v
      → Has (ν v) (all_defined isolated (texts d (tree.block l os rest) w))
  of_block d l os rest w v (inl here) =
      let own = text.names_of (named_so types ν β l.arguments w.0.arguments.shapes) in
      let inner = all_defined isolated (texts d os w.1) in
      has_left (ν v) (own ++ inner) (all_defined isolated (texts d rest w.2)) (has_left (ν v) own inner
      (subst (Has (ν v)) (sym (names_same _ l.arguments w.0.arguments.shapes w.0.arguments.shown))
      (has_image ν v (names_of l.arguments) here)))
  of_block d l os rest w v (inr there) =
      let own = text.names_of (named_so types ν β l.arguments w.0.arguments.shapes) in
      let inner = all_defined isolated (texts d os w.1) in
      has_left (ν v) (own ++ inner) (all_defined isolated (texts d rest w.2))
      (has_right (ν v) own inner (result_here d os w.1 v there))

  of_entry : (d : ℕ) (bs : Part Blocks) (w : IsWritable {N = by_handle} types d bs) (v : Value) → IsOfEntry bs v
      → Has (ν v) (all_defined isolated (texts d bs w))
  of_entry d end w v h = absurd h
  of_entry d (tree.block l os rest) w v h = of_block d l os rest w v h

  -- ---- what is mentioned

  -- a name of a value of which this holds, or one that is defined here
  abbrev IsNamedOr : (Value → Type 0) → N → List N → Type 0
  IsNamedOr P n defined = ((v : Value) × P v × (n ≡ ν v)) ⊎ Has n defined

  pub scope_kept : (b : Bool) (xs ys : List N) → ((n : N) → Has n xs → Has n ys) → (n : N)
      → Has n (if b then [] else xs) → Has n (if b then [] else ys)
  scope_kept true xs ys h n has = has
  scope_kept false xs ys h n has = h n has

  mutual
    operations_mention : (d : ℕ) (os : Part Operations) (w : IsWritable {N = by_handle} types d os) (P : Value → Type 0)
        → Scoped os P → (n : N) → Has n (all_mentioned isolated (texts d os w))
        → IsNamedOr P n (all_defined isolated (texts d os w))
    operations_mention d end w P scoped n has = absurd has
    operations_mention d (tree.operation h rs rest) w P scoped n has =
        let used = map ν h.operands in
        let head = head_text types ν β d (count_of rs) h w.0 in
        let mentioned = in_scope isolated head (all_mentioned isolated (texts d rs w.1)) in
        let own = text.names_of (named_so types ν β h.results w.0.shapes) in
        let inner = in_scope isolated head (all_defined isolated (texts d rs w.1)) in
        let later = all_defined isolated (texts d rest w.2) in
        ⊎_elim
        (λ here. ⊎_elim
        (λ u. let v = of_image ν n h.operands u in inl (v.0, scoped.0 v.0 v.1, v.2))
        (λ i. inr (has_left n (own ++ inner) later (has_right n own inner
        (scope_kept (is_isolated_head isolated head) (all_mentioned isolated (texts d rs w.1))
        (all_defined isolated (texts d rs w.1)) (λ m. regions_mention d rs w.1 P scoped.1 m) n i))))
        (has_parts n used mentioned here))
        (λ there. ⊎_elim (λ v. inl v) (λ i. inr (has_right n (own ++ inner) later i))
        (operations_mention d rest w.2 P scoped.2 n there))
        (has_parts n (used ++ mentioned) (all_mentioned isolated (texts d rest w.2)) has)

    regions_mention : (d : ℕ) (rs : Part Regions) (w : IsWritable {N = by_handle} types d rs) (P : Value → Type 0)
        → Scoped rs IsNone → (n : N)
        → Has n (all_mentioned isolated (texts d rs w)) → Has n (all_defined isolated (texts d rs w))
    regions_mention d end w P scoped n has = absurd has
    regions_mention zero (tree.region bs rest) w P scoped n has = absurd w.0
    regions_mention (suc e) (tree.region bs rest) w P scoped n has =
        let here = all_defined isolated (texts e bs w.0) in
        let later = all_defined isolated (texts (suc e) rest w.1) in
        ⊎_elim
        (λ h. has_left n here later (⊎_elim
        (λ v. subst (λ m. Has m here) (sym v.2) (of_entry e bs w.0 v.0 v.1)) (λ i. i)
        (blocks_mention e bs w.0 (IsOfEntry bs) scoped.0 n h)))
        (λ h. has_right n here later (regions_mention (suc e) rest w.1 P scoped.1 n h))
        (has_parts n (all_mentioned isolated (texts e bs w.0)) (all_mentioned isolated (texts (suc e) rest w.1)) has)

    blocks_mention : (d : ℕ) (bs : Part Blocks) (w : IsWritable {N = by_handle} types d bs) (P : Value → Type 0)
        → Scoped bs P → (n : N) → Has n (all_mentioned isolated (texts d bs w))
        → IsNamedOr P n (all_defined isolated (texts d bs w))
    blocks_mention d end w P scoped n has = absurd has
    blocks_mention d (tree.block l os rest) w P scoped n has =
        let own = text.names_of (named_so types ν β l.arguments w.0.arguments.shapes) in
        let inner = all_defined isolated (texts d os w.1) in
        let later = all_defined isolated (texts d rest w.2) in
        ⊎_elim
        (λ here. ⊎_elim
        (λ v. ⊎_elim
        (λ o. inr (subst (λ m. Has m ((own ++ inner) ++ later)) (sym v.2) (of_block d l os rest w v.0 o)))
        (λ p. inl (v.0, p, v.2)) v.1)
        (λ i. inr (has_left n (own ++ inner) later (has_right n own inner i)))
        (operations_mention d os w.1 (λ x. IsOfBlock l os x ⊎ P x) scoped.0 n here))
        (λ there. ⊎_elim (λ v. inl v) (λ i. inr (has_right n (own ++ inner) later i))
        (blocks_mention d rest w.2 P scoped.1 n there))
        (has_parts n (all_mentioned isolated (texts d os w.1)) (all_mentioned isolated (texts d rest w.2)) has)

  -- what is mentioned in the blocks of a region is defined in them
  region_mentions : (d : ℕ) (bs : Part Blocks) (w : IsWritable {N = by_handle} types d bs) → Scoped bs (IsOfEntry bs)
      → (n : N) → Has n (all_mentioned isolated (texts d bs w)) → Has n (all_defined isolated (texts d bs w))
  region_mentions d bs w scoped n has = ⊎_elim
      (λ v. subst (λ m. Has m (all_defined isolated (texts d bs w))) (sym v.2) (of_entry d bs w v.0 v.1))
      (λ h. h) (blocks_mention d bs w (IsOfEntry bs) scoped n has)

  -- what is mentioned in the regions of the root is defined in them
  pub all_in : (d : ℕ) (rs : Part Regions) (w : IsWritable {N = by_handle} types d rs) → Scoped rs IsNone → (n : N)
      → Has n (all_mentioned isolated (texts d rs w)) → Has n (all_defined isolated (texts d rs w))
  all_in d rs w scoped n has = regions_mention d rs w IsNone scoped n has

  -- ---- scopes

  no_scope : (b : Bool) (kind : ℕ) (results : List (N × ValueTree)) (used successors : List N) (pieces : Pieces)
      (ts : Entities N)
      → IsScope isolated b (operation kind results used successors pieces) ts
  no_scope true kind results used successors pieces ts = tt
  no_scope false kind results used successors pieces ts = tt

  no_block_scope : (b : Bool) (named : N) (label : List ℕ) (arguments : List (N × ValueTree)) (ts : Entities N)
      → IsScope isolated b (block named label arguments) ts
  no_block_scope true named label arguments ts = tt
  no_block_scope false named label arguments ts = tt

  region_scope : (b : Bool) (d : ℕ) (bs : Part Blocks) (w : IsWritable {N = by_handle} types d bs)
      → Scoped bs (IsOfEntry bs) → IsScope isolated b a_region (texts d bs w)
  region_scope true d bs w scoped = in_by_has (all_mentioned isolated (texts d bs w)) (all_defined isolated (texts d bs w))
      (λ n has. region_mentions d bs w scoped n has)
  region_scope false d bs w scoped = tt

  mutual
    operations_scoped : (b : Bool) (d : ℕ) (os : Part Operations) (w : IsWritable {N = by_handle} types d os)
        (P : Value → Type 0) → Scoped os P → AreScoped isolated b (texts d os w)
    operations_scoped b d end w P scoped = tt
    operations_scoped b d (tree.operation h rs rest) w P scoped = (
      (
        no_scope b w.0.kind (named_so types ν β h.results w.0.shapes) (map ν h.operands) (map β h.successors) w.0.pieces
            (texts d rs w.1),
        regions_scoped_by (isolated w.0.kind) d rs w.1 P scoped.1,
      ),
      operations_scoped b d rest w.2 P scoped.2,
    )

    regions_scoped_by : (b : Bool) (d : ℕ) (rs : Part Regions) (w : IsWritable {N = by_handle} types d rs)
        (P : Value → Type 0) → Scoped rs IsNone → AreScoped isolated b (texts d rs w)
    regions_scoped_by b d end w P scoped = tt
    regions_scoped_by b zero (tree.region bs rest) w P scoped = absurd w.0
    regions_scoped_by b (suc e) (tree.region bs rest) w P scoped = (
      (region_scope b e bs w.0 scoped.0, blocks_scoped false e bs w.0 (IsOfEntry bs) scoped.0),
      regions_scoped_by b (suc e) rest w.1 P scoped.1,
    )

    blocks_scoped : (b : Bool) (d : ℕ) (bs : Part Blocks) (w : IsWritable {N = by_handle} types d bs) (P : Value → Type 0)
        → Scoped bs P → AreScoped isolated b (texts d bs w)
    blocks_scoped b d end w P scoped = tt
    blocks_scoped b d (tree.block l os rest) w P scoped = (
      (
        no_block_scope b (β l.name) (own_label l.content.label) (named_so types ν β l.arguments w.0.arguments.shapes)
            (texts d os w.1),
        operations_scoped false d os w.1 (λ x. IsOfBlock l os x ⊎ P x) scoped.0,
      ),
      blocks_scoped b d rest w.2 P scoped.1,
    )

  pub regions_scoped : (b : Bool) (d : ℕ) (rs : Part Regions) (w : IsWritable {N = by_handle} types d rs) → Scoped rs IsNone
      → AreScoped isolated b (texts d rs w)
  regions_scoped b d rs w scoped = regions_scoped_by b d rs w IsNone scoped
