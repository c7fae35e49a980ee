-- No two definitions of what is printed have one name.
use Rattle.std.proofs.Common.{◌≡◌, ◌⊎◌, inl, inr, ⊎_elim, ℕ, zero, suc, ◌+◌, ◌<◌, ◌≤◌, ◌^◌, List, [], ◌∷◌, ◌++◌, length, Option, Some, option_map, unwrap_or, slice_get, refl, sym, ap, subst, ◌∙◌, arith}
use Rattle.ir_forest.specs.Closed.{AllDistinct, names_of, definitions_of, all_definitions_of}
use Rattle.ir_print.specs.Pieces.{ValueTree, operation, a_region, block, Entity, entity, Entities, no_entity, an_entity}
use Rattle.ir_print.specs.Shown.{Saying, Pairs}
use Rattle.ir_program.specs.Program.{TypedValue}
use Rattle.ir_program.specs.declared.handles.IRNode.{IRNode}
use Rattle.ir_program.specs.declared.handles.IRNode.TheVariants.{Operation as OperationNode, Region as RegionNode, BasicBlock as BlockNode}
use Rattle.ir_program.specs.declared.handles.Ptr.{Ptr}
use Rattle.ir_program.specs.declared.handles.Operation.{Operation}
use Rattle.ir_program.specs.declared.handles.Region.{Region}
use Rattle.ir_program.specs.declared.handles.BasicBlock.{BasicBlock}
use Rattle.ir_rereading.proofs.layouts.PrintedNames.{value_name_injective}
use Rattle.text_dialect.specs.Printed.{value_name, printed_names}
use Rattle.text_dialect.specs.Seen.{SeenOperation, SeenBlock, Seen}
use Rattle.text_dialect.specs.Standing.{HasDefinition, HasTree, HasRegionTree, HasBlockTree, HaveRegionTrees, HaveBlockTrees, HaveTrees}
use Rattle.text_rereading.proofs.InPlace.{one_place}
use Rattle.text_rereading.specs.Places.{DefinesSmall, IsDirectlyIn, IsAnywhereIn, itself, within, values_of, AreSmallInside, HasOwnPlaces}

-- ---- lists

-- this of the second list is at this index of both lists
abbrev IsBehind : {X : Type 0} → (xs ys : List X) → ℕ → X → Type 0
IsBehind xs ys i x = (m : ℕ) × (i ≡ length xs + m) × (slice_get ys m ≡ Some x)

-- where something of two lists is
in_both : {X : Type 0} (xs ys : List X) (i : ℕ) (x : X) → slice_get (xs ++ ys) i ≡ Some x
    → (slice_get xs i ≡ Some x) ⊎ IsBehind xs ys i x
in_both [] ys i x e = inr (i, omega arith, e)
in_both (y ∷ xs) ys zero x e = inl e
in_both (y ∷ xs) ys (suc i) x e = ⊎_elim
    (λ (h : slice_get xs i ≡ Some x). inl h)
    (λ (h : IsBehind xs ys i x). inr (h.0, (let l = h.1 in omega (arith, l)), h.2))
    (in_both xs ys i x e)

distinct_both : (xs ys : List (List ℕ)) → AllDistinct xs → AllDistinct ys
    → ((i j : ℕ) (x : List ℕ) → slice_get xs i ≡ Some x → slice_get ys j ≡ Some x → ⊥) → AllDistinct (xs ++ ys)
distinct_both xs ys dx dy apart i j x e f = ⊎_elim
    (λ (a : slice_get xs i ≡ Some x). ⊎_elim
    (λ (b : slice_get xs j ≡ Some x). dx i j x a b)
    (λ (b : IsBehind xs ys j x). absurd (apart i b.0 x a b.2))
    (in_both xs ys j x f))
    (λ (a : IsBehind xs ys i x). ⊎_elim
    (λ (b : slice_get xs j ≡ Some x). absurd (apart j a.0 x b a.2))
    (λ (b : IsBehind xs ys j x).
    let same = dy a.0 b.0 x a.2 b.2 in let first = a.1 in let second = b.1 in omega (arith, same, first, second))
    (in_both xs ys j x f))
    (in_both xs ys i x e)

module _ {K A T : Type 0} (s : Seen K A T) (places : HasOwnPlaces s) where
  -- ---- names and where they are defined

  -- the name is that of a value, with a number of 64 bits, that is defined here at this index
  abbrev IsNameAt : IRNode → ℕ → List ℕ → Type 0
  IsNameAt e k n =
      (v : TypedValue) × (slice_get (values_of s e) k ≡ Some v) × (n ≡ value_name v.value.number)
      × (v.value.number < 2 ^ 64)

  -- the same inside x
  abbrev IsNameIn : IRNode → List ℕ → Type 0
  IsNameIn x n = (e : IRNode) × (k : ℕ) × IsAnywhereIn s x e × IsNameAt e k n

  -- one name is defined at one place
  one_name : (e f : IRNode) (j k : ℕ) (n : List ℕ) → IsNameAt e j n → IsNameAt f k n → (e ≡ f) × (j ≡ k)
  one_name e f j k n a b =
      places.values e f j k a.0 b.0 a.1 b.1
      (value_name_injective a.0.value.number b.0.value.number a.3 b.3 (sym a.2 ∙ b.2))

  -- these are the names of what is defined here, in order
  abbrev AreNamesAt : IRNode → List (List ℕ) → Type 0
  AreNamesAt e ns = (i : ℕ) (n : List ℕ) → slice_get ns i ≡ Some n → IsNameAt e i n

  -- the names are distinct, and defined inside x
  abbrev pub AreNamesIn : IRNode → List (List ℕ) → Type 0
  AreNamesIn x ns = AllDistinct ns × ((i : ℕ) (n : List ℕ) → slice_get ns i ≡ Some n → IsNameIn x n)

  -- the names are distinct, and defined inside things that are directly in x, from this index on
  abbrev AreNamesFrom : IRNode → ℕ → List (List ℕ) → Type 0
  AreNamesFrom x m ns = AllDistinct ns
      × ((i : ℕ) (n : List ℕ) → slice_get ns i ≡ Some n → (y : IRNode) × (k : ℕ) × (m ≤ k) × IsDirectlyIn s y x k
      × IsNameIn y n)

  no_names : (x : IRNode) (m : ℕ) → AreNamesFrom x m []
  no_names x m = ((λ i j n e f. absurd (cc)), (λ i n e. absurd (cc)))

  -- names of one thing more
  more_names : (x y : IRNode) (j m : ℕ) (ns more : List (List ℕ)) → IsDirectlyIn s y x j → j ≡ m → AreNamesIn y ns
      → AreNamesFrom x (suc m) more → AreNamesFrom x m (ns ++ more)
  more_names x y j m ns more at is first rest = (distinct_both ns more first.0 rest.0 apart, among)
    where
      among : (i : ℕ) (n : List ℕ) → slice_get (ns ++ more) i ≡ Some n
          → (z : IRNode) × (k : ℕ) × (m ≤ k) × IsDirectlyIn s z x k × IsNameIn z n
      among i n e = ⊎_elim
          (λ (a : slice_get ns i ≡ Some n). (y, j, omega (arith, is), at, first.1 i n a))
          (λ (a : IsBehind ns more i n).
          let r = rest.1 a.0 n a.2 in let l = r.2 in (r.0, r.1, omega (arith, l), r.3, r.4))
          (in_both ns more i n e)

      apart : (i k : ℕ) (n : List ℕ) → slice_get ns i ≡ Some n → slice_get more k ≡ Some n → ⊥
      apart i k n e f =
          let a = first.1 i n e in
          let r = rest.1 k n f in
          let b = r.4 in
          let same = one_name a.0 b.0 a.1 b.1 n a.3 b.3 in
          let one = one_place s places y r.0 x b.0 j r.1 at r.3 (subst (IsAnywhereIn s y) same.0 a.2) b.2 in
          let later = r.2 in
          omega (arith, one, later, is)

  -- the names of a thing and of what is in it
  all_names : (x : IRNode) (ns more : List (List ℕ)) → AreNamesAt x ns → AreNamesFrom x 0 more
      → AreNamesIn x (ns ++ more)
  all_names x ns more own rest =
      (distinct_both ns more (λ i j n e f. (one_name x x i j n (own i n e) (own j n f)).1) rest.0 apart, among)
    where
      around : (y e : IRNode) (k : ℕ) → IsDirectlyIn s y x k → IsAnywhereIn s y e → IsAnywhereIn s x e
      around y _ k at itself = within y x k at itself
      around y _ k at (within e h j here i) = within e h j here (around y h k at i)

      among : (i : ℕ) (n : List ℕ) → slice_get (ns ++ more) i ≡ Some n → IsNameIn x n
      among i n e = ⊎_elim
          (λ (a : slice_get ns i ≡ Some n). (x, i, itself, own i n a))
          (λ (a : IsBehind ns more i n).
          let r = rest.1 a.0 n a.2 in let b = r.4 in (b.0, b.1, around r.0 b.0 r.1 r.3 b.2, b.3))
          (in_both ns more i n e)

      apart : (i k : ℕ) (n : List ℕ) → slice_get ns i ≡ Some n → slice_get more k ≡ Some n → ⊥
      apart i k n e f =
          let r = rest.1 k n f in
          let b = r.4 in
          let same = one_name x b.0 i b.1 n (own i n e) b.3 in
          places.apart r.0 x r.1 r.3 (subst (IsAnywhereIn s r.0) (sym same.0) b.2)

-- ---- trees

module _ {K A T : Type 0} (says : Saying K A T) (Labels : Ptr BasicBlock → SeenBlock → List ℕ → Type 0)
    (s : Seen K A T) (places : HasOwnPlaces s) (root : Ptr Operation) (small : AreSmallInside s root) where
  -- the names of results or arguments
  own_names : (ds : List TypedValue) (rs : List (List ℕ × ValueTree)) → DefinesSmall ds
      → Pairs (HasDefinition says (printed_names s) s.types) ds rs
      → (i : ℕ) (n : List ℕ) → slice_get (names_of rs) i ≡ Some n
      → (v : TypedValue) × (slice_get ds i ≡ Some v) × (n ≡ value_name v.value.number) × (v.value.number < 2 ^ 64)
  own_names [] [] fit h i n e = absurd (cc)
  own_names [] (r ∷ rs) fit h i n e = absurd h
  own_names (d ∷ ds) [] fit h i n e = absurd h
  own_names (d ∷ ds) (r ∷ rs) fit h zero n e =
      (d, refl, (let is : r.0 ≡ n = cc in sym is ∙ h.0.0), fit 0 d.value refl)
  own_names (d ∷ ds) (r ∷ rs) fit h (suc i) n e = own_names ds rs (λ k v f. fit (suc k) v f) h.1 i n e

  result_names : (p : Ptr Operation) (o : SeenOperation K A) (rs : List (List ℕ × ValueTree)) → s.operation p ≡ Some o
      → DefinesSmall o.results
      → Pairs (HasDefinition says (printed_names s) s.types) o.results rs
      → AreNamesAt s places (OperationNode p) (names_of rs)
  result_names p o rs there fit h i n e =
      let a = own_names o.results rs fit h i n e in
      let here : values_of s (OperationNode p) ≡ o.results =
      ap (λ (x : Option (SeenOperation K A)). unwrap_or (option_map (λ (y : SeenOperation K A). y.results) x) [])
      there in
      (a.0, ap (λ vs. slice_get vs i) here ∙ a.1, a.2, a.3)

  argument_names : (b : Ptr BasicBlock) (v : SeenBlock) (rs : List (List ℕ × ValueTree)) → s.block b ≡ Some v
      → DefinesSmall v.arguments
      → Pairs (HasDefinition says (printed_names s) s.types) v.arguments rs
      → AreNamesAt s places (BlockNode b) (names_of rs)
  argument_names b v rs there fit h i n e =
      let a = own_names v.arguments rs fit h i n e in
      let here : values_of s (BlockNode b) ≡ v.arguments =
      ap (λ (x : Option SeenBlock). unwrap_or (option_map (λ (y : SeenBlock). y.arguments) x) []) there in
      (a.0, ap (λ vs. slice_get vs i) here ∙ a.1, a.2, a.3)

  -- the things of a list are directly in x, from this index on
  abbrev AreAt : {E : Type 0} → (E → IRNode) → IRNode → ℕ → List E → Type 0
  AreAt {E} node x m es = (k : ℕ) (e : E) → slice_get es k ≡ Some e → (j : ℕ) × (j ≡ m + k) × IsDirectlyIn s (node e) x j

  others_at : {E : Type 0} (node : E → IRNode) (x : IRNode) (m : ℕ) (e : E) (es : List E) → AreAt node x m (e ∷ es)
      → AreAt node x (suc m) es
  others_at node x m e es at k f here = let a = at (suc k) f here in let is = a.1 in (a.0, omega (arith, is), a.2)

  mutual
    -- the definitions of what an operation is printed as have distinct names, of values that are defined inside it
    pub tree_names : (u : Entity (List ℕ)) (p : Ptr Operation) → IsAnywhereIn s (OperationNode root) (OperationNode p)
        → HasTree says (printed_names s) Labels s p u
        → AreNamesIn s places (OperationNode p) (definitions_of u)
    tree_names (entity (operation kind results used successors pieces) us) p i h =
        let o = h.0 in
        all_names s places (OperationNode p) (names_of results) (all_definitions_of us)
        (result_names p o results h.1 (small (OperationNode p) i o h.1).0 h.2.defines)
        (regions_names us p 0 o.regions (λ k r e. (k, omega arith, (o, h.1, e))) i h.3)
    tree_names (entity a_region us) p i h = absurd h
    tree_names (entity (block named label arguments) us) p i h = absurd h

    regions_names : (us : Entities (List ℕ)) (p : Ptr Operation) (m : ℕ) (rs : List (Ptr Region))
        → AreAt RegionNode (OperationNode p) m rs → IsAnywhereIn s (OperationNode root) (OperationNode p)
        → HaveRegionTrees says (printed_names s) Labels s rs us
        → AreNamesFrom s places (OperationNode p) m (all_definitions_of us)
    regions_names no_entity p m rs at i h = no_names s places (OperationNode p) m
    regions_names (an_entity u us) p m [] at i h = absurd h
    regions_names (an_entity u us) p m (r ∷ rs) at i h =
        let a = at 0 r refl in
        more_names s places (OperationNode p) (RegionNode r) a.0 m (definitions_of u) (all_definitions_of us) a.2
        (let is = a.1 in omega (arith, is))
        (region_names u r (within (RegionNode r) (OperationNode p) a.0 a.2 i) h.0)
        (regions_names us p (suc m) rs (others_at RegionNode (OperationNode p) m r rs at) i h.1)

    region_names : (u : Entity (List ℕ)) (r : Ptr Region) → IsAnywhereIn s (OperationNode root) (RegionNode r)
        → HasRegionTree says (printed_names s) Labels s r u
        → AreNamesIn s places (RegionNode r) (definitions_of u)
    region_names (entity a_region us) r i h =
        all_names s places (RegionNode r) [] (all_definitions_of us) (λ j n e. absurd (cc))
        (blocks_names us r 0 h.0 (λ k b e. (k, omega arith, (h.0, h.1, e))) i h.2)
    region_names (entity (operation kind results used successors pieces) us) r i h = absurd h
    region_names (entity (block named label arguments) us) r i h = absurd h

    blocks_names : (us : Entities (List ℕ)) (r : Ptr Region) (m : ℕ) (bs : List (Ptr BasicBlock))
        → AreAt BlockNode (RegionNode r) m bs → IsAnywhereIn s (OperationNode root) (RegionNode r)
        → HaveBlockTrees says (printed_names s) Labels s bs us
        → AreNamesFrom s places (RegionNode r) m (all_definitions_of us)
    blocks_names no_entity r m bs at i h = no_names s places (RegionNode r) m
    blocks_names (an_entity u us) r m [] at i h = absurd h
    blocks_names (an_entity u us) r m (b ∷ bs) at i h =
        let a = at 0 b refl in
        more_names s places (RegionNode r) (BlockNode b) a.0 m (definitions_of u) (all_definitions_of us) a.2
        (let is = a.1 in omega (arith, is))
        (block_names u b (within (BlockNode b) (RegionNode r) a.0 a.2 i) h.0)
        (blocks_names us r (suc m) bs (others_at BlockNode (RegionNode r) m b bs at) i h.1)

    block_names : (u : Entity (List ℕ)) (b : Ptr BasicBlock) → IsAnywhereIn s (OperationNode root) (BlockNode b)
        → HasBlockTree says (printed_names s) Labels s b u
        → AreNamesIn s places (BlockNode b) (definitions_of u)
    block_names (entity (block named label arguments) us) b i h =
        let v = h.0 in
        all_names s places (BlockNode b) (names_of arguments) (all_definitions_of us)
        (argument_names b v arguments h.1 (small (BlockNode b) i v h.1).2 h.4)
        (trees_names us b 0 v.operations (λ k p e. (k, omega arith, (v, h.1, e))) i h.5)
    block_names (entity (operation kind results used successors pieces) us) b i h = absurd h
    block_names (entity a_region us) b i h = absurd h

    trees_names : (us : Entities (List ℕ)) (b : Ptr BasicBlock) (m : ℕ) (ps : List (Ptr Operation))
        → AreAt OperationNode (BlockNode b) m ps → IsAnywhereIn s (OperationNode root) (BlockNode b)
        → HaveTrees says (printed_names s) Labels s ps us → AreNamesFrom s places (BlockNode b) m (all_definitions_of us)
    trees_names no_entity b m ps at i h = no_names s places (BlockNode b) m
    trees_names (an_entity u us) b m [] at i h = absurd h
    trees_names (an_entity u us) b m (p ∷ ps) at i h =
        let a = at 0 p refl in
        more_names s places (BlockNode b) (OperationNode p) a.0 m (definitions_of u) (all_definitions_of us) a.2
        (let is = a.1 in omega (arith, is))
        (tree_names u p (within (OperationNode p) (BlockNode b) a.0 a.2 i) h.0)
        (trees_names us b (suc m) ps (others_at OperationNode (BlockNode b) m p ps at) i h.1)
