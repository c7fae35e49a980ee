-- Chains of blocks joined in the tree of a function, by the numbers of the blocks.
use Rattle.std.proofs.Common.{◌≡◌, ⊎_elim, inl, inr, ℕ, zero, suc, ◌+◌, ◌<◌, Bool, true, false, List, [], ◌∷◌, length}
use Rattle.std.proofs.Common.{Option, Some, None, refl, sym, ap, ◌∙◌, subst, arith}
use Rattle.std.specs.Prelude.{slice_get}
use Rattle.ir_trees.specs.Names.{Names, Contents}
use Rattle.ir_trees.specs.Renames.{names_of}
use Rattle.ir_trees.specs.Trees.{Head, Label, Sort, Operations, Blocks, Regions, Tree, end, operation, block, region}
use Rattle.opt_trees.specs.Dialect.{Dialect}
use Rattle.opt_trees.specs.Occurrences.{Has, BlockOccurrence, Spot, next_block, block_occurrences_in}
use Rattle.opt_trees.specs.Occurrences.{block_occurrences_of}
use Rattle.opt_trees.specs.Simplify.{all_of, but_last, append, Joins, ends, operations, regions, taken, first}
use Rattle.opt_trees.specs.Simplify.{chain_ends, chain_goes_on}
use Rattle.opt_trees.proofs.Lists.{none_some}
use Rattle.opt_trees.proofs.NoneDead.{has-append, has-left, has-right}
use Rattle.kit_behaviour.specs.Machine.{Edge, Op, Block, Fun, left_in}
use Rattle.kit_behaviour.specs.Rules.{EndsWell}
use Rattle.kit_behaviour.specs.SimplifiedBlocks.{Reached, last_edge, BlocksAreJoinable, IsJoinedSet}
use Rattle.kit_behaviour.proofs.ControlFlow.ChainLemmas.{last_in}
use Rattle.kit_behaviour.proofs.ControlFlow.JoiningRules.{edge_fits_in}
use Rattle.kit_views.specs.Reading.{Reading}
use Rattle.kit_views.specs.FlatView.{AreOps, AreFlatBlocks, names_in}
use Rattle.kit_views.proofs.Pairs.{no_blocks}
use Rattle.kit_views.proofs.Read.{Reads}
use Rattle.kit_views.proofs.Standing.{whole, Given, root_spot, strip}
use Rattle.kit_views.proofs.JoinableBoth.{JoinableThere, flat_end, to_flat_join, to_tree_join}

-- 1. trees whose operations have no regions

module _ {N : Names} {S : Contents} where
  abbrev pub NoRegions : Tree N S Operations → Type 0
  NoRegions end = Unit {0}
  NoRegions (operation h rs rest) = (rs ≡ end) × NoRegions rest

  last_bare : (os : Tree N S Operations) → NoRegions os → NoRegions (but_last os)
  last_bare end a = tt
  last_bare (operation h rs end) a = tt
  last_bare (operation h rs (operation g qs rest)) a = (a.0, last_bare (operation g qs rest) a.1)

module _ {N : Names} {S : Contents} (r : Reading S) (names : List N.block) where
  pub bare_ops : (os : Tree N S Operations) (ps : List (Op N.value)) → AreOps r names os ps → NoRegions os
  bare_ops end ps a = tt
  bare_ops (operation h rs more) [] a = absurd a
  bare_ops (operation h rs more) (p ∷ ps) a = (a.0, bare_ops more ps a.2)

-- a block of the flat function has a name
pub name_at : {N : Names} {S : Contents} (r : Reading S) (names : List N.block) (ts : Tree N S Blocks)
    (ks : Fun N.value) → AreFlatBlocks r names ts ks → (t : ℕ) → t < length ks →
    (m : N.block) × (slice_get (names_in ts) t ≡ Some m)
name_at r names end [] a t l = absurd (omega (arith, l))
name_at r names end (k ∷ ks) a t l = absurd a
name_at r names (block y os more) [] a t l = absurd a
name_at r names (block y os more) (k ∷ ks) a zero l = (y.name, refl)
name_at r names (block y os more) (k ∷ ks) a (suc t) l = name_at r names more ks a.2 t (omega (arith, l))

-- a block with a last edge is one of the function
pub last_range : {V : Type 0} (ks : Fun V) (b : ℕ) (e : Edge V) → last_edge (left_in (Some ks) b 0) ≡ Some e →
    b < length ks
last_range [] b e q = absurd (none_some e q)
last_range (k ∷ ks) zero e q = omega arith
last_range (k ∷ ks) (suc b) e q = let m = last_range ks b e q in omega (arith, m)

-- 2. chains by numbers

module _ {N : Names} {S : Contents} {A : Type 0} (d : Dialect S A) (r : Reading S) (law : Reads d r) (h : Head N S)
    (bs : Tree N S Blocks) (f : Fun N.value) (given : Given r h bs f) (ssa : d.is_ssa h.content 0 ≡ true)
    (good_ends : (b : ℕ) → b < length f → EndsWell (left_in (Some f) b 0))
    (all_reached : (b : ℕ) → b < length f → Reached (Some f) b) where
  -- the block of the tree with this number, label and operations
  pub record BlockAt (b : ℕ) (l : Label N S) (os : Tree N S Operations) : Type 0 where
    pub it : BlockOccurrence N S
    pub stands : Has it (block_occurrences_of (whole r h bs f))
    pub label : it.label ≡ l
    pub is : it.operations ≡ os
    pub name : slice_get (names_in bs) b ≡ Some l.name
    pub k : Block N.value
    pub at : slice_get f b ≡ Some k
    pub arguments : names_of l.arguments ≡ k.arguments
    pub ops : AreOps r (names_in bs) os k.ops

  -- these blocks are those of the tree from the ith on
  abbrev pub Stand : ℕ → Tree N S Blocks → Type 0
  Stand i end = Unit {0}
  Stand i (block l os rest) = BlockAt i l os × Stand (suc i) rest

  stand_all : (i : ℕ) (ts : Tree N S Blocks) (ks : Fun N.value) (c : Spot N S) → AreFlatBlocks r (names_in bs) ts ks →
      ((m : ℕ) (k : Block N.value) → slice_get ks m ≡ Some k → slice_get f (i + m) ≡ Some k) →
      ((m : ℕ) (n : N.block) → slice_get (names_in ts) m ≡ Some n → slice_get (names_in bs) (i + m) ≡ Some n) →
      ((x : BlockOccurrence N S) → Has x (block_occurrences_in ts c) → Has x (block_occurrences_of (whole r h bs f))) →
      Stand i ts
  stand_all i end ks c a fs ns st = tt
  stand_all i (block l os rest) [] c a fs ns st = absurd a
  stand_all i (block l os rest) (k ∷ ks) c a fs ns st =
      let z : i + 0 ≡ i = omega arith in (
        record {
          it = record { spot = c; label = l; operations = os };
          stands = st (record { spot = c; label = l; operations = os }) (inl refl);
          label = refl;
          is = refl;
          name = ap (slice_get (names_in bs)) (sym z) ∙ ns 0 l.name refl;
          k = k;
          at = ap (slice_get f) (sym z) ∙ fs 0 k refl;
          arguments = a.0;
          ops = a.1;
        },
        stand_all (suc i) rest ks (next_block c) a.2
            (λ m j e. let y : i + suc m ≡ suc i + m = omega arith in ap (slice_get f) (sym y) ∙ fs (suc m) j e)
            (λ m n e. let y : i + suc m ≡ suc i + m = omega arith in ap (slice_get (names_in bs)) (sym y)
            ∙ ns (suc m) n e)
            (λ x w. st x (inr (has-right x (block_occurrences_in os (record { spot = c; label = l }))
            (block_occurrences_in rest (next_block c)) w))),
      )

  pub all_stand : Stand 0 bs
  all_stand =
      stand_all 0 bs f (root_spot r h bs f given) given.are
      (λ m k e. let z : 0 + m ≡ m = omega arith in ap (slice_get f) z ∙ e)
      (λ m n e. let z : 0 + m ≡ m = omega arith in ap (slice_get (names_in bs)) z ∙ e)
      (λ x w. has-left x (block_occurrences_in bs (root_spot r h bs f given)) [] w)

  block_at : (i : ℕ) (ts : Tree N S Blocks) (c : Spot N S) → Stand i ts → (x : BlockOccurrence N S) →
      Has x (block_occurrences_in ts c) → (b : ℕ) × BlockAt b x.label x.operations
  block_at i end c st x w = absurd w
  block_at i (block l os rest) c st x w =
      ⊎_elim
      (λ e. (i, subst (λ (z : BlockOccurrence N S). BlockAt i z.label z.operations) (sym e) st.0))
      (λ y. ⊎_elim
      (λ z. absurd (no_blocks r (names_in bs) os st.0.k.ops (record { spot = c; label = l }) st.0.ops x z))
      (λ z. block_at (suc i) rest (next_block c) st.1 x z)
      (has-append x (block_occurrences_in os (record { spot = c; label = l }))
      (block_occurrences_in rest (next_block c)) y)) w

  -- the operations of block b become these
  pub data Chained : ℕ → Tree N S Operations → Tree N S Operations → Type 0 where
    alone : (b : ℕ) (os : Tree N S Operations) → ((t : ℕ) → BlocksAreJoinable (Some f) b t → ⊥) → Chained b os os
    behind : (b t : ℕ) (os more others : Tree N S Operations) (l : Label N S) → BlocksAreJoinable (Some f) b t →
        BlockAt t l more → Chained t more others → Chained b os (append (but_last os) others)

  -- the blocks from the ith on become these
  pub data JoinedFrom (j : ℕ → Bool) : ℕ → Tree N S Blocks → Tree N S Blocks → Type 0 where
    no_more : (i : ℕ) → JoinedFrom j i end end
    later : (i : ℕ) (l : Label N S) (os : Tree N S Operations) (rest more : Tree N S Blocks) → j i ≡ true →
        JoinedFrom j (suc i) rest more → JoinedFrom j i (block l os rest) more
    head : (i : ℕ) (l : Label N S) (os all : Tree N S Operations) (rest more : Tree N S Blocks) → j i ≡ false →
        Chained i os all → JoinedFrom j (suc i) rest more → JoinedFrom j i (block l os rest) (block l all more)

  abbrev JoinsTo : Option N.block → (s : Sort) → Tree N S s → Tree N S s → Type 0
  JoinsTo q s x u = Joins d (all_of (whole r h bs f)) (whole r h bs f) q s x u

  module _ (j : ℕ → Bool) (is_taken : IsJoinedSet (Some f) j) where
    -- what joining says of regions: of none, or of one
    abbrev SaysRegions : Tree N S Regions → Tree N S Regions → Type 0
    SaysRegions end u = u ≡ end
    SaysRegions (region b rest) u = Stand 0 b → rest ≡ end →
        (more : Tree N S Blocks) × (u ≡ region more end) × JoinedFrom j 0 b more

    no_region : (x u : Tree N S Regions) → x ≡ end → SaysRegions x u → u ≡ end
    no_region x u e w = subst (λ z. SaysRegions z u) e w

    -- what joining says of each list
    abbrev Says : Option N.block → (s : Sort) → Tree N S s → Tree N S s → Type 0
    Says None Operations x u = NoRegions x → u ≡ x
    Says (Some n) Operations x u = (b : ℕ) → slice_get (names_in bs) b ≡ Some n → NoRegions x → Chained b x u
    Says None Blocks x u = (i : ℕ) → Stand i x → JoinedFrom j i x u
    Says (Some n) Blocks x u = Unit {0}
    Says q Regions x u = SaysRegions x u

    ends_say : (s : Sort) → Says None s end end
    ends_say Operations = λ a. refl
    ends_say Blocks = λ i st. no_more i
    ends_say Regions = refl

    name_of : (t : ℕ) → t < length f → (m : N.block) × (slice_get (names_in bs) t ≡ Some m)
    name_of t l = name_at r (names_in bs) bs f given.are t l

    pub range : (b t : ℕ) → BlocksAreJoinable (Some f) b t → t < length f
    range b t x = subst (λ z. z < length f) x.target (edge_fits_in (Some f) x.edge (left_in (Some f) b 0)
        (given.edges b) (last_in (left_in (Some f) b 0) x.edge x.last)).leads

    -- nothing is joined behind the block
    none_behind : (n : N.block) (b : ℕ) → slice_get (names_in bs) b ≡ Some n →
        ((m : N.block) → JoinableThere d r law h bs f given ssa good_ends all_reached n m → ⊥) → (t : ℕ) →
        BlocksAreJoinable (Some f) b t → ⊥
    none_behind n b e none t x =
        let m = name_of t (range b t x) in
        none m.0 (to_tree_join d r law h bs f given ssa good_ends all_reached b t x n m.0 e m.1)

    stays_first : (n : N.block) (i : ℕ) → slice_get (names_in bs) i ≡ Some n →
        ((b : N.block) → JoinableThere d r law h bs f given ssa good_ends all_reached b n → ⊥) → j i ≡ false
    stays_first n i e none = by_test (j i) refl
      where
        by_test : (t : Bool) → j i ≡ t → j i ≡ false
        by_test false q = q
        by_test true q =
            let x = is_taken.there i q in
            let m = name_of x.0 (last_range f x.0 x.1.edge x.1.last) in
            absurd (none m.0 (to_tree_join d r law h bs f given ssa good_ends all_reached x.0 i x.1 m.0 n m.1 e))

    is_later : (n m : N.block) (i : ℕ) → slice_get (names_in bs) i ≡ Some m →
        JoinableThere d r law h bs f given ssa good_ends all_reached n m → j i ≡ true
    is_later n m i e x =
        let q = flat_end d r law h bs f given ssa good_ends all_reached n m x in
        is_taken.back q.place i (to_flat_join d r law h bs f given ssa good_ends all_reached n m x q.place i q.name e)

    says : (q : Option N.block) (s : Sort) (x u : Tree N S s) → JoinsTo q s x u → Says q s x u
    says _ _ _ _ (ends s) = ends_say s
    says _ _ _ _ (operations o rs qs rest more x y) =
        let a = says None Regions rs qs x in
        let b = says None Operations rest more y in
        λ w. λ i. operation o ((no_region rs qs w.0 a ∙ sym w.0) i) (b w.1 i)
    says _ _ _ _ (regions b c rest more x y) =
        let a = says None Blocks b c x in
        let g = says None Regions rest more y in
        λ st e. (c, ap (region c) (no_region rest more e g), a 0 st)
    says _ _ _ _ (taken l ops rest more b x y) =
        let a = says None Blocks rest more y in
        λ i st. later i l ops rest more (is_later b l.name i st.0.name x) (a (suc i) st.1)
    says _ _ _ _ (first l ops all rest more none x y) =
        let a = says (Some l.name) Operations ops all x in
        let b = says None Blocks rest more y in
        λ i st.
        head i l ops all rest more (stays_first l.name i st.0.name none)
        (a i st.0.name (bare_ops r (names_in bs) ops st.0.k.ops st.0.ops)) (b (suc i) st.1)
    says _ _ _ _ (chain_ends n ops own none x) =
        let a = says None Operations ops own x in
        λ b e w. subst (Chained b ops) (sym (a w)) (alone b ops (none_behind n b e none))
    says _ _ _ _ (chain_goes_on n z ops own others all x i y v e) =
        let a = says None Operations (but_last ops) own y in
        let c = says (Some z.label.name) Operations z.operations others v in
        λ b q w.
        let at = block_at 0 bs (root_spot r h bs f given) all_stand z
        (strip z (block_occurrences_in bs (root_spot r h bs f given)) i) in
        let g = c at.0 at.1.name (bare_ops r (names_in bs) z.operations at.1.k.ops at.1.ops) in
        subst (Chained b ops) (sym (e ∙ ap (λ o. append o others) (a (last_bare ops w))))
        (behind b at.0 ops z.operations others z.label (to_flat_join d r law h bs f given ssa good_ends all_reached n
        z.label.name x b at.0 q at.1.name) at.1 g)

    -- what joining makes of the one region of the root
    pub joined_region : (u : Tree N S Regions) → JoinsTo None Regions (region bs end) u →
        (more : Tree N S Blocks) × (u ≡ region more end) × JoinedFrom j 0 bs more
    joined_region u x =
        says None Regions (region bs end) u x all_stand refl
