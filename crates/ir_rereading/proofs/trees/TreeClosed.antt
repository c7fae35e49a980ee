-- What holds of a tree holds of those that are the same but for their names and labels.
use Rattle.std.proofs.Common.{◌≡◌, ◌<◌, ℕ, zero, suc, Bool, true, false, List, [], ◌∷◌, map, Some, refl, sym, subst, ap, ◌∙◌, if◌then◌else◌}
use Rattle.ir_print.specs.Formats.{Formats}
use Rattle.ir_print.specs.Formats as step
use Rattle.ir_print.specs.Pieces.{ValueTree, Values, EntityHead, operation, a_region, block, Entity, entity, Entities, no_entity, an_entity}
use Rattle.ir_print.specs.Shapes.{Fits, FitArguments}
use Rattle.ir_print.specs.Layout.{IsFlat, AreFlat, Deeper, AreFlatArguments, IsFlatHead, InHead, IsShallow, AreShallow}
use Rattle.ir_print.specs.Shown.{Pairs, successors_said}
use Rattle.ir_forest.specs.Meaning.{renamed}
use Rattle.ir_forest.specs.Language.{Language}
use Rattle.ir_forest.specs.Bare.{IsBareTree}
use Rattle.ir_forest.specs.Closed.{AreIn, head_defines, head_mentions, is_isolated_head, in_scope, defined_by, all_defined, mentioned_by, all_mentioned, IsScope, IsScoped, AreScoped, IsScopedRoot, IsIsolatedRoot, head_goes_on, blocks_within, HasEdges, HaveEdges, unlabelled, regions_said, number_in, IsOperation, AreRegions, IsRegion, AreBlocks, IsBlock, AreOperations, FitsHead, FitsTree, FitTrees, IsClosedTree}
use Rattle.ir_print.specs.declared.format.ValueSort.TheVariants as sorts
use Rattle.ir_rereading.proofs.trees.TreeAlike.{AlikeTyped, AlikeHead, Alike, AllAlike, pairs_append, pairs_length, pairs_first, pairs_second, alike_flip, alike_from, head_names, head_blocks, alike_among}

module _ {M N : Type 0} (R S : M → N → Type 0) where
  -- ---- operations

  typed_types : (xs : List (M × ValueTree)) (ys : List (N × ValueTree)) → Pairs (AlikeTyped R) xs ys → map (λ x. x.1) xs ≡ map (λ y. y.1) ys
  typed_types [] [] h = refl
  typed_types (x ∷ xs) (y ∷ ys) h = ap (λ (v : ValueTree). v ∷ map (λ x. x.1) xs) h.0.1 ∙ ap (λ (vs : List ValueTree). y.1 ∷ vs) (typed_types xs ys h.1)
  typed_types [] (y ∷ ys) h = absurd h
  typed_types (x ∷ xs) [] h = absurd h

  number_alike : (ts : Entities M) (us : Entities N) → AllAlike R S ts us → number_in ts ≡ number_in us
  number_alike no_entity no_entity a = refl
  number_alike (an_entity t ts) (an_entity u us) a = ap suc (number_alike ts us a.1)
  number_alike no_entity (an_entity u us) a = absurd a
  number_alike (an_entity t ts) no_entity a = absurd a

  module _ (v : Values) where
    mutual
      pub operation_alike : (t : Entity M) (u : Entity N) → Alike R S t u → IsOperation v t → IsOperation v u
      operation_alike (entity (operation kind results used successors pieces) ts) (entity (operation kind' results' used' successors' pieces') us) a h = (
        sym (typed_types results results' a.0.1) ∙ (h.0 ∙ (ap (λ k. v.result_types k pieces) a.0.0 ∙ ap (λ ps. v.result_types kind' ps) a.0.4)),
        ap regions_said (sym a.0.4) ∙ (h.1 ∙ number_alike ts us a.1),
        ap successors_said (sym a.0.4) ∙ (h.2 ∙ pairs_length S successors successors' a.0.3),
        regions_alike ts us a.1 h.3,
      )
      operation_alike (entity a_region ts) u a h = absurd h
      operation_alike (entity (block named label arguments) ts) u a h = absurd h
      operation_alike (entity (operation kind results used successors pieces) ts) (entity a_region us) a h = absurd a.0
      operation_alike (entity (operation kind results used successors pieces) ts) (entity (block named label arguments) us) a h = absurd a.0

      regions_alike : (ts : Entities M) (us : Entities N) → AllAlike R S ts us → AreRegions v ts → AreRegions v us
      regions_alike no_entity no_entity a h = tt
      regions_alike (an_entity t ts) (an_entity u us) a h = (region_alike t u a.0 h.0, regions_alike ts us a.1 h.1)
      regions_alike no_entity (an_entity u us) a h = absurd a
      regions_alike (an_entity t ts) no_entity a h = absurd a

      region_alike : (t : Entity M) (u : Entity N) → Alike R S t u → IsRegion v t → IsRegion v u
      region_alike (entity a_region ts) (entity a_region us) a h = blocks_alike ts us a.1 h
      region_alike (entity (operation kind results used successors pieces) ts) u a h = absurd h
      region_alike (entity (block named label arguments) ts) u a h = absurd h
      region_alike (entity a_region ts) (entity (operation kind results used successors pieces) us) a h = absurd a.0
      region_alike (entity a_region ts) (entity (block named label arguments) us) a h = absurd a.0

      blocks_alike : (ts : Entities M) (us : Entities N) → AllAlike R S ts us → AreBlocks v ts → AreBlocks v us
      blocks_alike no_entity no_entity a h = tt
      blocks_alike (an_entity t ts) (an_entity u us) a h = (block_alike t u a.0 h.0, blocks_alike ts us a.1 h.1)
      blocks_alike no_entity (an_entity u us) a h = absurd a
      blocks_alike (an_entity t ts) no_entity a h = absurd a

      block_alike : (t : Entity M) (u : Entity N) → Alike R S t u → IsBlock v t → IsBlock v u
      block_alike (entity (block named label arguments) ts) (entity (block named' label' arguments') us) a h = operations_alike ts us a.1 h
      block_alike (entity (operation kind results used successors pieces) ts) u a h = absurd h
      block_alike (entity a_region ts) u a h = absurd h
      block_alike (entity (block named label arguments) ts) (entity (operation kind results used successors pieces) us) a h = absurd a.0
      block_alike (entity (block named label arguments) ts) (entity a_region us) a h = absurd a.0

      operations_alike : (ts : Entities M) (us : Entities N) → AllAlike R S ts us → AreOperations v ts → AreOperations v us
      operations_alike no_entity no_entity a h = tt
      operations_alike (an_entity t ts) (an_entity u us) a h = (operation_alike t u a.0 h.0, operations_alike ts us a.1 h.1)
      operations_alike no_entity (an_entity u us) a h = absurd a
      operations_alike (an_entity t ts) no_entity a h = absurd a

  -- ---- formats

  module _ (f : Formats) (v : Values) where
    fit_arguments : (xs : List (M × ValueTree)) (ys : List (N × ValueTree)) → Pairs (AlikeTyped R) xs ys → FitArguments f v xs → FitArguments f v ys
    fit_arguments [] [] a h = tt
    fit_arguments (x ∷ xs) (y ∷ ys) a h = (subst (λ z. Fits f v (step.a_value sorts.«Type») z) a.0.1 h.0, fit_arguments xs ys a.1 h.1)
    fit_arguments [] (y ∷ ys) a h = absurd a
    fit_arguments (x ∷ xs) [] a h = absurd a

    head_fits : (h : EntityHead M) (k : EntityHead N) → AlikeHead R S h k → FitsHead f v h → FitsHead f v k
    head_fits (operation kind results used successors pieces) (operation kind' results' used' successors' pieces') a p =
        let q : FitsHead f v (operation kind' results used successors pieces) = subst (λ n. FitsHead f v (operation n results used successors pieces)) a.0 p in
        let r : FitsHead f v (operation kind' results used successors pieces') = subst (λ ps. FitsHead f v (operation kind' results used successors ps)) a.4 q in
        (r.0, r.1, r.2, r.3, r.4 ∙ pairs_length R used used' a.2)
    head_fits (block named label arguments) (block named' label' arguments') a p = fit_arguments arguments arguments' a.1 p
    head_fits a_region a_region a p = tt
    head_fits (operation kind results used successors pieces) a_region a p = absurd a
    head_fits (operation kind results used successors pieces) (block named label arguments) a p = absurd a
    head_fits a_region (operation kind results used successors pieces) a p = absurd a
    head_fits a_region (block named label arguments) a p = absurd a
    head_fits (block named label arguments) a_region a p = absurd a
    head_fits (block named label arguments) (operation kind results used successors pieces) a p = absurd a

    mutual
      pub fits_alike : (t : Entity M) (u : Entity N) → Alike R S t u → FitsTree f v t → FitsTree f v u
      fits_alike (entity h ts) (entity k us) a p = (head_fits h k a.0 p.0, all_fit_alike ts us a.1 p.1)

      all_fit_alike : (ts : Entities M) (us : Entities N) → AllAlike R S ts us → FitTrees f v ts → FitTrees f v us
      all_fit_alike no_entity no_entity a p = tt
      all_fit_alike (an_entity t ts) (an_entity u us) a p = (fits_alike t u a.0 p.0, all_fit_alike ts us a.1 p.1)
      all_fit_alike no_entity (an_entity u us) a p = absurd a
      all_fit_alike (an_entity t ts) no_entity a p = absurd a

  -- ---- depth

  flat_arguments : (d : ℕ) (xs : List (M × ValueTree)) (ys : List (N × ValueTree)) → Pairs (AlikeTyped R) xs ys → AreFlatArguments d xs → AreFlatArguments d ys
  flat_arguments d [] [] a h = tt
  flat_arguments d (x ∷ xs) (y ∷ ys) a h = (subst (λ z. IsFlat d z) a.0.1 h.0, flat_arguments d xs ys a.1 h.1)
  flat_arguments d [] (y ∷ ys) a h = absurd a
  flat_arguments d (x ∷ xs) [] a h = absurd a

  deeper_along : (d : ℕ) (P Q : ℕ → Type 0) → ((e : ℕ) → P e → Q e) → Deeper d P → Deeper d Q
  deeper_along zero P Q go h = absurd h
  deeper_along (suc d) P Q go h = go d h

  -- a head that is flat, and what is in it
  head_shallow : (d : ℕ) (h : EntityHead M) (k : EntityHead N) → AlikeHead R S h k → (P Q : ℕ → Type 0) → ((e : ℕ) → P e → Q e)
      → IsFlatHead d h → InHead d h P → IsFlatHead d k × InHead d k Q
  head_shallow d (operation kind results used successors pieces) (operation kind' results' used' successors' pieces') a P Q go p q = (subst (λ ps. AreFlat d ps) a.4 p, go d q)
  head_shallow d (block named label arguments) (block named' label' arguments') a P Q go p q = (flat_arguments d arguments arguments' a.1 p, go d q)
  head_shallow d a_region a_region a P Q go p q = (tt, deeper_along d P Q go q)
  head_shallow d (operation kind results used successors pieces) a_region a P Q go p q = absurd a
  head_shallow d (operation kind results used successors pieces) (block named label arguments) a P Q go p q = absurd a
  head_shallow d a_region (operation kind results used successors pieces) a P Q go p q = absurd a
  head_shallow d a_region (block named label arguments) a P Q go p q = absurd a
  head_shallow d (block named label arguments) a_region a P Q go p q = absurd a
  head_shallow d (block named label arguments) (operation kind results used successors pieces) a P Q go p q = absurd a

  mutual
    pub shallow_alike : (t : Entity M) (u : Entity N) → Alike R S t u → (d : ℕ) → IsShallow d t → IsShallow d u
    shallow_alike (entity h ts) (entity k us) a d p =
        head_shallow d h k a.0 (λ e. AreShallow e ts) (λ e. AreShallow e us) (λ e q. all_shallow_alike ts us a.1 e q) p.0 p.1

    all_shallow_alike : (ts : Entities M) (us : Entities N) → AllAlike R S ts us → (d : ℕ) → AreShallow d ts → AreShallow d us
    all_shallow_alike no_entity no_entity a d p = tt
    all_shallow_alike (an_entity t ts) (an_entity u us) a d p = (shallow_alike t u a.0 d p.0, all_shallow_alike ts us a.1 d p.1)
    all_shallow_alike no_entity (an_entity u us) a d p = absurd a
    all_shallow_alike (an_entity t ts) no_entity a d p = absurd a

  -- ---- scopes

  module _ (isolated : ℕ → Bool) where
    isolated_alike : (h : EntityHead M) (k : EntityHead N) → AlikeHead R S h k → is_isolated_head isolated h ≡ is_isolated_head isolated k
    isolated_alike (operation kind results used successors pieces) (operation kind' results' used' successors' pieces') a = ap isolated a.0
    isolated_alike (block named label arguments) (block named' label' arguments') a = refl
    isolated_alike a_region a_region a = refl
    isolated_alike (operation kind results used successors pieces) a_region a = absurd a
    isolated_alike (operation kind results used successors pieces) (block named label arguments) a = absurd a
    isolated_alike a_region (operation kind results used successors pieces) a = absurd a
    isolated_alike a_region (block named label arguments) a = absurd a
    isolated_alike (block named label arguments) a_region a = absurd a
    isolated_alike (block named label arguments) (operation kind results used successors pieces) a = absurd a

    one_scope : (b c : Bool) (xs : List M) (ys : List N) → b ≡ c → Pairs R xs ys → Pairs R (if b then [] else xs) (if c then [] else ys)
    one_scope true true xs ys e h = tt
    one_scope false false xs ys e h = h
    one_scope true false xs ys e h = cc
    one_scope false true xs ys e h = cc

    mutual
      pub defined_alike : (t : Entity M) (u : Entity N) → Alike R S t u → Pairs R (defined_by isolated t) (defined_by isolated u)
      defined_alike (entity h ts) (entity k us) a =
          pairs_append R (head_defines h) (in_scope isolated h (all_defined isolated ts)) (head_defines k) (in_scope isolated k (all_defined isolated us)) (head_names R S h k a.0).0
          (one_scope (is_isolated_head isolated h) (is_isolated_head isolated k) (all_defined isolated ts) (all_defined isolated us) (isolated_alike h k a.0) (all_defined_alike ts us a.1))

      all_defined_alike : (ts : Entities M) (us : Entities N) → AllAlike R S ts us → Pairs R (all_defined isolated ts) (all_defined isolated us)
      all_defined_alike no_entity no_entity a = tt
      all_defined_alike (an_entity t ts) (an_entity u us) a =
          pairs_append R (defined_by isolated t) (all_defined isolated ts) (defined_by isolated u) (all_defined isolated us) (defined_alike t u a.0) (all_defined_alike ts us a.1)
      all_defined_alike no_entity (an_entity u us) a = absurd a
      all_defined_alike (an_entity t ts) no_entity a = absurd a

    mutual
      pub mentioned_alike : (t : Entity M) (u : Entity N) → Alike R S t u → Pairs R (mentioned_by isolated t) (mentioned_by isolated u)
      mentioned_alike (entity h ts) (entity k us) a =
          pairs_append R (head_mentions h) (in_scope isolated h (all_mentioned isolated ts)) (head_mentions k) (in_scope isolated k (all_mentioned isolated us)) (head_names R S h k a.0).1
          (one_scope (is_isolated_head isolated h) (is_isolated_head isolated k) (all_mentioned isolated ts) (all_mentioned isolated us) (isolated_alike h k a.0) (all_mentioned_alike ts us a.1))

      all_mentioned_alike : (ts : Entities M) (us : Entities N) → AllAlike R S ts us → Pairs R (all_mentioned isolated ts) (all_mentioned isolated us)
      all_mentioned_alike no_entity no_entity a = tt
      all_mentioned_alike (an_entity t ts) (an_entity u us) a =
          pairs_append R (mentioned_by isolated t) (all_mentioned isolated ts) (mentioned_by isolated u) (all_mentioned isolated us) (mentioned_alike t u a.0) (all_mentioned_alike ts us a.1)
      all_mentioned_alike no_entity (an_entity u us) a = absurd a
      all_mentioned_alike (an_entity t ts) no_entity a = absurd a

    module _ (one : (x : M) (y z : N) → R x y → R x z → y ≡ z) where
      among_alike : (xs zs : List M) (ys ws : List N) → Pairs R xs ys → Pairs R zs ws → AreIn xs zs → AreIn ys ws
      among_alike xs zs ys ws p q h i y at =
          let here = pairs_second R xs ys p i y at in
          let there = h i here.0 here.1 in
          let other = pairs_first R zs ws q there.0 here.0 there.1 in
          (there.0, other.1 ∙ ap (λ (w : N). Some w) (one here.0 other.0 y other.2 here.2))

      scope_alike : (inner : Bool) (h : EntityHead M) (k : EntityHead N) (ts : Entities M) (us : Entities N) → AlikeHead R S h k
          → AllAlike R S ts us → IsScope isolated inner h ts → IsScope isolated inner k us
      scope_alike true a_region a_region ts us a b p = among_alike (all_mentioned isolated ts) (all_defined isolated ts) (all_mentioned isolated us) (all_defined isolated us) (all_mentioned_alike ts us b) (all_defined_alike ts us b) p
      scope_alike true h (operation kind results used successors pieces) ts us a b p = tt
      scope_alike true h (block named label arguments) ts us a b p = tt
      scope_alike true (operation kind results used successors pieces) a_region ts us a b p = absurd a
      scope_alike true (block named label arguments) a_region ts us a b p = absurd a
      scope_alike false h k ts us a b p = tt

      mutual
        scoped_alike : (t : Entity M) (u : Entity N) → Alike R S t u → (inner : Bool) → IsScoped isolated inner t → IsScoped isolated inner u
        scoped_alike (entity h ts) (entity k us) a inner p =
            (scope_alike inner h k ts us a.0 a.1 p.0, subst (λ b. AreScoped isolated b us) (isolated_alike h k a.0) (all_scoped_alike ts us a.1 (is_isolated_head isolated h) p.1))

        all_scoped_alike : (ts : Entities M) (us : Entities N) → AllAlike R S ts us → (inner : Bool) → AreScoped isolated inner ts
            → AreScoped isolated inner us
        all_scoped_alike no_entity no_entity a inner p = tt
        all_scoped_alike (an_entity t ts) (an_entity u us) a inner p = (scoped_alike t u a.0 inner p.0, all_scoped_alike ts us a.1 inner p.1)
        all_scoped_alike no_entity (an_entity u us) a inner p = absurd a
        all_scoped_alike (an_entity t ts) no_entity a inner p = absurd a

      -- scopes of one tree are those of the other, where each name goes with one name
      pub scoped_root_alike : (t : Entity M) (u : Entity N) → Alike R S t u → IsScopedRoot isolated t → IsScopedRoot isolated u
      scoped_root_alike t u a p =
          (among_alike (mentioned_by isolated t) (defined_by isolated t) (mentioned_by isolated u) (defined_by isolated u) (mentioned_alike t u a) (defined_alike t u a) p.0, scoped_alike t u a false p.1)

  -- ---- the root

  pub isolated_root_alike : (isolated : ℕ → Bool) (t : Entity M) (u : Entity N) → Alike R S t u → IsIsolatedRoot isolated t → IsIsolatedRoot isolated u
  isolated_root_alike isolated (entity h ts) (entity k us) a p = λ some.
      sym (isolated_alike isolated h k a.0) ∙ p (subst (λ n. 0 < n) (sym (number_alike ts us a.1)) some)

  -- ---- edges

  module _ (one : (x : M) (y z : N) → S x y → S x z → y ≡ z) where
    led_alike : (xs zs : List M) (ys ws : List N) → Pairs S xs ys → Pairs S zs ws → AreIn xs zs → AreIn ys ws
    led_alike xs zs ys ws p q h i y at =
        let here = pairs_second S xs ys p i y at in
        let there = h i here.0 here.1 in
        let other = pairs_first S zs ws q there.0 here.0 there.1 in
        (there.0, other.1 ∙ ap (λ (w : N). Some w) (one here.0 other.0 y other.2 here.2))

    within_alike : (h : EntityHead M) (k : EntityHead N) → AlikeHead R S h k → (ts : Entities M) (us : Entities N) → AllAlike R S ts us
        → (bs : List M) (cs : List N) → Pairs S bs cs
        → Pairs S (blocks_within h ts bs) (blocks_within k us cs)
    within_alike a_region a_region a ts us b bs cs p = alike_among R S ts us b
    within_alike (operation kind results used successors pieces) (operation kind' results' used' successors' pieces') a ts us b bs cs p = p
    within_alike (block named label arguments) (block named' label' arguments') a ts us b bs cs p = p
    within_alike a_region (operation kind results used successors pieces) a ts us b bs cs p = absurd a
    within_alike a_region (block named label arguments) a ts us b bs cs p = absurd a
    within_alike (operation kind results used successors pieces) a_region a ts us b bs cs p = absurd a
    within_alike (operation kind results used successors pieces) (block named label arguments) a ts us b bs cs p = absurd a
    within_alike (block named label arguments) a_region a ts us b bs cs p = absurd a
    within_alike (block named label arguments) (operation kind results used successors pieces) a ts us b bs cs p = absurd a

    mutual
      -- edges of one tree lead as those of the other, where each name of a block goes with one name
      pub edges_alike : (t : Entity M) (u : Entity N) → Alike R S t u → (bs : List M) (cs : List N) → Pairs S bs cs → HasEdges bs t → HasEdges cs u
      edges_alike (entity h ts) (entity k us) a bs cs p e = (
        led_alike (head_goes_on h) bs (head_goes_on k) cs (head_blocks R S h k a.0).1 p e.0,
        all_edges_alike ts us a.1 (blocks_within h ts bs) (blocks_within k us cs) (within_alike h k a.0 ts us a.1 bs cs p) e.1,
      )

      all_edges_alike : (ts : Entities M) (us : Entities N) → AllAlike R S ts us → (bs : List M) (cs : List N) → Pairs S bs cs
          → HaveEdges bs ts → HaveEdges cs us
      all_edges_alike no_entity no_entity a bs cs p e = tt
      all_edges_alike (an_entity t ts) (an_entity u us) a bs cs p e = (edges_alike t u a.0 bs cs p e.0, all_edges_alike ts us a.1 bs cs p e.1)
      all_edges_alike no_entity (an_entity u us) a bs cs p e = absurd a
      all_edges_alike (an_entity t ts) no_entity a bs cs p e = absurd a

-- A tree is closed where one is closed that is alike, and each name of which goes with one name.
pub closed_alike : {M N : Type 0} (R S : M → N → Type 0) → ((x : M) (y z : N) → R x y → R x z → y ≡ z)
    → ((x : M) (y z : N) → S x y → S x z → y ≡ z) → (l : Language) (t : Entity M) (u : Entity N)
    → Alike R S t u → IsClosedTree l t → IsBareTree u → IsClosedTree l u
closed_alike R S one sole l t u a c bare = record {
  operation = operation_alike R S l.values t u a c.operation;
  fits = fits_alike R S l.formats l.values t u a c.fits;
  scoped = scoped_root_alike R S l.isolated one t u a c.scoped;
  edges = edges_alike R S sole t u a [] [] tt c.edges;
  isolated = isolated_root_alike R S l.isolated t u a c.isolated;
  shallow = shallow_alike R S t u a 64 c.shallow;
  bare = bare;
}

-- A tree with other names and labels is closed.
pub closed_renamed : {X N : Type 0} (ν μ : N → X) (l : Language) (t : Entity N) (p : Entity X) → IsClosedTree l t
    → unlabelled p ≡ unlabelled (renamed ν μ t) → IsBareTree p
    → IsClosedTree l p
closed_renamed {X = X} {N = N} ν μ l t p c e bare =
    closed_alike (λ n x. x ≡ ν n) (λ n x. x ≡ μ n) (λ n x y d f. d ∙ sym f) (λ n x y d f. d ∙ sym f) l t p
    (alike_flip (λ x n. x ≡ ν n) (λ x n. x ≡ μ n) p t (alike_from ν μ p t e)) c bare
