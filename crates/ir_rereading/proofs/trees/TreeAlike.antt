-- Trees that are the same but for their names and labels.
use Rattle.std.proofs.Common.{◌≡◌, ℕ, zero, suc, List, [], ◌∷◌, ◌++◌, map, length, Some, None, slice_get, refl, sym, subst, ap, ◌∙◌}
use Rattle.ir_print.specs.Pieces.{ValueTree, EntityHead, operation, a_region, block, Entity, entity, Entities, no_entity, an_entity}
use Rattle.ir_print.specs.Shown.{Pairs}
use Rattle.ir_forest.specs.Meaning.{renamed_head, renamed, all_renamed}
use Rattle.ir_forest.specs.Closed.{names_of, head_defines, head_mentions, definitions_of, all_definitions_of, named_in, blocks_among, blocks_of, all_blocks_of, head_goes_on, unlabelled_head, unlabelled, all_unlabelled}
use Rattle.ir_rereading.proofs.trees.TreeRenamed.{operands_of, all_operands_of, successors_of, all_successors_of}

-- ---- pairs

module _ {X Y : Type 0} where
  pub pairs_append : (R : X → Y → Type 0) (xs us : List X) (ys vs : List Y) → Pairs R xs ys → Pairs R us vs → Pairs R (xs ++ us) (ys ++ vs)
  pairs_append R [] us [] vs h k = k
  pairs_append R (x ∷ xs) us (y ∷ ys) vs h k = (h.0, pairs_append R xs us ys vs h.1 k)
  pairs_append R [] us (y ∷ ys) vs h k = absurd h
  pairs_append R (x ∷ xs) us [] vs h k = absurd h

  -- pairs of lists in two parts, the first of which are as long as each other
  pub pairs_split : (R Q : X → Y → Type 0) (xs us : List X) (ys vs : List Y) → Pairs R xs ys → Pairs Q (xs ++ us) (ys ++ vs) → Pairs Q xs ys × Pairs Q us vs
  pairs_split R Q [] us [] vs h k = (tt, k)
  pairs_split R Q (x ∷ xs) us (y ∷ ys) vs h k = let more = pairs_split R Q xs us ys vs h.1 k.1 in ((k.0, more.0), more.1)
  pairs_split R Q [] us (y ∷ ys) vs h k = absurd h
  pairs_split R Q (x ∷ xs) us [] vs h k = absurd h

  pub pairs_length : (R : X → Y → Type 0) (xs : List X) (ys : List Y) → Pairs R xs ys → length xs ≡ length ys
  pairs_length R [] [] h = refl
  pairs_length R (x ∷ xs) (y ∷ ys) h = ap suc (pairs_length R xs ys h.1)
  pairs_length R [] (y ∷ ys) h = absurd h
  pairs_length R (x ∷ xs) [] h = absurd h

  pub pairs_first : (R : X → Y → Type 0) (xs : List X) (ys : List Y) → Pairs R xs ys → (i : ℕ) (x : X) → slice_get xs i ≡ Some x → (y : Y) × (slice_get ys i ≡ Some y) × R x y
  pairs_first R [] [] h i x e = let wrong : None ≡ Some x = e in cc
  pairs_first R (x ∷ xs) (y ∷ ys) h zero z e = let same : x ≡ z = cc in (y, refl, subst (λ w. R w y) same h.0)
  pairs_first R (x ∷ xs) (y ∷ ys) h (suc i) z e = pairs_first R xs ys h.1 i z e
  pairs_first R [] (y ∷ ys) h i x e = absurd h
  pairs_first R (x ∷ xs) [] h i z e = absurd h

  pub pairs_second : (R : X → Y → Type 0) (xs : List X) (ys : List Y) → Pairs R xs ys → (i : ℕ) (y : Y) → slice_get ys i ≡ Some y → (x : X) × (slice_get xs i ≡ Some x) × R x y
  pairs_second R [] [] h i y e = let wrong : None ≡ Some y = e in cc
  pairs_second R (x ∷ xs) (y ∷ ys) h zero z e = let same : y ≡ z = cc in (x, refl, subst (λ w. R x w) same h.0)
  pairs_second R (x ∷ xs) (y ∷ ys) h (suc i) z e = pairs_second R xs ys h.1 i z e
  pairs_second R [] (y ∷ ys) h i x e = absurd h
  pairs_second R (x ∷ xs) [] h i z e = absurd h

  -- other pairs, where each pair is of the other kind too
  pub pairs_along : (R Q : X → Y → Type 0) (xs : List X) (ys : List Y) → Pairs R xs ys
      → ((i : ℕ) (x : X) (y : Y) → slice_get xs i ≡ Some x → slice_get ys i ≡ Some y → R x y → Q x y) → Pairs Q xs ys
  pairs_along R Q [] [] h go = tt
  pairs_along R Q (x ∷ xs) (y ∷ ys) h go = (go 0 x y refl refl h.0, pairs_along R Q xs ys h.1 (λ i u v. go (suc i) u v))
  pairs_along R Q [] (y ∷ ys) h go = absurd h
  pairs_along R Q (x ∷ xs) [] h go = absurd h

pub pairs_flip : {X Y : Type 0} (R : X → Y → Type 0) (xs : List X) (ys : List Y) → Pairs R xs ys → Pairs (λ y x. R x y) ys xs
pairs_flip R [] [] h = tt
pairs_flip R (x ∷ xs) (y ∷ ys) h = (h.0, pairs_flip R xs ys h.1)
pairs_flip R [] (y ∷ ys) h = absurd h
pairs_flip R (x ∷ xs) [] h = absurd h

-- ---- trees

-- the names go together, and the types are the same
abbrev pub AlikeTyped : {M N : Type 0} → (M → N → Type 0) → M × ValueTree → N × ValueTree → Type 0
AlikeTyped R x y = R x.0 y.0 × (x.1 ≡ y.1)

-- The same of heads: what they say is the same but for names and labels. The second relation is of names of blocks.
abbrev pub AlikeHead : {M N : Type 0} → (M → N → Type 0) → (M → N → Type 0) → EntityHead M → EntityHead N → Type 0
AlikeHead R S (operation kind results used successors pieces) (operation kind' results' used' successors' pieces') =
    (kind ≡ kind') × Pairs (AlikeTyped R) results results' × Pairs R used used' × Pairs S successors successors' × (pieces ≡ pieces')
AlikeHead R S a_region a_region = Unit {0}
AlikeHead R S (block named label arguments) (block named' label' arguments') = S named named' × Pairs (AlikeTyped R) arguments arguments'
AlikeHead R S _ _ = ⊥

abbrev mutual
  -- the trees are the same but for their labels and their names, which go together
  pub Alike : {M N : Type 0} → (M → N → Type 0) → (M → N → Type 0) → Entity M → Entity N → Type 0
  Alike R S (entity h ts) (entity h' ts') = AlikeHead R S h h' × AllAlike R S ts ts'

  pub AllAlike : {M N : Type 0} → (M → N → Type 0) → (M → N → Type 0) → Entities M → Entities N → Type 0
  AllAlike R S no_entity no_entity = Unit {0}
  AllAlike R S (an_entity t ts) (an_entity t' ts') = Alike R S t t' × AllAlike R S ts ts'
  AllAlike R S _ _ = ⊥

-- ---- the same the other way round

typed_flip : {M N : Type 0} (R : M → N → Type 0) (xs : List (M × ValueTree)) (ys : List (N × ValueTree)) → Pairs (AlikeTyped R) xs ys → Pairs (AlikeTyped (λ n m. R m n)) ys xs
typed_flip R [] [] h = tt
typed_flip R (x ∷ xs) (y ∷ ys) h = ((h.0.0, sym h.0.1), typed_flip R xs ys h.1)
typed_flip R [] (y ∷ ys) h = absurd h
typed_flip R (x ∷ xs) [] h = absurd h

module _ {M N : Type 0} (R S : M → N → Type 0) where
  flip_head : (h : EntityHead M) (k : EntityHead N) → AlikeHead R S h k → AlikeHead (λ n m. R m n) (λ n m. S m n) k h
  flip_head (operation kind results used successors pieces) (operation kind' results' used' successors' pieces') a =
      (sym a.0, typed_flip R results results' a.1, pairs_flip R used used' a.2, pairs_flip S successors successors' a.3, sym a.4)
  flip_head (block named label arguments) (block named' label' arguments') a = (a.0, typed_flip R arguments arguments' a.1)
  flip_head a_region a_region a = tt
  flip_head (operation kind results used successors pieces) a_region a = absurd a
  flip_head (operation kind results used successors pieces) (block named label arguments) a = absurd a
  flip_head a_region (operation kind results used successors pieces) a = absurd a
  flip_head a_region (block named label arguments) a = absurd a
  flip_head (block named label arguments) a_region a = absurd a
  flip_head (block named label arguments) (operation kind results used successors pieces) a = absurd a

  mutual
    pub alike_flip : (t : Entity M) (u : Entity N) → Alike R S t u → Alike (λ n m. R m n) (λ n m. S m n) u t
    alike_flip (entity h ts) (entity k us) a = (flip_head h k a.0, all_alike_flip ts us a.1)

    all_alike_flip : (ts : Entities M) (us : Entities N) → AllAlike R S ts us → AllAlike (λ n m. R m n) (λ n m. S m n) us ts
    all_alike_flip no_entity no_entity a = tt
    all_alike_flip (an_entity t ts) (an_entity u us) a = (alike_flip t u a.0, all_alike_flip ts us a.1)
    all_alike_flip no_entity (an_entity u us) a = absurd a
    all_alike_flip (an_entity t ts) no_entity a = absurd a

-- ---- trees that are the same when they are renamed

pub pairs_from_map : {X N : Type 0} (ν : N → X) (xs : List X) (ys : List N) → xs ≡ map ν ys → Pairs (λ x n. x ≡ ν n) xs ys
pairs_from_map ν [] [] e = tt
pairs_from_map ν (x ∷ xs) (y ∷ ys) e = (let first : x ≡ ν y = cc in first, pairs_from_map ν xs ys (let more : xs ≡ map ν ys = cc in more))
pairs_from_map ν [] (y ∷ ys) e = let wrong : [] ≡ ν y ∷ map ν ys = e in cc
pairs_from_map ν (x ∷ xs) [] e = let wrong : x ∷ xs ≡ [] = e in cc

-- the first function names values, the second blocks
module _ {X N : Type 0} (ν μ : N → X) where
  typed_from_map : (xs : List (X × ValueTree)) (ys : List (N × ValueTree)) → xs ≡ map (λ r. (ν r.0, r.1)) ys → Pairs (AlikeTyped (λ x n. x ≡ ν n)) xs ys
  typed_from_map [] [] e = tt
  typed_from_map (x ∷ xs) (y ∷ ys) e =
      let first : x ≡ (ν y.0, y.1) = cc in
      ((ap (λ r. r.0) first, ap (λ r. r.1) first), typed_from_map xs ys (let more : xs ≡ map (λ r. (ν r.0, r.1)) ys = cc in more))
  typed_from_map [] (y ∷ ys) e = let first : X × ValueTree = (ν y.0, y.1) in let wrong : [] ≡ first ∷ map (λ r. (ν r.0, r.1)) ys = e in cc
  typed_from_map (x ∷ xs) [] e = let wrong : x ∷ xs ≡ [] = e in cc

  head_from : (h : EntityHead X) (k : EntityHead N) → unlabelled_head h ≡ unlabelled_head (renamed_head ν μ k)
      → AlikeHead (λ x n. x ≡ ν n) (λ x n. x ≡ μ n) h k
  head_from (operation kind results used successors pieces) (operation kind' results' used' successors' pieces') e =
      let kinds : kind ≡ kind' = cc in
      let defined : results ≡ map (λ r. (ν r.0, r.1)) results' = cc in
      let mentioned : used ≡ map ν used' = cc in
      let going : successors ≡ map μ successors' = cc in
      let said : pieces ≡ pieces' = cc in
      (kinds, typed_from_map results results' defined, pairs_from_map ν used used' mentioned, pairs_from_map μ successors successors' going, said)
  head_from (block named label arguments) (block named' label' arguments') e =
      let name : named ≡ μ named' = cc in
      let defined : arguments ≡ map (λ r. (ν r.0, r.1)) arguments' = cc in
      (name, typed_from_map arguments arguments' defined)
  head_from a_region a_region e = tt
  head_from (operation kind results used successors pieces) a_region e = let wrong : operation kind results used successors pieces ≡ a_region = e in cc
  head_from (operation kind results used successors pieces) (block named label arguments) e =
      let wrong : operation kind results used successors pieces ≡ block (μ named) [] (map (λ r. (ν r.0, r.1)) arguments) = e in cc
  head_from a_region (operation kind results used successors pieces) e = let wrong : a_region ≡ operation kind (map (λ r. (ν r.0, r.1)) results) (map ν used) (map μ successors) pieces = e in cc
  head_from a_region (block named label arguments) e = let wrong : a_region ≡ block (μ named) [] (map (λ r. (ν r.0, r.1)) arguments) = e in cc
  head_from (block named label arguments) a_region e = let wrong : block named [] arguments ≡ a_region = e in cc
  head_from (block named label arguments) (operation kind results used successors pieces) e =
      let wrong : block named [] arguments ≡ operation kind (map (λ r. (ν r.0, r.1)) results) (map ν used) (map μ successors) pieces = e in cc

  mutual
    -- A tree that is another one under other names, but for labels, is alike.
    pub alike_from : (t : Entity X) (u : Entity N) → unlabelled t ≡ unlabelled (renamed ν μ u) → Alike (λ x n. x ≡ ν n) (λ x n. x ≡ μ n) t u
    alike_from (entity h ts) (entity k us) e =
        let heads : unlabelled_head h ≡ unlabelled_head (renamed_head ν μ k) = cc in
        let inner : all_unlabelled ts ≡ all_unlabelled (all_renamed ν μ us) = cc in
        (head_from h k heads, all_alike_from ts us inner)

    all_alike_from : (ts : Entities X) (us : Entities N) → all_unlabelled ts ≡ all_unlabelled (all_renamed ν μ us)
        → AllAlike (λ x n. x ≡ ν n) (λ x n. x ≡ μ n) ts us
    all_alike_from no_entity no_entity e = tt
    all_alike_from (an_entity t ts) (an_entity u us) e =
        let first : unlabelled t ≡ unlabelled (renamed ν μ u) = cc in
        let more : all_unlabelled ts ≡ all_unlabelled (all_renamed ν μ us) = cc in
        (alike_from t u first, all_alike_from ts us more)
    all_alike_from no_entity (an_entity u us) e = let wrong : no_entity ≡ an_entity (unlabelled (renamed ν μ u)) (all_unlabelled (all_renamed ν μ us)) = e in cc
    all_alike_from (an_entity t ts) no_entity e = let wrong : an_entity (unlabelled t) (all_unlabelled ts) ≡ no_entity = e in cc

pairs_left : {L M N : Type 0} (R : M → N → Type 0) (f : L → M) (xs : List L) (ys : List N) → Pairs R (map f xs) ys → Pairs (λ u n. R (f u) n) xs ys
pairs_left R f [] [] h = tt
pairs_left R f (x ∷ xs) (y ∷ ys) h = (h.0, pairs_left R f xs ys h.1)
pairs_left R f [] (y ∷ ys) h = absurd h
pairs_left R f (x ∷ xs) [] h = absurd h

module _ {L M N : Type 0} (R S : M → N → Type 0) (f g : L → M) where
  typed_left : (xs : List (L × ValueTree)) (ys : List (N × ValueTree)) → Pairs (AlikeTyped R) (map (λ r. (f r.0, r.1)) xs) ys → Pairs (AlikeTyped (λ u n. R (f u) n)) xs ys
  typed_left [] [] h = tt
  typed_left (x ∷ xs) (y ∷ ys) h = (h.0, typed_left xs ys h.1)
  typed_left [] (y ∷ ys) h = absurd h
  typed_left (x ∷ xs) [] h = absurd h

  head_left : (h : EntityHead L) (k : EntityHead N) → AlikeHead R S (renamed_head f g h) k → AlikeHead (λ u n. R (f u) n) (λ u n. S (g u) n) h k
  head_left (operation kind results used successors pieces) (operation kind' results' used' successors' pieces') a =
      (a.0, typed_left results results' a.1, pairs_left R f used used' a.2, pairs_left S g successors successors' a.3, a.4)
  head_left (block named label arguments) (block named' label' arguments') a = (a.0, typed_left arguments arguments' a.1)
  head_left a_region a_region a = tt
  head_left (operation kind results used successors pieces) a_region a = absurd a
  head_left (operation kind results used successors pieces) (block named label arguments) a = absurd a
  head_left a_region (operation kind results used successors pieces) a = absurd a
  head_left a_region (block named label arguments) a = absurd a
  head_left (block named label arguments) a_region a = absurd a
  head_left (block named label arguments) (operation kind results used successors pieces) a = absurd a

  mutual
    -- a tree is alike under its own names
    pub alike_left : (t : Entity L) (u : Entity N) → Alike R S (renamed f g t) u → Alike (λ x n. R (f x) n) (λ x n. S (g x) n) t u
    alike_left (entity h ts) (entity k us) a = (head_left h k a.0, all_alike_left ts us a.1)

    all_alike_left : (ts : Entities L) (us : Entities N) → AllAlike R S (all_renamed f g ts) us → AllAlike (λ x n. R (f x) n) (λ x n. S (g x) n) ts us
    all_alike_left no_entity no_entity a = tt
    all_alike_left (an_entity t ts) (an_entity u us) a = (alike_left t u a.0, all_alike_left ts us a.1)
    all_alike_left no_entity (an_entity u us) a = absurd a
    all_alike_left (an_entity t ts) no_entity a = absurd a

map_from_pairs : {M N : Type 0} (g : M → N) (xs : List M) (ys : List N) → Pairs (λ x n. g x ≡ n) xs ys → map g xs ≡ ys
map_from_pairs g [] [] h = refl
map_from_pairs g (x ∷ xs) (y ∷ ys) h = let more = map_from_pairs g xs ys h.1 in let first = h.0 in cc
map_from_pairs g [] (y ∷ ys) h = absurd h
map_from_pairs g (x ∷ xs) [] h = absurd h

module _ {M N : Type 0} (f g : M → N) where
  map_from_typed : (xs : List (M × ValueTree)) (ys : List (N × ValueTree)) → Pairs (AlikeTyped (λ x n. f x ≡ n)) xs ys
      → map (λ r. (f r.0, r.1)) xs ≡ ys
  map_from_typed [] [] h = refl
  map_from_typed (x ∷ xs) (y ∷ ys) h =
      let first : (f x.0, x.1) ≡ y = ap (λ (n : N). let r : N × ValueTree = (n, x.1) in r) h.0.0 ∙ ap (λ (v : ValueTree). let r : N × ValueTree = (y.0, v) in r) h.0.1 in
      let more : map (λ r. (f r.0, r.1)) xs ≡ ys = map_from_typed xs ys h.1 in
      ap (λ (r : N × ValueTree). r ∷ map (λ r. (f r.0, r.1)) xs) first ∙ ap (λ (rs : List (N × ValueTree)). y ∷ rs) more
  map_from_typed [] (y ∷ ys) h = absurd h
  map_from_typed (x ∷ xs) [] h = absurd h

  head_to : (h : EntityHead M) (k : EntityHead N) → AlikeHead (λ x n. f x ≡ n) (λ x n. g x ≡ n) h k
      → unlabelled_head (renamed_head f g h) ≡ unlabelled_head k
  head_to (operation kind results used successors pieces) (operation kind' results' used' successors' pieces') a =
      let defined = map_from_typed results results' a.1 in
      let mentioned = map_from_pairs f used used' a.2 in
      let going = map_from_pairs g successors successors' a.3 in
      ap (λ n. operation n (map (λ r. (f r.0, r.1)) results) (map f used) (map g successors) pieces) a.0
      ∙ (ap (λ rs. operation kind' rs (map f used) (map g successors) pieces) defined ∙ (ap (λ us. operation kind' results' us (map g successors) pieces) mentioned
      ∙ (ap (λ us. operation kind' results' used' us pieces) going ∙ ap (λ ps. operation kind' results' used' successors' ps) a.4)))
  head_to (block named label arguments) (block named' label' arguments') a =
      ap (λ n. block n [] (map (λ r. (f r.0, r.1)) arguments)) a.0 ∙ ap (λ rs. block named' [] rs) (map_from_typed arguments arguments' a.1)
  head_to a_region a_region a = refl
  head_to (operation kind results used successors pieces) a_region a = absurd a
  head_to (operation kind results used successors pieces) (block named label arguments) a = absurd a
  head_to a_region (operation kind results used successors pieces) a = absurd a
  head_to a_region (block named label arguments) a = absurd a
  head_to (block named label arguments) a_region a = absurd a
  head_to (block named label arguments) (operation kind results used successors pieces) a = absurd a

  mutual
    -- Trees that are alike under other names are the same under these, but for labels.
    pub alike_to : (t : Entity M) (u : Entity N) → Alike (λ x n. f x ≡ n) (λ x n. g x ≡ n) t u → unlabelled (renamed f g t) ≡ unlabelled u
    alike_to (entity h ts) (entity k us) a =
        ap (λ x. entity x (all_unlabelled (all_renamed f g ts))) (head_to h k a.0) ∙ ap (λ xs. entity (unlabelled_head k) xs) (all_alike_to ts us a.1)

    all_alike_to : (ts : Entities M) (us : Entities N) → AllAlike (λ x n. f x ≡ n) (λ x n. g x ≡ n) ts us
        → all_unlabelled (all_renamed f g ts) ≡ all_unlabelled us
    all_alike_to no_entity no_entity a = refl
    all_alike_to (an_entity t ts) (an_entity u us) a =
        ap (λ x. an_entity x (all_unlabelled (all_renamed f g ts))) (alike_to t u a.0) ∙ ap (λ xs. an_entity (unlabelled u) xs) (all_alike_to ts us a.1)
    all_alike_to no_entity (an_entity u us) a = absurd a
    all_alike_to (an_entity t ts) no_entity a = absurd a

-- ---- their names

module _ {M N : Type 0} (R S : M → N → Type 0) where
  typed_names : (xs : List (M × ValueTree)) (ys : List (N × ValueTree)) → Pairs (AlikeTyped R) xs ys → Pairs R (names_of xs) (names_of ys)
  typed_names [] [] h = tt
  typed_names (x ∷ xs) (y ∷ ys) h = (h.0.0, typed_names xs ys h.1)
  typed_names [] (y ∷ ys) h = absurd h
  typed_names (x ∷ xs) [] h = absurd h

  pub head_names : (h : EntityHead M) (k : EntityHead N) → AlikeHead R S h k
      → Pairs R (head_defines h) (head_defines k) × Pairs R (head_mentions h) (head_mentions k)
  head_names (operation kind results used successors pieces) (operation kind' results' used' successors' pieces') a = (typed_names results results' a.1, a.2)
  head_names (block named label arguments) (block named' label' arguments') a = (typed_names arguments arguments' a.1, tt)
  head_names a_region a_region a = (tt, tt)
  head_names (operation kind results used successors pieces) a_region a = absurd a
  head_names (operation kind results used successors pieces) (block named label arguments) a = absurd a
  head_names a_region (operation kind results used successors pieces) a = absurd a
  head_names a_region (block named label arguments) a = absurd a
  head_names (block named label arguments) a_region a = absurd a
  head_names (block named label arguments) (operation kind results used successors pieces) a = absurd a

  mutual
    -- their definitions go together
    pub alike_definitions : (t : Entity M) (u : Entity N) → Alike R S t u → Pairs R (definitions_of t) (definitions_of u)
    alike_definitions (entity h ts) (entity k us) a = pairs_append R (head_defines h) (all_definitions_of ts) (head_defines k) (all_definitions_of us) (head_names h k a.0).0 (all_alike_definitions ts us a.1)

    all_alike_definitions : (ts : Entities M) (us : Entities N) → AllAlike R S ts us → Pairs R (all_definitions_of ts) (all_definitions_of us)
    all_alike_definitions no_entity no_entity a = tt
    all_alike_definitions (an_entity t ts) (an_entity u us) a =
        pairs_append R (definitions_of t) (all_definitions_of ts) (definitions_of u) (all_definitions_of us) (alike_definitions t u a.0) (all_alike_definitions ts us a.1)
    all_alike_definitions no_entity (an_entity u us) a = absurd a
    all_alike_definitions (an_entity t ts) no_entity a = absurd a

  mutual
    -- their operands go together
    pub alike_operands : (t : Entity M) (u : Entity N) → Alike R S t u → Pairs R (operands_of t) (operands_of u)
    alike_operands (entity h ts) (entity k us) a = pairs_append R (head_mentions h) (all_operands_of ts) (head_mentions k) (all_operands_of us) (head_names h k a.0).1 (all_alike_operands ts us a.1)

    all_alike_operands : (ts : Entities M) (us : Entities N) → AllAlike R S ts us → Pairs R (all_operands_of ts) (all_operands_of us)
    all_alike_operands no_entity no_entity a = tt
    all_alike_operands (an_entity t ts) (an_entity u us) a =
        pairs_append R (operands_of t) (all_operands_of ts) (operands_of u) (all_operands_of us) (alike_operands t u a.0) (all_alike_operands ts us a.1)
    all_alike_operands no_entity (an_entity u us) a = absurd a
    all_alike_operands (an_entity t ts) no_entity a = absurd a

module _ {M N : Type 0} (R S : M → N → Type 0) where
  pub head_blocks : (h : EntityHead M) (k : EntityHead N) → AlikeHead R S h k
      → Pairs S (named_in h) (named_in k) × Pairs S (head_goes_on h) (head_goes_on k)
  head_blocks (operation kind results used successors pieces) (operation kind' results' used' successors' pieces') a = (tt, a.3)
  head_blocks (block named label arguments) (block named' label' arguments') a = ((a.0, tt), tt)
  head_blocks a_region a_region a = (tt, tt)
  head_blocks (operation kind results used successors pieces) a_region a = absurd a
  head_blocks (operation kind results used successors pieces) (block named label arguments) a = absurd a
  head_blocks a_region (operation kind results used successors pieces) a = absurd a
  head_blocks a_region (block named label arguments) a = absurd a
  head_blocks (block named label arguments) a_region a = absurd a
  head_blocks (block named label arguments) (operation kind results used successors pieces) a = absurd a

  -- the names of the blocks among entities go together
  pub alike_among : (ts : Entities M) (us : Entities N) → AllAlike R S ts us → Pairs S (blocks_among ts) (blocks_among us)
  alike_among no_entity no_entity a = tt
  alike_among (an_entity (entity h vs) ts) (an_entity (entity k ws) us) a = pairs_append S (named_in h) (blocks_among ts) (named_in k) (blocks_among us) (head_blocks h k a.0.0).0 (alike_among ts us a.1)
  alike_among no_entity (an_entity u us) a = absurd a
  alike_among (an_entity t ts) no_entity a = absurd a

  mutual
    -- so do the names of all blocks
    pub alike_blocks : (t : Entity M) (u : Entity N) → Alike R S t u → Pairs S (blocks_of t) (blocks_of u)
    alike_blocks (entity h ts) (entity k us) a = pairs_append S (named_in h) (all_blocks_of ts) (named_in k) (all_blocks_of us) (head_blocks h k a.0).0 (all_alike_blocks ts us a.1)

    all_alike_blocks : (ts : Entities M) (us : Entities N) → AllAlike R S ts us → Pairs S (all_blocks_of ts) (all_blocks_of us)
    all_alike_blocks no_entity no_entity a = tt
    all_alike_blocks (an_entity t ts) (an_entity u us) a =
        pairs_append S (blocks_of t) (all_blocks_of ts) (blocks_of u) (all_blocks_of us) (alike_blocks t u a.0) (all_alike_blocks ts us a.1)
    all_alike_blocks no_entity (an_entity u us) a = absurd a
    all_alike_blocks (an_entity t ts) no_entity a = absurd a

  mutual
    -- and the blocks to which operations may go on
    pub alike_successors : (t : Entity M) (u : Entity N) → Alike R S t u → Pairs S (successors_of t) (successors_of u)
    alike_successors (entity h ts) (entity k us) a = pairs_append S (head_goes_on h) (all_successors_of ts) (head_goes_on k) (all_successors_of us) (head_blocks h k a.0).1 (all_alike_successors ts us a.1)

    all_alike_successors : (ts : Entities M) (us : Entities N) → AllAlike R S ts us → Pairs S (all_successors_of ts) (all_successors_of us)
    all_alike_successors no_entity no_entity a = tt
    all_alike_successors (an_entity t ts) (an_entity u us) a =
        pairs_append S (successors_of t) (all_successors_of ts) (successors_of u) (all_successors_of us) (alike_successors t u a.0) (all_alike_successors ts us a.1)
    all_alike_successors no_entity (an_entity u us) a = absurd a
    all_alike_successors (an_entity t ts) no_entity a = absurd a

module _ {M N : Type 0} (R S Q P : M → N → Type 0) where
  typed_rebuild : (xs : List (M × ValueTree)) (ys : List (N × ValueTree)) → Pairs (AlikeTyped R) xs ys → Pairs Q (names_of xs) (names_of ys) → Pairs (AlikeTyped Q) xs ys
  typed_rebuild [] [] h k = tt
  typed_rebuild (x ∷ xs) (y ∷ ys) h k = ((k.0, h.0.1), typed_rebuild xs ys h.1 k.1)
  typed_rebuild [] (y ∷ ys) h k = absurd h
  typed_rebuild (x ∷ xs) [] h k = absurd h

  -- the names of a head go together otherwise too
  record HeadsPair (h : EntityHead M) (k : EntityHead N) : Type 0 where
    defines : Pairs Q (head_defines h) (head_defines k)
    mentions : Pairs Q (head_mentions h) (head_mentions k)
    blocks : Pairs P (named_in h) (named_in k)
    goes_on : Pairs P (head_goes_on h) (head_goes_on k)

  head_rebuild : (h : EntityHead M) (k : EntityHead N) → AlikeHead R S h k → HeadsPair h k → AlikeHead Q P h k
  head_rebuild (operation kind results used successors pieces) (operation kind' results' used' successors' pieces') a d = (a.0, typed_rebuild results results' a.1 d.defines, d.mentions, d.goes_on, a.4)
  head_rebuild (block named label arguments) (block named' label' arguments') a d = (d.blocks.0, typed_rebuild arguments arguments' a.1 d.defines)
  head_rebuild a_region a_region a d = tt
  head_rebuild (operation kind results used successors pieces) a_region a d = absurd a
  head_rebuild (operation kind results used successors pieces) (block named label arguments) a d = absurd a
  head_rebuild a_region (operation kind results used successors pieces) a d = absurd a
  head_rebuild a_region (block named label arguments) a d = absurd a
  head_rebuild (block named label arguments) a_region a d = absurd a
  head_rebuild (block named label arguments) (operation kind results used successors pieces) a d = absurd a

  -- the names of trees do
  pub record TreesPair (t : Entity M) (u : Entity N) : Type 0 where
    pub defines : Pairs Q (definitions_of t) (definitions_of u)
    pub mentions : Pairs Q (operands_of t) (operands_of u)
    pub blocks : Pairs P (blocks_of t) (blocks_of u)
    pub goes_on : Pairs P (successors_of t) (successors_of u)

  record AllPair (ts : Entities M) (us : Entities N) : Type 0 where
    defines : Pairs Q (all_definitions_of ts) (all_definitions_of us)
    mentions : Pairs Q (all_operands_of ts) (all_operands_of us)
    blocks : Pairs P (all_blocks_of ts) (all_blocks_of us)
    goes_on : Pairs P (all_successors_of ts) (all_successors_of us)

  mutual
    -- names that go together otherwise too
    pub alike_rebuild : (t : Entity M) (u : Entity N) → Alike R S t u → TreesPair t u → Alike Q P t u
    alike_rebuild (entity h ts) (entity k us) a p =
        let names = head_names R S h k a.0 in
        let blocks = head_blocks R S h k a.0 in
        let d = pairs_split R Q (head_defines h) (all_definitions_of ts) (head_defines k) (all_definitions_of us) names.0 p.defines in
        let m = pairs_split R Q (head_mentions h) (all_operands_of ts) (head_mentions k) (all_operands_of us) names.1 p.mentions in
        let b = pairs_split S P (named_in h) (all_blocks_of ts) (named_in k) (all_blocks_of us) blocks.0 p.blocks in
        let g = pairs_split S P (head_goes_on h) (all_successors_of ts) (head_goes_on k) (all_successors_of us) blocks.1 p.goes_on in
        (head_rebuild h k a.0 (record { defines = d.0; mentions = m.0; blocks = b.0; goes_on = g.0 }), all_alike_rebuild ts us a.1 (record { defines = d.1; mentions = m.1; blocks = b.1; goes_on = g.1 }))

    all_alike_rebuild : (ts : Entities M) (us : Entities N) → AllAlike R S ts us → AllPair ts us → AllAlike Q P ts us
    all_alike_rebuild no_entity no_entity a p = tt
    all_alike_rebuild (an_entity t ts) (an_entity u us) a p =
        let d = pairs_split R Q (definitions_of t) (all_definitions_of ts) (definitions_of u) (all_definitions_of us) (alike_definitions R S t u a.0) p.defines in
        let m = pairs_split R Q (operands_of t) (all_operands_of ts) (operands_of u) (all_operands_of us) (alike_operands R S t u a.0) p.mentions in
        let b = pairs_split S P (blocks_of t) (all_blocks_of ts) (blocks_of u) (all_blocks_of us) (alike_blocks R S t u a.0) p.blocks in
        let g = pairs_split S P (successors_of t) (all_successors_of ts) (successors_of u) (all_successors_of us) (alike_successors R S t u a.0) p.goes_on in
        (alike_rebuild t u a.0 (record { defines = d.0; mentions = m.0; blocks = b.0; goes_on = g.0 }), all_alike_rebuild ts us a.1 (record { defines = d.1; mentions = m.1; blocks = b.1; goes_on = g.1 }))
    all_alike_rebuild no_entity (an_entity u us) a p = absurd a
    all_alike_rebuild (an_entity t ts) no_entity a p = absurd a
