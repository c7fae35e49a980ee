-- A text has no label twice in a region where its tree has none.
use Rattle.std.proofs.Common.{◌≡◌, ℕ, zero, suc, ◌<◌, ◌≤◌, Bool, List, [], ◌∷◌, ◌++◌, Some, None, slice_get, refl, sym, subst, ap, ◌∙◌, arith, ◌⊎◌, inl, inr}
use Rattle.ir_names.specs.Tree.{Trees}
use Rattle.ir_print.specs.Pieces.{Values, EntityHead, operation, a_region, block, Entity, entity, Entities, no_entity, an_entity}
use Rattle.ir_tokens.specs.declared.faults.Fault.{Fault}
use Rattle.ir_grammar.specs.declared.grammar.Event.{Event}
use Rattle.ir_scopes.specs.declared.sites.Site.{Site}
use Rattle.ir_forest.specs.Closed.{AllDistinct, label_in, labels_of, IsLabelled, AreLabelled}
use Rattle.ir_forest.specs.Forest.{ActionSpan, IsForestOf}
use Rattle.ir_forest.specs.Meaning.{operations_in, renamed_head, renamed, all_renamed}
use Rattle.ir_grammar.specs.Nesting.{Nests, at_root}
use Rattle.ir_scopes.specs.Scopes.{labels, label_mentions, name_of, IsAgain}
use Rattle.ir_rereading.proofs.trees.TreeSites.{In, in_left, in_right, in_either, in_none}
use Rattle.ir_rereading.proofs.trees.TreeRegions.{label_at, OfOperations, OfRegions, OfBlocks, labels_of_tree}

-- ---- lists of distinct members

pub first_or_more : {X : Type 0} (x y : X) (xs : List X) → In x (y ∷ xs) → (y ≡ x) ⊎ In x xs
first_or_more x y xs (zero, h) = inl (let same : y ≡ x = cc in same)
first_or_more x y xs (suc i, h) = inr (i, h)

distinct_more : {X : Type 0} (y : X) (xs : List X) → AllDistinct (y ∷ xs) → AllDistinct xs
distinct_more y xs d i j x h k = let e = d (suc i) (suc j) x h k in omega arith

distinct_new : {X : Type 0} (y : X) (xs : List X) → AllDistinct (y ∷ xs) → In y xs → ⊥
distinct_new y xs d h = let e = d 0 (suc h.0) y refl h.1 in omega arith

-- ---- sites of which no two have one name in one scope

module _ (names : List ℕ) where
  -- the two have one name in one scope
  abbrev AreSame : Site → Site → Type 0
  AreSame s t = (t.scope ≡ s.scope) × (name_of names t.token ≡ name_of names s.token)

  abbrev pub AllApart : List Site → Type 0
  AllApart [] = Unit {0}
  AllApart (s ∷ ss) = ((t : Site) → In t ss → AreSame s t → ⊥) × AllApart ss

  apart_at : (ss : List Site) → AllApart ss → (i j : ℕ) (s t : Site) → i < j → slice_get ss i ≡ Some s → slice_get ss j ≡ Some t → AreSame s t → ⊥
  apart_at [] a i j s t lt h k same = let wrong : None ≡ Some s = h in cc
  apart_at (x ∷ ss) a zero zero s t lt h k same = omega arith
  apart_at (x ∷ ss) a zero (suc j) s t lt h k same = let is : x ≡ s = cc in a.0 t (j, k) (subst (λ z. AreSame z t) (sym is) same)
  apart_at (x ∷ ss) a (suc i) zero s t lt h k same = omega arith
  apart_at (x ∷ ss) a (suc i) (suc j) s t lt h k same = apart_at ss a.1 i j s t (omega arith) h k same

  -- so no name comes again
  apart_never : (ss : List Site) → AllApart ss → (f : Fault) → IsAgain names ss f → ⊥
  apart_never ss a f h = apart_at ss a h.0 h.1 h.5.0 h.2 h.3 h.5.1 h.4 (sym h.5.2.0, sym h.5.2.1)

  join_apart : (xs ys : List Site) → AllApart xs → AllApart ys → ((s t : Site) → In s xs → In t ys → t.scope ≡ s.scope → ⊥) → AllApart (xs ++ ys)
  join_apart [] ys a b other = b
  join_apart (x ∷ xs) ys a b other = (
    (λ t i same. elim (in_either t xs ys i) [
      | inl e ↦ a.0 t e same
      | inr e ↦ other x t (0, refl) e same.0
    ]),
    join_apart xs ys a.1 b (λ s t i j e. other s t (suc i.0, i.1) j e),
  )

-- ---- the scopes of labels

module _ (text : ℕ → List ℕ) where
  -- the scope is above one number and at most another
  abbrev Within : ℕ → ℕ → List Site → Type 0
  Within low high ss = (s : Site) → In s ss → (low < s.scope) × (s.scope ≤ high)

  -- the same, or it is this one
  abbrev WithinOr : ℕ → ℕ → ℕ → List Site → Type 0
  WithinOr scope low high ss = (s : Site) → In s ss → (s.scope ≡ scope) ⊎ ((low < s.scope) × (s.scope ≤ high))

  none_within : (P : Site → Type 0) (ss : List Site) → ss ≡ [] → (s : Site) → In s ss → P s
  none_within P ss e s i = in_none s (subst (λ xs. In s xs) e i)

  mutual
    pub operations_within : (scope low high : ℕ) (ts : Entities ℕ) (ss ms : List Site) → OfOperations text scope low high ts ss ms
        → (low ≤ high) × Within low high ss
    operations_within scope low high no_entity ss ms h = (h.0, none_within (λ s. (low < s.scope) × (s.scope ≤ high)) ss h.1)
    operations_within scope low high (an_entity (entity (operation kind results used successors pieces) us) ts) ss ms
        (a, b, c, first, more, held, past, e, uses, le, between, here, later) =
        let p = regions_within a b us first held here in
        let q = operations_within scope c high ts more past later in
        let p' = p.0 in
        let q' = q.0 in (
          omega arith,
          λ s i. elim (in_either s first more (subst (λ xs. In s xs) e i)) [
            | inl x ↦ (let r = p.1 s x in (let l = r.0 in omega arith, let l = r.1 in omega arith))
            | inr x ↦ (let r = q.1 s x in (let l = r.0 in omega arith, let l = r.1 in omega arith))
          ],
        )
    operations_within scope low high (an_entity (entity a_region us) ts) ss ms h = absurd h
    operations_within scope low high (an_entity (entity (block named label arguments) us) ts) ss ms h = absurd h

    pub regions_within : (low high : ℕ) (ts : Entities ℕ) (ss ms : List Site) → OfRegions text low high ts ss ms → (low ≤ high) × Within low high ss
    regions_within low high no_entity ss ms h = (h.0, none_within (λ s. (low < s.scope) × (s.scope ≤ high)) ss h.1)
    regions_within low high (an_entity (entity a_region us) ts) ss ms (scope, b, c, first, more, held, past, e, uses, lt, between, here, later) =
        let p = blocks_within scope scope b us first held (omega arith) here in
        let q = regions_within c high ts more past later in
        let p' = p.0 in
        let q' = q.0 in (
          omega arith,
          λ s i. elim (in_either s first more (subst (λ xs. In s xs) e i)) [
            | inl x ↦ elim (p.1 s x) [ inl same ↦ (omega arith, omega arith) | inr r ↦ (let l = r.0 in omega arith, let l = r.1 in omega arith) ]
            | inr x ↦ (let r = q.1 s x in (let l = r.0 in omega arith, let l = r.1 in omega arith))
          ],
        )
    regions_within low high (an_entity (entity (operation kind results used successors pieces) us) ts) ss ms h = absurd h
    regions_within low high (an_entity (entity (block named label arguments) us) ts) ss ms h = absurd h

    pub blocks_within : (scope low high : ℕ) (ts : Entities ℕ) (ss ms : List Site) → scope ≤ low → OfBlocks text scope low high ts ss ms
        → (low ≤ high) × WithinOr scope low high ss
    blocks_within scope low high no_entity ss ms le h = (h.0, none_within (λ s. (s.scope ≡ scope) ⊎ ((low < s.scope) × (s.scope ≤ high))) ss h.1)
    blocks_within scope low high (an_entity (entity (block named label arguments) us) ts) ss ms le
        (a, b, c, first, more, held, past, spelled, e, uses, lt, between, here, later) =
        let p = operations_within scope a b us first held here in
        let p' = p.0 in
        let q = blocks_within scope c high ts more past (omega arith) later in
        let q' = q.0 in (
          omega arith,
          λ s i. elim (first_or_more s (label_at scope named) (first ++ more) (subst (λ xs. In s xs) e i)) [
            | inl same ↦ inl (sym (ap (λ x. x.scope) same))
            | inr x ↦ elim (in_either s first more x) [
              | inl y ↦ (let r = p.1 s y in inr (let l = r.0 in omega arith, let l = r.1 in omega arith))
              | inr y ↦ elim (q.1 s y) [ inl same ↦ inl same | inr r ↦ inr (let l = r.0 in omega arith, let l = r.1 in omega arith) ]
            ]
          ],
        )
    blocks_within scope low high (an_entity (entity a_region us) ts) ss ms le h = absurd h
    blocks_within scope low high (an_entity (entity (operation kind results used successors pieces) us) ts) ss ms le h = absurd h

  -- ---- sites and labels of one region

  -- each site of the region is that of a label
  site_label : (scope low high : ℕ) (ts : Entities ℕ) (ss ms : List Site) → scope ≤ low → OfBlocks text scope low high ts ss ms
      → (s : Site) → In s ss → s.scope ≡ scope → In (text s.token) (labels_of ts)
  site_label scope low high no_entity ss ms le h s i is = none_within (λ s. In (text s.token) []) ss h.1 s i
  site_label scope low high (an_entity (entity (block named label arguments) us) ts) ss ms le
      (a, b, c, first, more, held, past, spelled, e, uses, lt, between, here, later) s i is =
      let p = operations_within scope a b us first held here in
      let p' = p.0 in
      elim (first_or_more s (label_at scope named) (first ++ more) (subst (λ xs. In s xs) e i)) [
        | inl same ↦ (0, ap (λ y. Some y) (spelled ∙ ap (λ y. text y.token) same))
        | inr x ↦ elim (in_either s first more x) [
          | inl y ↦ absurd (let l = (p.1 s y).0 in omega arith)
          | inr y ↦ (let r = site_label scope c high ts more past (omega arith) later s y is in (suc r.0, r.1))
        ]
      ]
  site_label scope low high (an_entity (entity a_region us) ts) ss ms le h s i is = absurd h
  site_label scope low high (an_entity (entity (operation kind results used successors pieces) us) ts) ss ms le h s i is = absurd h

  -- ---- from labels to sites

  module _ (names : List ℕ) (all : List Site) (alike : (s t : Site) → In s all → In t all → name_of names s.token ≡ name_of names t.token → text s.token ≡ text t.token) where
    abbrev Stand : List Site → Type 0
    Stand ss = (s : Site) → In s ss → In s all

    stand_first : (ss first more : List Site) → ss ≡ first ++ more → Stand ss → Stand first
    stand_first ss first more e sub s i = sub s (subst (λ xs. In s xs) (sym e) (in_left s first more i))

    stand_more : (ss first more : List Site) → ss ≡ first ++ more → Stand ss → Stand more
    stand_more ss first more e sub s i = sub s (subst (λ xs. In s xs) (sym e) (in_right s first more i))

    mutual
      operations_apart : (scope low high : ℕ) (ts : Entities ℕ) (ss ms : List Site) → OfOperations text scope low high ts ss ms → Stand ss
          → AreLabelled ts → AllApart names ss
      operations_apart scope low high no_entity ss ms h sub l = subst (λ xs. AllApart names xs) (sym h.1) tt
      operations_apart scope low high (an_entity (entity (operation kind results used successors pieces) us) ts) ss ms
          (a, b, c, first, more, held, past, e, uses, le, between, here, later) sub l =
          let p = regions_within a b us first held here in
          let q = operations_within scope c high ts more past later in
          subst (λ xs. AllApart names xs) (sym e)
          (join_apart names first more (regions_apart a b us first held here (stand_first ss first more e sub) l.0.1) (operations_apart scope c high ts more past later (stand_more ss first more e sub) l.1)
          (λ s t i j same. (let x = (p.1 s i).1 in let y = (q.1 t j).0 in omega arith)))
      operations_apart scope low high (an_entity (entity a_region us) ts) ss ms h sub l = absurd h
      operations_apart scope low high (an_entity (entity (block named label arguments) us) ts) ss ms h sub l = absurd h

      regions_apart : (low high : ℕ) (ts : Entities ℕ) (ss ms : List Site) → OfRegions text low high ts ss ms → Stand ss → AreLabelled ts
          → AllApart names ss
      regions_apart low high no_entity ss ms h sub l = subst (λ xs. AllApart names xs) (sym h.1) tt
      regions_apart low high (an_entity (entity a_region us) ts) ss ms
          (scope, b, c, first, more, held, past, e, uses, le, between, here, later) sub l =
          let p = blocks_within scope scope b us first held (omega arith) here in
          let q = regions_within c high ts more past later in
          let p' = p.0 in
          subst (λ xs. AllApart names xs) (sym e)
          (join_apart names first more (blocks_apart scope scope b us first held (omega arith) here (stand_first ss first more e sub) l.0.0 l.0.1) (regions_apart c high ts more past later (stand_more ss first more e sub) l.1)
          (λ s t i j same. (let y = (q.1 t j).0 in elim (p.1 s i) [ inl x ↦ omega arith | inr x ↦ (let z = x.1 in omega arith) ])))
      regions_apart low high (an_entity (entity (operation kind results used successors pieces) us) ts) ss ms h sub l = absurd h
      regions_apart low high (an_entity (entity (block named label arguments) us) ts) ss ms h sub l = absurd h

      blocks_apart : (scope low high : ℕ) (ts : Entities ℕ) (ss ms : List Site) → scope ≤ low → OfBlocks text scope low high ts ss ms
          → Stand ss → AllDistinct (labels_of ts) → AreLabelled ts → AllApart names ss
      blocks_apart scope low high no_entity ss ms le h sub d l = subst (λ xs. AllApart names xs) (sym h.1) tt
      blocks_apart scope low high (an_entity (entity (block named label arguments) us) ts) ss ms le
          (a, b, c, first, more, held, past, spelled, e, uses, lt, between, here, later) sub d l =
          let p = operations_within scope a b us first held here in
          let p' = p.0 in
          let above : scope ≤ c = omega arith in
          let q = blocks_within scope c high ts more past above later in
          let inner : Stand (first ++ more) = λ s i. sub s (subst (λ xs. In s xs) (sym e) (suc i.0, i.1)) in
          let here_in : In (label_at scope named) all = sub (label_at scope named) (subst (λ xs. In (label_at scope named) xs) (sym e) (0, refl)) in
          subst (λ xs. AllApart names xs) (sym e) (
            (λ t i same. elim (in_either t first more i) [
              | inl x ↦ (let y = (p.1 t x).0 in let z : t.scope ≡ scope = same.0 in omega arith)
              | inr x ↦ (let there = site_label scope c high ts more past above later t x same.0 in
                  let equal : text t.token ≡ label = alike t (label_at scope named) (inner t (in_right t first more x)) here_in same.1 ∙ sym spelled in
                  distinct_new label (labels_of ts) d (subst (λ y. In y (labels_of ts)) equal there))
            ]),
            join_apart names first more (operations_apart scope a b us first held here (stand_first (first ++ more) first more refl inner) l.0.1)
                (blocks_apart scope c high ts more past above later (stand_more (first ++ more) first more refl inner) (distinct_more label (labels_of ts) d) l.1)
                (λ s t i j same. (let x = p.1 s i in let x0 = x.0 in let x1 = x.1 in elim (q.1 t j) [ inl y ↦ omega arith | inr y ↦ (let z = y.0 in omega arith) ])),
          )
      blocks_apart scope low high (an_entity (entity a_region us) ts) ss ms le h sub d l = absurd h
      blocks_apart scope low high (an_entity (entity (operation kind results used successors pieces) us) ts) ss ms le h sub d l = absurd h

-- ---- texts

module _ (isolated : ℕ → Bool) (v : Values) (text : ℕ → List ℕ) (names : List ℕ) (es : List Event) (forest : Trees ActionSpan) (tree : Entity ℕ)
    (nests : Nests at_root [] es) (is : IsForestOf es forest) (says : operations_in v text [] forest ≡ an_entity tree no_entity) where
  -- Where the blocks of each region of the tree have distinct labels, no label of the text comes again in its region.
  pub labels_apart : ((i j : ℕ) (s t : Site) → slice_get (labels isolated es) i ≡ Some s → slice_get (labels isolated es) j ≡ Some t → name_of names s.token ≡ name_of names t.token → text s.token ≡ text t.token)
      → IsLabelled tree → (f : Fault) → IsAgain names (labels isolated es) f → ⊥
  labels_apart alike labelled =
      let r = labels_of_tree isolated v text es forest tree nests is says in
      apart_never names (labels isolated es)
      (operations_apart text names (labels isolated es) (λ s t i j e. alike i.0 j.0 s t i.1 j.1 e) 0 0 r.0 (an_entity tree no_entity) (labels isolated es) (label_mentions isolated es) r.1 (λ s i. i) (labelled, tt))

-- ---- other names

module _ {M N : Type 0} (f g : M → N) where
  label_renamed : (h : EntityHead M) → label_in (renamed_head f g h) ≡ label_in h
  label_renamed (operation kind results used successors pieces) = refl
  label_renamed a_region = refl
  label_renamed (block named label arguments) = refl

  labels_renamed : (ts : Entities M) → labels_of (all_renamed f g ts) ≡ labels_of ts
  labels_renamed no_entity = refl
  labels_renamed (an_entity (entity h us) ts) = ap (λ (xs : List (List ℕ)). xs ++ labels_of (all_renamed f g ts)) (label_renamed h) ∙ ap (λ (xs : List (List ℕ)). label_in h ++ xs) (labels_renamed ts)

  mutual
    -- other names of values and blocks change no labels
    pub labelled_renamed : (t : Entity M) → IsLabelled (renamed f g t) → IsLabelled t
    labelled_renamed (entity h ts) l = (subst (λ (xs : List (List ℕ)). AllDistinct xs) (labels_renamed ts) l.0, all_labelled_renamed ts l.1)

    all_labelled_renamed : (ts : Entities M) → AreLabelled (all_renamed f g ts) → AreLabelled ts
    all_labelled_renamed no_entity l = tt
    all_labelled_renamed (an_entity t ts) l = (labelled_renamed t l.0, all_labelled_renamed ts l.1)
