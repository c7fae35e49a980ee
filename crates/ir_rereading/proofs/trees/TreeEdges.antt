-- The edges of a text and those of its tree.
use Rattle.std.proofs.Common.{◌≡◌, ℕ, suc, ◌<◌, ◌≤◌, Bool, false, List, [], ◌++◌, map, length, Some, None, slice_get, slice_index, refl, sym, subst, ap, ◌∙◌, arith, inl, inr}
use Rattle.std.specs.List.{range_with_len}
use Rattle.std.proofs.lemmas.List.{append-nil}
use Rattle.ir_names.specs.Tree.{Trees}
use Rattle.ir_print.specs.Pieces.{Values, operation, a_region, block, Entity, entity, Entities, no_entity, an_entity}
use Rattle.ir_print.specs.Shown.{Pairs}
use Rattle.ir_grammar.specs.declared.grammar.Event.{Event}
use Rattle.ir_grammar.specs.Nesting.{Nests, at_root, at_end, OwnTokens}
use Rattle.ir_grammar.specs.Reading.{tooks}
use Rattle.ir_scopes.specs.declared.scopes.Resolution.{Resolution}
use Rattle.ir_scopes.specs.declared.sites.Site.{Site}
use Rattle.ir_scopes.specs.Scopes.{labels, label_mentions, IsResolved}
use Rattle.ir_forest.specs.Closed.{AreIn, blocks_among, blocks_of, HasEdges, HaveEdges}
use Rattle.ir_forest.specs.Forest.{ActionSpan, IsForestOf}
use Rattle.ir_forest.specs.Meaning.{operations_in, renamed, all_renamed}
use Rattle.ir_forest.specs.Progress.{Leads}
use Rattle.ir_rereading.proofs.trees.LabelNumbers.{label_meant}
use Rattle.ir_rereading.proofs.trees.LabelTexts.{tree_blocks}
use Rattle.ir_rereading.proofs.trees.LabelTokens.{labels_taken}
use Rattle.ir_rereading.proofs.trees.TreeAlike.{Alike, AllAlike, alike_among, pairs_append, pairs_first, pairs_second, pairs_along}
use Rattle.ir_rereading.proofs.trees.TreeLabels.{first_or_more, operations_within, regions_within, blocks_within}
use Rattle.ir_rereading.proofs.trees.TreeRegions.{label_at, labels_at, OfOperations, OfRegions, OfBlocks, labels_of_tree}
use Rattle.ir_rereading.proofs.trees.TreeRenamed.{blocks_renamed, blocks_among_renamed, successors_of, all_successors_of}
use Rattle.ir_rereading.proofs.trees.TreeScopes.{counted, get_map}
use Rattle.ir_rereading.proofs.trees.TreeSites.{In, in_left, in_right, in_either, in_none, in_map, of_map}

none_in : {N : Type 0} (bs : List N) → AreIn [] bs
none_in bs i x h = let wrong : None ≡ Some x = h in cc

-- ---- the labels of one region

module _ (text : ℕ → List ℕ) where
  -- the label of each block has a site
  block_site : (scope low high : ℕ) (ts : Entities ℕ) (ss ms : List Site) → OfBlocks text scope low high ts ss ms → (k : ℕ)
      → In k (blocks_among ts) → In (label_at scope k) ss
  block_site scope low high no_entity ss ms h k i = in_none k i
  block_site scope low high (an_entity (entity (block named label arguments) us) ts) ss ms
      (a, b, c, first, more, held, past, spelled, e, uses, lt, between, here, later) k i =
      elim (first_or_more k named (blocks_among ts) i) [
        | inl same ↦ (0, ap (λ (xs : List Site). slice_get xs 0) e ∙ ap (λ n. Some (label_at scope n)) same)
        | inr y ↦ (let there = in_right (label_at scope k) first more (block_site scope c high ts more past later k y) in
            subst (λ xs. In (label_at scope k) xs) (sym e) (suc there.0, there.1))
      ]
  block_site scope low high (an_entity (entity a_region us) ts) ss ms h k i = absurd h
  block_site scope low high (an_entity (entity (operation kind results used successors pieces) us) ts) ss ms h k i = absurd h

  -- each site in the scope of the region is that of the label of a block
  site_block : (scope low high : ℕ) (ts : Entities ℕ) (ss ms : List Site) → scope ≤ low → OfBlocks text scope low high ts ss ms
      → (s : Site) → In s ss → s.scope ≡ scope → In s.token (blocks_among ts)
  site_block scope low high no_entity ss ms le h s i is = in_none s (subst (λ xs. In s xs) h.1 i)
  site_block scope low high (an_entity (entity (block named label arguments) us) ts) ss ms le
      (a, b, c, first, more, held, past, spelled, e, uses, lt, between, here, later) s i is =
      let p = operations_within text scope a b us first held here in
      let p' = p.0 in
      elim (first_or_more s (label_at scope named) (first ++ more) (subst (λ xs. In s xs) e i)) [
        | inl same ↦ (0, ap (λ (y : Site). Some y.token) same)
        | inr x ↦ elim (in_either s first more x) [
          | inl y ↦ absurd (let l = (p.1 s y).0 in omega arith)
          | inr y ↦ (let r = site_block scope c high ts more past (omega arith) later s y is in (suc r.0, r.1))
        ]
      ]
  site_block scope low high (an_entity (entity a_region us) ts) ss ms le h s i is = absurd h
  site_block scope low high (an_entity (entity (operation kind results used successors pieces) us) ts) ss ms le h s i is = absurd h

  -- ---- the tokens of edges

  labels_token : (scope : ℕ) (ks : List ℕ) (k : ℕ) → In k ks → In (label_at scope k) (labels_at scope ks)
  labels_token scope ks k i = in_map (label_at scope) k ks i

  mutual
    -- each block to which an operation may go on is mentioned
    operations_mention : (scope low high : ℕ) (ts : Entities ℕ) (ss ms : List Site) → OfOperations text scope low high ts ss ms → (k : ℕ)
        → In k (all_successors_of ts) → (m : Site) × In m ms × (m.token ≡ k)
    operations_mention scope low high no_entity ss ms h k i = in_none k i
    operations_mention scope low high (an_entity (entity (operation kind results used successors pieces) us) ts) ss ms
        (a, b, c, first, more, held, past, e, uses, le, between, here, later) k i =
        let said = labels_at scope successors in
        elim (in_either k (successors ++ all_successors_of us) (all_successors_of ts) i) [
          | inl x ↦ elim (in_either k successors (all_successors_of us) x) [
            | inl y ↦ (label_at scope k, (uses (label_at scope k)).1 (in_left (label_at scope k) said (held ++ past) (labels_token scope successors k y)), refl)
            | inr y ↦ (let m = regions_mention a b us first held here k y in (m.0, (uses m.0).1 (in_right m.0 said (held ++ past) (in_left m.0 held past m.1)), m.2))
          ]
          | inr x ↦ (let m = operations_mention scope c high ts more past later k x in (m.0, (uses m.0).1 (in_right m.0 said (held ++ past) (in_right m.0 held past m.1)), m.2))
        ]
    operations_mention scope low high (an_entity (entity a_region us) ts) ss ms h k i = absurd h
    operations_mention scope low high (an_entity (entity (block named label arguments) us) ts) ss ms h k i = absurd h

    regions_mention : (low high : ℕ) (ts : Entities ℕ) (ss ms : List Site) → OfRegions text low high ts ss ms → (k : ℕ)
        → In k (all_successors_of ts) → (m : Site) × In m ms × (m.token ≡ k)
    regions_mention low high no_entity ss ms h k i = in_none k i
    regions_mention low high (an_entity (entity a_region us) ts) ss ms (scope, b, c, first, more, held, past, e, uses, lt, between, here, later) k i =
        elim (in_either k (all_successors_of us) (all_successors_of ts) i) [
          | inl y ↦ (let m = blocks_mention scope scope b us first held here k y in (m.0, (uses m.0).1 (in_left m.0 held past m.1), m.2))
          | inr y ↦ (let m = regions_mention c high ts more past later k y in (m.0, (uses m.0).1 (in_right m.0 held past m.1), m.2))
        ]
    regions_mention low high (an_entity (entity (operation kind results used successors pieces) us) ts) ss ms h k i = absurd h
    regions_mention low high (an_entity (entity (block named label arguments) us) ts) ss ms h k i = absurd h

    blocks_mention : (scope low high : ℕ) (ts : Entities ℕ) (ss ms : List Site) → OfBlocks text scope low high ts ss ms → (k : ℕ)
        → In k (all_successors_of ts) → (m : Site) × In m ms × (m.token ≡ k)
    blocks_mention scope low high no_entity ss ms h k i = in_none k i
    blocks_mention scope low high (an_entity (entity (block named label arguments) us) ts) ss ms
        (a, b, c, first, more, held, past, spelled, e, uses, lt, between, here, later) k i =
        elim (in_either k (all_successors_of us) (all_successors_of ts) i) [
          | inl y ↦ (let m = operations_mention scope a b us first held here k y in (m.0, (uses m.0).1 (in_left m.0 held past m.1), m.2))
          | inr y ↦ (let m = blocks_mention scope c high ts more past later k y in (m.0, (uses m.0).1 (in_right m.0 held past m.1), m.2))
        ]
    blocks_mention scope low high (an_entity (entity a_region us) ts) ss ms h k i = absurd h
    blocks_mention scope low high (an_entity (entity (operation kind results used successors pieces) us) ts) ss ms h k i = absurd h

  -- ---- from mentions that mean labels to edges

  module _ {N : Type 0} (g : ℕ → N) (all said : List Site) (meant : (m : Site) → In m said → (d : Site) × In d all × (d.scope ≡ m.scope) × (g d.token ≡ g m.token)) where
    abbrev Said : List Site → Type 0
    Said ms = (m : Site) → In m ms → In m said

    -- the sites of scopes between these numbers are among these
    abbrev Owns : ℕ → ℕ → List Site → Type 0
    Owns low high ss = (d : Site) → In d all → low < d.scope → d.scope ≤ high → In d ss

    -- the labels in this scope name these blocks
    abbrev Near : ℕ → List N → Type 0
    Near scope bs = (d : Site) → In d all → d.scope ≡ scope → In (g d.token) bs

    -- where they are mentioned, edges lead to these blocks
    led : (scope : ℕ) (ks : List ℕ) (bs : List N) → Said (labels_at scope ks) → Near scope bs → AreIn (map g ks) bs
    led scope ks bs sub near i y at =
        let k = of_map g y ks (i, at) in
        let d = meant (label_at scope k.0) (sub (label_at scope k.0) (labels_token scope ks k.0 k.1)) in
        subst (λ z. In z bs) (d.3 ∙ k.2) (near d.0 d.1 d.2)

    mutual
      operations_edges : (scope low high : ℕ) (ts : Entities ℕ) (ss ms : List Site) → OfOperations text scope low high ts ss ms → Said ms
          → Owns low high ss → (bs : List N) → Near scope bs
          → HaveEdges bs (all_renamed g g ts)
      operations_edges scope low high no_entity ss ms h sub own bs near = tt
      operations_edges scope low high (an_entity (entity (operation kind results used successors pieces) us) ts) ss ms
          (a, b, c, first, more, held, past, e, uses, le, between, here, later) sub own bs near =
          let p = regions_within text a b us first held here in
          let q = operations_within text scope c high ts more past later in
          let p' = p.0 in
          let q' = q.0 in
          let ks = labels_at scope successors in
          let among : Said (ks ++ (held ++ past)) = λ m i. sub m ((uses m).1 i) in (
            (
              led scope successors bs (λ m i. among m (in_left m ks (held ++ past) i)) near,
              regions_edges a b us first held here (λ m i. among m (in_right m ks (held ++ past) (in_left m held past i)))
                  (λ d i lo hi. elim (in_either d first more (subst (λ xs. In d xs) e (own d i (omega arith) (omega arith)))) [ inl x ↦ x | inr x ↦ absurd (let l = (q.1 d x).0 in omega arith) ]) bs,
            ),
            operations_edges scope c high ts more past later (λ m i. among m (in_right m ks (held ++ past) (in_right m held past i)))
                (λ d i lo hi. elim (in_either d first more (subst (λ xs. In d xs) e (own d i (omega arith) (omega arith)))) [ inl x ↦ absurd (let l = (p.1 d x).1 in omega arith) | inr x ↦ x ]) bs near,
          )
      operations_edges scope low high (an_entity (entity a_region us) ts) ss ms h sub own bs near = absurd h
      operations_edges scope low high (an_entity (entity (block named label arguments) us) ts) ss ms h sub own bs near = absurd h

      regions_edges : (low high : ℕ) (ts : Entities ℕ) (ss ms : List Site) → OfRegions text low high ts ss ms → Said ms → Owns low high ss
          → (bs : List N) → HaveEdges bs (all_renamed g g ts)
      regions_edges low high no_entity ss ms h sub own bs = tt
      regions_edges low high (an_entity (entity a_region us) ts) ss ms
          (scope, b, c, first, more, held, past, e, uses, lt, between, here, later) sub own bs =
          let p = blocks_within text scope scope b us first held (omega arith) here in
          let q = regions_within text c high ts more past later in
          let p' = p.0 in
          let q' = q.0 in
          let among : Said (held ++ past) = λ m i. sub m ((uses m).1 i) in
          let in_first : (d : Site) → In d all → scope ≤ d.scope → d.scope ≤ b → In d first = λ d i lo hi.
          elim (in_either d first more (subst (λ xs. In d xs) e (own d i (omega arith) (omega arith)))) [ inl x ↦ x | inr x ↦ absurd (let l = (q.1 d x).0 in omega arith) ] in (
            (
              none_in bs,
              blocks_edges scope scope b us first held (omega arith) here (λ m i. among m (in_left m held past i)) (λ d i lo hi. in_first d i (omega arith) hi) (blocks_among (all_renamed g g us))
                  (λ d i same. subst (λ xs. In (g d.token) xs) (sym (blocks_among_renamed g g us))
                  (in_map g d.token (blocks_among us) (site_block scope scope b us first held (omega arith) here d (in_first d i (omega arith) (omega arith)) same))),
            ),
            regions_edges c high ts more past later (λ m i. among m (in_right m held past i))
                (λ d i lo hi. elim (in_either d first more (subst (λ xs. In d xs) e (own d i (omega arith) (omega arith)))) [
                  | inl x ↦ absurd (elim (p.1 d x) [ inl same ↦ omega arith | inr r ↦ (let l = r.1 in omega arith) ])
                  | inr x ↦ x
                ]) bs,
          )
      regions_edges low high (an_entity (entity (operation kind results used successors pieces) us) ts) ss ms h sub own bs = absurd h
      regions_edges low high (an_entity (entity (block named label arguments) us) ts) ss ms h sub own bs = absurd h

      blocks_edges : (scope low high : ℕ) (ts : Entities ℕ) (ss ms : List Site) → scope ≤ low → OfBlocks text scope low high ts ss ms
          → Said ms → Owns low high ss → (bs : List N) → Near scope bs
          → HaveEdges bs (all_renamed g g ts)
      blocks_edges scope low high no_entity ss ms le h sub own bs near = tt
      blocks_edges scope low high (an_entity (entity (block named label arguments) us) ts) ss ms le
          (a, b, c, first, more, held, past, spelled, e, uses, lt, between, here, later) sub own bs near =
          let p = operations_within text scope a b us first held here in
          let p' = p.0 in
          let above : scope ≤ c = omega arith in
          let q = blocks_within text scope c high ts more past above later in
          let q' = q.0 in
          let among : Said (held ++ past) = λ m i. sub m ((uses m).1 i) in
          let behind : (d : Site) → In d all → low < d.scope → d.scope ≤ high → In d (first ++ more) = λ d i lo hi.
          elim (first_or_more d (label_at scope named) (first ++ more) (subst (λ xs. In d xs) e (own d i lo hi))) [
            | inl same ↦ absurd (let is : scope ≡ d.scope = ap (λ (x : Site). x.scope) same in omega arith)
            | inr x ↦ x
          ] in (
            (
              none_in bs,
              operations_edges scope a b us first held here (λ m i. among m (in_left m held past i))
                  (λ d i lo hi. elim (in_either d first more (behind d i (omega arith) (omega arith))) [
                    | inl x ↦ x
                    | inr x ↦ absurd (elim (q.1 d x) [ inl same ↦ omega arith | inr r ↦ (let l = r.0 in omega arith) ])
                  ]) bs near,
            ),
            blocks_edges scope c high ts more past above later (λ m i. among m (in_right m held past i))
                (λ d i lo hi. elim (in_either d first more (behind d i (omega arith) hi)) [ inl x ↦ absurd (let l = (p.1 d x).1 in omega arith) | inr x ↦ x ]) bs near,
          )
      blocks_edges scope low high (an_entity (entity a_region us) ts) ss ms le h sub own bs near = absurd h
      blocks_edges scope low high (an_entity (entity (operation kind results used successors pieces) us) ts) ss ms le h sub own bs near = absurd h

  -- ---- from edges to mentions that mean labels

  -- beside the tree there is one that is alike, in which these names go with those of blocks
  module _ {N : Type 0} (R S : ℕ → N → Type 0) (all said : List Site) where
    -- the mention and a label in its scope go with this name
    abbrev pub Linked : Site → N → Type 0
    Linked m y = (d : Site) × In d all × (d.scope ≡ m.scope) × S d.token y × S m.token y

    -- the token is that of such a mention
    abbrev pub LinkedToken : ℕ → N → Type 0
    LinkedToken k y = (m : Site) × In m said × (m.token ≡ k) × Linked m y

    abbrev AllLinked : List Site → Type 0
    AllLinked ms = (m : Site) → In m ms → (y : N) × Linked m y

    -- each of these blocks has a label in the scope
    abbrev Far : ℕ → List N → Type 0
    Far scope bs = (y : N) → In y bs → (d : Site) × In d all × (d.scope ≡ scope) × S d.token y

    abbrev Part : List Site → List Site → Type 0
    Part ss ms = ((d : Site) → In d ss → In d all) × ((m : Site) → In m ms → In m said)

    abbrev Links : List Site → Entities ℕ → Entities N → Type 0
    Links ms ts us = AllLinked ms × Pairs LinkedToken (all_successors_of ts) (all_successors_of us)

    -- the labels of an operation, and those in what goes with it
    heads_linked : (scope : ℕ) (ks : List ℕ) (ys bs : List N) → Pairs S ks ys → ((m : Site) → In m (labels_at scope ks) → In m said)
        → AreIn ys bs → Far scope bs
        → AllLinked (labels_at scope ks) × Pairs LinkedToken ks ys
    heads_linked scope ks ys bs p sub led far = (
      λ m i. (let k = of_map (label_at scope) m ks i in
          let y = pairs_first S ks ys p k.1.0 k.0 k.1.1 in
          let d = far y.0 (led k.1.0 y.0 y.1) in
          (y.0, (d.0, d.1, d.2 ∙ ap (λ (x : Site). x.scope) k.2, d.3, subst (λ (x : Site). S x.token y.0) k.2 y.2))),
      pairs_along S LinkedToken ks ys p (λ i k y at to s.
          (let d = far y (led i y to) in (label_at scope k, sub (label_at scope k) (labels_token scope ks k (i, at)), refl, (d.0, d.1, d.2, d.3, s)))),
    )

    both_linked : (ms held past : List Site) → ((m : Site) → In m ms → In m (held ++ past)) → AllLinked held → AllLinked past → AllLinked ms
    both_linked ms held past uses h p m i = elim (in_either m held past (uses m i)) [ inl x ↦ h m x | inr x ↦ p m x ]

    mutual
      operations_linked : (scope low high : ℕ) (ts : Entities ℕ) (ws : Entities N) (ss ms : List Site)
          → OfOperations text scope low high ts ss ms → AllAlike R S ts ws → Part ss ms → (bs : List N) → Far scope bs
          → HaveEdges bs ws → Links ms ts ws
      operations_linked scope low high no_entity no_entity ss ms h a sub bs far edges = ((λ m i. in_none m (subst (λ xs. In m xs) h.2 i)), tt)
      operations_linked scope low high no_entity (an_entity w ws) ss ms h a sub bs far edges = absurd a
      operations_linked scope low high (an_entity t ts) no_entity ss ms h a sub bs far edges = absurd a
      operations_linked scope low high (an_entity (entity a_region us) ts) (an_entity w ws) ss ms h a sub bs far edges = absurd h
      operations_linked scope low high (an_entity (entity (block named label arguments) us) ts) (an_entity w ws) ss ms h a sub bs far edges = absurd h
      operations_linked scope low high (an_entity (entity (operation kind results used successors pieces) us) ts) (an_entity (entity a_region vs) ws) ss ms h a sub bs far edges = absurd a.0.0
      operations_linked scope low high (an_entity (entity (operation kind results used successors pieces) us) ts) (an_entity (entity (block named label arguments) vs) ws) ss ms h a sub bs far edges = absurd a.0.0
      operations_linked scope low high (an_entity (entity (operation kind results used successors pieces) us) ts) (an_entity (entity (operation kind' results' used' successors' pieces') vs) ws) ss ms
          (x, b, c, first, more, held, past, e, uses, le, between, here, later) a sub bs far edges =
          let ks = labels_at scope successors in
          let among : (m : Site) → In m (ks ++ (held ++ past)) → In m said = λ m i. sub.1 m ((uses m).1 i) in
          let within : (d : Site) → In d (first ++ more) → In d all = λ d i. sub.0 d (subst (λ xs. In d xs) (sym e) i) in
          let o = heads_linked scope successors successors' bs a.0.0.3 (λ m i. among m (in_left m ks (held ++ past) i)) edges.0.0 far in
          let r = regions_linked x b us vs first held here a.0.1 (λ d i. within d (in_left d first more i), λ m i. among m (in_right m ks (held ++ past) (in_left m held past i))) bs edges.0.1 in
          let q = operations_linked scope c high ts ws more past later a.1 (λ d i. within d (in_right d first more i), λ m i. among m (in_right m ks (held ++ past) (in_right m held past i))) bs far edges.1 in (
            both_linked ms ks (held ++ past) (λ m i. (uses m).0 i) o.0 (both_linked (held ++ past) held past (λ m i. i) r.0 q.0),
            pairs_append LinkedToken (successors ++ all_successors_of us) (all_successors_of ts) (successors' ++ all_successors_of vs) (all_successors_of ws)
                (pairs_append LinkedToken successors (all_successors_of us) successors' (all_successors_of vs) o.1 r.1) q.1,
          )

      regions_linked : (low high : ℕ) (ts : Entities ℕ) (ws : Entities N) (ss ms : List Site) → OfRegions text low high ts ss ms
          → AllAlike R S ts ws → Part ss ms → (bs : List N) → HaveEdges bs ws → Links ms ts ws
      regions_linked low high no_entity no_entity ss ms h a sub bs edges = ((λ m i. in_none m (subst (λ xs. In m xs) h.2 i)), tt)
      regions_linked low high no_entity (an_entity w ws) ss ms h a sub bs edges = absurd a
      regions_linked low high (an_entity t ts) no_entity ss ms h a sub bs edges = absurd a
      regions_linked low high (an_entity (entity (operation kind results used successors pieces) us) ts) (an_entity w ws) ss ms h a sub bs edges = absurd h
      regions_linked low high (an_entity (entity (block named label arguments) us) ts) (an_entity w ws) ss ms h a sub bs edges = absurd h
      regions_linked low high (an_entity (entity a_region us) ts) (an_entity (entity (operation kind results used successors pieces) vs) ws) ss ms h a sub bs edges = absurd a.0.0
      regions_linked low high (an_entity (entity a_region us) ts) (an_entity (entity (block named label arguments) vs) ws) ss ms h a sub bs edges = absurd a.0.0
      regions_linked low high (an_entity (entity a_region us) ts) (an_entity (entity a_region vs) ws) ss ms
          (scope, b, c, first, more, held, past, e, uses, lt, between, here, later) a sub bs edges =
          let within : (d : Site) → In d (first ++ more) → In d all = λ d i. sub.0 d (subst (λ xs. In d xs) (sym e) i) in
          let r = blocks_linked scope scope b us vs first held here a.0.1 (λ d i. within d (in_left d first more i), λ m i. sub.1 m ((uses m).1 (in_left m held past i))) (blocks_among vs)
          (λ y i. (let k = pairs_second S (blocks_among us) (blocks_among vs) (alike_among R S us vs a.0.1) i.0 y i.1 in
          (label_at scope k.0, within (label_at scope k.0) (in_left (label_at scope k.0) first more (block_site scope scope b us first held here k.0 (i.0, k.1))), refl, k.2))) edges.0.1 in
          let q = regions_linked c high ts ws more past later a.1 (λ d i. within d (in_right d first more i), λ m i. sub.1 m ((uses m).1 (in_right m held past i))) bs edges.1 in (
            both_linked ms held past (λ m i. (uses m).0 i) r.0 q.0,
            pairs_append LinkedToken (all_successors_of us) (all_successors_of ts) (all_successors_of vs) (all_successors_of ws) r.1 q.1,
          )

      blocks_linked : (scope low high : ℕ) (ts : Entities ℕ) (ws : Entities N) (ss ms : List Site) → OfBlocks text scope low high ts ss ms
          → AllAlike R S ts ws → Part ss ms → (bs : List N) → Far scope bs
          → HaveEdges bs ws → Links ms ts ws
      blocks_linked scope low high no_entity no_entity ss ms h a sub bs far edges = ((λ m i. in_none m (subst (λ xs. In m xs) h.2 i)), tt)
      blocks_linked scope low high no_entity (an_entity w ws) ss ms h a sub bs far edges = absurd a
      blocks_linked scope low high (an_entity t ts) no_entity ss ms h a sub bs far edges = absurd a
      blocks_linked scope low high (an_entity (entity a_region us) ts) (an_entity w ws) ss ms h a sub bs far edges = absurd h
      blocks_linked scope low high (an_entity (entity (operation kind results used successors pieces) us) ts) (an_entity w ws) ss ms h a sub bs far edges = absurd h
      blocks_linked scope low high (an_entity (entity (block named label arguments) us) ts) (an_entity (entity a_region vs) ws) ss ms h a sub bs far edges = absurd a.0.0
      blocks_linked scope low high (an_entity (entity (block named label arguments) us) ts) (an_entity (entity (operation kind results used successors pieces) vs) ws) ss ms h a sub bs far edges = absurd a.0.0
      blocks_linked scope low high (an_entity (entity (block named label arguments) us) ts) (an_entity (entity (block named' label' arguments') vs) ws) ss ms
          (x, b, c, first, more, held, past, spelled, e, uses, lt, between, here, later) a sub bs far edges =
          let within : (d : Site) → In d (first ++ more) → In d all = λ d i. sub.0 d (subst (λ xs. In d xs) (sym e) (suc i.0, i.1)) in
          let r = operations_linked scope x b us vs first held here a.0.1 (λ d i. within d (in_left d first more i), λ m i. sub.1 m ((uses m).1 (in_left m held past i))) bs far edges.0.1 in
          let q = blocks_linked scope c high ts ws more past later a.1 (λ d i. within d (in_right d first more i), λ m i. sub.1 m ((uses m).1 (in_right m held past i))) bs far edges.1 in (
            both_linked ms held past (λ m i. (uses m).0 i) r.0 q.0,
            pairs_append LinkedToken (all_successors_of us) (all_successors_of ts) (all_successors_of vs) (all_successors_of ws) r.1 q.1,
          )

-- ---- texts

module _ (isolated : ℕ → Bool) (v : Values) (text : ℕ → List ℕ) (es : List Event) (forest : Trees ActionSpan) (tree : Entity ℕ)
    (nests : Nests at_root [] es) (is : IsForestOf es forest) (says : operations_in v text [] forest ≡ an_entity tree no_entity) where
  -- Each token among the edges of the tree is that of a mention of a block.
  pub edge_tokens : (k : ℕ) → In k (successors_of tree) → (m : Site) × In m (label_mentions isolated es) × (m.token ≡ k)
  edge_tokens k i =
      let r = labels_of_tree isolated v text es forest tree nests is says in
      operations_mention text 0 0 r.0 (an_entity tree no_entity) (labels isolated es) (label_mentions isolated es) r.1 k (in_left k (successors_of tree) [] i)

  -- Where each mention of a block means a label, each edge of the tree leads to a block of the nearest region.
  pub meant_edges : {N : Type 0} (g : ℕ → N)
      → ((m : Site) → In m (label_mentions isolated es) → (d : Site) × In d (labels isolated es) × (d.scope ≡ m.scope) × (g d.token ≡ g m.token))
      → HasEdges [] (renamed g g tree)
  meant_edges g meant =
      let r = labels_of_tree isolated v text es forest tree nests is says in
      let p = operations_within text 0 0 r.0 (an_entity tree no_entity) (labels isolated es) (label_mentions isolated es) r.1 in
      (operations_edges text g (labels isolated es) (label_mentions isolated es) meant 0 0 r.0 (an_entity tree no_entity) (labels isolated es) (label_mentions isolated es) r.1 (λ m i. i) (λ d i lo hi. i) []
      (λ d i same. absurd (let l = (p.1 d i).0 in omega arith))).0

  -- Where each edge of a tree that is alike does, each mention of a block means a label that goes with the same name.
  pub edges_linked : {N : Type 0} (R S : ℕ → N → Type 0) (t : Entity N) → Alike R S tree t → HasEdges [] t
      → ((m : Site) → In m (label_mentions isolated es) → (y : N) × Linked text R S (labels isolated es) (label_mentions isolated es) m y)
      × Pairs (LinkedToken text R S (labels isolated es) (label_mentions isolated es)) (successors_of tree) (successors_of t)
  edges_linked {N = N} R S t a edges =
      let r = labels_of_tree isolated v text es forest tree nests is says in
      let q = operations_linked text R S (labels isolated es) (label_mentions isolated es) 0 0 r.0 (an_entity tree no_entity) (an_entity t no_entity) (labels isolated es) (label_mentions isolated es) r.1 (a, tt)
      ((λ d i. i), (λ m i. i)) [] (λ y i. in_none y i) (edges, tt) in
      let P = LinkedToken text R S (labels isolated es) (label_mentions isolated es) in
      (q.0, subst (λ (ys : List N). Pairs P (successors_of tree) ys) (append-nil (successors_of t)) (subst (λ (xs : List ℕ). Pairs P xs (successors_of t ++ [])) (append-nil (successors_of tree)) q.1))

  -- ---- where the names of a text are looked up

  module _ (names : List ℕ) (r : Resolution) (resolved : IsResolved isolated names es r) (own : OwnTokens false es) (enough : tooks es ≤ length names) where
    number_of_label : (j : ℕ) (s : Site) → slice_get (labels isolated es) j ≡ Some s → slice_index r.definitions s.token ≡ j
    number_of_label j s at = let lt = labels_taken isolated es own j s at in resolved.labels.defined j s at (omega arith)

    -- Where the names of a text are looked up, each edge of its tree leads to a block of the nearest region.
    pub numbers_edges : Leads at_root [] es at_end [] → HasEdges [] (renamed (slice_index r.definitions) (slice_index r.definitions) tree)
    numbers_edges leads =
        meant_edges (slice_index r.definitions) (λ m i.
        (let found = label_meant isolated names es r resolved own enough leads i.0 m i.1 in
        let d = found.1.0 in
        (d, (found.0, found.1.1), found.1.2.0, number_of_label found.0 d found.1.1 ∙ sym found.2)))

    -- Its blocks have the numbers from 0 on.
    pub blocks_counted : blocks_of (renamed (slice_index r.definitions) (slice_index r.definitions) tree)
        ≡ range_with_len 0 (length (blocks_of (renamed (slice_index r.definitions) (slice_index r.definitions) tree)))
    blocks_counted =
        let number : ℕ → ℕ = slice_index r.definitions in
        counted (blocks_of (renamed number number tree)) 0 (λ j x at.
        (let found = get_map number (blocks_of tree) j x (subst (λ xs. slice_get xs j ≡ Some x) (blocks_renamed number number tree) at) in
        let s = get_map (λ (s : Site). s.token) (labels isolated es) j found.0 (subst (λ xs. slice_get xs j ≡ Some found.0) (tree_blocks isolated v text es forest tree nests is says) found.1) in
        let is : number s.0.token ≡ j = number_of_label j s.0 s.1 in
        let same : number s.0.token ≡ x = ap number s.2 ∙ found.2 in
        omega arith))
