-- What is found in a tree without some blocks is what was found outside them.
use Rattle.std.proofs.Common.{◌≡◌, ◌⊎◌, inl, inr, ⊎_elim, Bool, true, false, List, ◌∷◌, refl, sym, ap, ◌∙◌, subst}
use Rattle.std.specs.Prelude.{if◌then◌else◌}
use Rattle.ir_trees.specs.Names.{Names, Contents}
use Rattle.ir_trees.specs.Trees.{Head, Label, Sort, Operations, Blocks, Regions, Tree, end, operation, block, region, Root}
use Rattle.ir_trees.specs.Renames.{names_of}
use Rattle.ir_trees.proofs.Members.{has_front, has_back, has_either}
use Rattle.opt_trees.specs.Occurrences.{Has, OperationSite, Spot, Occurrence, BlockOccurrence, Inside, inner, next_block, next_region, occurrences_in, block_occurrences_in, occurrences_of, block_occurrences_of, at_root, defined_in}
use Rattle.opt_trees.specs.Simplify.{keep}
use Rattle.opt_simplify.proofs.RemovedValues.{defined_by_found, result_defined, argument_defined}
use Rattle.opt_inside.proofs.ReachLemmas.Order.{Around}

-- none of the list goes
abbrev pub Clear : {X : Type 0} → (X → Bool) → List X → Type 0
Clear {X} g ws = (w : X) → Has w ws → g w ≡ false

module _ {N : Names} {S : Contents} where
  -- the blocks that an operation is in, and those that a block is, or is in
  abbrev pub over : Occurrence N S → List N.block
  over o = o.site.label.name ∷ o.site.spot.within

  abbrev pub over_block : BlockOccurrence N S → List N.block
  over_block x = x.label.name ∷ x.spot.within

  abbrev at_site : Spot N S → (l : Label N S) → OperationSite N S
  at_site c l = record { spot = c; label = l }

  -- what is around a list is around what is found in it
  around_over : (s : Sort) (t : Tree N S s) (c : Inside N S s) (o : Occurrence N S) → Has o (occurrences_in t c) → (w : N.block) → Has w (Around N S s c) → Has w (over o)
  around_over _ end c o has w m = absurd has
  around_over _ (operation h rs rest) c o has w m = ⊎_elim
      (λ (e : o ≡ record { site = c; head = h; regions = rs }). subst (λ (z : Occurrence N S). Has w (over z)) (sym e) m)
      (λ more. ⊎_elim
      (λ a. around_over Regions rs (inner h c) o a w m)
      (λ a. around_over Operations rest c o a w m)
      (has_either (occurrences_in rs (inner h c)) (occurrences_in rest c) o more))
      has
  around_over _ (block l ops rest) c o has w m = ⊎_elim
      (λ a. around_over Operations ops (record { spot = c; label = l }) o a w (inr m))
      (λ a. around_over Blocks rest (next_block c) o a w m)
      (has_either (occurrences_in ops (record { spot = c; label = l })) (occurrences_in rest (next_block c)) o has)
  around_over _ (region bs rest) c o has w m = ⊎_elim
      (λ a. around_over Blocks bs c o a w m)
      (λ a. around_over Regions rest (next_region c) o a w m)
      (has_either (occurrences_in bs c) (occurrences_in rest (next_region c)) o has)

  around_over_block : (s : Sort) (t : Tree N S s) (c : Inside N S s) (x : BlockOccurrence N S) → Has x (block_occurrences_in t c) → (w : N.block) → Has w (Around N S s c) → Has w (over_block x)
  around_over_block _ end c x has w m = absurd has
  around_over_block _ (operation h rs rest) c x has w m = ⊎_elim
      (λ a. around_over_block Regions rs (inner h c) x a w m)
      (λ a. around_over_block Operations rest c x a w m)
      (has_either (block_occurrences_in rs (inner h c)) (block_occurrences_in rest c) x has)
  around_over_block _ (block l ops rest) c x has w m = ⊎_elim
      (λ (e : x ≡ record { spot = c; label = l; operations = ops }). subst (λ (z : BlockOccurrence N S). Has w (over_block z)) (sym e) (inr m))
      (λ more. ⊎_elim
      (λ a. around_over_block Operations ops (record { spot = c; label = l }) x a w (inr m))
      (λ a. around_over_block Blocks rest (next_block c) x a w m)
      (has_either (block_occurrences_in ops (record { spot = c; label = l })) (block_occurrences_in rest (next_block c)) x more))
      has
  around_over_block _ (region bs rest) c x has w m = ⊎_elim
      (λ a. around_over_block Blocks bs c x a w m)
      (λ a. around_over_block Regions rest (next_region c) x a w m)
      (has_either (block_occurrences_in bs c) (block_occurrences_in rest (next_region c)) x has)

  module _ (g : N.block → Bool) where
    -- an operation of this head is found in what is kept
    abbrev Kept : (s : Sort) → Tree N S s → Inside N S s → Occurrence N S → Type 0
    Kept s t c o = (p : Occurrence N S) × Has p (occurrences_in (keep g t) c) × (p.head ≡ o.head)

    kept_there : (s : Sort) (t : Tree N S s) (c : Inside N S s) (o : Occurrence N S) (i : Inside N S s) → Has o (occurrences_in t i) → Clear g (over o) → Kept s t c o
    kept_there _ end c o i has clear = absurd has
    kept_there _ (operation h rs rest) c o i has clear = ⊎_elim
        (λ (e : o ≡ record { site = i; head = h; regions = rs }). (record { site = c; head = h; regions = keep g rs }, inl refl, sym (ap (λ (z : Occurrence N S). z.head) e)))
        (λ more. ⊎_elim
        (λ a. let r = kept_there Regions rs (inner h c) o (inner h i) a clear in (r.0, inr (has_front (occurrences_in (keep g rs) (inner h c)) (occurrences_in (keep g rest) c) r.0 r.1), r.2))
        (λ a. let r = kept_there Operations rest c o i a clear in (r.0, inr (has_back (occurrences_in (keep g rs) (inner h c)) (occurrences_in (keep g rest) c) r.0 r.1), r.2))
        (has_either (occurrences_in rs (inner h i)) (occurrences_in rest i) o more))
        has
    kept_there _ (block l ops rest) c o i has clear = ⊎_elim
        (λ a.
        let stays : g l.name ≡ false = clear l.name (around_over Operations ops (record { spot = i; label = l }) o a l.name (inl refl)) in
        let r = kept_there Operations ops (record { spot = c; label = l }) o (record { spot = i; label = l }) a clear in
        subst (λ b. (p : Occurrence N S) × Has p (occurrences_in (if b then keep g rest else block l (keep g ops) (keep g rest)) c) × (p.head ≡ o.head)) (sym stays)
        (r.0, has_front (occurrences_in (keep g ops) (record { spot = c; label = l })) (occurrences_in (keep g rest) (next_block c)) r.0 r.1, r.2))
        (λ a. by_test (g l.name) (kept_there Blocks rest c o (next_block i) a clear) (kept_there Blocks rest (next_block c) o (next_block i) a clear))
        (has_either (occurrences_in ops (record { spot = i; label = l })) (occurrences_in rest (next_block i)) o has)
      where
        by_test : (b : Bool) → Kept Blocks rest c o → Kept Blocks rest (next_block c) o → (p : Occurrence N S) × Has p (occurrences_in (if b then keep g rest else block l (keep g ops) (keep g rest)) c) × (p.head ≡ o.head)
        by_test true r q = r
        by_test false r q = (q.0, has_back (occurrences_in (keep g ops) (record { spot = c; label = l })) (occurrences_in (keep g rest) (next_block c)) q.0 q.1, q.2)
    kept_there _ (region bs rest) c o i has clear = ⊎_elim
        (λ a. let r = kept_there Blocks bs c o i a clear in (r.0, has_front (occurrences_in (keep g bs) c) (occurrences_in (keep g rest) (next_region c)) r.0 r.1, r.2))
        (λ a. let r = kept_there Regions rest (next_region c) o (next_region i) a clear in (r.0, has_back (occurrences_in (keep g bs) c) (occurrences_in (keep g rest) (next_region c)) r.0 r.1, r.2))
        (has_either (occurrences_in bs i) (occurrences_in rest (next_region i)) o has)

    -- what is found in what is kept was there, outside what goes
    abbrev Was : (s : Sort) → Tree N S s → Inside N S s → Occurrence N S → Type 0
    Was s t i p = (o : Occurrence N S) × Has o (occurrences_in t i) × (p.head ≡ o.head) × Clear g (over o)

    was_there : (s : Sort) (t : Tree N S s) (c i : Inside N S s) (p : Occurrence N S) → Has p (occurrences_in (keep g t) c) → Clear g (Around N S s i) → Was s t i p
    was_there _ end c i p has clear = absurd has
    was_there _ (operation h rs rest) c i p has clear = ⊎_elim
        (λ (e : p ≡ record { site = c; head = h; regions = keep g rs }). (record { site = i; head = h; regions = rs }, inl refl, ap (λ (z : Occurrence N S). z.head) e, clear))
        (λ more. ⊎_elim
        (λ a. let r = was_there Regions rs (inner h c) (inner h i) p a clear in (r.0, inr (has_front (occurrences_in rs (inner h i)) (occurrences_in rest i) r.0 r.1), r.2, r.3))
        (λ a. let r = was_there Operations rest c i p a clear in (r.0, inr (has_back (occurrences_in rs (inner h i)) (occurrences_in rest i) r.0 r.1), r.2, r.3))
        (has_either (occurrences_in (keep g rs) (inner h c)) (occurrences_in (keep g rest) c) p more))
        has
    was_there _ (block l ops rest) c i p has clear = by_test (g l.name) refl has (λ j a. was_there Blocks rest j (next_block i) p a clear) (λ a k. was_there Operations ops (record { spot = c; label = l }) (record { spot = i; label = l }) p a k) where
      later : Was Blocks rest (next_block i) p → Was Blocks (block l ops rest) i p
      later r = (r.0, has_back (occurrences_in ops (record { spot = i; label = l })) (occurrences_in rest (next_block i)) r.0 r.1, r.2, r.3)

      by_test : (b : Bool) → g l.name ≡ b → Has p (occurrences_in (if b then keep g rest else block l (keep g ops) (keep g rest)) c)
          → ((j : Spot N S) → Has p (occurrences_in (keep g rest) j) → Was Blocks rest (next_block i) p)
          → (Has p (occurrences_in (keep g ops) (at_site c l)) → Clear g (l.name ∷ i.within) → Was Operations ops (at_site i l) p)
          → Was Blocks (block l ops rest) i p
      by_test true e a behind within = later (behind c a)
      by_test false e a behind within = ⊎_elim
          (λ b. let r = within b (λ w m. ⊎_elim (λ (s : w ≡ l.name). ap g s ∙ e) (λ n. clear w n) m) in (r.0, has_front (occurrences_in ops (record { spot = i; label = l })) (occurrences_in rest (next_block i)) r.0 r.1, r.2, r.3))
          (λ b. later (behind (next_block c) b))
          (has_either (occurrences_in (keep g ops) (record { spot = c; label = l })) (occurrences_in (keep g rest) (next_block c)) p a)
    was_there _ (region bs rest) c i p has clear = ⊎_elim
        (λ a. let r = was_there Blocks bs c i p a clear in (r.0, has_front (occurrences_in bs i) (occurrences_in rest (next_region i)) r.0 r.1, r.2, r.3))
        (λ a. let r = was_there Regions rest (next_region c) (next_region i) p a clear in (r.0, has_back (occurrences_in bs i) (occurrences_in rest (next_region i)) r.0 r.1, r.2, r.3))
        (has_either (occurrences_in (keep g bs) c) (occurrences_in (keep g rest) (next_region c)) p has)

    -- the same of blocks
    abbrev KeptBlock : (s : Sort) → Tree N S s → Inside N S s → BlockOccurrence N S → Type 0
    KeptBlock s t c x = (p : BlockOccurrence N S) × Has p (block_occurrences_in (keep g t) c) × (p.label ≡ x.label)

    kept_block : (s : Sort) (t : Tree N S s) (c : Inside N S s) (x : BlockOccurrence N S) (i : Inside N S s) → Has x (block_occurrences_in t i) → Clear g (over_block x) → KeptBlock s t c x
    kept_block _ end c x i has clear = absurd has
    kept_block _ (operation h rs rest) c x i has clear = ⊎_elim
        (λ a. let r = kept_block Regions rs (inner h c) x (inner h i) a clear in (r.0, has_front (block_occurrences_in (keep g rs) (inner h c)) (block_occurrences_in (keep g rest) c) r.0 r.1, r.2))
        (λ a. let r = kept_block Operations rest c x i a clear in (r.0, has_back (block_occurrences_in (keep g rs) (inner h c)) (block_occurrences_in (keep g rest) c) r.0 r.1, r.2))
        (has_either (block_occurrences_in rs (inner h i)) (block_occurrences_in rest i) x has)
    kept_block _ (block l ops rest) c x i has clear = ⊎_elim
        (λ (e : x ≡ record { spot = i; label = l; operations = ops }).
        let stays : g l.name ≡ false = clear l.name (inl (sym (ap (λ (z : BlockOccurrence N S). z.label.name) e))) in
        here stays (record { spot = c; label = l; operations = keep g ops }) (inl refl) (sym (ap (λ (z : BlockOccurrence N S). z.label) e)))
        (λ more. ⊎_elim
        (λ a.
        let stays : g l.name ≡ false = clear l.name (around_over_block Operations ops (record { spot = i; label = l }) x a l.name (inl refl)) in
        let r = kept_block Operations ops (record { spot = c; label = l }) x (record { spot = i; label = l }) a clear in
        here stays r.0 (inr (has_front (block_occurrences_in (keep g ops) (record { spot = c; label = l })) (block_occurrences_in (keep g rest) (next_block c)) r.0 r.1)) r.2)
        (λ a. by_test (g l.name) (kept_block Blocks rest c x (next_block i) a clear) (kept_block Blocks rest (next_block c) x (next_block i) a clear))
        (has_either (block_occurrences_in ops (record { spot = i; label = l })) (block_occurrences_in rest (next_block i)) x more))
        has
      where
        here : g l.name ≡ false → (p : BlockOccurrence N S) → Has p (block_occurrences_in (block l (keep g ops) (keep g rest)) c) → p.label ≡ x.label
            → (q : BlockOccurrence N S) × Has q (block_occurrences_in (if g l.name then keep g rest else block l (keep g ops) (keep g rest)) c) × (q.label ≡ x.label)
        here stays p m e = subst (λ b. (q : BlockOccurrence N S) × Has q (block_occurrences_in (if b then keep g rest else block l (keep g ops) (keep g rest)) c) × (q.label ≡ x.label)) (sym stays) (p, m, e)

        by_test : (b : Bool) → KeptBlock Blocks rest c x → KeptBlock Blocks rest (next_block c) x → (q : BlockOccurrence N S) × Has q (block_occurrences_in (if b then keep g rest else block l (keep g ops) (keep g rest)) c) × (q.label ≡ x.label)
        by_test true r q = r
        by_test false r q = (q.0, inr (has_back (block_occurrences_in (keep g ops) (record { spot = c; label = l })) (block_occurrences_in (keep g rest) (next_block c)) q.0 q.1), q.2)
    kept_block _ (region bs rest) c x i has clear = ⊎_elim
        (λ a. let r = kept_block Blocks bs c x i a clear in (r.0, has_front (block_occurrences_in (keep g bs) c) (block_occurrences_in (keep g rest) (next_region c)) r.0 r.1, r.2))
        (λ a. let r = kept_block Regions rest (next_region c) x (next_region i) a clear in (r.0, has_back (block_occurrences_in (keep g bs) c) (block_occurrences_in (keep g rest) (next_region c)) r.0 r.1, r.2))
        (has_either (block_occurrences_in bs i) (block_occurrences_in rest (next_region i)) x has)

    abbrev WasBlock : (s : Sort) → Tree N S s → Inside N S s → BlockOccurrence N S → Type 0
    WasBlock s t i p = (x : BlockOccurrence N S) × Has x (block_occurrences_in t i) × (p.label ≡ x.label) × Clear g (over_block x)

    was_block : (s : Sort) (t : Tree N S s) (c i : Inside N S s) (p : BlockOccurrence N S) → Has p (block_occurrences_in (keep g t) c) → Clear g (Around N S s i) → WasBlock s t i p
    was_block _ end c i p has clear = absurd has
    was_block _ (operation h rs rest) c i p has clear = ⊎_elim
        (λ a. let r = was_block Regions rs (inner h c) (inner h i) p a clear in (r.0, has_front (block_occurrences_in rs (inner h i)) (block_occurrences_in rest i) r.0 r.1, r.2, r.3))
        (λ a. let r = was_block Operations rest c i p a clear in (r.0, has_back (block_occurrences_in rs (inner h i)) (block_occurrences_in rest i) r.0 r.1, r.2, r.3))
        (has_either (block_occurrences_in (keep g rs) (inner h c)) (block_occurrences_in (keep g rest) c) p has)
    was_block _ (block l ops rest) c i p has clear = by_test (g l.name) refl has (λ j a. was_block Blocks rest j (next_block i) p a clear) (λ a k. was_block Operations ops (record { spot = c; label = l }) (record { spot = i; label = l }) p a k) where
      later : WasBlock Blocks rest (next_block i) p → WasBlock Blocks (block l ops rest) i p
      later r = (r.0, inr (has_back (block_occurrences_in ops (record { spot = i; label = l })) (block_occurrences_in rest (next_block i)) r.0 r.1), r.2, r.3)

      with_label : g l.name ≡ false → Clear g (l.name ∷ i.within)
      with_label e w m = ⊎_elim (λ (s : w ≡ l.name). ap g s ∙ e) (λ n. clear w n) m

      by_test : (b : Bool) → g l.name ≡ b → Has p (block_occurrences_in (if b then keep g rest else block l (keep g ops) (keep g rest)) c)
          → ((j : Spot N S) → Has p (block_occurrences_in (keep g rest) j) → WasBlock Blocks rest (next_block i) p)
          → (Has p (block_occurrences_in (keep g ops) (at_site c l)) → Clear g (l.name ∷ i.within) → WasBlock Operations ops (at_site i l) p)
          → WasBlock Blocks (block l ops rest) i p
      by_test true e a behind within = later (behind c a)
      by_test false e a behind within = ⊎_elim
          (λ (s : p ≡ record { spot = c; label = l; operations = keep g ops }). (record { spot = i; label = l; operations = ops }, inl refl, ap (λ (z : BlockOccurrence N S). z.label) s, with_label e))
          (λ more. ⊎_elim
          (λ b. let r = within b (with_label e) in (r.0, inr (has_front (block_occurrences_in ops (record { spot = i; label = l })) (block_occurrences_in rest (next_block i)) r.0 r.1), r.2, r.3))
          (λ b. later (behind (next_block c) b))
          (has_either (block_occurrences_in (keep g ops) (record { spot = c; label = l })) (block_occurrences_in (keep g rest) (next_block c)) p more))
          a
    was_block _ (region bs rest) c i p has clear = ⊎_elim
        (λ a. let r = was_block Blocks bs c i p a clear in (r.0, has_front (block_occurrences_in bs i) (block_occurrences_in rest (next_region i)) r.0 r.1, r.2, r.3))
        (λ a. let r = was_block Regions rest (next_region c) (next_region i) p a clear in (r.0, has_back (block_occurrences_in bs i) (block_occurrences_in rest (next_region i)) r.0 r.1, r.2, r.3))
        (has_either (block_occurrences_in (keep g bs) c) (block_occurrences_in (keep g rest) (next_region c)) p has)

    -- the tree of a root without what goes
    abbrev pub cut_root : Root N S → Root N S
    cut_root t = record { head = t.head; regions = keep g t.regions }

    pub operation_kept : (t : Root N S) (o : Occurrence N S) → Has o (occurrences_of t) → Clear g (over o) → (p : Occurrence N S) × Has p (occurrences_of (cut_root t)) × (p.head ≡ o.head)
    operation_kept t o has clear = kept_there Regions t.regions (at_root t) o (at_root t) has clear

    pub operation_was : (t : Root N S) (p : Occurrence N S) → Has p (occurrences_of (cut_root t)) → (o : Occurrence N S) × Has o (occurrences_of t) × (p.head ≡ o.head) × Clear g (over o)
    operation_was t p has = was_there Regions t.regions (at_root t) (at_root t) p has (λ w m. absurd m)

    -- values of what stays stay, and these alone
    pub result_kept : (t : Root N S) (o : Occurrence N S) (v : N.value) → Has o (occurrences_of t) → Clear g (over o) → Has v (names_of o.head.results) → Has v (defined_in (keep g t.regions))
    result_kept t o v has clear d =
        let r = operation_kept t o has clear in
        result_defined Regions (keep g t.regions) (at_root t) v r.0 r.1 (subst (λ (h : Head N S). Has v (names_of h.results)) (sym r.2) d)

    pub argument_kept : (t : Root N S) (x : BlockOccurrence N S) (v : N.value) → Has x (block_occurrences_of t) → Clear g (over_block x) → Has v (names_of x.label.arguments) → Has v (defined_in (keep g t.regions))
    argument_kept t x v has clear d =
        let r = kept_block Regions t.regions (at_root t) x (at_root t) has clear in
        argument_defined Regions (keep g t.regions) (at_root t) v r.0 r.1 (subst (λ (l : Label N S). Has v (names_of l.arguments)) (sym r.2) d)

    pub defined_clear : (t : Root N S) (v : N.value) → Has v (defined_in (keep g t.regions))
        → ((o : Occurrence N S) × Has o (occurrences_of t) × Has v (names_of o.head.results) × Clear g (over o)) ⊎ ((x : BlockOccurrence N S) × Has x (block_occurrences_of t) × Has v (names_of x.label.arguments) × Clear g (over_block x))
    defined_clear t v has = ⊎_elim
        (λ (f : (p : Occurrence N S) × Has p (occurrences_of (cut_root t)) × Has v (names_of p.head.results)).
        let r = operation_was t f.0 f.1 in inl (r.0, r.1, subst (λ (h : Head N S). Has v (names_of h.results)) r.2 f.2, r.3))
        (λ (f : (p : BlockOccurrence N S) × Has p (block_occurrences_of (cut_root t)) × Has v (names_of p.label.arguments)).
        let r = was_block Regions t.regions (at_root t) (at_root t) f.0 f.1 (λ w m. absurd m) in inr (r.0, r.1, subst (λ (l : Label N S). Has v (names_of l.arguments)) r.2 f.2, r.3))
        (defined_by_found Regions (keep g t.regions) (at_root t) v has)
