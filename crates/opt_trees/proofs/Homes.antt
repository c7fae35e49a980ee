-- Where blocks stand: each directly in the regions of an operation or of the root, and what is in a block is in the tree.
use Rattle.std.proofs.Common.{◌≡◌, ◌⊎◌, ⊎_elim, inl, inr, List, [], ◌∷◌, ◌++◌, refl, sym, ap, ◌∙◌, subst}
use Rattle.ir_trees.specs.Names.{Names, Contents}
use Rattle.ir_trees.specs.Trees.{Head, Label, Sort, Operations, Blocks, Regions, Tree, end, operation, block, region, Root}
use Rattle.opt_trees.specs.Occurrences.{Has, Occurrence, BlockOccurrence, OperationSite, Spot, Inside, inner, next_block, next_region, occurrences_in, block_occurrences_in, occurrences_of, block_occurrences_of, at_root, OperationsApart}
use Rattle.opt_trees.specs.Simplify.{but_last, append, use_head, use_instead}
use Rattle.opt_trees.proofs.NoneDead.{has-append, has-left, has-right}

module _ {N : Names} {S : Contents} where
  -- the blocks of these regions themselves
  abbrev pub direct : {s : Sort} → Tree N S s → Inside N S s → List (BlockOccurrence N S)
  direct end c = []
  direct (operation h rs rest) c = []
  direct (block l ops rest) c = record { spot = c; label = l; operations = ops } ∷ direct rest (next_block c)
  direct (region bs rest) c = direct bs c ++ direct rest (next_region c)

  pub no_direct : (t : Tree N S Operations) (c : OperationSite N S) (x : BlockOccurrence N S) → Has x (direct t c) → ⊥
  no_direct end c x h = h
  no_direct (operation k rs rest) c x h = h

  pub direct_there : {s : Sort} (t : Tree N S s) (c : Inside N S s) (x : BlockOccurrence N S) → Has x (direct t c) → Has x (block_occurrences_in t c)
  direct_there end c x h = absurd h
  direct_there (operation k rs rest) c x h = absurd h
  direct_there (block l ops rest) c x h = ⊎_elim (λ z. inl z) (λ z. inr (has-right x (block_occurrences_in ops (record { spot = c; label = l })) (block_occurrences_in rest (next_block c)) (direct_there rest (next_block c) x z))) h
  direct_there (region bs rest) c x h = ⊎_elim
      (λ z. has-left x (block_occurrences_in bs c) (block_occurrences_in rest (next_region c)) (direct_there bs c x z))
      (λ z. has-right x (block_occurrences_in bs c) (block_occurrences_in rest (next_region c)) (direct_there rest (next_region c) x z))
      (has-append x (direct bs c) (direct rest (next_region c)) h)

  -- blocks of one holder
  pub record SameHolder (c e : Spot N S) : Type 0 where
    pub owner : e.owner ≡ c.owner
    pub around : e.around ≡ c.around

  abbrev pub spot_at : (s : Sort) → Inside N S s → Spot N S
  spot_at Operations c = c.spot
  spot_at Blocks c = c
  spot_at Regions c = c

  pub direct_spot : {s : Sort} (t : Tree N S s) (c : Inside N S s) (x : BlockOccurrence N S) → Has x (direct t c) → SameHolder (spot_at s c) x.spot
  direct_spot end c x h = absurd h
  direct_spot (operation k rs rest) c x h = absurd h
  direct_spot (block l ops rest) c x h = ⊎_elim
      (λ z. record { owner = ap (λ y. y.spot.owner) z; around = ap (λ y. y.spot.around) z })
      (λ z. let p = direct_spot rest (next_block c) x z in record { owner = p.owner; around = p.around }) h
  direct_spot (region bs rest) c x h = ⊎_elim
      (λ z. direct_spot bs c x z)
      (λ z. let p = direct_spot rest (next_region c) x z in record { owner = p.owner; around = p.around })
      (has-append x (direct bs c) (direct rest (next_region c)) h)

  -- a block directly in the regions of one of these operations
  pub record InOperation (os : List (Occurrence N S)) (x : BlockOccurrence N S) : Type 0 where
    pub it : Occurrence N S
    pub stands : Has it os
    pub inside : Has x (direct it.regions (inner it.head it.site))

  in_more : {os ps : List (Occurrence N S)} {x : BlockOccurrence N S} → ((o : Occurrence N S) → Has o os → Has o ps) → InOperation os x → InOperation ps x
  in_more f p = record { it = p.it; stands = f p.it p.stands; inside = p.inside }

  pub home : {s : Sort} (t : Tree N S s) (c : Inside N S s) (x : BlockOccurrence N S) → Has x (block_occurrences_in t c) → Has x (direct t c) ⊎ InOperation (occurrences_in t c) x
  home end c x h = absurd h
  home (operation k rs rest) c x h = ⊎_elim
      (λ z. ⊎_elim
      (λ y. inr (record { it = record { site = c; head = k; regions = rs }; stands = inl refl; inside = y }))
      (λ y. inr (in_more (λ o w. inr (has-left o (occurrences_in rs (inner k c)) (occurrences_in rest c) w)) y))
      (home rs (inner k c) x z))
      (λ z. ⊎_elim
      (λ y. absurd (no_direct rest c x y))
      (λ y. inr (in_more (λ o w. inr (has-right o (occurrences_in rs (inner k c)) (occurrences_in rest c) w)) y))
      (home rest c x z))
      (has-append x (block_occurrences_in rs (inner k c)) (block_occurrences_in rest c) h)
  home (block l ops rest) c x h =
      let b : OperationSite N S = record { spot = c; label = l } in
      ⊎_elim
      (λ z. inl (inl z))
      (λ z. ⊎_elim
      (λ w. ⊎_elim
      (λ y. absurd (no_direct ops b x y))
      (λ y. inr (in_more (λ o w. has-left o (occurrences_in ops b) (occurrences_in rest (next_block c)) w) y))
      (home ops b x w))
      (λ w. ⊎_elim
      (λ y. inl (inr y))
      (λ y. inr (in_more (λ o w. has-right o (occurrences_in ops b) (occurrences_in rest (next_block c)) w) y))
      (home rest (next_block c) x w))
      (has-append x (block_occurrences_in ops b) (block_occurrences_in rest (next_block c)) z)) h
  home (region bs rest) c x h = ⊎_elim
      (λ w. ⊎_elim
      (λ y. inl (has-left x (direct bs c) (direct rest (next_region c)) y))
      (λ y. inr (in_more (λ o w. has-left o (occurrences_in bs c) (occurrences_in rest (next_region c)) w) y))
      (home bs c x w))
      (λ w. ⊎_elim
      (λ y. inl (has-right x (direct bs c) (direct rest (next_region c)) y))
      (λ y. inr (in_more (λ o w. has-right o (occurrences_in bs c) (occurrences_in rest (next_region c)) w) y))
      (home rest (next_region c) x w))
      (has-append x (block_occurrences_in bs c) (block_occurrences_in rest (next_region c)) h)

  -- all that is in the one is in the other
  pub record IsPart (os : List (Occurrence N S)) (xs : List (BlockOccurrence N S)) (ps : List (Occurrence N S)) (ys : List (BlockOccurrence N S)) : Type 0 where
    pub operations : (o : Occurrence N S) → Has o os → Has o ps
    pub blocks : (x : BlockOccurrence N S) → Has x xs → Has x ys

  -- of what is a part, its lists are

  abbrev pub Part : {s : Sort} → Tree N S s → Inside N S s → List (Occurrence N S) → List (BlockOccurrence N S) → Type 0
  Part t c ps ys = IsPart (occurrences_in t c) (block_occurrences_in t c) ps ys

  module _ (ps : List (Occurrence N S)) (ys : List (BlockOccurrence N S)) where
    pub part_regions : (h : Head N S) (rs : Tree N S Regions) (rest : Tree N S Operations) (c : OperationSite N S) → Part (operation h rs rest) c ps ys → Part rs (inner h c) ps ys
    part_regions h rs rest c i = record {
      operations = λ o m. i.operations o (inr (has-left o (occurrences_in rs (inner h c)) (occurrences_in rest c) m));
      blocks = λ x m. i.blocks x (has-left x (block_occurrences_in rs (inner h c)) (block_occurrences_in rest c) m);
    }

    pub part_rest : (h : Head N S) (rs : Tree N S Regions) (rest : Tree N S Operations) (c : OperationSite N S) → Part (operation h rs rest) c ps ys → Part rest c ps ys
    part_rest h rs rest c i = record {
      operations = λ o m. i.operations o (inr (has-right o (occurrences_in rs (inner h c)) (occurrences_in rest c) m));
      blocks = λ x m. i.blocks x (has-right x (block_occurrences_in rs (inner h c)) (block_occurrences_in rest c) m);
    }

    pub part_block : (l : Label N S) (ops : Tree N S Operations) (rest : Tree N S Blocks) (c : Spot N S) → Part (block l ops rest) c ps ys → Part ops (record { spot = c; label = l }) ps ys
    part_block l ops rest c i =
        let b : OperationSite N S = record { spot = c; label = l } in
        record {
          operations = λ o m. i.operations o (has-left o (occurrences_in ops b) (occurrences_in rest (next_block c)) m);
          blocks = λ x m. i.blocks x (inr (has-left x (block_occurrences_in ops b) (block_occurrences_in rest (next_block c)) m));
        }

    pub part_blocks : (l : Label N S) (ops : Tree N S Operations) (rest : Tree N S Blocks) (c : Spot N S) → Part (block l ops rest) c ps ys → Part rest (next_block c) ps ys
    part_blocks l ops rest c i =
        let b : OperationSite N S = record { spot = c; label = l } in
        record {
          operations = λ o m. i.operations o (has-right o (occurrences_in ops b) (occurrences_in rest (next_block c)) m);
          blocks = λ x m. i.blocks x (inr (has-right x (block_occurrences_in ops b) (block_occurrences_in rest (next_block c)) m));
        }

    pub part_region : (bs : Tree N S Blocks) (rest : Tree N S Regions) (c : Spot N S) → Part (region bs rest) c ps ys → Part bs c ps ys
    part_region bs rest c i = record {
      operations = λ o m. i.operations o (has-left o (occurrences_in bs c) (occurrences_in rest (next_region c)) m);
      blocks = λ x m. i.blocks x (has-left x (block_occurrences_in bs c) (block_occurrences_in rest (next_region c)) m);
    }

    pub part_more : (bs : Tree N S Blocks) (rest : Tree N S Regions) (c : Spot N S) → Part (region bs rest) c ps ys → Part rest (next_region c) ps ys
    part_more bs rest c i = record {
      operations = λ o m. i.operations o (has-right o (occurrences_in bs c) (occurrences_in rest (next_region c)) m);
      blocks = λ x m. i.blocks x (has-right x (block_occurrences_in bs c) (block_occurrences_in rest (next_region c)) m);
    }

  -- a part of a part
  pub part_part : {os ps qs : List (Occurrence N S)} {xs ys zs : List (BlockOccurrence N S)} → IsPart os xs ps ys → IsPart ps ys qs zs → IsPart os xs qs zs
  part_part a b = record { operations = λ o m. b.operations o (a.operations o m); blocks = λ x m. b.blocks x (a.blocks x m) }

  -- what is in a block is in the tree
  pub block_inside : {s : Sort} (t : Tree N S s) (c : Inside N S s) (x : BlockOccurrence N S) → Has x (block_occurrences_in t c) → IsPart (occurrences_in x.operations (record { spot = x.spot; label = x.label })) (block_occurrences_in x.operations (record { spot = x.spot; label = x.label })) (occurrences_in t c) (block_occurrences_in t c)
  block_inside end c x h = absurd h
  block_inside (operation k rs rest) c x h = ⊎_elim
      (λ z. let p = block_inside rs (inner k c) x z in record {
        operations = λ o w. inr (has-left o (occurrences_in rs (inner k c)) (occurrences_in rest c) (p.operations o w));
        blocks = λ y w. has-left y (block_occurrences_in rs (inner k c)) (block_occurrences_in rest c) (p.blocks y w);
      })
      (λ z. let p = block_inside rest c x z in record {
        operations = λ o w. inr (has-right o (occurrences_in rs (inner k c)) (occurrences_in rest c) (p.operations o w));
        blocks = λ y w. has-right y (block_occurrences_in rs (inner k c)) (block_occurrences_in rest c) (p.blocks y w);
      })
      (has-append x (block_occurrences_in rs (inner k c)) (block_occurrences_in rest c) h)
  block_inside (block l ops rest) c x h =
      let b : OperationSite N S = record { spot = c; label = l } in
      ⊎_elim
      (λ z. record {
        operations = λ o w. has-left o (occurrences_in ops b) (occurrences_in rest (next_block c)) (subst (λ y. Has o (occurrences_in y.operations (record { spot = y.spot; label = y.label }))) z w);
        blocks = λ q w. inr (has-left q (block_occurrences_in ops b) (block_occurrences_in rest (next_block c)) (subst (λ y. Has q (block_occurrences_in y.operations (record { spot = y.spot; label = y.label }))) z w));
      })
      (λ z. ⊎_elim
      (λ y. let p = block_inside ops b x y in record {
        operations = λ o w. has-left o (occurrences_in ops b) (occurrences_in rest (next_block c)) (p.operations o w);
        blocks = λ q w. inr (has-left q (block_occurrences_in ops b) (block_occurrences_in rest (next_block c)) (p.blocks q w));
      })
      (λ y. let p = block_inside rest (next_block c) x y in record {
        operations = λ o w. has-right o (occurrences_in ops b) (occurrences_in rest (next_block c)) (p.operations o w);
        blocks = λ q w. inr (has-right q (block_occurrences_in ops b) (block_occurrences_in rest (next_block c)) (p.blocks q w));
      })
      (has-append x (block_occurrences_in ops b) (block_occurrences_in rest (next_block c)) z)) h
  block_inside (region bs rest) c x h = ⊎_elim
      (λ z. let p = block_inside bs c x z in record {
        operations = λ o w. has-left o (occurrences_in bs c) (occurrences_in rest (next_region c)) (p.operations o w);
        blocks = λ y w. has-left y (block_occurrences_in bs c) (block_occurrences_in rest (next_region c)) (p.blocks y w);
      })
      (λ z. let p = block_inside rest (next_region c) x z in record {
        operations = λ o w. has-right o (occurrences_in bs c) (occurrences_in rest (next_region c)) (p.operations o w);
        blocks = λ y w. has-right y (block_occurrences_in bs c) (block_occurrences_in rest (next_region c)) (p.blocks y w);
      })
      (has-append x (block_occurrences_in bs c) (block_occurrences_in rest (next_region c)) h)

  -- without its last operation, a list is a part of itself
  pub but_last_inside : (t : Tree N S Operations) (c : OperationSite N S) → IsPart (occurrences_in (but_last t) c) (block_occurrences_in (but_last t) c) (occurrences_in t c) (block_occurrences_in t c)
  but_last_inside end c = record { operations = λ o h. h; blocks = λ x h. h }
  but_last_inside (operation k rs end) c = record { operations = λ o h. absurd h; blocks = λ x h. absurd h }
  but_last_inside (operation k rs (operation g qs rest)) c =
      let p = but_last_inside (operation g qs rest) c in
      record {
        operations = λ o h. ⊎_elim
            (λ z. inl z)
            (λ z. inr (⊎_elim
            (λ y. has-left o (occurrences_in rs (inner k c)) (occurrences_in (operation g qs rest) c) y)
            (λ y. has-right o (occurrences_in rs (inner k c)) (occurrences_in (operation g qs rest) c) (p.operations o y))
            (has-append o (occurrences_in rs (inner k c)) (occurrences_in (but_last (operation g qs rest)) c) z))) h;
        blocks = λ x h. ⊎_elim
            (λ y. has-left x (block_occurrences_in rs (inner k c)) (block_occurrences_in (operation g qs rest) c) y)
            (λ y. has-right x (block_occurrences_in rs (inner k c)) (block_occurrences_in (operation g qs rest) c) (p.blocks x y))
            (has-append x (block_occurrences_in rs (inner k c)) (block_occurrences_in (but_last (operation g qs rest)) c) h);
      }

  -- what stands in two lists, one after the other

  pub appended : (a b : Tree N S Operations) (e : OperationSite N S) (p : Occurrence N S) → Has p (occurrences_in (append a b) e) → Has p (occurrences_in a e) ⊎ Has p (occurrences_in b e)
  appended end b e p h = inr h
  appended (operation k rs rest) b e p h = ⊎_elim
      (λ z. inl (inl z))
      (λ z. ⊎_elim
      (λ y. inl (inr (has-left p (occurrences_in rs (inner k e)) (occurrences_in rest e) y)))
      (λ y. ⊎_elim (λ w. inl (inr (has-right p (occurrences_in rs (inner k e)) (occurrences_in rest e) w))) (λ w. inr w) (appended rest b e p y))
      (has-append p (occurrences_in rs (inner k e)) (occurrences_in (append rest b) e) z)) h

  pub blocks_appended : (a b : Tree N S Operations) (e : OperationSite N S) (p : BlockOccurrence N S) → Has p (block_occurrences_in (append a b) e) → Has p (block_occurrences_in a e) ⊎ Has p (block_occurrences_in b e)
  blocks_appended end b e p h = inr h
  blocks_appended (operation k rs rest) b e p h = ⊎_elim
      (λ y. inl (has-left p (block_occurrences_in rs (inner k e)) (block_occurrences_in rest e) y))
      (λ y. ⊎_elim (λ w. inl (has-right p (block_occurrences_in rs (inner k e)) (block_occurrences_in rest e) w)) (λ w. inr w) (blocks_appended rest b e p y))
      (has-append p (block_occurrences_in rs (inner k e)) (block_occurrences_in (append rest b) e) h)

  pub append_left : (a b : Tree N S Operations) (e : OperationSite N S) → IsPart (occurrences_in a e) (block_occurrences_in a e) (occurrences_in (append a b) e) (block_occurrences_in (append a b) e)
  append_left end b e = record { operations = λ o h. absurd h; blocks = λ x h. absurd h }
  append_left (operation k rs rest) b e =
      let p = append_left rest b e in
      record {
        operations = λ o h. ⊎_elim
            (λ z. inl z)
            (λ z. inr (⊎_elim
            (λ y. has-left o (occurrences_in rs (inner k e)) (occurrences_in (append rest b) e) y)
            (λ y. has-right o (occurrences_in rs (inner k e)) (occurrences_in (append rest b) e) (p.operations o y))
            (has-append o (occurrences_in rs (inner k e)) (occurrences_in rest e) z))) h;
        blocks = λ x h. ⊎_elim
            (λ y. has-left x (block_occurrences_in rs (inner k e)) (block_occurrences_in (append rest b) e) y)
            (λ y. has-right x (block_occurrences_in rs (inner k e)) (block_occurrences_in (append rest b) e) (p.blocks x y))
            (has-append x (block_occurrences_in rs (inner k e)) (block_occurrences_in rest e) h);
      }

  pub append_right : (a b : Tree N S Operations) (e : OperationSite N S) → IsPart (occurrences_in b e) (block_occurrences_in b e) (occurrences_in (append a b) e) (block_occurrences_in (append a b) e)
  append_right end b e = record { operations = λ o h. h; blocks = λ x h. h }
  append_right (operation k rs rest) b e =
      let p = append_right rest b e in
      record {
        operations = λ o h. inr (has-right o (occurrences_in rs (inner k e)) (occurrences_in (append rest b) e) (p.operations o h));
        blocks = λ x h. has-right x (block_occurrences_in rs (inner k e)) (block_occurrences_in (append rest b) e) (p.blocks x h);
      }

  pub use_append : (f : N.value → N.value) (a b : Tree N S Operations) → use_instead f (append a b) ≡ append (use_instead f a) (use_instead f b)
  use_append f end b = refl
  use_append f (operation k rs rest) b = ap (operation (use_head f k) (use_instead f rs)) (use_append f rest b)

  -- blocks with the same operations around them have one holder

  module _ (r : Root N S) (apart : OperationsApart r) where
    clash : {X : Type 0} (x : X) (xs : List X) → [] ≡ x ∷ xs → ⊥
    clash x xs e = cc e

    same_first : {X : Type 0} (x y : X) (xs ys : List X) → x ∷ xs ≡ y ∷ ys → x ≡ y
    same_first x y xs ys e = cc e

    -- blocks with the same operations around them as a direct block of the root, or of an operation, are there too
    pub root_level : (x : BlockOccurrence N S) → Has x (block_occurrences_of r) → x.spot.around ≡ [] → Has x (direct r.regions (at_root r))
    root_level x h e = ⊎_elim (λ z. z) (λ z. absurd (clash z.it.head.name z.it.site.spot.around (sym e ∙ (direct_spot z.it.regions (inner z.it.head z.it.site) x z.inside).around))) (home r.regions (at_root r) x h)

    pub operation_level : (o : Occurrence N S) → Has o (occurrences_of r) → (x : BlockOccurrence N S) → Has x (block_occurrences_of r) → x.spot.around ≡ o.head.name ∷ o.site.spot.around → Has x (direct o.regions (inner o.head o.site))
    operation_level o s x h e = ⊎_elim
        (λ z. absurd (clash o.head.name o.site.spot.around (sym (direct_spot r.regions (at_root r) x z).around ∙ e)))
        (λ z.
        let a = (direct_spot z.it.regions (inner z.it.head z.it.site) x z.inside).around in
        let n = same_first z.it.head.name o.head.name z.it.site.spot.around o.site.spot.around (sym a ∙ e) in
        subst (λ q. Has x (direct q.regions (inner q.head q.site))) (apart z.it o z.stands s n) z.inside)
        (home r.regions (at_root r) x h)

    pub owner_same : (x y : BlockOccurrence N S) → Has x (block_occurrences_of r) → Has y (block_occurrences_of r) → y.spot.around ≡ x.spot.around → y.spot.owner ≡ x.spot.owner
    owner_same x y h k e = ⊎_elim
        (λ z.
        let p = direct_spot r.regions (at_root r) x z in
        (direct_spot r.regions (at_root r) y (root_level y k (e ∙ p.around))).owner ∙ sym p.owner)
        (λ z.
        let p = direct_spot z.it.regions (inner z.it.head z.it.site) x z.inside in
        (direct_spot z.it.regions (inner z.it.head z.it.site) y (operation_level z.it z.stands y k (e ∙ p.around))).owner ∙ sym p.owner)
        (home r.regions (at_root r) x h)
