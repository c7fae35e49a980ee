-- What is between the phases of simplify is orderly where the tree is, and so is a tree under other names.
use Rattle.std.proofs.Common.{◌≡◌, ⊎_elim, inl, inr, Bool, true, false, not, List, [], ◌∷◌, ◌++◌, ℕ, zero, suc, Option, Some, None, refl, sym, ap, ◌∙◌, subst}
use Rattle.std.specs.Prelude.{map, slice_get, if◌then◌else◌, ◌&&◌}
use Rattle.ir_trees.specs.Names.{Names, Contents}
use Rattle.ir_trees.specs.Renames.{Maps, rename_root, names_of}
use Rattle.ir_trees.specs.Trees.{Head, Sort, Operations, Regions, Tree, end, operation, block, region, Root}
use Rattle.opt_trees.specs.Occurrences.{Has, cons_if, Occurrence, BlockOccurrence, OperationSite, Spot, Inside, inner, next_block, next_region, occurrences_in, block_occurrences_in, occurrences_of, block_occurrences_of, at_root, rename_occurrence, rename_block_occurrence, Renaming, maps, OperationsApart}
use Rattle.opt_trees.specs.Dialect.{Dialect}
use Rattle.opt_trees.specs.Dce.{TreeSurroundings}
use Rattle.opt_trees.specs.Simplify.{StartingRegions, is_bare, is_empty, along_edge, decide_head, decide, decided, entry, keep, EndsIn, BranchesLast, IsCut, IsOrderly, IsLocal}
use Rattle.opt_trees.proofs.Lists.{none_some, some_same, map-append, has-from_map, Preimage, names-map, at-map, from_some, apart}
use Rattle.opt_trees.proofs.Trees.{operations_renamed, blocks_renamed}
use Rattle.opt_trees.proofs.NoneDead.{has-append, has-left, has-right, true_false}
use Rattle.opt_trees.proofs.Best.{not_true}
use Rattle.opt_trees.proofs.Reached.{EntriesKept}

-- what is the same but for what is in the operations and blocks: each operation and block is made of one that was there

module _ {N : Names} {S : Contents} where
  -- an operation in its place, its name kept, and no new successors
  pub record Turns (f : Occurrence N S → Occurrence N S) : Type 0 where
    pub site : (o : Occurrence N S) → (f o).site ≡ o.site
    pub name : (o : Occurrence N S) → (f o).head.name ≡ o.head.name
    pub leads : (o : Occurrence N S) (b : N.block) → Has b (f o).head.successors → Has b o.head.successors

  -- a block in its place
  pub record TurnsBlocks (f : BlockOccurrence N S → BlockOccurrence N S) : Type 0 where
    pub spot : (x : BlockOccurrence N S) → (f x).spot ≡ x.spot
    pub label : (x : BlockOccurrence N S) → (f x).label ≡ x.label

  pub record MadeOf (f : Occurrence N S → Occurrence N S) (g : BlockOccurrence N S → BlockOccurrence N S) (t u : Root N S) : Type 0 where
    pub operations : (p : Occurrence N S) → Has p (occurrences_of u) → Preimage f p (occurrences_of t)
    pub blocks : (y : BlockOccurrence N S) → Has y (block_occurrences_of u) → Preimage g y (block_occurrences_of t)

  module _ (f : Occurrence N S → Occurrence N S) (g : BlockOccurrence N S → BlockOccurrence N S) (tf : Turns f) (tg : TurnsBlocks g) (t u : Root N S) (made : MadeOf f g t u) where
    pub operations_made : OperationsApart t → OperationsApart u
    operations_made apart o p h k e =
        let a = made.operations o h in
        let b = made.operations p k in
        sym a.is ∙ ap f (apart a.it b.it a.stands b.stands (sym (tf.name a.it) ∙ ap (λ z. z.head.name) a.is ∙ e ∙ ap (λ z. z.head.name) (sym b.is) ∙ tf.name b.it)) ∙ b.is

    same_label : (x y : BlockOccurrence N S) → g x ≡ y → x.label ≡ y.label
    same_label x y e = sym (tg.label x) ∙ ap (λ z. z.label) e

    blocks_made : ((x y : BlockOccurrence N S) → Has x (block_occurrences_of t) → Has y (block_occurrences_of t) → x.label.name ≡ y.label.name → x ≡ y) → (x y : BlockOccurrence N S) → Has x (block_occurrences_of u) → Has y (block_occurrences_of u) → x.label.name ≡ y.label.name → x ≡ y
    blocks_made apart x y h k e =
        let a = made.blocks x h in
        let b = made.blocks y k in
        sym a.is ∙ ap g (apart a.it b.it a.stands b.stands (ap (λ z. z.name) (same_label a.it x a.is) ∙ e ∙ ap (λ z. z.name) (sym (same_label b.it y b.is)))) ∙ b.is

    -- what leads there led there
    led : (o p : Occurrence N S) (b : N.block) → f o ≡ p → Has b p.head.successors → Has b o.head.successors
    led o p b e h = tf.leads o b (subst (λ z. Has b z.head.successors) (sym e) h)

    site_of : (o p : Occurrence N S) → f o ≡ p → o.site ≡ p.site
    site_of o p e = sym (tf.site o) ∙ ap (λ z. z.site) e

    pub orderly_made : IsOrderly t → IsOrderly u
    orderly_made o = record {
      operations = operations_made o.operations;
      blocks = blocks_made o.blocks;
      arguments = λ x y v i j h k m n.
          let a = made.blocks x h in
          let b = made.blocks y k in
          let e = o.arguments a.it b.it v i j a.stands b.stands
          (subst (λ l. slice_get (names_of l.arguments) i ≡ Some v) (sym (same_label a.it x a.is)) m)
          (subst (λ l. slice_get (names_of l.arguments) j ≡ Some v) (sym (same_label b.it y b.is)) n) in
          (sym a.is ∙ ap g e.0 ∙ b.is, e.1);
      ends = λ p q b c h k e m n.
          let x = made.operations p h in
          let y = made.operations q k in
          sym x.is ∙ ap f (o.ends x.it y.it b c x.stands y.stands (ap (λ z. z.label.name) (site_of x.it p x.is) ∙ e ∙ ap (λ z. z.label.name) (sym (site_of y.it q y.is))) (led x.it p b x.is m) (led y.it q c y.is n)) ∙ y.is;
    }

    pub local_made : IsLocal t → IsLocal u
    local_made l = record {
      blocks = blocks_made l.blocks;
      edges = λ p x h k m.
          let a = made.operations p h in
          let b = made.blocks x k in
          let e = l.edges a.it b.it a.stands b.stands (led a.it p b.it.label.name a.is (subst (λ z. Has z p.head.successors) (ap (λ z. z.name) (sym (same_label b.it x b.is))) m)) in
          let c = ap (λ z. z.spot) (site_of a.it p a.is) in
          let s = sym (tg.spot b.it) ∙ ap (λ z. z.spot) b.is in
          record {
            around = sym (ap (λ z. z.around) s) ∙ e.around ∙ ap (λ z. z.around) c;
            region = sym (ap (λ z. z.region) s) ∙ e.region ∙ ap (λ z. z.region) c;
            within = sym (ap (λ z. z.within) s) ∙ e.within ∙ ap (λ z. z.within) c;
          };
    }

    -- what was last in its block is so
    pub last_made : ((o : Occurrence N S) (x : BlockOccurrence N S) → EndsIn x.operations o.head o.regions → EndsIn (g x).operations (f o).head (f o).regions) → BranchesLast t → BranchesLast u
    last_made keeps l p y b h k e m =
        let a = made.operations p h in
        let x = made.blocks y k in
        let n = ap (λ z. z.label.name) (site_of a.it p a.is) ∙ e ∙ ap (λ z. z.name) (sym (same_label x.it y x.is)) in
        subst (λ z. EndsIn y.operations z.head z.regions) a.is
        (subst (λ z. EndsIn z.operations (f a.it).head (f a.it).regions) x.is (keeps a.it x.it (l a.it x.it b a.stands x.stands n (led a.it p b a.is m))))

-- branches that are decided

pub has_at : {X : Type 0} (xs : List X) (i : ℕ) (y : X) → slice_get xs i ≡ Some y → Has y xs
has_at [] i y e = absurd (none_some y e)
has_at (x ∷ xs) zero y e = inl (sym (some_same x y e))
has_at (x ∷ xs) (suc i) y e = inr (has_at xs i y e)

one_of : {X : Type 0} (xs : List X) (i : ℕ) (q : Option X) (x : X) → slice_get xs i ≡ q → Has x (cons_if q []) → Has x xs
one_of xs i None x e h = absurd h
one_of xs i (Some y) x e h = ⊎_elim (λ z. subst (λ w. Has w xs) (sym z) (has_at xs i y e)) (λ z. absurd z) h

module _ {N : Names} {S : Contents} {A : Type 0} (d : Dialect S A) (alone : N.value → Option A) where
  abbrev pub decide_occurrence : Occurrence N S → Occurrence N S
  decide_occurrence o = record { site = o.site; head = decide_head d alone o.head o.regions; regions = decide d alone o.regions }

  abbrev pub decide_block : BlockOccurrence N S → BlockOccurrence N S
  decide_block x = record { spot = x.spot; label = x.label; operations = decide d alone x.operations }

  -- what holds regions isn't decided
  holder_same : (h : Head N S) (rs : Tree N S Regions) (e : OperationSite N S) → occurrences_in (decide d alone rs) (inner (decide_head d alone h rs) e) ≡ occurrences_in (decide d alone rs) (inner h e)
  holder_same h end e = refl
  holder_same h (region bs rest) e = ap (λ b. occurrences_in (decide d alone (region bs rest)) (inner (if b && not (d.is_plain h.content) then along_edge d h (d.edge h.content (map alone h.operands)) d.plain else h) e)) (not_bare (d.is_branch h.content) (is_empty h.results))
    where
      not_bare : (a b : Bool) → (a && (b && false)) ≡ false
      not_bare true true = refl
      not_bare true false = refl
      not_bare false b = refl

  holder_blocks : (h : Head N S) (rs : Tree N S Regions) (e : OperationSite N S) → block_occurrences_in (decide d alone rs) (inner (decide_head d alone h rs) e) ≡ block_occurrences_in (decide d alone rs) (inner h e)
  holder_blocks h end e = refl
  holder_blocks h (region bs rest) e = ap (λ b. block_occurrences_in (decide d alone (region bs rest)) (inner (if b && not (d.is_plain h.content) then along_edge d h (d.edge h.content (map alone h.operands)) d.plain else h) e)) (not_bare (d.is_branch h.content) (is_empty h.results))
    where
      not_bare : (a b : Bool) → (a && (b && false)) ≡ false
      not_bare true true = refl
      not_bare true false = refl
      not_bare false b = refl

  pub decided_operations : {s : Sort} (t : Tree N S s) (c : Inside N S s) → occurrences_in (decide d alone t) c ≡ map decide_occurrence (occurrences_in t c)
  decided_operations end c = refl
  decided_operations (operation h rs rest) c =
      ap (λ l. record { site = c; head = decide_head d alone h rs; regions = decide d alone rs } ∷ l)
      ((λ i. (holder_same h rs c ∙ decided_operations rs (inner h c)) i ++ decided_operations rest c i) ∙ sym (map-append decide_occurrence (occurrences_in rs (inner h c)) (occurrences_in rest c)))
  decided_operations (block l ops rest) c = (λ i. decided_operations ops (record { spot = c; label = l }) i ++ decided_operations rest (next_block c) i) ∙ sym (map-append decide_occurrence (occurrences_in ops (record { spot = c; label = l })) (occurrences_in rest (next_block c)))
  decided_operations (region bs rest) c = (λ i. decided_operations bs c i ++ decided_operations rest (next_region c) i) ∙ sym (map-append decide_occurrence (occurrences_in bs c) (occurrences_in rest (next_region c)))

  pub decided_blocks : {s : Sort} (t : Tree N S s) (c : Inside N S s) → block_occurrences_in (decide d alone t) c ≡ map decide_block (block_occurrences_in t c)
  decided_blocks end c = refl
  decided_blocks (operation h rs rest) c = (λ i. (holder_blocks h rs c ∙ decided_blocks rs (inner h c)) i ++ decided_blocks rest c i) ∙ sym (map-append decide_block (block_occurrences_in rs (inner h c)) (block_occurrences_in rest c))
  decided_blocks (block l ops rest) c =
      ap (λ x. record { spot = c; label = l; operations = decide d alone ops } ∷ x)
      ((λ i. decided_blocks ops (record { spot = c; label = l }) i ++ decided_blocks rest (next_block c) i) ∙ sym (map-append decide_block (block_occurrences_in ops (record { spot = c; label = l })) (block_occurrences_in rest (next_block c))))
  decided_blocks (region bs rest) c = (λ i. decided_blocks bs c i ++ decided_blocks rest (next_region c) i) ∙ sym (map-append decide_block (block_occurrences_in bs c) (block_occurrences_in rest (next_region c)))

  along_name : (h : Head N S) (q : Option ℕ) (c : Option S.of_operation) → (along_edge d h q c).name ≡ h.name
  along_name h None c = refl
  along_name h (Some i) None = refl
  along_name h (Some i) (Some c) = refl

  along_leads : (h : Head N S) (q : Option ℕ) (c : Option S.of_operation) (b : N.block) → Has b (along_edge d h q c).successors → Has b h.successors
  along_leads h None c b m = m
  along_leads h (Some i) None b m = m
  along_leads h (Some i) (Some c) b m = one_of h.successors i (slice_get h.successors i) b refl m

  pub decide_turns : Turns decide_occurrence
  decide_turns = record {
    site = λ o. refl;
    name = λ o. name (is_bare d o.head o.regions && not (d.is_plain o.head.content)) o.head;
    leads = λ o b m. leads (is_bare d o.head o.regions && not (d.is_plain o.head.content)) o.head b m;
  }
    where
      name : (q : Bool) (h : Head N S) → (if q then along_edge d h (d.edge h.content (map alone h.operands)) d.plain else h).name ≡ h.name
      name true h = along_name h (d.edge h.content (map alone h.operands)) d.plain
      name false h = refl

      leads : (q : Bool) (h : Head N S) (b : N.block) → Has b (if q then along_edge d h (d.edge h.content (map alone h.operands)) d.plain else h).successors → Has b h.successors
      leads true h b m = along_leads h (d.edge h.content (map alone h.operands)) d.plain b m
      leads false h b m = m

  pub decide_last : (t : Tree N S Operations) (h : Head N S) (rs : Tree N S Regions) → EndsIn t h rs → EndsIn (decide d alone t) (decide_head d alone h rs) (decide d alone rs)
  decide_last end h rs e = absurd e
  decide_last (operation g qs end) h rs e = (λ i. decide_head d alone (e.0 i) (e.1 i), ap (decide d alone) e.1)
  decide_last (operation g qs (operation k ps rest)) h rs e = decide_last (operation k ps rest) h rs e

-- blocks that are cut

module _ {N : Names} {S : Contents} (g : N.block → Bool) where
  abbrev pub keep_occurrence : Occurrence N S → Occurrence N S
  keep_occurrence o = record { site = o.site; head = o.head; regions = keep g o.regions }

  abbrev pub keep_block : BlockOccurrence N S → BlockOccurrence N S
  keep_block x = record { spot = x.spot; label = x.label; operations = keep g x.operations }

  -- past a block that goes, which was not first
  passed : (c : Spot N S) → c.first ≡ false → c ≡ next_block c
  passed c e = λ i. record { owner = c.owner; around = c.around; within = c.within; region = c.region; first = e i }

  kept_in : {p : Occurrence N S} {os qs : List (Occurrence N S)} → ((o : Occurrence N S) → Has o os → Has o qs) → Preimage keep_occurrence p os → Preimage keep_occurrence p qs
  kept_in f x = record { it = x.it; stands = f x.it x.stands; is = x.is }

  block_kept_in : {y : BlockOccurrence N S} {xs ys : List (BlockOccurrence N S)} → ((x : BlockOccurrence N S) → Has x xs → Has x ys) → Preimage keep_block y xs → Preimage keep_block y ys
  block_kept_in f x = record { it = x.it; stands = f x.it x.stands; is = x.is }

  pub kept_operation : {s : Sort} (t : Tree N S s) (c : Inside N S s) → EntriesKept g (block_occurrences_in t c) → (p : Occurrence N S) → Has p (occurrences_in (keep g t) c) → Preimage keep_occurrence p (occurrences_in t c)
  kept_operation end c k p h = absurd h
  kept_operation (operation x rs rest) c k p h = ⊎_elim
      (λ z. record { it = record { site = c; head = x; regions = rs }; stands = inl refl; is = sym z })
      (λ z. ⊎_elim
      (λ y. kept_in (λ o w. inr (has-left o (occurrences_in rs (inner x c)) (occurrences_in rest c) w)) (kept_operation rs (inner x c) (λ b w. k b (has-left b (block_occurrences_in rs (inner x c)) (block_occurrences_in rest c) w)) p y))
      (λ y. kept_in (λ o w. inr (has-right o (occurrences_in rs (inner x c)) (occurrences_in rest c) w)) (kept_operation rest c (λ b w. k b (has-right b (block_occurrences_in rs (inner x c)) (block_occurrences_in rest c) w)) p y))
      (has-append p (occurrences_in (keep g rs) (inner x c)) (occurrences_in (keep g rest) c) z)) h
  kept_operation (block b ops rest) c k p h =
      by_test (g b.name) refl h
      (kept_operation rest (next_block c) (λ y u. k y (inr (has-right y (block_occurrences_in ops (record { spot = c; label = b })) (block_occurrences_in rest (next_block c)) u))) p)
      (kept_operation ops (record { spot = c; label = b }) (λ y u. k y (inr (has-left y (block_occurrences_in ops (record { spot = c; label = b })) (block_occurrences_in rest (next_block c)) u))) p)
    where
      by_test : (q : Bool) → g b.name ≡ q → Has p (occurrences_in (if q then keep g rest else block b (keep g ops) (keep g rest)) c) → (Has p (occurrences_in (keep g rest) (next_block c)) → Preimage keep_occurrence p (occurrences_in rest (next_block c))) → (Has p (occurrences_in (keep g ops) (record { spot = c; label = b })) → Preimage keep_occurrence p (occurrences_in ops (record { spot = c; label = b }))) → Preimage keep_occurrence p (occurrences_in (block b ops rest) c)
      by_test true q h i j =
          let first = not_true c.first (λ f. true_false (g b.name) q (k (record { spot = c; label = b; operations = ops }) (inl refl) f)) in
          kept_in (λ o w. has-right o (occurrences_in ops (record { spot = c; label = b })) (occurrences_in rest (next_block c)) w) (i (subst (λ e. Has p (occurrences_in (keep g rest) e)) (passed c first) h))
      by_test false q h i j = ⊎_elim
          (λ w. kept_in (λ o w. has-left o (occurrences_in ops (record { spot = c; label = b })) (occurrences_in rest (next_block c)) w) (j w))
          (λ w. kept_in (λ o w. has-right o (occurrences_in ops (record { spot = c; label = b })) (occurrences_in rest (next_block c)) w) (i w))
          (has-append p (occurrences_in (keep g ops) (record { spot = c; label = b })) (occurrences_in (keep g rest) (next_block c)) h)
  kept_operation (region bs rest) c k p h = ⊎_elim
      (λ y. kept_in (λ o w. has-left o (occurrences_in bs c) (occurrences_in rest (next_region c)) w) (kept_operation bs c (λ b w. k b (has-left b (block_occurrences_in bs c) (block_occurrences_in rest (next_region c)) w)) p y))
      (λ y. kept_in (λ o w. has-right o (occurrences_in bs c) (occurrences_in rest (next_region c)) w) (kept_operation rest (next_region c) (λ b w. k b (has-right b (block_occurrences_in bs c) (block_occurrences_in rest (next_region c)) w)) p y))
      (has-append p (occurrences_in (keep g bs) c) (occurrences_in (keep g rest) (next_region c)) h)

  pub kept_block : {s : Sort} (t : Tree N S s) (c : Inside N S s) → EntriesKept g (block_occurrences_in t c) → (p : BlockOccurrence N S) → Has p (block_occurrences_in (keep g t) c) → Preimage keep_block p (block_occurrences_in t c)
  kept_block end c k p h = absurd h
  kept_block (operation x rs rest) c k p h = ⊎_elim
      (λ y. block_kept_in (λ o w. has-left o (block_occurrences_in rs (inner x c)) (block_occurrences_in rest c) w) (kept_block rs (inner x c) (λ b w. k b (has-left b (block_occurrences_in rs (inner x c)) (block_occurrences_in rest c) w)) p y))
      (λ y. block_kept_in (λ o w. has-right o (block_occurrences_in rs (inner x c)) (block_occurrences_in rest c) w) (kept_block rest c (λ b w. k b (has-right b (block_occurrences_in rs (inner x c)) (block_occurrences_in rest c) w)) p y))
      (has-append p (block_occurrences_in (keep g rs) (inner x c)) (block_occurrences_in (keep g rest) c) h)
  kept_block (block b ops rest) c k p h =
      by_test (g b.name) refl h
      (kept_block rest (next_block c) (λ y u. k y (inr (has-right y (block_occurrences_in ops (record { spot = c; label = b })) (block_occurrences_in rest (next_block c)) u))) p)
      (kept_block ops (record { spot = c; label = b }) (λ y u. k y (inr (has-left y (block_occurrences_in ops (record { spot = c; label = b })) (block_occurrences_in rest (next_block c)) u))) p)
    where
      by_test : (q : Bool) → g b.name ≡ q → Has p (block_occurrences_in (if q then keep g rest else block b (keep g ops) (keep g rest)) c) → (Has p (block_occurrences_in (keep g rest) (next_block c)) → Preimage keep_block p (block_occurrences_in rest (next_block c))) → (Has p (block_occurrences_in (keep g ops) (record { spot = c; label = b })) → Preimage keep_block p (block_occurrences_in ops (record { spot = c; label = b }))) → Preimage keep_block p (block_occurrences_in (block b ops rest) c)
      by_test true q h i j =
          let first = not_true c.first (λ f. true_false (g b.name) q (k (record { spot = c; label = b; operations = ops }) (inl refl) f)) in
          block_kept_in (λ o w. inr (has-right o (block_occurrences_in ops (record { spot = c; label = b })) (block_occurrences_in rest (next_block c)) w)) (i (subst (λ e. Has p (block_occurrences_in (keep g rest) e)) (passed c first) h))
      by_test false q h i j = ⊎_elim
          (λ z. record { it = record { spot = c; label = b; operations = ops }; stands = inl refl; is = sym z })
          (λ z. ⊎_elim
          (λ w. block_kept_in (λ o w. inr (has-left o (block_occurrences_in ops (record { spot = c; label = b })) (block_occurrences_in rest (next_block c)) w)) (j w))
          (λ w. block_kept_in (λ o w. inr (has-right o (block_occurrences_in ops (record { spot = c; label = b })) (block_occurrences_in rest (next_block c)) w)) (i w))
          (has-append p (block_occurrences_in (keep g ops) (record { spot = c; label = b })) (block_occurrences_in (keep g rest) (next_block c)) z)) h
  kept_block (region bs rest) c k p h = ⊎_elim
      (λ y. block_kept_in (λ o w. has-left o (block_occurrences_in bs c) (block_occurrences_in rest (next_region c)) w) (kept_block bs c (λ b w. k b (has-left b (block_occurrences_in bs c) (block_occurrences_in rest (next_region c)) w)) p y))
      (λ y. block_kept_in (λ o w. has-right o (block_occurrences_in bs c) (block_occurrences_in rest (next_region c)) w) (kept_block rest (next_region c) (λ b w. k b (has-right b (block_occurrences_in bs c) (block_occurrences_in rest (next_region c)) w)) p y))
      (has-append p (block_occurrences_in (keep g bs) c) (block_occurrences_in (keep g rest) (next_region c)) h)

  pub keep_last : (t : Tree N S Operations) (h : Head N S) (rs : Tree N S Regions) → EndsIn t h rs → EndsIn (keep g t) h (keep g rs)
  keep_last end h rs e = absurd e
  keep_last (operation k qs end) h rs e = (e.0, ap (keep g) e.1)
  keep_last (operation k qs (operation l ps rest)) h rs e = keep_last (operation l ps rest) h rs e

  pub keep_turns : Turns keep_occurrence
  keep_turns = record { site = λ o. refl; name = λ o. refl; leads = λ o b m. m }

  pub keep_turns_blocks : TurnsBlocks keep_block
  keep_turns_blocks = record { spot = λ x. refl; label = λ x. refl }

-- the first two phases

module _ {N : Names} {S : Contents} {A : Type 0} (d : Dialect S A) (w : TreeSurroundings N A) (t : Root N S) where
  decided_made : MadeOf (decide_occurrence d w.alone) (decide_block d w.alone) t (decided d w t)
  decided_made = record {
    operations = λ p h. has-from_map (decide_occurrence d w.alone) p (occurrences_of t) (subst (Has p) (decided_operations d w.alone t.regions (at_root t)) h);
    blocks = λ y h. has-from_map (decide_block d w.alone) y (block_occurrences_of t) (subst (Has y) (decided_blocks d w.alone t.regions (at_root t)) h);
  }

  decide_turns_blocks : TurnsBlocks (decide_block {N = N} {S = S} d w.alone)
  decide_turns_blocks = record { spot = λ x. refl; label = λ x. refl }

  pub decided_orderly : IsOrderly t → IsOrderly (decided d w t)
  decided_orderly = orderly_made (decide_occurrence d w.alone) (decide_block d w.alone) (decide_turns d w.alone) decide_turns_blocks t (decided d w t) decided_made

  pub decided_local : IsLocal t → IsLocal (decided d w t)
  decided_local = local_made (decide_occurrence d w.alone) (decide_block d w.alone) (decide_turns d w.alone) decide_turns_blocks t (decided d w t) decided_made

  pub decided_apart : OperationsApart t → OperationsApart (decided d w t)
  decided_apart = operations_made (decide_occurrence d w.alone) (decide_block d w.alone) (decide_turns d w.alone) decide_turns_blocks t (decided d w t) decided_made

  pub decided_last : BranchesLast t → BranchesLast (decided d w t)
  decided_last = last_made (decide_occurrence d w.alone) (decide_block d w.alone) (decide_turns d w.alone) decide_turns_blocks t (decided d w t) decided_made (λ o x e. decide_last d w.alone x.operations o.head o.regions e)

module _ {N : Names} {S : Contents} {A : Type 0} (d : Dialect S A) (start : StartingRegions N)
    (t u : Root N S) (cut : IsCut d start t u) where
  entries_kept : EntriesKept cut.gone (block_occurrences_of t)
  entries_kept y h f = not_true (cut.gone y.label.name) (λ e. (cut.there y.label.name e).unreached (entry y h f))

  cut_made : MadeOf (keep_occurrence cut.gone) (keep_block cut.gone) t u
  cut_made = subst (MadeOf (keep_occurrence cut.gone) (keep_block cut.gone) t) (sym cut.is) (record { operations = kept_operation cut.gone t.regions (at_root t) entries_kept; blocks = kept_block cut.gone t.regions (at_root t) entries_kept })

  pub cut_orderly : IsOrderly t → IsOrderly u
  cut_orderly = orderly_made (keep_occurrence cut.gone) (keep_block cut.gone) (keep_turns cut.gone) (keep_turns_blocks cut.gone) t u cut_made

  pub cut_local : IsLocal t → IsLocal u
  cut_local = local_made (keep_occurrence cut.gone) (keep_block cut.gone) (keep_turns cut.gone) (keep_turns_blocks cut.gone) t u cut_made

  pub cut_apart : OperationsApart t → OperationsApart u
  cut_apart = operations_made (keep_occurrence cut.gone) (keep_block cut.gone) (keep_turns cut.gone) (keep_turns_blocks cut.gone) t u cut_made

  pub cut_last : BranchesLast t → BranchesLast u
  cut_last = last_made (keep_occurrence cut.gone) (keep_block cut.gone) (keep_turns cut.gone) (keep_turns_blocks cut.gone) t u cut_made (λ o x e. keep_last cut.gone x.operations o.head o.regions e)

module _ {N : Names} {S : Contents} {A : Type 0} (d : Dialect S A) (start : StartingRegions N) (w : TreeSurroundings N A) (t u : Root N S) (cut : IsCut d start (decided d w t) u) where
  pub phases_orderly : IsOrderly t → IsOrderly u
  phases_orderly o = cut_orderly d start (decided d w t) u cut (decided_orderly d w t o)

  pub phases_local : IsLocal t → IsLocal u
  phases_local l = cut_local d start (decided d w t) u cut (decided_local d w t l)

  pub phases_last : BranchesLast t → BranchesLast u
  phases_last l = cut_last d start (decided d w t) u cut (decided_last d w t l)

  pub phases_apart : OperationsApart t → OperationsApart u
  phases_apart a = cut_apart d start (decided d w t) u cut (decided_apart d w t a)

-- other names

module _ {N M : Names} {S : Contents} (r : Renaming N M) (t : Root N S) where
  abbrev m : Maps N M
  m = maps r

  operation_from : (p : Occurrence M S) → Has p (occurrences_of (rename_root m t)) → Preimage (rename_occurrence m) p (occurrences_of t)
  operation_from p h = has-from_map (rename_occurrence m) p (occurrences_of t) (subst (Has p) (operations_renamed m t) h)

  block_from : (y : BlockOccurrence M S) → Has y (block_occurrences_of (rename_root m t)) → Preimage (rename_block_occurrence m) y (block_occurrences_of t)
  block_from y h = has-from_map (rename_block_occurrence m) y (block_occurrences_of t) (subst (Has y) (blocks_renamed m t) h)

  pub renamed_orderly : IsOrderly t → IsOrderly (rename_root m t)
  renamed_orderly o = record {
    operations = λ p q h k e.
        let a = operation_from p h in
        let b = operation_from q k in
        sym a.is ∙ ap (rename_occurrence m) (o.operations a.it b.it a.stands b.stands (apart r.operation a.it.head.name b.it.head.name (ap (λ z. z.head.name) a.is ∙ e ∙ ap (λ z. z.head.name) (sym b.is)))) ∙ b.is;
    blocks = λ x y h k e.
        let a = block_from x h in
        let b = block_from y k in
        sym a.is ∙ ap (rename_block_occurrence m) (o.blocks a.it b.it a.stands b.stands (apart r.block a.it.label.name b.it.label.name (ap (λ z. z.label.name) a.is ∙ e ∙ ap (λ z. z.label.name) (sym b.is)))) ∙ b.is;
    arguments = λ x y v i j h k f g.
        let a = block_from x h in
        let b = block_from y k in
        let p = argument_from a.it x i v a.is f in
        let q = argument_from b.it y j v b.is g in
        let e = o.arguments a.it b.it p.0 i j a.stands b.stands p.1 (q.1 ∙ ap Some (apart r.value q.0 p.0 (q.2 ∙ sym p.2))) in
        (sym a.is ∙ ap (rename_block_occurrence m) e.0 ∙ b.is, e.1);
    ends = λ p q b c h k e f g.
        let x = operation_from p h in
        let y = operation_from q k in
        let u = has-from_map r.block.to b x.it.head.successors (subst (λ z. Has b z.head.successors) (sym x.is) f) in
        let v = has-from_map r.block.to c y.it.head.successors (subst (λ z. Has c z.head.successors) (sym y.is) g) in
        sym x.is ∙ ap (rename_occurrence m) (o.ends x.it y.it u.it v.it x.stands y.stands (apart r.block x.it.site.label.name y.it.site.label.name (ap (λ z. z.site.label.name) x.is ∙ e ∙ ap (λ z. z.site.label.name) (sym y.is))) u.stands v.stands) ∙ y.is;
  }
    where
      argument_from : (x : BlockOccurrence N S) (y : BlockOccurrence M S) (i : ℕ) (v : M.value) → rename_block_occurrence m x ≡ y → slice_get (names_of y.label.arguments) i ≡ Some v → (u : N.value) × (slice_get (names_of x.label.arguments) i ≡ Some u) × (r.value.to u ≡ v)
      argument_from x y i v e f =
          let p = from_some r.value.to (slice_get (names_of x.label.arguments) i) v
          (sym (at-map r.value.to (names_of x.label.arguments) i) ∙ ap (λ l. slice_get l i) (sym (names-map r.value.to x.label.arguments)) ∙ ap (λ z. slice_get (names_of z.label.arguments) i) e ∙ f) in
          (p.it, p.some, p.is)
