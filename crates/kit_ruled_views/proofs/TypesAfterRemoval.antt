-- What is left of the tree of a typed function, without what is dead, is typed.
use Rattle.std.proofs.Common.{◌≡◌, inl, inr, ⊎_elim, ◌+◌, ◌-◌, min, ℕ, zero, suc, Bool, true, false, List, [], ◌∷◌, map}
use Rattle.std.proofs.Common.{length, Option, Some, slice_get, refl, sym, ap, ◌∙◌, subst, arith}
use Rattle.std.specs.Prelude.{if◌then◌else◌, nat_eq}
use Rattle.ir_base.specs.declared.types.TypeHandle.{TypeHandle}
use Rattle.ir_names.specs.Dictionary.{attribute_at}
use Rattle.ir_trees.specs.Names.{Names, Contents}
use Rattle.ir_trees.specs.Renames.{names_of}
use Rattle.ir_trees.specs.Trees.{Defined, Head, Label, Root}
use Rattle.opt_trees.specs.Dce.{TreeSurroundings, Whole, Slot, ForwardsTo, IsDead, dies, IsExcused, by_operation, by_argument}
use Rattle.opt_trees.specs.Dce.{IsUseOfItem, Gone, gone_at, thin_head, thin, IsGoneExactly, IsDce}
use Rattle.opt_trees.specs.Dialect.{Dialect, Lawful, PicksForwarded, drop, rank, renumber}
use Rattle.opt_trees.specs.Occurrences.{Has, Occurrence, BlockOccurrence, Use, OperationsApart, BlocksApart, at_root}
use Rattle.opt_trees.specs.Occurrences.{occurrences_of, block_occurrences_of, defined_in}
use Rattle.opt_trees.proofs.Lists.{some_same, none_some, length-map}
use Rattle.opt_trees.proofs.NoneDead.{AllStay, Found, FoundBlock, Went, was_there, block_was, value_goes}
use Rattle.kit_ops.specs.declared.attributes.IntegerAttr.{IntegerAttr}
use Rattle.kit_ops.specs.declared.kinds.KitOp.{KitOp}
use Rattle.kit_ops.specs.declared.kinds.KitOp.TheVariants as ops
use Rattle.kit_ops.specs.declared.types.KitType.{KitType}
use Rattle.kit.specs.Lawful.{kit_lawful}
use Rattle.kit.specs.Meaning.{kit, forwards_of, range, dropped_of}
use Rattle.kit_ops.specs.Keys.{constant_value}
use Rattle.kit_behaviour.specs.Machine.{Fun}
use Rattle.kit_views.specs.FlatView.{FlattensTo, names_in}
use Rattle.kit_views.specs.Reading.{kit_contents, kit_reading}
use Rattle.kit_views.specs.Typed.{TypesFit, IsTyped}
use Rattle.kit_views.proofs.Forwarded.{range_get}
use Rattle.kit_views.proofs.Lists.{has_get, sub_has}
use Rattle.kit_views.proofs.Thinned.{values_left}
use Rattle.opt_inside.proofs.Reached.{one, blocks_one}
use Rattle.ir_trees.specs.Searched.{AreDistinct}
use Rattle.kit_ruled_views.proofs.FunctionViews.{names_are}

-- ---- lists without what is picked

apart : (b : Bool) → b ≡ true → b ≡ false → ⊥
apart true a b = cc
apart false a b = cc

module _ {X : Type 0} where
  -- what stays was there
  kept_was : (p : ℕ → Bool) (xs : List X) (x : X) → Has x (drop p xs) → (i : ℕ) × (slice_get xs i ≡ Some x)
      × (p i ≡ false)
  kept_was p [] x has = absurd has
  kept_was p (y ∷ xs) x has = go (p 0) refl has (λ more. kept_was (λ i. p (suc i)) xs x more)
    where
      go : (b : Bool) → p 0 ≡ b
          → Has x (if b then drop (λ i. p (suc i)) xs else y ∷ drop (λ i. p (suc i)) xs)
          → (Has x (drop (λ i. p (suc i)) xs) → (i : ℕ) × (slice_get xs i ≡ Some x) × (p (suc i) ≡ false))
          → (i : ℕ) × (slice_get (y ∷ xs) i ≡ Some x) × (p i ≡ false)
      go true is h next = let k = next h in (suc k.0, k.1, k.2)
      go false is h next = ⊎_elim (λ e. (zero, ap Some (sym e), is))
          (λ more. let k = next more in (suc k.0, k.1, k.2)) h

  -- the member that stays and has this rank is where it was
  rank_was : (p : ℕ → Bool) (xs : List X) (i : ℕ) (x : X) → p i ≡ false → slice_get (drop p xs) (rank p i) ≡ Some x
      → slice_get xs i ≡ Some x
  rank_was p [] i x stays h = h
  rank_was p (y ∷ xs) zero x stays h =
      subst (λ b. slice_get (if b then drop (λ i. p (suc i)) xs else y ∷ drop (λ i. p (suc i)) xs) 0 ≡ Some x) stays h
  rank_was p (y ∷ xs) (suc i) x stays h = go (p 0) h (λ k. rank_was (λ j. p (suc j)) xs i x stays k)
    where
      go : (b : Bool) → slice_get (if b then drop (λ i. p (suc i)) xs else y ∷ drop (λ i. p (suc i)) xs)
          (if b then rank (λ j. p (suc j)) i else suc (rank (λ j. p (suc j)) i)) ≡ Some x
          → (slice_get (drop (λ j. p (suc j)) xs) (rank (λ j. p (suc j)) i) ≡ Some x → slice_get xs i ≡ Some x)
          → slice_get xs i ≡ Some x
      go true h next = next h
      go false h next = next h

  -- as many stay of other members
  abbrev zeros : List X → List ℕ
  zeros xs = map (λ (x : X). 0) xs

  length_left : (p : ℕ → Bool) (xs : List X) → length (drop p (zeros xs)) ≡ length (drop p xs)
  length_left p [] = refl
  length_left p (x ∷ xs) = go (p 0) (length_left (λ i. p (suc i)) xs)
    where
      go : (b : Bool) → length (drop (λ i. p (suc i)) (zeros xs)) ≡ length (drop (λ i. p (suc i)) xs)
          → length (if b then drop (λ i. p (suc i)) (zeros xs) else zero ∷ drop (λ i. p (suc i)) (zeros xs))
          ≡ length (if b then drop (λ i. p (suc i)) xs else x ∷ drop (λ i. p (suc i)) xs)
      go true e = e
      go false e = ap suc e

  -- a member whose first stays is the first
  first_was : (p : ℕ → Bool) (xs : List X) (x : X) → p 0 ≡ false → slice_get (drop p xs) 0 ≡ Some x
      → slice_get xs 0 ≡ Some x
  first_was p xs x stays h = rank_was p xs 0 x stays h

  -- indices and members, of which the same go
  record Paired (p : ℕ → Bool) (is : List ℕ) (xs : List X) (j : ℕ) (x : X) : Type 0 where
    place : ℕ
    index : ℕ
    gives : slice_get is place ≡ Some index
    takes : slice_get xs place ≡ Some x
    stays : p index ≡ false
    ranked : j ≡ rank p index

  paired : (p q : ℕ → Bool) (is : List ℕ) (xs : List X)
      → ((k i : ℕ) (x : X) → slice_get is k ≡ Some i → slice_get xs k ≡ Some x → p i ≡ q k)
      → (n j : ℕ) (x : X) → slice_get (renumber p is) n ≡ Some j → slice_get (drop q xs) n ≡ Some x
      → Paired p is xs j x
  paired p q [] xs alike n j x gives takes = cc
  paired p q (i ∷ is) [] alike n j x gives takes = cc
  paired p q (i ∷ is) (y ∷ xs) alike n j x gives takes =
      go (p i) refl n gives (subst (λ b. slice_get (if b then drop (λ k. q (suc k)) xs else y ∷ drop (λ k. q (suc k))
      xs) n ≡ Some x)
      (sym (alike 0 i y refl refl)) takes)
      (λ n g t. paired p (λ k. q (suc k)) is xs (λ k. alike (suc k)) n j x g t)
    where
      later : Paired p is xs j x → Paired p (i ∷ is) (y ∷ xs) j x
      later r = record {
        place = suc r.place;
        index = r.index;
        gives = r.gives;
        takes = r.takes;
        stays = r.stays;
        ranked = r.ranked;
      }

      go : (b : Bool) → p i ≡ b → (n : ℕ)
          → slice_get (if b then renumber p is else rank p i ∷ renumber p is) n ≡ Some j
          → slice_get (if b then drop (λ k. q (suc k)) xs else y ∷ drop (λ k. q (suc k)) xs) n ≡ Some x
          → ((n : ℕ) → slice_get (renumber p is) n ≡ Some j → slice_get (drop (λ k. q (suc k)) xs) n ≡ Some x
          → Paired p is xs j x)
          → Paired p (i ∷ is) (y ∷ xs) j x
      go true is_b n g t next = later (next n g t)
      go false is_b zero g t next = record {
        place = zero;
        index = i;
        gives = refl;
        takes = t;
        stays = is_b;
        ranked = sym (some_same (rank p i) j g);
      }
      go false is_b (suc n) g t next = later (next n g t)

-- definitions by their names
names_dropped : {V T : Type 0} (q : ℕ → Bool) (ds : List (Defined V T)) → names_of (drop q ds) ≡ drop q (names_of ds)
names_dropped q [] = refl
names_dropped q (d ∷ ds) = go (q 0) (names_dropped (λ i. q (suc i)) ds)
  where
    go : (b : Bool) → names_of (drop (λ i. q (suc i)) ds) ≡ drop (λ i. q (suc i)) (names_of ds)
        → names_of (if b then drop (λ i. q (suc i)) ds else d ∷ drop (λ i. q (suc i)) ds)
        ≡ (if b then drop (λ i. q (suc i)) (names_of ds) else d.name ∷ drop (λ i. q (suc i)) (names_of ds))
    go true e = e
    go false e = ap (λ l. d.name ∷ l) e

definition_at : {V T : Type 0} (ds : List (Defined V T)) (k : ℕ) (v : V) → slice_get (names_of ds) k ≡ Some v
    → (d : Defined V T) × (slice_get ds k ≡ Some d) × (d.name ≡ v)
definition_at [] k v h = cc
definition_at (d ∷ ds) zero v h = (d, refl, some_same d.name v h)
definition_at (d ∷ ds) (suc k) v h = definition_at ds k v h

dropped_was : {X : Type 0} (q : ℕ → Bool) (xs : List X) (x : X) → Has x (drop q xs) → Has x xs
dropped_was q [] x has = has
dropped_was q (y ∷ xs) x has = go (q 0) has (λ more. dropped_was (λ i. q (suc i)) xs x more)
  where
    go : (b : Bool) → Has x (if b then drop (λ i. q (suc i)) xs else y ∷ drop (λ i. q (suc i)) xs)
        → (Has x (drop (λ i. q (suc i)) xs) → Has x xs) → Has x (y ∷ xs)
    go true h next = inr (next h)
    go false h next = ⊎_elim (λ e. inl e) (λ more. inr (next more)) h

-- ---- what stays

module _ {N : Names} {S : Contents} {A : Type 0} (d : Dialect S A) (lawful : Lawful d) (w : TreeSurroundings N A) (t : Root N S)
    (g : Gone N) (is : IsGoneExactly d w t g) (apart_ops : OperationsApart t) (apart_blocks : BlocksApart t) where
  abbrev after : Root N S
  after = record { head = t.head; regions = thin d g t.regions }

  found : (p : Occurrence N S) → Has p (occurrences_of after) → Found d g (occurrences_of t) p
  found p hp = was_there d g t.regions (at_root t) (at_root after) refl tt p hp

  block_found : (y : BlockOccurrence N S) → Has y (block_occurrences_of after)
      → FoundBlock d g (block_occurrences_of t) y
  block_found y hy = block_was d g lawful t.regions (at_root t) (at_root after)
      (record { removes = λ i f. refl; region = refl; first = refl }) tt y hy

  stays_in : (n : N.operation) (ns : List N.operation) → AllStay d g ns → Has n ns → g.item (Whole n) ≡ false
  stays_in n [] all has = absurd has
  stays_in n (m ∷ ns) all has = ⊎_elim (λ e. ap (λ z. g.item (Whole z)) e ∙ all.0) (λ k. stays_in n ns all.1 k) has

  uses_of : (x : _) → IsDead d w t x → (v : N.value) (o : Occurrence N S) (i : ℕ) → IsUseOfItem t x v o → Use t v o i
      → IsExcused d w t o i
  uses_of _ (dies x may kept uses) v o i a b = uses v o i a b

  module _ (o : Occurrence N S) (ho : Has o (occurrences_of t)) where
    -- an operand that goes is forwarded
    lost_forwards : (i : ℕ) → g.operand o.head.name i ≡ true
        → (v : N.value) × ForwardsTo d t o i v × IsDead d w t (Slot v)
    lost_forwards i goes =
        let l = is.lost o.head.name i goes in
        let same : l.user ≡ o = apart_ops l.user o l.stands ho l.name in
        (l.argument, subst (λ (z : Occurrence N S). ForwardsTo d t z i l.argument) same l.forwards, l.dead)

    -- a use that is excused goes, or its operation does
    not_excused : AllStay d g (o.head.name ∷ o.site.spot.around) → (i : ℕ) → g.operand o.head.name i ≡ false
        → IsExcused d w t o i → ⊥
    not_excused all i stays excused = go o i excused ho all stays
      where
        go : (p : Occurrence N S) (j : ℕ) → IsExcused d w t p j → Has p (occurrences_of t)
            → AllStay d g (p.head.name ∷ p.site.spot.around) → g.operand p.head.name j ≡ false → ⊥
        go _ _ (by_operation p j a has dead) hp all stays =
            apart (g.item (Whole a)) (is.all (Whole a) dead) (stays_in a (p.head.name ∷ p.site.spot.around) all has)
        go _ _ (by_argument p j v f dead) hp all stays =
            apart (g.operand p.head.name j)
            (is.all_lost p.head.name j (record {
              user = p;
              stands = hp;
              name = refl;
              argument = v;
              forwards = f;
              dead = dead;
            }))
            stays

    -- a value that an operation that stays takes is defined in what is left
    value_stays : AllStay d g (o.head.name ∷ o.site.spot.around) → (i : ℕ) (v : N.value) → g.operand o.head.name i
        ≡ false
        → slice_get o.head.operands i ≡ Some v → Has v (defined_in t.regions) → Has v (defined_in after.regions)
    value_stays all i v stays operand has =
        let taken : Use t v o i = record { stands = ho; operand = operand } in
        ⊎_elim
        (λ here. here)
        (λ gone. absurd (not_excused all i stays (⊎_elim
        (λ (y : Went d g (occurrences_of t) v).
        uses_of (Whole y.it.head.name) (is.dead (Whole y.it.head.name) y.goes) v o i
        (record {
          it = y.it;
          stands = y.stands;
          name = refl;
          value = ⊎_elim
              (λ r. inl r)
              (λ r. inr (
                r,
                λ h. apart (g.item (Whole y.it.head.name)) y.goes
                    (stays_in y.it.head.name o.site.spot.around all.1 h),
              ))
              y.value;
        })
        taken)
        (λ (y : g.item (Slot v) ≡ true). uses_of (Slot v) (is.dead (Slot v) y) v o i refl taken)
        gone)))
        (value_goes d g t.regions (at_root t) v has)

    -- an operand that goes is forwarded to some successor
    picks : PicksForwarded d o.head.content (length o.head.operands) (g.operand o.head.name)
    picks i goes = let l = lost_forwards i goes in (l.1.edge, l.1.place, l.1.gives)

    -- what is forwarded along an edge is what is left of what was
    forwards_left : (edge : ℕ) → d.forwards (d.drop_operands o.head.content (g.operand o.head.name))
        (length (drop (g.operand o.head.name) o.head.operands)) edge
        ≡ renumber (g.operand o.head.name) (d.forwards o.head.content (length o.head.operands) edge)
    forwards_left edge =
        let goes : ℕ → Bool = g.operand o.head.name in
        let as_many : List ℕ = zeros o.head.operands in
        let same : length as_many ≡ length o.head.operands = length-map (λ (v : N.value). zero) o.head.operands in
        ap (λ n. d.forwards (d.drop_operands o.head.content goes) n edge) (sym (length_left goes o.head.operands))
        ∙ lawful.drop_forwards o.head.content goes as_many edge
        (subst (λ n. PicksForwarded d o.head.content n goes) (sym same) picks)
        ∙ ap (λ n. renumber goes (d.forwards o.head.content n edge)) same

    -- it goes exactly with the argument that it is forwarded to
    goes_alike : (edge : ℕ) (x : BlockOccurrence N S) → Has x (block_occurrences_of t)
        → d.is_branch o.head.content ≡ true → slice_get o.head.successors edge ≡ Some x.label.name
        → (k i : ℕ) (v : N.value) → slice_get (d.forwards o.head.content (length o.head.operands) edge) k ≡ Some i
        → slice_get (names_of x.label.arguments) k ≡ Some v → g.operand o.head.name i ≡ g.item (Slot v)
    goes_alike edge x hx branch leads k i v gives takes =
        let f : ForwardsTo d t o i v = record {
          branch = branch;
          edge = edge;
          target = x;
          stands = hx;
          leads = leads;
          place = k;
          gives = gives;
          takes = takes;
        } in
        both (g.operand o.head.name i) (g.item (Slot v))
        (λ goes.
        let l = lost_forwards i goes in
        let same = lawful.forwards_once o.head.content (length o.head.operands) l.1.edge l.1.place edge k i l.1.gives
        gives in
        let name : l.1.target.label.name ≡ x.label.name =
        some_same l.1.target.label.name x.label.name
        (sym l.1.leads ∙ ap (slice_get o.head.successors) same.0 ∙ leads) in
        let block : l.1.target ≡ x = apart_blocks l.1.target x l.1.stands hx name in
        let value : l.0 ≡ v = some_same l.0 v (sym l.1.takes
        ∙ (λ j. slice_get (names_of (block j).label.arguments) (same.1 j)) ∙ takes) in
        subst (λ z. g.item (Slot z) ≡ true) value (is.all (Slot l.0) l.2))
        (λ goes. is.all_lost o.head.name i
        (record { user = o; stands = ho; name = refl; argument = v; forwards = f; dead = is.dead (Slot v) goes }))
      where
        both : (b c : Bool) → (b ≡ true → c ≡ true) → (c ≡ true → b ≡ true) → b ≡ c
        both true c there back = sym (there refl)
        both false true there back = sym (sym (back refl))
        both false false there back = refl

    -- what is forwarded afterwards was forwarded before
    module _ (p : Occurrence N S) (head : p.head ≡ thin_head d g o.head) (i : ℕ) (v : N.value)
        (f : ForwardsTo d after p i v) where
      record Was : Type 0 where
        index : ℕ
        before : ForwardsTo d t o index v
        stays : g.operand o.head.name index ≡ false
        ranked : i ≡ rank (g.operand o.head.name) index

      forwarded_was : Was
      forwarded_was =
          let x = block_found f.target f.stands in
          let goes : ℕ → Bool = g.operand o.head.name in
          let dead : ℕ → Bool = λ j. gone_at g (slice_get x.it.label.arguments j) in
          let name : f.target.label.name ≡ x.it.label.name = ap (λ (l : Label N S). l.name) x.label in
          let branch : d.is_branch o.head.content ≡ true =
          sym (lawful.drop_branch o.head.content goes) ∙ ap (λ (h : Head N S). d.is_branch h.content) (sym head)
          ∙ f.branch in
          let leads : slice_get o.head.successors f.edge ≡ Some x.it.label.name =
          ap (λ (h : Head N S). slice_get h.successors f.edge) (sym head) ∙ f.leads ∙ ap Some name in
          let gives : slice_get (renumber goes (d.forwards o.head.content (length o.head.operands) f.edge)) f.place
          ≡ Some i =
          ap (λ l. slice_get l f.place) (sym (forwards_left f.edge))
          ∙ ap (λ (h : Head N S). slice_get (d.forwards h.content (length h.operands) f.edge) f.place) (sym head)
          ∙ f.gives in
          let takes : slice_get (drop dead (names_of x.it.label.arguments)) f.place ≡ Some v =
          ap (λ l. slice_get l f.place) (sym (names_dropped dead x.it.label.arguments))
          ∙ ap (λ (l : Label N S). slice_get (names_of l.arguments) f.place) (sym x.label) ∙ f.takes in
          let alike : (k j : ℕ) (y : N.value) → slice_get (d.forwards o.head.content (length o.head.operands) f.edge)
          k ≡ Some j
          → slice_get (names_of x.it.label.arguments) k ≡ Some y → goes j ≡ dead k =
          λ k j y gi ta.
          let e = definition_at x.it.label.arguments k y ta in
          goes_alike f.edge x.it x.stands branch leads k j y gi ta
          ∙ ap (λ z. g.item (Slot z)) (sym e.2) ∙ ap (gone_at g) (sym e.1) in
          let r = paired goes dead (d.forwards o.head.content (length o.head.operands) f.edge)
          (names_of x.it.label.arguments)
          alike f.place i v gives takes in
          record {
            index = r.index;
            before = record {
              branch = branch;
              edge = f.edge;
              target = x.it;
              stands = x.stands;
              leads = leads;
              place = r.place;
              gives = r.gives;
              takes = r.takes;
            };
            stays = r.stays;
            ranked = r.ranked;
          }

-- ---- functions of `kit`

-- a condition isn't forwarded
no_condition : (k : KitOp) (first n edge place : ℕ) → k ≡ ops.CondBr
    → slice_get (forwards_of k first n edge) place ≡ Some 0 → ⊥
no_condition k first n edge place kind gives =
    go edge (subst (λ z. slice_get (forwards_of z first n edge) place ≡ Some 0) kind gives)
  where
    behind : (b : Bool) → slice_get (if b then range (1 + first) (n - (1 + first)) else []) place ≡ Some 0 → ⊥
    behind true h = let r = range_get (1 + first) (n - (1 + first)) place 0 h in omega (arith, r.0)
    behind false h = none_some 0 h

    either : (b : Bool) (c : Bool)
        → slice_get (if b then range 1 (min first (n - 1)) else
        (if c then range (1 + first) (n - (1 + first)) else [])) place ≡ Some 0
        → ⊥
    either true c h = let r = range_get 1 (min first (n - 1)) place 0 h in omega (arith, r.0)
    either false c h = behind c h

    go : (edge : ℕ) → slice_get (forwards_of ops.CondBr first n edge) place ≡ Some 0 → ⊥
    go edge h = either (nat_eq edge 0) (nat_eq edge 1) h

module _ {N : Names} (leads : TypeHandle → Option KitType) (type_at : N.value → TypeHandle) (w : TreeSurroundings N IntegerAttr)
    (t : Root N kit_contents) (g : Gone N) (is : IsGoneExactly kit w t g) (apart_ops : OperationsApart t)
    (apart_blocks : BlocksApart t)
    (typed : IsTyped leads {N = N} type_at t) where
  abbrev left : Root N kit_contents
  left = record { head = t.head; regions = thin kit g t.regions }

  found_op : (p : Occurrence N kit_contents) → Has p (occurrences_of left) → Found kit g (occurrences_of t) p
  found_op p hp = found kit kit_lawful w t g is apart_ops apart_blocks p hp

  arguments_typed : (y : BlockOccurrence N kit_contents) → Has y (block_occurrences_of left)
      → (v : Defined N.value TypeHandle) → Has v y.label.arguments → type_at v.name ≡ v.holds
  arguments_typed y hy v hv =
      let x = block_found kit kit_lawful w t g is apart_ops apart_blocks y hy in
      typed.arguments x.it x.stands v
      (dropped_was (λ i. gone_at g (slice_get x.it.label.arguments i)) x.it.label.arguments v
      (subst (λ (l : Label N kit_contents). Has v l.arguments) x.label hv))

  operands_defined : (p : Occurrence N kit_contents) (x : N.value) → Has p (occurrences_of left) → Has x p.head.operands
      → Has x (defined_in left.regions)
  operands_defined p x hp hx =
      let o = found_op p hp in
      let k = kept_was (g.operand o.it.head.name) o.it.head.operands x
      (subst (λ (h : Head N kit_contents). Has x h.operands) o.thinned.head hx) in
      value_stays kit kit_lawful w t g is apart_ops apart_blocks o.it o.stands o.stays k.0 x k.2 k.1
      (typed.operands o.it x o.stands (has_get o.it.head.operands k.0 x k.1))

  -- a condition stays
  condition_stays : (o : Occurrence N kit_contents) → Has o (occurrences_of t) → o.head.content.kind ≡ ops.CondBr
      → g.operand o.head.name 0 ≡ false
  condition_stays o ho kind = go (g.operand o.head.name 0) refl
    where
      go : (b : Bool) → g.operand o.head.name 0 ≡ b → g.operand o.head.name 0 ≡ false
      go false e = e
      go true e =
          let l = lost_forwards kit kit_lawful w t g is apart_ops apart_blocks o ho 0 e in
          absurd (no_condition o.head.content.kind _ (length o.head.operands) l.1.edge l.1.place kind l.1.gives)

  fits_left : (o : Occurrence N kit_contents) → Has o (occurrences_of t) → (k : KitOp) → o.head.content.kind ≡ k
      → TypesFit leads {N = N} type_at k o.head → TypesFit leads {N = N} type_at k (thin_head kit g o.head)
  fits_left o ho ops.Constant kind fits = λ v has.
      let n = fits v has in (
        n.0,
        ap (λ z. attribute_at (dropped_of z (g.operand o.head.name) o.head.content.notes.attributes)
            constant_value) kind ∙ n.1,
        n.2,
      )
  fits_left o ho (ops.Arithmetic a) kind fits =
      λ x v hx hv. fits x v (dropped_was (g.operand o.head.name) o.head.operands x hx) hv
  fits_left o ho (ops.Comparison a) kind fits = (
    λ x y hx hy. fits.0 x y (dropped_was (g.operand o.head.name) o.head.operands x hx)
        (dropped_was (g.operand o.head.name) o.head.operands y hy),
    fits.1,
  )
  fits_left o ho ops.CondBr kind fits =
      λ x here. fits x (first_was (g.operand o.head.name) o.head.operands x (condition_stays o ho kind) here)
  fits_left o ho _ kind fits = tt

  operations_fit : (p : Occurrence N kit_contents) → Has p (occurrences_of left)
      → TypesFit leads {N = N} type_at p.head.content.kind p.head
  operations_fit p hp =
      let o = found_op p hp in
      subst (λ (h : Head N kit_contents). TypesFit leads {N = N} type_at h.content.kind h) (sym o.thinned.head)
      (fits_left o.it o.stands o.it.head.content.kind refl (typed.operations o.it o.stands))

  forwards_typed : (p : Occurrence N kit_contents) (i : ℕ) (x v : N.value) → Has p (occurrences_of left)
      → slice_get p.head.operands i ≡ Some x → ForwardsTo kit left p i v → type_at x ≡ type_at v
  forwards_typed p i x v hp operand f =
      let o = found_op p hp in
      let was = forwarded_was kit kit_lawful w t g is apart_ops apart_blocks o.it o.stands p o.thinned.head i v f in
      let here : slice_get (drop (g.operand o.it.head.name) o.it.head.operands) i ≡ Some x =
      subst (λ (h : Head N kit_contents). slice_get h.operands i ≡ Some x) o.thinned.head operand in
      typed.forwards o.it was.index x v o.stands
      (rank_was (g.operand o.it.head.name) o.it.head.operands was.index x was.stays
      (ap (slice_get (drop (g.operand o.it.head.name) o.it.head.operands)) (sym was.ranked) ∙ here))
      was.before

  thinned_typed : IsTyped leads {N = N} type_at left
  thinned_typed = record {
    results = λ p hp v hv.
        let o = found_op p hp in
        typed.results o.it o.stands v (subst (λ (h : Head N kit_contents). Has v h.results) o.thinned.head hv);
    arguments = arguments_typed;
    integers = λ v has. typed.integers v (sub_has (defined_in left.regions) (defined_in t.regions) v
        (values_left kit g t.regions) has);
    operands = operands_defined;
    operations = operations_fit;
    forwards = forwards_typed;
  }

pub typed_after_dce : {N : Names} (leads : TypeHandle → Option KitType) (numbered : List ℕ → ℕ)
    (type_at : N.value → TypeHandle) (w : TreeSurroundings N IntegerAttr) (t after : Root N kit_contents) (f : Fun N.value)
    → FlattensTo (kit_reading leads numbered) t f → IsTyped leads {N = N} type_at t → IsDce kit w t after
    → IsTyped leads {N = N} type_at after
typed_after_dce {N} leads numbered type_at w t rest f is_flat typed pass =
    let names = names_are (kit_reading leads numbered) (names_in is_flat.view.blocks) t.regions is_flat.view.blocks f
    is_flat.view.are is_flat.view.region in
    subst (IsTyped leads {N = N} type_at) (sym pass.is)
    (thinned_typed leads type_at w t pass.gone pass.is_gone (one t is_flat.operations)
    (blocks_one t (subst AreDistinct (sym names) is_flat.blocks)) typed)
