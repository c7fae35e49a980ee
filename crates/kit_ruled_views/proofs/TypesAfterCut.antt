-- A typed function without blocks that nothing reaches is typed, where no use is lost.
use Rattle.std.proofs.Common.{◌≡◌, ◌⊎◌, inl, inr, ⊎_elim, ℕ, Bool, true, false, List, [], ◌++◌, length, Option}
use Rattle.std.proofs.Common.{Some, slice_get, refl, sym, ap, ◌∙◌, subst}
use Rattle.std.specs.Prelude.{if◌then◌else◌}
use Rattle.ir_base.specs.declared.types.TypeHandle.{TypeHandle}
use Rattle.ir_trees.specs.Names.{Names, Contents}
use Rattle.ir_trees.specs.Renames.{names_of}
use Rattle.ir_trees.specs.Searched.{AreDistinct}
use Rattle.ir_trees.specs.Trees.{Head, Label, Sort, Tree, Root, end, operation, block, region}
use Rattle.opt_trees.specs.Dce.{TreeSurroundings, ForwardsTo}
use Rattle.opt_trees.specs.Occurrences.{Has, Occurrence, BlockOccurrence, Inside, inner, next_block, next_region}
use Rattle.opt_trees.specs.Occurrences.{at_root, occurrences_in, occurrences_of, block_occurrences_in}
use Rattle.opt_trees.specs.Occurrences.{block_occurrences_of, defined_in}
use Rattle.opt_trees.specs.Simplify.{StartingRegions, keep, IsCut, LosesUse}
use Rattle.opt_trees.proofs.NoneDead.{has-append, has-left, has-right}
use Rattle.kit_ops.specs.declared.attributes.IntegerAttr.{IntegerAttr}
use Rattle.kit_ops.specs.declared.types.KitType.{KitType}
use Rattle.kit.specs.Meaning.{kit}
use Rattle.kit_views.specs.Reading.{kit_contents}
use Rattle.kit_views.specs.Typed.{TypesFit, IsTyped}
use Rattle.kit_views.proofs.Lists.{Distinct, to_distinct, distinct_left, distinct_right, distinct_apart, at_has}

-- of three lists, of which the last two lose members: a member stays, or is in none of them
abbrev Either : {X : Type 0} → List X → X → Type 0
Either vs v = Has v vs ⊎ (Has v vs → ⊥)

of_parts : {X : Type 0} (vs bs cs bs' cs' : List X) (v : X) → Distinct (vs ++ (bs ++ cs))
    → (Has v bs' → Has v bs) → (Has v cs' → Has v cs) → (Has v bs → Either bs' v) → (Has v cs → Either cs' v)
    → Has v (vs ++ (bs ++ cs)) → Either (vs ++ (bs' ++ cs')) v
of_parts vs bs cs bs' cs' v distinct sub_b sub_c either_b either_c has = ⊎_elim
    (λ a. inl (has-left v vs (bs' ++ cs') a))
    (λ more. ⊎_elim
    (λ b. ⊎_elim
    (λ y. inl (has-right v vs (bs' ++ cs') (has-left v bs' cs' y)))
    (λ n. inr (λ h. ⊎_elim
    (λ a. distinct_apart vs (bs ++ cs) v distinct a more)
    (λ rest. ⊎_elim n
    (λ c. distinct_apart bs cs v (distinct_right vs (bs ++ cs) distinct) b (sub_c c))
    (has-append v bs' cs' rest))
    (has-append v vs (bs' ++ cs') h)))
    (either_b b))
    (λ c. ⊎_elim
    (λ y. inl (has-right v vs (bs' ++ cs') (has-right v bs' cs' y)))
    (λ n. inr (λ h. ⊎_elim
    (λ a. distinct_apart vs (bs ++ cs) v distinct a more)
    (λ rest. ⊎_elim
    (λ b. distinct_apart bs cs v (distinct_right vs (bs ++ cs) distinct) (sub_b b) c)
    n
    (has-append v bs' cs' rest))
    (has-append v vs (bs' ++ cs') h)))
    (either_c c))
    (has-append v bs cs more))
    (has-append v vs (bs ++ cs) has)

module _ {N : Names} {S : Contents} (g : N.block → Bool) where
  -- ---- where operations and blocks were

  record Was (os : List (Occurrence N S)) (p : Occurrence N S) : Type 0 where
    it : Occurrence N S
    here : Has it os
    head : p.head ≡ it.head

  was_in : {os ps : List (Occurrence N S)} {p : Occurrence N S} → ((o : Occurrence N S) → Has o os → Has o ps)
      → Was os p → Was ps p
  was_in f w = record { it = w.it; here = f w.it w.here; head = w.head }

  operation_was : {s : Sort} (t : Tree N S s) (c e : Inside N S s) (p : Occurrence N S)
      → Has p (occurrences_in (keep g t) e) → Was (occurrences_in t c) p
  operation_was end c e p has = absurd has
  operation_was (operation h rs rest) c e p has = ⊎_elim
      (λ same. record {
        it = record { site = c; head = h; regions = rs };
        here = inl refl;
        head = ap (λ (z : Occurrence N S). z.head) same;
      })
      (λ more. ⊎_elim
      (λ x. was_in (λ o y. inr (has-left o (occurrences_in rs (inner h c)) (occurrences_in rest c) y))
      (operation_was rs (inner h c) (inner h e) p x))
      (λ x. was_in (λ o y. inr (has-right o (occurrences_in rs (inner h c)) (occurrences_in rest c) y))
      (operation_was rest c e p x))
      (has-append p (occurrences_in (keep g rs) (inner h e)) (occurrences_in (keep g rest) e) more))
      has
  operation_was (block l os rest) c e p has = go (g l.name) has
      (λ x. operation_was rest (next_block c) e p x)
      (λ x. operation_was os (record { spot = c; label = l }) (record { spot = e; label = l }) p x)
      (λ x. operation_was rest (next_block c) (next_block e) p x)
    where
      go : (b : Bool) → Has p (occurrences_in (if b then keep g rest else block l (keep g os) (keep g rest)) e)
          → (Has p (occurrences_in (keep g rest) e) → Was (occurrences_in rest (next_block c)) p)
          → (Has p (occurrences_in (keep g os) (record { spot = e; label = l }))
          → Was (occurrences_in os (record { spot = c; label = l })) p)
          → (Has p (occurrences_in (keep g rest) (next_block e)) → Was (occurrences_in rest (next_block c)) p)
          → Was (occurrences_in (block l os rest) c) p
      go true h gone own later = was_in (λ o y. has-right o (occurrences_in os (record { spot = c; label = l }))
          (occurrences_in rest (next_block c)) y) (gone h)
      go false h gone own later = ⊎_elim
          (λ x. was_in (λ o y. has-left o (occurrences_in os (record { spot = c; label = l }))
          (occurrences_in rest (next_block c)) y) (own x))
          (λ x. was_in (λ o y. has-right o (occurrences_in os (record { spot = c; label = l }))
          (occurrences_in rest (next_block c)) y) (later x))
          (has-append p (occurrences_in (keep g os) (record { spot = e; label = l }))
          (occurrences_in (keep g rest) (next_block e)) h)
  operation_was (region bs rest) c e p has = ⊎_elim
      (λ x. was_in (λ o y. has-left o (occurrences_in bs c) (occurrences_in rest (next_region c)) y)
      (operation_was bs c e p x))
      (λ x. was_in (λ o y. has-right o (occurrences_in bs c) (occurrences_in rest (next_region c)) y)
      (operation_was rest (next_region c) (next_region e) p x))
      (has-append p (occurrences_in (keep g bs) e) (occurrences_in (keep g rest) (next_region e)) has)

  record WasBlock (xs : List (BlockOccurrence N S)) (y : BlockOccurrence N S) : Type 0 where
    it : BlockOccurrence N S
    here : Has it xs
    label : y.label ≡ it.label

  block_in : {xs ys : List (BlockOccurrence N S)} {y : BlockOccurrence N S}
      → ((x : BlockOccurrence N S) → Has x xs → Has x ys) → WasBlock xs y → WasBlock ys y
  block_in f w = record { it = w.it; here = f w.it w.here; label = w.label }

  block_was : {s : Sort} (t : Tree N S s) (c e : Inside N S s) (y : BlockOccurrence N S)
      → Has y (block_occurrences_in (keep g t) e) → WasBlock (block_occurrences_in t c) y
  block_was end c e y has = absurd has
  block_was (operation h rs rest) c e y has = ⊎_elim
      (λ x. block_in (λ o z. has-left o (block_occurrences_in rs (inner h c)) (block_occurrences_in rest c) z)
      (block_was rs (inner h c) (inner h e) y x))
      (λ x. block_in (λ o z. has-right o (block_occurrences_in rs (inner h c)) (block_occurrences_in rest c) z)
      (block_was rest c e y x))
      (has-append y (block_occurrences_in (keep g rs) (inner h e)) (block_occurrences_in (keep g rest) e) has)
  block_was (block l os rest) c e y has = go (g l.name) has
      (λ x. block_was rest (next_block c) e y x)
      (λ x. block_was os (record { spot = c; label = l }) (record { spot = e; label = l }) y x)
      (λ x. block_was rest (next_block c) (next_block e) y x)
    where
      go : (b : Bool) → Has y (block_occurrences_in (if b then keep g rest else block l (keep g os) (keep g rest)) e)
          → (Has y (block_occurrences_in (keep g rest) e) → WasBlock (block_occurrences_in rest (next_block c)) y)
          → (Has y (block_occurrences_in (keep g os) (record { spot = e; label = l }))
          → WasBlock (block_occurrences_in os (record { spot = c; label = l })) y)
          → (Has y (block_occurrences_in (keep g rest) (next_block e))
          → WasBlock (block_occurrences_in rest (next_block c)) y)
          → WasBlock (block_occurrences_in (block l os rest) c) y
      go true h gone own later = block_in (λ o z. inr (has-right o (block_occurrences_in os
          (record { spot = c; label = l })) (block_occurrences_in rest (next_block c)) z)) (gone h)
      go false h gone own later = ⊎_elim
          (λ same. record {
            it = record { spot = c; label = l; operations = os };
            here = inl refl;
            label = ap (λ (z : BlockOccurrence N S). z.label) same;
          })
          (λ more. ⊎_elim
          (λ x. block_in (λ o z. inr (has-left o (block_occurrences_in os (record { spot = c; label = l }))
          (block_occurrences_in rest (next_block c)) z)) (own x))
          (λ x. block_in (λ o z. inr (has-right o (block_occurrences_in os (record { spot = c; label = l }))
          (block_occurrences_in rest (next_block c)) z)) (later x))
          (has-append y (block_occurrences_in (keep g os) (record { spot = e; label = l }))
          (block_occurrences_in (keep g rest) (next_block e)) more))
          h
  block_was (region bs rest) c e y has = ⊎_elim
      (λ x. block_in (λ o z. has-left o (block_occurrences_in bs c) (block_occurrences_in rest (next_region c)) z)
      (block_was bs c e y x))
      (λ x. block_in (λ o z. has-right o (block_occurrences_in bs c) (block_occurrences_in rest (next_region c)) z)
      (block_was rest (next_region c) (next_region e) y x))
      (has-append y (block_occurrences_in (keep g bs) e) (block_occurrences_in (keep g rest) (next_region e)) has)

  -- ---- values

  value_was : {s : Sort} (t : Tree N S s) (v : N.value) → Has v (defined_in (keep g t)) → Has v (defined_in t)
  value_was end v has = has
  value_was (operation h rs rest) v has = ⊎_elim
      (λ here. has-left v (names_of h.results) (defined_in rs ++ defined_in rest) here)
      (λ more. has-right v (names_of h.results) (defined_in rs ++ defined_in rest) (⊎_elim
      (λ x. has-left v (defined_in rs) (defined_in rest) (value_was rs v x))
      (λ x. has-right v (defined_in rs) (defined_in rest) (value_was rest v x))
      (has-append v (defined_in (keep g rs)) (defined_in (keep g rest)) more)))
      (has-append v (names_of h.results) (defined_in (keep g rs) ++ defined_in (keep g rest)) has)
  value_was (block l os rest) v has = go (g l.name) has (λ x. value_was os v x) (λ x. value_was rest v x)
    where
      go : (b : Bool) → Has v (defined_in (if b then keep g rest else block l (keep g os) (keep g rest)))
          → (Has v (defined_in (keep g os)) → Has v (defined_in os))
          → (Has v (defined_in (keep g rest)) → Has v (defined_in rest))
          → Has v (names_of l.arguments ++ (defined_in os ++ defined_in rest))
      go true h own later = has-right v (names_of l.arguments) (defined_in os ++ defined_in rest)
          (has-right v (defined_in os) (defined_in rest) (later h))
      go false h own later = ⊎_elim
          (λ here. has-left v (names_of l.arguments) (defined_in os ++ defined_in rest) here)
          (λ more. has-right v (names_of l.arguments) (defined_in os ++ defined_in rest) (⊎_elim
          (λ x. has-left v (defined_in os) (defined_in rest) (own x))
          (λ x. has-right v (defined_in os) (defined_in rest) (later x))
          (has-append v (defined_in (keep g os)) (defined_in (keep g rest)) more)))
          (has-append v (names_of l.arguments) (defined_in (keep g os) ++ defined_in (keep g rest)) h)
  value_was (region bs rest) v has = ⊎_elim
      (λ x. has-left v (defined_in bs) (defined_in rest) (value_was bs v x))
      (λ x. has-right v (defined_in bs) (defined_in rest) (value_was rest v x))
      (has-append v (defined_in (keep g bs)) (defined_in (keep g rest)) has)

  -- a value stays defined, or isn't defined any more
  value_stays : {s : Sort} (t : Tree N S s) → Distinct (defined_in t) → (v : N.value) → Has v (defined_in t)
      → Either (defined_in (keep g t)) v
  value_stays end distinct v has = inl has
  value_stays (operation h rs rest) distinct v has =
      let both = distinct_right (names_of h.results) (defined_in rs ++ defined_in rest) distinct in
      of_parts (names_of h.results) (defined_in rs) (defined_in rest) (defined_in (keep g rs))
      (defined_in (keep g rest)) v
      distinct (value_was rs v) (value_was rest v)
      (value_stays rs (distinct_left (defined_in rs) (defined_in rest) both) v)
      (value_stays rest (distinct_right (defined_in rs) (defined_in rest) both) v) has
  value_stays (block l os rest) distinct v has =
      let both = distinct_right (names_of l.arguments) (defined_in os ++ defined_in rest) distinct in
      go (g l.name)
      (value_stays os (distinct_left (defined_in os) (defined_in rest) both) v)
      (value_stays rest (distinct_right (defined_in os) (defined_in rest) both) v)
    where
      go : (b : Bool) → (Has v (defined_in os) → Either (defined_in (keep g os)) v)
          → (Has v (defined_in rest) → Either (defined_in (keep g rest)) v)
          → Either (defined_in (if b then keep g rest else block l (keep g os) (keep g rest))) v
      go false own later = of_parts (names_of l.arguments) (defined_in os) (defined_in rest) (defined_in (keep g os))
          (defined_in (keep g rest)) v distinct (value_was os v) (value_was rest v) own later has
      go true own later =
          let both = distinct_right (names_of l.arguments) (defined_in os ++ defined_in rest) distinct in
          ⊎_elim
          (λ a. inr (λ h. distinct_apart (names_of l.arguments) (defined_in os ++ defined_in rest) v distinct a
          (has-right v (defined_in os) (defined_in rest) (value_was rest v h))))
          (λ more. ⊎_elim
          (λ o. inr (λ h. distinct_apart (defined_in os) (defined_in rest) v both o (value_was rest v h)))
          later
          (has-append v (defined_in os) (defined_in rest) more))
          (has-append v (names_of l.arguments) (defined_in os ++ defined_in rest) has)
  value_stays (region bs rest) distinct v has =
      of_parts [] (defined_in bs) (defined_in rest) (defined_in (keep g bs)) (defined_in (keep g rest)) v distinct
      (value_was bs v) (value_was rest v)
      (value_stays bs (distinct_left (defined_in bs) (defined_in rest) distinct) v)
      (value_stays rest (distinct_right (defined_in bs) (defined_in rest) distinct) v) has

module _ {N : Names} (leads : TypeHandle → Option KitType) (type_at : N.value → TypeHandle) (w : TreeSurroundings N IntegerAttr)
    (t : Root N kit_contents) (distinct : AreDistinct (defined_in t.regions)) (typed : IsTyped leads {N = N} type_at t)
    (gone : N.block → Bool) where
  abbrev after : Root N kit_contents
  after = record { head = t.head; regions = keep gone t.regions }

  was : (p : Occurrence N kit_contents) → Has p (occurrences_of after) → Was gone (occurrences_of t) p
  was p hp = operation_was gone t.regions (at_root t) (at_root after) p hp

  block_before : (y : BlockOccurrence N kit_contents) → Has y (block_occurrences_of after)
      → WasBlock gone (block_occurrences_of t) y
  block_before y hy = block_was gone t.regions (at_root t) (at_root after) y hy

  forwards_was : (o p : Occurrence N kit_contents) → p.head ≡ o.head → (i : ℕ) (v : N.value)
      → ForwardsTo kit after p i v → ForwardsTo kit t o i v
  forwards_was o p head i v f =
      let x = block_before f.target f.stands in
      record {
        branch = subst (λ (z : Head N kit_contents). kit.is_branch z.content ≡ true) head f.branch;
        edge = f.edge;
        target = x.it;
        stands = x.here;
        leads = subst (λ (z : Head N kit_contents). slice_get z.successors f.edge ≡ Some x.it.label.name) head
            (f.leads ∙ ap (λ (l : Label N kit_contents). Some l.name) x.label);
        place = f.place;
        gives = subst
            (λ (z : Head N kit_contents). slice_get (kit.forwards z.content (length z.operands) f.edge) f.place
            ≡ Some i)
            head f.gives;
        takes = ap (λ (l : Label N kit_contents). slice_get (names_of l.arguments) f.place) (sym x.label) ∙ f.takes;
      }

  cut_typed : (LosesUse w t after → ⊥) → IsTyped leads {N = N} type_at after
  cut_typed loses_none = record {
    results = λ p hp v hv.
        let o = was p hp in
        typed.results o.it o.here v (subst (λ (h : Head N kit_contents). Has v h.results) o.head hv);
    arguments = λ y hy v hv.
        let x = block_before y hy in
        typed.arguments x.it x.here v (subst (λ (l : Label N kit_contents). Has v l.arguments) x.label hv);
    integers = λ v has. typed.integers v (value_was gone t.regions v has);
    operands = λ p x hp hx.
        let o = was p hp in
        let defined = typed.operands o.it x o.here (subst (λ (h : Head N kit_contents). Has x h.operands) o.head hx) in
        let at = at_has p.head.operands x hx in
        ⊎_elim
        (λ stays. stays)
        (λ went. absurd (loses_none (record {
          value = x;
          was = defined;
          went = went;
          named = inl (record { user = p; place = at.place; operand = record { stands = hp; operand = at.is } });
        })))
        (value_stays gone t.regions (to_distinct (defined_in t.regions) distinct) x defined);
    operations = λ p hp.
        let o = was p hp in
        subst (λ (h : Head N kit_contents). TypesFit leads {N = N} type_at h.content.kind h) (sym o.head)
        (typed.operations o.it o.here);
    forwards = λ p i x v hp operand f.
        let o = was p hp in
        typed.forwards o.it i x v o.here
        (subst (λ (h : Head N kit_contents). slice_get h.operands i ≡ Some x) o.head operand)
        (forwards_was o.it p o.head i v f);
  }

pub typed_after_cut : {N : Names} (leads : TypeHandle → Option KitType) (type_at : N.value → TypeHandle)
    (w : TreeSurroundings N IntegerAttr) (p : StartingRegions N) (t rest : Root N kit_contents) → AreDistinct (defined_in t.regions)
    → IsTyped leads {N = N} type_at t → IsCut kit p t rest → (LosesUse w t rest → ⊥)
    → IsTyped leads {N = N} type_at rest
typed_after_cut {N} leads type_at w p t rest distinct typed cut loses_none =
    subst (IsTyped leads {N = N} type_at) (sym cut.is)
    (cut_typed leads type_at w t distinct typed cut.gone
    (subst (λ (z : Root N kit_contents). LosesUse w t z → ⊥) cut.is loses_none))
