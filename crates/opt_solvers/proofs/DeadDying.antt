-- Items die until no more do.
use Rattle.std.proofs.Common.{◌≡◌, ◌⊎◌, inl, inr, ⊎_elim, ℕ, zero, suc, ◌+◌, ◌<◌, ◌≤◌, List, [], ◌∷◌, take, drop, Some, Bool, Vec, Global, true, false, nat_eq, length, get_or, map, refl, sym, ap, ◌∙◌, subst, arith, eq-eqb}
use Rattle.std.proofs.Math.ListN.{replicate}
use Rattle.std.specs.Prelude.{Contains, slice_get, ◌↔◌}
use Rattle.std.proofs.lemmas.Option.{same_Some, none-some, slice_get_within, slice_get-get_or}
use Rattle.std.proofs.lemmas.List.{length-append, length-map, length-replicate, length-take, length-drop, get_or-take, get_or-drop}
use Rattle.digraph.specs.Counts.{count_of}
use Rattle.digraph.specs.Marks.{IsMarked}
use Rattle.digraph.specs.Work.{HasNode, Waits, Adds, Takes, IsDone}
use Rattle.digraph.specs.declared.worklist.Worklist.{Worklist}
use Rattle.digraph.proofs.Counting.{same_numbers}
use Rattle.opt_rows.specs.declared.dead_problem.Operand.{Operand}
use Rattle.opt_rows.specs.declared.dead_problem.DeadProblem.{DeadProblem}
use Rattle.opt_rows.specs.declared.dead_problem.DeadItems.{DeadItems}
use Rattle.opt_solvers.specs.declared.dead_items.DeadTables.{DeadTables}
use Rattle.opt_rows.specs.Dead.{NumberedItem, Whole, Slot, IsInOperation, itself, further, IsDeadItem, dies, IsExcusedOperand, by_operation, by_argument, IsDeadProblem}
use Rattle.opt_rows.specs.DeadCandidates.{around_of}
use Rattle.opt_steps.specs.DeadPlaces.{ValueUse, operand_place, kept_place, all_places, around_operation, slot, items, PlaceKeeps}
use Rattle.opt_solvers.specs.DeadRows.{slot_of, Excuses, IsExcusedBy, AreDeadTables}
use Rattle.opt_rows.specs.Rows.{row_at}
use Rattle.opt_solvers.specs.DeadUses.{held_operation, held_argument, first_uses, kept_by, CountsItems}
use Rattle.opt_steps.specs.DeadRelease.{IsStarted, keeping, IsCounted, ExcusesAll}
use Rattle.opt_solvers.specs.DeadItems.{AreMarked, AreDead}
use Rattle.opt_steps.proofs.DeadLists.{below_or_at}
use Rattle.opt_steps.proofs.DeadPlacing.{default, same_operand, same_kept, place_is, is_place}
use Rattle.opt_steps.proofs.DeadCrossing.{around_there, around_number, in_more}
use Rattle.opt_steps.proofs.DeadKeeping.{known}
use Rattle.opt_steps.proofs.DeadReleasing.{keeping_zero, none_keeping}
use Rattle.opt_solvers.proofs.DeadCases.{number, IsItem, item_within, may_item, may_unused, unused_may, counts_keeps, makes_keeps, keeps_counts, keeps_makes, dead_item, IsGone, IsExcusedPlace, excused_by}

row_within : (rows : List (List ℕ)) (k x : ℕ) → Contains (row_at rows k) x → k < length rows
row_within [] k x c = absurd (omega (arith, c.1))
row_within (row ∷ rows) zero x c = omega arith
row_within (row ∷ rows) (suc k) x c = let h = row_within rows k x c in omega (arith, h)

keeping_all : (rows : List (List ℕ)) (n x : ℕ) → n ≡ length rows → keeping (replicate n false) rows x ≡ kept_by rows x
keeping_all [] zero x e = refl
keeping_all [] (suc n) x e = refl
keeping_all (row ∷ rows) zero x e = absurd (omega (arith, e))
keeping_all (row ∷ rows) (suc n) x e = ap (λ k. count_of x row + k) (keeping_all rows n x (omega (arith, e)))

none_marked : (n k : ℕ) → IsMarked (replicate n false) k → ⊥
none_marked zero k m = none-some true m
none_marked (suc n) zero m = let e = same_Some false true m in absurd (cc e)
none_marked (suc n) (suc k) m = none_marked n k m

module _ (p : DeadProblem) (held : DeadTables) where
  abbrev places : List ValueUse
  places = all_places p

  abbrev keeps : List (List ℕ)
  keeps = held.keeps

  -- each item has a use for each place that keeps it and isn't excused, and excused places are so by the dead
  pub record IsSound (excused : List Bool) (uses : List ℕ) : Type 0 where
    pub places_len : length excused ≡ length keeps
    pub counts : (x : ℕ) → get_or uses x 0 ≡ get_or (first_uses p) x 0 + keeping excused keeps x
    pub by_dead : (k : ℕ) (q : ValueUse) → IsMarked excused k → slice_get places k ≡ Some q → IsExcusedPlace p q

  -- what a gone item excuses is excused, and what is inside it is gone
  pub record IsSettled (excused : List Bool) (work : Worklist) (x : ℕ) : Type 0 where
    pub marked : (k : ℕ) → IsExcusedBy p x k → IsMarked excused k
    pub inside : (i : ℕ) → Contains (row_at held.inner x) i → HasNode work i

  pub record IsDying (excused : List Bool) (uses : List ℕ) (work : Worklist) : Type 0 where
    pub counted : IsCounted keeps excused uses work
    pub len : length uses ≡ items p
    pub is_sound : IsSound excused uses
    pub unused : (x : ℕ) → x < items p → get_or uses x 0 ≡ 0 → HasNode work x
    pub gone : (x : ℕ) → HasNode work x → IsGone p x
    pub closed : (x : ℕ) → HasNode work x → Waits work x ⊎ IsSettled excused work x

  -- an item that is taken is one
  pub item_taken : (excused : List Bool) (uses : List ℕ) (u v : Worklist) (x : ℕ) → IsDying excused uses u → Takes u v x → x < items p
  item_taken excused uses u v x s k = let h = k.in_range in let m = s.counted.marks in let n = s.len in omega (arith, h, m, n)

  module _ (ok : IsDeadProblem p) (tables : AreDeadTables p held) where
    -- what a row has, the place keeps
    row_of : (k x : ℕ) → Contains (row_at keeps k) x → (q : ValueUse) × (slice_get places k ≡ Some q) × PlaceKeeps p q.user q.operand.definer x
    row_of k x c =
        let h : k < length places = (let l = row_within keeps k x c in let e = tables.kept.len in omega (arith, l, e)) in
        let t = slice_get-get_or places k default h in
        (get_or places k default, t, ((tables.kept.row k (get_or places k default) t).exact x).0 c)

    row_has : (k x : ℕ) (q : ValueUse) → slice_get places k ≡ Some q → PlaceKeeps p q.user q.operand.definer x → Contains (row_at keeps k) x
    row_has k x q t h = ((tables.kept.row k q t).exact x).1 h

    -- an item without uses is dead
    unused_dies : (excused : List Bool) (uses : List ℕ) (x : NumberedItem) → IsSound excused uses → IsItem p x → get_or uses (number p x) 0 ≡ 0 → IsDeadItem p x
    unused_dies excused uses x s h z = dies x
        (unused_may p x h (let c = s.counts (number p x) in omega (arith, c, z)))
        (λ (d, c, m). let at = is_place p (kept_place d) (inr (refl, refl, c)) in let r = s.by_dead at.0 (kept_place d) (marked at.0 (kept_place d) at.1 (makes_keeps p x d m)) at.1 in none-some r.0 r.1)
        (λ i o u c. let at = is_place p (operand_place i o) (inl (i, refl, u)) in let r = s.by_dead at.0 (operand_place i o) (marked at.0 (operand_place i o) at.1 (counts_keeps p x i o c)) at.1 in
        subst (λ n. IsExcusedOperand p n o) (sym (same_Some i r.0 r.1)) r.2)
      where
        marked : (k : ℕ) (q : ValueUse) → slice_get places k ≡ Some q → PlaceKeeps p q.user q.operand.definer (number p x) → IsMarked excused k
        marked k q t h = keeping_zero excused keeps k (number p x) s.places_len (let c = s.counts (number p x) in omega (arith, c, z)) (row_has k (number p x) q t h)

    unused_goes : (excused : List Bool) (uses : List ℕ) (x : ℕ) → IsSound excused uses → x < items p → get_or uses x 0 ≡ 0 → IsGone p x
    unused_goes excused uses x s h z = ⊎_elim
        (λ l. inl (x, itself, unused_dies excused uses (Whole x) s l z))
        (λ (v, e). inr (v, e, unused_dies excused uses (Slot v) s (omega (arith, e, h)) (ap (λ n. get_or uses n 0) (sym e) ∙ z)))
        (below_or_at (length p.operations) x)

    first_len : length (first_uses p) ≡ items p
    first_len = let a = length-append (map held_operation p.operations) (map held_argument p.arguments.items) in let b = length-map p.operations held_operation in let c = length-map p.arguments.items held_argument in omega (arith, a, b, c)

    rows_within : (k x : ℕ) → Contains (row_at keeps k) x → x < items p
    rows_within k x c = let r = row_of k x c in (tables.kept.row k r.0 r.1).within x c

    pub rows_first : (k x : ℕ) → Contains (row_at keeps k) x → x < length (first_uses p)
    rows_first k x c = let h = rows_within k x c in let l = first_len in omega (arith, h, l)

    pub rows_once : (k x : ℕ) → count_of x (row_at keeps k) ≤ 1
    rows_once k x = ⊎_elim
        (λ h. let l : k < length places = (let e = tables.kept.len in omega (arith, h, e)) in (tables.kept.row k (get_or places k default) (slice_get-get_or places k default l)).once x)
        (λ (v, e). let z = ap (count_of x) (past keeps k (omega (arith, e))) in omega (arith, z))
        (below_or_at (length keeps) k)
      where
        past : (rows : List (List ℕ)) (k : ℕ) → length rows ≤ k → row_at rows k ≡ []
        past [] k h = refl
        past (row ∷ rows) zero h = absurd (omega (arith, h))
        past (row ∷ rows) (suc k) h = past rows k (omega (arith, h))

    pub dying_begins : (excused : List Bool) (uses : List ℕ) (work : Worklist) (n : ℕ) → excused ≡ replicate n false → n ≡ length keeps → CountsItems (kept_by keeps) (first_uses p) uses → IsStarted uses work → IsDying excused uses work
    dying_begins excused uses work n e l c s = record {
      counted = record {
        places = places_len;
        marks = s.len;
        within = λ k x h. let w = rows_within k x h in omega (arith, w, uses_len);
        enough = λ x. let z = counts x in omega (arith, z);
      };
      len = uses_len;
      is_sound = sound;
      unused = λ x h z. s.has x (omega (arith, h, uses_len)) z;
      gone = λ x h. let u = s.only x h in unused_goes excused uses x sound (let a = u.0 in omega (arith, a, uses_len)) u.1;
      closed = λ x h. inl (s.waits x h);
    }
      where
        uses_len : length uses ≡ items p
        uses_len = c.len ∙ first_len

        places_len : length excused ≡ length keeps
        places_len = let a = ap length e in let b = length-replicate n false in omega (arith, a, b, l)

        counts : (x : ℕ) → get_or uses x 0 ≡ get_or (first_uses p) x 0 + keeping excused keeps x
        counts x = c.counts x ∙ ap (λ k. get_or (first_uses p) x 0 + k) (sym (ap (λ bs. keeping bs keeps x) e ∙ keeping_all keeps n x l))

        sound : IsSound excused uses
        sound = record { places_len = places_len; counts = counts; by_dead = λ k q m t. absurd (none_marked n k (subst (λ bs. IsMarked bs k) e m)) }

    -- one gone item is dealt with
    pub dying_goes_on : (excused more : List Bool) (uses new : List ℕ) (t u v w : Worklist) (x : ℕ) → IsDying excused uses t → Takes t u x → u.marked ≡ t.marked → ExcusesAll keeps (IsExcusedBy p x) excused more uses new u v → Adds v w (row_at held.inner x) → IsDying more new w
    dying_goes_on excused more uses new t u v w x s k e a b = record {
      counted = record {
        places = a.counted.places;
        marks = b.len ∙ a.counted.marks;
        within = a.counted.within;
        enough = a.counted.enough;
      };
      len = a.len ∙ s.len;
      is_sound = sound;
      unused = λ y h z. ⊎_elim
          (λ z. b.keeps y (a.adds.keeps y (back y (s.unused y h z))))
          (λ c. b.keeps y (a.adds.has y c))
          (a.all y z);
      gone = λ y h. ⊎_elim
          (λ h. ⊎_elim (λ h. s.gone y (there y h)) (λ c. let z = a.spent y c in unused_goes more new y sound (let l = z.1 in let n = a.len in let m = s.len in omega (arith, l, n, m)) z.0) (a.adds.only y h))
          (λ c. inside y (tables.inner.only x y c) (s.gone x k.has))
          (b.only y h);
      closed = λ y h. ⊎_elim
          (λ h. ⊎_elim
          (λ h. ⊎_elim
          (λ c. ⊎_elim (λ c. inl (b.waits y (a.adds.waits y c))) (λ q. inr (subst (IsSettled more w) (sym q) now)) (k.rest y c))
          (λ c. inr (record { marked = λ j m. (a.marked j).1 (inl (c.marked j m)); inside = λ i m. b.keeps i (a.adds.keeps i (back i (c.inside i m))) }))
          (s.closed y (there y h)))
          (λ c. inl (b.waits y c))
          (a.adds.fresh y h))
          (λ c. inl c)
          (b.fresh y h);
    }
      where
        back : (y : ℕ) → HasNode t y → HasNode u y
        back y h = subst (λ (m : Vec Bool Global). IsMarked m.items y) (sym e) h

        there : (y : ℕ) → HasNode u y → HasNode t y
        there y h = subst (λ (m : Vec Bool Global). IsMarked m.items y) e h

        excuse : (j : ℕ) (q : ValueUse) → slice_get places j ≡ Some q → IsExcusedBy p x j → IsExcusedPlace p q
        excuse j q n r = excused_by p ok q x (place_is p j q n) (subst (λ z. Excuses p z x) (same_Some r.0 q (sym r.1 ∙ n)) r.2) (s.gone x k.has)

        sound : IsSound more new
        sound = record {
          places_len = a.counted.places;
          counts = λ y. let m = a.counts y in let c = s.is_sound.counts y in omega (arith, m, c);
          by_dead = λ j q m n. ⊎_elim (λ o. s.is_sound.by_dead j q o n) (λ c. excuse j q n c) ((a.marked j).0 m);
        }

        now : IsSettled more w x
        now = record { marked = λ j c. (a.marked j).1 (inr c); inside = λ i c. b.has i c }

        inside : (y : ℕ) → around_operation p y ≡ Some x → IsGone p x → IsGone p y
        inside y q (inl (d, r, z)) = inl (d, in_more p d y x q r, z)
        inside y q (inr (d, r, z)) = absurd (let c = around_there p y x q in let l = around_number p ok y (slice_get_within p.operations y c.0 c.1) x q in omega (arith, l, r))

    module _ (excused : List Bool) (uses : List ℕ) (work : Worklist) (s : IsDying excused uses work) (done : IsDone work) where
      settled : (x : ℕ) → HasNode work x → IsSettled excused work x
      settled x h = ⊎_elim (λ c. absurd (done.done x c)) (λ c. c) (s.closed x h)

      inside_goes : (a x : ℕ) → IsInOperation p a x → HasNode work a → HasNode work x
      inside_goes a x itself h = h
      inside_goes a x (further _ j c e q r) h = (settled j (inside_goes a j r h)).inside x (tables.inner.has j x (ap around_of e ∙ q))

      mutual
        -- a dead item has no uses
        dead_unused : (x : NumberedItem) → IsDeadItem p x → get_or uses (number p x) 0 ≡ 0
        dead_unused x (dies _ m n f) =
            let h = may_item p x m in
            let z = may_unused p x m in
            let c = s.is_sound.counts (number p x) in
            let k = none_keeping excused keeps (number p x) s.is_sound.places_len (λ k c. let r = row_of k (number p x) c in let q = place_is p k r.0 r.1 in ⊎_elim
            (λ (i, e, u). let o = same_operand r.0 i e in
            excused_marked i r.0.operand k (f i r.0.operand u (keeps_counts p ok x i r.0.operand h (known p ok r.0 q) (subst (λ (z : ValueUse). PlaceKeeps p z.user z.operand.definer (number p x)) o r.2))) (r.1 ∙ ap Some o))
            (λ (e, a, u). let o = same_kept r.0 e a in
            absurd (n (r.0.operand.definer, u, keeps_makes p ok x r.0.operand.definer h (known p ok r.0 q) (subst (λ (z : ValueUse). PlaceKeeps p z.user z.operand.definer (number p x)) o r.2))))
            q) in
            omega (arith, z, c, k)

        -- a place that is excused by the dead is marked
        excused_marked : (i : ℕ) (o : Operand) (k : ℕ) → IsExcusedOperand p i o → slice_get places k ≡ Some (operand_place i o) → IsMarked excused k
        excused_marked i o k (by_operation _ _ a r d) t =
            let g = s.unused a (item_within p (Whole a) (dead_item p (Whole a) d)) (dead_unused (Whole a) d) in
            (settled i (inside_goes a i r g)).marked k (operand_place i o, t, inl refl)
        excused_marked i o k (by_argument _ _ v e d) t =
            let g = s.unused (slot p v) (item_within p (Slot v) (dead_item p (Slot v) d)) (dead_unused (Slot v) d) in
            (settled (slot p v) g).marked k (operand_place i o, t, inr (ap (slot_of p) e))

      pub dying_ends : (x : NumberedItem) → IsItem p x → (get_or uses (number p x) 0 ≡ 0) ↔ IsDeadItem p x
      dying_ends x h = (unused_dies excused uses x s.is_sound h, dead_unused x)

-- marks of zeros
mark_zero : (xs : List ℕ) (a : ℕ) → slice_get (map (λ n. nat_eq n 0) xs) a ≡ Some true ↔ (a < length xs) × (get_or xs a 0 ≡ 0)
mark_zero [] a = ((λ e. absurd (none-some true e)), (λ (h, z). absurd (omega (arith, h))))
mark_zero (x ∷ xs) zero = ((λ e. (omega arith, same_numbers x 0 (same_Some (nat_eq x 0) true e))), (λ (h, z). ap Some (eq-eqb x 0 z)))
mark_zero (x ∷ xs) (suc a) = ((λ e. let r = (mark_zero xs a).0 e in (let h = r.0 in omega (arith, h), r.1)), (λ (h, z). (mark_zero xs a).1 (omega (arith, h), z)))

module _ (p : DeadProblem) (n : ℕ) (uses : List ℕ) (dead : DeadItems) (e : n ≡ length p.operations) (l : length uses ≡ items p) (f : (x : NumberedItem) → IsItem p x → (get_or uses (number p x) 0 ≡ 0) ↔ IsDeadItem p x) (m : AreMarked n uses dead) where
  operations_taken : length (take n uses) ≡ n
  operations_taken = let t = length-take n uses in grind (arith, t)

  operations_len : length dead.operations.items ≡ length p.operations
  operations_len = let a = ap length m.operations_are in let b = length-map (take n uses) (λ k. nat_eq k 0) in let c = operations_taken in omega (arith, a, b, c, e)

  arguments_len : length dead.arguments.items ≡ length p.arguments.items
  arguments_len = let a = ap length m.arguments_are in let b = length-map (drop n uses) (λ k. nat_eq k 0) in let c = length-drop n uses in omega (arith, a, b, c, e, l)

  operation_marked : (a : ℕ) → slice_get dead.operations.items a ≡ Some true ↔ IsDeadItem p (Whole a)
  operation_marked a = (
    (λ h. let r = (mark_zero (take n uses) a).0 (sym (ap (λ xs. slice_get xs a) m.operations_are) ∙ h) in
        let k : a < n = (let t = operations_taken in let z = r.0 in omega (arith, t, z)) in
        (f (Whole a) (omega (arith, k, e))).0 (sym (get_or-take n uses a 0 k) ∙ r.1)),
    (λ d. let i = dead_item p (Whole a) d in
        let k : a < n = omega (arith, i, e) in
        ap (λ xs. slice_get xs a) m.operations_are ∙ (mark_zero (take n uses) a).1 ((let t = operations_taken in omega (arith, t, k)), get_or-take n uses a 0 k ∙ (f (Whole a) i).1 d)),
  )

  argument_marked : (v : ℕ) → slice_get dead.arguments.items v ≡ Some true ↔ IsDeadItem p (Slot v)
  argument_marked v = (
    (λ h. let r = (mark_zero (drop n uses) v).0 (sym (ap (λ xs. slice_get xs v) m.arguments_are) ∙ h) in
        let k : v < length p.arguments.items = (let t = length-drop n uses in let z = r.0 in omega (arith, t, z, e, l)) in
        (f (Slot v) k).0 (ap (λ j. get_or uses (j + v) 0) (sym e) ∙ sym (get_or-drop n uses v 0) ∙ r.1)),
    (λ d. let i = dead_item p (Slot v) d in
        ap (λ xs. slice_get xs v) m.arguments_are ∙ (mark_zero (drop n uses) v).1 ((let t = length-drop n uses in omega (arith, t, i, e, l)), get_or-drop n uses v 0 ∙ ap (λ j. get_or uses (j + v) 0) e ∙ (f (Slot v) i).1 d)),
  )

  pub are_dead : AreDead p dead
  are_dead = record { operations_len = operations_len; arguments_len = arguments_len; operations = operation_marked; arguments = argument_marked }
