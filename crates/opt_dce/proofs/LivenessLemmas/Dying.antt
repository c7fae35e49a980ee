-- What is dead by numbers is dead in a tree, and the other way round.
use Rattle.std.proofs.Common.{◌≡◌, inl, inr, ⊎_elim, ℕ, List, ◌∷◌, Some, slice_get, sym, ap, subst, ◌∙◌}
use Rattle.std.specs.Prelude.{Contains}
use Rattle.std.proofs.lemmas.Option.{same_Some, slice_get-get_or, get_or_from_slice_get, slice_get_within}
use Rattle.ir_program.specs.Program.{Program}
use Rattle.ir_program.specs.Rows.{operands_at}
use Rattle.ir_program.specs.declared.handles.Ptr.{Ptr}
use Rattle.ir_program.specs.declared.handles.Operation.{Operation}
use Rattle.ir_program.specs.declared.handles.Value.{Value}
use Rattle.ir_trees.specs.Trees.{Head}
use Rattle.ir_trees.specs.Stands.{by_handle, in_program, ProgramTree}
use Rattle.opt_trees.specs.Dialect.{Dialect}
use Rattle.opt_trees.specs.Occurrences.{Has, occurrences_of}
use Rattle.opt_trees.specs.Dce.{TreeSurroundings, Item, Whole, Slot, IsDead, dies, IsExcused, by_operation, by_argument}
use Rattle.opt_rows.specs.declared.dead_problem.Operand.{Operand}
use Rattle.opt_rows.specs.DeadCandidates.{Candidate}
use Rattle.opt_rows.specs.declared.dead_problem.DeadProblem.{DeadProblem}
use Rattle.opt_rows.specs.Dead.{NumberedItem as Number, Whole as WholeAt, Slot as SlotAt, IsInOperation, itself as alone, further, IsDeadItem as IsDeadAt, dies as dies_at, IsExcusedOperand as IsExcusedAt, by_operation as by_operation_at, by_argument as by_argument_at}
use Rattle.opt_inside.specs.Numbered.{Numbers}
use Rattle.opt_inside.specs.Occurring.{Found}
use Rattle.opt_dce.specs.liveness.Plans.{SaysPins}
use Rattle.opt_dce.specs.liveness.Problems.{IsDefiner}
use Rattle.opt_dce.proofs.LivenessLemmas.Ground.{Ground, Occurs, at_index, none_or, operands_here}
use Rattle.opt_dce.proofs.LivenessLemmas.Within.{into, row_of, op_of, number_of, its_block}
use Rattle.opt_dce.proofs.LivenessLemmas.Made.{SameItem, occurrence_of, around_to, around_from, use_to, use_from}
use Rattle.opt_dce.proofs.LivenessLemmas.Mays.{may_to, may_from, kept_to, kept_from, forwards_to, forwards_from, forwards_one}

pub contains_at : {X : Type 0} (xs : List X) (k : ℕ) (x : X) → slice_get xs k ≡ Some x → Contains xs x
contains_at xs k x h = (k, slice_get_within xs k x h, get_or_from_slice_get xs k x x h)

pub at_contains : {X : Type 0} (xs : List X) (x : X) → Contains xs x → (k : ℕ) × (slice_get xs k ≡ Some x)
at_contains xs x h = (h.0, slice_get-get_or xs h.0 x h.1 ∙ ap Some h.2)

module _ {O B A : Type 0} {d : Dialect (in_program O B) A} {c : Program O B} {op : Ptr Operation} {n : Numbers} {problem : DeadProblem} (g : Ground d c op n problem) where
  -- what an operation with a number is in has a number
  pub start_of : (a j : ℕ) → IsInOperation problem a j → (q : Ptr Operation) → slice_get n.operations j ≡ Some q → (p : Ptr Operation) × (slice_get n.operations a ≡ Some p)
  start_of a _ alone q h = (q, h)
  start_of a _ (further i j row there e w) q h =
      let r = row_of g i q h in
      let b = its_block g i q h in
      let same : r.0 ≡ row = same_Some r.0 row (sym r.1 ∙ there) in
      let f = (r.2.around b.0 b.1).found j (ap (λ (z : Candidate). z.around) same ∙ e) in
      start_of a j w f.0 f.2

  module _ (t : ProgramTree O B) (f : Occurs c op t) where
    operand_at : (o : Found O B) → Has o (occurrences_of t) → (i : ℕ) (v : Value) → slice_get o.head.operands i ≡ Some v → slice_get (operands_at c o.head.name) i ≡ Some v
    operand_at o has i v h = let s = f.sound o has in ap (λ l. slice_get l i) (operands_here c o.head.name s.view s.there) ∙ (ap (λ (z : Head by_handle (in_program O B)). slice_get z.operands i) (sym s.head) ∙ h)

    at_operand : (o : Found O B) → Has o (occurrences_of t) → (i : ℕ) (v : Value) → slice_get (operands_at c o.head.name) i ≡ Some v → slice_get o.head.operands i ≡ Some v
    at_operand o has i v h = let s = f.sound o has in ap (λ (z : Head by_handle (in_program O B)). slice_get z.operands i) s.head ∙ (ap (λ l. slice_get l i) (sym (operands_here c o.head.name s.view s.there)) ∙ h)

    around_in : (a j : ℕ) (p : Ptr Operation) → slice_get n.operations a ≡ Some p → (o : Found O B) → Has o (occurrences_of t) → slice_get n.operations j ≡ Some o.head.name → IsInOperation problem a j → Has p (o.head.name ∷ o.site.spot.around)
    around_in a j p h o has k w = ⊎_elim
        (λ e. inl (same_Some p o.head.name (sym h ∙ (ap (slice_get n.operations) (sym e) ∙ k))))
        (λ m. inr (around_from g t f a j p h o has k (record { candidate = m.1; there = m.2; parent = m.0; around = m.3; inside = m.4 })))
        (into problem a j w)

    in_around : (j : ℕ) (p : Ptr Operation) (o : Found O B) → Has o (occurrences_of t) → slice_get n.operations j ≡ Some o.head.name → Has p (o.head.name ∷ o.site.spot.around) → (a : ℕ) × (slice_get n.operations a ≡ Some p) × IsInOperation problem a j
    in_around j p o has k h = ⊎_elim
        (λ e. (j, k ∙ ap Some (sym e), alone))
        (λ r. let m = number_of g p (((f.sound o has).spot.around p).0 r).0 in
        let w = around_to g t f m.0 j p m.1 o has k r in
        (m.0, m.1, further j w.parent w.candidate w.there w.around w.inside))
        h

    module _ (w : TreeSurroundings by_handle A) (pins : SaysPins c op w) where
      mutual
        pub tree_dead : (x : Number) → IsDeadAt problem x → (y : Item by_handle) → SameItem g t f x y → IsDead d w t y
        tree_dead _ (dies_at x may kept uses) y s = dies y (may_from g t f x y s may) (λ k. kept (kept_to g t f w pins x y s k)) (λ v o i is u.
            let j = number_of g o.head.name (f.sound o u.stands).below in
            let r = row_of g j.0 o.head.name j.1 in
            let here = operand_at o u.stands i v u.operand in
            let p = at_index (operands_at c o.head.name) r.0.operands i v here r.2.count in
            let spec = r.2.operands i p.0 p.1 in
            let same : spec.value ≡ v = same_Some spec.value v (sym spec.there ∙ here) in
            tree_excused j.0 p.0 (uses j.0 p.0 (record { candidate = r.0; there = r.1; operand = contains_at r.0.operands i p.0 p.1 })
            (use_to g t f j.0 o u.stands j.1 x y s v p.0.definer (subst (λ z. IsDefiner n z p.0.definer) same spec.definer) is)) o u.stands j.1 i r.0 r.1 p.1)

        tree_excused : (j : ℕ) (x : Operand) → IsExcusedAt problem j x → (o : Found O B) → Has o (occurrences_of t) → slice_get n.operations j ≡ Some o.head.name → (i : ℕ) (row : Candidate) → slice_get problem.operations j ≡ Some row → slice_get row.operands i ≡ Some x → IsExcused d w t o i
        tree_excused _ _ (by_operation_at j x a inside dead) o has k i row rt xt =
            let p = start_of a j inside o.head.name k in
            by_operation o i p.0 (around_in a j p.0 p.1 o has k inside) (tree_dead (WholeAt a) dead (Whole p.0) p.1)
        tree_excused _ _ (by_argument_at j x q e dead) o has k i row rt xt =
            let spec = (g.rows.operations j o.head.name row k rt).operands i x xt in
            let z = forwards_from g t f o has i q (spec.argument q e) in
            by_argument o i z.0 z.3 (tree_dead (SlotAt q) dead (Slot z.0) (z.1, z.2))

      mutual
        pub number_dead : (y : Item by_handle) → IsDead d w t y → (x : Number) → SameItem g t f x y → IsDeadAt problem x
        number_dead _ (dies y may kept uses) x s = dies_at x (may_to g t f x y s may) (λ k. kept (kept_from g t f w pins x y s k)) (λ j z has counts.
            let p = op_of g j has.candidate has.there in
            let o = occurrence_of g t f j p.0 p.1 in
            let i = at_contains has.candidate.operands z has.operand in
            let spec = p.2.operands i.0 z i.1 in
            let here : slice_get (operands_at c o.0.head.name) i.0 ≡ Some spec.value = ap (λ q. slice_get (operands_at c q) i.0) o.2 ∙ spec.there in
            number_excused o.0 i.0 (uses spec.value o.0 i.0
            (use_from g t f j o.0 o.1 o.3 x y s spec.value z.definer (g.live p.0 i.0 spec.value spec.there) spec.definer counts)
            (record { stands = o.1; operand = at_operand o.0 o.1 i.0 spec.value here })) j z o.1 o.3 has.candidate has.there i.1)

        number_excused : (o : Found O B) (i : ℕ) → IsExcused d w t o i → (j : ℕ) (x : Operand) → Has o (occurrences_of t) → slice_get n.operations j ≡ Some o.head.name → (row : Candidate) → slice_get problem.operations j ≡ Some row → slice_get row.operands i ≡ Some x → IsExcusedAt problem j x
        number_excused _ _ (by_operation o i p h dead) j x has k row rt xt =
            let a = in_around j p o has k h in
            by_operation_at j x a.0 a.2 (number_dead (Whole p) dead (WholeAt a.0) a.1)
        number_excused _ _ (by_argument o i v fw dead) j x has k row rt xt =
            let spec = (g.rows.operations j o.head.name row k rt).operands i x xt in
            let q = forwards_to g t f o has i v fw in
            by_argument_at j x q.0 (⊎_elim
            (λ e. absurd (spec.no_argument e q.0 q.3))
            (λ m. m.1 ∙ ap Some (forwards_one g t f o.head.name i m.0 q.0 (spec.argument m.0 m.1) q.3))
            (none_or x.argument)) (number_dead (Slot v) dead (SlotAt q.0) (q.1, q.2))
