-- What goes, as sets, by the marks of numbers.
use Rattle.std.proofs.Common.{◌≡◌, inl, inr, ⊎_elim, ℕ, ◌<◌, Bool, true, false, List, Some, None, length, slice_get, refl, sym, ap, subst, ◌∙◌, arith}
use Rattle.std.specs.Prelude.{◌↔◌}
use Rattle.std.proofs.lemmas.Option.{same_Some, slice_get_cases}
use Rattle.ir_program.specs.Program.{Program, value_in}
use Rattle.ir_program.specs.declared.handles.DefiningEntity.{DefiningEntity}
use Rattle.ir_program.specs.declared.handles.DefiningEntity.TheVariants.{Op as ByOp, Block as ByBlock}
use Rattle.ir_program.specs.declared.handles.Ptr.{Ptr}
use Rattle.ir_program.specs.declared.handles.Operation.{Operation}
use Rattle.ir_program.specs.declared.handles.BasicBlock.{BasicBlock}
use Rattle.ir_program.specs.declared.handles.Value.{Value}
use Rattle.ir_trees.specs.Searched.{AreDistinct}
use Rattle.ir_trees.specs.Renames.{names_of}
use Rattle.ir_trees.specs.Trees.{Label}
use Rattle.ir_trees.specs.Stands.{by_handle, in_program, ProgramTree}
use Rattle.opt_trees.specs.Dialect.{Dialect}
use Rattle.opt_trees.specs.Occurrences.{Has}
use Rattle.opt_trees.specs.Dce.{TreeSurroundings, Gone, Item, Whole, Slot, May, IsDead, dies, IsLost, IsGoneExactly}
use Rattle.opt_rows.specs.declared.dead_problem.Argument.{Argument}
use Rattle.opt_rows.specs.declared.dead_problem.Operand.{Operand}
use Rattle.opt_rows.specs.DeadCandidates.{Candidate}
use Rattle.opt_rows.specs.declared.dead_problem.DeadProblem.{DeadProblem}
use Rattle.opt_rows.specs.declared.dead_problem.DeadItems.{DeadItems}
use Rattle.opt_rows.specs.Dead.{NumberedItem as Number, Whole as WholeAt, Slot as SlotAt, ItemMayGo as MayAt, IsDeadItem as IsDeadAt, dies as dies_at}
use Rattle.opt_inside.specs.Numbered.{Numbers}
use Rattle.opt_dce.specs.liveness.Plans.{SaysPins}
use Rattle.opt_dce.specs.liveness.Problems.{Forwards}
use Rattle.opt_dce.specs.liveness.Taken.{HasMarkAt, ArePaired, OperandGoes, ArgumentGoes}
use Rattle.opt_dce.proofs.LivenessLemmas.Ground.{Ground, Occurs, none_or, has_value_in, arguments_here, operands_here}
use Rattle.opt_dce.proofs.LivenessLemmas.Within.{row_of, value_row_of, number_of}
use Rattle.opt_dce.proofs.LivenessLemmas.Made.{SameItem, occurrence_of}
use Rattle.opt_dce.proofs.LivenessLemmas.Mays.{forwards_to, forwards_from, forwards_one}
use Rattle.opt_dce.proofs.LivenessLemmas.Dying.{tree_dead, number_dead}
use Rattle.opt_dce.proofs.LivenessLemmas.Decide.{Told, truth, truth_yes, truth_of, told_marked, look, same_handle, same_value}

-- the marks are those of the dead
pub record Solved (problem : DeadProblem) (items : DeadItems) : Type 0 where
  pub operations : (a : ℕ) → (slice_get items.operations.items a ≡ Some true) ↔ IsDeadAt problem (WholeAt a)
  pub arguments : (x : ℕ) → (slice_get items.arguments.items x ≡ Some true) ↔ IsDeadAt problem (SlotAt x)

-- of distinct keys, whether the one at the key's number is marked
told_at : {X : Type 0} → ((x y : X) → Told (x ≡ y)) → (keys : List X) → AreDistinct keys → (marks : List Bool) (x : X) → Told ((k : ℕ) × (slice_get keys k ≡ Some x) × HasMarkAt marks k)
told_at same keys once marks x = ⊎_elim
    (λ l. ⊎_elim
    (λ m. inl (l.0, l.1, m))
    (λ n. inr (λ w. n (subst (HasMarkAt marks) (once w.0 l.0 x w.1 l.1) w.2)))
    (told_marked marks l.0))
    (λ n. inr (λ w. n (w.0, w.1)))
    (look same keys x)

told_goes : (row : Candidate) (arguments : List Bool) (i : ℕ) → Told (OperandGoes row.operands arguments i)
told_goes row arguments i = ⊎_elim
    (λ e. inr (λ w. cc (e, w.2)))
    (λ o. ⊎_elim
    (λ e. inr (λ w. let q : o.0 ≡ w.0 = same_Some o.0 w.0 (sym o.1 ∙ w.2) in cc (ap (λ (z : Operand). z.argument) q, e, w.3)))
    (λ x. ⊎_elim
    (λ m. inl (o.0, x.0, o.1, x.1, m))
    (λ n. inr (λ w.
    let q : o.0 ≡ w.0 = same_Some o.0 w.0 (sym o.1 ∙ w.2) in
    let r : w.1 ≡ x.0 = same_Some w.1 x.0 (sym w.3 ∙ (ap (λ (z : Operand). z.argument) (sym q) ∙ x.1)) in
    n (subst (HasMarkAt arguments) r w.4)))
    (told_marked arguments x.0))
    (none_or o.0.argument))
    (none_or (slice_get row.operands i))

beyond : {X : Type 0} (xs : List X) (i m : ℕ) → i < m → length xs ≡ m → slice_get xs i ≡ None → ⊥
beyond xs i m lt len e = ⊎_elim (λ w. absurd (cc (e, w.2))) (λ w. let past = w.0 in absurd (omega arith)) (slice_get_cases xs i).1

-- an operand of the operation goes
abbrev pub Loses : Numbers → List Candidate → List Bool → Ptr Operation → ℕ → Type 0
Loses n rows arguments p i = (row : Candidate) × ArePaired n.operations rows p row × OperandGoes row.operands arguments i

told_loses : (n : Numbers) → AreDistinct n.operations → (rows : List Candidate) (arguments : List Bool) (p : Ptr Operation) (i : ℕ) → Told (Loses n rows arguments p i)
told_loses n once rows arguments p i = ⊎_elim
    (λ l. ⊎_elim
    (λ e. inr (λ w. let k : w.1.0 ≡ l.0 = once w.1.0 l.0 p w.1.1 l.1 in cc (ap (slice_get rows) k, e, w.1.2)))
    (λ r. ⊎_elim
    (λ m. inl (r.0, (l.0, l.1, r.1), m))
    (λ n2. inr (λ w.
    let k : w.1.0 ≡ l.0 = once w.1.0 l.0 p w.1.1 l.1 in
    let q : w.0 ≡ r.0 = same_Some w.0 r.0 (sym w.1.2 ∙ (ap (slice_get rows) k ∙ r.1)) in
    n2 (subst (λ (z : Candidate). OperandGoes z.operands arguments i) q w.2)))
    (told_goes r.0 arguments i))
    (none_or (slice_get rows l.0)))
    (λ n2. inr (λ w. n2 (w.1.0, w.1.1)))
    (look same_handle n.operations p)

module _ {O B A : Type 0} {d : Dialect (in_program O B) A} {c : Program O B} {op : Ptr Operation} {n : Numbers} {problem : DeadProblem} (g : Ground d c op n problem) (items : DeadItems) where
  -- an item goes where its number is marked
  abbrev pub Goes : Item by_handle → Type 0
  Goes (Whole p) = (k : ℕ) × (slice_get n.operations k ≡ Some p) × HasMarkAt items.operations.items k
  Goes (Slot v) = ArgumentGoes n items.arguments.items v

  pub told_item : (x : Item by_handle) → Told (Goes x)
  told_item (Whole p) = told_at same_handle n.operations g.numbers.operations_once items.operations.items p
  told_item (Slot v) = told_at same_value n.values g.numbers.values_once items.arguments.items v

  pub told_operand : (p : Ptr Operation) (i : ℕ) → Told (Loses n problem.operations items.arguments.items p i)
  told_operand p i = told_loses n g.numbers.operations_once problem.operations items.arguments.items p i

  abbrev pub gone : Gone by_handle
  gone = record { item = λ x. truth (told_item x); operand = λ p i. truth (told_operand p i) }

  -- what is dead as an argument is one
  pub slot_by : (k : ℕ) (v : Value) → slice_get n.values k ≡ Some v → MayAt problem (SlotAt k) → (b : Ptr BasicBlock) × (v.definer ≡ ByBlock b)
  slot_by k v h m = by v.definer refl
    where
      by : (e : DefiningEntity) → v.definer ≡ e → (b : Ptr BasicBlock) × (v.definer ≡ ByBlock b)
      by (ByBlock b) e = (b, e)
      by (ByOp p) e =
          let r = value_row_of g k v h in
          let row : r.0 ≡ m.0 = same_Some r.0 m.0 (sym r.1 ∙ m.1) in
          let f : r.0.may_go ≡ false = (r.2.result p e).0 in
          let t : r.0.may_go ≡ true = ap (λ (z : Argument). z.may_go) row ∙ m.2 in
          absurd (cc (f, t))

  pub may_at : (x : Number) → IsDeadAt problem x → MayAt problem x
  may_at _ (dies_at x may kept uses) = may

  module _ (solved : Solved problem items) (w : TreeSurroundings by_handle A) (pins : SaysPins c op w) (t : ProgramTree O B) (f : Occurs c op t) where
    -- what may go has a number
    item_of : (y : Item by_handle) → May d t y → (x : Number) × SameItem g t f x y
    item_of (Whole p) m = let k = number_of g m.it.head.name (f.sound m.it m.stands).below in (WholeAt k.0, k.1 ∙ ap Some m.name)
    item_of (Slot v) m =
        let o = f.blocks_sound m.it m.stands in
        let args = subst (λ (z : Label by_handle (in_program O B)). Has v (names_of z.arguments)) o.label m.argument in
        let k = has_value_in o.view.arguments v args in
        let q = (g.numbers.values v).1 (inr (m.it.label.name, o.view, o.below, o.there, args)) in
        (SlotAt q.0, (q.1, (m.it.label.name, g.definer (ByBlock m.it.label.name) k.0 v (ap (λ ts. value_in ts k.0) (arguments_here c m.it.label.name o.view o.there) ∙ k.1))))

    may_of : (y : Item by_handle) → IsDead d w t y → May d t y
    may_of _ (dies y may kept uses) = may

    dead_item : (y : Item by_handle) → Goes y → IsDead d w t y
    dead_item (Whole p) m = tree_dead g t f w pins (WholeAt m.0) ((solved.operations m.0).0 m.2) (Whole p) m.1
    dead_item (Slot v) m = let dead = (solved.arguments m.0).0 m.2 in tree_dead g t f w pins (SlotAt m.0) dead (Slot v) (m.1, slot_by m.0 v m.1 (may_at (SlotAt m.0) dead))

    marked_item : (y : Item by_handle) (x : Number) → SameItem g t f x y → IsDeadAt problem x → Goes y
    marked_item (Whole p) (WholeAt k) s dead = (k, s, (solved.operations k).1 dead)
    marked_item (Slot v) (SlotAt k) s dead = (k, s.0, (solved.arguments k).1 dead)
    marked_item (Whole p) (SlotAt k) s dead = absurd s
    marked_item (Slot v) (WholeAt k) s dead = absurd s

    item_dead : (y : Item by_handle) → IsDead d w t y → Goes y
    item_dead y dead = let x = item_of y (may_of y dead) in marked_item y x.0 x.1 (number_dead g t f w pins y dead x.0 x.1)

    lost_of : (a : Ptr Operation) (i : ℕ) → Loses n problem.operations items.arguments.items a i → IsLost d w t a i
    lost_of a i l =
        let row = g.rows.operations l.1.0 a l.0 l.1.1 l.1.2 in
        let spec = row.operands i l.2.0 l.2.2 in
        let o = occurrence_of g t f l.1.0 a l.1.1 in
        let forwards : Forwards d c n o.0.head.name i l.2.1 = subst (λ z. Forwards d c n z i l.2.1) (sym o.2) (spec.argument l.2.1 l.2.3) in
        let v = forwards_from g t f o.0 o.1 i l.2.1 forwards in
        record { user = o.0; stands = o.1; name = o.2; argument = v.0; forwards = v.3; dead = tree_dead g t f w pins (SlotAt l.2.1) ((solved.arguments l.2.1).0 l.2.4) (Slot v.0) (v.1, v.2) }

    of_lost : (a : Ptr Operation) (i : ℕ) → IsLost d w t a i → Loses n problem.operations items.arguments.items a i
    of_lost a i l =
        let q = forwards_to g t f l.user l.stands i l.argument l.forwards in
        let k = number_of g l.user.head.name (f.sound l.user l.stands).below in
        let r = row_of g k.0 l.user.head.name k.1 in
        let within : i < length q.3.view.operands = g.lawful.forwards_within q.3.view.payload (length q.3.view.operands) q.3.edge q.3.place i q.3.gives in
        let count : length r.0.operands ≡ length q.3.view.operands = r.2.count ∙ ap length (operands_here c l.user.head.name q.3.view q.3.there) in
        let dead = (solved.arguments q.0).1 (number_dead g t f w pins (Slot l.argument) l.dead (SlotAt q.0) (q.1, q.2)) in
        ⊎_elim
        (λ e. absurd (beyond r.0.operands i (length q.3.view.operands) within count e))
        (λ o. let spec = r.2.operands i o.0 o.1 in
        ⊎_elim
        (λ e. absurd (spec.no_argument e q.0 q.3))
        (λ x. (r.0, (k.0, k.1 ∙ ap Some l.name, r.1), (o.0, q.0, o.1, x.1 ∙ ap Some (forwards_one g t f l.user.head.name i x.0 q.0 (spec.argument x.0 x.1) q.3), dead)))
        (none_or o.0.argument))
        (none_or (slice_get r.0.operands i))

    pub is_gone : IsGoneExactly d w t gone
    is_gone = record {
      dead = λ x e. dead_item x (truth_yes (told_item x) e);
      all = λ x dead. truth_of (told_item x) (item_dead x dead);
      lost = λ a i e. lost_of a i (truth_yes (told_operand a i) e);
      all_lost = λ a i l. truth_of (told_operand a i) (of_lost a i l);
    }
