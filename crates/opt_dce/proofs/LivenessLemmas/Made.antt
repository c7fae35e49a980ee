-- Which values an item makes and which uses count, by numbers and in a tree.
use Rattle.std.proofs.Common.{◌≡◌, inl, inr, ⊎_elim, ℕ, Some, slice_get, refl, sym, ap, subst, ◌∙◌}
use Rattle.std.specs.Prelude.{option_map}
use Rattle.std.proofs.lemmas.Option.{same_Some}
use Rattle.ir_program.specs.Program.{Program, TypedValue, IsLiveValue, block_at, value_in, type_at}
use Rattle.ir_program.specs.Definers.{values_at}
use Rattle.ir_program.specs.Lists.{in_block}
use Rattle.ir_program.specs.declared.handles.IRNode.TheVariants.{Operation as OperationNode, BasicBlock as BlockNode}
use Rattle.ir_program.specs.declared.handles.DefiningEntity.{DefiningEntity}
use Rattle.ir_program.specs.declared.handles.DefiningEntity.TheVariants.{Op as ByOp, Block as ByBlock}
use Rattle.ir_program.specs.declared.handles.Ptr.{Ptr}
use Rattle.ir_program.specs.declared.handles.Operation.{Operation}
use Rattle.ir_program.specs.declared.handles.BasicBlock.{BasicBlock}
use Rattle.ir_program.specs.declared.handles.Value.{Value}
use Rattle.ir_trees.specs.Renames.{names_of}
use Rattle.ir_trees.specs.Trees.{Head}
use Rattle.ir_trees.specs.Stands.{by_handle, in_program, ProgramTree}
use Rattle.opt_trees.specs.Dialect.{Dialect}
use Rattle.opt_trees.specs.Occurrences.{Has, occurrences_of, defined_in}
use Rattle.opt_trees.specs.Dce.{Item, Whole, Slot, Touches, IsUseOfItem}
use Rattle.opt_rows.specs.declared.dead_problem.Definer.{Definer}
use Rattle.opt_rows.specs.declared.dead_problem.Definer.TheVariants.{Result, Argument as ByArgument, Outside}
use Rattle.opt_rows.specs.declared.dead_problem.DeadProblem.{DeadProblem}
use Rattle.opt_rows.specs.Dead.{NumberedItem as Number, Whole as WholeAt, Slot as SlotAt, IsInner, IsBelow, ItemMakes, CountsForItem}
use Rattle.opt_inside.specs.Numbered.{Numbers}
use Rattle.opt_inside.specs.Occurring.{Found}
use Rattle.opt_inside.proofs.Around.{inside_both, not_root}
use Rattle.opt_dce.specs.liveness.Problems.{IsDefiner}
use Rattle.opt_dce.proofs.LivenessLemmas.Ground.{Ground, Occurs, has_value_in, value_in_has, results_here, arguments_here}
use Rattle.opt_dialect.proofs.Removing.{the_some}
use Rattle.opt_dce.proofs.LivenessLemmas.Within.{block_around, row_of, below_of, number_of, its_block, below_in_block, below_is, below_inside, argument_is, argument_inside}

module _ {O B A : Type 0} {d : Dialect (in_program O B) A} {c : Program O B} {op : Ptr Operation} {n : Numbers} {problem : DeadProblem} (g : Ground d c op n problem) where
  -- a value stands at its definer
  pub at_definer : (v : Value) → IsLiveValue c v → (e : DefiningEntity) → v.definer ≡ e → (k : ℕ) × (value_in (values_at c e) k ≡ Some v)
  at_definer v live e by =
      let ty = the_some (type_at c v) live in
      let s = g.stands v ty.0 ty.1 in
      subst (λ z. (k : ℕ) × (value_in (values_at c z) k ≡ Some v)) by (s.index, ap (λ o. option_map (λ (t : TypedValue). t.value) o) s.stands)

  pub by_operation_of : (v : Value) (x : Definer) (a : ℕ) (p : Ptr Operation) → IsDefiner n v x → v.definer ≡ ByOp p → slice_get n.operations a ≡ Some p → x ≡ Result a
  by_operation_of v (Result b) a p i e h = let same : i.0 ≡ p = cc (i.1, e) in ap Result (g.numbers.operations_once b a p (i.2 ∙ ap Some same) h)
  by_operation_of v (ByArgument k) a p i e h = absurd (cc (i.1, e))
  by_operation_of v Outside a p i e h = absurd (i.0 p e (a, h))

  pub by_argument_of : (v : Value) (x : Definer) (k : ℕ) (b : Ptr BasicBlock) → IsDefiner n v x → v.definer ≡ ByBlock b → slice_get n.values k ≡ Some v → x ≡ ByArgument k
  by_argument_of v (Result a) k b i e h = absurd (cc (i.1, e))
  by_argument_of v (ByArgument j) k b i e h = ap ByArgument (g.numbers.values_once j k v i.2 h)
  by_argument_of v Outside k b i e h = absurd (i.1 b e (k, h))

  module _ (t : ProgramTree O B) (f : Occurs c op t) where
    result_at : (o : Found O B) → Has o (occurrences_of t) → (v : Value) → Has v (names_of o.head.results) → v.definer ≡ ByOp o.head.name
    result_at o has v h =
        let s = f.sound o has in
        let w = has_value_in s.view.results v (subst (λ (z : Head by_handle (in_program O B)). Has v (names_of z.results)) s.head h) in
        g.definer (ByOp o.head.name) w.0 v (ap (λ ts. value_in ts w.0) (results_here c o.head.name s.view s.there) ∙ w.1)

    at_result : (o : Found O B) → Has o (occurrences_of t) → (v : Value) → IsLiveValue c v → v.definer ≡ ByOp o.head.name → Has v (names_of o.head.results)
    at_result o has v live e =
        let s = f.sound o has in
        let w = at_definer v live (ByOp o.head.name) e in
        subst (λ (z : Head by_handle (in_program O B)). Has v (names_of z.results)) (sym s.head) (value_in_has s.view.results w.0 v (ap (λ ts. value_in ts w.0) (sym (results_here c o.head.name s.view s.there)) ∙ w.1))

    module _ (a : ℕ) (o : Found O B) (has : Has o (occurrences_of t)) (h : slice_get n.operations a ≡ Some o.head.name) (v : Value) (x : Definer) (i : IsDefiner n v x) where
      pub results_to : Has v (names_of o.head.results) → x ≡ Result a
      results_to r = by_operation_of v x a o.head.name i (result_at o has v r) h

      pub results_from : IsLiveValue c v → x ≡ Result a → Has v (names_of o.head.results)
      results_from live e =
          let j : IsDefiner n v (Result a) = subst (IsDefiner n v) e i in
          let same : j.0 ≡ o.head.name = same_Some j.0 o.head.name (sym j.2 ∙ h) in
          at_result o has v live (j.1 ∙ ap ByOp same)

      pub inner_to : Has v (defined_in o.regions) → IsInner problem a x
      inner_to r = ⊎_elim
          (λ w.
          let by : v.definer ≡ ByOp w.0 = (let k = has_value_in w.1.results v w.4 in g.definer (ByOp w.0) k.0 v (ap (λ ts. value_in ts k.0) (results_here c w.0 w.1 w.3) ∙ k.1)) in
          let s = block_around c (OperationNode o.head.name) (OperationNode w.0) w.0 w.2.inside refl (λ e. let q : w.0 ≡ o.head.name = cc in w.2.other q) in
          let m = number_of g w.0 (below_in_block g w.0 s.0 s.1 (inside_both c (OperationNode op) (OperationNode o.head.name) (BlockNode s.0) (below_of g a o.head.name h).inside s.2)) in
          subst (IsInner problem a) (sym (by_operation_of v x m.0 w.0 i by m.1)) (below_is g a m.0 o.head.name w.0 h m.1 s.0 s.1 s.2))
          (λ w.
          let by : v.definer ≡ ByBlock w.0 = (let k = has_value_in w.1.arguments v w.4 in g.definer (ByBlock w.0) k.0 v (ap (λ ts. value_in ts k.0) (arguments_here c w.0 w.1 w.3) ∙ k.1)) in
          let m = (g.numbers.values v).1 (inr (w.0, w.1, inside_both c (OperationNode op) (OperationNode o.head.name) (BlockNode w.0) (below_of g a o.head.name h).inside w.2, w.3, w.4)) in
          subst (IsInner problem a) (sym (by_argument_of v x m.0 w.0 i by m.1)) (argument_is g a m.0 o.head.name v w.0 h m.1 by w.2))
          ((f.inside o has v).0 r)

    module _ (a : ℕ) (o : Found O B) (has : Has o (occurrences_of t)) (h : slice_get n.operations a ≡ Some o.head.name) (v : Value) (live : IsLiveValue c v) where
      pub inner_from : (x : Definer) → IsDefiner n v x → IsInner problem a x → Has v (defined_in o.regions)
      inner_from (Result b) i w =
          let s = its_block g b i.0 i.2 in
          let inner = below_inside g a b o.head.name i.0 h i.2 w s.0 s.1 in
          let r = row_of g b i.0 i.2 in
          let k = at_definer v live (ByOp i.0) i.1 in
          (f.inside o has v).1 (inl (
            i.0,
            r.2.view,
            record { inside = in_block i.0 s.0 s.1 inner; other = not_root c g.lists o.head.name i.0 s.0 s.1 inner },
            r.2.there,
            value_in_has r.2.view.results k.0 v (ap (λ ts. value_in ts k.0) (sym (results_here c i.0 r.2.view r.2.there)) ∙ k.1),
          ))
      inner_from (ByArgument m) i w =
          let inner = argument_inside g a m o.head.name v i.0 h i.2 i.1 w in
          let b = the_some (block_at c i.0) (g.there.blocks i.0 (g.there.definers v i.0 (m, i.2) i.1)) in
          let k = at_definer v live (ByBlock i.0) i.1 in
          (f.inside o has v).1 (inr (i.0, b.0, inner, b.1, value_in_has b.0.arguments k.0 v (ap (λ ts. value_in ts k.0) (sym (arguments_here c i.0 b.0 b.1)) ∙ k.1)))
      inner_from Outside i w = absurd w

    -- what is around an operation, by numbers
    module _ (a j : ℕ) (p : Ptr Operation) (h : slice_get n.operations a ≡ Some p) (u : Found O B) (has : Has u (occurrences_of t)) (k : slice_get n.operations j ≡ Some u.head.name) where
      pub around_to : Has p u.site.spot.around → IsBelow problem a j
      around_to r = let s = f.sound u has in below_is g a j p u.head.name h k u.site.label.name s.in_block ((s.spot.around p).0 r).1

      pub around_from : IsBelow problem a j → Has p u.site.spot.around
      around_from w = let s = f.sound u has in (s.spot.around p).1 (below_of g a p h, below_inside g a j p u.head.name h k w u.site.label.name s.in_block)

    -- the same item, by number and by name
    abbrev pub SameItem : Number → Item by_handle → Type 0
    SameItem (WholeAt a) (Whole p) = slice_get n.operations a ≡ Some p
    SameItem (SlotAt k) (Slot v) = (slice_get n.values k ≡ Some v) × ((b : Ptr BasicBlock) × (v.definer ≡ ByBlock b))
    SameItem (WholeAt a) (Slot v) = ⊥
    SameItem (SlotAt k) (Whole p) = ⊥

    pub occurrence_of : (a : ℕ) (p : Ptr Operation) → slice_get n.operations a ≡ Some p → (o : Found O B) × Has o (occurrences_of t) × (o.head.name ≡ p) × (slice_get n.operations a ≡ Some o.head.name)
    occurrence_of a p h = let o = f.found p (below_of g a p h) in (o.0, o.1, o.2, h ∙ ap Some (sym o.2))

    pub touches_to : (x : Number) (y : Item by_handle) → SameItem x y → (v : Value) (e : Definer) → IsDefiner n v e → Touches t y v → ItemMakes problem x e
    touches_to (WholeAt a) (Whole p) s v e i m =
        let h : slice_get n.operations a ≡ Some m.it.head.name = s ∙ ap Some (sym m.name) in
        ⊎_elim (λ r. inl (results_to a m.it m.stands h v e i r)) (λ r. inr (inner_to a m.it m.stands h v e i r)) m.value
    touches_to (SlotAt k) (Slot z) s v e i m = by_argument_of v e k s.1.0 i (ap (λ (q : Value). q.definer) (sym m) ∙ s.1.1) (s.0 ∙ ap Some m)
    touches_to (WholeAt a) (Slot z) s v e i m = absurd s
    touches_to (SlotAt k) (Whole p) s v e i m = absurd s

    pub touches_from : (x : Number) (y : Item by_handle) → SameItem x y → (v : Value) (e : Definer) → IsLiveValue c v → IsDefiner n v e → ItemMakes problem x e → Touches t y v
    touches_from (WholeAt a) (Whole p) s v e live i m =
        let o = occurrence_of a p s in
        record { it = o.0; stands = o.1; name = o.2; value = ⊎_elim (λ r. inl (results_from a o.0 o.1 o.3 v e i live r)) (λ r. inr (inner_from a o.0 o.1 o.3 v live e i r)) m }
    touches_from (SlotAt k) (Slot z) s v e live i m = let w : IsDefiner n v (ByArgument k) = subst (IsDefiner n v) m i in same_Some z v (sym s.0 ∙ w.2)
    touches_from (WholeAt a) (Slot z) s v e live i m = absurd s
    touches_from (SlotAt k) (Whole p) s v e live i m = absurd s

    module _ (j : ℕ) (u : Found O B) (has : Has u (occurrences_of t)) (k : slice_get n.operations j ≡ Some u.head.name) where
      pub use_to : (x : Number) (y : Item by_handle) → SameItem x y → (v : Value) (e : Definer) → IsDefiner n v e → IsUseOfItem t y v u → CountsForItem problem x e j
      use_to (WholeAt a) (Whole p) s v e i m =
          let h : slice_get n.operations a ≡ Some m.it.head.name = s ∙ ap Some (sym m.name) in
          ⊎_elim (λ r. inl (results_to a m.it m.stands h v e i r)) (λ r. inr (inner_to a m.it m.stands h v e i r.0, λ w. r.1 (around_from a j p s u has k w))) m.value
      use_to (SlotAt q) (Slot z) s v e i m = touches_to (SlotAt q) (Slot z) s v e i m
      use_to (WholeAt a) (Slot z) s v e i m = absurd s
      use_to (SlotAt q) (Whole p) s v e i m = absurd s

      pub use_from : (x : Number) (y : Item by_handle) → SameItem x y → (v : Value) (e : Definer) → IsLiveValue c v → IsDefiner n v e → CountsForItem problem x e j → IsUseOfItem t y v u
      use_from (WholeAt a) (Whole p) s v e live i m =
          let o = occurrence_of a p s in
          record { it = o.0; stands = o.1; name = o.2; value = ⊎_elim (λ r. inl (results_from a o.0 o.1 o.3 v e i live r)) (λ r. inr (inner_from a o.0 o.1 o.3 v live e i r.0, λ w. r.1 (around_to a j p s u has k w))) m }
      use_from (SlotAt q) (Slot z) s v e live i m = touches_from (SlotAt q) (Slot z) s v e live i m
      use_from (WholeAt a) (Slot z) s v e live i m = absurd s
      use_from (SlotAt q) (Whole p) s v e live i m = absurd s
