-- What excuses a use, in the tree and in the flat function.
use Rattle.std.proofs.Common.{◌≡◌, ◌⊎◌, ⊎_elim, inl, inr, ℕ, zero, suc, ◌+◌, ◌-◌, Bool, true, false, List, [], ◌∷◌, length, Option, Some, refl, sym, ap, ◌∙◌, subst, arith}
use Rattle.std.specs.Prelude.{slice_get, if◌then◌else◌, not}
use Rattle.ir_names.specs.declared.interfaces.OpInterface.TheVariants as op
use Rattle.ir_trees.specs.Names.{Names, Contents}
use Rattle.ir_trees.specs.Renames.{names_of}
use Rattle.ir_trees.specs.Trees.{Head, Blocks, Tree}
use Rattle.opt_trees.specs.Dialect.{Dialect}
use Rattle.opt_trees.specs.Dce.{ForwardsTo}
use Rattle.opt_trees.specs.Occurrences.{Has, Occurrence}
use Rattle.opt_trees.proofs.Lists.{some_same, none_some}
use Rattle.kit_behaviour.specs.Facts.{all_forwarded}
use Rattle.kit_behaviour.specs.Machine.{Arith, Calculated, Compared, Edge, Op, Const, Calc, Emit, Call, Branch, Return, Fun, arguments_in}
use Rattle.kit_behaviour.specs.RemovedValues.{may_trap}
use Rattle.kit_behaviour.specs.DeadValues.{forwards_dead, edges_dead, use_dead}
use Rattle.kit_behaviour.specs.Rules.{EdgesOfOpFit}
use Rattle.kit_behaviour.specs.Scopes.{is_in}
use Rattle.kit_ops.specs.declared.kinds.KitOp.{KitOp}
use Rattle.kit_ops.specs.declared.kinds.KitOp.TheVariants as ops
use Rattle.kit_ops.specs.Table.{row_of, has_interface}
use Rattle.kit_views.specs.Reading.{Reading}
use Rattle.kit_views.specs.FlatView.{IsSameness, kind_of, IsOp, names_in}
use Rattle.kit_views.proofs.Lists.{at_has, has_get, in_has, has_in}
use Rattle.kit_views.proofs.Read.{Reads}
use Rattle.kit_views.proofs.Forwarded.{start, start_least, along, forwarded_at, one_edge, from_branch, get_append, get_left, get_right, get_below}
use Rattle.kit_views.proofs.Uses.{and_both, and_left, and_right, true_false, not_true, not_false, edge_fits, has_partner}
use Rattle.kit_views.proofs.Standing.{whole, Given, to_tree, to_flat}

pub arith_effects : (a : Arith) → (row_of (kind_of a)).has_effects ≡ may_trap a
arith_effects (Calculated a) = refl
arith_effects (Compared c) = refl

pub arith_branch : (a : Arith) → has_interface (kind_of a) op.Branch ≡ false
arith_branch (Calculated a) = refl
arith_branch (Compared c) = refl

module _ {V : Type 0} (same : V → V → Bool) (law : IsSameness same) (E : V → Bool) (v : V) where
  forwards_all : (ts gs : List V) → ((p : ℕ) (a : V) → slice_get ts p ≡ Some a → slice_get gs p ≡ Some v → E a ≡ true) → forwards_dead same E v ts gs ≡ true
  forwards_all [] gs h = refl
  forwards_all (t ∷ ts) [] h = refl
  forwards_all (t ∷ ts) (g ∷ gs) h = and_both _ _ (step (same v g) refl) (forwards_all ts gs (λ p. h (suc p)))
    where
      step : (b : Bool) → same v g ≡ b → (if b then E t else true) ≡ true
      step true e = h 0 t refl (ap Some (sym (law.true_same v g e)))
      step false e = refl

  forwards_each : (ts gs : List V) → forwards_dead same E v ts gs ≡ true → (p : ℕ) (a : V) → slice_get ts p ≡ Some a → slice_get gs p ≡ Some v → E a ≡ true
  forwards_each [] gs h p a e i = absurd (none_some a e)
  forwards_each (t ∷ ts) [] h p a e i = absurd (none_some v i)
  forwards_each (t ∷ ts) (g ∷ gs) h zero a e i =
      let q : same v g ≡ true = ap (same v) (some_same g v i) ∙ law.same_true v in
      sym (ap E (some_same t a e)) ∙ (sym (ap (λ b. if b then E t else true) q) ∙ and_left (if same v g then E t else true) (forwards_dead same E v ts gs) h)
  forwards_each (t ∷ ts) (g ∷ gs) h (suc p) a e i = forwards_each ts gs (and_right (if same v g then E t else true) (forwards_dead same E v ts gs) h) p a e i

  edges_all : (F : Option (Fun V)) (es : List (Edge V)) → ((j : ℕ) (e : Edge V) → slice_get es j ≡ Some e → forwards_dead same E v (arguments_in F e.target) e.forwards ≡ true) → edges_dead same F E v es ≡ true
  edges_all F [] h = refl
  edges_all F (e ∷ es) h = and_both _ _ (h 0 e refl) (edges_all F es (λ j. h (suc j)))

  edges_each : (F : Option (Fun V)) (es : List (Edge V)) → edges_dead same F E v es ≡ true → (j : ℕ) (e : Edge V) → slice_get es j ≡ Some e → forwards_dead same E v (arguments_in F e.target) e.forwards ≡ true
  edges_each F [] h j e i = absurd (none_some e i)
  edges_each F (x ∷ es) h zero e i = ap (λ z. forwards_dead same E v (arguments_in F z.target) z.forwards) (sym (some_same x e i)) ∙ and_left (forwards_dead same E v (arguments_in F x.target) x.forwards) (edges_dead same F E v es) h
  edges_each F (x ∷ es) h (suc j) e i = edges_each F es (and_right (forwards_dead same E v (arguments_in F x.target) x.forwards) (edges_dead same F E v es) h) j e i

  -- none of these is v
  none_is : (xs : List V) → ((i : ℕ) → slice_get xs i ≡ Some v → ⊥) → not (is_in same v xs) ≡ true
  none_is xs h = not_true (is_in same v xs) (λ e. let a = at_has xs v (in_has same law v xs e) in h a.place a.is)

  is_none : (xs : List V) → not (is_in same v xs) ≡ true → (i : ℕ) → slice_get xs i ≡ Some v → ⊥
  is_none xs h i e = not_false (is_in same v xs) h (has_in same law v xs (has_get xs i v e))

module _ {N : Names} {S : Contents} {A : Type 0} (d : Dialect S A) (r : Reading S) (law : Reads d r) (h : Head N S) (bs : Tree N S Blocks) (f : Fun N.value) (given : Given r h bs f) (same : N.value → N.value → Bool) (sameness : IsSameness same) (E : N.value → Bool) where
  -- the operation is of the set; it forwards the operand to an argument of the set
  abbrev pub Own : Occurrence N S → Type 0
  Own o = (d.has_effects o.head.content ≡ false) × ((v : N.value) → Has v (names_of o.head.results) → E v ≡ true)

  abbrev pub Passed : Occurrence N S → ℕ → Type 0
  Passed o i = (a : N.value) × ForwardsTo d (whole r h bs f) o i a × (E a ≡ true)

  module _ (o : Occurrence N S) (v : N.value) where
    abbrev Excuses : Type 0
    Excuses = (i : ℕ) → slice_get o.head.operands i ≡ Some v → Own o ⊎ Passed o i

    -- an operation with side effects that is no branch excuses nothing
    no_excuse : (k : KitOp) (xs : List N.value) → r.kind o.head.content ≡ k → (row_of k).has_effects ≡ true → has_interface k op.Branch ≡ false → o.head.operands ≡ xs → Excuses → not (is_in same v xs) ≡ true
    no_excuse k xs e s b q x = none_is same sameness E v xs (λ i j.
        ⊎_elim (λ (y : Own o). true_false (d.has_effects o.head.content) (law.effects o.head.content ∙ ap (λ z. (row_of z).has_effects) e ∙ s) y.0)
        (λ (y : Passed o i). true_false (d.is_branch o.head.content) y.1.branch (law.branches o.head.content ∙ ap (λ z. has_interface z op.Branch) e ∙ b))
        (x i (ap (λ z. slice_get z i) q ∙ j)))

    pub use_ok : (p : Op N.value) → IsOp r (names_in bs) o.head p → Excuses → use_dead same (Some f) E v p ≡ true
    use_ok (Const y n) is x = refl
    use_ok (Calc a wd y b c) is x = by_test (is_in same v (b ∷ c ∷ [])) refl
      where
        by_trap : Own o ⊎ ((i : ℕ) × Passed o i) → (if may_trap a then false else E y) ≡ true
        by_trap z = ⊎_elim
            (λ (own : Own o). let n : may_trap a ≡ false = sym (law.effects o.head.content ∙ ap (λ z. (row_of z).has_effects) is.0.kind ∙ arith_effects a) ∙ own.0 in
            ap (λ z. if z then false else E y) n ∙ own.1 y (subst (Has y) (sym is.0.results) (inl refl)))
            (λ (q : (i : ℕ) × Passed o i). absurd (true_false (d.is_branch o.head.content) q.1.1.branch (law.branches o.head.content ∙ ap (λ z. has_interface z op.Branch) is.0.kind ∙ arith_branch a))) z

        by_test : (z : Bool) → is_in same v (b ∷ c ∷ []) ≡ z → (if z then (if may_trap a then false else E y) else true) ≡ true
        by_test true e =
            let i = at_has (b ∷ c ∷ []) v (in_has same sameness v (b ∷ c ∷ []) e) in
            by_trap (⊎_elim (λ u. inl u) (λ u. inr (i.place, u)) (x i.place (ap (λ z. slice_get z i.place) is.0.operands ∙ i.is)))
        by_test false e = refl
    use_ok (Emit y) is x = no_excuse ops.Emit (y ∷ []) is.kind refl refl is.operands x
    use_ok (Call rs c ys) is x = no_excuse ops.Call ys is.0.kind refl refl is.0.operands x
    use_ok (Branch s xs e es) is x =
        let w = from_branch d r law (names_in bs) o.head s xs e es is in
        and_both _ _
        (none_is same sameness E v xs (λ i j. ⊎_elim
        (λ (own : Own o). true_false (d.has_effects o.head.content) w.effects own.0)
        (λ (q : Passed o i). let m = to_flat d r h bs f given o xs (e ∷ es) w i q.0 q.1 in
        let l = start_least (e ∷ es) (length xs) m.edge in
        let b = get_below xs i v j in
        absurd (omega (arith, m.index, l, b)))
        (x i (ap (λ z. slice_get z i) w.operands ∙ get_left xs (all_forwarded (e ∷ es)) i v j))))
        (edges_all same sameness E v (Some f) (e ∷ es) (λ j g at. forwards_all same sameness E v (arguments_in (Some f) g.target) g.forwards (λ p a ta ga.
        let l = start_least (e ∷ es) (length xs) j in
        let i : ℕ = start (e ∷ es) (length xs) j + p in
        let k : ℕ = i - length xs in
        let there = get_right xs (all_forwarded (e ∷ es)) i k v (omega (arith, l)) (forwarded_at (e ∷ es) (length xs) j p k g v at ga (omega (arith, l))) in
        ⊎_elim
        (λ (own : Own o). absurd (true_false (d.has_effects o.head.content) w.effects own.0))
        (λ (q : Passed o i). let m = to_flat d r h bs f given o xs (e ∷ es) w i q.0 q.1 in
        let u = one_edge (e ∷ es) (length xs) j p m.edge m.place g m.e at m.at (get_below g.forwards p v ga) m.below m.index in
        let ge : g ≡ m.e = some_same g m.e (sym at ∙ (ap (slice_get (e ∷ es)) u.0 ∙ m.at)) in
        let same_a : a ≡ q.0 = some_same a q.0 (sym ta ∙ ((λ z. slice_get (arguments_in (Some f) (ge z).target) (u.1 z)) ∙ m.takes)) in
        ap E same_a ∙ q.2)
        (x i (ap (λ z. slice_get z i) w.operands ∙ there)))))
    use_ok (Return xs) is x = no_excuse ops.Return xs is.kind refl refl is.operands x

    -- the operation has a result of the set
    abbrev pub OwnIs : Type 0
    OwnIs = (d.has_effects o.head.content ≡ false) × ((u : N.value) × Has u (names_of o.head.results) × (E u ≡ true))

    pub use_back : (p : Op N.value) → IsOp r (names_in bs) o.head p → EdgesOfOpFit (Some f) p → use_dead same (Some f) E v p ≡ true → (i : ℕ) → slice_get o.head.operands i ≡ Some v → OwnIs ⊎ Passed o i
    use_back (Const y n) is fits u i e = absurd (none_some v (ap (λ z. slice_get z i) (sym is.0.operands) ∙ e))
    use_back (Calc a wd y b c) is fits u i e =
        let m : is_in same v (b ∷ c ∷ []) ≡ true = has_in same sameness v (b ∷ c ∷ []) (has_get (b ∷ c ∷ []) i v (ap (λ z. slice_get z i) (sym is.0.operands) ∙ e)) in
        by_trap (may_trap a) refl (sym (ap (λ z. if z then (if may_trap a then false else E y) else true) m) ∙ u)
      where
        by_trap : (z : Bool) → may_trap a ≡ z → (if z then false else E y) ≡ true → OwnIs ⊎ Passed o i
        by_trap true q k = absurd (cc k)
        by_trap false q k = inl (law.effects o.head.content ∙ ap (λ z. (row_of z).has_effects) is.0.kind ∙ arith_effects a ∙ q, (y, subst (Has y) (sym is.0.results) (inl refl), k))
    use_back (Emit y) is fits u i e = absurd (is_none same sameness E v (y ∷ []) u i (ap (λ z. slice_get z i) (sym is.operands) ∙ e))
    use_back (Call rs c ys) is fits u i e = absurd (is_none same sameness E v ys u i (ap (λ z. slice_get z i) (sym is.0.operands) ∙ e))
    use_back (Branch s xs x es) is fits u i e =
        let w = from_branch d r law (names_in bs) o.head s xs x es is in
        ⊎_elim
        (λ j. absurd (is_none same sameness E v xs (and_left (not (is_in same v xs)) (edges_dead same (Some f) E v (x ∷ es)) u) i j))
        (λ b.
        let m = along (x ∷ es) (length xs) b.k i v b.is b.index in
        let k = edge_fits (Some f) (x ∷ es) fits m.edge m.e m.at in
        let a = has_partner (arguments_in (Some f) m.e.target) m.e.forwards k.count m.place v m.is in
        let dead = forwards_each same sameness E v (arguments_in (Some f) m.e.target) m.e.forwards (edges_each same sameness E v (Some f) (x ∷ es) (and_right (not (is_in same v xs)) (edges_dead same (Some f) E v (x ∷ es)) u) m.edge m.e m.at) m.place a.0 a.1 m.is in
        inr (a.0, to_tree d r h bs f given o xs (x ∷ es) w m.edge m.e m.place i v a.0 m.at m.is m.index a.1, dead))
        (get_append xs (all_forwarded (x ∷ es)) i v (ap (λ z. slice_get z i) (sym w.operands) ∙ e))
    use_back (Return xs) is fits u i e = absurd (is_none same sameness E v xs u i (ap (λ z. slice_get z i) (sym is.operands) ∙ e))
