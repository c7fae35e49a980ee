-- The flat view of what is left of a tree is what is left of its flat view.
use Rattle.std.proofs.Common.{◌≡◌, inl, inr, ℕ, zero, suc, ◌+◌, ◌<◌, Bool, true, false, List, [], ◌∷◌, ◌++◌, map, length, Some, refl, sym, ap, ◌∙◌, subst, arith}
use Rattle.std.specs.Prelude.{slice_get, if◌then◌else◌}
use Rattle.ir_names.specs.declared.interfaces.OpInterface.TheVariants as op
use Rattle.ir_trees.specs.Names.{Names, Contents}
use Rattle.ir_trees.specs.Renames.{names_of}
use Rattle.ir_trees.specs.Searched.{AreDistinct, heads_in}
use Rattle.ir_trees.specs.Trees.{Defined, Head, Sort, Operations, Blocks, Regions, Tree, end, operation, block, region}
use Rattle.opt_trees.specs.Dialect.{Dialect, drop}
use Rattle.opt_trees.specs.Dce.{TreeSurroundings, Item, Whole, Slot, May, ForwardsTo, IsDead, dies, Gone, gone_at, thin_head, thin_label, thin, IsGoneExactly}
use Rattle.opt_trees.specs.Occurrences.{Has, Occurrence, BlockOccurrence, OperationSite, Spot, inner, next_block, occurrences_in, block_occurrences_in, occurrences_of, block_occurrences_of, defined_in}
use Rattle.opt_trees.proofs.Lists.{map-map, map-append, some_same, none_some}
use Rattle.opt_trees.proofs.NoneDead.{has-left, has-right}
use Rattle.kit_behaviour.specs.Facts.{all_forwarded}
use Rattle.kit_behaviour.specs.Machine.{AllEdges, Edge, Plain, Nonzero, Cases, Op, Const, Calc, Emit, Call, Branch, Return, Fun, left_in, arguments_in}
use Rattle.kit_behaviour.specs.RemovedValues as flat
use Rattle.kit_behaviour.specs.RemovedValues.{may_trap, goes, live, thin_edge, thin_op, thin_ops, thin_block}
use Rattle.kit_behaviour.specs.Rules.{EdgeFits, EdgesOfOpFit, AllEdgesFit}
use Rattle.kit_behaviour.specs.Scopes.{SameLength}
use Rattle.kit_behaviour.proofs.DeadCode.RemovalBehaviour.{thin_left}
use Rattle.kit_behaviour.proofs.DeadCode.RemovalScopes.{ops_fit}
use Rattle.kit_ops.specs.declared.kinds.KitOp.{KitOp}
use Rattle.kit_ops.specs.declared.kinds.KitOp.TheVariants as ops
use Rattle.kit.specs.Dropped.{kept}
use Rattle.kit_ops.specs.Table.{has_interface}
use Rattle.kit_views.specs.Reading.{Reading}
use Rattle.kit_views.specs.FlatView.{IsSameness, kind_of, IsOf, IsOp, AreOps, AreFlatBlocks, names_in, FlattensTo}
use Rattle.kit_views.specs.Laws.{NothingPinned}
use Rattle.kit_views.proofs.Lists.{has_get, Sub, sub_all, sub_none, sub_append, sub_map, sub_distinct, to_distinct, from_distinct}
use Rattle.kit_views.proofs.Read.{Reads}
use Rattle.kit_views.proofs.Forwarded.{start, start_least, one_edge, IsForwarding, from_branch, get_below}
use Rattle.kit_views.proofs.Dropped.{drop_none, drop_behind, drop_edges, kept_pick, live_names}
use Rattle.kit_views.proofs.Uses.{true_false, bool_same, edge_fits}
use Rattle.kit_views.proofs.Standing.{whole, Given, root_spot, one_operation, held, to_tree, to_flat}
use Rattle.kit_views.proofs.Excused.{arith_effects, arith_branch}
use Rattle.kit_views.proofs.SameDead.{effects_are, lost, result_lost, argument_lost, lost_result, lost_argument}

-- what has a value has what is forwarded to it
has_given : {V : Type 0} (ts gs : List V) → SameLength ts gs → (p : ℕ) (a : V) → slice_get ts p ≡ Some a → (v : V) × (slice_get gs p ≡ Some v)
has_given [] [] s p a e = absurd (none_some a e)
has_given [] (g ∷ gs) s p a e = absurd s
has_given (t ∷ ts) [] s p a e = absurd s
has_given (t ∷ ts) (g ∷ gs) s zero a e = (g, refl)
has_given (t ∷ ts) (g ∷ gs) s (suc p) a e = has_given ts gs s p a e

length_map : {X Y : Type 0} (f : X → Y) (xs : List X) → length (map f xs) ≡ length xs
length_map f [] = refl
length_map f (x ∷ xs) = ap suc (length_map f xs)

-- what goes is left out, and what stays keeps its order

sub_behind : {X : Type 0} (xs ys zs : List X) → Sub xs zs → Sub xs (ys ++ zs)
sub_behind xs ys zs h = sub_append [] ys xs zs (sub_none ys) h

sub_drop : {X : Type 0} (p : ℕ → Bool) (xs : List X) → Sub (drop p xs) xs
sub_drop p [] = refl
sub_drop {X} p (x ∷ xs) = step (p 0) (sub_drop (λ i. p (suc i)) xs)
  where
    step : (b : Bool) → Sub (drop (λ i. p (suc i)) xs) xs → Sub (if b then drop (λ i. p (suc i)) xs else x ∷ drop (λ i. p (suc i)) xs) (x ∷ xs)
    step true h = inl h
    step false h = inr (drop (λ i. p (suc i)) xs, refl, h)

module _ {N : Names} {S : Contents} {A : Type 0} (d : Dialect S A) (g : Gone N) where
  abbrev name_list : {s : Sort} → Tree N S s → List N.operation
  name_list t = map (λ (z : Head N S). z.name) (heads_in t)

  names_both : (xs ys : List (Head N S)) → map (λ (z : Head N S). z.name) (xs ++ ys) ≡ map (λ (z : Head N S). z.name) xs ++ map (λ (z : Head N S). z.name) ys
  names_both xs ys = map-append (λ (z : Head N S). z.name) xs ys

  pub names_left : {s : Sort} (t : Tree N S s) → Sub (name_list (thin d g t)) (name_list t)
  names_left end = refl
  names_left (operation h rs rest) =
      subst (λ z. Sub (name_list (thin d g (operation h rs rest))) (h.name ∷ z)) (sym (names_both (heads_in rs) (heads_in rest)))
      (step (g.item (Whole h.name)) (names_left rs) (names_left rest))
    where
      step : (b : Bool) → Sub (name_list (thin d g rs)) (name_list rs) → Sub (name_list (thin d g rest)) (name_list rest) → Sub (name_list (if b then thin d g rest else operation (thin_head d g h) (thin d g rs) (thin d g rest))) (h.name ∷ (name_list rs ++ name_list rest))
      step true a c = inl (sub_behind (name_list (thin d g rest)) (name_list rs) (name_list rest) c)
      step false a c = inr (name_list (thin d g rs) ++ name_list (thin d g rest), ap (λ l. h.name ∷ l) (names_both (heads_in (thin d g rs)) (heads_in (thin d g rest))), sub_append (name_list (thin d g rs)) (name_list rs) (name_list (thin d g rest)) (name_list rest) a c)
  names_left (block l os rest) =
      subst (λ z. Sub z (name_list (block l os rest))) (sym (names_both (heads_in (thin d g os)) (heads_in (thin d g rest))))
      (subst (λ z. Sub (name_list (thin d g os) ++ name_list (thin d g rest)) z) (sym (names_both (heads_in os) (heads_in rest)))
      (sub_append (name_list (thin d g os)) (name_list os) (name_list (thin d g rest)) (name_list rest) (names_left os) (names_left rest)))
  names_left (region bs rest) =
      subst (λ z. Sub z (name_list (region bs rest))) (sym (names_both (heads_in (thin d g bs)) (heads_in (thin d g rest))))
      (subst (λ z. Sub (name_list (thin d g bs) ++ name_list (thin d g rest)) z) (sym (names_both (heads_in bs) (heads_in rest)))
      (sub_append (name_list (thin d g bs)) (name_list bs) (name_list (thin d g rest)) (name_list rest) (names_left bs) (names_left rest)))

  pub values_left : {s : Sort} (t : Tree N S s) → Sub (defined_in (thin d g t)) (defined_in t)
  values_left end = refl
  values_left (operation h rs rest) = step (g.item (Whole h.name)) (values_left rs) (values_left rest)
    where
      step : (b : Bool) → Sub (defined_in (thin d g rs)) (defined_in rs) → Sub (defined_in (thin d g rest)) (defined_in rest) → Sub (defined_in (if b then thin d g rest else operation (thin_head d g h) (thin d g rs) (thin d g rest))) (names_of h.results ++ (defined_in rs ++ defined_in rest))
      step true a c = sub_behind (defined_in (thin d g rest)) (names_of h.results) (defined_in rs ++ defined_in rest) (sub_behind (defined_in (thin d g rest)) (defined_in rs) (defined_in rest) c)
      step false a c = sub_append (names_of h.results) (names_of h.results) (defined_in (thin d g rs) ++ defined_in (thin d g rest)) (defined_in rs ++ defined_in rest) (sub_all (names_of h.results)) (sub_append (defined_in (thin d g rs)) (defined_in rs) (defined_in (thin d g rest)) (defined_in rest) a c)
  values_left (block l os rest) =
      sub_append (names_of (thin_label d g l).arguments) (names_of l.arguments) (defined_in (thin d g os) ++ defined_in (thin d g rest)) (defined_in os ++ defined_in rest)
      (sub_map (λ (v : Defined N.value S.of_value). v.name) (thin_label d g l).arguments l.arguments (sub_drop (λ i. gone_at g (slice_get l.arguments i)) l.arguments))
      (sub_append (defined_in (thin d g os)) (defined_in os) (defined_in (thin d g rest)) (defined_in rest) (values_left os) (values_left rest))
  values_left (region bs rest) = sub_append (defined_in (thin d g bs)) (defined_in bs) (defined_in (thin d g rest)) (defined_in rest) (values_left bs) (values_left rest)

  pub blocks_left : (bs : Tree N S Blocks) → names_in (thin d g bs) ≡ names_in bs
  blocks_left end = refl
  blocks_left (block l os rest) = ap (λ z. l.name ∷ z) (blocks_left rest)

module _ {N : Names} {S : Contents} {A : Type 0} (d : Dialect S A) (r : Reading S) (law : Reads d r) (w : TreeSurroundings N A) (h : Head N S) (bs : Tree N S Blocks) (f : Fun N.value) (given : Given r h bs f) (same : N.value → N.value → Bool) (sameness : IsSameness same) (unpinned : NothingPinned w (whole r h bs f)) (g : Gone N) (is_gone : IsGoneExactly d w (whole r h bs f) g) where
  abbrev D : N.value → Bool
  D = lost d r law w h bs f given same sameness unpinned g is_gone

  abbrev Stands : Occurrence N S → Type 0
  Stands o = Has o (occurrences_of (whole r h bs f))

  may_of : (x : Item N) → IsDead d w (whole r h bs f) x → May d (whole r h bs f) x
  may_of _ (dies x may kept uses) = may

  by_bool : (b : Bool) → (b ≡ true → ⊥) → b ≡ false
  by_bool true k = absurd (k refl)
  by_bool false k = refl

  -- an operation with side effects stays
  stays : (o : Occurrence N S) → Stands o → d.has_effects o.head.content ≡ true → g.item (Whole o.head.name) ≡ false
  stays o i e = by_bool (g.item (Whole o.head.name)) (λ q.
      let may = may_of (Whole o.head.name) (is_gone.dead (Whole o.head.name) q) in
      let one = one_operation r h bs f given may.it o may.stands i may.name in
      true_false (d.has_effects o.head.content) e (ap (λ (z : Occurrence N S). d.has_effects z.head.content) (sym one) ∙ may.pure))

  result_same : (o : Occurrence N S) (v : N.value) → Stands o → Has v (names_of o.head.results) → D v ≡ g.item (Whole o.head.name)
  result_same o v i k = bool_same (D v) (g.item (Whole o.head.name)) (lost_result d r law w h bs f given same sameness unpinned g is_gone o v i k) (result_lost d r law w h bs f given same sameness unpinned g is_gone o v i k)

  -- the operation goes in both, or stays in both
  goes_same : (o : Occurrence N S) (p : Op N.value) → Stands o → IsOp r (names_in bs) o.head p → goes D p ≡ g.item (Whole o.head.name)
  goes_same o (Const y n) i is = result_same o y i (subst (Has y) (sym is.0.results) (inl refl))
  goes_same o (Calc a wd y b c) i is = step (may_trap a) refl
    where
      step : (z : Bool) → may_trap a ≡ z → (if z then false else D y) ≡ g.item (Whole o.head.name)
      step true e = sym (stays o i (effects_are d r law (names_in bs) o.head (kind_of a) is.0.kind ∙ arith_effects a ∙ e))
      step false e = result_same o y i (subst (Has y) (sym is.0.results) (inl refl))
  goes_same o (Emit x) i is = sym (stays o i (effects_are d r law (names_in bs) o.head ops.Emit is.kind))
  goes_same o (Call rs c xs) i is = sym (stays o i (effects_are d r law (names_in bs) o.head ops.Call is.0.kind))
  goes_same o (Branch s xs x es) i is = sym (stays o i (from_branch d r law (names_in bs) o.head s xs x es is).effects)
  goes_same o (Return xs) i is = sym (stays o i (effects_are d r law (names_in bs) o.head ops.Return is.kind))

  -- an operation that is no branch loses nothing
  keeps_operands : (o : Occurrence N S) → Stands o → d.is_branch o.head.content ≡ false → (i : ℕ) → g.operand o.head.name i ≡ false
  keeps_operands o j e i = by_bool (g.operand o.head.name i) (λ q.
      let l = is_gone.lost o.head.name i q in
      let one = one_operation r h bs f given l.user o l.stands j l.name in
      true_false (d.is_branch o.head.content) (ap (λ (z : Occurrence N S). d.is_branch z.head.content) (sym one) ∙ l.forwards.branch) e)

  keeps_head : (o : Occurrence N S) (k : KitOp) → Stands o → r.kind o.head.content ≡ k → has_interface k op.Branch ≡ false → (k ≡ ops.CondBr → ⊥) → thin_head d g o.head ≡ o.head
  keeps_head o k i e b n =
      let c = law.drops_others o.head.content (g.operand o.head.name) (λ q. n (sym e ∙ q)) in
      let xs = drop_none (g.operand o.head.name) o.head.operands (keeps_operands o i (law.branches o.head.content ∙ ap (λ z. has_interface z op.Branch) e ∙ b)) in
      λ j. record { name = o.head.name; content = c j; results = o.head.results; operands = xs j; successors = o.head.successors }

  not_two : (k : KitOp) → has_interface k op.Branch ≡ false → k ≡ ops.CondBr → ⊥
  not_two k e q = true_false (has_interface k op.Branch) (ap (λ z. has_interface z op.Branch) q) e

  module _ (o : Occurrence N S) (here : Stands o) (xs : List N.value) (es : List (Edge N.value)) (v : IsForwarding d (names_in bs) o.head xs es) where
    -- an operand that it chooses by stays
    chosen_stays : (i : ℕ) → i < length xs → g.operand o.head.name i ≡ false
    chosen_stays i b = by_bool (g.operand o.head.name i) (λ q.
        let l = is_gone.lost o.head.name i q in
        let one = one_operation r h bs f given l.user o l.stands here l.name in
        let m = to_flat d r h bs f given o xs es v i l.argument (subst (λ z. ForwardsTo d (whole r h bs f) z i l.argument) one l.forwards) in
        let s = start_least es (length xs) m.edge in
        absurd (omega (arith, m.index, s, b)))

    -- an operand that is forwarded goes with its argument
    forwarded_goes : (j : ℕ) (e : Edge N.value) (n i : ℕ) (x t : N.value) → slice_get es j ≡ Some e → slice_get e.forwards n ≡ Some x → slice_get (arguments_in (Some f) e.target) n ≡ Some t → i ≡ start es (length xs) j + n → g.operand o.head.name i ≡ D t
    forwarded_goes j e n i x t at gives takes index = bool_same (g.operand o.head.name i) (D t)
        (λ q.
        let l = is_gone.lost o.head.name i q in
        let one = one_operation r h bs f given l.user o l.stands here l.name in
        let m = to_flat d r h bs f given o xs es v i l.argument (subst (λ z. ForwardsTo d (whole r h bs f) z i l.argument) one l.forwards) in
        let u = one_edge es (length xs) j n m.edge m.place e m.e at m.at (get_below e.forwards n x gives) m.below (sym index ∙ m.index) in
        let ge : e ≡ m.e = some_same e m.e (sym at ∙ (ap (slice_get es) u.0 ∙ m.at)) in
        let same_t : t ≡ l.argument = some_same t l.argument (sym takes ∙ ((λ z. slice_get (arguments_in (Some f) (ge z).target) (u.1 z)) ∙ m.takes)) in
        ap D same_t ∙ argument_lost d r law w h bs f given same sameness unpinned g is_gone l.forwards.target l.argument l.forwards.stands (has_get (names_of l.forwards.target.label.arguments) l.forwards.place l.argument l.forwards.takes) (is_gone.all (Slot l.argument) l.dead))
        (λ q.
        let b = held r h bs f given e.target n t takes in
        let a = to_tree d r h bs f given o xs es v j e n i x t at gives index takes in
        is_gone.all_lost o.head.name i (record { user = o; stands = here; name = refl; argument = t; forwards = a; dead = is_gone.dead (Slot t) (lost_argument d r law w h bs f given same sameness unpinned g is_gone b.it t b.stands (has_get (names_of b.it.label.arguments) n t (ap (λ z. slice_get z n) b.arguments ∙ takes)) q) }))

    -- its operands afterwards
    operands_left : AllEdges (EdgeFits (Some f)) es → drop (g.operand o.head.name) o.head.operands ≡ xs ++ all_forwarded (map (thin_edge (Some f) D) es)
    operands_left fits =
        ap (drop (g.operand o.head.name)) v.operands
        ∙ (drop_behind (g.operand o.head.name) (λ k. g.operand o.head.name (length xs + k)) xs (all_forwarded es) chosen_stays (λ i k q. ap (g.operand o.head.name) q)
        ∙ ap (λ l. xs ++ l) (drop_edges D (Some f) es (λ k. g.operand o.head.name (length xs + k)) (length xs) fits (λ j e n i t at ta q.
        let k = edge_fits (Some f) es fits j e at in
        let x = has_given (arguments_in (Some f) e.target) e.forwards k.count n t ta in
        forwarded_goes j e n (length xs + i) x.0 t at x.1 ta q)))

    successors_left : map (λ (e : Edge N.value). slice_get (names_in bs) e.target) es ≡ map (λ (e : Edge N.value). slice_get (names_in bs) e.target) (map (thin_edge (Some f) D) es)
    successors_left = sym (map-map (λ (e : Edge N.value). slice_get (names_in bs) e.target) (thin_edge (Some f) D) es)

    branch_left : (k : KitOp) → AllEdges (EdgeFits (Some f)) es → IsOf r (names_in bs) o.head k [] (xs ++ all_forwarded es) es → IsOf r (names_in bs) (thin_head d g o.head) k [] (xs ++ all_forwarded (map (thin_edge (Some f) D) es)) (map (thin_edge (Some f) D) es)
    branch_left k fits b = record {
      kind = law.drops_kind o.head.content (g.operand o.head.name) ∙ b.kind;
      results = b.results;
      operands = operands_left fits;
      successors = b.successors ∙ successors_left;
    }

  -- an operation of the tree without the operands that go is the flat one without them
  op_left : (o : Occurrence N S) (p : Op N.value) → Stands o → EdgesOfOpFit (Some f) p → IsOp r (names_in bs) o.head p → IsOp r (names_in bs) (thin_head d g o.head) (thin_op (Some f) D p)
  op_left o (Const y n) i fits is = subst (λ z. IsOp r (names_in bs) z (Const y n)) (sym (keeps_head o ops.Constant i is.0.kind refl (not_two ops.Constant refl))) is
  op_left o (Calc a wd y b c) i fits is = subst (λ z. IsOp r (names_in bs) z (Calc a wd y b c)) (sym (keeps_head o (kind_of a) i is.0.kind (arith_branch a) (not_two (kind_of a) (arith_branch a)))) is
  op_left o (Emit x) i fits is = subst (λ z. IsOp r (names_in bs) z (Emit x)) (sym (keeps_head o ops.Emit i is.kind refl (not_two ops.Emit refl))) is
  op_left o (Call rs c xs) i fits is = subst (λ z. IsOp r (names_in bs) z (Call rs c xs)) (sym (keeps_head o ops.Call i is.0.kind refl (not_two ops.Call refl))) is
  op_left o (Return xs) i fits is = subst (λ z. IsOp r (names_in bs) z (Return xs)) (sym (keeps_head o ops.Return i is.kind refl (not_two ops.Return refl))) is
  op_left o (Branch Plain xs e es) i fits is =
      let v = from_branch d r law (names_in bs) o.head Plain xs e es is in
      (branch_left o i xs (e ∷ es) v ops.Br fits is.0, is.1, length_map (thin_edge (Some f) D) es ∙ is.2)
  op_left o (Branch Nonzero xs e es) i fits is =
      let v = from_branch d r law (names_in bs) o.head Nonzero xs e es is in
      let n : length xs ≡ 1 = is.1 in (
        branch_left o i xs (e ∷ es) v ops.CondBr fits is.0,
        is.1,
        length_map (thin_edge (Some f) D) es ∙ is.2,
        law.drops_first o.head.content (g.operand o.head.name) is.0.kind
            ∙ (ap (kept (g.operand o.head.name) 1) is.3
            ∙ kept_pick D (g.operand o.head.name) 1 (arguments_in (Some f) e.target) e.forwards fits.0.count (λ m k t ta q.
            let x = has_given (arguments_in (Some f) e.target) e.forwards fits.0.count m t ta in
            forwarded_goes o i xs (e ∷ es) v 0 e m k x.0 t refl x.1 ta (omega (arith, q, n)))),
      )
  op_left o (Branch (Cases ns) xs e es) i fits is = absurd is

  abbrev at_site : OperationSite N S → Head N S → Tree N S Regions → Occurrence N S
  at_site c k rs = record { site = c; head = k; regions = rs }

  ops_left_over : (os : Tree N S Operations) (ps : List (Op N.value)) (c : OperationSite N S) → AreOps r (names_in bs) os ps → ((o : Occurrence N S) → Has o (occurrences_in os c) → Stands o) → AllEdgesFit (Some f) ps → AreOps r (names_in bs) (thin d g os) (thin_ops (Some f) D ps)
  ops_left_over end [] c a st fits = tt
  ops_left_over end (p ∷ ps) c a st fits = absurd a
  ops_left_over (operation k rs more) [] c a st fits = absurd a
  ops_left_over (operation k rs more) (p ∷ ps) c a st fits =
      step (g.item (Whole k.name)) (goes D p) (goes_same (at_site c k rs) p (st (at_site c k rs) (inl refl)) a.1)
      (ops_left_over more ps c a.2 (λ o i. st o (inr (has-right o (occurrences_in rs (inner k c)) (occurrences_in more c) i))) fits.1)
    where
      step : (x y : Bool) → y ≡ x → AreOps r (names_in bs) (thin d g more) (thin_ops (Some f) D ps) → AreOps r (names_in bs) (if x then thin d g more else operation (thin_head d g k) (thin d g rs) (thin d g more)) (if y then thin_ops (Some f) D ps else thin_op (Some f) D p ∷ thin_ops (Some f) D ps)
      step true true e m = m
      step true false e m = absurd (cc e)
      step false true e m = absurd (cc e)
      step false false e m = (ap (λ z. thin d g z) a.0, op_left (at_site c k rs) p (st (at_site c k rs) (inl refl)) fits.0 a.1, m)

  arguments_left : (x : BlockOccurrence N S) (vs : List N.value) → Has x (block_occurrences_of (whole r h bs f)) → names_of x.label.arguments ≡ vs → names_of (thin_label d g x.label).arguments ≡ live D vs
  arguments_left x vs i e =
      live_names g D x.label.arguments (λ v j. bool_same (g.item (Slot v)) (D v) (argument_lost d r law w h bs f given same sameness unpinned g is_gone x v i j) (lost_argument d r law w h bs f given same sameness unpinned g is_gone x v i j))
      ∙ ap (live D) e

  blocks_left_over : (ts : Tree N S Blocks) (ks : Fun N.value) (c : Spot N S) → AreFlatBlocks r (names_in bs) ts ks → ((o : Occurrence N S) → Has o (occurrences_in ts c) → Stands o) → ((x : BlockOccurrence N S) → Has x (block_occurrences_in ts c) → Has x (block_occurrences_of (whole r h bs f))) → ((b : ℕ) → AllEdgesFit (Some f) (left_in (Some ks) b 0)) → AreFlatBlocks r (names_in bs) (thin d g ts) (map (thin_block (Some f) D) ks)
  blocks_left_over end [] c a st sx fits = tt
  blocks_left_over end (k ∷ ks) c a st sx fits = absurd a
  blocks_left_over (block l os more) [] c a st sx fits = absurd a
  blocks_left_over (block l os more) (k ∷ ks) c a st sx fits = (
    arguments_left (record { spot = c; label = l; operations = os }) k.arguments (sx (record { spot = c; label = l; operations = os }) (inl refl)) a.0,
    ops_left_over os k.ops (record { spot = c; label = l }) a.1 (λ o i. st o (has-left o (occurrences_in os (record { spot = c; label = l })) (occurrences_in more (next_block c)) i)) (fits 0),
    blocks_left_over more ks (next_block c) a.2
        (λ o i. st o (has-right o (occurrences_in os (record { spot = c; label = l })) (occurrences_in more (next_block c)) i))
        (λ x i. sx x (inr (has-right x (block_occurrences_in os (record { spot = c; label = l })) (block_occurrences_in more (next_block c)) i)))
        (λ b. fits (suc b)),
  )

  pub flat_left : FlattensTo r (record { head = h; regions = thin d g (region bs end) }) (map (thin_block (Some f) D) f)
  flat_left = record {
    view = record {
      function = given.function;
      no_operands = given.no_operands;
      blocks = thin d g bs;
      region = refl;
      are = subst (λ z. AreFlatBlocks r z (thin d g bs) (map (thin_block (Some f) D) f)) (sym (blocks_left d g bs))
          (blocks_left_over bs f (root_spot r h bs f given) given.are
          (λ o i. has-left o (occurrences_in bs (root_spot r h bs f given)) [] i)
          (λ x i. has-left x (block_occurrences_in bs (root_spot r h bs f given)) [] i) given.edges);
    };
    operations =
        let before : List N.operation = map (λ (z : Head N S). z.name) (heads_in (region bs end)) in
        let after : List N.operation = map (λ (z : Head N S). z.name) (heads_in (thin d g (region bs end))) in
        from_distinct (h.name ∷ after) (sub_distinct (h.name ∷ after) (h.name ∷ before) (inr (after, refl, names_left d g (region bs end))) (to_distinct (h.name ∷ before) given.operations));
    blocks = subst AreDistinct (sym (blocks_left d g bs)) given.blocks;
    values = from_distinct (defined_in (thin d g (region bs end))) (sub_distinct (defined_in (thin d g (region bs end))) (defined_in (region bs end)) (values_left d g (region bs end)) (to_distinct (defined_in (region bs end)) given.values));
    edges = λ b. subst (AllEdgesFit (flat.thin D (Some f))) (sym (thin_left D (Some f) b)) (ops_fit (Some f) D (left_in (Some f) b 0) (given.edges b));
  }
