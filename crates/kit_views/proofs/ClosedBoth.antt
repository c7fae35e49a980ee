-- Facts that are closed in the flat function are closed in the tree, and the other way round.
use Rattle.std.proofs.Common.{◌≡◌, ◌⊎◌, ⊎_elim, inl, inr, ℕ, ◌<◌, ◌^◌, Bool, true, false, List, [], ◌∷◌, map, Option, Some, None, refl, sym, ap, ◌∙◌, subst}
use Rattle.std.specs.Prelude.{slice_get, option_map}
use Rattle.ir_base.specs.declared.types.TypeHandle.{TypeHandle}
use Rattle.ir_names.specs.declared.interfaces.OpInterface.TheVariants as op
use Rattle.ir_names.specs.Dictionary.{attribute_at}
use Rattle.ir_trees.specs.Names.{Names}
use Rattle.ir_trees.specs.Renames.{names_of}
use Rattle.ir_trees.specs.Trees.{Defined, Head, Blocks, Tree, end, block, region}
use Rattle.opt_rows.specs.declared.known.Known.{Known}
use Rattle.opt_rows.specs.declared.known.Known.TheVariants as known
use Rattle.opt_rows.specs.Known as tree
use Rattle.opt_rows.specs.Known.{asked, answer, AllAny}
use Rattle.opt_trees.specs.Facts as trees
use Rattle.opt_trees.specs.Facts.{FoldClosed, EntriesRun}
use Rattle.opt_trees.specs.Occurrences.{Has, types_of, Occurrence, occurrences_of, block_occurrences_of, defined_in}
use Rattle.opt_trees.proofs.Lists.{some_same, none_some}
use Rattle.opt_trees.proofs.Defined.{result_defined, argument_defined}
use Rattle.kit_behaviour.specs.Facts.{Fact, Undetermined, Unknown, fold_known, folds_to, AllUnknown, OpClosed, OpsClosed}
use Rattle.kit_behaviour.specs.Facts as flat
use Rattle.kit_behaviour.specs.Machine.{Arith, Calculated, Compared, Edge, Select, Plain, Nonzero, Cases, Op, Const, Calc, Emit, Call, Branch, Return, Block, Fun, ops_left, arguments_in}
use Rattle.kit_behaviour.specs.Rules.{EdgesOfOpFit}
use Rattle.kit_ops.specs.declared.attributes.IntegerAttr.{IntegerAttr}
use Rattle.kit_ops.specs.declared.kinds.KitOp.{KitOp}
use Rattle.kit_ops.specs.declared.kinds.KitOp.TheVariants as ops
use Rattle.kit_ops.specs.declared.types.KitType.{KitType}
use Rattle.kit.specs.Meaning.{kit, integer_in, if_of_type, fold_of}
use Rattle.kit_ops.specs.Keys.{constant_value}
use Rattle.kit_ops.specs.Table.{has_interface}
use Rattle.kit_views.specs.Reading.{kit_contents, kit_reading, number_in, integer_of}
use Rattle.kit_views.specs.FlatView.{kind_of, IsFlatBranch, IsOp, AreFlatBlocks, names_in}
use Rattle.kit_views.specs.Typed.{number_as, width_at, TypesFit, IsTyped}
use Rattle.kit_views.proofs.Lists.{at_has}
use Rattle.kit_views.proofs.Uses.{edges_fit}
use Rattle.kit_views.proofs.Excused.{arith_branch}
use Rattle.kit_views.proofs.Standing.{whole, Given, root_spot, pair, back, held}
use Rattle.kit_views.proofs.Folding.{Fits, of_type, Det, Below, FoldPair, fold_pair}
use Rattle.kit_views.proofs.Dets.{asked_none}
use Rattle.kit_views.proofs.BranchFacts.{branch_tree, branch_flat}

-- lists

unknown_any : {V : Type 0} (k : V → Known IntegerAttr) (l : flat.FunctionFacts V) (vs : List V) → ((v : V) → Has v vs → l.of v ≡ Unknown → k v ≡ known.Any) → AllUnknown l vs → AllAny k vs
unknown_any k l [] h u = tt
unknown_any k l (v ∷ vs) h u = (h v (inl refl) u.0, unknown_any k l vs (λ w i. h w (inr i)) u.1)

any_unknown : {V : Type 0} (k : V → Known IntegerAttr) (l : flat.FunctionFacts V) (vs : List V) → ((v : V) → Has v vs → k v ≡ known.Any → l.of v ≡ Unknown) → AllAny k vs → AllUnknown l vs
any_unknown k l [] h u = tt
any_unknown k l (v ∷ vs) h u = (h v (inl refl) u.0, any_unknown k l vs (λ w i. h w (inr i)) u.1)

each_unknown : {V : Type 0} (l : flat.FunctionFacts V) (vs : List V) → AllUnknown l vs → (v : V) → Has v vs → l.of v ≡ Unknown
each_unknown l [] u v i = absurd i
each_unknown l (x ∷ vs) u v i = ⊎_elim (λ e. ap l.of e ∙ u.0) (λ j. each_unknown l vs u.1 v j) i

all_unknown : {V : Type 0} (l : flat.FunctionFacts V) (vs : List V) → ((v : V) → Has v vs → l.of v ≡ Unknown) → AllUnknown l vs
all_unknown l [] h = tt
all_unknown l (x ∷ vs) h = (h x (inl refl), all_unknown l vs (λ v i. h v (inr i)))

each_any : {V : Type 0} (k : V → Known IntegerAttr) (vs : List V) → AllAny k vs → (v : V) → Has v vs → k v ≡ known.Any
each_any k [] u v i = absurd i
each_any k (x ∷ vs) u v i = ⊎_elim (λ e. ap k e ∙ u.0) (λ j. each_any k vs u.1 v j) i

all_any : {V : Type 0} (k : V → Known IntegerAttr) (vs : List V) → ((v : V) → Has v vs → k v ≡ known.Any) → AllAny k vs
all_any k [] h = tt
all_any k (x ∷ vs) h = (h x (inl refl), all_any k vs (λ v i. h v (inr i)))

ops_closed : {V : Type 0} (F : Option (Fun V)) (l : flat.FunctionFacts V) (ps : List (Op V)) → OpsClosed F l ps → (p : Op V) → Has p ps → OpClosed F l p
ops_closed F l [] c p i = absurd i
ops_closed F l (q ∷ ps) c p i = ⊎_elim (λ e. subst (OpClosed F l) (sym e) c.0) (λ j. ops_closed F l ps c.1 p j) i

all_closed : {V : Type 0} (F : Option (Fun V)) (l : flat.FunctionFacts V) (ps : List (Op V)) → ((p : Op V) → Has p ps → OpClosed F l p) → OpsClosed F l ps
all_closed F l [] h = tt
all_closed F l (q ∷ ps) h = (h q (inl refl), all_closed F l ps (λ p i. h p (inr i)))

below_unknown : (t : Fact) → flat.FactAtOrBelow t Unknown → t ≡ Unknown
below_unknown Unknown b = refl
below_unknown Undetermined b = absurd b
below_unknown (flat.Known n) b = absurd b

below_any : (k : Known IntegerAttr) → tree.AtOrBelow k known.Any → k ≡ known.Any
below_any known.Any b = refl
below_any known.Undetermined b = absurd b
below_any (known.One a) b = absurd b

below_top : (t : Fact) → flat.FactAtOrBelow t Undetermined
below_top Unknown = tt
below_top Undetermined = tt
below_top (flat.Known n) = tt

any_below : (k : Known IntegerAttr) (x : Known IntegerAttr) → k ≡ known.Any → tree.AtOrBelow k x
any_below k x e = subst (λ z. tree.AtOrBelow z x) (sym e) tt

unknown_below : (t x : Fact) → t ≡ Unknown → flat.FactAtOrBelow t x
unknown_below t x e = subst (λ z. flat.FactAtOrBelow z x) (sym e) tt

one_type : {V : Type 0} (type_at : V → TypeHandle) (ds : List (Defined V TypeHandle)) (y : V) → names_of ds ≡ y ∷ [] → ((v : Defined V TypeHandle) → Has v ds → type_at v.name ≡ v.holds) → types_of ds ≡ type_at y ∷ []
one_type type_at [] y e h = absurd (cc e)
one_type type_at (v ∷ []) y e h = let q : v.name ≡ y = cc e in ap (λ z. z ∷ []) (sym (h v (inl refl)) ∙ ap type_at q)
one_type type_at (v ∷ (w ∷ ds)) y e h = absurd (cc e)

pub arith_folds : (a : Arith) → has_interface (kind_of a) op.ConstFold ≡ true
arith_folds (Calculated a) = refl
arith_folds (Compared c) = refl

module _ {N : Names} (leads : TypeHandle → Option KitType) (numbered : List ℕ → ℕ) (type_at : N.value → TypeHandle) where
  pub fits_of : (a : Arith) (h : Head N kit_contents) (b y : N.value) → TypesFit leads {N = N} type_at (kind_of a) h → Has b h.operands → Has y (names_of h.results) → Fits leads a (type_at b) (type_at y)
  fits_of (Calculated a) h b y t i j = t b y i j
  fits_of (Compared c) h b y t i j = t.1 y j

  alike : (a : Arith) (h : Head N kit_contents) (b c y : N.value) → TypesFit leads {N = N} type_at (kind_of a) h → Has b h.operands → Has c h.operands → Has y (names_of h.results) → type_at c ≡ type_at b
  alike (Calculated a) h b c y t i j k = t c y j k ∙ sym (t b y i k)
  alike (Compared a) h b c y t i j k = t.0 c b j i

  pub branch_kind : (h : Head N kit_contents) (names : List N.block) (s : Select) (xs : List N.value) (e : Edge N.value) (es : List (Edge N.value)) → IsFlatBranch (kit_reading leads numbered) names h s xs e es → (has_interface h.content.kind op.ConstFold ≡ false) × (has_interface h.content.kind op.Branch ≡ true) × (names_of h.results ≡ [])
  branch_kind h names Plain xs e es is = (ap (λ k. has_interface k op.ConstFold) is.0.kind, ap (λ k. has_interface k op.Branch) is.0.kind, is.0.results)
  branch_kind h names Nonzero xs e es is = (ap (λ k. has_interface k op.ConstFold) is.0.kind, ap (λ k. has_interface k op.Branch) is.0.kind, is.0.results)
  branch_kind h names (Cases ns) xs e es is = absurd is

  -- what a foldable operation of one result asks
  module _ (k : N.value → Known IntegerAttr) (h : Head N kit_contents) (y : N.value) (qs : List (Option IntegerAttr)) (o : Option IntegerAttr) (results : names_of h.results ≡ y ∷ []) (types : types_of h.results ≡ type_at y ∷ []) (folds : kit.is_foldable h.content ≡ true) (asks : asked (map k h.operands) ≡ Some qs) (is : kit.fold h.content (type_at y ∷ []) qs ≡ o ∷ []) where
    abbrev fold_path : kit.fold h.content (types_of h.results) qs ≡ o ∷ []
    fold_path = ap (λ ts. kit.fold h.content ts qs) types ∙ is

    to_fold : tree.AtOrBelow (k y) (answer o) → FoldClosed kit k h (kit.is_foldable h.content) (asked (map k h.operands))
    to_fold b =
        subst (λ z. FoldClosed kit k h z (asked (map k h.operands))) (sym folds)
        (subst (λ z. FoldClosed kit k h true z) (sym asks)
        (subst (λ z. tree.AllBelow k z (map answer (kit.fold h.content (types_of h.results) qs))) (sym results)
        (subst (λ z. tree.AllBelow k (y ∷ []) (map answer z)) (sym fold_path) (b, tt))))

    from_fold : FoldClosed kit k h (kit.is_foldable h.content) (asked (map k h.operands)) → tree.AtOrBelow (k y) (answer o)
    from_fold b =
        (subst (λ z. tree.AllBelow k (y ∷ []) (map answer z)) fold_path
        (subst (λ z. tree.AllBelow k z (map answer (kit.fold h.content (types_of h.results) qs))) results
        (subst (λ z. FoldClosed kit k h true z) asks
        (subst (λ z. FoldClosed kit k h z (asked (map k h.operands))) folds b)))).0

  none_folds : (k : N.value → Known IntegerAttr) (h : Head N kit_contents) → kit.is_foldable h.content ≡ false → AllAny k (names_of h.results) → FoldClosed kit k h (kit.is_foldable h.content) (asked (map k h.operands))
  none_folds k h e a = subst (λ z. FoldClosed kit k h z (asked (map k h.operands))) (sym e) a

  some_any : (k : N.value → Known IntegerAttr) (h : Head N kit_contents) → kit.is_foldable h.content ≡ false → FoldClosed kit k h (kit.is_foldable h.content) (asked (map k h.operands)) → AllAny k (names_of h.results)
  some_any k h e a = subst (λ z. FoldClosed kit k h z (asked (map k h.operands))) e a

  of_kind : (h : Head N kit_contents) (kd : KitOp) (f : KitOp → Bool) (b : Bool) → h.content.kind ≡ kd → f kd ≡ b → f h.content.kind ≡ b
  of_kind h kd f b e q = ap f e ∙ q

  -- what a constant folds to
  constant_fold : (h : Head N kit_contents) (y : N.value) (n : ℕ) → h.content.kind ≡ ops.Constant → names_of h.results ≡ y ∷ [] → number_in (attribute_at h.content.notes.attributes constant_value) ≡ n → TypesFit leads {N = N} type_at ops.Constant h → (kit.fold h.content (type_at y ∷ []) [] ≡ Some (number_as leads (type_at y) n) ∷ []) × (n < 2 ^ width_at leads (type_at y))
  constant_fold h y n e results m t =
      let v = t y (subst (Has y) (sym results) (inl refl)) in
      let same : v.0 ≡ n = ap number_in (sym v.1) ∙ m in (
        ap (λ k. fold_of k h.content.notes.attributes (type_at y ∷ []) []) e
            ∙ (ap (λ z. if_of_type (type_at y) (integer_in z) ∷ []) v.1
            ∙ (ap (λ z. z ∷ []) (of_type leads (type_at y) v.0) ∙ ap (λ z. Some (number_as leads (type_at y) z) ∷ []) same)),
        subst (λ z. z < 2 ^ width_at leads (type_at y)) same v.2,
      )

module _ {N : Names} (leads : TypeHandle → Option KitType) (numbered : List ℕ → ℕ) (h : Head N kit_contents) (bs : Tree N kit_contents Blocks) (f : Fun N.value) (given : Given (kit_reading leads numbered) h bs f) (type_at : N.value → TypeHandle) (typed : IsTyped leads {N = N} type_at (whole (kit_reading leads numbered) h bs f)) (k : trees.Facts N IntegerAttr) (l : flat.FunctionFacts N.value) (runs : (n : ℕ) (b : N.block) → slice_get (names_in bs) n ≡ Some b → l.runs n ≡ k.runs b) where
  abbrev Whole : Occurrence N kit_contents → Type 0
  Whole o = Has o (occurrences_of (whole (kit_reading leads numbered) h bs f))

  abbrev IsValue : N.value → Type 0
  IsValue v = Has v (defined_in (region bs end))

  abbrev IsDet : N.value → Type 0
  IsDet v = Det leads (type_at v) (k.of v) (l.of v)

  result_type : (o : Occurrence N kit_contents) (y : N.value) → Whole o → names_of o.head.results ≡ y ∷ [] → types_of o.head.results ≡ type_at y ∷ []
  result_type o y i e = one_type type_at o.head.results y e (λ v j. typed.results o i v j)

  is_value : (o : Occurrence N kit_contents) (y : N.value) → Whole o → Has y (names_of o.head.results) → IsValue y
  is_value o y i j = result_defined (region bs end) (root_spot (kit_reading leads numbered) h bs f given) o y i j

  entry_value : (v : N.value) → Has v (arguments_in (Some f) 0) → IsValue v
  entry_value v i =
      let a = at_has (arguments_in (Some f) 0) v i in
      let b = held (kit_reading leads numbered) h bs f given 0 a.place v a.is in
      argument_defined (region bs end) (root_spot (kit_reading leads numbered) h bs f given) b.it v b.stands (subst (Has v) (sym b.arguments) i)

  width_is : (o : Occurrence N kit_contents) (y : N.value) (w : ℕ) → Whole o → names_of o.head.results ≡ y ∷ [] → map (λ (ty : TypeHandle). (integer_of (leads ty)).width) (types_of o.head.results) ≡ w ∷ [] → width_at leads (type_at y) ≡ w
  width_is o y w i e q =
      let z : width_at leads (type_at y) ∷ [] ≡ w ∷ [] = ap (map (λ (ty : TypeHandle). (integer_of (leads ty)).width)) (sym (result_type o y i e)) ∙ q in cc z

  -- what both make of the operands of arithmetic
  pair_of : (o : Occurrence N kit_contents) (a : Arith) (y b c : N.value) → Whole o → o.head.content.kind ≡ kind_of a → names_of o.head.results ≡ y ∷ [] → o.head.operands ≡ b ∷ c ∷ [] → IsDet b → IsDet c → FoldPair leads a o.head.content.notes.attributes (type_at y) (k.of b) (k.of c) (l.of b) (l.of c)
  pair_of o a y b c i e results operands db dc =
      let t = subst (λ z. TypesFit leads {N = N} type_at z o.head) e (typed.operations o i) in
      let hb : Has b o.head.operands = subst (Has b) (sym operands) (inl refl) in
      let hc : Has c o.head.operands = subst (Has c) (sym operands) (inr (inl refl)) in
      let hy : Has y (names_of o.head.results) = subst (Has y) (sym results) (inl refl) in
      fold_pair leads a o.head.content.notes.attributes (type_at b) (type_at y) (k.of b) (k.of c) (l.of b) (l.of c)
      (typed.integers b (typed.operands o b i hb)) (fits_of leads numbered type_at a o.head b y t hb hy) db
      (subst (λ z. Det leads z (k.of c) (l.of c)) (alike leads numbered type_at a o.head b c y t hb hc hy) dc)

  module _ (det : (v : N.value) → IsValue v → (k.of v ≡ known.Undetermined → ⊥) → IsDet v)
      (order : (t g : N.value) → IsValue t → IsValue g → type_at g ≡ type_at t → flat.FactAtOrBelow (l.of t) (l.of g) → tree.AtOrBelow (k.of t) (k.of g))
      (number_below : (v : N.value) (n : ℕ) → IsValue v → n < 2 ^ width_at leads (type_at v) → flat.FactAtOrBelow (l.of v) (flat.Known n) → tree.AtOrBelow (k.of v) (known.One (number_as leads (type_at v) n)))
      (unknown_is : (v : N.value) → IsValue v → l.of v ≡ Unknown → k.of v ≡ known.Any)
      (outside : (v : N.value) → (IsValue v → ⊥) → k.of v ≡ known.Any) (c : flat.AreClosedFacts (Some f) l) where
    abbrev Asks : Occurrence N kit_contents → Type 0
    Asks o = FoldClosed kit k.of o.head (kit.is_foldable o.head.content) (asked (map k.of o.head.operands))

    abbrev Goes : Occurrence N kit_contents → Type 0
    Goes o = trees.BranchClosed kit (block_occurrences_of (whole (kit_reading leads numbered) h bs f)) k o.head (kit.is_branch o.head.content) (asked (map k.of o.head.operands))

    stays_here : (o : Occurrence N kit_contents) → kit.is_branch o.head.content ≡ false → Goes o
    stays_here o e = subst (λ z. trees.BranchClosed kit (block_occurrences_of (whole (kit_reading leads numbered) h bs f)) k o.head z (asked (map k.of o.head.operands))) (sym e) tt

    -- a result that folds to this
    folded_tree : (y : N.value) (q : Option ℕ) → IsValue y → Below leads (type_at y) q → flat.FactAtOrBelow (l.of y) (fold_known q) → tree.AtOrBelow (k.of y) (answer (option_map (number_as leads (type_at y)) q))
    folded_tree y None i b e = any_below (k.of y) known.Any (unknown_is y i (below_unknown (l.of y) e))
    folded_tree y (Some n) i b e = number_below y n i b e

    op_tree : (o : Occurrence N kit_contents) (p : Op N.value) → Whole o → IsOp (kit_reading leads numbered) (names_in bs) o.head p → OpClosed (Some f) l p → Asks o × Goes o
    op_tree o (Const y n) i is b =
        let t = subst (λ z. TypesFit leads {N = N} type_at z o.head) is.0.kind (typed.operations o i) in
        let q = constant_fold leads numbered type_at o.head y n is.0.kind is.0.results is.1 t in (
          to_fold leads numbered type_at k.of o.head y [] (Some (number_as leads (type_at y) n)) is.0.results (result_type o y i is.0.results) (of_kind leads numbered type_at o.head ops.Constant (λ z. has_interface z op.ConstFold) true is.0.kind refl) (ap (λ z. asked (map k.of z)) is.0.operands) q.0
              (number_below y n (is_value o y i (subst (Has y) (sym is.0.results) (inl refl))) q.1 b),
          stays_here o (of_kind leads numbered type_at o.head ops.Constant (λ z. has_interface z op.Branch) false is.0.kind refl),
        )
    op_tree o (Calc a w y x z) i is b = (step (asked (map k.of o.head.operands)) refl, stays_here o (of_kind leads numbered type_at o.head (kind_of a) (λ z. has_interface z op.Branch) false is.0.kind (arith_branch a)))
      where
        folds : kit.is_foldable o.head.content ≡ true
        folds = of_kind leads numbered type_at o.head (kind_of a) (λ z. has_interface z op.ConstFold) true is.0.kind (arith_folds a)

        step : (q : trees.Asked IntegerAttr) → asked (map k.of o.head.operands) ≡ q → Asks o
        step None e = subst (λ z. FoldClosed kit k.of o.head z (asked (map k.of o.head.operands))) (sym folds) (subst (λ z. FoldClosed kit k.of o.head true z) (sym e) tt)
        step (Some qs) e =
            let hx : Has x o.head.operands = subst (Has x) (sym is.0.operands) (inl refl) in
            let hz : Has z o.head.operands = subst (Has z) (sym is.0.operands) (inr (inl refl)) in
            let dx = det x (typed.operands o x i hx) (asked_none leads type_at k.of l.of o.head.operands qs e x hx) in
            let dz = det z (typed.operands o z i hz) (asked_none leads type_at k.of l.of o.head.operands qs e z hz) in
            let p = pair_of o a y x z i is.0.kind is.0.results is.0.operands dx dz in
            let value = is_value o y i (subst (Has y) (sym is.0.results) (inl refl)) in
            let width = width_is o y w i is.0.results is.1 in
            let under : flat.FactAtOrBelow (l.of y) (fold_known p.o) = subst (flat.FactAtOrBelow (l.of y)) (ap (λ u. folds_to a u (l.of x) (l.of z)) (sym width) ∙ p.numbers_fold) b in
            to_fold leads numbered type_at k.of o.head y p.qs (option_map (number_as leads (type_at y)) p.o) is.0.results (result_type o y i is.0.results) folds (ap (λ u. asked (map k.of u)) is.0.operands ∙ p.asks)
            (ap (λ u. fold_of u o.head.content.notes.attributes (type_at y ∷ []) p.qs) is.0.kind ∙ p.folds)
            (folded_tree y p.o value p.below under)
    op_tree o (Emit x) i is b = (
      none_folds leads numbered type_at k.of o.head (of_kind leads numbered type_at o.head ops.Emit (λ z. has_interface z op.ConstFold) false is.kind refl) (subst (AllAny k.of) (sym is.results) tt),
      stays_here o (of_kind leads numbered type_at o.head ops.Emit (λ z. has_interface z op.Branch) false is.kind refl),
    )
    op_tree o (Call rs d xs) i is b = (
      none_folds leads numbered type_at k.of o.head (of_kind leads numbered type_at o.head ops.Call (λ z. has_interface z op.ConstFold) false is.0.kind refl)
          (subst (AllAny k.of) (sym is.0.results) (unknown_any k.of l rs (λ v j. unknown_is v (is_value o v i (subst (Has v) (sym is.0.results) j))) b)),
      stays_here o (of_kind leads numbered type_at o.head ops.Call (λ z. has_interface z op.Branch) false is.0.kind refl),
    )
    op_tree o (Branch s xs e es) i is b =
        let q = branch_kind leads numbered type_at o.head (names_in bs) s xs e es is in (
          none_folds leads numbered type_at k.of o.head q.0 (subst (AllAny k.of) (sym q.2) tt),
          subst (λ z. trees.BranchClosed kit (block_occurrences_of (whole (kit_reading leads numbered) h bs f)) k o.head z (asked (map k.of o.head.operands))) (sym q.1)
              (branch_tree leads numbered h bs f given type_at typed k l runs o i (typed.operations o i) det order s xs e es is b),
        )
    op_tree o (Return xs) i is b = (
      none_folds leads numbered type_at k.of o.head (of_kind leads numbered type_at o.head ops.Return (λ z. has_interface z op.ConstFold) false is.kind refl) (subst (AllAny k.of) (sym is.results) tt),
      stays_here o (of_kind leads numbered type_at o.head ops.Return (λ z. has_interface z op.Branch) false is.kind refl),
    )

    entries_run : (ts : Tree N kit_contents Blocks) (ks : Fun N.value) → AreFlatBlocks (kit_reading leads numbered) (names_in bs) ts ks → ((b : N.block) → slice_get (names_in ts) 0 ≡ Some b → k.runs b ≡ true) → ((v : N.value) → Has v (arguments_in (Some ks) 0) → k.of v ≡ known.Any) → EntriesRun k ts
    entries_run end ks a r u = tt
    entries_run (block j os more) [] a r u = absurd a
    entries_run (block j os more) (q ∷ ks) a r u = (r j.name refl, all_any k.of (names_of j.arguments) (λ v i. u v (subst (Has v) a.0 i)))

    pub tree_closed : trees.IsClosed kit (whole (kit_reading leads numbered) h bs f) k
    tree_closed = record {
      entries = (entries_run bs f given.are (λ b e. sym (runs 0 b e) ∙ c.entry_runs) (λ v i. unknown_is v (entry_value v i) (each_unknown l (arguments_in (Some f) 0) c.entry_unknown v i)), tt);
      outside = outside;
      inside = λ o i running.
          let q = pair (kit_reading leads numbered) h bs f given o i in
          let closed = subst (λ z. OpsClosed (Some f) l (ops_left z 0)) q.at (c.ops q.place (runs q.place o.site.label.name q.name ∙ running)) in
          let both = op_tree o q.op i q.is (ops_closed (Some f) l q.k.ops closed q.op q.stands) in
          record { folds = both.0; goes = both.1; entries = subst (λ z. EntriesRun k z) (sym q.regions) tt };
    }

  module _ (det : (v : N.value) → IsValue v → (l.of v ≡ Undetermined → ⊥) → IsDet v)
      (order : (t g : N.value) → IsValue t → IsValue g → type_at g ≡ type_at t → tree.AtOrBelow (k.of t) (k.of g) → flat.FactAtOrBelow (l.of t) (l.of g))
      (number_below : (v : N.value) (n : ℕ) → IsValue v → n < 2 ^ width_at leads (type_at v) → tree.AtOrBelow (k.of v) (known.One (number_as leads (type_at v) n)) → flat.FactAtOrBelow (l.of v) (flat.Known n))
      (any_is : (v : N.value) → IsValue v → k.of v ≡ known.Any → l.of v ≡ Unknown)
      (empty : slice_get (names_in bs) 0 ≡ None → l.runs 0 ≡ true) (c : trees.IsClosed kit (whole (kit_reading leads numbered) h bs f) k) where
    -- a result that folds to this
    folded_flat : (y : N.value) (q : Option ℕ) → IsValue y → Below leads (type_at y) q → tree.AtOrBelow (k.of y) (answer (option_map (number_as leads (type_at y)) q)) → flat.FactAtOrBelow (l.of y) (fold_known q)
    folded_flat y None i b e = unknown_below (l.of y) Unknown (any_is y i (below_any (k.of y) e))
    folded_flat y (Some n) i b e = number_below y n i b e

    lacks_left : (a : Arith) (w : ℕ) (x z : Fact) → x ≡ Undetermined → folds_to a w x z ≡ Undetermined
    lacks_left a w x z e = ap (λ u. folds_to a w u z) e

    lacks_right : (a : Arith) (w : ℕ) (x z : Fact) → z ≡ Undetermined → folds_to a w x z ≡ Undetermined
    lacks_right a w Undetermined z e = refl
    lacks_right a w (flat.Known n) z e = ap (folds_to a w (flat.Known n)) e
    lacks_right a w Unknown z e = ap (folds_to a w Unknown) e

    lacks_or : (x : Fact) → (x ≡ Undetermined) ⊎ (x ≡ Undetermined → ⊥)
    lacks_or Undetermined = inl refl
    lacks_or (flat.Known n) = inr (λ e. cc e)
    lacks_or Unknown = inr (λ e. cc e)

    op_flat : (o : Occurrence N kit_contents) (p : Op N.value) → Whole o → EdgesOfOpFit (Some f) p → IsOp (kit_reading leads numbered) (names_in bs) o.head p → trees.OperationClosed kit (block_occurrences_of (whole (kit_reading leads numbered) h bs f)) k o → OpClosed (Some f) l p
    op_flat o (Const y n) i fits is b =
        let t = subst (λ z. TypesFit leads {N = N} type_at z o.head) is.0.kind (typed.operations o i) in
        let q = constant_fold leads numbered type_at o.head y n is.0.kind is.0.results is.1 t in
        number_below y n (is_value o y i (subst (Has y) (sym is.0.results) (inl refl))) q.1
        (from_fold leads numbered type_at k.of o.head y [] (Some (number_as leads (type_at y) n)) is.0.results (result_type o y i is.0.results) (of_kind leads numbered type_at o.head ops.Constant (λ z. has_interface z op.ConstFold) true is.0.kind refl) (ap (λ z. asked (map k.of z)) is.0.operands) q.0 b.folds)
    op_flat o (Calc a w y x z) i fits is b = step (lacks_or (l.of x)) (lacks_or (l.of z))
      where
        folds : kit.is_foldable o.head.content ≡ true
        folds = of_kind leads numbered type_at o.head (kind_of a) (λ z. has_interface z op.ConstFold) true is.0.kind (arith_folds a)

        step : (l.of x ≡ Undetermined) ⊎ (l.of x ≡ Undetermined → ⊥) → (l.of z ≡ Undetermined) ⊎ (l.of z ≡ Undetermined → ⊥) → flat.FactAtOrBelow (l.of y) (folds_to a w (l.of x) (l.of z))
        step (inl e) g = subst (flat.FactAtOrBelow (l.of y)) (sym (lacks_left a w (l.of x) (l.of z) e)) (below_top (l.of y))
        step (inr e) (inl g) = subst (flat.FactAtOrBelow (l.of y)) (sym (lacks_right a w (l.of x) (l.of z) g)) (below_top (l.of y))
        step (inr e) (inr g) =
            let hx : Has x o.head.operands = subst (Has x) (sym is.0.operands) (inl refl) in
            let hz : Has z o.head.operands = subst (Has z) (sym is.0.operands) (inr (inl refl)) in
            let dx = det x (typed.operands o x i hx) e in
            let dz = det z (typed.operands o z i hz) g in
            let p = pair_of o a y x z i is.0.kind is.0.results is.0.operands dx dz in
            let value = is_value o y i (subst (Has y) (sym is.0.results) (inl refl)) in
            let width = width_is o y w i is.0.results is.1 in
            let under = from_fold leads numbered type_at k.of o.head y p.qs (option_map (number_as leads (type_at y)) p.o) is.0.results (result_type o y i is.0.results) folds (ap (λ u. asked (map k.of u)) is.0.operands ∙ p.asks)
            (ap (λ u. fold_of u o.head.content.notes.attributes (type_at y ∷ []) p.qs) is.0.kind ∙ p.folds) b.folds in
            subst (flat.FactAtOrBelow (l.of y)) (sym (ap (λ u. folds_to a u (l.of x) (l.of z)) (sym width) ∙ p.numbers_fold)) (folded_flat y p.o value p.below under)
    op_flat o (Emit x) i fits is b = tt
    op_flat o (Call rs d xs) i fits is b =
        any_unknown k.of l rs (λ v j. any_is v (is_value o v i (subst (Has v) (sym is.0.results) j)))
        (subst (AllAny k.of) is.0.results (some_any leads numbered type_at k.of o.head (of_kind leads numbered type_at o.head ops.Call (λ z. has_interface z op.ConstFold) false is.0.kind refl) b.folds))
    op_flat o (Branch s xs e es) i fits is b =
        let q = branch_kind leads numbered type_at o.head (names_in bs) s xs e es is in
        branch_flat leads numbered h bs f given type_at typed k l runs o i (typed.operations o i) det order s xs e es is fits
        (subst (λ z. trees.BranchClosed kit (block_occurrences_of (whole (kit_reading leads numbered) h bs f)) k o.head z (asked (map k.of o.head.operands))) q.1 b.goes)
    op_flat o (Return xs) i fits is b = tt

    first_runs : (ts : Tree N kit_contents Blocks) → EntriesRun k ts → (b : N.block) → slice_get (names_in ts) 0 ≡ Some b → k.runs b ≡ true
    first_runs end r b e = absurd (none_some b e)
    first_runs (block j os more) r b e = ap k.runs (sym (some_same j.name b e)) ∙ r.0

    first_any : (ts : Tree N kit_contents Blocks) (ks : Fun N.value) → AreFlatBlocks (kit_reading leads numbered) (names_in bs) ts ks → EntriesRun k ts → (v : N.value) → Has v (arguments_in (Some ks) 0) → k.of v ≡ known.Any
    first_any end [] a r v i = absurd i
    first_any end (q ∷ ks) a r v i = absurd a
    first_any (block j os more) [] a r v i = absurd a
    first_any (block j os more) (q ∷ ks) a r v i = each_any k.of (names_of j.arguments) r.1 v (subst (Has v) (sym a.0) i)

    entry_runs : l.runs 0 ≡ true
    entry_runs = step (slice_get (names_in bs) 0) refl
      where
        step : (o : Option N.block) → slice_get (names_in bs) 0 ≡ o → l.runs 0 ≡ true
        step None e = empty e
        step (Some b) e = runs 0 b e ∙ first_runs bs c.entries.0 b e

    block_closed : (b : ℕ) → l.runs b ≡ true → (o : Option (Block N.value)) → slice_get f b ≡ o → OpsClosed (Some f) l (ops_left o 0)
    block_closed b running None e = tt
    block_closed b running (Some q) e = all_closed (Some f) l q.ops (λ p i.
        let w = back (kit_reading leads numbered) h bs f given b q p e i in
        op_flat w.it p w.stands (edges_fit (Some f) f given.edges b q e p i) w.is (c.inside w.it w.stands (sym (runs b w.it.site.label.name w.name) ∙ running)))

    pub flat_closed : flat.AreClosedFacts (Some f) l
    flat_closed = record {
      entry_runs = entry_runs;
      entry_unknown = all_unknown l (arguments_in (Some f) 0) (λ v i. any_is v (entry_value v i) (first_any bs f given.are c.entries.0 v i));
      ops = λ b running. block_closed b running (slice_get f b) refl;
    }
