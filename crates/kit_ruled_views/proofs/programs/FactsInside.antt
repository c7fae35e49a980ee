-- The most precise facts of the tree of a module, of one function: they are the most precise facts of the function.
use Rattle.std.proofs.Common.{◌≡◌, ⊎_elim, inl, inr, ℕ, Bool, true, false, List, [], ◌∷◌, ◌++◌, map, Option, Some, None}
use Rattle.std.proofs.Common.{refl, sym, ap, ◌∙◌, subst}
use Rattle.std.specs.Prelude.{slice_get, ◌&&◌, if◌then◌else◌, length}
use Rattle.ir_base.specs.declared.types.TypeHandle.{TypeHandle}
use Rattle.ir_trees.specs.Names.{Names}
use Rattle.ir_trees.specs.Renames.{names_of}
use Rattle.ir_trees.specs.Trees.{Head, Sort, Blocks, Regions, Tree, end, operation, block, region, Root}
use Rattle.opt_rows.specs.declared.known.Known.{Known}
use Rattle.opt_rows.specs.declared.known.Known.TheVariants.{Any}
use Rattle.opt_rows.specs.Known.{AtOrBelow, asked, AllBelow, AllAny}
use Rattle.opt_trees.specs.Facts.{Facts, Asked, FoldClosed, EdgeClosed, BranchClosed, forwarded, EntriesRun, OperationClosed, IsClosed}
use Rattle.opt_trees.specs.Occurrences.{Has, Occurrence, BlockOccurrence, Inside, next_region, cons_if, picks, block_occurrences_in, occurrences_of, block_occurrences_of, at_root, defined_in}
use Rattle.opt_trees.proofs.Defined.{result_defined, argument_defined}
use Rattle.opt_trees.proofs.Homes.{spot_at}
use Rattle.opt_trees.proofs.NoneDead.{has-left, has-right}
use Rattle.kit_ops.specs.declared.attributes.IntegerAttr.{IntegerAttr}
use Rattle.kit_ops.specs.declared.types.KitType.{KitType}
use Rattle.kit.specs.Meaning.{kit}
use Rattle.kit_behaviour.specs.Scopes.{is_in}
use Rattle.kit_views.specs.FlatView.{names_in}
use Rattle.kit_views.specs.Reading.{kit_contents}
use Rattle.kit_views.proofs.Lists.{has_get}
use Rattle.kit_ruled_views.specs.ProgramLaws.{AreTold}
use Rattle.kit_ruled_views.specs.Sound.{tree_of, IsSound}
use Rattle.kit_ruled_views.proofs.programs.Inside.{Function, up, up_block, there, block_there, pair, block_pair}
use Rattle.kit_ruled_views.proofs.programs.Inside.{same_up_block, maker_up, taker_up}
use Rattle.kit_ruled_views.proofs.programs.Restricted.{has_is, is_has, left_true}
use Rattle.kit_ruled_views.proofs.programs.SuccessorsInside.{successor_inside, target_inside, block_of_name}

-- facts that agree on some values say the same of them

module _ {V : Type 0} (f g : V → Known IntegerAttr) where
  any_same : (vs : List V) → ((v : V) → Has v vs → g v ≡ f v) → AllAny f vs → AllAny g vs
  any_same [] h a = tt
  any_same (v ∷ vs) h a = (h v (inl refl) ∙ a.0, any_same vs (λ x i. h x (inr i)) a.1)

  below_same : (vs : List V) (ys : List (Known IntegerAttr)) → ((v : V) → Has v vs → g v ≡ f v) → AllBelow f vs ys →
      AllBelow g vs ys
  below_same [] ys h a = tt
  below_same (v ∷ vs) [] h a = tt
  below_same (v ∷ vs) (y ∷ ys) h a =
      (subst (λ z. AtOrBelow z y) (sym (h v (inl refl))) a.0, below_same vs ys (λ x i. h x (inr i)) a.1)

  map_same : (vs : List V) → ((v : V) → Has v vs → g v ≡ f v) → map g vs ≡ map f vs
  map_same [] h = refl
  map_same (v ∷ vs) h = λ i. h v (inl refl) i ∷ map_same vs (λ x m. h x (inr m)) i

below_any : {V : Type 0} (f : V → Known IntegerAttr) (vs : List V) (ys : List (Known IntegerAttr)) → AllAny f vs →
    AllBelow f vs ys
below_any f [] ys a = tt
below_any f (v ∷ vs) [] a = tt
below_any f (v ∷ vs) (y ∷ ys) a = (subst (λ z. AtOrBelow z y) (sym a.0) tt, below_any f vs ys a.1)

picks_has : {X : Type 0} (xs : List X) (is : List ℕ) (x : X) → Has x (picks xs is) → Has x xs
picks_has xs [] x h = absurd h
picks_has {X} xs (i ∷ is) x h = by_get (slice_get xs i) refl h (picks_has xs is x)
  where
    by_get : (o : Option X) → slice_get xs i ≡ o → Has x (cons_if o (picks xs is)) → (Has x (picks xs is) → Has x xs) →
        Has x xs
    by_get None e k ih = ih k
    by_get (Some y) e k ih = ⊎_elim (λ q. subst (λ z. Has z xs) (sym q) (has_get xs i y e)) ih k

module _ {N : Names} (f g : N.value → Known IntegerAttr) where
  fold_at : (h : Head N kit_contents) (b : Bool) (q : Asked IntegerAttr) →
      ((v : N.value) → Has v (names_of h.results) → g v ≡ f v) → FoldClosed kit f h b q → FoldClosed kit g h b q
  fold_at h false q r c = any_same f g (names_of h.results) r c
  fold_at h true None r c = tt
  fold_at h true (Some xs) r c = below_same f g (names_of h.results) _ r c

fold_any : {N : Names} (g : N.value → Known IntegerAttr) (h : Head N kit_contents) (b : Bool) (q : Asked IntegerAttr) →
    AllAny g (names_of h.results) → FoldClosed kit g h b q
fold_any g h false q a = a
fold_any g h true None a = tt
fold_any g h true (Some xs) a = below_any g (names_of h.results) _ a

-- what edges ask, from here to there
module _ {N : Names} (bs cs : List (BlockOccurrence N kit_contents)) (k l : Facts N IntegerAttr)
    (h : Head N kit_contents) where
  branch_at : (b : Bool) (q : Asked IntegerAttr) →
      ((i : ℕ) (b : N.block) → slice_get h.successors i ≡ Some b → EdgeClosed kit bs k h i b →
      EdgeClosed kit cs l h i b) →
      BranchClosed kit bs k h b q → BranchClosed kit cs l h b q
  branch_at false q e c = tt
  branch_at true None e c = tt
  branch_at true (Some xs) e c = λ i b s f. e i b s (c i b s f)

branch_any : {N : Names} (cs : List (BlockOccurrence N kit_contents)) (l : Facts N IntegerAttr)
    (h : Head N kit_contents) (b : Bool) (q : Asked IntegerAttr) →
    ((i : ℕ) (b : N.block) → slice_get h.successors i ≡ Some b → EdgeClosed kit cs l h i b) →
    BranchClosed kit cs l h b q
branch_any cs l h false q e = tt
branch_any cs l h true None e = tt
branch_any cs l h true (Some xs) e = λ i b s f. e i b s

-- the entries of regions run where each block of them does
module _ {N : Names} (k : Facts N IntegerAttr) where
  pub entries_from : {s : Sort} (t : Tree N kit_contents s) (c : Inside N kit_contents s) →
      ((x : BlockOccurrence N kit_contents) → Has x (block_occurrences_in t c) → x.spot.owner ≡ (spot_at s c).owner →
      (k.runs x.label.name ≡ true) × AllAny k.of (names_of x.label.arguments)) → EntriesRun k t
  entries_from end c h = tt
  entries_from (operation g rs rest) c h = tt
  entries_from (block l ops rest) c h = h (record { spot = c; label = l; operations = ops }) (inl refl) refl
  entries_from (region bs rest) c h = (
    entries_from bs c (λ x i e. h x (has-left x (block_occurrences_in bs c) (block_occurrences_in rest (next_region
        c)) i) e),
    entries_from rest (next_region c)
        (λ x i e. h x (has-right x (block_occurrences_in bs c) (block_occurrences_in rest (next_region c)) i) e),
  )

-- the entry of a function's one region, by facts that agree
module _ {N : Names} (k l : Facts N IntegerAttr) where
  entry_same : (bs : Tree N kit_contents Blocks) → ((b : N.block) → Has b (names_in bs) → l.runs b ≡ k.runs b) →
      ((v : N.value) → Has v (defined_in bs) → l.of v ≡ k.of v) → EntriesRun k bs → EntriesRun l bs
  entry_same end r o e = tt
  entry_same (block g ops rest) r o e = (
    r g.name (inl refl) ∙ e.0,
    any_same k.of l.of (names_of g.arguments)
        (λ v i. o v (has-left v (names_of g.arguments) (defined_in ops ++ defined_in rest) i)) e.1,
  )

  pub entries_same : (rs : Tree N kit_contents Regions) (bs : Tree N kit_contents Blocks) → rs ≡ region bs end →
      ((b : N.block) → Has b (names_in bs) → l.runs b ≡ k.runs b) →
      ((v : N.value) → Has v (defined_in rs) → l.of v ≡ k.of v) → EntriesRun k rs → EntriesRun l rs
  entries_same rs bs e r o h =
      subst (EntriesRun l) (sym e) (
        entry_same bs r
            (λ v i. o v (subst (λ z. Has v (defined_in z)) (sym e) (has-left v (defined_in bs) [] i)))
            (subst (EntriesRun k) e h).0,
        tt,
      )

module _ {N : Names} (told : AreTold N) (leads : TypeHandle → Option KitType) (numbered : List ℕ → ℕ)
    (type_at : N.value → TypeHandle) (t : Root N kit_contents) (sound : IsSound {N = N} leads numbered type_at t)
    (o : Occurrence N kit_contents) (function : Function {N = N} leads numbered type_at t sound o) where
  abbrev Op : Type 0
  Op = Occurrence N kit_contents

  abbrev Bl : Type 0
  Bl = BlockOccurrence N kit_contents

  abbrev u : Root N kit_contents
  u = tree_of o

  abbrev bs : Tree N kit_contents Blocks
  bs = function.sound_function.is_flat.view.blocks

  abbrev lifted_op : Op → Op
  lifted_op = up {N = N} leads numbered type_at t sound o

  abbrev lifted_block : Bl → Bl
  lifted_block = up_block {N = N} leads numbered type_at t sound o

  pub block_named : (x : Bl) → Has x (block_occurrences_of u) → Has x.label.name (names_in bs)
  block_named x h =
      let q = block_pair {N = N} leads numbered type_at t sound o function x h in
      has_get (names_in bs) q.place x.label.name q.same.name

  pub op_named : (p : Op) → Has p (occurrences_of u) → Has p.site.label.name (names_in bs)
  op_named p h =
      let q = pair {N = N} leads numbered type_at t sound o function p h in
      has_get (names_in bs) q.place p.site.label.name q.name

  operand_defined : (p : Op) → Has p (occurrences_of u) → (v : N.value) → Has v p.head.operands →
      Has v (defined_in o.regions)
  operand_defined p h v i = function.sound_function.is_typed.operands p v h i

  -- facts of the module and facts of the function that agree on the function
  module _ (k l : Facts N IntegerAttr) (of : (v : N.value) → Has v (defined_in o.regions) → l.of v ≡ k.of v)
      (runs : (b : N.block) → Has b (names_in bs) → l.runs b ≡ k.runs b) where
    folds_down : (p : Op) → Has p (occurrences_of u) →
        FoldClosed kit k.of p.head (kit.is_foldable p.head.content) (asked (map k.of p.head.operands)) →
        FoldClosed kit l.of p.head (kit.is_foldable p.head.content) (asked (map l.of p.head.operands))
    folds_down p h c =
        subst (λ z. FoldClosed kit l.of p.head (kit.is_foldable p.head.content) (asked z))
        (sym (map_same k.of l.of p.head.operands (λ v i. of v (operand_defined p h v i))))
        (fold_at {N = N} k.of l.of p.head (kit.is_foldable p.head.content) (asked (map k.of p.head.operands))
        (λ v i. of v (result_defined o.regions (at_root u) p v h i)) c)

    given_same : (p : Op) → Has p (occurrences_of u) → (i : ℕ) → map l.of (forwarded kit p.head i) ≡ map k.of
        (forwarded kit p.head i)
    given_same p h i =
        map_same k.of l.of (forwarded kit p.head i)
        (λ v m. of v (operand_defined p h v
        (picks_has p.head.operands (kit.forwards p.head.content (length p.head.operands) i) v m)))

    edge_down : (p : Op) → Has p (occurrences_of u) → (i : ℕ) (b : N.block) → slice_get p.head.successors i ≡ Some b →
        EdgeClosed kit (block_occurrences_of t) k p.head i b → EdgeClosed kit (block_occurrences_of u) l p.head i b
    edge_down p h i b s c =
        let x = successor_inside {N = N} leads numbered type_at t sound o function p h b
        (has_get p.head.successors i b s) in
        record {
          target = runs b (subst (λ z. Has z (names_in bs)) x.2 (block_named x.0 x.1)) ∙ c.target;
          arguments = λ y hy e.
              subst (AllBelow l.of (names_of y.label.arguments)) (sym (given_same p h i))
              (below_same k.of l.of (names_of y.label.arguments) (map k.of (forwarded kit p.head i))
              (λ v m. of v (argument_defined o.regions (at_root u) y v hy m))
              (c.arguments (lifted_block y) (block_there {N = N} leads numbered type_at t sound o function y hy) e));
        }

    pub closed_down : (p : Op) → Has p (occurrences_of u) → OperationClosed kit (block_occurrences_of t) k (lifted_op
        p) →
        OperationClosed kit (block_occurrences_of u) l p
    closed_down p h c = record {
      folds = folds_down p h c.folds;
      goes = subst (λ z. BranchClosed kit (block_occurrences_of u) l p.head (kit.is_branch p.head.content) (asked z))
          (sym (map_same k.of l.of p.head.operands (λ v i. of v (operand_defined p h v i))))
          (branch_at (block_occurrences_of t) (block_occurrences_of u) k l p.head (kit.is_branch p.head.content)
          (asked (map k.of p.head.operands)) (edge_down p h) c.goes);
      entries = subst (EntriesRun l) (sym (pair {N = N} leads numbered type_at t sound o function p h).regions) tt;
    }

    -- and back
    back_of : (v : N.value) → Has v (defined_in o.regions) → k.of v ≡ l.of v
    back_of v i = sym (of v i)

    edge_up : (p : Op) → Has p (occurrences_of u) → (i : ℕ) (b : N.block) → slice_get p.head.successors i ≡ Some b →
        EdgeClosed kit (block_occurrences_of u) l p.head i b → EdgeClosed kit (block_occurrences_of t) k p.head i b
    edge_up p h i b s c =
        let x = successor_inside {N = N} leads numbered type_at t sound o function p h b
        (has_get p.head.successors i b s) in
        record {
          target = sym (runs b (subst (λ z. Has z (names_in bs)) x.2 (block_named x.0 x.1))) ∙ c.target;
          arguments = λ y hy e.
              let same = same_up_block {N = N} leads numbered type_at t sound o function x.0 y x.1 hy (e ∙ sym x.2) in
              subst (λ (z : Bl). AllBelow k.of (names_of z.label.arguments) (map k.of (forwarded kit p.head i))) same
              (subst (AllBelow k.of (names_of x.0.label.arguments)) (given_same p h i)
              (below_same l.of k.of (names_of x.0.label.arguments) (map l.of (forwarded kit p.head i))
              (λ v m. back_of v (argument_defined o.regions (at_root u) x.0 v x.1 m)) (c.arguments x.0 x.1 x.2)));
        }

    pub closed_up : (p : Op) → Has p (occurrences_of u) → OperationClosed kit (block_occurrences_of u) l p →
        OperationClosed kit (block_occurrences_of t) k (lifted_op p)
    closed_up p h c = record {
      folds = subst (λ z. FoldClosed kit k.of p.head (kit.is_foldable p.head.content) (asked z))
          (map_same k.of l.of p.head.operands (λ v i. of v (operand_defined p h v i)))
          (fold_at {N = N} l.of k.of p.head (kit.is_foldable p.head.content) (asked (map l.of p.head.operands))
          (λ v i. back_of v (result_defined o.regions (at_root u) p v h i)) c.folds);
      goes = subst (λ z. BranchClosed kit (block_occurrences_of t) k p.head (kit.is_branch p.head.content) (asked z))
          (map_same k.of l.of p.head.operands (λ v i. of v (operand_defined p h v i)))
          (branch_at (block_occurrences_of u) (block_occurrences_of t) l k p.head (kit.is_branch p.head.content)
          (asked (map l.of p.head.operands)) (edge_up p h) c.goes);
      entries = subst (EntriesRun k) (sym (pair {N = N} leads numbered type_at t sound o function p h).regions) tt;
    }

  -- the facts of the module, of the function alone
  abbrev in_block : N.block → Bool
  in_block b = is_in told.block b (names_in bs)

  abbrev in_value : N.value → Bool
  in_value v = is_in told.value v (defined_in o.regions)

  abbrev pub facts_in : Facts N IntegerAttr → Facts N IntegerAttr
  facts_in k = record { runs = λ b. k.runs b && in_block b; of = λ v. if in_value v then k.of v else Any }

  -- facts of the function, of the module: elsewhere all may be
  abbrev pub facts_out : Facts N IntegerAttr → Facts N IntegerAttr
  facts_out l = record {
    runs = λ b. if in_block b then l.runs b else true;
    of = λ v. if in_value v then l.of v else Any;
  }

  pub value_here : (v : N.value) → Has v (defined_in o.regions) → in_value v ≡ true
  value_here v i = has_is told.value told.values v (defined_in o.regions) i

  block_here : (b : N.block) → Has b (names_in bs) → in_block b ≡ true
  block_here b i = has_is told.block told.blocks b (names_in bs) i

  and_true : (a b : Bool) → b ≡ true → a && b ≡ a
  and_true true b e = e
  and_true false b e = refl

  pub in_of : (k : Facts N IntegerAttr) (v : N.value) → Has v (defined_in o.regions) → (facts_in k).of v ≡ k.of v
  in_of k v i = ap (λ b. if b then k.of v else Any) (value_here v i)

  pub in_runs : (k : Facts N IntegerAttr) (b : N.block) → Has b (names_in bs) → (facts_in k).runs b ≡ k.runs b
  in_runs k b i = and_true (k.runs b) (in_block b) (block_here b i)

  pub out_of : (l : Facts N IntegerAttr) (v : N.value) → Has v (defined_in o.regions) → l.of v ≡ (facts_out l).of v
  out_of l v i = ap (λ b. if b then l.of v else Any) (sym (value_here v i))

  pub out_runs : (l : Facts N IntegerAttr) (b : N.block) → Has b (names_in bs) → l.runs b ≡ (facts_out l).runs b
  out_runs l b i = ap (λ b'. if b' then l.runs b else true) (sym (block_here b i))

  pub closed_in : (k : Facts N IntegerAttr) → IsClosed kit t k → k.runs o.site.label.name ≡ true →
      IsClosed kit u (facts_in k)
  closed_in k c running = record {
    entries = entries_same {N = N} k (facts_in k) o.regions bs function.sound_function.is_flat.view.region (in_runs k)
        (in_of k) (c.inside o function.stands running).entries;
    outside = λ v none. by_test v none (in_value v) refl;
    inside = λ p h r. closed_down k (facts_in k) (in_of k) (in_runs k) p h
        (c.inside (lifted_op p) (there {N = N} leads numbered type_at t sound o function p h)
        (left_true (k.runs p.site.label.name) (in_block p.site.label.name) r));
  }
    where
      by_test : (v : N.value) → (Has v (defined_in o.regions) → ⊥) → (b : Bool) → in_value v ≡ b →
          (if in_value v then k.of v else Any) ≡ Any
      by_test v none true e = absurd (none (is_has told.value told.values v (defined_in o.regions) e))
      by_test v none false e = ap (λ b. if b then k.of v else Any) e

  -- a block of the module that is no block of the function
  pub foreign : (l : Facts N IntegerAttr) (x : Bl) → Has x (block_occurrences_of t) →
      ((y : Bl) → Has y (block_occurrences_of u) → lifted_block y ≡ x → ⊥) →
      ((facts_out l).runs x.label.name ≡ true) × AllAny (facts_out l).of (names_of x.label.arguments)
  foreign l x hx none = (runs_there (in_block x.label.name) refl, any_there (names_of x.label.arguments) (λ v i. i))
    where
      runs_there : (b : Bool) → in_block x.label.name ≡ b → (if in_block x.label.name then l.runs x.label.name else
          true)
          ≡ true
      runs_there false e = ap (λ b. if b then l.runs x.label.name else true) e
      runs_there true e =
          let y = block_of_name {N = N} leads numbered type_at t sound
          o function x.label.name (is_has told.block told.blocks x.label.name (names_in bs) e) in
          absurd (none y.0 y.1 (same_up_block {N = N} leads numbered type_at t sound o function y.0 x y.1 hx (sym y.2)))

      any_here : (v : N.value) → Has v (names_of x.label.arguments) → (b : Bool) → in_value v ≡ b →
          (if in_value v then l.of v else Any) ≡ Any
      any_here v i false e = ap (λ b. if b then l.of v else Any) e
      any_here v i true e =
          let y = taker_up {N = N} leads numbered type_at t sound o function x v hx i
          (is_has told.value told.values v (defined_in o.regions) e) in
          absurd (none y.0 y.1 y.2)

      any_there : (vs : List N.value) → ((v : N.value) → Has v vs → Has v (names_of x.label.arguments)) →
          AllAny (facts_out l).of vs
      any_there [] h = tt
      any_there (v ∷ vs) h = (any_here v (h v (inl refl)) (in_value v) refl, any_there vs (λ w i. h w (inr i)))

  -- an operation of the module that stands not in the function
  module _ (l : Facts N IntegerAttr) (q : Op) (hq : Has q (occurrences_of t))
      (none : (p : Op) → Has p (occurrences_of u) → lifted_op p ≡ q → ⊥) where
    results_any : (vs : List N.value) → ((v : N.value) → Has v vs → Has v (names_of q.head.results)) →
        AllAny (facts_out l).of vs
    results_any [] h = tt
    results_any (v ∷ vs) h = (any_here v (h v (inl refl)) (in_value v) refl, results_any vs (λ w i. h w (inr i)))
      where
        any_here : (v : N.value) → Has v (names_of q.head.results) → (b : Bool) → in_value v ≡ b →
            (if in_value v then l.of v else Any) ≡ Any
        any_here v i false e = ap (λ b. if b then l.of v else Any) e
        any_here v i true e =
            let p = maker_up {N = N} leads numbered type_at t sound o function q v hq i
            (is_has told.value told.values v (defined_in o.regions) e) in
            absurd (none p.0 p.1 p.2)

    edge_out : (i : ℕ) (b : N.block) → slice_get q.head.successors i ≡ Some b →
        EdgeClosed kit (block_occurrences_of t) (facts_out l) q.head i b
    edge_out i b s = record {
      target = runs_there (in_block b) refl;
      arguments = λ x hx e. below_any (facts_out l).of (names_of x.label.arguments)
          (map (facts_out l).of (forwarded kit q.head i))
          (foreign l x hx (λ y hy same.
          none_by y hy (subst (λ z. Has z q.head.successors) (sym (ap (λ (z : Bl). z.label.name) same ∙ e))
          (has_get q.head.successors i b s)))).1;
    }
      where
        none_by : (y : Bl) → Has y (block_occurrences_of u) → Has y.label.name q.head.successors → ⊥
        none_by y hy m =
            let p = target_inside {N = N} leads numbered type_at t sound o function q hq y hy m in none p.0 p.1 p.2

        runs_there : (c : Bool) → in_block b ≡ c → (if in_block b then l.runs b else true) ≡ true
        runs_there false e = ap (λ c. if c then l.runs b else true) e
        runs_there true e =
            let y = block_of_name {N = N} leads numbered type_at t
            sound o function b (is_has told.block told.blocks b (names_in bs) e) in
            absurd (none_by y.0 y.1 (subst (λ z. Has z q.head.successors) (sym y.2) (has_get q.head.successors i b s)))

    pub closed_elsewhere : EntriesRun (facts_out l) q.regions →
        OperationClosed kit (block_occurrences_of t) (facts_out l) q
    closed_elsewhere entries = record {
      folds = fold_any {N = N} (facts_out l).of q.head (kit.is_foldable q.head.content)
          (asked (map (facts_out l).of q.head.operands)) (results_any (names_of q.head.results) (λ v i. i));
      goes = branch_any (block_occurrences_of t) (facts_out l) q.head (kit.is_branch q.head.content)
          (asked (map (facts_out l).of q.head.operands)) edge_out;
      entries = entries;
    }
