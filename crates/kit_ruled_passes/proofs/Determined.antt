-- By the most precise facts no operand is undetermined in a block that runs, where operands are in scope: else fewer
-- blocks would do.
use Rattle.std.proofs.Common.{◌≡◌, ◌⊎◌, inl, inr, ⊎_elim, ℕ, Bool, true, false, List, [], ◌∷◌, map, length}
use Rattle.std.proofs.Common.{Option, Some, None, slice_get, refl, sym, ap, ◌∙◌, subst, arith}
use Rattle.std.specs.Prelude.{◌&&◌, if◌then◌else◌}
use Rattle.std.proofs.lemmas.Bool.{false≢true}
use Rattle.ir_program.specs.Replacing.{same_block}
use Rattle.ir_program.specs.declared.handles.BasicBlock.{BasicBlock}
use Rattle.ir_program.specs.declared.handles.Ptr.{Ptr}
use Rattle.ir_program.specs.declared.handles.Value.{Value}
use Rattle.ir_trees.specs.Renames.{names_of}
use Rattle.ir_trees.specs.Stands.{by_handle}
use Rattle.ir_trees.specs.Trees.{Sort, Operations, Blocks, Regions, end, operation, block, region}
use Rattle.kit.specs.Context.{KitTree}
use Rattle.opt_inside.proofs.Closed.{blocks_below}
use Rattle.opt_rows.specs.declared.known.Known.{Known}
use Rattle.opt_rows.specs.declared.known.Known.TheVariants.{Undetermined, One, Any}
use Rattle.opt_rows.specs.Known.{AtOrBelow, AllBelow, AllAny, and_known, asked, answer}
use Rattle.opt_trees.specs.Facts.{Facts, Asked, FoldClosed, BranchClosed, IsClosed, IsMostPrecise, IsLacking, EntriesRun, forwarded}
use Rattle.opt_trees.specs.Occurrences.{Has, inner, next_block, next_region, at_root, occurrences_in, occurrences_of, block_occurrences_in, block_occurrences_of, types_of}
use Rattle.opt_trees.proofs.NoneDead.{has-append, has-left, has-right}
use Rattle.std.proofs.lemmas.List.{length-map}
use Rattle.kit.specs.Lawful.{kit_lawful}
use Rattle.kit.specs.Meaning.{kit}
use Rattle.kit_ops.specs.declared.attributes.IntegerAttr.{IntegerAttr}
use Rattle.kit_views.proofs.Uses.{and_left, and_right}
use Rattle.kit_ruled_views.proofs.HandleSameness.{blocks_apart}
use Rattle.kit_ruled_passes.specs.Scopes.{Part, KitLabel, IsResultHere, IsOfBlock, IsNone}
use Rattle.kit_ruled_passes.proofs.OrderedScopes.{AreBare, Ordered}
use Rattle.kit_ruled_passes.proofs.ScopesAfter.{picks_has}
use Rattle.kit_ruled_passes.proofs.ScopeUses.{KitOccurrence, KitBlockOccurrence, Where}

abbrev pub KnownValue : Type 0
KnownValue = Known IntegerAttr

abbrev is_det : KnownValue → Bool
is_det Undetermined = false
is_det (One a) = true
is_det Any = true

det_below : (x y : KnownValue) → AtOrBelow x y → is_det y ≡ true → is_det x ≡ true
det_below Any y h d = refl
det_below (One a) y h d = refl
det_below Undetermined Undetermined h d = d
det_below Undetermined (One b) h d = absurd h
det_below Undetermined Any h d = absurd h

both_true : (b c : Bool) → b ≡ true → c ≡ true → b && c ≡ true
both_true true c hb hc = hc
both_true false c hb hc = hb

det_answer : (o : Option IntegerAttr) → is_det (answer o) ≡ true
det_answer None = refl
det_answer (Some a) = refl

module _ (of : Value → KnownValue) where
  abbrev pub Det : Value → Type 0
  Det v = is_det (of v) ≡ true

  abbrev pub AllDet : List Value → Type 0
  AllDet vs = (v : Value) → Has v vs → Det v

  abbrev all_det : List Value → Bool
  all_det [] = true
  all_det (v ∷ vs) = is_det (of v) && all_det vs

  det_all : (vs : List Value) → all_det vs ≡ true → AllDet vs
  det_all [] h v has = absurd has
  det_all (x ∷ vs) h v has = ⊎_elim
      (λ e. ap (λ z. is_det (of z)) e ∙ and_left (is_det (of x)) (all_det vs) h)
      (λ more. det_all vs (and_right (is_det (of x)) (all_det vs) h) v more)
      has

  all_of_det : (vs : List Value) → AllDet vs → all_det vs ≡ true
  all_of_det [] d = refl
  all_of_det (x ∷ vs) d = both_true (is_det (of x)) (all_det vs) (d x (inl refl)) (all_of_det vs (λ v i. d v (inr i)))

  any_det : (vs : List Value) → AllAny of vs → AllDet vs
  any_det [] q v has = absurd has
  any_det (x ∷ vs) q v has =
      ⊎_elim (λ e. ap (λ z. is_det (of z)) e ∙ ap is_det q.0) (λ more. any_det vs q.1 v more) has

  below_all : (vs : List Value) (ys : List KnownValue) → AllBelow of vs ys → length ys ≡ length vs
      → ((y : KnownValue) → Has y ys → is_det y ≡ true) → AllDet vs
  below_all [] ys q n d v has = absurd has
  below_all (x ∷ vs) [] q n d v has = absurd (omega (arith, n))
  below_all (x ∷ vs) (y ∷ ys) q n d v has = ⊎_elim
      (λ e. ap (λ z. is_det (of z)) e ∙ det_below (of x) y q.0 (d y (inl refl)))
      (λ more. below_all vs ys q.1 (omega (arith, n)) (λ z i. d z (inr i)) v more)
      has

  mapped_det : (vs : List Value) → AllDet vs → (y : KnownValue) → Has y (map of vs) → is_det y ≡ true
  mapped_det [] d y has = absurd has
  mapped_det (x ∷ vs) d y has = ⊎_elim
      (λ e. ap is_det e ∙ d x (inl refl))
      (λ more. mapped_det vs (λ v i. d v (inr i)) y more)
      has

  answers_det : (os : List (Option IntegerAttr)) (y : KnownValue) → Has y (map answer os) → is_det y ≡ true
  answers_det [] y has = absurd has
  answers_det (o ∷ os) y has = ⊎_elim (λ e. ap is_det e ∙ det_answer o) (λ more. answers_det os y more) has

  -- where something is asked, all operands are determined; and where they are, something is
  known_first : (x : KnownValue) (q : Asked IntegerAttr) (xs : List (Option IntegerAttr)) → and_known x q ≡ Some xs
      → (is_det x ≡ true) × ((ys : List (Option IntegerAttr)) × (q ≡ Some ys))
  known_first Undetermined q xs h = cc
  known_first (One a) None xs h = cc
  known_first (One a) (Some ys) xs h = (refl, (ys, refl))
  known_first Any None xs h = cc
  known_first Any (Some ys) xs h = (refl, (ys, refl))

  asked_det : (vs : List Value) (xs : List (Option IntegerAttr)) → asked (map of vs) ≡ Some xs → AllDet vs
  asked_det [] xs h v has = absurd has
  asked_det (x ∷ vs) xs h v has =
      let q = known_first (of x) (asked (map of vs)) xs h in
      ⊎_elim (λ e. ap (λ z. is_det (of z)) e ∙ q.0) (λ more. asked_det vs q.1.0 q.1.1 v more) has

  and_some : (x : KnownValue) (q : Asked IntegerAttr) (xs : List (Option IntegerAttr)) → is_det x ≡ true → q ≡ Some xs
      → (ys : List (Option IntegerAttr)) × (and_known x q ≡ Some ys)
  and_some Undetermined q xs d h = absurd (false≢true d)
  and_some (One a) q xs d h = (Some a ∷ xs, ap (and_known (One a)) h)
  and_some Any q xs d h = (None ∷ xs, ap (and_known Any) h)

  det_asked : (vs : List Value) → AllDet vs → (xs : List (Option IntegerAttr)) × (asked (map of vs) ≡ Some xs)
  det_asked [] d = ([], refl)
  det_asked (x ∷ vs) d =
      let q = det_asked vs (λ v i. d v (inr i)) in
      and_some (of x) (asked (map of vs)) q.0 (d x (inl refl)) q.1

  -- ---- arguments of blocks, by the blocks' names

  abbrev args_det : List KitBlockOccurrence → Ptr BasicBlock → Bool
  args_det [] b = true
  args_det (y ∷ ys) b =
      (if same_block y.label.name b then all_det (names_of y.label.arguments) else true) && args_det ys b

  args_found : (ys : List KitBlockOccurrence) (b : Ptr BasicBlock) → args_det ys b ≡ true → (y : KitBlockOccurrence)
      → Has y ys → y.label.name ≡ b → AllDet (names_of y.label.arguments)
  args_found [] b h y has named = absurd has
  args_found (z ∷ ys) b h y has named = ⊎_elim
      (λ e.
      let is : same_block z.label.name b ≡ true =
      ap (λ n. same_block n b) (ap (λ (w : KitBlockOccurrence). w.label.name) (sym e) ∙ named)
      ∙ blocks_apart.same_true b in
      subst (λ (w : KitBlockOccurrence). AllDet (names_of w.label.arguments)) (sym e)
      (det_all (names_of z.label.arguments)
      (ap (λ (t : Bool). if t then all_det (names_of z.label.arguments) else true) (sym is)
      ∙ and_left (if same_block z.label.name b then all_det (names_of z.label.arguments) else true) (args_det ys b) h)))
      (λ more. args_found ys b
      (and_right (if same_block z.label.name b then all_det (names_of z.label.arguments) else true) (args_det ys b) h)
      y more named)
      has

  args_made : (ys : List KitBlockOccurrence) (b : Ptr BasicBlock)
      → ((y : KitBlockOccurrence) → Has y ys → y.label.name ≡ b → AllDet (names_of y.label.arguments))
      → args_det ys b ≡ true
  args_made [] b d = refl
  args_made (z ∷ ys) b d = both_true
      (if same_block z.label.name b then all_det (names_of z.label.arguments) else true) (args_det ys b)
      (go (same_block z.label.name b) refl)
      (args_made ys b (λ y i. d y (inr i)))
    where
      go : (t : Bool) → same_block z.label.name b ≡ t
          → (if t then all_det (names_of z.label.arguments) else true) ≡ true
      go false is = refl
      go true is = all_of_det (names_of z.label.arguments)
          (d z (inl refl) (blocks_apart.true_same z.label.name b is))

module _ (t : KitTree) (k : Facts by_handle IntegerAttr) (best : IsMostPrecise kit t k)
    (apart : (x y : KitBlockOccurrence) → Has x (block_occurrences_of t) → Has y (block_occurrences_of t)
    → x.label.name ≡ y.label.name → x ≡ y)
    (fits : (o : KitOccurrence) (y : KitBlockOccurrence) (i : ℕ) → Has o (occurrences_of t)
    → Has y (block_occurrences_of t) → kit.is_branch o.head.content ≡ true
    → slice_get o.head.successors i ≡ Some y.label.name
    → length (forwarded kit o.head i) ≡ length (names_of y.label.arguments)) where
  abbrev all : List KitBlockOccurrence
  all = block_occurrences_of t

  -- the blocks that run with determined arguments
  abbrev fewer : Facts by_handle IntegerAttr
  fewer = record { runs = λ b. k.runs b && args_det k.of all b; of = k.of }

  -- arguments of a block that is found are determined where any are
  by_name : (y : KitBlockOccurrence) → Has y all → AllAny k.of (names_of y.label.arguments)
      → args_det k.of all y.label.name ≡ true
  by_name y has q = args_made k.of all y.label.name (λ z i named.
      subst (λ (w : KitBlockOccurrence). AllDet k.of (names_of w.label.arguments)) (apart y z has i (sym named))
      (any_det k.of (names_of y.label.arguments) q))

  entry_fewer : (bs : Part Blocks) (c : Where Blocks)
      → ((y : KitBlockOccurrence) → Has y (block_occurrences_in bs c) → Has y all) → EntriesRun k bs
      → EntriesRun fewer bs
  entry_fewer end c sub q = tt
  entry_fewer (block l os rest) c sub q = (
    both_true (k.runs l.name) (args_det k.of all l.name) q.0
        (by_name (record { spot = c; label = l; operations = os })
        (sub (record { spot = c; label = l; operations = os }) (inl refl)) q.1),
    q.1,
  )

  entries_fewer : (rs : Part Regions) (c : Where Regions)
      → ((y : KitBlockOccurrence) → Has y (block_occurrences_in rs c) → Has y all) → EntriesRun k rs
      → EntriesRun fewer rs
  entries_fewer end c sub q = tt
  entries_fewer (region bs rest) c sub q = (
    entry_fewer bs c (λ y i. sub y (has-left y (block_occurrences_in bs c) (block_occurrences_in rest (next_region c))
        i)) q.0,
    entries_fewer rest (next_region c) (λ y i. sub y (has-right y (block_occurrences_in bs c)
        (block_occurrences_in rest (next_region c)) i)) q.1,
  )

  goes_fewer : (o : KitOccurrence) → Has o (occurrences_of t) → (b : Bool) → kit.is_branch o.head.content ≡ b
      → (q : Asked IntegerAttr) → asked (map k.of o.head.operands) ≡ q → BranchClosed kit all k o.head b q
      → BranchClosed kit all fewer o.head b q
  goes_fewer o has false is q at c = tt
  goes_fewer o has true is None at c = tt
  goes_fewer o has true is (Some xs) at c = λ i b leads feasible.
      let e = c i b leads feasible in
      record {
        target = both_true (k.runs b) (args_det k.of all b) e.target (args_made k.of all b (λ y hy named.
            below_all k.of (names_of y.label.arguments) (map k.of (forwarded kit o.head i)) (e.arguments y hy named)
            (length-map (forwarded kit o.head i) k.of
            ∙ fits o y i has hy is (leads ∙ ap Some (sym named)))
            (mapped_det k.of (forwarded kit o.head i)
            (λ v f. asked_det k.of o.head.operands xs at v (picks_has o.head.operands _ v f)))));
        arguments = e.arguments;
      }

  fewer_closed : IsClosed kit t fewer
  fewer_closed = record {
    entries = entries_fewer t.regions (at_root t) (λ y i. i) best.closed.entries;
    outside = best.closed.outside;
    inside = λ o has runs.
        let c = best.closed.inside o has (and_left (k.runs o.site.label.name)
        (args_det k.of all o.site.label.name) runs) in
        record {
          folds = c.folds;
          goes = goes_fewer o has (kit.is_branch o.head.content) refl (asked (map k.of o.head.operands)) refl c.goes;
          entries = entries_fewer o.regions (inner o.head o.site)
              (λ y i. blocks_below Regions t.regions (at_root t) o has y i) c.entries;
        };
  }

  -- a block that runs has determined arguments
  arguments_det : (y : KitBlockOccurrence) → Has y all → k.runs y.label.name ≡ true
      → AllDet k.of (names_of y.label.arguments)
  arguments_det y has runs = args_found k.of all y.label.name
      (and_right (k.runs y.label.name) (args_det k.of all y.label.name)
      ((best.best fewer fewer_closed).fewer y.label.name runs)) y has refl

  -- ---- operations

  results_of_op : (o : KitOccurrence) → Has o (occurrences_of t) → k.runs o.site.label.name ≡ true
      → AllDet k.of o.head.operands → AllDet k.of (names_of o.head.results)
  results_of_op o has runs d =
      let q = det_asked k.of o.head.operands d in
      go (kit.is_foldable o.head.content) q.0
      (subst (FoldClosed kit k.of o.head (kit.is_foldable o.head.content)) q.1 (best.closed.inside o has runs).folds)
    where
      go : (b : Bool) (xs : List (Option IntegerAttr)) → FoldClosed kit k.of o.head b (Some xs)
          → AllDet k.of (names_of o.head.results)
      go false xs c = any_det k.of (names_of o.head.results) c
      go true xs c =
          let folded = kit.fold o.head.content (types_of o.head.results) xs in
          below_all k.of (names_of o.head.results) (map answer folded) c
          (length-map folded answer ∙ kit_lawful.fold_count o.head.content (types_of o.head.results) xs
          ∙ length-map o.head.results _ ∙ sym (length-map o.head.results _))
          (answers_det k.of folded)

  abbrev Below : {s : Sort} → Part s → Where s → Type 0
  Below {s} part c = (o : KitOccurrence) → Has o (occurrences_in part c) → Has o (occurrences_of t)

  abbrev BlocksBelow : {s : Sort} → Part s → Where s → Type 0
  BlocksBelow {s} part c = (y : KitBlockOccurrence) → Has y (block_occurrences_in part c) → Has y all

  results_det : (os : Part Operations) (c : Where Operations) (P : Value → Type 0) → Below os c → Ordered os true P
      → k.runs c.label.name ≡ true → ((v : Value) → P v → Det k.of v) → (v : Value) → IsResultHere os v → Det k.of v
  results_det end c P sub q runs d v has = absurd has
  results_det (operation h rs rest) c P sub q runs d v has =
      let o : KitOccurrence = record { site = c; head = h; regions = rs } in
      let mine = results_of_op o (sub o (inl refl)) runs (λ x i. d x (q.0 x i)) in
      ⊎_elim
      (λ i. mine v i)
      (λ more. results_det rest c (λ x. Has x (names_of h.results) ⊎ P x)
      (λ p i. sub p (inr (has-right p (occurrences_in rs (inner h c)) (occurrences_in rest c) i))) q.2 runs
      (λ x. ⊎_elim (mine x) (d x)) v more)
      has

  -- operations without regions are all in one block
  bare_site : (os : Part Operations) (c : Where Operations) → AreBare os → (o : KitOccurrence)
      → Has o (occurrences_in os c) → o.site ≡ c
  bare_site end c bare o has = absurd has
  bare_site (operation h rs rest) c bare o has = ⊎_elim
      (λ e. ap (λ (z : KitOccurrence). z.site) e)
      (λ more. ⊎_elim
      (λ i. absurd (subst (λ (z : Part Regions). Has o (occurrences_in z (inner h c))) bare.0 i))
      (λ i. bare_site rest c bare.1 o i)
      (has-append o (occurrences_in rs (inner h c)) (occurrences_in rest c) more))
      has

  abbrev TakesDet : {s : Sort} → Part s → Where s → Type 0
  TakesDet {s} part c = (o : KitOccurrence) → Has o (occurrences_in part c) → k.runs o.site.label.name ≡ true
      → AllDet k.of o.head.operands

  abbrev PartDet : (s : Sort) → Part s → Type 1
  PartDet Operations os = (c : Where Operations) (P : Value → Type 0) → Below os c → BlocksBelow os c
      → Ordered os true P → k.runs c.label.name ≡ true → ((v : Value) → P v → Det k.of v) → TakesDet os c
  PartDet Blocks bs = (c : Where Blocks) (first : Bool) (P : Value → Type 0) → Below bs c → BlocksBelow bs c
      → Ordered bs first P → (first ≡ true → EntriesRun k bs) → ((v : Value) → P v → Det k.of v) → TakesDet bs c
  PartDet Regions rs = (P : Value → Type 0) (c : Where Regions) → Below rs c → BlocksBelow rs c → Ordered rs true IsNone
      → EntriesRun k rs
      → TakesDet rs c

  module _ (l : KitLabel) (os : Part Operations) (rest : Part Blocks) (c : Where Blocks)
      (sub : Below (block l os rest) c) (bsub : BlocksBelow (block l os rest) c) where
    abbrev here : Where Operations
    here = record { spot = c; label = l }

    abbrev mine : KitBlockOccurrence
    mine = record { spot = c; label = l; operations = os }

    below_own : Below os here
    below_own p j = sub p (has-left p (occurrences_in os here) (occurrences_in rest (next_block c)) j)

    blocks_own : BlocksBelow os here
    blocks_own y j = bsub y (inr (has-left y (block_occurrences_in os here)
        (block_occurrences_in rest (next_block c)) j))

    below_later : Below rest (next_block c)
    below_later p j = sub p (has-right p (occurrences_in os here) (occurrences_in rest (next_block c)) j)

    blocks_later : BlocksBelow rest (next_block c)
    blocks_later y j = bsub y (inr (has-right y (block_occurrences_in os here)
        (block_occurrences_in rest (next_block c)) j))

    own_arguments : k.runs l.name ≡ true → AllDet k.of (names_of l.arguments)
    own_arguments runs = arguments_det mine (bsub mine (inl refl)) runs

    block_det : (P : Value → Type 0) → PartDet Operations os → PartDet Blocks rest → (first : Bool)
        → Ordered (block l os rest) first P → (first ≡ true → EntriesRun k (block l os rest))
        → ((v : Value) → P v → Det k.of v) → TakesDet (block l os rest) c
    block_det P own later true q entries d o has on =
        let runs = (entries refl).0 in
        let args = own_arguments runs in
        let results = results_det os here (λ x. Has x (names_of l.arguments)) below_own q.0 runs args in
        ⊎_elim
        (λ i. own here (λ x. Has x (names_of l.arguments)) below_own blocks_own q.0 runs args o i on)
        (λ i. later (next_block c) false (IsOfBlock l os) below_later blocks_later q.1 (λ e. absurd (false≢true e))
        (λ v. ⊎_elim (args v) (results v)) o i on)
        (has-append o (occurrences_in os here) (occurrences_in rest (next_block c)) has)
    block_det P own later false q entries d o has on = ⊎_elim
        (λ i.
        let site = bare_site os here q.1 o i in
        let runs : k.runs l.name ≡ true =
        subst (λ (z : Where Operations). k.runs z.label.name ≡ true) site on in
        own here (λ x. Has x (names_of l.arguments) ⊎ P x) below_own blocks_own q.0 runs
        (λ v. ⊎_elim (own_arguments runs v) (d v)) o i on)
        (λ i. later (next_block c) false P below_later blocks_later q.2 (λ e. absurd (false≢true e)) d o i on)
        (has-append o (occurrences_in os here) (occurrences_in rest (next_block c)) has)

  part_det : {s : Sort} (part : Part s) → PartDet s part
  part_det {s = Operations} end = λ c P sub bsub q runs d o has. absurd has
  part_det {s = Blocks} end = λ c first P sub bsub q entries d o has. absurd has
  part_det {s = Regions} end = λ P c sub bsub q entries o has. absurd has
  part_det (operation h rs rest) = λ c P sub bsub q runs d o has on.
      let mine : KitOccurrence = record { site = c; head = h; regions = rs } in
      let own : AllDet k.of h.operands = λ x i. d x (q.0 x i) in
      let results = results_of_op mine (sub mine (inl refl)) runs own in
      let xs = occurrences_in rs (inner h c) in
      let ys = occurrences_in rest c in
      let bs = block_occurrences_in rs (inner h c) in
      let cs = block_occurrences_in rest c in
      ⊎_elim
      (λ e. subst (λ (z : KitOccurrence). AllDet k.of z.head.operands) (sym e) own)
      (λ more. ⊎_elim
      (λ i. part_det rs IsNone (inner h c) (λ p j. sub p (inr (has-left p xs ys j)))
      (λ y j. bsub y (has-left y bs cs j)) q.1
      (best.closed.inside mine (sub mine (inl refl)) runs).entries o i on)
      (λ i. part_det rest c (λ x. Has x (names_of h.results) ⊎ P x) (λ p j. sub p (inr (has-right p xs ys j)))
      (λ y j. bsub y (has-right y bs cs j)) q.2 runs (λ x. ⊎_elim (results x) (d x)) o i on)
      (has-append o xs ys more))
      has
  part_det (block l os rest) = λ c first P sub bsub q entries d.
      block_det l os rest c sub bsub P (part_det os) (part_det rest) first q entries d
  part_det (region bs rest) = λ P c sub bsub q entries o has on.
      let xs = occurrences_in bs c in
      let ys = occurrences_in rest (next_region c) in
      let vs = block_occurrences_in bs c in
      let ws = block_occurrences_in rest (next_region c) in
      ⊎_elim
      (λ i. part_det bs c true IsNone (λ p j. sub p (has-left p xs ys j)) (λ y j. bsub y (has-left y vs ws j)) q.0
      (λ e. entries.0) (λ v none. absurd none) o i on)
      (λ i. part_det rest IsNone (next_region c) (λ p j. sub p (has-right p xs ys j))
      (λ y j. bsub y (has-right y vs ws j)) q.1 entries.1 o i on)
      (has-append o xs ys has)

  -- no operand lacks
  pub none_lacks : Ordered t.regions true IsNone → IsLacking kit t k → ⊥
  none_lacks q l =
      let d = part_det t.regions IsNone (at_root t) (λ o i. i) (λ y i. i) q best.closed.entries l.user l.stands
      l.runs in
      let a = det_asked k.of l.user.head.operands d in
      let e : None ≡ Some a.0 = sym l.lacks ∙ a.1 in
      absurd (cc)
