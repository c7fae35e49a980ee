-- Branches by their edges: operands that go leave sizes that add up to the operands that are left, a condition is never
-- lost, and a branch that is decided has exactly the operands of the edge that it takes.
use Rattle.std.proofs.Common.{◌≡◌, inl, inr, ℕ, zero, suc, ◌+◌, ◌-◌, ◌<◌, Bool, true, false, List, [], ◌∷◌, ◌++◌}
use Rattle.std.proofs.Common.{map, length, Option, Some, None, option_and_then, slice_get, refl, sym, ap, ◌∙◌, subst}
use Rattle.std.proofs.Common.{arith}
use Rattle.std.specs.Prelude.{if◌then◌else◌, not, ◌&&◌, min, nat_eq}
use Rattle.ir_names.specs.Dictionary.{attribute_at}
use Rattle.ir_trees.specs.Names.{Names}
use Rattle.ir_trees.specs.Trees.{Head, Sort, Regions, Tree, end, operation, block, region, Root}
use Rattle.kit.specs.Meaning.{kit, dropped_of, edge_of, is_br, picked_by, condition, first_size, forwards_of, range}
use Rattle.kit_checks.specs.Words.{sizes_in}
use Rattle.kit_ops.specs.Keys as keys
use Rattle.kit_ops.specs.declared.attributes.IntegerAttr.{IntegerAttr}
use Rattle.kit_ops.specs.declared.kinds.KitOp.TheVariants as ops
use Rattle.kit_pass_rules.proofs.DceVisible.{if_not}
use Rattle.kit_pass_rules.proofs.Heads.{not_condition}
use Rattle.kit_pass_rules.proofs.Segments.{from, drop_count, condition_of, condition_left, sizes_left, first_is}
use Rattle.kit_views.specs.Reading.{kit_contents}
use Rattle.opt_trees.specs.Dce.{TreeSurroundings, Gone, IsGoneExactly, thin_head}
use Rattle.opt_trees.specs.Dialect.{drop}
use Rattle.opt_trees.specs.Facts.{forwarded}
use Rattle.opt_trees.specs.Occurrences.{Has, Occurrence, OperationSite, Inside, inner, next_block, next_region}
use Rattle.opt_trees.specs.Occurrences.{occurrences_in, occurrences_of, OperationsApart, cons_if, picks}
use Rattle.opt_trees.specs.Simplify.{is_empty, is_end, along_edge, decide_head}
use Rattle.opt_trees.proofs.Lists.{none_some}
use Rattle.opt_trees.proofs.NoneDead.{has-left, has-right, true_false}

-- ---- what is said of a branch

module _ {N : Names} where
  -- the sizes of segments that an operation says, if it says any
  abbrev pub sizes_of : Head N kit_contents → Option (List ℕ)
  sizes_of h = option_and_then sizes_in (attribute_at h.content.notes.attributes keys.segment_sizes)

  -- an unconditional branch: all operands are those of its edge
  pub record IsPlainBranch (h : Head N kit_contents) (handed : List N.value) : Type 0 where
    pub kind : h.content.kind ≡ ops.Br
    pub operands : h.operands ≡ handed

  -- a conditional branch: the condition, and then the operands of the first edge and those of the second, as its sizes
  -- say
  pub record IsConditionalBranch (h : Head N kit_contents) (tested : N.value) (first second : List N.value)
      : Type 0 where
    pub kind : h.content.kind ≡ ops.CondBr
    pub sizes : sizes_of h ≡ Some (1 ∷ length first ∷ length second ∷ [])
    pub operands : h.operands ≡ tested ∷ (first ++ second)

  -- what keeps the format of conditional branches is one
  pub record Conditional (h : Head N kit_contents) : Type 0 where
    pub tested : N.value
    pub first : List N.value
    pub second : List N.value
    pub is : IsConditionalBranch h tested first second

  pub conditional : (h : Head N kit_contents) (a b : ℕ) → h.content.kind ≡ ops.CondBr →
      sizes_of h ≡ Some (1 ∷ a ∷ b ∷ []) → length h.operands ≡ 1 + a + b → Conditional h
  conditional h a b kind sizes count =
      let c = condition_of h.operands a b count in
      record {
        tested = c.condition;
        first = c.first;
        second = c.second;
        is = record {
          kind = kind;
          sizes = sizes
              ∙ (λ i. Some (1 ∷ sym c.first_count i ∷ sym c.second_count i ∷ []));
          operands = c.is;
        };
      }

  -- its sizes add up to its operands
  pub sizes_add_up : (h : Head N kit_contents) (c : N.value) (fs ss : List N.value) → IsConditionalBranch h c fs ss →
      length h.operands ≡ 1 + length fs + length ss
  sizes_add_up h c fs ss b =
      let e : length (fs ++ ss) ≡ length fs + length ss = both fs in
      ap length b.operands ∙ (let n : suc (length (fs ++ ss)) ≡ 1 + length fs + length ss = omega (arith, e) in n)
    where
      both : (xs : List N.value) → length (xs ++ ss) ≡ length xs + length ss
      both [] = omega arith
      both (x ∷ xs) = let e = both xs in omega (arith, e)

-- ---- operands that go

module _ {N : Names} (g : Gone N) (h : Head N kit_contents) where
  -- the operands that go
  abbrev pub lost : ℕ → Bool
  lost = g.operand h.name

  -- an unconditional branch has what is left of its edge's operands
  pub plain_left : (xs : List N.value) → IsPlainBranch h xs → IsPlainBranch (thin_head kit g h) (drop lost xs)
  plain_left xs b = record { kind = b.kind; operands = ap (drop lost) b.operands }

  -- a conditional one keeps its condition, and has by each edge what is left of that edge's operands
  pub conditional_left : (c : N.value) (fs ss : List N.value) → IsConditionalBranch h c fs ss → lost 0 ≡ false →
      IsConditionalBranch (thin_head kit g h) c (drop (from lost 1) fs) (drop (from lost (1 + length fs)) ss)
  conditional_left c fs ss b stays = record {
    kind = b.kind;
    sizes =
        ap (λ k. option_and_then sizes_in
        (attribute_at (dropped_of k lost h.content.notes.attributes) keys.segment_sizes)) b.kind
        ∙ (sizes_left h.content.notes.attributes lost (length fs) (length ss) (1 ∷ length fs ∷ length ss ∷ []) b.sizes
        refl
        ∙ (λ i. Some (1 ∷ sym (drop_count lost 1 fs) i ∷ sym (drop_count lost (1 + length fs) ss) i ∷ [])));
    operands = ap (drop lost) b.operands
        ∙ condition_left c fs ss (length fs) (length ss) refl refl lost stays;
  }

-- of an operation's operands never a condition goes, and none of what is no branch
pub record LosesAtBranches {N : Names} (g : Gone N) (h : Head N kit_contents) : Type 0 where
  pub condition : h.content.kind ≡ ops.CondBr → g.operand h.name 0 ≡ false
  pub others : kit.is_branch h.content ≡ false → (i : ℕ) → g.operand h.name i ≡ false

module _ {N : Names} (w : TreeSurroundings N IntegerAttr) (t : Root N kit_contents) (g : Gone N)
    (exactly : IsGoneExactly kit w t g) where
  -- only branches lose operands
  pub record LosesOperand (a : N.operation) : Type 0 where
    pub it : Occurrence N kit_contents
    pub stands : Has it (occurrences_of t)
    pub name : it.head.name ≡ a
    pub branch : kit.is_branch it.head.content ≡ true

  pub loses_operand : (a : N.operation) (i : ℕ) → g.operand a i ≡ true → LosesOperand a
  loses_operand a i q =
      let l = exactly.lost a i q in
      record { it = l.user; stands = l.stands; name = l.name; branch = l.forwards.branch }

  -- and never a condition
  pub condition_stays : OperationsApart t → (o : Occurrence N kit_contents) → Has o (occurrences_of t) →
      o.head.content.kind ≡ ops.CondBr → g.operand o.head.name 0 ≡ false
  condition_stays apart o has kind = if_not (g.operand o.head.name 0) (λ q.
      let l = exactly.lost o.head.name 0 q in
      let same : l.user ≡ o = apart l.user o l.stands has l.name in
      let is : l.user.head.content.kind ≡ ops.CondBr =
      ap (λ (x : Occurrence N kit_contents). x.head.content.kind) same ∙ kind in
      let h = l.user.head in
      let given : slice_get (forwards_of ops.CondBr (first_size h.content.notes.attributes) (length h.operands)
      l.forwards.edge) l.forwards.place ≡ Some 0 =
      sym (ap (λ k. slice_get (forwards_of k (first_size h.content.notes.attributes) (length h.operands)
      l.forwards.edge) l.forwards.place) is) ∙ l.forwards.gives in
      let less : 0 < 0 = not_condition (first_size h.content.notes.attributes) (length h.operands) l.forwards.edge
      l.forwards.place 0 given in
      omega (arith, less))

  -- so of each operation where it is
  pub loses_at_branches : OperationsApart t → (o : Occurrence N kit_contents) → Has o (occurrences_of t) →
      LosesAtBranches g o.head
  loses_at_branches apart o has = record {
    condition = condition_stays apart o has;
    others = λ none i. if_not (g.operand o.head.name i) (λ q.
        let l = loses_operand o.head.name i q in
        let same : l.it ≡ o = apart l.it o l.stands has l.name in
        let branch : kit.is_branch o.head.content ≡ true =
        subst (λ (x : Occurrence N kit_contents). kit.is_branch x.head.content ≡ true) same l.branch in
        true_false (kit.is_branch o.head.content) branch none);
  }

module _ {N : Names} (g : Gone N) where
  -- of each operation of a part
  abbrev pub AllLoseAtBranches : {s : Sort} → Tree N kit_contents s → Type 0
  AllLoseAtBranches end = Unit {0}
  AllLoseAtBranches (operation h rs rest) = LosesAtBranches g h × AllLoseAtBranches rs × AllLoseAtBranches rest
  AllLoseAtBranches (block l os rest) = AllLoseAtBranches os × AllLoseAtBranches rest
  AllLoseAtBranches (region bs rest) = AllLoseAtBranches bs × AllLoseAtBranches rest

  pub all_lose_at_branches : {s : Sort} (x : Tree N kit_contents s) (c : Inside N kit_contents s) →
      ((o : Occurrence N kit_contents) → Has o (occurrences_in x c) → LosesAtBranches g o.head) → AllLoseAtBranches x
  all_lose_at_branches end c f = tt
  all_lose_at_branches (operation h rs rest) c f = (
    f (record { site = c; head = h; regions = rs }) (inl refl),
    all_lose_at_branches rs (inner h c)
        (λ o has. f o (inr (has-left o (occurrences_in rs (inner h c)) (occurrences_in rest c) has))),
    all_lose_at_branches rest c
        (λ o has. f o (inr (has-right o (occurrences_in rs (inner h c)) (occurrences_in rest c) has))),
  )
  all_lose_at_branches (block l os rest) c f =
      let here : OperationSite N kit_contents = record { spot = c; label = l } in (
        all_lose_at_branches os here
            (λ o has. f o (has-left o (occurrences_in os here) (occurrences_in rest (next_block c)) has)),
        all_lose_at_branches rest (next_block c)
            (λ o has. f o (has-right o (occurrences_in os here) (occurrences_in rest (next_block c)) has)),
      )
  all_lose_at_branches (region bs rest) c f = (
    all_lose_at_branches bs c
        (λ o has. f o (has-left o (occurrences_in bs c) (occurrences_in rest (next_region c)) has)),
    all_lose_at_branches rest (next_region c)
        (λ o has. f o (has-right o (occurrences_in bs c) (occurrences_in rest (next_region c)) has)),
  )

-- ---- branches that are decided

get_back : {X : Type 0} (xs ys : List X) (i j : ℕ) (x : X) → j ≡ length xs + i → slice_get ys i ≡ Some x →
    slice_get (xs ++ ys) j ≡ Some x
get_back [] ys i j x q e = let z : j ≡ i = omega (arith, q) in ap (slice_get ys) z ∙ e
get_back (y ∷ xs) ys i zero x q e = absurd (omega (arith, q))
get_back (y ∷ xs) ys i (suc j) x q e = get_back xs ys i j x (omega (arith, q)) e

get_front : {X : Type 0} (xs ys : List X) (i : ℕ) (x : X) → slice_get xs i ≡ Some x → slice_get (xs ++ ys) i ≡ Some x
get_front [] ys i x e = absurd (none_some x e)
get_front (y ∷ xs) ys zero x e = e
get_front (y ∷ xs) ys (suc i) x e = get_front xs ys i x e

-- what is picked from an index on
picked_run : {X : Type 0} (xs ys : List X) (s : ℕ) →
    ((p i : ℕ) (v : X) → slice_get ys p ≡ Some v → i ≡ s + p → slice_get xs i ≡ Some v) →
    picks xs (range s (length ys)) ≡ ys
picked_run xs [] s h = refl
picked_run xs (y ∷ ys) s h =
    ap (λ o. cons_if o (picks xs (range (suc s) (length ys)))) (h 0 s y refl (omega arith))
    ∙ ap (λ l. y ∷ l) (picked_run xs ys (suc s) (λ p i v e q. h (suc p) i v e (omega (arith, q))))

module _ {N : Names} (h : Head N kit_contents) (c : N.value) (fs ss : List N.value)
    (b : IsConditionalBranch h c fs ss) where
  abbrev given_on : ℕ → ℕ → List N.value
  given_on first i = picks h.operands (forwards_of ops.CondBr first (length h.operands) i)

  by_kind : (i : ℕ) → forwarded kit h i ≡ given_on (length fs) i
  by_kind i =
      ap (λ k. picks h.operands (forwards_of k (first_size h.content.notes.attributes) (length h.operands) i)) b.kind
      ∙ ap (λ first. given_on first i)
      (first_is h.content.notes.attributes (length fs) (length ss) (1 ∷ length fs ∷ length ss ∷ []) b.sizes refl)

  -- what is forwarded along an edge are the operands of the edge
  pub first_handed : forwarded kit h 0 ≡ fs
  first_handed =
      let count : length h.operands ≡ 1 + length fs + length ss = sizes_add_up h c fs ss b in
      let all : min (length fs) (length h.operands - 1) ≡ length fs = omega (arith, count) in
      by_kind 0
      ∙ (ap (λ n. picks h.operands (range 1 n)) all
      ∙ picked_run h.operands fs 1 (λ p i v e q. ap (λ l. slice_get l i) b.operands
      ∙ get_back (c ∷ []) (fs ++ ss) p i v (omega (arith, q)) (get_front fs ss p v e)))

  pub second_handed : forwarded kit h 1 ≡ ss
  second_handed =
      let count : length h.operands ≡ 1 + length fs + length ss = sizes_add_up h c fs ss b in
      let all : length h.operands - (1 + length fs) ≡ length ss = omega (arith, count) in
      by_kind 1
      ∙ (ap (λ n. picks h.operands (range (1 + length fs) n)) all
      ∙ picked_run h.operands ss (1 + length fs) (λ p i v e q. ap (λ l. slice_get l i) b.operands
      ∙ get_back (c ∷ fs) ss p i v (omega (arith, q)) e))

  -- the head afterwards: an unconditional branch with these operands, that leads to these blocks, has the results that
  -- were there, and no attributes
  pub record BranchesTo (after : Head N kit_contents) (handed : List N.value) (targets : List N.block) : Type 0 where
    pub name : after.name ≡ h.name
    pub plain : IsPlainBranch after handed
    pub targets_are : after.successors ≡ targets
    pub results : after.results ≡ h.results
    pub no_attributes : after.content.notes.attributes ≡ []

  -- it stays, or takes the one edge or the other
  pub data IsDecided (after : Head N kit_contents) : Type 0 where
    stays : after ≡ h → IsDecided after
    takes_first : BranchesTo after fs (cons_if (slice_get h.successors 0) []) → IsDecided after
    takes_second : BranchesTo after ss (cons_if (slice_get h.successors 1) []) → IsDecided after

  along_first : BranchesTo (along_edge kit h (Some 0) kit.plain) fs (cons_if (slice_get h.successors 0) [])
  along_first = record {
    name = refl;
    plain = record { kind = refl; operands = first_handed };
    targets_are = refl;
    results = refl;
    no_attributes = refl;
  }

  along_second : BranchesTo (along_edge kit h (Some 1) kit.plain) ss (cons_if (slice_get h.successors 1) [])
  along_second = record {
    name = refl;
    plain = record { kind = refl; operands = second_handed };
    targets_are = refl;
    results = refl;
    no_attributes = refl;
  }

  picked : (o : Option IntegerAttr) → IsDecided (along_edge kit h (picked_by o) kit.plain)
  picked None = stays refl
  picked (Some a) = step (nat_eq a.bits 1)
    where
      step : (one : Bool) → IsDecided (along_edge kit h (Some (if one then 0 else 1)) kit.plain)
      step true = takes_first along_first
      step false = takes_second along_second

  pub conditional_decided : (alone : N.value → Option IntegerAttr) (rs : Tree N kit_contents Regions) →
      IsDecided (decide_head kit alone h rs)
  conditional_decided alone rs = step ((kit.is_branch h.content && (is_empty h.results && is_end rs))
      && not (kit.is_plain h.content))
    where
      step : (bare : Bool) → IsDecided
          (if bare then along_edge kit h (kit.edge h.content (map alone h.operands)) kit.plain else h)
      step true = subst (λ k. IsDecided (along_edge kit h (edge_of k (map alone h.operands)) kit.plain)) (sym b.kind)
          (picked (condition (map alone h.operands)))
      step false = stays refl

module _ {N : Names} (alone : N.value → Option IntegerAttr) (h : Head N kit_contents)
    (rs : Tree N kit_contents Regions) where
  abbrev bare : Bool
  bare = is_empty h.results && is_end rs

  abbrev decided_if : Bool → Bool → Head N kit_contents
  decided_if branch plain =
      if (branch && bare) && not plain then along_edge kit h (kit.edge h.content (map alone h.operands)) kit.plain
      else h

  -- what is no branch isn't decided
  pub other_decided : kit.is_branch h.content ≡ false → decide_head kit alone h rs ≡ h
  other_decided none = ap (λ branch. decided_if branch (kit.is_plain h.content)) none

  -- nor is an unconditional branch
  pub plain_decided : h.content.kind ≡ ops.Br → decide_head kit alone h rs ≡ h
  plain_decided kind = ap (λ k. decided_if (kit.is_branch h.content) (is_br k)) kind
      ∙ none_bare (kit.is_branch h.content && bare)
    where
      none_bare : (b : Bool) →
          (if b && false then along_edge kit h (kit.edge h.content (map alone h.operands)) kit.plain else h) ≡ h
      none_bare true = refl
      none_bare false = refl
