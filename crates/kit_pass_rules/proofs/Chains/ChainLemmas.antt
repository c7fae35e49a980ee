-- The operations of a chain's blocks, one block after the other: where each has come from, and what it sees there.
use Rattle.std.proofs.Common.{◌≡◌, ⊎_elim, ℕ, zero, suc, ◌+◌, ◌<◌, ◌≤◌, Bool, true, false, cond, List}
use Rattle.std.proofs.Common.{[], ◌∷◌, ◌++◌, take, length, Option, Some, None, slice_get, refl, sym, ap, ◌∙◌}
use Rattle.std.proofs.Common.{subst, arith}
use Rattle.std.specs.Prelude.{◌==◌}
use Rattle.std.proofs.lemmas.Bool.{eqb-true}
use Rattle.ir_base.specs.declared.types.TypeHandle.{TypeHandle}
use Rattle.ir_program.specs.declared.handles.Ptr.{Ptr}
use Rattle.ir_program.specs.declared.handles.BasicBlock.{BasicBlock}
use Rattle.ir_program.specs.declared.handles.Value.{Value}
use Rattle.ir_trees.specs.Trees.{Sort, Operations, Blocks, Regions, end, operation}
use Rattle.kit.specs.Context.{KitTree}
use Rattle.kit.specs.Meaning.{kit}
use Rattle.kit_checks.specs.KitWorld.{kit_world}
use Rattle.kit_checks.specs.Rules as rules
use Rattle.kit_checks.specs.Sites.{block_list, operation_list, region_list}
use Rattle.kit_checks.specs.Words.{values_of, results_of, values_before, values_if, first_body, visible}
use Rattle.kit_checks.specs.Words.{bodies_of}
use Rattle.kit_checks.specs.declared.rule.Rule.TheVariants as rule
use Rattle.kit_checks.proofs.Passed.{in_joined}
use Rattle.kit_ops.specs.declared.kinds.KitOp.TheVariants as ops
use Rattle.kit_ops.specs.declared.types.KitType.{KitType}
use Rattle.kit_pass_rules.specs.Laws.{IsGood}
use Rattle.kit_pass_rules.proofs.Lists.{has_at_index, index_of_has}
use Rattle.kit_pass_rules.proofs.Walk.{block_of, within, occurrence_of}
use Rattle.kit_pass_rules.specs.ChainLaws.{DefinersApart}
use Rattle.kit_pass_rules.proofs.Chains.InversionLemmas.{KitList, KitBody, JoinsTo, Becomes, IsHead, were, are, chain_is}
use Rattle.kit_pass_rules.proofs.Chains.ListLemmas.{KitHead, heads, get_append, get_below, length_append, take_front}
use Rattle.kit_pass_rules.proofs.Chains.ListLemmas.{take_behind, defined_by, results_are, results_taken, defined_left}
use Rattle.kit_pass_rules.proofs.Chains.ListLemmas.{defined_right, definer, defined_take}
use Rattle.kit_pass_rules.proofs.Chains.PlaceLemmas.{KitBlockOccurrence, BlockStep, Step, block_stands, around_of, site_of}
use Rattle.kit_pass_rules.proofs.Chains.PlaceLemmas.{beside, keeps, owner_keeps, IsBranchKind, plain, in_function}
use Rattle.kit_pass_rules.proofs.Chains.PlaceLemmas.{branch_last, not_last}
use Rattle.kit_pass_rules.proofs.Chains.ForwardedLemmas.{LastStep, last_in, next_argument, follows_none, result_given}
use Rattle.opt_trees.specs.Occurrences.{Has}
use Rattle.opt_trees.specs.Simplify.{all_of, but_last, append, Follows, ends, operations, regions, taken, first}
use Rattle.opt_trees.specs.Simplify.{chain_ends, chain_goes_on}
use Rattle.opt_trees.proofs.Lists.{some_same, none_some, length-map}
use Rattle.opt_trees.proofs.NoneDead.{has-append, has-left, has-right}

-- ---- lists of operations

abbrev pub hs : KitList Operations → List KitHead
hs ops = heads (operation_list ops)

but_last_heads : (xs : KitList Operations) (k : ℕ) → k + 1 ≡ length (operation_list xs) →
    hs (but_last xs) ≡ take k (hs xs)
but_last_heads end k e = absurd (omega (arith, e))
but_last_heads (operation h rs end) zero e = refl
but_last_heads (operation h rs end) (suc k) e = absurd (omega (arith, e))
but_last_heads (operation h rs (operation g qs rest)) zero e = absurd (omega (arith, e))
but_last_heads (operation h rs (operation g qs rest)) (suc k) e =
    ap (λ l. h ∷ l) (but_last_heads (operation g qs rest) k (omega (arith, e)))

but_last_get : (xs : KitList Operations) (k : ℕ) (z : KitTree) → slice_get (operation_list (but_last xs)) k ≡ Some z →
    (slice_get (operation_list xs) k ≡ Some z) × (k + 1 < length (operation_list xs))
but_last_get end k z e = absurd (none_some z e)
but_last_get (operation h rs end) k z e = absurd (none_some z e)
but_last_get (operation h rs (operation g qs rest)) zero z e = (e, omega arith)
but_last_get (operation h rs (operation g qs rest)) (suc k) z e =
    let r = but_last_get (operation g qs rest) k z e in
    let l : k + 1 < length (operation_list (operation g qs rest)) = r.1 in
    (r.0, omega (arith, l))

append_list : (xs ys : KitList Operations) → operation_list (append xs ys) ≡ operation_list xs ++ operation_list ys
append_list end ys = refl
append_list (operation h rs rest) ys = ap (λ l. record { head = h; regions = rs } ∷ l) (append_list rest ys)

heads_append : (us vs : List KitTree) → heads (us ++ vs) ≡ heads us ++ heads vs
heads_append [] vs = refl
heads_append (u ∷ us) vs = ap (λ l. u.head ∷ l) (heads_append us vs)

-- what a list defines whose last operation defines nothing
but_last_defined : (v : Value) (us : List KitTree) (k : ℕ) (u : KitTree) → slice_get us k ≡ Some u → k + 1 ≡ length us →
    u.head.results ≡ [] → Has v (defined_by (heads us)) → Has v (defined_by (take k (heads us)))
but_last_defined v [] k u e n r h = absurd h
but_last_defined v (x ∷ []) zero u e n r h =
    subst (λ l. Has v (values_of l ++ [])) (ap (λ (z : KitTree). z.head.results) (some_same x u e) ∙ r) h
but_last_defined v (x ∷ []) (suc k) u e n r h = absurd (none_some u e)
but_last_defined v (x ∷ (y ∷ us)) zero u e n r h = absurd (omega (arith, n))
but_last_defined v (x ∷ (y ∷ us)) (suc k) u e n r h = ⊎_elim
    (λ a. has-left v (values_of x.head.results) (defined_by (take k (heads (y ∷ us)))) a)
    (λ b. has-right v (values_of x.head.results) (defined_by (take k (heads (y ∷ us))))
    (but_last_defined v (y ∷ us) k u e (omega (arith, n)) r b))
    (has-append v (values_of x.head.results) (defined_by (heads (y ∷ us))) h)

pub suc_zero : (n : ℕ) → (suc n == 0) ≡ false
suc_zero n = by_test (suc n == 0) refl
  where
    by_test : (b : Bool) → (suc n == 0) ≡ b → (suc n == 0) ≡ false
    by_test false e = e
    by_test true e = let q : suc n ≡ 0 = eqb-true (suc n) 0 e in absurd (omega (arith, q))

pub in_cond : (b : Bool) (v : Value) (xs : List Value) → Has v (cond b [] xs) → Has v xs
in_cond true v xs h = absurd h
in_cond false v xs h = h

is_zero : (n : ℕ) → (n == 0) ≡ true → n ≡ 0
is_zero zero e = refl
is_zero (suc n) e = eqb-true (suc n) 0 e

no_length : {X : Type 0} (xs : List X) → length xs ≡ 0 → xs ≡ []
no_length [] e = refl
no_length (x ∷ xs) e = absurd (omega (arith, e))

-- one of the two lists in front, or behind
wider : (v : Value) (base xs ys : List Value) → (Has v xs → Has v ys) → Has v (base ++ xs) → Has v (base ++ ys)
wider v base xs ys f h = ⊎_elim (λ a. has-left v base ys a) (λ b. has-right v base ys (f b)) (has-append v base xs h)

module _ (leads : TypeHandle → Option KitType) (old : Value → Option TypeHandle) (t : KitTree)
    (good : IsGood leads old t)
    (definers : DefinersApart t) (top : BlockStep t) where
  abbrev pub Follow : Value → Value → Type 0
  Follow v y = Follows kit (all_of t) t v y

  abbrev pub entry_values : List Value
  entry_values = values_if (first_body top.blocks)

  -- what is seen where the operations of a block begin is among these values, once it is followed
  pub record Starts (n : ℕ) (body : KitBody) (base : List Value) : Type 0 where
    pub arguments : (v y : Value) → Has v (values_of body.label.arguments) → Follow v y → Has y base
    pub entry : (v y : Value) → Has v (cond (n == 0) [] entry_values) → Follow v y → Has y base

  -- where an operation of the joined list has come from
  pub record Source (base : List Value) (all : KitList Operations) (k : ℕ) (z : KitTree) : Type 0 where
    pub number : ℕ
    pub body : KitBody
    pub block_here : slice_get (block_list top.blocks) number ≡ Some body
    pub index : ℕ
    pub it : KitTree
    pub here : slice_get (operation_list body.operations) index ≡ Some it
    pub head : it.head ≡ z.head
    pub regions_become : Becomes t None Regions it.regions z.regions
    -- what it saw is, once it is followed, at hand before it
    pub seen : (v y : Value) → Has v (visible (around_of t (beside t top number body block_here) index)) → Follow v y →
        Has y (base ++ defined_by (take k (hs all)))
    -- it is the last where it was, it leads to first blocks of chains, and in a module it is where it was
    pub last : k + 1 ≡ length (operation_list all) → index + 1 ≡ length (operation_list body.operations)
    pub end_is : index + 1 ≡ length (operation_list body.operations) → k + 1 ≡ length (operation_list all)
    pub stays : (c : Ptr BasicBlock) → Has c it.head.successors → IsHead t c
    pub alone : top.s.op.head.content.kind ≡ ops.Module → (index ≡ k) × (hs all ≡ hs body.operations)

  pub record Chained (base : List Value) (all : KitList Operations) : Type 0 where
    pub filled : top.s.op.head.content.kind ≡ ops.Func → 0 < length (operation_list all)
    pub sources : (k : ℕ) (z : KitTree) → slice_get (operation_list all) k ≡ Some z → Source base all k z

  abbrev block_in : (n : ℕ) (body : KitBody) → slice_get (block_list top.blocks) n ≡ Some body → BlockStep t
  block_in n body h = beside t top n body h

  -- a result of an operation of a block of the region is what it is
  result_same : (n : ℕ) (body : KitBody) → slice_get (block_list top.blocks) n ≡ Some body → (v y : Value) →
      Has v (defined_by (hs body.operations)) → Follow v y → y ≡ v
  result_same n body h v y has f =
      let x = block_in n body h in
      let st = block_stands t x in
      let d = definer v (operation_list body.operations) has in
      follows_none leads old t good v y
      (result_given leads old t good definers (occurrence_of (within st.spot body) d.1) (st.operations d.0 d.1 d.2) v
      d.3) f

  -- what is seen at an operation of a block
  block_seen : (n : ℕ) (body : KitBody) (h : slice_get (block_list top.blocks) n ≡ Some body) (base : List Value) →
      Starts n body base →
      (k : ℕ) (v y : Value) → Has v (visible (around_of t (block_in n body h) k)) → Follow v y →
      Has y (base ++ defined_by (take k (hs body.operations)))
  block_seen n body h base starts k v y has f = ⊎_elim
      (λ a. ⊎_elim
      (λ b. has-left y base (defined_by (take k (hs body.operations))) (starts.arguments v y b f))
      (λ b.
      let c : Has v (defined_by (take k (hs body.operations))) =
      subst (Has v) (results_taken (operation_list body.operations) k) b in
      subst (λ z. Has z (base ++ defined_by (take k (hs body.operations))))
      (sym (result_same n body h v y (defined_take v (hs body.operations) k c) f))
      (has-right v base (defined_by (take k (hs body.operations))) c))
      (has-append v (values_of body.label.arguments) (results_of (take k (operation_list body.operations))) a))
      (λ a. has-left y base (defined_by (take k (hs body.operations))) (starts.entry v y a f))
      (has-append v (values_before body k) (cond (n == 0) [] entry_values) has)

  -- a block of a function isn't empty
  not_empty : (n : ℕ) (body : KitBody) → slice_get (block_list top.blocks) n ≡ Some body →
      top.s.op.head.content.kind ≡ ops.Func →
      0 < length (operation_list body.operations)
  not_empty n body h e =
      let r : rules.BlocksEnd (kit_world leads old) top.s = owner_keeps leads old t good top rule.BlocksEnd in
      let i = index_of_has (bodies_of top.s.op) body
      (in_joined block_list (region_list top.s.op.regions) top.blocks body
      (has_at_index (region_list top.s.op.regions) top.r top.blocks top.region_here)
      (has_at_index (block_list top.blocks) n body h)) in
      by_list (operation_list body.operations) (r.none_empty e i.0 body i.1)
    where
      by_list : {X : Type 0} (xs : List X) → (xs ≡ [] → ⊥) → 0 < length xs
      by_list [] f = absurd (f refl)
      by_list (x ∷ xs) f = omega arith

  -- ---- the end of a block to which the next is joined

  module _ (n : ℕ) (body : KitBody) (h : slice_get (block_list top.blocks) n ≡ Some body) where
    module _ (next : KitBlockOccurrence) (j : JoinsTo t body.label.name next.label.name) where
      last_here : LastStep leads old t good (block_in n body h) body.label.name next.label.name j
      last_here = last_in leads old t good (block_in n body h) body.label.name next.label.name j refl

      abbrev last_there : Step t
      last_there = record { in_block = block_in n body h; k = last_here.k; u = last_here.u; here = last_here.here }

      -- the function that it is in
      owner_function : top.s.op.head.content.kind ≡ ops.Func
      owner_function =
          in_function leads old t good last_there (subst (IsBranchKind leads old t good) (sym last_here.kind) plain)

      last_index : last_here.k + 1 ≡ length (operation_list body.operations)
      last_index =
          branch_last leads old t good last_there (subst (IsBranchKind leads old t good) (sym last_here.kind) plain)

      last_results : last_here.u.head.results ≡ []
      last_results =
          let l = last_here in
          let f : rules.FitsKind (kit_world leads old) l.u ops.Br =
          subst (rules.FitsKind (kit_world leads old) l.u) l.kind (keeps leads old t good last_there rule.FitsFormat) in
          no_length l.u.head.results f.results

      module _ (own : KitList Operations) (a : Becomes t None Operations (but_last body.operations) own) where
        own_heads : hs own ≡ take last_here.k (hs body.operations)
        own_heads = are t None Operations (but_last body.operations) own a
            ∙ but_last_heads body.operations last_here.k last_index

        defines_own : (v : Value) → Has v (defined_by (hs body.operations)) → Has v (defined_by (hs own))
        defines_own v has = subst (λ l. Has v (defined_by l)) (sym own_heads)
            (but_last_defined v (operation_list body.operations) last_here.k last_here.u last_here.here last_index
            last_results has)

    -- in a module no chain goes on
    pub module_chain : top.s.op.head.content.kind ≡ ops.Module → (all : KitList Operations) →
        Becomes t (Some body.label.name) Operations body.operations all → hs all ≡ hs body.operations
    module_chain m all a = ⊎_elim
        (λ e. are t None Operations body.operations all e.becomes)
        (λ g. absurd (no_function (sym m ∙ owner_function g.next g.joins)))
        (chain_is t (Some body.label.name) Operations body.operations all a)
      where
        no_function : ops.Module ≡ ops.Func → ⊥
        no_function e = cc e

    -- what the operations of a block define the operations of its chain define
    pub chain_defines : (all : KitList Operations) → Becomes t (Some body.label.name) Operations body.operations all →
        (v : Value) → Has v (defined_by (hs body.operations)) → Has v (defined_by (hs all))
    chain_defines all a v has = ⊎_elim
        (λ e. subst (λ l. Has v (defined_by l)) (sym (are t None Operations body.operations all e.becomes)) has)
        (λ g.
        let same : hs all ≡ hs g.own ++ hs g.others =
        ap hs g.is ∙ (ap heads (append_list g.own g.others)
        ∙ heads_append (operation_list g.own) (operation_list g.others)) in
        subst (λ l. Has v (defined_by l)) (sym same) (defined_left v (hs g.own) (hs g.others)
        (defines_own g.next g.joins g.own g.becomes v has)))
        (chain_is t (Some body.label.name) Operations body.operations all a)

  -- ---- a chain that ends, and one that goes on

  module _ (n : ℕ) (body : KitBody) (h : slice_get (block_list top.blocks) n ≡ Some body) (base : List Value)
      (starts : Starts n body base) where
    ended : (own : KitList Operations) → ((c : Ptr BasicBlock) → JoinsTo t body.label.name c → ⊥) →
        Becomes t None Operations body.operations own →
        Chained base own
    ended own none a =
        let same : hs own ≡ hs body.operations = are t None Operations body.operations own a in
        let many : length (operation_list own) ≡ length (operation_list body.operations) =
        sym (length-map (λ (u : KitTree). u.head) (operation_list own))
        ∙ (ap length same ∙ length-map (λ (u : KitTree). u.head) (operation_list body.operations)) in
        record {
          filled = λ f. let m = not_empty n body h f in omega (arith, m, many);
          sources = λ k z e.
              let w = were t None Operations body.operations own a k z e in
              let st : Step t = record { in_block = block_in n body h; k = k; u = w.it; here = w.here } in
              record {
                number = n;
                body = body;
                block_here = h;
                index = k;
                it = w.it;
                here = w.here;
                head = w.head;
                regions_become = w.regions_become;
                seen = λ v y has f. subst (λ l. Has y (base ++ defined_by (take k l))) (sym same)
                    (block_seen n body h base starts k v y has f);
                last = λ q. q ∙ many;
                end_is = λ q. q ∙ sym many;
                stays = λ c has b j.
                    let s = block_stands t (block_in n body h) in
                    let is = j.single (occurrence_of (within s.spot body) w.it) (s.operations k w.it w.here) has in
                    none c (subst (λ b. JoinsTo t b c) (sym j.in_block ∙ ap (λ z. z.site.label.name) (sym is)) j);
                alone = λ m. (refl, same);
              };
        }

    module _ (next : KitBlockOccurrence) (j : JoinsTo t body.label.name next.label.name) (own : KitList Operations)
        (a : Becomes t None Operations (but_last body.operations) own) where
      abbrev next_base : List Value
      next_base = base ++ defined_by (hs own)

      -- what is seen where the next block begins
      next_starts : Starts (last_here n body h next j).number (last_here n body h next j).next next_base
      next_starts = record {
        arguments = λ v y has f.
            let l = (last_here n body h next j) in
            let u = next_argument leads old t good (block_in n body h) body.label.name next.label.name j l v y has f in
            let r : rules.OperandsAreVisible (kit_world leads old) (site_of t (last_there n body h next j)) =
            keeps leads old t good (last_there n body h next j) rule.OperandsAreVisible in
            let i = index_of_has l.u.head.operands u.0 u.1 in
            let sees = r.inside (around_of t (block_in n body h) l.k) refl i.0 u.0 i.1 in
            subst (λ l. Has y (base ++ defined_by l)) (sym (own_heads n body h next j own a))
            (block_seen n body h base starts l.k u.0 y (has_at_index (visible (around_of t (block_in n body h) l.k))
            sees.0 u.0 sees.1) u.2);
        entry = λ v y has f. by_number (n == 0) refl v y (in_cond ((last_here n body h next j).number == 0) v
            entry_values has) f;
      }
        where
          by_number : (b : Bool) → (n == 0) ≡ b → (v y : Value) → Has v entry_values → Follow v y → Has y next_base
          by_number false e v y has f =
              has-left y base (defined_by (hs own)) (starts.entry v y
              (subst (λ b. Has v (cond b [] entry_values)) (sym e) has) f)
          by_number true e v y has f =
              let at : first_body top.blocks ≡ Some body = ap (slice_get (block_list top.blocks)) (sym (is_zero n e))
              ∙ h in
              ⊎_elim
              (λ c. has-left y base (defined_by (hs own)) (starts.arguments v y c f))
              (λ c.
              let l = (last_here n body h next j) in
              let d : Has v (defined_by (hs body.operations)) =
              subst (Has v) (results_are (operation_list body.operations)) c in
              subst (λ z. Has z next_base) (sym (result_same n body h v y d f))
              (has-right v base (defined_by (hs own)) (defines_own n body h next j own a v d)))
              (has-append v (values_of body.label.arguments) (results_of (operation_list body.operations))
              (subst (λ o. Has v (values_if o)) at has))

      module _ (others all : KitList Operations) (is : all ≡ append own others) (rest : Chained next_base others) where
        list_is : operation_list all ≡ operation_list own ++ operation_list others
        list_is = ap operation_list is ∙ append_list own others

        heads_is : hs all ≡ hs own ++ hs others
        heads_is = ap heads list_is ∙ heads_append (operation_list own) (operation_list others)

        many : length (operation_list all) ≡ length (operation_list own) + length (operation_list others)
        many = ap length list_is ∙ length_append (operation_list own) (operation_list others)

        from_own : (k : ℕ) (z : KitTree) → slice_get (operation_list own) k ≡ Some z → Source base all k z
        from_own k z e =
            let w = were t None Operations (but_last body.operations) own a k z e in
            let at = but_last_get body.operations k w.it w.here in
            let st : Step t = record { in_block = block_in n body h; k = k; u = w.it; here = at.0 } in
            let below : k + 1 < length (operation_list body.operations) = at.1 in
            let within_own = get_below (operation_list own) k z e in
            let more = rest.filled (owner_function n body h next j) in
            let l : (last_here n body h next j).k + 1 ≡ length (operation_list body.operations) =
            (last_index n body h next j) in
            let ho : length (hs own) ≡ length (operation_list own) =
            length-map (λ (u : KitTree). u.head) (operation_list own) in
            let hb : length (hs body.operations) ≡ length (operation_list body.operations) =
            length-map (λ (u : KitTree). u.head) (operation_list body.operations) in
            let same : take k (hs all) ≡ take k (hs body.operations) =
            ap (take k) heads_is
            ∙ (take_front (hs own) (hs others) k (omega (arith, within_own, ho))
            ∙ (ap (take k) (own_heads n body h next j own a) ∙ take_twice (hs body.operations)
            (last_here n body h next j).k k (omega (arith, l, below)))) in
            record {
              number = n;
              body = body;
              block_here = h;
              index = k;
              it = w.it;
              here = at.0;
              head = w.head;
              regions_become = w.regions_become;
              seen = λ v y has f. subst (λ l. Has y (base ++ defined_by l)) (sym same)
                  (block_seen n body h base starts k v y has f);
              last = λ q. absurd (omega (arith, q, many, within_own, more));
              end_is = λ q. absurd (omega (arith, q, below));
              stays = λ c has. let q = not_last leads old t good st c has in absurd (omega (arith, q, below));
              alone = λ m. absurd (no_module (sym m ∙ (owner_function n body h next j)));
            }
          where
            take_twice : {X : Type 0} (xs : List X) (n k : ℕ) → k ≤ n → take k (take n xs) ≡ take k xs
            take_twice xs n zero h = refl
            take_twice [] zero (suc k) h = refl
            take_twice [] (suc n) (suc k) h = refl
            take_twice (x ∷ xs) zero (suc k) h = absurd (omega (arith, h))
            take_twice (x ∷ xs) (suc n) (suc k) h = ap (λ l. x ∷ l) (take_twice xs n k (omega (arith, h)))

            no_module : ops.Module ≡ ops.Func → ⊥
            no_module e = cc e

        from_others : (k i : ℕ) (z : KitTree) → k ≡ length (operation_list own) + i → Source next_base others i z →
            Source base all k z
        from_others k i z e w =
            let ho : length (hs own) ≡ length (operation_list own) =
            length-map (λ (u : KitTree). u.head) (operation_list own) in
            let same : take k (hs all) ≡ hs own ++ take i (hs others) =
            ap (take k) heads_is ∙ take_behind (hs own) (hs others) k i (omega (arith, e, ho)) in
            record {
              number = w.number;
              body = w.body;
              block_here = w.block_here;
              index = w.index;
              it = w.it;
              here = w.here;
              head = w.head;
              regions_become = w.regions_become;
              seen = λ v y has f.
                  subst (λ l. Has y (base ++ defined_by l)) (sym same)
                  (⊎_elim
                  (λ b. wider y base (defined_by (hs own)) (defined_by (hs own ++ take i (hs others)))
                  (λ d. defined_left y (hs own) (take i (hs others)) d) b)
                  (λ b. has-right y base (defined_by (hs own ++ take i (hs others)))
                  (defined_right y (hs own) (take i (hs others)) b))
                  (has-append y next_base (defined_by (take i (hs others))) (w.seen v y has f)));
              last = λ q. w.last (omega (arith, q, e, many));
              end_is = λ q. let m = w.end_is q in omega (arith, m, e, many);
              stays = w.stays;
              alone = λ m. absurd (no_module (sym m ∙ (owner_function n body h next j)));
            }
          where
            no_module : ops.Module ≡ ops.Func → ⊥
            no_module e = cc e

        goes_on : Chained base all
        goes_on = record {
          filled = λ f. let m = rest.filled f in omega (arith, m, many);
          sources = λ k z e. ⊎_elim (λ q. from_own k z q) (λ q. from_others k q.place z q.index
              (rest.sources q.place z q.here))
              (get_append (operation_list own) (operation_list others) k z (ap (λ l. slice_get l k) (sym list_is) ∙ e));
        }

  -- ---- both

  abbrev IsChained : Option (Ptr BasicBlock) → (s : Sort) → KitList s → KitList s → Type 0
  IsChained None s x u = Unit {0}
  IsChained (Some b) Blocks x u = Unit {0}
  IsChained (Some b) Regions x u = Unit {0}
  IsChained (Some b) Operations x u = (n : ℕ) (body : KitBody) → slice_get (block_list top.blocks) n ≡ Some body →
      body.label.name ≡ b → body.operations ≡ x → (base : List Value) → Starts n body base → Chained base u

  pub chained : (q : Option (Ptr BasicBlock)) (s : Sort) (x u : KitList s) → Becomes t q s x u → IsChained q s x u
  chained _ _ _ _ (ends s) = tt
  chained _ _ _ _ (operations h rs qs rest more a b) = tt
  chained _ _ _ _ (regions bs cs rest more a b) = tt
  chained _ _ _ _ (taken l ops rest more b j a) = tt
  chained _ _ _ _ (first l ops all rest more n a b) = tt
  chained _ _ _ _ (chain_ends b xs own none a) = λ n body h e q base starts.
      ended n body h base starts own (λ c j. none c (subst (λ b. JoinsTo t b c) e j))
      (subst (λ x. Becomes t None Operations x own) (sym q) a)
  chained _ _ _ _ (chain_goes_on b x xs own others all j hx a c is) =
      let rest = chained (Some x.label.name) Operations x.operations others c in
      λ n body h e q base starts.
      let k : JoinsTo t body.label.name x.label.name = subst (λ b. JoinsTo t b x.label.name) (sym e) j in
      let l = last_here n body h x k in
      let a2 : Becomes t None Operations (but_last body.operations) own =
      subst (λ z. Becomes t None Operations (but_last z) own) (sym q) a in
      let y = block_in l.number l.next l.next_here in
      let same : block_of (block_stands t y).spot l.next ≡ x =
      good.apart.blocks (block_of (block_stands t y).spot l.next) x (block_stands t y).here hx l.next_name in
      goes_on n body h base starts x k own a2 others all is
      (rest l.number l.next l.next_here l.next_name (ap (λ (z : KitBlockOccurrence). z.operations) same)
      (next_base n body h base starts x k own a2)
      (next_starts n body h base starts x k own a2))
