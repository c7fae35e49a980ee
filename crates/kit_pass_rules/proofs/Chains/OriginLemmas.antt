-- Each operation of the tree whose chains are joined has come from one of the tree.
use Rattle.std.proofs.Common.{◌≡◌, ⊎_elim, ℕ, zero, suc, ◌+◌, cond, List, []}
use Rattle.std.proofs.Common.{◌∷◌, ◌++◌, map, take, length, Option, Some, None, slice_get, refl, sym, ap, ◌∙◌, subst}
use Rattle.std.proofs.Common.{arith}
use Rattle.std.specs.Prelude.{◌==◌}
use Rattle.ir_base.specs.declared.types.TypeHandle.{TypeHandle}
use Rattle.ir_program.specs.declared.handles.Ptr.{Ptr}
use Rattle.ir_program.specs.declared.handles.BasicBlock.{BasicBlock}
use Rattle.ir_program.specs.declared.handles.Value.{Value}
use Rattle.ir_trees.specs.Trees.{Operations, Blocks, Regions}
use Rattle.kit.specs.Context.{KitTree}
use Rattle.kit.specs.Meaning.{kit}
use Rattle.kit_checks.specs.Sites.{operation_list, block_list, region_list, site_from, site_at}
use Rattle.kit_checks.specs.Words.{values_of, results_of, values_if, first_body, visible}
use Rattle.kit_checks.proofs.Down.{step_to, stepped}
use Rattle.kit_checks.proofs.Everys.{at_index}
use Rattle.kit_ops.specs.declared.kinds.KitOp.TheVariants as ops
use Rattle.kit_ops.specs.declared.types.KitType.{KitType}
use Rattle.kit_pass_rules.specs.Laws.{IsGood}
use Rattle.kit_pass_rules.proofs.Lists.{map_get, map_at}
use Rattle.kit_pass_rules.proofs.Walk.{within, occurrence_of, Standing, stands_root, child_of}
use Rattle.kit_pass_rules.specs.ChainLaws.{DefinersApart}
use Rattle.kit_pass_rules.proofs.Chains.InversionLemmas.{KitList, KitBody, Becomes, IsHead, WasBlock, were, entry_is}
use Rattle.kit_pass_rules.proofs.Chains.ListLemmas.{get_below, heads, defined_by, results_are, results_taken, definer}
use Rattle.kit_pass_rules.proofs.Chains.PlaceLemmas.{KitSite, KitAround, BlockStep, Step, block_stands, around_of, beside}
use Rattle.kit_pass_rules.proofs.Chains.ForwardedLemmas.{follows_none, entry_head, head_argument, result_given}
use Rattle.kit_pass_rules.proofs.Chains.ChainLemmas.{hs, Starts, Source, Chained, chained, chain_defines, suc_zero, in_cond}
use Rattle.kit_pass_rules.proofs.Chains.UseLemmas.{used, used_body, used_blocks, operations_used, blocks_used, regions_used}
use Rattle.kit_pass_rules.proofs.Chains.UseLemmas.{heads_used, defined_used, take_used}
use Rattle.opt_trees.specs.Occurrences.{Has}
use Rattle.opt_trees.specs.Simplify.{all_of, use_head, use_instead, Follows}
use Rattle.opt_trees.proofs.Lists.{some_same, none_some, length-map}
use Rattle.opt_trees.proofs.NoneDead.{has-append, has-left, has-right}

module _ (leads : TypeHandle → Option KitType) (old : Value → Option TypeHandle) (t : KitTree)
    (good : IsGood leads old t)
    (definers : DefinersApart t) (names : Value → Value) (follows : (v : Value) →
    Follows kit (all_of t) t v (names v)) where
  -- what an operation has become, with all that is in it
  pub record Became (u v : KitTree) : Type 0 where
    pub made : KitList Regions
    pub becomes : Becomes t None Regions u.regions made
    pub is : v ≡ record { head = use_head names u.head; regions = use_instead names made }

  -- an operation of the tree with all that is in it
  pub record Placed (u : KitTree) : Type 0 where
    pub s : KitSite
    pub outer : List KitTree
    pub up : Standing t s outer
    pub is : s.op ≡ u

  -- the operations around, and what has become of each
  abbrev pub AllBecame : List KitTree → List KitTree → Type 0
  AllBecame [] [] = Unit {0}
  AllBecame [] (v ∷ vs) = ⊥
  AllBecame (u ∷ us) [] = ⊥
  AllBecame (u ∷ us) (v ∷ vs) = Placed u × Became u v × AllBecame us vs

  -- what has become of an operation in a block of a region, and of what is around it
  pub record Old (x : Step t) (v : KitTree) (a : KitAround) : Type 0 where
    pub became : Became x.u v
    pub around : AllBecame (x.in_block.s.op ∷ x.in_block.outer) (a.owner ∷ a.outer)
    pub blocks_made : KitList Blocks
    pub blocks_become : Becomes t None Blocks x.in_block.blocks blocks_made
    pub blocks_are : a.blocks ≡ use_instead names blocks_made
    -- what it saw it sees, as what that leads to
    pub sees : (v : Value) → Has v (visible (around_of t x.in_block x.k)) → Has (names v) (visible a)
    -- it ends its block where it did
    pub last : a.index + 1 ≡ length (operation_list a.body.operations) →
        x.k + 1 ≡ length (operation_list x.in_block.body.operations)
    pub end_is : x.k + 1 ≡ length (operation_list x.in_block.body.operations) →
        a.index + 1 ≡ length (operation_list a.body.operations)
    -- the blocks that it leads to are still there
    pub stays : (c : Ptr BasicBlock) → Has c x.u.head.successors → IsHead t c
    -- in a module it is where it was, among the same operations
    pub alone : x.in_block.s.op.head.content.kind ≡ ops.Module →
        (x.k ≡ a.index) × (heads (operation_list a.body.operations) ≡ map (use_head names)
        (heads (operation_list x.in_block.body.operations)))

  abbrev pub after_of : KitList Regions → KitTree
  after_of made = record { head = use_head names t.head; regions = use_instead names made }

  -- the block that one has come from: the entry alone becomes the entry
  pub record WasInRegion (bs cs : KitList Blocks) (k : ℕ) (c : KitBody) : Type 0 where
    pub was : WasBlock t bs k c
    pub entry : k ≡ 0 → was.number ≡ 0

  was_in : (s : KitSite) (outer : List KitTree) (up : Standing t s outer) (r : ℕ) (bs cs : KitList Blocks) →
      slice_get (region_list s.op.regions) r ≡ Some bs →
      Becomes t None Blocks bs cs → (k : ℕ) (c : KitBody) → slice_get (block_list cs) k ≡ Some c → WasInRegion bs cs k c
  was_in s outer up r bs cs hr a zero c e =
      let w = were t None Blocks bs cs a 0 c e in
      let below = get_below (block_list bs) w.number w.it w.here in
      let f = at_index (block_list bs) 0 (omega (arith, below)) in
      let top : BlockStep t = record {
        s = s;
        outer = outer;
        up = up;
        r = r;
        b = 0;
        blocks = bs;
        body = f.0;
        region_here = hr;
        block_here = f.1;
      } in
      let n = entry_head leads old t good top refl in
      let x = entry_is t None Blocks bs cs a f.0 f.1 n in
      let same : x.0 ≡ c = some_same x.0 c (sym x.1 ∙ e) in
      record {
        was = record {
          number = 0;
          it = f.0;
          here = f.1;
          label = sym x.2 ∙ ap (λ (z : KitBody). z.label) same;
          is_head = n;
          chain = subst (λ (z : KitBody). Becomes t (Some f.0.label.name) Operations f.0.operations z.operations) same
              x.3;
        };
        entry = λ q. refl;
      }
  was_in s outer up r bs cs hr a (suc k) c e = record {
    was = were t None Blocks bs cs a (suc k) c e;
    entry =
        λ q. absurd (omega (arith, q));
  }

  -- one step down
  module _ (s : KitSite) (outer : List KitTree) (up : Standing t s outer) (r b : ℕ) (bs cs : KitList Blocks)
      (hr : slice_get (region_list s.op.regions) r ≡ Some bs)
      (becomes : Becomes t None Blocks bs cs) (c : KitBody) (hc : slice_get (block_list cs) b ≡ Some c) where
    pub region_was : WasInRegion bs cs b c
    region_was = was_in s outer up r bs cs hr becomes b c hc

    abbrev pub top : BlockStep t
    top = record {
      s = s;
      outer = outer;
      up = up;
      r = r;
      b = region_was.was.number;
      blocks = bs;
      body = region_was.was.it;
      region_here = hr;
      block_here = region_was.was.here;
    }

    abbrev pub entry_after : List Value
    entry_after = values_if (first_body (use_instead names cs))

    abbrev pub base : List Value
    base = values_of c.label.arguments ++ cond (b == 0) [] entry_after

    -- values of the entry are what they are, and are values of it afterwards
    entry_stays : (v y : Value) → Has v (values_if (first_body bs)) → Follows kit (all_of t) t v y → Has y entry_after
    entry_stays v y has f = by_first (first_body bs) refl has
      where
        by_first : (o : Option KitBody) → first_body bs ≡ o → Has v (values_if o) → Has y entry_after
        by_first None q has = absurd has
        by_first (Some e) q has =
            let x : BlockStep t = record {
              s = s;
              outer = outer;
              up = up;
              r = r;
              b = 0;
              blocks = bs;
              body = e;
              region_here = hr;
              block_here = q;
            } in
            let st = block_stands t x in
            let n = entry_head leads old t good x refl in
            let z = entry_is t None Blocks bs cs becomes e q n in
            let at : first_body (use_instead names cs) ≡ Some (used_body names z.0) =
            ap (λ l. slice_get l 0) (blocks_used names cs) ∙ map_get (used_body names) (block_list cs) 0 z.0 z.1 in
            subst (λ o. Has y (values_if o)) (sym at)
            (⊎_elim
            (λ h.
            let same = follows_none leads old t good v y (head_argument leads old t good x n v h) f in
            has-left y (values_of z.0.label.arguments) (results_of (operation_list (use_instead names z.0.operations)))
            (subst (λ w. Has w (values_of z.0.label.arguments)) (sym same)
            (subst (λ l. Has v (values_of l.arguments)) (sym z.2) h)))
            (λ h.
            let d : Has v (defined_by (hs e.operations)) = subst (Has v) (results_are (operation_list e.operations))
            h in
            let u = definer v (operation_list e.operations) d in
            let same = follows_none leads old t good v y (result_given leads old t good definers
            (occurrence_of (within st.spot e) u.1) (st.operations u.0 u.1 u.2) v u.3) f in
            let g : Has v (defined_by (hs z.0.operations)) = chain_defines leads old t good definers x 0 e q
            z.0.operations z.3 v d in
            let list : results_of (operation_list (use_instead names z.0.operations)) ≡ defined_by (hs z.0.operations) =
            results_are (operation_list (use_instead names z.0.operations))
            ∙ (ap (λ l. defined_by (heads l)) (operations_used names z.0.operations)
            ∙ (ap defined_by (heads_used names (operation_list z.0.operations))
            ∙ defined_used names (hs z.0.operations))) in
            has-right y (values_of z.0.label.arguments) (results_of (operation_list (use_instead names z.0.operations)))
            (subst (λ w. Has w (results_of (operation_list (use_instead names z.0.operations)))) (sym same)
            (subst (Has v) (sym list) g)))
            (has-append v (values_of e.label.arguments) (results_of (operation_list e.operations)) has))

    starts : Starts leads old t good definers top region_was.was.number region_was.was.it base
    starts = record {
      arguments = λ v y has f.
          let same = follows_none leads old t good v y (head_argument leads old t good top region_was.was.is_head v has)
          f in
          has-left y (values_of c.label.arguments) (cond (b == 0) [] entry_after)
          (subst (λ w. Has w (values_of c.label.arguments)) (sym same)
          (subst (λ l. Has v (values_of l.arguments)) region_was.was.label has));
      entry = λ v y has f. has-right y (values_of c.label.arguments) (cond (b == 0) [] entry_after)
          (by_number b region_was.was.number region_was.entry v y has f);
    }
      where
        by_number : (k n : ℕ) → (k ≡ 0 → n ≡ 0) → (v y : Value) → Has v (cond (n == 0) [] (values_if (first_body bs))) →
            Follows kit (all_of t) t v y →
            Has y (cond (k == 0) [] entry_after)
        by_number zero n q v y has f =
            absurd (subst (λ m. Has v (cond (m == 0) [] (values_if (first_body bs)))) (q refl) has)
        by_number (suc k) zero q v y has f = absurd has
        by_number (suc k) (suc n) q v y has f =
            subst (λ b. Has y (cond b [] entry_after)) (sym (suc_zero k))
            (entry_stays v y (in_cond (suc n == 0) v (values_if (first_body bs)) has) f)

    pub chain_here : Chained leads old t good definers top base c.operations
    chain_here = chained leads old t good definers top (Some region_was.was.it.label.name) Operations
        region_was.was.it.operations c.operations region_was.was.chain
        region_was.was.number region_was.was.it region_was.was.here refl refl base starts

    module _ (owner : KitTree) (others : List KitTree) (around : AllBecame (s.op ∷ outer) (owner ∷ others)) (k : ℕ)
        (z : KitTree) (hz : slice_get (operation_list c.operations) k ≡ Some z) where
      pub source : Source leads old t good definers top base c.operations k z
      source = chain_here.sources k z hz

      abbrev pub step : Step t
      step = record {
        in_block = beside t top source.number source.body source.block_here;
        k = source.index;
        u = source.it;
        here = source.here;
      }

      abbrev pub around_after : KitAround
      around_after = record {
        owner = owner;
        outer = others;
        blocks = use_instead names cs;
        number = b;
        body =
            used_body names c;
        index = k;
      }

      heads_after : heads (operation_list (use_instead names c.operations)) ≡ map (use_head names) (hs c.operations)
      heads_after = ap heads (operations_used names c.operations) ∙ heads_used names (operation_list c.operations)

      results_after : results_of (take k (operation_list (use_instead names c.operations))) ≡ defined_by
          (take k (hs c.operations))
      results_after =
          results_taken (operation_list (use_instead names c.operations)) k
          ∙ (ap (λ l. defined_by (take k l)) heads_after
          ∙ (ap defined_by (take_used names (hs c.operations) k) ∙ defined_used names (take k (hs c.operations))))

      count_after : length (operation_list (use_instead names c.operations)) ≡ length (operation_list c.operations)
      count_after = ap length (operations_used names c.operations)
          ∙ length-map (used names) (operation_list c.operations)

      sees_after : (v : Value) → Has v (visible (around_of t step.in_block step.k)) →
          Has (names v) (visible around_after)
      sees_after v has =
          let y = names v in
          let xs = values_of c.label.arguments in
          let ys = results_of (take k (operation_list (use_instead names c.operations))) in
          let zs = cond (b == 0) [] entry_after in
          ⊎_elim
          (λ h. ⊎_elim
          (λ g. has-left y (xs ++ ys) zs (has-left y xs ys g))
          (λ g. has-right y (xs ++ ys) zs g)
          (has-append y xs zs h))
          (λ h. has-left y (xs ++ ys) zs (has-right y xs ys (subst (Has y) (sym results_after) h)))
          (has-append y base (defined_by (take k (hs c.operations))) (source.seen v y has (follows v)))

      pub old_here : Old step (used names z) around_after
      old_here = record {
        became = record {
          made = z.regions;
          becomes = source.regions_become;
          is = ap (λ h. record { head = use_head names h; regions = use_instead names z.regions }) (sym source.head);
        };
        around = around;
        blocks_made = cs;
        blocks_become = becomes;
        blocks_are = refl;
        sees = sees_after;
        last = λ q. source.last (q ∙ count_after);
        end_is = λ q. source.end_is q ∙ sym count_after;
        stays = source.stays;
        alone = λ m. let a = source.alone m in (a.0, heads_after ∙ ap (map (use_head names)) a.1);
      }

  module _ (made : KitList Regions) (joins : Becomes t None Regions t.regions made) where
    pub data Came : KitSite → Type 0 where
      at_root : Came (record { op = after_of made; around = None })
      below : (x : Step t) (v : KitTree) (a : KitAround) → Old x v a → Came (record { op = v; around = Some a })

    walk : (s : KitSite) (outer : List KitTree) (up : Standing t s outer) (v : KitTree) (br : Option KitAround)
        (others : List KitTree) → Became s.op v → AllBecame outer others →
        Came (record { op = v; around = br }) → (p : List ℕ) (site : KitSite) →
        site_from (record { op = v; around = br }) others p ≡ Some site → Came site
    walk s outer up v br others became around came [] site e =
        subst Came (some_same (record { op = v; around = br }) site e) came
    walk s outer up v br others became around came (r ∷ []) site e = absurd (none_some site e)
    walk s outer up v br others became around came (r ∷ b ∷ []) site e = absurd (none_some site e)
    walk s outer up v br others became around came (r ∷ b ∷ k ∷ p) site e =
        let there : KitSite = record { op = v; around = br } in
        let st = stepped there others r b k p site e in
        let rs : region_list v.regions ≡ map (used_blocks names) (region_list became.made) =
        ap (λ (z : KitTree). region_list z.regions) became.is ∙ regions_used names became.made in
        let x = map_at (used_blocks names) (region_list became.made) r st.blocks
        (ap (λ l. slice_get l r) (sym rs) ∙ st.region_here) in
        let w = were t None Regions s.op.regions became.made became.becomes r x.0 x.1 in
        let y = map_at (used_body names) (block_list x.0) b st.body
        (ap (λ l. slice_get l b) (sym (blocks_used names x.0))
        ∙ (ap (λ (z : KitList Blocks). slice_get (block_list z) b) x.2 ∙ st.block_here)) in
        let z = map_at (used names) (operation_list y.0.operations) k st.op
        (ap (λ l. slice_get l k) (sym (operations_used names y.0.operations))
        ∙ (ap (λ (z : KitBody). slice_get (operation_list z.operations) k) y.2 ∙ st.op_here)) in
        let all : AllBecame (s.op ∷ outer) (v ∷ others) = (
          record {
            s = s;
            outer = outer;
            up = up;
            is = refl;
          },
          became,
          around,
        ) in
        let old_one = old_here s outer up r b w.it x.0 w.here w.becomes y.0 y.1 v others all k z.0 z.1 in
        let x0 = step s outer up r b w.it x.0 w.here w.becomes y.0 y.1 v others all k z.0 z.1 in
        let c = child_of t s outer up r x0.in_block.b x0.k w.it x0.in_block.body x0.u w.here x0.in_block.block_here
        x0.here in
        let a0 = around_after s outer up r b w.it x.0 w.here w.becomes y.0 y.1 v others all k z.0 z.1 in
        let same : step_to there others (use_instead names x.0) b (used_body names y.0) k (used names z.0) ≡ step_to
        there others st.blocks b st.body k st.op =
        λ i. step_to there others (x.2 i) b (y.2 i) k (z.2 i) in
        walk (step_to s outer w.it x0.in_block.b x0.in_block.body x0.k x0.u) (s.op ∷ outer) c.standing (used names z.0)
        (Some a0) (v ∷ others) old_one.became all
        (below x0 (used names z.0) a0 old_one) p site (ap (λ q. site_from q (v ∷ others) p) same ∙ st.goes_on)

    pub came_from : (p : List ℕ) (site : KitSite) → site_at (after_of made) p ≡ Some site → Came site
    came_from p site e = walk (record { op = t; around = None }) [] (stands_root t) (after_of made) None []
        (record { made = made; becomes = joins; is = refl }) tt at_root p site e
