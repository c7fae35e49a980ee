-- What is handed on to a block that is joined to the one before it: as many values as it has arguments, of their types.
use Rattle.std.proofs.Common.{◌≡◌, inl, ℕ, suc, ◌+◌, ◌<◌, true, List, [], ◌∷◌, map, length}
use Rattle.std.proofs.Common.{Option, Some, slice_get, refl, sym, ap, ◌∙◌, subst, arith}
use Rattle.ir_base.specs.declared.types.TypeHandle.{TypeHandle}
use Rattle.ir_program.specs.declared.handles.Ptr.{Ptr}
use Rattle.ir_program.specs.declared.handles.BasicBlock.{BasicBlock}
use Rattle.ir_program.specs.declared.handles.Value.{Value}
use Rattle.ir_trees.specs.Trees.{Defined}
use Rattle.kit.specs.Context.{KitTree}
use Rattle.kit.specs.Meaning.{kit, range, first_size, forwards_of}
use Rattle.kit_checks.specs.KitWorld.{kit_world}
use Rattle.kit_checks.specs.Rules as rules
use Rattle.kit_checks.specs.Sites.{block_list, operation_list}
use Rattle.kit_checks.specs.Words.{types_of, values_of, is_branch, along_edge, segment_sizes, sizes_or_none}
use Rattle.kit_checks.specs.declared.rule.Rule.TheVariants as rule
use Rattle.kit_checks.proofs.Everys.{at_index}
use Rattle.kit_ops.specs.declared.kinds.KitOp.{KitOp}
use Rattle.kit_ops.specs.declared.kinds.KitOp.TheVariants as ops
use Rattle.kit_ops.specs.declared.types.KitType.{KitType}
use Rattle.kit_pass_rules.specs.Laws.{IsGood}
use Rattle.kit_pass_rules.proofs.Lists.{map_get, map_at, has_at_index, index_of_has}
use Rattle.kit_pass_rules.proofs.Walk.{block_of, within, occurrence_of}
use Rattle.kit_pass_rules.specs.ChainLaws.{DefinersApart}
use Rattle.kit_pass_rules.proofs.Chains.InversionLemmas.{KitBody, JoinsTo, IsHead}
use Rattle.kit_pass_rules.proofs.Chains.ListLemmas.{get_below}
use Rattle.kit_pass_rules.proofs.Chains.PlaceLemmas.{KitBlockOccurrence, KitOccurrence, BlockStep, Step, block_stands}
use Rattle.kit_pass_rules.proofs.Chains.PlaceLemmas.{beside, occurs_at, keeps, IsBranchKind, plain, conditional}
use Rattle.kit_pass_rules.proofs.Chains.PlaceLemmas.{branch_kind, edge_to, same_block}
use Rattle.opt_trees.specs.Facts.{forwarded}
use Rattle.opt_trees.specs.Occurrences.{Has, picks, cons_if, occurrences_of, block_occurrences_of}
use Rattle.opt_trees.specs.Simplify.{all_of, IsGiven, Follows, stops, goes_on}
use Rattle.opt_trees.proofs.Lists.{some_same, length-map}
use Rattle.opt_trees.proofs.NoneDead.{true_false}

-- all of a list, by their indices
picks_all : {X : Type 0} (all ys : List X) (s : ℕ) → ((i : ℕ) → slice_get all (s + i) ≡ slice_get ys i) →
    picks all (range s (length ys)) ≡ ys
picks_all all [] s h = refl
picks_all all (y ∷ ys) s h =
    let z : s ≡ s + 0 = omega arith in
    (λ i. cons_if ((ap (slice_get all) z ∙ h 0) i) (picks_all all ys (suc s) (λ i. let q : suc s + i ≡ s + suc i =
    omega arith in ap (slice_get all) q ∙ h (suc i)) i))

module _ (leads : TypeHandle → Option KitType) (old : Value → Option TypeHandle) (t : KitTree)
    (good : IsGood leads old t) where
  -- the end of a block that another is joined to
  pub record LastStep (x : BlockStep t) (b c : Ptr BasicBlock) (j : JoinsTo t b c) : Type 0 where
    pub k : ℕ
    pub u : KitTree
    pub here : slice_get (operation_list x.body.operations) k ≡ Some u
    pub is : j.last ≡ occurrence_of (within (block_stands t x).spot x.body) u
    pub names_next : Has c u.head.successors
    pub kind : u.head.content.kind ≡ ops.Br
    pub number : ℕ
    pub next : KitBody
    pub next_here : slice_get (block_list x.blocks) number ≡ Some next
    pub next_name : next.label.name ≡ c
    pub target : j.target ≡ block_of (block_stands t (beside t x number next next_here)).spot next
    pub types : map old u.head.operands ≡ map Some (types_of next.label.arguments)

  is_plain : (k : KitOp) (u : KitTree) (c : Ptr BasicBlock) → IsBranchKind leads old t good k →
      rules.FitsKind (kit_world leads old) u k →
      u.head.successors ≡ c ∷ [] → k ≡ ops.Br
  is_plain _ u c plain f e = refl
  is_plain _ u c conditional f e =
      let n : length u.head.successors ≡ 2 = f.0.successors in
      let m : length u.head.successors ≡ length (c ∷ []) = ap length e in
      absurd (omega (arith, n, m))

  -- from where the last operation is
  last_at : (b c : Ptr BasicBlock) (j : JoinsTo t b c) (st : Step t) →
      j.last ≡ occurrence_of (within (block_stands t st.in_block).spot st.in_block.body) st.u →
      LastStep st.in_block b c j
  last_at b c j st is =
      let leads_there : st.u.head.successors ≡ c ∷ [] = ap (λ z. z.head.successors) (sym is) ∙ j.leads in
      let has : Has c st.u.head.successors = subst (Has c) (sym leads_there) (inl refl) in
      let kind = is_plain st.u.head.content.kind st.u c (branch_kind leads old t good st c has)
      (keeps leads old t good st rule.FitsFormat) leads_there in
      let e = edge_to leads old t good st c has in
      let y = beside t st.in_block e.fits.here.0 e.fits.body e.fits.here.1 in
      let branch : is_branch st.u.head.content.kind ≡ true = ap is_branch kind in
      record {
        k = st.k;
        u = st.u;
        here = st.here;
        is = is;
        names_next = has;
        kind = kind;
        number = e.fits.here.0;
        next = e.fits.body;
        next_here = e.fits.here.1;
        next_name = e.fits.named;
        target = good.apart.blocks j.target (block_of (block_stands t y).spot e.fits.body) j.target_stands
            (block_stands t y).here (j.target_name ∙ sym e.fits.named);
        types = ap (λ k. map old (along_edge k (sizes_or_none (segment_sizes (kit_world leads old) st.u))
            st.u.head.operands e.edge)) (sym kind) ∙ e.fits.operands branch;
      }

  -- in the block of that name
  pub last_in : (x : BlockStep t) (b c : Ptr BasicBlock) (j : JoinsTo t b c) → x.body.label.name ≡ b → LastStep x b c j
  last_in x b c j e =
      let o = occurs_at leads old t good j.last j.stands in
      let l = o.step in
      let y = l.in_block in
      let is : j.last ≡ occurrence_of (within (block_stands t y).spot y.body) l.u =
      o.is ∙ ap (λ z. occurrence_of (within z y.body) l.u) (sym o.spot_is) in
      let same = same_block leads old t good y x (ap (λ z. z.site.label.name) (sym is) ∙ (j.in_block ∙ sym e)) in
      last_at b c j (record {
        in_block = x;
        k = l.k;
        u = l.u;
        here = ap (λ (z : KitBlockOccurrence). slice_get (operation_list z.operations) l.k) (sym same) ∙ l.here;
      }) (is ∙ ap (λ (z : KitBlockOccurrence). occurrence_of (record { spot = z.spot; label = z.label }) l.u) same)

  pub last_step : (b c : Ptr BasicBlock) (j : JoinsTo t b c) → (x : BlockStep t) × LastStep x b c j
  last_step b c j =
      let x = occurs_at leads old t good j.last j.stands in (
        x.step.in_block,
        last_at b c j x.step (x.is ∙ ap (λ z. occurrence_of (within z x.step.in_block.body) x.step.u)
            (sym x.spot_is)),
      )

  abbrev pub step_of : (x : BlockStep t) (b c : Ptr BasicBlock) (j : JoinsTo t b c) → LastStep x b c j → Step t
  step_of x b c j l = record { in_block = x; k = l.k; u = l.u; here = l.here }

  -- it hands on all that it names
  pub all_forwarded : (x : BlockStep t) (b c : Ptr BasicBlock) (j : JoinsTo t b c) (l : LastStep x b c j) →
      forwarded kit j.last.head 0 ≡ l.u.head.operands
  all_forwarded x b c j l =
      let u = l.u in
      ap (λ z. forwarded kit z.head 0) l.is
      ∙ (ap (λ k. picks u.head.operands (forwards_of k (first_size u.head.content.notes.attributes)
      (length u.head.operands) 0)) l.kind
      ∙ picks_all u.head.operands u.head.operands 0 (λ i. let z : 0 + i ≡ i = omega arith in
      ap (slice_get u.head.operands) z))

  -- the block that takes a value that is handed on
  pub given_in : (v u : Value) (g : IsGiven kit (all_of t) t v u) (x : KitBlockOccurrence) (i : ℕ) →
      Has x (block_occurrences_of t) →
      slice_get (values_of x.label.arguments) i ≡ Some v → (g.joins.target ≡ x) × (g.place ≡ i)
  given_in v u g x i h e = good.apart.arguments g.joins.target x v g.place i g.joins.target_stands h g.takes e

  pub given_to : (v u : Value) (g : IsGiven kit (all_of t) t v u) (x : KitBlockOccurrence) (i : ℕ) →
      Has x (block_occurrences_of t) →
      slice_get (values_of x.label.arguments) i ≡ Some v → JoinsTo t g.from x.label.name
  given_to v u g x i h e = subst (JoinsTo t g.from) (sym g.joins.target_name
      ∙ ap (λ z. z.label.name) (given_in v u g x i h e).0) g.joins

  -- its type is that of the argument
  argument_type : (x : BlockStep t) (i : ℕ) (v : Value) → slice_get (values_of x.body.label.arguments) i ≡ Some v →
      (h : TypeHandle) × (slice_get (types_of x.body.label.arguments) i ≡ Some h) × (old v ≡ Some h)
  argument_type x i v e =
      let st = block_stands t x in
      let d = map_at (λ (d : Defined Value TypeHandle). d.name) x.body.label.arguments i v e in (
        d.0.holds,
        map_get (λ (d : Defined Value TypeHandle). d.holds) x.body.label.arguments i d.0 d.1,
        ap old (sym d.2) ∙ good.typed_in.arguments (block_of st.spot x.body) st.here d.0
            (has_at_index x.body.label.arguments i d.0 d.1),
      )

  pub given_type : (v u : Value) → IsGiven kit (all_of t) t v u → old u ≡ old v
  given_type v u g =
      let at = last_step g.from g.to g.joins in
      let l = at.1 in
      let y = beside t at.0 l.number l.next l.next_here in
      let takes : slice_get (values_of l.next.label.arguments) g.place ≡ Some v =
      ap (λ z. slice_get (values_of z.label.arguments) g.place) (sym l.target) ∙ g.takes in
      let a = argument_type y g.place v takes in
      let gives : slice_get l.u.head.operands g.place ≡ Some u =
      ap (λ z. slice_get z g.place) (sym (all_forwarded at.0 g.from g.to g.joins l)) ∙ g.gives in
      some_same (old u) (Some a.0)
      (sym (map_get old l.u.head.operands g.place u gives)
      ∙ (ap (λ z. slice_get z g.place) l.types ∙ map_get Some (types_of l.next.label.arguments) g.place a.0 a.1))
      ∙ sym a.2

  pub follows_type : (v y : Value) → Follows kit (all_of t) t v y → old y ≡ old v
  follows_type _ _ (stops v n) = refl
  follows_type _ _ (goes_on v u y g f) = follows_type u y f ∙ given_type v u g

  -- what is no argument that is handed on is followed no further
  pub follows_none : (v y : Value) → ((u : Value) → IsGiven kit (all_of t) t v u → ⊥) → Follows kit (all_of t) t v y →
      y ≡ v
  follows_none _ _ n (stops v m) = refl
  follows_none _ _ n (goes_on v u y g f) = absurd (n u g)

  -- the entry of a region is joined to nothing
  pub entry_head : (x : BlockStep t) → x.b ≡ 0 → IsHead t x.body.label.name
  entry_head x e a j =
      let st = block_stands t x in
      let same = good.apart.blocks j.target (block_of st.spot x.body) j.target_stands st.here j.target_name in
      true_false st.spot.first (st.first e) (ap (λ z. z.spot.first) (sym same) ∙ j.not_entry)

  -- nor are its arguments handed on, nor those of another first block of a chain
  pub head_argument : (x : BlockStep t) → IsHead t x.body.label.name → (v : Value) →
      Has v (values_of x.body.label.arguments) →
      (u : Value) → IsGiven kit (all_of t) t v u → ⊥
  head_argument x n v h u g =
      let st = block_stands t x in
      let i = index_of_has (values_of x.body.label.arguments) v h in
      n g.from (given_to v u g (block_of st.spot x.body) i.0 st.here i.1)

  -- an argument of the next block leads to what the last operation names there
  pub next_argument : (z : BlockStep t) (b c : Ptr BasicBlock) (j : JoinsTo t b c) (l : LastStep z b c j)
      (v y : Value) → Has v (values_of l.next.label.arguments) →
      Follows kit (all_of t) t v y → (u : Value) × Has u l.u.head.operands × Follows kit (all_of t) t u y
  next_argument z b c j l v y h f =
      let i = index_of_has (values_of l.next.label.arguments) v h in
      step l.u.head.operands (all_forwarded z b c j l) i.0
      (ap (λ q. slice_get (values_of q.label.arguments) i.0) l.target ∙ i.1) v y refl
      (let a : i.0 < length (values_of l.next.label.arguments) =
      get_below (values_of l.next.label.arguments) i.0 v i.1 in
      let n : length (map old l.u.head.operands) ≡ length (map Some (types_of l.next.label.arguments)) =
      ap length l.types in
      let m : length (map old l.u.head.operands) ≡ length l.u.head.operands = length-map old l.u.head.operands in
      let o : length (map Some (types_of l.next.label.arguments)) ≡ length (types_of l.next.label.arguments) =
      length-map Some (types_of l.next.label.arguments) in
      let p : length (types_of l.next.label.arguments) ≡ length l.next.label.arguments =
      length-map (λ (d : Defined Value TypeHandle). d.holds) l.next.label.arguments in
      let q : length (values_of l.next.label.arguments) ≡ length l.next.label.arguments =
      length-map (λ (d : Defined Value TypeHandle). d.name) l.next.label.arguments in
      at_index l.u.head.operands i.0 (omega (arith, a, n, m, o, p, q))) f
    where
      step : (operands : List Value) → forwarded kit j.last.head 0 ≡ operands → (i : ℕ) →
          slice_get (values_of j.target.label.arguments) i ≡ Some v → (x y : Value) → x ≡ v →
          (u : Value) × (slice_get operands i ≡ Some u) → Follows kit (all_of t) t x y →
          (u : Value) × Has u operands × Follows kit (all_of t) t u y
      step operands e i takes _ _ same u (stops x n) =
          absurd (n u.0 (record {
            from = b;
            to = c;
            joins = j;
            place = i;
            takes = takes ∙ ap Some (sym same);
            gives =
                ap (λ l. slice_get l i) e ∙ u.1;
          }))
      step operands e i takes _ _ same u (goes_on x w y g f) =
          let at = given_in x w g j.target i j.target_stands (takes ∙ ap Some (sym same)) in
          let to : g.to ≡ c = sym g.joins.target_name ∙ (ap (λ z. z.label.name) at.0 ∙ j.target_name) in
          let last : g.joins.last ≡ j.last = j.single g.joins.last g.joins.stands
          (subst (Has c) (sym g.joins.leads) (inl (sym to))) in (
            w,
            has_at_index operands g.place w (ap (λ l. slice_get l g.place) (sym e)
                ∙ ((λ m. slice_get (forwarded kit (sym last m).head 0) g.place) ∙ g.gives)),
            f,
          )

  module _ (definers : DefinersApart t) where
    -- nor is a result handed on
    pub result_given : (o : KitOccurrence) → Has o (occurrences_of t) → (v : Value) → Has v (values_of o.head.results) →
        (u : Value) → IsGiven kit (all_of t) t v u → ⊥
    result_given o h v r u g =
        definers g.joins.target o v g.joins.target_stands h
        (has_at_index (values_of g.joins.target.label.arguments) g.place v g.takes) r
