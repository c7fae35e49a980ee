-- Each operation of a tree with constants is one of the tree, or a constant in a block of a function.
use Rattle.std.proofs.Common.{◌≡◌, ◌⊎◌, ⊎_elim, inl, inr, ℕ, zero, suc, ◌+◌, ◌<◌, true, List, [], ◌∷◌, ◌++◌, map, take, length, Option, Some, None, slice_get, refl, sym, ap, ◌∙◌, subst, arith}
use Rattle.std.proofs.lemmas.Option.{slice_get_within}
use Rattle.ir_base.specs.declared.types.TypeHandle.{TypeHandle}
use Rattle.ir_program.specs.declared.handles.Value.{Value}
use Rattle.ir_trees.specs.Renames.{Maps}
use Rattle.ir_trees.specs.Stands.{by_handle}
use Rattle.ir_trees.specs.Trees.{Defined, Blocks}
use Rattle.kit.specs.Context.{KitTree}
use Rattle.kit.specs.Meaning.{KitOperation, KitBlock}
use Rattle.kit_checks.specs.Faults.{Keeps}
use Rattle.kit_checks.specs.KitWorld.{kit_world}
use Rattle.kit_checks.specs.Rules as rules
use Rattle.kit_checks.specs.Sites.{Listed, operation_list, block_list, region_list, site_from, site_at}
use Rattle.kit_checks.specs.Words.{IsValueType, bodies_of, is_symbol}
use Rattle.kit_checks.specs.declared.rule.Rule.{Rule}
use Rattle.kit_checks.specs.declared.rule.Rule.TheVariants as rule
use Rattle.kit_checks.proofs.Down.{step_to, stepped}
use Rattle.kit_checks.proofs.Passed.{in_joined}
use Rattle.kit_ops.specs.declared.attributes.IntegerAttr.{IntegerAttr}
use Rattle.kit_ops.specs.declared.kinds.KitOp.{KitOp}
use Rattle.kit_ops.specs.declared.kinds.KitOp.TheVariants as ops
use Rattle.kit_ops.specs.declared.types.KitType.{KitType}
use Rattle.kit_pass_rules.specs.Laws.{IsGood}
use Rattle.kit_pass_rules.proofs.DceCame.{KitAround, KitSite}
use Rattle.kit_pass_rules.proofs.Lists.{map_get, map_at, has_at_index, index_of_has}
use Rattle.kit_pass_rules.proofs.PutIn.{append_at, append_count, take_append, q_regions, q_blocks, q_tree, q_body, constant_tree, constants, fronts, woven, list_put, blocks_put, regions_put, Made, fronts_made, Member, OfResult, source, woven_none}
use Rattle.kit_pass_rules.proofs.Thin.{KitBody}
use Rattle.kit_pass_rules.proofs.Walk.{block_of, within, occurrence_of, Standing, stands_root, child_of, block_here}
use Rattle.opt_trees.specs.Occurrences.{Has}
use Rattle.opt_trees.specs.Sccp.{fresh}
use Rattle.opt_trees.proofs.Lists.{some_same, none_some}
use Rattle.opt_trees.proofs.NoneDead.{has-append, has-left, has-right}

no_region : (u : KitTree) (r s n : ℕ) (blocks : Listed KitOperation KitBlock Blocks) → rules.Counts u r s 0 → slice_get (region_list u.regions) n ≡ Some blocks → ⊥
no_region u r s n blocks c e = let w : n < length (region_list u.regions) = slice_get_within (region_list u.regions) n blocks e in let z = c.regions in omega (arith, w, z)

no_result : (ds : List (Defined Value TypeHandle)) (d : Defined Value TypeHandle) → length ds ≡ 0 → Has d ds → ⊥
no_result [] d e h = h
no_result (x ∷ ds) d e h = omega (arith, e)

pub body_in : (u : KitTree) (r b : ℕ) (blocks : Listed KitOperation KitBlock Blocks) (body : KitBody) → slice_get (region_list u.regions) r ≡ Some blocks → slice_get (block_list blocks) b ≡ Some body → Has body (bodies_of u)
body_in u r b blocks body hr hb = in_joined block_list (region_list u.regions) blocks body (has_at_index (region_list u.regions) r blocks hr) (has_at_index (block_list blocks) b body hb)

one_block : (b body : KitBody) (lists : List (List KitBody)) (list : List KitBody) (r n : ℕ) → lists ≡ (b ∷ []) ∷ [] → slice_get lists r ≡ Some list → slice_get list n ≡ Some body → body ≡ b
one_block b body lists list zero zero e h i =
    let q : b ∷ [] ≡ list = some_same (b ∷ []) list (sym (ap (λ l. slice_get l 0) e) ∙ h) in sym (some_same b body (ap (λ l. slice_get l 0) q ∙ i))
one_block b body lists list zero (suc n) e h i =
    let q : b ∷ [] ≡ list = some_same (b ∷ []) list (sym (ap (λ l. slice_get l 0) e) ∙ h) in absurd (none_some body (ap (λ l. slice_get l (suc n)) q ∙ i))
one_block b body lists list (suc r) n e h i = absurd (none_some list (sym (ap (λ l. slice_get l (suc r)) e) ∙ h))

module _ (leads : TypeHandle → Option KitType) (old : Value → Option TypeHandle) (t : KitTree) (good : IsGood leads old t)
    (made : Value → Option IntegerAttr) (names : Maps (fresh by_handle) by_handle) where
  pub keeps_below : (s : KitSite) (outer : List KitTree) (up : Standing t s outer) (r b k : ℕ) (blocks : Listed KitOperation KitBlock Blocks) (body : KitBody) (u : KitTree) →
      slice_get (region_list s.op.regions) r ≡ Some blocks → slice_get (block_list blocks) b ≡ Some body → slice_get (operation_list body.operations) k ≡ Some u →
      (q : Rule) → Keeps (kit_world leads old) q (step_to s outer blocks b body k u)
  keeps_below s outer up r b k blocks body u hr hb hk q =
      let c = child_of t s outer up r b k blocks body u hr hb hk in
      good.obeys q c.place (step_to s outer blocks b body k u) c.at_place

  owner_kind : (u : KitTree) (k : KitOp) → u.head.content.kind ≡ k → rules.FitsKind (kit_world leads old) u k → (r : ℕ) (blocks : Listed KitOperation KitBlock Blocks) → slice_get (region_list u.regions) r ≡ Some blocks →
      (u.head.content.kind ≡ ops.Module) ⊎ (u.head.content.kind ≡ ops.Func)
  owner_kind u ops.Module e h r bs q = inl e
  owner_kind u ops.Func e h r bs q = inr e
  owner_kind u ops.Constant e h r bs q = absurd (no_region u 1 0 r bs h.0 q)
  owner_kind u ops.ForwardRef e h r bs q = absurd (no_region u 1 0 r bs h.0 q)
  owner_kind u (ops.Arithmetic x) e h r bs q = absurd (no_region u 1 0 r bs h.0 q)
  owner_kind u (ops.Comparison x) e h r bs q = absurd (no_region u 1 0 r bs h.0 q)
  owner_kind u ops.Br e h r bs q = absurd (no_region u 0 1 r bs h q)
  owner_kind u ops.CondBr e h r bs q = absurd (no_region u 0 2 r bs h.0 q)
  owner_kind u ops.Call e h r bs q = absurd (no_region u (length h.signature.results.items) 0 r bs h.numbers.0 q)
  owner_kind u ops.Emit e h r bs q = absurd (no_region u 0 0 r bs h.0 q)
  owner_kind u ops.Return e h r bs q = absurd (no_region u 0 0 r bs h q)

  no_results : (u : KitTree) (k : KitOp) → is_symbol k ≡ true → rules.FitsKind (kit_world leads old) u k → length u.head.results ≡ 0
  no_results u ops.Module e h = h.0.results
  no_results u ops.Func e h = h.0.results
  no_results u k e h = absurd (cc e)

  -- a value of the tree, with its type
  pub record Typed (v : Value) : Type 0 where
    pub type : TypeHandle
    pub was : old v ≡ Some type
    pub value : IsValueType (kit_world leads old) type

  -- a constant in a block of a function
  pub record Put (s : KitSite) : Type 0 where
    pub value : Value
    pub attribute : IntegerAttr
    pub is_made : made value ≡ Some attribute
    pub is : constant_tree made names value attribute ≡ s.op
    pub around : KitAround
    pub is_in : s.around ≡ Some around
    pub in_function : around.owner.head.content.kind ≡ ops.Func
    pub more : around.index + 1 ≡ length (operation_list around.body.operations) → ⊥
    pub typed : Typed value

  -- what is around an operation, with constants
  abbrev pub q_around : KitAround → ℕ → KitAround
  q_around a j = record {
    owner = q_tree made names a.owner;
    outer = map (q_tree made names) a.outer;
    blocks = q_blocks made names a.blocks;
    number = a.number;
    body = q_body made names a.body;
    index = j;
  }

  -- the operation was there, and its index is j now
  pub record Was (u : KitTree) (a : KitAround) (j : ℕ) : Type 0 where
    pub up_around : Option KitAround
    pub new_around : Option KitAround
    pub up : Standing t (record { op = a.owner; around = up_around }) a.outer
    pub new_up : Standing (q_tree made names t) (record { op = q_tree made names a.owner; around = new_around }) (map (q_tree made names) a.outer)
    pub region : ℕ
    pub region_here : slice_get (region_list a.owner.regions) region ≡ Some a.blocks
    pub new_region_here : slice_get (region_list (q_regions made names a.owner.regions)) region ≡ Some (q_blocks made names a.blocks)
    pub block_here : slice_get (block_list a.blocks) a.number ≡ Some a.body
    pub here : slice_get (operation_list a.body.operations) a.index ≡ Some u
    pub before : (z : KitTree) → Has z (fronts made names a.body.label.arguments ++ woven made names (take a.index (operation_list a.body.operations))) →
        Has z (take j (operation_list (q_body made names a.body).operations))
    pub back : (z : KitTree) → Has z (take j (operation_list (q_body made names a.body).operations)) →
        Has z (fronts made names a.body.label.arguments) ⊎ (Has z (woven made names (take a.index (operation_list a.body.operations))) ⊎ Has z (constants made names u.head.results))
    pub last : a.index + 1 ≡ length (operation_list a.body.operations) → j + 1 ≡ length (operation_list (q_body made names a.body).operations)
    pub end : j + 1 ≡ length (operation_list (q_body made names a.body).operations) → a.index + 1 ≡ length (operation_list a.body.operations)

  pub data Comes : KitSite → Type 0 where
    at_root : Comes (record { op = q_tree made names t; around = None })
    below : (u : KitTree) (a : KitAround) (j : ℕ) → Was u a j → Comes (record { op = q_tree made names u; around = Some (q_around a j) })
    constant : (s : KitSite) → Put s → Comes s

  -- where an operation without regions is there is nothing further
  ends_there : (z : KitSite) (outer : List KitTree) → region_list z.op.regions ≡ [] → (p : List ℕ) (s : KitSite) → site_from z outer p ≡ Some s → z ≡ s
  ends_there z outer none [] s e = some_same z s e
  ends_there z outer none (r ∷ []) s e = absurd (none_some s e)
  ends_there z outer none (r ∷ b ∷ []) s e = absurd (none_some s e)
  ends_there z outer none (r ∷ b ∷ k ∷ p) s e =
      let st = stepped z outer r b k p s e in
      absurd (none_some st.blocks (sym (ap (λ l. slice_get l r) none) ∙ st.region_here))

  module _ (s : KitSite) (outer : List KitTree) (up : Standing t s outer) (here : (q : Rule) → Keeps (kit_world leads old) q s)
      (r b : ℕ) (blocks : Listed KitOperation KitBlock Blocks) (body : KitBody) (hr : slice_get (region_list s.op.regions) r ≡ Some blocks) (hb : slice_get (block_list blocks) b ≡ Some body) where
    kind_here : (s.op.head.content.kind ≡ ops.Module) ⊎ (s.op.head.content.kind ≡ ops.Func)
    kind_here = owner_kind s.op s.op.head.content.kind refl (here rule.FitsFormat) r blocks hr

    argument_function : (d : Defined Value TypeHandle) → Has d body.label.arguments → s.op.head.content.kind ≡ ops.Func
    argument_function d h = ⊎_elim
        (λ m.
        let holds : rules.ModuleHolds (kit_world leads old) s = here rule.ModuleHolds in
        let only = holds.body m in
        let same : body ≡ only.body = one_block only.body body (map block_list (region_list s.op.regions)) (block_list blocks) r b only.one (map_get block_list (region_list s.op.regions) r blocks hr) hb in
        absurd (subst (Has d) (ap (λ (z : KitBody). z.label.arguments) same ∙ only.no_arguments) h))
        (λ f. f) kind_here

    argument_typed : (d : Defined Value TypeHandle) → Has d body.label.arguments → Typed d.name
    argument_typed d h =
        let x = block_here t s outer up r b blocks body hr hb in
        let v : rules.ValuesAreIntegers (kit_world leads old) s = here rule.ValuesAreIntegers in
        let i = index_of_has (bodies_of s.op) body (body_in s.op r b blocks body hr hb) in
        let k = index_of_has body.label.arguments d h in
        record {
          type = d.holds;
          was = good.typed_in.arguments (block_of x.spot body) x.block d h;
          value = v.arguments i.0 body i.1 k.0 d.holds (map_get (λ (d : Defined Value TypeHandle). d.holds) body.label.arguments k.0 d k.1);
        }

    result_function : (i : ℕ) (x : KitTree) → slice_get (operation_list body.operations) i ≡ Some x → (d : Defined Value TypeHandle) → Has d x.head.results → s.op.head.content.kind ≡ ops.Func
    result_function i x hi d h = ⊎_elim
        (λ m.
        let a : KitAround = record { owner = s.op; outer = outer; blocks = blocks; number = b; body = body; index = i } in
        let holds : rules.ModuleHolds (kit_world leads old) (step_to s outer blocks b body i x) = keeps_below s outer up r b i blocks body x hr hb hi rule.ModuleHolds in
        absurd (no_result x.head.results d (no_results x x.head.content.kind (holds.kinds a (refl, m)) (keeps_below s outer up r b i blocks body x hr hb hi rule.FitsFormat)) h))
        (λ f. f) kind_here

    result_typed : (i : ℕ) (x : KitTree) → slice_get (operation_list body.operations) i ≡ Some x → (d : Defined Value TypeHandle) → Has d x.head.results → Typed d.name
    result_typed i x hi d h =
        let c = child_of t s outer up r b i blocks body x hr hb hi in
        let v : rules.ValuesAreIntegers (kit_world leads old) (step_to s outer blocks b body i x) = keeps_below s outer up r b i blocks body x hr hb hi rule.ValuesAreIntegers in
        let k = index_of_has x.head.results d h in
        record {
          type = d.holds;
          was = good.typed_in.results (occurrence_of (within c.spot body) x) c.here d h;
          value = v.results k.0 d.holds (map_get (λ (d : Defined Value TypeHandle). d.holds) x.head.results k.0 d k.1);
        }

    filled : s.op.head.content.kind ≡ ops.Func → length (woven made names (operation_list body.operations)) ≡ 0 → ⊥
    filled f e =
        let ends : rules.BlocksEnd (kit_world leads old) s = here rule.BlocksEnd in
        let i = index_of_has (bodies_of s.op) body (body_in s.op r b blocks body hr hb) in
        ends.none_empty f i.0 body i.1 (nothing (operation_list body.operations) (woven_none made names (operation_list body.operations) e))
      where
        nothing : (us : List KitTree) → length us ≡ 0 → us ≡ []
        nothing [] q = refl
        nothing (u ∷ us) q = absurd (omega (arith, q))

    -- a constant at an index of the block, in whatever is around it now
    module _ (br : Option KitAround) (k : ℕ) (y : KitTree) where
      abbrev around_now : KitAround
      around_now = record { owner = q_tree made names s.op; outer = map (q_tree made names) outer; blocks = q_blocks made names blocks; number = b; body = q_body made names body; index = k }

      abbrev site_now : KitSite
      site_now = record { op = y; around = Some around_now }

      counted : length (operation_list (q_body made names body).operations) ≡ length (fronts made names body.label.arguments) + length (woven made names (operation_list body.operations))
      counted = ap length (list_put made names body) ∙ append_count (fronts made names body.label.arguments) (woven made names (operation_list body.operations))

      pub front_put : k < length (fronts made names body.label.arguments) → Made made names body.label.arguments y → Put site_now
      front_put less m =
          let f = argument_function m.d m.has in
          record {
            value = m.d.name;
            attribute = m.attribute;
            is_made = m.is_made;
            is = m.is;
            around = around_now;
            is_in = refl;
            in_function = f;
            more = λ e. filled f (omega (arith, less, e, counted));
            typed = argument_typed m.d m.has;
          }

      pub result_put : (m : ℕ) → k ≡ length (fronts made names body.label.arguments) + m → OfResult made names (operation_list body.operations) m y → Put site_now
      result_put m at x =
          let d = x.made_for in
          record {
            value = d.d.name;
            attribute = d.attribute;
            is_made = d.is_made;
            is = d.is;
            around = around_now;
            is_in = refl;
            in_function = result_function x.index x.it x.here d.d d.has;
            more = λ e. x.more (omega (arith, at, e, counted));
            typed = result_typed x.index x.it x.here d.d d.has;
          }

  -- a member of the list of a block, where it has come to be
  was_made : (s : KitSite) (outer : List KitTree) (up : Standing t s outer) (r b : ℕ) (blocks : Listed KitOperation KitBlock Blocks) (body : KitBody) →
      slice_get (region_list s.op.regions) r ≡ Some blocks → slice_get (block_list blocks) b ≡ Some body → (br : Option KitAround) →
      Standing (q_tree made names t) (record { op = q_tree made names s.op; around = br }) (map (q_tree made names) outer) →
      slice_get (region_list (q_regions made names s.op.regions)) r ≡ Some (q_blocks made names blocks) →
      (k m : ℕ) → k ≡ length (fronts made names body.label.arguments) + m → (y : KitTree) (o : Member made names (operation_list body.operations) m y) →
      Was o.it (record { owner = s.op; outer = outer; blocks = blocks; number = b; body = body; index = o.index }) k
  was_made s outer up r b blocks body hr hb br new_up new_region k m at y o =
      let front : List KitTree = fronts made names body.label.arguments in
      let us : List KitTree = operation_list body.operations in
      let taken : take k (operation_list (q_body made names body).operations) ≡ front ++ take m (woven made names us) =
      ap (take k) (list_put made names body) ∙ take_append front (woven made names us) m k at in
      let counted : length (operation_list (q_body made names body).operations) ≡ length front + length (woven made names us) =
      ap length (list_put made names body) ∙ append_count front (woven made names us) in
      record {
        up_around = s.around;
        new_around = br;
        up = up;
        new_up = new_up;
        region = r;
        region_here = hr;
        new_region_here = new_region;
        block_here = hb;
        here = o.here;
        before = λ z h. subst (Has z) (sym taken) (⊎_elim
            (λ i. has-left z front (take m (woven made names us)) i)
            (λ i. has-right z front (take m (woven made names us)) (o.before z i))
            (has-append z front (woven made names (take o.index us)) h));
        back = λ z h. ⊎_elim (λ i. inl i) (λ i. inr (o.back z i)) (has-append z front (take m (woven made names us)) (subst (Has z) taken h));
        last = λ e. let n : m + 1 ≡ length (woven made names us) = o.last e in omega (arith, n, at, counted);
        end = λ e. o.end (omega (arith, e, at, counted));
      }

  -- one step down in the tree with constants
  record Step (u : KitTree) (br : Option KitAround) (outer : List KitTree) (r b k : ℕ) (p : List ℕ) (s : KitSite) : Type 0 where
    pub blocks : Listed KitOperation KitBlock Blocks
    pub body : KitBody
    pub y : KitTree
    pub region_here : slice_get (region_list u.regions) r ≡ Some blocks
    pub block_here : slice_get (block_list blocks) b ≡ Some body
    pub new_region : slice_get (region_list (q_regions made names u.regions)) r ≡ Some (q_blocks made names blocks)
    pub new_block : slice_get (block_list (q_blocks made names blocks)) b ≡ Some (q_body made names body)
    pub new_op : slice_get (operation_list (q_body made names body).operations) k ≡ Some y
    pub goes : site_from (step_to (record { op = q_tree made names u; around = br }) (map (q_tree made names) outer) (q_blocks made names blocks) b (q_body made names body) k y)
        (q_tree made names u ∷ map (q_tree made names) outer) p ≡ Some s

  step_down : (u : KitTree) (br : Option KitAround) (outer : List KitTree) (r b k : ℕ) (p : List ℕ) (s : KitSite) →
      site_from (record { op = q_tree made names u; around = br }) (map (q_tree made names) outer) (r ∷ b ∷ k ∷ p) ≡ Some s → Step u br outer r b k p s
  step_down u br outer r b k p s e =
      let there : KitSite = record { op = q_tree made names u; around = br } in
      let outers : List KitTree = map (q_tree made names) outer in
      let st = stepped there outers r b k p s e in
      let x = map_at (q_blocks made names) (region_list u.regions) r st.blocks (sym (ap (λ l. slice_get l r) (regions_put made names u.regions)) ∙ st.region_here) in
      let y = map_at (q_body made names) (block_list x.0) b st.body (sym (ap (λ l. slice_get l b) (blocks_put made names x.0)) ∙ (ap (λ (z : Listed KitOperation KitBlock Blocks). slice_get (block_list z) b) x.2 ∙ st.block_here)) in
      record {
        blocks = x.0;
        body = y.0;
        y = st.op;
        region_here = x.1;
        block_here = y.1;
        new_region = st.region_here ∙ ap Some (sym x.2);
        new_block = ap (λ (z : Listed KitOperation KitBlock Blocks). slice_get (block_list z) b) x.2 ∙ (st.block_here ∙ ap Some (sym y.2));
        new_op = ap (λ (z : KitBody). slice_get (operation_list z.operations) k) y.2 ∙ st.op_here;
        goes = ap (λ z. site_from z (q_tree made names u ∷ outers) p) (λ i. step_to there outers (x.2 i) b (y.2 i) k st.op) ∙ st.goes_on;
      }

  -- further down it is the same
  record Next (u : KitTree) (outer : List KitTree) (p : List ℕ) (s : KitSite) : Type 0 where
    pub it : KitTree
    pub a : KitAround
    pub k : ℕ
    pub up : Standing t (record { op = it; around = Some a }) (u ∷ outer)
    pub new_up : Standing (q_tree made names t) (record { op = q_tree made names it; around = Some (q_around a k) }) (q_tree made names u ∷ map (q_tree made names) outer)
    pub here : (q : Rule) → Keeps (kit_world leads old) q (record { op = it; around = Some a })
    pub was : Was it a k
    pub goes : site_from (record { op = q_tree made names it; around = Some (q_around a k) }) (q_tree made names u ∷ map (q_tree made names) outer) p ≡ Some s

  module _ (u : KitTree) (ar br : Option KitAround) (outer : List KitTree) (up : Standing t (record { op = u; around = ar }) outer)
      (new_up : Standing (q_tree made names t) (record { op = q_tree made names u; around = br }) (map (q_tree made names) outer))
      (here : (q : Rule) → Keeps (kit_world leads old) q (record { op = u; around = ar })) (r b k : ℕ) (p : List ℕ) (s : KitSite) (st : Step u br outer r b k p s) where
    put_there : Put (step_to (record { op = q_tree made names u; around = br }) (map (q_tree made names) outer) (q_blocks made names st.blocks) b (q_body made names st.body) k st.y) → Comes s
    put_there c =
        let site : KitSite = step_to (record { op = q_tree made names u; around = br }) (map (q_tree made names) outer) (q_blocks made names st.blocks) b (q_body made names st.body) k st.y in
        subst Comes (ends_there site (q_tree made names u ∷ map (q_tree made names) outer) (sym (ap (λ (z : KitTree). region_list z.regions) c.is)) p s st.goes) (constant site c)

    front_case : k < length (fronts made names st.body.label.arguments) → slice_get (fronts made names st.body.label.arguments) k ≡ Some st.y → Comes s
    front_case less e = put_there (front_put (record { op = u; around = ar }) outer up here r b st.blocks st.body st.region_here st.block_here br k st.y less
        (fronts_made made names st.body.label.arguments st.y (has_at_index (fronts made names st.body.label.arguments) k st.y e)))

    result_case : (m : ℕ) → k ≡ length (fronts made names st.body.label.arguments) + m → OfResult made names (operation_list st.body.operations) m st.y → Comes s
    result_case m at c = put_there (result_put (record { op = u; around = ar }) outer up here r b st.blocks st.body st.region_here st.block_here br k st.y m at c)

    member_case : (m : ℕ) → k ≡ length (fronts made names st.body.label.arguments) + m → Member made names (operation_list st.body.operations) m st.y → Next u outer p s
    member_case m at o =
        let c = child_of t (record { op = u; around = ar }) outer up r b o.index st.blocks st.body o.it st.region_here st.block_here o.here in
        let d = child_of (q_tree made names t) (record { op = q_tree made names u; around = br }) (map (q_tree made names) outer) new_up r b k (q_blocks made names st.blocks) (q_body made names st.body)
        (q_tree made names o.it) st.new_region st.new_block (st.new_op ∙ ap Some (sym o.is)) in
        record {
          it = o.it;
          a = record { owner = u; outer = outer; blocks = st.blocks; number = b; body = st.body; index = o.index };
          k = k;
          up = c.standing;
          new_up = d.standing;
          here = keeps_below (record { op = u; around = ar }) outer up r b o.index st.blocks st.body o.it st.region_here st.block_here o.here;
          was = was_made (record { op = u; around = ar }) outer up r b st.blocks st.body st.region_here st.block_here br new_up st.new_region k m at st.y o;
          goes = ap (λ z. site_from z (q_tree made names u ∷ map (q_tree made names) outer) p)
              (λ i. step_to (record { op = q_tree made names u; around = br }) (map (q_tree made names) outer) (q_blocks made names st.blocks) b (q_body made names st.body) k (o.is i)) ∙ st.goes;
        }

    later_case : (m : ℕ) → k ≡ length (fronts made names st.body.label.arguments) + m → slice_get (woven made names (operation_list st.body.operations)) m ≡ Some st.y → Comes s ⊎ Next u outer p s
    later_case m at e = ⊎_elim (λ o. inr (member_case m at o)) (λ c. inl (result_case m at c)) (source made names (operation_list st.body.operations) m st.y e)

    descend : Comes s ⊎ Next u outer p s
    descend = ⊎_elim
        (λ l. inl (front_case l.0 l.1))
        (λ m. later_case m.0 m.1 m.2)
        (append_at (fronts made names st.body.label.arguments) (woven made names (operation_list st.body.operations)) k st.y
        (sym (ap (λ l. slice_get l k) (list_put made names st.body)) ∙ st.new_op))

  walk : (u : KitTree) (ar br : Option KitAround) (outer : List KitTree) (up : Standing t (record { op = u; around = ar }) outer) →
      Standing (q_tree made names t) (record { op = q_tree made names u; around = br }) (map (q_tree made names) outer) →
      ((q : Rule) → Keeps (kit_world leads old) q (record { op = u; around = ar })) →
      Comes (record { op = q_tree made names u; around = br }) → (p : List ℕ) (s : KitSite) →
      site_from (record { op = q_tree made names u; around = br }) (map (q_tree made names) outer) p ≡ Some s → Comes s
  walk u ar br outer up new_up here came [] s e = subst Comes (some_same (record { op = q_tree made names u; around = br }) s e) came
  walk u ar br outer up new_up here came (r ∷ []) s e = absurd (none_some s e)
  walk u ar br outer up new_up here came (r ∷ b ∷ []) s e = absurd (none_some s e)
  walk u ar br outer up new_up here came (r ∷ b ∷ k ∷ p) s e = ⊎_elim
      (λ c. c)
      (λ n. walk n.it (Some n.a) (Some (q_around n.a n.k)) (u ∷ outer) n.up n.new_up n.here (below n.it n.a n.k n.was) p s n.goes)
      (descend u ar br outer up new_up here r b k p s (step_down u br outer r b k p s e))

  pub comes_from : (p : List ℕ) (s : KitSite) → site_at (q_tree made names t) p ≡ Some s → Comes s
  comes_from p s e = walk t None None [] (stands_root t) (stands_root (q_tree made names t)) (λ q. good.obeys q [] (record { op = t; around = None }) refl) at_root p s e
