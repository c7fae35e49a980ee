-- A function of a module that keeps the rules is typed.
use Rattle.std.proofs.Common.{◌≡◌, inl, inr, ⊎_elim, ◌<◌, ◌^◌, ℕ, zero, suc, Bool, true, false, cond, ◌==◌, List, []}
use Rattle.std.proofs.Common.{◌∷◌, ◌++◌, map, take, length, Option, Some, None, option_map, unwrap_or, slice_get, refl}
use Rattle.std.proofs.Common.{sym, ap, ◌∙◌, subst}
use Rattle.std.proofs.lemmas.Bool.{false≢true}
use Rattle.std.proofs.lemmas.List.{append-nil}
use Rattle.std.proofs.lemmas.Option.{slice_get-map, same_Some}
use Rattle.ir_base.specs.declared.types.TypeHandle.{TypeHandle}
use Rattle.ir_names.specs.declared.interfaces.OpInterface.TheVariants as op
use Rattle.ir_names.specs.Dictionary.{attribute_at}
use Rattle.ir_program.specs.declared.handles.Value.{Value}
use Rattle.ir_trees.specs.Renames.{names_of}
use Rattle.ir_trees.specs.Searched.{Lists, AreDistinct, block_names}
use Rattle.ir_trees.specs.Stands.{by_handle, in_program, ProgramHead, ProgramLabel}
use Rattle.ir_trees.specs.Trees.{Defined, Regions, end, region}
use Rattle.ir_trees.proofs.Members.{at_has, has_at, has_front, has_back, has_either, has_map}
use Rattle.kit.specs.Context.{KitTree}
use Rattle.kit_checks.specs.KitWorld.{HasDeclaredTypes, kit_world}
use Rattle.opt_trees.specs.Dce.{ForwardsTo}
use Rattle.opt_trees.specs.Occurrences.{Has, Occurrence, occurrences_of, defined_in}
use Rattle.kit_ops.specs.declared.attributes.KitAttr.TheVariants as attrs
use Rattle.kit_ops.specs.declared.kinds.KitOp.{KitOp}
use Rattle.kit_ops.specs.declared.kinds.KitOp.TheVariants as ops
use Rattle.kit_ops.specs.declared.types.KitType.{KitType}
use Rattle.kit_ops.specs.Keys as keys
use Rattle.kit_ops.specs.Table.{has_interface}
use Rattle.kit.specs.Meaning.{KitOperation, KitBlock, kit}
use Rattle.kit_checks.specs.declared.rule.Rule.{Rule}
use Rattle.kit_checks.specs.declared.rule.Rule.TheVariants as rule
use Rattle.kit_checks.specs.Faults.{Keeps}
use Rattle.kit_checks.specs.Rules.{HasConstantValue, HasKindTypes}
use Rattle.kit_checks.specs.Sites.{Listed, operation_list, block_list, region_list}
use Rattle.kit_checks.specs.Words as words
use Rattle.kit_checks.specs.Words.{Every, IsValueType, joined, bodies_of, visible, values_before, values_in, values_if}
use Rattle.kit_checks.specs.Words.{first_body, results_of}
use Rattle.kit_checks.specs.World.{World}
use Rattle.kit_views.specs.Typed.{IsMachineInteger, LeadsToBit, TypesFit, IsTyped, number_as, width_at}
use Rattle.kit_ruled_views.specs.Ruled.{IsRuledFunction, type_or_first}
use Rattle.kit_ruled_views.proofs.FunctionSites.{KitBlocks, KitBody, KitAround, own_keeps, own_region, inner_around}
use Rattle.kit_ruled_views.proofs.FunctionSites.{inner_keeps}
use Rattle.kit_ruled_views.proofs.FunctionParts.{Maker, result, argument, maker_of, OpPlace, NoneInBlocks, op_place}
use Rattle.kit_ruled_views.proofs.FunctionParts.{block_place, defined_inside, result_defined, argument_defined}
use Rattle.kit_ruled_views.proofs.ForwardedOperands.{forwarded_is}
use Rattle.kit_ruled_views.proofs.FunctionViews.{has_no_region, names_apart}
use Rattle.kit_ruled_views.proofs.OperationViews.{handed, name_at}
use Rattle.kit_ruled_views.proofs.TypeLemmas.{is_integer, is_number, as_number, has_type, defined_as}
use Rattle.kit_ruled_views.proofs.SmallLists.{taken_has}

-- ---- an operation by itself

module _ (leads : TypeHandle → Option KitType) (typed : Value → Option TypeHandle) where
  abbrev world : World KitOperation KitBlock
  world = kit_world leads typed

  abbrev type_at : Value → TypeHandle
  type_at = type_or_first typed

  -- the definitions say the types of the values
  abbrev AreTyped : List (Defined Value TypeHandle) → Type 0
  AreTyped ds = (d : Defined Value TypeHandle) → Has d ds → typed d.name ≡ Some d.holds

  -- what holds of the types of definitions holds of the type of each value
  type_of_each : (P : TypeHandle → Type 0) (ds : List (Defined Value TypeHandle)) → AreTyped ds
      → Every P (words.types_of ds) → (v : Value) → Has v (names_of ds) → P (type_at v)
  type_of_each P ds are every v has =
      let d = defined_as ds v has in
      let at : slice_get (words.types_of ds) d.1 ≡ Some d.0.holds =
      slice_get-map (λ (x : Defined Value TypeHandle). x.holds) ds d.1
      ∙ ap (option_map (λ (x : Defined Value TypeHandle). x.holds)) d.2 in
      subst P (sym (has_type typed v d.0.holds (ap typed (sym d.4) ∙ are d.0 d.3))) (every d.1 d.0.holds at)

  value_is_integer : (h : TypeHandle) → IsValueType world h → IsMachineInteger leads h
  value_is_integer h is = (is.0, is_integer (leads h) is.0 is.1, is.2, is.3)

  module _ (u : KitTree) (are : AreTyped u.head.results) where
    constant_fits : HasConstantValue world u → (v : Value) → Has v (names_of u.head.results) → (n : ℕ)
        × (attribute_at u.head.content.notes.attributes keys.constant_value
        ≡ Some (attrs.Integer (number_as leads (type_at v) n))) × (n < 2 ^ width_at leads (type_at v))
    constant_fits c v has =
        let ty : type_at v ≡ c.value.ty = type_of_each (λ h. h ≡ c.value.ty) u.head.results are c.results v has in
        let is : c.value ≡ number_as leads c.value.ty c.value.bits = as_number leads c.value c.is_type in
        let width : c.value.integer.width ≡ width_at leads c.value.ty = ap (λ a. a.integer.width) is in (
          c.value.bits,
          is_number (attribute_at u.head.content.notes.attributes keys.constant_value) c.value c.has_value
              ∙ ap (λ a. Some (attrs.Integer a)) (is ∙ ap (λ h. number_as leads h c.value.bits) (sym ty)),
          subst (λ h. c.value.bits < 2 ^ width_at leads h) (sym ty)
              (subst (λ n. c.value.bits < 2 ^ n) width c.in_range),
        )

    lists_typed : (xs : List Value) (x : Value) → Has x xs → Lists (map typed xs) (typed x)
    lists_typed xs x has = has_at (map typed xs) (typed x) (has_map typed xs x has)

    arithmetic_fits : words.AreAllEqual (map typed u.head.operands ++ map Some (words.types_of u.head.results))
        → (x v : Value) → Has x u.head.operands → Has v (names_of u.head.results) → type_at x ≡ type_at v
    arithmetic_fits alike x v hx hv =
        let d = defined_as u.head.results v hv in
        let xs = map typed u.head.operands in
        let hs = map Some (words.types_of u.head.results) in
        let in_types : Has (Some d.0.holds) hs = has_map Some (words.types_of u.head.results) d.0.holds
        (has_map (λ (y : Defined Value TypeHandle). y.holds) u.head.results d.0 d.3) in
        let same : typed x ≡ Some d.0.holds = alike (typed x) (Some d.0.holds)
        (has_at (xs ++ hs) (typed x) (has_front xs hs (typed x) (has_map typed u.head.operands x hx)))
        (has_at (xs ++ hs) (Some d.0.holds) (has_back xs hs (Some d.0.holds) in_types)) in
        has_type typed x d.0.holds same ∙ sym (has_type typed v d.0.holds (ap typed (sym d.4) ∙ are d.0 d.3))

    -- its types fit its kind
    fits : (k : KitOp) → HasKindTypes world u k → (k ≡ ops.Constant → HasConstantValue world u)
        → TypesFit leads {N = by_handle} type_at k u.head
    fits ops.Constant agree constant = constant_fits (constant refl)
    fits (ops.Arithmetic a) agree constant = arithmetic_fits agree
    fits (ops.Comparison a) agree constant = (
      λ x y hx hy. ap (λ o. unwrap_or o (record { number = 0 }))
          (agree.0 (typed x) (typed y) (lists_typed u.head.operands x hx) (lists_typed u.head.operands y hy)),
      type_of_each (LeadsToBit leads) u.head.results are (λ k h here. is_integer (leads h) _ (agree.1 k h here)),
    )
    fits ops.CondBr agree constant = λ x here.
        let c = agree x here in
        subst (LeadsToBit leads) (sym (has_type typed x c.0 c.1)) (is_integer (leads c.0) _ c.2)
    fits _ agree constant = tt

-- what is handed on to an argument has its type
handed_type : (typed : Value → Option TypeHandle) (vs : List Value) (ds : List (Defined Value TypeHandle))
    → map typed vs ≡ map Some (words.types_of ds)
    → ((d : Defined Value TypeHandle) → Has d ds → typed d.name ≡ Some d.holds)
    → (n : ℕ) (x v : Value) → slice_get vs n ≡ Some x → slice_get (names_of ds) n ≡ Some v → typed x ≡ typed v
handed_type typed [] ds have are n x v hx hv = cc
handed_type typed (y ∷ vs) [] have are n x v hx hv = cc
handed_type typed (y ∷ vs) (d ∷ ds) have are zero x v hx hv =
    let a : y ≡ x = cc in
    let b : d.name ≡ v = cc in
    let c : typed y ≡ Some d.holds = cc in
    ap typed (sym a) ∙ c ∙ sym (are d (inl refl)) ∙ ap typed b
handed_type typed (y ∷ vs) (d ∷ ds) have are (suc n) x v hx hv =
    let rest : map typed vs ≡ map Some (words.types_of ds) = cc in
    handed_type typed vs ds rest (λ e i. are e (inr i)) n x v hx hv

-- what branches is a branch
branches : (k : KitOp) → has_interface k op.Branch ≡ true → words.is_branch k ≡ true
branches ops.Br h = refl
branches ops.CondBr h = refl
branches _ h = absurd (false≢true h)

-- ---- values of a function

module _ (leads : TypeHandle → Option KitType) (typed : Value → Option TypeHandle) (u : KitTree)
    (ruled : IsRuledFunction leads typed u) (blocks : KitBlocks) (is : u.regions ≡ region blocks end) where
  pub no_regions : NoneInBlocks blocks
  no_regions j body hb k op ho = has_no_region leads typed u ruled blocks is j k body op hb ho

  pub place : (o : Occurrence by_handle (in_program KitOperation KitBlock)) → Has o (occurrences_of u)
      → OpPlace blocks o.head
  place = op_place u blocks is no_regions

  -- an operation at its place keeps the rules
  pub keeps : (h : ProgramHead KitOperation KitBlock) (p : OpPlace blocks h) (r : Rule)
      → Keeps (kit_world leads typed) r
      (record { op = p.op; around = Some (inner_around leads typed u ruled blocks is p.number p.body p.index) })
  keeps h p = inner_keeps leads typed u ruled blocks is p.number p.index p.body p.op p.block_here p.op_here

  -- the blocks of all regions are those of the one region
  bodies_are : bodies_of u ≡ block_list blocks
  bodies_are = ap (λ (rs : Listed KitOperation KitBlock Regions). joined (map block_list (region_list rs))) is
      ∙ append-nil (block_list blocks)

  -- a value of a block is defined in the function
  of_results : (j : ℕ) (body : KitBody) → slice_get (block_list blocks) j ≡ Some body → (us : List KitTree)
      → ((op : KitTree) → Has op us → Has op (operation_list body.operations)) → (v : Value) → Has v (results_of us)
      → Has v (defined_in blocks)
  of_results j body hb [] sub v has = absurd has
  of_results j body hb (op ∷ us) sub v has = ⊎_elim
      (λ here.
      let k = has_at (operation_list body.operations) op (sub op (inl refl)) in
      result_defined blocks j k.0 body op v hb k.1 here)
      (λ more. of_results j body hb us (λ x i. sub x (inr i)) v more)
      (has_either (names_of op.head.results) (results_of us) v has)

  of_body : (j : ℕ) (body : KitBody) → slice_get (block_list blocks) j ≡ Some body → (us : List KitTree)
      → ((op : KitTree) → Has op us → Has op (operation_list body.operations)) → (v : Value)
      → Has v (words.values_of body.label.arguments ++ results_of us) → Has v (defined_in blocks)
  of_body j body hb us sub v has = ⊎_elim
      (argument_defined blocks j body v hb)
      (of_results j body hb us sub v)
      (has_either (words.values_of body.label.arguments) (results_of us) v has)

  of_entry : (o : Option KitBody) → slice_get (block_list blocks) 0 ≡ o → (v : Value) → Has v (values_if o)
      → Has v (defined_in blocks)
  of_entry None here v has = absurd has
  of_entry (Some body) here v has = of_body 0 body here (operation_list body.operations) (λ op i. i) v has

  outside_entry : (b : Bool) (v : Value) → Has v (cond b [] (values_if (first_body blocks))) → Has v (defined_in blocks)
  outside_entry true v has = absurd has
  outside_entry false v has = of_entry (first_body blocks) refl v has

  visible_defined : (j k : ℕ) (body : KitBody) → slice_get (block_list blocks) j ≡ Some body → (v : Value)
      → Has v (visible (inner_around leads typed u ruled blocks is j body k)) → Has v (defined_in u.regions)
  visible_defined j k body hb v has = defined_inside u blocks is no_regions v (⊎_elim
      (of_body j body hb (take k (operation_list body.operations))
      (λ op i. taken_has k (operation_list body.operations) op i) v)
      (outside_entry (j == 0) v)
      (has_either (values_before body k) (cond (j == 0) [] (values_if (first_body blocks))) v has))

  operand_defined : (o : Occurrence by_handle (in_program KitOperation KitBlock)) (x : Value)
      → Has o (occurrences_of u) → Has x o.head.operands → Has x (defined_in u.regions)
  operand_defined o x ho hx =
      let p = place o ho in
      let here : Has x p.op.head.operands =
      subst (λ (h : ProgramHead KitOperation KitBlock). Has x h.operands) (sym p.head) hx in
      let k = has_at p.op.head.operands x here in
      let sees = (keeps o.head p rule.OperandsAreVisible).inside
      (inner_around leads typed u ruled blocks is p.number p.body p.index) refl k.0 x k.1 in
      visible_defined p.number p.index p.body p.block_here x
      (at_has (visible (inner_around leads typed u ruled blocks is p.number p.body p.index)) sees.0 x sees.1)

  module _ (types : HasDeclaredTypes typed u) where
    value_integer : (v : Value) → Maker u v → IsMachineInteger leads (type_or_first typed v)
    value_integer v (result o ho hv) =
        let p = place o ho in
        let all = (keeps o.head p rule.ValuesAreIntegers).results in
        let every : Every (IsValueType (kit_world leads typed)) (words.types_of o.head.results) =
        subst (λ (h : ProgramHead KitOperation KitBlock). Every (IsValueType (kit_world leads typed))
        (words.types_of h.results)) p.head all in
        value_is_integer leads typed (type_or_first typed v)
        (type_of_each leads typed (IsValueType (kit_world leads typed)) o.head.results (types.results o ho) every v hv)
    value_integer v (argument x hx hv) =
        let p = block_place u blocks is no_regions x hx in
        let all = (own_keeps leads typed u ruled rule.ValuesAreIntegers).arguments in
        let mine = all p.number p.body (ap (λ l. slice_get l p.number) bodies_are ∙ p.block_here) in
        let every : Every (IsValueType (kit_world leads typed)) (words.types_of x.label.arguments) =
        subst (λ (l : ProgramLabel KitOperation KitBlock). Every (IsValueType (kit_world leads typed))
        (words.types_of l.arguments)) p.label mine in
        value_is_integer leads typed (type_or_first typed v)
        (type_of_each leads typed (IsValueType (kit_world leads typed)) x.label.arguments (types.arguments x hx) every
        v hv)

    op_fits : (o : Occurrence by_handle (in_program KitOperation KitBlock)) → Has o (occurrences_of u)
        → TypesFit leads {N = by_handle} (type_or_first typed) o.head.content.kind o.head
    op_fits o ho =
        let p = place o ho in
        let are : (d : Defined Value TypeHandle) → Has d p.op.head.results → typed d.name ≡ Some d.holds =
        subst (λ (h : ProgramHead KitOperation KitBlock). (d : Defined Value TypeHandle) → Has d h.results
        → typed d.name ≡ Some d.holds) (sym p.head) (types.results o ho) in
        subst (λ (h : ProgramHead KitOperation KitBlock). TypesFit leads {N = by_handle} (type_or_first typed)
        h.content.kind h) p.head
        (fits leads typed p.op are p.op.head.content.kind (keeps o.head p rule.TypesAgree)
        (keeps o.head p rule.ConstantsFit))

    -- ---- edges

    module _ (apart : AreDistinct (block_names u)) where
      -- blocks of one name
      one_body : (j k : ℕ) (a b : KitBody) → slice_get (block_list blocks) j ≡ Some a
          → slice_get (block_list blocks) k ≡ Some b → a.label.name ≡ b.label.name → a ≡ b
      one_body j k a b ha hb same =
          let names = names_apart leads typed u ruled blocks is apart in
          let e : j ≡ k = names j k b.label.name (name_at blocks j a ha ∙ ap Some same) (name_at blocks k b hb) in
          same_Some a b (sym ha ∙ ap (slice_get (block_list blocks)) e ∙ hb)

      forwards_type : (o : Occurrence by_handle (in_program KitOperation KitBlock)) (i : ℕ) (x v : Value)
          → Has o (occurrences_of u) → slice_get o.head.operands i ≡ Some x → ForwardsTo kit u o i v
          → type_or_first typed x ≡ type_or_first typed v
      forwards_type o i x v ho operand f =
          let p = place o ho in
          let b = block_place u blocks is no_regions f.target f.stands in
          let around : KitAround = inner_around leads typed u ruled blocks is p.number p.body p.index in
          let leads_there : slice_get p.op.head.successors f.edge ≡ Some f.target.label.name =
          subst (λ (h : ProgramHead KitOperation KitBlock). slice_get h.successors f.edge ≡ Some f.target.label.name)
          (sym p.head) f.leads in
          let branch : has_interface p.op.head.content.kind op.Branch ≡ true =
          subst (λ (h : ProgramHead KitOperation KitBlock). has_interface h.content.kind op.Branch ≡ true)
          (sym p.head) f.branch in
          let gives : slice_get (kit.forwards p.op.head.content (length p.op.head.operands) f.edge) f.place ≡ Some i =
          subst (λ (h : ProgramHead KitOperation KitBlock). slice_get
          (kit.forwards h.content (length h.operands) f.edge) f.place ≡ Some i) (sym p.head) f.gives in
          let at : slice_get p.op.head.operands i ≡ Some x =
          subst (λ (h : ProgramHead KitOperation KitBlock). slice_get h.operands i ≡ Some x) (sym p.head) operand in
          let fit = keeps o.head p rule.EdgesFit f.edge f.target.label.name leads_there in
          let same : fit.0 ≡ around = sym (same_Some around fit.0 fit.1) in
          let here : slice_get (block_list blocks) fit.2.here.0 ≡ Some fit.2.body =
          subst (λ (a : KitAround). slice_get (block_list a.blocks) fit.2.here.0 ≡ Some fit.2.body) same fit.2.here.1 in
          let name : fit.2.body.label.name ≡ b.body.label.name =
          fit.2.named ∙ ap (λ (l : ProgramLabel KitOperation KitBlock). l.name) (sym b.label) in
          let label : fit.2.body.label ≡ f.target.label =
          ap (λ (y : KitBody). y.label) (one_body fit.2.here.0 b.number fit.2.body b.body here b.block_here name)
          ∙ b.label in
          let handed_on : List Value = handed leads typed blocks p.op p.op.head.content.kind f.edge in
          let have : map typed handed_on ≡ map Some (words.types_of f.target.label.arguments) =
          subst (λ (l : ProgramLabel KitOperation KitBlock). map typed handed_on
          ≡ map Some (words.types_of l.arguments)) label
          (fit.2.operands (branches p.op.head.content.kind branch)) in
          let on : slice_get handed_on f.place ≡ Some x =
          forwarded_is leads typed blocks p.op p.op.head.content.kind (keeps o.head p rule.FitsFormat) branch f.edge
          f.target.label.name leads_there f.place i x gives at in
          ap (λ t. unwrap_or t (record { number = 0 }))
          (handed_type typed handed_on f.target.label.arguments have (types.arguments f.target f.stands) f.place x v
          on f.takes)

-- a function of a module that keeps the rules is typed
pub typed_function : (leads : TypeHandle → Option KitType) (typed : Value → Option TypeHandle) (u : KitTree)
    → IsRuledFunction leads typed u → AreDistinct (block_names u) → HasDeclaredTypes typed u
    → IsTyped leads {N = by_handle} (type_or_first typed) u
typed_function leads typed u ruled apart types =
    let b = own_region leads typed u ruled in
    record {
      results = λ o ho v hv. has_type typed v.name v.holds (types.results o ho v hv);
      arguments = λ x hx v hv. has_type typed v.name v.holds (types.arguments x hx v hv);
      integers = λ v hv. value_integer leads typed u ruled b.0 b.1 types v (maker_of u v hv);
      operands = operand_defined leads typed u ruled b.0 b.1;
      operations = op_fits leads typed u ruled b.0 b.1 types;
      forwards = forwards_type leads typed u ruled b.0 b.1 types apart;
    }
