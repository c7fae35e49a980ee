-- The tree of a typed function with constants is typed again.
use Rattle.std.proofs.Common.{◌≡◌, ◌⊎◌, inl, ⊎_elim, ◌<◌, ◌^◌, ℕ, true, Bool, List, [], ◌∷◌, map, length, Option, Some}
use Rattle.std.proofs.Common.{None, slice_get, refl, sym, ap, ◌∙◌, subst}
use Rattle.std.proofs.lemmas.Bool.{false≢true}
use Rattle.ir_base.specs.declared.types.TypeHandle.{TypeHandle}
use Rattle.ir_names.specs.Dictionary.{attribute_at}
use Rattle.ir_trees.specs.Names.{Names}
use Rattle.ir_trees.specs.Renames.{names_of, rename_defined}
use Rattle.ir_trees.specs.Trees.{Defined, Head, Label, Root}
use Rattle.opt_trees.specs.Dce.{ForwardsTo, TreeSurroundings}
use Rattle.opt_trees.specs.Occurrences.{Has, Occurrence, BlockOccurrence, at_root, occurrences_of, block_occurrences_of, defined_in}
use Rattle.opt_rows.specs.declared.known.Known.{Known}
use Rattle.opt_rows.specs.declared.known.Known.TheVariants as known
use Rattle.opt_trees.specs.Facts.{Facts, IsMostPrecise}
use Rattle.opt_trees.specs.Sccp.{Name, Old, New, fresh, IsResult, IsArgument, AreMadeConstants, IsSccp, used_as, constant_head, old_head, put, put_root}
use Rattle.opt_trees.proofs.Defined.{result_defined, argument_defined}
use Rattle.opt_trees.proofs.Lists.{some_same, names-map, length-map, has-from_map}
use Rattle.opt_trees.proofs.Put.{Constant, WasOld, IsThere, operation_was, block_was, result_there, argument_there, value_is, value_was}
use Rattle.kit_ops.specs.declared.attributes.IntegerAttr.{IntegerAttr}
use Rattle.kit_ops.specs.declared.attributes.KitAttr.TheVariants as attrs
use Rattle.kit_ops.specs.declared.kinds.KitOp.{KitOp}
use Rattle.kit_ops.specs.declared.kinds.KitOp.TheVariants as ops
use Rattle.kit_ops.specs.declared.types.KitType.{KitType}
use Rattle.kit_ops.specs.Keys.{constant_value}
use Rattle.kit.specs.Meaning.{KitOperation, kit, operation_of}
use Rattle.kit_behaviour.specs.Facts as flat
use Rattle.kit_behaviour.specs.Facts.{Fact, Undetermined, Unknown}
use Rattle.kit_behaviour.specs.Machine.{Fun}
use Rattle.kit_views.specs.FlatFacts.{IsKnownAs}
use Rattle.kit_views.specs.FlatView.{IsSameness, FlattensTo}
use Rattle.kit_views.specs.Reading.{kit_contents, kit_reading}
use Rattle.kit_views.specs.Typed.{IsMachineInteger, LeadsToBit, TypesFit, IsTyped, number_as, width_at}
use Rattle.kit_views.proofs.FlatBest.{flat_best}
use Rattle.kit_ruled_views.specs.Laws.{type_after}
use Rattle.kit_ruled_views.proofs.FunctionParts.{Maker, result, argument, maker_of}
use Rattle.kit_ruled_views.proofs.SmallLists.{at_mapped}

-- the attribute is a number of the value's type
abbrev pub IsNumber : {V : Type 0} → (TypeHandle → Option KitType) → (V → TypeHandle) → V → IntegerAttr → Type 0
IsNumber leads type_at v a = (n : ℕ) × (a ≡ number_as leads (type_at v) n) × (n < 2 ^ width_at leads (type_at v))

module _ {N : Names} (leads : TypeHandle → Option KitType) (type_at : N.value → TypeHandle) where
  module _ (t : Root N kit_contents) (made : N.value → Option IntegerAttr)
      (typed : IsTyped leads {N = N} type_at t) where
    abbrev after : Root (fresh N) kit_contents
    after = put_root {N = N} kit made t

    -- a value gets a number of its type, and is defined in the tree; its constant is defined afterwards
    pub record AreNumbers : Type 0 where
      pub number : (v : N.value) (a : IntegerAttr) → made v ≡ Some a → IsNumber leads type_at v a
      pub defined : (v : N.value) (a : IntegerAttr) → made v ≡ Some a → Has v (defined_in t.regions)
      pub placed : (v : N.value) (a : IntegerAttr) → made v ≡ Some a
          → Has {X = Name N.value N.value} (New v) (defined_in (put {N = N} kit made t.regions))

    abbrev used : N.value → Name N.value N.value
    used v = used_as v (made v)

    used_type : (v : N.value) → (type_after type_at) (used v) ≡ type_at v
    used_type v = go (made v)
      where
        go : (o : Option IntegerAttr) → (type_after type_at) (used_as v o) ≡ type_at v
        go None = refl
        go (Some a) = refl

    old_same : (x y : N.value) → ◌≡◌ {A = Name N.value N.value} (Old x) (Old y) → x ≡ y
    old_same x y e = cc e

    -- a name among those of old definitions is that of one of them
    old_name : (v : Name N.value N.value) (ds : List (Defined N.value TypeHandle))
        → Has v (names_of (map (rename_defined Old) ds)) → (u : N.value) × Has u (names_of ds) × (v ≡ Old u)
    old_name v ds has =
        let p = has-from_map Old v (names_of ds) (subst (Has v) (names-map Old ds) has) in
        (p.it, p.stands, sym p.is)

    old_types : (ds : List (Defined N.value TypeHandle))
        → ((d : Defined N.value TypeHandle) → Has d ds → type_at d.name ≡ d.holds)
        → (v : Defined (Name N.value N.value) TypeHandle) → Has v (map (rename_defined Old) ds)
        → (type_after type_at) v.name ≡ v.holds
    old_types ds are v has =
        let p = has-from_map (rename_defined Old) v ds has in
        ap (λ (d : Defined (Name N.value N.value) TypeHandle). (type_after type_at) d.name) (sym p.is)
        ∙ are p.it p.stands
        ∙ ap (λ (d : Defined (Name N.value N.value) TypeHandle). d.holds) p.is

    was : (p : Occurrence (fresh N) kit_contents) → Has p (occurrences_of after)
        → Constant kit made p ⊎ WasOld kit made (occurrences_of t) p
    was p hp = operation_was kit made t.regions (at_root t) (at_root after) tt p hp

    module _ (numbers : AreNumbers) where
      -- ---- a constant that was put in

      constant_type : (v : N.value) (a : IntegerAttr) → made v ≡ Some a → type_at v ≡ a.ty
      constant_type v a is = sym (ap (λ (x : IntegerAttr). x.ty) (numbers.number v a is).1)

      constant_results : (p : Occurrence (fresh N) kit_contents) → Constant kit made p
          → (v : Defined (Name N.value N.value) TypeHandle) → Has v p.head.results → (type_after type_at) v.name
          ≡ v.holds
      constant_results p c v has =
          let head = c.3.head in
          let here = subst (λ (h : Head (fresh N) kit_contents). Has v h.results) head has in
          ⊎_elim
          (λ e. ap (λ (d : Defined (Name N.value N.value) TypeHandle). (type_after type_at) d.name) e
          ∙ constant_type c.0 c.1 c.3.gets ∙ ap (λ (d : Defined (Name N.value N.value) TypeHandle). d.holds) (sym e))
          (λ none. absurd none)
          here

      new_same : (x y : N.value) → ◌≡◌ {A = Name N.value N.value} (New x) (New y) → x ≡ y
      new_same x y e = cc e

      maker_is : (a : IntegerAttr) (c : KitOperation) → kit.constant a ≡ Some c
          → c ≡ operation_of ops.Constant ((constant_value, attrs.Integer a) ∷ [])
      maker_is a c e = sym (some_same (operation_of ops.Constant ((constant_value, attrs.Integer a) ∷ [])) c e)

      constant_fits : (v : N.value) (a : IntegerAttr) (c : KitOperation) → made v ≡ Some a → kit.constant a ≡ Some c
          → TypesFit leads {N = fresh N} (type_after type_at) c.kind (constant_head {N = N} kit v a c)
      constant_fits v a c gets by =
          subst (λ (x : KitOperation). TypesFit leads {N = fresh N} (type_after type_at) x.kind
          (constant_head {N = N} kit v a x))
          (sym (maker_is a c by)) (λ x has.
          let n = numbers.number v a gets in
          let same : x ≡ New v = ⊎_elim (λ e. e) (λ none. absurd none) has in
          subst (λ (y : Name N.value N.value). (m : ℕ)
          × (Some (attrs.Integer a) ≡ Some (attrs.Integer (number_as leads ((type_after type_at) y) m)))
          × (m < 2 ^ width_at leads ((type_after type_at) y))) (sym same)
          (n.0, ap (λ z. Some (attrs.Integer z)) n.1, n.2))

      -- ---- an operation that was there

      used_of : (x : Name N.value N.value) (h : Head N kit_contents) → Has x (map used h.operands)
          → (v : N.value) × Has v h.operands × (x ≡ used v)
      used_of x h has = let p = has-from_map used x h.operands has in (p.it, p.stands, sym p.is)

      used_typed : (x : Name N.value N.value) (v : N.value) → x ≡ used v → (type_after type_at) x ≡ type_at v
      used_typed x v is = ap (type_after type_at) is ∙ used_type v

      old_fits : (k : KitOp) (h : Head N kit_contents) → TypesFit leads {N = N} type_at k h
          → TypesFit leads {N = fresh N} (type_after type_at) k (old_head {N = N} made h)
      old_fits ops.Constant h fits = λ v has.
          let u = old_name v h.results has in
          subst (λ (y : Name N.value N.value). (m : ℕ)
          × (attribute_at h.content.notes.attributes constant_value
          ≡ Some (attrs.Integer (number_as leads ((type_after type_at) y) m)))
          × (m < 2 ^ width_at leads ((type_after type_at) y))) (sym u.2) (fits u.0 u.1)
      old_fits (ops.Arithmetic a) h fits = λ x v hx hv.
          let y = used_of x h hx in
          let u = old_name v h.results hv in
          used_typed x y.0 y.2 ∙ fits y.0 u.0 y.1 u.1 ∙ ap (type_after type_at) (sym u.2)
      old_fits (ops.Comparison a) h fits = (
        λ x y hx hy.
            let a = used_of x h hx in
            let b = used_of y h hy in
            used_typed x a.0 a.2 ∙ fits.0 a.0 b.0 a.1 b.1 ∙ sym (used_typed y b.0 b.2),
        λ v hv. let u = old_name v h.results hv in subst (λ y. LeadsToBit leads ((type_after type_at) y)) (sym u.2)
            (fits.1 u.0 u.1),
      )
      old_fits ops.CondBr h fits = λ x here.
          let o = at_mapped used h.operands 0 x here in
          subst (LeadsToBit leads) (sym (used_typed x o.0 o.2)) (fits o.0 o.1)
      old_fits _ h fits = tt

      -- ---- the tree

      results_typed : (p : Occurrence (fresh N) kit_contents) → Has p (occurrences_of after)
          → (v : Defined (Name N.value N.value) TypeHandle) → Has v p.head.results → (type_after type_at) v.name
          ≡ v.holds
      results_typed p hp v hv = ⊎_elim
          (λ c. constant_results p c v hv)
          (λ (o : WasOld kit made (occurrences_of t) p). old_types o.it.head.results (typed.results o.it o.stands) v
          (subst (λ (h : Head (fresh N) kit_contents). Has v h.results) o.is.head hv))
          (was p hp)

      arguments_typed : (y : BlockOccurrence (fresh N) kit_contents) → Has y (block_occurrences_of after)
          → (v : Defined (Name N.value N.value) TypeHandle) → Has v y.label.arguments → (type_after type_at) v.name
          ≡ v.holds
      arguments_typed y hy v hv =
          let x = block_was kit made t.regions (at_root t) (at_root after) y hy in
          old_types x.0.label.arguments (typed.arguments x.0 x.1) v
          (subst (λ (l : Label (fresh N) kit_contents). Has v l.arguments) x.2 hv)

      -- a new value that is defined is the constant of a value
      new_defined : (v : N.value) → Maker {N = fresh N} after (New v) → (a : IntegerAttr) × (made v ≡ Some a)
      new_defined v (result p hp hv) = ⊎_elim
          (λ (c : Constant kit made p).
          let here = subst (λ (h : Head (fresh N) kit_contents). Has {X = Name N.value N.value} (New v)
          (names_of h.results)) c.3.head hv in
          let same : v ≡ c.0 = ⊎_elim (λ e. new_same v c.0 e) (λ none. absurd none) here in
          (c.1, ap made same ∙ c.3.gets))
          (λ (o : WasOld kit made (occurrences_of t) p).
          let u = old_name (New v) o.it.head.results
          (subst (λ (h : Head (fresh N) kit_contents). Has {X = Name N.value N.value} (New v) (names_of h.results))
          o.is.head hv) in
          absurd (not_old v u.0 u.2))
          (was p hp)
        where
          not_old : (v u : N.value) → ◌≡◌ {A = Name N.value N.value} (New v) (Old u) → ⊥
          not_old v u e = cc e
      new_defined v (argument y hy hv) =
          let x = block_was kit made t.regions (at_root t) (at_root after) y hy in
          let u = old_name (New v) x.0.label.arguments
          (subst (λ (l : Label (fresh N) kit_contents). Has {X = Name N.value N.value} (New v) (names_of l.arguments))
          x.2 hv) in
          absurd (not_old v u.0 u.2)
        where
          not_old : (v u : N.value) → ◌≡◌ {A = Name N.value N.value} (New v) (Old u) → ⊥
          not_old v u e = cc e

      values_integer : (v : Name N.value N.value) → Has v (defined_in after.regions)
          → IsMachineInteger leads ((type_after type_at) v)
      values_integer (Old v) has = typed.integers v (value_was kit made t.regions v has)
      values_integer (New v) has =
          let m = new_defined v (maker_of {N = fresh N} after (New v) has) in
          typed.integers v (numbers.defined v m.0 m.1)

      used_defined : (v : N.value) → Has v (defined_in t.regions) → (o : Option IntegerAttr) → made v ≡ o
          → Has (used_as v o) (defined_in after.regions)
      used_defined v has None is = value_is kit made t.regions v has
      used_defined v has (Some a) is = numbers.placed v a is

      operands_defined : (p : Occurrence (fresh N) kit_contents) (x : Name N.value N.value)
          → Has p (occurrences_of after)
          → Has x p.head.operands → Has x (defined_in after.regions)
      operands_defined p x hp hx = ⊎_elim
          (λ (c : Constant kit made p).
          absurd (subst (λ (h : Head (fresh N) kit_contents). Has x h.operands) c.3.head hx))
          (λ (o : WasOld kit made (occurrences_of t) p).
          let u = used_of x o.it.head (subst (λ (h : Head (fresh N) kit_contents). Has x h.operands) o.is.head hx) in
          subst (λ y. Has y (defined_in after.regions)) (sym u.2)
          (used_defined u.0 (typed.operands o.it u.0 o.stands u.1) (made u.0) refl))
          (was p hp)

      operations_fit : (p : Occurrence (fresh N) kit_contents) → Has p (occurrences_of after)
          → TypesFit leads {N = fresh N} (type_after type_at) p.head.content.kind p.head
      operations_fit p hp = ⊎_elim
          (λ (c : Constant kit made p).
          subst (λ (h : Head (fresh N) kit_contents). TypesFit leads {N = fresh N} (type_after type_at) h.content.kind
          h) (sym c.3.head)
          (constant_fits c.0 c.1 c.2 c.3.gets c.3.made_by))
          (λ (o : WasOld kit made (occurrences_of t) p).
          subst (λ (h : Head (fresh N) kit_contents). TypesFit leads {N = fresh N} (type_after type_at) h.content.kind
          h) (sym o.is.head)
          (old_fits o.it.head.content.kind o.it.head (typed.operations o.it o.stands)))
          (was p hp)

      -- ---- edges

      constant_ends : (p : Occurrence (fresh N) kit_contents) → Constant kit made p
          → kit.is_branch p.head.content ≡ true → ⊥
      constant_ends p c branch =
          let e = subst (λ (h : Head (fresh N) kit_contents). kit.is_branch h.content ≡ true) c.3.head branch in
          let f = subst (λ (x : KitOperation). kit.is_branch x ≡ true) (maker_is c.1 c.2 c.3.made_by) e in
          false≢true f

      old_forwards : (o : Occurrence N kit_contents) (p : Occurrence (fresh N) kit_contents)
          → p.head ≡ old_head {N = N} made o.head → (i : ℕ) (v : Name N.value N.value)
          → ForwardsTo {N = fresh N} kit after p i v → (u : N.value) × ForwardsTo kit t o i u × (v ≡ Old u)
      old_forwards o p head i v f =
          let x = block_was kit made t.regions (at_root t) (at_root after) f.target f.stands in
          let old : N.value → Name N.value N.value = λ y. Old y in
          let takes : slice_get (map old (names_of x.0.label.arguments)) f.place ≡ Some v =
          ap (λ l. slice_get l f.place) (sym (names-map Old x.0.label.arguments))
          ∙ ap (λ (l : Label (fresh N) kit_contents). slice_get (names_of l.arguments) f.place) (sym x.2) ∙ f.takes in
          let u = at_mapped old (names_of x.0.label.arguments) f.place v takes in
          let name : f.target.label.name ≡ x.0.label.name = ap (λ (l : Label (fresh N) kit_contents). l.name) x.2 in (
            u.0,
            record {
              branch = subst (λ (h : Head (fresh N) kit_contents). kit.is_branch h.content ≡ true) head f.branch;
              edge = f.edge;
              target = x.0;
              stands = x.1;
              leads = subst (λ (h : Head (fresh N) kit_contents). slice_get h.successors f.edge ≡ Some x.0.label.name)
                  head
                  (f.leads ∙ ap Some name);
              place = f.place;
              gives = ap (λ n. slice_get (kit.forwards o.head.content n f.edge) f.place)
                  (sym (length-map used o.head.operands))
                  ∙ subst (λ (h : Head (fresh N) kit_contents). slice_get
                  (kit.forwards h.content (length h.operands) f.edge) f.place ≡ Some i) head f.gives;
              takes = u.1;
            },
            u.2,
          )

      forwards_typed : (p : Occurrence (fresh N) kit_contents) (i : ℕ) (x v : Name N.value N.value)
          → Has p (occurrences_of after) → slice_get p.head.operands i ≡ Some x
          → ForwardsTo {N = fresh N} kit after p i v → (type_after type_at) x ≡ (type_after type_at) v
      forwards_typed p i x v hp operand f = ⊎_elim
          (λ (c : Constant kit made p). absurd (constant_ends p c f.branch))
          (λ (o : WasOld kit made (occurrences_of t) p).
          let g = old_forwards o.it p o.is.head i v f in
          let y = at_mapped used o.it.head.operands i x
          (subst (λ (h : Head (fresh N) kit_contents). slice_get h.operands i ≡ Some x) o.is.head operand) in
          used_typed x y.0 y.2 ∙ typed.forwards o.it i y.0 g.0 o.stands y.1 g.1 ∙ ap (type_after type_at) (sym g.2))
          (was p hp)

      pub put_typed : IsTyped leads {N = fresh N} (type_after type_at) after
      put_typed = record {
        results = results_typed;
        arguments = arguments_typed;
        integers = values_integer;
        operands = operands_defined;
        operations = operations_fit;
        forwards = forwards_typed;
      }

-- ---- constant propagation

module _ {N : Names} (leads : TypeHandle → Option KitType) (numbered : List ℕ → ℕ) (same : N.value → N.value → Bool)
    (sameness : IsSameness same) (same_block : N.block → N.block → Bool) (block_law : IsSameness same_block)
    (type_at : N.value → TypeHandle) (t : Root N kit_contents) (f : Fun N.value)
    (is_flat : FlattensTo (kit_reading leads numbered) t f) (typed : IsTyped leads {N = N} type_at t) where
  -- a value that is known to be an attribute is known to be a number of its type
  known_number : (v : N.value) (a : IntegerAttr) (k : Known IntegerAttr) (fact : Fact)
      → IsKnownAs leads (type_at v) k fact → k ≡ known.One a → IsNumber leads type_at v a
  known_number v a k Undetermined says is = absurd (not_undetermined (sym is ∙ says))
    where
      not_undetermined : ◌≡◌ {A = Known IntegerAttr} (known.One a) known.Undetermined → ⊥
      not_undetermined e = cc e
  known_number v a k (flat.Known n) says is = (n, one_same a (number_as leads (type_at v) n) (sym is ∙ says.0), says.1)
    where
      one_same : (x y : IntegerAttr) → ◌≡◌ {A = Known IntegerAttr} (known.One x) (known.One y) → x ≡ y
      one_same x y e = cc e
  known_number v a k Unknown says is = absurd (not_any (sym is ∙ says))
    where
      not_any : ◌≡◌ {A = Known IntegerAttr} (known.One a) known.Any → ⊥
      not_any e = cc e

  module _ (w : TreeSurroundings N IntegerAttr) (facts : Facts N IntegerAttr) (best : IsMostPrecise kit t facts)
      (made : N.value → Option IntegerAttr) (is_made : AreMadeConstants kit w t facts made) where
    gets_defined : (v : N.value) (a : IntegerAttr) → made v ≡ Some a → Has v (defined_in t.regions)
    gets_defined v a is = ⊎_elim
        (λ (r : IsResult kit t facts v). result_defined t.regions (at_root t) r.definer v r.stands r.result)
        (λ (r : IsArgument t facts.runs v). argument_defined t.regions (at_root t) r.definer v r.stands r.argument)
        (is_made.gets v a is).place

    gets_placed : (v : N.value) (a : IntegerAttr) → made v ≡ Some a
        → Has {X = Name N.value N.value} (New v) (defined_in (put {N = N} kit made t.regions))
    gets_placed v a is =
        let g = is_made.gets v a is in
        ⊎_elim
        (λ (r : IsResult kit t facts v).
        at_constant v a g.maker r.definer.site.label.name
        (result_there kit made v a g.maker is g.made_by t.regions (at_root t) (at_root (put_root {N = N} kit made t))
        tt r.definer r.stands r.result))
        (λ (r : IsArgument t facts.runs v).
        at_constant v a g.maker r.definer.label.name
        (argument_there kit made v a g.maker is g.made_by t.regions (at_root t)
        (at_root (put_root {N = N} kit made t)) r.definer r.stands r.argument))
        g.place
      where
        at_constant : (v : N.value) (a : IntegerAttr) (c : KitOperation) (b : N.block)
            → IsThere kit made (occurrences_of (put_root {N = N} kit made t)) v a c b
            → Has {X = Name N.value N.value} (New v) (defined_in (put {N = N} kit made t.regions))
        at_constant v a c b there =
            result_defined (put {N = N} kit made t.regions) (at_root (put_root {N = N} kit made t)) there.it (New v)
            there.stands
            (subst (λ (h : Head (fresh N) kit_contents). Has {X = Name N.value N.value} (New v) (names_of h.results))
            (sym there.is.head) (inl refl))

    are_numbers : AreNumbers leads type_at t made typed
    are_numbers =
        let flat_facts = flat_best leads numbered same sameness same_block block_law type_at t f facts is_flat typed
        best in
        record {
          number = λ v a is. known_number v a (facts.of v) (flat_facts.0.of v)
              (flat_facts.2.of v (gets_defined v a is)) (is_made.gets v a is).known;
          defined = gets_defined;
          placed = gets_placed;
        }

pub typed_after_sccp : {N : Names} (same : N.value → N.value → Bool) (same_block : N.block → N.block → Bool)
    (leads : TypeHandle → Option KitType) (numbered : List ℕ → ℕ) (type_at : N.value → TypeHandle)
    (w : TreeSurroundings N IntegerAttr) (t : Root N kit_contents) (after : Root (fresh N) kit_contents) (f : Fun N.value)
    → IsSameness same → IsSameness same_block → FlattensTo (kit_reading leads numbered) t f
    → IsTyped leads {N = N} type_at t → IsSccp kit w t after → IsTyped leads {N = fresh N} (type_after type_at) after
typed_after_sccp {N} same same_block leads numbered type_at w t then_is f sameness block_law is_flat typed pass =
    subst (IsTyped leads {N = fresh N} (type_after type_at)) (sym pass.is)
    (put_typed leads type_at t pass.made typed
    (are_numbers leads numbered same sameness same_block block_law type_at t f is_flat typed w pass.facts pass.best
    pass.made pass.is_made))
