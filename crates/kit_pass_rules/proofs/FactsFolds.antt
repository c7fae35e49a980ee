-- What operations fold to of operands that are known rightly is right.
use Rattle.std.proofs.Common.{◌≡◌, ⊎_elim, inl, ℕ, zero, suc, ◌^◌, ◌<◌, Bool, true, false, List, [], ◌∷◌, map, length, Option, Some, None, option_and_then, slice_get, refl, sym, ap, ◌∙◌, subst, arith}
use Rattle.ir_base.specs.declared.types.TypeHandle.{TypeHandle}
use Rattle.ir_names.specs.Dictionary.{attribute_at}
use Rattle.ir_names.specs.declared.interfaces.OpInterface.TheVariants as op
use Rattle.ir_program.specs.declared.handles.Value.{Value}
use Rattle.ir_trees.specs.Renames.{names_of}
use Rattle.ir_trees.specs.Stands.{by_handle}
use Rattle.ir_trees.specs.Trees.{Defined}
use Rattle.kit.specs.Context.{KitTree}
use Rattle.kit.specs.Meaning as kit_meaning
use Rattle.kit.specs.Meaning.{KitOperation, KitBlock, kit, calculated, compared, value_of, if_of_type, fold_of}
use Rattle.kit_checks.specs.KitWorld.{kit_world}
use Rattle.kit_checks.specs.Rules as rules
use Rattle.kit_checks.specs.Words.{types_of}
use Rattle.kit_checks.specs.Words as words
use Rattle.kit_checks.specs.declared.rule.Rule.TheVariants as rule
use Rattle.kit_ops.specs.declared.attributes.IntegerAttr.{IntegerAttr}
use Rattle.kit_ops.specs.declared.attributes.KitAttr.{KitAttr}
use Rattle.kit_ops.specs.declared.attributes.KitAttr.TheVariants as attrs
use Rattle.kit_ops.specs.declared.kinds.KitOp.{KitOp}
use Rattle.kit_ops.specs.declared.kinds.KitOp.TheVariants as ops
use Rattle.kit_ops.specs.declared.types.KitType.{KitType}
use Rattle.kit_ops.specs.Keys as keys
use Rattle.kit_ops.specs.Table.{has_interface}
use Rattle.kit_pass_rules.specs.Laws.{IsGood}
use Rattle.kit_pass_rules.proofs.FactsClosed.{lowered, all_any, SameOf, asked_lower, all_below, rule_here, two}
use Rattle.kit_pass_rules.proofs.FactsFit.{Right, Tests, of_type, of_integer, calculated_right, compared_right}
use Rattle.kit_pass_rules.proofs.Located.{Located}
use Rattle.kit_pass_rules.proofs.Walk.{OccurrenceOf}
use Rattle.kit_views.specs.Reading.{integer_of}
use Rattle.opt_rows.specs.Known.{asked}
use Rattle.opt_trees.specs.Facts.{Facts, FoldClosed}
use Rattle.opt_trees.specs.Occurrences.{Has, occurrences_of}
use Rattle.opt_trees.proofs.Lists.{some_same, none_some}

single : (ds : List (Defined Value TypeHandle)) → length ds ≡ 1 → (d : Defined Value TypeHandle) × (ds ≡ d ∷ [])
single [] e = absurd (omega (arith, e))
single (d ∷ []) e = (d, refl)
single (d ∷ (c ∷ ds)) e = absurd (omega (arith, e))

integers_alike : (o : Option KitAttr) → kit_meaning.integer_in o ≡ option_and_then words.integer_in o
integers_alike None = refl
integers_alike (Some (attrs.Integer a)) = refl
integers_alike (Some a) = refl

module _ (leads : TypeHandle → Option KitType) (old : Value → Option TypeHandle) (t : KitTree) (good : IsGood leads old t)
    (test : Option TypeHandle → IntegerAttr → Bool) (tests : Tests leads test) (k : Facts by_handle IntegerAttr)
    (o : OccurrenceOf KitOperation KitBlock) (stands : Has o (occurrences_of t)) (l : Located t o) where
  count_one : (K : KitOp) → has_interface K op.ConstFold ≡ true → rules.FitsKind (kit_world leads old) l.u K → length l.u.head.results ≡ 1
  count_one ops.Constant e h = h.0.results
  count_one (ops.Arithmetic x) e h = h.0.results
  count_one (ops.Comparison x) e h = h.0.results
  count_one K e h = absurd (cc e)

  kind_right : (K : KitOp) → l.u.head.content.kind ≡ K → (d : Defined Value TypeHandle) → l.u.head.results ≡ d ∷ [] → (xs : List (Option IntegerAttr)) (b : IntegerAttr) →
      SameOf leads old t good test tests k l.u.head.operands → asked (map k.of l.u.head.operands) ≡ Some xs →
      value_of K l.u.head.content.notes.attributes d.holds xs ≡ Some b → b.ty ≡ d.holds → Right leads d.holds b
  kind_right ops.Constant e d is xs b same q z type =
      let v = rule_here leads old t good test tests k o stands l rule.ConstantsFit e in
      let one : v.value ≡ b = some_same v.value b (sym v.has_value ∙ (sym (integers_alike (attribute_at l.u.head.content.notes.attributes keys.constant_value)) ∙ z)) in
      let at : v.value.ty ≡ d.holds = ap (λ (x : IntegerAttr). x.ty) one ∙ type in
      record {
        type = type;
        integer = sym (ap (λ (x : IntegerAttr). x.integer) one) ∙ (sym (of_integer leads (leads v.value.ty) v.value.integer v.is_type) ∙ ap (λ y. integer_of (leads y)) at);
        in_range = subst (λ (x : IntegerAttr). x.bits < 2 ^ x.integer.width) one v.in_range;
      }
  kind_right (ops.Arithmetic x) e d is xs b same q z type =
      let n = (subst (rules.FitsKind (kit_world leads old) l.u) e (rule_here leads old t good test tests k o stands l rule.FitsFormat)).1 in
      let r = two leads old t good test tests k o stands l (calculated x) l.u.head.operands xs b n same q z in
      calculated_right leads x r.1 r.2 b r.0 d.holds r.3 type r.4
  kind_right (ops.Comparison x) e d is xs b same q z type =
      let n = (subst (rules.FitsKind (kit_world leads old) l.u) e (rule_here leads old t good test tests k o stands l rule.FitsFormat)).1 in
      let bits = (subst (rules.HasKindTypes (kit_world leads old) l.u) e (rule_here leads old t good test tests k o stands l rule.TypesAgree)).1 in
      let r = two leads old t good test tests k o stands l (compared x d.holds) l.u.head.operands xs b n same q z in
      compared_right leads x r.1 r.2 b d.holds (bits 0 d.holds (ap (λ ds. slice_get (types_of ds) 0) is)) r.4
  kind_right K e d is xs b same q z type = absurd (none_some b z)

  fold_test : (d : Defined Value TypeHandle) → l.u.head.results ≡ d ∷ [] → (xs : List (Option IntegerAttr)) → SameOf leads old t good test tests k l.u.head.operands → asked (map k.of l.u.head.operands) ≡ Some xs →
      (i : ℕ) (v : Value) (b : IntegerAttr) → slice_get (d.name ∷ []) i ≡ Some v →
      slice_get (if_of_type d.holds (value_of l.u.head.content.kind l.u.head.content.notes.attributes d.holds xs) ∷ []) i ≡ Some (Some b) → test (old v) b ≡ true
  fold_test d is xs same q (suc i) v b e z = absurd (none_some v e)
  fold_test d is xs same q zero v b e z =
      let x = of_type leads d.holds (value_of l.u.head.content.kind l.u.head.content.notes.attributes d.holds xs) b
      (some_same (if_of_type d.holds (value_of l.u.head.content.kind l.u.head.content.notes.attributes d.holds xs)) (Some b) z) in
      let right = kind_right l.u.head.content.kind refl d is xs b same q x.is x.type in
      let has : Has d o.head.results = subst (Has d) (sym is ∙ ap (λ h. h.results) l.head) (inl refl) in
      let was : old d.name ≡ Some d.holds = good.typed_in.results o stands d has in
      ap (λ y. test (old y) b) (sym (some_same d.name v e)) ∙ (ap (λ y. test y b) was ∙ tests.passes d.holds b right)

  fold_true : (q : Option (List (Option IntegerAttr))) → asked (map k.of l.u.head.operands) ≡ q → SameOf leads old t good test tests k l.u.head.operands → has_interface l.u.head.content.kind op.ConstFold ≡ true →
      FoldClosed kit k.of l.u.head true q → FoldClosed kit (lowered leads old t good test tests k).of l.u.head true q
  fold_true None e same c h = tt
  fold_true (Some xs) e same c h =
      let d = single l.u.head.results (count_one l.u.head.content.kind c (rule_here leads old t good test tests k o stands l rule.FitsFormat)) in
      all_below leads old t good test tests k (names_of l.u.head.results) (kit.fold l.u.head.content (types_of l.u.head.results) xs) h
      (λ i v b p r. fold_test d.0 d.1 xs same e i v b
      (sym (ap (λ ds. slice_get (names_of ds) i) d.1) ∙ p)
      (sym (ap (λ ds. slice_get (fold_of l.u.head.content.kind l.u.head.content.notes.attributes (types_of ds) xs) i) d.1) ∙ r))

  pub fold_lower : (c : Bool) → has_interface l.u.head.content.kind op.ConstFold ≡ c → FoldClosed kit k.of l.u.head c (asked (map k.of l.u.head.operands)) →
      FoldClosed kit (lowered leads old t good test tests k).of l.u.head c (asked (map (lowered leads old t good test tests k).of l.u.head.operands))
  fold_lower false e h = all_any leads old t good test tests k (names_of l.u.head.results) h
  fold_lower true e h = ⊎_elim
      (λ none. subst (FoldClosed kit (lowered leads old t good test tests k).of l.u.head true) (sym none) tt)
      (λ r. subst (FoldClosed kit (lowered leads old t good test tests k).of l.u.head true) (sym r.0) (fold_true (asked (map k.of l.u.head.operands)) refl r.1 e h))
      (asked_lower leads old t good test tests k l.u.head.operands)
