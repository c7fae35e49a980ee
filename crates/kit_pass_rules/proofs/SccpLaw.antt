-- A good tree with constants put in for what the most precise facts know keeps all rules.
use Rattle.std.proofs.Common.{◌≡◌, ⊎_elim, ◌^◌, Bool, true, false, [], ◌++◌, map, Option, Some, None, refl, sym, ap, ◌∙◌, subst}
use Rattle.std.specs.Prelude.{nat_lt, ◌&&◌, if◌then◌else◌}
use Rattle.std.proofs.lemmas.Bool.{and_parts, ltb-true, lt-ltb}
use Rattle.ir_base.specs.declared.types.TypeHandle.{TypeHandle}
use Rattle.ir_names.specs.contracts.kinds.SignednessPartialEq.TheImpl as of_signs
use Rattle.ir_names.specs.declared.kinds.Signedness.{Signedness}
use Rattle.ir_names.specs.declared.kinds.Signedness.TheVariants.{Signless, Signed, Unsigned}
use Rattle.ir_program.specs.declared.handles.Value.{Value}
use Rattle.ir_trees.specs.Renames.{Maps, rename_root}
use Rattle.ir_trees.specs.Stands.{by_handle, ProgramHead}
use Rattle.ir_trees.specs.Trees.{Defined}
use Rattle.kit.specs.Context.{KitTree}
use Rattle.kit.specs.Folded.{same_number}
use Rattle.kit.specs.Meaning.{KitOperation, KitBlock, kit}
use Rattle.kit.specs.Same.{same_integer}
use Rattle.kit_checks.specs.Faults.{Keeps}
use Rattle.kit_checks.specs.KitWorld.{HasDeclaredTypes, kit_world}
use Rattle.kit_checks.specs.Rules.{ValuesAreIntegers}
use Rattle.kit_checks.specs.Words.{IsValueType, bodies_of, integer_type}
use Rattle.kit_checks.specs.declared.rule.Rule.{Rule}
use Rattle.kit_checks.specs.declared.rule.Rule.TheVariants as rule
use Rattle.kit_ops.specs.contracts.attributes.IntegerAttrPartialEq.TheImpl as of_integers
use Rattle.kit_ops.specs.declared.attributes.IntegerAttr.{IntegerAttr}
use Rattle.kit_ops.specs.declared.types.KitType.{KitType}
use Rattle.kit_pass_rules.specs.Laws.{IsGood, SccpKeepsRules}
use Rattle.kit_pass_rules.specs.Worlds.{ObeysIn}
use Rattle.kit_pass_rules.proofs.DceCame.{KitSite}
use Rattle.kit_pass_rules.proofs.FactsBranches.{branch_lower}
use Rattle.kit_pass_rules.proofs.FactsClosed.{lower, lowered, entries_lowered, rule_here}
use Rattle.kit_pass_rules.proofs.FactsFit.{Right, Tests, of_integer}
use Rattle.kit_pass_rules.proofs.FactsFolds.{fold_lower}
use Rattle.kit_pass_rules.proofs.Lists.{map_get, index_of_has}
use Rattle.kit_pass_rules.proofs.Located.{located, located_block}
use Rattle.kit_pass_rules.proofs.PutIn.{q_tree}
use Rattle.kit_pass_rules.proofs.SccpCame.{Comes, body_in, comes_from}
use Rattle.kit_pass_rules.proofs.SccpMore.{rule_module, rule_ends, rule_types, rule_edges, rule_calls, rule_returns, rule_constants, rule_attributes, rule_format}
use Rattle.kit_pass_rules.proofs.SccpRules.{rule_root, rule_function, rule_holds, rule_values, rule_visible}
use Rattle.kit_pass_rules.proofs.SccpSee.{Fits}
use Rattle.kit_views.specs.Reading.{integer_of}
use Rattle.opt_rows.specs.declared.known.Known.TheVariants.{Undetermined, One}
use Rattle.opt_rows.specs.Known.{AtOrBelow, asked}
use Rattle.opt_trees.specs.Dce.{TreeSurroundings}
use Rattle.opt_trees.specs.Facts.{Facts, IsClosed, IsMostPrecise, FoldClosed, BranchClosed}
use Rattle.opt_trees.specs.Occurrences.{Has, block_occurrences_of}
use Rattle.opt_trees.specs.Sccp.{Gets, IsArgument, IsResult, fresh}
use Rattle.opt_trees.proofs.Lists.{has-from_map}

module _ (leads : TypeHandle → Option KitType) where
  abbrev as_number : TypeHandle → IntegerAttr → IntegerAttr
  as_number ty a = record { ty = ty; integer = integer_of (leads ty); bits = a.bits }

  abbrev test : Option TypeHandle → IntegerAttr → Bool
  test None a = false
  test (Some ty) a = of_integers.eq-value.it a (as_number ty a) && nat_lt a.bits (2 ^ a.integer.width)

  sign_self : (x : Signedness) → of_signs.eq-value.it x x ≡ true
  sign_self Signless = refl
  sign_self Signed = refl
  sign_self Unsigned = refl

  self_same : (x : IntegerAttr) → of_integers.eq-value.it x x ≡ true
  self_same x = λ i. same_number x.ty.number i && ((sign_self x.integer.signedness i && same_number x.integer.width i) && same_number x.bits i)

  tests : Tests leads test
  tests = record {
    none = λ a e. cc e;
    right = λ ty a e.
        let p = and_parts (of_integers.eq-value.it a (as_number ty a)) (nat_lt a.bits (2 ^ a.integer.width)) e in
        let same = same_integer a (as_number ty a) p.0 in
        record { type = ap (λ (x : IntegerAttr). x.ty) same; integer = ap (λ (x : IntegerAttr). x.integer) same; in_range = ltb-true a.bits (2 ^ a.integer.width) p.1 };
    passes = λ ty a r.
        let same : a ≡ as_number ty a = λ i. record { ty = r.type i; integer = r.integer i; bits = a.bits } in
        let first : of_integers.eq-value.it a (as_number ty a) ≡ true = ap (of_integers.eq-value.it a) (sym same) ∙ self_same a in
        λ i. first i && lt-ltb a.bits (2 ^ a.integer.width) r.in_range i;
  }

  tests_right : (ty : TypeHandle) (a : IntegerAttr) → test (Some ty) a ≡ true → Right leads ty a
  tests_right ty a e = let x : Tests leads test = tests in x.right ty a e

  module _ (old : Value → Option TypeHandle) (t : KitTree) (good : IsGood leads old t) (k : Facts by_handle IntegerAttr) (best : IsMostPrecise kit t k) where
    abbrev lowest : Facts by_handle IntegerAttr
    lowest = lowered leads old t good test tests k

    closed : IsClosed kit t lowest
    closed = record {
      entries = entries_lowered leads old t good test tests k t.regions best.closed.entries;
      outside = λ v h. ap (lower leads old t good test tests k (old v)) (best.closed.outside v h);
      inside = λ o h runs.
          let c = best.closed.inside o h runs in
          let l = located t o h in
          record {
            folds = subst (λ (hd : ProgramHead KitOperation KitBlock). FoldClosed kit k.of hd (kit.is_foldable hd.content) (asked (map k.of hd.operands)) →
                FoldClosed kit lowest.of hd (kit.is_foldable hd.content) (asked (map lowest.of hd.operands))) l.head
                (fold_lower leads old t good test tests k o h l (kit.is_foldable l.u.head.content) refl) c.folds;
            goes = subst (λ (hd : ProgramHead KitOperation KitBlock). BranchClosed kit (block_occurrences_of t) k hd (kit.is_branch hd.content) (asked (map k.of hd.operands)) →
                BranchClosed kit (block_occurrences_of t) lowest hd (kit.is_branch hd.content) (asked (map lowest.of hd.operands))) l.head
                (branch_lower leads old t good test tests k o h l (kit.is_branch l.u.head.content) refl) c.goes;
            entries = entries_lowered leads old t good test tests k o.regions c.entries;
          };
    }

    -- so what is known passes the test
    passes : (v : Value) (a : IntegerAttr) → k.of v ≡ One a → test (old v) a ≡ true
    passes v a e = step (test (old v) a) refl
      where
        step : (b : Bool) → test (old v) a ≡ b → test (old v) a ≡ true
        step true q = q
        step false q =
            let low : lowest.of v ≡ Undetermined = ap (lower leads old t good test tests k (old v)) e ∙ ap (λ z. if z then One a else Undetermined) q in
            absurd (subst (λ z. AtOrBelow z (One a)) low (subst (AtOrBelow (lowest.of v)) e ((best.best lowest closed).above v)))

    -- the type of a value that may get a constant
    record TypeOf (v : Value) : Type 0 where
      pub type : TypeHandle
      pub was : old v ≡ Some type
      pub value : IsValueType (kit_world leads old) type

    result_type : (v : Value) → IsResult kit t k v → TypeOf v
    result_type v r =
        let p = has-from_map (λ (d : Defined Value TypeHandle). d.name) v r.definer.head.results r.result in
        let l = located t r.definer r.stands in
        let values = rule_here leads old t good test tests k r.definer r.stands l rule.ValuesAreIntegers in
        let has : Has p.it l.u.head.results = subst (Has p.it) (sym (ap (λ (h : ProgramHead KitOperation KitBlock). h.results) l.head)) p.stands in
        let i = index_of_has l.u.head.results p.it has in
        record {
          type = p.it.holds;
          was = ap old (sym p.is) ∙ good.typed_in.results r.definer r.stands p.it p.stands;
          value = values.results i.0 p.it.holds (map_get (λ (d : Defined Value TypeHandle). d.holds) l.u.head.results i.0 p.it i.1);
        }

    argument_type : (v : Value) → IsArgument t k.runs v → TypeOf v
    argument_type v r =
        let p = has-from_map (λ (d : Defined Value TypeHandle). d.name) v r.definer.label.arguments r.argument in
        let l = located_block t r.definer r.stands in
        let values : ValuesAreIntegers (kit_world leads old) l.s = good.obeys rule.ValuesAreIntegers (l.up.prefix ++ []) l.s (l.up.reaches []) in
        let b = index_of_has (bodies_of l.s.op) l.body (body_in l.s.op l.r l.b l.blocks l.body l.region_here l.block_here) in
        let has : Has p.it l.body.label.arguments = subst (Has p.it) (sym (ap (λ z. z.arguments) l.label)) p.stands in
        let i = index_of_has l.body.label.arguments p.it has in
        record {
          type = p.it.holds;
          was = ap old (sym p.is) ∙ good.typed_in.arguments r.definer r.stands p.it p.stands;
          value = values.arguments b.0 l.body b.1 i.0 p.it.holds (map_get (λ (d : Defined Value TypeHandle). d.holds) l.body.label.arguments i.0 p.it i.1);
        }

    fits_of : (v : Value) (a : IntegerAttr) → k.of v ≡ One a → TypeOf v → Fits leads old v a
    fits_of v a e ty =
        let right : Right leads ty.type a = tests_right ty.type a (sym (ap (λ z. test z a) ty.was) ∙ passes v a e) in
        let integer : a.integer ≡ ty.value.0 = right.integer ∙ of_integer leads (leads ty.type) ty.value.0 ty.value.1 in
        record {
          typed = ty.was ∙ ap Some (sym right.type);
          is_type = ap (integer_type (kit_world leads old)) right.type ∙ (ty.value.1 ∙ ap Some (sym integer));
          in_range = right.in_range;
        }

    pub fits : (w : TreeSurroundings by_handle IntegerAttr) (v : Value) (a : IntegerAttr) → Gets kit w t k v a → Fits leads old v a
    fits w v a g = fits_of v a g.known (⊎_elim (result_type v) (argument_type v) g.place)

module _ (leads : TypeHandle → Option KitType) (old new : Value → Option TypeHandle) (t : KitTree) (good : IsGood leads old t)
    (made : Value → Option IntegerAttr) (names : Maps (fresh by_handle) by_handle) (fit : (v : Value) (a : IntegerAttr) → made v ≡ Some a → Fits leads old v a)
    (typed : HasDeclaredTypes new (q_tree made names t)) where
  all_kept : (r : Rule) (s : KitSite) → Comes leads old t good made names s → Keeps (kit_world leads new) r s
  all_kept rule.RootIsModule s c = rule_root leads old new t good made names fit typed s c
  all_kept rule.ModuleHolds s c = rule_module leads old new t good made names fit typed s c
  all_kept rule.FunctionHasType s c = rule_function leads old new t good made names fit typed s c
  all_kept rule.FunctionHolds s c = rule_holds leads old new t good made names fit typed s c
  all_kept rule.ValuesAreIntegers s c = rule_values leads old new t good made names fit typed s c
  all_kept rule.BlocksEnd s c = rule_ends leads old new t good made names fit typed s c
  all_kept rule.OperandsAreVisible s c = rule_visible leads old new t good made names fit typed s c
  all_kept rule.TypesAgree s c = rule_types leads old new t good made names fit typed s c
  all_kept rule.EdgesFit s c = rule_edges leads old new t good made names fit typed s c
  all_kept rule.CallsFit s c = rule_calls leads old new t good made names fit typed s c
  all_kept rule.ReturnsFit s c = rule_returns leads old new t good made names fit typed s c
  all_kept rule.ConstantsFit s c = rule_constants leads old new t good made names fit typed s c
  all_kept rule.AttributesAreKnown s c = rule_attributes leads old new t good made names fit typed s c
  all_kept rule.FitsFormat s c = rule_format leads old new t good made names fit typed s c

  pub with_constants_keeps : ObeysIn (kit_world leads new) (q_tree made names t)
  with_constants_keeps r p s e = all_kept r s (comes_from leads old t good made names p s e)

pub sccp_law : SccpKeepsRules
sccp_law = λ leads old new t after good named typed.
    let x = named.is_sccp in
    let same : q_tree x.made named.names t ≡ after = sym (named.is ∙ ap (rename_root named.names) x.is) in
    subst (ObeysIn (kit_world leads new)) same
    (with_constants_keeps leads old new t good x.made named.names (λ v a e. fits leads old t good x.facts x.best named.around v a (x.is_made.gets v a e)) (subst (HasDeclaredTypes new) (sym same) typed))
