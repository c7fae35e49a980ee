-- Types of two contexts that are the same.
use Rattle.std.proofs.Common.{◌≡◌, ℕ, Bool, true, false, List, [], ◌∷◌, Option, Some, None, option_and_then, refl}
use Rattle.std.proofs.Common.{sym, ap, ◌∙◌, subst, arith}
use Rattle.std.specs.Prelude.{nat_lt, ◌^◌, slice_get}
use Rattle.std.proofs.lemmas.Option.{none-some, same_Some, some_pair_parts}
use Rattle.ir_base.specs.declared.types.TypeHandle.{TypeHandle}
use Rattle.ir_names.specs.declared.kinds.Signedness.{Signedness}
use Rattle.ir_names.specs.Tree.{LabelledTree, Trees, node, no_tree, a_tree}
use Rattle.ir_print.specs.Pieces.{value_of_kind, list, item, operands, successor, region, leaf, width, chosen}
use Rattle.ir_print.specs.Pieces.{ValueTree, Pieces}
use Rattle.ir_print.specs.Shown.{Said, said_type, said_list, said_item, said_leaf, alone, Pairs, Shows, ShowsAll}
use Rattle.ir_print.specs.Shown.{ShowsType}
use Rattle.kit_ops.specs.declared.attributes.KitAttr.{KitAttr}
use Rattle.kit_ops.specs.declared.types.FunctionType.{FunctionType}
use Rattle.kit_ops.specs.declared.types.IntegerType.{IntegerType}
use Rattle.kit_ops.specs.declared.types.KitType.{KitType}
use Rattle.kit_ops.specs.declared.types.KitType.TheVariants as types
use Rattle.kit_checks.specs.Words.{integer_of, function_of}
use Rattle.kit.specs.Says.{says, one, two, only, types_said, said_of_type}
use Rattle.kit.specs.Seen.{one_seen}
use Rattle.kit_text_programs.specs.Alike.{AreBoth}
use Rattle.ir_print.specs.declared.format.ValueSort.TheVariants as sorts
use Rattle.kit_text_programs.specs.Same.{HaveOwnHandles, AreSameTypes, none, integers, functions, units, IsSameType}

module _ (leads others : TypeHandle → Option KitType) where
  pub in_front : (a c : TypeHandle) (bs ds : List TypeHandle) → IsSameType leads others a c
      → AreSameTypes leads others bs ds → AreSameTypes leads others (a ∷ bs) (c ∷ ds)
  in_front a c bs ds (integers _ _ _ _ i here there rest) h = integers a c bs ds i here there h
  in_front a c bs ds (functions _ _ _ _ f g here there ins outs rest) h = functions a c bs ds f g here there ins outs h
  in_front a c bs ds (units _ _ _ _ here there rest) h = units a c bs ds here there h

  pub one_by_one : (bs ds : List TypeHandle) → AreSameTypes leads others bs ds → Pairs (IsSameType leads others) bs ds
  one_by_one bs ds none = tt
  one_by_one bs ds (integers a c cs es i here there rest) =
      (integers a c [] [] i here there none, one_by_one cs es rest)
  one_by_one bs ds (functions a c cs es f g here there ins outs rest) =
      (functions a c [] [] f g here there ins outs none, one_by_one cs es rest)
  one_by_one bs ds (units a c cs es here there rest) = (units a c [] [] here there none, one_by_one cs es rest)

  pub same_integers : (a c : TypeHandle) → IsSameType leads others a c
      → option_and_then integer_of (leads a) ≡ option_and_then integer_of (others c)
  same_integers a c (integers _ _ _ _ i here there rest) =
      ap (option_and_then integer_of) here ∙ sym (ap (option_and_then integer_of) there)
  same_integers a c (functions _ _ _ _ f g here there ins outs rest) =
      ap (option_and_then integer_of) here ∙ sym (ap (option_and_then integer_of) there)
  same_integers a c (units _ _ _ _ here there rest) =
      ap (option_and_then integer_of) here ∙ sym (ap (option_and_then integer_of) there)

  abbrev pub AreSameFunctions : FunctionType → FunctionType → Type 0
  AreSameFunctions f g = Pairs (IsSameType leads others) f.inputs.items g.inputs.items
      × Pairs (IsSameType leads others) f.results.items g.results.items

  by_both : (o p u v : Option FunctionType) → o ≡ u → p ≡ v → AreBoth AreSameFunctions u v
      → AreBoth AreSameFunctions o p
  by_both o p u v e f h =
      subst (λ q. AreBoth AreSameFunctions q p) (sym e) (subst (λ q. AreBoth AreSameFunctions u q) (sym f) h)

  pub same_functions : (a c : TypeHandle) → IsSameType leads others a c
      → AreBoth AreSameFunctions (option_and_then function_of (leads a)) (option_and_then function_of (others c))
  same_functions a c (integers _ _ _ _ i here there rest) =
      by_both (option_and_then function_of (leads a)) (option_and_then function_of (others c)) None None
      (ap (option_and_then function_of) here) (ap (option_and_then function_of) there) tt
  same_functions a c (functions _ _ _ _ f g here there ins outs rest) =
      by_both (option_and_then function_of (leads a)) (option_and_then function_of (others c)) (Some f) (Some g)
      (ap (option_and_then function_of) here) (ap (option_and_then function_of) there)
      (one_by_one f.inputs.items g.inputs.items ins, one_by_one f.results.items g.results.items outs)
  same_functions a c (units _ _ _ _ here there rest) =
      by_both (option_and_then function_of (leads a)) (option_and_then function_of (others c)) None None
      (ap (option_and_then function_of) here) (ap (option_and_then function_of) there) tt

  -- ---- one handle

  module _ (own : HaveOwnHandles leads) where
    abbrev Alike : List TypeHandle → List TypeHandle → Type 0
    Alike = AreSameTypes leads others

    heads_same : (x y : TypeHandle) (xs ys : List TypeHandle) → x ∷ xs ≡ y ∷ ys → x ≡ y
    heads_same x y xs ys e = cc

    rests_same : (x y : TypeHandle) (xs ys : List TypeHandle) → x ∷ xs ≡ y ∷ ys → xs ≡ ys
    rests_same x y xs ys e = cc

    no_cons : (x : TypeHandle) (xs : List TypeHandle) → [] ≡ x ∷ xs → ⊥
    no_cons x xs e = cc

    both_first : (x y : TypeHandle) (xs ys : List TypeHandle) → x ≡ y → xs ≡ ys → x ∷ xs ≡ y ∷ ys
    both_first x y xs ys e f = ap (λ z. z ∷ xs) e ∙ ap (λ zs. y ∷ zs) f

    keys_meet : (c d : TypeHandle) (j k : KitType) → c ≡ d → others c ≡ Some j → others d ≡ Some k → j ≡ k
    keys_meet c d j k e there at = same_Some j k (sym there ∙ ap others e ∙ at)

    pub lists_meet : (bs cs ds es : List TypeHandle) → Alike bs ds → Alike cs es → ds ≡ es → bs ≡ cs
    lists_meet bs cs ds es none none e = refl
    lists_meet bs cs ds es none (integers b d ys us j hb hd r) e = absurd (no_cons d us e)
    lists_meet bs cs ds es none (functions b d ys us f g hb hd ins outs r) e = absurd (no_cons d us e)
    lists_meet bs cs ds es none (units b d ys us hb hd r) e = absurd (no_cons d us e)
    lists_meet bs cs ds es (integers a c xs vs i ha hc q) none e = absurd (no_cons c vs (sym e))
    lists_meet bs cs ds es (functions a c xs vs k l ha hc ins outs q) none e = absurd (no_cons c vs (sym e))
    lists_meet bs cs ds es (units a c xs vs ha hc q) none e = absurd (no_cons c vs (sym e))
    lists_meet bs cs ds es (integers a c xs vs i ha hc q) (integers b d ys us j hb hd r) e =
        let m = keys_meet c d (types.Integer i) (types.Integer j) (heads_same c d vs us e) hc hd in
        let same : i ≡ j = cc in
        both_first a b xs ys (own a b (types.Integer i) (types.Integer j) ha hb same)
        (lists_meet xs ys vs us q r (rests_same c d vs us e))
    lists_meet bs cs ds es (integers a c xs vs i ha hc q) (functions b d ys us f g hb hd ins outs r) e =
        let m = keys_meet c d (types.Integer i) (types.Function g) (heads_same c d vs us e) hc hd in cc
    lists_meet bs cs ds es (integers a c xs vs i ha hc q) (units b d ys us hb hd r) e =
        let m = keys_meet c d (types.Integer i) types.Unit (heads_same c d vs us e) hc hd in cc
    lists_meet bs cs ds es (functions a c xs vs k l ha hc ins outs q) (integers b d ys us j hb hd r) e =
        let m = keys_meet c d (types.Function l) (types.Integer j) (heads_same c d vs us e) hc hd in cc
    lists_meet bs cs ds es (functions a c xs vs k l ha hc ins outs q) (functions b d ys us f g hb hd more again r) e =
        let m = keys_meet c d (types.Function l) (types.Function g) (heads_same c d vs us e) hc hd in
        let same : l ≡ g = cc in
        both_first a b xs ys (own a b (types.Function k) (types.Function f) ha hb (
          lists_meet k.inputs.items f.inputs.items l.inputs.items g.inputs.items ins more
              (ap (λ (t : FunctionType). t.inputs.items) same),
          lists_meet k.results.items f.results.items l.results.items g.results.items outs again
              (ap (λ (t : FunctionType). t.results.items) same),
        ))
        (lists_meet xs ys vs us q r (rests_same c d vs us e))
    lists_meet bs cs ds es (functions a c xs vs k l ha hc ins outs q) (units b d ys us hb hd r) e =
        let m = keys_meet c d (types.Function l) types.Unit (heads_same c d vs us e) hc hd in cc
    lists_meet bs cs ds es (units a c xs vs ha hc q) (integers b d ys us j hb hd r) e =
        let m = keys_meet c d types.Unit (types.Integer j) (heads_same c d vs us e) hc hd in cc
    lists_meet bs cs ds es (units a c xs vs ha hc q) (functions b d ys us f g hb hd ins outs r) e =
        let m = keys_meet c d types.Unit (types.Function g) (heads_same c d vs us e) hc hd in cc
    lists_meet bs cs ds es (units a c xs vs ha hc q) (units b d ys us hb hd r) e =
        both_first a b xs ys (own a b types.Unit types.Unit ha hb tt) (lists_meet xs ys vs us q r
        (rests_same c d vs us e))

    pub types_meet : (a b c d : TypeHandle) → IsSameType leads others a c → IsSameType leads others b d → c ≡ d → a ≡ b
    types_meet a b c d h k e =
        heads_same a b [] [] (lists_meet (a ∷ []) (b ∷ []) (c ∷ []) (d ∷ []) h k (ap (λ t. t ∷ []) e))

-- ---- types that are shown

said_one : (a b : TypeHandle) → ◌≡◌ {A = LabelledTree (Said KitAttr)} (alone (said_type a)) (alone (said_type b)) → a ≡ b
said_one a b e = cc

clash : (n : ℕ) → 0 ≡ n → 1 ≡ n → ⊥
clash n a b = omega arith

clash_two : (n : ℕ) → 0 ≡ n → 2 ≡ n → ⊥
clash_two n a b = omega arith

clash_three : (n : ℕ) → 1 ≡ n → 2 ≡ n → ⊥
clash_three n a b = omega arith

only_some : {X : Type 0} (b : Bool) (o : Option X) (x : X) → only b o ≡ Some x → o ≡ Some x
only_some true o x e = e
only_some false o x e = absurd (none-some x e)

integer_said : (i : IntegerType) (n : ℕ) (us : Trees (Said KitAttr)) → said_of_type (types.Integer i) ≡ Some (n, us)
    → (0 ≡ n) × (one (alone (said_leaf (width i.signedness i.width))) ≡ us)
integer_said i n us e =
    let said : Trees (Said KitAttr) = one (alone (said_leaf (width i.signedness i.width))) in
    some_pair_parts 0 n said us
    (only_some {X = ℕ × Trees (Said KitAttr)} (nat_lt i.width (2 ^ 32)) (Some (0, said)) (n, us) e)

function_said : (f : FunctionType) (n : ℕ) (us : Trees (Said KitAttr)) → said_of_type (types.Function f) ≡ Some (n, us)
    → (1 ≡ n) × (two (node said_list (types_said f.inputs.items)) (node said_list (types_said f.results.items)) ≡ us)
function_said f n us e =
    let said : Trees (Said KitAttr) =
    two (node said_list (types_said f.inputs.items)) (node said_list (types_said f.results.items)) in
    some_pair_parts 1 n said us e

unit_said : (n : ℕ) (us : Trees (Said KitAttr)) → said_of_type types.Unit ≡ Some (n, us) → 2 ≡ n
unit_said n us e = let said : Trees (Said KitAttr) = no_tree in (some_pair_parts 2 n said us e).0

width_one : (s t : Signedness) (v w : ℕ) (us ts : Pieces) (p q : ValueTree) → p ≡ node (leaf (width s v)) us
    → q ≡ node (leaf (width t w)) ts → ◌≡◌ {A = Pieces} (a_tree p no_tree) (a_tree q no_tree) → (s ≡ t) × (v ≡ w)
width_one s t v w us ts p q e f h =
    let same : p ≡ q = cc in
    let signs : s ≡ t = cc in
    let widths : v ≡ w = cc in (signs, widths)

integer_one : (i j : IntegerType) → i.signedness ≡ j.signedness → i.width ≡ j.width → i ≡ j
integer_one i j e f =
    ap (λ (k : Signedness). record i { signedness = k }) e ∙ ap (λ (n : ℕ). record j { width = n }) f

module _ (keys others : List KitType) where
  abbrev leads_to : List KitType → TypeHandle → Option KitType
  leads_to ks h = slice_get ks h.number

  abbrev Both : List TypeHandle → List TypeHandle → Type 0
  Both = AreSameTypes (leads_to keys) (leads_to others)

  widths_same : (i j : IntegerType) (ts : Pieces) → ShowsAll says keys (one (alone (said_leaf (width i.signedness i.width)))) ts
      → ShowsAll says others (one (alone (said_leaf (width j.signedness j.width)))) ts → i ≡ j
  widths_same i j ts h k =
      let a = one_seen says keys (alone (said_leaf (width i.signedness i.width))) ts h in
      let b = one_seen says others (alone (said_leaf (width j.signedness j.width))) ts k in
      let same = width_one i.signedness j.signedness i.width j.width a.2.0 b.2.0 a.0 b.0 a.2.1 b.2.1 (sym a.1 ∙ b.1) in
      integer_one i j same.0 same.1

  list_inside : (xs us : Trees (Said KitAttr)) → ◌≡◌ {A = LabelledTree (Said KitAttr)} (node said_list xs) (node said_list us)
      → us ≡ xs
  list_inside xs us e = cc

  item_inside : (xs us : Trees (Said KitAttr)) → ◌≡◌ {A = LabelledTree (Said KitAttr)} (node said_item xs) (node said_item us)
      → us ≡ xs
  item_inside xs us e = cc

  mutual
    -- a type that is shown by a tree in both contexts is the same
    pub type_same : (t : ValueTree) (a c : TypeHandle) → ShowsType says keys a t → ShowsType says others c t
        → Both (a ∷ []) (c ∷ [])
    type_same (node (value_of_kind sorts.«Type» n) ts) a c (x, key, us, e, at, says_it, all) (y, other, vs, f, there, says_too, too) =
        key_same ts n a c key other us vs (ap (leads_to keys) (said_one a x e) ∙ at)
        (ap (leads_to others) (said_one c y f) ∙ there) says_it says_too all too
    type_same (node (value_of_kind sorts.Attribute n) ts) a c h k = let e = h.2 in absurd cc
    type_same (node list ts) a c h k = let e = h.1 in absurd cc
    type_same (node item ts) a c h k = let e = h.1 in absurd cc
    type_same (node (chosen n) ts) a c h k = let e = h.1 in absurd cc
    type_same (node (operands n) ts) a c h k = absurd cc
    type_same (node (successor n) ts) a c h k = absurd cc
    type_same (node region ts) a c h k = absurd cc
    type_same (node (leaf x) ts) a c h k = absurd cc

    key_same : (ts : Pieces) (n : ℕ) (a c : TypeHandle) (key other : KitType) (us vs : Trees (Said KitAttr))
        → leads_to keys a ≡ Some key → leads_to others c ≡ Some other → said_of_type key ≡ Some (n, us)
        → said_of_type other ≡ Some (n, vs) → ShowsAll says keys us ts → ShowsAll says others vs ts
        → Both (a ∷ []) (c ∷ [])
    key_same ts n a c (types.Integer i) (types.Integer j) us vs at there e f h k =
        let p = integer_said i n us e in
        let q = integer_said j n vs f in
        let same = widths_same i j ts (subst (λ (z : Trees (Said KitAttr)). ShowsAll says keys z ts) (sym p.1) h)
        (subst (λ (z : Trees (Said KitAttr)). ShowsAll says others z ts) (sym q.1) k) in
        integers a c [] [] i at (there ∙ ap (λ t. Some (types.Integer t)) (sym same)) none
    key_same ts n a c (types.Integer i) (types.Function g) us vs at there e f h k =
        absurd (clash n (integer_said i n us e).0 (function_said g n vs f).0)
    key_same ts n a c (types.Integer i) types.Unit us vs at there e f h k =
        absurd (clash_two n (integer_said i n us e).0 (unit_said n vs f))
    key_same ts n a c (types.Function f) (types.Integer j) us vs at there e d h k =
        absurd (clash n (integer_said j n vs d).0 (function_said f n us e).0)
    key_same ts n a c (types.Function f) types.Unit us vs at there e d h k =
        absurd (clash_three n (function_said f n us e).0 (unit_said n vs d))
    key_same ts n a c types.Unit (types.Integer j) us vs at there e d h k =
        absurd (clash_two n (integer_said j n vs d).0 (unit_said n us e))
    key_same ts n a c types.Unit (types.Function g) us vs at there e d h k =
        absurd (clash_three n (function_said g n vs d).0 (unit_said n us e))
    key_same ts n a c types.Unit types.Unit us vs at there e d h k = units a c [] [] at there none
    key_same no_tree n a c (types.Function f) (types.Function g) us vs at there e d h k =
        absurd (subst (λ (z : Trees (Said KitAttr)). ShowsAll says keys z no_tree) (sym (function_said f n us e).1) h)
    key_same (a_tree t no_tree) n a c (types.Function f) (types.Function g) us vs at there e d h k =
        absurd (subst (λ (z : Trees (Said KitAttr)). ShowsAll says keys z (a_tree t no_tree))
        (sym (function_said f n us e).1) h).1
    key_same (a_tree t (a_tree u ts)) n a c (types.Function f) (types.Function g) us vs at there e d h k =
        let shown = subst (λ (z : Trees (Said KitAttr)). ShowsAll says keys z (a_tree t (a_tree u ts)))
        (sym (function_said f n us e).1) h in
        let too = subst (λ (z : Trees (Said KitAttr)). ShowsAll says others z (a_tree t (a_tree u ts)))
        (sym (function_said g n vs d).1) k in
        functions a c [] [] f g at there (list_same t f.inputs.items g.inputs.items shown.0 too.0)
        (list_same u f.results.items g.results.items shown.1.0 too.1.0) none

    list_same : (t : ValueTree) (xs ys : List TypeHandle) → Shows says keys (node said_list (types_said xs)) t
        → Shows says others (node said_list (types_said ys)) t → Both xs ys
    list_same (node list ts) xs ys (us, e, h) (vs, f, k) =
        types_same ts xs ys (subst (λ (z : Trees (Said KitAttr)). ShowsAll says keys z ts) (list_inside
        (types_said xs) us e) h)
        (subst (λ (z : Trees (Said KitAttr)). ShowsAll says others z ts) (list_inside (types_said ys) vs f) k)
    list_same (node (value_of_kind sorts.«Type» n) ts) xs ys h k = let e = h.3 in absurd cc
    list_same (node (value_of_kind sorts.Attribute n) ts) xs ys h k = let e = h.2 in absurd cc
    list_same (node item ts) xs ys h k = let e = h.1 in absurd cc
    list_same (node (chosen n) ts) xs ys h k = let e = h.1 in absurd cc
    list_same (node (operands n) ts) xs ys h k = absurd cc
    list_same (node (successor n) ts) xs ys h k = absurd cc
    list_same (node region ts) xs ys h k = absurd cc
    list_same (node (leaf x) ts) xs ys h k = absurd cc

    types_same : (ts : Pieces) (xs ys : List TypeHandle) → ShowsAll says keys (types_said xs) ts
        → ShowsAll says others (types_said ys) ts → Both xs ys
    types_same no_tree [] [] h k = none
    types_same no_tree [] (y ∷ ys) h k = absurd k
    types_same no_tree (x ∷ xs) ys h k = absurd h
    types_same (a_tree t ts) [] ys h k = absurd h
    types_same (a_tree t ts) (x ∷ xs) [] h k = absurd k
    types_same (a_tree t ts) (x ∷ xs) (y ∷ ys) h k =
        in_front (leads_to keys) (leads_to others) x y xs ys (item_same t x y h.0 k.0) (types_same ts xs ys h.1 k.1)

    item_same : (t : ValueTree) (a c : TypeHandle) → Shows says keys (node said_item (one (alone (said_type a)))) t
        → Shows says others (node said_item (one (alone (said_type c)))) t → Both (a ∷ []) (c ∷ [])
    item_same (node item ts) a c (us, e, h) (vs, f, k) =
        one_same ts a c (subst (λ (z : Trees (Said KitAttr)). ShowsAll says keys z ts)
        (item_inside (one (alone (said_type a))) us e) h)
        (subst (λ (z : Trees (Said KitAttr)). ShowsAll says others z ts) (item_inside (one (alone
        (said_type c))) vs f) k)
    item_same (node (value_of_kind sorts.«Type» n) ts) a c h k = let e = h.3 in absurd cc
    item_same (node (value_of_kind sorts.Attribute n) ts) a c h k = let e = h.2 in absurd cc
    item_same (node list ts) a c h k = let e = h.1 in absurd cc
    item_same (node (chosen n) ts) a c h k = let e = h.1 in absurd cc
    item_same (node (operands n) ts) a c h k = absurd cc
    item_same (node (successor n) ts) a c h k = absurd cc
    item_same (node region ts) a c h k = absurd cc
    item_same (node (leaf x) ts) a c h k = absurd cc

    one_same : (ts : Pieces) (a c : TypeHandle) → ShowsAll says keys (one (alone (said_type a))) ts
        → ShowsAll says others (one (alone (said_type c))) ts → Both (a ∷ []) (c ∷ [])
    one_same no_tree a c h k = absurd h
    one_same (a_tree t ts) a c h k = type_same t a c h.0 k.0
