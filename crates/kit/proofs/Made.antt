-- What is made of parts, and what is refused.
use Rattle.std.proofs.Common.{◌≡◌, ℕ, ◌<◌, ◌≤◌, ◌^◌, ◌+◌, Bool, true, false, ◌&&◌, ◌⊎◌, inl, inr, List, [], ◌∷◌, ◌++◌, drop, Option, Some, None, Result, Ok, Err, IsErrAnd, Vec, length, get_or, option_map, option_and_then, nat_lt, refl, sym, ap, ◌∙◌, subst, arith}
use Rattle.std.proofs.lemmas.Bool.Decides.{nat_tests}
use Rattle.std.proofs.lemmas.List.{append_assoc, append-nil, drop_more, drop_all}
use Rattle.std.specs.Global.{Global}
use Rattle.ir_base.specs.declared.types.TypeHandle.{TypeHandle}
use Rattle.ir_names.specs.Tree.{node, no_tree, a_tree}
use Rattle.text_dialect.specs.declared.dialect.MakeFault.{MakeFault}
use Rattle.text_dialect.specs.declared.dialect.MakeFault.TheVariants.{Refused, Memory}
use Rattle.ir_print.specs.declared.format.Part.{Part}
use Rattle.ir_print.specs.Pieces.{list, item, width, ValueTree, Pieces}
use Rattle.ir_print.specs.Shown.{said_leaf, said_type, said_list, alone, ShowsAll, ShowsPart, ShowsParts, ShowsMembers, ShowsKey}
use Rattle.kit_ops.specs.declared.kinds.KitOp.{KitOp}
use Rattle.kit_ops.specs.declared.types.IntegerType.{IntegerType}
use Rattle.kit_ops.specs.declared.types.KitType.{KitType}
use Rattle.kit_ops.specs.declared.types.KitType.TheVariants as keys
use Rattle.kit_ops.specs.declared.attributes.KitAttr.{KitAttr}
use Rattle.kit.specs.Parts.{list_part}
use Rattle.kit.specs.Says.{says, one, two, only as said_if, types_said, is_type, is_small_width, is_type_list, are_types, is_one, are_two, refused_unless, refused_type}
use Rattle.kit.specs.Making.{one_type, each_type, one_integer_type, MakesTypeOfKind, RefusesTypeOfKind}
use Rattle.kit.proofs.Shapes.{width_shown, not_width, type_shown, not_type, list_shown, one_shown, two_shown, not_one, not_two, a_list}

abbrev Equal : (X : Type 0) → X → X → Type 0
Equal X x y = x ≡ y

-- a refusal names one part
pub refused_at : {X : Type 0} (P : ℕ → Type 0) (j : ℕ) → P j → (i : ℕ) → Equal (Result X MakeFault) (Err (Refused j)) (Err (Refused i)) → P i
refused_at P j h i e = let same : j ≡ i = cc in subst P same h

-- a fault of memory refuses no part
pub memory_refuses_none : {X : Type 0} (r : Result X MakeFault) {P : Type 0} → IsErrAnd r (λ e. e ≡ Memory) → (i : ℕ) → r ≡ Err (Refused i) → P
memory_refuses_none (Ok x) h i e = cc
memory_refuses_none (Err x) h i e = cc

pub none_is_no : {X Y : Type 0} {x : X} → None ≡ Some x → Y
none_is_no e = cc

pub no_value : {X Y : Type 0} (o : Option X) {x : X} → None ≡ o → o ≡ Some x → Y
no_value o e f = none_is_no (e ∙ f)

-- a value of two options
pub both : {A B C : Type 0} (o : Option A) (p : Option B) (f : A → B → C) (z : C) → option_and_then (λ x. option_map (λ y. f x y) p) o ≡ Some z → (x : A) × (y : B) × (o ≡ Some x) × (p ≡ Some y) × (f x y ≡ z)
both (Some x) (Some y) f z e = (x, y, refl, refl, cc)
both (Some x) None f z e = cc
both None p f z e = cc

-- no value of two options
not_both : {A B C : Type 0} (o : Option A) (p : Option B) (f : A → B → C) → option_and_then (λ x. option_map (λ y. f x y) p) o ≡ None → (o ≡ None) ⊎ (p ≡ None)
not_both (Some x) (Some y) f e = cc
not_both (Some x) None f e = inr refl
not_both None p f e = inl refl

-- the two elements of a list of two
pub two_items : {X : Type 0} (xs : List X) (x y : X) → 2 ≤ length xs → length xs < 3 → x ≡ get_or xs 0 x → y ≡ get_or xs 1 y → xs ≡ x ∷ y ∷ []
two_items [] x y least most e f = absurd (omega arith)
two_items (a ∷ []) x y least most e f = absurd (omega arith)
two_items (a ∷ b ∷ []) x y least most e f = cc
two_items (a ∷ b ∷ c ∷ rest) x y least most e f = absurd (omega arith)

none_before : {X : Type 0} (o : Option (List X)) → o ≡ option_map (λ rest. [] ++ rest) o
none_before (Some xs) = refl
none_before None = refl

one_before : {X : Type 0} (o : Option X) (x : X) (rest : Option (List X)) (xs ys : List X) → o ≡ Some x → ys ≡ xs ++ (x ∷ []) → option_map (λ r. xs ++ r) (option_and_then (λ y. option_map (λ r. y ∷ r) rest) o) ≡ option_map (λ r. ys ++ r) rest
one_before None x rest xs ys e f = cc
one_before (Some y) x None xs ys e f = refl
one_before (Some y) x (Some r) xs ys e f = let same : y ≡ x = cc in ap Some (ap (λ z. xs ++ (z ∷ r)) same ∙ (sym (append_assoc xs (x ∷ []) r) ∙ ap (λ zs. zs ++ r) (sym f)))

pub and_false : (a b : Bool) → (a ≡ false) ⊎ (b ≡ false) → (a && b) ≡ false
and_false true b (inl h) = cc
and_false true b (inr h) = h
and_false false b h = refl

module _ {D : Type 0} where
  pub integer_type_made : (parts : List (Part D KitOp KitAttr KitType)) (i : IntegerType) → one_integer_type parts ≡ Some i → i.width < 2 ^ 32 → MakesTypeOfKind 0 parts (keys.Integer i)
  integer_type_made [] i e small = cc
  integer_type_made (p ∷ q ∷ rs) i e small = cc
  integer_type_made (p ∷ []) i e small = λ types ps h.
      let only = one_shown says types p ps h in
      let wide = width_shown says types p i only.0 e only.2 in
      let test : nat_lt i.width (2 ^ 32) ≡ true = grind (arith, nat_tests) in
      subst (λ (qs : Pieces). (refused_type 0 qs ≡ None) × ShowsKey says types (keys.Integer i) 0 qs) (sym (only.1 ∙ ap (λ t. a_tree t no_tree) wide.1))
      (ap (λ (b : Bool). refused_unless b 0) test, (one (alone (said_leaf (width i.signedness i.width))), ap (λ (b : Bool). said_if b (Some (0, one (alone (said_leaf (width i.signedness i.width)))))) test, (refl, tt)))

  pub integer_type_refused : (parts : List (Part D KitOp KitAttr KitType)) → one_integer_type parts ≡ None → RefusesTypeOfKind 0 parts 0
  integer_type_refused parts e = λ types ps h. ap (λ (b : Bool). refused_unless b 0) (not_one says types is_small_width parts ps h (λ p t f s. not_width says types p t (sym (ap one_integer_type f) ∙ e) s))

  -- a member that is one type
  one_type_shown : (types : List KitType) (parts : List (Part D KitOp KitAttr KitType)) (ty : TypeHandle) (ts : Pieces) → one_type parts ≡ Some ty → ShowsParts says types parts ts → (is_one is_type ts ≡ true) × ShowsAll says types (one (alone (said_type ty))) ts
  one_type_shown types [] ty ts e h = cc
  one_type_shown types (p ∷ q ∷ rs) ty ts e h = cc
  one_type_shown types (p ∷ []) ty ts e h =
      let only = one_shown says types p ts h in
      let shown = type_shown says types p ty only.0 e only.2 in
      subst (λ (us : Pieces). (is_one is_type us ≡ true) × ShowsAll says types (one (alone (said_type ty))) us) (sym (only.1 ∙ ap (λ t. a_tree t no_tree) shown.2)) (refl, (shown.3, tt))

  -- the types of the members, of those so far and of what is left
  pub types_first : (ms : List (Vec (Part D KitOp KitAttr KitType) Global)) (xs : List TypeHandle) → xs ≡ [] → each_type ms ≡ option_map (λ rest. xs ++ rest) (each_type ms)
  types_first ms xs e = subst (λ ys. each_type ms ≡ option_map (λ rest. ys ++ rest) (each_type ms)) (sym e) (none_before (each_type ms))

  here : (ms : List (Vec (Part D KitOp KitAttr KitType) Global)) (k : ℕ) (m : Vec (Part D KitOp KitAttr KitType) Global) → k < length ms → m ≡ get_or ms k m → drop k ms ≡ m ∷ drop (k + 1) ms
  here ms k m small is = drop_more ms k m small ∙ ap (λ z. z ∷ drop (k + 1) ms) (sym is)

  pub types_next : (ms : List (Vec (Part D KitOp KitAttr KitType) Global)) (k : ℕ) (m : Vec (Part D KitOp KitAttr KitType) Global) (ty : TypeHandle) (xs ys : List TypeHandle) → k < length ms → m ≡ get_or ms k m → one_type m.items ≡ Some ty → ys ≡ xs ++ (ty ∷ []) → each_type ms ≡ option_map (λ rest. xs ++ rest) (each_type (drop k ms)) →
      each_type ms ≡ option_map (λ rest. ys ++ rest) (each_type (drop (k + 1) ms))
  types_next ms k m ty xs ys small is e f h = h ∙ (ap (λ l. option_map (λ rest. xs ++ rest) (each_type l)) (here ms k m small is) ∙ one_before (one_type m.items) ty (each_type (drop (k + 1) ms)) xs ys e f)

  pub types_none : (ms : List (Vec (Part D KitOp KitAttr KitType) Global)) (k : ℕ) (m : Vec (Part D KitOp KitAttr KitType) Global) (xs : List TypeHandle) → k < length ms → m ≡ get_or ms k m → one_type m.items ≡ None → each_type ms ≡ option_map (λ rest. xs ++ rest) (each_type (drop k ms)) → each_type ms ≡ None
  types_none ms k m xs small is e h = h ∙ (ap (λ l. option_map (λ rest. xs ++ rest) (each_type l)) (here ms k m small is) ∙ ap (λ o. option_map (λ rest. xs ++ rest) (option_and_then (λ ty. option_map (λ tys. ty ∷ tys) (each_type (drop (k + 1) ms))) o)) e)

  pub types_all : (ms : List (Vec (Part D KitOp KitAttr KitType) Global)) (k : ℕ) (xs : List TypeHandle) → length ms ≤ k → each_type ms ≡ option_map (λ rest. xs ++ rest) (each_type (drop k ms)) → each_type ms ≡ Some xs
  types_all ms k xs past h = h ∙ (ap (λ l. option_map (λ rest. xs ++ rest) (each_type l)) (drop_all k ms past) ∙ ap Some (append-nil xs))

  not_one_type : (types : List KitType) (parts : List (Part D KitOp KitAttr KitType)) (ts : Pieces) → one_type parts ≡ None → ShowsParts says types parts ts → is_one is_type ts ≡ false
  not_one_type types parts ts e h = not_one says types is_type parts ts h (λ p t f s. not_type says types p t (sym (ap one_type f) ∙ e) s)

  -- the types of a list
  types_shown : (types : List KitType) (ms : List (Vec (Part D KitOp KitAttr KitType) Global)) (tys : List TypeHandle) (ts : Pieces) → each_type ms ≡ Some tys → ShowsMembers says types ms ts → (are_types ts ≡ true) × ShowsAll says types (types_said tys) ts
  types_shown types [] tys no_tree e h = let same : [] ≡ tys = cc in subst (λ (us : List TypeHandle). (true ≡ true) × ShowsAll says types (types_said us) no_tree) same (refl, tt)
  types_shown types [] tys (a_tree t ts) e h = absurd h
  types_shown types (m ∷ ms) tys no_tree e h = absurd h
  types_shown types (m ∷ ms) tys (a_tree (node item us) ts) e h =
      let parts = both (one_type m.items) (each_type ms) (λ ty rest. ty ∷ rest) tys e in
      let first = one_type_shown types m.items parts.0 us parts.2 h.0 in
      let rest = types_shown types ms parts.1 ts parts.3 h.1 in
      subst (λ (us' : List TypeHandle). ((is_one is_type us && are_types ts) ≡ true) × ShowsAll says types (types_said us') (a_tree (node item us) ts)) parts.4
      (ap (λ (b : Bool). b && are_types ts) first.0 ∙ rest.0, ((one (alone (said_type parts.0)), refl, first.1), rest.1))
  types_shown types (m ∷ ms) tys (a_tree (node _ us) ts) e h = absurd h.0

  not_types : (types : List KitType) (ms : List (Vec (Part D KitOp KitAttr KitType) Global)) (ts : Pieces) → each_type ms ≡ None → ShowsMembers says types ms ts → are_types ts ≡ false
  not_types types [] ts e h = cc
  not_types types (m ∷ ms) no_tree e h = absurd h
  not_types types (m ∷ ms) (a_tree (node item us) ts) e h =
      and_false (is_one is_type us) (are_types ts) (elim (not_both (one_type m.items) (each_type ms) (λ ty rest. ty ∷ rest) e) [ inl f ↦ inl (not_one_type types m.items us f h.0) | inr f ↦ inr (not_types types ms ts f h.1) ])
  not_types types (m ∷ ms) (a_tree (node _ us) ts) e h = absurd h.0

  pub function_type_made : (p q : Part D KitOp KitAttr KitType) (ms ns : Vec (Vec (Part D KitOp KitAttr KitType) Global) Global) (ins outs : Vec TypeHandle Global) → list_part p ≡ Some ms → list_part q ≡ Some ns → each_type ms.items ≡ Some ins.items → each_type ns.items ≡ Some outs.items → MakesTypeOfKind 1 (p ∷ q ∷ []) (keys.Function (record { inputs = ins; results = outs }))
  function_type_made p q ms ns ins outs e f g k = λ types ps h.
      let pieces = two_shown says types p q ps h in
      let first = list_shown says types p ms pieces.0 e pieces.3 in
      let second = list_shown says types q ns pieces.1 f pieces.4 in
      let inputs = types_shown types ms.items ins.items first.0 g first.2 in
      let results = types_shown types ns.items outs.items second.0 k second.2 in
      subst (λ (qs : Pieces). (refused_type 1 qs ≡ None) × ShowsKey says types (keys.Function (record { inputs = ins; results = outs })) 1 qs)
      (sym (pieces.2 ∙ (ap (λ t. a_tree t (a_tree pieces.1 no_tree)) first.1 ∙ ap (λ t. a_tree (node list first.0) (a_tree t no_tree)) second.1))) (
        ap (λ (b : Bool). refused_unless (b && are_types second.0) 0) inputs.0 ∙ ap (λ (b : Bool). refused_unless b 0) results.0,
        (two (node said_list (types_said ins.items)) (node said_list (types_said outs.items)), refl, ((types_said ins.items, refl, inputs.1), ((types_said outs.items, refl, results.1), tt))),
      )

  not_type_list : (types : List KitType) (p : Part D KitOp KitAttr KitType) (t : ValueTree) → ((ms : Vec (Vec (Part D KitOp KitAttr KitType) Global) Global) → list_part p ≡ Some ms → each_type ms.items ≡ None) → ShowsPart says types p t → is_type_list t ≡ false
  not_type_list types p (node list ts) k h = not_types types h.0.items ts (k h.0 (ap list_part h.1 ∙ a_list h.0)) h.2
  not_type_list types p (node _ ts) k h = refl

  -- parts are refused that are not two lists of types
  pub function_type_refused : (p q : Part D KitOp KitAttr KitType) →
      ((ms : Vec (Vec (Part D KitOp KitAttr KitType) Global) Global) → list_part p ≡ Some ms → each_type ms.items ≡ None) ⊎ ((ms : Vec (Vec (Part D KitOp KitAttr KitType) Global) Global) → list_part q ≡ Some ms → each_type ms.items ≡ None) → RefusesTypeOfKind 1 (p ∷ q ∷ []) 0
  function_type_refused p q k types ps h = let pieces = two_shown says types p q ps h in
      ap (λ (b : Bool). refused_unless b 0) (ap (λ (vs : Pieces). are_two is_type_list is_type_list vs) pieces.2 ∙
      and_false (is_type_list pieces.0) (is_type_list pieces.1) (elim k [ inl g ↦ inl (not_type_list types p pieces.0 g pieces.3) | inr g ↦ inr (not_type_list types q pieces.1 g pieces.4) ]))

  pub two_refused : (parts : List (Part D KitOp KitAttr KitType)) → (length parts ≡ 2 → ⊥) → RefusesTypeOfKind 1 parts 0
  two_refused parts n types ps h = ap (λ (b : Bool). refused_unless b 0) (not_two says types is_type_list is_type_list parts ps h (λ p q t u f s v. absurd (n (ap length f))))

  pub unit_type_made : (parts : List (Part D KitOp KitAttr KitType)) → length parts ≡ 0 → MakesTypeOfKind 2 parts keys.Unit
  unit_type_made [] e types no_tree h = (refl, (no_tree, refl, tt))
  unit_type_made [] e types (a_tree t ts) h = absurd h
  unit_type_made (p ∷ rs) e types ps h = cc
