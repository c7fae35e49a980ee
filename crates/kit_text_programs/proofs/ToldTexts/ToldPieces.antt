-- The pieces of an operation that has nothing below its leaves, by its attributes and the types of its results.
use Rattle.std.proofs.Common.{◌≡◌, ℕ, Bool, true, false, ◌&&◌, List, [], ◌∷◌, length, Option, Some, None}
use Rattle.std.proofs.Common.{refl, sym, ap, ◌∙◌, subst, ◌^◌}
use Rattle.std.specs.Prelude.{Vec, ◌==◌, nat_lt}
use Rattle.std.specs.Global.{Global}
use Rattle.std.proofs.lemmas.Option.{none-some, same_Some, some_pair_parts}
use Rattle.ir_base.specs.declared.types.TypeHandle.{TypeHandle}
use Rattle.ir_forest.specs.Bare.{IsBare, AreBare}
use Rattle.ir_names.specs.declared.identifier.Identifier.{Identifier}
use Rattle.ir_names.specs.Dictionary.{attribute_at}
use Rattle.ir_names.specs.Identifier.{text_of}
use Rattle.ir_names.specs.Tree.{LabelledTree, Trees, node, no_tree, a_tree}
use Rattle.ir_print.specs.Pieces.{Piece, value_of_kind, operands, successor, region, leaf, name, number, width, ValueTree, Pieces}
use Rattle.ir_print.specs.Shown.{Said, said_type, said_attribute, said_operands, said_successor, said_region, said_leaf}
use Rattle.ir_print.specs.Shown.{alone, ShowsAll, ShowsType}
use Rattle.kit_ops.specs.declared.attributes.IntegerAttr.{IntegerAttr}
use Rattle.kit_ops.specs.declared.attributes.KitAttr.{KitAttr}
use Rattle.kit_ops.specs.declared.attributes.KitAttr.TheVariants as attrs
use Rattle.kit_ops.specs.declared.types.KitType.{KitType}
use Rattle.kit_ops.specs.Keys.{symbol_name, function_type, constant_value, callee, callee_type, segment_sizes}
use Rattle.kit.specs.Forms.{OpForm, NamedRegion, TypedRegion, Value, TwoOperands, OneOperand, AnyOperands, Empty}
use Rattle.kit.specs.Forms.{Called, Edge, ConditionEdges}
use Rattle.kit.specs.Numbers.{printed_number}
use Rattle.kit.specs.Readable.{constant_says, call_says, condition_says}
use Rattle.kit.specs.Says.{says, one, two, only, has_values, integer_said, said_of_attribute, said_of_module}
use Rattle.kit.specs.Says.{said_of_function, said_of_constant, pair_said, said_of_pair, said_of_call, said_of_condition}
use Rattle.kit.specs.Says.{said_in}
use Rattle.ir_print.specs.declared.format.ValueSort.TheVariants as sorts
use Rattle.kit.specs.Seen.{SeenPiece, none_seen, one_seen, two_seen, three_seen}

-- attributes under names
abbrev pub Entries : Type 0
Entries = List (List ℕ × KitAttr)

-- pieces that are said
abbrev SaidTrees : Type 0
SaidTrees = Trees (Said KitAttr)

-- what is there only if a test holds is there
only_some : {X : Type 0} (b : Bool) (o : Option X) (x : X) → only b o ≡ Some x → o ≡ Some x
only_some true o x e = e
only_some false o x e = absurd (none-some x e)

-- a piece with nothing below it
abbrev pub plain : Piece → ValueTree
plain l = node l no_tree

-- the piece of an integer
abbrev pub integer_piece : IntegerAttr → ValueTree
integer_piece a = node (value_of_kind sorts.Attribute 0) (two
    (plain (leaf (number (printed_number a).is_negative (printed_number a).magnitude)))
    (plain (leaf (width a.integer.signedness a.integer.width))))

-- a piece that has nothing below it where it is bare
is_plain : (l : Piece) → ((ts : Pieces) → IsBare (node l ts) → ts ≡ no_tree) → (p : ValueTree) (ts : Pieces)
    → p ≡ node l ts → IsBare p → p ≡ plain l
is_plain l none p ts e b = e ∙ ap (λ (us : Pieces). node l us) (none ts (subst IsBare e b))

-- pairs of the same trees are the same
both_trees : (p q r t : ValueTree) → p ≡ q → r ≡ t → ◌≡◌ {A = Pieces} (two p r) (two q t)
both_trees p q r t e f = λ i. two (e i) (f i)

-- what an operation of a form tells, with these attributes, so many operands and results of these types
abbrev pub IsTold : List KitType → OpForm → Entries → ℕ → List TypeHandle → Pieces → Type 0
IsTold keys NamedRegion es n tys ps = (id : Identifier) × (attribute_at es symbol_name ≡ Some (attrs.Identifier id))
    × (ps ≡ two (plain (leaf (name (text_of id)))) (plain region))
IsTold keys TypedRegion es n tys ps = (id : Identifier) × (ty : TypeHandle) × (r : ValueTree)
    × (attribute_at es symbol_name ≡ Some (attrs.Identifier id))
    × (attribute_at es function_type ≡ Some (attrs.«Type» ty)) × ShowsType says keys ty r
    × (ps ≡ a_tree (plain (leaf (name (text_of id)))) (two r (plain region)))
IsTold keys Value es n tys ps = (a : IntegerAttr) × (attribute_at es constant_value ≡ Some (attrs.Integer a))
    × (ps ≡ one (integer_piece a))
IsTold keys TwoOperands es n tys ps = (ty : TypeHandle) × (r : ValueTree) × (tys ≡ ty ∷ [])
    × ShowsType says keys ty r × (ps ≡ a_tree (plain (operands 1)) (two (plain (operands 1)) r))
IsTold keys OneOperand es n tys ps = ps ≡ one (plain (operands 1))
IsTold keys AnyOperands es n tys ps = ps ≡ one (plain (operands n))
IsTold keys Empty es n tys ps = ps ≡ no_tree
IsTold keys Called es n tys ps = (id : Identifier) × (ty : TypeHandle) × (r : ValueTree)
    × (attribute_at es callee ≡ Some (attrs.Identifier id)) × (attribute_at es callee_type ≡ Some (attrs.«Type» ty))
    × ShowsType says keys ty r × (ps ≡ a_tree (plain (leaf (name (text_of id)))) (two (plain (operands n)) r))
IsTold keys Edge es n tys ps = ps ≡ one (plain (successor n))
IsTold keys ConditionEdges es n tys ps = (sizes : Vec ℕ Global) × (a b : ℕ)
    × (attribute_at es segment_sizes ≡ Some (attrs.SegmentSizes sizes)) × (sizes.items ≡ 1 ∷ a ∷ b ∷ [])
    × (ps ≡ a_tree (plain (operands 1)) (two (plain (successor a)) (plain (successor b))))

module _ (keys : List KitType) where
  -- ---- pieces

  -- one attribute is said
  attr_same : (a b : KitAttr) → ◌≡◌ {A = LabelledTree (Said KitAttr)} (alone (said_attribute a)) (alone (said_attribute b))
      → a ≡ b
  attr_same a b e = cc

  -- the pieces of an integer
  integer_shown : (a : IntegerAttr) (ts : Pieces)
      → ShowsAll says keys (integer_said a.integer.signedness a.integer.width (printed_number a)) ts → AreBare ts
      → ts ≡ two (plain (leaf (number (printed_number a).is_negative (printed_number a).magnitude)))
      (plain (leaf (width a.integer.signedness a.integer.width)))
  integer_shown a ts h b =
      let k = two_seen says keys (alone (said_leaf (number (printed_number a).is_negative (printed_number a).magnitude)))
      (alone (said_leaf (width a.integer.signedness a.integer.width))) ts h in
      let bare = subst AreBare k.2 b in
      k.2 ∙ both_trees k.0 _ k.1 _
      (is_plain (leaf (number (printed_number a).is_negative (printed_number a).magnitude)) (λ us c. c) k.0 k.3.0 k.3.1
      bare.0)
      (is_plain (leaf (width a.integer.signedness a.integer.width)) (λ us c. c) k.1 k.4.0 k.4.1 bare.1.0)

  -- the piece that shows what an integer says
  attribute_shown : (a : IntegerAttr) (m : ℕ) (us : SaidTrees) (ts : Pieces)
      → said_of_attribute (attrs.Integer a) ≡ Some (m, us) → ShowsAll says keys us ts → AreBare ts
      → node (value_of_kind sorts.Attribute m) ts ≡ integer_piece a
  attribute_shown a m us ts e h b =
      let said : SaidTrees = integer_said a.integer.signedness a.integer.width (printed_number a) in
      let kept = only_some {X = ℕ × SaidTrees} (has_values a.integer.width && nat_lt a.bits (2 ^ a.integer.width))
      (Some (0, said)) (m, us) e in
      let parts = some_pair_parts 0 m said us kept in
      let is = integer_shown a ts (subst (λ (x : SaidTrees). ShowsAll says keys x ts) (sym parts.1) h) b in
      λ i. node (value_of_kind sorts.Attribute (sym parts.0 i)) (is i)

  -- the piece that shows an integer
  value_shown : (a : IntegerAttr) (p : ValueTree) → SeenPiece says keys (alone (said_attribute (attrs.Integer a))) p
      → IsBare p → p ≡ integer_piece a
  value_shown a p k b =
      let inside = k.3 in
      let same : attrs.Integer a ≡ inside.0 = attr_same (attrs.Integer a) inside.0 inside.2 in
      let said : said_of_attribute (attrs.Integer a) ≡ Some (k.0, inside.1) = ap said_of_attribute same ∙ inside.3 in
      k.2 ∙ attribute_shown a k.0 inside.1 k.1 said inside.4 (subst IsBare k.2 b)

  -- the type that is seen is shown
  type_shown : (ty : TypeHandle) (p : ValueTree) → SeenPiece says keys (alone (said_type ty)) p → ShowsType says keys ty p
  type_shown ty p k = subst (ShowsType says keys ty) (sym k.2) k.3

  -- ---- forms

  module _ (es : Entries) (n : ℕ) (tys : List TypeHandle) (ps : Pieces) (bare : AreBare ps) where
    -- what a module tells
    module_told : (o : Option KitAttr) (said : SaidTrees) → attribute_at es symbol_name ≡ o
        → said_of_module o ≡ Some said → ShowsAll says keys said ps → IsTold keys NamedRegion es n tys ps
    module_told (Some (attrs.Identifier id)) said at e h =
        let said_name_first : SaidTrees = two (alone (said_leaf (name (text_of id)))) (alone said_region) in
        let same = same_Some said_name_first said e in
        let k = two_seen says keys (alone (said_leaf (name (text_of id)))) (alone said_region) ps
        (subst (λ (x : SaidTrees). ShowsAll says keys x ps) (sym same) h) in
        let below = subst AreBare k.2 bare in (
          id,
          at,
          k.2 ∙ both_trees k.0 _ k.1 _
              (is_plain (leaf (name (text_of id))) (λ us c. c) k.0 k.3.0 k.3.1 below.0)
              (is_plain region (λ us c. c) k.1 k.4.0 k.4.1 below.1.0),
        )
    module_told None said at e h = absurd (none-some said e)
    module_told (Some (attrs.Integer a)) said at e h = absurd (none-some said e)
    module_told (Some (attrs.«Type» a)) said at e h = absurd (none-some said e)
    module_told (Some (attrs.SegmentSizes a)) said at e h = absurd (none-some said e)
    module_told (Some (attrs.GivenNames a)) said at e h = absurd (none-some said e)
    module_told (Some (attrs.Note a)) said at e h = absurd (none-some said e)
    module_told (Some (attrs.Origin a)) said at e h = absurd (none-some said e)

    -- what a function tells
    function_told : (o q : Option KitAttr) (said : SaidTrees) → attribute_at es symbol_name ≡ o
        → attribute_at es function_type ≡ q → said_of_function o q ≡ Some said → ShowsAll says keys said ps
        → IsTold keys TypedRegion es n tys ps
    function_told (Some (attrs.Identifier id)) (Some (attrs.«Type» ty)) said at there e h =
        let all : SaidTrees = a_tree (alone (said_leaf (name (text_of id)))) (two (alone (said_type ty)) (alone said_region)) in
        let same = same_Some all said e in
        let k = three_seen says keys (alone (said_leaf (name (text_of id)))) (alone (said_type ty)) (alone said_region) ps
        (subst (λ (x : SaidTrees). ShowsAll says keys x ps) (sym same) h) in
        let below = subst AreBare k.3 bare in
        let first = is_plain (leaf (name (text_of id))) (λ us c. c) k.0 k.4.0 k.4.1 below.0 in
        let last = is_plain region (λ us c. c) k.2 k.6.0 k.6.1 below.1.1.0 in
        (id, ty, k.1, at, there, type_shown ty k.1 k.5, k.3 ∙ (λ i. a_tree (first i) (two k.1 (last i))))
    function_told None q said at there e h = absurd (none-some said e)
    function_told (Some (attrs.Integer a)) q said at there e h = absurd (none-some said e)
    function_told (Some (attrs.«Type» a)) q said at there e h = absurd (none-some said e)
    function_told (Some (attrs.SegmentSizes a)) q said at there e h = absurd (none-some said e)
    function_told (Some (attrs.GivenNames a)) q said at there e h = absurd (none-some said e)
    function_told (Some (attrs.Note a)) q said at there e h = absurd (none-some said e)
    function_told (Some (attrs.Origin a)) q said at there e h = absurd (none-some said e)
    function_told (Some (attrs.Identifier id)) None said at there e h = absurd (none-some said e)
    function_told (Some (attrs.Identifier id)) (Some (attrs.Identifier a)) said at there e h =
        absurd (none-some said e)
    function_told (Some (attrs.Identifier id)) (Some (attrs.Integer a)) said at there e h = absurd (none-some said e)
    function_told (Some (attrs.Identifier id)) (Some (attrs.SegmentSizes a)) said at there e h =
        absurd (none-some said e)
    function_told (Some (attrs.Identifier id)) (Some (attrs.GivenNames a)) said at there e h =
        absurd (none-some said e)
    function_told (Some (attrs.Identifier id)) (Some (attrs.Note a)) said at there e h = absurd (none-some said e)
    function_told (Some (attrs.Identifier id)) (Some (attrs.Origin a)) said at there e h = absurd (none-some said e)

    -- what a constant tells
    constant_told : (o : Option KitAttr) (said : SaidTrees) → attribute_at es constant_value ≡ o
        → said_of_constant o tys ≡ Some said → ShowsAll says keys said ps → IsTold keys Value es n tys ps
    constant_told o said at e h =
        let is = constant_says o tys said e in
        let k = one_seen says keys (alone (said_attribute (attrs.Integer is.value))) ps
        (subst (λ (x : SaidTrees). ShowsAll says keys x ps) (sym is.says_it) h) in
        let below = subst AreBare k.1 bare in
        (is.value, at ∙ is.has, k.1 ∙ ap (λ (p : ValueTree). one p) (value_shown is.value k.0 k.2 below.0))

    -- what an operation with two operands tells
    pair_told : (us : List TypeHandle) (said : SaidTrees) → tys ≡ us → said_of_pair us ≡ Some said
        → ShowsAll says keys said ps → IsTold keys TwoOperands es n tys ps
    pair_told (ty ∷ []) said of e h =
        let same = same_Some (pair_said ty) said e in
        let k = three_seen says keys (alone (said_operands 1)) (alone (said_operands 1)) (alone (said_type ty)) ps
        (subst (λ (x : SaidTrees). ShowsAll says keys x ps) (sym same) h) in
        let below = subst AreBare k.3 bare in
        let first = is_plain (operands 1) (λ us c. c) k.0 k.4.0 k.4.1 below.0 in
        let second = is_plain (operands 1) (λ us c. c) k.1 k.5.0 k.5.1 below.1.0 in
        (ty, k.2, of, type_shown ty k.2 k.6, k.3 ∙ (λ i. a_tree (first i) (two (second i) k.2)))
    pair_told [] said of e h = absurd (none-some said e)
    pair_told (ty ∷ u ∷ us) said of e h = absurd (none-some said e)

    -- what an operation tells that says operands alone
    operands_told : (m : ℕ) (said : SaidTrees)
        → ◌≡◌ {A = Option SaidTrees} (Some (one (alone (said_operands m)))) (Some said) → ShowsAll says keys said ps → ps ≡ one (plain (operands m))
    operands_told m said e h =
        let all : SaidTrees = one (alone (said_operands m)) in
        let same = same_Some all said e in
        let k = one_seen says keys (alone (said_operands m)) ps
        (subst (λ (x : SaidTrees). ShowsAll says keys x ps) (sym same) h) in
        let below = subst AreBare k.1 bare in
        k.1 ∙ ap (λ (p : ValueTree). one p) (is_plain (operands m) (λ us c. c) k.0 k.2.0 k.2.1 below.0)

    -- what an operation tells that says nothing
    empty_told : (said : SaidTrees) → ◌≡◌ {A = Option SaidTrees} (Some no_tree) (Some said) → ShowsAll says keys said ps
        → ps ≡ no_tree
    empty_told said e h =
        let none : SaidTrees = no_tree in
        none_seen says keys ps (subst (λ (x : SaidTrees). ShowsAll says keys x ps) (sym (same_Some none said e)) h)

    -- what a call tells
    call_told : (said : SaidTrees) → said_of_call (attribute_at es callee) (attribute_at es callee_type) n ≡ Some said
        → ShowsAll says keys said ps → IsTold keys Called es n tys ps
    call_told said e h =
        let is = call_says (attribute_at es callee) (attribute_at es callee_type) n said e in
        let k = three_seen says keys (alone (said_leaf (name (text_of is.name)))) (alone (said_operands n))
        (alone (said_type is.type)) ps (subst (λ (x : SaidTrees). ShowsAll says keys x ps) (sym is.says_it) h) in
        let below = subst AreBare k.3 bare in
        let first = is_plain (leaf (name (text_of is.name))) (λ us c. c) k.0 k.4.0 k.4.1 below.0 in
        let second = is_plain (operands n) (λ us c. c) k.1 k.5.0 k.5.1 below.1.0 in (
          is.name,
          is.type,
          k.2,
          is.has_name,
          is.has_type,
          type_shown is.type k.2 k.6,
          k.3 ∙ (λ i. a_tree (first i) (two (second i) k.2)),
        )

    -- what an operation tells that says one edge
    edge_told : (said : SaidTrees) → ◌≡◌ {A = Option SaidTrees} (Some (one (alone (said_successor n)))) (Some said)
        → ShowsAll says keys said ps → ps ≡ one (plain (successor n))
    edge_told said e h =
        let all : SaidTrees = one (alone (said_successor n)) in
        let same = same_Some all said e in
        let k = one_seen says keys (alone (said_successor n)) ps
        (subst (λ (x : SaidTrees). ShowsAll says keys x ps) (sym same) h) in
        let below = subst AreBare k.1 bare in
        k.1 ∙ ap (λ (p : ValueTree). one p) (is_plain (successor n) (λ us c. c) k.0 k.2.0 k.2.1 below.0)

    -- what a conditional branch tells
    condition_told : (said : SaidTrees) → said_of_condition (attribute_at es segment_sizes) n ≡ Some said
        → ShowsAll says keys said ps → IsTold keys ConditionEdges es n tys ps
    condition_told said e h =
        let condition = condition_says (attribute_at es segment_sizes) n said e in
        let is = condition.say in
        let k = three_seen says keys (alone (said_operands 1)) (alone (said_successor is.first)) (alone (said_successor is.second)) ps
        (subst (λ (x : SaidTrees). ShowsAll says keys x ps) (sym is.says_it) h) in
        let below = subst AreBare k.3 bare in
        let chosen = is_plain (operands 1) (λ us c. c) k.0 k.4.0 k.4.1 below.0 in
        let first = is_plain (successor is.first) (λ us c. c) k.1 k.5.0 k.5.1 below.1.0 in
        let second = is_plain (successor is.second) (λ us c. c) k.2 k.6.0 k.6.1 below.1.1.0 in (
          condition.sizes,
          is.first,
          is.second,
          condition.has_sizes,
          is.are,
          k.3 ∙ (λ i. a_tree (chosen i) (two (first i) (second i))),
        )

    -- what is said in a form and shown is told
    pub told : (form : OpForm) (said : SaidTrees) → said_in form es n tys ≡ Some said → ShowsAll says keys said ps
        → IsTold keys form es n tys ps
    told NamedRegion said e h =
        module_told (attribute_at es symbol_name) said refl
        (only_some (length es == 1 && n == 0) (said_of_module (attribute_at es symbol_name)) said e) h
    told TypedRegion said e h =
        function_told (attribute_at es symbol_name) (attribute_at es function_type) said refl refl
        (only_some (length es == 2 && n == 0)
        (said_of_function (attribute_at es symbol_name) (attribute_at es function_type)) said e) h
    told Value said e h =
        constant_told (attribute_at es constant_value) said refl
        (only_some (length es == 1 && n == 0) (said_of_constant (attribute_at es constant_value) tys) said e) h
    told TwoOperands said e h =
        pair_told tys said refl (only_some (length es == 0 && n == 2) (said_of_pair tys) said e) h
    told OneOperand said e h =
        operands_told 1 said (only_some (length es == 0 && n == 1) (Some (one (alone (said_operands 1)))) said e) h
    told AnyOperands said e h =
        operands_told n said (only_some (length es == 0) (Some (one (alone (said_operands n)))) said e) h
    told Empty said e h = empty_told said (only_some (length es == 0 && n == 0) (Some no_tree) said e) h
    told Called said e h =
        call_told said (only_some (length es == 2)
        (said_of_call (attribute_at es callee) (attribute_at es callee_type) n) said e) h
    told Edge said e h = edge_told said (only_some (length es == 0) (Some (one (alone (said_successor n)))) said e) h
    told ConditionEdges said e h =
        condition_told said (only_some (length es == 1) (said_of_condition (attribute_at es segment_sizes) n) said e) h
