-- What an operation says of itself is what its flat operation is.
use Rattle.std.proofs.Common.{◌≡◌, ℕ, ◌-◌, ◌%◌, ◌^◌, ◌<◌, Bool, true, false, cond, ◌&&◌, List, length, Option, Some}
use Rattle.std.proofs.Common.{None, slice_get, option_map, nat_lt, refl, sym, ap, ◌∙◌, subst, arith}
use Rattle.std.specs.Prelude.{nat_eq, ◌==◌}
use Rattle.std.proofs.Math.Nat.{mod-eq_of_lt}
use Rattle.std.proofs.lemmas.Bool.{false≢true}
use Rattle.std.proofs.lemmas.Bool.Decides.{nat_tests}
use Rattle.std.proofs.lemmas.Option.{none-some, same_Some, some_pair_parts}
use Rattle.ir_base.specs.declared.types.TypeHandle.{TypeHandle}
use Rattle.ir_names.specs.declared.kinds.Signedness.{Signedness}
use Rattle.ir_names.specs.declared.identifier.Identifier.{Identifier}
use Rattle.ir_names.specs.Dictionary.{attribute_at}
use Rattle.ir_names.specs.Identifier.{text_of}
use Rattle.ir_names.specs.Tree.{LabelledTree, Trees, node, no_tree, a_tree}
use Rattle.ir_print.specs.Pieces.{value_of_kind, leaf, name, number, width, ValueTree, Pieces}
use Rattle.ir_print.specs.Shown.{Said, said_type, said_attribute, said_list, said_leaf}
use Rattle.ir_print.specs.Shown.{said_region, said_operands, alone, ShowsAll, ShowsType}
use Rattle.kit_ops.specs.declared.attributes.IntegerAttr.{IntegerAttr}
use Rattle.kit_ops.specs.declared.attributes.KitAttr.{KitAttr}
use Rattle.kit_ops.specs.declared.attributes.KitAttr.TheVariants as attrs
use Rattle.kit_ops.specs.declared.kinds.KitOp.{KitOp}
use Rattle.kit_ops.specs.declared.kinds.KitOp.TheVariants as ops
use Rattle.kit_ops.specs.declared.types.KitType.{KitType}
use Rattle.kit_ops.specs.declared.types.KitType.TheVariants as types
use Rattle.kit_ops.specs.Keys.{symbol_name, function_type, constant_value, callee, callee_type}
use Rattle.kit.specs.Meaning.{is_function, is_module}
use Rattle.kit.specs.Forms.{OpForm, NamedRegion, TypedRegion, Value, Called, form_of, number_of}
use Rattle.kit.specs.Numbers.{number_modulo, is_below_zero, printed_number}
use Rattle.kit.specs.Says.{says, one, two, only, types_said, integer_said, said_of_type, said_of_attribute}
use Rattle.kit.specs.Says.{said_of_module, said_of_function, said_of_constant, said_of_call, said_in, numbered}
use Rattle.kit.specs.Says.{has_values}
use Rattle.kit.specs.Readable.{constant_says, call_says, numbered_kind}
use Rattle.kit.specs.Seen.{seen, none_seen, first_seen, one_seen, two_seen}
use Rattle.kit_views.specs.Reading.{number_in, named_in, integer_of}
use Rattle.kit_ruled_views.specs.Paths.{is_name}
use Rattle.ir_print.specs.declared.format.ValueSort.TheVariants as sorts
use Rattle.kit_text_programs.proofs.SaidPrograms.{width_said, bits_said, name_said, passes, is_called}

-- ---- what is said, in parts

-- pieces of an operation, of an attribute or of a type
abbrev pub SaidTrees : Type 0
SaidTrees = Trees (Said KitAttr)

only_some : {X : Type 0} (b : Bool) (o : Option X) (x : X) → only b o ≡ Some x → (b ≡ true) × (o ≡ Some x)
only_some true o x e = (refl, e)
only_some false o x e = absurd (none-some x e)

numbered_some : (n : ℕ) (o : Option SaidTrees) (kind : ℕ) (said : SaidTrees)
    → option_map {U = ℕ × SaidTrees} (λ us. (n, us)) o ≡ Some (kind, said) → (n ≡ kind) × (o ≡ Some said)
numbered_some n None kind said e = cc
numbered_some n (Some us) kind said e = let parts = some_pair_parts n kind us said e in (parts.0, ap Some parts.1)

numbered_parts : (f : Option OpForm) (m : Option ℕ) (g : OpForm → Option SaidTrees) (kind : ℕ) (said : SaidTrees)
    → numbered f m g ≡ Some (kind, said) → (form : OpForm) × (f ≡ Some form) × (m ≡ Some kind) × (g form ≡ Some said)
numbered_parts None None g kind said e = cc
numbered_parts None (Some m) g kind said e = cc
numbered_parts (Some form) None g kind said e = cc
numbered_parts (Some form) (Some m) g kind said e =
    let parts = numbered_some m (g form) kind said e in (form, refl, ap Some parts.0, parts.1)

-- what an operation says is said in the form of its kind, which has a number
pub said_parts : (k : KitOp) (entries : List (List ℕ × KitAttr)) (n : ℕ) (tys : List TypeHandle) (kind : ℕ)
    (said : SaidTrees) → says.of_operation k entries n tys ≡ Some (kind, said)
    → (form : OpForm) × (form_of k ≡ Some form) × (number_of k ≡ Some kind) × (said_in form entries n tys ≡ Some said)
said_parts k entries n tys kind said e =
    numbered_parts (form_of k) (number_of k) (λ form. said_in form entries n tys) kind said e

-- in this form
said_as : (k : KitOp) (form : OpForm) (entries : List (List ℕ × KitAttr)) (n : ℕ) (tys : List TypeHandle) (kind : ℕ)
    (said : SaidTrees) → says.of_operation k entries n tys ≡ Some (kind, said) → form_of k ≡ Some form
    → said_in form entries n tys ≡ Some said
said_as k form entries n tys kind said e is =
    let parts = said_parts k entries n tys kind said e in
    let same : parts.0 ≡ form = same_Some parts.0 form (sym parts.1 ∙ is) in
    subst (λ f. said_in f entries n tys ≡ Some said) same parts.3

-- ---- numbers

twice_less : (n p : ℕ) → n < p → (p - (p - n)) % p ≡ n
twice_less n p h = let e : p - (p - n) ≡ n = omega arith in ap (λ k. k % p) e ∙ mod-eq_of_lt h

-- the bits of the number that is printed for bits are these
reread : (w bits : ℕ) → bits < 2 ^ w → (b : Bool)
    → number_modulo w (record { is_negative = b; magnitude = cond b (2 ^ w - bits) bits }) ≡ bits
reread w bits h true = twice_less bits (2 ^ w) h
reread w bits h false = mod-eq_of_lt h

and_right : (b c : Bool) → (b && c) ≡ true → c ≡ true
and_right true c e = e
and_right false c e = cc

low_number : (m n : ℕ) → nat_lt m n ≡ true → m < n
low_number m n h = grind (arith, nat_tests)

and_same : (b c d : Bool) → (b ≡ true → c ≡ d) → (b && c) ≡ (b && d)
and_same true c d f = f refl
and_same false c d f = refl

function_kind : (k : KitOp) → is_function k ≡ true → k ≡ ops.Func
function_kind ops.Func e = refl
function_kind ops.Module e = absurd (false≢true e)
function_kind ops.Constant e = absurd (false≢true e)
function_kind ops.Return e = absurd (false≢true e)
function_kind (ops.Arithmetic a) e = absurd (false≢true e)
function_kind (ops.Comparison a) e = absurd (false≢true e)
function_kind ops.Emit e = absurd (false≢true e)
function_kind ops.ForwardRef e = absurd (false≢true e)
function_kind ops.Br e = absurd (false≢true e)
function_kind ops.CondBr e = absurd (false≢true e)
function_kind ops.Call e = absurd (false≢true e)

module_kind : (k : KitOp) → is_module k ≡ true → k ≡ ops.Module
module_kind ops.Module e = refl
module_kind ops.Func e = absurd (false≢true e)
module_kind ops.Constant e = absurd (false≢true e)
module_kind ops.Return e = absurd (false≢true e)
module_kind (ops.Arithmetic a) e = absurd (false≢true e)
module_kind (ops.Comparison a) e = absurd (false≢true e)
module_kind ops.Emit e = absurd (false≢true e)
module_kind ops.ForwardRef e = absurd (false≢true e)
module_kind ops.Br e = absurd (false≢true e)
module_kind ops.CondBr e = absurd (false≢true e)
module_kind ops.Call e = absurd (false≢true e)

module _ (keys : List KitType) where
  -- ---- widths

  width_piece : (sign : Signedness) (w n : ℕ) (ts : Pieces) → ShowsAll says keys (one (alone (said_leaf (width sign w)))) ts
      → w ≡ width_said (node (value_of_kind sorts.«Type» n) ts)
  width_piece sign w n ts h =
      let k = one_seen says keys (alone (said_leaf (width sign w))) ts h in
      sym (ap (λ (x : Pieces). width_said (node (value_of_kind sorts.«Type» n) x)) k.1
      ∙ ap (λ (x : ValueTree). width_said (node (value_of_kind sorts.«Type» n) (a_tree x no_tree))) k.2.1)

  list_piece : (xs ys : SaidTrees) (n : ℕ) (ts : Pieces)
      → ShowsAll says keys (two (node said_list xs) (node said_list ys)) ts → 0 ≡ width_said (node (value_of_kind sorts.«Type» n) ts)
  list_piece xs ys n ts h =
      let k = two_seen says keys (node said_list xs) (node said_list ys) ts h in
      sym (ap (λ (x : Pieces). width_said (node (value_of_kind sorts.«Type» n) x)) k.2
      ∙ ap (λ (x : ValueTree). width_said (node (value_of_kind sorts.«Type» n) (a_tree x (a_tree k.1 no_tree)))) k.3.1)

  no_piece : (n : ℕ) (ts : Pieces) → ShowsAll says keys no_tree ts → 0 ≡ width_said (node (value_of_kind sorts.«Type» n) ts)
  no_piece n ts h = sym (ap (λ (x : Pieces). width_said (node (value_of_kind sorts.«Type» n) x)) (none_seen says keys ts h))

  width_key : (key : KitType) (n : ℕ) (us : SaidTrees) (ts : Pieces) → said_of_type key ≡ Some (n, us)
      → ShowsAll says keys us ts → (integer_of (Some key)).width ≡ width_said (node (value_of_kind sorts.«Type» n) ts)
  width_key (types.Integer t) n us ts e h =
      let said : SaidTrees = one (alone (said_leaf (width t.signedness t.width))) in
      let kept = only_some {X = ℕ × SaidTrees} (nat_lt t.width (2 ^ 32)) (Some (0, said)) (n, us) e in
      let parts = some_pair_parts 0 n said us kept.1 in
      width_piece t.signedness t.width n ts (subst (λ (z : SaidTrees). ShowsAll says keys z ts) (sym parts.1) h)
  width_key (types.Function f) n us ts e h =
      let xs : SaidTrees = types_said f.inputs.items in
      let ys : SaidTrees = types_said f.results.items in
      let parts = some_pair_parts 1 n (two (node said_list xs) (node said_list ys)) us e in
      list_piece xs ys n ts (subst (λ (z : SaidTrees). ShowsAll says keys z ts) (sym parts.1) h)
  width_key types.Unit n us ts e h =
      let none : SaidTrees = no_tree in
      let parts = some_pair_parts 2 n none us e in
      no_piece n ts (subst (λ (z : SaidTrees). ShowsAll says keys z ts) (sym parts.1) h)

  type_same : (a b : TypeHandle) → ◌≡◌ {A = LabelledTree (Said KitAttr)} (alone (said_type a)) (alone (said_type b)) → a ≡ b
  type_same a b e = cc

  -- the type that is shown has the width that is said
  pub width_shown : (ty : TypeHandle) (t : ValueTree) → ShowsType says keys ty t
      → (integer_of (slice_get keys ty.number)).width ≡ width_said t
  width_shown ty t h =
      let k = seen says keys (alone (said_type ty)) t h in
      let shown = k.3 in
      let same : ty ≡ shown.0 = type_same ty shown.0 shown.3 in
      ap (λ (x : TypeHandle). (integer_of (slice_get keys x.number)).width) same
      ∙ ap (λ o. (integer_of o).width) shown.4
      ∙ width_key shown.1 k.0 shown.2 k.1 shown.5 shown.6
      ∙ ap width_said (sym k.2)

  -- ---- constants

  integer_bits : (a : IntegerAttr) (n : ℕ) (ts : Pieces) → a.bits < 2 ^ a.integer.width
      → ShowsAll says keys (integer_said a.integer.signedness a.integer.width (printed_number a)) ts
      → bits_said (a_tree (node (value_of_kind sorts.Attribute n) ts) no_tree) ≡ a.bits
  integer_bits a n ts low h =
      let m = printed_number a in
      let k = two_seen says keys (alone (said_leaf (number m.is_negative m.magnitude)))
      (alone (said_leaf (width a.integer.signedness a.integer.width))) ts h in
      ap (λ (ps : Pieces). bits_said (a_tree (node (value_of_kind sorts.Attribute n) ps) no_tree)) k.2
      ∙ (ap (λ (t : ValueTree). bits_said
      (a_tree (node (value_of_kind sorts.Attribute n) (a_tree t (a_tree k.1 no_tree))) no_tree)) k.3.1
      ∙ (ap (λ (t : ValueTree). bits_said (a_tree (node (value_of_kind sorts.Attribute n)
      (a_tree (node (leaf (number m.is_negative m.magnitude)) k.3.0) (a_tree t no_tree))) no_tree)) k.4.1
      ∙ reread a.integer.width a.bits low (is_below_zero a.integer.signedness a.integer.width a.bits)))

  attribute_bits : (a : IntegerAttr) (n : ℕ) (us : SaidTrees) (ts : Pieces) → said_of_attribute (attrs.Integer a) ≡ Some (n, us)
      → ShowsAll says keys us ts
      → bits_said (a_tree (node (value_of_kind sorts.Attribute n) ts) no_tree) ≡ number_in (Some (attrs.Integer a))
  attribute_bits a n us ts e h =
      let said : SaidTrees = integer_said a.integer.signedness a.integer.width (printed_number a) in
      let kept = only_some {X = ℕ × SaidTrees} (has_values a.integer.width && nat_lt a.bits (2 ^ a.integer.width))
      (Some (0, said)) (n, us) e in
      let test = and_right (has_values a.integer.width) (nat_lt a.bits (2 ^ a.integer.width)) kept.0 in
      let parts = some_pair_parts 0 n said us kept.1 in
      integer_bits a n ts (low_number a.bits (2 ^ a.integer.width) test)
      (subst (λ (z : SaidTrees). ShowsAll says keys z ts) (sym parts.1) h)

  attr_same : (a b : KitAttr) → ◌≡◌ {A = LabelledTree (Said KitAttr)} (alone (said_attribute a)) (alone (said_attribute b))
      → a ≡ b
  attr_same a b e = cc

  attribute_shown : (a : IntegerAttr) (ps : Pieces) → ShowsAll says keys (one (alone (said_attribute (attrs.Integer a)))) ps
      → bits_said ps ≡ number_in (Some (attrs.Integer a))
  attribute_shown a ps h =
      let k = one_seen says keys (alone (said_attribute (attrs.Integer a))) ps h in
      let shown = k.2.3 in
      let same : attrs.Integer a ≡ shown.0 = attr_same (attrs.Integer a) shown.0 shown.2 in
      ap bits_said (k.1 ∙ ap (λ (t : ValueTree). a_tree t no_tree) k.2.2)
      ∙ attribute_bits a k.2.0 shown.1 k.2.1 (ap said_of_attribute same ∙ shown.3) shown.4

  constant_shown : (o : Option KitAttr) (tys : List TypeHandle) (said : SaidTrees) (ps : Pieces)
      → said_of_constant o tys ≡ Some said → ShowsAll says keys said ps → number_in o ≡ bits_said ps
  constant_shown o tys said ps e h =
      let is = constant_says o tys said e in
      ap number_in is.has ∙ sym (attribute_shown is.value ps
      (subst (λ (z : SaidTrees). ShowsAll says keys z ps) (sym is.says_it) h))

  -- a constant has the bits that it says
  pub bits_shown : (k : KitOp) (entries : List (List ℕ × KitAttr)) (n : ℕ) (tys : List TypeHandle) (kind : ℕ)
      (said : SaidTrees) (ps : Pieces) → says.of_operation k entries n tys ≡ Some (kind, said)
      → ShowsAll says keys said ps → k ≡ ops.Constant → number_in (attribute_at entries constant_value) ≡ bits_said ps
  bits_shown k entries n tys kind said ps e h is =
      let so = said_as k Value entries n tys kind said e (ap form_of is) in
      let kept = only_some (length entries == 1 && n == 0) (said_of_constant (attribute_at entries constant_value) tys)
      said so in
      constant_shown (attribute_at entries constant_value) tys said ps kept.1 h

  -- ---- names

  name_piece : (cs : List ℕ) (us : SaidTrees) (ps : Pieces)
      → ShowsAll says keys (a_tree (alone (said_leaf (name cs))) us) ps → name_said ps ≡ cs
  name_piece cs us ps h =
      let k = first_seen says keys (alone (said_leaf (name cs))) us ps h in
      ap name_said k.2 ∙ ap (λ (t : ValueTree). name_said (a_tree t k.1)) k.3.1

  -- a call names the function that it says
  pub callee_shown : (numbers : List ℕ → ℕ) (k : KitOp) (entries : List (List ℕ × KitAttr)) (n : ℕ)
      (tys : List TypeHandle) (kind : ℕ) (said : SaidTrees) (ps : Pieces) → says.of_operation k entries n tys ≡ Some (kind, said)
      → ShowsAll says keys said ps → k ≡ ops.Call
      → named_in numbers (attribute_at entries callee) ≡ numbers (name_said ps)
  callee_shown numbers k entries n tys kind said ps e h is =
      let so = said_as k Called entries n tys kind said e (ap form_of is) in
      let kept = only_some (length entries == 2)
      (said_of_call (attribute_at entries callee) (attribute_at entries callee_type) n) said so in
      let call = call_says (attribute_at entries callee) (attribute_at entries callee_type) n said kept.1 in
      ap (named_in numbers) call.has_name
      ∙ ap numbers (sym (name_piece (text_of call.name) (two (alone (said_operands n)) (alone (said_type call.type))) ps
      (subst (λ (z : SaidTrees). ShowsAll says keys z ps) (sym call.says_it) h)))

  -- the name that is said is that of a module
  module_name : (numbers : List ℕ → ℕ) (x : ℕ) (o : Option KitAttr) (said : SaidTrees) (ps : Pieces)
      → said_of_module o ≡ Some said → ShowsAll says keys said ps
      → is_name numbers x o ≡ nat_eq x (numbers (name_said ps))
  module_name numbers x None said ps e h = absurd (none-some said e)
  module_name numbers x (Some (attrs.Identifier id)) said ps e h =
      let same = same_Some (two (alone (said_leaf (name (text_of id)))) (alone said_region)) said e in
      ap (λ cs. nat_eq x (numbers cs)) (sym (name_piece (text_of id) (one (alone said_region)) ps
      (subst (λ (z : SaidTrees). ShowsAll says keys z ps) (sym same) h)))
  module_name numbers x (Some (attrs.Integer a)) said ps e h = absurd (none-some said e)
  module_name numbers x (Some (attrs.«Type» a)) said ps e h = absurd (none-some said e)
  module_name numbers x (Some (attrs.SegmentSizes a)) said ps e h = absurd (none-some said e)
  module_name numbers x (Some (attrs.GivenNames a)) said ps e h = absurd (none-some said e)
  module_name numbers x (Some (attrs.Note a)) said ps e h = absurd (none-some said e)
  module_name numbers x (Some (attrs.Origin a)) said ps e h = absurd (none-some said e)

  -- the type of a function, where it has one
  function_typed : (id : Identifier) (o : Option KitAttr) (said : SaidTrees)
      → said_of_function (Some (attrs.Identifier id)) o ≡ Some said
      → (us : SaidTrees) × (a_tree (alone (said_leaf (name (text_of id)))) us ≡ said)
  function_typed id None said e = absurd (none-some said e)
  function_typed id (Some (attrs.«Type» ty)) said e = (
    two (alone (said_type ty)) (alone said_region),
    same_Some (a_tree (alone (said_leaf (name (text_of id)))) (two (alone (said_type ty)) (alone said_region))) said e,
  )
  function_typed id (Some (attrs.Identifier a)) said e = absurd (none-some said e)
  function_typed id (Some (attrs.Integer a)) said e = absurd (none-some said e)
  function_typed id (Some (attrs.SegmentSizes a)) said e = absurd (none-some said e)
  function_typed id (Some (attrs.GivenNames a)) said e = absurd (none-some said e)
  function_typed id (Some (attrs.Note a)) said e = absurd (none-some said e)
  function_typed id (Some (attrs.Origin a)) said e = absurd (none-some said e)

  -- the name that is said is that of a function
  function_name : (numbers : List ℕ → ℕ) (x : ℕ) (o ty : Option KitAttr) (said : SaidTrees) (ps : Pieces)
      → said_of_function o ty ≡ Some said → ShowsAll says keys said ps
      → is_name numbers x o ≡ nat_eq x (numbers (name_said ps))
  function_name numbers x None ty said ps e h = absurd (none-some said e)
  function_name numbers x (Some (attrs.Identifier id)) ty said ps e h =
      let typed = function_typed id ty said e in
      ap (λ cs. nat_eq x (numbers cs)) (sym (name_piece (text_of id) typed.0 ps
      (subst (λ (z : SaidTrees). ShowsAll says keys z ps) (sym typed.1) h)))
  function_name numbers x (Some (attrs.Integer a)) ty said ps e h = absurd (none-some said e)
  function_name numbers x (Some (attrs.«Type» a)) ty said ps e h = absurd (none-some said e)
  function_name numbers x (Some (attrs.SegmentSizes a)) ty said ps e h = absurd (none-some said e)
  function_name numbers x (Some (attrs.GivenNames a)) ty said ps e h = absurd (none-some said e)
  function_name numbers x (Some (attrs.Note a)) ty said ps e h = absurd (none-some said e)
  function_name numbers x (Some (attrs.Origin a)) ty said ps e h = absurd (none-some said e)

  -- an operation of the kind has the name that it says
  module _ (numbers : List ℕ → ℕ) (x : ℕ) (k : KitOp) (entries : List (List ℕ × KitAttr)) (n : ℕ)
      (tys : List TypeHandle) (kind : ℕ) (said : SaidTrees) (ps : Pieces)
      (e : says.of_operation k entries n tys ≡ Some (kind, said)) (h : ShowsAll says keys said ps) where
    abbrev IsNamed : Type 0
    IsNamed = is_name numbers x (attribute_at entries symbol_name) ≡ nat_eq x (numbers (name_said ps))

    named_function : k ≡ ops.Func → IsNamed
    named_function is =
        let so = said_as k TypedRegion entries n tys kind said e (ap form_of is) in
        let kept = only_some (length entries == 2 && n == 0)
        (said_of_function (attribute_at entries symbol_name) (attribute_at entries function_type)) said so in
        function_name numbers x (attribute_at entries symbol_name) (attribute_at entries function_type) said ps kept.1 h

    named_module : k ≡ ops.Module → IsNamed
    named_module is =
        let so = said_as k NamedRegion entries n tys kind said e (ap form_of is) in
        let kept = only_some (length entries == 1 && n == 0) (said_of_module (attribute_at entries symbol_name)) said
        so in
        module_name numbers x (attribute_at entries symbol_name) said ps kept.1 h

    -- so it is called in the text what it is called in the tree
    called : (test : KitOp → Bool) → (test k ≡ true → IsNamed)
        → (test k && is_name numbers x (attribute_at entries symbol_name)) ≡ is_called numbers test x kind ps
    called test named =
        and_same (test k) (is_name numbers x (attribute_at entries symbol_name)) (nat_eq x (numbers (name_said ps)))
        named
        ∙ ap (λ o. passes test o && nat_eq x (numbers (name_said ps)))
        (sym (numbered_kind k kind (said_parts k entries n tys kind said e).2))

    pub function_called : (is_function k && is_name numbers x (attribute_at entries symbol_name))
        ≡ is_called numbers is_function x kind ps
    function_called = called is_function (λ t. named_function (function_kind k t))

    pub module_called : (is_module k && is_name numbers x (attribute_at entries symbol_name))
        ≡ is_called numbers is_module x kind ps
    module_called = called is_module (λ t. named_module (module_kind k t))
