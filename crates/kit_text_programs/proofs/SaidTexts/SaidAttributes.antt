-- The attributes of an operation mean what its text says.
use Rattle.std.proofs.Common.{◌≡◌, inl, inr, ⊎_elim, ℕ, Bool, true, false, cond, ◌&&◌, List, [], ◌∷◌, ◌++◌, map}
use Rattle.std.proofs.Common.{length, Option, Some, None, option_and_then, bytes_eq, refl, sym, ap, ◌∙◌, subst}
use Rattle.std.specs.Prelude.{◌==◌}
use Rattle.std.proofs.lemmas.Bool.{false≢true}
use Rattle.std.proofs.lemmas.Bool.Decides.{Decides-eqb}
use Rattle.std.proofs.lemmas.Option.{none-some, same_Some}
use Rattle.std.proofs.lemmas.Slice.Eq.{bytes_eq-Decides}
use Rattle.ir_base.specs.declared.types.TypeHandle.{TypeHandle}
use Rattle.ir_names.specs.Dictionary.{attribute_at}
use Rattle.ir_names.specs.Identifier.{text_of}
use Rattle.ir_names.specs.Tree.{node, no_tree, a_tree}
use Rattle.ir_print.specs.Pieces.{value_of_kind, list, item, operands, successor, region, leaf, chosen}
use Rattle.ir_print.specs.Pieces.{ValueTree, Pieces}
use Rattle.ir_print.specs.Shown.{said_type, alone, Pairs, ShowsAll, ShowsType}
use Rattle.ir_program.specs.Program.{TypedValue}
use Rattle.opt_trees.specs.Occurrences.{Has}
use Rattle.text_dialect.specs.Seen.{types_of}
use Rattle.text_dialect.specs.Standing.{HasDefinition, Naming}
use Rattle.kit_ops.specs.declared.attributes.IntegerAttr.{IntegerAttr}
use Rattle.kit_ops.specs.declared.attributes.KitAttr.{KitAttr}
use Rattle.kit_ops.specs.declared.attributes.KitAttr.TheVariants as attrs
use Rattle.kit_ops.specs.declared.kinds.KitOp.{KitOp}
use Rattle.kit_ops.specs.declared.kinds.KitOp.TheVariants as ops
use Rattle.kit_ops.specs.declared.types.KitType.{KitType}
use Rattle.kit_ops.specs.Keys.{symbol_name, function_type, constant_value, callee, callee_type, segment_sizes}
use Rattle.kit_checks.specs.Words.{identifier_in, type_in}
use Rattle.kit.specs.Forms.{OpForm, NamedRegion, TypedRegion, TwoOperands, OneOperand, AnyOperands, Empty, Called, Edge}
use Rattle.kit.specs.Forms.{ConditionEdges}
use Rattle.kit.specs.Forms.{form_of}
use Rattle.kit.specs.Forms as forms
use Rattle.kit.specs.Says.{says, only, said_in, said_of_module, said_of_function, said_of_constant, said_of_pair}
use Rattle.kit.specs.Says.{said_of_call, said_of_condition}
use Rattle.kit.specs.Seen.{seen}
use Rattle.kit_text_programs.proofs.SaidHeads.{said_parts}
use Rattle.kit_text_programs.proofs.SaidPrograms.{name_said, bits_said, sizes_read}
use Rattle.kit_text_programs.proofs.ReadHeads.{Entries, SaidTrees, type_read, callee_read, integer_read}
use Rattle.kit_text_programs.proofs.ReadHeads.{IsRead, read, HasShownSizes, sizes_shown}
use Rattle.kit_text_programs.specs.SameLaws.{types_among}
use Rattle.kit_text_programs.specs.Meanings.{Attribute, Integer, Name, OfType, Sizes, attribute_meant, number_meant}
use Rattle.kit_text_programs.proofs.SaidTexts.AttributeMaps.{no_entries, one_at, two_at, map_one, map_two}
use Rattle.kit_text_programs.proofs.SaidTexts.SaidMeanings.{Written, type_meant, first_number, integer_meant}
use Rattle.ir_print.specs.declared.format.ValueSort.TheVariants as sorts
use Rattle.kit_text_programs.proofs.SaidTexts.SaidMeanings.{attributes_said, sizes_meant}

-- ---- how many attributes there are

and_left : (b c : Bool) → (b && c) ≡ true → b ≡ true
and_left true c e = refl
and_left false c e = absurd (false≢true e)

only_where : {X : Type 0} (b : Bool) (o : Option X) (x : X) → only b o ≡ Some x → b ≡ true
only_where true o x e = refl
only_where false o x e = absurd (none-some x e)

abbrev count_in : OpForm → ℕ
count_in NamedRegion = 1
count_in TypedRegion = 2
count_in forms.Value = 1
count_in TwoOperands = 0
count_in OneOperand = 0
count_in AnyOperands = 0
count_in Empty = 0
count_in Called = 2
count_in Edge = 0
count_in ConditionEdges = 1

abbrev count_by : Option OpForm → ℕ
count_by None = 0
count_by (Some form) = count_in form

-- what is said where there are so many attributes
of_count : {X : Type 0} (m n : ℕ) (b : Bool) (o : Option X) (x : X) → only ((m == n) && b) o ≡ Some x → m ≡ n
of_count m n b o x e = (Decides-eqb m n).0 (and_left (m == n) b (only_where ((m == n) && b) o x e))

form_count : (form : OpForm) (es : Entries) (n : ℕ) (tys : List TypeHandle) (said : SaidTrees)
    → said_in form es n tys ≡ Some said → length es ≡ count_in form
form_count NamedRegion es n tys said e =
    of_count (length es) 1 (n == 0) (said_of_module (attribute_at es symbol_name)) said e
form_count TypedRegion es n tys said e = of_count (length es) 2 (n == 0)
    (said_of_function (attribute_at es symbol_name) (attribute_at es function_type)) said e
form_count forms.Value es n tys said e =
    of_count (length es) 1 (n == 0) (said_of_constant (attribute_at es constant_value) tys) said e
form_count TwoOperands es n tys said e = of_count (length es) 0 (n == 2) (said_of_pair tys) said e
form_count OneOperand es n tys said e = of_count (length es) 0 (n == 1) _ said e
form_count AnyOperands es n tys said e = (Decides-eqb (length es) 0).0 (only_where (length es == 0) _ said e)
form_count Empty es n tys said e = of_count (length es) 0 (n == 0) _ said e
form_count Called es n tys said e = (Decides-eqb (length es) 2).0
    (only_where (length es == 2) (said_of_call (attribute_at es callee) (attribute_at es callee_type) n) said e)
form_count Edge es n tys said e = (Decides-eqb (length es) 0).0 (only_where (length es == 0) _ said e)
form_count ConditionEdges es n tys said e = (Decides-eqb (length es) 1).0
    (only_where (length es == 1) (said_of_condition (attribute_at es segment_sizes) n) said e)

-- an operation that says something has as many attributes as its form
counted : (k : KitOp) (es : Entries) (n : ℕ) (tys : List TypeHandle) (kind : ℕ) (said : SaidTrees)
    → says.of_operation k es n tys ≡ Some (kind, said) → length es ≡ count_by (form_of k)
counted k es n tys kind said e =
    let parts = said_parts k es n tys kind said e in
    form_count parts.0 es n tys said parts.3 ∙ ap count_by (sym parts.1)

-- ---- types

-- handles that show types of these have the numbers of these
abbrev pub Numbered : (ValueTree → ℕ) → (TypeHandle → ℕ) → List KitType → List ValueTree → Type 0
Numbered number_of code keys rs =
    (h : TypeHandle) (r : ValueTree) → ShowsType says keys h r → Has r rs → code h ≡ number_of r

has_front : {X : Type 0} (xs ys : List X) (x : X) → Has x xs → Has x (xs ++ ys)
has_front [] ys x h = absurd h
has_front (y ∷ xs) ys x h = ⊎_elim (λ s. inl s) (λ r. inr (has_front xs ys x r)) h

has_back : {X : Type 0} (xs ys : List X) (x : X) → Has x ys → Has x (xs ++ ys)
has_back [] ys x h = h
has_back (y ∷ xs) ys x h = inr (has_back xs ys x h)

module _ (number_of : ValueTree → ℕ) (code : TypeHandle → ℕ) (keys : List KitType) where
  pub numbered_front : (xs ys : List ValueTree) → Numbered number_of code keys (xs ++ ys)
      → Numbered number_of code keys xs
  numbered_front xs ys n h r shown has = n h r shown (has_front xs ys r has)

  pub numbered_back : (xs ys : List ValueTree) → Numbered number_of code keys (xs ++ ys)
      → Numbered number_of code keys ys
  numbered_back xs ys n h r shown has = n h r shown (has_back xs ys r has)

-- a type behind a piece is among the pieces
behind : (t p : ValueTree) (ps : Pieces) → Has t (types_among ps) → Has t (types_among (a_tree p ps))
behind t (node (value_of_kind sorts.«Type» n) us) ps h = inr h
behind t (node (value_of_kind sorts.Attribute n) us) ps h = h
behind t (node list us) ps h = h
behind t (node item us) ps h = h
behind t (node (chosen n) us) ps h = h
behind t (node (operands n) us) ps h = h
behind t (node (successor n) us) ps h = h
behind t (node region us) ps h = h
behind t (node (leaf x) us) ps h = h

-- the type that is read of a function is among its pieces
read_among : (keys : List KitType) (ty : TypeHandle) (ps : Pieces) (t : ValueTree) → ShowsType says keys ty t
    → type_read ps ≡ Some t → Has t (types_among ps)
read_among keys ty no_tree t shown e = absurd (none-some t e)
read_among keys ty (a_tree p no_tree) t shown e = absurd (none-some t e)
read_among keys ty (a_tree p (a_tree u ps)) t shown e =
    let k = seen says keys (alone (said_type ty)) t shown in
    behind t p (a_tree u ps)
    (subst (λ (z : ValueTree). Has t (types_among (a_tree z ps))) (sym (same_Some u t e ∙ k.2)) (inl k.2))

-- so is the type that is read of a call
callee_among : (keys : List KitType) (ty : TypeHandle) (ps : Pieces) (t : ValueTree) → ShowsType says keys ty t
    → callee_read ps ≡ Some t → Has t (types_among ps)
callee_among keys ty no_tree t shown e = absurd (none-some t e)
callee_among keys ty (a_tree p no_tree) t shown e = absurd (none-some t e)
callee_among keys ty (a_tree p (a_tree q no_tree)) t shown e = absurd (none-some t e)
callee_among keys ty (a_tree p (a_tree q (a_tree u ps))) t shown e =
    behind t p (a_tree q (a_tree u ps)) (read_among keys ty (a_tree q (a_tree u ps)) t shown e)

-- ---- attributes

first_same : {X : Type 0} (x y : X) (xs ys : List X) → x ∷ xs ≡ y ∷ ys → x ≡ y
first_same x y xs ys e = cc

keys_apart : symbol_name ≡ function_type → ⊥
keys_apart e = false≢true ((bytes_eq-Decides symbol_name function_type).1 e)

call_apart : callee ≡ callee_type → ⊥
call_apart e = false≢true ((bytes_eq-Decides callee callee_type).1 e)

module _ (number_of : ValueTree → ℕ) (code : TypeHandle → ℕ) where
  identified : (o : Option KitAttr) (cs : List ℕ) → option_and_then identifier_in o ≡ Some cs
      → (a : KitAttr) × (o ≡ Some a) × (attribute_meant code a ≡ Some (Name cs))
  identified (Some (attrs.Identifier id)) cs e =
      (attrs.Identifier id, refl, ap (λ (bs : List ℕ). Some (Name bs)) (same_Some (text_of id) cs e))
  identified _ cs e = absurd (none-some cs e)

  typed : (o : Option KitAttr) (h : TypeHandle) → option_and_then type_in o ≡ Some h
      → (a : KitAttr) × (o ≡ Some a) × (attribute_meant code a ≡ Some (OfType (code h)))
  typed (Some (attrs.«Type» ty)) h e = (attrs.«Type» ty, refl, ap (λ (x : TypeHandle). Some (OfType (code x))) (same_Some ty h e))
  typed _ h e = absurd (none-some h e)

  module _ (Names : Naming ℕ) (keys : List KitType) where
    -- the type of the one result has the number of what the text says
    first_typed : (vs : List TypedValue) (rs : Written) (h : TypeHandle) → Pairs (HasDefinition says Names keys) vs rs
        → Numbered number_of code keys (map (λ (r : ℕ × ValueTree). r.1) rs) → types_of vs ≡ h ∷ []
        → code h ≡ first_number number_of rs
    first_typed [] rs h d n e = cc
    first_typed (v ∷ vs) [] h d n e = absurd d
    first_typed (v ∷ vs) (r ∷ rs) h d n e =
        ap code (sym (first_same v.ty h (types_of vs) [] e)) ∙ n v.ty r.1 d.0.1 (inl refl)

    module _ (es : Entries) (n kind : ℕ) (vs : List TypedValue) (said : SaidTrees) (ps : Pieces) (rs : Written)
        (shown : ShowsAll says keys said ps) (defines : Pairs (HasDefinition says Names keys) vs rs)
        (numbered : Numbered number_of code keys (map (λ (r : ℕ × ValueTree). r.1) rs ++ types_among ps)) where
      abbrev IsMeant : KitOp → Type 0
      IsMeant k = (key : List ℕ)
          → option_and_then (attribute_meant code) (attribute_at es key) ≡ attributes_said number_of k rs ps key

      module_meant : IsRead keys ops.Module es (types_of vs) ps → length es ≡ 1 → IsMeant ops.Module
      module_meant r l key =
          let x = identified (attribute_at es symbol_name) (name_said ps) r.names in
          ap (option_and_then (attribute_meant code)) (one_at es symbol_name x.0 l x.1 key)
          ∙ map_one (attribute_meant code) (bytes_eq key symbol_name) x.0
          ∙ ap (λ (a : Option Attribute). cond (bytes_eq key symbol_name) a None) x.2

      function_meant : IsRead keys ops.Func es (types_of vs) ps → length es ≡ 2 → IsMeant ops.Func
      function_meant r l key =
          let x = identified (attribute_at es symbol_name) (name_said ps) r.names in
          let is = r.types refl in
          let y = typed (attribute_at es function_type) is.0 is.4 in
          let same : attribute_meant code y.0 ≡ type_meant number_of (type_read ps) = y.2
          ∙ ap (λ (m : ℕ). Some (OfType m)) (numbered_back number_of code keys (map (λ (r : ℕ × ValueTree). r.1) rs) (types_among ps) numbered
          is.0 is.1 is.2 (read_among keys is.0 ps is.1 is.2 is.3)) ∙ ap (type_meant number_of) (sym is.3) in
          ap (option_and_then (attribute_meant code)) (two_at es symbol_name function_type x.0 y.0 l keys_apart x.1 y.1 key)
          ∙ map_two (attribute_meant code) (bytes_eq key symbol_name) (bytes_eq key function_type) x.0 y.0
          ∙ ap (λ (a : Option Attribute). cond (bytes_eq key symbol_name) a
          (cond (bytes_eq key function_type) (attribute_meant code y.0) None)) x.2
          ∙ ap (λ (a : Option Attribute). cond (bytes_eq key symbol_name) (Some (Name (name_said ps)))
          (cond (bytes_eq key function_type) a None)) same

      call_meant : IsRead keys ops.Call es (types_of vs) ps → length es ≡ 2 → IsMeant ops.Call
      call_meant r l key =
          let is = r.called refl in
          let x = identified (attribute_at es callee) (name_said ps) is.5 in
          let y = typed (attribute_at es callee_type) is.0 is.4 in
          let same : attribute_meant code y.0 ≡ type_meant number_of (callee_read ps) = y.2
          ∙ ap (λ (m : ℕ). Some (OfType m)) (numbered_back number_of code keys (map (λ (r : ℕ × ValueTree). r.1) rs) (types_among ps) numbered
          is.0 is.1 is.2 (callee_among keys is.0 ps is.1 is.2 is.3)) ∙ ap (type_meant number_of) (sym is.3) in
          ap (option_and_then (attribute_meant code)) (two_at es callee callee_type x.0 y.0 l call_apart x.1 y.1 key)
          ∙ map_two (attribute_meant code) (bytes_eq key callee) (bytes_eq key callee_type) x.0 y.0
          ∙ ap (λ (a : Option Attribute). cond (bytes_eq key callee) a
          (cond (bytes_eq key callee_type) (attribute_meant code y.0) None)) x.2
          ∙ ap (λ (a : Option Attribute). cond (bytes_eq key callee) (Some (Name (name_said ps)))
          (cond (bytes_eq key callee_type) a None)) same

      constant_meant : IsRead keys ops.Constant es (types_of vs) ps → length es ≡ 1 → IsMeant ops.Constant
      constant_meant r l key =
          let is = r.valued refl in
          let v : IntegerAttr = is.0 in
          let type : code v.ty ≡ first_number number_of rs = first_typed vs rs v.ty defines
          (numbered_front number_of code keys (map (λ (r : ℕ × ValueTree). r.1) rs) (types_among ps) numbered) is.4 in
          let same : Some (Integer (number_meant code v))
          ≡ integer_meant number_of (first_number number_of rs) (integer_read ps) (bits_said ps) =
          (λ i. Some (Integer (record { ty = type i; integer = v.integer; bits = is.2 i })))
          ∙ ap (λ o. integer_meant number_of (first_number number_of rs) o (bits_said ps)) (sym is.3) in
          ap (option_and_then (attribute_meant code)) (one_at es constant_value (attrs.Integer v) l is.1 key)
          ∙ map_one (attribute_meant code) (bytes_eq key constant_value) (attrs.Integer v)
          ∙ ap (λ (a : Option Attribute). cond (bytes_eq key constant_value) a None) same

      condition_meant : HasShownSizes es n ps → length es ≡ 1 → IsMeant ops.CondBr
      condition_meant z l key =
          let same : Some (Sizes z.sizes.items) ≡ sizes_meant number_of (sizes_read ps) =
          ap (λ (zs : List ℕ). Some (Sizes zs)) z.are ∙ ap (sizes_meant number_of) (sym z.told) in
          ap (option_and_then (attribute_meant code)) (one_at es segment_sizes (attrs.SegmentSizes z.sizes) l z.has key)
          ∙ map_one (attribute_meant code) (bytes_eq key segment_sizes) (attrs.SegmentSizes z.sizes)
          ∙ ap (λ (a : Option Attribute). cond (bytes_eq key segment_sizes) a None) same

      bare_meant : length es ≡ 0 → (key : List ℕ) → option_and_then (attribute_meant code) (attribute_at es key) ≡ None
      bare_meant l key =
          ap (λ (xs : Entries). option_and_then (attribute_meant code) (attribute_at xs key)) (no_entries es l)

      -- the attributes of an operation mean what its text says
      pub attributes_meant : (k : KitOp) → says.of_operation k es n (types_of vs) ≡ Some (kind, said) → IsMeant k
      attributes_meant ops.Module e = module_meant (read keys es n (types_of vs) kind said ps shown ops.Module e)
          (counted ops.Module es n (types_of vs) kind said e)
      attributes_meant ops.Func e = function_meant (read keys es n (types_of vs) kind said ps shown ops.Func e)
          (counted ops.Func es n (types_of vs) kind said e)
      attributes_meant ops.Constant e = constant_meant (read keys es n (types_of vs) kind said ps shown ops.Constant e)
          (counted ops.Constant es n (types_of vs) kind said e)
      attributes_meant (ops.Arithmetic a) e = bare_meant (counted (ops.Arithmetic a) es n (types_of vs) kind said e)
      attributes_meant (ops.Comparison a) e = bare_meant (counted (ops.Comparison a) es n (types_of vs) kind said e)
      attributes_meant ops.Emit e = bare_meant (counted ops.Emit es n (types_of vs) kind said e)
      attributes_meant ops.Return e = bare_meant (counted ops.Return es n (types_of vs) kind said e)
      attributes_meant ops.Br e = bare_meant (counted ops.Br es n (types_of vs) kind said e)
      attributes_meant ops.CondBr e = condition_meant (sizes_shown keys ops.CondBr es n (types_of vs) kind said ps e shown refl)
          (counted ops.CondBr es n (types_of vs) kind said e)
      attributes_meant ops.Call e = call_meant (read keys es n (types_of vs) kind said ps shown ops.Call e)
          (counted ops.Call es n (types_of vs) kind said e)
      attributes_meant ops.ForwardRef e = bare_meant (counted ops.ForwardRef es n (types_of vs) kind said e)
