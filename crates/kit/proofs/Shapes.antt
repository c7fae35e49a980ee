-- Which pieces a part can be, by what the part is.
use Rattle.std.proofs.Common.{◌≡◌, ℕ, ◌≤◌, ◌^◌, Bool, true, false, ◌&&◌, List, [], ◌∷◌, Option, Some, None, option_map, Vec, refl, sym, ap, ◌∙◌, subst, arith}
use Rattle.std.proofs.lemmas.Bool.{eqb-true}
use Rattle.std.proofs.lemmas.Bool.Decides.{nat_tests}
use Rattle.std.specs.Global.{Global}
use Rattle.ir_base.specs.declared.types.TypeHandle.{TypeHandle}
use Rattle.ir_names.specs.declared.kinds.Signedness.{Signedness}
use Rattle.ir_names.specs.declared.identifier.Identifier.{Identifier}
use Rattle.ir_names.specs.Identifier.{text_of}
use Rattle.ir_names.specs.Tree.{node, no_tree, a_tree}
use Rattle.ir_print.specs.declared.format.Number.{Number}
use Rattle.ir_print.specs.declared.format.Part.{Part}
use Rattle.ir_print.specs.declared.format.Part.TheVariants.{outs-List, outs-Type, outs-Attribute, outs-Operands, outs-Successor, outs-Region, outs-Leaf, outs-Choice}
use Rattle.ir_print.specs.declared.format.Part.TheVariants as part
use Rattle.ir_print.specs.Pieces.{Leaf, value_of_kind, list, item, chosen, operands, successor, region, leaf, name, number, unsigned, width, quoted, mark, ValueTree, Pieces}
use Rattle.ir_print.specs.Shown.{Saying, IsNumber, IsWidth, IsLeaf, ShowsType, ShowsAttribute, ShowsPart, ShowsParts, ShowsMembers}
use Rattle.kit_ops.specs.declared.types.IntegerType.{IntegerType}
use Rattle.kit.specs.Parts.{number_part, integer_part, type_part, name_part, region_part, attribute_part, operands_part, successor_part, is_one_operand, list_part}
use Rattle.ir_print.specs.declared.format.LeafValue.{LeafValue}
use Rattle.ir_print.specs.declared.format.LeafValue.TheVariants as read
use Rattle.ir_print.specs.declared.format.ValueSort.TheVariants as sorts
use Rattle.kit.specs.Says.{is_small_width, is_type, is_name, is_region, are_operands, is_operand, is_edge, is_one, are_two, are_three}

either_false : (b : Bool) → (b && false) ≡ false
either_false true = refl
either_false false = refl

none_some : {X Y : Type 0} (x : X) → None ≡ Some x → Y
none_some x e = cc

some_same : {X : Type 0} {x y : X} → Some x ≡ Some y → x ≡ y
some_same e = cc

module _ {D K A T : Type 0} where
  pub a_list : (ms : Vec (Vec (Part D K A T) Global) Global) → list_part (part.List ms) ≡ Some ms
  a_list ms = rw outs-List refl

  no_list-Choice : (n : ℕ) (ps : Vec (Part D K A T) Global) → list_part (part.Choice n ps) ≡ None
  no_list-Choice n ps = rw outs-Choice refl

  no_list-Type : (x : TypeHandle) → list_part {D = D} {A = K} {K = A} {T = T} (part.Type x) ≡ None
  no_list-Type x = rw outs-Type refl

  no_list-Attribute : (x : A) → list_part {D = D} {A = K} {K = A} {T = T} (part.Attribute x) ≡ None
  no_list-Attribute x = rw outs-Attribute refl

  no_list-Operands : (x : ℕ) → list_part {D = D} {A = K} {K = A} {T = T} (part.Operands x) ≡ None
  no_list-Operands x = rw outs-Operands refl

  no_list-Successor : (x : ℕ) → list_part {D = D} {A = K} {K = A} {T = T} (part.Successor x) ≡ None
  no_list-Successor x = rw outs-Successor refl

  no_list-Region : list_part {D = D} {A = K} {K = A} {T = T} part.Region ≡ None
  no_list-Region = rw outs-Region refl

  no_list-Leaf : (x : LeafValue) → list_part {D = D} {A = K} {K = A} {T = T} (part.Leaf x) ≡ None
  no_list-Leaf x = rw outs-Leaf refl

number_bits : (b : Bool) (m : ℕ) (o : Option Number) (x : Number) → o ≡ Some x → IsNumber o b m → number b m ≡ number x.is_negative x.magnitude
number_bits b m (Some n) x e h = let same : n ≡ x = cc in ap (λ (c : Bool). number c m) (sym h.0 ∙ ap (λ (k : Number). k.is_negative) same) ∙ ap (λ (k : ℕ). number x.is_negative k) (sym h.1 ∙ ap (λ (k : Number). k.magnitude) same)
number_bits b m None x e h = cc

abbrev pub of_width : Signedness → Option ℕ → Option IntegerType
of_width sign o = option_map (λ n. record { signedness = sign; width = n }) o

width_bits : (sign : Signedness) (bits : ℕ) (o : Option ℕ) (x : IntegerType) → of_width sign o ≡ Some x → IsWidth o bits → width sign bits ≡ width x.signedness x.width
width_bits sign bits (Some w) x e h = let same : record { signedness = sign; width = w } ≡ x = cc in ap (λ (t : IntegerType). width t.signedness bits) same ∙ ap (λ (b : ℕ). width x.signedness b) (sym h ∙ ap (λ (t : IntegerType). t.width) same)
width_bits sign bits None x e h = cc

wide : (sign : Signedness) (bits : ℕ) (o : Option ℕ) → of_width sign o ≡ None → IsWidth o bits → 2 ^ 32 ≤ bits
wide sign bits (Some w) e h = cc
wide sign bits None e h = h

-- ---- leaves

module _ {D K A T : Type 0} where
  name_leaf : (p : Part D K A T) (l : LeafValue) (x : Leaf) (id : Identifier) → p ≡ part.Leaf l → name_part p ≡ Some id → IsLeaf l x → (cs : List ℕ) × (x ≡ name cs) × (text_of id ≡ cs)
  name_leaf p (read.Name i) (name cs) id q e h =
      let f : Some i ≡ Some id = sym (ap name_part q) ∙ e in let same : id ≡ i = cc in (cs, refl, ap text_of same ∙ h)
  name_leaf p (read.Name i) (number b m) id q e h = absurd h
  name_leaf p (read.Name i) (unsigned m) id q e h = absurd h
  name_leaf p (read.Name i) (width sign bits) id q e h = absurd h
  name_leaf p (read.Name i) (quoted cs) id q e h = absurd h
  name_leaf p (read.Name i) (mark m) id q e h = absurd h
  name_leaf p (read.Number o) x id q e h = none_some id (sym (ap name_part q) ∙ e)
  name_leaf p (read.Digits o) x id q e h = none_some id (sym (ap name_part q) ∙ e)
  name_leaf p (read.Width sign o) x id q e h = none_some id (sym (ap name_part q) ∙ e)
  name_leaf p (read.Text s) x id q e h = none_some id (sym (ap name_part q) ∙ e)
  name_leaf p (read.Mark o) x id q e h = none_some id (sym (ap name_part q) ∙ e)

  no_name : (p : Part D K A T) (l : LeafValue) (cs : List ℕ) → p ≡ part.Leaf l → name_part p ≡ None → IsLeaf l (name cs) → ⊥
  no_name p (read.Name i) cs q e h = none_some i (sym e ∙ ap name_part q)
  no_name p (read.Number o) cs q e h = h
  no_name p (read.Digits o) cs q e h = h
  no_name p (read.Width sign o) cs q e h = h
  no_name p (read.Text s) cs q e h = h
  no_name p (read.Mark o) cs q e h = h

  number_leaf : (p : Part D K A T) (l : LeafValue) (x : Leaf) (n : Number) → p ≡ part.Leaf l → number_part p ≡ Some n → IsLeaf l x → x ≡ number n.is_negative n.magnitude
  number_leaf p (read.Number o) (number b m) n q e h = number_bits b m o n (sym (ap number_part q) ∙ e) h
  number_leaf p (read.Number o) (name cs) n q e h = absurd h
  number_leaf p (read.Number o) (unsigned m) n q e h = absurd h
  number_leaf p (read.Number o) (width sign bits) n q e h = absurd h
  number_leaf p (read.Number o) (quoted cs) n q e h = absurd h
  number_leaf p (read.Number o) (mark m) n q e h = absurd h
  number_leaf p (read.Name i) x n q e h = none_some n (sym (ap number_part q) ∙ e)
  number_leaf p (read.Digits o) x n q e h = none_some n (sym (ap number_part q) ∙ e)
  number_leaf p (read.Width sign o) x n q e h = none_some n (sym (ap number_part q) ∙ e)
  number_leaf p (read.Text s) x n q e h = none_some n (sym (ap number_part q) ∙ e)
  number_leaf p (read.Mark o) x n q e h = none_some n (sym (ap number_part q) ∙ e)

  pub number_none : (p : Part D K A T) (l : LeafValue) (b : Bool) (m : ℕ) → p ≡ part.Leaf l → number_part p ≡ None → IsLeaf l (number b m) → (o : Option Number) × (o ≡ None) × IsNumber o b m
  number_none p (read.Number o) b m q e h = (o, sym (ap number_part q) ∙ e, h)
  number_none p (read.Name i) b m q e h = absurd h
  number_none p (read.Digits o) b m q e h = absurd h
  number_none p (read.Width sign o) b m q e h = absurd h
  number_none p (read.Text s) b m q e h = absurd h
  number_none p (read.Mark o) b m q e h = absurd h

  width_leaf : (p : Part D K A T) (l : LeafValue) (x : Leaf) (i : IntegerType) → p ≡ part.Leaf l → integer_part p ≡ Some i → IsLeaf l x → x ≡ width i.signedness i.width
  width_leaf p (read.Width s o) (width sign bits) i q e h =
      ap (λ (z : Signedness). width z bits) (sym h.0) ∙ width_bits s bits o i (sym (ap integer_part q) ∙ e) h.1
  width_leaf p (read.Width s o) (name cs) i q e h = absurd h
  width_leaf p (read.Width s o) (number b m) i q e h = absurd h
  width_leaf p (read.Width s o) (unsigned m) i q e h = absurd h
  width_leaf p (read.Width s o) (quoted cs) i q e h = absurd h
  width_leaf p (read.Width s o) (mark m) i q e h = absurd h
  width_leaf p (read.Name id) x i q e h = none_some i (sym (ap integer_part q) ∙ e)
  width_leaf p (read.Number o) x i q e h = none_some i (sym (ap integer_part q) ∙ e)
  width_leaf p (read.Digits o) x i q e h = none_some i (sym (ap integer_part q) ∙ e)
  width_leaf p (read.Text s) x i q e h = none_some i (sym (ap integer_part q) ∙ e)
  width_leaf p (read.Mark o) x i q e h = none_some i (sym (ap integer_part q) ∙ e)

  pub wide_leaf : (p : Part D K A T) (l : LeafValue) (sign : Signedness) (bits : ℕ) → p ≡ part.Leaf l → integer_part p ≡ None → IsLeaf l (width sign bits) → 2 ^ 32 ≤ bits
  wide_leaf p (read.Width s o) sign bits q e h = wide s bits o (sym (ap integer_part q) ∙ e) h.1
  wide_leaf p (read.Name id) sign bits q e h = absurd h
  wide_leaf p (read.Number o) sign bits q e h = absurd h
  wide_leaf p (read.Digits o) sign bits q e h = absurd h
  wide_leaf p (read.Text s) sign bits q e h = absurd h
  wide_leaf p (read.Mark o) sign bits q e h = absurd h

module _ {D K A T : Type 0} (says : Saying K A T) (types : List T) where
  -- a name is the piece that names it
  pub name_shown : (p : Part D K A T) (x : Identifier) (t : ValueTree) → name_part p ≡ Some x → ShowsPart says types p t → (cs : List ℕ) × (ts : Pieces) × (t ≡ node (leaf (name cs)) ts) × (text_of x ≡ cs)
  name_shown p x (node (value_of_kind sorts.«Type» n) ts) e h = let f = ap name_part h.1 in cc
  name_shown p x (node (value_of_kind sorts.Attribute n) ts) e h = let f = ap name_part h.1 in cc
  name_shown p x (node list ts) e h = let f = ap name_part h.1 in cc
  name_shown p x (node item ts) e h = absurd h
  name_shown p x (node (chosen n) ts) e h = let f = ap name_part h.1 in cc
  name_shown p x (node (operands n) ts) e h = let f = ap name_part h in cc
  name_shown p x (node (successor n) ts) e h = let f = ap name_part h in cc
  name_shown p x (node region ts) e h = let f = ap name_part h in cc
  name_shown p x (node (leaf l) ts) e h =
      let named = name_leaf p h.0 l x h.1 e h.2 in
      (named.0, ts, ap (λ (k : Leaf). node (leaf k) ts) named.1, named.2)

  -- what is no name is no such piece
  pub not_name : (p : Part D K A T) (t : ValueTree) → name_part p ≡ None → ShowsPart says types p t → is_name t ≡ false
  not_name p (node (value_of_kind sort n) ts) e h = refl
  not_name p (node list ts) e h = refl
  not_name p (node item ts) e h = refl
  not_name p (node (chosen n) ts) e h = refl
  not_name p (node (operands n) ts) e h = refl
  not_name p (node (successor n) ts) e h = refl
  not_name p (node region ts) e h = refl
  not_name p (node (leaf (name cs)) ts) e h = absurd (no_name p h.0 cs h.1 e h.2)
  not_name p (node (leaf (number b m)) ts) e h = refl
  not_name p (node (leaf (unsigned m)) ts) e h = refl
  not_name p (node (leaf (width sign bits)) ts) e h = refl
  not_name p (node (leaf (quoted cs)) ts) e h = refl
  not_name p (node (leaf (mark m)) ts) e h = refl

  -- a type is the piece of what its handle stands for
  pub type_shown : (p : Part D K A T) (x : TypeHandle) (t : ValueTree) → type_part p ≡ Some x → ShowsPart says types p t → (n : ℕ) × (ts : Pieces) × (t ≡ node (value_of_kind sorts.«Type» n) ts) × ShowsType says types x (node (value_of_kind sorts.«Type» n) ts)
  type_shown p x (node (value_of_kind sorts.«Type» n) ts) e h = let f = ap type_part h.1 in let same : h.0 ≡ x = cc in (n, ts, refl, subst (λ (ty : TypeHandle). ShowsType says types ty (node (value_of_kind sorts.«Type» n) ts)) same h.2)
  type_shown p x (node (value_of_kind sorts.Attribute n) ts) e h = let f = ap type_part h.1 in cc
  type_shown p x (node list ts) e h = let f = ap type_part h.1 in cc
  type_shown p x (node item ts) e h = absurd h
  type_shown p x (node (chosen n) ts) e h = let f = ap type_part h.1 in cc
  type_shown p x (node (operands n) ts) e h = let f = ap type_part h in cc
  type_shown p x (node (successor n) ts) e h = let f = ap type_part h in cc
  type_shown p x (node region ts) e h = let f = ap type_part h in cc
  type_shown p x (node (leaf l) ts) e h = let f = ap type_part h.1 in cc

  -- what is no type is no such piece
  pub not_type : (p : Part D K A T) (t : ValueTree) → type_part p ≡ None → ShowsPart says types p t → is_type t ≡ false
  not_type p (node (value_of_kind sorts.«Type» n) ts) e h = let f = ap type_part h.1 in cc
  not_type p (node (value_of_kind sorts.Attribute n) ts) e h = refl
  not_type p (node list ts) e h = refl
  not_type p (node item ts) e h = refl
  not_type p (node (chosen n) ts) e h = refl
  not_type p (node (operands n) ts) e h = refl
  not_type p (node (successor n) ts) e h = refl
  not_type p (node region ts) e h = refl
  not_type p (node (leaf x) ts) e h = refl

  -- a region is that piece
  pub region_shown : (p : Part D K A T) (x : Unit {0}) (t : ValueTree) → region_part p ≡ Some x → ShowsPart says types p t → (ts : Pieces) × (t ≡ node region ts)
  region_shown p x (node (value_of_kind sorts.«Type» n) ts) e h = let f = ap region_part h.1 in cc
  region_shown p x (node (value_of_kind sorts.Attribute n) ts) e h = let f = ap region_part h.1 in cc
  region_shown p x (node list ts) e h = let f = ap region_part h.1 in cc
  region_shown p x (node item ts) e h = absurd h
  region_shown p x (node (chosen n) ts) e h = let f = ap region_part h.1 in cc
  region_shown p x (node (operands n) ts) e h = let f = ap region_part h in cc
  region_shown p x (node (successor n) ts) e h = let f = ap region_part h in cc
  region_shown p x (node region ts) e h = (ts, refl)
  region_shown p x (node (leaf l) ts) e h = let f = ap region_part h.1 in cc

  -- what is no region is no such piece
  pub not_region : (p : Part D K A T) (t : ValueTree) → region_part p ≡ None → ShowsPart says types p t → is_region t ≡ false
  not_region p (node (value_of_kind sort n) ts) e h = refl
  not_region p (node list ts) e h = refl
  not_region p (node item ts) e h = refl
  not_region p (node (chosen n) ts) e h = refl
  not_region p (node (operands n) ts) e h = refl
  not_region p (node (successor n) ts) e h = refl
  not_region p (node region ts) e h = let f = ap region_part h in cc
  not_region p (node (leaf x) ts) e h = refl

  -- an attribute is the piece of what it says
  pub attribute_shown : (p : Part D K A T) (x : A) (t : ValueTree) → attribute_part p ≡ Some x → ShowsPart says types p t → (n : ℕ) × (ts : Pieces) × (t ≡ node (value_of_kind sorts.Attribute n) ts) × ShowsAttribute says types x (node (value_of_kind sorts.Attribute n) ts)
  attribute_shown p x (node (value_of_kind sorts.«Type» n) ts) e h = let f = ap attribute_part h.1 in cc
  attribute_shown p x (node (value_of_kind sorts.Attribute n) ts) e h = let f = ap attribute_part h.1 in let same : h.0 ≡ x = cc in (n, ts, refl, subst (λ (a : A). ShowsAttribute says types a (node (value_of_kind sorts.Attribute n) ts)) same h.2)
  attribute_shown p x (node list ts) e h = let f = ap attribute_part h.1 in cc
  attribute_shown p x (node item ts) e h = absurd h
  attribute_shown p x (node (chosen n) ts) e h = let f = ap attribute_part h.1 in cc
  attribute_shown p x (node (operands n) ts) e h = let f = ap attribute_part h in cc
  attribute_shown p x (node (successor n) ts) e h = let f = ap attribute_part h in cc
  attribute_shown p x (node region ts) e h = let f = ap attribute_part h in cc
  attribute_shown p x (node (leaf l) ts) e h = let f = ap attribute_part h.1 in cc

  -- operands are the piece of their number
  pub operands_shown : (p : Part D K A T) (x : ℕ) (t : ValueTree) → operands_part p ≡ Some x → ShowsPart says types p t → (ts : Pieces) × (t ≡ node (operands x) ts)
  operands_shown p x (node (value_of_kind sorts.«Type» n) ts) e h = let f = ap operands_part h.1 in cc
  operands_shown p x (node (value_of_kind sorts.Attribute n) ts) e h = let f = ap operands_part h.1 in cc
  operands_shown p x (node list ts) e h = let f = ap operands_part h.1 in cc
  operands_shown p x (node item ts) e h = absurd h
  operands_shown p x (node (chosen n) ts) e h = let f = ap operands_part h.1 in cc
  operands_shown p x (node (operands n) ts) e h = let f = ap operands_part h in let same : n ≡ x = cc in (ts, ap (λ (i : ℕ). node (operands i) ts) same)
  operands_shown p x (node (successor n) ts) e h = let f = ap operands_part h in cc
  operands_shown p x (node region ts) e h = let f = ap operands_part h in cc
  operands_shown p x (node (leaf l) ts) e h = let f = ap operands_part h.1 in cc

  -- what is no operands is no such piece
  pub not_operands : (p : Part D K A T) (t : ValueTree) → operands_part p ≡ None → ShowsPart says types p t → are_operands t ≡ false
  not_operands p (node (value_of_kind sort n) ts) e h = refl
  not_operands p (node list ts) e h = refl
  not_operands p (node item ts) e h = refl
  not_operands p (node (chosen n) ts) e h = refl
  not_operands p (node (operands n) ts) e h = let f = ap operands_part h in cc
  not_operands p (node (successor n) ts) e h = refl
  not_operands p (node region ts) e h = refl
  not_operands p (node (leaf x) ts) e h = refl

  -- an edge is the piece of the number of operands that it hands on
  pub successor_shown : (p : Part D K A T) (x : ℕ) (t : ValueTree) → successor_part p ≡ Some x → ShowsPart says types p t → (ts : Pieces) × (t ≡ node (successor x) ts)
  successor_shown p x (node (value_of_kind sorts.«Type» n) ts) e h = let f = ap successor_part h.1 in cc
  successor_shown p x (node (value_of_kind sorts.Attribute n) ts) e h = let f = ap successor_part h.1 in cc
  successor_shown p x (node list ts) e h = let f = ap successor_part h.1 in cc
  successor_shown p x (node item ts) e h = absurd h
  successor_shown p x (node (chosen n) ts) e h = let f = ap successor_part h.1 in cc
  successor_shown p x (node (operands n) ts) e h = let f = ap successor_part h in cc
  successor_shown p x (node (successor n) ts) e h = let f = ap successor_part h in let same : n ≡ x = cc in (ts, ap (λ (i : ℕ). node (successor i) ts) same)
  successor_shown p x (node region ts) e h = let f = ap successor_part h in cc
  successor_shown p x (node (leaf l) ts) e h = let f = ap successor_part h.1 in cc

  -- what is no edge is no such piece
  pub not_successor : (p : Part D K A T) (t : ValueTree) → successor_part p ≡ None → ShowsPart says types p t → is_edge t ≡ false
  not_successor p (node (value_of_kind sort n) ts) e h = refl
  not_successor p (node list ts) e h = refl
  not_successor p (node item ts) e h = refl
  not_successor p (node (chosen n) ts) e h = refl
  not_successor p (node (operands n) ts) e h = refl
  not_successor p (node (successor n) ts) e h = let f = ap successor_part h in cc
  not_successor p (node region ts) e h = refl
  not_successor p (node (leaf x) ts) e h = refl

  -- one operand is that piece
  pub operand_shown : (p : Part D K A T) (t : ValueTree) → is_one_operand p ≡ true → ShowsPart says types p t → (ts : Pieces) × (t ≡ node (operands 1) ts)
  operand_shown p (node (value_of_kind sorts.«Type» n) ts) e h = let f = ap is_one_operand h.1 in cc
  operand_shown p (node (value_of_kind sorts.Attribute n) ts) e h = let f = ap is_one_operand h.1 in cc
  operand_shown p (node list ts) e h = let f = ap is_one_operand h.1 in cc
  operand_shown p (node item ts) e h = absurd h
  operand_shown p (node (chosen n) ts) e h = let f = ap is_one_operand h.1 in cc
  operand_shown p (node (operands n) ts) e h = (ts, ap (λ (i : ℕ). node (operands i) ts) (eqb-true n 1 (sym (ap is_one_operand h) ∙ e)))
  operand_shown p (node (successor n) ts) e h = let f = ap is_one_operand h in cc
  operand_shown p (node region ts) e h = let f = ap is_one_operand h in cc
  operand_shown p (node (leaf x) ts) e h = let f = ap is_one_operand h.1 in cc

  -- what is not one operand is no such piece
  pub not_operand : (p : Part D K A T) (t : ValueTree) → is_one_operand p ≡ false → ShowsPart says types p t → is_operand t ≡ false
  not_operand p (node (value_of_kind sort n) ts) e h = refl
  not_operand p (node list ts) e h = refl
  not_operand p (node item ts) e h = refl
  not_operand p (node (chosen n) ts) e h = refl
  not_operand p (node (operands n) ts) e h = sym (ap is_one_operand h) ∙ e
  not_operand p (node (successor n) ts) e h = refl
  not_operand p (node region ts) e h = refl
  not_operand p (node (leaf x) ts) e h = refl

  -- a number is that piece
  pub number_shown : (p : Part D K A T) (x : Number) (t : ValueTree) → number_part p ≡ Some x → ShowsPart says types p t → (ts : Pieces) × (t ≡ node (leaf (number x.is_negative x.magnitude)) ts)
  number_shown p x (node (value_of_kind sorts.«Type» n) ts) e h = let f = ap number_part h.1 in cc
  number_shown p x (node (value_of_kind sorts.Attribute n) ts) e h = let f = ap number_part h.1 in cc
  number_shown p x (node list ts) e h = let f = ap number_part h.1 in cc
  number_shown p x (node item ts) e h = absurd h
  number_shown p x (node (chosen n) ts) e h = let f = ap number_part h.1 in cc
  number_shown p x (node (operands n) ts) e h = let f = ap number_part h in cc
  number_shown p x (node (successor n) ts) e h = let f = ap number_part h in cc
  number_shown p x (node region ts) e h = let f = ap number_part h in cc
  number_shown p x (node (leaf l) ts) e h = (ts, ap (λ (k : Leaf). node (leaf k) ts) (number_leaf p h.0 l x h.1 e h.2))

  -- a list is the piece of its members
  pub list_shown : (p : Part D K A T) (x : Vec (Vec (Part D K A T) Global) Global) (t : ValueTree) → list_part p ≡ Some x → ShowsPart says types p t → (ts : Pieces) × (t ≡ node list ts) × ShowsMembers says types x.items ts
  list_shown p x (node (value_of_kind sorts.«Type» n) ts) e h = none_some x (sym (no_list-Type h.0) ∙ (sym (ap list_part h.1) ∙ e))
  list_shown p x (node (value_of_kind sorts.Attribute n) ts) e h = none_some x (sym (no_list-Attribute h.0) ∙ (sym (ap list_part h.1) ∙ e))
  list_shown p x (node list ts) e h = let same : h.0 ≡ x = some_same (sym (a_list h.0) ∙ (sym (ap list_part h.1) ∙ e)) in (ts, refl, subst (λ (ms : Vec (Vec (Part D K A T) Global) Global). ShowsMembers says types ms.items ts) same h.2)
  list_shown p x (node item ts) e h = absurd h
  list_shown p x (node (chosen n) ts) e h = none_some x (sym (no_list-Choice n h.0) ∙ (sym (ap list_part h.1) ∙ e))
  list_shown p x (node (operands n) ts) e h = none_some x (sym (no_list-Operands n) ∙ (sym (ap list_part h) ∙ e))
  list_shown p x (node (successor n) ts) e h = none_some x (sym (no_list-Successor n) ∙ (sym (ap list_part h) ∙ e))
  list_shown p x (node region ts) e h = none_some x (sym (no_list-Region) ∙ (sym (ap list_part h) ∙ e))
  list_shown p x (node (leaf l) ts) e h = none_some x (sym (no_list-Leaf h.0) ∙ (sym (ap list_part h.1) ∙ e))

  -- an integer type is the piece of its width
  pub width_shown : (p : Part D K A T) (x : IntegerType) (t : ValueTree) → integer_part p ≡ Some x → ShowsPart says types p t → (ts : Pieces) × (t ≡ node (leaf (width x.signedness x.width)) ts)
  width_shown p x (node (value_of_kind sorts.«Type» n) ts) e h = let f = ap integer_part h.1 in cc
  width_shown p x (node (value_of_kind sorts.Attribute n) ts) e h = let f = ap integer_part h.1 in cc
  width_shown p x (node list ts) e h = let f = ap integer_part h.1 in cc
  width_shown p x (node item ts) e h = absurd h
  width_shown p x (node (chosen n) ts) e h = let f = ap integer_part h.1 in cc
  width_shown p x (node (operands n) ts) e h = let f = ap integer_part h in cc
  width_shown p x (node (successor n) ts) e h = let f = ap integer_part h in cc
  width_shown p x (node region ts) e h = let f = ap integer_part h in cc
  width_shown p x (node (leaf l) ts) e h = (ts, ap (λ (k : Leaf). node (leaf k) ts) (width_leaf p h.0 l x h.1 e h.2))

  -- what is no width of less than 2^32 bits is no such piece
  pub not_width : (p : Part D K A T) (t : ValueTree) → integer_part p ≡ None → ShowsPart says types p t → is_small_width t ≡ false
  not_width p (node (value_of_kind sort n) ts) e h = refl
  not_width p (node list ts) e h = refl
  not_width p (node item ts) e h = refl
  not_width p (node (chosen n) ts) e h = refl
  not_width p (node (operands n) ts) e h = refl
  not_width p (node (successor n) ts) e h = refl
  not_width p (node region ts) e h = refl
  not_width p (node (leaf (name cs)) ts) e h = refl
  not_width p (node (leaf (number b m)) ts) e h = refl
  not_width p (node (leaf (unsigned m)) ts) e h = refl
  not_width p (node (leaf (quoted cs)) ts) e h = refl
  not_width p (node (leaf (mark m)) ts) e h = refl
  not_width p (node (leaf (width sign bits)) ts) e h = let big = wide_leaf p h.0 sign bits h.1 e h.2 in grind (arith, nat_tests)

  -- parts are as many pieces
  pub one_shown : (p : Part D K A T) (ps : Pieces) → ShowsParts says types (p ∷ []) ps → (t : ValueTree) × (ps ≡ a_tree t no_tree) × ShowsPart says types p t
  one_shown p no_tree h = absurd h
  one_shown p (a_tree t no_tree) h = (t, refl, h.0)
  one_shown p (a_tree t (a_tree u us)) h = absurd h.1

  pub two_shown : (p q : Part D K A T) (ps : Pieces) → ShowsParts says types (p ∷ q ∷ []) ps → (t u : ValueTree) × (ps ≡ a_tree t (a_tree u no_tree)) × ShowsPart says types p t × ShowsPart says types q u
  two_shown p q no_tree h = absurd h
  two_shown p q (a_tree t us) h = let rest = one_shown q us h.1 in (t, rest.0, ap (λ (vs : Pieces). a_tree t vs) rest.1, h.0, rest.2)

  pub three_shown : (p q r : Part D K A T) (ps : Pieces) → ShowsParts says types (p ∷ q ∷ r ∷ []) ps → (t u v : ValueTree) × (ps ≡ a_tree t (a_tree u (a_tree v no_tree))) × ShowsPart says types p t × ShowsPart says types q u × ShowsPart says types r v
  three_shown p q r no_tree h = absurd h
  three_shown p q r (a_tree t us) h = let rest = two_shown q r us h.1 in (t, rest.0, rest.1, ap (λ (vs : Pieces). a_tree t vs) rest.2, h.0, rest.3, rest.4)

  -- tests of pieces fail where those of the parts do
  pub not_one : (f : ValueTree → Bool) (parts : List (Part D K A T)) (ps : Pieces) → ShowsParts says types parts ps → ((p : Part D K A T) (t : ValueTree) → parts ≡ p ∷ [] → ShowsPart says types p t → f t ≡ false) → is_one f ps ≡ false
  not_one f parts no_tree h k = refl
  not_one f [] (a_tree t ts) h k = absurd h
  not_one f (p ∷ []) (a_tree t no_tree) h k = k p t refl h.0
  not_one f (p ∷ q ∷ rs) (a_tree t no_tree) h k = absurd h.1
  not_one f (p ∷ rs) (a_tree t (a_tree u us)) h k = refl

  pub not_two : (f g : ValueTree → Bool) (parts : List (Part D K A T)) (ps : Pieces) → ShowsParts says types parts ps → ((p q : Part D K A T) (t u : ValueTree) → parts ≡ p ∷ q ∷ [] → ShowsPart says types p t → ShowsPart says types q u → (f t && g u) ≡ false) → are_two f g ps ≡ false
  not_two f g parts no_tree h k = refl
  not_two f g [] (a_tree t ts) h k = absurd h
  not_two f g (p ∷ rs) (a_tree t no_tree) h k = refl
  not_two f g (p ∷ []) (a_tree t (a_tree u us)) h k = absurd h.1
  not_two f g (p ∷ q ∷ []) (a_tree t (a_tree u no_tree)) h k = k p q t u refl h.0 h.1.0
  not_two f g (p ∷ q ∷ r ∷ rs) (a_tree t (a_tree u no_tree)) h k = absurd h.1.1
  not_two f g (p ∷ q ∷ rs) (a_tree t (a_tree u (a_tree v vs))) h k = refl

  pub not_three_pieces : (f g k : ValueTree → Bool) (parts : List (Part D K A T)) (ps : Pieces) → ShowsParts says types parts ps → ((p q r : Part D K A T) (t u v : ValueTree) → parts ≡ p ∷ q ∷ r ∷ [] → ShowsPart says types p t → ShowsPart says types q u → ShowsPart says types r v → (f t && (g u && k v)) ≡ false) → are_three f g k ps ≡ false
  not_three_pieces f g k parts no_tree h j = refl
  not_three_pieces f g k [] (a_tree t ts) h j = absurd h
  not_three_pieces f g k (p ∷ rs) (a_tree t no_tree) h j = either_false (f t)
  not_three_pieces f g k (p ∷ rs) (a_tree t (a_tree u no_tree)) h j = either_false (f t)
  not_three_pieces f g k (p ∷ []) (a_tree t (a_tree u us)) h j = absurd h.1
  not_three_pieces f g k (p ∷ q ∷ []) (a_tree t (a_tree u (a_tree v vs))) h j = absurd h.1.1
  not_three_pieces f g k (p ∷ q ∷ r ∷ []) (a_tree t (a_tree u (a_tree v no_tree))) h j = j p q r t u v refl h.0 h.1.0 h.1.1.0
  not_three_pieces f g k (p ∷ q ∷ r ∷ s ∷ rs) (a_tree t (a_tree u (a_tree v no_tree))) h j = absurd h.1.1.1
  not_three_pieces f g k (p ∷ q ∷ r ∷ rs) (a_tree t (a_tree u (a_tree v (a_tree w ws)))) h j = either_false (f t)
