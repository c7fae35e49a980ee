-- What parts that were read are, and the parts that are printed.
use Rattle.std.specs.Prelude.{◌≡◌, ◌==◌, ◌^◌, ℕ, Bool, false, Vec, List, [], ◌∷◌, ◌++◌, map, Option, Some, None, option_map, option_and_then, cond, nat_lt, String, string_bytes}
use Rattle.std.specs.Global.{Global}
use Rattle.ir_names.specs.declared.identifier.Identifier.{Identifier}
use Rattle.ir_names.specs.Identifier.{text_of}
use Rattle.ir_base.specs.declared.types.TypeHandle.{TypeHandle}
use Rattle.ir_print.specs.declared.format.Number.{Number}
use Rattle.ir_print.specs.Shown.{Pairs}
use Rattle.ir_print.specs.declared.format.Part.{Part, Part-F, out-Part}
use Rattle.ir_print.specs.declared.format.Part.TheVariants as parts
use Rattle.kit_ops.specs.declared.types.IntegerType.{IntegerType}
use Rattle.kit_ops.specs.declared.attributes.IntegerAttr.{IntegerAttr}
use Rattle.kit_ops.specs.declared.attributes.KitAttr.{KitAttr}
use Rattle.kit_ops.specs.declared.attributes.KitAttr.TheVariants as attrs
use Rattle.ir_print.specs.declared.format.LeafValue.TheVariants as read
use Rattle.kit.specs.Numbers.{HasFittingBits, printed_number}

-- the number, where it has at most 32 bits
abbrev pub small_size : ℕ → Option ℕ
small_size n = cond (nat_lt n (2 ^ 32)) (Some n) None

module _ {D A K T : Type 0} where
  -- the number that a part is
  abbrev pub number_part : Part D A K T → Option Number
  number_part (parts.Operands n) = None
  number_part (parts.Attribute a) = None
  number_part (parts.Type t) = None
  number_part parts.Region = None
  number_part (parts.Leaf (read.Name n)) = None
  number_part (parts.Leaf (read.Number n)) = n
  number_part (parts.Leaf (read.Width s w)) = None
  number_part other = None

  -- the integer type that a part is
  abbrev pub integer_part : Part D A K T → Option IntegerType
  integer_part (parts.Operands n) = None
  integer_part (parts.Attribute a) = None
  integer_part (parts.Type t) = None
  integer_part parts.Region = None
  integer_part (parts.Leaf (read.Name n)) = None
  integer_part (parts.Leaf (read.Number n)) = None
  integer_part (parts.Leaf (read.Width s w)) = option_map (λ n. record { signedness = s; width = n }) w
  integer_part other = None

  -- the type that a part is
  abbrev pub type_part : Part D A K T → Option TypeHandle
  type_part (parts.Operands n) = None
  type_part (parts.Attribute a) = None
  type_part (parts.Type t) = Some t
  type_part parts.Region = None
  type_part (parts.Leaf x) = None
  type_part other = None

  -- the name that a part is
  abbrev pub name_part : Part D A K T → Option Identifier
  name_part (parts.Operands n) = None
  name_part (parts.Attribute a) = None
  name_part (parts.Type t) = None
  name_part parts.Region = None
  name_part (parts.Leaf (read.Name n)) = Some n
  name_part (parts.Leaf (read.Number n)) = None
  name_part (parts.Leaf (read.Width s w)) = None
  name_part other = None

  -- whether a part is a region
  abbrev pub region_part : Part D A K T → Option (Unit {0})
  region_part (parts.Operands n) = None
  region_part (parts.Attribute a) = None
  region_part (parts.Type t) = None
  region_part parts.Region = Some tt
  region_part (parts.Leaf x) = None
  region_part other = None

  -- the attribute that a part is
  abbrev pub attribute_part : Part D A K T → Option K
  attribute_part (parts.Operands n) = None
  attribute_part (parts.Attribute a) = Some a
  attribute_part (parts.Type t) = None
  attribute_part parts.Region = None
  attribute_part (parts.Leaf x) = None
  attribute_part other = None

  -- the number of operands that a part is
  abbrev pub operands_part : Part D A K T → Option ℕ
  operands_part (parts.Operands n) = Some n
  operands_part (parts.Attribute a) = None
  operands_part (parts.Type t) = None
  operands_part parts.Region = None
  operands_part (parts.Leaf x) = None
  operands_part other = None

  -- the number of operands that a part, an edge, hands on
  abbrev pub successor_part : Part D A K T → Option ℕ
  successor_part (parts.Operands n) = None
  successor_part (parts.Successor n) = Some n
  successor_part (parts.Attribute a) = None
  successor_part (parts.Type t) = None
  successor_part parts.Region = None
  successor_part (parts.Leaf x) = None
  successor_part other = None

  -- the part is one operand
  abbrev pub is_one_operand : Part D A K T → Bool
  is_one_operand (parts.Operands n) = n == 1
  is_one_operand (parts.Attribute a) = false
  is_one_operand (parts.Type t) = false
  is_one_operand parts.Region = false
  is_one_operand (parts.Leaf x) = false
  is_one_operand other = false

  -- the number of at most 32 bits that a part is
  abbrev pub size_part : Part D A K T → Option ℕ
  size_part (parts.Operands n) = None
  size_part (parts.Attribute a) = None
  size_part (parts.Type t) = None
  size_part parts.Region = None
  size_part (parts.Leaf (read.Name n)) = None
  size_part (parts.Leaf (read.Number n)) = None
  size_part (parts.Leaf (read.Digits n)) = option_and_then small_size n
  size_part other = None

  -- the bytes of the text in quotes that a part is
  abbrev pub text_part : Part D A K T → Option (List ℕ)
  text_part (parts.Operands n) = None
  text_part (parts.Attribute a) = None
  text_part (parts.Type t) = None
  text_part parts.Region = None
  text_part (parts.Leaf (read.Name n)) = None
  text_part (parts.Leaf (read.Number n)) = None
  text_part (parts.Leaf (read.Width s w)) = None
  text_part (parts.Leaf (read.Text s)) = Some (string_bytes s)
  text_part other = None

  -- the list that a layer of a part is
  abbrev pub list_layer : Part-F D A K T (Part D A K T) → Option (Vec (Vec (Part D A K T) Global) Global)
  list_layer (Part-F.List ms) = Some ms
  list_layer other = None

  -- the list that a part is
  abbrev pub list_part : Part D A K T → Option (Vec (Vec (Part D A K T) Global) Global)
  list_part p = list_layer (out-Part D A K T p)

  -- the choice that a layer of a part is: the number of the format, and what it says
  abbrev pub choice_layer : Part-F D A K T (Part D A K T) → Option (ℕ × Vec (Part D A K T) Global)
  choice_layer (Part-F.Choice n ps) = Some (n, ps)
  choice_layer other = None

  -- the choice that a part is
  abbrev pub choice_part : Part D A K T → Option (ℕ × Vec (Part D A K T) Global)
  choice_part p = choice_layer (out-Part D A K T p)

  -- the part is a list with a member for each of these, which it stands in this relation to
  abbrev pub IsListOf : {X : Type 0} → (List (Part D A K T) → X → Type 0) → List X → Part D A K T → Type 0
  IsListOf R xs p = (ms : Vec (Vec (Part D A K T) Global) Global) × (p ≡ parts.List ms) × Pairs (λ m x. R m.items x) ms.items xs

  -- the parts are a number without a sign
  abbrev pub AreSizeParts : List (Part D A K T) → ℕ → Type 0
  AreSizeParts ps n = ps ≡ parts.Leaf (read.Digits (Some n)) ∷ []

  -- the parts are a name with this text, or say that there is none
  abbrev pub AreGivenNameParts : List (Part D A K T) → Option (List ℕ) → Type 0
  AreGivenNameParts ps (Some cs) =
      (id : Identifier) × (text_of id ≡ cs) × (inner : Vec (Part D A K T) Global) × (ps ≡ parts.Choice 0 inner ∷ []) × (inner.items ≡ parts.Leaf (read.Name id) ∷ [])
  AreGivenNameParts ps None = (inner : Vec (Part D A K T) Global) × (ps ≡ parts.Choice 1 inner ∷ []) × (inner.items ≡ [])

  -- the parts are a text in quotes, of these bytes
  abbrev pub AreTextParts : List ℕ → List (Part D A K T) → Type 0
  AreTextParts bytes ps = (text : String Global) × (string_bytes text ≡ bytes) × (ps ≡ parts.Leaf (read.Text text) ∷ [])

  -- the part is a list with a member for each of these types
  abbrev pub IsTypeList : List TypeHandle → Part D A K T → Type 0
  IsTypeList tys p = (ms : Vec (Vec (Part D A K T) Global) Global) × (p ≡ parts.List ms) × (map (λ m. m.items) ms.items ≡ map (λ ty. parts.Type ty ∷ []) tys)

  -- the parts are the name that an attribute is, and none where it is no name
  abbrev pub AreNameParts : Option KitAttr → List (Part D A K T) → Type 0
  AreNameParts (Some (attrs.Identifier id)) ps = (copy : Identifier) × (text_of copy ≡ text_of id) × (ps ≡ parts.Leaf (read.Name copy) ∷ [])
  AreNameParts _ ps = ps ≡ []

  -- the type that an attribute is, as parts
  abbrev pub type_parts_of : Option KitAttr → List (Part D A K T)
  type_parts_of (Some (attrs.Type ty)) = parts.Type ty ∷ []
  type_parts_of _ = []

  -- the parts of a module with this attribute as its name
  abbrev pub AreModuleParts : Option KitAttr → List (Part D A K T) → Type 0
  AreModuleParts o ps = (names : List (Part D A K T)) × AreNameParts o names × (ps ≡ names ++ parts.Region ∷ [])

  -- the parts of a function with these attributes as its name and its type
  abbrev pub AreFunctionParts : Option KitAttr → Option KitAttr → List (Part D A K T) → Type 0
  AreFunctionParts o p ps = (names : List (Part D A K T)) × AreNameParts o names × (ps ≡ names ++ (type_parts_of p ++ parts.Region ∷ []))

  -- the parts of a call with these attributes as its function's name and type, and with so many operands
  abbrev pub AreCallParts : Option KitAttr → Option KitAttr → ℕ → List (Part D A K T) → Type 0
  AreCallParts o p n ps = (names : List (Part D A K T)) × AreNameParts o names × (ps ≡ names ++ (parts.Operands n ∷ type_parts_of p))

  -- the parts of a conditional branch whose segments have these sizes: the condition, and the two edges
  abbrev pub edge_parts : List ℕ → List (Part D A K T)
  edge_parts (c ∷ a ∷ b ∷ []) = parts.Operands 1 ∷ parts.Successor a ∷ parts.Successor b ∷ []
  edge_parts _ = []

  -- the same with this attribute as its sizes, and none where it is no sizes
  abbrev pub condition_parts : Option KitAttr → List (Part D A K T)
  condition_parts (Some (attrs.SegmentSizes sizes)) = edge_parts sizes.items
  condition_parts _ = []

  -- an integer's number, and its type
  abbrev pub integer_parts : IntegerAttr → List (Part D A K T)
  integer_parts a = parts.Leaf (read.Number (Some (printed_number a))) ∷ parts.Leaf (read.Width a.integer.signedness (Some a.integer.width)) ∷ []

  -- an integer whose bits fit is printed as those parts
  abbrev pub HasPartsOf : KitAttr → List (Part D A K T) → Type 0
  HasPartsOf (attrs.Integer a) ps = HasFittingBits a → ps ≡ integer_parts a
  HasPartsOf _ ps = Unit {0}

-- the attribute is an integer with the same bits, of the same sign and width
abbrev pub IsSameInteger : IntegerAttr → KitAttr → Type 0
IsSameInteger a (attrs.Integer b) = (b.integer ≡ a.integer) × (b.bits ≡ a.bits)
IsSameInteger a _ = ⊥

-- the integer that an attribute is
abbrev pub integer_of : KitAttr → Option IntegerAttr
integer_of (attrs.Integer a) = Some a
integer_of _ = None
