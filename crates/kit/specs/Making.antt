-- What is made of parts.
use Rattle.std.specs.Prelude.{◌≡◌, ℕ, zero, suc, ◌&&◌, List, [], ◌∷◌, Option, Some, None, is_some, option_map, option_and_then, cond, Vec}
use Rattle.std.specs.Global.{Global}
use Rattle.std.specs.Option.{option_map_or}
use Rattle.ir_base.specs.declared.types.TypeHandle.{TypeHandle}
use Rattle.ir_names.specs.declared.identifier.Identifier.{Identifier}
use Rattle.ir_names.specs.Identifier.{text_of}
use Rattle.ir_names.specs.Tree.{Trees, node}
use Rattle.ir_print.specs.declared.format.Part.{Part}
use Rattle.ir_print.specs.Pieces.{Pieces, value_of_kind}
use Rattle.ir_print.specs.declared.format.ValueSort.TheVariants as sorts
use Rattle.ir_print.specs.Shown.{Said, Pairs, ShowsAll, ShowsType, ShowsParts, ShowsKey, ShowsAttribute, operands_said}
use Rattle.kit_ops.specs.declared.kinds.KitOp.{KitOp}
use Rattle.kit_ops.specs.declared.types.IntegerType.{IntegerType}
use Rattle.kit_ops.specs.declared.types.KitType.{KitType}
use Rattle.kit_ops.specs.declared.types.KitType.TheVariants as keys
use Rattle.kit_ops.specs.declared.attributes.IntegerAttr.{IntegerAttr}
use Rattle.kit_ops.specs.declared.attributes.KitAttr.{KitAttr}
use Rattle.kit.specs.Forms.{OpForm}
use Rattle.kit.specs.Parts.{type_part, integer_part, list_part, choice_part, size_part, text_part, name_part, region_part, attribute_part, operands_part, successor_part, is_one_operand, integer_of}
use Rattle.kit.specs.Says.{says, said_in, refused_type, refused_attribute, refused_in, result_types_in, canonical}

module _ {D : Type 0} where
  -- the type that parts are, if they are one
  abbrev pub one_type : List (Part D KitOp KitAttr KitType) → Option TypeHandle
  one_type (p ∷ []) = type_part p
  one_type _ = None

  -- the name that parts are, if they are one
  abbrev pub one_name : List (Part D KitOp KitAttr KitType) → Option Identifier
  one_name (p ∷ []) = name_part p
  one_name _ = None

  -- the number of at most 32 bits that parts are, if they are one
  abbrev pub one_size : List (Part D KitOp KitAttr KitType) → Option ℕ
  one_size (p ∷ []) = size_part p
  one_size _ = None

  -- the bytes of the text in quotes that parts are, if they are one
  abbrev pub one_text : List (Part D KitOp KitAttr KitType) → Option (List ℕ)
  one_text (p ∷ []) = text_part p
  one_text _ = None

  -- the text of the name that the format with this number says, or that there is none
  abbrev pub given_name_of : ℕ → List (Part D KitOp KitAttr KitType) → Option (Option (List ℕ))
  given_name_of zero ps = option_map (λ id. Some (text_of id)) (one_name ps)
  given_name_of (suc zero) [] = Some None
  given_name_of _ ps = None

  -- the same of parts that are one choice
  abbrev pub one_given_name : List (Part D KitOp KitAttr KitType) → Option (Option (List ℕ))
  one_given_name (p ∷ []) = option_and_then (λ c. given_name_of c.0 c.1.items) (choice_part p)
  one_given_name _ = None

  -- the members of the list that parts are, if they are one
  abbrev pub one_list : List (Part D KitOp KitAttr KitType) → Option (Vec (Vec (Part D KitOp KitAttr KitType) Global) Global)
  one_list (p ∷ []) = list_part p
  one_list _ = None

  -- the integer type that parts are, if they are one width
  abbrev pub one_integer_type : List (Part D KitOp KitAttr KitType) → Option IntegerType
  one_integer_type (p ∷ []) = integer_part p
  one_integer_type _ = None

  -- the two lists that parts are, if they are two
  abbrev pub two_lists : List (Part D KitOp KitAttr KitType) → Option (Vec (Vec (Part D KitOp KitAttr KitType) Global) Global × Vec (Vec (Part D KitOp KitAttr KitType) Global) Global)
  two_lists (p ∷ q ∷ []) = option_and_then (λ ms. option_map (λ ns. (ms, ns)) (list_part q)) (list_part p)
  two_lists _ = None

  -- the name of parts that are a name and a region
  abbrev pub module_name : List (Part D KitOp KitAttr KitType) → Option Identifier
  module_name (p ∷ q ∷ []) = option_and_then (λ u. name_part p) (region_part q)
  module_name _ = None

  -- the name and the type of parts that are a name, a type and a region
  abbrev pub function_header : List (Part D KitOp KitAttr KitType) → Option (Identifier × TypeHandle)
  function_header (p ∷ q ∷ r ∷ []) = option_and_then (λ id. option_and_then (λ ty. option_map (λ u. (id, ty)) (region_part r)) (type_part q)) (name_part p)
  function_header _ = None

  -- the integer that parts are, if they are one
  abbrev pub one_integer : List (Part D KitOp KitAttr KitType) → Option IntegerAttr
  one_integer (p ∷ []) = option_and_then integer_of (attribute_part p)
  one_integer _ = None

  -- the number of operands that parts are, if they are operands
  abbrev pub one_operands : List (Part D KitOp KitAttr KitType) → Option ℕ
  one_operands (p ∷ []) = operands_part p
  one_operands _ = None

  -- the type of parts that are two operands and a type
  abbrev pub pair_type : List (Part D KitOp KitAttr KitType) → Option TypeHandle
  pair_type (p ∷ q ∷ r ∷ []) = cond (is_one_operand p && is_one_operand q) (type_part r) None
  pair_type _ = None

  -- the attribute that parts are, if they are one
  abbrev pub one_attribute : List (Part D KitOp KitAttr KitType) → Option KitAttr
  one_attribute (p ∷ []) = attribute_part p
  one_attribute _ = None

  -- a constant of these parts has so many results
  abbrev pub results_of_constant : List (Part D KitOp KitAttr KitType) → ℕ
  results_of_constant parts = option_map_or (λ a. 1) (one_attribute parts) 0

  -- an operation with two operands has so many results, where it says a type behind them
  abbrev pub results_of_pair : List (Part D KitOp KitAttr KitType) → ℕ
  results_of_pair (p ∷ q ∷ r ∷ []) = 1
  results_of_pair _ = 0

  -- the type of the function of a call of these parts
  abbrev pub type_called : List (Part D KitOp KitAttr KitType) → Option TypeHandle
  type_called (p ∷ q ∷ r ∷ []) = type_part r
  type_called _ = None

  -- the name and the type of parts that are a name, operands and a type
  abbrev pub call_header : List (Part D KitOp KitAttr KitType) → Option (Identifier × TypeHandle)
  call_header (p ∷ q ∷ r ∷ []) = option_and_then (λ id. option_and_then (λ ty. option_map (λ n. (id, ty)) (operands_part q)) (type_part r)) (name_part p)
  call_header _ = None

  -- the number of operands that parts hand on, if they are an edge
  abbrev pub one_edge : List (Part D KitOp KitAttr KitType) → Option ℕ
  one_edge (p ∷ []) = successor_part p
  one_edge _ = None

  -- the numbers of operands that the edges hand on, of parts that are one operand and two edges
  abbrev pub edge_counts : List (Part D KitOp KitAttr KitType) → Option (ℕ × ℕ)
  edge_counts (p ∷ q ∷ r ∷ []) =
      cond (is_one_operand p) (option_and_then (λ a. option_map (λ b. (a, b)) (successor_part r)) (successor_part q)) None
  edge_counts _ = None

  -- what the members of a list are, if each is one
  abbrev pub each_member : {X : Type 0} → (List (Part D KitOp KitAttr KitType) → Option X) → List (Vec (Part D KitOp KitAttr KitType) Global) → Option (List X)
  each_member of [] = Some []
  each_member of (m ∷ ms) = option_and_then (λ x. option_map (λ xs. x ∷ xs) (each_member of ms)) (of m.items)

  -- the number of the first member that is none, where the members have numbers from this one on
  abbrev pub first_unread : {X : Type 0} → (List (Part D KitOp KitAttr KitType) → Option X) → ℕ → List (Vec (Part D KitOp KitAttr KitType) Global) → Option ℕ
  first_unread of i [] = None
  first_unread of i (m ∷ ms) = cond (is_some (of m.items)) (first_unread of (suc i) ms) (Some i)

  -- the types that the members of a list are, if each is one
  abbrev pub each_type : List (Vec (Part D KitOp KitAttr KitType) Global) → Option (List TypeHandle)
  each_type [] = Some []
  each_type (m ∷ ms) = option_and_then (λ ty. option_map (λ tys. ty ∷ tys) (each_type ms)) (one_type m.items)

  -- the parts give this type, of the kind with the number
  abbrev pub MakesTypeOfKind : ℕ → List (Part D KitOp KitAttr KitType) → KitType → Type 0
  MakesTypeOfKind n parts key = (types : List KitType) (ps : Pieces) → ShowsParts says types parts ps → (refused_type n ps ≡ None) × ShowsKey says types key n ps

  -- the parts give no type of the kind with the number: this part is refused
  abbrev pub RefusesTypeOfKind : ℕ → List (Part D KitOp KitAttr KitType) → ℕ → Type 0
  RefusesTypeOfKind n parts i = (types : List KitType) (ps : Pieces) → ShowsParts says types parts ps → refused_type n ps ≡ Some i

  -- the parts give this attribute, of the kind with the number
  abbrev pub MakesAttributeOfKind : ℕ → List (Part D KitOp KitAttr KitType) → KitAttr → Type 0
  MakesAttributeOfKind n parts attr = (types : List KitType) (ps : Pieces) → ShowsParts says types parts ps →
      (refused_attribute n ps ≡ None) × ShowsAttribute says types attr (node (value_of_kind sorts.Attribute n) (canonical n ps))

  -- the parts give no attribute of the kind with the number: this part is refused
  abbrev pub RefusesAttributeOfKind : ℕ → List (Part D KitOp KitAttr KitType) → ℕ → Type 0
  RefusesAttributeOfKind n parts i = (types : List KitType) (ps : Pieces) → ShowsParts says types parts ps → refused_attribute n ps ≡ Some i

-- the types of the results of a function type; none of another type
abbrev pub returned_by : Option KitType → List TypeHandle
returned_by (Some (keys.Function f)) = f.results.items
returned_by _ = []

-- an operation of a form with these attributes and results of these types says the pieces
pub record FormDrafts (form : OpForm) (types : List KitType) (ps : Pieces) (attributes : List (List ℕ × KitAttr)) (tys : List TypeHandle) : Type 0 where
  pub pieces : Trees (Said KitAttr)
  pub said : said_in form attributes (operands_said ps) tys ≡ Some pieces
  pub shown : ShowsAll says types pieces ps
  pub typed : Pairs (ShowsType says types) tys (result_types_in form ps)

module _ {D : Type 0} where
  -- the parts give an operation of a form with these attributes and types of results, in a context that now has these types
  abbrev pub MakesForm : OpForm → List (Part D KitOp KitAttr KitType) → (old new : List KitType) → List (List ℕ × KitAttr) → List TypeHandle → Type 0
  MakesForm form parts old new attributes tys = (ps : Pieces) → ShowsParts says old parts ps → (refused_in form ps ≡ None) × FormDrafts form new ps attributes tys

  -- the parts give no operation of the form: this part is refused
  abbrev pub RefusesForm : OpForm → List (Part D KitOp KitAttr KitType) → List KitType → ℕ → Type 0
  RefusesForm form parts old i = (ps : Pieces) → ShowsParts says old parts ps → refused_in form ps ≡ Some i
