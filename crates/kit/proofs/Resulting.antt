-- How many results pieces say, by the parts that they show.
use Rattle.std.proofs.Common.{◌≡◌, ◌∙◌, ◌⊎◌, inl, inr, ℕ, zero, suc, ◌^◌, ◌&&◌, Bool, true, nat_lt, List, [], ◌∷◌, length, Option, Some, option_and_then, refl, sym, ap}
use Rattle.std.specs.List.{slice_get}
use Rattle.std.specs.Option.{option_map_or}
use Rattle.ir_base.specs.declared.types.TypeHandle.{TypeHandle}
use Rattle.ir_names.specs.Tree.{Trees, node, no_tree, a_tree}
use Rattle.ir_print.specs.declared.format.Part.{Part}
use Rattle.ir_print.specs.declared.format.ValueSort.TheVariants as sorts
use Rattle.ir_print.specs.Pieces.{value_of_kind, list, item, chosen, operands, successor, region, leaf, ValueTree, Pieces}
use Rattle.ir_print.specs.Shown.{Said, Pairs, ShowsAll, ShowsPart, ShowsParts, ShowsType}
use Rattle.kit_ops.specs.declared.attributes.IntegerAttr.{IntegerAttr}
use Rattle.kit_ops.specs.declared.attributes.KitAttr.{KitAttr}
use Rattle.kit_ops.specs.declared.kinds.KitOp.{KitOp}
use Rattle.kit_ops.specs.declared.kinds.KitOp.TheVariants as ops
use Rattle.kit_ops.specs.declared.types.KitType.{KitType}
use Rattle.kit_ops.specs.declared.types.KitType.TheVariants as keys
use Rattle.kit.specs.Forms.{NamedRegion, TypedRegion, OneOperand, AnyOperands, Edge, ConditionEdges, form_of, read_ops}
use Rattle.kit.specs.Making.{results_of_constant, results_of_pair, returned_by, type_called}
use Rattle.kit.specs.Numbers.{printed_number}
use Rattle.kit.specs.Parts.{attribute_part, type_part}
use Rattle.kit.specs.Readable.{attribute_by}
use Rattle.kit.specs.Says.{says, has_values, integer_said, said_of_attribute, constant_types, integer_types, pair_types, call_types, types_returned, result_types}
use Rattle.kit.proofs.Drafted.{fits_bits, fits_width, integer_typed}
use Rattle.kit.proofs.Numbered.{typed_so}
use Rattle.kit.proofs.Returned.{returned_shown}

as_many : {X Y : Type 0} (R : X → Y → Type 0) (xs : List X) (ys : List Y) → Pairs R xs ys → length xs ≡ length ys
as_many R [] [] h = refl
as_many R [] (y ∷ ys) h = absurd h
as_many R (x ∷ xs) [] h = absurd h
as_many R (x ∷ xs) (y ∷ ys) h = ap suc (as_many R xs ys h.1)

-- ---- constants

-- so many attributes are there
abbrev attributes_in : Option KitAttr → ℕ
attributes_in o = option_map_or (λ a. 1) o 0

abbrev constant_of : ℕ → Pieces → Pieces
constant_of n ts = a_tree (node (value_of_kind sorts.Attribute n) ts) no_tree

module _ (types : List KitType) where
  -- what an attribute says gives a constant one type
  abbrev GivesOneType : ℕ → Trees (Said KitAttr) → Type 0
  GivesOneType n us = (ts : Pieces) → ShowsAll says types us ts → 1 ≡ length (constant_types (constant_of n ts))

  -- an integer gives its own
  integer_counted : (a : IntegerAttr) → has_values a.integer.width ≡ true → nat_lt a.bits (2 ^ a.integer.width) ≡ true → GivesOneType 0 (integer_said a.integer.signedness a.integer.width (printed_number a))
  integer_counted a wide fits ts h =
      let ty : TypeHandle = record { number = 0 } in
      let both : fits_bits a ≡ true = ap (λ (b : Bool). b && nat_lt a.bits (2 ^ a.integer.width)) wide ∙ fits in
      let typed = integer_typed types (keys.Integer a.integer ∷ []) a.integer ty _ ts (fits_width a both) refl h in
      as_many (ShowsType says (keys.Integer a.integer ∷ [])) (ty ∷ []) (integer_types ts) typed

  attribute_counted : (attr : KitAttr) (n : ℕ) (us : Trees (Said KitAttr)) → said_of_attribute attr ≡ Some (n, us) → GivesOneType n us
  attribute_counted = attribute_by (λ a n us. GivesOneType n us) integer_counted (λ id ts h. refl) (λ ty ts h. refl) (λ sizes small ts h. refl) (λ names ts h. refl) (λ text ts h. refl) (λ text ts h. refl)

-- two pieces or more are no constant
not_alone : (t u : ValueTree) (us : Pieces) → constant_types (a_tree t (a_tree u us)) ≡ []
not_alone (node (value_of_kind sorts.«Type» n) ts) u us = refl
not_alone (node (value_of_kind sorts.Attribute zero) ts) u us = refl
not_alone (node (value_of_kind sorts.Attribute (suc n)) ts) u us = refl
not_alone (node _ ts) u us = refl

-- so many results has the type under a handle, if there is one
abbrev called : List KitType → Option TypeHandle → ℕ
called types o = length (returned_by (option_and_then (λ (ty : TypeHandle). slice_get types ty.number) o))

module _ {D : Type 0} (types : List KitType) where
  alone_counted : (p : Part D KitOp KitAttr KitType) (t : ValueTree) → ShowsPart says types p t → attributes_in (attribute_part p) ≡ length (constant_types (a_tree t no_tree))
  alone_counted p (node (value_of_kind sorts.«Type» n) ts) h = ap (λ (q : Part D KitOp KitAttr KitType). attributes_in (attribute_part q)) h.1
  alone_counted p (node (value_of_kind sorts.Attribute n) ts) h =
      ap (λ (q : Part D KitOp KitAttr KitType). attributes_in (attribute_part q)) h.1 ∙ attribute_counted types h.2.0 n h.2.1 h.2.3 ts h.2.4
  alone_counted p (node list ts) h = ap (λ (q : Part D KitOp KitAttr KitType). attributes_in (attribute_part q)) h.1
  alone_counted p (node item ts) h = absurd h
  alone_counted p (node (chosen n) ts) h = ap (λ (q : Part D KitOp KitAttr KitType). attributes_in (attribute_part q)) h.1
  alone_counted p (node (operands n) ts) h = ap (λ (q : Part D KitOp KitAttr KitType). attributes_in (attribute_part q)) h
  alone_counted p (node (successor n) ts) h = ap (λ (q : Part D KitOp KitAttr KitType). attributes_in (attribute_part q)) h
  alone_counted p (node region ts) h = ap (λ (q : Part D KitOp KitAttr KitType). attributes_in (attribute_part q)) h
  alone_counted p (node (leaf x) ts) h = ap (λ (q : Part D KitOp KitAttr KitType). attributes_in (attribute_part q)) h.1

  pub constant_counted : (parts : List (Part D KitOp KitAttr KitType)) (ps : Pieces) → ShowsParts says types parts ps → results_of_constant parts ≡ length (constant_types ps)
  constant_counted [] no_tree h = refl
  constant_counted [] (a_tree t ts) h = absurd h
  constant_counted (p ∷ rs) no_tree h = absurd h
  constant_counted (p ∷ []) (a_tree t no_tree) h = alone_counted p t h.0
  constant_counted (p ∷ []) (a_tree t (a_tree u us)) h = absurd h.1
  constant_counted (p ∷ q ∷ rs) (a_tree t no_tree) h = absurd h.1
  constant_counted (p ∷ q ∷ rs) (a_tree t (a_tree u us)) h = ap length (sym (not_alone t u us))

  -- ---- two operands

  pub pair_counted : (parts : List (Part D KitOp KitAttr KitType)) (ps : Pieces) → ShowsParts says types parts ps → results_of_pair parts ≡ length (pair_types ps)
  pair_counted [] no_tree h = refl
  pair_counted [] (a_tree t ts) h = absurd h
  pair_counted (p ∷ rs) no_tree h = absurd h
  pair_counted (p ∷ []) (a_tree t no_tree) h = refl
  pair_counted (p ∷ []) (a_tree t (a_tree u us)) h = absurd h.1
  pair_counted (p ∷ q ∷ rs) (a_tree t no_tree) h = absurd h.1
  pair_counted (p ∷ q ∷ []) (a_tree t (a_tree u no_tree)) h = refl
  pair_counted (p ∷ q ∷ []) (a_tree t (a_tree u (a_tree v vs))) h = absurd h.1.1
  pair_counted (p ∷ q ∷ r ∷ rs) (a_tree t (a_tree u no_tree)) h = absurd h.1.1
  pair_counted (p ∷ q ∷ r ∷ []) (a_tree t (a_tree u (a_tree v no_tree))) h = refl
  pair_counted (p ∷ q ∷ r ∷ []) (a_tree t (a_tree u (a_tree v (a_tree w ws)))) h = absurd h.1.1.1
  pair_counted (p ∷ q ∷ r ∷ o ∷ rs) (a_tree t (a_tree u (a_tree v no_tree))) h = absurd h.1.1.1
  pair_counted (p ∷ q ∷ r ∷ o ∷ rs) (a_tree t (a_tree u (a_tree v (a_tree w ws)))) h = refl

  -- ---- calls

  third_counted : (p : Part D KitOp KitAttr KitType) (t : ValueTree) → ShowsPart says types p t → called types (type_part p) ≡ length (types_returned t)
  third_counted p (node (value_of_kind sorts.«Type» n) ts) h =
      ap (λ (q : Part D KitOp KitAttr KitType). called types (type_part q)) h.1
      ∙ as_many (ShowsType says types) (returned_by (slice_get types h.0.number)) (types_returned (node (value_of_kind sorts.«Type» n) ts)) (returned_shown types h.0 n ts h.2)
  third_counted p (node (value_of_kind sorts.Attribute n) ts) h = ap (λ (q : Part D KitOp KitAttr KitType). called types (type_part q)) h.1
  third_counted p (node list ts) h = ap (λ (q : Part D KitOp KitAttr KitType). called types (type_part q)) h.1
  third_counted p (node item ts) h = absurd h
  third_counted p (node (chosen n) ts) h = ap (λ (q : Part D KitOp KitAttr KitType). called types (type_part q)) h.1
  third_counted p (node (operands n) ts) h = ap (λ (q : Part D KitOp KitAttr KitType). called types (type_part q)) h
  third_counted p (node (successor n) ts) h = ap (λ (q : Part D KitOp KitAttr KitType). called types (type_part q)) h
  third_counted p (node region ts) h = ap (λ (q : Part D KitOp KitAttr KitType). called types (type_part q)) h
  third_counted p (node (leaf x) ts) h = ap (λ (q : Part D KitOp KitAttr KitType). called types (type_part q)) h.1

  pub call_counted : (parts : List (Part D KitOp KitAttr KitType)) (ps : Pieces) → ShowsParts says types parts ps → called types (type_called parts) ≡ length (call_types ps)
  call_counted [] no_tree h = refl
  call_counted [] (a_tree t ts) h = absurd h
  call_counted (p ∷ rs) no_tree h = absurd h
  call_counted (p ∷ []) (a_tree t no_tree) h = refl
  call_counted (p ∷ []) (a_tree t (a_tree u us)) h = absurd h.1
  call_counted (p ∷ q ∷ rs) (a_tree t no_tree) h = absurd h.1
  call_counted (p ∷ q ∷ []) (a_tree t (a_tree u no_tree)) h = refl
  call_counted (p ∷ q ∷ []) (a_tree t (a_tree u (a_tree v vs))) h = absurd h.1.1
  call_counted (p ∷ q ∷ r ∷ rs) (a_tree t (a_tree u no_tree)) h = absurd h.1.1
  call_counted (p ∷ q ∷ r ∷ []) (a_tree t (a_tree u (a_tree v no_tree))) h = third_counted r v h.1.1.0
  call_counted (p ∷ q ∷ r ∷ []) (a_tree t (a_tree u (a_tree v (a_tree w ws)))) h = absurd h.1.1.1
  call_counted (p ∷ q ∷ r ∷ o ∷ rs) (a_tree t (a_tree u (a_tree v no_tree))) h = absurd h.1.1.1
  call_counted (p ∷ q ∷ r ∷ o ∷ rs) (a_tree t (a_tree u (a_tree v (a_tree w ws)))) h = refl

-- ---- kinds without results

pub without_results : (n : ℕ) (ps : Pieces) (kind : KitOp) → slice_get read_ops n ≡ Some kind
    → (kind ≡ ops.Module) ⊎ ((kind ≡ ops.Func) ⊎ ((kind ≡ ops.Emit) ⊎ ((kind ≡ ops.Return) ⊎ ((kind ≡ ops.Br) ⊎ (kind ≡ ops.CondBr))))) → result_types n ps ≡ []
without_results n ps kind at (inl e) = typed_so n ps kind NamedRegion at (ap form_of e)
without_results n ps kind at (inr (inl e)) = typed_so n ps kind TypedRegion at (ap form_of e)
without_results n ps kind at (inr (inr (inl e))) = typed_so n ps kind OneOperand at (ap form_of e)
without_results n ps kind at (inr (inr (inr (inl e)))) = typed_so n ps kind AnyOperands at (ap form_of e)
without_results n ps kind at (inr (inr (inr (inr (inl e))))) = typed_so n ps kind Edge at (ap form_of e)
without_results n ps kind at (inr (inr (inr (inr (inr e))))) = typed_so n ps kind ConditionEdges at (ap form_of e)
