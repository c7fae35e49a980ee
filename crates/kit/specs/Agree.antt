-- Equal types say the same, and where no kind has a number, the first piece is refused.
use Rattle.std.specs.Prelude.{◌≡◌, ℕ, zero, suc, ◌^◌, nat_lt, true, List, [], ◌∷◌, Option, Some, None, is_some, option_and_then, slice_get, ◌==◌, refl}
use Rattle.std.proofs.Common.{ap, ◌∙◌}
use Rattle.std.specs.Cmp.Lexicographic.{pointwise}
use Rattle.std.proofs.lemmas.Bool.{and_parts, eqb-true, false≢true, true≢false}
use Rattle.ir_base.specs.declared.types.TypeHandle.{TypeHandle}
use Rattle.ir_names.specs.declared.kinds.Signedness.{Signedness}
use Rattle.ir_names.specs.declared.kinds.Signedness.TheVariants.{Signless, Signed, Unsigned}
use Rattle.ir_base.specs.contracts.types.TypeHandlePartialEq.TheImpl as of_handles
use Rattle.ir_names.specs.contracts.kinds.SignednessPartialEq.TheImpl as of_signs
use Rattle.ir_names.specs.Tree.{Trees, node, a_tree}
use Rattle.ir_print.specs.Pieces.{width, Pieces}
use Rattle.ir_print.specs.Shown.{Said, said_type, said_leaf, said_list, said_item, alone}
use Rattle.kit_ops.specs.declared.types.KitType.{KitType}
use Rattle.kit_ops.specs.declared.types.KitType.TheVariants as keys
use Rattle.kit_ops.specs.contracts.types.KitTypePartialEq.TheImpl as of_keys
use Rattle.kit_ops.specs.contracts.types.IntegerTypePartialEq.TheImpl as of_integers
use Rattle.kit_ops.specs.contracts.types.FunctionTypePartialEq.TheImpl as of_functions
use Rattle.kit_ops.specs.declared.types.FunctionType.{FunctionType}
use Rattle.kit_ops.specs.declared.attributes.KitAttr.{KitAttr}
use Rattle.kit_ops.specs.declared.types.IntegerType.{IntegerType}
use Rattle.kit.specs.Forms.{form_of, read_ops, read_types, read_attrs}
use Rattle.kit.specs.Says.{one, two, only, types_said, said_of_type, refused_type, refused_attribute, refused_by, refused_operation, result_types, result_types_by}

-- equal signs are the same
signs : (s t : Signedness) → (of_signs.ghosts).eq s t ≡ true → s ≡ t
signs Signless Signless h = refl
signs Signless Signed h = absurd (false≢true h)
signs Signless Unsigned h = absurd (false≢true h)
signs Signed Signless h = absurd (false≢true h)
signs Signed Signed h = refl
signs Signed Unsigned h = absurd (false≢true h)
signs Unsigned Signless h = absurd (false≢true h)
signs Unsigned Signed h = absurd (false≢true h)
signs Unsigned Unsigned h = refl

-- what the type of integers with a sign and a width says
abbrev width_said : Signedness → ℕ → Option (ℕ × Trees (Said KitAttr))
width_said s w = only (nat_lt w (2 ^ 32)) (Some (0, one (alone (said_leaf (width s w)))))

-- equal integer types say the same
integers : (i j : IntegerType) → (of_integers.ghosts).eq i j ≡ true → width_said i.signedness i.width ≡ width_said j.signedness j.width
integers i j h =
    let both = and_parts ((of_signs.ghosts).eq i.signedness j.signedness) (i.width == j.width) h in
    ap (λ s. width_said s i.width) (signs i.signedness j.signedness both.0) ∙ ap (λ (w : ℕ). width_said j.signedness w) (eqb-true i.width j.width both.1)

-- equal handles are the same
handles : (x y : TypeHandle) → (of_handles.ghosts).eq x y ≡ true → x ≡ y
handles x y h = ap (λ (n : ℕ). record { number = n }) (eqb-true x.number y.number h)

-- equal lists of types say the same
lists : (xs ys : List TypeHandle) → pointwise ((of_handles.ghosts).eq) xs ys ≡ true → types_said xs ≡ types_said ys
lists [] [] h = refl
lists [] (y ∷ ys) h = absurd (false≢true h)
lists (x ∷ xs) [] h = absurd (false≢true h)
lists (x ∷ xs) (y ∷ ys) h =
    let both = and_parts ((of_handles.ghosts).eq x y) (pointwise ((of_handles.ghosts).eq) xs ys) h in
    ap (λ z. a_tree (node said_item (one (alone (said_type z)))) (types_said xs)) (handles x y both.0) ∙ ap (λ zs. a_tree (node said_item (one (alone (said_type y)))) zs) (lists xs ys both.1)

-- what a function type with these inputs and results says
abbrev lists_said : Trees (Said KitAttr) → Trees (Said KitAttr) → Option (ℕ × Trees (Said KitAttr))
lists_said inputs results = Some (1, two (node said_list inputs) (node said_list results))

-- equal function types say the same
functions : (f g : FunctionType) → (of_functions.ghosts).eq f g ≡ true → lists_said (types_said f.inputs.items) (types_said f.results.items) ≡ lists_said (types_said g.inputs.items) (types_said g.results.items)
functions f g h =
    let both = and_parts (pointwise ((of_handles.ghosts).eq) f.inputs.items g.inputs.items) (pointwise ((of_handles.ghosts).eq) f.results.items g.results.items) h in
    ap (λ x. lists_said x (types_said f.results.items)) (lists f.inputs.items g.inputs.items both.0) ∙ ap (λ x. lists_said (types_said g.inputs.items) x) (lists f.results.items g.results.items both.1)

-- equal types say the same
pub same_says : (x y : KitType) → (of_keys.ghosts).eq x y ≡ true → said_of_type x ≡ said_of_type y
same_says (keys.Integer i) (keys.Integer j) h = integers i j h
same_says (keys.Integer i) (keys.Function g) h = absurd (false≢true h)
same_says (keys.Integer i) keys.Unit h = absurd (false≢true h)
same_says (keys.Function f) (keys.Integer j) h = absurd (false≢true h)
same_says (keys.Function f) (keys.Function g) h = functions f g h
same_says (keys.Function f) keys.Unit h = absurd (false≢true h)
same_says keys.Unit (keys.Integer j) h = absurd (false≢true h)
same_says keys.Unit (keys.Function g) h = absurd (false≢true h)
same_says keys.Unit keys.Unit h = refl

-- where no kind of types has the number
pub unknown_type : (n : ℕ) (ps : Pieces) → slice_get read_types n ≡ None → refused_type n ps ≡ Some 0
unknown_type zero ps h = absurd (true≢false (ap is_some h))
unknown_type (suc zero) ps h = absurd (true≢false (ap is_some h))
unknown_type (suc (suc zero)) ps h = absurd (true≢false (ap is_some h))
unknown_type (suc (suc (suc n))) ps h = refl

-- where no kind of attributes has the number
pub unknown_attribute : (n : ℕ) (ps : Pieces) → slice_get read_attrs n ≡ None → refused_attribute n ps ≡ Some 0
unknown_attribute zero ps h = absurd (true≢false (ap is_some h))
unknown_attribute (suc zero) ps h = absurd (true≢false (ap is_some h))
unknown_attribute (suc (suc zero)) ps h = absurd (true≢false (ap is_some h))
unknown_attribute (suc (suc (suc zero))) ps h = absurd (true≢false (ap is_some h))
unknown_attribute (suc (suc (suc (suc zero)))) ps h = absurd (true≢false (ap is_some h))
unknown_attribute (suc (suc (suc (suc (suc zero))))) ps h = absurd (true≢false (ap is_some h))
unknown_attribute (suc (suc (suc (suc (suc (suc zero)))))) ps h = absurd (true≢false (ap is_some h))
unknown_attribute (suc (suc (suc (suc (suc (suc (suc n))))))) ps h = refl

-- where no kind of operations has the number
pub unknown_operation : (n : ℕ) (ps : Pieces) → slice_get read_ops n ≡ None → (refused_operation n ps ≡ Some 0) × (result_types n ps ≡ [])
unknown_operation n ps h = (ap (λ kind. refused_by (option_and_then form_of kind) ps) h, ap (λ kind. result_types_by (option_and_then form_of kind) ps) h)
