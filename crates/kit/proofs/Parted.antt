-- The parts that values are printed with show what they say.
use Rattle.std.proofs.Common.{◌≡◌, ℕ, ◌==◌, ◌&&◌, List, [], ◌∷◌, ◌++◌, map, length, Option, Some, None, Result, Ok, Err, Vec, refl, sym, ap, ◌∙◌, subst}
use Rattle.std.specs.Result.{IfOk}
use Rattle.std.specs.Global.{Global}
use Rattle.std.specs.Option.{option_map, unwrap_or}
use Rattle.std.proofs.lemmas.Bool.{and_parts, eqb-true}
use Rattle.std.proofs.lemmas.Option.{none-some, same_Some, some_pair_parts}
use Rattle.ir_base.specs.declared.types.TypeHandle.{TypeHandle}
use Rattle.ir_names.specs.declared.identifier.Identifier.{Identifier}
use Rattle.ir_names.specs.Dictionary.{attribute_at}
use Rattle.ir_names.specs.Identifier.{text_of}
use Rattle.ir_names.specs.Tree.{Trees, node, no_tree, a_tree}
use Rattle.ir_print.specs.declared.format.Part.{Part}
use Rattle.ir_print.specs.declared.format.Part.TheVariants as part
use Rattle.ir_print.specs.Pieces.{name, ValueTree, Pieces}
use Rattle.ir_print.specs.Shown.{Said, said_type, said_attribute, said_list, said_item, said_region, said_leaf, said_operands, said_successor, alone, ShowsAll, ShowsPart, ShowsParts, ShowsMember, ShowsMembers, ShowsKey}
use Rattle.kit_ops.specs.declared.kinds.KitOp.{KitOp}
use Rattle.kit_ops.specs.Keys.{symbol_name, function_type, constant_value, callee, callee_type, segment_sizes}
use Rattle.ir_program.specs.Program.{Program, TypedValue, OperationView, operation_at, results_at, type_in}
use Rattle.ir_program.specs.Rows.{operands_at}
use Rattle.ir_program.specs.declared.handles.Ptr.{Ptr}
use Rattle.ir_program.specs.declared.handles.Operation.{Operation}
use Rattle.ir_context.specs.Kept.{kind_at, notes_at}
use Rattle.ir_context.specs.declared.notes.OperationData.{OperationData}
use Rattle.ir_context.specs.declared.notes.OperationNotes.{OperationNotes}
use Rattle.text_dialect.specs.Seen.{SeenOperation, seen_operation, types_of}
use Rattle.kit.specs.Forms.{OpForm, NamedRegion, TypedRegion, Value, TwoOperands, OneOperand, AnyOperands, Empty, Called, Edge, ConditionEdges, form_of, number_of}
use Rattle.kit_ops.specs.declared.types.KitType.{KitType}
use Rattle.kit_ops.specs.declared.types.KitType.TheVariants as keys
use Rattle.kit_ops.specs.declared.types.FunctionType.{FunctionType}
use Rattle.kit_ops.specs.declared.attributes.IntegerAttr.{IntegerAttr}
use Rattle.kit_ops.specs.declared.attributes.KitAttr.{KitAttr}
use Rattle.kit_ops.specs.declared.attributes.KitAttr.TheVariants as attrs
use Rattle.kit.specs.Parts.{IsTypeList, AreModuleParts, AreFunctionParts, AreCallParts, edge_parts, condition_parts}
use Rattle.kit.specs.Says.{says, one, two, types_said, said_in, said_of_operation, said_of_module, said_of_function, said_of_constant, said_of_pair, pair_said, said_of_call, call_said, said_of_condition}
use Rattle.kit.specs.Readable.{only_if, is_numbered, constant_says, condition_says}
use Rattle.ir_print.specs.declared.format.LeafValue.TheVariants as read
use Rattle.kit.specs.Seen.{SeenPiece, seen, none_seen, first_seen, one_seen, two_seen, three_seen}

-- what follows for each value follows for that of a result
pub if_ok : {X E : Type 0} (r : Result X E) (P Q : X → Type 0) → IfOk r P → ((x : X) → P x → Q x) → IfOk r Q
if_ok (Ok x) P Q h k = k x h
if_ok (Err fault) P Q h k = tt

-- lists that are equal have equal members
first_same : {X : Type 0} (x y : X) (xs ys : List X) → x ∷ xs ≡ y ∷ ys → (x ≡ y) × (xs ≡ ys)
first_same x y xs ys e = (cc, cc)

-- the one type of results is that of the first one
pub one_type : (vs : List TypedValue) (ty first : TypeHandle) → types_of vs ≡ ty ∷ [] → type_in vs 0 ≡ Some first → first ≡ ty
one_type [] ty first e f = absurd cc
one_type (v ∷ vs) ty first e f = sym (same_Some v.ty first f) ∙ (first_same v.ty ty (types_of vs) [] e).0

pub no_type : (vs : List TypedValue) (ty : TypeHandle) → types_of vs ≡ ty ∷ [] → length vs ≡ 0 → ⊥
no_type [] ty e f = cc
no_type (v ∷ vs) ty e f = cc

-- what is seen of an operation is what it is
seen_so : {O K A : Type 0} (f : OperationView O → SeenOperation K A) (v : Option (OperationView O)) (o : SeenOperation K A) → option_map f v ≡ Some o → (u : OperationView O) × (v ≡ Some u) × (f u ≡ o)
seen_so f (Some u) o e = (u, refl, same_Some (f u) o e)
seen_so f None o e = absurd (none-some o e)

module _ {D TypeKind AttrKind TypeBody Saved Location B : Type 0} (c : Program (OperationData D TypeKind AttrKind TypeBody Saved Location KitOp KitAttr KitType) B) (p : Ptr Operation) (o : SeenOperation KitOp KitAttr) where
  pub seen_kind : option_map seen_operation (operation_at c p) ≡ Some o → (k : KitOp) → kind_at c p ≡ Some k → o.kind ≡ k
  seen_kind at k e = let s = seen_so seen_operation (operation_at c p) o at in
      sym (ap (λ (v : SeenOperation KitOp KitAttr). v.kind) s.2) ∙ same_Some s.0.payload.kind k (sym (ap (λ v. option_map (λ d. d.kind) (option_map (λ (u : OperationView (OperationData D TypeKind AttrKind TypeBody Saved Location KitOp KitAttr KitType)). u.payload) v)) s.1) ∙ e)

  pub seen_entries : option_map seen_operation (operation_at c p) ≡ Some o → (n : OperationNotes D TypeKind AttrKind TypeBody Saved Location KitOp KitAttr KitType) → notes_at c p ≡ Some n → n.attributes ≡ o.attributes
  seen_entries at n e = let s = seen_so seen_operation (operation_at c p) o at in
      let same : s.0.payload.notes ≡ n = same_Some s.0.payload.notes n (sym (ap (λ v. option_map (λ d. d.notes) (option_map (λ (u : OperationView (OperationData D TypeKind AttrKind TypeBody Saved Location KitOp KitAttr KitType)). u.payload) v)) s.1) ∙ e) in
      sym (ap (λ (m : OperationNotes D TypeKind AttrKind TypeBody Saved Location KitOp KitAttr KitType). m.attributes) same) ∙ ap (λ (v : SeenOperation KitOp KitAttr). v.attributes) s.2

  pub seen_results : option_map seen_operation (operation_at c p) ≡ Some o → results_at c p ≡ o.results
  seen_results at = let s = seen_so seen_operation (operation_at c p) o at in
      ap (λ v. unwrap_or (option_map (λ (u : OperationView (OperationData D TypeKind AttrKind TypeBody Saved Location KitOp KitAttr KitType)). u.results) v) []) s.1 ∙ ap (λ (v : SeenOperation KitOp KitAttr). v.results) s.2

  pub seen_operands : option_map seen_operation (operation_at c p) ≡ Some o → operands_at c p ≡ o.operands
  seen_operands at = let s = seen_so seen_operation (operation_at c p) o at in
      ap (λ v. unwrap_or (option_map (λ (u : OperationView (OperationData D TypeKind AttrKind TypeBody Saved Location KitOp KitAttr KitType)). u.operands) v) []) s.1 ∙ ap (λ (v : SeenOperation KitOp KitAttr). v.operands) s.2

-- an operation of a kind says what its form says
pub said_as : (kind : KitOp) (form : OpForm) (entries : List (List ℕ × KitAttr)) (count : ℕ) (tys : List TypeHandle) (o : SeenOperation KitOp KitAttr) (n : ℕ) (us : Trees (Said KitAttr)) →
    o.kind ≡ kind → form_of kind ≡ Some form → entries ≡ o.attributes → count ≡ length o.operands → tys ≡ types_of o.results →
    said_of_operation o.kind o.attributes (length o.operands) (types_of o.results) ≡ Some (n, us) → said_in form entries count tys ≡ Some us
said_as kind form entries count tys o n us k f es cs ts e =
    let said = is_numbered (form_of o.kind) (number_of o.kind) (λ x. said_in x o.attributes (length o.operands) (types_of o.results)) n us e in
    let same : said.0 ≡ form = same_Some said.0 form (sym said.1 ∙ (ap form_of k ∙ f)) in
    ap (λ x. said_in form x count tys) es ∙ (ap (λ x. said_in form o.attributes x tys) cs ∙ (ap (λ x. said_in form o.attributes (length o.operands) x) ts ∙ (ap (λ x. said_in x o.attributes (length o.operands) (types_of o.results)) (sym same) ∙ said.3)))

module _ (D : Type 0) (types : List KitType) where
  -- the part of what is said shows its piece
  type_parted : (ty : TypeHandle) (t : ValueTree) → SeenPiece says types (alone (said_type ty)) t → ShowsPart {D = D} says types (part.Type ty) t
  type_parted ty t s = subst (λ (v : ValueTree). ShowsPart {D = D} says types (part.Type ty) v) (sym s.2) (ty, refl, s.3)

  name_parted : (id copy : Identifier) (t : ValueTree) → text_of copy ≡ text_of id → SeenPiece says types (alone (said_leaf (name (text_of id)))) t → ShowsPart {D = D} says types (part.Leaf (read.Name copy)) t
  name_parted id copy t e s = subst (λ (v : ValueTree). ShowsPart {D = D} says types (part.Leaf (read.Name copy)) v) (sym s.1) (read.Name copy, refl, e)

  region_parted : (t : ValueTree) → SeenPiece says types (alone said_region) t → ShowsPart {D = D} says types part.Region t
  region_parted t s = subst (λ (v : ValueTree). ShowsPart {D = D} says types part.Region v) (sym s.1) refl

  attribute_parted : (attr : KitAttr) (t : ValueTree) → SeenPiece says types (alone (said_attribute attr)) t → ShowsPart {D = D} says types (part.Attribute attr) t
  attribute_parted attr t s = subst (λ (v : ValueTree). ShowsPart {D = D} says types (part.Attribute attr) v) (sym s.2) (attr, refl, s.3)

  operands_parted : (n : ℕ) (t : ValueTree) → SeenPiece says types (alone (said_operands n)) t → ShowsPart {D = D} says types (part.Operands n) t
  operands_parted n t s = subst (λ (v : ValueTree). ShowsPart {D = D} says types (part.Operands n) v) (sym s.1) refl

  successor_parted : (n : ℕ) (t : ValueTree) → SeenPiece says types (alone (said_successor n)) t → ShowsPart {D = D} says types (part.Successor n) t
  successor_parted n t s = subst (λ (v : ValueTree). ShowsPart {D = D} says types (part.Successor n) v) (sym s.1) refl

module _ {D : Type 0} (types : List KitType) where
  abbrev pub items_of : Vec (Part D KitOp KitAttr KitType) Global → List (Part D KitOp KitAttr KitType)
  items_of m = m.items

  abbrev pub type_alone : TypeHandle → List (Part D KitOp KitAttr KitType)
  type_alone ty = part.Type ty ∷ []

  -- the members of a list of types
  member_parted : (ty : TypeHandle) (ps : List (Part D KitOp KitAttr KitType)) (t : ValueTree) → ps ≡ type_alone ty → SeenPiece says types (node said_item (one (alone (said_type ty)))) t → ShowsMember says types ps t
  member_parted ty ps t e s =
      let only_piece = one_seen says types (alone (said_type ty)) s.0 s.2 in
      let shown : ShowsParts says types (type_alone ty) s.0 = subst (λ (us : Pieces). ShowsParts says types (type_alone ty) us) (sym only_piece.1) (type_parted D types ty only_piece.0 only_piece.2, tt) in
      subst (λ (v : ValueTree). ShowsMember says types ps v) (sym s.1) (subst (λ qs. ShowsParts says types qs s.0) (sym e) shown)

  members_parted : (tys : List TypeHandle) (ms : List (Vec (Part D KitOp KitAttr KitType) Global)) (ts : Pieces) → map items_of ms ≡ map type_alone tys → ShowsAll says types (types_said tys) ts → ShowsMembers says types ms ts
  members_parted [] [] no_tree e h = tt
  members_parted [] [] (a_tree t ts) e h = absurd h
  members_parted [] (m ∷ ms) ts e h = absurd cc
  members_parted (ty ∷ tys) [] ts e h = absurd cc
  members_parted (ty ∷ tys) (m ∷ ms) no_tree e h = absurd h
  members_parted (ty ∷ tys) (m ∷ ms) (a_tree t ts) e h =
      let first = first_seen says types (node said_item (one (alone (said_type ty)))) (types_said tys) (a_tree t ts) h in
      let same = first_same (items_of m) (type_alone ty) (map items_of ms) (map type_alone tys) e in
      (member_parted ty m.items t same.0 (seen says types (node said_item (one (alone (said_type ty)))) t h.0), members_parted tys ms ts same.1 h.1)

  list_parted : (tys : List TypeHandle) (p : Part D KitOp KitAttr KitType) (t : ValueTree) → IsTypeList tys p → SeenPiece says types (node said_list (types_said tys)) t → ShowsPart says types p t
  list_parted tys p t is s = subst (λ (v : ValueTree). ShowsPart says types p v) (sym s.1) (is.0, is.1, members_parted tys is.0.items s.0 is.2 s.2)

  -- a function type's inputs and results
  pub function_type_parted : (f : FunctionType) (p q : Part D KitOp KitAttr KitType) (n : ℕ) (ps : Pieces) → IsTypeList f.inputs.items p → IsTypeList f.results.items q → ShowsKey says types (keys.Function f) n ps → ShowsParts says types (p ∷ q ∷ []) ps
  function_type_parted f p q n ps ins outs h =
      let same = some_pair_parts 1 n (two (node said_list (types_said f.inputs.items)) (node said_list (types_said f.results.items))) h.0 h.1 in
      let shown = subst (λ (us : Trees (Said KitAttr)). ShowsAll says types us ps) (sym same.1) h.2 in
      let pieces = two_seen says types (node said_list (types_said f.inputs.items)) (node said_list (types_said f.results.items)) ps shown in
      subst (λ (qs : Pieces). ShowsParts says types (p ∷ q ∷ []) qs) (sym pieces.2) (list_parted f.inputs.items p pieces.0 ins pieces.3, (list_parted f.results.items q pieces.1 outs pieces.4, tt))

  -- what a module, a function and a constant say
  module_parted : (o : Option KitAttr) (parts : List (Part D KitOp KitAttr KitType)) (us : Trees (Said KitAttr)) (ps : Pieces) → AreModuleParts o parts → said_of_module o ≡ Some us → ShowsAll says types us ps → ShowsParts says types parts ps
  module_parted (Some (attrs.Identifier id)) parts us ps are e h =
      let shown = subst (λ (vs : Trees (Said KitAttr)). ShowsAll says types vs ps) (sym (same_Some (two (alone (said_leaf (name (text_of id)))) (alone said_region)) us e)) h in
      let pieces = two_seen says types (alone (said_leaf (name (text_of id)))) (alone said_region) ps shown in
      let is : parts ≡ part.Leaf (read.Name are.1.0) ∷ part.Region ∷ [] = are.2 ∙ ap (λ qs. qs ++ part.Region ∷ []) are.1.2 in
      subst (λ qs. ShowsParts says types qs ps) (sym is) (subst (λ (qs : Pieces). ShowsParts {D = D} says types (part.Leaf (read.Name are.1.0) ∷ part.Region ∷ []) qs) (sym pieces.2)
      (name_parted D types id are.1.0 pieces.0 are.1.1 pieces.3, (region_parted D types pieces.1 pieces.4, tt)))
  module_parted (Some other) parts us ps are e h = absurd (none-some us e)
  module_parted None parts us ps are e h = absurd (none-some us e)

  function_parted : (o p : Option KitAttr) (parts : List (Part D KitOp KitAttr KitType)) (us : Trees (Said KitAttr)) (ps : Pieces) → AreFunctionParts o p parts → said_of_function o p ≡ Some us → ShowsAll says types us ps → ShowsParts says types parts ps
  function_parted (Some (attrs.Identifier id)) (Some (attrs.«Type» ty)) parts us ps are e h =
      let shown = subst (λ (vs : Trees (Said KitAttr)). ShowsAll says types vs ps) (sym (same_Some (a_tree (alone (said_leaf (name (text_of id)))) (two (alone (said_type ty)) (alone said_region))) us e)) h in
      let pieces = three_seen says types (alone (said_leaf (name (text_of id)))) (alone (said_type ty)) (alone said_region) ps shown in
      let is : parts ≡ part.Leaf (read.Name are.1.0) ∷ part.Type ty ∷ part.Region ∷ [] = are.2 ∙ ap (λ qs. qs ++ part.Type ty ∷ part.Region ∷ []) are.1.2 in
      subst (λ qs. ShowsParts says types qs ps) (sym is) (subst (λ (qs : Pieces). ShowsParts {D = D} says types (part.Leaf (read.Name are.1.0) ∷ part.Type ty ∷ part.Region ∷ []) qs) (sym pieces.3)
      (name_parted D types id are.1.0 pieces.0 are.1.1 pieces.4, (type_parted D types ty pieces.1 pieces.5, (region_parted D types pieces.2 pieces.6, tt))))
  function_parted (Some (attrs.Identifier id)) other parts us ps are e h = absurd (none-some us e)
  function_parted other p parts us ps are e h = absurd (none-some us e)

  constant_parted : (o : Option KitAttr) (tys : List TypeHandle) (parts : List (Part D KitOp KitAttr KitType)) (us : Trees (Said KitAttr)) (ps : Pieces) → ((a : IntegerAttr) → o ≡ Some (attrs.Integer a) → parts ≡ part.Attribute (attrs.Integer a) ∷ []) →
      said_of_constant o tys ≡ Some us → ShowsAll says types us ps → ShowsParts says types parts ps
  constant_parted o tys parts us ps are e h =
      let said = constant_says o tys us e in
      let attr = attrs.Integer said.value in
      let shown = subst (λ (vs : Trees (Said KitAttr)). ShowsAll says types vs ps) (sym said.says_it) h in
      let piece = one_seen says types (alone (said_attribute attr)) ps shown in
      subst (λ qs. ShowsParts says types qs ps) (sym (are said.value said.has))
      (subst (λ (qs : Pieces). ShowsParts {D = D} says types (part.Attribute attr ∷ []) qs) (sym piece.1) (attribute_parted D types attr piece.0 piece.2, tt))

  -- what an operation with two operands says
  pair_parted : (tys : List TypeHandle) (parts : List (Part D KitOp KitAttr KitType)) (us : Trees (Said KitAttr)) (ps : Pieces) → ((ty : TypeHandle) → tys ≡ ty ∷ [] → parts ≡ part.Operands 1 ∷ part.Operands 1 ∷ part.Type ty ∷ []) → said_of_pair tys ≡ Some us → ShowsAll says types us ps → ShowsParts says types parts ps
  pair_parted [] parts us ps are e h = absurd (none-some us e)
  pair_parted (ty ∷ other ∷ tys) parts us ps are e h = absurd (none-some us e)
  pair_parted (ty ∷ []) parts us ps are e h =
      let shown = subst (λ (vs : Trees (Said KitAttr)). ShowsAll says types vs ps) (sym (same_Some (pair_said ty) us e)) h in
      let pieces = three_seen says types (alone (said_operands 1)) (alone (said_operands 1)) (alone (said_type ty)) ps shown in
      subst (λ qs. ShowsParts says types qs ps) (sym (are ty refl)) (subst (λ (qs : Pieces). ShowsParts {D = D} says types (part.Operands 1 ∷ part.Operands 1 ∷ part.Type ty ∷ []) qs) (sym pieces.3)
      (operands_parted D types 1 pieces.0 pieces.4, (operands_parted D types 1 pieces.1 pieces.5, (type_parted D types ty pieces.2 pieces.6, tt))))

  -- what an operation with operands says
  operands_said_parted : (count : ℕ) (parts : List (Part D KitOp KitAttr KitType)) (us : Trees (Said KitAttr)) (ps : Pieces) → parts ≡ part.Operands count ∷ [] → ◌≡◌ {A = Option (Trees (Said KitAttr))} (Some (one (alone (said_operands count)))) (Some us) → ShowsAll says types us ps → ShowsParts says types parts ps
  operands_said_parted count parts us ps is e h =
      let shown = subst (λ (vs : Trees (Said KitAttr)). ShowsAll says types vs ps) (sym (same_Some (one (alone (said_operands count))) us e)) h in
      let piece = one_seen says types (alone (said_operands count)) ps shown in
      subst (λ qs. ShowsParts says types qs ps) (sym is) (subst (λ (qs : Pieces). ShowsParts {D = D} says types (part.Operands count ∷ []) qs) (sym piece.1) (operands_parted D types count piece.0 piece.2, tt))

  -- what an operation of a form says, where its parts are these
  pub named_region_parted : (entries : List (List ℕ × KitAttr)) (count : ℕ) (tys : List TypeHandle) (parts : List (Part D KitOp KitAttr KitType)) (us : Trees (Said KitAttr)) (ps : Pieces) → AreModuleParts (attribute_at entries symbol_name) parts →
      said_in NamedRegion entries count tys ≡ Some us → ShowsAll says types us ps → ShowsParts says types parts ps
  named_region_parted entries count tys parts us ps are e h = module_parted (attribute_at entries symbol_name) parts us ps are (only_if (length entries == 1 && count == 0) (said_of_module (attribute_at entries symbol_name)) us e).1 h

  pub typed_region_parted : (entries : List (List ℕ × KitAttr)) (count : ℕ) (tys : List TypeHandle) (parts : List (Part D KitOp KitAttr KitType)) (us : Trees (Said KitAttr)) (ps : Pieces) → AreFunctionParts (attribute_at entries symbol_name) (attribute_at entries function_type) parts →
      said_in TypedRegion entries count tys ≡ Some us → ShowsAll says types us ps → ShowsParts says types parts ps
  typed_region_parted entries count tys parts us ps are e h = function_parted (attribute_at entries symbol_name) (attribute_at entries function_type) parts us ps are
      (only_if (length entries == 2 && count == 0) (said_of_function (attribute_at entries symbol_name) (attribute_at entries function_type)) us e).1 h

  pub value_parted : {E : Type 0} (entries : List (List ℕ × KitAttr)) (count : ℕ) (tys : List TypeHandle) (r : Result (Vec (Part D KitOp KitAttr KitType) Global) E) (us : Trees (Said KitAttr)) (ps : Pieces) →
      ((a : IntegerAttr) → attribute_at entries constant_value ≡ Some (attrs.Integer a) → IfOk r (λ parts. parts.items ≡ part.Attribute (attrs.Integer a) ∷ [])) →
      said_in Value entries count tys ≡ Some us → ShowsAll says types us ps → IfOk r (λ parts. ShowsParts says types parts.items ps)
  value_parted entries count tys (Ok parts) us ps are e h = constant_parted (attribute_at entries constant_value) tys parts.items us ps are (only_if (length entries == 1 && count == 0) (said_of_constant (attribute_at entries constant_value) tys) us e).1 h
  value_parted entries count tys (Err fault) us ps are e h = tt

  pub two_operands_parted : {E : Type 0} (entries : List (List ℕ × KitAttr)) (count : ℕ) (tys : List TypeHandle) (r : Result (Vec (Part D KitOp KitAttr KitType) Global) E) (us : Trees (Said KitAttr)) (ps : Pieces) →
      ((ty : TypeHandle) → tys ≡ ty ∷ [] → IfOk r (λ parts. parts.items ≡ part.Operands 1 ∷ part.Operands 1 ∷ part.Type ty ∷ [])) →
      said_in TwoOperands entries count tys ≡ Some us → ShowsAll says types us ps → IfOk r (λ parts. ShowsParts says types parts.items ps)
  two_operands_parted entries count tys (Ok parts) us ps are e h = pair_parted tys parts.items us ps are (only_if (length entries == 0 && count == 2) (said_of_pair tys) us e).1 h
  two_operands_parted entries count tys (Err fault) us ps are e h = tt

  pub any_operands_parted : (entries : List (List ℕ × KitAttr)) (count : ℕ) (tys : List TypeHandle) (parts : List (Part D KitOp KitAttr KitType)) (us : Trees (Said KitAttr)) (ps : Pieces) → parts ≡ part.Operands count ∷ [] →
      said_in AnyOperands entries count tys ≡ Some us → ShowsAll says types us ps → ShowsParts says types parts ps
  any_operands_parted entries count tys parts us ps are e h = operands_said_parted count parts us ps are (only_if (length entries == 0) (Some (one (alone (said_operands count)))) us e).1 h

  pub one_operand_parted : (entries : List (List ℕ × KitAttr)) (count : ℕ) (tys : List TypeHandle) (parts : List (Part D KitOp KitAttr KitType)) (us : Trees (Said KitAttr)) (ps : Pieces) → parts ≡ part.Operands count ∷ [] →
      said_in OneOperand entries count tys ≡ Some us → ShowsAll says types us ps → ShowsParts says types parts ps
  one_operand_parted entries count tys parts us ps are e h =
      let said = only_if (length entries == 0 && count == 1) (Some (one (alone (said_operands 1)))) us e in
      let one_only : count ≡ 1 = eqb-true count 1 (and_parts (length entries == 0) (count == 1) said.0).1 in
      operands_said_parted 1 parts us ps (are ∙ ap (λ (n : ℕ). part.Operands n ∷ []) one_only) said.1 h

  -- what a call says
  call_said_parted : (o p : Option KitAttr) (count : ℕ) (parts : List (Part D KitOp KitAttr KitType)) (us : Trees (Said KitAttr)) (ps : Pieces) → AreCallParts o p count parts → said_of_call o p count ≡ Some us → ShowsAll says types us ps → ShowsParts says types parts ps
  call_said_parted (Some (attrs.Identifier id)) (Some (attrs.«Type» ty)) count parts us ps are e h =
      let shown = subst (λ (vs : Trees (Said KitAttr)). ShowsAll says types vs ps) (sym (same_Some (call_said (text_of id) ty count) us e)) h in
      let pieces = three_seen says types (alone (said_leaf (name (text_of id)))) (alone (said_operands count)) (alone (said_type ty)) ps shown in
      let is : parts ≡ part.Leaf (read.Name are.1.0) ∷ part.Operands count ∷ part.Type ty ∷ [] = are.2 ∙ ap (λ qs. qs ++ part.Operands count ∷ part.Type ty ∷ []) are.1.2 in
      subst (λ qs. ShowsParts says types qs ps) (sym is) (subst (λ (qs : Pieces). ShowsParts {D = D} says types (part.Leaf (read.Name are.1.0) ∷ part.Operands count ∷ part.Type ty ∷ []) qs) (sym pieces.3)
      (name_parted D types id are.1.0 pieces.0 are.1.1 pieces.4, (operands_parted D types count pieces.1 pieces.5, (type_parted D types ty pieces.2 pieces.6, tt))))
  call_said_parted (Some (attrs.Identifier id)) other count parts us ps are e h = absurd (none-some us e)
  call_said_parted other p count parts us ps are e h = absurd (none-some us e)

  pub called_parted : (entries : List (List ℕ × KitAttr)) (count : ℕ) (tys : List TypeHandle) (parts : List (Part D KitOp KitAttr KitType)) (us : Trees (Said KitAttr)) (ps : Pieces) → AreCallParts (attribute_at entries callee) (attribute_at entries callee_type) count parts →
      said_in Called entries count tys ≡ Some us → ShowsAll says types us ps → ShowsParts says types parts ps
  called_parted entries count tys parts us ps are e h = call_said_parted (attribute_at entries callee) (attribute_at entries callee_type) count parts us ps are
      (only_if (length entries == 2) (said_of_call (attribute_at entries callee) (attribute_at entries callee_type) count) us e).1 h

  -- what an operation with nothing behind its name says
  pub empty_parted : (entries : List (List ℕ × KitAttr)) (count : ℕ) (tys : List TypeHandle) (parts : List (Part D KitOp KitAttr KitType)) (us : Trees (Said KitAttr)) (ps : Pieces) → parts ≡ [] →
      said_in Empty entries count tys ≡ Some us → ShowsAll says types us ps → ShowsParts says types parts ps
  empty_parted entries count tys parts us ps is e h =
      let said = only_if (length entries == 0 && count == 0) (Some no_tree) us e in
      let shown = subst (λ (vs : Trees (Said KitAttr)). ShowsAll says types vs ps) (sym (same_Some no_tree us said.1)) h in
      subst (λ qs. ShowsParts says types qs ps) (sym is) (subst (λ (qs : Pieces). ShowsParts {D = D} says types [] qs) (sym (none_seen says types ps shown)) tt)

  -- what an operation with one edge says
  pub edge_parted : (entries : List (List ℕ × KitAttr)) (count : ℕ) (tys : List TypeHandle) (parts : List (Part D KitOp KitAttr KitType)) (us : Trees (Said KitAttr)) (ps : Pieces) → parts ≡ part.Successor count ∷ [] →
      said_in Edge entries count tys ≡ Some us → ShowsAll says types us ps → ShowsParts says types parts ps
  edge_parted entries count tys parts us ps is e h =
      let said = only_if (length entries == 0) (Some (one (alone (said_successor count)))) us e in
      let shown = subst (λ (vs : Trees (Said KitAttr)). ShowsAll says types vs ps) (sym (same_Some (one (alone (said_successor count))) us said.1)) h in
      let piece = one_seen says types (alone (said_successor count)) ps shown in
      subst (λ qs. ShowsParts says types qs ps) (sym is) (subst (λ (qs : Pieces). ShowsParts {D = D} says types (part.Successor count ∷ []) qs) (sym piece.1) (successor_parted D types count piece.0 piece.2, tt))

  -- what a conditional branch says
  pub edges_parted : (entries : List (List ℕ × KitAttr)) (count : ℕ) (tys : List TypeHandle) (parts : List (Part D KitOp KitAttr KitType)) (us : Trees (Said KitAttr)) (ps : Pieces) → parts ≡ condition_parts (attribute_at entries segment_sizes) →
      said_in ConditionEdges entries count tys ≡ Some us → ShowsAll says types us ps → ShowsParts says types parts ps
  edges_parted entries count tys parts us ps is e h =
      let said = only_if (length entries == 1) (said_of_condition (attribute_at entries segment_sizes) count) us e in
      let condition = condition_says (attribute_at entries segment_sizes) count us said.1 in
      let sizes = condition.say in
      let a = sizes.first in
      let b = sizes.second in
      let shown = subst (λ (vs : Trees (Said KitAttr)). ShowsAll says types vs ps) (sym sizes.says_it) h in
      let pieces = three_seen says types (alone (said_operands 1)) (alone (said_successor a)) (alone (said_successor b)) ps shown in
      let parts_are : parts ≡ part.Operands 1 ∷ part.Successor a ∷ part.Successor b ∷ [] = is ∙ (ap condition_parts condition.has_sizes ∙ ap edge_parts sizes.are) in
      subst (λ qs. ShowsParts says types qs ps) (sym parts_are) (subst (λ (qs : Pieces). ShowsParts {D = D} says types (part.Operands 1 ∷ part.Successor a ∷ part.Successor b ∷ []) qs) (sym pieces.3)
      (operands_parted D types 1 pieces.0 pieces.4, (successor_parted D types a pieces.1 pieces.5, (successor_parted D types b pieces.2 pieces.6, tt))))
