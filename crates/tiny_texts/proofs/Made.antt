-- What is made of parts, and what parts are printed.
use Rattle.std.proofs.Common.{◌≡◌, ◌⊎◌, inl, inr, ℕ, zero, suc, ◌+◌, ◌^◌, ◌==◌, ◌&&◌, Bool, true, List, [], ◌∷◌, length, Option, Some, None, Result, Ok, Err, nat_lt, refl, sym, ap, ◌∙◌, subst, arith}
use Rattle.std.specs.List.{slice_get}
use Rattle.std.specs.Option.{option_map, unwrap_or}
use Rattle.std.specs.Result.{IfOk}
use Rattle.std.proofs.lemmas.Bool.{and_parts, eqb-true, false≢true}
use Rattle.std.proofs.lemmas.Option.{none-some, same_Some}
use Rattle.ir_base.specs.declared.types.TypeHandle.{TypeHandle}
use Rattle.ir_names.specs.Dictionary.{attribute_at}
use Rattle.ir_names.specs.Tree.{Trees, node, no_tree, a_tree}
use Rattle.ir_print.specs.declared.format.Part.{Part}
use Rattle.ir_print.specs.declared.format.Part.TheVariants as parts
use Rattle.ir_print.specs.declared.format.ValueSort.TheVariants as sorts
use Rattle.ir_print.specs.Pieces.{Piece, value_of_kind, operands, successor, region, leaf, unsigned, mark, Pieces}
use Rattle.ir_print.specs.Shown.{Said, said_attribute, said_operands, said_successor, said_region, said_leaf, alone, Pairs, ShowsAll, ShowsParts, ShowsType, operands_said}
use Rattle.ir_program.specs.Program.{Program, OperationView, operation_at}
use Rattle.ir_program.specs.Rows.{operands_at}
use Rattle.ir_program.specs.declared.handles.Ptr.{Ptr}
use Rattle.ir_program.specs.declared.handles.Operation.{Operation}
use Rattle.ir_context.specs.Kept.{kind_at, notes_at}
use Rattle.ir_context.specs.declared.notes.OperationData.{OperationData}
use Rattle.ir_context.specs.declared.notes.OperationNotes.{OperationNotes}
use Rattle.text_dialect.specs.Making as made
use Rattle.text_dialect.specs.Seen.{SeenOperation, seen_operation}
use Rattle.tiny_texts.specs.declared.dialect.Int.{Int}
use Rattle.tiny_texts.specs.declared.dialect.TinyAttr.{TinyAttr}
use Rattle.tiny_texts.specs.declared.dialect.TinyAttr.TheVariants as attrs
use Rattle.tiny_texts.specs.declared.dialect.Constant.{Constant}
use Rattle.tiny_texts.specs.declared.dialect.Constant.TheVariants as constants
use Rattle.tiny_texts.specs.declared.dialect.Single.{Single}
use Rattle.tiny_texts.specs.declared.dialect.TinyOp.{TinyOp}
use Rattle.tiny_texts.specs.declared.dialect.TinyOp.TheVariants as ops
use Rattle.tiny_texts.specs.declared.operations.Form.{Form}
use Rattle.tiny_texts.specs.declared.operations.Form.TheVariants as forms
use Rattle.tiny_texts.specs.Forms.{form_of, number_of, read_ops, read_single, read_attrs, attr_number}
use Rattle.tiny_texts.specs.Kinds.{kind_of}
use Rattle.tiny_texts.specs.Making.{constant_of, entries_of, one_part, no_parts, value_in, value_part, parts_fit, parts_of}
use Rattle.tiny_texts.specs.Readable.{attribute_heard, has_value}
use Rattle.tiny_texts.specs.Says.{says, values, one, only, numbered, said_in, said_of_value, value_key, magnitude, leaf_of, said_of_attribute, is_of, is_used, used, one_piece, fits, number_in, is_number, refused_by, refused_as, refused_unless, types_in, types_by, int}
use Rattle.tiny_texts.specs.Seen.{only_if, attribute_says, one_heard, none_heard, parts_read}

-- ---- kinds

is_kind : (x kind : TinyOp) → Some x ≡ Some kind → number_of kind ≡ number_of x
is_kind x kind e = ap number_of (sym (same_Some x kind e))

op_number : (n : ℕ) (kind : TinyOp) → slice_get read_ops n ≡ Some kind → number_of kind ≡ n
op_number zero kind e = is_kind ops.Box kind e
op_number (suc zero) kind e = is_kind ops.Loop kind e
op_number (suc (suc zero)) kind e = is_kind ops.Pure kind e
op_number (suc (suc (suc zero))) kind e = is_kind ops.Def kind e
op_number (suc (suc (suc (suc zero)))) kind e = is_kind ops.Id kind e
op_number (suc (suc (suc (suc (suc zero))))) kind e = is_kind ops.Use kind e
op_number (suc (suc (suc (suc (suc (suc zero)))))) kind e = is_kind ops.Br kind e
op_number (suc (suc (suc (suc (suc (suc (suc zero))))))) kind e = is_kind ops.Ret kind e
op_number (suc (suc (suc (suc (suc (suc (suc (suc n)))))))) kind e = absurd (none-some kind e)

attr_is : (x kind : TinyAttr) → Some x ≡ Some kind → attr_number kind ≡ attr_number x
attr_is x kind e = ap attr_number (sym (same_Some x kind e))

attr_numbered : (n : ℕ) (kind : TinyAttr) → slice_get read_attrs n ≡ Some kind → attr_number kind ≡ n
attr_numbered zero kind e = attr_is attrs.Num kind e
attr_numbered (suc zero) kind e = attr_is attrs.Ref kind e
attr_numbered (suc (suc n)) kind e = absurd (none-some kind e)

-- ---- pieces of forms

region_is : (o : Option Piece) → is_of forms.Region o ≡ true → o ≡ Some region
region_is (Some region) e = refl
region_is o e = absurd (false≢true e)

value_is : (o : Option Piece) → is_of forms.Value o ≡ true → (n : ℕ) × (o ≡ Some (value_of_kind sorts.Attribute n))
value_is (Some (value_of_kind sorts.Attribute n)) e = (n, refl)
value_is o e = absurd (false≢true e)

operand_is : (o : Option Piece) → is_of forms.Operand o ≡ true → o ≡ Some (operands 1)
operand_is (Some (operands n)) e = ap (λ (k : ℕ). Some (operands k)) (eqb-true n 1 e)
operand_is o e = absurd (false≢true e)

edge_is : (o : Option Piece) → is_of forms.Edge o ≡ true → (n : ℕ) × (o ≡ Some (successor n))
edge_is (Some (successor n)) e = (n, refl)
edge_is o e = absurd (false≢true e)

piece_is : (ps : Pieces) (p : Piece) → one_piece ps ≡ Some p → (ts : Pieces) × (ps ≡ one (node p ts))
piece_is no_tree p e = absurd (none-some p e)
piece_is (a_tree (node q ts) no_tree) p e = (ts, ap (λ (r : Piece). one (node r ts)) (same_Some q p (only_if (is_used q) (Some q) p e).1))
piece_is (a_tree t (a_tree u us)) p e = absurd (none-some p e)

-- the number that a piece is
number_is : (kind : TinyAttr) (o : Option Piece) (x : ℕ) → number_in kind o ≡ Some x → o ≡ Some (leaf (leaf_of (constant_of kind x)))
number_is attrs.Num (Some (leaf (unsigned n))) x e = ap (λ (k : ℕ). Some (leaf (unsigned k))) (same_Some n x e)
number_is attrs.Ref (Some (leaf (mark n))) x e = ap (λ (k : ℕ). Some (leaf (mark k))) (same_Some n x e)
number_is kind o x e = absurd (none-some x e)

-- a piece that the dialect has, which an attribute is written as, is of at most 64 bits
leaf_small : (a : Constant) → used (leaf (leaf_of a)) ≡ Some (leaf (leaf_of a)) → nat_lt (magnitude a) (2 ^ 64) ≡ true
leaf_small (constants.Num n) e = (only_if (nat_lt n (2 ^ 64)) (Some (leaf (unsigned n))) (leaf (unsigned n)) e).0
leaf_small (constants.Ref n) e = (only_if (nat_lt n (2 ^ 64)) (Some (leaf (mark n))) (leaf (mark n)) e).0

-- what is made of a number is of the kind
constant_kind : (kind : TinyAttr) (x : ℕ) → kind_of (constant_of kind x) ≡ kind
constant_kind attrs.Num x = refl
constant_kind attrs.Ref x = refl

-- its number is the one that it is made of
is_numbered_so : (kind : TinyAttr) (x : ℕ) → is_number (number_in kind (Some (leaf (leaf_of (constant_of kind x))))) ≡ true
is_numbered_so attrs.Num x = refl
is_numbered_so attrs.Ref x = refl

-- what an attribute says does not rest on types
attribute_later : (old new : List Int) (a : Constant) (n : ℕ) (us : Trees (Said Constant)) (ts : Pieces) → said_of_attribute a ≡ Some (n, us) → ShowsAll says old us ts → ShowsAll says new us ts
attribute_later old new a n us ts e h =
    let said = attribute_says a n us e in
    let piece = attribute_heard old a ts said.0 (subst (λ (vs : Trees (Said Constant)). ShowsAll says old vs ts) (sym said.2) h) in
    subst (λ (vs : Trees (Said Constant)). ShowsAll says new vs ts) said.2
    (subst (λ (qs : Pieces). ShowsAll says new (one (alone (said_leaf (leaf_of a)))) qs) (sym piece.1) (refl, tt))

-- what makes a value has one result, of the type
pub one_typed : (kind : TinyOp) → (kind ≡ ops.Def) ⊎ (kind ≡ ops.Id) → types_in kind ≡ int ∷ []
one_typed kind (inl e) = ap types_in e
one_typed kind (inr e) = ap types_in e

-- a handle of the type is the type of a result
pub type_shown : (types : List Int) (ty : TypeHandle) (key : Int) → slice_get types ty.number ≡ Some key → ShowsType says types ty int
type_shown types ty key e = (ty, key, no_tree, refl, e, refl, tt)

module _ {D : Type 0} where
  -- the parts are those of a form exactly where the pieces are
  fit_read : (types : List Int) (form : Form) (qs : List (Part D TinyOp Constant Int)) (ps : Pieces) → ShowsParts says types qs ps → parts_fit form qs ≡ fits form ps
  fit_read types forms.Region qs ps h = ap (is_of forms.Region) (parts_read types qs ps h)
  fit_read types forms.Value qs ps h = ap (is_of forms.Value) (parts_read types qs ps h)
  fit_read types forms.Operand qs ps h = ap (is_of forms.Operand) (parts_read types qs ps h)
  fit_read types forms.Edge qs ps h = ap (is_of forms.Edge) (parts_read types qs ps h)
  fit_read types forms.Nothing [] no_tree h = refl
  fit_read types forms.Nothing [] (a_tree t ts) h = absurd h
  fit_read types forms.Nothing (q ∷ qs) no_tree h = absurd h
  fit_read types forms.Nothing (q ∷ qs) (a_tree t ts) h = refl

  -- an operation of a form with the number among the parts says the pieces
  record Draft (form : Form) (new : List Int) (qs : List (Part D TinyOp Constant Int)) (ps : Pieces) : Type 0 where
    pub pieces : Trees (Said Constant)
    pub said : said_in form (entries_of (value_in qs)) (operands_said ps) ≡ Some pieces
    pub shown : ShowsAll says new pieces ps

  region_drafts : (old new : List Int) (qs : List (Part D TinyOp Constant Int)) (ts : Pieces) → ShowsParts says old qs (one (node region ts)) → Draft forms.Region new qs (one (node region ts))
  region_drafts old new [] ts h = absurd h
  region_drafts old new (q ∷ []) ts h = record { pieces = one (alone said_region); said = ap (λ o. said_in forms.Region (entries_of o) 0) (ap value_part h.0); shown = (refl, tt) }
  region_drafts old new (q ∷ r ∷ qs) ts h = absurd h.1

  value_drafts : (old new : List Int) (qs : List (Part D TinyOp Constant Int)) (n : ℕ) (ts : Pieces) → ShowsParts says old qs (one (node (value_of_kind sorts.Attribute n) ts)) →
      Draft forms.Value new qs (one (node (value_of_kind sorts.Attribute n) ts))
  value_drafts old new [] n ts h = absurd h
  value_drafts old new (q ∷ []) n ts h =
      let shown = h.0.2 in
      record {
        pieces = one (alone (said_attribute h.0.0));
        said = ap (λ o. said_in forms.Value (entries_of o) 0) (ap value_part h.0.1);
        shown = ((shown.0, shown.1, shown.2, shown.3, attribute_later old new shown.0 n shown.1 ts shown.3 shown.4), tt);
      }
  value_drafts old new (q ∷ r ∷ qs) n ts h = absurd h.1

  operand_drafts : (old new : List Int) (qs : List (Part D TinyOp Constant Int)) (ts : Pieces) → ShowsParts says old qs (one (node (operands 1) ts)) → Draft forms.Operand new qs (one (node (operands 1) ts))
  operand_drafts old new [] ts h = absurd h
  operand_drafts old new (q ∷ []) ts h = record { pieces = one (alone (said_operands 1)); said = ap (λ o. said_in forms.Operand (entries_of o) 1) (ap value_part h.0); shown = (refl, tt) }
  operand_drafts old new (q ∷ r ∷ qs) ts h = absurd h.1

  edge_drafts : (old new : List Int) (qs : List (Part D TinyOp Constant Int)) (n : ℕ) (ts : Pieces) → ShowsParts says old qs (one (node (successor n) ts)) → Draft forms.Edge new qs (one (node (successor n) ts))
  edge_drafts old new [] n ts h = absurd h
  edge_drafts old new (q ∷ []) n ts h =
      let plain : n + 0 ≡ n = omega arith in
      record {
        pieces = one (alone (said_successor (n + 0)));
        said = ap (λ o. said_in forms.Edge (entries_of o) (n + 0)) (ap value_part h.0);
        shown = (ap (λ (k : ℕ). alone (said_successor k)) plain, tt);
      }
  edge_drafts old new (q ∷ r ∷ qs) n ts h = absurd h.1

  nothing_drafts : (old new : List Int) (qs : List (Part D TinyOp Constant Int)) (ps : Pieces) → ShowsParts says old qs ps → no_parts qs ≡ true → Draft forms.Nothing new qs ps
  nothing_drafts old new [] no_tree h e = record { pieces = no_tree; said = refl; shown = tt }
  nothing_drafts old new [] (a_tree t ts) h e = absurd h
  nothing_drafts old new (q ∷ qs) ps h e = absurd (false≢true e)

  -- with pieces that are these
  drafts_as : (form : Form) (old new : List Int) (qs : List (Part D TinyOp Constant Int)) (ps rs : Pieces) → ps ≡ rs → ShowsParts says old qs ps → (ShowsParts says old qs rs → Draft form new qs rs) → Draft form new qs ps
  drafts_as form old new qs ps rs e h k = subst (λ (us : Pieces). Draft form new qs us) (sym e) (k (subst (λ (us : Pieces). ShowsParts says old qs us) e h))

  drafts : (form : Form) (old new : List Int) (qs : List (Part D TinyOp Constant Int)) (ps : Pieces) → ShowsParts says old qs ps → parts_fit form qs ≡ true → Draft form new qs ps
  drafts forms.Region old new qs ps h e =
      let piece = piece_is ps region (sym (parts_read old qs ps h) ∙ region_is (one_part qs) e) in
      drafts_as forms.Region old new qs ps (one (node region piece.0)) piece.1 h (region_drafts old new qs piece.0)
  drafts forms.Value old new qs ps h e =
      let value = value_is (one_part qs) e in
      let piece = piece_is ps (value_of_kind sorts.Attribute value.0) (sym (parts_read old qs ps h) ∙ value.1) in
      drafts_as forms.Value old new qs ps (one (node (value_of_kind sorts.Attribute value.0) piece.0)) piece.1 h (value_drafts old new qs value.0 piece.0)
  drafts forms.Operand old new qs ps h e =
      let piece = piece_is ps (operands 1) (sym (parts_read old qs ps h) ∙ operand_is (one_part qs) e) in
      drafts_as forms.Operand old new qs ps (one (node (operands 1) piece.0)) piece.1 h (operand_drafts old new qs piece.0)
  drafts forms.Edge old new qs ps h e =
      let edge = edge_is (one_part qs) e in
      let piece = piece_is ps (successor edge.0) (sym (parts_read old qs ps h) ∙ edge.1) in
      drafts_as forms.Edge old new qs ps (one (node (successor edge.0) piece.0)) piece.1 h (edge_drafts old new qs edge.0 piece.0)
  drafts forms.Nothing old new qs ps h e = nothing_drafts old new qs ps h e

  -- an operation is made of parts of its form
  pub operation_made : (kind : TinyOp) (old new : List Int) (qs : List (Part D TinyOp Constant Int)) (attributes : List (List ℕ × Constant)) (tys : List TypeHandle) →
      parts_fit (form_of kind) qs ≡ true → attributes ≡ entries_of (value_in qs) → Pairs (ShowsType says new) tys (types_in kind) →
      made.MakesOperation says values (slice_get read_ops) kind old new qs attributes tys
  operation_made kind old new qs attributes tys e same typed n ps at h =
      let draft = drafts (form_of kind) old new qs ps h e in
      let number = op_number n kind at in (
        ap (λ k. refused_by k ps) at ∙ ap refused_unless (sym (fit_read old (form_of kind) qs ps h) ∙ e),
        record {
          pieces = draft.pieces;
          said = ap (λ (es : List (List ℕ × Constant)). numbered (number_of kind) (said_in (form_of kind) es (operands_said ps))) same
              ∙ (ap (numbered (number_of kind)) draft.said ∙ ap (λ (k : ℕ). numbered k (Some draft.pieces)) number);
          shown = draft.shown;
          typed = subst (λ k. Pairs (ShowsType says new) tys (types_by k)) (sym at) typed;
        },
      )

  -- the type is made of no parts
  pub type_made : (kind : Single) (key : Int) (qs : List (Part D TinyOp Constant Int)) → length qs ≡ 0 → made.MakesType says values read_single kind qs key
  type_made kind key [] e zero no_tree types at h = (refl, (no_tree, refl, tt))
  type_made kind key [] e zero (a_tree t ts) types at h = absurd h
  type_made kind key [] e (suc n) ps types at h = absurd (none-some kind at)
  type_made kind key (q ∷ qs) e n ps types at h = absurd cc

  -- an attribute is made of a number
  pub attribute_made : (kind : TinyAttr) (old new : List Int) (qs : List (Part D TinyOp Constant Int)) (x : ℕ) → number_in kind (one_part qs) ≡ Some x →
      made.MakesAttribute says values read_attrs kind old new qs (constant_of kind x)
  attribute_made kind old new qs x e n ps at h =
      let a = constant_of kind x in
      let here = sym (parts_read old qs ps h) ∙ number_is kind (one_part qs) x e in
      let piece = piece_is ps (leaf (leaf_of a)) here in
      let small = leaf_small a (ap one_piece (sym piece.1) ∙ here) in
      let number : attr_number (kind_of a) ≡ n = ap attr_number (constant_kind kind x) ∙ attr_numbered n kind at in (
        ap (λ k. refused_as k ps) at ∙ (ap (λ o. refused_unless (is_number (number_in kind o))) here ∙ ap refused_unless (is_numbered_so kind x)),
        (
          a,
          one (alone (said_leaf (leaf_of a))),
          refl,
          ap (λ (b : Bool). only b (Some (attr_number (kind_of a), one (alone (said_leaf (leaf_of a)))))) small
              ∙ ap (λ (k : ℕ). Some (k, one (alone (said_leaf (leaf_of a))))) number,
          subst (λ (us : Pieces). ShowsAll says new (one (alone (said_leaf (leaf_of a)))) us) (sym piece.1) (refl, tt),
        ),
      )

-- ---- what is printed

-- what follows for each value follows for that of a result
pub if_ok : {X E : Type 0} (r : Result X E) (P Q : X → Type 0) → IfOk r P → ((x : X) → P x → Q x) → IfOk r Q
if_ok (Ok x) P Q h k = k x h
if_ok (Err fault) P Q h k = tt

-- what is seen of an operation is what it is
seen_so : {O K A : Type 0} (f : OperationView O → SeenOperation K A) (v : Option (OperationView O)) (o : SeenOperation K A) → option_map f v ≡ Some o →
    (u : OperationView O) × (v ≡ Some u) × (f u ≡ o)
seen_so f (Some u) o e = (u, refl, same_Some (f u) o e)
seen_so f None o e = absurd (none-some o e)

module _ {D TypeKind AttrKind TypeBody Saved Location B : Type 0} (c : Program (OperationData D TypeKind AttrKind TypeBody Saved Location TinyOp Constant Int) B)
    (p : Ptr Operation) (o : SeenOperation TinyOp Constant) where
  abbrev View : Type 0
  View = OperationView (OperationData D TypeKind AttrKind TypeBody Saved Location TinyOp Constant Int)

  abbrev Notes : Type 0
  Notes = OperationNotes D TypeKind AttrKind TypeBody Saved Location TinyOp Constant Int

  pub seen_kind : option_map seen_operation (operation_at c p) ≡ Some o → (k : TinyOp) → kind_at c p ≡ Some k → o.kind ≡ k
  seen_kind at k e =
      let s = seen_so seen_operation (operation_at c p) o at in
      sym (ap (λ (v : SeenOperation TinyOp Constant). v.kind) s.2)
      ∙ same_Some s.0.payload.kind k (sym (ap (λ v. option_map (λ d. d.kind) (option_map (λ (u : View). u.payload) v)) s.1) ∙ e)

  pub seen_entries : option_map seen_operation (operation_at c p) ≡ Some o → (n : Notes) → notes_at c p ≡ Some n → n.attributes ≡ o.attributes
  seen_entries at n e =
      let s = seen_so seen_operation (operation_at c p) o at in
      let same : s.0.payload.notes ≡ n = same_Some s.0.payload.notes n (sym (ap (λ v. option_map (λ d. d.notes) (option_map (λ (u : View). u.payload) v)) s.1) ∙ e) in
      sym (ap (λ (m : Notes). m.attributes) same) ∙ ap (λ (v : SeenOperation TinyOp Constant). v.attributes) s.2

  pub seen_operands : option_map seen_operation (operation_at c p) ≡ Some o → operands_at c p ≡ o.operands
  seen_operands at =
      let s = seen_so seen_operation (operation_at c p) o at in
      ap (λ v. unwrap_or (option_map (λ (u : View). u.operands) v) []) s.1 ∙ ap (λ (v : SeenOperation TinyOp Constant). v.operands) s.2

module _ (D : Type 0) where
  -- an operation of a form has its parts
  pub operation_parted : (types : List Int) (form : Form) (entries : List (List ℕ × Constant)) (count : ℕ) (us : Trees (Said Constant)) (ps : Pieces) → said_in form entries count ≡ Some us →
      ShowsAll says types us ps → ShowsParts {D = D} says types (parts_of form (attribute_at entries value_key) count) ps
  operation_parted types forms.Region entries count us ps e h =
      let said = only_if (length entries == 0 && count == 0) (Some (one (alone said_region))) us e in
      let us_is = same_Some (one (alone said_region)) us said.1 in
      let piece = one_heard types said_region region ps refl (subst (λ (vs : Trees (Said Constant)). ShowsAll says types vs ps) (sym us_is) h) in
      subst (λ (qs : Pieces). ShowsParts {D = D} says types (parts.Region ∷ []) qs) (sym piece.1) (refl, tt)
  operation_parted types forms.Value entries count us ps e h =
      let said = only_if (length entries == 1 && count == 0) (said_of_value (attribute_at entries value_key)) us e in
      let value = has_value (attribute_at entries value_key) us said.1 in
      let piece = one_heard types (said_attribute value.0) (value_of_kind sorts.Attribute (attr_number (kind_of value.0))) ps refl (subst (λ (vs : Trees (Said Constant)). ShowsAll says types vs ps) (sym value.2) h) in
      subst (λ o. ShowsParts {D = D} says types (parts_of forms.Value o count) ps) (sym value.1)
      (subst (λ (qs : Pieces). ShowsParts {D = D} says types (parts.Attribute value.0 ∷ []) qs) (sym piece.1) ((value.0, refl, piece.2), tt))
  operation_parted types forms.Operand entries count us ps e h =
      let said = only_if (length entries == 0 && count == 1) (Some (one (alone (said_operands 1)))) us e in
      let us_is = same_Some (one (alone (said_operands 1))) us said.1 in
      let single = eqb-true count 1 (and_parts (length entries == 0) (count == 1) said.0).1 in
      let piece = one_heard types (said_operands 1) (operands 1) ps refl (subst (λ (vs : Trees (Said Constant)). ShowsAll says types vs ps) (sym us_is) h) in
      subst (λ (qs : Pieces). ShowsParts {D = D} says types (parts.Operands count ∷ []) qs) (sym piece.1) (ap parts.Operands single, tt)
  operation_parted types forms.Edge entries count us ps e h =
      let said = only_if (length entries == 0) (Some (one (alone (said_successor count)))) us e in
      let us_is = same_Some (one (alone (said_successor count))) us said.1 in
      let piece = one_heard types (said_successor count) (successor count) ps refl (subst (λ (vs : Trees (Said Constant)). ShowsAll says types vs ps) (sym us_is) h) in
      subst (λ (qs : Pieces). ShowsParts {D = D} says types (parts.Successor count ∷ []) qs) (sym piece.1) (refl, tt)
  operation_parted types forms.Nothing entries count us ps e h =
      let said = only_if (length entries == 0 && count == 0) (Some no_tree) us e in
      let us_is = same_Some no_tree us said.1 in
      let pieces = none_heard types ps (subst (λ (vs : Trees (Said Constant)). ShowsAll says types vs ps) (sym us_is) h) in
      subst (λ (qs : Pieces). ShowsParts {D = D} says types [] qs) (sym pieces) tt
