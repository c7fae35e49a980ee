-- Operations of two contexts that say the same have heads that are the same but for numbers.
use Rattle.std.proofs.Common.{◌≡◌, ℕ, List, [], ◌∷◌, ◌++◌, length, map, Option, Some, option_and_then, inl, inr}
use Rattle.std.proofs.Common.{refl, sym, ap, ◌∙◌, subst}
use Rattle.std.proofs.lemmas.Option.{same_Some}
use Rattle.ir_base.specs.declared.types.TypeHandle.{TypeHandle}
use Rattle.ir_forest.specs.Bare.{AreBare}
use Rattle.ir_names.specs.Dictionary.{attribute_at}
use Rattle.ir_names.specs.Identifier.{text_of}
use Rattle.ir_names.specs.Tree.{no_tree, a_tree}
use Rattle.ir_print.specs.Pieces.{operands, successor, region, leaf, name, ValueTree, Pieces, operation}
use Rattle.ir_print.specs.Shown.{said_type, alone, Pairs, ShowsType}
use Rattle.ir_program.specs.Program.{OperationView, TypedValue}
use Rattle.ir_program.specs.declared.handles.Value as handles
use Rattle.ir_trees.specs.Renames.{rename_defined}
use Rattle.ir_trees.specs.Stands.{defined_by}
use Rattle.ir_trees.specs.Trees.{Defined}
use Rattle.opt_meanings.specs.Meanings.{mean_defined}
use Rattle.opt_trees.proofs.NoneDead.{has-left, has-right}
use Rattle.opt_trees.specs.Occurrences.{Has}
use Rattle.text_dialect.specs.Seen.{types_of, seen_operation}
use Rattle.text_dialect.specs.Standing.{HasDefinition, HasHead}
use Rattle.text_rereading.specs.Rereading.{Numbering, Named}
use Rattle.kit.specs.Meaning.{KitOperation}
use Rattle.kit_ops.specs.declared.attributes.IntegerAttr.{IntegerAttr}
use Rattle.kit_ops.specs.declared.attributes.KitAttr.{KitAttr}
use Rattle.kit_ops.specs.declared.attributes.KitAttr.TheVariants as attrs
use Rattle.kit_ops.specs.declared.types.KitType.{KitType}
use Rattle.kit_ops.specs.Keys.{symbol_name, function_type, constant_value, callee, callee_type, segment_sizes}
use Rattle.kit.specs.Forms.{OpForm, NamedRegion, TypedRegion, Value, TwoOperands, OneOperand, AnyOperands, Empty}
use Rattle.kit.specs.Forms.{Called, Edge, ConditionEdges}
use Rattle.kit.specs.Forms.{form_of, number_of}
use Rattle.kit.specs.Says.{says, one, two}
use Rattle.kit.specs.Seen.{seen}
use Rattle.kit_text_programs.proofs.SaidHeads.{said_parts}
use Rattle.kit_text_programs.specs.SameLaws.{types_among}
use Rattle.kit_text_programs.specs.Meanings.{Attribute, Integer, Name, OfType, Sizes, OperationMeaning, Number, number_meant}
use Rattle.kit_text_programs.specs.Meanings.{attribute_meant}
use Rattle.kit_text_programs.specs.Meanings.{operation_meant}
use Rattle.kit_text_programs.proofs.ToldTexts.SideBySide.{pairs_long}
use Rattle.kit_text_programs.proofs.ToldTexts.Near.{Definitions, OfOneType, AreNearHeads}
use Rattle.kit_text_programs.proofs.ToldTexts.ToldPieces.{Entries, plain, integer_piece, IsTold, told}

-- ---- attributes that mean the same

-- what these mean at a key is the same
abbrev MeanSame : (TypeHandle → ℕ) → (TypeHandle → ℕ) → Option KitAttr → Option KitAttr → Type 0
MeanSame code other o q = option_and_then (attribute_meant code) o ≡ option_and_then (attribute_meant other) q

-- names that mean the same are the same
texts_one : (cs ds : List ℕ) → ◌≡◌ {A = Option Attribute} (Some (Name cs)) (Some (Name ds)) → cs ≡ ds
texts_one cs ds e = cc

-- types that mean the same have one number
types_one : (n m : ℕ) → ◌≡◌ {A = Option Attribute} (Some (OfType n)) (Some (OfType m)) → n ≡ m
types_one n m e = cc

-- integers that mean the same are the same
integers_one : (n m : Number) → ◌≡◌ {A = Option Attribute} (Some (Integer n)) (Some (Integer m)) → n ≡ m
integers_one n m e = cc

-- sizes that mean the same are the same
sizes_one : (xs ys : List ℕ) → ◌≡◌ {A = Option Attribute} (Some (Sizes xs)) (Some (Sizes ys)) → xs ≡ ys
sizes_one xs ys e = cc

-- sizes of two edges that are the same
edges_one : (a c b d : ℕ) → 1 ∷ a ∷ b ∷ [] ≡ 1 ∷ c ∷ d ∷ [] → (a ≡ c) × (b ≡ d)
edges_one a c b d e =
    let rest : a ∷ b ∷ [] ≡ c ∷ d ∷ [] = cc in
    let first : a ≡ c = cc in
    let tail : b ∷ [] ≡ d ∷ [] = cc in
    let second : b ≡ d = cc in (first, second)

-- the piece of an integer is that of its type and its bits
integer_pieces : (a b : IntegerAttr) → a.integer ≡ b.integer → a.bits ≡ b.bits → integer_piece a ≡ integer_piece b
integer_pieces a b e f = λ i. integer_piece (record { ty = a.ty; integer = e i; bits = f i })

-- what is known of two options that are there
at_both : (code other : TypeHandle → ℕ) (o q : Option KitAttr) (x y : KitAttr) → MeanSame code other o q
    → o ≡ Some x → q ≡ Some y → MeanSame code other (Some x) (Some y)
at_both code other o q x y h e f =
    sym (ap (option_and_then (attribute_meant code)) e) ∙ (h ∙ ap (option_and_then (attribute_meant other)) f)

-- lists that are the same have the same first
first_same : (x y : ℕ) (xs ys : List ℕ) → x ∷ xs ≡ y ∷ ys → x ≡ y
first_same x y xs ys e = cc

-- ---- pieces

-- a type that is shown is among pieces that begin with it
type_first : (keys : List KitType) (ty : TypeHandle) (r : ValueTree) (ps : Pieces) → ShowsType says keys ty r
    → Has r (types_among (a_tree r ps))
type_first keys ty r ps h =
    let k = seen says keys (alone (said_type ty)) r h in
    subst (λ (x : ValueTree). Has x (types_among (a_tree x ps))) (sym k.2) (inl refl)

-- all of a list are such
abbrev pub Each : (ValueTree → Type 0) → List ValueTree → Type 0
Each P rs = (r : ValueTree) → Has r rs → P r

-- types that are shown in both contexts, with the same codes, are the same
abbrev pub AreApart : List KitType → List KitType → (TypeHandle → ℕ) → (TypeHandle → ℕ) → (ValueTree → Type 0)
    → (ValueTree → Type 0) → Type 0
AreApart keys others code other A B = (h c : TypeHandle) (r q : ValueTree) → A r → B q → ShowsType says keys h r
    → ShowsType says others c q → code h ≡ other c → r ≡ q

module _ (keys others : List KitType) (code other : TypeHandle → ℕ) (A B : ValueTree → Type 0)
    (apart : AreApart keys others code other A B) where
  -- what two operations of one form tell is the same
  told_same : (form : OpForm) (es fs : Entries) (n m : ℕ) (tys us : List TypeHandle) (ps qs : Pieces)
      → IsTold keys form es n tys ps → IsTold others form fs m us qs
      → ((key : List ℕ) → MeanSame code other (attribute_at es key) (attribute_at fs key)) → n ≡ m
      → map code tys ≡ map other us → Each A (types_among ps) → Each B (types_among qs) → ps ≡ qs
  told_same NamedRegion es fs n m tys us ps qs h k means count types here there =
      let names = texts_one (text_of h.0) (text_of k.0) (at_both code other (attribute_at es symbol_name)
      (attribute_at fs symbol_name) (attrs.Identifier h.0) (attrs.Identifier k.0) (means symbol_name) h.1 k.1) in
      h.2 ∙ (ap (λ (cs : List ℕ). two (plain (leaf (name cs))) (plain region)) names ∙ sym k.2)
  told_same TypedRegion es fs n m tys us ps qs h k means count types here there =
      let names = texts_one (text_of h.0) (text_of k.0) (at_both code other (attribute_at es symbol_name)
      (attribute_at fs symbol_name) (attrs.Identifier h.0) (attrs.Identifier k.0) (means symbol_name) h.3 k.3) in
      let codes = types_one (code h.1) (other k.1) (at_both code other (attribute_at es function_type)
      (attribute_at fs function_type) (attrs.«Type» h.1) (attrs.«Type» k.1) (means function_type) h.4 k.4) in
      let a = subst (Each A) (ap types_among h.6) here in
      let b = subst (Each B) (ap types_among k.6) there in
      let one_type = apart h.1 k.1 h.2 k.2 (a h.2 (type_first keys h.1 h.2 (one (plain region)) h.5))
      (b k.2 (type_first others k.1 k.2 (one (plain region)) k.5)) h.5 k.5 codes in
      h.6 ∙ ((λ i. a_tree (plain (leaf (name (names i)))) (two (one_type i) (plain region))) ∙ sym k.6)
  told_same Value es fs n m tys us ps qs h k means count types here there =
      let same : number_meant code h.0 ≡ number_meant other k.0 = integers_one (number_meant code h.0)
      (number_meant other k.0) (at_both code other (attribute_at es constant_value)
      (attribute_at fs constant_value) (attrs.Integer h.0) (attrs.Integer k.0) (means constant_value) h.1 k.1) in
      h.2 ∙ (ap (λ (p : ValueTree). one p) (integer_pieces h.0 k.0 (ap (λ (x : Number). x.integer) same)
      (ap (λ (x : Number). x.bits) same)) ∙ sym k.2)
  told_same TwoOperands es fs n m tys us ps qs h k means count types here there =
      let codes = first_same (code h.0) (other k.0) [] []
      (sym (ap (map code) h.2) ∙ (types ∙ ap (map other) k.2)) in
      let a = subst (Each A) (ap types_among h.4) here in
      let b = subst (Each B) (ap types_among k.4) there in
      let one_type = apart h.0 k.0 h.1 k.1 (a h.1 (type_first keys h.0 h.1 no_tree h.3))
      (b k.1 (type_first others k.0 k.1 no_tree k.3)) h.3 k.3 codes in
      h.4 ∙ ((λ i. a_tree (plain (operands 1)) (two (plain (operands 1)) (one_type i))) ∙ sym k.4)
  told_same OneOperand es fs n m tys us ps qs h k means count types here there = h ∙ sym k
  told_same AnyOperands es fs n m tys us ps qs h k means count types here there =
      h ∙ (ap (λ (i : ℕ). one (plain (operands i))) count ∙ sym k)
  told_same Empty es fs n m tys us ps qs h k means count types here there = h ∙ sym k
  told_same Called es fs n m tys us ps qs h k means count types here there =
      let names = texts_one (text_of h.0) (text_of k.0) (at_both code other (attribute_at es callee)
      (attribute_at fs callee) (attrs.Identifier h.0) (attrs.Identifier k.0) (means callee) h.3 k.3) in
      let codes = types_one (code h.1) (other k.1) (at_both code other (attribute_at es callee_type)
      (attribute_at fs callee_type) (attrs.«Type» h.1) (attrs.«Type» k.1) (means callee_type) h.4 k.4) in
      let a = subst (Each A) (ap types_among h.6) here in
      let b = subst (Each B) (ap types_among k.6) there in
      let one_type = apart h.1 k.1 h.2 k.2 (a h.2 (type_first keys h.1 h.2 no_tree h.5))
      (b k.2 (type_first others k.1 k.2 no_tree k.5)) h.5 k.5 codes in
      h.6 ∙ ((λ i. a_tree (plain (leaf (name (names i)))) (two (plain (operands (count i))) (one_type i))) ∙ sym k.6)
  told_same Edge es fs n m tys us ps qs h k means count types here there =
      h ∙ (ap (λ (i : ℕ). one (plain (successor i))) count ∙ sym k)
  told_same ConditionEdges es fs n m tys us ps qs h k means count types here there =
      let sizes = sizes_one h.0.items k.0.items (at_both code other (attribute_at es segment_sizes)
      (attribute_at fs segment_sizes) (attrs.SegmentSizes h.0) (attrs.SegmentSizes k.0) (means segment_sizes) h.3 k.3) in
      let both = edges_one h.1 k.1 h.2 k.2 (sym h.4 ∙ (sizes ∙ k.4)) in
      h.5 ∙ ((λ i. a_tree (plain (operands 1)) (two (plain (successor (both.0 i))) (plain (successor (both.1 i))))) ∙ sym k.5)

-- ---- heads

-- what is said of definitions: their types, by codes
abbrev pub definitions_meant : (TypeHandle → ℕ) → List TypedValue → List (Defined (Unit {0}) ℕ)
definitions_meant code vs =
    map (rename_defined {V = handles.Value} {W = Unit {0}} (λ _. tt)) (map (mean_defined code) (map defined_by vs))

-- definitions that mean the same have first types of one code
first_holds : (x y : Defined (Unit {0}) ℕ) (xs ys : List (Defined (Unit {0}) ℕ)) → x ∷ xs ≡ y ∷ ys → x.holds ≡ y.holds
first_holds x y xs ys e = let one : x ≡ y = cc in ap (λ (d : Defined (Unit {0}) ℕ). d.holds) one

-- and the others mean the same
rest_meant : (x y : Defined (Unit {0}) ℕ) (xs ys : List (Defined (Unit {0}) ℕ)) → x ∷ xs ≡ y ∷ ys → xs ≡ ys
rest_meant x y xs ys e = cc

-- no definitions are not some
no_meant : (x : Defined (Unit {0}) ℕ) (xs : List (Defined (Unit {0}) ℕ)) → [] ≡ x ∷ xs → ⊥
no_meant x xs e = cc

-- the types of definitions that mean the same have the same codes
codes_same : (code other : TypeHandle → ℕ) (vs us : List TypedValue)
    → definitions_meant code vs ≡ definitions_meant other us → map code (types_of vs) ≡ map other (types_of us)
codes_same code other vs us e =
    holds_of vs code ∙ (ap (map (λ (d : Defined (Unit {0}) ℕ). d.holds)) e ∙ sym (holds_of us other))
  where
    holds_of : (ws : List TypedValue) (f : TypeHandle → ℕ)
        → map f (types_of ws) ≡ map (λ (d : Defined (Unit {0}) ℕ). d.holds) (definitions_meant f ws)
    holds_of [] f = refl
    holds_of (w ∷ ws) f = ap (λ (ns : List ℕ). f w.ty ∷ ns) (holds_of ws f)

module _ (keys others : List KitType) (code other : TypeHandle → ℕ) (A B : ValueTree → Type 0)
    (apart : AreApart keys others code other A B) (numbering numbers : Numbering) where
  -- definitions of types with the same codes have one type each
  pub definitions_near : (vs us : List TypedValue) (xs ys : Definitions)
      → Pairs (HasDefinition says (Named numbering) keys) vs xs → Pairs (HasDefinition says (Named numbers) others) us ys
      → definitions_meant code vs ≡ definitions_meant other us → Each A (map (λ (r : ℕ × ValueTree). r.1) xs)
      → Each B (map (λ (r : ℕ × ValueTree). r.1) ys) → Pairs OfOneType xs ys
  definitions_near [] [] [] [] h k e a b = tt
  definitions_near [] [] [] (y ∷ ys) h k e a b = absurd k
  definitions_near [] us (x ∷ xs) ys h k e a b = absurd h
  definitions_near [] (u ∷ us) [] ys h k e a b =
      absurd (no_meant (record { name = tt; holds = other u.ty }) (definitions_meant other us) e)
  definitions_near (v ∷ vs) us [] ys h k e a b = absurd h
  definitions_near (v ∷ vs) [] (x ∷ xs) ys h k e a b =
      absurd (no_meant (record { name = tt; holds = code v.ty }) (definitions_meant code vs) (sym e))
  definitions_near (v ∷ vs) (u ∷ us) (x ∷ xs) [] h k e a b = absurd k
  definitions_near (v ∷ vs) (u ∷ us) (x ∷ xs) (y ∷ ys) h k e a b =
      let v_meant : Defined (Unit {0}) ℕ = record { name = tt; holds = code v.ty } in
      let u_meant : Defined (Unit {0}) ℕ = record { name = tt; holds = other u.ty } in (
        apart v.ty u.ty x.1 y.1 (a x.1 (inl refl)) (b y.1 (inl refl)) h.0.1 k.0.1
            (first_holds v_meant u_meant (definitions_meant code vs) (definitions_meant other us) e),
        definitions_near vs us xs ys h.1 k.1
            (rest_meant v_meant u_meant (definitions_meant code vs) (definitions_meant other us) e)
            (λ r is. a r (inr is)) (λ r is. b r (inr is)),
      )

  -- operations that say the same have heads that are the same but for numbers
  pub heads_near : (v u : OperationView KitOperation) (kind kind_there : ℕ) (results again : Definitions)
      (used taken successors going : List ℕ) (pieces said : Pieces)
      → HasHead says (Named numbering) keys (seen_operation v) kind results used successors pieces
      → HasHead says (Named numbers) others (seen_operation u) kind_there again taken going said
      → operation_meant code v.payload ≡ operation_meant other u.payload
      → definitions_meant code v.results ≡ definitions_meant other u.results → length v.operands ≡ length u.operands
      → length v.successors ≡ length u.successors → Each A (map (λ (r : ℕ × ValueTree). r.1) results ++ types_among pieces)
      → Each B (map (λ (r : ℕ × ValueTree). r.1) again ++ types_among said)
      → AreBare pieces → AreBare said
      → AreNearHeads (operation kind results used successors pieces) (operation kind_there again taken going said)
  heads_near v u kind kind_there results again used taken successors going pieces said h k meant types count goes a b bare
      too =
      let p = said_parts v.payload.kind v.payload.notes.attributes (length v.operands) (types_of v.results) kind
      h.said h.says_it in
      let q = said_parts u.payload.kind u.payload.notes.attributes (length u.operands) (types_of u.results) kind_there
      k.said k.says_it in
      let kinds : v.payload.kind ≡ u.payload.kind = ap (λ (c : OperationMeaning). c.kind) meant in
      let forms : q.0 ≡ p.0 = same_Some q.0 p.0 (sym q.1 ∙ (ap form_of (sym kinds) ∙ p.1)) in
      let numbered : kind ≡ kind_there = same_Some kind kind_there (sym p.2 ∙ (ap number_of kinds ∙ q.2)) in
      let here = told keys v.payload.notes.attributes (length v.operands) (types_of v.results) pieces bare p.0 h.said
      p.3 h.shown in
      let there = subst (λ f. IsTold others f u.payload.notes.attributes (length u.operands) (types_of u.results) said)
      forms (told others u.payload.notes.attributes (length u.operands) (types_of u.results) said too q.0 k.said
      q.3 k.shown) in
      let firsts = map (λ (r : ℕ × ValueTree). r.1) results in
      let seconds = map (λ (r : ℕ × ValueTree). r.1) again in (
        numbered,
        definitions_near v.results u.results results again h.defines k.defines types
            (λ r is. a r (has-left r firsts (types_among pieces) is))
            (λ r is. b r (has-left r seconds (types_among said) is)),
        sym (pairs_long (Named numbering).value v.operands used h.mentions)
            ∙ (count ∙ pairs_long (Named numbers).value u.operands taken k.mentions),
        sym (pairs_long (Named numbering).block v.successors successors h.goes_on)
            ∙ (goes ∙ pairs_long (Named numbers).block u.successors going k.goes_on),
        told_same keys others code other A B apart p.0 v.payload.notes.attributes u.payload.notes.attributes
            (length v.operands) (length u.operands) (types_of v.results) (types_of u.results) pieces said here there
            (λ key. ap (λ (c : OperationMeaning). c.attributes key) meant) count
            (codes_same code other v.results u.results types)
            (λ r is. a r (has-right r firsts (types_among pieces) is))
            (λ r is. b r (has-right r seconds (types_among said) is)),
      )
