-- What printing one type, one attribute or one part adds.
use Rattle.std.proofs.Common.{◌≡◌, ℕ, suc, zero, ◌-◌, ◌<◌, List, ◌++◌, sym, ap, ◌∙◌, subst, arith}
use Rattle.std.specs.Prelude.{true, Option, Some, None, slice_get, option_map, Vec}
use Rattle.std.specs.Global.{Global}
use Rattle.ir_base.specs.declared.types.TypeHandle.{TypeHandle}
use Rattle.ir_names.specs.Tree.{LabelledTree, Trees, node, label_of}
use Rattle.ir_print.specs.Formats.{Formats, Kind, Step, Steps, Choices, alternative, choice_of, list_of}
use Rattle.ir_print.specs.Layout.{Chunk, spell, an_id, Printer, alternative_of, piece_on, type_on, parts_on, format_on, some_format_on, kind_on, members_on, Deeper, IsFlat, AreFlat}
use Rattle.ir_print.specs.Nested.{is_nested_little}
use Rattle.ir_print.specs.Pieces.{Piece, value_of_kind, list, item, chosen, operands, successor, region, leaf, ValueTree, Pieces, Values}
use Rattle.text_printing.specs.Printing.{AddsText, AddsLeaf, IsReadable, AreReadable}
use Rattle.ir_print.specs.Shapes.{SaysTypes, SaysAttributes}
use Rattle.ir_print.specs.Shown.{Saying, Shows, ShowsAll, ShowsKey, ShowsPart, ShowsParts, ShowsMembers, ShowsType, ShowsAttribute, IsKindOf, IsLeaf, alone, Said, said_type, said_attribute, said_list, said_item, said_choice, said_operands, said_successor, said_region, said_leaf}
use Rattle.ir_print.specs.declared.format.Part.{Part, Part-F, out-Part}
use Rattle.ir_print.specs.declared.format.Part.TheVariants as part
use Rattle.ir_print.specs.declared.format.LeafValue.{LeafValue}
use Rattle.ir_print.specs.declared.format.Part.TheVariants.{outs-Operands, outs-Successor, outs-Attribute, outs-Type, outs-Region, outs-Leaf, outs-List, outs-Choice}
use Rattle.text_printing.proofs.ListOwed.{no_members}
use Rattle.text_printing.proofs.Owed.{wrote}
use Rattle.text_printing.proofs.Readable.{readable, type_nested, attribute_nested}
use Rattle.ir_print.specs.declared.format.ValueSort.TheVariants as sorts
use Rattle.text_printing.proofs.ValuesOwed.{PrintsPart, IsNoList}

-- the number of a piece's sort
abbrev pub sort_of : Piece → ℕ
sort_of (value_of_kind sorts.«Type» n) = 0
sort_of (value_of_kind sorts.Attribute n) = 1
sort_of list = 2
sort_of item = 3
sort_of (chosen n) = 7
sort_of (operands n) = 4
sort_of (successor n) = 9
sort_of region = 5
sort_of (leaf l) = 6

-- the same of what is said, and of a part
abbrev pub said_sort : {A : Type 0} → Said A → ℕ
said_sort (said_type ty) = 0
said_sort (said_attribute a) = 1
said_sort said_list = 2
said_sort said_item = 3
said_sort (said_choice n) = 7
said_sort (said_operands n) = 4
said_sort (said_successor n) = 9
said_sort said_region = 5
said_sort (said_leaf l) = 6

abbrev pub part_sort : {D K A T P : Type 0} → Part-F D K A T P → ℕ
part_sort (Part-F.Type ty) = 0
part_sort (Part-F.Attribute a) = 1
part_sort (Part-F.List ms) = 2
part_sort (Part-F.Choice n ps) = 7
part_sort (Part-F.Operands n) = 4
part_sort (Part-F.Successor n) = 9
part_sort Part-F.Region = 5
part_sort (Part-F.Leaf l) = 6

module _ {K A T : Type 0} (says : Saying K A T) (types : List T) where
  said_sorts : (x : LabelledTree (Said A)) (p : Piece) (ts : Pieces) → Shows says types x (node p ts) → said_sort (label_of x) ≡ sort_of p
  said_sorts x (value_of_kind sorts.«Type» n) ts h = ap (λ y. said_sort (label_of y)) h.3
  said_sorts x (value_of_kind sorts.Attribute n) ts h = ap (λ y. said_sort (label_of y)) h.2
  said_sorts x list ts h = ap (λ y. said_sort (label_of y)) h.1
  said_sorts x item ts h = ap (λ y. said_sort (label_of y)) h.1
  said_sorts x (chosen n) ts h = ap (λ y. said_sort (label_of y)) h.1
  said_sorts x (operands n) ts h = ap (λ y. said_sort (label_of y)) h
  said_sorts x (successor n) ts h = ap (λ y. said_sort (label_of y)) h
  said_sorts x region ts h = ap (λ y. said_sort (label_of y)) h
  said_sorts x (leaf l) ts h = ap (λ y. said_sort (label_of y)) h

  type_key : (ty : TypeHandle) (key : T) (ts : Pieces) (n : ℕ) → slice_get types ty.number ≡ Some key → ShowsType says types ty (node (value_of_kind sorts.«Type» n) ts) → ShowsKey says types key n ts
  type_key ty key ts n at h =
      let ek : h.1 ≡ key = (let et : ty ≡ h.0 = cc (h.3) in cc (h.4, at, et)) in
      (h.2, subst (λ k. says.of_type k ≡ Some (n, h.2)) ek h.5, h.6)

  attribute_said : (attr : A) (ts : Pieces) (n : ℕ) → ShowsAttribute says types attr (node (value_of_kind sorts.Attribute n) ts) → (us : Trees (Said A)) × (says.of_attribute attr ≡ Some (n, us)) × ShowsAll says types us ts
  attribute_said attr ts n h =
      let ea : h.0 ≡ attr = cc (h.2) in
      (h.1, subst (λ a. says.of_attribute a ≡ Some (n, h.1)) ea h.3, h.4)

flat_below : (left : ℕ) (ts : Pieces) → Deeper left (λ e. AreFlat e ts) → AreFlat (left - 1) ts
flat_below zero ts h = absurd h
flat_below (suc d) ts h = let e : d ≡ suc d - 1 = omega arith in subst (λ n. AreFlat n ts) e h

-- the id of a kind, and what its format says
pub kind_printed : (k : Kind) (o : Option Kind) (ps : List (Option Printer)) (rest : List Chunk) (a b c : List ℕ) → o ≡ Some k → b ≡ a ++ k.id → AddsText b c rest (format_on an_id k.format ps rest) → AddsText a c rest (kind_on o ps rest)
kind_printed k o ps rest a b c e h p = p ∙ wrote a b k.id (spell (format_on an_id k.format ps rest)) h ∙ ap (λ x. a ++ spell (kind_on x ps rest)) (sym e)

module _ {D K A T X : Type 0} (says : Saying K A T) (f : Formats) (v : Values) (types : List T) (kinds : List X) (text : X → Kind) (little : is_nested_little f ≡ true) where
  -- a type of a kind is printed by its id and its parts
  pub type_printed : SaysTypes says f v → ((n : ℕ) → slice_get f.types n ≡ option_map text (slice_get kinds n)) → (ty : TypeHandle) (key : T) (kind : X) (parts : List (Part D K A T)) (left : ℕ) (format : Steps) (a b c : List ℕ)
      → slice_get types ty.number ≡ Some key → IsKindOf (says.of_type key) kinds kind → b ≡ a ++ (text kind).id → format ≡ (text kind).format
      → ((types : List T) → (n : ℕ) → (ps : Pieces) → ShowsKey says types key n ps → ShowsParts says types parts ps)
      → ((ts : Pieces) (rest : List Chunk) → ShowsParts says types parts ts → AreFlat (left - 1) ts → AreReadable 64 ts → AddsText b c rest (format_on an_id format (parts_on f ts) rest))
      → (t : ValueTree) (rest : List Chunk) → ShowsType says types ty t → IsFlat left t → AddsText a c rest (type_on f t rest)
  type_printed law tie ty key kind parts left format a b c at of e g shows print (node (value_of_kind sorts.«Type» n) ts) rest h flat =
      let w = type_key says types ty key ts n at h in
      let s = law types key n w.0 ts w.1 w.2 in
      let ek : slice_get f.types n ≡ Some (text kind) = tie n ∙ ap (option_map text) (of n w.0 w.1) in
      let er : s.kind ≡ text kind = cc (s.at, ek) in
      kind_printed (text kind) (slice_get f.types n) (parts_on f ts) rest a b c ek e
      (subst (λ y. AddsText b c rest (format_on an_id y (parts_on f ts) rest)) g
      (print ts rest (shows types n ts w) (flat_below left ts flat) (readable says types 64 s.kind.format w.0 ts (type_nested f little n s.kind s.at) s.shaped w.2)))
  type_printed law tie ty key kind parts left format a b c at of e g shows print (node p ts) rest h flat =
      absurd (omega (arith, said_sorts says types (alone (said_type ty)) p ts h))

  -- the same of an attribute
  pub attribute_printed : SaysAttributes says f v → ((n : ℕ) → slice_get f.attributes n ≡ option_map text (slice_get kinds n)) → (attr : A) (kind : X) (parts : List (Part D K A T)) (left : ℕ) (format : Steps) (a b c : List ℕ)
      → IsKindOf (says.of_attribute attr) kinds kind → b ≡ a ++ (text kind).id → format ≡ (text kind).format
      → ((types : List T) → (n : ℕ) → (ps : Pieces) → ShowsAttribute says types attr (node (value_of_kind sorts.Attribute n) ps) → ShowsParts says types parts ps)
      → ((ts : Pieces) (rest : List Chunk) → ShowsParts says types parts ts → AreFlat (left - 1) ts → AreReadable 64 ts → AddsText b c rest (format_on an_id format (parts_on f ts) rest))
      → (t : ValueTree) (rest : List Chunk) → ShowsAttribute says types attr t → IsFlat left t → AddsText a c rest (type_on f t rest)
  attribute_printed law tie attr kind parts left format a b c of e g shows print (node (value_of_kind sorts.Attribute n) ts) rest h flat =
      let w = attribute_said says types attr ts n h in
      let s = law types attr n w.0 ts w.1 w.2 in
      let ek : slice_get f.attributes n ≡ Some (text kind) = tie n ∙ ap (option_map text) (of n w.0 w.1) in
      kind_printed (text kind) (slice_get f.attributes n) (parts_on f ts) rest a b c ek e
      (subst (λ y. AddsText b c rest (format_on an_id y (parts_on f ts) rest)) g
      (print ts rest (shows types n ts h) (flat_below left ts flat) (readable says types 64 s.kind.format w.0 ts (attribute_nested f little n s.kind s.at) s.shaped w.2)))
  attribute_printed law tie attr kind parts left format a b c of e g shows print (node p ts) rest h flat =
      absurd (omega (arith, said_sorts says types (alone (said_attribute attr)) p ts h))

-- ---- parts

module _ {D K A T : Type 0} (says : Saying K A T) (types : List T) where
  -- the sort of a part
  abbrev pub sort_in : Part D K A T → ℕ
  sort_in p = part_sort (out-Part D K A T p)

  pub part_sorts : (p : Part D K A T) (q : Piece) (ts : Pieces) → ShowsPart says types p (node q ts) → sort_in p ≡ sort_of q
  part_sorts p (value_of_kind sorts.«Type» n) ts h = ap sort_in h.1 ∙ ap part_sort (outs-Type h.0)
  part_sorts p (value_of_kind sorts.Attribute n) ts h = ap sort_in h.1 ∙ ap part_sort (outs-Attribute h.0)
  part_sorts p list ts h = ap sort_in h.1 ∙ ap part_sort (outs-List h.0)
  part_sorts p item ts h = absurd h
  part_sorts p (chosen n) ts h = ap sort_in h.1 ∙ ap part_sort (outs-Choice n h.0)
  part_sorts p (operands n) ts h = ap sort_in h ∙ ap part_sort (outs-Operands n)
  part_sorts p (successor n) ts h = ap sort_in h ∙ ap part_sort (outs-Successor n)
  part_sorts p region ts h = ap sort_in h ∙ ap part_sort outs-Region
  part_sorts p (leaf l) ts h = ap sort_in h.1 ∙ ap part_sort (outs-Leaf h.0)

  same_type : (x y : TypeHandle) (p : Part D K A T) → p ≡ part.Type x → p ≡ part.Type y → x ≡ y
  same_type x y p e h =
      let o : Part-F.«Type» x ≡ Part-F.«Type» y = sym (outs-Type x) ∙ ap (out-Part D K A T) (sym e ∙ h) ∙ outs-Type y in cc

  same_attribute : (x y : A) (p : Part D K A T) → p ≡ part.Attribute x → p ≡ part.Attribute y → x ≡ y
  same_attribute x y p e h =
      let o : Part-F.Attribute x ≡ Part-F.Attribute y = sym (outs-Attribute x) ∙ ap (out-Part D K A T) (sym e ∙ h) ∙ outs-Attribute y in cc

  same_leaf : (x y : LeafValue) (p : Part D K A T) → p ≡ part.Leaf x → p ≡ part.Leaf y → x ≡ y
  same_leaf x y p e h =
      let o : Part-F.Leaf x ≡ Part-F.Leaf y = sym (outs-Leaf x) ∙ ap (out-Part D K A T) (sym e ∙ h) ∙ outs-Leaf y in cc

  same_list : (x y : Vec (Vec (Part D K A T) Global) Global) (p : Part D K A T) → p ≡ part.List x → p ≡ part.List y → x ≡ y
  same_list x y p e h =
      let o : Part-F.List x ≡ Part-F.List y = sym (outs-List x) ∙ ap (out-Part D K A T) (sym e ∙ h) ∙ outs-List y in cc

  same_choice : (m n : ℕ) (x y : Vec (Part D K A T) Global) (p : Part D K A T) → p ≡ part.Choice m x → p ≡ part.Choice n y → (m ≡ n) × (x ≡ y)
  same_choice m n x y p e h =
      let o : Part-F.Choice m x ≡ Part-F.Choice n y = sym (outs-Choice m x) ∙ ap (out-Part D K A T) (sym e ∙ h) ∙ outs-Choice n y in (cc, cc)

  module _ (f : Formats) (left lists : ℕ) (p : Part D K A T) (s : Step) where
    pub type_part_printed : (ty : TypeHandle) (a b : List ℕ) → p ≡ part.Type ty → ((t : ValueTree) (rest : List Chunk) → ShowsType says types ty t → IsFlat left t → AddsText a b rest (type_on f t rest)) → PrintsPart says types f left lists p s a b
    type_part_printed ty a b e print (node (value_of_kind sorts.«Type» n) ts) rest h flat r =
        print (node (value_of_kind sorts.«Type» n) ts) rest (subst (λ x. ShowsType says types x (node (value_of_kind sorts.«Type» n) ts)) (same_type h.0 ty p h.1 e) h.2) flat
    type_part_printed ty a b e print (node q ts) rest h flat r = absurd (omega (arith, part_sorts p q ts h, ap sort_in e ∙ ap part_sort (outs-Type ty)))

    pub attribute_part_printed : (attr : A) (a b : List ℕ) → p ≡ part.Attribute attr → ((t : ValueTree) (rest : List Chunk) → ShowsAttribute says types attr t → IsFlat left t → AddsText a b rest (type_on f t rest)) → PrintsPart says types f left lists p s a b
    attribute_part_printed attr a b e print (node (value_of_kind sorts.Attribute n) ts) rest h flat r =
        print (node (value_of_kind sorts.Attribute n) ts) rest (subst (λ x. ShowsAttribute says types x (node (value_of_kind sorts.Attribute n) ts)) (same_attribute h.0 attr p h.1 e) h.2) flat
    attribute_part_printed attr a b e print (node q ts) rest h flat r = absurd (omega (arith, part_sorts p q ts h, ap sort_in e ∙ ap part_sort (outs-Attribute attr)))

    pub leaf_part_printed : (l : LeafValue) (a b : List ℕ) → p ≡ part.Leaf l → AddsLeaf s l a b → PrintsPart says types f left lists p s a b
    leaf_part_printed l a b e print (node (leaf x) ts) rest h flat r = print x rest (subst (λ k. IsLeaf k x) (same_leaf h.0 l p h.1 e) h.2) r
    leaf_part_printed l a b e print (node (value_of_kind sorts.«Type» n) ts) rest h flat r = absurd (omega (arith, part_sorts p (value_of_kind sorts.«Type» n) ts h, ap sort_in e ∙ ap part_sort (outs-Leaf l)))
    leaf_part_printed l a b e print (node (value_of_kind sorts.Attribute n) ts) rest h flat r = absurd (omega (arith, part_sorts p (value_of_kind sorts.Attribute n) ts h, ap sort_in e ∙ ap part_sort (outs-Leaf l)))
    leaf_part_printed l a b e print (node q ts) rest h flat r = absurd (omega (arith, part_sorts p q ts h, ap sort_in e ∙ ap part_sort (outs-Leaf l)))

    -- a part that isn't a list there prints nothing
    pub no_list_printed : (ms : Vec (Vec (Part D K A T) Global) Global) (a : List ℕ) → p ≡ part.List ms → IsNoList s → PrintsPart says types f left lists p s a a
    no_list_printed ms a e none (node list ts) rest h flat r = ap (λ cs. a ++ cs) (sym (no_members says types f s none h.0.items ts h.2 rest))
    no_list_printed ms a e none (node (value_of_kind sorts.«Type» n) ts) rest h flat r = absurd (omega (arith, part_sorts p (value_of_kind sorts.«Type» n) ts h, ap sort_in e ∙ ap part_sort (outs-List ms)))
    no_list_printed ms a e none (node (value_of_kind sorts.Attribute n) ts) rest h flat r = absurd (omega (arith, part_sorts p (value_of_kind sorts.Attribute n) ts h, ap sort_in e ∙ ap part_sort (outs-List ms)))
    no_list_printed ms a e none (node q ts) rest h flat r = absurd (omega (arith, part_sorts p q ts h, ap sort_in e ∙ ap part_sort (outs-List ms)))

    -- nor does a part that isn't a choice there
    pub no_choice_printed : (m : ℕ) (qs : Vec (Part D K A T) Global) (a : List ℕ) → p ≡ part.Choice m qs → ((n : ℕ) → alternative_of s n ≡ None) → PrintsPart says types f left lists p s a a
    no_choice_printed m qs a e none (node (chosen n) ts) rest h flat r = ap (λ o. a ++ spell (some_format_on o (parts_on f ts) rest)) (sym (none n))
    no_choice_printed m qs a e none (node (value_of_kind sorts.«Type» n) ts) rest h flat r = absurd (omega (arith, part_sorts p (value_of_kind sorts.«Type» n) ts h, ap sort_in e ∙ ap part_sort (outs-Choice m qs)))
    no_choice_printed m qs a e none (node (value_of_kind sorts.Attribute n) ts) rest h flat r = absurd (omega (arith, part_sorts p (value_of_kind sorts.Attribute n) ts h, ap sort_in e ∙ ap part_sort (outs-Choice m qs)))
    no_choice_printed m qs a e none (node q ts) rest h flat r = absurd (omega (arith, part_sorts p q ts h, ap sort_in e ∙ ap part_sort (outs-Choice m qs)))

  -- a choice there is printed by its format with the number
  choice_by : (f : Formats) (left lists : ℕ) (p : Part D K A T) (s : Step) (cs : Choices) (m : ℕ) (qs : Vec (Part D K A T) Global) (a b : List ℕ) → p ≡ part.Choice m qs → s ≡ choice_of cs
      → ((ts : Pieces) (rest : List Chunk) → ShowsParts says types qs.items ts → AreFlat left ts → AreReadable lists ts → AddsText a b rest (some_format_on (alternative cs m) (parts_on f ts) rest))
      → (t : ValueTree) (rest : List Chunk) → ShowsPart says types p t → IsFlat left t → IsReadable (suc lists) t → AddsText a b rest (piece_on f t s rest)
  choice_by f left lists p s cs m qs a b e es print (node (chosen n) ts) rest h flat r =
      let same : (n ≡ m) × (h.0 ≡ qs) = same_choice n m h.0 qs p h.1 e in
      subst (λ x. AddsText a b rest (some_format_on (alternative_of x n) (parts_on f ts) rest)) (sym es)
      (subst (λ k. AddsText a b rest (some_format_on (alternative cs k) (parts_on f ts) rest)) (sym same.0)
      (print ts rest (subst (λ (v : Vec (Part D K A T) Global). ShowsParts says types v.items ts) same.1 h.2) flat r))
  choice_by f left lists p s cs m qs a b e es print (node (value_of_kind sorts.«Type» n) ts) rest h flat r = absurd (omega (arith, part_sorts p (value_of_kind sorts.«Type» n) ts h, ap sort_in e ∙ ap part_sort (outs-Choice m qs)))
  choice_by f left lists p s cs m qs a b e es print (node (value_of_kind sorts.Attribute n) ts) rest h flat r = absurd (omega (arith, part_sorts p (value_of_kind sorts.Attribute n) ts h, ap sort_in e ∙ ap part_sort (outs-Choice m qs)))
  choice_by f left lists p s cs m qs a b e es print (node q ts) rest h flat r = absurd (omega (arith, part_sorts p q ts h, ap sort_in e ∙ ap part_sort (outs-Choice m qs)))

  pub choice_printed : (f : Formats) (left lists : ℕ) (p : Part D K A T) (s : Step) (cs : Choices) (m : ℕ) (qs : Vec (Part D K A T) Global) (a b : List ℕ) → 0 < lists → p ≡ part.Choice m qs → s ≡ choice_of cs
      → ((ts : Pieces) (rest : List Chunk) → ShowsParts says types qs.items ts → AreFlat left ts → AreReadable (lists - 1) ts → AddsText a b rest (some_format_on (alternative cs m) (parts_on f ts) rest))
      → PrintsPart says types f left lists p s a b
  choice_printed f left zero p s cs m qs a b lt e es print = absurd (omega arith)
  choice_printed f left (suc d) p s cs m qs a b lt e es print =
      let eq : suc d - 1 ≡ d = omega arith in
      choice_by f left d p s cs m qs a b e es (λ ts rest h k r. print ts rest h k (subst (λ n. AreReadable n ts) (sym eq) r))

  -- a list there is printed by its members
  list_by : (f : Formats) (left lists : ℕ) (p : Part D K A T) (s : Step) (member : Steps) (printed text : List ℕ) (ms : Vec (Vec (Part D K A T) Global) Global) (a b : List ℕ) → p ≡ part.List ms → s ≡ list_of member printed text
      → ((ts : Pieces) (rest : List Chunk) → ShowsMembers says types ms.items ts → AreFlat left ts → AreReadable lists ts → AddsText a b rest (members_on (list_of member printed text) (parts_on f ts) rest))
      → (t : ValueTree) (rest : List Chunk) → ShowsPart says types p t → IsFlat left t → IsReadable (suc lists) t → AddsText a b rest (piece_on f t s rest)
  list_by f left lists p s member printed text ms a b e es print (node list ts) rest h flat r =
      subst (λ x. AddsText a b rest (members_on x (parts_on f ts) rest)) (sym es)
      (print ts rest (subst (λ v. ShowsMembers says types v.items ts) (same_list h.0 ms p h.1 e) h.2) flat r)
  list_by f left lists p s member printed text ms a b e es print (node (value_of_kind sorts.«Type» n) ts) rest h flat r = absurd (omega (arith, part_sorts p (value_of_kind sorts.«Type» n) ts h, ap sort_in e ∙ ap part_sort (outs-List ms)))
  list_by f left lists p s member printed text ms a b e es print (node (value_of_kind sorts.Attribute n) ts) rest h flat r = absurd (omega (arith, part_sorts p (value_of_kind sorts.Attribute n) ts h, ap sort_in e ∙ ap part_sort (outs-List ms)))
  list_by f left lists p s member printed text ms a b e es print (node q ts) rest h flat r = absurd (omega (arith, part_sorts p q ts h, ap sort_in e ∙ ap part_sort (outs-List ms)))

  pub list_printed : (f : Formats) (left lists : ℕ) (p : Part D K A T) (s : Step) (member : Steps) (printed text : List ℕ) (ms : Vec (Vec (Part D K A T) Global) Global) (a b : List ℕ) → 0 < lists → p ≡ part.List ms → s ≡ list_of member printed text
      → ((ts : Pieces) (rest : List Chunk) → ShowsMembers says types ms.items ts → AreFlat left ts → AreReadable (lists - 1) ts → AddsText a b rest (members_on (list_of member printed text) (parts_on f ts) rest))
      → PrintsPart says types f left lists p s a b
  list_printed f left zero p s member printed text ms a b lt e es print = absurd (omega arith)
  list_printed f left (suc d) p s member printed text ms a b lt e es print =
      let eq : suc d - 1 ≡ d = omega arith in
      list_by f left d p s member printed text ms a b e es (λ ts rest h k r. print ts rest h k (subst (λ n. AreReadable n ts) (sym eq) r))
