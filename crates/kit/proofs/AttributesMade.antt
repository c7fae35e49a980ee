-- What attributes are made of parts, and what is refused.
use Rattle.std.proofs.Common.{◌≡◌, ℕ, zero, suc, ◌<◌, ◌≤◌, ◌+◌, ◌^◌, Bool, true, false, cond, ◌&&◌, List, [], ◌∷◌, ◌++◌, take, length, get_or, Option, Some, None, is_some, option_map, option_and_then, Vec, String, string_bytes, map, nat_lt, refl, sym, ap, ◌∙◌, subst, arith}
use Rattle.std.proofs.lemmas.List.{take_all, take_more}
use Rattle.std.specs.Global.{Global}
use Rattle.ir_base.specs.declared.types.TypeHandle.{TypeHandle}
use Rattle.ir_names.specs.declared.identifier.Identifier.{Identifier}
use Rattle.ir_names.specs.Identifier.{text_of}
use Rattle.ir_names.specs.Tree.{LabelledTree, node, no_tree, a_tree}
use Rattle.ir_print.specs.declared.format.Part.{Part}
use Rattle.ir_print.specs.declared.format.ValueSort.TheVariants as sorts
use Rattle.ir_print.specs.Pieces.{value_of_kind, list, item, chosen, name, ValueTree, Pieces}
use Rattle.ir_print.specs.Shown.{Said, said_type, said_list, said_leaf, alone, Shows, ShowsAll, ShowsPart, ShowsParts, ShowsMembers, ShowsAttribute}
use Rattle.kit_ops.specs.declared.kinds.KitOp.{KitOp}
use Rattle.kit_ops.specs.declared.types.KitType.{KitType}
use Rattle.kit_ops.specs.declared.attributes.KitAttr.{KitAttr}
use Rattle.kit_ops.specs.declared.attributes.KitAttr.TheVariants as attrs
use Rattle.kit.specs.Parts.{choice_part}
use Rattle.kit.specs.Making.{one_name, one_type, one_size, one_text, one_list, given_name_of, one_given_name, each_member, first_unread, MakesAttributeOfKind, RefusesAttributeOfKind}
use Rattle.kit.specs.Says.{says, one, only as said_if, members_said, size_said, given_name_said, text_said, are_sizes, is_one, is_name, is_type, is_size, is_text, is_name_or_none, first_refused, refused_list, refused_unless}
use Rattle.kit.proofs.Made.{both, none_is_no}
use Rattle.kit.proofs.Shapes.{name_shown, not_name, type_shown, not_type, list_shown, one_shown, not_one}
use Rattle.kit.proofs.AttributeShapes.{size_shown, not_size, text_shown, not_text, choice_shown, a_choice, not_list, two_lists_refused}

-- ---- options

-- a value of an option of which a function gives one
given_by : {X Y : Type 0} (f : X → Option Y) (o : Option X) (y : Y) → option_and_then f o ≡ Some y → (x : X) × (o ≡ Some x) × (f x ≡ Some y)
given_by f (Some x) y e = (x, refl, e)
given_by f None y e = none_is_no e

mapped_from : {X Y : Type 0} (f : X → Y) (o : Option X) (y : Y) → option_map f o ≡ Some y → (x : X) × (o ≡ Some x) × (f x ≡ y)
mapped_from f (Some x) y e = (x, refl, cc)
mapped_from f None y e = none_is_no e

not_mapped : {X Y : Type 0} (f : X → Y) (o : Option X) → option_map f o ≡ None → o ≡ None
not_mapped f (Some x) e = cc
not_mapped f None e = refl

-- a member fails where it isn't read, and where it is, the first of the others that isn't
refused_step : {X : Type 0} (o : Option X) (test : ValueTree → Bool) (i j : ℕ) (us ts : Pieces) (later : Option ℕ) → ((x : X) → o ≡ Some x → is_one test us ≡ true) → (o ≡ None → is_one test us ≡ false) →
    (later ≡ Some j → first_refused test (suc i) ts ≡ Some j) → cond (is_some o) later (Some i) ≡ Some j → first_refused test i (a_tree (node item us) ts) ≡ Some j
refused_step (Some x) test i j us ts later pass fail rest e = ap (λ (b : Bool). cond b (first_refused test (suc i) ts) (Some i)) (pass x refl) ∙ rest e
refused_step None test i j us ts later pass fail rest e = ap (λ (b : Bool). cond b (first_refused test (suc i) ts) (Some i)) (fail refl) ∙ e

module _ {D : Type 0} where
  -- ---- members of lists

  -- one more member is read
  each_more : {X : Type 0} (of : List (Part D KitOp KitAttr KitType) → Option X) (ms : List (Vec (Part D KitOp KitAttr KitType) Global)) (m : Vec (Part D KitOp KitAttr KitType) Global) (xs : List X) (x : X) →
      each_member of ms ≡ Some xs → of m.items ≡ Some x → each_member of (ms ++ m ∷ []) ≡ Some (xs ++ x ∷ [])
  each_more of [] m xs x e f =
      let same : [] ≡ xs = cc in
      ap (λ (o : Option _). option_and_then (λ y. Some (y ∷ [])) o) f ∙ ap (λ ys. Some (ys ++ x ∷ [])) same
  each_more of (n ∷ ms) m xs x e f =
      let parts = both (of n.items) (each_member of ms) (λ y ys. y ∷ ys) xs e in
      let more = each_more of ms m parts.1 x parts.3 f in
      ap (λ (o : Option _). option_and_then (λ y. option_map (λ ys. y ∷ ys) (each_member of (ms ++ m ∷ []))) o) parts.2
      ∙ (ap (λ (o : Option (List _)). option_map (λ ys. parts.0 ∷ ys) o) more ∙ ap (λ ys. Some (ys ++ x ∷ [])) parts.4)

  pub members_next : {X : Type 0} (of : List (Part D KitOp KitAttr KitType) → Option X) (ms : List (Vec (Part D KitOp KitAttr KitType) Global)) (k : ℕ) (m : Vec (Part D KitOp KitAttr KitType) Global) (xs ys : List X) (x : X) →
      k < length ms → m ≡ get_or ms k m → each_member of (take k ms) ≡ Some xs → of m.items ≡ Some x → ys ≡ xs ++ x ∷ [] → each_member of (take (k + 1) ms) ≡ Some ys
  members_next of ms k m xs ys x small is e f g =
      ap (each_member of) (take_more ms k m small ∙ ap (λ n. take k ms ++ n ∷ []) (sym is)) ∙ (each_more of (take k ms) m xs x e f ∙ ap Some (sym g))

  -- the first that isn't read comes behind those that are
  unread_behind : {X : Type 0} (of : List (Part D KitOp KitAttr KitType) → Option X) (ms : List (Vec (Part D KitOp KitAttr KitType) Global)) (k i : ℕ) (m : Vec (Part D KitOp KitAttr KitType) Global) (xs : List X) →
      k < length ms → m ≡ get_or ms k m → each_member of (take k ms) ≡ Some xs → of m.items ≡ None → first_unread of i ms ≡ Some (i + k)
  unread_behind of [] k i m xs small is e f = absurd (omega (arith, small))
  unread_behind of (n ∷ ms) zero i m xs small is e f =
      let same : m ≡ n = is in
      let plain : i ≡ i + 0 = omega arith in
      ap (λ (o : Option _). cond (is_some o) (first_unread of (suc i) ms) (Some i)) (sym (ap (λ (v : Vec (Part D KitOp KitAttr KitType) Global). of v.items) same) ∙ f) ∙ ap Some plain
  unread_behind of (n ∷ ms) (suc k) i m xs small is e f =
      let parts = both (of n.items) (each_member of (take k ms)) (λ y ys. y ∷ ys) xs e in
      let less : k < length ms = omega (arith, small) in
      let plain : suc i + k ≡ i + suc k = omega arith in
      ap (λ (o : Option _). cond (is_some o) (first_unread of (suc i) ms) (Some i)) parts.2
      ∙ (unread_behind of ms k (suc i) m parts.1 less is parts.3 f ∙ ap Some plain)

  pub member_unread : {X : Type 0} (of : List (Part D KitOp KitAttr KitType) → Option X) (ms : List (Vec (Part D KitOp KitAttr KitType) Global)) (k : ℕ) (m : Vec (Part D KitOp KitAttr KitType) Global) (xs : List X) →
      k < length ms → m ≡ get_or ms k m → each_member of (take k ms) ≡ Some xs → of m.items ≡ None → first_unread of 0 ms ≡ Some k
  member_unread of ms k m xs small is e f = let plain : 0 + k ≡ k = omega arith in unread_behind of ms k 0 m xs small is e f ∙ ap Some plain

  pub members_all : {X : Type 0} (of : List (Part D KitOp KitAttr KitType) → Option X) (ms : List (Vec (Part D KitOp KitAttr KitType) Global)) (k : ℕ) (xs : List X) → length ms ≤ k → each_member of (take k ms) ≡ Some xs → each_member of ms ≡ Some xs
  members_all of ms k xs past e = ap (each_member of) (sym (take_all k ms past)) ∙ e

  module _ (types : List KitType) where
    -- Where each member that is read passes a test and says one tree, a list of them passes and says these.
    abbrev ReadsMember : {X : Type 0} → (List (Part D KitOp KitAttr KitType) → Option X) → (X → LabelledTree (Said KitAttr)) → (ValueTree → Bool) → Type 0
    ReadsMember {X = X} of say test = (qs : List (Part D KitOp KitAttr KitType)) (x : X) (ts : Pieces) → of qs ≡ Some x → ShowsParts says types qs ts → (is_one test ts ≡ true) × ShowsAll says types (one (say x)) ts

    abbrev RefusesMember : {X : Type 0} → (List (Part D KitOp KitAttr KitType) → Option X) → (ValueTree → Bool) → Type 0
    RefusesMember of test = (qs : List (Part D KitOp KitAttr KitType)) (ts : Pieces) → of qs ≡ None → ShowsParts says types qs ts → is_one test ts ≡ false

    members_shown : {X : Type 0} (of : List (Part D KitOp KitAttr KitType) → Option X) (say : X → LabelledTree (Said KitAttr)) (test : ValueTree → Bool) → ReadsMember of say test →
        (ms : List (Vec (Part D KitOp KitAttr KitType) Global)) (xs : List X) (i : ℕ) (ts : Pieces) → each_member of ms ≡ Some xs → ShowsMembers says types ms ts → (first_refused test i ts ≡ None) × ShowsAll says types (members_said say xs) ts
    members_shown of say test k [] xs i no_tree e h = let same : [] ≡ xs = cc in subst (λ ys. (first_refused test i no_tree ≡ None) × ShowsAll says types (members_said say ys) no_tree) same (refl, tt)
    members_shown of say test k [] xs i (a_tree t ts) e h = absurd h
    members_shown of say test k (m ∷ ms) xs i no_tree e h = absurd h
    members_shown of say test k (m ∷ ms) xs i (a_tree (node item us) ts) e h =
        let parts = both (of m.items) (each_member of ms) (λ x rest. x ∷ rest) xs e in
        let first = k m.items parts.0 us parts.2 h.0 in
        let rest = members_shown of say test k ms parts.1 (suc i) ts parts.3 h.1 in
        subst (λ ys. (first_refused test i (a_tree (node item us) ts) ≡ None) × ShowsAll says types (members_said say ys) (a_tree (node item us) ts)) parts.4
        (ap (λ (b : Bool). cond b (first_refused test (suc i) ts) (Some i)) first.0 ∙ rest.0, ((one (say parts.0), refl, first.1), rest.1))
    members_shown of say test k (m ∷ ms) xs i (a_tree (node _ us) ts) e h = absurd h.0

    -- and where what isn't read fails, so does the first member that isn't
    members_refused : {X : Type 0} (of : List (Part D KitOp KitAttr KitType) → Option X) (say : X → LabelledTree (Said KitAttr)) (test : ValueTree → Bool) → ReadsMember of say test → RefusesMember of test →
        (ms : List (Vec (Part D KitOp KitAttr KitType) Global)) (i j : ℕ) (ts : Pieces) → first_unread of i ms ≡ Some j → ShowsMembers says types ms ts → first_refused test i ts ≡ Some j
    members_refused of say test k fails [] i j ts e h = none_is_no e
    members_refused of say test k fails (m ∷ ms) i j no_tree e h = absurd h
    members_refused of say test k fails (m ∷ ms) i j (a_tree (node item us) ts) e h =
        refused_step (of m.items) test i j us ts (first_unread of (suc i) ms) (λ x f. (k m.items x us f h.0).0) (λ f. fails m.items us f h.0) (λ f. members_refused of say test k fails ms (suc i) j ts f h.1) e
    members_refused of say test k fails (m ∷ ms) i j (a_tree (node _ us) ts) e h = absurd h.0

    -- parts that are a list are the piece of its members
    one_list_shown : (parts : List (Part D KitOp KitAttr KitType)) (ms : Vec (Vec (Part D KitOp KitAttr KitType) Global) Global) (ps : Pieces) → one_list parts ≡ Some ms → ShowsParts says types parts ps → (ts : Pieces) × (ps ≡ a_tree (node list ts) no_tree) × ShowsMembers says types ms.items ts
    one_list_shown [] ms ps e h = none_is_no e
    one_list_shown (p ∷ q ∷ rs) ms ps e h = none_is_no e
    one_list_shown (p ∷ []) ms ps e h =
        let only = one_shown says types p ps h in
        let shown = list_shown says types p ms only.0 e only.2 in
        (shown.0, only.1 ∙ ap (λ (t : ValueTree). a_tree t no_tree) shown.1, shown.2)

    no_list_refused : (test : ValueTree → Bool) (parts : List (Part D KitOp KitAttr KitType)) (ps : Pieces) → one_list parts ≡ None → ShowsParts says types parts ps → refused_list test ps ≡ Some 0
    no_list_refused test parts no_tree e h = refl
    no_list_refused test [] (a_tree t ts) e h = absurd h
    no_list_refused test (p ∷ []) (a_tree t no_tree) e h = not_list says types test p t e h.0
    no_list_refused test (p ∷ q ∷ rs) (a_tree t no_tree) e h = absurd h.1
    no_list_refused test (p ∷ rs) (a_tree t (a_tree u us)) e h = two_lists_refused test t u us

    -- ---- one member

    name_member : (qs : List (Part D KitOp KitAttr KitType)) (id : Identifier) (ts : Pieces) → one_name qs ≡ Some id → ShowsParts says types qs ts → (is_one is_name ts ≡ true) × ShowsAll says types (one (alone (said_leaf (name (text_of id))))) ts
    name_member [] id ts e h = none_is_no e
    name_member (p ∷ q ∷ rs) id ts e h = none_is_no e
    name_member (p ∷ []) id ts e h =
        let only = one_shown says types p ts h in
        let shown = name_shown says types p id only.0 e only.2 in
        subst (λ (us : Pieces). (is_one is_name us ≡ true) × ShowsAll says types (one (alone (said_leaf (name (text_of id))))) us) (sym (only.1 ∙ ap (λ (t : ValueTree). a_tree t no_tree) shown.2))
        (refl, (ap (λ (cs : List ℕ). alone (said_leaf (name cs))) shown.3, tt))

    no_name_member : (qs : List (Part D KitOp KitAttr KitType)) (ts : Pieces) → one_name qs ≡ None → ShowsParts says types qs ts → is_one is_name ts ≡ false
    no_name_member qs ts e h = not_one says types is_name qs ts h (λ p t f s. not_name says types p t (sym (ap one_name f) ∙ e) s)

    type_member : (qs : List (Part D KitOp KitAttr KitType)) (ty : TypeHandle) (ts : Pieces) → one_type qs ≡ Some ty → ShowsParts says types qs ts → (is_one is_type ts ≡ true) × ShowsAll says types (one (alone (said_type ty))) ts
    type_member [] ty ts e h = none_is_no e
    type_member (p ∷ q ∷ rs) ty ts e h = none_is_no e
    type_member (p ∷ []) ty ts e h =
        let only = one_shown says types p ts h in
        let shown = type_shown says types p ty only.0 e only.2 in
        subst (λ (us : Pieces). (is_one is_type us ≡ true) × ShowsAll says types (one (alone (said_type ty))) us) (sym (only.1 ∙ ap (λ (t : ValueTree). a_tree t no_tree) shown.2)) (refl, (shown.3, tt))

    text_member : (qs : List (Part D KitOp KitAttr KitType)) (bytes : List ℕ) (ts : Pieces) → one_text qs ≡ Some bytes → ShowsParts says types qs ts → (is_one is_text ts ≡ true) × ShowsAll says types (text_said bytes) ts
    text_member [] bytes ts e h = none_is_no e
    text_member (p ∷ q ∷ rs) bytes ts e h = none_is_no e
    text_member (p ∷ []) bytes ts e h =
        let only = one_shown says types p ts h in
        let shown = text_shown says types p bytes only.0 e only.2 in
        subst (λ (us : Pieces). (is_one is_text us ≡ true) × ShowsAll says types (text_said bytes) us) (sym (only.1 ∙ ap (λ (t : ValueTree). a_tree t no_tree) shown.1)) (refl, (refl, tt))

    size_member : ReadsMember one_size size_said is_size
    size_member [] n ts e h = none_is_no e
    size_member (p ∷ q ∷ rs) n ts e h = none_is_no e
    size_member (p ∷ []) n ts e h =
        let only = one_shown says types p ts h in
        let shown = size_shown says types p n only.0 e only.2 in
        subst (λ (us : Pieces). (is_one is_size us ≡ true) × ShowsAll says types (one (size_said n)) us) (sym (only.1 ∙ ap (λ (t : ValueTree). a_tree t no_tree) shown.1)) (shown.2, (refl, tt))

    no_size_member : RefusesMember one_size is_size
    no_size_member qs ts e h = not_one says types is_size qs ts h (λ p t f s. not_size says types p t (sym (ap one_size f) ∙ e) s)

    small_member : (qs : List (Part D KitOp KitAttr KitType)) (n : ℕ) (ts : Pieces) → one_size qs ≡ Some n → ShowsParts says types qs ts → nat_lt n (2 ^ 32) ≡ true
    small_member [] n ts e h = none_is_no e
    small_member (p ∷ q ∷ rs) n ts e h = none_is_no e
    small_member (p ∷ []) n ts e h = let only = one_shown says types p ts h in (size_shown says types p n only.0 e only.2).2

    -- the sizes that are read have at most 32 bits
    small_members : (ms : List (Vec (Part D KitOp KitAttr KitType) Global)) (ns : List ℕ) (ts : Pieces) → each_member one_size ms ≡ Some ns → ShowsMembers says types ms ts → are_sizes ns ≡ true
    small_members [] ns ts e h = let same : ns ≡ [] = cc in ap are_sizes same
    small_members (m ∷ ms) ns no_tree e h = absurd h
    small_members (m ∷ ms) ns (a_tree (node item us) ts) e h =
        let parts = both (one_size m.items) (each_member one_size ms) (λ x rest. x ∷ rest) ns e in
        ap are_sizes (sym parts.4) ∙ (ap (λ (b : Bool). b && are_sizes parts.1) (small_member m.items parts.0 us parts.2 h.0) ∙ small_members ms parts.1 ts parts.3 h.1)
    small_members (m ∷ ms) ns (a_tree (node _ us) ts) e h = absurd h.0

    -- what the format with a number says of a name
    format_shown : (n : ℕ) (qs : List (Part D KitOp KitAttr KitType)) (o : Option (List ℕ)) (us : Pieces) → given_name_of n qs ≡ Some o → ShowsParts says types qs us → (is_name_or_none (node (chosen n) us) ≡ true) × Shows says types (given_name_said o) (node (chosen n) us)
    format_shown zero qs o us e h =
        let named = mapped_from (λ (id : Identifier). Some (text_of id)) (one_name qs) o e in
        let shown = name_member qs named.0 us named.1 h in
        subst (λ (v : Option (List ℕ)). (is_one is_name us ≡ true) × Shows says types (given_name_said v) (node (chosen 0) us)) named.2 (shown.0, (one (alone (said_leaf (name (text_of named.0)))), refl, shown.1))
    format_shown (suc zero) [] o no_tree e h = let same : None ≡ o = cc in subst (λ (v : Option (List ℕ)). (true ≡ true) × Shows says types (given_name_said v) (node (chosen 1) no_tree)) same (refl, (no_tree, refl, tt))
    format_shown (suc zero) [] o (a_tree t ts) e h = absurd h
    format_shown (suc zero) (p ∷ qs) o us e h = none_is_no e
    format_shown (suc (suc n)) qs o us e h = none_is_no e

    no_format : (n : ℕ) (qs : List (Part D KitOp KitAttr KitType)) (us : Pieces) → given_name_of n qs ≡ None → ShowsParts says types qs us → is_name_or_none (node (chosen n) us) ≡ false
    no_format zero qs us e h = no_name_member qs us (not_mapped (λ (id : Identifier). Some (text_of id)) (one_name qs) e) h
    no_format (suc zero) [] us e h = none_is_no (sym e)
    no_format (suc zero) (p ∷ qs) no_tree e h = absurd h
    no_format (suc zero) (p ∷ qs) (a_tree t ts) e h = refl
    no_format (suc (suc n)) qs us e h = refl

    given_member : ReadsMember one_given_name given_name_said is_name_or_none
    given_member [] o ts e h = none_is_no e
    given_member (p ∷ q ∷ rs) o ts e h = none_is_no e
    given_member (p ∷ []) o ts e h =
        let only = one_shown says types p ts h in
        let given = given_by (λ (c : ℕ × Vec (Part D KitOp KitAttr KitType) Global). given_name_of c.0 c.1.items) (choice_part p) o e in
        let shown = choice_shown says types p given.0.0 given.0.1 only.0 given.1 only.2 in
        let inner = format_shown given.0.0 given.0.1.items o shown.0 given.2 shown.2 in
        subst (λ (us : Pieces). (is_one is_name_or_none us ≡ true) × ShowsAll says types (one (given_name_said o)) us) (sym (only.1 ∙ ap (λ (t : ValueTree). a_tree t no_tree) shown.1)) (inner.0, (inner.1, tt))

    not_given : (p : Part D KitOp KitAttr KitType) (t : ValueTree) → one_given_name (p ∷ []) ≡ None → ShowsPart says types p t → is_name_or_none t ≡ false
    not_given p (node (chosen n) us) e h =
        no_format n h.0.items us (sym (ap (option_and_then (λ (c : ℕ × Vec (Part D KitOp KitAttr KitType) Global). given_name_of c.0 c.1.items)) (ap choice_part h.1 ∙ a_choice n h.0)) ∙ e) h.2
    not_given p (node _ ts) e h = refl

    no_given_member : RefusesMember one_given_name is_name_or_none
    no_given_member qs ts e h = not_one says types is_name_or_none qs ts h (λ p t f s. not_given p t (sym (ap one_given_name f) ∙ e) s)

  -- ---- attributes

  pub identifier_made : (parts : List (Part D KitOp KitAttr KitType)) (id copy : Identifier) → one_name parts ≡ Some id → text_of copy ≡ text_of id → MakesAttributeOfKind 1 parts (attrs.Identifier copy)
  identifier_made parts id copy e f = λ types ps h.
      let shown = name_member types parts id ps e h in (
        ap (λ (b : Bool). refused_unless b 0) shown.0,
        (attrs.Identifier copy, one (alone (said_leaf (name (text_of copy)))), refl, refl, subst (λ (cs : List ℕ). ShowsAll says types (one (alone (said_leaf (name cs)))) ps) (sym f) shown.1),
      )

  pub identifier_refused : (parts : List (Part D KitOp KitAttr KitType)) → one_name parts ≡ None → RefusesAttributeOfKind 1 parts 0
  identifier_refused parts e = λ types ps h. ap (λ (b : Bool). refused_unless b 0) (no_name_member types parts ps e h)

  pub type_attribute_made : (parts : List (Part D KitOp KitAttr KitType)) (ty : TypeHandle) → one_type parts ≡ Some ty → MakesAttributeOfKind 2 parts (attrs.«Type» ty)
  type_attribute_made parts ty e = λ types ps h.
      let shown = type_member types parts ty ps e h in
      (ap (λ (b : Bool). refused_unless b 0) shown.0, (attrs.«Type» ty, one (alone (said_type ty)), refl, refl, shown.1))

  pub type_attribute_refused : (parts : List (Part D KitOp KitAttr KitType)) → one_type parts ≡ None → RefusesAttributeOfKind 2 parts 0
  type_attribute_refused parts e = λ types ps h. ap (λ (b : Bool). refused_unless b 0) (not_one says types is_type parts ps h (λ p t f s. not_type says types p t (sym (ap one_type f) ∙ e) s))

  pub sizes_made : (parts : List (Part D KitOp KitAttr KitType)) (ms : Vec (Vec (Part D KitOp KitAttr KitType) Global) Global) (sizes : Vec ℕ Global) → one_list parts ≡ Some ms → each_member one_size ms.items ≡ Some sizes.items → MakesAttributeOfKind 3 parts (attrs.SegmentSizes sizes)
  sizes_made parts ms sizes e f = λ types ps h.
      let whole = one_list_shown types parts ms ps e h in
      let shown = members_shown types one_size size_said is_size (size_member types) ms.items sizes.items 0 whole.0 f whole.2 in
      let small = small_members types ms.items sizes.items whole.0 f whole.2 in
      let said = one (node said_list (members_said size_said sizes.items)) in
      subst (λ (qs : Pieces). (refused_list is_size qs ≡ None) × ShowsAttribute says types (attrs.SegmentSizes sizes) (node (value_of_kind sorts.Attribute 3) qs)) (sym whole.1)
      (shown.0, (attrs.SegmentSizes sizes, said, refl, ap (λ (b : Bool). said_if b (Some (3, said))) small, ((members_said size_said sizes.items, refl, shown.1), tt)))

  pub sizes_refused : (parts : List (Part D KitOp KitAttr KitType)) (ms : Vec (Vec (Part D KitOp KitAttr KitType) Global) Global) (i : ℕ) → one_list parts ≡ Some ms → first_unread one_size 0 ms.items ≡ Some i → RefusesAttributeOfKind 3 parts i
  sizes_refused parts ms i e f = λ types ps h.
      let whole = one_list_shown types parts ms ps e h in
      ap (refused_list is_size) whole.1 ∙ members_refused types one_size size_said is_size (size_member types) (no_size_member types) ms.items 0 i whole.0 f whole.2

  pub no_sizes : (parts : List (Part D KitOp KitAttr KitType)) → one_list parts ≡ None → RefusesAttributeOfKind 3 parts 0
  no_sizes parts e = λ types ps h. no_list_refused types is_size parts ps e h

  pub names_made : (parts : List (Part D KitOp KitAttr KitType)) (ms : Vec (Vec (Part D KitOp KitAttr KitType) Global) Global) (names : Vec (Option Identifier) Global) → one_list parts ≡ Some ms → each_member one_given_name ms.items ≡ Some (map (option_map text_of) names.items) → MakesAttributeOfKind 4 parts (attrs.GivenNames names)
  names_made parts ms names e f = λ types ps h.
      let whole = one_list_shown types parts ms ps e h in
      let texts = map (option_map text_of) names.items in
      let shown = members_shown types one_given_name given_name_said is_name_or_none (given_member types) ms.items texts 0 whole.0 f whole.2 in
      subst (λ (qs : Pieces). (refused_list is_name_or_none qs ≡ None) × ShowsAttribute says types (attrs.GivenNames names) (node (value_of_kind sorts.Attribute 4) qs)) (sym whole.1)
      (shown.0, (attrs.GivenNames names, one (node said_list (members_said given_name_said texts)), refl, refl, ((members_said given_name_said texts, refl, shown.1), tt)))

  pub names_refused : (parts : List (Part D KitOp KitAttr KitType)) (ms : Vec (Vec (Part D KitOp KitAttr KitType) Global) Global) (i : ℕ) → one_list parts ≡ Some ms → first_unread one_given_name 0 ms.items ≡ Some i → RefusesAttributeOfKind 4 parts i
  names_refused parts ms i e f = λ types ps h.
      let whole = one_list_shown types parts ms ps e h in
      ap (refused_list is_name_or_none) whole.1 ∙ members_refused types one_given_name given_name_said is_name_or_none (given_member types) (no_given_member types) ms.items 0 i whole.0 f whole.2

  pub no_names : (parts : List (Part D KitOp KitAttr KitType)) → one_list parts ≡ None → RefusesAttributeOfKind 4 parts 0
  no_names parts e = λ types ps h. no_list_refused types is_name_or_none parts ps e h

  pub note_made : (parts : List (Part D KitOp KitAttr KitType)) (bytes : List ℕ) (text : String Global) → one_text parts ≡ Some bytes → string_bytes text ≡ bytes → MakesAttributeOfKind 5 parts (attrs.Note text)
  note_made parts bytes text e f = λ types ps h.
      let shown = text_member types parts bytes ps e h in
      (ap (λ (b : Bool). refused_unless b 0) shown.0, (attrs.Note text, text_said (string_bytes text), refl, refl, subst (λ (bs : List ℕ). ShowsAll says types (text_said bs) ps) (sym f) shown.1))

  pub origin_made : (parts : List (Part D KitOp KitAttr KitType)) (bytes : List ℕ) (text : String Global) → one_text parts ≡ Some bytes → string_bytes text ≡ bytes → MakesAttributeOfKind 6 parts (attrs.Origin text)
  origin_made parts bytes text e f = λ types ps h.
      let shown = text_member types parts bytes ps e h in
      (ap (λ (b : Bool). refused_unless b 0) shown.0, (attrs.Origin text, text_said (string_bytes text), refl, refl, subst (λ (bs : List ℕ). ShowsAll says types (text_said bs) ps) (sym f) shown.1))

  no_text_member : (types : List KitType) (qs : List (Part D KitOp KitAttr KitType)) (ts : Pieces) → one_text qs ≡ None → ShowsParts says types qs ts → is_one is_text ts ≡ false
  no_text_member types qs ts e h = not_one says types is_text qs ts h (λ p t f s. not_text says types p t (sym (ap one_text f) ∙ e) s)

  pub note_refused : (parts : List (Part D KitOp KitAttr KitType)) → one_text parts ≡ None → RefusesAttributeOfKind 5 parts 0
  note_refused parts e = λ types ps h. ap (λ (b : Bool). refused_unless b 0) (no_text_member types parts ps e h)

  pub origin_refused : (parts : List (Part D KitOp KitAttr KitType)) → one_text parts ≡ None → RefusesAttributeOfKind 6 parts 0
  origin_refused parts e = λ types ps h. ap (λ (b : Bool). refused_unless b 0) (no_text_member types parts ps e h)
