-- Printed members are read as they were.
use Rattle.std.proofs.Common.{◌≡◌, ◌≢◌, ℕ, inl, inr, Bool, true, false, List, [], ◌∷◌, ◌++◌, arith, refl, sym, ◌∙◌, ap}
use Rattle.std.specs.Prelude.{◌==◌, ◌||◌, not}
use Rattle.std.specs.Char.{is_digit, is_whitespace}
use Rattle.std.specs.List.{FoldsTo, list_all}
use Rattle.std.proofs.lemmas.Bool.{and_parts, eqb-true, eq-eqb, or_cases}
use Rattle.ir_locations.specs.declared.location.Location.{Location}
use Rattle.ir_names.specs.Text.{is_first_code, is_identifier, is_later_code}
use Rattle.ir_names.specs.declared.identifier.Identifier.{Identifier}
use Rattle.ir_outlines.specs.Section as sections
use Rattle.outline_tables.specs.Tables.{member_of, members_of, reference_of}
use Rattle.outline_tables.specs.declared.entries.Reference.{Reference}
use Rattle.outline_tables.specs.declared.entries.Reference.TheVariants.{Here, AtMark}
use Rattle.text_locations.specs.Locations.{At, Parser}
use Rattle.text_marks.specs.Marks.{begins_with_mark}
use Rattle.text_outlines.specs.Members.{Among, ReadsMember, ReadsMembers, ReadsNext, ReadsReference}
use Rattle.text_outlines.specs.Signs.{ReadsSign, Takes}
use Rattle.text_sections.specs.Texts.{members_from, reference_token}
use Rattle.text_streams.specs.declared.stream.StateStream.{StateStream}
use Rattle.text_streams.specs.Positions.{left}
use Rattle.text_streams.specs.Spaces.{SkipsSpaces}
use Rattle.section_rereading.specs.Inverse.{AreInverse, begins_attribute, begins_visibly, CanReadMembers, CanReadReference, ends_attribute, said_member, said_members, said_reference}
use Rattle.section_rereading.specs.Printed.{characters_of, printed}
use Rattle.section_rereading.proofs.StreamSteps.{first_visible, mark_read, name_read, sign_missing, sign_read, skipped}

pub clash : (b : Bool) → b ≡ true → b ≡ false → ⊥
clash b holds fails = let t : true ≡ false = sym holds ∙ fails in cc

pub not_so : (b : Bool) → not b ≡ true → b ≡ false
not_so true e = cc
not_so false e = refl

-- ---- what texts begin with

-- behind white space is a text that begins with none
pub skipped_to : {S : Type 0} (old new : StateStream S) (spaces text rest : List ℕ) → SkipsSpaces old new → left old.position ≡ spaces ++ (text ++ rest)
    → list_all is_whitespace spaces ≡ true → begins_visibly text ≡ true → left new.position ≡ text ++ rest
skipped_to old new spaces [] rest h is all visible = cc
skipped_to old new spaces (c ∷ cs) rest h is all visible = skipped old new spaces c (cs ++ rest) h is all (not_so (is_whitespace c) visible)

pub identifier_visible : (key : List ℕ) → is_identifier key ≡ true → begins_visibly key ≡ true
identifier_visible [] h = cc
identifier_visible (k ∷ ks) h = ap not (first_visible k (and_parts (is_first_code k) (list_all is_later_code ks) h).0)

none_of : (a b c d : Bool) → not (a || (b || (c || d))) ≡ true → (a ≡ false) × (b ≡ false) × (c ≡ false) × (d ≡ false)
none_of false false false false e = (refl, refl, refl, refl)
none_of true b c d e = cc
none_of false true c d e = cc
none_of false false true d e = cc
none_of false false false true e = cc

-- the first character of an attribute's text
pub record IsAttributeStart (text : List ℕ) : Type 0 where
  pub first : ℕ
  pub more : List ℕ
  pub is : text ≡ first ∷ more
  pub visible : is_whitespace first ≡ false
  pub no_mark : first ≢ 33
  pub no_place : first ≢ 64
  pub no_bracket : first ≢ 91

pub attribute_start : (text : List ℕ) → begins_attribute text ≡ true → IsAttributeStart text
attribute_start [] h = cc
attribute_start (c ∷ cs) h =
    let all = none_of (is_whitespace c) (c == 33) (c == 64) (c == 91) h in
    record {
      first = c;
      more = cs;
      is = refl;
      visible = all.0;
      no_mark = λ e. clash (c == 33) (eq-eqb c 33 e) all.1;
      no_place = λ e. clash (c == 64) (eq-eqb c 64 e) all.2;
      no_bracket = λ e. clash (c == 91) (eq-eqb c 91 e) all.3;
    }

pub attribute_visible : (text : List ℕ) → begins_attribute text ≡ true → begins_visibly text ≡ true
attribute_visible [] h = cc
attribute_visible (c ∷ cs) h = ap not (none_of (is_whitespace c) (c == 33) (c == 64) (c == 91) h).0

-- what may be behind an attribute is no digit
end_no_digit : (c : ℕ) → ends_attribute c ≡ true → is_digit c 10 ≡ false
end_no_digit c h = elim (or_cases (c == 44) ((c == 93) || (c == 10)) h) [
  | inl comma ↦ ap (λ (d : ℕ). is_digit d 10) (eqb-true c 44 comma)
  | inr others ↦ elim (or_cases (c == 93) (c == 10) others) [
    | inl closes ↦ ap (λ (d : ℕ). is_digit d 10) (eqb-true c 93 closes)
    | inr line ↦ ap (λ (d : ℕ). is_digit d 10) (eqb-true c 10 line)
  ]
]

-- where a name is, no `]` is
not_at_name : {S : Type 0} (old new : StateStream S) (key rest : List ℕ) → ReadsSign 93 old new → left old.position ≡ key ++ rest → is_identifier key ≡ true → ⊥
not_at_name old new [] rest h is good = cc
not_at_name old new (k ∷ ks) rest h is good =
    let first : is_first_code k ≡ true = (and_parts (is_first_code k) (list_all is_later_code ks) good).0 in
    let there = sign_read 93 old new [] k (ks ++ rest) h is refl (first_visible k first) in
    clash (is_first_code k) first (ap is_first_code there.0)

module _ {F S A L X Y : Type 0} (parser : Parser F S A) (attribute_text : A → List ℕ) (location_text : L → List ℕ)
    (says : A → X) (says_place : Location A → Y) (prints_place : L → Y) (is_readable : A → Bool) (is_readable_place : L → Bool)
    (inverse : AreInverse parser attribute_text location_text says says_place prints_place is_readable is_readable_place) where
  -- ---- what stands under a key

  reference_text : sections.Reference A → List ℕ
  reference_text e = characters_of attribute_text location_text (reference_token e)

  reference_visible : (e : sections.Reference A) → CanReadReference is_readable e → begins_visibly (reference_text e) ≡ true
  unfolding reference_text
  reference_visible (sections.here a) good = attribute_visible (attribute_text a) (inverse.attribute_begins a good)
  reference_visible (sections.at_mark n) good = refl

  reference_read : (v w : At F S) (r : Reference A) (e : sections.Reference A) (c : ℕ) (cs : List ℕ) → CanReadReference is_readable e → ends_attribute c ≡ true
      → left v.1.position ≡ reference_text e ++ c ∷ cs → ReadsReference parser v r w → (said_reference says (reference_of r) ≡ said_reference says e) × (left w.1.position ≡ c ∷ cs)
  unfolding reference_text
  reference_read v w (Here b) (sections.here a) c cs good ends is h =
      let got = inverse.attribute_read v w a b c cs good ends is h.1 in
      (ap sections.here got.0, got.1)
  reference_read v w (AtMark m) (sections.at_mark n) c cs good ends is h =
      let got = mark_read v.1 w.1 n m c cs h.1 is (end_no_digit c ends) good in
      (ap sections.at_mark got.0, got.1)
  reference_read v w (Here b) (sections.at_mark n) c cs good ends is h =
      absurd (clash (begins_with_mark (left v.1.position)) (ap begins_with_mark is) h.0)
  reference_read v w (AtMark m) (sections.here a) c cs good ends is h =
      let start = attribute_start (attribute_text a) (inverse.attribute_begins a good) in
      let there : begins_with_mark (left v.1.position) ≡ (start.first == 33) = ap begins_with_mark (is ∙ ap (λ (xs : List ℕ). xs ++ c ∷ cs) start.is) in
      absurd (start.no_mark (eqb-true start.first 33 (sym there ∙ h.0)))

  -- ---- members

  member_read : (p q : Among F S) (m : Identifier × Reference A) (e : List ℕ × sections.Reference A) (spaces : List ℕ) (c : ℕ) (cs : List ℕ)
      → is_identifier e.0 ≡ true → CanReadReference is_readable e.1 → ends_attribute c ≡ true → list_all is_whitespace spaces ≡ true
      → left p.1.1.position ≡ spaces ++ (e.0 ++ 32 ∷ 61 ∷ 32 ∷ (reference_text e.1 ++ c ∷ cs)) → ReadsMember parser p m q
      → (said_member says (member_of m) ≡ said_member says e) × (left q.1.1.position ≡ c ∷ cs)
  member_read p q m e spaces c cs named good ends all is h =
      let here = skipped_to p.1.1 h.key.here spaces e.0 (32 ∷ 61 ∷ 32 ∷ (reference_text e.1 ++ c ∷ cs)) h.key.spaces is all (identifier_visible e.0 named) in
      let name = name_read h.key.here h.behind_key m.0 e.0 32 (61 ∷ 32 ∷ (reference_text e.1 ++ c ∷ cs)) h.key.name_read here named refl in
      let equals = sign_read 61 h.behind_key h.behind_sign (32 ∷ []) 61 (32 ∷ (reference_text e.1 ++ c ∷ cs)) h.equals name.1 refl refl in
      let start = skipped_to h.behind_sign h.start (32 ∷ []) (reference_text e.1) (c ∷ cs) h.spaces equals.1 refl (reference_visible e.1 good) in
      let reference = reference_read (p.1.0, h.start) q.1 m.1 e.1 c cs good ends start h.reference in
      (ap (λ (key : List ℕ). (key, said_reference says (reference_of m.1))) name.0 ∙ ap (λ (r : sections.Reference X). (e.0, r)) reference.0, reference.1)

  text_behind : List (List ℕ × sections.Reference A) → List ℕ → List ℕ
  text_behind es cs = printed attribute_text location_text (members_from false es) (93 ∷ cs)

  -- one member at least, from the first one on
  some_read : (es : List (List ℕ × sections.Reference A)) (e : List ℕ × sections.Reference A) (others : List (Identifier × Reference A)) (last : Identifier × Reference A)
      (p at end : Among F S) (w : At F S) (spaces cs : List ℕ) → CanReadMembers is_readable (e ∷ es) → list_all is_whitespace spaces ≡ true
      → left p.1.1.position ≡ spaces ++ (e.0 ++ 32 ∷ 61 ∷ 32 ∷ (reference_text e.1 ++ text_behind es cs))
      → FoldsTo (ReadsNext parser) p others at → ReadsMember parser at last end → Takes 93 end.1 w
      → (said_members says (members_of (others ++ last ∷ [])) ≡ said_members says (e ∷ es)) × (left w.1.position ≡ cs)
  unfolding reference_text text_behind
  some_read [] e [] last p at end w spaces cs good all is folds h closes =
      let here = ap (λ (q : Among F S). left q.1.1.position) (sym folds) ∙ is in
      let got = member_read at end last e spaces 93 cs good.0 good.1 refl all here h in
      let closed = sign_read 93 end.1.1 w.1 [] 93 cs closes.0 got.1 refl refl in
      (ap (λ (m : List ℕ × sections.Reference X). m ∷ []) got.0, closed.1)
  some_read [] e (o ∷ os) last p at end w spaces cs good all is (j, next, folds) h closes =
      let got = member_read p (j.0, next.end) o e spaces 93 cs good.0 good.1 refl all is next.member_read in
      let comma = sign_read 44 next.end.1 j.1.1 [] 93 cs next.comma.0 got.1 refl refl in
      absurd (omega (arith, comma.0))
  some_read (f ∷ fs) e [] last p at end w spaces cs good all is folds h closes =
      let here = ap (λ (q : Among F S). left q.1.1.position) (sym folds) ∙ is in
      let got = member_read at end last e spaces 44 _ good.0 good.1 refl all here h in
      let closed = sign_read 93 end.1.1 w.1 [] 44 _ closes.0 got.1 refl refl in
      absurd (omega (arith, closed.0))
  some_read (f ∷ fs) e (o ∷ os) last p at end w spaces cs good all is (j, next, folds) h closes =
      let got = member_read p (j.0, next.end) o e spaces 44 _ good.0 good.1 refl all is next.member_read in
      let comma = sign_read 44 next.end.1 j.1.1 [] 44 _ next.comma.0 got.1 refl refl in
      let more = some_read fs f os last j at end w (32 ∷ []) cs good.2 refl comma.1 folds h closes in
      (ap (λ (m : List ℕ × sections.Reference X). m ∷ said_members says (members_of (os ++ last ∷ []))) got.0 ∙ ap (λ (ms : List (List ℕ × sections.Reference X)). said_member says e ∷ ms) more.0, more.1)

  pub members_read : (es : List (List ℕ × sections.Reference A)) (members : List (Identifier × Reference A)) (v w : At F S) (cs : List ℕ) → CanReadMembers is_readable es
      → left v.1.position ≡ printed attribute_text location_text (members_from true es) (93 ∷ cs) → ReadsMembers parser v members w
      → (said_members says (members_of members) ≡ said_members says es) × (left w.1.position ≡ cs)
  unfolding reference_text text_behind
  members_read [] members v w cs good is (inl (none, closes)) =
      (ap (λ (ms : List (Identifier × Reference A)). said_members says (members_of ms)) none, (sign_read 93 v.1 w.1 [] 93 cs closes.0 is refl refl).1)
  members_read [] members v w cs good is (inr some) = absurd (sign_missing 93 v.1 [] 93 cs some.without is refl refl refl)
  members_read (e ∷ es) members v w cs good is (inl (none, closes)) = absurd (not_at_name v.1 w.1 e.0 _ closes.0 is good.0)
  members_read (e ∷ es) members v w cs good is (inr some) =
      let got = some_read es e some.others some.last ([], v) some.at some.end w [] cs good refl is some.others_read some.last_read some.closes in
      (ap (λ (ms : List (Identifier × Reference A)). said_members says (members_of ms)) some.all ∙ got.0, got.1)
