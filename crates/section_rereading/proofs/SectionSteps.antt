-- Printed sections are read as they were.
use Rattle.std.proofs.Common.{◌≡◌, ℕ, suc, ◌+◌, ◌<◌, ◌^◌, Bool, false, List, [], ◌∷◌, ◌++◌, arith, refl, sym, ◌∙◌, ap, append_assoc, append-nil, decimal}
use Rattle.std.specs.Prelude.{codes, flat_map}
use Rattle.std.specs.Char.{is_whitespace}
use Rattle.std.specs.List.{FoldsTo, prefix_len}
use Rattle.std.proofs.lemmas.List.{map-append}
use Rattle.ir_locations.specs.declared.location.Location.{Location}
use Rattle.ir_outlines.specs.Section as sections
use Rattle.ir_outlines.specs.Section.{Section}
use Rattle.outline_tables.specs.Tables.{entry_of}
use Rattle.outline_tables.specs.declared.entries.Entry.{Entry}
use Rattle.text_locations.specs.Locations.{At, Parser}
use Rattle.text_marks.specs.Marks.{begins_with_mark}
use Rattle.text_outlines.specs.Sections.{Behind, IsWithoutMark, ReadsItem, ReadsSection}
use Rattle.text_sections.specs.Texts.{sign, entry_tokens, line_tokens, section_tokens}
use Rattle.text_streams.specs.Positions.{left}
use Rattle.section_rereading.specs.Inverse.{AreInverse, behind_spaces, CanReadEntry, CanReadSection, said_entry, said_section}
use Rattle.section_rereading.specs.Printed.{printed}
use Rattle.section_rereading.proofs.MemberSteps.{clash}
use Rattle.section_rereading.proofs.EntrySteps.{entry_read, printed_more}
use Rattle.section_rereading.proofs.StreamSteps.{mark_read, name_read, same_rest, sign_read, skipped, skipped_all}

-- a line feed is white space
behind_line : (rest : List ℕ) → behind_spaces (10 ∷ rest) ≡ behind_spaces rest
behind_line rest = let more : 1 + prefix_len is_whitespace rest ≡ suc (prefix_len is_whitespace rest) = omega arith in rw more refl

module _ {F S A L X Y : Type 0} (parser : Parser F S A) (attribute_text : A → List ℕ) (location_text : L → List ℕ)
    (says : A → X) (says_place : Location A → Y) (prints_place : L → Y) (is_readable : A → Bool) (is_readable_place : L → Bool)
    (inverse : AreInverse parser attribute_text location_text says says_place prints_place is_readable is_readable_place) where
  -- the text of an entry, and the end of its line
  entry_text : sections.Entry A L → List ℕ → List ℕ
  entry_text e cs = printed attribute_text location_text (entry_tokens e ++ sign (codes "\n") ∷ []) cs

  entry_text_is : (e : sections.Entry A L) (cs : List ℕ) → entry_text e cs ≡ printed attribute_text location_text (entry_tokens e) (10 ∷ cs)
  unfolding entry_text
  entry_text_is e cs = printed_more attribute_text location_text (entry_tokens e) (sign (codes "\n") ∷ []) cs

  item_read : (p q : Behind F S A) (item : ℕ × Entry A (Location A)) (e : ℕ × sections.Entry A L) (cs : List ℕ) → e.0 < 2 ^ 64
      → CanReadEntry is_readable is_readable_place e.1 → left p.1.1.position ≡ 10 ∷ 33 ∷ (decimal e.0 ++ 32 ∷ 61 ∷ 32 ∷ entry_text e.1 cs) → ReadsItem parser p item q
      → (said_section says says_place q.0 ≡ said_section says says_place p.0 ++ said_section says prints_place (e ∷ [])) × (left q.1.1.position ≡ 10 ∷ cs)
  item_read p q item e cs small good is h =
      let here = skipped p.1.1 h.here (10 ∷ []) 33 (decimal e.0 ++ 32 ∷ 61 ∷ 32 ∷ entry_text e.1 cs) h.mark.spaces is refl refl in
      let number = mark_read h.here h.behind_mark e.0 item.0 32 (61 ∷ 32 ∷ entry_text e.1 cs) h.mark.number here refl small in
      let equals = sign_read 61 h.behind_mark h.behind.behind_sign (32 ∷ []) 61 (32 ∷ entry_text e.1 cs) h.behind.equals number.1 refl refl in
      let there = equals.1 ∙ ap (λ (xs : List ℕ). 32 ∷ xs) (entry_text_is e.1 cs) in
      let got = entry_read parser attribute_text location_text says says_place prints_place is_readable is_readable_place inverse (p.1.0, h.behind.behind_sign) q.1 item.1 e.1 cs good there h.behind.entry_read in (
        ap (λ (xs : Section A (Location A)). said_section says says_place xs) h.behind.last
            ∙ map-append (λ (x : ℕ × sections.Entry A (Location A)). (x.0, said_entry says says_place x.1)) p.0 ((item.0, entry_of item.1) ∷ [])
            ∙ ap (λ (n : ℕ). said_section says says_place p.0 ++ (n, said_entry says says_place (entry_of item.1)) ∷ []) number.0
            ∙ ap (λ (x : sections.Entry X Y). said_section says says_place p.0 ++ (e.0, x) ∷ []) got.0,
        got.1,
      )

  lines_text : Section A L → List ℕ → List ℕ
  lines_text es rest = printed attribute_text location_text (flat_map line_tokens es) rest

  lines_text_is : (e : ℕ × sections.Entry A L) (es : Section A L) (rest : List ℕ)
      → lines_text (e ∷ es) rest ≡ 33 ∷ (decimal e.0 ++ 32 ∷ 61 ∷ 32 ∷ entry_text e.1 (lines_text es rest))
  unfolding entry_text lines_text
  lines_text_is e es rest = printed_more attribute_text location_text (line_tokens e) (flat_map line_tokens es) rest

  items_read : (es : Section A L) (items : List (ℕ × Entry A (Location A))) (p q : Behind F S A) (rest : List ℕ)
      → CanReadSection is_readable is_readable_place es → begins_with_mark (behind_spaces rest) ≡ false
      → left p.1.1.position ≡ 10 ∷ lines_text es rest → FoldsTo (ReadsItem parser) p items q → IsWithoutMark q.1.1
      → (said_section says says_place q.0 ≡ said_section says says_place p.0 ++ said_section says prints_place es) × (left q.1.1.position ≡ 10 ∷ rest)
  unfolding lines_text
  items_read [] [] p q rest good free is folds ends =
      (ap (λ (b : Behind F S A). said_section says says_place b.0) (sym folds) ∙ sym (append-nil (said_section says says_place p.0)), ap (λ (b : Behind F S A). left b.1.1.position) (sym folds) ∙ is)
  items_read [] (i ∷ is_) p q rest good free is (j, item, folds) ends =
      let here = skipped_all p.1.1 item.here item.mark.spaces ∙ ap behind_spaces is ∙ behind_line rest in
      absurd (clash (begins_with_mark (left item.here.position)) item.mark.there (ap begins_with_mark here ∙ free))
  items_read (e ∷ es) [] p q rest good free is folds ends =
      let at = ap (λ (b : Behind F S A). left b.1.1.position) (sym folds) ∙ is ∙ ap (λ (xs : List ℕ). 10 ∷ xs) (lines_text_is e es rest) in
      let here = skipped q.1.1 ends.here (10 ∷ []) 33 _ ends.spaces at refl refl in
      absurd (clash (begins_with_mark (left ends.here.position)) (ap begins_with_mark here) ends.without)
  items_read (e ∷ es) (i ∷ is_) p q rest good free is (j, item, folds) ends =
      let got = item_read p j i e (lines_text es rest) good.0 good.1 (is ∙ ap (λ (xs : List ℕ). 10 ∷ xs) (lines_text_is e es rest)) item in
      let more = items_read es is_ j q rest good.2 free got.1 folds ends in (
        more.0 ∙ ap (λ (xs : Section X Y). xs ++ said_section says prints_place es) got.0
            ∙ append_assoc (said_section says says_place p.0) (said_section says prints_place (e ∷ [])) (said_section says prints_place es),
        more.1,
      )

  pub section_read : (e : ℕ × sections.Entry A L) (es : Section A L) (t : Section A (Location A)) (v w : At F S) (rest : List ℕ)
      → CanReadSection is_readable is_readable_place (e ∷ es) → begins_with_mark (behind_spaces rest) ≡ false
      → 10 ∷ left v.1.position ≡ printed attribute_text location_text (section_tokens (e ∷ es)) rest → ReadsSection parser v t w
      → (said_section says says_place t ≡ said_section says prints_place (e ∷ es)) × (left w.1.position ≡ 10 ∷ rest)
  unfolding lines_text
  section_read e es t v w rest good free is (behind, (name, named, word), (start, colon, entries)) =
      let there : left v.1.position ≡ codes "outlined_attributes" ++ 58 ∷ 10 ∷ lines_text (e ∷ es) rest = same_rest is in
      let read = name_read v.1 behind name (codes "outlined_attributes") 58 (10 ∷ lines_text (e ∷ es) rest) named there refl refl in
      let lines = sign_read 58 behind start.1 [] 58 (10 ∷ lines_text (e ∷ es) rest) colon.0 read.1 refl refl in
      items_read (e ∷ es) entries.read.0 ([], start) (t, w) rest good free lines.1 entries.read.1 entries.ends
