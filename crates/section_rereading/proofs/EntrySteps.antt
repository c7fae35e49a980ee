-- Printed entries are read as they were.
use Rattle.std.proofs.Common.{◌≡◌, ℕ, Bool, true, List, [], ◌∷◌, ◌++◌, Some, None, arith, refl, ◌∙◌, ap}
use Rattle.std.specs.Prelude.{codes}
use Rattle.ir_locations.specs.declared.location.Location.{Location}
use Rattle.ir_outlines.specs.Section as sections
use Rattle.outline_tables.specs.Tables.{entry_of, members_of}
use Rattle.outline_tables.specs.declared.entries.Entry.{Entry}
use Rattle.outline_tables.specs.declared.entries.Entry.TheVariants.{Bracketed, Single}
use Rattle.text_locations.specs.Locations.{At, Parser}
use Rattle.text_outlines.specs.Entries.{ReadsEntry, ReadsPlace}
use Rattle.text_sections.specs.Texts.{Token, sign, entry_tokens, members_from}
use Rattle.text_streams.specs.Positions.{left}
use Rattle.section_rereading.specs.Inverse.{AreInverse, CanReadEntry, said_entry, said_members}
use Rattle.section_rereading.specs.Printed.{characters_of, printed}
use Rattle.section_rereading.proofs.MemberSteps.{attribute_start, attribute_visible, members_read, skipped_to}
use Rattle.section_rereading.proofs.StreamSteps.{sign_missing, sign_read}

-- tokens, and more behind them
pub printed_more : {A L : Type 0} (attribute_text : A → List ℕ) (location_text : L → List ℕ) (ts us : List (Token A L)) (rest : List ℕ)
    → printed attribute_text location_text (ts ++ us) rest ≡ printed attribute_text location_text ts (printed attribute_text location_text us rest)
printed_more at lt [] us rest = refl
printed_more at lt (t ∷ ts) us rest = ap (λ (cs : List ℕ). characters_of at lt t ++ cs) (printed_more at lt ts us rest)

module _ {F S A L X Y : Type 0} (parser : Parser F S A) (attribute_text : A → List ℕ) (location_text : L → List ℕ)
    (says : A → X) (says_place : Location A → Y) (prints_place : L → Y) (is_readable : A → Bool) (is_readable_place : L → Bool)
    (inverse : AreInverse parser attribute_text location_text says says_place prints_place is_readable is_readable_place) where
  -- a location in brackets, and the `[` of the members
  place_read : (v w : At F S) (m : Location A) (l : L) (cs : List ℕ) → is_readable_place l ≡ true
      → left v.1.position ≡ 91 ∷ (location_text l ++ 93 ∷ 44 ∷ 32 ∷ 91 ∷ cs) → ReadsPlace parser v m w → (says_place m ≡ prints_place l) × (left w.1.position ≡ cs)
  place_read v w m l cs good is h =
      let opened = sign_read 91 v.1 h.opened.1 [] 91 (location_text l ++ 93 ∷ 44 ∷ 32 ∷ 91 ∷ cs) h.opens.0 is refl refl in
      let start = skipped_to h.opened.1 h.start.1 [] (location_text l) (93 ∷ 44 ∷ 32 ∷ 91 ∷ cs) h.spaces.0 opened.1 refl (inverse.location_begins l good) in
      let place = inverse.location_read h.start h.end l m (44 ∷ 32 ∷ 91 ∷ cs) good start h.location_read in
      let closed = sign_read 93 h.end.1 h.closed.1 [] 93 (44 ∷ 32 ∷ 91 ∷ cs) h.closes.0 place.1 refl refl in
      let behind = sign_read 44 h.closed.1 h.behind.1 [] 44 (32 ∷ 91 ∷ cs) h.comma.0 closed.1 refl refl in
      let members = sign_read 91 h.behind.1 w.1 (32 ∷ []) 91 cs h.opens_members.0 behind.1 refl refl in
      (place.0, members.1)

  -- the members of an entry, and the `]` behind them
  text_of_members : List (List ℕ × sections.Reference A) → List ℕ → List ℕ
  text_of_members ms cs = printed attribute_text location_text (members_from true ms ++ sign (codes "]") ∷ []) (10 ∷ cs)

  members_text : (ms : List (List ℕ × sections.Reference A)) (cs : List ℕ)
      → text_of_members ms cs ≡ printed attribute_text location_text (members_from true ms) (93 ∷ 10 ∷ cs)
  unfolding text_of_members
  members_text ms cs = printed_more attribute_text location_text (members_from true ms) (sign (codes "]") ∷ []) (10 ∷ cs)

  pub entry_read : (v w : At F S) (item : Entry A (Location A)) (e : sections.Entry A L) (cs : List ℕ) → CanReadEntry is_readable is_readable_place e
      → left v.1.position ≡ 32 ∷ printed attribute_text location_text (entry_tokens e) (10 ∷ cs) → ReadsEntry parser v item w
      → (said_entry says says_place (entry_of item) ≡ said_entry says prints_place e) × (left w.1.position ≡ 10 ∷ cs)
  unfolding text_of_members
  entry_read v w (Bracketed None attributes) (sections.bracketed None ms) cs good is (behind, front, members) =
      let opened = sign_read 91 v.1 behind.1 (32 ∷ []) 91 (text_of_members ms cs) front.1.0 is refl refl in
      let got = members_read parser attribute_text location_text says says_place prints_place is_readable is_readable_place inverse ms attributes.items behind w (10 ∷ cs) good.1 (opened.1 ∙ members_text ms cs) members in
      (ap (λ (xs : List (List ℕ × sections.Reference X)). sections.bracketed None xs) got.0, got.1)
  entry_read v w (Bracketed None attributes) (sections.bracketed (Some l) ms) cs good is (behind, front, members) =
      absurd (sign_missing 64 v.1 (32 ∷ []) 64 _ front.0 is refl refl refl)
  entry_read v w (Bracketed None attributes) (sections.single a) cs good is (behind, front, members) =
      let start = attribute_start (attribute_text a) (inverse.attribute_begins a good) in
      let there = is ∙ ap (λ (xs : List ℕ). 32 ∷ (xs ++ 10 ∷ cs)) start.is in
      absurd (start.no_bracket (sign_read 91 v.1 behind.1 (32 ∷ []) start.first (start.more ++ 10 ∷ cs) front.1.0 there refl start.visible).0)
  entry_read v w (Bracketed (Some location) attributes) (sections.bracketed None ms) cs good is (behind, (b, takes, place), members) =
      let opened = sign_read 64 v.1 b.1 (32 ∷ []) 91 (text_of_members ms cs) takes.0 is refl refl in
      absurd (omega (arith, opened.0))
  entry_read v w (Bracketed (Some location) attributes) (sections.bracketed (Some l) ms) cs good is (behind, (b, takes, place), members) =
      let opened = sign_read 64 v.1 b.1 (32 ∷ []) 64 _ takes.0 is refl refl in
      let placed = place_read b behind location l (text_of_members ms cs) good.0 opened.1 place in
      let got = members_read parser attribute_text location_text says says_place prints_place is_readable is_readable_place inverse ms attributes.items behind w (10 ∷ cs) good.1 (placed.1 ∙ members_text ms cs) members in (
        ap (λ (y : Y). sections.bracketed (Some y) (said_members says (members_of attributes.items))) placed.0
            ∙ ap (λ (xs : List (List ℕ × sections.Reference X)). sections.bracketed (Some (prints_place l)) xs) got.0,
        got.1,
      )
  entry_read v w (Bracketed (Some location) attributes) (sections.single a) cs good is (behind, (b, takes, place), members) =
      let start = attribute_start (attribute_text a) (inverse.attribute_begins a good) in
      let there = is ∙ ap (λ (xs : List ℕ). 32 ∷ (xs ++ 10 ∷ cs)) start.is in
      absurd (start.no_place (sign_read 64 v.1 b.1 (32 ∷ []) start.first (start.more ++ 10 ∷ cs) takes.0 there refl start.visible).0)
  entry_read v w (Single b) (sections.bracketed None ms) cs good is (no_at, no_bracket, start, skips, answers) =
      absurd (sign_missing 91 v.1 (32 ∷ []) 91 _ no_bracket is refl refl refl)
  entry_read v w (Single b) (sections.bracketed (Some l) ms) cs good is (no_at, no_bracket, start, skips, answers) =
      absurd (sign_missing 64 v.1 (32 ∷ []) 64 _ no_at is refl refl refl)
  entry_read v w (Single b) (sections.single a) cs good is (no_at, no_bracket, start, skips, answers) =
      let here = skipped_to v.1 start.1 (32 ∷ []) (attribute_text a) (10 ∷ cs) skips.0 is refl (attribute_visible (attribute_text a) (inverse.attribute_begins a good)) in
      let got = inverse.attribute_read start w a b 10 cs good refl here answers in
      (ap sections.single got.0, got.1)
