-- Marks that are put into a text are tokens of their own, and the other tokens stay.
use Rattle.std.proofs.Common.{Bool, ◌≡◌, ◌≢◌, ℕ, ◌+◌, ◌-◌, ◌^◌, ◌<◌, ◌≤◌, ◌⊎◌, inl, inr, List, [], ◌∷◌, length, map, slice_index, true, false, ◌&&◌, ◌==◌, arith, refl, sym, ◌∙◌, ap, subst, drop, Option, Some}
use Rattle.std.specs.Prelude.{decimal, not, slice_range}
use Rattle.std.specs.Char.{is_whitespace}
use Rattle.std.proofs.lemmas.List.{get_or-drop}
use Rattle.std.proofs.lemmas.Bool.{and_parts, cases_Bool, eqb-true, le-ltb, lt-ltb, not-true, or_cases}
use Rattle.ir_tokens.specs.declared.tokens.TokenKind.{TokenKind}
use Rattle.ir_tokens.specs.declared.tokens.TokenKind.TheVariants.{Mark, Bad}
use Rattle.ir_tokens.specs.declared.tokens.Token.{Token}
use Rattle.ir_tokens.specs.Tokens.{is_bad, is_digit, IsGap, IsToken, ReadsAs}
use Rattle.ir_tokens.proofs.TokenLongest.{mark_longest}
use Rattle.ir_tokens.proofs.TokenSteps.{spells_after}
use Rattle.ir_tokens.proofs.TokenUnique.{one_reading_lem}
use Rattle.ir_characters.specs.Texts.{owned_codes}
use Rattle.text_marking.specs.declared.taking.MarkedText.{MarkedText}
use Rattle.text_marking.specs.Marks.{is_mark, mark_of, marks_behind, marks_of, number_in_64_bits, token_characters, without_marks}
use Rattle.text_marking.specs.Putting.{with_marks, with_marks_from}
use Rattle.text_marking.specs.PutAndTaken.{CanPut, count_before, GivesBack, is_token_end, kind_and_characters, number_and_tokens, put_number_and_tokens}
use Rattle.text_marking.specs.Taking.{TakesMarks}
use Rattle.text_marking.proofs.Moved.{Moved, moved_behind, moved_front, part_moved, spells_from, token_before_space, token_to_end}
use Rattle.text_marking.proofs.PutLists.{Continues, decimal_digits, decimal_number, decimal_some, MeetsMark, meets_mark, no_digit_behind, rest_long, rest_moved}
use Rattle.text_marking.proofs.Separated.{bad_is_last, bad_or_more, last_if_bad, last_or_more}

-- ---- what is known of the tokens and the marks that are left

-- none of the tokens is a mark
abbrev AreOthers : List Token → Type 0
AreOthers [] = Unit {0}
AreOthers (t ∷ ts) = (is_mark t.kind ≡ false) × AreOthers ts

are_others : (cs : List ℕ) (n : ℕ) (ts : List Token) → marks_behind cs n ts ≡ [] → AreOthers ts
are_others cs n [] none = tt
are_others cs n (t ∷ ts) none = elim (cases_Bool (is_mark t.kind)) [
  | inl marked ↦ let no : mark_of cs n t ∷ marks_behind cs n ts ≡ [] = rw marked at none in cc
  | inr other ↦ (other, are_others cs (n + 1) ts (rw other at none))
]

-- The marks that are left are put in at rising offsets, each at this place or where one of the tokens that are left ends.
abbrev Left : List ℕ → List Token → ℕ → ℕ → List (ℕ × ℕ) → Type 0
Left cs ts i from [] = Unit {0}
Left cs ts i from (m ∷ ms) = (from ≤ m.0) × ((m.0 ≡ i) ⊎ (is_token_end ts m.0 ≡ true)) × (is_digit (slice_index cs m.0) ≡ false) × (m.1 < 2 ^ 64) × Left cs ts i m.0 ms

all_left : (cs : List ℕ) (ts : List Token) (from : ℕ) (ms : List (ℕ × ℕ)) → CanPut cs ts from ms → Left cs ts 0 from ms
all_left cs ts from [] h = tt
all_left cs ts from (m ∷ ms) h = (h.0, inr h.1, h.2, h.3, all_left cs ts m.0 ms h.4)

-- ---- ends of tokens

-- this token isn't bad and ends here
abbrev ends_at : ℕ → Token → Bool
ends_at o t = not (is_bad t.kind) && t.end == o

good_kind : (k : TokenKind) → is_bad k ≡ false → k ≢ Bad
good_kind k good bad = let no : false ≡ true = sym good ∙ ap is_bad bad in cc

ends_here : (o : ℕ) (t : Token) → ends_at o t ≡ true → (t.kind ≢ Bad) × (t.end ≡ o)
ends_here o t e =
    let both = and_parts (not (is_bad t.kind)) (t.end == o) e in
    (good_kind t.kind (not-true (is_bad t.kind) both.0), eqb-true t.end o both.1)

-- where one of the tokens from j on ends is not before j, and in the text
end_inside : (cs : List ℕ) (j : ℕ) (ts : List Token) (o : ℕ) → ReadsAs cs j ts → is_token_end ts o ≡ true → (j ≤ o) × (o ≤ length cs)
end_inside cs j [] o r e = absurd (let no : false ≡ true = e in cc)
end_inside cs j (t ∷ ts) o r e =
    let from : j ≤ t.start = r.0 in
    let lo : t.start ≤ t.end = spells_from cs t.start t.end t.kind r.2.spelled in
    let inside : t.end ≤ length cs = r.2.inside in
    elim (or_cases (ends_at o t) (is_token_end ts o) e) [
      | inl here ↦ let at : t.end ≡ o = (ends_here o t here).1 in (omega arith, omega arith)
      | inr behind ↦ elim (last_or_more t.kind r.3) [
        | inl none ↦ absurd (let no : false ≡ true = sym (ap (λ us. is_token_end us o) none) ∙ behind in cc)
        | inr more ↦
            let rest = end_inside cs t.end ts o more behind in
            (omega (arith, rest.0), rest.1)
      ]
    ]

-- the first token, where one of the tokens ends at an offset
first_end : (cs : List ℕ) (i : ℕ) (t : Token) (ts : List Token) (o : ℕ) → ReadsAs cs i (t ∷ ts) → is_token_end (t ∷ ts) o ≡ true
    → (t.kind ≢ Bad) × (t.end ≤ o) × ReadsAs cs t.end ts × ((t.end ≡ o) ⊎ (is_token_end ts o ≡ true))
first_end cs i t ts o r e = elim (bad_or_more t.kind r.3) [
  | inl (bad, last) ↦ elim (or_cases (ends_at o t) (is_token_end ts o) e) [
    | inl here ↦ absurd ((ends_here o t here).0 bad)
    | inr behind ↦ absurd (let no : false ≡ true = sym (ap (λ us. is_token_end us o) last) ∙ behind in cc)
  ]
  | inr (good, more) ↦ elim (or_cases (ends_at o t) (is_token_end ts o) e) [
    | inl here ↦ let at : t.end ≡ o = (ends_here o t here).1 in (good, omega arith, more, inl at)
    | inr behind ↦ (good, (end_inside cs t.end ts o more behind).0, more, inr behind)
  ]
]

-- an offset is in the text
offset_inside : (cs : List ℕ) (ts : List Token) (i o : ℕ) → i ≤ length cs → ReadsAs cs i ts → (o ≡ i) ⊎ (is_token_end ts o ≡ true) → o ≤ length cs
offset_inside cs ts i o inside r (inl at) = omega arith
offset_inside cs ts i o inside r (inr e) = (end_inside cs i ts o r e).1

-- one token less is left, which ends before the marks
left_behind : (cs : List ℕ) (i : ℕ) (t : Token) (ts : List Token) (from : ℕ) (ms : List (ℕ × ℕ)) → ReadsAs cs i (t ∷ ts) → t.start < t.end → t.end ≤ from
    → Left cs (t ∷ ts) i from ms → Left cs ts t.end from ms
left_behind cs i t ts from [] r some le h = tt
left_behind cs i t ts from (m ∷ ms) r some le h =
    let up : from ≤ m.0 = h.0 in
    let start : i ≤ t.start = r.0 in
    let where_now : (m.0 ≡ t.end) ⊎ (is_token_end ts m.0 ≡ true) = elim h.1 [
      | inl at ↦ absurd (omega arith)
      | inr e ↦ elim (first_end cs i t ts m.0 r e).3 [ inl at ↦ inl (sym at) | inr behind ↦ inr behind ]
    ] in
    (up, where_now, h.2, h.3, left_behind cs i t ts m.0 ms r some (omega arith) h.4)

-- ---- counts

-- what a mark says behind so many tokens more
abbrev put_behind : ℕ → List Token → ℕ × ℕ → Option ℕ × ℕ
put_behind c ts m = (Some m.1, c + count_before ts m.0)

count_first : (t : Token) (ts : List Token) (o : ℕ) → t.start < o → count_before (t ∷ ts) o ≡ count_before ts o + 1
count_first t ts o lt = rw (lt-ltb t.start o lt) (omega arith)

-- none of the tokens from j on begins before an offset that isn't behind j
count_none : (cs : List ℕ) (o j : ℕ) (ts : List Token) → o ≤ j → ReadsAs cs j ts → count_before ts o ≡ 0
count_none cs o j [] le r = refl
count_none cs o j (t ∷ ts) le r =
    let from : j ≤ t.start = r.0 in
    let lo : t.start ≤ t.end = spells_from cs t.start t.end t.kind r.2.spelled in
    let rest : count_before ts o ≡ 0 = elim (last_or_more t.kind r.3) [
      | inl none ↦ ap (λ us. count_before us o) none
      | inr more ↦ count_none cs o t.end ts (omega arith) more
    ] in
    rw (le-ltb t.start o (omega arith)) rest

-- the marks that are left are behind a token that begins before them
put_more : (cs : List ℕ) (us : List Token) (i c : ℕ) (t : Token) (ts : List Token) (from : ℕ) (ms : List (ℕ × ℕ)) → Left cs us i from ms → t.start < from
    → map (put_behind (c + 1) ts) ms ≡ map (put_behind c (t ∷ ts)) ms
put_more cs us i c t ts from [] h lt = refl
put_more cs us i c t ts from (m ∷ ms) h lt =
    let up : from ≤ m.0 = h.0 in
    let count = count_first t ts m.0 (omega arith) in
    let same : c + 1 + count_before ts m.0 ≡ c + count_before (t ∷ ts) m.0 = omega (arith, count) in
    ap (λ (n : ℕ). (Some m.1, n) ∷ map (put_behind (c + 1) ts) ms) same
    ∙ ap (λ (xs : List (Option ℕ × ℕ)). put_behind c (t ∷ ts) m ∷ xs) (put_more cs us i c t ts m.0 ms h.4 (omega arith))

-- at the beginning no tokens are more
put_none : (ts : List Token) (ms : List (ℕ × ℕ)) → map (put_behind 0 ts) ms ≡ map (put_number_and_tokens ts) ms
put_none ts [] = refl
put_none ts (m ∷ ms) =
    let same : 0 + count_before ts m.0 ≡ count_before ts m.0 = omega arith in
    ap (λ (n : ℕ). (Some m.1, n) ∷ map (put_behind 0 ts) ms) same
    ∙ ap (λ (xs : List (Option ℕ × ℕ)). put_number_and_tokens ts m ∷ xs) (put_none ts ms)

-- ---- what the text with the marks is from a place on

-- From a place on the text with the marks has tokens of its own: those that are left of the bare text, and the marks that are left, each behind
-- as many of these, and behind so many more.
pub record Back (cs all : List ℕ) (ts : List Token) (ms : List (ℕ × ℕ)) (place c : ℕ) : Type 0 where
  pub us : List Token
  pub reads : ReadsAs all place us
  pub tokens : map (kind_and_characters all) (without_marks us) ≡ map (kind_and_characters cs) ts
  pub marks : map number_and_tokens (marks_behind all c us) ≡ map (put_behind c ts) ms

-- a token of the bare text, so many characters further on
abbrev shifted : ℕ → Token → Token
shifted d t = record { kind = t.kind; start = t.start + d; end = t.end + d }

-- white space is white space there
gap_moved : (cs all : List ℕ) (i d n : ℕ) → Moved cs all i n (i + d) → IsGap cs i n → IsGap all (i + d) (n + d)
gap_moved cs all i d n same gap k lo hi =
    let from : ℕ = k - d in
    ap is_whitespace (sym (same from k (omega arith) (omega arith) (omega arith))) ∙ gap from (omega arith) (omega arith)

-- the kind and the characters of a token stay
same_token : (cs all : List ℕ) (i d n : ℕ) (t : Token) → i ≤ t.start → t.end ≤ n → n ≤ length cs → Moved cs all i n (i + d) → IsToken cs t → IsToken all (shifted d t)
    → kind_and_characters all (shifted d t) ≡ kind_and_characters cs t
same_token cs all i d n t from to inside same token there =
    let lo : t.start ≤ t.end = spells_from cs t.start t.end t.kind token.spelled in
    let hi : t.end + d ≤ length all = there.inside in
    let moved : Moved cs all t.start n (t.start + d) = moved_behind cs all i n (i + d) t.start (t.start + d) from (omega arith) same in
    let part : token_characters cs t ≡ token_characters all (shifted d t) =
    part_moved cs all t.start t.end (t.start + d) (t.end + d) lo (omega arith) hi (omega arith) (moved_front cs all t.start n (t.start + d) t.end to moved) in
    ap (λ (xs : List ℕ). (t.kind, xs)) (sym part)

-- one token of the bare text, and what is behind it
back_token : (cs all : List ℕ) (i d n c : ℕ) (t : Token) (ts : List Token) (ms : List (ℕ × ℕ)) → i ≤ t.start → t.end ≤ n → n ≤ length cs → IsGap cs i t.start
    → IsToken cs t → is_mark t.kind ≡ false → Moved cs all i n (i + d) → IsToken all (shifted d t)
    → map (put_behind (c + 1) ts) ms ≡ map (put_behind c (t ∷ ts)) ms → (b : Back cs all ts ms (t.end + d) (c + 1)) → (t.kind ≡ Bad → b.us ≡ [])
    → Back cs all (t ∷ ts) ms (i + d) c
back_token cs all i d n c t ts ms from to inside gap token other same there count b last =
    let lo : t.start ≤ t.end = spells_from cs t.start t.end t.kind token.spelled in
    let front : Moved cs all i t.start (i + d) = moved_front cs all i n (i + d) t.start (omega arith) same in
    record {
      us = shifted d t ∷ b.us;
      reads = (omega arith, gap_moved cs all i d t.start front gap, there, last_if_bad t.kind last b.reads);
      tokens = rw other (ap (λ x. x ∷ map (kind_and_characters all) (without_marks b.us)) (same_token cs all i d n t from to inside same token there)
          ∙ ap (λ xs. kind_and_characters cs t ∷ xs) b.tokens);
      marks = rw other (b.marks ∙ count);
    }

-- no tokens and no marks
back_none : (cs all : List ℕ) (i d c : ℕ) → IsGap cs i (length cs) → length all + i ≡ length cs + (i + d) → Moved cs all i (length cs) (i + d) → Back cs all [] [] (i + d) c
back_none cs all i d c gap long same = record {
  us = [];
  reads = let at : length all ≡ length cs + d = omega arith in subst (λ (n : ℕ). IsGap all (i + d) n) (sym at) (gap_moved cs all i d (length cs) same gap);
  tokens = refl;
  marks = refl;
}

-- behind the last mark all tokens are moved
back_rest : (cs all : List ℕ) (i d c : ℕ) (ts : List Token) → ReadsAs cs i ts → AreOthers ts → length all + i ≡ length cs + (i + d) → Moved cs all i (length cs) (i + d)
    → Back cs all ts [] (i + d) c
back_rest cs all i d c [] r others long same = back_none cs all i d c r long same
back_rest cs all i d c (t ∷ ts) r others long same =
    let from : i ≤ t.start = r.0 in
    let lo : t.start ≤ t.end = spells_from cs t.start t.end t.kind r.2.spelled in
    let moved : Moved cs all t.start (length cs) (t.start + d) = moved_behind cs all i (length cs) (i + d) t.start (t.start + d) from (omega arith) same in
    let there : IsToken all (shifted d t) = token_to_end cs all t (shifted d t) refl (omega arith) (omega arith) moved r.2 in
    elim (bad_or_more t.kind r.3) [
      | inl (bad, last) ↦ record {
        us = shifted d t ∷ [];
        reads = (
          omega arith,
          gap_moved cs all i d t.start (moved_front cs all i (length cs) (i + d) t.start (omega (arith, r.2.begins)) same) r.1,
          there,
          bad_is_last t.kind _ _ bad refl,
        );
        tokens = rw (others.0, last) (ap (λ x. x ∷ []) (same_token cs all i d (length cs) t from r.2.inside (omega arith) same r.2 there));
        marks = rw others.0 refl;
      }
      | inr (good, more) ↦ back_token cs all i d (length cs) c t ts [] from r.2.inside (omega arith) r.1 r.2 others.0 same there refl
          (back_rest cs all t.end d (c + 1) ts more others.1 (omega arith)
          (moved_behind cs all i (length cs) (i + d) t.end (t.end + d) (omega arith) (omega arith) same))
          (λ bad. absurd (good bad))
    ]

-- ---- a mark

-- the token of a mark that is put in
abbrev mark_token : ℕ → ℕ × ℕ → Token
mark_token d m = record { kind = Mark; start = m.0 + d + 1; end = m.0 + d + 2 + length (decimal m.1) }

mark_is_token : (cs all : List ℕ) (i d : ℕ) (m : ℕ × ℕ) (ms : List (ℕ × ℕ)) → m.1 < 2 ^ 64 → MeetsMark cs all i d m ms
    → is_digit (slice_index (with_marks_from cs m.0 ms) 0) ≡ false → IsToken all (mark_token d m)
mark_is_token cs all i d m ms small h none =
    let many : ℕ = length (decimal m.1) in
    let some : 0 < many = decimal_some m.1 small in
    let room : m.0 + d + 2 + many ≤ length all = h.room in
    let second : m.0 + d + 1 + 1 ≡ m.0 + d + 2 = omega arith in
    let digit : (k : ℕ) → m.0 + d + 1 + 1 ≤ k → k < m.0 + d + 2 + many → is_digit (slice_index all k) ≡ true =
    λ k lo hi.
    let q : ℕ = k - (m.0 + d + 2) in
    let at : m.0 + d + 2 + q ≡ k = omega arith in
    ap is_digit (ap (slice_index all) (sym at) ∙ h.digits q (omega arith)) ∙ decimal_digits m.1 small q (omega arith) in
    let behind : is_digit (slice_index all (m.0 + d + 2 + many)) ≡ false =
    ap is_digit (ap (slice_index all) (omega arith) ∙ (sym (get_or-drop (m.0 + d + 2 + many) all 0 0) ∙ ap (λ (l : List ℕ). slice_index l 0) h.behind)) ∙ none in
    record {
      begins = omega arith;
      visible = ap is_whitespace h.sign;
      inside = room;
      spelled = (h.sign, (omega arith, digit));
      longest = mark_longest all (m.0 + d + 1) (m.0 + d + 2 + many) h.sign (omega arith) (λ lt. behind);
    }

-- a mark, and what is behind it
back_mark : (cs all : List ℕ) (i d c : ℕ) (m : ℕ × ℕ) (ts : List Token) (ms : List (ℕ × ℕ)) → m.1 < 2 ^ 64 → MeetsMark cs all i d m ms
    → is_digit (slice_index (with_marks_from cs m.0 ms) 0) ≡ false → ReadsAs cs m.0 ts → Back cs all ts ms (m.0 + d + 2 + length (decimal m.1)) c
    → Back cs all ts (m ∷ ms) (m.0 + d) c
back_mark cs all i d c m ts ms small h none r b =
    let second : m.0 + d + 1 + 1 ≡ m.0 + d + 2 = omega arith in
    let text : slice_range all (m.0 + d + 1 + 1) (m.0 + d + 2 + length (decimal m.1)) ≡ decimal m.1 =
    ap (λ (n : ℕ). slice_range all n (m.0 + d + 2 + length (decimal m.1))) second ∙ h.number in
    let number : number_in_64_bits (slice_range all (m.0 + d + 1 + 1) (m.0 + d + 2 + length (decimal m.1))) ≡ Some m.1 =
    ap number_in_64_bits text ∙ decimal_number m.1 small in
    let zero_more = count_none cs m.0 m.0 ts (omega arith) r in
    let count : c ≡ c + count_before ts m.0 = omega (arith, zero_more) in
    record {
      us = mark_token d m ∷ b.us;
      reads = (
        omega arith,
        (λ k lo hi. let at : k ≡ m.0 + d = omega arith in ap is_whitespace (ap (slice_index all) at ∙ h.space)),
        mark_is_token cs all i d m ms small h none,
        b.reads,
      );
      tokens = b.tokens;
      marks = ap (λ (n : Option ℕ). (n, c) ∷ map number_and_tokens (marks_behind all c b.us)) number
          ∙ (ap (λ (n : ℕ). (Some m.1, n) ∷ map number_and_tokens (marks_behind all c b.us)) count
          ∙ ap (λ (xs : List (Option ℕ × ℕ)). put_behind c ts m ∷ xs) b.marks);
    }

-- ---- up to a mark

-- the tokens up to a mark, where what is from there on is known
back_up_to : (cs all : List ℕ) (d : ℕ) (m : ℕ × ℕ) (ms : List (ℕ × ℕ)) → m.0 ≤ length cs → m.0 + d < length all → slice_index all (m.0 + d) ≡ 32
    → ((ts : List Token) (c : ℕ) → ReadsAs cs m.0 ts → AreOthers ts → Left cs ts m.0 m.0 ms → Back cs all ts (m ∷ ms) (m.0 + d) c)
    → (i c : ℕ) (ts : List Token) → i ≤ m.0 → ReadsAs cs i ts → AreOthers ts → Left cs ts i m.0 (m ∷ ms) → Moved cs all i m.0 (i + d) → Back cs all ts (m ∷ ms) (i + d) c
back_up_to cs all d m ms inside room space follow i c [] le r others left same = elim left.1 [
  | inl at ↦ subst (λ (n : ℕ). Back cs all [] (m ∷ ms) (n + d) c) at
      (follow [] c (subst (λ (n : ℕ). ReadsAs cs n []) (sym at) r) tt (subst (λ (n : ℕ). Left cs [] n m.0 ms) (sym at) left.4))
  | inr e ↦ absurd (let no : false ≡ true = e in cc)
]
back_up_to cs all d m ms inside room space follow i c (t ∷ ts) le r others left same = elim left.1 [
  | inl at ↦ subst (λ (n : ℕ). Back cs all (t ∷ ts) (m ∷ ms) (n + d) c) at
      (follow (t ∷ ts) c (subst (λ (n : ℕ). ReadsAs cs n (t ∷ ts)) (sym at) r) others (subst (λ (n : ℕ). Left cs (t ∷ ts) n m.0 ms) (sym at) left.4))
  | inr e ↦
      let found = first_end cs i t ts m.0 r e in
      let good : t.kind ≢ Bad = found.0 in
      let to : t.end ≤ m.0 = found.1 in
      let more : ReadsAs cs t.end ts = found.2 in
      let from : i ≤ t.start = r.0 in
      let some : t.start < t.end = spells_after cs t.start t.end t.kind r.2.spelled good in
      let moved : Moved cs all t.start m.0 (t.start + d) = moved_behind cs all i m.0 (i + d) t.start (t.start + d) from (omega arith) same in
      let there : IsToken all (shifted d t) =
      token_before_space cs all t (shifted d t) m.0 (m.0 + d) good refl (omega arith) to inside (omega arith) room space moved r.2 in
      let left' : Left cs ts t.end m.0 (m ∷ ms) = left_behind cs i t ts m.0 (m ∷ ms) r some to left in
      back_token cs all i d m.0 c t ts (m ∷ ms) from to inside r.1 r.2 others.0 same there
      (put_more cs (t ∷ ts) i c t ts m.0 (m ∷ ms) left (omega arith))
      (back_up_to cs all d m ms inside room space follow t.end (c + 1) ts to more others.1 left'
      (moved_behind cs all i m.0 (i + d) t.end (t.end + d) (omega arith) (omega arith) same))
      (λ bad. absurd (good bad))
]

-- ---- the whole text

-- the offset of the next mark
next_offset : (cs : List ℕ) (ts : List Token) (i o : ℕ) (ms : List (ℕ × ℕ)) → i ≤ length cs → ReadsAs cs i ts → Left cs ts i o ms
    → (m : ℕ × ℕ) (rest : List (ℕ × ℕ)) → ms ≡ m ∷ rest → (o ≤ m.0) × (m.0 ≤ length cs)
next_offset cs ts i o ms inside r left m rest is =
    let known : Left cs ts i o (m ∷ rest) = subst (λ (xs : List (ℕ × ℕ)). Left cs ts i o xs) is left in
    (known.0, offset_inside cs ts i m.0 inside r known.1)

back_from : (cs all : List ℕ) (ms : List (ℕ × ℕ)) (i d c : ℕ) (ts : List Token) → ReadsAs cs i ts → AreOthers ts → Left cs ts i i ms → Continues cs all i d ms
    → Back cs all ts ms (i + d) c
back_from cs all [] i d c ts r others left h = back_rest cs all i d c ts r others (rest_long cs all i d h) (rest_moved cs all i d h)
back_from cs all (m ∷ ms) i d c ts r others left h =
    let up : i ≤ m.0 = left.0 in
    let inside : m.0 ≤ length cs = offset_inside cs ts i m.0 h.inside r left.1 in
    let mark : MeetsMark cs all i d m ms = meets_mark cs all i d m ms up inside h in
    let room : m.0 + d + 2 + length (decimal m.1) ≤ length all = mark.room in
    let d' : ℕ = d + 2 + length (decimal m.1) in
    let at : m.0 + d' ≡ m.0 + d + 2 + length (decimal m.1) = omega arith in
    let behind : Continues cs all m.0 d' ms =
    record { inside = inside; within = omega arith; rest = ap (λ (n : ℕ). drop n all) at ∙ mark.behind } in
    let left' : Left cs ts i m.0 (m ∷ ms) = (omega arith, left.1, left.2, left.3, left.4) in
    back_up_to cs all d m ms inside (omega arith) mark.space
    (λ ts' c' r' others' left''.
    back_mark cs all i d c' m ts' ms left.3 mark (no_digit_behind cs m.0 ms inside left.2 (next_offset cs ts' m.0 m.0 ms inside r' left'')) r'
    (subst (λ (n : ℕ). Back cs all ts' ms n c') at (back_from cs all ms m.0 d' c' ts' r' others' left'' behind)))
    i c ts up r others left' mark.front

-- the kinds of tokens whose characters stay
kinds_stay : (cs bs : List ℕ) (ts : List Token) → map (token_characters bs) ts ≡ map (token_characters cs) ts → map (kind_and_characters bs) ts ≡ map (kind_and_characters cs) ts
kinds_stay cs bs [] e = refl
kinds_stay cs bs (t ∷ ts) e =
    let first : token_characters bs t ≡ token_characters cs t = cc in
    let rest : map (token_characters bs) ts ≡ map (token_characters cs) ts = cc in
    ap (λ (xs : List ℕ). (t.kind, xs) ∷ map (kind_and_characters bs) ts) first ∙ ap (λ xs. kind_and_characters cs t ∷ xs) (kinds_stay cs bs ts rest)

-- marks that were put in are taken
pub put_and_taken : (cs : List ℕ) (ts : List Token) (ms : List (ℕ × ℕ)) (taken : MarkedText) → ReadsAs cs 0 ts → marks_of cs ts ≡ [] → CanPut cs ts 0 ms
    → TakesMarks (with_marks cs ms) taken → GivesBack cs ts ms taken
put_and_taken cs ts ms taken r none can h =
    let all : List ℕ = with_marks cs ms in
    let start : Continues cs all 0 0 ms = record { inside = omega arith; within = omega arith; rest = refl } in
    let b : Back cs all ts ms 0 0 = back_from cs all ms 0 0 0 ts r (are_others cs 0 ts none) (all_left cs ts 0 ms can) start in
    let same : b.us ≡ h.tokens = one_reading_lem all 0 b.us h.tokens b.reads h.reads in
    record {
      tokens = λ us reads.
          let other : us ≡ without_marks h.tokens = one_reading_lem (owned_codes taken.bare) 0 us (without_marks h.tokens) reads h.others in
          ap (map (kind_and_characters (owned_codes taken.bare))) other
          ∙ (kinds_stay all (owned_codes taken.bare) (without_marks h.tokens) h.characters
          ∙ (ap (λ (vs : List Token). map (kind_and_characters all) (without_marks vs)) (sym same) ∙ b.tokens));
      marks = ap (map number_and_tokens) h.marks
          ∙ (ap (λ (vs : List Token). map number_and_tokens (marks_of all vs)) (sym same) ∙ (b.marks ∙ put_none ts ms));
    }
