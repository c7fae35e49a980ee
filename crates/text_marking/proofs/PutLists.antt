-- The characters of a text with marks, place by place.
use Rattle.std.proofs.Common.{◌≡◌, ℕ, ◌+◌, ◌-◌, ◌^◌, ◌<◌, ◌≤◌, inl, inr, List, [], ◌∷◌, ◌++◌, length, slice_index, true, false, arith, refl, sym, ◌∙◌, ap, take, drop, length-append, Some, zero, suc}
use Rattle.std.specs.Prelude.{decimal, slice_range}
use Rattle.std.specs.Str.Parse.{AllDigits, digits_value}
use Rattle.std.proofs.Math.ListN.{get_or-append}
use Rattle.std.proofs.lemmas.Bool.{and_from, cases_lt, le-leb, lt-ltb}
use Rattle.std.proofs.lemmas.Fmt.{decimal_is_IsNumeral}
use Rattle.std.proofs.lemmas.List.{drop-drop, drop_at, get_or-append_right, get_or-drop, length-drop, take_at}
use Rattle.std.proofs.lemmas.List.Edits.{get_or-between, length-between}
use Rattle.std.proofs.lemmas.Str.Parse.{digit_from_value}
use Rattle.ir_tokens.specs.Tokens.{is_digit}
use Rattle.text_marking.specs.Marks.{number_in_64_bits}
use Rattle.text_marking.specs.Putting.{next_place, spaced_mark, with_marks_from}
use Rattle.text_marking.proofs.Moved.{Moved}

-- ---- digits

range_is_digit : (c : ℕ) → 48 ≤ c → c ≤ 57 → is_digit c ≡ true
range_is_digit c lo hi = and_from _ _ (le-leb 48 c lo) (le-leb c 57 hi)

digits_at : (ds : List ℕ) → AllDigits 10 ds → (q : ℕ) → q < length ds → is_digit (slice_index ds q) ≡ true
digits_at [] all q lt = absurd (omega arith)
digits_at (c ∷ cs) all zero lt = let range = digit_from_value c all.0 in range_is_digit c range.0 range.1
digits_at (c ∷ cs) all (suc q) lt = digits_at cs all.1 q (omega arith)

pub decimal_digits : (n : ℕ) → n < 2 ^ 64 → (q : ℕ) → q < length (decimal n) → is_digit (slice_index (decimal n) q) ≡ true
decimal_digits n small q lt = digits_at (decimal n) (decimal_is_IsNumeral n small).0.1 q lt

pub decimal_some : (n : ℕ) → n < 2 ^ 64 → 0 < length (decimal n)
decimal_some n small = (decimal_is_IsNumeral n small).0.0

pub decimal_number : (n : ℕ) → n < 2 ^ 64 → number_in_64_bits (decimal n) ≡ Some n
decimal_number n small =
    let value : digits_value 10 (decimal n) ≡ n = (decimal_is_IsNumeral n small).1 in
    let below : digits_value 10 (decimal n) < 2 ^ 64 = omega arith in
    rw (lt-ltb (digits_value 10 (decimal n)) (2 ^ 64) below) (ap (λ (m : ℕ). Some m) value)

-- ---- what is behind a place

-- the place of the next mark
place_is : (many from offset : ℕ) → from ≤ offset → offset ≤ many → next_place many from offset ≡ offset
place_is many from offset lo hi = omega arith

-- the text up to the next mark, the mark, and what is behind it
pub next_mark : (cs : List ℕ) (i : ℕ) (m : ℕ × ℕ) (ms : List (ℕ × ℕ)) → i ≤ m.0 → m.0 ≤ length cs
    → with_marks_from cs i (m ∷ ms) ≡ slice_range cs i m.0 ++ (spaced_mark m.1 ++ with_marks_from cs m.0 ms)
next_mark cs i m ms lo hi =
    ap (λ (p : ℕ). slice_range cs i p ++ (spaced_mark m.1 ++ with_marks_from cs p ms)) (place_is (length cs) i m.0 lo hi)

-- From i + d on the one text is what the other is from i on, with these marks.
pub record Continues (cs all : List ℕ) (i d : ℕ) (ms : List (ℕ × ℕ)) : Type 0 where
  pub inside : i ≤ length cs
  pub within : i + d ≤ length all
  pub rest : drop (i + d) all ≡ with_marks_from cs i ms

-- a character behind a place
behind_at : (all xs : List ℕ) (i q k : ℕ) → drop i all ≡ xs → i + q ≡ k → slice_index all k ≡ slice_index xs q
behind_at all xs i q k is at =
    ap (slice_index all) (sym at) ∙ (sym (get_or-drop i all q 0) ∙ ap (λ (l : List ℕ). slice_index l q) is)

-- with no more marks the text goes on to its end
pub rest_moved : (cs all : List ℕ) (i d : ℕ) → Continues cs all i d [] → Moved cs all i (length cs) (i + d)
rest_moved cs all i d h k k' lo hi at =
    let q : ℕ = k - i in
    let here : i + q ≡ k = omega arith in
    let there : i + d + q ≡ k' = omega arith in
    ap (slice_index cs) (sym here) ∙ (sym (get_or-drop i cs q 0) ∙ sym (behind_at all (drop i cs) (i + d) q k' h.rest there))

pub rest_long : (cs all : List ℕ) (i d : ℕ) → Continues cs all i d [] → length all + i ≡ length cs + (i + d)
rest_long cs all i d h =
    let same : length (drop (i + d) all) ≡ length (drop i cs) = ap length h.rest in
    let left = length-drop (i + d) all in
    let right = length-drop i cs in
    let inside : i ≤ length cs = h.inside in
    let within : i + d ≤ length all = h.within in
    omega arith

-- ---- up to the next mark

-- The text goes on up to the next mark: a space, `!`, the digits of its number, and what is behind it.
pub record MeetsMark (cs all : List ℕ) (i d : ℕ) (m : ℕ × ℕ) (ms : List (ℕ × ℕ)) : Type 0 where
  pub front : Moved cs all i m.0 (i + d)
  pub room : m.0 + d + 2 + length (decimal m.1) ≤ length all
  pub space : slice_index all (m.0 + d) ≡ 32
  pub sign : slice_index all (m.0 + d + 1) ≡ 33
  pub digits : (q : ℕ) → q < length (decimal m.1) → slice_index all (m.0 + d + 2 + q) ≡ slice_index (decimal m.1) q
  pub number : slice_range all (m.0 + d + 2) (m.0 + d + 2 + length (decimal m.1)) ≡ decimal m.1
  pub behind : drop (m.0 + d + 2 + length (decimal m.1)) all ≡ with_marks_from cs m.0 ms

-- the same for any digits
meets : (cs all ds behind : List ℕ) (i d o : ℕ) → i ≤ o → o ≤ length cs → i + d ≤ length all
    → drop (i + d) all ≡ slice_range cs i o ++ (32 ∷ (33 ∷ (ds ++ behind)))
    → Moved cs all i o (i + d) × (o + d + 2 + length ds ≤ length all) × (slice_index all (o + d) ≡ 32) × (slice_index all (o + d + 1) ≡ 33)
    × ((q : ℕ) → q < length ds → slice_index all (o + d + 2 + q) ≡ slice_index ds q)
    × (slice_range all (o + d + 2) (o + d + 2 + length ds) ≡ ds) × (drop (o + d + 2 + length ds) all ≡ behind)
meets cs all ds behind i d o lo hi room is =
    let more : List ℕ = 32 ∷ (33 ∷ (ds ++ behind)) in
    let part : length (slice_range cs i o) ≡ o - i = length-between cs i o hi in
    let front : Moved cs all i o (i + d) =
    λ k k' from to at.
    let q : ℕ = k - i in
    let here : i + q ≡ k = omega arith in
    let there : i + d + q ≡ k' = omega arith in
    let inside : q < length (slice_range cs i o) = omega arith in
    let same : slice_index all k' ≡ slice_index (slice_range cs i o) q =
    behind_at all (slice_range cs i o ++ more) (i + d) q k' is there ∙ get_or-append (slice_range cs i o) more 0 q inside in
    sym (same ∙ (get_or-between cs i o q 0 (omega arith) ∙ ap (slice_index cs) here)) in
    let total : length (drop (i + d) all) ≡ length (slice_range cs i o) + length more =
    ap length is ∙ length-append (slice_range cs i o) more in
    let left = length-drop (i + d) all in
    let both = length-append ds behind in
    let many : length more ≡ 2 + (length ds + length behind) = omega arith in
    let at : i + d + (o - i) ≡ o + d = omega arith in
    let here : drop (o + d) all ≡ more =
    ap (λ (n : ℕ). drop n all) (sym at) ∙ (sym (drop-drop (o - i) (i + d) all)
    ∙ (ap (drop (o - i)) is ∙ drop_at (slice_range cs i o) more (o - i) part)) in
    let digits : drop (o + d + 2) all ≡ ds ++ behind = sym (drop-drop 2 (o + d) all) ∙ ap (drop 2) here in
    let width : o + d + 2 + length ds - (o + d + 2) ≡ length ds = omega arith in (
      front,
      omega arith,
      behind_at all more (o + d) 0 (o + d) here (omega arith),
      behind_at all more (o + d) 1 (o + d + 1) here refl,
      (λ q lt. behind_at all (ds ++ behind) (o + d + 2) q (o + d + 2 + q) digits refl ∙ get_or-append ds behind 0 q lt),
      ap (λ (n : ℕ). take n (drop (o + d + 2) all)) width ∙ (ap (take (length ds)) digits ∙ take_at ds behind (length ds) refl),
      sym (drop-drop (length ds) (o + d + 2) all) ∙ (ap (drop (length ds)) digits ∙ drop_at ds behind (length ds) refl),
    )

pub meets_mark : (cs all : List ℕ) (i d : ℕ) (m : ℕ × ℕ) (ms : List (ℕ × ℕ)) → i ≤ m.0 → m.0 ≤ length cs → Continues cs all i d (m ∷ ms)
    → MeetsMark cs all i d m ms
meets_mark cs all i d m ms lo hi h =
    let all_of = meets cs all (decimal m.1) (with_marks_from cs m.0 ms) i d m.0 lo hi h.within (h.rest ∙ next_mark cs i m ms lo hi) in
    record {
      front = all_of.0;
      room = all_of.1;
      space = all_of.2;
      sign = all_of.3;
      digits = all_of.4;
      number = all_of.5;
      behind = all_of.6;
    }

-- where no digit of the text follows a mark, none does in the text with the marks
pub no_digit_behind : (cs : List ℕ) (o : ℕ) (ms : List (ℕ × ℕ)) → o ≤ length cs → is_digit (slice_index cs o) ≡ false
    → ((m : ℕ × ℕ) (rest : List (ℕ × ℕ)) → ms ≡ m ∷ rest → (o ≤ m.0) × (m.0 ≤ length cs))
    → is_digit (slice_index (with_marks_from cs o ms) 0) ≡ false
no_digit_behind cs o [] inside none next =
    let at : slice_index (drop o cs) 0 ≡ slice_index cs o = get_or-drop o cs 0 0 ∙ ap (slice_index cs) (omega arith) in
    ap is_digit at ∙ none
no_digit_behind cs o (m ∷ ms) inside none next =
    let order = next m ms refl in
    let more : List ℕ = spaced_mark m.1 ++ with_marks_from cs m.0 ms in
    let part : length (slice_range cs o m.0) ≡ m.0 - o = length-between cs o m.0 order.1 in
    let first : slice_index (with_marks_from cs o (m ∷ ms)) 0 ≡ slice_index (slice_range cs o m.0 ++ more) 0 =
    ap (λ (l : List ℕ). slice_index l 0) (next_mark cs o m ms order.0 order.1) in
    elim (cases_lt o m.0) [
      | inl before ↦
          let at : slice_index (slice_range cs o m.0 ++ more) 0 ≡ slice_index cs o =
          get_or-append (slice_range cs o m.0) more 0 0 (omega arith)
          ∙ (get_or-between cs o m.0 0 0 (omega arith) ∙ ap (slice_index cs) (omega arith)) in
          ap is_digit (first ∙ at) ∙ none
      | inr behind ↦
          let at : slice_index (slice_range cs o m.0 ++ more) 0 ≡ 32 =
          get_or-append_right (slice_range cs o m.0) more 0 0 0 (omega arith) (omega arith) in
          ap is_digit (first ∙ at)
    ]
