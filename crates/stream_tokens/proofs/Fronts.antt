-- What was taken at the front of characters is their longest token.
use Rattle.std.proofs.Common.{◌≡◌, ◌≢◌, ◌==◌, Bool, ℕ, zero, suc, below_more, codes, ◌+◌, ◌<◌, ◌≤◌, ◌∙◌, inl, inr, List, [], ◌∷◌, ◌++◌, length, slice_index, true, false, arith, refl, sym, ap, subst, length-append, length-drop, drop}
use Rattle.ir_tokens.specs.declared.tokens.TokenKind.TheVariants.{Name, Dotted, Digits, Negative, Mark, Text, Sign, Arrow, InMemory, Bad}
use Rattle.ir_tokens.specs.Tokens.{is_letter, is_digit, is_name_char, is_sign, AreAllOfKind, ClosesText, IsInMemory, IsLongestToken}
use Rattle.ir_tokens.specs.Tokens.ClosesText.{closing, plain, escaped}
use Rattle.ir_tokens.proofs.TokenLongest.{goes_on, here, places, name_longest, dotted_longest, digits_longest, negative_longest, arrow_longest, lone_minus, mark_longest, lone_mark, text_longest, unclosed, sign_longest, in_memory_longest, in_memory_begins, in_memory_inside, begins_none, closes_inside, closes_escaped, closes_plain}
use Rattle.text_streams.specs.Positions.{left, LiesBehind}
use Rattle.text_streams.specs.declared.position.Position.{Position}
use Rattle.stream_tokens.specs.declared.scan.Scan.{Scan}
use Rattle.stream_tokens.specs.Lexemes.{Stands, TookOne, Ran, IsFront, Closed}

-- what was taken stands inside the characters
pub behind_inside : (from to : Position) (text : List ℕ) → LiesBehind from to text → length text ≤ length (left from)
behind_inside from to text h =
    let whole : length (left from) ≡ length (text ++ left to) = ap (λ (xs : List ℕ). length xs) h.taken in
    let both = length-append text (left to) in
    omega (arith, whole, both)

module _ (cs : List ℕ) where
  pub name_front : (n : ℕ) → n ≤ length cs → is_letter (slice_index cs 0) ≡ true → AreAllOfKind is_name_char cs 0 n
      → (n < length cs → is_name_char (slice_index cs n) ≡ false) → (slice_index cs n ≡ 46 → is_letter (slice_index cs (n + 1)) ≡ true → ⊥)
      → IsLongestToken cs 0 (Name, n)
  name_front n le letter runs stops no_dot =
      let begun = goes_on cs 0 n letter (omega arith) stops in
      record { inside = le; spelled = (begun, letter, runs); longest = name_longest cs 0 n letter begun runs stops no_dot }

  pub dotted_front : (dot n : ℕ) → n ≤ length cs → is_letter (slice_index cs 0) ≡ true → AreAllOfKind is_name_char cs 0 dot
      → (dot < length cs → is_name_char (slice_index cs dot) ≡ false) → slice_index cs dot ≡ 46 → is_letter (slice_index cs (dot + 1)) ≡ true
      → dot + 1 ≤ n → AreAllOfKind is_name_char cs (dot + 1) n → (n < length cs → is_name_char (slice_index cs n) ≡ false)
      → IsLongestToken cs 0 (Dotted, n)
  dotted_front dot n le letter first ends point second further runs stops =
      let begun = goes_on cs 0 dot letter (omega arith) ends in
      let more = goes_on cs (dot + 1) n second further stops in
      record {
        inside = le;
        spelled = (dot, (begun, letter, first), point, (more, second, runs));
        longest = dotted_longest cs 0 dot n letter begun first point more runs stops;
      }

  -- where a digit begins digits, their end lies behind it
  digits_on : (from to : ℕ) → is_digit (slice_index cs from) ≡ true → from ≤ to → (to < length cs → is_digit (slice_index cs to) ≡ false) → from < to
  digits_on from to digit le stops =
      let inside = here is_digit cs from refl digit in
      elim (places from to) [
        | inl before ↦ before
        | inr (inl at) ↦ (let no : is_digit (slice_index cs from) ≡ false = rw at (stops (omega (arith, at, inside))) in let t : true ≡ false = sym digit ∙ no in cc)
        | inr (inr behind) ↦ absurd (omega (arith, le, behind))
      ]

  pub digits_front : (n : ℕ) → n ≤ length cs → is_digit (slice_index cs 0) ≡ true → AreAllOfKind is_digit cs 0 n
      → (n < length cs → is_digit (slice_index cs n) ≡ false) → IsLongestToken cs 0 (Digits, n)
  digits_front n le digit runs stops =
      let begun = digits_on 0 n digit (omega arith) stops in
      record { inside = le; spelled = (begun, runs); longest = digits_longest cs 0 n digit begun stops }

  pub negative_front : (n : ℕ) → n ≤ length cs → slice_index cs 0 ≡ 45 → is_digit (slice_index cs 1) ≡ true → 1 ≤ n → AreAllOfKind is_digit cs 1 n
      → (n < length cs → is_digit (slice_index cs n) ≡ false) → IsLongestToken cs 0 (Negative, n)
  negative_front n le minus digit further runs stops =
      let begun = digits_on 1 n digit further stops in
      record { inside = le; spelled = (minus, (begun, runs)); longest = negative_longest cs 0 n minus (begun, runs) stops }

  pub arrow_front : 2 ≤ length cs → slice_index cs 0 ≡ 45 → slice_index cs 1 ≡ 62 → IsLongestToken cs 0 (Arrow, 2)
  arrow_front le minus greater = record { inside = le; spelled = (minus, greater, refl); longest = arrow_longest cs 0 minus greater }

  pub minus_front : slice_index cs 0 ≡ 45 → is_digit (slice_index cs 1) ≡ false → slice_index cs 1 ≢ 62 → IsLongestToken cs 0 (Bad, 0)
  minus_front minus digit greater = record { inside = omega arith; spelled = refl; longest = lone_minus cs 0 minus digit greater }

  pub mark_front : (n : ℕ) → n ≤ length cs → slice_index cs 0 ≡ 33 → is_digit (slice_index cs 1) ≡ true → 1 ≤ n → AreAllOfKind is_digit cs 1 n
      → (n < length cs → is_digit (slice_index cs n) ≡ false) → IsLongestToken cs 0 (Mark, n)
  mark_front n le sign digit further runs stops =
      let begun = digits_on 1 n digit further stops in
      record { inside = le; spelled = (sign, (begun, runs)); longest = mark_longest cs 0 n sign (omega (arith, begun)) stops }

  pub lone_mark_front : slice_index cs 0 ≡ 33 → is_digit (slice_index cs 1) ≡ false → IsLongestToken cs 0 (Bad, 0)
  lone_mark_front sign digit = record { inside = omega arith; spelled = refl; longest = lone_mark cs 0 sign digit }

  pub text_front : (n : ℕ) → n ≤ length cs → slice_index cs 0 ≡ 34 → ClosesText cs 1 n → IsLongestToken cs 0 (Text, n)
  text_front n le quote closes = record { inside = le; spelled = (quote, closes); longest = text_longest cs 0 n quote closes }

  pub unclosed_front : slice_index cs 0 ≡ 34 → ((j : ℕ) → j ≤ length cs → ClosesText cs 1 j → ⊥) → IsLongestToken cs 0 (Bad, 0)
  unclosed_front quote none = record { inside = omega arith; spelled = refl; longest = unclosed cs 0 quote none }

  pub sign_front : (c : ℕ) → 1 ≤ length cs → slice_index cs 0 ≡ c → is_sign c ≡ true → (IsInMemory cs 0 → ⊥) → IsLongestToken cs 0 (Sign c, 1)
  sign_front c le first sign other = record { inside = le; spelled = (sign, first, refl); longest = sign_longest cs 0 (ap is_sign first ∙ sign) other }

  pub in_memory_front : IsInMemory cs 0 → IsLongestToken cs 0 (InMemory, 11)
  in_memory_front found = record {
    inside = in_memory_inside cs 0 found;
    spelled = (found, refl);
    longest = in_memory_longest cs 0 (in_memory_begins cs 0 found);
  }

  pub no_front : is_letter (slice_index cs 0) ≡ false → is_digit (slice_index cs 0) ≡ false → is_sign (slice_index cs 0) ≡ false
      → slice_index cs 0 ≢ 45 → slice_index cs 0 ≢ 33 → slice_index cs 0 ≢ 34 → IsLongestToken cs 0 (Bad, 0)
  no_front letter digit sign minus mark quote = record { inside = omega arith; spelled = refl; longest = begins_none cs 0 letter digit minus mark quote sign }

-- ---- what was taken one after the other

-- where there is one more character, it was taken
pub surely_took : (old new : Scan) (took_it : Bool) → TookOne old new took_it → length old.text.items < length (left old.start) → length new.text.items ≡ length old.text.items + 1
surely_took old new true took lt = took.1
surely_took old new false took lt = (let same = took.1 in absurd (omega (arith, lt, same)))

-- what was taken stands inside the characters from another start that is this one
inside_of : (s : Scan) (start : Position) → s.start ≡ start → Stands s → length s.text.items ≤ length (left start)
inside_of s start same stands = subst (λ (p : Position). length s.text.items ≤ length (left p)) same (behind_inside s.start s.position s.text.items stands)

module _ (old : Scan) (empty : old.text.items ≡ []) where
  none : length old.text.items ≡ 0
  none = ap (λ (xs : List ℕ). length xs) empty

  -- from the first character on
  from_first : (p : ℕ → Bool) (m : ℕ) → AreAllOfKind p (left old.start) (length old.text.items) m → AreAllOfKind p (left old.start) 0 m
  from_first p m runs = subst (λ (n : ℕ). AreAllOfKind p (left old.start) n m) none runs

  pub number_front : (new : Scan) → Ran is_digit old new → is_digit (slice_index (left old.start) 0) ≡ true → IsFront old new Digits
  number_front new ran digit = record {
    start = ran.start;
    stands = ran.stands;
    longest = digits_front (left old.start) (length new.text.items) (inside_of new old.start ran.start ran.stands) digit (from_first is_digit (length new.text.items) ran.runs) ran.stops;
  }

  pub only_name_front : (new : Scan) → Ran is_name_char old new → is_letter (slice_index (left old.start) 0) ≡ true
      → (slice_index (left new.start) (length new.text.items) ≡ 46 → is_letter (slice_index (left new.start) (length new.text.items + 1)) ≡ true → ⊥) → IsFront old new Name
  only_name_front new ran letter no_dot = record {
    start = ran.start;
    stands = ran.stands;
    longest = name_front (left old.start) (length new.text.items) (inside_of new old.start ran.start ran.stands) letter (from_first is_name_char (length new.text.items) ran.runs) ran.stops
        (subst (λ (p : Position). slice_index (left p) (length new.text.items) ≡ 46 → is_letter (slice_index (left p) (length new.text.items + 1)) ≡ true → ⊥) ran.start no_dot);
  }

  -- after one character a run of such
  module _ (mid : Scan) (took_it : Bool) (start : mid.start ≡ old.start) (took : TookOne old mid took_it) (p : ℕ → Bool) (new : Scan) (ran : Ran p mid new) (more : 0 < length (left old.start)) where
    one : length mid.text.items ≡ 1
    one = let t = surely_took old mid took_it took (omega (arith, none, more)) in omega (arith, t, none)

    started : new.start ≡ old.start
    started = ran.start ∙ start

    runs_on : AreAllOfKind p (left old.start) 1 (length new.text.items)
    runs_on = subst (λ (q : Position). AreAllOfKind p (left q) 1 (length new.text.items)) start (subst (λ (n : ℕ). AreAllOfKind p (left mid.start) n (length new.text.items)) one ran.runs)

    stops_then : length new.text.items < length (left old.start) → p (slice_index (left old.start) (length new.text.items)) ≡ false
    stops_then = subst (λ (q : Position). length new.text.items < length (left q) → p (slice_index (left q) (length new.text.items)) ≡ false) start ran.stops

    further_on : 1 ≤ length new.text.items
    further_on = let f = ran.further in omega (arith, f, one)

  module _ (mid : Scan) (took_it : Bool) (start : mid.start ≡ old.start) (took : TookOne old mid took_it) (new : Scan) (ran : Ran is_digit mid new) (digit : is_digit (slice_index (left old.start) (length old.text.items + 1)) ≡ true) where
    digit_there : is_digit (slice_index (left old.start) 1) ≡ true
    digit_there = subst (λ (n : ℕ). is_digit (slice_index (left old.start) (n + 1)) ≡ true) none digit

    more : 0 < length (left old.start)
    more = let h = here is_digit (left old.start) 1 refl digit_there in omega (arith, h)

    pub minus_digits_front : slice_index (left old.start) 0 ≡ 45 → IsFront old new Negative
    minus_digits_front minus = record {
      start = started mid took_it start took is_digit new ran more;
      stands = ran.stands;
      longest = negative_front (left old.start) (length new.text.items) (inside_of new old.start (started mid took_it start took is_digit new ran more) ran.stands) minus digit_there
          (further_on mid took_it start took is_digit new ran more) (runs_on mid took_it start took is_digit new ran more) (stops_then mid took_it start took is_digit new ran more);
    }

    pub mark_digits_front : slice_index (left old.start) 0 ≡ 33 → IsFront old new Mark
    mark_digits_front sign = record {
      start = started mid took_it start took is_digit new ran more;
      stands = ran.stands;
      longest = mark_front (left old.start) (length new.text.items) (inside_of new old.start (started mid took_it start took is_digit new ran more) ran.stands) sign digit_there
          (further_on mid took_it start took is_digit new ran more) (runs_on mid took_it start took is_digit new ran more) (stops_then mid took_it start took is_digit new ran more);
    }

  -- one character more
  took_first : (mid : Scan) (took_it : Bool) → TookOne old mid took_it → 0 < length (left old.start) → length mid.text.items ≡ 1
  took_first mid took_it took more = let t = surely_took old mid took_it took (omega (arith, none, more)) in omega (arith, t, none)

  pub arrow_taken : (mid new : Scan) (took_it took_more : Bool) → mid.start ≡ old.start → TookOne old mid took_it → new.start ≡ mid.start → Stands new → TookOne mid new took_more
      → slice_index (left old.start) 0 ≡ 45 → slice_index (left old.start) (length old.text.items + 1) ≡ 62 → IsFront old new Arrow
  arrow_taken mid new took_it took_more start took start2 stands took2 minus second =
      let greater : slice_index (left old.start) 1 ≡ 62 = subst (λ (n : ℕ). slice_index (left old.start) (n + 1) ≡ 62) none second in
      let inside : 1 < length (left old.start) = here (λ c. c == 62) (left old.start) 1 refl (rw greater refl) in
      let first = took_first mid took_it took (omega (arith, inside)) in
      let inside2 : length mid.text.items < length (left mid.start) = subst (λ (p : Position). length mid.text.items < length (left p)) (sym start) (omega (arith, first, inside)) in
      let t = surely_took mid new took_more took2 inside2 in
      let two : length new.text.items ≡ 2 = omega (arith, t, first) in
      record {
        start = start2 ∙ start;
        stands = stands;
        longest = subst (λ (n : ℕ). IsLongestToken (left old.start) 0 (Arrow, n)) (sym two) (arrow_front (left old.start) (omega (arith, inside)) minus greater);
      }

  pub dotted_taken : (mid dot new : Scan) (took_it : Bool) → Ran is_name_char old mid → is_letter (slice_index (left old.start) 0) ≡ true
      → slice_index (left mid.start) (length mid.text.items) ≡ 46 → is_letter (slice_index (left mid.start) (length mid.text.items + 1)) ≡ true
      → dot.start ≡ mid.start → TookOne mid dot took_it → Ran is_name_char dot new → IsFront old new Dotted
  dotted_taken mid dot new took_it ran letter point second start took more =
      let cs = left old.start in
      let there : slice_index cs (length mid.text.items) ≡ 46 = subst (λ (p : Position). slice_index (left p) (length mid.text.items) ≡ 46) ran.start point in
      let next : is_letter (slice_index cs (length mid.text.items + 1)) ≡ true = subst (λ (p : Position). is_letter (slice_index (left p) (length mid.text.items + 1)) ≡ true) ran.start second in
      let inside : length mid.text.items + 1 < length cs = here is_letter cs (length mid.text.items + 1) refl next in
      let inside2 : length mid.text.items < length (left mid.start) = subst (λ (p : Position). length mid.text.items < length (left p)) (sym ran.start) (omega (arith, inside)) in
      let t : length dot.text.items ≡ length mid.text.items + 1 = surely_took mid dot took_it took inside2 in
      let all : new.start ≡ old.start = more.start ∙ (start ∙ ran.start) in
      let from : dot.start ≡ old.start = start ∙ ran.start in
      let further : length mid.text.items + 1 ≤ length new.text.items = (let f = more.further in omega (arith, f, t)) in
      let runs : AreAllOfKind is_name_char cs (length mid.text.items + 1) (length new.text.items) =
      subst (λ (n : ℕ). AreAllOfKind is_name_char cs n (length new.text.items)) t (subst (λ (p : Position). AreAllOfKind is_name_char (left p) (length dot.text.items) (length new.text.items)) from more.runs) in
      let stops : length new.text.items < length cs → is_name_char (slice_index cs (length new.text.items)) ≡ false =
      subst (λ (p : Position). length new.text.items < length (left p) → is_name_char (slice_index (left p) (length new.text.items)) ≡ false) from more.stops in
      record {
        start = all;
        stands = more.stands;
        longest = dotted_front cs (length mid.text.items) (length new.text.items) (inside_of new old.start all more.stands) letter (from_first is_name_char (length mid.text.items) ran.runs) ran.stops there next further runs stops;
      }

  pub text_taken : (mid new : Scan) (took_it : Bool) → slice_index (left old.start) 0 ≡ 34 → mid.start ≡ old.start → TookOne old mid took_it → Closed mid new true → IsFront old new Text
  text_taken mid new took_it quote start took closed =
      let cs = left old.start in
      let inside : 0 < length cs = here (λ c. c == 34) cs 0 refl (rw quote refl) in
      let first = took_first mid took_it took inside in
      let all : new.start ≡ old.start = closed.start ∙ start in
      let closes : ClosesText cs 1 (length new.text.items) = subst (λ (p : Position). ClosesText (left p) 1 (length new.text.items)) start (subst (λ (n : ℕ). ClosesText (left mid.start) n (length new.text.items)) first closed.closes) in
      record { start = all; stands = closed.stands; longest = text_front cs (length new.text.items) (inside_of new old.start all closed.stands) quote closes }

  pub sign_taken : (mid : Scan) (took_it : Bool) (c : ℕ) → mid.start ≡ old.start → Stands mid → TookOne old mid took_it → slice_index (left old.start) 0 ≡ c → is_sign c ≡ true
      → (IsInMemory (left old.start) 0 → ⊥) → IsFront old mid (Sign c)
  sign_taken mid took_it c start stands took first sign other =
      let inside : 0 < length (left old.start) = here is_sign (left old.start) 0 refl (ap is_sign first ∙ sign) in
      let one = took_first mid took_it took inside in record {
        start = start;
        stands = stands;
        longest = subst (λ (n : ℕ). IsLongestToken (left old.start) 0 (Sign c, n)) (sym one) (sign_front (left old.start) c (omega (arith, inside)) first sign other);
      }

pub in_memory_taken : (old new : Scan) → new.start ≡ old.start → Stands new → length new.text.items ≡ 11 → IsInMemory (left old.start) 0 → IsFront old new InMemory
in_memory_taken old new start stands eleven found = record {
  start = start;
  stands = stands;
  longest = subst (λ (n : ℕ). IsLongestToken (left old.start) 0 (InMemory, n)) (sym eleven) (in_memory_front (left old.start) found);
}

-- ---- `<in-memory>`

pub in_memory_ends : (cs : List ℕ) (k : ℕ) → IsInMemory cs 0 → k < 11 → drop k cs ≡ [] → ⊥
in_memory_ends cs k found lt e =
    let inside = in_memory_inside cs 0 found in
    let none : length (drop k cs) ≡ 0 = ap (λ (xs : List ℕ). length xs) e in
    let left_over = length-drop k cs in
    omega (arith, inside, lt, none, left_over)

-- the first character of what is left behind some
pub first_dropped : (cs rest : List ℕ) (k c : ℕ) → drop k cs ≡ c ∷ rest → slice_index cs k ≡ c
first_dropped [] rest zero c e = cc
first_dropped [] rest (suc k) c e = cc
first_dropped (x ∷ xs) rest zero c e = cc
first_dropped (x ∷ xs) rest (suc k) c e = first_dropped xs rest k c e

pub rest_dropped : (cs rest : List ℕ) (k c : ℕ) → drop k cs ≡ c ∷ rest → drop (suc k) cs ≡ rest
rest_dropped [] rest zero c e = cc
rest_dropped [] rest (suc k) c e = cc
rest_dropped (x ∷ xs) rest zero c e = cc
rest_dropped (x ∷ xs) rest (suc k) c e = rest_dropped xs rest k c e

pub in_memory_other : (cs rest : List ℕ) (k c : ℕ) → IsInMemory cs 0 → k < 11 → drop k cs ≡ c ∷ rest → c ≢ slice_index (codes "<in-memory>") k → ⊥
in_memory_other cs rest k c found lt e other =
    let at : slice_index cs k ≡ c = first_dropped cs rest k c e in
    other (sym at ∙ (let zero_more : 0 + k ≡ k = omega arith in subst (λ (n : ℕ). slice_index cs n ≡ slice_index (codes "<in-memory>") k) zero_more (found k lt)))

pub in_memory_more : (cs rest : List ℕ) (k c : ℕ) → drop k cs ≡ c ∷ rest → c ≡ slice_index (codes "<in-memory>") k
    → ((n : ℕ) → n < k → slice_index cs n ≡ slice_index (codes "<in-memory>") n)
    → (rest ≡ drop (k + 1) cs) × ((n : ℕ) → n < k + 1 → slice_index cs n ≡ slice_index (codes "<in-memory>") n)
in_memory_more cs rest k c e same before = (
  (let more : k + 1 ≡ suc k = omega arith in rw more (sym (rest_dropped cs rest k c e))),
  below_more _ _ before (first_dropped cs rest k c e ∙ same),
)

-- ---- the end of a text

-- Scanning has come from the first of two on to the second, and a text closes from both at the same places.
abbrev pub ClosesSo : Scan → Scan → Type 0
ClosesSo first now = (now.start ≡ first.start) × Stands now
    × ((j : ℕ) → ClosesText (left first.start) (length now.text.items) j → ClosesText (left first.start) (length first.text.items) j)
    × ((j : ℕ) → ClosesText (left first.start) (length first.text.items) j → ClosesText (left first.start) (length now.text.items) j)

module _ (first now : Scan) (so : ClosesSo first now) where
  char_at : (c : ℕ) → c ≡ slice_index (left now.start) (length now.text.items) → slice_index (left first.start) (length now.text.items) ≡ c
  char_at c e = sym (subst (λ (p : Position). c ≡ slice_index (left p) (length now.text.items)) so.0 e)

  pub closes_nowhere : (new : Scan) → TookOne now new false → Closed first new false
  closes_nowhere new took =
      let cs = left first.start in
      let end : length cs ≡ length now.text.items = subst (λ (p : Position). length (left p) ≡ length now.text.items) so.0 took.1 in
      record {
        start = ap (λ (s : Scan). s.start) took.0 ∙ so.0;
        stands = subst Stands (sym took.0) so.1;
        closes = λ j le h. closes_inside cs (length now.text.items) j (omega (arith, end)) le (so.3 j h);
      }

  pub closes_here : (new : Scan) → TookOne now new true → new.start ≡ now.start → Stands new → 34 ≡ slice_index (left now.start) (length now.text.items) → Closed first new true
  closes_here new took start stands e = record {
    start = start ∙ so.0;
    stands = stands;
    closes = so.2 (length new.text.items) (closing (char_at 34 e) took.1);
  }

  pub escapes_nothing : (mid new : Scan) → TookOne now mid true → mid.start ≡ now.start → Stands mid → TookOne mid new false → 92 ≡ slice_index (left now.start) (length now.text.items) → Closed first new false
  escapes_nothing mid new took start stands took2 e =
      let cs = left first.start in
      let one : length mid.text.items ≡ length now.text.items + 1 = took.1 in
      let end : length cs ≡ length mid.text.items = subst (λ (p : Position). length (left p) ≡ length mid.text.items) (start ∙ so.0) took2.1 in
      record {
        start = ap (λ (s : Scan). s.start) took2.0 ∙ (start ∙ so.0);
        stands = subst Stands (sym took2.0) stands;
        closes = λ j le h. closes_inside cs (length now.text.items + 2) j (omega (arith, end, one)) le (closes_escaped cs (length now.text.items) (char_at 92 e) j (so.3 j h));
      }

  pub goes_plain : (c : ℕ) (new : Scan) → TookOne now new true → new.start ≡ now.start → Stands new → c ≡ slice_index (left now.start) (length now.text.items) → c ≢ 34 → c ≢ 92 → ClosesSo first new
  goes_plain c new took start stands e no_quote no_escape =
      let cs = left first.start in
      let at = char_at c e in
      let quote : slice_index cs (length now.text.items) ≢ 34 = λ h. no_quote (sym at ∙ h) in
      let escape : slice_index cs (length now.text.items) ≢ 92 = λ h. no_escape (sym at ∙ h) in (
        start ∙ so.0,
        stands,
        (λ j h. so.2 j (plain quote escape took.1 h)),
        (λ j h. subst (λ (n : ℕ). ClosesText cs n j) (sym took.1) (closes_plain cs (length now.text.items) quote escape j (so.3 j h))),
      )

  pub goes_escaped : (mid new : Scan) → TookOne now mid true → mid.start ≡ now.start → TookOne mid new true → new.start ≡ mid.start → Stands new → 92 ≡ slice_index (left now.start) (length now.text.items) → ClosesSo first new
  goes_escaped mid new took start took2 start2 stands e =
      let cs = left first.start in
      let at = char_at 92 e in
      let one : length mid.text.items ≡ length now.text.items + 1 = took.1 in
      let two : length new.text.items ≡ length mid.text.items + 1 = took2.1 in
      let both : length new.text.items ≡ length now.text.items + 2 = omega (arith, one, two) in (
        start2 ∙ (start ∙ so.0),
        stands,
        (λ j h. so.2 j (escaped at both h)),
        (λ j h. subst (λ (n : ℕ). ClosesText cs n j) (sym both) (closes_escaped cs (length now.text.items) at j (so.3 j h))),
      )

-- taking in `<in-memory>` comes to no end
pub in_memory_goes_on : (old now new : Scan) → now.start ≡ old.start → length now.text.items < 11 → TookOne now new false → IsInMemory (left old.start) 0 → ⊥
in_memory_goes_on old now new start few took found =
    let inside = in_memory_inside (left old.start) 0 found in
    let end : length (left old.start) ≡ length now.text.items = subst (λ (p : Position). length (left p) ≡ length now.text.items) start took.1 in
    omega (arith, inside, end, few)

-- what begins no token
pub bad_front : (old : Scan) → old.text.items ≡ [] → Stands old → (c : ℕ) → slice_index (left old.start) 0 ≡ c
    → false ≡ is_letter c → false ≡ is_digit c → false ≡ is_sign c → c ≢ 45 → c ≢ 33 → c ≢ 34 → IsFront old old Bad
bad_front old empty stands c at letter digit sign minus mark quote =
    let cs = left old.start in
    let none_taken : length old.text.items ≡ 0 = ap (λ (xs : List ℕ). length xs) empty in record {
      start = refl;
      stands = stands;
      longest = subst (λ (n : ℕ). IsLongestToken cs 0 (Bad, n)) (sym none_taken)
          (no_front cs (ap is_letter at ∙ sym letter) (ap is_digit at ∙ sym digit) (ap is_sign at ∙ sym sign) (λ h. minus (sym at ∙ h)) (λ h. mark (sym at ∙ h)) (λ h. quote (sym at ∙ h)));
    }
