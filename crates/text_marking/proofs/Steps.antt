-- The steps of taking marks.
use Rattle.std.proofs.Common.{Bool, ◌≡◌, ◌≢◌, ℕ, ◌+◌, ◌-◌, ◌<◌, ◌≤◌, inl, inr, List, [], ◌∷◌, ◌++◌, length, slice_index, true, false, ◌||◌, arith, refl, sym, ◌∙◌, ap, take, drop, append_assoc, append-nil, length-append, subst}
use Rattle.std.specs.Prelude.{if◌then◌else◌, replicate, slice_range}
use Rattle.std.specs.Char.{is_whitespace}
use Rattle.std.proofs.Math.Bool.{or-false}
use Rattle.std.proofs.Math.ListN.{get_or-append}
use Rattle.std.proofs.lemmas.Bool.{cases_lt, cases_Bool, or_cases}
use Rattle.std.proofs.lemmas.List.{ext_get_or, length-take-le, get_or-take, get_or-drop, get_or-replicate, get_or-append_right, length-drop, length-replicate}
use Rattle.std.proofs.lemmas.List.Edits.{get_or-between, length-between}
use Rattle.std.proofs.lemmas.List.Folds.{list_any-append}
use Rattle.ir_characters.specs.Texts.{owned_codes}
use Rattle.ir_tokens.specs.declared.tokens.TokenKind.{TokenKind}
use Rattle.ir_tokens.specs.declared.tokens.TokenKind.TheVariants.{Bad}
use Rattle.ir_tokens.specs.declared.tokens.Token.{Token}
use Rattle.ir_tokens.specs.Tokens.{AreAllOfKind, AreDigits, is_digit, IsToken, ReadsAs, Spells}
use Rattle.ir_tokens.proofs.TokenUnique.{one_reading_lem}
use Rattle.ir_tokens.proofs.TokenSteps.{gap_more, spells_after, token_more}
use Rattle.text_marking.specs.declared.taking.Mark.{Mark}
use Rattle.text_marking.specs.declared.taking.MarkedText.{MarkedText}
use Rattle.text_marking.specs.declared.taking.Taking.{Taking}
use Rattle.text_marking.specs.Marks.{blanked, is_mark, mark_of, marks_behind, marks_of, without_marks}
use Rattle.text_marking.specs.Taking.{HasTaken, IsBare, is_in_mark, TakesMarks}
use Rattle.text_marking.proofs.Moved.{spells_from}
use Rattle.text_marking.proofs.Separated.{AreBlanked, bad_is_last, characters_stay, hits, hits_behind, mark_kind, not_before, not_behind, not_marked, others_stay, within}

-- ---- spaces in a text

blanked_front : (cs : List ℕ) (i j k : ℕ) → i ≤ j → j ≤ length cs → k < i → slice_index (blanked cs i j) k ≡ slice_index cs k
blanked_front cs i j k le inside lt =
    let many = length-take-le i cs (omega arith) in
    get_or-append (take i cs) (replicate (j - i) 32 ++ drop j cs) 0 k (omega arith) ∙ get_or-take i cs k 0 lt

blanked_within : (cs : List ℕ) (i j k : ℕ) → i ≤ j → j ≤ length cs → i ≤ k → k < j → slice_index (blanked cs i j) k ≡ 32
blanked_within cs i j k le inside lo hi =
    let many = length-take-le i cs (omega arith) in
    let spaces = length-replicate {A = ℕ} (j - i) 32 in
    get_or-append_right (take i cs) (replicate (j - i) 32 ++ drop j cs) i k 0 many lo
    ∙ (get_or-append (replicate (j - i) 32) (drop j cs) 0 (k - i) (omega arith)
    ∙ get_or-replicate (j - i) (k - i) 32 0 (omega arith))

blanked_behind : (cs : List ℕ) (i j k : ℕ) → i ≤ j → j ≤ length cs → j ≤ k → slice_index (blanked cs i j) k ≡ slice_index cs k
blanked_behind cs i j k le inside lo =
    let many = length-take-le i cs (omega arith) in
    let spaces = length-replicate {A = ℕ} (j - i) 32 in
    let at : j + (k - i - (j - i)) ≡ k = omega arith in
    get_or-append_right (take i cs) (replicate (j - i) 32 ++ drop j cs) i k 0 many (omega arith)
    ∙ (get_or-append_right (replicate (j - i) 32) (drop j cs) (j - i) (k - i) 0 spaces (omega arith)
    ∙ (get_or-drop j cs (k - i - (j - i)) 0 ∙ ap (slice_index cs) at))

blanked_long : (cs : List ℕ) (i j : ℕ) → i ≤ j → j ≤ length cs → length (blanked cs i j) ≡ length cs
blanked_long cs i j le inside =
    let many = length-take-le i cs (omega arith) in
    let spaces = length-replicate {A = ℕ} (j - i) 32 in
    let rest = length-drop j cs in
    let all = length-append (take i cs) (replicate (j - i) 32 ++ drop j cs) in
    let behind = length-append (replicate (j - i) 32) (drop j cs) in
    omega arith

-- ---- the bare text of some first tokens

-- a place is in a mark of some tokens or of one more
in_mark_more : (ts : List Token) (t : Token) (k : ℕ) → is_in_mark (ts ++ t ∷ []) k ≡ (is_in_mark ts k || hits k t)
in_mark_more ts t k = list_any-append (hits k) ts (t ∷ []) ∙ ap (λ b. is_in_mark ts k || b) (or-false (hits k t))

neither : (a b : Bool) → (a || b) ≡ false → (a ≡ false) × (b ≡ false)
neither true b e = cc
neither false b e = (refl, e)

both_ways : (b : Bool) → b ≡ true → b ≡ false → ⊥
both_ways b holds fails = let t : true ≡ false = sym holds ∙ fails in cc

bare_other : (cs : List ℕ) (ts : List Token) (t : Token) (bare : List ℕ) → is_mark t.kind ≡ false → IsBare cs ts bare → IsBare cs (ts ++ t ∷ []) bare
bare_other cs ts t bare other h = record {
  long = h.long;
  in_marks = λ k e. elim (or_cases (is_in_mark ts k) (hits k t) (sym (in_mark_more ts t k) ∙ e)) [
    | inl before ↦ h.in_marks k before
    | inr here ↦ absurd (both_ways (hits k t) here (not_marked t k other))
  ];
  elsewhere = λ k e. h.elsewhere k (neither (is_in_mark ts k) (hits k t) (sym (in_mark_more ts t k) ∙ e)).0;
}

-- a place is before a token, in it or behind it
bare_mark : (cs : List ℕ) (ts : List Token) (t : Token) (bare bare' : List ℕ) → is_mark t.kind ≡ true → t.start ≤ t.end → t.end ≤ length bare
    → bare' ≡ blanked bare t.start t.end → IsBare cs ts bare → IsBare cs (ts ++ t ∷ []) bare'
bare_mark cs ts t bare bare' marked le inside is h =
    let at : (k : ℕ) → slice_index bare' k ≡ slice_index (blanked bare t.start t.end) k = λ k. ap (λ (bs : List ℕ). slice_index bs k) is in
    let stays : (k : ℕ) → hits k t ≡ false → slice_index bare' k ≡ slice_index bare k =
    λ k miss. elim (cases_lt k t.start) [
      | inl before ↦ at k ∙ blanked_front bare t.start t.end k le inside before
      | inr from ↦ elim (cases_lt k t.end) [
        | inl to ↦ absurd (both_ways (hits k t) (within t k marked from to) miss)
        | inr behind ↦ at k ∙ blanked_behind bare t.start t.end k le inside behind
      ]
    ] in
    let spaces : (k : ℕ) → hits k t ≡ true → slice_index bare' k ≡ 32 =
    λ k hit. elim (cases_lt k t.start) [
      | inl before ↦ absurd (both_ways (hits k t) hit (not_before t k before))
      | inr from ↦ elim (cases_lt k t.end) [
        | inl to ↦ at k ∙ blanked_within bare t.start t.end k le inside from to
        | inr behind ↦ absurd (both_ways (hits k t) hit (not_behind t k behind))
      ]
    ] in
    record {
      long = ap length is ∙ (blanked_long bare t.start t.end le inside ∙ h.long);
      in_marks = λ k e. elim (cases_Bool (hits k t)) [
        | inl hit ↦ spaces k hit
        | inr miss ↦ stays k miss ∙ elim (or_cases (is_in_mark ts k) (hits k t) (sym (in_mark_more ts t k) ∙ e)) [
          | inl before ↦ h.in_marks k before
          | inr here ↦ absurd (both_ways (hits k t) here miss)
        ]
      ];
      elsewhere = λ k e.
          let no = neither (is_in_mark ts k) (hits k t) (sym (in_mark_more ts t k) ∙ e) in
          stays k no.1 ∙ h.elsewhere k no.0;
    }

-- ---- the marks of some first tokens

others_more : (ts : List Token) (t : Token) → is_mark t.kind ≡ false → length (without_marks (ts ++ t ∷ [])) ≡ length (without_marks ts) + 1
others_more [] t other = rw other refl
others_more (u ∷ ts) t other = by (is_mark u.kind) (others_more ts t other)
  where
    by : (b : Bool) → length (without_marks (ts ++ t ∷ [])) ≡ length (without_marks ts) + 1
        → length (if b then without_marks (ts ++ t ∷ []) else u ∷ without_marks (ts ++ t ∷ [])) ≡ length (if b then without_marks ts else u ∷ without_marks ts) + 1
    by true e = e
    by false e = omega arith

others_same : (ts : List Token) (t : Token) → is_mark t.kind ≡ true → without_marks (ts ++ t ∷ []) ≡ without_marks ts
others_same [] t marked = rw marked refl
others_same (u ∷ ts) t marked = by (is_mark u.kind) (others_same ts t marked)
  where
    by : (b : Bool) → without_marks (ts ++ t ∷ []) ≡ without_marks ts
        → (if b then without_marks (ts ++ t ∷ []) else u ∷ without_marks (ts ++ t ∷ [])) ≡ (if b then without_marks ts else u ∷ without_marks ts)
    by true e = e
    by false e = ap (λ (us : List Token). u ∷ us) e

marks_same : (cs : List ℕ) (n : ℕ) (ts : List Token) (t : Token) → is_mark t.kind ≡ false → marks_behind cs n (ts ++ t ∷ []) ≡ marks_behind cs n ts
marks_same cs n [] t other = rw other refl
marks_same cs n (u ∷ ts) t other = by (is_mark u.kind) (marks_same cs n ts t other) (marks_same cs (n + 1) ts t other)
  where
    by : (b : Bool) → marks_behind cs n (ts ++ t ∷ []) ≡ marks_behind cs n ts → marks_behind cs (n + 1) (ts ++ t ∷ []) ≡ marks_behind cs (n + 1) ts
        → (if b then mark_of cs n u ∷ marks_behind cs n (ts ++ t ∷ []) else marks_behind cs (n + 1) (ts ++ t ∷ []))
        ≡ (if b then mark_of cs n u ∷ marks_behind cs n ts else marks_behind cs (n + 1) ts)
    by true e f = ap (λ (ms : List Mark). mark_of cs n u ∷ ms) e
    by false e f = f

marks_more : (cs : List ℕ) (n m : ℕ) (ts : List Token) (t : Token) → is_mark t.kind ≡ true → m ≡ n + length (without_marks ts)
    → marks_behind cs n (ts ++ t ∷ []) ≡ marks_behind cs n ts ++ mark_of cs m t ∷ []
marks_more cs n m [] t marked is = let one : n ≡ m = omega arith in rw (marked, one) refl
marks_more cs n m (u ∷ ts) t marked is =
    by (is_mark u.kind) is (λ e. marks_more cs n m ts t marked e) (λ e. marks_more cs (n + 1) m ts t marked e)
  where
    by : (b : Bool) → m ≡ n + length (if b then without_marks ts else u ∷ without_marks ts)
        → (m ≡ n + length (without_marks ts) → marks_behind cs n (ts ++ t ∷ []) ≡ marks_behind cs n ts ++ mark_of cs m t ∷ [])
        → (m ≡ (n + 1) + length (without_marks ts) → marks_behind cs (n + 1) (ts ++ t ∷ []) ≡ marks_behind cs (n + 1) ts ++ mark_of cs m t ∷ [])
        → (if b then mark_of cs n u ∷ marks_behind cs n (ts ++ t ∷ []) else marks_behind cs (n + 1) (ts ++ t ∷ []))
        ≡ (if b then mark_of cs n u ∷ marks_behind cs n ts else marks_behind cs (n + 1) ts) ++ mark_of cs m t ∷ []
    by true is e f = ap (λ (ms : List Mark). mark_of cs n u ∷ ms) (e is)
    by false is e f = f (omega arith)

-- ---- one token more

-- a token that is no mark
pub taken_other : (cs : List ℕ) (ts : List Token) (t : Token) (s s' : Taking) → is_mark t.kind ≡ false → s'.taken ≡ s.taken → s'.others ≡ s.others + 1
    → HasTaken cs ts s → HasTaken cs (ts ++ t ∷ []) s'
taken_other cs ts t s s' other same more h =
    let others : s.others ≡ length (without_marks ts) = h.others in
    let count = others_more ts t other in
    record {
      marks = ap (λ (m : MarkedText). m.marks.items) same ∙ (h.marks ∙ sym (marks_same cs 0 ts t other));
      others = omega arith;
      bare = rw same (bare_other cs ts t (owned_codes s.taken.bare) other h.bare);
    }

-- a mark
pub taken_mark : (cs : List ℕ) (ts : List Token) (t : Token) (s s' : Taking) → is_mark t.kind ≡ true → IsToken cs t
    → owned_codes s'.taken.bare ≡ blanked (owned_codes s.taken.bare) t.start t.end → s'.taken.marks.items ≡ s.taken.marks.items ++ mark_of cs s.others t ∷ []
    → s'.others ≡ s.others → HasTaken cs ts s → HasTaken cs (ts ++ t ∷ []) s'
taken_mark cs ts t s s' marked token bare marks same h =
    let others : s.others ≡ length (without_marks ts) = h.others in
    let long : length (owned_codes s.taken.bare) ≡ length cs = h.bare.long in
    let inside : t.end ≤ length cs = token.inside in
    record {
      marks = marks ∙ (ap (λ (ms : List Mark). ms ++ mark_of cs s.others t ∷ []) h.marks ∙ sym (marks_more cs 0 s.others ts t marked (omega arith)));
      others = same ∙ (others ∙ sym (ap length (others_same ts t marked)));
      bare = bare_mark cs ts t (owned_codes s.taken.bare) (owned_codes s'.taken.bare) marked (spells_from cs t.start t.end t.kind token.spelled)
          (omega arith) bare h.bare;
    }

-- ---- the loop

-- Up to this place the text is cut into tokens, none of which is bad, and the marks among them are taken.
pub record Separating (cs : List ℕ) (at : ℕ) (s : Taking) : Type 0 where
  pub done : List Token
  pub inside : at ≤ length cs
  pub reads : (more : List Token) → ReadsAs cs at more → ReadsAs cs 0 (done ++ more)
  pub taken : HasTaken cs done s
  pub few : s.others ≤ at

pub separating_none : (cs : List ℕ) (s : Taking) → HasTaken cs [] s → Separating cs 0 s
separating_none cs s h =
    let none : s.others ≡ 0 = h.others in
    record { done = []; inside = omega arith; reads = λ more r. r; taken = h; few = omega arith }

pub separating_gap : (cs : List ℕ) (at : ℕ) (s : Taking) → at < length cs → is_whitespace (slice_index cs at) ≡ true → Separating cs at s
    → Separating cs (at + 1) s
separating_gap cs at s lt white h =
    let few : s.others ≤ at = h.few in
    record {
      done = h.done;
      inside = omega arith;
      reads = λ more r. h.reads more (gap_more cs at more white r);
      taken = h.taken;
      few = omega arith;
    }

pub separating_more : (cs : List ℕ) (at : ℕ) (t : Token) (s s' : Taking) → t.start ≡ at → IsToken cs t → t.kind ≢ Bad → s'.others ≤ s.others + 1
    → ((ts : List Token) → HasTaken cs ts s → HasTaken cs (ts ++ t ∷ []) s') → Separating cs at s → Separating cs t.end s'
separating_more cs at t s s' begins token good count step h =
    let few : s.others ≤ at = h.few in
    let some : t.start < t.end = spells_after cs t.start t.end t.kind token.spelled good in
    record {
      done = h.done ++ t ∷ [];
      inside = token.inside;
      reads = λ more r. rw append_assoc (h.reads (t ∷ more) (token_more cs at t more begins token good r));
      taken = step h.done h.taken;
      few = omega arith;
    }

-- ---- all tokens

takes_all : (cs : List ℕ) (ts : List Token) (s : Taking) → ReadsAs cs 0 ts → HasTaken cs ts s → TakesMarks cs s.taken
takes_all cs ts s reads h =
    let blank : AreBlanked cs (owned_codes s.taken.bare) 0 ts =
    record { long = h.bare.long; in_marks = λ k lo e. h.bare.in_marks k e; elsewhere = λ k lo e. h.bare.elsewhere k e } in
    record {
      tokens = ts;
      reads = reads;
      marks = h.marks;
      bare = h.bare;
      others = others_stay cs (owned_codes s.taken.bare) 0 ts reads blank;
      characters = characters_stay cs (owned_codes s.taken.bare) 0 ts reads blank;
    }

-- at the end of the text
pub takes_at_end : (cs : List ℕ) (at : ℕ) (s : Taking) → length cs ≤ at → Separating cs at s → TakesMarks cs s.taken
takes_at_end cs at s past h =
    takes_all cs h.done s (rw append-nil at (h.reads [] (λ k lo hi. absurd (omega arith)))) h.taken

-- at a bad token
pub takes_at_bad : (cs : List ℕ) (at : ℕ) (t : Token) (s s' : Taking) → t.start ≡ at → IsToken cs t → t.kind ≡ Bad
    → ((ts : List Token) → HasTaken cs ts s → HasTaken cs (ts ++ t ∷ []) s') → Separating cs at s → TakesMarks cs s'.taken
takes_at_bad cs at t s s' begins token bad step h =
    takes_all cs (h.done ++ t ∷ []) s'
    (h.reads (t ∷ []) (omega arith, (λ k lo hi. absurd (omega arith)), token, bad_is_last t.kind _ _ bad refl)) (step h.done h.taken)

-- where no marks are there, no place is in one
none_marked : (cs : List ℕ) (n : ℕ) (ts : List Token) → marks_behind cs n ts ≡ [] → (k : ℕ) → is_in_mark ts k ≡ false
none_marked cs n [] none k = refl
none_marked cs n (t ∷ ts) none k =
    elim (cases_Bool (is_mark t.kind)) [
      | inl marked ↦ let no : mark_of cs n t ∷ marks_behind cs n ts ≡ [] = rw marked at none in cc
      | inr other ↦
          let rest : marks_behind cs (n + 1) ts ≡ [] = rw other at none in
          hits_behind t ts k (not_marked t k other) ∙ none_marked cs (n + 1) ts rest k
    ]

-- then the bare text is the text
pub unmarked_stays : (cs : List ℕ) (m : MarkedText) → TakesMarks cs m → m.marks.items ≡ [] → owned_codes m.bare ≡ cs
unmarked_stays cs m h none =
    ext_get_or 0 (owned_codes m.bare) cs h.bare.long
    (λ k lt. h.bare.elsewhere k (none_marked cs 0 h.tokens (sym h.marks ∙ none) k))

-- ---- the digits of a mark

mark_spells : (cs : List ℕ) (i j : ℕ) (k : TokenKind) → is_mark k ≡ true → Spells cs i j k → AreDigits cs (i + 1) j
mark_spells cs i j k marked s = (rw (mark_kind k marked) at s).1

-- they are digits
pub mark_digits : (cs : List ℕ) (t : Token) (ds : List ℕ) → is_mark t.kind ≡ true → IsToken cs t → ds ≡ slice_range cs (t.start + 1) t.end
    → AreAllOfKind is_digit ds 0 (length ds)
mark_digits cs t ds marked token is k lo hi =
    let digits = mark_spells cs t.start t.end t.kind marked token.spelled in
    let many : length ds ≡ t.end - (t.start + 1) = ap length is ∙ length-between cs (t.start + 1) t.end token.inside in
    let at : slice_index ds k ≡ slice_index cs (t.start + 1 + k) =
    ap (λ (xs : List ℕ). slice_index xs k) is ∙ get_or-between cs (t.start + 1) t.end k 0 (omega arith) in
    ap is_digit at ∙ digits.1 (t.start + 1 + k) (omega arith) (omega arith)

-- ---- one answer

-- a text with these tokens has one bare text
bare_once : (cs : List ℕ) (ts : List Token) (bs ds : List ℕ) → IsBare cs ts bs → IsBare cs ts ds → bs ≡ ds
bare_once cs ts bs ds h g = ext_get_or 0 bs ds (h.long ∙ sym g.long) (λ k lt. elim (cases_Bool (is_in_mark ts k)) [
  | inl e ↦ h.in_marks k e ∙ sym (g.in_marks k e)
  | inr e ↦ h.elsewhere k e ∙ sym (g.elsewhere k e)
])

-- and one list of marks
pub one_bare : (cs : List ℕ) (a b : MarkedText) → TakesMarks cs a → TakesMarks cs b → (owned_codes a.bare ≡ owned_codes b.bare) × (a.marks.items ≡ b.marks.items)
one_bare cs a b h g =
    let same : h.tokens ≡ g.tokens = one_reading_lem cs 0 h.tokens g.tokens h.reads g.reads in (
      bare_once cs g.tokens (owned_codes a.bare) (owned_codes b.bare)
          (subst (λ (ts : List Token). IsBare cs ts (owned_codes a.bare)) same h.bare) g.bare,
      h.marks ∙ (ap (marks_of cs) same ∙ sym g.marks),
    )
