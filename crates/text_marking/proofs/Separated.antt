-- A text without its marks has the other tokens.
use Rattle.std.proofs.Common.{Bool, ◌≡◌, ◌≢◌, ℕ, ◌<◌, ◌≤◌, ◌⊎◌, inl, inr, List, [], ◌∷◌, length, map, slice_index, true, false, ◌&&◌, ◌||◌, arith, refl, sym, ◌∙◌, ap}
use Rattle.std.specs.Prelude.{if◌then◌else◌, nat_le, nat_lt}
use Rattle.std.specs.Char.{is_whitespace}
use Rattle.std.proofs.lemmas.Bool.{cases_lt, cases_Bool, and_left, and_right, and_from, le-leb, lt-leb, lt-ltb, le-ltb}
use Rattle.ir_tokens.specs.declared.tokens.TokenKind.{TokenKind}
use Rattle.ir_tokens.specs.declared.tokens.TokenKind.TheVariants.{Name, Dotted, Digits, Negative, Mark, Text, Sign, Arrow, InMemory, Bad}
use Rattle.ir_tokens.specs.declared.tokens.Token.{Token}
use Rattle.ir_tokens.specs.Tokens.{IsGap, IsToken, LastIfBad, ReadsAs}
use Rattle.ir_tokens.proofs.TokenSteps.{spells_after}
use Rattle.text_marking.specs.Marks.{is_mark, token_characters, without_marks}
use Rattle.text_marking.specs.Taking.{is_in_mark}
use Rattle.text_marking.proofs.Moved.{spells_from, token_to_end, token_before_space, part_moved}

-- ---- kinds

-- what holds behind a token that isn't bad, or that none is behind a bad one
pub last_or_more : (k : TokenKind) {p q : Type 0} → LastIfBad k p q → p ⊎ q
last_or_more Name h = inr h
last_or_more Dotted h = inr h
last_or_more Digits h = inr h
last_or_more Negative h = inr h
last_or_more Mark h = inr h
last_or_more Text h = inr h
last_or_more (Sign c) h = inr h
last_or_more Arrow h = inr h
last_or_more InMemory h = inr h
last_or_more Bad h = inl h

-- a kind that is bad, or what is behind one that isn't
pub bad_or_more : (k : TokenKind) {p q : Type 0} → LastIfBad k p q → ((k ≡ Bad) × p) ⊎ ((k ≢ Bad) × q)
bad_or_more Name h = inr ((λ e. cc), h)
bad_or_more Dotted h = inr ((λ e. cc), h)
bad_or_more Digits h = inr ((λ e. cc), h)
bad_or_more Negative h = inr ((λ e. cc), h)
bad_or_more Mark h = inr ((λ e. cc), h)
bad_or_more Text h = inr ((λ e. cc), h)
bad_or_more (Sign c) h = inr ((λ e. cc), h)
bad_or_more Arrow h = inr ((λ e. cc), h)
bad_or_more InMemory h = inr ((λ e. cc), h)
bad_or_more Bad h = inl (refl, h)

-- the same for other facts
pub last_if_bad : (k : TokenKind) {p q : Type 0} → (k ≡ Bad → p) → q → LastIfBad k p q
last_if_bad Name f h = h
last_if_bad Dotted f h = h
last_if_bad Digits f h = h
last_if_bad Negative f h = h
last_if_bad Mark f h = h
last_if_bad Text f h = h
last_if_bad (Sign c) f h = h
last_if_bad Arrow f h = h
last_if_bad InMemory f h = h
last_if_bad Bad f h = f refl

pub bad_is_last : (k : TokenKind) (p q : Type 0) → k ≡ Bad → p → LastIfBad k p q
bad_is_last k p q e h = rw e h

pub mark_kind : (k : TokenKind) → is_mark k ≡ true → k ≡ Mark
mark_kind Mark e = refl
mark_kind Name e = cc
mark_kind Dotted e = cc
mark_kind Digits e = cc
mark_kind Negative e = cc
mark_kind Text e = cc
mark_kind (Sign c) e = cc
mark_kind Arrow e = cc
mark_kind InMemory e = cc
mark_kind Bad e = cc

-- a mark isn't bad
pub mark_not_bad : (k : TokenKind) → is_mark k ≡ true → k ≢ Bad
mark_not_bad k e bad = let no : true ≡ false = sym e ∙ ap is_mark bad in cc

-- ---- places in marks

-- the place is in this token, which is a mark
abbrev pub hits : ℕ → Token → Bool
hits k t = is_mark t.kind && (nat_le t.start k && nat_lt k t.end)

pub not_before : (t : Token) (k : ℕ) → k < t.start → hits k t ≡ false
not_before t k lt = and_right (is_mark t.kind) _ (and_left _ (nat_lt k t.end) (lt-leb t.start k lt))

pub not_behind : (t : Token) (k : ℕ) → t.end ≤ k → hits k t ≡ false
not_behind t k le = and_right (is_mark t.kind) _ (and_right (nat_le t.start k) _ (le-ltb k t.end le))

pub not_marked : (t : Token) (k : ℕ) → is_mark t.kind ≡ false → hits k t ≡ false
not_marked t k e = and_left _ _ e

pub within : (t : Token) (k : ℕ) → is_mark t.kind ≡ true → t.start ≤ k → k < t.end → hits k t ≡ true
within t k e lo hi = and_from _ _ e (and_from _ _ (le-leb t.start k lo) (lt-ltb k t.end hi))

-- a place that isn't in the first token is in a mark where it is in one of the others
pub hits_behind : (t : Token) (ts : List Token) (k : ℕ) → hits k t ≡ false → is_in_mark (t ∷ ts) k ≡ is_in_mark ts k
hits_behind t ts k e = ap (λ b. b || is_in_mark ts k) e

pub hits_here : (t : Token) (ts : List Token) (k : ℕ) → hits k t ≡ true → is_in_mark (t ∷ ts) k ≡ true
hits_here t ts k e = ap (λ b. b || is_in_mark ts k) e

-- no mark among the tokens from j on is before j
pub none_before : (cs : List ℕ) (j : ℕ) (ts : List Token) → ReadsAs cs j ts → (k : ℕ) → k < j → is_in_mark ts k ≡ false
none_before cs j [] r k lt = refl
none_before cs j (t ∷ ts) r k lt =
    let from : j ≤ t.start = r.0 in
    let lo : t.start ≤ t.end = spells_from cs t.start t.end t.kind r.2.spelled in
    hits_behind t ts k (not_before t k (omega arith)) ∙ elim (last_or_more t.kind r.3) [
      | inl none ↦ ap (λ us. is_in_mark us k) none
      | inr more ↦ none_before cs t.end ts more k (omega arith)
    ]

-- the first place that is in a mark
pub record FirstMark (cs : List ℕ) (ts : List Token) (j : ℕ) : Type 0 where
  pub place : ℕ
  pub behind : j ≤ place
  pub inside : place < length cs
  pub marked : is_in_mark ts place ≡ true
  pub first : (k : ℕ) → k < place → is_in_mark ts k ≡ false

-- no place is in a mark, or one is the first
pub first_mark : (cs : List ℕ) (j : ℕ) (ts : List Token) → ReadsAs cs j ts → ((k : ℕ) → is_in_mark ts k ≡ false) ⊎ FirstMark cs ts j
first_mark cs j [] r = inl (λ k. refl)
first_mark cs j (t ∷ ts) r =
    let from : j ≤ t.start = r.0 in
    let lo : t.start ≤ t.end = spells_from cs t.start t.end t.kind r.2.spelled in
    elim (cases_Bool (is_mark t.kind)) [
      | inl marked ↦
          let some : t.start < t.end = spells_after cs t.start t.end t.kind r.2.spelled (mark_not_bad t.kind marked) in
          inr record {
            place = t.start;
            behind = from;
            inside = r.2.begins;
            marked = hits_here t ts t.start (within t t.start marked (omega arith) some);
            first = λ k lt. none_before cs t.start (t ∷ ts) (omega arith, (λ n a b. absurd (omega arith)), r.2, r.3) k lt;
          }
      | inr other ↦ elim (last_or_more t.kind r.3) [
        | inl none ↦ inl (λ k. hits_behind t ts k (not_marked t k other) ∙ ap (λ us. is_in_mark us k) none)
        | inr more ↦ elim (first_mark cs t.end ts more) [
          | inl none ↦ inl (λ k. hits_behind t ts k (not_marked t k other) ∙ none k)
          | inr found ↦ inr record {
            place = found.place;
            behind = let behind : t.end ≤ found.place = found.behind in omega arith;
            inside = found.inside;
            marked = hits_behind t ts found.place (not_marked t found.place other) ∙ found.marked;
            first = λ k lt. hits_behind t ts k (not_marked t k other) ∙ found.first k lt;
          }
        ]
      ]
    ]

-- ---- the tokens of the bare text

-- white space before tokens
pub gap_before : (cs : List ℕ) (i j : ℕ) (ts : List Token) → i ≤ j → IsGap cs i j → ReadsAs cs j ts → ReadsAs cs i ts
gap_before cs i j [] le gap r = λ k lo hi. elim (cases_lt k j) [ inl before ↦ gap k lo before | inr behind ↦ r k behind hi ]
gap_before cs i j (t ∷ ts) le gap r =
    let from : j ≤ t.start = r.0 in
    (omega arith, (λ k lo hi. elim (cases_lt k j) [ inl before ↦ gap k lo before | inr behind ↦ r.1 k behind hi ]), r.2, r.3)

-- From i on a text is another, but for spaces in the marks.
pub record AreBlanked (cs bs : List ℕ) (i : ℕ) (ts : List Token) : Type 0 where
  pub long : length bs ≡ length cs
  pub in_marks : (k : ℕ) → i ≤ k → is_in_mark ts k ≡ true → slice_index bs k ≡ 32
  pub elsewhere : (k : ℕ) → i ≤ k → is_in_mark ts k ≡ false → slice_index bs k ≡ slice_index cs k

-- the same behind the first token
pub blanked_behind : (cs bs : List ℕ) (i : ℕ) (t : Token) (ts : List Token) → i ≤ t.end → AreBlanked cs bs i (t ∷ ts) → AreBlanked cs bs t.end ts
blanked_behind cs bs i t ts le h = record {
  long = h.long;
  in_marks = λ k lo e. h.in_marks k (omega arith) (hits_behind t ts k (not_behind t k lo) ∙ e);
  elsewhere = λ k lo e. h.elsewhere k (omega arith) (hits_behind t ts k (not_behind t k lo) ∙ e);
}

-- a token that is no mark is one of the bare text
pub token_stays : (cs bs : List ℕ) (i : ℕ) (t : Token) (ts : List Token) → i ≤ t.start → is_mark t.kind ≡ false → IsToken cs t
    → LastIfBad t.kind (ts ≡ []) (ReadsAs cs t.end ts) → AreBlanked cs bs i (t ∷ ts) → IsToken bs t
token_stays cs bs i t ts from other token more h =
    let long : length bs ≡ length cs = h.long in
    let same : (k : ℕ) → t.start ≤ k → is_in_mark ts k ≡ false → slice_index bs k ≡ slice_index cs k =
    λ k lo e. h.elsewhere k (omega arith) (hits_behind t ts k (not_marked t k other) ∙ e) in
    let whole : ((k : ℕ) → is_in_mark ts k ≡ false) → IsToken bs t =
    λ none. token_to_end cs bs t t refl (omega arith) (omega arith)
    (λ k k' lo hi at. let one : k' ≡ k = omega arith in sym (ap (slice_index bs) one ∙ same k lo (none k))) token in
    elim (bad_or_more t.kind more) [
      | inl (bad, last) ↦ whole (λ k. ap (λ us. is_in_mark us k) last)
      | inr (good, rest) ↦ elim (first_mark cs t.end ts rest) [
        | inl none ↦ whole none
        | inr found ↦
            let behind : t.end ≤ found.place = found.behind in
            let inside : found.place < length cs = found.inside in
            let lo : t.start ≤ t.end = spells_from cs t.start t.end t.kind token.spelled in
            token_before_space cs bs t t found.place found.place good refl (omega arith) behind (omega arith) (omega arith) (omega arith)
            (h.in_marks found.place (omega arith) (hits_behind t ts found.place (not_marked t found.place other) ∙ found.marked))
            (λ k k' lo hi at. let one : k' ≡ k = omega arith in sym (ap (slice_index bs) one ∙ same k lo (found.first k hi))) token
      ]
    ]

-- no place before the first token is in a mark
pub none_in_gap : (cs : List ℕ) (i : ℕ) (t : Token) (ts : List Token) → ReadsAs cs i (t ∷ ts) → (k : ℕ) → k < t.start → is_in_mark (t ∷ ts) k ≡ false
none_in_gap cs i t ts r k lt = none_before cs t.start (t ∷ ts) (omega arith, (λ n a b. absurd (omega arith)), r.2, r.3) k lt

-- the first token of the bare text, where the others follow
others_first : (cs bs : List ℕ) (i : ℕ) (t : Token) (ts : List Token) → ReadsAs cs i (t ∷ ts) → AreBlanked cs bs i (t ∷ ts)
    → (ReadsAs cs t.end ts → ReadsAs bs t.end (without_marks ts)) → (b : Bool) → is_mark t.kind ≡ b
    → ReadsAs bs i (if b then without_marks ts else t ∷ without_marks ts)
others_first cs bs i t ts r h follow b e = of_kind b e
  where
    from : i ≤ t.start
    from = r.0

    through : t.start ≤ t.end
    through = spells_from cs t.start t.end t.kind r.2.spelled

    gap : IsGap bs i t.start
    gap k lo hi = ap is_whitespace (h.elsewhere k lo (none_in_gap cs i t ts r k hi)) ∙ r.1 k lo hi

    of_kind : (b : Bool) → is_mark t.kind ≡ b → ReadsAs bs i (if b then without_marks ts else t ∷ without_marks ts)
    of_kind true e = elim (bad_or_more t.kind r.3) [
      | inl (bad, last) ↦ absurd (mark_not_bad t.kind e bad)
      | inr (good, more) ↦ gap_before bs i t.end (without_marks ts) (omega (arith, from, through))
          (λ k lo hi. elim (cases_lt k t.start) [
            | inl before ↦ gap k lo before
            | inr inside ↦ ap is_whitespace (h.in_marks k lo (hits_here t ts k (within t k e inside hi)))
          ])
          (follow more)
    ]
    of_kind false e = (
      from,
      gap,
      token_stays cs bs i t ts from e r.2 r.3 h,
      elim (bad_or_more t.kind r.3) [
        | inl (bad, last) ↦ bad_is_last t.kind _ _ bad (ap without_marks last)
        | inr (good, more) ↦ last_if_bad t.kind (λ bad. absurd (good bad)) (follow more)
      ],
    )

-- a token begins behind the gap before it and ends at its start or behind it
ends_behind : (cs : List ℕ) (i : ℕ) (t : Token) (ts : List Token) → ReadsAs cs i (t ∷ ts) → i ≤ t.end
ends_behind cs i t ts r = omega (arith, r.0, spells_from cs t.start t.end t.kind r.2.spelled)

-- The bare text has the tokens that are no marks.
pub others_stay : (cs bs : List ℕ) (i : ℕ) (ts : List Token) → ReadsAs cs i ts → AreBlanked cs bs i ts → ReadsAs bs i (without_marks ts)
others_stay cs bs i [] r h =
    let long : length bs ≡ length cs = h.long in
    λ k lo hi. ap is_whitespace (h.elsewhere k lo refl) ∙ r k lo (omega arith)
others_stay cs bs i (t ∷ ts) r h =
    others_first cs bs i t ts r h
    (λ more. others_stay cs bs t.end ts more (blanked_behind cs bs i t ts (ends_behind cs i t ts r) h)) (is_mark t.kind) refl

-- the first token's characters, where those of the others stay
characters_first : (cs bs : List ℕ) (i : ℕ) (t : Token) (ts : List Token) → ReadsAs cs i (t ∷ ts) → AreBlanked cs bs i (t ∷ ts)
    → map (token_characters bs) (without_marks ts) ≡ map (token_characters cs) (without_marks ts) → (b : Bool) → is_mark t.kind ≡ b
    → map (token_characters bs) (if b then without_marks ts else t ∷ without_marks ts) ≡ map (token_characters cs) (if b then without_marks ts else t ∷ without_marks ts)
characters_first cs bs i t ts r h rest b e = of_kind b e
  where
    from : i ≤ t.start
    from = r.0

    through : t.start ≤ t.end
    through = spells_from cs t.start t.end t.kind r.2.spelled

    inside : t.end ≤ length cs
    inside = r.2.inside

    long : length bs ≡ length cs
    long = h.long

    none_inside : (k : ℕ) → k < t.end → is_in_mark ts k ≡ false
    none_inside k lt = elim (last_or_more t.kind r.3) [
      | inl none ↦ ap (λ us. is_in_mark us k) none
      | inr more ↦ none_before cs t.end ts more k lt
    ]

    here : is_mark t.kind ≡ false → token_characters bs t ≡ token_characters cs t
    here e = part_moved bs cs t.start t.end t.start t.end through (omega (arith, inside, long)) inside (omega arith)
        (λ k k' lo hi at. let one : k' ≡ k = omega arith in
        h.elsewhere k (omega (arith, from, lo)) (hits_behind t ts k (not_marked t k e) ∙ none_inside k hi) ∙ ap (slice_index cs) (sym one))

    of_kind : (b : Bool) → is_mark t.kind ≡ b
        → map (token_characters bs) (if b then without_marks ts else t ∷ without_marks ts) ≡ map (token_characters cs) (if b then without_marks ts else t ∷ without_marks ts)
    of_kind true e = rest
    of_kind false e = ap (λ (x : List ℕ). x ∷ map (token_characters bs) (without_marks ts)) (here e)
        ∙ ap (λ (xs : List (List ℕ)). token_characters cs t ∷ xs) rest

-- and these have their characters
pub characters_stay : (cs bs : List ℕ) (i : ℕ) (ts : List Token) → ReadsAs cs i ts → AreBlanked cs bs i ts
    → map (token_characters bs) (without_marks ts) ≡ map (token_characters cs) (without_marks ts)
characters_stay cs bs i [] r h = refl
characters_stay cs bs i (t ∷ ts) r h = characters_first cs bs i t ts r h
    (elim (last_or_more t.kind r.3) [
      | inl none ↦ rw none refl
      | inr more ↦ characters_stay cs bs t.end ts more (blanked_behind cs bs i t ts (ends_behind cs i t ts r) h)
    ]) (is_mark t.kind) refl
