-- The text before a section, and its tokens.
use Rattle.std.proofs.Common.{◌≡◌, ◌≢◌, ℕ, ◌<◌, ◌≤◌, inl, inr, Bool, true, false, List, [], ◌∷◌, Option, Some, None, length, slice_index, take, arith, refl, sym, ◌∙◌, ap, subst}
use Rattle.std.specs.Prelude.{◌&&◌, filter, nat_lt, if◌then◌else◌, MatchOption}
use Rattle.std.specs.Char.{is_whitespace}
use Rattle.std.proofs.lemmas.Bool.{lt-ltb, le-ltb}
use Rattle.std.proofs.lemmas.List.{get_or-take, length-take-le}
use Rattle.std.proofs.lemmas.Option.{none-some, same_Some}
use Rattle.ir_tokens.specs.declared.tokens.TokenKind.TheVariants.{Bad}
use Rattle.ir_tokens.specs.declared.tokens.Token.{Token}
use Rattle.ir_tokens.specs.Tokens.{IsGap, IsToken, ReadsAs}
use Rattle.ir_tokens.proofs.TokenSteps.{spells_after}
use Rattle.text_marking.proofs.Moved.{spells_from, spells_moved}
use Rattle.text_marking.proofs.Separated.{bad_or_more, last_if_bad, last_or_more}
use Rattle.ir_characters.specs.Texts.{owned_codes}
use Rattle.text_marking.specs.Taking.{TakesMarks}
use Rattle.text_marking.proofs.Steps.{one_bare}
use Rattle.ir_tokens.proofs.TokenUnique.{one_reading_lem}
use Rattle.outlined_texts.specs.declared.splitting.OutlinedText.{OutlinedText}
use Rattle.outlined_texts.specs.Splits.{IsSplit}
use Rattle.outlined_texts.specs.Sections.{begins_with_colon, braces_behind, front_of, holds_name, may_begin, section_behind, section_of, tokens_before}

-- a token that ends in a front of the text is one of the front
token_of_front : (cs : List ℕ) (t : Token) (many : ℕ) → many ≤ length cs → t.end ≤ many → t.kind ≢ Bad → IsToken cs t → IsToken (take many cs) t
token_of_front cs t many le inside good token =
    let long : length (take many cs) ≡ many = length-take-le many cs le in
    let some : t.start < t.end = spells_after cs t.start t.end t.kind token.spelled good in
    let same : (k : ℕ) → k < many → slice_index (take many cs) k ≡ slice_index cs k = λ k lt. get_or-take many cs k 0 lt in
    record {
      begins = omega arith;
      visible = ap is_whitespace (same t.start (omega arith)) ∙ token.visible;
      inside = omega arith;
      spelled = spells_moved cs (take many cs) t.start t.end t.start t.end t.kind refl
          (λ k k' lo hi at. let one : k' ≡ k = omega arith in rw one (sym (same k (omega arith)))) token.spelled;
      longest = λ m other lt end s. token.longest m other lt (omega arith)
          (spells_moved (take many cs) cs t.start m t.start m other refl
          (λ k k' lo hi at. let one : k' ≡ k = omega arith in rw one (same k (omega arith))) s);
    }

gap_of_front : (cs : List ℕ) (many i j : ℕ) → j ≤ many → IsGap cs i j → IsGap (take many cs) i j
gap_of_front cs many i j le gap k lo hi = ap is_whitespace (get_or-take many cs k 0 (omega arith)) ∙ gap k lo hi

-- no token from this place on is before it
none_before : (cs : List ℕ) (start from : ℕ) (ts : List Token) → start ≤ from → ReadsAs cs from ts → filter (λ t. nat_lt t.start start) ts ≡ []
none_before cs start from [] le r = refl
none_before cs start from (t ∷ ts) le r =
    let from_here : from ≤ t.start = r.0 in
    let through : t.start ≤ t.end = spells_from cs t.start t.end t.kind r.2.spelled in
    let not_here : nat_lt t.start start ≡ false = le-ltb t.start start (omega arith) in
    rw not_here (elim (last_or_more t.kind r.3) [
      | inl none ↦ rw none refl
      | inr more ↦ none_before cs start t.end ts (omega arith) more
    ])

-- The front of a text up to a token that begins the section.
pub record IsFront (cs : List ℕ) (from start : ℕ) (ts : List Token) : Type 0 where
  pub behind : from ≤ start
  pub inside : start < length cs
  pub reads : ReadsAs (take start cs) from (filter (λ t. nat_lt t.start start) ts)

-- the section begins at the first token
front_here : (cs : List ℕ) (from start : ℕ) (t : Token) (ts : List Token) → ReadsAs cs from (t ∷ ts) → t.start ≡ start → IsFront cs from start (t ∷ ts)
front_here cs from start t ts r is =
    let from_here : from ≤ t.start = r.0 in
    let begins : t.start < length cs = r.2.begins in
    let long : length (take start cs) ≡ start = length-take-le start cs (omega arith) in
    let none : filter (λ (u : Token). nat_lt u.start start) (t ∷ ts) ≡ [] =
    none_before cs start t.start (t ∷ ts) (omega arith) (omega arith, (λ k lo hi. absurd (omega arith)), r.2, r.3) in
    record {
      behind = omega arith;
      inside = omega arith;
      reads = rw none (λ k lo hi. gap_of_front cs start from t.start (omega arith) r.1 k lo (omega arith));
    }

-- it begins behind the first token
front_later : (cs : List ℕ) (from start : ℕ) (t : Token) (ts : List Token) → ReadsAs cs from (t ∷ ts) → t.kind ≢ Bad → IsFront cs t.end start ts
    → IsFront cs from start (t ∷ ts)
front_later cs from start t ts r good h =
    let from_here : from ≤ t.start = r.0 in
    let some : t.start < t.end = spells_after cs t.start t.end t.kind r.2.spelled good in
    let behind : t.end ≤ start = h.behind in
    let inside : start < length cs = h.inside in
    let here : nat_lt t.start start ≡ true = lt-ltb t.start start (omega arith) in
    record {
      behind = omega arith;
      inside = inside;
      reads = rw here (
        from_here,
        gap_of_front cs start from t.start (omega arith) r.1,
        token_of_front cs t start (omega arith) behind good r.2,
        last_if_bad t.kind (λ bad. absurd (good bad)) h.reads,
      );
    }

front_behind : (cs : List ℕ) (from start depth : ℕ) (held : Bool) (ts : List Token) → ReadsAs cs from ts → section_behind cs depth held ts ≡ Some start
    → IsFront cs from start ts
front_behind cs from start depth held [] r is = absurd (none-some start is)
front_behind cs from start depth held (t ∷ ts) r is = by (may_begin cs depth held t && begins_with_colon ts) is
    (λ good more e. front_later cs from start t ts r good
    (front_behind cs t.end start (braces_behind depth t.kind) (holds_name t.kind) ts more e))
  where
    by : (b : Bool) → (if b then Some t.start else section_behind cs (braces_behind depth t.kind) (holds_name t.kind) ts) ≡ Some start
        → (t.kind ≢ Bad → ReadsAs cs t.end ts → section_behind cs (braces_behind depth t.kind) (holds_name t.kind) ts ≡ Some start → IsFront cs from start (t ∷ ts))
        → IsFront cs from start (t ∷ ts)
    by true e later = front_here cs from start t ts r (same_Some _ _ e)
    by false e later = elim (bad_or_more t.kind r.3) [
      | inl (bad, last) ↦ absurd (none-some start (rw last at e))
      | inr (good, more) ↦ later good more e
    ]

-- the text before its section has the tokens before it
pub before_reads : (cs : List ℕ) (ts : List Token) (section : Option ℕ) → ReadsAs cs 0 ts → section ≡ section_of cs ts
    → ReadsAs (front_of section cs) 0 (tokens_before section ts)
before_reads cs ts None r is = r
before_reads cs ts (Some start) r is = (front_behind cs 0 start 0 true ts r (sym is)).reads

-- the section begins in the text
pub section_inside : (cs : List ℕ) (ts : List Token) (section : Option ℕ) → ReadsAs cs 0 ts → section ≡ section_of cs ts
    → MatchOption section (Unit {0}) (λ start. start ≤ length cs)
section_inside cs ts None r is = tt
section_inside cs ts (Some start) r is = let inside : start < length cs = (front_behind cs 0 start 0 true ts r (sym is)).inside in omega arith

-- ---- one answer

-- a text is taken apart in one way
pub one_split_lem : (cs : List ℕ) (a b : OutlinedText) → IsSplit cs a → IsSplit cs b
    → (owned_codes a.front ≡ owned_codes b.front) × (a.marks.items ≡ b.marks.items) × (a.section ≡ b.section)
one_split_lem cs a b h g =
    let tokens : h.tokens ≡ g.tokens = one_reading_lem cs 0 h.tokens g.tokens h.reads g.reads in
    let sections : a.section ≡ b.section = h.section ∙ ap (section_of cs) tokens ∙ sym g.section in
    let taken : TakesMarks (front_of b.section cs) (record { bare = a.front; marks = a.marks }) =
    subst (λ (section : Option ℕ). TakesMarks (front_of section cs) (record { bare = a.front; marks = a.marks })) sections h.taken in
    let both = one_bare (front_of b.section cs) (record { bare = a.front; marks = a.marks }) (record { bare = b.front; marks = b.marks }) taken g.taken in
    (both.0, both.1, sections)
