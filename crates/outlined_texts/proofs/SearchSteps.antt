-- The steps of looking for the section.
use Rattle.std.proofs.Common.{◌≡◌, ◌≢◌, ℕ, ◌+◌, ◌-◌, ◌<◌, ◌≤◌, Bool, true, false, List, [], ◌∷◌, Option, Some, None, length, slice_index, arith, refl, sym, ◌∙◌}
use Rattle.std.specs.Prelude.{◌&&◌, if◌then◌else◌}
use Rattle.std.specs.Char.{is_whitespace}
use Rattle.std.specs.Option.{is_none, option_or}
use Rattle.ir_tokens.specs.declared.tokens.TokenKind.TheVariants.{Bad}
use Rattle.ir_tokens.specs.declared.tokens.Token.{Token}
use Rattle.ir_tokens.specs.Tokens.{IsToken, ReadsAs}
use Rattle.ir_tokens.proofs.TokenSteps.{gap_more, spells_after, token_more}
use Rattle.text_marking.proofs.Separated.{bad_is_last}
use Rattle.outlined_texts.specs.declared.searching.Search.{Search}
use Rattle.outlined_texts.specs.Sections.{begins_with_colon, braces_behind, has_sign, holds_name, may_begin, section_behind, section_of}
use Rattle.outlined_texts.specs.Searching.{answer, begins_or, FindsSection, IsSearchBehind}

-- ---- one token more

-- where no place is known yet
unknown_more : (named : Option ℕ) (t : Token) (ts : List Token) (start : ℕ) (rest : Option ℕ) (colon may : Bool) → has_sign 58 t.kind ≡ colon
    → begins_or named (t ∷ ts) (if may && begins_with_colon ts then Some start else rest)
    ≡ option_or (if colon then named else None) (begins_or (if may then Some start else None) ts rest)
unknown_more None t ts start rest true true is = refl
unknown_more None t ts start rest true false is = refl
unknown_more None t ts start rest false true is = refl
unknown_more None t ts start rest false false is = refl
unknown_more (Some x) t ts start rest true may is = rw is refl
unknown_more (Some x) t ts start rest false true is = rw is refl
unknown_more (Some x) t ts start rest false false is = rw is refl

answer_more : (cs : List ℕ) (found named : Option ℕ) (depth : ℕ) (held : Bool) (t : Token) (ts : List Token)
    → option_or found (begins_or named (t ∷ ts) (section_behind cs depth held (t ∷ ts)))
    ≡ option_or (if is_none found && has_sign 58 t.kind then named else found)
    (begins_or (if may_begin cs depth held t then Some t.start else None) ts (section_behind cs (braces_behind depth t.kind) (holds_name t.kind) ts))
answer_more cs (Some x) named depth held t ts = refl
answer_more cs None named depth held t ts =
    unknown_more named t ts t.start (section_behind cs (braces_behind depth t.kind) (holds_name t.kind) ts) (has_sign 58 t.kind) (may_begin cs depth held t) refl

-- what is told with one token more has the same answer
step : (cs : List ℕ) (s s' : Search) (t : Token) (ts : List Token) → IsSearchBehind cs s t s' → answer cs s (t ∷ ts) ≡ answer cs s' ts
step cs s s' t ts h = rw (h.found, h.named, h.depth, h.held) (answer_more cs s.found s.named s.depth s.held t ts)

-- behind the last token
answer_none : (found named : Option ℕ) → option_or found (begins_or named [] None) ≡ found
answer_none (Some x) named = refl
answer_none None None = refl
answer_none None (Some x) = refl

-- at most one brace more is open
deeper : (depth : ℕ) (a b : Bool) → (if a then depth + 1 else (if b then depth - 1 else depth)) ≤ depth + 1
deeper depth true b = omega arith
deeper depth false true = omega arith
deeper depth false false = omega arith

-- ---- the loop

-- Up to this place the text is cut into tokens, and this is what they tell.
pub record SearchesTo (cs : List ℕ) (at : ℕ) (s : Search) : Type 0 where
  pub inside : at ≤ length cs
  pub answers : (ts : List Token) → ReadsAs cs at ts → (all : List Token) × ReadsAs cs 0 all × (section_of cs all ≡ answer cs s ts)
  pub few : s.depth ≤ at

pub searches_gap : (cs : List ℕ) (at : ℕ) (s : Search) → at < length cs → is_whitespace (slice_index cs at) ≡ true → SearchesTo cs at s
    → SearchesTo cs (at + 1) s
searches_gap cs at s lt white h =
    let few : s.depth ≤ at = h.few in
    record {
      inside = omega arith;
      answers = λ ts r. h.answers ts (gap_more cs at ts white r);
      few = omega arith;
    }

pub searches_more : (cs : List ℕ) (at : ℕ) (t : Token) (s s' : Search) → t.start ≡ at → IsToken cs t → t.kind ≢ Bad → IsSearchBehind cs s t s'
    → SearchesTo cs at s → SearchesTo cs t.end s'
searches_more cs at t s s' begins token good behind h =
    let few : s.depth ≤ at = h.few in
    let some : t.start < t.end = spells_after cs t.start t.end t.kind token.spelled good in
    let deep : s'.depth ≡ braces_behind s.depth t.kind = behind.depth in
    let le = deeper s.depth (has_sign 123 t.kind) (has_sign 125 t.kind) in
    record {
      inside = token.inside;
      answers = λ ts r.
          let found = h.answers (t ∷ ts) (token_more cs at t ts begins token good r) in
          (found.0, found.1, found.2 ∙ step cs s s' t ts behind);
      few = omega arith;
    }

-- at the end of the text
pub found_at_end : (cs : List ℕ) (at : ℕ) (s : Search) → length cs ≤ at → SearchesTo cs at s → FindsSection cs s.found
found_at_end cs at s past h =
    let found = h.answers [] (λ k lo hi. absurd (omega arith)) in
    record { tokens = found.0; reads = found.1; begins = sym (found.2 ∙ answer_none s.found s.named) }

-- at a bad token
pub found_at_bad : (cs : List ℕ) (at : ℕ) (t : Token) (s s' : Search) → t.start ≡ at → IsToken cs t → t.kind ≡ Bad → IsSearchBehind cs s t s'
    → SearchesTo cs at s → FindsSection cs s'.found
found_at_bad cs at t s s' begins token bad behind h =
    let found = h.answers (t ∷ []) (omega arith, (λ k lo hi. absurd (omega arith)), token, bad_is_last t.kind _ _ bad refl) in
    record { tokens = found.0; reads = found.1; begins = sym (found.2 ∙ step cs s s' t [] behind ∙ answer_none s'.found s'.named) }
