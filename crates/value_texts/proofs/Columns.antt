-- Tokens of characters, as what may come next.
use Rattle.std.proofs.Common.{◌≡◌, ◌∙◌, ◌<◌, ◌≤◌, ◌+◌, ℕ, Bool, true, false, ◌&&◌, ◌||◌, List, [], ◌++◌, codes, length, slice_index, Option, Some, None, MatchOption, refl, sym, ap, subst, arith, length-append, append-nil}
use Rattle.std.proofs.Math.ListN.{get_or-append}
use Rattle.std.proofs.lemmas.List.{append_cancel_left}
use Rattle.std.specs.Char.{is_whitespace}
use Rattle.std.specs.List.{take_while}
use Rattle.ir_print.specs.Formats.{Step, word, operands, operand, successor, a_value, a_region, symbol_name, a_leaf, list_of, choice_of, Steps, no_steps, step, Choices, no_choice, a_choice}
use Rattle.ir_tokens.specs.declared.tokens.TokenKind.{TokenKind}
use Rattle.ir_tokens.specs.declared.tokens.TokenKind.TheVariants.{Name, Dotted, Digits, Negative, Mark, Text, Sign, Arrow, InMemory, Bad}
use Rattle.ir_tokens.specs.Tokens.{is_letter, is_digit, is_name_char, Spells, AreAllOfKind, ClosesText, closing, plain, escaped}
use Rattle.ir_tokens.proofs.TokenLongest.{closes_after}
use Rattle.ir_tokens.proofs.TokenSteps.{spells_after}
use Rattle.ir_format_checks.specs.Tokens.{WrittenToken, Column, TokenClass, given, a_name, dotted, digits, number, width, quotation, mark, is_of, takes}
use Rattle.ir_format_checks.specs.Decided.{leaf_class, begins, all_begin, one_begins, may_be_empty}
use Rattle.text_streams.specs.declared.position.Position.{Position}
use Rattle.text_streams.specs.Positions.{left}
use Rattle.stream_tokens.specs.declared.lexemes.Lexeme.{Lexeme}
use Rattle.stream_tokens.specs.Lexemes.{IsNextToken, IsLexeme}
use Rattle.token_classes.specs.Classes.{is_token_of, is_lexeme_of}
use Rattle.value_texts.specs.Tokens.{TakesToken, IsNoNext}
use Rattle.value_texts.specs.Following.{ComesNext, is_next_of}
use Rattle.value_texts.proofs.OneToken.{one_token}

-- ---- a token alone

-- characters of the front are those of the whole
same_at : (t rest : List ℕ) (i : ℕ) → i < length t → slice_index (t ++ rest) i ≡ slice_index t i
same_at t rest i lt = get_or-append t rest 0 i lt

runs_alone : (p : ℕ → Bool) (t rest : List ℕ) (i j : ℕ) → j ≤ length t → AreAllOfKind p (t ++ rest) i j → AreAllOfKind p t i j
runs_alone p t rest i j le h k lo hi = subst (λ (c : ℕ). p c ≡ true) (same_at t rest k (omega (arith, le, hi))) (h k lo hi)

closes_alone : (t rest : List ℕ) (i j : ℕ) → j ≤ length t → ClosesText (t ++ rest) i j → ClosesText t i j
closes_alone t rest i j le (closing c e) = closing (sym (same_at t rest i (omega (arith, le, e))) ∙ c) e
closes_alone t rest i j le (plain {n = n} a b e c) =
    let after = closes_after (t ++ rest) c in
    let here = same_at t rest i (omega (arith, le, e, after)) in
    plain (λ (q : slice_index t i ≡ 34). a (here ∙ q)) (λ (q : slice_index t i ≡ 92). b (here ∙ q)) e (closes_alone t rest n j le c)
closes_alone t rest i j le (escaped {n = n} a e c) =
    let after = closes_after (t ++ rest) c in
    escaped (sym (same_at t rest i (omega (arith, le, e, after))) ∙ a) e (closes_alone t rest n j le c)

spelled_alone : (t rest : List ℕ) (j : ℕ) (k : TokenKind) → j ≤ length t → Spells (t ++ rest) 0 j k → Spells t 0 j k
spelled_alone t rest j Name le s = (s.0, sym (ap is_letter (same_at t rest 0 (omega (arith, le, s.0)))) ∙ s.1, runs_alone is_name_char t rest 0 j le s.2)
spelled_alone t rest j Dotted le s = (
  s.0,
  (s.1.0, sym (ap is_letter (same_at t rest 0 (omega (arith, le, s.1.0, s.3.0)))) ∙ s.1.1, runs_alone is_name_char t rest 0 s.0 (omega (arith, le, s.3.0)) s.1.2),
  sym (same_at t rest s.0 (omega (arith, le, s.3.0))) ∙ s.2,
  (s.3.0, sym (ap is_letter (same_at t rest (s.0 + 1) (omega (arith, le, s.3.0)))) ∙ s.3.1, runs_alone is_name_char t rest (s.0 + 1) j le s.3.2),
)
spelled_alone t rest j Digits le s = (s.0, runs_alone is_digit t rest 0 j le s.1)
spelled_alone t rest j Negative le s = (sym (same_at t rest 0 (omega (arith, le, s.1.0))) ∙ s.0, (s.1.0, runs_alone is_digit t rest 1 j le s.1.1))
spelled_alone t rest j Mark le s = (sym (same_at t rest 0 (omega (arith, le, s.1.0))) ∙ s.0, (s.1.0, runs_alone is_digit t rest 1 j le s.1.1))
spelled_alone t rest j Text le s =
    let after = closes_after (t ++ rest) s.1 in
    (sym (same_at t rest 0 (omega (arith, le, after))) ∙ s.0, closes_alone t rest 1 j le s.1)
spelled_alone t rest j (Sign c) le s = (s.0, sym (same_at t rest 0 (omega (arith, le, s.2))) ∙ s.1, s.2)
spelled_alone t rest j Arrow le s = (sym (same_at t rest 0 (omega (arith, le, s.2))) ∙ s.0, sym (same_at t rest 1 (omega (arith, le, s.2))) ∙ s.1, s.2)
spelled_alone t rest j InMemory le s = (λ k lt. sym (same_at t rest (0 + k) (omega (arith, le, lt, s.1))) ∙ s.0 k lt, s.1)
spelled_alone t rest j Bad le s = s

-- ---- columns

-- the next token, as what comes next
pub column : (cs text rest : List ℕ) (k : TokenKind) → IsNextToken cs k text rest → WrittenToken
column cs text rest k h = record { kind = k; text = text; spelled = spelled_alone text rest (length text) k (omega arith) h.longest.spelled }

pub comes : (cs text rest : List ℕ) (k : TokenKind) (h : IsNextToken cs k text rest) → ComesNext cs (Some (column cs text rest k h))
unfolding column
comes cs text rest k h = (rest, h)

-- a bad token is of no class
not_bad : (c : TokenClass) (text : List ℕ) → is_token_of c Bad text ≡ true → ⊥
not_bad (given w) text h = cc
not_bad a_name text h = cc
not_bad dotted text h = cc
not_bad digits text h = cc
not_bad number text h = cc
not_bad width text h = cc
not_bad quotation text h = cc
not_bad mark text h = cc

-- nothing comes behind white space alone
pub none_left : (cs : List ℕ) (c : TokenClass) → cs ≡ take_while is_whitespace cs → IsNoNext c cs
none_left cs c white text rest h =
    let nothing : [] ≡ text ++ rest = append_cancel_left (take_while is_whitespace cs) [] (text ++ rest) (append-nil _ ∙ (sym white ∙ h.next.stands)) in
    let some : 0 < length text = spells_after (text ++ rest) 0 (length text) h.kind h.next.longest.spelled
    (λ bad. not_bad c text (subst (λ (k : TokenKind). is_token_of c k text ≡ true) bad h.class)) in
    let none : length (text ++ rest) ≡ 0 = sym (ap (λ (xs : List ℕ). length xs) nothing) in
    let both = length-append text rest in
    absurd (omega (arith, some, none, both))

same_class : (c : TokenClass) (t : WrittenToken) → is_of c t ≡ is_token_of c t.kind t.text
same_class (given w) t = refl
same_class a_name t = refl
same_class dotted t = refl
same_class digits t = refl
same_class number t = refl
same_class width t = refl
same_class quotation t = refl
same_class mark t = refl

-- what comes next is of the class of the next token
pub taken_is : (c : TokenClass) (cs text rest : List ℕ) → TakesToken c cs text rest → (x : Column) → ComesNext cs x → takes x c ≡ true
taken_is c cs text rest h None white = absurd (none_left cs c white text rest h)
taken_is c cs text rest h (Some t) comes =
    let same = one_token cs t.text text comes.0 rest t.kind h.kind comes.1 h.next in
    same_class c t ∙ (ap (λ (k : TokenKind). is_token_of c k t.text) same.0 ∙ (ap (λ (u : List ℕ). is_token_of c h.kind u) same.1 ∙ h.class))

-- two tokens of a class at one place are one
pub same_token : (c d : TokenClass) (cs text other mid rest : List ℕ) → TakesToken c cs text mid → TakesToken d cs other rest → (text ≡ other) × (mid ≡ rest)
same_token c d cs text other mid rest h k = let same = one_token cs text other mid rest h.kind k.kind h.next k.next in (same.1, same.2)

-- the next token is of the class, and is what comes next
pub taken_column : (c : TokenClass) (cs text rest : List ℕ) → TakesToken c cs text rest → (x : Column) × ComesNext cs x × (takes x c ≡ true)
taken_column c cs text rest h =
    let x : Column = Some (column cs text rest h.kind h.next) in
    let next : ComesNext cs x = comes cs text rest h.kind h.next in
    (x, next, taken_is c cs text rest h x next)

-- ---- what steps begin with, by tests of classes that say the same

module _ (p q : TokenClass → Bool) (same : (c : TokenClass) → p c ≡ q c) where
  mutual
    begins_same : (s : Step) → begins p s ≡ begins q s
    begins_same (word printed w) = same (given w)
    begins_same operands = same a_name
    begins_same operand = same a_name
    begins_same successor = same (given (codes "^"))
    begins_same (a_value sort) = same dotted
    begins_same a_region = same (given (codes "{"))
    begins_same symbol_name = same (given (codes "@"))
    begins_same (a_leaf sort) = same (leaf_class sort)
    begins_same (list_of m printed w) = all_same m
    begins_same (choice_of cs) = one_same cs

    pub all_same : (ss : Steps) → all_begin p ss ≡ all_begin q ss
    all_same no_steps = refl
    all_same (step s ss) = ap (λ (b : Bool). b || (may_be_empty s && all_begin p ss)) (begins_same s)
        ∙ ap (λ (b : Bool). begins q s || (may_be_empty s && b)) (all_same ss)

    pub one_same : (cs : Choices) → one_begins p cs ≡ one_begins q cs
    one_same no_choice = refl
    one_same (a_choice ss cs) = ap (λ (b : Bool). b || one_begins p cs) (all_same ss)
        ∙ ap (λ (b : Bool). all_begin q ss || b) (one_same cs)

-- ---- the end

-- neither is so
neither : (e b a : Bool) → b ≡ false → a ≡ false → (b || (e && a)) ≡ false
neither true true a h k = h
neither false true a h k = h
neither true false a h k = k
neither false false a h k = refl

module _ (p : TokenClass → Bool) (none : (c : TokenClass) → p c ≡ false) where
  mutual
    none_begins : (s : Step) → begins p s ≡ false
    none_begins (word printed w) = none (given w)
    none_begins operands = none a_name
    none_begins operand = none a_name
    none_begins successor = none (given (codes "^"))
    none_begins (a_value sort) = none dotted
    none_begins a_region = none (given (codes "{"))
    none_begins symbol_name = none (given (codes "@"))
    none_begins (a_leaf sort) = none (leaf_class sort)
    none_begins (list_of m printed w) = all_none m
    none_begins (choice_of cs) = one_none cs

    pub all_none : (ss : Steps) → all_begin p ss ≡ false
    all_none no_steps = refl
    all_none (step s ss) = neither (may_be_empty s) (begins p s) (all_begin p ss) (none_begins s) (all_none ss)

    one_none : (cs : Choices) → one_begins p cs ≡ false
    one_none no_choice = refl
    one_none (a_choice ss cs) = neither true (all_begin p ss) (one_begins p cs) (all_none ss) (one_none cs)

-- the end begins nothing
pub end_begins : (ss : Steps) → all_begin (is_next_of None) ss ≡ false
end_begins ss = all_none (is_next_of None) (λ c. refl) ss

-- ---- a token that was read

module _ (from : Position) (token : Lexeme) (lexeme : IsLexeme from token) where
  -- the next token, as what comes next
  abbrev here : Column
  here = Some (column (left from) token.text.items (left token.end) token.kind lexeme.next)

  comes_here : ComesNext (left from) here
  comes_here = comes (left from) token.text.items (left token.end) token.kind lexeme.next

  is_here : (c : TokenClass) → is_lexeme_of token c ≡ takes here c
  unfolding column
  is_here c = sym (same_class c (column (left from) token.text.items (left token.end) token.kind lexeme.next))

  -- it is of no other class
  pub not_taken : (c : TokenClass) → is_lexeme_of token c ≡ false → IsNoNext c (left from)
  not_taken c h text rest k =
      let one = taken_is c (left from) text rest k here comes_here in
      let no : true ≡ false = sym one ∙ (sym (is_here c) ∙ h) in cc

  -- a token of a class is of it
  pub is_taken : (c : TokenClass) (text rest : List ℕ) → TakesToken c (left from) text rest → is_lexeme_of token c ≡ true
  is_taken c text rest h = is_here c ∙ taken_is c (left from) text rest h here comes_here

  pub same_text : (c : TokenClass) (text rest : List ℕ) → TakesToken c (left from) text rest → token.text.items ≡ text
  same_text c text rest h = (one_token (left from) token.text.items text (left token.end) rest token.kind h.kind lexeme.next h.next).1

-- what comes next, if there is a token, is of these classes
pub next_column : (from : Position) (next : Option Lexeme) → MatchOption next (left from ≡ take_while is_whitespace (left from)) (λ token. IsLexeme from token)
    → (x : Column) × ComesNext (left from) x × ((c : TokenClass) → is_next_of next c ≡ takes x c)
next_column from None white = (None, white, λ c. refl)
next_column from (Some token) lexeme = (here from token lexeme, comes_here from token lexeme, is_here from token lexeme)
