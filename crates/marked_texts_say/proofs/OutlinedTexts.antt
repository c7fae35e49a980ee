-- A text with marks and a section is taken apart into what it was made of.
use Rattle.std.proofs.Common.{◌≡◌, ◌↔◌, ℕ, ◌+◌, ◌≤◌, inl, inr, Bool, true, false, List, [], ◌∷◌, ◌++◌, ◌&&◌, ◌||◌, Option, Some, None, length, map, arith, refl, sym, ◌∙◌, ap, subst, append-nil, length-append}
use Rattle.std.specs.Prelude.{◌==◌, not, if◌then◌else◌}
use Rattle.std.specs.List.{list_any}
use Rattle.std.proofs.Math.Seq.{get_or-append_seam}
use Rattle.ir_characters.specs.Texts.{owned_codes}
use Rattle.ir_forest.specs.Language.{Language}
use Rattle.ir_print.specs.Pieces.{Entity}
use Rattle.ir_rereading.specs.Texts.{Says}
use Rattle.ir_tokens.specs.declared.tokens.TokenKind.{TokenKind}
use Rattle.ir_tokens.specs.declared.tokens.Token.{Token}
use Rattle.ir_tokens.specs.Tokens.{is_bad, IsGap, ReadsAs}
use Rattle.outlined_texts.specs.declared.splitting.OutlinedText.{OutlinedText}
use Rattle.outlined_texts.specs.Appended.{depth_behind, held_behind, IsSectionText, IsWithoutSection}
use Rattle.outlined_texts.specs.Sections.{begins_with_colon, braces_behind, holds_name, is_section_name, is_section_word, may_begin, section_behind}
use Rattle.outlined_texts.specs.Splits.{IsSplit}
use Rattle.outlined_texts.proofs.AppendedSections.{appended_split}
use Rattle.outlined_texts.proofs.Lines.{moved_there, neither, reads_both}
use Rattle.text_marking.specs.declared.taking.MarkedText.{MarkedText}
use Rattle.text_marking.specs.Marks.{is_mark, token_characters, without_marks}
use Rattle.text_marking.specs.PutAndTaken.{CanPut, GivesBack, kind_and_characters, number_and_tokens, put_number_and_tokens}
use Rattle.text_marking.specs.Putting.{with_marks}
use Rattle.text_marking.specs.Taking.{TakesMarks}
use Rattle.text_marking.proofs.Moved.{part_moved, spells_from}
use Rattle.text_marking.proofs.PutAndTaken.{put_and_taken}
use Rattle.text_marking.proofs.Separated.{last_or_more, mark_kind}
use Rattle.marked_texts_say.specs.Alike.{AreAlike}
use Rattle.marked_texts_say.specs.Outlined.{CanOutline, IsWithoutWord}
use Rattle.marked_texts_say.proofs.SameTrees.{say_the_same}

-- ---- what is known of tokens by their kinds and characters

IsWordless : ℕ → List (TokenKind × List ℕ) → Type 0
IsWordless depth [] = Unit {0}
IsWordless depth (x ∷ xs) = ((depth == 0 && is_section_word x.0 x.1) ≡ false) × IsWordless (braces_behind depth x.0) xs

depth_in : ℕ → List (TokenKind × List ℕ) → ℕ
depth_in depth [] = depth
depth_in depth (x ∷ xs) = depth_in (braces_behind depth x.0) xs

held_in : Bool → List (TokenKind × List ℕ) → Bool
held_in held [] = held
held_in held (x ∷ xs) = held_in (holds_name x.0) xs

has_bad : List (TokenKind × List ℕ) → Bool
has_bad xs = list_any (λ (x : TokenKind × List ℕ). is_bad x.0) xs

wordless : (cs : List ℕ) (depth : ℕ) (ts : List Token) → IsWithoutWord cs depth ts → IsWordless depth (map (kind_and_characters cs) ts)
unfolding IsWordless
wordless cs depth [] h = tt
wordless cs depth (t ∷ ts) h = (h.0, wordless cs (braces_behind depth t.kind) ts h.1)

depth_shown : (cs : List ℕ) (depth : ℕ) (ts : List Token) → depth_in depth (map (kind_and_characters cs) ts) ≡ depth_behind depth ts
unfolding depth_in
depth_shown cs depth [] = refl
depth_shown cs depth (t ∷ ts) = depth_shown cs (braces_behind depth t.kind) ts

held_shown : (cs : List ℕ) (held : Bool) (ts : List Token) → held_in held (map (kind_and_characters cs) ts) ≡ held_behind held ts
unfolding held_in
held_shown cs held [] = refl
held_shown cs held (t ∷ ts) = held_shown cs (holds_name t.kind) ts

bad_shown : (cs : List ℕ) (ts : List Token) → has_bad (map (kind_and_characters cs) ts) ≡ list_any (λ (t : Token). is_bad t.kind) ts
unfolding has_bad
bad_shown cs [] = refl
bad_shown cs (t ∷ ts) = ap (λ (b : Bool). is_bad t.kind || b) (bad_shown cs ts)

-- ---- the same with marks between them

-- the first token is a mark, or another one
by_first : (cs : List ℕ) (t : Token) (ts : List Token) (P : List Token → Type 0) → ((is_mark t.kind ≡ true) → P (without_marks ts))
    → (is_mark t.kind ≡ false → P (t ∷ without_marks ts)) → P (without_marks (t ∷ ts))
by_first cs t ts P marked other = by (is_mark t.kind) marked other
  where
    by : (b : Bool) → (b ≡ true → P (without_marks ts)) → (b ≡ false → P (t ∷ without_marks ts)) → P (if b then without_marks ts else t ∷ without_marks ts)
    by true marked other = marked refl
    by false marked other = other refl

no_section : (cs : List ℕ) (depth : ℕ) (held : Bool) (t : Token) (ts : List Token) (rest : Option ℕ) → (depth == 0 && is_section_name cs t) ≡ false
    → (if may_begin cs depth held t && begins_with_colon ts then Some t.start else rest) ≡ rest
no_section cs depth held t ts rest none = rw (never (depth == 0) (not held) (is_section_name cs t) (begins_with_colon ts) none) refl
  where
    never : (a b c d : Bool) → (a && c) ≡ false → ((a && b && c) && d) ≡ false
    never false b c d e = refl
    never true false c d e = refl
    never true true false d e = refl
    never true true true d e = cc

mark_begins_none : (cs : List ℕ) (depth : ℕ) (t : Token) → is_mark t.kind ≡ true → (depth == 0 && is_section_name cs t) ≡ false
mark_begins_none cs depth t marked = rw (mark_kind t.kind marked) (both_false (depth == 0))
  where
    both_false : (b : Bool) → (b && false) ≡ false
    both_false true = refl
    both_false false = refl

mark_keeps_depth : (depth : ℕ) (t : Token) → is_mark t.kind ≡ true → braces_behind depth t.kind ≡ depth
mark_keeps_depth depth t marked = rw (mark_kind t.kind marked) refl

mark_holds_none : (t : Token) → is_mark t.kind ≡ true → holds_name t.kind ≡ false
mark_holds_none t marked = rw (mark_kind t.kind marked) refl

mark_is_good : (t : Token) → is_mark t.kind ≡ true → is_bad t.kind ≡ false
mark_is_good t marked = rw (mark_kind t.kind marked) refl

-- no section begins among them
none_begins : (cs : List ℕ) (depth : ℕ) (held : Bool) (ts : List Token) → IsWordless depth (map (kind_and_characters cs) (without_marks ts)) → section_behind cs depth held ts ≡ None
unfolding IsWordless
none_begins cs depth held [] h = refl
none_begins cs depth held (t ∷ ts) h =
    by_first cs t ts (λ us. IsWordless depth (map (kind_and_characters cs) us) → section_behind cs depth held (t ∷ ts) ≡ None)
    (λ marked rest. no_section cs depth held t ts _ (mark_begins_none cs depth t marked)
    ∙ none_begins cs (braces_behind depth t.kind) (holds_name t.kind) ts
    (subst (λ (d : ℕ). IsWordless d (map (kind_and_characters cs) (without_marks ts))) (sym (mark_keeps_depth depth t marked)) rest))
    (λ other all. no_section cs depth held t ts _ all.0 ∙ none_begins cs (braces_behind depth t.kind) (holds_name t.kind) ts all.1)
    h

same_depth : (cs : List ℕ) (depth : ℕ) (ts : List Token) → depth_behind depth ts ≡ depth_in depth (map (kind_and_characters cs) (without_marks ts))
unfolding depth_in
same_depth cs depth [] = refl
same_depth cs depth (t ∷ ts) =
    by_first cs t ts (λ us. depth_behind depth (t ∷ ts) ≡ depth_in depth (map (kind_and_characters cs) us))
    (λ marked. same_depth cs (braces_behind depth t.kind) ts ∙ ap (λ (d : ℕ). depth_in d (map (kind_and_characters cs) (without_marks ts))) (mark_keeps_depth depth t marked))
    (λ other. same_depth cs (braces_behind depth t.kind) ts)

held_free : (held : Bool) (xs : List (TokenKind × List ℕ)) → held_in held xs ≡ false → held_in false xs ≡ false
unfolding held_in
held_free held [] h = refl
held_free held (x ∷ xs) h = h

same_held : (cs : List ℕ) (held : Bool) (ts : List Token) → held_in held (map (kind_and_characters cs) (without_marks ts)) ≡ false → held_behind held ts ≡ false
unfolding held_in
same_held cs held [] h = h
same_held cs held (t ∷ ts) h =
    by_first cs t ts (λ us. held_in held (map (kind_and_characters cs) us) ≡ false → held_behind held (t ∷ ts) ≡ false)
    (λ marked rest. same_held cs (holds_name t.kind) ts
    (ap (λ (b : Bool). held_in b (map (kind_and_characters cs) (without_marks ts))) (mark_holds_none t marked)
    ∙ held_free held (map (kind_and_characters cs) (without_marks ts)) rest))
    (λ other rest. same_held cs (holds_name t.kind) ts rest)
    h

same_bad : (cs : List ℕ) (ts : List Token) → has_bad (map (kind_and_characters cs) (without_marks ts)) ≡ false → list_any (λ (t : Token). is_bad t.kind) ts ≡ false
unfolding has_bad
same_bad cs [] h = refl
same_bad cs (t ∷ ts) h =
    by_first cs t ts (λ us. has_bad (map (kind_and_characters cs) us) ≡ false → list_any (λ (u : Token). is_bad u.kind) (t ∷ ts) ≡ false)
    (λ marked rest. ap (λ (b : Bool). b || list_any (λ (u : Token). is_bad u.kind) ts) (mark_is_good t marked) ∙ same_bad cs ts rest)
    (λ other rest.
    let parts = neither (is_bad t.kind) (has_bad (map (kind_and_characters cs) (without_marks ts))) rest in
    ap (λ (b : Bool). b || list_any (λ (u : Token). is_bad u.kind) ts) parts.0 ∙ same_bad cs ts parts.1)
    h

-- ---- the text with its marks

same_shown : (cs ds : List ℕ) (us : List Token) → map (token_characters cs) us ≡ map (token_characters ds) us → map (kind_and_characters cs) us ≡ map (kind_and_characters ds) us
same_shown cs ds [] e = refl
same_shown cs ds (u ∷ us) e =
    let head : token_characters cs u ≡ token_characters ds u = cc in
    let tail : map (token_characters cs) us ≡ map (token_characters ds) us = cc in
    ap (λ (text : List ℕ). (u.kind, text) ∷ map (kind_and_characters cs) us) head
    ∙ ap (λ (xs : List (TokenKind × List ℕ)). kind_and_characters ds u ∷ xs) (same_shown cs ds us tail)

-- it has no section
marked_without_section : (cs : List ℕ) (ts : List Token) (ms : List (ℕ × ℕ)) (taken : MarkedText) → CanOutline cs ts → CanPut cs ts 0 ms
    → (takes : TakesMarks (with_marks cs ms) taken) → IsWithoutSection (with_marks cs ms) takes.tokens
marked_without_section cs ts ms taken can puts takes =
    let back : GivesBack cs ts ms taken = put_and_taken cs ts ms taken can.reads can.bare puts takes in
    let us : List Token = without_marks takes.tokens in
    let shown : map (kind_and_characters (with_marks cs ms)) us ≡ map (kind_and_characters cs) ts =
    sym (same_shown (owned_codes taken.bare) (with_marks cs ms) us takes.characters) ∙ back.tokens us takes.others in
    record {
      reads = takes.reads;
      good = same_bad (with_marks cs ms) takes.tokens (ap has_bad shown ∙ bad_shown cs ts ∙ can.good);
      none = none_begins (with_marks cs ms) 0 true takes.tokens
          (subst (λ (xs : List (TokenKind × List ℕ)). IsWordless 0 xs) (sym shown) (wordless cs 0 ts can.no_word));
      closed = same_depth (with_marks cs ms) 0 takes.tokens ∙ ap (depth_in 0) shown ∙ depth_shown cs 0 ts ∙ can.closed;
      free = same_held (with_marks cs ms) true takes.tokens (ap (held_in true) shown ∙ held_shown cs true ts ∙ can.free);
    }

-- ---- a line feed behind a text

characters_before_line : (cs : List ℕ) (from : ℕ) (ts : List Token) → ReadsAs cs from ts → map (kind_and_characters (cs ++ 10 ∷ [])) ts ≡ map (kind_and_characters cs) ts
characters_before_line cs from [] r = refl
characters_before_line cs from (t ∷ ts) r =
    let inside : t.end ≤ length cs = r.2.inside in
    let lo : t.start ≤ t.end = spells_from cs t.start t.end t.kind r.2.spelled in
    let all = length-append cs (10 ∷ []) in
    let here : token_characters (cs ++ 10 ∷ []) t ≡ token_characters cs t =
    sym (part_moved cs (cs ++ 10 ∷ []) t.start t.end t.start t.end lo inside (omega arith) refl (moved_there cs [] t.start t.end inside)) in
    ap (λ (text : List ℕ). (t.kind, text) ∷ map (kind_and_characters (cs ++ 10 ∷ [])) ts) here
    ∙ ap (λ (xs : List (TokenKind × List ℕ)). kind_and_characters cs t ∷ xs) (elim (last_or_more t.kind r.3) [
      | inl none ↦ rw none refl
      | inr more ↦ characters_before_line cs t.end ts more
    ])

-- ---- all of it

-- what is said, and the marks
pub outlined_say_the_same : (l : Language) (cs more : List ℕ) (ts us : List Token) (ms : List (ℕ × ℕ)) (taken : MarkedText) (split : OutlinedText)
    → CanOutline cs ts → CanPut cs ts 0 ms → IsSectionText more us → TakesMarks (with_marks cs ms) taken → IsSplit (with_marks cs ms ++ 10 ∷ more) split
    → (split.section ≡ Some (length (with_marks cs ms) + 1)) × (map number_and_tokens split.marks.items ≡ map (put_number_and_tokens ts) ms)
    × ((tree : Entity ℕ) → Says l cs tree ↔ Says l (owned_codes split.front) tree)
outlined_say_the_same l cs more ts us ms taken split can puts section takes apart =
    let back : GivesBack cs ts ms taken = put_and_taken cs ts ms taken can.reads can.bare puts takes in
    let vs : List Token = without_marks takes.tokens in
    let bare : List ℕ = owned_codes taken.bare in
    let parts = appended_split (with_marks cs ms) more takes.tokens us split taken (marked_without_section cs ts ms taken can puts takes) section apart takes in
    let shown : map (kind_and_characters bare) vs ≡ map (kind_and_characters cs) ts = back.tokens vs takes.others in
    let good : list_any (λ (t : Token). is_bad t.kind) vs ≡ false = sym (bad_shown bare vs) ∙ ap has_bad shown ∙ bad_shown cs ts ∙ can.good in
    let all : length (bare ++ 10 ∷ []) ≡ length bare + 1 = length-append bare (10 ∷ []) in
    let gap : IsGap (bare ++ 10 ∷ []) (length bare) (length (bare ++ 10 ∷ [])) =
    λ k lo hi. (let one : k ≡ length bare = omega arith in rw (one, get_or-append_seam bare 10 [] 0) refl) in
    let reads : ReadsAs (bare ++ 10 ∷ []) 0 vs = subst (λ (ws : List Token). ReadsAs (bare ++ 10 ∷ []) 0 ws) (append-nil vs)
    (reads_both bare [] 0 vs [] (omega arith) takes.others good gap) in
    let alike : AreAlike cs ts (owned_codes split.front) vs = subst (λ (xs : List ℕ). AreAlike cs ts xs vs) (sym parts.2)
    (record { first = can.reads; second = reads; same = characters_before_line bare 0 vs takes.others ∙ shown }) in
    (parts.0, ap (map number_and_tokens) parts.1 ∙ back.marks, say_the_same l cs (owned_codes split.front) ts vs alike)
