-- A section behind a text is split off.
use Rattle.std.proofs.Common.{Bool, ◌≡◌, ℕ, ◌+◌, ◌≤◌, inl, inr, List, [], ◌∷◌, ◌++◌, Option, Some, None, length, map, get_or, slice_index, take, true, false, ◌&&◌, arith, refl, sym, ◌∙◌, ap, subst, append-nil, length-append}
use Rattle.std.specs.Prelude.{◌==◌, if◌then◌else◌, not}
use Rattle.std.specs.List.{list_any}
use Rattle.std.specs.Option.{option_map}
use Rattle.std.proofs.lemmas.Bool.{cases_Bool, cases_lt}
use Rattle.std.proofs.lemmas.List.{ext_get_or, take_at, take_more}
use Rattle.std.proofs.Math.Seq.{get_or-append_seam}
use Rattle.ir_characters.specs.Texts.{owned_codes}
use Rattle.ir_tokens.specs.declared.tokens.Token.{Token}
use Rattle.ir_tokens.specs.Tokens.{is_bad, IsGap, ReadsAs}
use Rattle.ir_tokens.proofs.TokenUnique.{one_reading_lem}
use Rattle.text_marking.specs.declared.taking.MarkedText.{MarkedText}
use Rattle.text_marking.specs.Marks.{marks_of, token_characters}
use Rattle.text_marking.specs.Taking.{is_in_mark, TakesMarks}
use Rattle.text_marking.proofs.Moved.{part_moved, spells_from}
use Rattle.text_marking.proofs.Separated.{hits_behind, last_or_more, not_behind}
use Rattle.outlined_texts.specs.declared.splitting.OutlinedText.{OutlinedText}
use Rattle.outlined_texts.specs.Appended.{depth_behind, held_behind, IsSectionText, IsWithoutSection}
use Rattle.outlined_texts.specs.Sections.{begins_with_colon, braces_behind, front_of, holds_name, is_section_name, is_section_word, may_begin, section_behind, section_of}
use Rattle.outlined_texts.specs.Splits.{IsSplit}
use Rattle.outlined_texts.proofs.KeptTokens.{marks_of_front}
use Rattle.outlined_texts.proofs.Lines.{before_line, behind_first, moved_there, reads_both, reads_shifted, shifted}

-- ---- the section, by the tokens of both texts

-- what is found among the first tokens and those behind them, where nothing is among the first
choice : (cs whole : List ℕ) (depth : ℕ) (held : Bool) (t : Token) (ts vs : List Token) (rest rest' : Option ℕ) → is_section_name whole t ≡ is_section_name cs t
    → begins_with_colon (ts ++ vs) ≡ begins_with_colon ts → (if may_begin cs depth held t && begins_with_colon ts then Some t.start else rest) ≡ None
    → (rest ≡ None) × ((if may_begin whole depth held t && begins_with_colon (ts ++ vs) then Some t.start else rest') ≡ rest')
choice cs whole depth held t ts vs rest rest' name colon none = by (may_begin cs depth held t && begins_with_colon ts) same none
  where
    same : (may_begin whole depth held t && begins_with_colon (ts ++ vs)) ≡ (may_begin cs depth held t && begins_with_colon ts)
    same = ap (λ (b : Bool). ((depth == 0) && not held && b) && begins_with_colon (ts ++ vs)) name ∙ ap (λ (b : Bool). may_begin cs depth held t && b) colon

    by : (b : Bool) → (may_begin whole depth held t && begins_with_colon (ts ++ vs)) ≡ b → (if b then Some t.start else rest) ≡ None
        → (rest ≡ None) × ((if may_begin whole depth held t && begins_with_colon (ts ++ vs) then Some t.start else rest') ≡ rest')
    by true e h = absurd (let no : Some t.start ≡ None = h in cc)
    by false e h = (h, rw e refl)

colon_first : (ts vs : List Token) → begins_with_colon vs ≡ false → begins_with_colon (ts ++ vs) ≡ begins_with_colon ts
colon_first [] vs other = other
colon_first (t ∷ ts) vs other = refl

-- behind tokens among which none begins it, it is where it is among the others
section_later : (cs more : List ℕ) (from depth : ℕ) (held : Bool) (ts vs : List Token) → ReadsAs cs from ts → section_behind cs depth held ts ≡ None
    → begins_with_colon vs ≡ false
    → section_behind (cs ++ 10 ∷ more) depth held (ts ++ vs) ≡ section_behind (cs ++ 10 ∷ more) (depth_behind depth ts) (held_behind held ts) vs
section_later cs more from depth held [] vs r none other = refl
section_later cs more from depth held (t ∷ ts) vs r none other =
    let inside : t.end ≤ length cs = r.2.inside in
    let lo : t.start ≤ t.end = spells_from cs t.start t.end t.kind r.2.spelled in
    let all = length-append cs (10 ∷ more) in
    let characters : token_characters (cs ++ 10 ∷ more) t ≡ token_characters cs t =
    sym (part_moved cs (cs ++ 10 ∷ more) t.start t.end t.start t.end lo inside (omega arith) refl (moved_there cs more t.start t.end inside)) in
    let name : is_section_name (cs ++ 10 ∷ more) t ≡ is_section_name cs t = ap (is_section_word t.kind) characters in
    let chosen = choice cs (cs ++ 10 ∷ more) depth held t ts vs _ _ name (colon_first ts vs other) none in
    chosen.1 ∙ elim (last_or_more t.kind r.3) [
      | inl last ↦ rw last refl
      | inr rest ↦ section_later cs more t.end (braces_behind depth t.kind) (holds_name t.kind) ts vs rest chosen.0 other
    ]

colon_shifted : (n : ℕ) (us : List Token) → begins_with_colon (map (shifted n) us) ≡ begins_with_colon us
colon_shifted n [] = refl
colon_shifted n (u ∷ us) = refl

further : (n : ℕ) (a b : Bool) (start : ℕ) (rest rest' : Option ℕ) → a ≡ b → rest' ≡ option_map (λ k. n + k) rest
    → (if a then Some (n + start) else rest') ≡ option_map (λ k. n + k) (if b then Some start else rest)
further n a true start rest rest' same more = rw same refl
further n a false start rest rest' same more = rw same more

-- in a text behind another the section is as much further on
section_shifted : (cs ss : List ℕ) (from depth : ℕ) (held : Bool) (us : List Token) → ReadsAs ss from us
    → section_behind (cs ++ ss) depth held (map (shifted (length cs)) us) ≡ option_map (λ k. length cs + k) (section_behind ss depth held us)
section_shifted cs ss from depth held [] r = refl
section_shifted cs ss from depth held (u ∷ us) r =
    let inside : u.end ≤ length ss = r.2.inside in
    let lo : u.start ≤ u.end = spells_from ss u.start u.end u.kind r.2.spelled in
    let all = length-append cs ss in
    let characters : token_characters (cs ++ ss) (shifted (length cs) u) ≡ token_characters ss u =
    sym (part_moved ss (cs ++ ss) u.start u.end (length cs + u.start) (length cs + u.end) lo inside (omega arith) (omega arith) (behind_first cs ss u.start u.end)) in
    let name : is_section_name (cs ++ ss) (shifted (length cs) u) ≡ is_section_name ss u = ap (is_section_word u.kind) characters in
    let same : (may_begin (cs ++ ss) depth held (shifted (length cs) u) && begins_with_colon (map (shifted (length cs)) us)) ≡ (may_begin ss depth held u && begins_with_colon us) =
    ap (λ (b : Bool). ((depth == 0) && not held && b) && begins_with_colon (map (shifted (length cs)) us)) name
    ∙ ap (λ (b : Bool). may_begin ss depth held u && b) (colon_shifted (length cs) us) in
    further (length cs) _ _ u.start _ _ same
    (elim (last_or_more u.kind r.3) [
      | inl last ↦ rw last refl
      | inr more ↦ section_shifted cs ss u.end (braces_behind depth u.kind) (holds_name u.kind) us more
    ])

-- the tokens of a text with a section behind it
pub reads_appended : (cs more : List ℕ) (ts us : List Token) → IsWithoutSection cs ts → IsSectionText more us
    → ReadsAs (cs ++ 10 ∷ more) 0 (ts ++ map (shifted (length cs)) us)
reads_appended cs more ts us h g =
    let at : length cs + 0 ≡ length cs = omega arith in
    reads_both cs more 0 ts (map (shifted (length cs)) us) (omega arith) h.reads h.good
    (subst (λ (n : ℕ). ReadsAs (cs ++ 10 ∷ more) n (map (shifted (length cs)) us)) at (reads_shifted cs (10 ∷ more) 0 us g.reads))

-- its section begins behind the line feed
section_appended : (cs more : List ℕ) (ts us : List Token) → IsWithoutSection cs ts → IsSectionText more us
    → section_of (cs ++ 10 ∷ more) (ts ++ map (shifted (length cs)) us) ≡ Some (length cs + 1)
section_appended cs more ts us h g =
    section_later cs more 0 0 true ts (map (shifted (length cs)) us) h.reads h.none (colon_shifted (length cs) us ∙ g.no_colon)
    ∙ ap (λ (d : ℕ). section_behind (cs ++ 10 ∷ more) d (held_behind true ts) (map (shifted (length cs)) us)) h.closed
    ∙ ap (λ (b : Bool). section_behind (cs ++ 10 ∷ more) 0 b (map (shifted (length cs)) us)) h.free
    ∙ section_shifted cs (10 ∷ more) 0 0 false us g.reads
    ∙ ap (option_map (λ k. length cs + k)) g.begins

-- ---- a line feed behind a text

with_line : (cs more : List ℕ) → take (length cs + 1) (cs ++ 10 ∷ more) ≡ cs ++ 10 ∷ []
with_line cs more =
    let all = length-append cs (10 ∷ more) in
    take_more (cs ++ 10 ∷ more) (length cs) 0 (omega arith)
    ∙ ap (λ (xs : List ℕ). xs ++ get_or (cs ++ 10 ∷ more) (length cs) 0 ∷ []) (take_at cs (10 ∷ more) (length cs) refl)
    ∙ ap (λ (c : ℕ). cs ++ c ∷ []) (get_or-append_seam cs 10 more 0)

-- no place from the end of a text on is in one of its marks
none_past : (cs : List ℕ) (from : ℕ) (ts : List Token) (k : ℕ) → ReadsAs cs from ts → length cs ≤ k → is_in_mark ts k ≡ false
none_past cs from [] k r past = refl
none_past cs from (t ∷ ts) k r past =
    let inside : t.end ≤ length cs = r.2.inside in
    hits_behind t ts k (not_behind t k (omega arith)) ∙ elim (last_or_more t.kind r.3) [
      | inl none ↦ ap (λ us. is_in_mark us k) none
      | inr more ↦ none_past cs t.end ts k more past
    ]

-- A text with a line feed behind it has the same marks, and its bare text a line feed more.
pub line_behind : (cs : List ℕ) (ts : List Token) (a b : MarkedText) → ReadsAs cs 0 ts → list_any (λ (t : Token). is_bad t.kind) ts ≡ false
    → TakesMarks (cs ++ 10 ∷ []) a → TakesMarks cs b → (a.marks.items ≡ b.marks.items) × (owned_codes a.bare ≡ owned_codes b.bare ++ 10 ∷ [])
line_behind cs ts a b reads good h g =
    let all : length (cs ++ 10 ∷ []) ≡ length cs + 1 = length-append cs (10 ∷ []) in
    let gap : IsGap (cs ++ 10 ∷ []) (length cs) (length (cs ++ 10 ∷ [])) =
    λ k lo hi. (let one : k ≡ length cs = omega arith in rw (one, get_or-append_seam cs 10 [] 0) refl) in
    let both : ReadsAs (cs ++ 10 ∷ []) 0 ts = subst (λ (us : List Token). ReadsAs (cs ++ 10 ∷ []) 0 us) (append-nil ts)
    (reads_both cs [] 0 ts [] (omega arith) reads good gap) in
    let same_a : h.tokens ≡ ts = one_reading_lem (cs ++ 10 ∷ []) 0 h.tokens ts h.reads both in
    let same_b : g.tokens ≡ ts = one_reading_lem cs 0 g.tokens ts g.reads reads in
    let front : take (length cs) (cs ++ 10 ∷ []) ≡ cs = take_at cs (10 ∷ []) (length cs) refl in
    let marks : marks_of cs ts ≡ marks_of (cs ++ 10 ∷ []) ts =
    ap (λ (xs : List ℕ). marks_of xs ts) (sym front)
    ∙ marks_of_front (cs ++ 10 ∷ []) (length cs) 0 0 ts (omega arith) (subst (λ (xs : List ℕ). ReadsAs xs 0 ts) (sym front) reads) in
    let long_a : length (owned_codes a.bare) ≡ length (cs ++ 10 ∷ []) = h.bare.long in
    let long_b : length (owned_codes b.bare) ≡ length cs = g.bare.long in
    let both_long = length-append (owned_codes b.bare) (10 ∷ []) in
    let in_a : (k : ℕ) → is_in_mark h.tokens k ≡ is_in_mark ts k = λ k. ap (λ us. is_in_mark us k) same_a in
    let in_b : (k : ℕ) → is_in_mark g.tokens k ≡ is_in_mark ts k = λ k. ap (λ us. is_in_mark us k) same_b in (
      h.marks ∙ ap (marks_of (cs ++ 10 ∷ [])) same_a ∙ sym marks ∙ ap (marks_of cs) (sym same_b) ∙ sym g.marks,
      ext_get_or 0 (owned_codes a.bare) (owned_codes b.bare ++ 10 ∷ []) (omega arith) (λ k lt. elim (cases_lt k (length cs)) [
        | inl inside ↦ elim (cases_Bool (is_in_mark ts k)) [
          | inl marked ↦ h.bare.in_marks k (in_a k ∙ marked) ∙ sym (before_line (owned_codes b.bare) [] k (omega arith) ∙ g.bare.in_marks k (in_b k ∙ marked))
          | inr free ↦ h.bare.elsewhere k (in_a k ∙ free) ∙ before_line cs [] k inside
              ∙ sym (before_line (owned_codes b.bare) [] k (omega arith) ∙ g.bare.elsewhere k (in_b k ∙ free))
        ]
        | inr past ↦
            let one : k ≡ length cs = omega arith in
            let other : k ≡ length (owned_codes b.bare) = omega arith in
            h.bare.elsewhere k (in_a k ∙ none_past cs 0 ts k reads past) ∙ ap (slice_index (cs ++ 10 ∷ [])) one ∙ get_or-append_seam cs 10 [] 0
            ∙ sym (ap (slice_index (owned_codes b.bare ++ 10 ∷ [])) other ∙ get_or-append_seam (owned_codes b.bare) 10 [] 0)
      ]),
    )

-- ---- both

pub appended_split : (cs more : List ℕ) (ts us : List Token) (split : OutlinedText) (taken : MarkedText) → IsWithoutSection cs ts → IsSectionText more us
    → IsSplit (cs ++ 10 ∷ more) split → TakesMarks cs taken
    → (split.section ≡ Some (length cs + 1)) × (split.marks.items ≡ taken.marks.items) × (owned_codes split.front ≡ owned_codes taken.bare ++ 10 ∷ [])
appended_split cs more ts us split taken h g apart takes =
    let tokens : apart.tokens ≡ ts ++ map (shifted (length cs)) us =
    one_reading_lem (cs ++ 10 ∷ more) 0 apart.tokens (ts ++ map (shifted (length cs)) us) apart.reads (reads_appended cs more ts us h g) in
    let section : split.section ≡ Some (length cs + 1) = apart.section ∙ ap (section_of (cs ++ 10 ∷ more)) tokens ∙ section_appended cs more ts us h g in
    let front : front_of split.section (cs ++ 10 ∷ more) ≡ cs ++ 10 ∷ [] = ap (λ (s : Option ℕ). front_of s (cs ++ 10 ∷ more)) section ∙ with_line cs more in
    let both = line_behind cs ts (record { bare = split.front; marks = split.marks }) taken h.reads h.good
    (subst (λ (xs : List ℕ). TakesMarks xs (record { bare = split.front; marks = split.marks })) front apart.taken) takes in
    (section, both.0, both.1)
