-- The parts of a text have its tokens before the section.
use Rattle.std.proofs.Common.{◌≡◌, ℕ, ◌+◌, ◌<◌, ◌≤◌, inl, inr, Bool, true, false, List, [], ◌∷◌, Option, Some, None, length, map, take, arith, refl, ◌∙◌, ap, subst}
use Rattle.std.specs.Prelude.{if◌then◌else◌, slice_range}
use Rattle.std.proofs.lemmas.List.{get_or-take, length-take-le}
use Rattle.ir_characters.specs.Texts.{owned_codes}
use Rattle.ir_tokens.specs.declared.tokens.Token.{Token}
use Rattle.ir_tokens.specs.Tokens.{ReadsAs}
use Rattle.ir_tokens.proofs.TokenSteps.{spells_after}
use Rattle.ir_tokens.proofs.TokenUnique.{one_reading_lem}
use Rattle.text_marking.specs.declared.taking.Mark.{Mark}
use Rattle.text_marking.specs.Marks.{is_mark, mark_of, marks_behind, marks_of, number_in_64_bits, token_characters, without_marks}
use Rattle.text_marking.proofs.Moved.{part_moved, spells_from}
use Rattle.text_marking.proofs.Separated.{last_or_more, mark_not_bad}
use Rattle.outlined_texts.specs.declared.splitting.OutlinedText.{OutlinedText}
use Rattle.outlined_texts.specs.Sections.{front_of, section_of, tokens_before}
use Rattle.outlined_texts.specs.Splits.{IsSplit, KeepsTokens}
use Rattle.outlined_texts.proofs.Fronts.{section_inside}

range_of_front : (cs : List ℕ) (many i j : ℕ) → many ≤ length cs → i ≤ j → j ≤ many → slice_range (take many cs) i j ≡ slice_range cs i j
range_of_front cs many i j le lo hi =
    let long : length (take many cs) ≡ many = length-take-le many cs le in
    part_moved (take many cs) cs i j i j lo (omega arith) (omega arith) refl
    (λ k k' from to at. let one : k' ≡ k = omega arith in rw one (get_or-take many cs k 0 (omega arith)))

mark_of_front : (cs : List ℕ) (many others : ℕ) (t : Token) → many ≤ length cs → t.start + 1 ≤ t.end → t.end ≤ many
    → mark_of (take many cs) others t ≡ mark_of cs others t
mark_of_front cs many others t le lo hi =
    let with_digits : List ℕ → Mark = λ digits. record { start = t.start; number = number_in_64_bits digits; tokens_before = others } in
    ap with_digits (range_of_front cs many (t.start + 1) t.end le lo hi)

-- a front of a text has the marks of the text among its tokens
pub marks_of_front : (cs : List ℕ) (many others from : ℕ) (ts : List Token) → many ≤ length cs → ReadsAs (take many cs) from ts
    → marks_behind (take many cs) others ts ≡ marks_behind cs others ts
marks_of_front cs many others from [] le r = refl
marks_of_front cs many others from (t ∷ ts) le r = by (is_mark t.kind) refl
    (λ n. elim (last_or_more t.kind r.3) [
      | inl none ↦ rw none refl
      | inr more ↦ marks_of_front cs many n t.end ts le more
    ])
  where
    by : (b : Bool) → is_mark t.kind ≡ b → ((n : ℕ) → marks_behind (take many cs) n ts ≡ marks_behind cs n ts)
        → (if b then mark_of (take many cs) others t ∷ marks_behind (take many cs) others ts else marks_behind (take many cs) (others + 1) ts)
        ≡ (if b then mark_of cs others t ∷ marks_behind cs others ts else marks_behind cs (others + 1) ts)
    by true e rest =
        let some : t.start < t.end = spells_after (take many cs) t.start t.end t.kind r.2.spelled (mark_not_bad t.kind e) in
        let inside : t.end ≤ length (take many cs) = r.2.inside in
        let long : length (take many cs) ≡ many = length-take-le many cs le in
        ap (λ (m : Mark). m ∷ marks_behind (take many cs) others ts) (mark_of_front cs many others t le (omega arith) (omega arith))
        ∙ ap (λ (ms : List Mark). mark_of cs others t ∷ ms) (rest others)
    by false e rest = rest (others + 1)

-- and the characters of the others
characters_of_front : (cs : List ℕ) (many from : ℕ) (ts : List Token) → many ≤ length cs → ReadsAs (take many cs) from ts
    → map (token_characters (take many cs)) (without_marks ts) ≡ map (token_characters cs) (without_marks ts)
characters_of_front cs many from [] le r = refl
characters_of_front cs many from (t ∷ ts) le r = by (is_mark t.kind)
    (elim (last_or_more t.kind r.3) [
      | inl none ↦ rw none refl
      | inr more ↦ characters_of_front cs many t.end ts le more
    ])
  where
    by : (b : Bool) → map (token_characters (take many cs)) (without_marks ts) ≡ map (token_characters cs) (without_marks ts)
        → map (token_characters (take many cs)) (if b then without_marks ts else t ∷ without_marks ts)
        ≡ map (token_characters cs) (if b then without_marks ts else t ∷ without_marks ts)
    by true rest = rest
    by false rest =
        let inside : t.end ≤ length (take many cs) = r.2.inside in
        let long : length (take many cs) ≡ many = length-take-le many cs le in
        let lo = spells_from (take many cs) t.start t.end t.kind r.2.spelled in
        ap (λ (x : List ℕ). x ∷ map (token_characters (take many cs)) (without_marks ts)) (range_of_front cs many t.start t.end le lo (omega arith))
        ∙ ap (λ (xs : List (List ℕ)). token_characters cs t ∷ xs) rest

-- the same of the text before a section
front_marks : (cs : List ℕ) (ts us : List Token) (section : Option ℕ) → ReadsAs cs 0 us → section ≡ section_of cs us → ReadsAs (front_of section cs) 0 ts
    → marks_of (front_of section cs) ts ≡ marks_of cs ts
front_marks cs ts us None reads is r = refl
front_marks cs ts us (Some start) reads is r = marks_of_front cs start 0 0 ts (section_inside cs us (Some start) reads is) r

front_characters : (cs : List ℕ) (ts us : List Token) (section : Option ℕ) → ReadsAs cs 0 us → section ≡ section_of cs us → ReadsAs (front_of section cs) 0 ts
    → map (token_characters (front_of section cs)) (without_marks ts) ≡ map (token_characters cs) (without_marks ts)
front_characters cs ts us None reads is r = refl
front_characters cs ts us (Some start) reads is r = characters_of_front cs start 0 ts (section_inside cs us (Some start) reads is) r

-- What is before the section of a text has the text's tokens.
pub keeps_tokens : (cs : List ℕ) (ts : List Token) (split : OutlinedText) → ReadsAs cs 0 ts → IsSplit cs split → KeepsTokens cs ts split
keeps_tokens cs ts split reads h =
    let all : h.tokens ≡ ts = one_reading_lem cs 0 h.tokens ts h.reads reads in
    let front : List ℕ = front_of split.section cs in
    let before : ReadsAs front 0 (tokens_before split.section ts) =
    subst (λ (us : List Token). ReadsAs (front_of split.section cs) 0 (tokens_before split.section us)) all h.before in
    let same : h.taken.tokens ≡ tokens_before split.section ts =
    one_reading_lem front 0 h.taken.tokens (tokens_before split.section ts) h.taken.reads before in
    let section : split.section ≡ section_of cs ts = h.section ∙ ap (section_of cs) all in
    record {
      marks = h.taken.marks ∙ ap (marks_of front) same ∙ front_marks cs (tokens_before split.section ts) ts split.section reads section before;
      tokens = subst (λ (us : List Token). ReadsAs (owned_codes split.front) 0 (without_marks us)) same h.taken.others;
      characters = subst (λ (us : List Token). map (token_characters (owned_codes split.front)) (without_marks us) ≡ map (token_characters front) (without_marks us)) same h.taken.characters
          ∙ front_characters cs (tokens_before split.section ts) ts split.section reads section before;
    }
