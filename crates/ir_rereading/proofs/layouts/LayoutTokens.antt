-- The characters of a layout are its tokens.
use Rattle.std.proofs.Common.{◌≡◌, ℕ, zero, suc, ◌+◌, Bool, true, false, ◌&&◌, ◌||◌, List, [], ◌∷◌, ◌++◌, map, take, drop, replicate, Option, Some, None, slice_get, refl, sym, ap, ◌∙◌, subst, arith, ◌==◌, if◌then◌else◌}
use Rattle.std.specs.List.{list_all}
use Rattle.std.specs.Fmt.{decimal}
use Rattle.std.specs.Str.{IsAscii, IsUtf8, chars, all_scalars, encode_utf8_all}
use Rattle.std.proofs.lemmas.Str.{IsUtf8-from_ascii, chars-IsAscii, IsUtf8-append, IsUtf8-nil, chars-append, chars-encodes, chars-nil}
use Rattle.std.proofs.lemmas.Str.Ascii.{IsAscii-nil, IsAscii-cons}
use Rattle.ir_names.specs.Tree.{node, no_tree, a_tree}
use Rattle.ir_names.specs.Text.{is_identifier}
use Rattle.ir_print.specs.Formats as step
use Rattle.ir_print.specs.Formats.{Formats, Kind, Step, Steps, no_steps, Choices, no_choice, a_choice, alternative, kinds_of}
use Rattle.ir_print.specs.Layout.{Before, an_id, a_word, a_part, gap_of_word, gap_of_part, line, number_text, width_text, mark_text, escaped, in_quotes, spell}
use Rattle.ir_print.specs.Pieces.{value_of_kind, list, item, chosen, operands, successor, region, Leaf, leaf, name, number, unsigned, width, quoted, mark, ValueTree, Pieces, Values, EntityHead, operation, a_region, block, Entity, entity, Entities, no_entity, an_entity}
use Rattle.ir_print.specs.Shapes.{parts_in, IsKnownOf, IsInRange, Fits, FitAll, FitMembers, FitsMember, FitArguments}
use Rattle.ir_grammar.specs.declared.grammar.Action.{Action}
use Rattle.ir_grammar.specs.declared.grammar.Action.TheVariants as act
use Rattle.ir_tokens.specs.declared.tokens.Token.{Token}
use Rattle.ir_tokens.specs.Tokens.{is_sign, ReadsAs}
use Rattle.ir_formats.specs.Words.{text_of}
use Rattle.ir_rereading.specs.Printable.{is_word, less_spaces, is_before_spaces, is_printed, begins_apart, ends_apart, BoundaryBefore, apart, behind, part, may_follow, may_take, is_step_apart, are_steps_apart, are_choices_apart, is_kind_printable, is_printable}
use Rattle.ir_forest.specs.Closed.{names_of, FitsHead, FitsTree, FitTrees}
use Rattle.ir_rereading.proofs.layouts.Marks.{Mark, white, token, word, one_leaf, did, chunks, characters, tokens, Marker, part_on, format_on, some_format_on, kind_on, more_members_on, members_on, piece_on, parts_on, type_on, more_names_on, names_on, results_on, operands_on, first_region_on, edge_on, all_parts_on, operation_head_on, argument_on, more_arguments_on, arguments_on, block_head_on, operation_on, regions_on, region_on, blocks_on, block_on, operations_on, more_operations_on, marks, kind_of_text, AreIdentifiers, IsSpeltHead, IsSpelt, AreSpelt}
use Rattle.ir_rereading.proofs.Alternatives.{known_along}
use Rattle.ir_rereading.proofs.layouts.Lexemes as lexemes
use Rattle.ir_rereading.proofs.layouts.Lexemes.{clash, ended, Lexes, placed_all, sign_low}
use Rattle.ir_rereading.proofs.layouts.PlainWords.{word_ascii}
use Rattle.ir_rereading.proofs.layouts.LexedWords.{Opens, Follows, IsLexeme, lexeme_text, lexeme_opens, quoted_opens, printed_ascii, sign_opens, sign_follows, blank_follows, spaces_open, identifier_is, number_is, mark_is, width_is, word_is, Behind, word_opens, word_clean}
use Rattle.ir_print.specs.declared.format.ValueSort.{ValueSort}
use Rattle.ir_print.specs.declared.format.ValueSort.TheVariants as sorts
use Rattle.ir_formats.proofs.Booleans.{both_hold}

-- ---- marks

-- these bytes are UTF-8, and spell the characters
abbrev pub AreCoded : (bytes cs : List ℕ) → Type 0
AreCoded bytes cs = IsUtf8 bytes × (chars bytes ≡ cs)

ascii_coded : (xs bytes cs : List ℕ) → IsAscii xs → AreCoded bytes cs → AreCoded (xs ++ bytes) (xs ++ cs)
ascii_coded xs bytes cs a h =
    let utf8 = IsUtf8-from_ascii xs a in
    (IsUtf8-append xs bytes utf8 h.0, chars-append xs bytes utf8 ∙ (ap (λ z. z ++ chars bytes) (chars-IsAscii xs a) ∙ ap (λ z. xs ++ z) h.1))

and_both : (a b : Bool) → a ≡ true → b ≡ true → a && b ≡ true
and_both true b e f = f
and_both false b e f = absurd (let t : false ≡ true = e in cc)

escaped_scalars : (q : List ℕ) → all_scalars q ≡ true → all_scalars (escaped q ++ 34 ∷ []) ≡ true
escaped_scalars [] h = refl
escaped_scalars (c ∷ q) h =
    let parts = both_hold _ _ h in
    go (c == 34 || c == 92) (and_both _ _ parts.0 (escaped_scalars q parts.1))
  where
    go : (b : Bool) → all_scalars (c ∷ (escaped q ++ 34 ∷ [])) ≡ true → all_scalars ((if b then 92 ∷ c ∷ escaped q else c ∷ escaped q) ++ 34 ∷ []) ≡ true
    go true e = e
    go false e = e

quoted_coded : (q bytes cs : List ℕ) → all_scalars q ≡ true → AreCoded bytes cs → AreCoded (encode_utf8_all (in_quotes q) ++ bytes) (in_quotes q ++ cs)
quoted_coded q bytes cs s h =
    let scalar : all_scalars (in_quotes q) ≡ true = escaped_scalars q s in
    let utf8 : IsUtf8 (encode_utf8_all (in_quotes q)) = (in_quotes q, (scalar, refl)) in
    (IsUtf8-append _ bytes utf8 h.0, chars-append _ bytes utf8 ∙ (ap (λ z. z ++ chars bytes) (chars-encodes (in_quotes q) scalar) ∙ ap (λ z. in_quotes q ++ z) h.1))

-- the bytes of the marks spell their characters
abbrev pub IsCoded : List Mark → Type 0
IsCoded ms = AreCoded (spell (chunks ms)) (characters ms)

sign_ascii : (c : ℕ) → is_sign c ≡ true → IsAscii (c ∷ [])
sign_ascii c h = IsAscii-cons c [] (sign_low c h) IsAscii-nil

spaces_ascii : (n : ℕ) → IsAscii (replicate n 32)
spaces_ascii zero = IsAscii-nil
spaces_ascii (suc n) = IsAscii-cons 32 (replicate n 32) (omega arith) (spaces_ascii n)

-- The characters of the marks are their tokens, and their bytes spell them.
pub record IsLexed (ms : List Mark) : Type 0 where
  pub opens : Opens (characters ms) (tokens ms)
  pub coded : IsCoded ms

-- The same, and they stop every token.
pub record IsNext (ms : List Mark) : Type 0 where
  pub follows : Follows (characters ms) (tokens ms)
  pub coded : IsCoded ms

loose : {ms : List Mark} → IsNext ms → IsLexed ms
loose k = record { opens = k.follows.opens; coded = k.coded }

done : {a : Action} {ms : List Mark} → IsNext ms → IsNext (did a ∷ ms)
done k = record { follows = k.follows; coded = k.coded }

acted : {a : Action} {ms : List Mark} → IsLexed ms → IsLexed (did a ∷ ms)
acted l = record { opens = l.opens; coded = l.coded }

lexeme : (x : List ℕ) {ms : List Mark} → IsLexeme x → IsNext ms → IsLexed (token x ∷ ms)
lexeme x t k = record { opens = lexeme_opens x t k.follows; coded = ascii_coded x _ _ (lexeme_text x t) k.coded }

signed : (c : ℕ) {ms : List Mark} → is_sign c ≡ true → IsLexed ms → IsNext (token (c ∷ []) ∷ ms)
signed c h l = record { follows = sign_follows c h l.opens; coded = ascii_coded (c ∷ []) _ _ (sign_ascii c h) l.coded }

spaced : {ms : List Mark} → IsLexed ms → IsNext (white (32 ∷ []) ∷ ms)
spaced l = record { follows = blank_follows 32 refl l.opens; coded = ascii_coded (32 ∷ []) _ _ (spaces_ascii 1) l.coded }

lined : (n : ℕ) {ms : List Mark} → IsLexed ms → IsNext (white (line n) ∷ ms)
lined n l = record {
  follows = blank_follows 10 refl (spaces_open n l.opens);
  coded = ascii_coded (line n) _ _ (IsAscii-cons 10 (replicate n 32) (omega arith) (spaces_ascii n)) l.coded;
}

unset : {ms : List Mark} → IsLexed ms → IsLexed (white [] ∷ ms)
unset l = record { opens = l.opens; coded = l.coded }

unset_next : {ms : List Mark} → IsNext ms → IsNext (white [] ∷ ms)
unset_next k = record { follows = k.follows; coded = k.coded }

-- a sign with a space behind it, as it is printed between two
sign_word : (c : ℕ) {ms : List Mark} → is_sign c ≡ true → IsLexed ms → IsNext (word (c ∷ 32 ∷ []) (c ∷ []) ∷ ms)
sign_word c h l = record {
  follows = sign_follows c h (blank_follows 32 refl l.opens).opens;
  coded = ascii_coded (c ∷ 32 ∷ []) _ _ (IsAscii-cons c (32 ∷ []) (sign_low c h) (spaces_ascii 1)) l.coded;
}

-- a sign with spaces around it
set_word : (c : ℕ) {ms : List Mark} → is_sign c ≡ true → IsLexed ms → IsNext (word (32 ∷ c ∷ 32 ∷ []) (c ∷ []) ∷ ms)
set_word c h l = record {
  follows = blank_follows 32 refl (sign_opens c h (blank_follows 32 refl l.opens).opens);
  coded = ascii_coded (32 ∷ c ∷ 32 ∷ []) _ _ (IsAscii-cons 32 (c ∷ 32 ∷ []) (omega arith) (IsAscii-cons c (32 ∷ []) (sign_low c h) (spaces_ascii 1))) l.coded;
}

-- what has to follow a word
abbrev WordNext : Bool → List Mark → Type 0
WordNext true ms = IsLexed ms
WordNext false ms = IsNext ms

word_coded : (b : Bool) (ms : List Mark) → WordNext b ms → IsCoded ms
word_coded true ms l = l.coded
word_coded false ms k = k.coded

word_next : (b : Bool) (ms : List Mark) → WordNext b ms → Behind b (characters ms) (tokens ms)
word_next true ms l = l.opens
word_next false ms k = k.follows

-- a word of a format
format_word : (printed text : List ℕ) (ms : List Mark) → is_printed printed text ≡ true → WordNext (ends_apart printed) ms → IsLexed (word printed text ∷ ms)
format_word printed text ms h w =
    let b = both_hold (is_word text) (is_before_spaces text (less_spaces printed)) h in
    record {
      opens = word_opens printed text _ _ b.0 b.1 (word_next (ends_apart printed) ms w);
      coded = ascii_coded printed _ _ (printed_ascii text printed (word_ascii text b.0) b.1) (word_coded (ends_apart printed) ms w);
    }

format_word_next : (printed text : List ℕ) (ms : List Mark) → is_printed printed text ≡ true → begins_apart printed ≡ true → WordNext (ends_apart printed) ms → IsNext (word printed text ∷ ms)
format_word_next printed text ms h a w =
    let b = both_hold (is_word text) (is_before_spaces text (less_spaces printed)) h in
    record {
      follows = record { opens = word_opens printed text _ _ b.0 b.1 (word_next (ends_apart printed) ms w); clean = word_clean printed text _ b.0 b.1 a };
      coded = ascii_coded printed _ _ (printed_ascii text printed (word_ascii text b.0) b.1) (word_coded (ends_apart printed) ms w);
    }

-- ---- formats

-- What is printed for a part is its tokens, before what stops every token.
abbrev pub IsMarked : Step → Option Marker → Type 0
IsMarked s None = Unit {0}
IsMarked s (Some p) = is_step_apart s ≡ true → (rest : List Mark) → IsNext rest → IsLexed (p s rest)

-- The same of parts at their steps, one each.
abbrev pub AreMarked : List Step → List (Option Marker) → Type 0
AreMarked [] [] = Unit {0}
AreMarked (s ∷ ss) (p ∷ ps) = IsMarked s p × AreMarked ss ps
AreMarked _ _ = ⊥

-- What has to come next in a format: behind a token that runs on it stops every token.
abbrev Owes : Before → BoundaryBefore → List Mark → Type 0
Owes an_id e ms = IsNext ms
Owes a_part part ms = IsNext ms
Owes a_part _ ms = IsLexed ms
Owes a_word (behind p) ms = WordNext (ends_apart p) ms
Owes a_word _ ms = IsLexed ms

word_of_next : (b : Bool) (ms : List Mark) → IsNext ms → WordNext b ms
word_of_next true ms k = loose k
word_of_next false ms k = k

owes_next : (before : Before) (edge : BoundaryBefore) (ms : List Mark) → IsNext ms → Owes before edge ms
owes_next an_id edge ms k = k
owes_next a_part apart ms k = loose k
owes_next a_part (behind p) ms k = loose k
owes_next a_part part ms k = k
owes_next a_word apart ms k = loose k
owes_next a_word (behind p) ms k = word_of_next (ends_apart p) ms k
owes_next a_word part ms k = loose k

take_after : (b : Bool) (ms : List Mark) → b ≡ true → IsLexed ms → WordNext b ms
take_after true ms h l = l
take_after false ms h l = absurd (let t : false ≡ true = h in cc)

-- a part that may stand here
owes_part : (before : Before) (edge : BoundaryBefore) (ms : List Mark) → may_take edge ≡ true → IsLexed ms → Owes before edge (white (gap_of_part before) ∷ ms)
owes_part an_id edge ms h l = spaced l
owes_part a_part apart ms h l = loose (spaced l)
owes_part a_part (behind p) ms h l = loose (spaced l)
owes_part a_part part ms h l = spaced l
owes_part a_word apart ms h l = unset l
owes_part a_word (behind p) ms h l = take_after (ends_apart p) _ h (unset l)
owes_part a_word part ms h l = unset l

-- no operands, where a part may stand
owes_none : (before : Before) (edge : BoundaryBefore) (ms : List Mark) → may_take edge ≡ true → Owes before part ms → Owes before edge (did act.BeginOperands ∷ did act.EndOperands ∷ ms)
owes_none an_id edge ms h k = done (done k)
owes_none a_part apart ms h k = loose (done (done k))
owes_none a_part (behind p) ms h k = loose (done (done k))
owes_none a_part part ms h k = done (done k)
owes_none a_word apart ms h l = acted (acted l)
owes_none a_word (behind p) ms h l = take_after (ends_apart p) _ h (acted (acted l))
owes_none a_word part ms h l = acted (acted l)

follow_after : (e b : Bool) (ms : List Mark) → (e || b) ≡ true → IsLexed ms → (b ≡ true → IsNext ms) → WordNext e ms
follow_after true b ms h l k = l
follow_after false b ms h l k = k h

-- a word that may stand here
owes_word : (before : Before) (edge : BoundaryBefore) (printed text : List ℕ) (ms : List Mark) → is_printed printed text ≡ true → may_follow edge printed ≡ true → WordNext (ends_apart printed) ms
    → Owes before edge (white (gap_of_word before) ∷ word printed text ∷ ms)
owes_word an_id edge printed text ms h m w = spaced (format_word printed text ms h w)
owes_word a_part apart printed text ms h m w = unset (format_word printed text ms h w)
owes_word a_part (behind p) printed text ms h m w = unset (format_word printed text ms h w)
owes_word a_part part printed text ms h m w = unset_next (format_word_next printed text ms h m w)
owes_word a_word apart printed text ms h m w = unset (format_word printed text ms h w)
owes_word a_word (behind p) printed text ms h m w =
    follow_after (ends_apart p) (begins_apart printed) _ m (unset (format_word printed text ms h w)) (λ b. unset_next (format_word_next printed text ms h b w))
owes_word a_word part printed text ms h m w = unset (format_word printed text ms h w)

-- the next part, or none
owes_step : (before : Before) (edge : BoundaryBefore) (s : Step) (ss : List Step) (ps : List (Option Marker)) (more : Before → List (Option Marker) → List Mark) → may_take edge ≡ true → is_step_apart s ≡ true
    → AreMarked (s ∷ ss) ps → ((b : Before) (qs : List (Option Marker)) → AreMarked ss qs → Owes b part (more b qs)) → Owes before edge (part_on before s ps more)
owes_step before edge s ss [] more h a m k = absurd m
owes_step before edge s ss (None ∷ ps) more h a m k = owes_none before edge _ h (k before ps m.1)
owes_step before edge s ss (Some p ∷ ps) more h a m k = owes_part before edge _ h (m.0 a _ (k a_part ps m.1))

-- what a format says
lex_format : (before : Before) (edge : BoundaryBefore) (ss : Steps) (ps : List (Option Marker)) (rest : List Mark) → are_steps_apart edge ss ≡ true → AreMarked (parts_in ss) ps → IsNext rest
    → Owes before edge (format_on before ss ps rest)
lex_format before edge no_steps ps rest h m k = owes_next before edge rest k
lex_format before edge (step.step (step.word printed text) ss) ps rest h m k =
    let b = both_hold (is_printed printed text && may_follow edge printed) (are_steps_apart (behind printed) ss) h in
    let c = both_hold (is_printed printed text) (may_follow edge printed) b.0 in
    owes_word before edge printed text _ c.0 c.1 (lex_format a_word (behind printed) ss ps rest b.1 m k)
lex_format before edge (step.step s ss) ps rest h m k =
    let b = both_hold (may_take edge && is_step_apart s) (are_steps_apart part ss) h in
    let c = both_hold (may_take edge) (is_step_apart s) b.0 in
    owes_step before edge s (parts_in ss) ps _ c.0 c.1 m (λ b2 qs g. lex_format b2 part ss qs rest b.1 g k)

-- what one of several formats says
lex_alternative : (cs : Choices) (n : ℕ) (ps : List (Option Marker)) (rest : List Mark) → are_choices_apart cs ≡ true → IsKnownOf (alternative cs n) (λ ss. AreMarked ss ps) → IsNext rest
    → IsLexed (some_format_on (alternative cs n) ps rest)
lex_alternative no_choice n ps rest a h k = absurd h
lex_alternative (a_choice ss cs) zero ps rest a h k = lex_format a_word apart ss ps rest (both_hold (are_steps_apart apart ss) (are_choices_apart cs) a).0 h k
lex_alternative (a_choice ss cs) (suc n) ps rest a h k = lex_alternative cs n ps rest (both_hold (are_steps_apart apart ss) (are_choices_apart cs) a).1 h k

-- a kind's id, and what its format says
lex_kind : (k : Kind) (begins ends : Action) (ps : List (Option Marker)) (rest : List Mark) → is_kind_printable k ≡ true → AreMarked (parts_in k.format) ps → IsNext rest
    → IsLexed (kind_on (Some k) begins ends ps rest)
lex_kind k begins ends ps rest h m n =
    let b = both_hold (is_word k.id) (are_steps_apart apart k.format) h in
    lexeme k.id (word_is k.id b.0) (done (lex_format an_id apart k.format ps _ b.1 m (done n)))

kind_at : (ks : List Kind) (n : ℕ) (k : Kind) → list_all is_kind_printable ks ≡ true → slice_get ks n ≡ Some k → is_kind_printable k ≡ true
kind_at [] zero k h e = absurd (let t : None ≡ Some k = e in cc)
kind_at [] (suc n) k h e = absurd (let t : None ≡ Some k = e in cc)
kind_at (j ∷ ks) zero k h e = let t : Some j ≡ Some k = e in let u : j ≡ k = cc in subst (λ x. is_kind_printable x ≡ true) u (both_hold (is_kind_printable j) (list_all is_kind_printable ks) h).0
kind_at (j ∷ ks) (suc n) k h e = kind_at ks n k (both_hold (is_kind_printable j) (list_all is_kind_printable ks) h).1 e

-- ---- lists

-- each member is printed as its tokens
abbrev EachMarked : Step → List (Option Marker) → Type 0
EachMarked s [] = Unit {0}
EachMarked s (None ∷ ps) = EachMarked s ps
EachMarked s (Some p ∷ ps) = ((rest : List Mark) → IsNext rest → IsLexed (p s rest)) × EachMarked s ps

module _ (member : Steps) (printed text : List ℕ) (h : is_printed printed text ≡ true) (begins : begins_apart printed ≡ true) (ends : ends_apart printed ≡ true) where
  lex_more_members : (ps : List (Option Marker)) (rest : List Mark) → EachMarked (step.list_of member printed text) ps → IsNext rest → IsNext (more_members_on (step.list_of member printed text) ps rest)
  lex_more_members [] rest m k = k
  lex_more_members (None ∷ ps) rest m k = format_word_next printed text _ h begins (take_after (ends_apart printed) _ ends (loose (lex_more_members ps rest m k)))
  lex_more_members (Some p ∷ ps) rest m k = format_word_next printed text _ h begins (take_after (ends_apart printed) _ ends (m.0 _ (lex_more_members ps rest m.1 k)))

  lex_members : (ps : List (Option Marker)) (rest : List Mark) → EachMarked (step.list_of member printed text) ps → IsNext rest → IsLexed (members_on (step.list_of member printed text) ps rest)
  lex_members [] rest m k = loose k
  lex_members (None ∷ ps) rest m k = loose (lex_more_members ps rest m k)
  lex_members (Some p ∷ ps) rest m k = m.0 _ (lex_more_members ps rest m.1 k)

lex_list : (member : Steps) (printed text : List ℕ) (ps : List (Option Marker)) (rest : List Mark) → is_step_apart (step.list_of member printed text) ≡ true
    → EachMarked (step.list_of member printed text) ps → IsNext rest → IsLexed (members_on (step.list_of member printed text) ps rest)
lex_list member printed text ps rest h m k =
    let a = both_hold (is_printed printed text && begins_apart printed && ends_apart printed) (are_steps_apart part member) h in
    let b = both_hold (is_printed printed text && begins_apart printed) (ends_apart printed) a.0 in
    let c = both_hold (is_printed printed text) (begins_apart printed) b.0 in
    lex_members member printed text c.0 c.1 b.1 ps rest m k

-- ---- names

lex_more_names : (a : Action) (xs : List (List ℕ)) (rest : List Mark) → AreIdentifiers xs → IsNext rest → IsNext (more_names_on a xs rest)
lex_more_names a [] rest h k = k
lex_more_names a (x ∷ xs) rest h k = sign_word 44 refl (lexeme x (identifier_is x h.0) (done (lex_more_names a xs rest h.1 k)))

lex_names : (a : Action) (xs : List (List ℕ)) (rest : List Mark) → AreIdentifiers xs → IsNext rest → IsLexed (names_on a xs rest)
lex_names a [] rest h k = loose k
lex_names a (x ∷ xs) rest h k = lexeme x (identifier_is x h.0) (done (lex_more_names a xs rest h.1 k))

lex_results : (rs : List (List ℕ × ValueTree)) (rest : List Mark) → AreIdentifiers (names_of rs) → IsLexed rest → IsLexed (results_on rs rest)
lex_results [] rest h l = l
lex_results (r ∷ rs) rest h l = lex_names act.Result (names_of (r ∷ rs)) _ h (set_word 61 refl l)

lex_operands : (s : Step) (xs : List (List ℕ)) → AreIdentifiers xs → IsMarked s (operands_on xs)
lex_operands s [] h = tt
lex_operands s (x ∷ xs) h = λ a rest k. acted (lex_names act.Operand (x ∷ xs) _ h (done k))

lex_edge : (s : Step) (ls us : List (List ℕ)) → AreIdentifiers ls → AreIdentifiers us → IsMarked s (Some (edge_on ls us))
lex_edge s [] us h g = λ a rest k. loose k
lex_edge s (l ∷ ls) us h g = λ a rest k.
    loose (signed 94 refl (lexeme l (identifier_is l h.0) (done (signed 40 refl (lex_names act.Operand us _ g (signed 41 refl (loose (done k))))))))

take_names : (n : ℕ) (xs : List (List ℕ)) → AreIdentifiers xs → AreIdentifiers (take n xs)
take_names zero xs h = tt
take_names (suc n) [] h = tt
take_names (suc n) (x ∷ xs) h = (h.0, take_names n xs h.1)

drop_names : (n : ℕ) (xs : List (List ℕ)) → AreIdentifiers xs → AreIdentifiers (drop n xs)
drop_names zero xs h = h
drop_names (suc n) [] h = tt
drop_names (suc n) (x ∷ xs) h = drop_names n xs h.1

-- each of these is printed as its tokens, behind anything
abbrev AllNext : List (List Mark → List Mark) → Type 0
AllNext [] = Unit {0}
AllNext (r ∷ rs) = ((rest : List Mark) → IsNext rest → IsNext (r rest)) × AllNext rs

lex_first : (s : Step) (rs : List (List Mark → List Mark)) → AllNext rs → IsMarked s (Some (first_region_on rs))
lex_first s [] h = λ a rest k. loose k
lex_first s (r ∷ rs) h = λ a rest k. loose (h.0 rest k)

drop_next : (n : ℕ) (rs : List (List Mark → List Mark)) → AllNext rs → AllNext (drop n rs)
drop_next zero rs h = h
drop_next (suc n) [] h = tt
drop_next (suc n) (r ∷ rs) h = drop_next n rs h.1

-- ---- pieces

-- what a leaf is spelled as is one token
leaf_is : (x : Leaf) {ms : List Mark} → IsInRange x → IsNext ms → IsLexed (one_leaf x ∷ ms)
leaf_is (name cs) h k = let l = lexeme cs (identifier_is cs h) k in record { opens = l.opens; coded = l.coded }
leaf_is (number negative magnitude) h k = let l = lexeme (number_text negative magnitude) (number_is negative magnitude h) k in record { opens = l.opens; coded = l.coded }
leaf_is (unsigned magnitude) h k = let l = lexeme (decimal magnitude) (number_is false magnitude h) k in record { opens = l.opens; coded = l.coded }
leaf_is (width sign bits) h k = let l = lexeme (width_text sign bits) (width_is sign bits h) k in record { opens = l.opens; coded = l.coded }
leaf_is (mark n) h k = let l = lexeme (mark_text n) (mark_is n h) k in record { opens = l.opens; coded = l.coded }
leaf_is (quoted cs) h k = record { opens = quoted_opens cs k.follows; coded = quoted_coded cs _ _ h k.coded }

module _ (f : Formats) (v : Values) (printable : is_printable f ≡ true) where
  printable_values : (sort : ValueSort) → list_all is_kind_printable (kinds_of f sort) ≡ true
  printable_values sorts.«Type» = (both_hold _ (list_all is_kind_printable f.types) (both_hold _ (list_all is_kind_printable f.attributes) printable).0).1
  printable_values sorts.Attribute = (both_hold _ (list_all is_kind_printable f.attributes) printable).1

  printable_operations : list_all is_kind_printable f.operations ≡ true
  printable_operations = (both_hold _ (list_all is_kind_printable f.operations) (both_hold _ (list_all is_kind_printable f.types) (both_hold _ (list_all is_kind_printable f.attributes) printable).0).0).1

  lex_found : (found : Option Kind) (k : Kind) (begins ends : Action) (ps : List (Option Marker)) (rest : List Mark) → found ≡ Some k → is_kind_printable k ≡ true
      → AreMarked (parts_in k.format) ps → IsNext rest → IsLexed (kind_on found begins ends ps rest)
  lex_found found k begins ends ps rest e h m n = subst (λ o. IsLexed (kind_on o begins ends ps rest)) (sym e) (lex_kind k begins ends ps rest h m n)

  mutual
    lex_piece : (t : ValueTree) (s : Step) → Fits f v s t → IsMarked s (Some (piece_on f t))
    lex_piece (node (value_of_kind sort n) ts) s h a rest k =
        lex_found _ h.1 (act.Begin sort n) (act.End sort) _ rest h.2 (kind_at (kinds_of f sort) n h.1 (printable_values sort) h.2) (lex_pieces ts (parts_in h.1.format) h.3) k
    lex_piece (node list ts) (step.list_of member printed text) h a rest k =
        acted (lex_list member printed text (parts_on f ts) (did act.EndList ∷ rest) a
        (lex_items ts member printed text h (both_hold (is_printed printed text && begins_apart printed && ends_apart printed) (are_steps_apart part member) a).1) (done k))
    lex_piece (node list ts) _ h a rest k = absurd h
    lex_piece (node item ts) s h a rest k = absurd h
    lex_piece (node (chosen n) ts) (step.choice_of cs) h a rest k =
        acted (lex_alternative cs n (parts_on f ts) (did act.EndChoice ∷ rest) a
        (known_along (alternative cs n) (λ ss. FitAll f v ss ts) (λ ss. AreMarked ss (parts_on f ts)) (λ ss fit. lex_pieces ts ss fit) h) (done k))
    lex_piece (node (chosen n) ts) _ h a rest k = absurd h
    lex_piece (node (operands n) ts) s h a rest k = loose k
    lex_piece (node (successor n) ts) s h a rest k = loose k
    lex_piece (node region ts) s h a rest k = loose k
    lex_piece (node (leaf x) ts) step.symbol_name h a rest k = loose (signed 64 refl (leaf_is x h.1 (done k)))
    lex_piece (node (leaf x) ts) (step.a_leaf sort) h a rest k = leaf_is x h.1 (done k)
    lex_piece (node (leaf x) ts) _ h a rest k = absurd h.0

    lex_pieces : (ts : Pieces) (ss : List Step) → FitAll f v ss ts → AreMarked ss (parts_on f ts)
    lex_pieces no_tree [] h = tt
    lex_pieces no_tree (s ∷ ss) h = absurd h
    lex_pieces (a_tree t ts) [] h = absurd h
    lex_pieces (a_tree t ts) (s ∷ ss) h = (lex_piece t s h.0, lex_pieces ts ss h.1)

    lex_items : (ts : Pieces) (member : Steps) (printed text : List ℕ) → FitMembers f v (parts_in member) ts → are_steps_apart part member ≡ true
        → EachMarked (step.list_of member printed text) (parts_on f ts)
    lex_items no_tree member printed text h a = tt
    lex_items (a_tree t ts) member printed text h a = (lex_item t member printed text h.0 a, lex_items ts member printed text h.1 a)

    lex_item : (t : ValueTree) (member : Steps) (printed text : List ℕ) → FitsMember f v (parts_in member) t → are_steps_apart part member ≡ true
        → (rest : List Mark) → IsNext rest → IsLexed (piece_on f t (step.list_of member printed text) rest)
    lex_item (node item ts) member printed text h a rest k = acted (lex_format a_word part member (parts_on f ts) (did act.EndItem ∷ rest) a (lex_pieces ts (parts_in member) h) (done k))
    lex_item (node _ ts) member printed text h a rest k = absurd h

  lex_type : (t : ValueTree) (rest : List Mark) → Fits f v (step.a_value sorts.«Type») t → IsNext rest → IsLexed (type_on f t rest)
  lex_type t rest h k = lex_piece t (step.a_value sorts.«Type») h refl rest k

  -- ---- heads

  lex_all_parts : (ts : Pieces) (ss : List Step) (us ls : List (List ℕ)) (rs : List (List Mark → List Mark)) → FitAll f v ss ts → AreIdentifiers us → AreIdentifiers ls → AllNext rs
      → AreMarked ss (all_parts_on f ts us ls rs)
  lex_all_parts no_tree [] us ls rs h u l r = tt
  lex_all_parts no_tree (s ∷ ss) us ls rs h u l r = absurd h
  lex_all_parts (a_tree t ts) [] us ls rs h u l r = absurd h
  lex_all_parts (a_tree (node (operands n) x) ts) (s ∷ ss) us ls rs h u l r = (lex_operands s (take n us) (take_names n us u), lex_all_parts ts ss (drop n us) ls rs h.1 (drop_names n us u) l r)
  lex_all_parts (a_tree (node (successor n) x) ts) (s ∷ ss) us ls rs h u l r =
      (lex_edge s ls (take n us) l (take_names n us u), lex_all_parts ts ss (drop n us) (drop 1 ls) rs h.1 (drop_names n us u) (drop_names 1 ls l) r)
  lex_all_parts (a_tree (node region x) ts) (s ∷ ss) us ls rs h u l r = (lex_first s rs r, lex_all_parts ts ss us ls (drop 1 rs) h.1 u l (drop_next 1 rs r))
  lex_all_parts (a_tree (node p x) ts) (s ∷ ss) us ls rs h u l r = (lex_piece (node p x) s h.0, lex_all_parts ts ss us ls rs h.1 u l r)

  lex_argument : (x : List ℕ × ValueTree) (rest : List Mark) → is_identifier x.0 ≡ true → Fits f v (step.a_value sorts.«Type») x.1 → IsNext rest → IsLexed (argument_on f x rest)
  lex_argument x rest h g k = lexeme x.0 (identifier_is x.0 h) (done (sign_word 58 refl (lex_type x.1 rest g k)))

  lex_more_arguments : (xs : List (List ℕ × ValueTree)) (rest : List Mark) → AreIdentifiers (names_of xs) → FitArguments f v xs → IsNext rest → IsNext (more_arguments_on f xs rest)
  lex_more_arguments [] rest h g k = k
  lex_more_arguments (x ∷ xs) rest h g k = sign_word 44 refl (lex_argument x _ h.0 g.0 (lex_more_arguments xs rest h.1 g.1 k))

  lex_arguments : (xs : List (List ℕ × ValueTree)) (rest : List Mark) → AreIdentifiers (names_of xs) → FitArguments f v xs → IsNext rest → IsLexed (arguments_on f xs rest)
  lex_arguments [] rest h g k = loose k
  lex_arguments (x ∷ xs) rest h g k = lex_argument x _ h.0 g.0 (lex_more_arguments xs rest h.1 g.1 k)

  lex_operation_head : (h : EntityHead (List ℕ)) (rs : List (List Mark → List Mark)) (rest : List Mark) → FitsHead f v h → IsSpeltHead h → AllNext rs → IsNext rest → IsLexed (operation_head_on f h rs rest)
  lex_operation_head (operation kind results used successors pieces) rs rest g s r k =
      lex_results results _ s.0 (lex_found _ g.0 (act.Operation kind) act.EndOperation _ rest g.1 (kind_at f.operations kind g.0 printable_operations g.1)
      (lex_all_parts pieces (parts_in g.0.format) used successors rs g.2 s.1 s.2 r) k)
  lex_operation_head a_region rs rest g s r k = loose k
  lex_operation_head (block named label arguments) rs rest g s r k = loose k

  lex_block_head : (h : EntityHead (List ℕ)) (inner : List Mark → List Mark) (rest : List Mark) → FitsHead f v h → IsSpeltHead h → ((r : List Mark) → IsNext r → IsNext (inner r)) → IsNext rest
      → IsLexed (block_head_on f h inner rest)
  lex_block_head (operation kind results used successors pieces) inner rest g s i k = loose (i rest k)
  lex_block_head a_region inner rest g s i k = loose (i rest k)
  lex_block_head (block named label arguments) inner rest g s i k =
      loose (signed 94 refl (lexeme label (identifier_is label s.1) (done (signed 40 refl (lex_arguments arguments _ s.2 g
      (signed 41 refl (loose (signed 58 refl (acted (loose (i _ (done k))))))))))))

  -- ---- operations, regions and blocks

  mutual
    lex_operation : (t : Entity (List ℕ)) (n : ℕ) (rest : List Mark) → FitsTree f v t → IsSpelt t → IsNext rest → IsLexed (operation_on f n t rest)
    lex_operation (entity h ts) n rest g s k = lex_operation_head h (regions_on f n ts) rest g.0 s.0 (lex_regions ts n g.1 s.1) k

    lex_regions : (ts : Entities (List ℕ)) (n : ℕ) → FitTrees f v ts → AreSpelt ts → AllNext (regions_on f n ts)
    lex_regions no_entity n g s = tt
    lex_regions (an_entity t ts) n g s = (λ rest k. lex_region t n rest g.0 s.0 k, lex_regions ts n g.1 s.1)

    lex_region : (t : Entity (List ℕ)) (n : ℕ) (rest : List Mark) → FitsTree f v t → IsSpelt t → IsNext rest → IsNext (region_on f n t rest)
    lex_region (entity h ts) n rest g s k = lined n (loose (signed 123 refl (acted (loose (lex_blocks ts (n + 2) _ g.1 s.1 (lined n (loose (signed 125 refl (acted (loose k))))))))))

    lex_blocks : (ts : Entities (List ℕ)) (n : ℕ) (rest : List Mark) → FitTrees f v ts → AreSpelt ts → IsNext rest → IsNext (blocks_on f n ts rest)
    lex_blocks no_entity n rest g s k = k
    lex_blocks (an_entity t ts) n rest g s k = lined n (lex_block t n _ g.0 s.0 (lex_blocks ts n rest g.1 s.1 k))

    lex_block : (t : Entity (List ℕ)) (n : ℕ) (rest : List Mark) → FitsTree f v t → IsSpelt t → IsNext rest → IsLexed (block_on f n t rest)
    lex_block (entity h ts) n rest g s k = lex_block_head h (operations_on f (n + 2) ts) rest g.0 s.0 (λ r m. lex_operations ts (n + 2) r g.1 s.1 m) k

    lex_operations : (ts : Entities (List ℕ)) (n : ℕ) (rest : List Mark) → FitTrees f v ts → AreSpelt ts → IsNext rest → IsNext (operations_on f n ts rest)
    lex_operations no_entity n rest g s k = k
    lex_operations (an_entity t ts) n rest g s k = lined n (lex_operation t n _ g.0 s.0 (lex_more_operations ts n rest g.1 s.1 k))

    lex_more_operations : (ts : Entities (List ℕ)) (n : ℕ) (rest : List Mark) → FitTrees f v ts → AreSpelt ts → IsNext rest → IsNext (more_operations_on f n ts rest)
    lex_more_operations no_entity n rest g s k = k
    lex_more_operations (an_entity t ts) n rest g s k = signed 59 refl (loose (lined n (lex_operation t n _ g.0 s.0 (lex_more_operations ts n rest g.1 s.1 k))))

  -- the characters of a layout are its tokens
  pub lex_marks : (t : Entity (List ℕ)) → FitsTree f v t → IsSpelt t → IsLexed (marks f t)
  lex_marks t g s = lex_operation t 0 [] g s (record { follows = record { opens = record { read = ended; fresh = refl }; clean = refl }; coded = (IsUtf8-nil, chars-nil) })

-- ---- layouts

-- The tokens of a layout, each with its characters and of its kind.
pub layout_tokens : (f : Formats) (v : Values) (t : Entity (List ℕ)) → is_printable f ≡ true → FitsTree f v t → IsSpelt t
    → let ms = marks f t in let cs = characters ms ++ 10 ∷ [] in
    (ts : List Token) × ReadsAs cs 0 ts × (map (text_of cs) ts ≡ tokens ms) × (map (λ (x : Token). x.kind) ts ≡ map kind_of_text (tokens ms))
layout_tokens f v t p g s =
    let a = placed_all (lexemes.lined (lex_marks f v p t g s).opens.read) in
    (a.found, a.read, a.texts, a.sorts)

-- Its bytes spell its characters, and so it is with the line end behind them.
pub layout_coded : (f : Formats) (v : Values) (t : Entity (List ℕ)) → is_printable f ≡ true → FitsTree f v t → IsSpelt t
    → AreCoded (spell (chunks (marks f t)) ++ 10 ∷ []) (characters (marks f t) ++ 10 ∷ [])
layout_coded f v t p g s =
    let coded = (lex_marks f v p t g s).coded in
    let ascii = IsAscii-cons 10 [] (omega arith) IsAscii-nil in (
      IsUtf8-append _ (10 ∷ []) coded.0 (IsUtf8-from_ascii (10 ∷ []) ascii),
      chars-append _ (10 ∷ []) coded.0 ∙ (ap (λ z. z ++ chars (10 ∷ [])) coded.1 ∙ ap (λ z. characters (marks f t) ++ z) (chars-IsAscii (10 ∷ []) ascii)),
    )
