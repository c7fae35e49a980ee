-- The front of a text has one reading, and what the next token decides.
use Rattle.std.proofs.Common.{◌≡◌, ◌∙◌, ◌≤◌, ◌⊎◌, ℕ, suc, Bool, true, false, List, Option, Some, None, MatchOption, refl, sym, ap, subst, arith, inl, inr}
use Rattle.std.specs.Prelude.{slice_get}
use Rattle.std.specs.Char.{is_whitespace}
use Rattle.std.specs.List.{take_while}
use Rattle.ir_names.specs.Tree.{node, no_tree, a_tree, join}
use Rattle.ir_print.specs.declared.format.LeafSort.{LeafSort}
use Rattle.ir_print.specs.declared.format.ValueSort.{ValueSort}
use Rattle.ir_print.specs.declared.format.ValueSort.TheVariants as sorts
use Rattle.ir_print.specs.Formats.{word, a_leaf, a_value, list_of, choice_of, Steps, no_steps, step, Choices, no_choice, a_choice, alternative, Kind, Formats, kinds_of}
use Rattle.ir_print.specs.Pieces.{Leaf, leaf, list, item, chosen, value_of_kind, Pieces, Values, refused_value, canonical_value}
use Rattle.ir_format_checks.specs.Tokens.{TokenClass, Column, given, dotted, takes}
use Rattle.ir_format_checks.specs.Decided.{leaf_class, all_begin, one_begins, all_may_be_empty, one_may_be_empty, Follow, anything, or_next, tokens_of, all_firsts, one_firsts, next_of, CannotBeNext, IsDecided}
use Rattle.ir_format_checks.proofs.Booleans.{true_false}
use Rattle.ir_format_readings.specs.Language.{allows}
use Rattle.ir_format_readings.proofs.Follows.{refuted, next_cases, next_first, next_behind, one_of_begins, one_of_is_empty, chosen as decided_choice, one_choice}
use Rattle.text_streams.specs.declared.faults.TextError.TheVariants as causes
use Rattle.text_streams.specs.declared.position.Position.{Position}
use Rattle.text_streams.specs.Positions.{left}
use Rattle.stream_tokens.specs.declared.lexemes.Lexeme.{Lexeme}
use Rattle.stream_tokens.specs.Lexemes.{IsLexeme}
use Rattle.value_texts.specs.declared.maker.Refusal.{Refusal}
use Rattle.value_texts.specs.declared.maker.Refusal.TheVariants as refusals
use Rattle.value_texts.specs.declared.progress.ReadFault.{ReadFault}
use Rattle.value_texts.specs.declared.progress.ReadFault.TheVariants.{Memory, Text}
use Rattle.value_texts.specs.Following.{MayCome, Begins, is_next_of, IsChoice, Chooses}
use Rattle.value_texts.specs.Kinds.{IsNoKind}
use Rattle.value_texts.specs.Deep.{inside}
use Rattle.value_texts.specs.Only.{NoneAt, IsSyntax, IsRefusal, HasText, HasTextOf, IsOnlyText, IsOnlyStep, IsDeepText, IsDeepStep, NoStepAt, NoStepsAt, RefusesStep, HasValue, IsDeepValue}
use Rattle.value_texts.specs.Readable.{IsReadable}
use Rattle.value_texts.specs.Texts.{Says, some, more}
use Rattle.value_texts.specs.Texts as content
use Rattle.value_texts.specs.Tokens.{TakesToken, IsNoNext}
use Rattle.value_texts.proofs.Columns.{none_left, same_token, taken_column, all_same, one_same, is_taken, same_text, next_column}
use Rattle.value_texts.proofs.Inside.{IsDecidedList, steps_go, more_goes, some_go, after_word, after_leaf, AfterValue, after_value, AfterList, after_list, AfterMember, after_some, after_more, AfterChoice, after_choice}

-- ---- faults

-- nothing is said at a syntax fault, where nothing is said at all
pub none_said : (fault : ReadFault) (deepest : ℕ) (Said Deep : ℕ → Type 0) → IsSyntax fault → ((most : ℕ) → Said most → ⊥) → NoneAt fault deepest Said Deep
none_said Memory deepest Said Deep is never = tt
none_said (Text causes.Syntax place) deepest Said Deep is never = never
none_said (Text _ place) deepest Said Deep is never = absurd is

-- the same of a value that isn't made, where nothing is said if a part is refused
pub none_made : (refusal : Refusal) (fault : ReadFault) (deepest : ℕ) (Said Deep : ℕ → Type 0) → IsRefusal refusal fault
    → ((i : ℕ) → refusal ≡ refusals.Refused i → (most : ℕ) → Said most → ⊥) → NoneAt fault deepest Said Deep
none_made refusals.Memory fault deepest Said Deep is never = subst (λ (x : ReadFault). NoneAt x deepest Said Deep) (sym is) tt
none_made (refusals.Refused i) fault deepest Said Deep is never = none_said fault deepest Said Deep is (never i refl)

-- what needs more to be said isn't said either
pub none_more : (fault : ReadFault) (deepest : ℕ) (Said Deep Other OtherDeep : ℕ → Type 0) → ((most : ℕ) → Other most → Said most) → ((n : ℕ) → Deep n → OtherDeep n)
    → NoneAt fault deepest Said Deep → NoneAt fault deepest Other OtherDeep
none_more Memory deepest Said Deep Other OtherDeep needs deeper never = tt
none_more (Text causes.Memory place) deepest Said Deep Other OtherDeep needs deeper never = tt
none_more (Text causes.Syntax place) deepest Said Deep Other OtherDeep needs deeper never = λ most said. never most (needs most said)
none_more (Text causes.TooDeep place) deepest Said Deep Other OtherDeep needs deeper never = (λ most le said. never.0 most le (needs most said), deeper (suc deepest) never.1)
none_more (Text _ place) deepest Said Deep Other OtherDeep needs deeper never = never

-- the same of what is said inside one value
record Inside (Said : ℕ → Type 0) (most : ℕ) : Type 0 where
  fewer : ℕ
  one_less : most ≡ suc fewer
  said : Said fewer

none_inside : (fault : ReadFault) (deepest : ℕ) (Said Deep Other OtherDeep : ℕ → Type 0) → ((most : ℕ) → Other most → Inside Said most) → ((n : ℕ) → Deep n → OtherDeep (suc n))
    → NoneAt fault deepest Said Deep → NoneAt fault (suc deepest) Other OtherDeep
none_inside Memory deepest Said Deep Other OtherDeep needs deeper never = tt
none_inside (Text causes.Memory place) deepest Said Deep Other OtherDeep needs deeper never = tt
none_inside (Text causes.Syntax place) deepest Said Deep Other OtherDeep needs deeper never = λ most said. let x = needs most said in never x.fewer x.said
none_inside (Text causes.TooDeep place) deepest Said Deep Other OtherDeep needs deeper never =
    (λ most le said. let x = needs most said in never.0 x.fewer (omega (arith, le, x.one_less)) x.said, deeper (suc deepest) never.1)
none_inside (Text _ place) deepest Said Deep Other OtherDeep needs deeper never = never

-- ---- what the next token decides

-- no format begins so, or may be empty, of which each doesn't
pub none_begins : (p : TokenClass → Bool) (cs : Choices) → ((j : ℕ) (b : Steps) → alternative cs j ≡ Some b → all_begin p b ≡ false) → one_begins p cs ≡ false
none_begins p no_choice h = refl
none_begins p (a_choice ss cs) h = let first = h 0 ss refl in let others = none_begins p cs (λ j b e. h (suc j) b e) in rw (first, others) refl

pub none_empty : (cs : Choices) → ((j : ℕ) (b : Steps) → alternative cs j ≡ Some b → all_may_be_empty b ≡ false) → one_may_be_empty cs ≡ false
none_empty no_choice h = refl
none_empty (a_choice ss cs) h = let first = h 0 ss refl in let others = none_empty cs (λ j b e. h (suc j) b e) in rw (first, others) refl

pub begins_so : (from : Position) (next : Option Lexeme) (ss : Steps) (b : Bool) → MatchOption next (left from ≡ take_while is_whitespace (left from)) (λ token. IsLexeme from token)
    → b ≡ all_begin (is_next_of next) ss → Begins (left from) ss b
begins_so from next ss b found told = let x = next_column from next found in
    record { column = x.0; comes = x.1; told = told ∙ all_same (is_next_of next) (takes x.0) x.2 ss }

choice_same : (p q : TokenClass → Bool) → ((c : TokenClass) → p c ≡ q c) → (cs : Choices) (found : Option ℕ) → IsChoice p cs found → IsChoice q cs found
choice_same p q same cs None h = (sym (one_same p q same cs) ∙ h.0, h.1)
choice_same p q same cs (Some n) h = (
  h.0,
  h.1,
  elim h.2 [
    | inl b ↦ inl (sym (all_same p q same h.0) ∙ b)
    | inr b ↦ inr (b.0, sym (one_same p q same cs) ∙ b.1)
  ],
)

-- the format with the number that is chosen
chosen_as : (p : TokenClass → Bool) (cs : Choices) (n : ℕ) (a : Steps) → alternative cs n ≡ Some a → IsChoice p cs (Some n)
    → (all_begin p a ≡ true) ⊎ ((all_may_be_empty a ≡ true) × (one_begins p cs ≡ false))
chosen_as p cs n a found h =
    let there = h.1 in
    let same : h.0 ≡ a = cc in
    subst (λ (x : Steps). (all_begin p x ≡ true) ⊎ ((all_may_be_empty x ≡ true) × (one_begins p cs ≡ false))) same h.2

pub chooses_so : (from : Position) (next : Option Lexeme) (cs : Choices) (found : Option ℕ) → MatchOption next (left from ≡ take_while is_whitespace (left from)) (λ token. IsLexeme from token)
    → IsChoice (is_next_of next) cs found → Chooses (left from) cs found
chooses_so from next cs found is h = let x = next_column from next is in
    record { column = x.0; comes = x.1; chosen = choice_same (is_next_of next) (takes x.0) x.2 cs found h }

module _ (f : Formats) (v : Values) (leaf_in : LeafSort → List ℕ → Leaf) where
  -- ---- tokens

  pub only_word : (printed w cs text mid : List ℕ) → TakesToken (given w) cs text mid → IsOnlyStep f v leaf_in (word printed w) cs mid no_tree
  only_word printed w cs text mid taken most ss t =
      let x = after_word f v leaf_in t.said in
      let same = same_token (given w) (given w) cs text x.text mid x.mid taken x.token in record {
        others = t.pieces;
        pieces = refl;
        said = subst (λ (m : List ℕ). Says f v leaf_in (content.these most ss t.pieces) m t.rest) (sym same.1) x.said;
      }

  pub no_word : (printed w cs : List ℕ) → IsNoNext (given w) cs → (most : ℕ) → HasTextOf f v leaf_in (word printed w) cs most → ⊥
  no_word printed w cs never most t = let x = after_word f v leaf_in t.1.said in never x.text x.mid x.token

  pub only_leaf : (sort : LeafSort) (cs text mid : List ℕ) → TakesToken (leaf_class sort) cs text mid
      → IsOnlyStep f v leaf_in (a_leaf sort) cs mid (a_tree (node (leaf (leaf_in sort text)) no_tree) no_tree)
  only_leaf sort cs text mid taken most ss t =
      let x = after_leaf f v leaf_in t.said in
      let same = same_token (leaf_class sort) (leaf_class sort) cs text x.text mid x.mid taken x.token in record {
        others = x.others;
        pieces = x.pieces ∙ ap (λ (u : List ℕ). a_tree (node (leaf (leaf_in sort u)) no_tree) x.others) (sym same.0);
        said = subst (λ (m : List ℕ). Says f v leaf_in (content.these most ss x.others) m t.rest) (sym same.1) x.said;
      }

  pub no_leaf : (sort : LeafSort) (cs : List ℕ) → IsNoNext (leaf_class sort) cs → (most : ℕ) → HasTextOf f v leaf_in (a_leaf sort) cs most → ⊥
  no_leaf sort cs never most t = let x = after_leaf f v leaf_in t.1.said in never x.text x.mid x.token

  -- ---- values

  value_decided : IsReadable f → (sort : ValueSort) (i : ℕ) (k : Kind) → slice_get (kinds_of f sort) i ≡ Some k → IsDecided k.format anything
  value_decided good sorts.«Type» i k at = (good.accepted.values sorts.«Type» i k at).decided
  value_decided good sorts.Attribute i k at = (good.accepted.values sorts.Attribute i k at).decided

  -- what a value of a kind says inside
  inside_value : IsReadable f → (sort : ValueSort) (number : ℕ) (kind : Kind) (cs mid : List ℕ) → slice_get (kinds_of f sort) number ≡ Some kind → TakesToken dotted cs kind.id mid
      → (most : ℕ) (ss : Steps) (ps : Pieces) (rest : List ℕ) (x : AfterValue f v leaf_in most sort ss ps cs rest)
      → (number ≡ x.number) × (t : HasText f v leaf_in kind.format mid x.fewer) × (t.pieces ≡ x.inner) × (t.rest ≡ x.behind)
  inside_value good sort number kind cs mid at taken most ss ps rest x =
      let token = same_token dotted dotted cs kind.id x.kind.id mid x.mid taken x.token in
      let same = good.accepted.distinct sort number x.number kind x.kind at x.at token.0 in
      let there : slice_get (kinds_of f sort) number ≡ Some x.kind = ap (slice_get (kinds_of f sort)) same ∙ x.at in
      let alike : x.kind ≡ kind = cc in (
        same,
        record {
          next = anything;
          pieces = x.inner;
          rest = x.behind;
          decided = value_decided good sort number kind at;
          may = λ y h. refl;
          said = subst (λ (k : Kind). Says f v leaf_in (content.these x.fewer k.format x.inner) mid x.behind) alike
              (subst (λ (m : List ℕ). Says f v leaf_in (content.these x.fewer x.kind.format x.inner) m x.behind) (sym token.1) x.inside);
        },
        refl,
        refl,
      )

  pub only_value : IsReadable f → (sort : ValueSort) (number : ℕ) (kind : Kind) (cs mid behind : List ℕ) (qs : Pieces) → slice_get (kinds_of f sort) number ≡ Some kind
      → TakesToken dotted cs kind.id mid → IsOnlyText f v leaf_in kind.format mid behind qs
      → IsOnlyStep f v leaf_in (a_value sort) cs behind (a_tree (node (value_of_kind sort number) (canonical_value v sort number qs)) no_tree)
  only_value good sort number kind cs mid behind qs at taken only most ss t =
      let x = after_value f v leaf_in t.said in
      let inner = inside_value good sort number kind cs mid at taken most ss t.pieces t.rest x in
      let one = only x.fewer inner.1 in record {
        others = x.others;
        pieces = x.pieces ∙ (ap (λ (n : ℕ). a_tree (node (value_of_kind sort n) (canonical_value v sort n x.inner)) x.others) (sym inner.0)
            ∙ ap (λ (us : Pieces). a_tree (node (value_of_kind sort number) (canonical_value v sort number us)) x.others) (sym inner.2 ∙ one.0));
        said = subst (λ (m : List ℕ). Says f v leaf_in (content.these most ss x.others) m t.rest) (sym inner.3 ∙ one.1) x.said;
      }

  -- no value where no token is, or where it names no kind
  pub no_value_token : (sort : ValueSort) (cs : List ℕ) → cs ≡ take_while is_whitespace cs → (most : ℕ) → HasTextOf f v leaf_in (a_value sort) cs most → ⊥
  no_value_token sort cs white most t = let x = after_value f v leaf_in t.1.said in none_left cs dotted white x.kind.id x.mid x.token

  pub no_value_kind : (sort : ValueSort) (from : Position) (token : Lexeme) → IsLexeme from token → IsNoKind (kinds_of f sort) token
      → (most : ℕ) → HasTextOf f v leaf_in (a_value sort) (left from) most → ⊥
  no_value_kind sort from token lexeme none most t =
      let x = after_value f v leaf_in t.1.said in
      none x.number x.kind x.at (is_taken from token lexeme dotted x.kind.id x.mid x.token) (same_text from token lexeme dotted x.kind.id x.mid x.token)

  -- none where none may be
  pub no_value_left : (sort : ValueSort) (cs : List ℕ) (most : ℕ) → most ≤ 0 → HasTextOf f v leaf_in (a_value sort) cs most → ⊥
  no_value_left sort cs most le t = let x = after_value f v leaf_in t.1.said in absurd (omega (arith, le, x.one_less))

  pub no_value_inside : IsReadable f → (sort : ValueSort) (number : ℕ) (kind : Kind) (cs mid : List ℕ) (fault : ReadFault) (deepest : ℕ) → slice_get (kinds_of f sort) number ≡ Some kind
      → TakesToken dotted cs kind.id mid → NoStepsAt f v leaf_in kind.format mid deepest fault → NoStepAt f v leaf_in (a_value sort) cs (suc deepest) fault
  no_value_inside good sort number kind cs mid fault deepest at taken never =
      none_inside fault deepest (HasText f v leaf_in kind.format mid) (IsDeepText f v leaf_in kind.format mid) (HasTextOf f v leaf_in (a_value sort) cs) (IsDeepStep f v leaf_in (a_value sort) cs) (λ most t.
      let x = after_value f v leaf_in t.1.said in
      record { fewer = x.fewer; one_less = x.one_less; said = (inside_value good sort number kind cs mid at taken most t.0 t.1.pieces t.1.rest x).1 })
      (λ n deep ss. inside number kind at taken deep) never

  -- none whose pieces are refused
  pub no_value_made : IsReadable f → (sort : ValueSort) (number : ℕ) (kind : Kind) (cs mid behind : List ℕ) (qs : Pieces) (i : ℕ) → slice_get (kinds_of f sort) number ≡ Some kind
      → TakesToken dotted cs kind.id mid → IsOnlyText f v leaf_in kind.format mid behind qs → refused_value v sort number qs ≡ Some i
      → (most : ℕ) → HasTextOf f v leaf_in (a_value sort) cs most → ⊥
  no_value_made good sort number kind cs mid behind qs i at taken only refused most t =
      let x = after_value f v leaf_in t.1.said in
      let inner = inside_value good sort number kind cs mid at taken most t.0 t.1.pieces t.1.rest x in
      let one = only x.fewer inner.1 in
      let made : refused_value v sort number qs ≡ None =
      ap (λ (us : Pieces). refused_value v sort number us) (sym one.0 ∙ inner.2) ∙ (ap (λ (n : ℕ). refused_value v sort n x.inner) inner.0 ∙ x.made) in
      let never : Some i ≡ None = sym refused ∙ made in cc

  -- ---- lists

  -- the members go on
  pub record MembersGoOn (m : Steps) (w : List ℕ) (most : ℕ) (qs ms : Pieces) (mid rest : List ℕ) : Type 0 where
    pub others : Pieces
    pub pieces : ms ≡ join qs others
    pub said : Says f v leaf_in (more most m w others) mid rest

  -- Members that are said say these up to here, where the next token decides them.
  abbrev pub AreOnlyMembers : Steps → List ℕ → List ℕ → List ℕ → Pieces → Type 0
  AreOnlyMembers m w cs mid qs = (next : Follow Column) → IsDecidedList m w next → (most : ℕ) (ms : Pieces) (rest : List ℕ) → Says f v leaf_in (some most m w ms) cs rest
      → MayCome next rest → MembersGoOn m w most qs ms mid rest

  -- a member that is said, as a text
  member_text : (m : Steps) (w cs rest : List ℕ) (most : ℕ) (ms : Pieces) (next : Follow Column) → IsDecidedList m w next → MayCome next rest
      → (x : AfterMember f v leaf_in most m w ms cs rest) → HasText f v leaf_in m cs most
  member_text m w cs rest most ms next d may x = record {
    next = or_next (tokens_of (given w)) next;
    pieces = x.inner;
    rest = x.mid;
    decided = d.3;
    may = more_goes f v leaf_in x.said next d may;
    said = x.inside;
  }

  pub first_members : (m : Steps) (w cs mid : List ℕ) (qs : Pieces) → IsOnlyText f v leaf_in m cs mid qs → AreOnlyMembers m w cs mid (a_tree (node item qs) no_tree)
  unfolding member_text
  first_members m w cs mid qs only next d most ms rest said may =
      let x = after_some f v leaf_in said in
      let one = only most (member_text m w cs rest most ms next d may x) in record {
        others = x.others;
        pieces = x.pieces ∙ ap (λ (us : Pieces). a_tree (node item us) x.others) one.0;
        said = subst (λ (z : List ℕ). Says f v leaf_in (more most m w x.others) z rest) one.1 x.said;
      }

  -- a list doesn't end before its separator
  ends_not : (w mid text behind : List ℕ) (next : Follow Column) → CannotBeNext (tokens_of (given w)) next → TakesToken (given w) mid text behind → MayCome next mid → ⊥
  ends_not w mid text behind next d taken may =
      let x = taken_column (given w) mid text behind taken in
      refuted (tokens_of (given w)) next d x.0 x.2 (may x.0 x.1)

  -- behind the separator a member is said
  behind_separator : (m : Steps) (w mid text behind rest : List ℕ) (next : Follow Column) → IsDecidedList m w next → TakesToken (given w) mid text behind → (most : ℕ) (ms : Pieces)
      → Says f v leaf_in (more most m w ms) mid rest → MayCome next rest → AfterMember f v leaf_in most m w ms behind rest
  behind_separator m w mid text behind rest next d taken most ms said may = elim (after_more f v leaf_in said) [
    | inl x ↦ absurd (ends_not w mid text behind next d.2 taken (subst (MayCome next) x.1 may))
    | inr x ↦
        let same = same_token (given w) (given w) mid text x.text behind x.mid taken x.token in
        subst (λ (z : List ℕ). AfterMember f v leaf_in most m w ms z rest) (sym same.1) x.member
  ]

  pub next_members : ((ts us vs : Pieces) → join (join ts us) vs ≡ join ts (join us vs)) → (m : Steps) (w cs mid text behind now : List ℕ) (ps qs : Pieces) → AreOnlyMembers m w cs mid ps
      → TakesToken (given w) mid text behind → IsOnlyText f v leaf_in m behind now qs → AreOnlyMembers m w cs now (join ps (a_tree (node item qs) no_tree))
  unfolding member_text
  next_members joined m w cs mid text behind now ps qs h taken only next d most ms rest said may =
      let g = h next d most ms rest said may in
      let x = behind_separator m w mid text behind rest next d taken most g.others g.said may in
      let one = only most (member_text m w behind rest most g.others next d may x) in record {
        others = x.others;
        pieces = g.pieces ∙ (ap (λ (us : Pieces). join ps us) (x.pieces ∙ ap (λ (us : Pieces). a_tree (node item us) x.others) one.0)
            ∙ sym (joined ps (a_tree (node item qs) no_tree) x.others));
        said = subst (λ (z : List ℕ). Says f v leaf_in (more most m w x.others) z rest) one.1 x.said;
      }

  -- a list with members, where one may begin
  begun : (m ss : Steps) (printed w cs rest : List ℕ) (next : Follow Column) → IsDecided (step (list_of m printed w) ss) next → MayCome next rest → Begins cs m true
      → (most : ℕ) (ps : Pieces) → Says f v leaf_in (content.these most (step (list_of m printed w) ss) ps) cs rest → AfterList f v leaf_in most m w ss ps cs rest
  begun m ss printed w cs rest next d may b most ps said = elim (after_list f v leaf_in said) [
    | inl x ↦ absurd (refuted (all_firsts m) (next_of ss next) d.0.1 b.column (sym b.told) (steps_go f v leaf_in x.said next d.1 may b.column b.comes))
    | inr x ↦ x
  ]

  pub only_list : ((ts : Pieces) → join ts no_tree ≡ ts) → (m : Steps) (printed w cs mid : List ℕ) (qs : Pieces) → Begins cs m true → AreOnlyMembers m w cs mid qs → IsNoNext (given w) mid
      → IsOnlyStep f v leaf_in (list_of m printed w) cs mid (a_tree (node list qs) no_tree)
  only_list nothing m printed w cs mid qs b members ends most ss t =
      let x = begun m ss printed w cs t.rest t.next t.decided t.may b most t.pieces t.said in
      let g = members (next_of ss t.next) t.decided.0 most x.members x.mid x.inside (steps_go f v leaf_in x.said t.next t.decided.1 t.may) in
      elim (after_more f v leaf_in g.said) [
        | inl z ↦ record {
          others = x.others;
          pieces = x.pieces ∙ ap (λ (us : Pieces). a_tree (node list us) x.others) (g.pieces ∙ (ap (λ (us : Pieces). join qs us) z.0 ∙ nothing qs));
          said = subst (λ (u : List ℕ). Says f v leaf_in (content.these most ss x.others) u t.rest) z.1 x.said;
        }
        | inr z ↦ absurd (ends z.text z.mid z.token)
      ]

  pub only_empty : (m : Steps) (printed w cs : List ℕ) → Begins cs m false → IsOnlyStep f v leaf_in (list_of m printed w) cs cs (a_tree (node list no_tree) no_tree)
  only_empty m printed w cs b most ss t = elim (after_list f v leaf_in t.said) [
    | inl x ↦ record { others = x.others; pieces = x.pieces; said = x.said }
    | inr x ↦ absurd (true_false (all_firsts m b.column)
        (some_go f v leaf_in x.inside (next_of ss t.next) t.decided.0 (steps_go f v leaf_in x.said t.next t.decided.1 t.may) b.column b.comes) (sym b.told))
  ]

  -- no list where its first member is refused, or another one
  pub no_first : (m : Steps) (printed w cs : List ℕ) → Begins cs m true → (most : ℕ) → HasTextOf f v leaf_in (list_of m printed w) cs most → HasText f v leaf_in m cs most
  no_first m printed w cs b most t =
      let ss = t.0 in
      let x = begun m ss printed w cs t.1.rest t.1.next t.1.decided t.1.may b most t.1.pieces t.1.said in
      member_text m w cs x.mid most x.members (next_of ss t.1.next) t.1.decided.0 (steps_go f v leaf_in x.said t.1.next t.1.decided.1 t.1.may) (after_some f v leaf_in x.inside)

  pub no_next : (m : Steps) (printed w cs mid text behind : List ℕ) (qs : Pieces) → Begins cs m true → AreOnlyMembers m w cs mid qs → TakesToken (given w) mid text behind
      → (most : ℕ) → HasTextOf f v leaf_in (list_of m printed w) cs most → HasText f v leaf_in m behind most
  no_next m printed w cs mid text behind qs b members taken most t =
      let ss = t.0 in
      let x = begun m ss printed w cs t.1.rest t.1.next t.1.decided t.1.may b most t.1.pieces t.1.said in
      let may = steps_go f v leaf_in x.said t.1.next t.1.decided.1 t.1.may in
      let g = members (next_of ss t.1.next) t.1.decided.0 most x.members x.mid x.inside may in
      member_text m w behind x.mid most g.others (next_of ss t.1.next) t.1.decided.0 may
      (behind_separator m w mid text behind x.mid (next_of ss t.1.next) t.1.decided.0 taken most g.others g.said may)

  -- ---- choices

  -- the format that is chosen is the one that is said
  inside_choice : (choices : Choices) (cs : List ℕ) (n : ℕ) (a : Steps) → Chooses cs choices (Some n) → alternative choices n ≡ Some a → (most : ℕ) (ss : Steps)
      → (t : HasText f v leaf_in (step (choice_of choices) ss) cs most) (x : AfterChoice f v leaf_in most choices ss t.pieces cs t.rest)
      → (x.number ≡ n) × (i : HasText f v leaf_in a cs most) × (i.pieces ≡ x.inner) × (i.rest ≡ x.mid)
  inside_choice choices cs n a made found most ss t x =
      let next = next_of ss t.next in
      let may = steps_go f v leaf_in x.said t.next t.decided.1 t.may in
      let d = decided_choice choices next x.number x.format x.found t.decided.0.1 in
      let other = steps_go f v leaf_in x.inside next d may made.column made.comes in
      let mine : allows (next_of a next) made.column ≡ true = elim (chosen_as (takes made.column) choices n a found made.chosen) [
        | inl b ↦ next_first a next made.column b
        | inr b ↦ elim (next_cases x.format next made.column other) [
          | inl k ↦ absurd (true_false (one_firsts choices made.column) (one_of_begins choices x.number x.format made.column x.found k) b.1)
          | inr k ↦ next_behind a next made.column b.0 k.1
        ]
      ] in
      let same = one_choice choices next made.column x.number n x.format a t.decided.0.1 (λ e o k. refuted (one_firsts choices) next (t.decided.0.0 e) made.column o k) x.found found other mine in
      let there : alternative choices x.number ≡ Some a = ap (alternative choices) same ∙ found in
      let alike : x.format ≡ a = let h = x.found in cc in (
        same,
        record {
          next = next;
          pieces = x.inner;
          rest = x.mid;
          decided = decided_choice choices next n a found t.decided.0.1;
          may = may;
          said = subst (λ (z : Steps). Says f v leaf_in (content.these most z x.inner) cs x.mid) alike x.inside;
        },
        refl,
        refl,
      )

  pub only_choice : (choices : Choices) (cs mid : List ℕ) (n : ℕ) (a : Steps) (qs : Pieces) → Chooses cs choices (Some n) → alternative choices n ≡ Some a → IsOnlyText f v leaf_in a cs mid qs
      → IsOnlyStep f v leaf_in (choice_of choices) cs mid (a_tree (node (chosen n) qs) no_tree)
  only_choice choices cs mid n a qs made found only most ss t =
      let x = after_choice f v leaf_in t.said in
      let inner = inside_choice choices cs n a made found most ss t x in
      let one = only most inner.1 in record {
        others = x.others;
        pieces = x.pieces ∙ (ap (λ (k : ℕ). a_tree (node (chosen k) x.inner) x.others) inner.0
            ∙ ap (λ (us : Pieces). a_tree (node (chosen n) us) x.others) (sym inner.2 ∙ one.0));
        said = subst (λ (m : List ℕ). Says f v leaf_in (content.these most ss x.others) m t.rest) (sym inner.3 ∙ one.1) x.said;
      }

  -- no choice where the format that is chosen is refused
  pub no_chosen : (choices : Choices) (cs : List ℕ) (n : ℕ) (a : Steps) → Chooses cs choices (Some n) → alternative choices n ≡ Some a
      → (most : ℕ) → HasTextOf f v leaf_in (choice_of choices) cs most → HasText f v leaf_in a cs most
  no_chosen choices cs n a made found most t = (inside_choice choices cs n a made found most t.0 t.1 (after_choice f v leaf_in t.1.said)).1

  -- nor where none is chosen
  pub no_choice_at : (choices : Choices) (cs : List ℕ) → Chooses cs choices None → (most : ℕ) → HasTextOf f v leaf_in (choice_of choices) cs most → ⊥
  no_choice_at choices cs none most t =
      let ss = t.0 in
      let x = after_choice f v leaf_in t.1.said in
      let next = next_of ss t.1.next in
      let may = steps_go f v leaf_in x.said t.1.next t.1.decided.1 t.1.may in
      elim (next_cases x.format next none.column (steps_go f v leaf_in x.inside next (decided_choice choices next x.number x.format x.found t.1.decided.0.1) may none.column none.comes)) [
        | inl k ↦ true_false (one_firsts choices none.column) (one_of_begins choices x.number x.format none.column x.found k) none.chosen.0
        | inr k ↦ true_false (one_may_be_empty choices) (one_of_is_empty choices x.number x.format x.found k.0) none.chosen.1
      ]

-- a value that is refused as a step
pub no_value : (f : Formats) (v : Values) (leaf_in : LeafSort → List ℕ → Leaf) (sort : ValueSort) (at start : Position) (fault : ReadFault) → IsReadable f → start ≡ at
    → RefusesStep f v leaf_in (a_value sort) start 64 0 fault → NoneAt fault 64 (HasValue f v leaf_in sort (left at)) (IsDeepValue f v leaf_in sort (left at))
no_value f v leaf_in sort at start fault good begins refused =
    none_more fault 64 (HasTextOf f v leaf_in (a_value sort) (left at)) (IsDeepStep f v leaf_in (a_value sort) (left at)) (HasValue f v leaf_in sort (left at)) (IsDeepValue f v leaf_in sort (left at))
    (λ most h. (no_steps, record { next = anything; pieces = a_tree h.0 no_tree; rest = h.1; decided = (tt, tt); may = λ x c. refl; said = h.2 })) (λ n deep. deep no_steps)
    (subst (λ (p : Position). NoStepAt f v leaf_in (a_value sort) (left p) 64 fault) begins (refused good tt))
