-- What a text says by what is read first, and what comes next where it begins.
use Rattle.std.proofs.Common.{◌≡◌, ◌⊎◌, ℕ, suc, true, false, List, Some, None, refl, inl, inr}
use Rattle.std.specs.Prelude.{slice_get}
use Rattle.ir_names.specs.Tree.{node, no_tree, a_tree}
use Rattle.ir_print.specs.declared.format.LeafSort.{LeafSort}
use Rattle.ir_print.specs.declared.format.ValueSort.{ValueSort}
use Rattle.ir_print.specs.Formats.{word, a_leaf, a_value, list_of, choice_of, Steps, no_steps, step, Choices, alternative, Kind, Formats, kinds_of}
use Rattle.ir_print.specs.Pieces.{Leaf, leaf, list, item, chosen, value_of_kind, Pieces, Values, refused_value, canonical_value}
use Rattle.ir_format_checks.specs.Tokens.{Column, given, dotted}
use Rattle.ir_format_checks.specs.Decided.{leaf_class, all_may_be_empty, Follow, these, or_next, tokens_of, all_firsts, next_of, CannotBeNext, IsDecided}
use Rattle.ir_format_checks.proofs.Booleans.{or_left}
use Rattle.ir_format_readings.proofs.Follows.{or_first, or_behind, next_cases, next_first, next_behind, solid_begins, one_of_begins, one_of_is_empty, chosen as decided_choice, choice_goes, list_goes}
use Rattle.value_texts.specs.Following.{ComesNext, MayCome}
use Rattle.value_texts.specs.Texts.{Content, Says, some, more, nothing, a_word, a_leaf_token, a_whole_value, no_member, some_members, first_member, no_more, one_more, picked}
use Rattle.value_texts.specs.Texts as content
use Rattle.value_texts.specs.Tokens.{TakesToken}
use Rattle.value_texts.proofs.Columns.{taken_is}

-- ---- what may come

-- what comes next where such a content begins, and this may come behind it
abbrev nexts : Content → Follow Column → Follow Column
nexts (content.these d ss ps) next = next_of ss next
nexts (some d m w ms) next = these (all_firsts m)
nexts (more d m w ms) next = or_next (tokens_of (given w)) next

-- a list whose end and members the next token decides
abbrev pub IsDecidedList : Steps → List ℕ → Follow Column → Type 0
IsDecidedList m w next = (all_may_be_empty m ≡ false) × CannotBeNext (all_firsts m) next × CannotBeNext (tokens_of (given w)) next
    × IsDecided m (or_next (tokens_of (given w)) next)

abbrev IsDecidedContent : Content → Follow Column → Type 0
IsDecidedContent (content.these d ss ps) next = IsDecided ss next
IsDecidedContent (some d m w ms) next = IsDecidedList m w next
IsDecidedContent (more d m w ms) next = IsDecidedList m w next

module _ (f : Formats) (v : Values) (leaf_in : LeafSort → List ℕ → Leaf) where
  goes : {c : Content} {cs rest : List ℕ} → Says f v leaf_in c cs rest → (next : Follow Column) → IsDecidedContent c next → MayCome next rest → MayCome (nexts c next) cs
  goes nothing next d may x h = next_behind no_steps next x refl (may x h)
  goes (a_word {ss = ss} {printed = printed} {w = w} taken said) next d may x h =
      next_first (step (word printed w) ss) next x (or_left _ _ (taken_is (given w) _ _ _ taken x h))
  goes (a_leaf_token {ss = ss} {sort = sort} taken said) next d may x h =
      next_first (step (a_leaf sort) ss) next x (or_left _ _ (taken_is (leaf_class sort) _ _ _ taken x h))
  goes (a_whole_value {ss = ss} {sort = sort} k at taken inside right said) next d may x h =
      next_first (step (a_value sort) ss) next x (or_left _ _ (taken_is dotted _ _ _ taken x h))
  goes (no_member {m = m} {ss = ss} {printed = printed} {w = w} said) next d may x h =
      list_goes m printed w ss next x (goes said next d.1 may x h)
  goes (some_members {m = m} {ss = ss} {printed = printed} {w = w} members said) next d may x h =
      next_first (step (list_of m printed w) ss) next x (or_left _ _ (goes members (next_of ss next) d.0 (goes said next d.1 may) x h))
  goes (first_member {m = m} {w = w} one others) next d may x h =
      solid_begins m (or_next (tokens_of (given w)) next) x d.0 (goes one (or_next (tokens_of (given w)) next) d.3 (goes others next d may) x h)
  goes (no_more {w = w}) next d may x h = or_behind (tokens_of (given w)) next x (may x h)
  goes (one_more {w = w} taken one others) next d may x h = or_first (tokens_of (given w)) next x (taken_is (given w) _ _ _ taken x h)
  goes (picked {cs = cs} {a = a} {ss = ss} {i = i} found inside said) next d may x h =
      elim (next_cases a (next_of ss next) x (goes inside (next_of ss next) (decided_choice cs (next_of ss next) i a found d.0.1) (goes said next d.1 may) x h)) [
        | inl k ↦ next_first (step (choice_of cs) ss) next x (or_left _ _ (one_of_begins cs i a x found k))
        | inr k ↦ choice_goes cs ss next x (one_of_is_empty cs i a found k.0) k.1
      ]

  -- where steps are said, such comes next as they begin with, or may follow
  pub steps_go : {most : ℕ} {ss : Steps} {ps : Pieces} {cs rest : List ℕ} → Says f v leaf_in (content.these most ss ps) cs rest → (next : Follow Column) → IsDecided ss next
      → MayCome next rest → MayCome (next_of ss next) cs
  steps_go said next d may = goes said next d may

  -- where a list goes on or ends, its separator comes next or what may follow
  pub more_goes : {most : ℕ} {m : Steps} {w : List ℕ} {ms : Pieces} {cs rest : List ℕ} → Says f v leaf_in (more most m w ms) cs rest → (next : Follow Column) → IsDecidedList m w next
      → MayCome next rest → MayCome (or_next (tokens_of (given w)) next) cs
  more_goes said next d may = goes said next d may

  -- where members are said, such comes next as one begins with
  pub some_go : {most : ℕ} {m : Steps} {w : List ℕ} {ms : Pieces} {cs rest : List ℕ} → Says f v leaf_in (some most m w ms) cs rest → (next : Follow Column) → IsDecidedList m w next
      → MayCome next rest → (x : Column) → ComesNext cs x → all_firsts m x ≡ true
  some_go said next d may x h = goes said next d may x h

  -- ---- what is read first

  pub after_nothing : {most : ℕ} {ps : Pieces} {cs rest : List ℕ} → Says f v leaf_in (content.these most no_steps ps) cs rest → (ps ≡ no_tree) × (rest ≡ cs)
  after_nothing nothing = (refl, refl)

  pub record AfterWord (most : ℕ) (w : List ℕ) (ss : Steps) (ps : Pieces) (cs rest : List ℕ) : Type 0 where
    pub text : List ℕ
    pub mid : List ℕ
    pub token : TakesToken (given w) cs text mid
    pub said : Says f v leaf_in (content.these most ss ps) mid rest

  pub after_word : {most : ℕ} {printed w : List ℕ} {ss : Steps} {ps : Pieces} {cs rest : List ℕ} → Says f v leaf_in (content.these most (step (word printed w) ss) ps) cs rest
      → AfterWord most w ss ps cs rest
  after_word (a_word {text = text} {mid = mid} token said) = record { text = text; mid = mid; token = token; said = said }

  pub record AfterLeaf (most : ℕ) (sort : LeafSort) (ss : Steps) (ps : Pieces) (cs rest : List ℕ) : Type 0 where
    pub text : List ℕ
    pub mid : List ℕ
    pub others : Pieces
    pub pieces : ps ≡ a_tree (node (leaf (leaf_in sort text)) no_tree) others
    pub token : TakesToken (leaf_class sort) cs text mid
    pub said : Says f v leaf_in (content.these most ss others) mid rest

  pub after_leaf : {most : ℕ} {sort : LeafSort} {ss : Steps} {ps : Pieces} {cs rest : List ℕ} → Says f v leaf_in (content.these most (step (a_leaf sort) ss) ps) cs rest
      → AfterLeaf most sort ss ps cs rest
  after_leaf (a_leaf_token {ps = ps} {text = text} {mid = mid} token said) = record { text = text; mid = mid; others = ps; pieces = refl; token = token; said = said }

  pub record AfterValue (most : ℕ) (sort : ValueSort) (ss : Steps) (ps : Pieces) (cs rest : List ℕ) : Type 0 where
    pub fewer : ℕ
    pub one_less : most ≡ suc fewer
    pub number : ℕ
    pub kind : Kind
    pub at : slice_get (kinds_of f sort) number ≡ Some kind
    pub mid : List ℕ
    pub behind : List ℕ
    pub inner : Pieces
    pub others : Pieces
    pub pieces : ps ≡ a_tree (node (value_of_kind sort number) (canonical_value v sort number inner)) others
    pub token : TakesToken dotted cs kind.id mid
    pub inside : Says f v leaf_in (content.these fewer kind.format inner) mid behind
    pub made : refused_value v sort number inner ≡ None
    pub said : Says f v leaf_in (content.these most ss others) behind rest

  pub after_value : {most : ℕ} {sort : ValueSort} {ss : Steps} {ps : Pieces} {cs rest : List ℕ} → Says f v leaf_in (content.these most (step (a_value sort) ss) ps) cs rest
      → AfterValue most sort ss ps cs rest
  after_value (a_whole_value {d = d} {ps = ps} {qs = qs} {i = i} {mid = mid} {behind = behind} k at token inside made said) = record {
    fewer = d;
    one_less = refl;
    number = i;
    kind = k;
    at = at;
    mid = mid;
    behind = behind;
    inner = qs;
    others = ps;
    pieces = refl;
    token = token;
    inside = inside;
    made = made;
    said = said;
  }

  -- a list without a member
  pub record AfterEmpty (most : ℕ) (ss : Steps) (ps : Pieces) (cs rest : List ℕ) : Type 0 where
    pub others : Pieces
    pub pieces : ps ≡ a_tree (node list no_tree) others
    pub said : Says f v leaf_in (content.these most ss others) cs rest

  -- a list with members
  pub record AfterList (most : ℕ) (m : Steps) (w : List ℕ) (ss : Steps) (ps : Pieces) (cs rest : List ℕ) : Type 0 where
    pub mid : List ℕ
    pub members : Pieces
    pub others : Pieces
    pub pieces : ps ≡ a_tree (node list members) others
    pub inside : Says f v leaf_in (some most m w members) cs mid
    pub said : Says f v leaf_in (content.these most ss others) mid rest

  pub after_list : {most : ℕ} {m ss : Steps} {printed w : List ℕ} {ps : Pieces} {cs rest : List ℕ} → Says f v leaf_in (content.these most (step (list_of m printed w) ss) ps) cs rest
      → AfterEmpty most ss ps cs rest ⊎ AfterList most m w ss ps cs rest
  after_list (no_member {ps = ps} said) = inl (record { others = ps; pieces = refl; said = said })
  after_list (some_members {ps = ps} {ms = ms} {mid = mid} inside said) = inr (record { mid = mid; members = ms; others = ps; pieces = refl; inside = inside; said = said })

  -- one member, and those behind it
  pub record AfterMember (most : ℕ) (m : Steps) (w : List ℕ) (ms : Pieces) (cs rest : List ℕ) : Type 0 where
    pub mid : List ℕ
    pub inner : Pieces
    pub others : Pieces
    pub pieces : ms ≡ a_tree (node item inner) others
    pub inside : Says f v leaf_in (content.these most m inner) cs mid
    pub said : Says f v leaf_in (more most m w others) mid rest

  pub after_some : {most : ℕ} {m : Steps} {w : List ℕ} {ms : Pieces} {cs rest : List ℕ} → Says f v leaf_in (some most m w ms) cs rest → AfterMember most m w ms cs rest
  after_some (first_member {qs = qs} {ms = ms} {mid = mid} inside said) = record { mid = mid; inner = qs; others = ms; pieces = refl; inside = inside; said = said }

  -- a separator, and a member behind it
  pub record AfterMore (most : ℕ) (m : Steps) (w : List ℕ) (ms : Pieces) (cs rest : List ℕ) : Type 0 where
    pub text : List ℕ
    pub mid : List ℕ
    pub token : TakesToken (given w) cs text mid
    pub member : AfterMember most m w ms mid rest

  pub after_more : {most : ℕ} {m : Steps} {w : List ℕ} {ms : Pieces} {cs rest : List ℕ} → Says f v leaf_in (more most m w ms) cs rest
      → ((ms ≡ no_tree) × (rest ≡ cs)) ⊎ AfterMore most m w ms cs rest
  after_more no_more = inl (refl, refl)
  after_more (one_more {qs = qs} {ms = ms} {text = text} {mid = mid} {behind = behind} token inside said) = inr (record {
    text = text;
    mid = mid;
    token = token;
    member = record { mid = behind; inner = qs; others = ms; pieces = refl; inside = inside; said = said };
  })

  pub record AfterChoice (most : ℕ) (cs : Choices) (ss : Steps) (ps : Pieces) (all rest : List ℕ) : Type 0 where
    pub number : ℕ
    pub format : Steps
    pub found : alternative cs number ≡ Some format
    pub mid : List ℕ
    pub inner : Pieces
    pub others : Pieces
    pub pieces : ps ≡ a_tree (node (chosen number) inner) others
    pub inside : Says f v leaf_in (content.these most format inner) all mid
    pub said : Says f v leaf_in (content.these most ss others) mid rest

  pub after_choice : {most : ℕ} {cs : Choices} {ss : Steps} {ps : Pieces} {all rest : List ℕ} → Says f v leaf_in (content.these most (step (choice_of cs) ss) ps) all rest
      → AfterChoice most cs ss ps all rest
  after_choice (picked {a = a} {ps = ps} {qs = qs} {i = i} {mid = mid} found inside said) =
      record { number = i; format = a; found = found; mid = mid; inner = qs; others = ps; pieces = refl; inside = inside; said = said }
