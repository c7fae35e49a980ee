-- What is read step by step.
use Rattle.std.proofs.Common.{◌≡◌, ◌<◌, ◌≤◌, ◌+◌, ◌∙◌, ℕ, suc, drop, get_or, List, [], ◌∷◌, ◌++◌, length, Some, None, true, false, refl, sym, ap, subst, append-nil, append_assoc}
use Rattle.std.specs.Prelude.{Vec}
use Rattle.std.specs.Global.{Global}
use Rattle.std.proofs.Math.ListN.{drop_of_length-le}
use Rattle.std.proofs.lemmas.List.{drop_more}
use Rattle.ir_names.specs.Tree.{node, no_tree, a_tree, join}
use Rattle.ir_print.specs.declared.format.LeafSort.{LeafSort}
use Rattle.ir_print.specs.declared.format.ValueSort.{ValueSort}
use Rattle.ir_print.specs.Formats.{Formats, Step, Steps, Choices, no_steps, step, word, a_leaf, a_value, list_of, choice_of, alternative, kinds_of, step_of, steps_of}
use Rattle.ir_print.specs.Pieces.{Leaf, leaf, list, item, chosen, value_of_kind, ValueTree, Pieces, Values, refused_value, canonical_value}
use Rattle.ir_format_checks.specs.Tokens.{given, dotted}
use Rattle.ir_format_checks.specs.Decided.{leaf_class, IsDecided}
use Rattle.text_streams.specs.declared.position.Position.{Position}
use Rattle.ir_print.specs.declared.format.Directive.{Directive}
use Rattle.text_streams.specs.Positions.{left, LiesBehind}
use Rattle.text_streams.specs.declared.stream.StateStream.{StateStream}
use Rattle.stream_tokens.specs.declared.lexemes.Lexeme.{Lexeme}
use Rattle.value_texts.specs.declared.progress.Progress.{Progress}
use Rattle.value_texts.specs.Kinds.{IsKindNamed}
use Rattle.value_texts.specs.Shows.{ShowsAll, ShowsMembers}
use Rattle.value_texts.specs.Texts.{Says, SaysValue, these, some, more, nothing, a_word, a_leaf_token, a_whole_value, no_member, some_members, first_member, no_more, one_more, picked}
use Rattle.value_texts.specs.Tokens.{TakesToken, TakesLexeme, IsNoNext}
use Rattle.value_texts.specs.Progress.{GoesTo, TookWord, Adds, TakesStep, TakesOne, TakesSteps, TakesMember, IsStep, AreSteps, ReadsValue}
use Rattle.value_texts.proofs.Places.{goes_nowhere, goes_both, goes_behind, token_taken}
use Rattle.value_texts.specs.declared.progress.ReadFault.{ReadFault}
use Rattle.value_texts.specs.declared.progress.ReadFault.TheVariants.{Text}
use Rattle.text_streams.specs.declared.faults.TextError.TheVariants.{TooDeep}
use Rattle.value_texts.specs.Following.{Begins, Chooses}
use Rattle.value_texts.specs.Deep.{IsDeep, innermost, behind_step, in_first_member, in_next_member, in_choice}
use Rattle.value_texts.specs.Only.{HasText, HasTextOf, GoesOn, IsOnlyStep, IsDeepText, IsDeepStep, NoStepAt, NoStepsAt, RefusesSteps}
use Rattle.value_texts.specs.Readable.{IsReadable, AllAreFlat}
use Rattle.value_texts.proofs.Formats.{flat_choice}
use Rattle.value_texts.proofs.Inside.{after_nothing}
use Rattle.value_texts.proofs.Readings.{none_more, only_word, only_leaf, only_value, no_value_inside, no_value_left, no_value_made, AreOnlyMembers, first_members, next_members, only_list, only_empty, no_first, no_next, only_choice, no_chosen}
use Rattle.value_texts.proofs.Pieces.{join_nothing, join_join, shows_both, member_added, all_later, members_later}

module _ (f : Formats) (v : Values) (leaf_in : LeafSort → List ℕ → Leaf) (d : ℕ) where
  -- ---- between places

  -- Where those of these steps are still to be read, each text of all says these pieces up to here.
  pub record AreSoFar (all more_steps : Steps) (first now : Position) (qs : Pieces) : Type 0 where
    pub said : (ps : Pieces) (rest : List ℕ) → Says f v leaf_in (these d more_steps ps) (left now) rest → Says f v leaf_in (these d all (join qs ps)) (left first) rest
    pub deep : (n : ℕ) → IsDeep f v leaf_in n more_steps (left now) → IsDeep f v leaf_in n all (left first)
    pub only : IsReadable f → (most : ℕ) (t : HasText f v leaf_in all (left first) most) → IsDecided more_steps t.next × GoesOn f v leaf_in more_steps most qs t.pieces (left now) t.rest

  -- what is still said, as a text
  pub text_of : (all more_steps : Steps) (first : List ℕ) (now : List ℕ) (most : ℕ) (qs : Pieces) (t : HasText f v leaf_in all first most)
      → IsDecided more_steps t.next × GoesOn f v leaf_in more_steps most qs t.pieces now t.rest → HasText f v leaf_in more_steps now most
  text_of all more_steps first now most qs t h = record { next = t.next; pieces = h.1.others; rest = t.rest; decided = h.0; may = t.may; said = h.1.said }

  so_far : (s : Step) (all more_steps : Steps) (first mid now : Position) (qs us : Pieces) → AreSoFar all (step s more_steps) first mid qs → IsStep f v leaf_in d s mid now us
      → AreSoFar all more_steps first now (join qs us)
  unfolding text_of
  so_far s all more_steps first mid now qs us h k = record {
    said = λ ps rest said. subst (λ (ts : Pieces). Says f v leaf_in (these d all ts) (left first) rest) (sym (join_join qs us ps))
        (h.said (join us ps) rest (k.said more_steps ps rest said));
    deep = λ n deep. h.deep n (behind_step (k.said no_steps no_tree (left now) nothing) deep);
    only = λ good most t.
        let g = h.only good most t in
        let x = k.only good most more_steps (text_of all (step s more_steps) (left first) (left mid) most qs t g) in (
          g.0.1,
          record {
            others = x.others;
            pieces = g.1.pieces ∙ (ap (λ (ts : Pieces). join qs ts) x.pieces ∙ sym (join_join qs us x.others));
            said = x.said;
          },
        );
  }

  all_read : (all : Steps) (first now : Position) (qs : Pieces) → AreSoFar all no_steps first now qs → AreSteps f v leaf_in d all first now qs
  all_read all first now qs h = record {
    said = subst (λ (ts : Pieces). Says f v leaf_in (these d all ts) (left first) (left now)) (join_nothing qs) (h.said no_tree (left now) nothing);
    only = λ good most t.
        let g = h.only good most t in
        let x = after_nothing f v leaf_in g.1.said in
        (g.1.pieces ∙ (ap (λ (ts : Pieces). join qs ts) x.0 ∙ join_nothing qs), x.1);
  }

  -- a list of which the first member is refused
  pub first_refused : (m : Steps) (printed w : List ℕ) (first : Position) (deepest : ℕ) (fault : ReadFault) → Begins (left first) m true
      → NoStepsAt f v leaf_in m (left first) deepest fault → NoStepAt f v leaf_in (list_of m printed w) (left first) deepest fault
  first_refused m printed w first deepest fault begins refused =
      none_more fault deepest (HasText f v leaf_in m (left first)) (IsDeepText f v leaf_in m (left first)) (HasTextOf f v leaf_in (list_of m printed w) (left first)) (IsDeepStep f v leaf_in (list_of m printed w) (left first))
      (no_first f v leaf_in m printed w (left first) begins) (λ n deep ss. in_first_member deep) refused

  -- a choice of which the format that is chosen is refused
  pub chosen_refused : (cs : Choices) (i : ℕ) (a : Steps) (first start : Position) (deepest lists : ℕ) (fault : ReadFault) → IsReadable f → alternative cs i ≡ Some a → Chooses (left first) cs (Some i)
      → start ≡ first → AllAreFlat cs lists → RefusesSteps f v leaf_in a start deepest lists fault → NoStepAt f v leaf_in (choice_of cs) (left first) deepest fault
  chosen_refused cs i a first start deepest lists fault good found chooses begins flat refused =
      none_more fault deepest (HasText f v leaf_in a (left first)) (IsDeepText f v leaf_in a (left first)) (HasTextOf f v leaf_in (choice_of cs) (left first)) (IsDeepStep f v leaf_in (choice_of cs) (left first))
      (no_chosen f v leaf_in cs (left first) i a chooses found) (λ n deep ss. in_choice i found deep)
      (subst (λ (p : Position). NoStepsAt f v leaf_in a (left p) deepest fault) begins (refused good (flat_choice cs i lists a found flat)))

  named_token : (sort : ValueSort) (from : Position) (token : Lexeme) (number : ℕ) (format : Steps) → TakesLexeme dotted from token → (named : IsKindNamed (kinds_of f sort) token number format)
      → TakesToken dotted (left from) named.kind.id (left token.end)
  named_token sort from token number format took named = subst (λ (cs : List ℕ). TakesToken dotted (left from) cs (left token.end)) named.named (token_taken from token took.lexeme dotted took)

  -- a value whose format is refused
  pub inside_refused : (n : ℕ) → n ≡ suc d → (sort : ValueSort) (format : Steps) (number : ℕ) (first start : Position) (token : Lexeme) (fault : ReadFault) → IsReadable f → TakesLexeme dotted first token
      → IsKindNamed (kinds_of f sort) token number format → start ≡ token.end → RefusesSteps f v leaf_in format start d 64 fault → NoStepAt f v leaf_in (a_value sort) (left first) n fault
  inside_refused n deeper sort format number first start token fault good took named begins refused =
      let inner : RefusesSteps f v leaf_in named.kind.format token.end d 64 fault =
      subst (λ (ss : Steps). RefusesSteps f v leaf_in ss token.end d 64 fault) named.formatted (subst (λ (p : Position). RefusesSteps f v leaf_in format p d 64 fault) begins refused) in
      subst (λ (k : ℕ). NoStepAt f v leaf_in (a_value sort) (left first) k fault) (sym deeper)
      (no_value_inside f v leaf_in good sort number named.kind (left first) (left token.end) fault d named.at (named_token sort first token number format took named)
      (inner good (good.flat sort number named.kind named.at)))

  -- a value where none may be
  pub too_deep : (sort : ValueSort) (format : Steps) (number : ℕ) (first place : Position) (token : Lexeme) → d ≡ 0 → TakesLexeme dotted first token → IsKindNamed (kinds_of f sort) token number format
      → NoStepAt f v leaf_in (a_value sort) (left first) d (Text TooDeep place)
  too_deep sort format number first place token none took named =
      subst (λ (k : ℕ). NoStepAt f v leaf_in (a_value sort) (left first) k (Text TooDeep place)) (sym none)
      (no_value_left f v leaf_in sort (left first), λ ss. innermost number named.kind named.at (named_token sort first token number format took named))

module _ {P : Type 0} (f : Formats) (v : Values) (leaf_in : LeafSort → List ℕ → Leaf) (d : ℕ) where
  -- ---- one step

  pub one_step : (R : P → ValueTree → Type 0) (s : Step) (old new : Progress P) → TakesOne f v leaf_in R d s old new → TakesStep f v leaf_in R d s old new
  one_step R s old new h = record {
    added = h.part ∷ [];
    pieces = a_tree h.tree no_tree;
    parts = h.parts;
    shown = (h.shown, tt);
    known = h.known;
    behind = h.behind;
  }

  pub word_step : (R : P → ValueTree → Type 0) (printed w : List ℕ) (old new : Progress P) → TookWord w old new → TakesStep f v leaf_in R d (word printed w) old new
  word_step R printed w old new h = record {
    added = [];
    pieces = no_tree;
    parts = ap (λ (xs : Vec P Global). xs.items) h.parts ∙ sym (append-nil old.parts.items);
    shown = tt;
    known = record {
      said = λ ss ps rest said. a_word h.token said;
      only = λ good. only_word f v leaf_in printed w (left old.at) h.text (left new.at) h.token;
    };
    behind = h.behind;
  }

  -- a leaf whose token was taken, with its part put behind the others
  pub leaf_one : (R : P → ValueTree → Type 0) (sort : LeafSort) (old new : Progress P) (token : Lexeme) (part : P) → TakesLexeme (leaf_class sort) old.at token
      → new.parts.items ≡ old.parts.items ++ part ∷ [] → new.at ≡ token.end → R part (node (leaf (leaf_in sort token.text.items)) no_tree)
      → TakesOne f v leaf_in R d (a_leaf sort) old new
  leaf_one R sort old new token part took parts at shows =
      let taken : TakesToken (leaf_class sort) (left old.at) token.text.items (left new.at) =
      subst (λ (p : Position). TakesToken (leaf_class sort) (left old.at) token.text.items (left p)) (sym at) (token_taken old.at token took.lexeme (leaf_class sort) took) in record {
        part = part;
        tree = node (leaf (leaf_in sort token.text.items)) no_tree;
        parts = parts;
        shown = shows;
        known = record {
          said = λ ss ps rest said. a_leaf_token taken said;
          only = λ good. only_leaf f v leaf_in sort (left old.at) token.text.items (left new.at) taken;
        };
        behind = subst (λ (p : Position). GoesTo old.at p) (sym at) (goes_behind old.at token took.lexeme);
      }

  -- ---- steps of a format

  -- Of these steps those are still to be read.
  abbrev pub StepsSo : (P → ValueTree → Type 0) → (all more_steps : Steps) → (first now : Progress P) → Type 0
  StepsSo R all more_steps first now = Adds R first now (AreSoFar f v leaf_in d all more_steps first.at now.at)

  pub steps_first : (R : P → ValueTree → Type 0) (all : Steps) (now : Progress P) → StepsSo R all all now now
  steps_first R all now = record {
    added = [];
    pieces = no_tree;
    parts = sym (append-nil now.parts.items);
    shown = tt;
    known = record {
      said = λ ps rest said. said;
      deep = λ n deep. deep;
      only = λ good most t. (t.decided, record { others = t.pieces; pieces = refl; said = t.said });
    };
    behind = goes_nowhere now.at;
  }

  pub steps_next : (R S : P → ValueTree → Type 0) → ((p : P) (t : ValueTree) → R p t → S p t) → (s : Step) (all more_steps : Steps) (first mid now : Progress P)
      → StepsSo R all (step s more_steps) first mid → TakesStep f v leaf_in S d s mid now → StepsSo S all more_steps first now
  steps_next R S later s all more_steps first mid now h k = record {
    added = h.added ++ k.added;
    pieces = join h.pieces k.pieces;
    parts = k.parts ∙ (ap (λ (xs : List P). xs ++ k.added) h.parts ∙ append_assoc first.parts.items h.added k.added);
    shown = shows_both S h.added k.added h.pieces k.pieces (all_later R S later h.added h.pieces h.shown) k.shown;
    known = so_far f v leaf_in d s all more_steps first.at mid.at now.at h.pieces k.pieces h.known k.known;
    behind = goes_both first.at mid.at now.at h.behind k.behind;
  }

  pub steps_last : (R : P → ValueTree → Type 0) (all more_steps : Steps) (first now : Progress P) → more_steps ≡ no_steps → StepsSo R all more_steps first now
      → TakesSteps f v leaf_in R d all first now
  steps_last R all more_steps first now none h = record {
    added = h.added;
    pieces = h.pieces;
    parts = h.parts;
    shown = h.shown;
    known = all_read f v leaf_in d all first.at now.at h.pieces (subst (λ (ss : Steps). AreSoFar f v leaf_in d all ss first.at now.at h.pieces) none h.known);
    behind = h.behind;
  }

  -- steps of which one is refused
  pub steps_refused : (R : P → ValueTree → Type 0) (s : Step) (all more_steps : Steps) (first now : Progress P) (deepest : ℕ) (fault : ReadFault) → IsReadable f → StepsSo R all (step s more_steps) first now
      → NoStepAt f v leaf_in s (left now.at) deepest fault → NoStepsAt f v leaf_in all (left first.at) deepest fault
  steps_refused R s all more_steps first now deepest fault good h refused =
      none_more fault deepest (HasTextOf f v leaf_in s (left now.at)) (IsDeepStep f v leaf_in s (left now.at)) (HasText f v leaf_in all (left first.at)) (IsDeepText f v leaf_in all (left first.at))
      (λ most t. (more_steps, text_of f v leaf_in d all (step s more_steps) (left first.at) (left now.at) most h.pieces t (h.known.only good most t)))
      (λ n deep. h.known.deep n (deep more_steps)) refused

  -- ---- lists

  -- Of a list these members were read.
  pub record ListSo (R : P → ValueTree → Type 0) (m : Steps) (w : List ℕ) (members : List (Vec P Global)) (first now : Progress P) : Type 0 where
    pub pieces : Pieces
    pub shown : ShowsMembers R members pieces
    pub said : (ms : Pieces) (rest : List ℕ) → Says f v leaf_in (more d m w ms) (left now.at) rest → Says f v leaf_in (some d m w (join pieces ms)) (left first.at) rest
    pub only : IsReadable f → AreOnlyMembers f v leaf_in m w (left first.at) (left now.at) pieces
    pub parts : now.parts ≡ first.parts
    pub behind : GoesTo first.at now.at

  pub list_first : (R : P → ValueTree → Type 0) (m : Steps) (w : List ℕ) (before after : List (Vec P Global)) (first now : Progress P) → before ≡ []
      → TakesMember f v leaf_in R d m before after first now → ListSo R m w after first now
  list_first R m w before after first now none h = record {
    pieces = a_tree (node item h.pieces) no_tree;
    shown = subst (λ (ms : List (Vec P Global)). ShowsMembers R ms (a_tree (node item h.pieces) no_tree)) (sym (h.members ∙ ap (λ (ms : List (Vec P Global)). ms ++ h.one ∷ []) none)) (h.shown, tt);
    said = λ ms rest said. first_member h.said.said said;
    only = λ good. first_members f v leaf_in m w (left first.at) (left now.at) h.pieces (h.said.only good);
    parts = h.parts;
    behind = h.behind;
  }

  pub list_next : (R S : P → ValueTree → Type 0) → ((p : P) (t : ValueTree) → R p t → S p t) → (m : Steps) (w : List ℕ) (before after : List (Vec P Global)) (first mid behind_word now : Progress P)
      → ListSo R m w before first mid → TookWord w mid behind_word → TakesMember f v leaf_in S d m before after behind_word now → ListSo S m w after first now
  list_next R S later m w before after first mid behind_word now h word_taken k = record {
    pieces = join h.pieces (a_tree (node item k.pieces) no_tree);
    shown = subst (λ (ms : List (Vec P Global)). ShowsMembers S ms (join h.pieces (a_tree (node item k.pieces) no_tree))) (sym k.members)
        (member_added S before k.one h.pieces k.pieces (members_later R S later before h.pieces h.shown) k.shown);
    said = λ ms rest said. subst (λ (qs : Pieces). Says f v leaf_in (some d m w qs) (left first.at) rest) (sym (join_join h.pieces (a_tree (node item k.pieces) no_tree) ms))
        (h.said (a_tree (node item k.pieces) ms) rest (one_more word_taken.token k.said.said said));
    only = λ good. next_members f v leaf_in join_join m w (left first.at) (left mid.at) word_taken.text (left behind_word.at) (left now.at) h.pieces k.pieces (h.only good) word_taken.token (k.said.only good);
    parts = k.parts ∙ (word_taken.parts ∙ h.parts);
    behind = goes_both first.at mid.at now.at h.behind (goes_both mid.at behind_word.at now.at word_taken.behind k.behind);
  }

  pub list_one : (R : P → ValueTree → Type 0) (m : Steps) (printed w : List ℕ) (members : List (Vec P Global)) (first now new : Progress P) (part : P)
      → ListSo R m w members first now → Begins (left first.at) m true → IsNoNext (given w) (left now.at) → new.parts.items ≡ now.parts.items ++ part ∷ [] → new.at ≡ now.at
      → ((ts : Pieces) → ShowsMembers R members ts → R part (node list ts)) → TakesOne f v leaf_in R d (list_of m printed w) first new
  list_one R m printed w members first now new part h begins ends pushed at shows = record {
    part = part;
    tree = node list h.pieces;
    parts = pushed ∙ ap (λ (xs : Vec P Global). xs.items ++ part ∷ []) h.parts;
    shown = shows h.pieces h.shown;
    known = record {
      said = λ ss ps rest said. some_members
          (subst (λ (qs : Pieces). Says f v leaf_in (some d m w qs) (left first.at) (left new.at)) (join_nothing h.pieces)
          (h.said no_tree (left new.at) (subst (λ (p : Position). Says f v leaf_in (more d m w no_tree) (left p) (left new.at)) at no_more))) said;
      only = λ good. subst (λ (p : Position). IsOnlyStep f v leaf_in (list_of m printed w) (left first.at) (left p) (a_tree (node list h.pieces) no_tree)) (sym at)
          (only_list f v leaf_in join_nothing m printed w (left first.at) (left now.at) h.pieces begins (h.only good) ends);
    };
    behind = subst (λ (p : Position). GoesTo first.at p) (sym at) h.behind;
  }

  pub list_empty : (R : P → ValueTree → Type 0) (m : Steps) (printed w : List ℕ) (members : List (Vec P Global)) (first now new : Progress P) (part : P)
      → members ≡ [] → now ≡ first → Begins (left first.at) m false → new.parts.items ≡ now.parts.items ++ part ∷ [] → new.at ≡ now.at
      → ((ts : Pieces) → ShowsMembers R members ts → R part (node list ts)) → TakesOne f v leaf_in R d (list_of m printed w) first new
  list_empty R m printed w members first now new part none same begins pushed at shows =
      let here : new.at ≡ first.at = at ∙ ap (λ (p : Progress P). p.at) same in record {
        part = part;
        tree = node list no_tree;
        parts = pushed ∙ ap (λ (p : Progress P). p.parts.items ++ part ∷ []) same;
        shown = shows no_tree (subst (λ (ms : List (Vec P Global)). ShowsMembers R ms no_tree) (sym none) tt);
        known = record {
          said = λ ss ps rest said. no_member (subst (λ (p : Position). Says f v leaf_in (these d ss ps) (left p) rest) here said);
          only = λ good. subst (λ (p : Position). IsOnlyStep f v leaf_in (list_of m printed w) (left first.at) (left p) (a_tree (node list no_tree) no_tree)) (sym here)
              (only_empty f v leaf_in m printed w (left first.at) begins);
        };
        behind = subst (λ (p : Position). GoesTo first.at p) (sym here) (goes_nowhere first.at);
      }

  -- the same of what equals it
  pub list_same : {St : Type 0} (shows : St → P → ValueTree → Type 0) (s t : St) (m : Steps) (w : List ℕ) (ms ns : Vec (Vec P Global) Global) (first now then : Progress P)
      → t ≡ s → ns ≡ ms → then ≡ now → ListSo (shows s) m w ms.items first now → ListSo (shows t) m w ns.items first then
  list_same {St} shows s t m w ms ns first now then e members places h =
      subst (λ (u : St). ListSo (shows u) m w ns.items first then) (sym e)
      (subst (λ (xs : Vec (Vec P Global) Global). ListSo (shows s) m w xs.items first then) (sym members)
      (subst (λ (p : Progress P). ListSo (shows s) m w ms.items first p) (sym places) h))

  -- a list of which another one is
  pub next_refused : (R : P → ValueTree → Type 0) (m : Steps) (printed w : List ℕ) (members : List (Vec P Global)) (first now behind_word : Progress P) (deepest : ℕ) (fault : ReadFault) → IsReadable f
      → Begins (left first.at) m true → ListSo R m w members first now → TookWord w now behind_word → NoStepsAt f v leaf_in m (left behind_word.at) deepest fault
      → NoStepAt f v leaf_in (list_of m printed w) (left first.at) deepest fault
  next_refused R m printed w members first now behind_word deepest fault good begins h word_taken refused =
      none_more fault deepest (HasText f v leaf_in m (left behind_word.at)) (IsDeepText f v leaf_in m (left behind_word.at))
      (HasTextOf f v leaf_in (list_of m printed w) (left first.at)) (IsDeepStep f v leaf_in (list_of m printed w) (left first.at))
      (no_next f v leaf_in m printed w (left first.at) (left now.at) word_taken.text (left behind_word.at) h.pieces begins (h.only good) word_taken.token)
      (λ n deep ss. in_next_member (h.said no_tree (left now.at) no_more) word_taken.token deep) refused

  -- ---- a format inside

  -- what was read from this place on begins with nothing
  pub fresh_parts : (R : P → ValueTree → Type 0) (Known : Pieces → Type 0) (start end : Progress P) → start.parts.items ≡ [] → (h : Adds R start end Known) → ShowsAll R end.parts.items h.pieces
  fresh_parts R Known start end none h = subst (λ (xs : List P). ShowsAll R xs h.pieces) (sym (h.parts ∙ ap (λ (xs : List P). xs ++ h.added) none)) h.shown

  pub choice_one : (R : P → ValueTree → Type 0) (cs : Choices) (a : Steps) (i : ℕ) (first start end new : Progress P) (mid : Vec P Global) (part : P)
      → alternative cs i ≡ Some a → Chooses (left first.at) cs (Some i) → start.parts.items ≡ [] → start.at ≡ first.at → TakesSteps f v leaf_in R d a start end
      → mid ≡ first.parts → new.parts.items ≡ mid.items ++ part ∷ [] → new.at ≡ end.at
      → ((ts : Pieces) → ShowsAll R end.parts.items ts → R part (node (chosen i) ts)) → TakesOne f v leaf_in R d (choice_of cs) first new
  choice_one R cs a i first start end new mid part found chooses none begins h kept pushed at shows = record {
    part = part;
    tree = node (chosen i) h.pieces;
    parts = pushed ∙ ap (λ (xs : Vec P Global). xs.items ++ part ∷ []) kept;
    shown = shows h.pieces (fresh_parts R _ start end none h);
    known =
        let inside : AreSteps f v leaf_in d a first.at end.at h.pieces = subst (λ (p : Position). AreSteps f v leaf_in d a p end.at h.pieces) begins h.known in record {
          said = λ ss ps rest said. picked found inside.said (subst (λ (p : Position). Says f v leaf_in (these d ss ps) (left p) rest) at said);
          only = λ good. subst (λ (p : Position). IsOnlyStep f v leaf_in (choice_of cs) (left first.at) (left p) (a_tree (node (chosen i) h.pieces) no_tree)) (sym at)
              (only_choice f v leaf_in cs (left first.at) (left end.at) i a h.pieces chooses found (inside.only good));
        };
    behind = subst (λ (p : Position). GoesTo p new.at) begins (subst (λ (p : Position). GoesTo start.at p) (sym at) h.behind);
  }

  pub member_taken : (R : P → ValueTree → Type 0) (m : Steps) (before after : List (Vec P Global)) (one : Vec P Global) (first start end new : Progress P)
      → start.parts.items ≡ [] → start.at ≡ first.at → TakesSteps f v leaf_in R d m start end → one ≡ end.parts → after ≡ before ++ one ∷ []
      → new.parts ≡ first.parts → new.at ≡ end.at → TakesMember f v leaf_in R d m before after first new
  member_taken R m before after one first start end new none begins h is pushed kept at = record {
    one = one;
    pieces = h.pieces;
    members = pushed;
    shown = subst (λ (x : Vec P Global). ShowsAll R x.items h.pieces) (sym is) (fresh_parts R _ start end none h);
    said = subst (λ (p : Position). AreSteps f v leaf_in d m first.at p h.pieces) (sym at) (subst (λ (p : Position). AreSteps f v leaf_in d m p end.at h.pieces) begins h.known);
    parts = kept;
    behind = subst (λ (p : Position). GoesTo p new.at) begins (subst (λ (p : Position). GoesTo start.at p) (sym at) h.behind);
  }

  pub value_one : (R S : P → ValueTree → Type 0) (n : ℕ) → n ≡ suc d → (sort : ValueSort) (format : Steps) (number : ℕ) (first start end new : Progress P) (token : Lexeme) (part : P)
      → TakesLexeme dotted first.at token → IsKindNamed (kinds_of f sort) token number format
      → start.parts.items ≡ [] → start.at ≡ token.end → TakesSteps f v leaf_in R d format start end
      → ((ts : Pieces) → ShowsAll R end.parts.items ts → (refused_value v sort number ts ≡ None) × S part (node (value_of_kind sort number) (canonical_value v sort number ts)))
      → new.parts.items ≡ first.parts.items ++ part ∷ [] → new.at ≡ end.at
      → TakesOne f v leaf_in S n (a_value sort) first new
  value_one R S n deeper sort format number first start end new token part took named none begins h makes pushed at =
      let made = makes h.pieces (fresh_parts R _ start end none h) in
      let read : TakesToken dotted (left first.at) named.kind.id (left token.end) =
      subst (λ (cs : List ℕ). TakesToken dotted (left first.at) cs (left token.end)) named.named (token_taken first.at token took.lexeme dotted took) in
      let inside : AreSteps f v leaf_in d named.kind.format token.end end.at h.pieces =
      subst (λ (ss : Steps). AreSteps f v leaf_in d ss token.end end.at h.pieces) named.formatted
      (subst (λ (p : Position). AreSteps f v leaf_in d format p end.at h.pieces) begins h.known) in
      subst (λ (k : ℕ). TakesOne f v leaf_in S k (a_value sort) first new) (sym deeper) (record {
        part = part;
        tree = node (value_of_kind sort number) (canonical_value v sort number h.pieces);
        parts = pushed;
        shown = made.1;
        known = record {
          said = λ ss ps rest behind. a_whole_value named.kind named.at read inside.said made.0
              (subst (λ (p : Position). Says f v leaf_in (these (suc d) ss ps) (left p) rest) at behind);
          only = λ good. subst (λ (p : Position). IsOnlyStep f v leaf_in (a_value sort) (left first.at) (left p) (a_tree (node (value_of_kind sort number) (canonical_value v sort number h.pieces)) no_tree)) (sym at)
              (only_value f v leaf_in good sort number named.kind (left first.at) (left token.end) (left end.at) h.pieces named.at read (inside.only good));
        };
        behind = subst (λ (p : Position). GoesTo first.at p) (sym at)
            (goes_both first.at token.end end.at (goes_behind first.at token took.lexeme) (subst (λ (p : Position). GoesTo p end.at) begins h.behind));
      })

module _ {P : Type 0} (f : Formats) (v : Values) (leaf_in : LeafSort → List ℕ → Leaf) (d : ℕ) where
  -- a value that isn't made of what was read
  pub made_refused : (R : P → ValueTree → Type 0) (sort : ValueSort) (format : Steps) (number : ℕ) (first : Position) (start end : Progress P) (token : Lexeme) (i : ℕ) → IsReadable f
      → TakesLexeme dotted first token → IsKindNamed (kinds_of f sort) token number format → start.parts.items ≡ [] → start.at ≡ token.end → TakesSteps f v leaf_in R d format start end
      → ((ts : Pieces) → ShowsAll R end.parts.items ts → refused_value v sort number ts ≡ Some i) → (most : ℕ) → HasTextOf f v leaf_in (a_value sort) (left first) most → ⊥
  made_refused R sort format number first start end token i good took named none begins h refused =
      let inside : AreSteps f v leaf_in d named.kind.format token.end end.at h.pieces =
      subst (λ (ss : Steps). AreSteps f v leaf_in d ss token.end end.at h.pieces) named.formatted (subst (λ (p : Position). AreSteps f v leaf_in d format p end.at h.pieces) begins h.known) in
      no_value_made f v leaf_in good sort number named.kind (left first) (left token.end) (left end.at) h.pieces i named.at (named_token f v leaf_in d sort first token number format took named) (inside.only good)
      (refused h.pieces (fresh_parts f v leaf_in d R _ start end none h))

-- behind the last member no separator comes next
pub ended : {P : Type 0} (w : List ℕ) (old mid new : Progress P) → new ≡ mid → (mid ≡ old) × IsNoNext (given w) (left old.at) → IsNoNext (given w) (left new.at)
ended {P} w old mid new same missed = subst (λ (p : Progress P). IsNoNext (given w) (left p.at)) (sym (same ∙ missed.0)) missed.1

-- the steps from a directive on
pub steps_at : (format : List Directive) (i : ℕ) (x : Directive) → i < length format → x ≡ get_or format i x → steps_of (drop i format) ≡ step (step_of x) (steps_of (drop (i + 1) format))
steps_at format i x lt is = ap steps_of (drop_more format i x lt ∙ ap (λ (y : Directive). y ∷ drop (i + 1) format) (sym is))

-- behind the last directive there are none
pub steps_past : (format : List Directive) (i : ℕ) → length format ≤ i → steps_of (drop i format) ≡ no_steps
steps_past format i le = ap steps_of (drop_of_length-le format le)

-- a value that was read from a stream
pub value_read : {P S : Type 0} (f : Formats) (v : Values) (leaf_in : LeafSort → List ℕ → Leaf) (R : P → ValueTree → Type 0) (sort : ValueSort) (old new : StateStream S)
    (start end : Progress P) (left_over : List P) (part : P) → TakesOne f v leaf_in R 64 (a_value sort) start end → start.at ≡ old.position → start.parts.items ≡ []
    → end.parts.items ≡ left_over ++ part ∷ [] → new.position ≡ end.at → new.state ≡ old.state → ReadsValue f v leaf_in R sort old new part
value_read {P} f v leaf_in R sort old new start end left_over part h begins none popped at state =
    let same : part ≡ h.part = last_same left_over part h.part (sym popped ∙ (h.parts ∙ ap (λ (xs : List P). xs ++ h.part ∷ []) none)) in record {
      tree = h.tree;
      said = subst (λ (p : Position). SaysValue f v leaf_in sort h.tree (left old.position) (left p)) (sym at)
          (subst (λ (p : Position). SaysValue f v leaf_in sort h.tree (left p) (left end.at)) begins (h.known.said no_steps no_tree (left end.at) nothing));
      shown = subst (λ (x : P). R x h.tree) (sym same) h.shown;
      taken = h.behind.taken;
      reads = record {
        behind = subst (λ (p : Position). LiesBehind old.position p h.behind.taken) (sym at) (subst (λ (p : Position). LiesBehind p end.at h.behind.taken) begins h.behind.behind);
        state = state;
      };
    }
  where
    last_same : (xs : List P) (x y : P) → xs ++ x ∷ [] ≡ y ∷ [] → x ≡ y
    last_same [] x y e = cc
    last_same (z ∷ []) x y e = cc
    last_same (z ∷ w ∷ zs) x y e = cc
