-- What types, attributes and operations say derives from the formats' grammar.
use Rattle.std.proofs.Common.{◌≡◌, ℕ, zero, suc, ◌+◌, arith, List, [], ◌∷◌, ◌++◌, Option, Some, Bool, true, false, ◌&&◌, codes, slice_get, refl, sym, subst, ap, ◌∙◌, inl, inr}
use Rattle.std.specs.List.{list_all}
use Rattle.ir_names.specs.Tree.{node, no_tree, a_tree}
use Rattle.ir_print.specs.Formats as step
use Rattle.ir_print.specs.Formats.{Formats, Kind, Step, Steps, no_steps, Choices, no_choice, a_choice, alternative, kinds_of}
use Rattle.ir_print.specs.Layout.{a_word}
use Rattle.ir_print.specs.Pieces.{value_of_kind, list, item, chosen, operands, successor, region, Leaf, leaf, name, number, unsigned, width, quoted, mark, ValueTree, Pieces, Values}
use Rattle.ir_print.specs.Shapes.{parts_in, sort_of, TakesLeaf, IsInRange, TakesOperands, Fits, FitAll, FitMembers, FitsMember}
use Rattle.ir_grammar.specs.declared.grammar.Action.TheVariants as act
use Rattle.ir_grammar.specs.declared.grammar.Symbol.{Symbol}
use Rattle.ir_grammar.specs.declared.grammar.Symbol.TheVariants.{Part, Act}
use Rattle.ir_grammar.specs.declared.grammar.Grammar.{Grammar}
use Rattle.ir_formats.specs.declared.rules.Sort.TheVariants as sort
use Rattle.ir_formats.specs.Rules.{IsGrammarOf, PlainRule, up, sign, value_part, leaf_sign, several, words_of, words_in, words_in_choices, steps_made, alternative_made, choices_made, rules_of}
use Rattle.ir_rereading.specs.Outer.{is_value_step, are_value_steps, is_plain_step, are_plain_steps, has_outer_operands}
use Rattle.ir_rereading.proofs.layouts.Marks.{Mark, token, word, one_leaf, did, Marker, format_on, some_format_on, kind_on, members_on, more_members_on, piece_on, parts_on}
use Rattle.ir_rereading.proofs.Alternatives.{known_format, value_alternative}
use Rattle.ir_rereading.proofs.layouts.Among.{IsAmong, AreAmong, among_front, among_back}
use Rattle.ir_rereading.proofs.layouts.PlainWords.{Tested}
use Rattle.ir_rereading.proofs.layouts.PlainKinds.{name_accepted, width_accepted, number_accepted, digits_accepted, quotation_accepted, mark_accepted}
use Rattle.ir_rereading.proofs.layouts.MarkSteps.{DerivesMarks, shift_leaf, acted, regroup, expand, Placed, AllPlaced, IsReadAt, AreReadAt, took, took_word, format_reads, kind_reads}
use Rattle.ir_print.specs.declared.format.ValueSort.{ValueSort}
use Rattle.ir_print.specs.declared.format.ValueSort.TheVariants as sorts
use Rattle.ir_formats.proofs.Booleans.{both_hold}

-- ---- steps that say no operands, no edges and no regions

-- each step passes the test
abbrev pub AllPass : (Step → Bool) → List Step → Type 0
AllPass p [] = Unit {0}
AllPass p (s ∷ ss) = (p s ≡ true) × AllPass p ss

pub values_in : (fs : Steps) → are_value_steps fs ≡ true → AllPass is_value_step (parts_in fs)
values_in no_steps h = tt
values_in (step.step (step.word printed text) fs) h = values_in fs h
values_in (step.step s fs) h = let t = both_hold (is_value_step s) (are_value_steps fs) h in (t.0, values_in fs t.1)

pub plain_in : (fs : Steps) → are_plain_steps fs ≡ true → AllPass is_plain_step (parts_in fs)
plain_in no_steps h = tt
plain_in (step.step (step.word printed text) fs) h = plain_in fs h
plain_in (step.step s fs) h = let t = both_hold (is_plain_step s) (are_plain_steps fs) h in (t.0, plain_in fs t.1)

value_plain : (s : Step) → is_value_step s ≡ true → is_plain_step s ≡ true
value_plain (step.list_of member printed text) h = h
value_plain (step.choice_of cs) h = h
value_plain _ h = refl

-- the steps of types and attributes take no operands
pub values_alone : (s : Step) (n : ℕ) → TakesOperands s n → is_value_step s ≡ true → ⊥
values_alone step.operands n h e = let wrong : false ≡ true = e in cc
values_alone step.operand n h e = let wrong : false ≡ true = e in cc
values_alone _ n h e = h

-- the piece is no operands, no edge and no region
abbrev pub IsInner : ValueTree → Type 0
IsInner (node (operands n) ts) = ⊥
IsInner (node (successor n) ts) = ⊥
IsInner (node region ts) = ⊥
IsInner _ = Unit {0}

-- what is tested of the formats of types and attributes
pub record Outer (f : Formats) : Type 0 where
  pub values : (sort : ValueSort) (n : ℕ) (k : Kind) → slice_get (kinds_of f sort) n ≡ Some k → AllPass is_value_step (parts_in k.format)
  pub operations : (n : ℕ) (k : Kind) → slice_get f.operations n ≡ Some k → AllPass is_plain_step (parts_in k.format)

tested_at : (p : Kind → Bool) (ks : List Kind) (n : ℕ) (k : Kind) → list_all p ks ≡ true → slice_get ks n ≡ Some k → p k ≡ true
tested_at p [] n k h e = cc
tested_at p (j ∷ ks) zero k h e = let same : j ≡ k = let t : Some j ≡ Some k = e in cc in subst (λ x. p x ≡ true) same (both_hold (p j) (list_all p ks) h).0
tested_at p (j ∷ ks) (suc n) k h e = tested_at p ks n k (both_hold (p j) (list_all p ks) h).1 e

three_tests : (a b c : Bool) → a && b && c ≡ true → (a ≡ true) × (b ≡ true) × (c ≡ true)
three_tests true true c h = (refl, refl, h)
three_tests true false c h = cc
three_tests false b c h = cc

by_sort : (P : ValueSort → Type 0) → P sorts.«Type» → P sorts.Attribute → (sort : ValueSort) → P sort
by_sort P types attributes sorts.«Type» = types
by_sort P types attributes sorts.Attribute = attributes

pub outer : (f : Formats) → has_outer_operands f ≡ true → Outer f
outer f h =
    let t = three_tests (list_all (λ k. are_plain_steps k.format) f.operations) (list_all (λ k. are_value_steps k.format) f.types) (list_all (λ k. are_value_steps k.format) f.attributes) h in
    let tests : (sort : ValueSort) → list_all (λ k. are_value_steps k.format) (kinds_of f sort) ≡ true = λ sort. by_sort (λ sort. list_all (λ k. are_value_steps k.format) (kinds_of f sort) ≡ true) t.1 t.2 sort in
    record {
      values = λ sort n k e. values_in k.format (tested_at (λ x. are_value_steps x.format) (kinds_of f sort) n k (tests sort) e);
      operations = λ n k e. plain_in k.format (tested_at (λ x. are_plain_steps x.format) f.operations n k t.0 e);
    }

-- ---- choices

-- The rule of one of several formats, and those of its lists, are among those of all.
choice_in : (ws : List (List ℕ)) (c : ℕ) (cs : Choices) (i j m n : ℕ) (ss : Steps) → m ≡ i + j → alternative cs j ≡ Some ss → (p : ℕ) × AreAmong (alternative_made c m (steps_made ws ss p)).rules (choices_made ws c i cs n).rules
choice_in ws c no_choice i j m n ss e at = cc
choice_in ws c (a_choice fs cs) i zero m n ss e at =
    let same : fs ≡ ss = let t : Some fs ≡ Some ss = at in cc in
    let number : i ≡ m = omega (arith, e) in (
      n,
      record {
        among = λ r h. among_front r (alternative_made c i (steps_made ws fs n)).rules (choices_made ws c (suc i) cs (steps_made ws fs n).next).rules
            (subst (λ y. IsAmong r (alternative_made c y (steps_made ws fs n)).rules) (sym number) (subst (λ (y : Steps). IsAmong r (alternative_made c m (steps_made ws y n)).rules) (sym same) h));
      },
    )
choice_in ws c (a_choice fs cs) i (suc j) m n ss e at =
    let next = (steps_made ws fs n).next in
    let r = choice_in ws c cs (suc i) j m next ss (omega (arith, e)) at in
    (r.0, record { among = λ q h. among_back q (alternative_made c i (steps_made ws fs n)).rules (choices_made ws c (suc i) cs next).rules (r.1.among q h) })

-- so are its words
choice_words : (cs : Choices) (n : ℕ) (ss : Steps) (w : List ℕ) → alternative cs n ≡ Some ss → IsAmong w (words_in ss) → IsAmong w (words_in_choices cs)
choice_words no_choice n ss w at i = cc
choice_words (a_choice fs cs) zero ss w at i =
    let same : fs ≡ ss = let t : Some fs ≡ Some ss = at in cc in
    among_front w (words_in fs) (words_in_choices cs) (subst (λ (y : Steps). IsAmong w (words_in y)) (sym same) i)
choice_words (a_choice fs cs) (suc n) ss w at i = among_back w (words_in fs) (words_in_choices cs) (choice_words cs n ss w at i)

-- ---- lists

-- The grammar has the rules of a list at this part, with this separator between members.
pub record HasSeveral (f : Formats) (n : ℕ) (w : List ℕ) (member : List Symbol) : Type 0 where
  pub rules : AreAmong (several n (sign (words_of f) w) member) (rules_of f)
  pub word : IsAmong w (words_of f)

module _ (g : Grammar) (f : Formats) (known : IsGrammarOf f g) (t : Tested f) where
  pub several_none : (n : ℕ) (w : List ℕ) (member ss : List Symbol) (ms : List Mark) → HasSeveral f n w member → DerivesMarks g f ss ms → DerivesMarks g f (Part n ∷ ss) ms
  several_none n w member ss ms h d = expand known n [] (h.rules.among (n, []) (inl refl)) d

  pub several_first : (n : ℕ) (w : List ℕ) (member ss : List Symbol) (ms : List Mark) → HasSeveral f n w member → DerivesMarks g f (member ++ Part (up n 1) ∷ ss) ms → DerivesMarks g f (Part n ∷ ss) ms
  several_first n w member ss ms h d = expand known n (member ++ Part (up n 1) ∷ []) (h.rules.among (n, member ++ Part (up n 1) ∷ []) (inr (inl refl))) (regroup member (Part (up n 1) ∷ []) ss d)

  pub several_last : (n : ℕ) (w : List ℕ) (member ss : List Symbol) (ms : List Mark) → HasSeveral f n w member → DerivesMarks g f ss ms → DerivesMarks g f (Part (up n 1) ∷ ss) ms
  several_last n w member ss ms h d = expand known (up n 1) [] (h.rules.among (up n 1, []) (inr (inr (inl refl)))) d

  pub several_more : (n : ℕ) (w : List ℕ) (member ss : List Symbol) (printed : List ℕ) (ms : List Mark) → HasSeveral f n w member → DerivesMarks g f (member ++ Part (up n 1) ∷ ss) ms
      → DerivesMarks g f (Part (up n 1) ∷ ss) (word printed w ∷ ms)
  several_more n w member ss printed ms h d =
      let body = sign (words_of f) w ∷ (member ++ Part (up n 1) ∷ []) in
      expand known (up n 1) body (h.rules.among (up n 1, body) (inr (inr (inr (inl refl)))))
      (took_word g f known t w ((member ++ Part (up n 1) ∷ []) ++ ss) printed ms h.word (regroup member (Part (up n 1) ∷ []) ss d))

  -- What one of several formats says derives from the part of the choice, if each part of it does.
  choice_reads : (cs : Choices) (n i : ℕ) (fs : Steps) (ps : List (Option Marker)) (ss : List Symbol) (ms : List Mark) → Placed f (step.choice_of cs) n → alternative cs i ≡ Some fs → AreReadAt g f (parts_in fs) ps
      → DerivesMarks g f ss ms → DerivesMarks g f (Part n ∷ ss) (did (act.BeginChoice i) ∷ format_on a_word fs ps (did act.EndChoice ∷ ms))
  choice_reads cs n i fs ps ss ms placed at r d =
      let there = choice_in (words_of f) n cs 0 i i (up n 1) fs (omega arith) at in
      let m = steps_made (words_of f) fs there.0 in
      let body = Act (act.BeginChoice i) ∷ (m.symbols ++ Act act.EndChoice ∷ []) in
      let rule : PlainRule = (n, body) in
      expand known n body (placed.rules.among rule (there.1.among rule (among_back rule m.rules (rule ∷ []) (inl refl))))
      (acted (regroup m.symbols (Act act.EndChoice ∷ []) ss
      (format_reads g f known t fs a_word there.0 ps (Act act.EndChoice ∷ ss) (did act.EndChoice ∷ ms) (record {
        rules = record { among = λ q h. placed.rules.among q (there.1.among q (among_front q m.rules (rule ∷ []) h)) };
        words = record { among = λ w h. placed.words.among w (choice_words cs i fs w at h) };
      }) r (acted d))))

  -- ---- values

  module _ (v : Values) (o : Outer f) where
    -- a leaf stands for the sign of its sort
    leaf_taken : (x : Leaf) (ss : List Symbol) (ms : List Mark) → IsInRange x → DerivesMarks g f ss ms → DerivesMarks g f (leaf_sign (sort_of x) ∷ ss) (one_leaf x ∷ ms)
    leaf_taken (name cs) ss ms e d = shift_leaf (name_accepted g f known.signs t cs e) d
    leaf_taken (number negative magnitude) ss ms e d = shift_leaf (number_accepted g f known.signs t negative magnitude e) d
    leaf_taken (unsigned magnitude) ss ms e d = shift_leaf (digits_accepted g f known.signs t magnitude e) d
    leaf_taken (width sign bits) ss ms e d = shift_leaf (width_accepted g f known.signs t sign bits e) d
    leaf_taken (quoted cs) ss ms e d = shift_leaf (quotation_accepted g f known.signs t cs) d
    leaf_taken (mark n) ss ms e d = shift_leaf (mark_accepted g f known.signs t n e) d

    leaf_read : (s : Step) (x : Leaf) (ts : Pieces) → TakesLeaf s (sort_of x) → IsInRange x → IsReadAt g f s (Some (piece_on f (node (leaf x) ts)))
    leaf_read (step.a_leaf sort) x ts h e =
        subst (λ z. IsReadAt g f (step.a_leaf z) (Some (piece_on f (node (leaf x) ts)))) (sym h) (record { reads = λ n ss ms placed d. leaf_taken x _ _ e (acted d) })
    leaf_read step.symbol_name x ts h e = record {
      reads = λ n ss ms placed d. took g f known t (codes "@") _ _ (placed.words.among (codes "@") (inl refl))
          (subst (λ z. DerivesMarks g f (leaf_sign z ∷ Act (act.Leaf z) ∷ ss) (one_leaf x ∷ did (act.Leaf (sort_of x)) ∷ ms)) (sym h) (leaf_taken x _ _ e (acted d)));
    }
    leaf_read _ x ts h e = absurd h

    -- a value derives from the part of its sort
    value_reads : (sort : ValueSort) (n : ℕ) (k : Kind) (ts : Pieces) (ss : List Symbol) (ms : List Mark) → slice_get (kinds_of f sort) n ≡ Some k → AreReadAt g f (parts_in k.format) (parts_on f ts) → DerivesMarks g f ss ms
        → DerivesMarks g f (Part (value_part sort) ∷ ss) (kind_on (slice_get (kinds_of f sort) n) (act.Begin sort n) (act.End sort) (parts_on f ts) ms)
    value_reads sorts.«Type» n k ts ss ms e r d = kind_reads g f known t sort.«Type» n (slice_get f.types n) k (parts_on f ts) ss ms e e r d
    value_reads sorts.Attribute n k ts ss ms e r d = kind_reads g f known t sort.Attribute n (slice_get f.attributes n) k (parts_on f ts) ss ms e e r d

    list_several : (member : Steps) (printed text : List ℕ) (n : ℕ) → Placed f (step.list_of member printed text) n
        → HasSeveral f n text (Act act.BeginItem ∷ ((steps_made (words_of f) member (up n 2)).symbols ++ Act act.EndItem ∷ [])) × AllPlaced f member (up n 2)
    list_several member printed text n placed =
        let m = steps_made (words_of f) member (up n 2) in
        let all = several n (sign (words_of f) text) (Act act.BeginItem ∷ (m.symbols ++ Act act.EndItem ∷ [])) in (
          record { rules = record { among = λ r i. placed.rules.among r (among_back r m.rules all i) }; word = placed.words.among text (inl refl) },
          record { rules = record { among = λ r i. placed.rules.among r (among_front r m.rules all i) }; words = record { among = λ w i. placed.words.among w (inr i) } },
        )

    mutual
      -- a piece derives from its step
      pub piece_read : (p : ValueTree) (s : Step) → Fits f v s p → is_plain_step s ≡ true → IsInner p → IsReadAt g f s (Some (piece_on f p))
      piece_read (node (value_of_kind sort n) ts) s h plain inner =
          let k = h.1 in
          subst (λ x. IsReadAt g f x (Some (piece_on f (node (value_of_kind sort n) ts)))) (sym h.0)
          (record { reads = λ m ss ms placed d. value_reads sort n k ts ss ms h.2 (parts_read ts (parts_in k.format) h.3 (o.values sort n k h.2)) d })
      piece_read (node list ts) (step.list_of member printed text) h plain inner =
          record {
            reads = λ n ss ms placed d.
                let r = list_several member printed text n placed in
                acted (members_read ts member printed text n _ _ h (values_in member plain) r.0 r.1 (acted d));
          }
      piece_read (node list ts) s h plain inner = absurd h
      piece_read (node item ts) s h plain inner = absurd h
      piece_read (node (chosen i) ts) (step.choice_of cs) h plain inner =
          let k = known_format (alternative cs i) (λ fs. FitAll f v fs ts) h in
          record {
            reads = λ n ss ms placed d. subst (λ o. DerivesMarks g f (Part n ∷ ss) (did (act.BeginChoice i) ∷ some_format_on o (parts_on f ts) (did act.EndChoice ∷ ms))) (sym k.1)
                (choice_reads cs n i k.0 (parts_on f ts) ss ms placed k.1 (parts_read ts (parts_in k.0) k.2 (values_in k.0 (value_alternative cs i k.0 plain k.1))) d);
          }
      piece_read (node (chosen i) ts) s h plain inner = absurd h
      piece_read (node (operands n) ts) s h plain inner = absurd inner
      piece_read (node (successor n) ts) s h plain inner = absurd inner
      piece_read (node region ts) s h plain inner = absurd inner
      piece_read (node (leaf x) ts) s h plain inner = leaf_read s x ts h.0 h.1

      parts_read : (ps : Pieces) (fs : List Step) → FitAll f v fs ps → AllPass is_value_step fs → AreReadAt g f fs (parts_on f ps)
      parts_read no_tree [] h values = tt
      parts_read no_tree (s ∷ fs) h values = absurd h
      parts_read (a_tree p ps) [] h values = absurd h
      parts_read (a_tree (node (operands n) ts) ps) (s ∷ fs) h values = absurd (values_alone s n h.0 values.0)
      parts_read (a_tree (node (successor n) ts) ps) (s ∷ fs) h values = let wrong : false ≡ true = sym (ap is_value_step h.0) ∙ values.0 in cc
      parts_read (a_tree (node region ts) ps) (s ∷ fs) h values = let wrong : false ≡ true = sym (ap is_value_step h.0) ∙ values.0 in cc
      parts_read (a_tree p ps) (s ∷ fs) h values = (piece_read p s h.0 (value_plain s values.0) tt, parts_read ps fs h.1 values.1)

      members_read : (ps : Pieces) (member : Steps) (printed text : List ℕ) (n : ℕ) (ss : List Symbol) (ms : List Mark) → FitMembers f v (parts_in member) ps → AllPass is_value_step (parts_in member)
          → HasSeveral f n text (Act act.BeginItem ∷ ((steps_made (words_of f) member (up n 2)).symbols ++ Act act.EndItem ∷ [])) → AllPlaced f member (up n 2) → DerivesMarks g f ss ms
          → DerivesMarks g f (Part n ∷ ss) (members_on (step.list_of member printed text) (parts_on f ps) ms)
      members_read no_tree member printed text n ss ms h values rules placed d = several_none n text _ ss ms rules d
      members_read (a_tree p ps) member printed text n ss ms h values rules placed d =
          several_first n text _ ss _ rules (member_read p member printed text n _ _ h.0 values placed (more_members_read ps member printed text n ss ms h.1 values rules placed d))

      more_members_read : (ps : Pieces) (member : Steps) (printed text : List ℕ) (n : ℕ) (ss : List Symbol) (ms : List Mark) → FitMembers f v (parts_in member) ps → AllPass is_value_step (parts_in member)
          → HasSeveral f n text (Act act.BeginItem ∷ ((steps_made (words_of f) member (up n 2)).symbols ++ Act act.EndItem ∷ [])) → AllPlaced f member (up n 2) → DerivesMarks g f ss ms
          → DerivesMarks g f (Part (up n 1) ∷ ss) (more_members_on (step.list_of member printed text) (parts_on f ps) ms)
      more_members_read no_tree member printed text n ss ms h values rules placed d = several_last n text _ ss ms rules d
      more_members_read (a_tree p ps) member printed text n ss ms h values rules placed d =
          several_more n text _ ss printed _ rules (member_read p member printed text n _ _ h.0 values placed (more_members_read ps member printed text n ss ms h.1 values rules placed d))

      member_read : (p : ValueTree) (member : Steps) (printed text : List ℕ) (n : ℕ) (ss : List Symbol) (ms : List Mark) → FitsMember f v (parts_in member) p → AllPass is_value_step (parts_in member)
          → AllPlaced f member (up n 2) → DerivesMarks g f ss ms
          → DerivesMarks g f ((Act act.BeginItem ∷ ((steps_made (words_of f) member (up n 2)).symbols ++ Act act.EndItem ∷ [])) ++ ss) (piece_on f p (step.list_of member printed text) ms)
      member_read (node item ts) member printed text n ss ms h values placed d =
          acted (regroup (steps_made (words_of f) member (up n 2)).symbols (Act act.EndItem ∷ []) ss
          (format_reads g f known t member a_word (up n 2) (parts_on f ts) (Act act.EndItem ∷ ss) (did act.EndItem ∷ ms) placed (parts_read ts (parts_in member) h values) (acted d)))
      member_read (node _ ts) member printed text n ss ms h values placed d = absurd h
