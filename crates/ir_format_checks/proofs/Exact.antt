-- The test is passed exactly by the formats that are accepted.
use Rattle.std.proofs.Common.{◌≡◌, Bool, true, false, ◌&&◌, ◌||◌, not, Some, None, refl, sym, ap, ◌∙◌, inl, inr, codes, if◌then◌else◌}
use Rattle.ir_print.specs.Formats.{Step, word, operands, operand, successor, a_value, a_region, symbol_name, a_leaf, list_of, choice_of, Steps, no_steps, step, Choices, no_choice, a_choice}
use Rattle.ir_print.specs.declared.format.LeafSort.{LeafSort}
use Rattle.ir_print.specs.declared.format.LeafSort.TheVariants as leaves
use Rattle.ir_format_checks.specs.declared.check.FormatSort.{FormatSort}
use Rattle.ir_format_checks.specs.declared.check.FormatSort.TheVariants.{Operation, «Type», Attribute}
use Rattle.ir_format_checks.specs.Tokens.{WrittenToken, TokenClass, given, a_name, dotted, mark, Column, takes}
use Rattle.ir_format_checks.specs.Decided.{may_be_empty, all_may_be_empty, one_may_be_empty, leaf_class, begins, all_begin, one_begins, Follow, anything, these, or_next, Columns, tokens_of, all_firsts, one_firsts, AreApart, CannotBeNext, IsDecidedStep, IsDecided, AreDecided}
use Rattle.ir_format_checks.specs.Decided as decided
use Rattle.ir_format_checks.specs.Accepted.{HasWords, HaveWords, AllHaveWords, may_be_of_operation, are_of_operation, may_be_of_value, are_of_value, all_are_of_value, are_of, behind, IsAccepted}
use Rattle.ir_format_checks.specs.Accepted as accepted
use Rattle.ir_format_checks.specs.Test.{Classes, overlap, meets, is_anything, next_of, is_no_next, is_told, are_told, is_decided_step, is_decided, are_decided, is_operation, is_made, are_made, all_made, is_word}
use Rattle.ir_format_checks.specs.Values.{classes_behind, behind_operation}
use Rattle.ir_format_checks.proofs.Booleans.{or_left, or_right, or_cases, either, and_both, and_first, and_second, true_false, not_true, not_false, is_false, is_true_or_false}
use Rattle.ir_format_checks.proofs.Words.{word_is, word_was}
use Rattle.ir_format_checks.proofs.SharedTokens.{IsClass, shared, apart}

-- ---- with what a part begins

-- Of what begins, a class that passes the test; and each test that it passes is passed by what begins.
record First (begin : (TokenClass → Bool) → Bool) (test : TokenClass → Bool) : Type 0 where
  class : TokenClass
  passes : test class ≡ true
  begins : (other : TokenClass → Bool) → other class ≡ true → begin other ≡ true
  valid : IsClass class

-- a class alone
alone : (c : TokenClass) → IsClass c → (t : TokenClass → Bool) → t c ≡ true → First (λ u. u c) t
alone c valid t h = record { class = c; passes = h; begins = λ u e. e; valid = valid }

leaf_valid : (sort : LeafSort) → IsClass (leaf_class sort)
leaf_valid leaves.Name = tt
leaf_valid leaves.Number = tt
leaf_valid leaves.Digits = tt
leaf_valid leaves.Width = tt
leaf_valid leaves.Text = tt
leaf_valid leaves.Mark = tt

mutual
  step_first : (s : Step) → HasWords s → (t : TokenClass → Bool) → begins t s ≡ true → First (λ u. begins u s) t
  step_first (word printed w) words t h = alone (given w) words t h
  step_first operands words t h = alone a_name tt t h
  step_first operand words t h = alone a_name tt t h
  step_first successor words t h = alone (given (codes "^")) (word_is (codes "^") refl) t h
  step_first (a_value sort) words t h = alone dotted tt t h
  step_first a_region words t h = alone (given (codes "{")) (word_is (codes "{") refl) t h
  step_first symbol_name words t h = alone (given (codes "@")) (word_is (codes "@") refl) t h
  step_first (a_leaf sort) words t h = alone (leaf_class sort) (leaf_valid sort) t h
  step_first (list_of member printed separator) words t h = all_first member words.1 t h
  step_first (choice_of cs) words t h = one_first cs words t h

  all_first : (ss : Steps) → HaveWords ss → (t : TokenClass → Bool) → all_begin t ss ≡ true → First (λ u. all_begin u ss) t
  all_first no_steps words t h = absurd (cc)
  all_first (step s ss) words t h = elim (or_cases (begins t s) (may_be_empty s && all_begin t ss) h) [
    | inl a ↦ let f = step_first s words.0 t a in
        record { class = f.class; passes = f.passes; begins = λ u e. or_left (begins u s) _ (f.begins u e); valid = f.valid }
    | inr b ↦ let f = all_first ss words.1 t (and_second (may_be_empty s) (all_begin t ss) b) in
        record {
          class = f.class;
          passes = f.passes;
          valid = f.valid;
          begins = λ u e. or_right (begins u s) _ (and_both (may_be_empty s) (all_begin u ss) (and_first (may_be_empty s) (all_begin t ss) b) (f.begins u e));
        }
  ]

  one_first : (cs : Choices) → AllHaveWords cs → (t : TokenClass → Bool) → one_begins t cs ≡ true → First (λ u. one_begins u cs) t
  one_first no_choice words t h = absurd (cc)
  one_first (a_choice ss cs) words t h = elim (or_cases (all_begin t ss) (one_begins t cs) h) [
    | inl a ↦ let f = all_first ss words.0 t a in
        record { class = f.class; passes = f.passes; begins = λ u e. or_left (all_begin u ss) _ (f.begins u e); valid = f.valid }
    | inr b ↦ let f = one_first cs words.1 t b in
        record { class = f.class; passes = f.passes; begins = λ u e. or_right (all_begin u ss) _ (f.begins u e); valid = f.valid }
  ]

-- ---- sets of tokens, and the classes that they meet

-- The classes are those with a token in the set.
record Shows (tokens : Columns) (classes : TokenClass → Bool) : Type 0 where
  apart : (c : TokenClass) (x : Column) → classes c ≡ false → takes x c ≡ true → tokens x ≡ true → ⊥
  shared : (c : TokenClass) → IsClass c → classes c ≡ true → (x : Column) × (takes x c ≡ true) × (tokens x ≡ true)

shows_or : (q r : Columns) (p o : TokenClass → Bool) → Shows q p → Shows r o → Shows (λ x. q x || r x) (λ c. p c || o c)
shows_or q r p o a b = record {
  apart = λ c x h t g. let e = either (p c) (o c) h in elim (or_cases (q x) (r x) g) [ inl k ↦ a.apart c x e.0 t k | inr k ↦ b.apart c x e.1 t k ];
  shared = λ c v h. elim (or_cases (p c) (o c) h) [
    | inl k ↦ let s = a.shared c v k in (s.0, s.1, or_left (q s.0) (r s.0) s.2)
    | inr k ↦ let s = b.shared c v k in (s.0, s.1, or_right (q s.0) (r s.0) s.2)
  ];
}

module _ (begin : (TokenClass → Bool) → Bool) (first : (t : TokenClass → Bool) → begin t ≡ true → First begin t) where
  -- what begins, as tokens and as classes
  shows : Shows (λ x. begin (takes x)) (λ c. begin (overlap c))
  shows = record {
    apart = λ c x h t g. let f = first (takes x) g in elim (is_true_or_false (overlap c f.class)) [
      | inl e ↦ true_false (begin (overlap c)) (f.begins (overlap c) e) h
      | inr e ↦ apart c f.class x e t f.passes
    ];
    shared = λ c v h. let f = first (overlap c) h in let s = shared c f.class v f.valid f.passes in (s.column, s.left, f.begins (takes s.column) s.right);
  }

  module _ (q : Columns) (p : TokenClass → Bool) (h : Shows q p) where
    -- no class with which it begins is met exactly where no token with which it begins is in the set
    apart_is : begin p ≡ false → AreApart (λ x. begin (takes x)) q
    apart_is e x a b = let f = first (takes x) a in elim (is_true_or_false (p f.class)) [
      | inl k ↦ true_false (begin p) (f.begins p k) e
      | inr k ↦ h.apart f.class x k f.passes b
    ]

    apart_was : AreApart (λ x. begin (takes x)) q → begin p ≡ false
    apart_was a = is_false (begin p) (λ e. let f = first p e in let s = h.shared f.class f.valid f.passes in a s.0 (f.begins (takes s.0) s.1) s.2)

-- the tokens of a class
shows_class : (d : TokenClass) → IsClass d → Shows (tokens_of d) (overlap d)
shows_class d valid = record {
  apart = λ c x h t g. apart d c x h g t;
  shared = λ c v h. let s = shared d c valid v h in (s.column, s.right, s.left);
}

-- ---- what may come next

-- The classes are those with a token that may come next.
abbrev Relates : Follow Column → Classes → Type 0
Relates anything anything = Unit {0}
Relates anything (these p) = ⊥
Relates (these q) anything = ⊥
Relates (these q) (these p) = Shows q p

relates_or : (q : Columns) (p : TokenClass → Bool) (f : Follow Column) (g : Classes) → Shows q p → Relates f g → Relates (or_next q f) (or_next p g)
relates_or q p anything anything s r = tt
relates_or q p anything (these o) s r = r
relates_or q p (these k) anything s r = r
relates_or q p (these k) (these o) s r = shows_or q k p o s r

relates_if : (b : Bool) (q : Columns) (p : TokenClass → Bool) (f : Follow Column) (g : Classes) → Shows q p → Relates f g
    → Relates (if b then or_next q f else these q) (if b then or_next p g else these p)
relates_if true q p f g s r = relates_or q p f g s r
relates_if false q p f g s r = s

relates_next : (ss : Steps) (f : Follow Column) (g : Classes) → HaveWords ss → Relates f g → Relates (decided.next_of ss f) (next_of ss g)
relates_next ss f g words r = relates_if (all_may_be_empty ss) (all_firsts ss) (λ c. all_begin (overlap c) ss) f g (shows (λ u. all_begin u ss) (all_first ss words)) r

module _ (begin : (TokenClass → Bool) → Bool) (first : (t : TokenClass → Bool) → begin t ≡ true → First begin t) where
  cannot_is : (f : Follow Column) (g : Classes) → Relates f g → (not (is_anything g) && not (begin (meets g))) ≡ true → CannotBeNext (λ x. begin (takes x)) f
  cannot_is anything anything r h = cc
  cannot_is anything (these p) r h = r
  cannot_is (these q) anything r h = absurd r
  cannot_is (these q) (these p) r h = apart_is begin first q p r (not_true (begin p) h)

  cannot_was : (f : Follow Column) (g : Classes) → Relates f g → CannotBeNext (λ x. begin (takes x)) f → (not (is_anything g) && not (begin (meets g))) ≡ true
  cannot_was anything anything r h = absurd h
  cannot_was anything (these p) r h = absurd r
  cannot_was (these q) anything r h = absurd r
  cannot_was (these q) (these p) r h = not_false (begin p) (apart_was begin first q p r h)

-- ---- the test

told_is : (a b : Bool) → (not a || b) ≡ true → a ≡ true → b ≡ true
told_is true b h e = h
told_is false b h e = cc

told_was : (a b : Bool) → (a ≡ true → b ≡ true) → (not a || b) ≡ true
told_was true b h = h refl
told_was false b h = refl

mutual
  step_is : (s : Step) (f : Follow Column) (g : Classes) → HasWords s → Relates f g → is_decided_step s g ≡ true → IsDecidedStep s f
  step_is operands f g words r h = (
    cannot_is (λ u. u a_name) (alone a_name tt) f g r (and_first (is_told operands g) _ h),
    cannot_is (λ u. u (given (codes ","))) (alone (given (codes ",")) (word_is (codes ",") refl)) f g r (and_second (is_told operands g) _ h),
  )
  step_is (list_of member printed separator) f g words r h =
      let a = and_second (not (all_may_be_empty member)) _ h in
      let b = and_second (is_told (list_of member printed separator) g) _ a in (
        not_true (all_may_be_empty member) (and_first (not (all_may_be_empty member)) _ h),
        cannot_is (λ u. all_begin u member) (all_first member words.1) f g r (and_first (is_told (list_of member printed separator) g) _ a),
        cannot_is (λ u. u (given separator)) (alone (given separator) words.0) f g r (and_first (is_no_next (given separator) g) _ b),
        steps_are member _ (or_next (overlap (given separator)) g) words.1
            (relates_or (tokens_of (given separator)) (overlap (given separator)) f g (shows_class (given separator) words.0) r)
            (and_second (is_no_next (given separator) g) _ b),
      )
  step_is (choice_of cs) f g words r h = (
    λ e. cannot_is (λ u. one_begins u cs) (one_first cs words) f g r (told_is (one_may_be_empty cs) _ (and_first (is_told (choice_of cs) g) (are_decided cs g) h) e),
    choices_are cs f g words r (and_second (is_told (choice_of cs) g) (are_decided cs g) h),
  )
  step_is (word printed w) f g words r h = tt
  step_is operand f g words r h = tt
  step_is successor f g words r h = tt
  step_is (a_value sort) f g words r h = tt
  step_is a_region f g words r h = tt
  step_is symbol_name f g words r h = tt
  step_is (a_leaf sort) f g words r h = tt

  steps_are : (ss : Steps) (f : Follow Column) (g : Classes) → HaveWords ss → Relates f g → is_decided ss g ≡ true → IsDecided ss f
  steps_are no_steps f g words r h = tt
  steps_are (step s ss) f g words r h = (
    step_is s (decided.next_of ss f) (next_of ss g) words.0 (relates_next ss f g words.1 r) (and_first (is_decided_step s (next_of ss g)) _ h),
    steps_are ss f g words.1 r (and_second (is_decided_step s (next_of ss g)) _ h),
  )

  choices_are : (cs : Choices) (f : Follow Column) (g : Classes) → AllHaveWords cs → Relates f g → are_decided cs g ≡ true → AreDecided cs f
  choices_are no_choice f g words r h = tt
  choices_are (a_choice ss cs) f g words r h =
      let told = and_first (are_told ss cs) _ h in
      let rest = and_second (are_told ss cs) _ h in (
        steps_are ss f g words.0 r (and_first (is_decided ss g) _ rest),
        apart_is (λ u. all_begin u ss) (all_first ss words.0) (one_firsts cs) (λ c. one_begins (overlap c) cs) (shows (λ u. one_begins u cs) (one_first cs words.1))
            (not_true (all_begin (λ c. one_begins (overlap c) cs) ss) (and_first (not (all_begin (λ c. one_begins (overlap c) cs) ss)) _ told)),
        not_true (all_may_be_empty ss && one_may_be_empty cs) (and_second (not (all_begin (λ c. one_begins (overlap c) cs) ss)) _ told),
        choices_are cs f g words.1 r (and_second (is_decided ss g) _ rest),
      )

mutual
  step_was : (s : Step) (f : Follow Column) (g : Classes) → HasWords s → Relates f g → IsDecidedStep s f → is_decided_step s g ≡ true
  step_was operands f g words r d = and_both (is_told operands g) _ (cannot_was (λ u. u a_name) (alone a_name tt) f g r d.0)
      (cannot_was (λ u. u (given (codes ","))) (alone (given (codes ",")) (word_is (codes ",") refl)) f g r d.1)
  step_was (list_of member printed separator) f g words r d =
      and_both (not (all_may_be_empty member)) _ (not_false (all_may_be_empty member) d.0)
      (and_both (is_told (list_of member printed separator) g) _ (cannot_was (λ u. all_begin u member) (all_first member words.1) f g r d.1)
      (and_both (is_no_next (given separator) g) _ (cannot_was (λ u. u (given separator)) (alone (given separator) words.0) f g r d.2)
      (steps_were member _ (or_next (overlap (given separator)) g) words.1
      (relates_or (tokens_of (given separator)) (overlap (given separator)) f g (shows_class (given separator) words.0) r) d.3)))
  step_was (choice_of cs) f g words r d = and_both (is_told (choice_of cs) g) _
      (told_was (one_may_be_empty cs) _ (λ e. cannot_was (λ u. one_begins u cs) (one_first cs words) f g r (d.0 e)))
      (choices_were cs f g words r d.1)
  step_was (word printed w) f g words r d = refl
  step_was operand f g words r d = refl
  step_was successor f g words r d = refl
  step_was (a_value sort) f g words r d = refl
  step_was a_region f g words r d = refl
  step_was symbol_name f g words r d = refl
  step_was (a_leaf sort) f g words r d = refl

  steps_were : (ss : Steps) (f : Follow Column) (g : Classes) → HaveWords ss → Relates f g → IsDecided ss f → is_decided ss g ≡ true
  steps_were no_steps f g words r d = refl
  steps_were (step s ss) f g words r d = and_both (is_decided_step s (next_of ss g)) _
      (step_was s (decided.next_of ss f) (next_of ss g) words.0 (relates_next ss f g words.1 r) d.0) (steps_were ss f g words.1 r d.1)

  choices_were : (cs : Choices) (f : Follow Column) (g : Classes) → AllHaveWords cs → Relates f g → AreDecided cs f → are_decided cs g ≡ true
  choices_were no_choice f g words r d = refl
  choices_were (a_choice ss cs) f g words r d = and_both (are_told ss cs) _
      (and_both (not (all_begin (λ c. one_begins (overlap c) cs) ss)) _
      (not_false (all_begin (λ c. one_begins (overlap c) cs) ss) (apart_was (λ u. all_begin u ss) (all_first ss words.0) (one_firsts cs) (λ c. one_begins (overlap c) cs)
      (shows (λ u. one_begins u cs) (one_first cs words.1)) d.1))
      (not_false (all_may_be_empty ss && one_may_be_empty cs) d.2))
      (and_both (is_decided ss g) _ (steps_were ss f g words.0 r d.0) (choices_were cs f g words.1 r d.3))

-- ---- words and sorts

mutual
  words_are : (sort : FormatSort) (s : Step) → is_made sort s ≡ true → HasWords s
  words_are sort (word printed w) h = word_is w h
  words_are sort (list_of member printed separator) h =
      let a = and_second (not (is_operation sort)) _ h in
      (word_is separator (and_first (is_word separator) _ a), all_words_are sort member (and_second (is_word separator) _ a))
  words_are sort (choice_of cs) h = choice_words_are sort cs (and_first (all_made sort cs) _ h)
  words_are sort operands h = tt
  words_are sort operand h = tt
  words_are sort successor h = tt
  words_are sort (a_value value) h = tt
  words_are sort a_region h = tt
  words_are sort symbol_name h = tt
  words_are sort (a_leaf leaf) h = tt

  all_words_are : (sort : FormatSort) (ss : Steps) → are_made sort ss ≡ true → HaveWords ss
  all_words_are sort no_steps h = tt
  all_words_are sort (step s ss) h = (words_are sort s (and_first (is_made sort s) _ h), all_words_are sort ss (and_second (is_made sort s) _ h))

  choice_words_are : (sort : FormatSort) (cs : Choices) → all_made sort cs ≡ true → AllHaveWords cs
  choice_words_are sort no_choice h = tt
  choice_words_are sort (a_choice ss cs) h = (all_words_are sort ss (and_first (are_made sort ss) _ h), choice_words_are sort cs (and_second (are_made sort ss) _ h))

of_operation : (s : Step) → is_made Operation s ≡ true → may_be_of_operation s ≡ true
of_operation (a_leaf leaf) h = h
of_operation (list_of member printed separator) h = h
of_operation (choice_of cs) h = and_second (all_made Operation cs) false h
of_operation _ h = refl

all_of_operation : (ss : Steps) → are_made Operation ss ≡ true → are_of_operation ss ≡ true
all_of_operation no_steps h = refl
all_of_operation (step s ss) h = and_both _ _ (of_operation s (and_first (is_made Operation s) _ h)) (all_of_operation ss (and_second (is_made Operation s) _ h))

made_of_operation : (s : Step) → HasWords s → may_be_of_operation s ≡ true → is_made Operation s ≡ true
made_of_operation (word printed w) words h = word_was w words
made_of_operation (a_leaf leaf) words h = h
made_of_operation (list_of member printed separator) words h = h
made_of_operation (choice_of cs) words h = cc
made_of_operation _ words h = refl

all_made_of_operation : (ss : Steps) → HaveWords ss → are_of_operation ss ≡ true → are_made Operation ss ≡ true
all_made_of_operation no_steps words h = refl
all_made_of_operation (step s ss) words h =
    and_both _ _ (made_of_operation s words.0 (and_first (may_be_of_operation s) _ h)) (all_made_of_operation ss words.1 (and_second (may_be_of_operation s) _ h))

module _ (sort : FormatSort) (value : is_operation sort ≡ false) where
  mutual
    of_value : (s : Step) → is_made sort s ≡ true → may_be_of_value s ≡ true
    of_value (word printed w) h = refl
    of_value (a_value of) h = refl
    of_value (a_leaf leaf) h = refl
    of_value (list_of member printed separator) h = all_of_value member (and_second (is_word separator) _ (and_second (not (is_operation sort)) _ h))
    of_value (choice_of cs) h = choices_of_value cs (and_first (all_made sort cs) _ h)
    of_value operands h = absurd (true_false _ h value)
    of_value operand h = absurd (true_false _ h value)
    of_value successor h = absurd (true_false _ h value)
    of_value a_region h = absurd (true_false _ h value)
    of_value symbol_name h = absurd (true_false _ h value)

    all_of_value : (ss : Steps) → are_made sort ss ≡ true → are_of_value ss ≡ true
    all_of_value no_steps h = refl
    all_of_value (step s ss) h = and_both _ _ (of_value s (and_first (is_made sort s) _ h)) (all_of_value ss (and_second (is_made sort s) _ h))

    choices_of_value : (cs : Choices) → all_made sort cs ≡ true → all_are_of_value cs ≡ true
    choices_of_value no_choice h = refl
    choices_of_value (a_choice ss cs) h = and_both _ _ (all_of_value ss (and_first (are_made sort ss) _ h)) (choices_of_value cs (and_second (are_made sort ss) _ h))

  mutual
    made_of_value : (s : Step) → HasWords s → may_be_of_value s ≡ true → is_made sort s ≡ true
    made_of_value (word printed w) words h = word_was w words
    made_of_value (a_value of) words h = refl
    made_of_value (a_leaf leaf) words h = not_false _ value
    made_of_value (list_of member printed separator) words h = and_both _ _ (not_false _ value) (and_both _ _ (word_was separator words.0) (all_made_of_value member words.1 h))
    made_of_value (choice_of cs) words h = and_both _ _ (choices_made_of_value cs words h) (not_false _ value)
    made_of_value operands words h = cc
    made_of_value operand words h = cc
    made_of_value successor words h = cc
    made_of_value a_region words h = cc
    made_of_value symbol_name words h = cc

    all_made_of_value : (ss : Steps) → HaveWords ss → are_of_value ss ≡ true → are_made sort ss ≡ true
    all_made_of_value no_steps words h = refl
    all_made_of_value (step s ss) words h = and_both _ _ (made_of_value s words.0 (and_first (may_be_of_value s) _ h)) (all_made_of_value ss words.1 (and_second (may_be_of_value s) _ h))

    choices_made_of_value : (cs : Choices) → AllHaveWords cs → all_are_of_value cs ≡ true → all_made sort cs ≡ true
    choices_made_of_value no_choice words h = refl
    choices_made_of_value (a_choice ss cs) words h = and_both _ _ (all_made_of_value ss words.0 (and_first (are_of_value ss) _ h)) (choices_made_of_value cs words.1 (and_second (are_of_value ss) _ h))

parts_are : (sort : FormatSort) (ss : Steps) → are_made sort ss ≡ true → are_of sort ss ≡ true
parts_are Operation ss h = all_of_operation ss h
parts_are «Type» ss h = all_of_value «Type» refl ss h
parts_are Attribute ss h = all_of_value Attribute refl ss h

parts_were : (sort : FormatSort) (ss : Steps) → HaveWords ss → are_of sort ss ≡ true → are_made sort ss ≡ true
parts_were Operation ss words h = all_made_of_operation ss words h
parts_were «Type» ss words h = all_made_of_value «Type» refl ss words h
parts_were Attribute ss words h = all_made_of_value Attribute refl ss words h

-- ---- what comes behind

-- these tokens, as tokens of four classes
ends : Columns
ends x = takes x mark || (takes x (given (codes ";")) || (takes x (given (codes "^")) || takes x (given (codes "}"))))

shows_ends : Shows ends behind_operation
unfolding ends
shows_ends =
    shows_or (tokens_of mark) _ (overlap mark) _ (shows_class mark tt)
    (shows_or (tokens_of (given (codes ";"))) _ (overlap (given (codes ";"))) _ (shows_class (given (codes ";")) (word_is (codes ";") refl))
    (shows_or (tokens_of (given (codes "^"))) _ (overlap (given (codes "^"))) _ (shows_class (given (codes "^")) (word_is (codes "^") refl))
    (shows_class (given (codes "}")) (word_is (codes "}") refl))))

or_false : (a : Bool) → (a || false) ≡ a
or_false true = refl
or_false false = refl

-- a token that may come behind an operation is one of these
end_is : (t : WrittenToken) → accepted.behind_operation (Some t) ≡ ends (Some t)
unfolding ends
end_is t = ap (λ b. takes (Some t) mark || (takes (Some t) (given (codes ";")) || (takes (Some t) (given (codes "^")) || b))) (or_false (takes (Some t) (given (codes "}"))))

shows_behind : Shows accepted.behind_operation behind_operation
shows_behind = record {
  apart = λ c x h t g. behind_apart c x h t g;
  shared = λ c v h. let s = shows_ends.shared c v h in (s.0, s.1, ended s.0 s.2);
} where
  behind_apart : (c : TokenClass) (x : Column) → behind_operation c ≡ false → takes x c ≡ true → accepted.behind_operation x ≡ true → ⊥
  behind_apart c None h t g = cc
  behind_apart c (Some t) h k g = shows_ends.apart c (Some t) h k (sym (end_is t) ∙ g)

  ended : (x : Column) → ends x ≡ true → accepted.behind_operation x ≡ true
  ended None e = refl
  ended (Some t) e = end_is t ∙ e

relates_behind : (sort : FormatSort) → Relates (behind sort) (classes_behind sort)
relates_behind Operation = shows_behind
relates_behind «Type» = tt
relates_behind Attribute = tt

-- ---- the whole

pub accepted_is : (sort : FormatSort) (ss : Steps) → are_made sort ss ≡ true → is_decided ss (classes_behind sort) ≡ true → IsAccepted sort ss
accepted_is sort ss made h = let words = all_words_are sort ss made in record {
  words = words;
  parts = parts_are sort ss made;
  decided = steps_are ss (behind sort) (classes_behind sort) words (relates_behind sort) h;
}

pub accepted_was : (sort : FormatSort) (ss : Steps) → IsAccepted sort ss → (are_made sort ss ≡ true) × (is_decided ss (classes_behind sort) ≡ true)
accepted_was sort ss h = (
  parts_were sort ss h.words h.parts,
  steps_were ss (behind sort) (classes_behind sort) h.words (relates_behind sort) h.decided,
)
