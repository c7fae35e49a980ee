-- The next token is one at which what is still to be read goes on.
use Rattle.std.proofs.Common.{◌≡◌, ℕ, Bool, true, false, ◌||◌, List, [], ◌∷◌, ◌++◌, Some, refl, inl, inr, codes}
use Rattle.std.specs.Prelude.{slice_get}
use Rattle.ir_print.specs.Formats.{operands, operand, successor, a_value, symbol_name, list_of, choice_of, Steps, no_steps, step, Choices, alternative, Kind, Formats, kinds_of}
use Rattle.ir_print.specs.declared.format.ValueSort.{ValueSort}
use Rattle.ir_print.specs.declared.format.ValueSort.TheVariants as sorts
use Rattle.ir_format_checks.specs.Tokens.{Column, given, a_name, takes}
use Rattle.ir_format_checks.specs.Decided.{all_may_be_empty, Follow, anything, these, or_next, tokens_of, all_firsts, next_of, CannotBeNext, IsDecided}
use Rattle.ir_format_checks.proofs.Booleans.{or_left, or_right, or_cases}
use Rattle.ir_format_checks.proofs.SharedTokens.{apart}
use Rattle.ir_format_readings.specs.Readings.{Item, column_of, Todo, rest, more, Event, names, symbol_steps, edge_steps, Derives, finished, no_step, a_word, an_operand, a_leaf_token, one_region, value, symbol, edge, several, no_member, a_member, no_more, one_more, picked}
use Rattle.ir_format_readings.specs.Language.{IsAcceptedLanguage, allows}
use Rattle.ir_format_readings.proofs.Follows.{or_first, or_behind, next_cases, next_first, next_behind, solid_begins, IsLess, cannot_less, less_anything, all_less, one_of_begins, one_of_is_empty, chosen, choice_goes, list_goes}

-- ---- what is still to be read

-- what may come next, where this may come behind all of it
abbrev pub nexts : Follow Column → List Todo → Follow Column
nexts bottom [] = bottom
nexts bottom (rest ss ∷ st) = next_of ss (nexts bottom st)
nexts bottom (more m w ∷ st) = or_next (tokens_of (given w)) (nexts bottom st)

-- the next token decides each step of it
abbrev pub AreDecidedTodos : Follow Column → List Todo → Type 0
AreDecidedTodos bottom [] = Unit {0}
AreDecidedTodos bottom (rest ss ∷ st) = IsDecided ss (nexts bottom st) × AreDecidedTodos bottom st
AreDecidedTodos bottom (more m w ∷ st) = (all_may_be_empty m ≡ false) × CannotBeNext (tokens_of (given w)) (nexts bottom st)
    × IsDecided m (or_next (tokens_of (given w)) (nexts bottom st)) × AreDecidedTodos bottom st

module _ (f : Formats) (good : IsAcceptedLanguage f) (bottom : Follow Column) where
  -- ---- what is to be read behind a step is decided too

  pub in_member : (m ss : Steps) (printed w : List ℕ) (st : List Todo) → AreDecidedTodos bottom (rest (step (list_of m printed w) ss) ∷ st)
      → AreDecidedTodos bottom (rest m ∷ more m w ∷ rest ss ∷ st)
  in_member m ss printed w st d = (d.0.0.3, (d.0.0.0, d.0.0.2, d.0.0.3, (d.0.1, d.1)))

  pub in_next : (m : Steps) (w : List ℕ) (st : List Todo) → AreDecidedTodos bottom (more m w ∷ st) → AreDecidedTodos bottom (rest m ∷ more m w ∷ st)
  in_next m w st d = (d.2, d)

  pub in_choice : (cs : Choices) (ss a : Steps) (st : List Todo) (i : ℕ) → alternative cs i ≡ Some a → AreDecidedTodos bottom (rest (step (choice_of cs) ss) ∷ st)
      → AreDecidedTodos bottom (rest a ∷ rest ss ∷ st)
  in_choice cs ss a st i e d = (chosen cs (next_of ss (nexts bottom st)) i a e d.0.0.1, (d.0.1, d.1))

  -- the format of a value is decided whatever comes behind it
  value_decided : (sort : ValueSort) (i : ℕ) (k : Kind) → slice_get (kinds_of f sort) i ≡ Some k → IsDecided k.format anything
  value_decided sorts.«Type» i k e = (good.values sorts.«Type» i k e).decided
  value_decided sorts.Attribute i k e = (good.values sorts.Attribute i k e).decided

  pub in_value : (sort : ValueSort) (i : ℕ) (k : Kind) (ss : Steps) (st : List Todo) → slice_get (kinds_of f sort) i ≡ Some k
      → AreDecidedTodos bottom (rest (step (a_value sort) ss) ∷ st) → AreDecidedTodos bottom (rest k.format ∷ rest ss ∷ st)
  in_value sort i k ss st e d = (all_less k.format (next_of ss (nexts bottom st)) anything (less_anything (next_of ss (nexts bottom st))) (value_decided sort i k e), (d.0.1, d.1))

  -- ---- parts that are several

  or_false : (a : Bool) → (a || false) ≡ true → a ≡ true
  or_false true h = refl
  or_false false h = h

  same_less : (g : Follow Column) → IsLess g g
  same_less anything = λ x h. h
  same_less (these q) = λ x h. h

  pub in_several : (ss : Steps) (st : List Todo) → AreDecidedTodos bottom (rest (step operands ss) ∷ st) → AreDecidedTodos bottom (rest (step names ss) ∷ st)
  in_several ss st d = let next = next_of ss (nexts bottom st) in
      (((refl, cannot_less (all_firsts (step operand no_steps)) (tokens_of a_name) next next (λ x h. or_false (takes x a_name) h) (same_less next) d.0.0.0, d.0.0.1, (tt, tt)), d.0.1), d.1)

  pub in_symbol : (ss : Steps) (st : List Todo) → AreDecidedTodos bottom (rest (step symbol_name ss) ∷ st) → AreDecidedTodos bottom (rest (symbol_steps ss) ∷ st)
  in_symbol ss st d = ((tt, (tt, d.0.1)), d.1)

  -- operands of an edge end at `)`
  pub in_edge : (ss : Steps) (st : List Todo) → AreDecidedTodos bottom (rest (step successor ss) ∷ st) → AreDecidedTodos bottom (rest (edge_steps ss) ∷ st)
  in_edge ss st d = (
    (
      tt,
      (
        tt,
        (
          tt,
          (
            (
              (λ x h g. apart a_name (given (codes ")")) x refl h (or_false (takes x (given (codes ")"))) g)),
              (λ x h g. apart (given (codes ",")) (given (codes ")")) x refl h (or_false (takes x (given (codes ")"))) g)),
            ),
            (tt, d.0.1),
          ),
        ),
      ),
    ),
    d.1,
  )

  -- a part begins as the parts that it is made of
  several_goes : (ss : Steps) (g : Follow Column) (x : Column) → allows (next_of (step names ss) g) x ≡ true → allows (next_of (step operands ss) g) x ≡ true
  several_goes ss g x h = elim (next_cases (step names ss) g x h) [
    | inl a ↦ next_first (step operands ss) g x (elim (or_cases (takes x a_name || false) (all_firsts ss x) a) [
      | inl b ↦ or_left (takes x a_name) _ (or_false (takes x a_name) b)
      | inr b ↦ or_right (takes x a_name) _ b
    ])
    | inr b ↦ next_behind (step operands ss) g x b.0 b.1
  ]

  -- ---- the next token

  pub next_is : (after : List Item) → allows bottom (column_of after) ≡ true → (st : List Todo) (ts : List Item) (es : List Event) → Derives f st ts es → AreDecidedTodos bottom st
      → allows (nexts bottom st) (column_of (ts ++ after)) ≡ true
  next_is after may _ _ _ finished d = may
  next_is after may _ ts _ (no_step {st = st} r) d = next_behind no_steps (nexts bottom st) (column_of (ts ++ after)) refl (next_is after may _ _ _ r d.1)
  next_is after may _ _ _ (a_word a r) d = or_left _ _ a
  next_is after may _ _ _ (an_operand a r) d = or_left _ _ a
  next_is after may _ _ _ (a_leaf_token a r) d = or_left _ _ a
  next_is after may _ _ _ (one_region r) d = refl
  next_is after may _ _ _ (value i k e a same r) d = or_left _ _ a
  next_is after may _ _ _ (symbol {ss = ss} {st = st} r) d = next_is after may _ _ _ r (in_symbol ss st d)
  next_is after may _ _ _ (edge {ss = ss} {st = st} r) d = next_is after may _ _ _ r (in_edge ss st d)
  next_is after may _ ts _ (several {ss = ss} {st = st} r) d = several_goes ss (nexts bottom st) (column_of (ts ++ after)) (next_is after may _ _ _ r (in_several ss st d))
  next_is after may _ ts _ (no_member {m = m} {ss = ss} {printed = printed} {w = w} {st = st} r) d = list_goes m printed w ss (nexts bottom st) (column_of (ts ++ after)) (next_is after may _ _ _ r (d.0.1, d.1))
  next_is after may _ ts _ (a_member {m = m} {ss = ss} {printed = printed} {w = w} {st = st} r) d =
      next_first (step (list_of m printed w) ss) (nexts bottom st) (column_of (ts ++ after))
      (or_left _ _ (solid_begins m (nexts bottom (more m w ∷ rest ss ∷ st)) (column_of (ts ++ after)) d.0.0.0 (next_is after may _ _ _ r (in_member m ss printed w st d))))
  next_is after may _ ts _ (no_more {m = m} {w = w} {st = st} r) d = or_behind (tokens_of (given w)) (nexts bottom st) (column_of (ts ++ after)) (next_is after may _ _ _ r d.3)
  next_is after may _ _ _ (one_more {w = w} {t = t} {st = st} a r) d = or_first (tokens_of (given w)) (nexts bottom st) (Some t) a
  next_is after may _ ts _ (picked {cs = cs} {ss = ss} {a = a} {st = st} i e r) d =
      elim (next_cases a (next_of ss (nexts bottom st)) (column_of (ts ++ after)) (next_is after may _ _ _ r (in_choice cs ss a st i e d))) [
        | inl k ↦ next_first (step (choice_of cs) ss) (nexts bottom st) (column_of (ts ++ after)) (or_left _ _ (one_of_begins cs i a (column_of (ts ++ after)) e k))
        | inr c ↦ choice_goes cs ss (nexts bottom st) (column_of (ts ++ after)) (one_of_is_empty cs i a e c.0) c.1
      ]
