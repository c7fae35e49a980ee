-- Sets of what may come next.
use Rattle.std.proofs.Common.{◌≡◌, ℕ, zero, suc, Bool, true, false, List, ◌⊎◌, Some, refl, ap, subst, inl, inr, codes, if◌then◌else◌}
use Rattle.ir_print.specs.Formats.{Step, word, operands, operand, successor, a_value, a_region, symbol_name, a_leaf, list_of, choice_of, Steps, no_steps, step, Choices, no_choice, a_choice, alternative}
use Rattle.ir_format_checks.specs.Tokens.{Column, given, a_name}
use Rattle.ir_format_checks.specs.Decided.{all_may_be_empty, one_may_be_empty, Follow, anything, these, or_next, Columns, tokens_of, all_firsts, one_firsts, next_of, CannotBeNext, IsDecidedStep, IsDecided, AreDecided}
use Rattle.ir_format_readings.specs.Language.{allows}
use Rattle.ir_format_checks.proofs.Booleans.{or_left, or_right, or_cases, and_both, true_false}

pub refuted : (p : Columns) (f : Follow Column) → CannotBeNext p f → (x : Column) → p x ≡ true → allows f x ≡ true → ⊥
refuted p anything c x h g = c
refuted p (these q) c x h g = c x h g

-- ---- one or the other

pub or_first : (p : Columns) (f : Follow Column) (x : Column) → p x ≡ true → allows (or_next p f) x ≡ true
or_first p anything x h = refl
or_first p (these q) x h = or_left (p x) (q x) h

pub or_behind : (p : Columns) (f : Follow Column) (x : Column) → allows f x ≡ true → allows (or_next p f) x ≡ true
or_behind p anything x h = refl
or_behind p (these q) x h = or_right (p x) (q x) h

either_of : (b : Bool) (p : Columns) (f : Follow Column) (x : Column) → allows (if b then or_next p f else these p) x ≡ true
    → (p x ≡ true) ⊎ ((b ≡ true) × (allows f x ≡ true))
either_of true p anything x h = inr (refl, refl)
either_of true p (these q) x h = elim (or_cases (p x) (q x) h) [ inl a ↦ inl a | inr b ↦ inr (refl, b) ]
either_of false p f x h = inl h

first_of : (b : Bool) (p : Columns) (f : Follow Column) (x : Column) → p x ≡ true → allows (if b then or_next p f else these p) x ≡ true
first_of true p f x h = or_first p f x h
first_of false p f x h = h

-- steps begin so, or they may be empty and what comes behind them does
pub next_cases : (ss : Steps) (f : Follow Column) (x : Column) → allows (next_of ss f) x ≡ true
    → (all_firsts ss x ≡ true) ⊎ ((all_may_be_empty ss ≡ true) × (allows f x ≡ true))
next_cases ss f x h = either_of (all_may_be_empty ss) (all_firsts ss) f x h

pub next_first : (ss : Steps) (f : Follow Column) (x : Column) → all_firsts ss x ≡ true → allows (next_of ss f) x ≡ true
next_first ss f x h = first_of (all_may_be_empty ss) (all_firsts ss) f x h

behind_of : (b : Bool) (p : Columns) (f : Follow Column) (x : Column) → b ≡ true → allows f x ≡ true → allows (if b then or_next p f else these p) x ≡ true
behind_of true p f x e h = or_behind p f x h
behind_of false p f x e h = cc

pub next_behind : (ss : Steps) (f : Follow Column) (x : Column) → all_may_be_empty ss ≡ true → allows f x ≡ true → allows (next_of ss f) x ≡ true
next_behind ss f x e h = behind_of (all_may_be_empty ss) (all_firsts ss) f x e h

-- what isn't empty begins itself
pub solid_begins : (ss : Steps) (f : Follow Column) (x : Column) → all_may_be_empty ss ≡ false → allows (next_of ss f) x ≡ true → all_firsts ss x ≡ true
solid_begins ss f x s h = elim (next_cases ss f x h) [ inl a ↦ a | inr b ↦ absurd (let e = b.0 in cc) ]

-- ---- smaller sets

-- all of the first is in the second
abbrev pub IsWithin : Follow Column → Follow Column → Type 0
IsWithin f g = (x : Column) → allows f x ≡ true → allows g x ≡ true

-- Anything but this may be less than anything.
abbrev pub IsLess : Follow Column → Follow Column → Type 0
IsLess anything (these q) = ⊥
IsLess f g = IsWithin f g

pub cannot_less : (p r : Columns) (f g : Follow Column) → ((x : Column) → p x ≡ true → r x ≡ true) → IsLess f g → CannotBeNext r g → CannotBeNext p f
cannot_less p r anything anything s w c = c
cannot_less p r anything (these q) s w c = absurd w
cannot_less p r (these o) anything s w c = absurd c
cannot_less p r (these o) (these q) s w c = λ x h k. c x (s x h) (w x k)

less_or : (p : Columns) (f g : Follow Column) → IsLess f g → IsLess (or_next p f) (or_next p g)
less_or p anything anything w = λ x h. refl
less_or p anything (these q) w = w
less_or p (these o) anything w = λ x h. refl
less_or p (these o) (these q) w = λ x h. elim (or_cases (p x) (o x) h) [ inl a ↦ or_left (p x) (q x) a | inr b ↦ or_right (p x) (q x) (w x b) ]

less_if : (b : Bool) (p : Columns) (f g : Follow Column) → IsLess f g → IsLess (if b then or_next p f else these p) (if b then or_next p g else these p)
less_if true p f g w = less_or p f g w
less_if false p f g w = λ x h. h

-- anything is the most
pub less_anything : (f : Follow Column) → IsLess f anything
less_anything anything = λ x h. refl
less_anything (these q) = λ x h. refl

mutual
  step_less : (s : Step) (f g : Follow Column) → IsLess f g → IsDecidedStep s g → IsDecidedStep s f
  step_less operands f g w d = (
    cannot_less (tokens_of a_name) (tokens_of a_name) f g (λ x h. h) w d.0,
    cannot_less (tokens_of (given (codes ","))) (tokens_of (given (codes ","))) f g (λ x h. h) w d.1,
  )
  step_less (list_of m printed sep) f g w d = (
    d.0,
    cannot_less (all_firsts m) (all_firsts m) f g (λ x h. h) w d.1,
    cannot_less (tokens_of (given sep)) (tokens_of (given sep)) f g (λ x h. h) w d.2,
    all_less m _ (or_next (tokens_of (given sep)) g) (less_or (tokens_of (given sep)) f g w) d.3,
  )
  step_less (choice_of cs) f g w d = (λ e. cannot_less (one_firsts cs) (one_firsts cs) f g (λ x h. h) w (d.0 e), choices_less cs f g w d.1)
  step_less (word printed w) f g l d = tt
  step_less operand f g w d = tt
  step_less successor f g w d = tt
  step_less (a_value sort) f g w d = tt
  step_less a_region f g w d = tt
  step_less symbol_name f g w d = tt
  step_less (a_leaf sort) f g w d = tt

  pub all_less : (ss : Steps) (f g : Follow Column) → IsLess f g → IsDecided ss g → IsDecided ss f
  all_less no_steps f g w d = tt
  all_less (step s ss) f g w d = (step_less s (next_of ss f) (next_of ss g) (less_if (all_may_be_empty ss) (all_firsts ss) f g w) d.0, all_less ss f g w d.1)

  choices_less : (cs : Choices) (f g : Follow Column) → IsLess f g → AreDecided cs g → AreDecided cs f
  choices_less no_choice f g w d = tt
  choices_less (a_choice ss cs) f g w d = (all_less ss f g w d.0, d.1, d.2, choices_less cs f g w d.3)

-- ---- choices

pub one_of_begins : (cs : Choices) (i : ℕ) (a : Steps) (x : Column) → alternative cs i ≡ Some a → all_firsts a x ≡ true → one_firsts cs x ≡ true
one_of_begins no_choice i a x e h = cc
one_of_begins (a_choice ss cs) zero a x e h = let k : a ≡ ss = cc in or_left _ _ (subst (λ z. all_firsts z x ≡ true) k h)
one_of_begins (a_choice ss cs) (suc i) a x e h = or_right (all_firsts ss x) _ (one_of_begins cs i a x e h)

pub one_of_is_empty : (cs : Choices) (i : ℕ) (a : Steps) → alternative cs i ≡ Some a → all_may_be_empty a ≡ true → one_may_be_empty cs ≡ true
one_of_is_empty no_choice i a e h = cc
one_of_is_empty (a_choice ss cs) zero a e h = let k : a ≡ ss = cc in or_left _ _ (subst (λ z. all_may_be_empty z ≡ true) k h)
one_of_is_empty (a_choice ss cs) (suc i) a e h = or_right (all_may_be_empty ss) _ (one_of_is_empty cs i a e h)

-- the format that is taken is decided
pub chosen : (cs : Choices) (next : Follow Column) (i : ℕ) (a : Steps) → alternative cs i ≡ Some a → AreDecided cs next → IsDecided a next
chosen no_choice next i a e d = cc
chosen (a_choice ss cs) next zero a e d = let k : ss ≡ a = cc in subst (λ z. IsDecided z next) k d.0
chosen (a_choice ss cs) next (suc i) a e d = chosen cs next i a e d.3

-- steps behind a choice, and what comes behind them, may be all that comes
pub choice_goes : (cs : Choices) (ss : Steps) (g : Follow Column) (x : Column) → one_may_be_empty cs ≡ true → allows (next_of ss g) x ≡ true → allows (next_of (step (choice_of cs) ss) g) x ≡ true
choice_goes cs ss g x e h = elim (next_cases ss g x h) [
  | inl a ↦ next_first (step (choice_of cs) ss) g x (or_right (one_firsts cs x) _ (and_both (one_may_be_empty cs) _ e a))
  | inr b ↦ next_behind (step (choice_of cs) ss) g x (and_both (one_may_be_empty cs) _ e b.0) b.1
]

-- a list may be empty
pub list_goes : (m : Steps) (printed w : List ℕ) (ss : Steps) (g : Follow Column) (x : Column) → allows (next_of ss g) x ≡ true → allows (next_of (step (list_of m printed w) ss) g) x ≡ true
list_goes m printed w ss g x h = elim (next_cases ss g x h) [
  | inl a ↦ next_first (step (list_of m printed w) ss) g x (or_right (all_firsts m x) _ a)
  | inr b ↦ next_behind (step (list_of m printed w) ss) g x b.0 b.1
]

-- No alternative begins with what may come behind the choice, if one may be empty.
abbrev pub IsApart : Choices → Follow Column → Column → Type 0
IsApart cs next x = one_may_be_empty cs ≡ true → one_firsts cs x ≡ true → allows next x ≡ true → ⊥

-- a first alternative and one of the others
first_or_other : (ss : Steps) (cs : Choices) (next : Follow Column) (x : Column) (j : ℕ) (b : Steps) → AreDecided (a_choice ss cs) next → IsApart (a_choice ss cs) next x
    → alternative cs j ≡ Some b → allows (next_of ss next) x ≡ true → allows (next_of b next) x ≡ true → ⊥
first_or_other ss cs next x j b d apart e h k = elim (next_cases ss next x h) [
  | inl p ↦ elim (next_cases b next x k) [
    | inl q ↦ d.1 x p (one_of_begins cs j b x e q)
    | inr q ↦ apart (or_right (all_may_be_empty ss) _ (one_of_is_empty cs j b e q.0)) (or_left (all_firsts ss x) _ p) q.1
  ]
  | inr p ↦ elim (next_cases b next x k) [
    | inl q ↦ apart (or_left (all_may_be_empty ss) _ p.0) (or_right (all_firsts ss x) _ (one_of_begins cs j b x e q)) p.1
    | inr q ↦ true_false _ (and_both (all_may_be_empty ss) _ p.0 (one_of_is_empty cs j b e q.0)) d.2
  ]
]

-- two alternatives at which a text goes on are one
pub one_choice : (cs : Choices) (next : Follow Column) (x : Column) (i j : ℕ) (a b : Steps) → AreDecided cs next → IsApart cs next x → alternative cs i ≡ Some a → alternative cs j ≡ Some b
    → allows (next_of a next) x ≡ true → allows (next_of b next) x ≡ true → i ≡ j
one_choice no_choice next x i j a b d apart e g h k = cc
one_choice (a_choice ss cs) next x zero zero a b d apart e g h k = refl
one_choice (a_choice ss cs) next x zero (suc j) a b d apart e g h k =
    let same : a ≡ ss = cc in
    absurd (first_or_other ss cs next x j b d apart g (subst (λ z. allows (next_of z next) x ≡ true) same h) k)
one_choice (a_choice ss cs) next x (suc i) zero a b d apart e g h k =
    let same : b ≡ ss = cc in
    absurd (first_or_other ss cs next x i a d apart e (subst (λ z. allows (next_of z next) x ≡ true) same k) h)
one_choice (a_choice ss cs) next x (suc i) (suc j) a b d apart e g h k =
    ap suc (one_choice cs next x i j a b d.3 (λ p q r. apart (or_right (all_may_be_empty ss) _ p) (or_right (all_firsts ss x) _ q) r) e g h k)
