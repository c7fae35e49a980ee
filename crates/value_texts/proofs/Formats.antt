-- Formats of which one is taken, one by one.
use Rattle.std.proofs.Common.{◌≡◌, ◌<◌, ◌≤◌, ◌+◌, ◌∙◌, ◌⊎◌, ℕ, zero, suc, Bool, true, false, List, [], ◌∷◌, Bor, length, get_or, Some, slice_get, refl, sym, ap, subst, arith, inl, inr}
use Rattle.ir_print.specs.declared.format.Directive.{Directive}
use Rattle.ir_print.specs.Formats.{Steps, Choices, no_choice, a_choice, alternative, step_of, steps_of, choices_of}
use Rattle.ir_format_checks.specs.Tokens.{TokenClass}
use Rattle.ir_format_checks.specs.Decided.{all_begin, one_begins, all_may_be_empty, one_may_be_empty}
use Rattle.value_texts.specs.Readable.{IsFlat, AreFlat, AllAreFlat}
use Rattle.value_texts.proofs.Readings.{none_begins, none_empty}

-- the format with a number
pub alternative_at : (fs : List (Bor (List Directive))) (n : ℕ) (format : Bor (List Directive)) → slice_get fs n ≡ Some format → alternative (choices_of fs) n ≡ Some (steps_of format.now)
alternative_at [] n format e = cc
alternative_at (f ∷ fs) zero format e = let same : f ≡ format = cc in ap (λ (x : Bor (List Directive)). Some (steps_of x.now)) same
alternative_at (f ∷ fs) (suc n) format e = alternative_at fs n format e

pub alternative_within : (fs : List (Bor (List Directive))) (n : ℕ) (a : Steps) → alternative (choices_of fs) n ≡ Some a → n < length fs
alternative_within [] n a e = cc
alternative_within (f ∷ fs) zero a e = omega arith
alternative_within (f ∷ fs) (suc n) a e = let within = alternative_within fs n a e in omega (arith, within)

-- none of the first formats is so
abbrev pub NoneSoFar : (Steps → Bool) → List (Bor (List Directive)) → ℕ → Type 0
NoneSoFar p fs n = (j : ℕ) (a : Steps) → j < n → alternative (choices_of fs) j ≡ Some a → p a ≡ false

before_or_at : (j n : ℕ) → j < n + 1 → (j < n) ⊎ (j ≡ n)
before_or_at zero zero lt = inr refl
before_or_at zero (suc n) lt = inl (omega arith)
before_or_at (suc j) zero lt = absurd (omega (arith, lt))
before_or_at (suc j) (suc n) lt = elim (before_or_at j n (omega (arith, lt))) [ inl a ↦ inl (omega (arith, a)) | inr b ↦ inr (ap suc b) ]

module _ (p : Steps → Bool) (fs : List (Bor (List Directive))) (n : ℕ) where
  pub none_first : n ≡ 0 → NoneSoFar p fs n
  none_first e j a lt at = absurd (omega (arith, e, lt))

  pub none_next : (format : Bor (List Directive)) → slice_get fs n ≡ Some format → p (steps_of format.now) ≡ false → NoneSoFar p fs n → NoneSoFar p fs (n + 1)
  none_next format here not_so before j a lt at = elim (before_or_at j n lt) [
    | inl earlier ↦ before j a earlier at
    | inr now ↦
        let there : alternative (choices_of fs) n ≡ Some a = ap (alternative (choices_of fs)) (sym now) ∙ at in
        let mine = alternative_at fs n format here in
        let same : steps_of format.now ≡ a = cc in
        subst (λ (x : Steps). p x ≡ false) same not_so
  ]

  none_of_all : length fs ≤ n → NoneSoFar p fs n → (j : ℕ) (a : Steps) → alternative (choices_of fs) j ≡ Some a → p a ≡ false
  none_of_all past before j a at = let within = alternative_within fs j a at in before j a (omega (arith, past, within)) at

  -- the format at which the search stops
  pub found_one : (format : Bor (List Directive)) → slice_get fs n ≡ Some format → p (steps_of format.now) ≡ true → (a : Steps) × (alternative (choices_of fs) n ≡ Some a) × (p a ≡ true)
  found_one format here so = (steps_of format.now, alternative_at fs n format here, so)

pub none_beginning : (p : TokenClass → Bool) (fs : List (Bor (List Directive))) (n : ℕ) → length fs ≤ n → NoneSoFar (all_begin p) fs n → one_begins p (choices_of fs) ≡ false
none_beginning p fs n past before = none_begins p (choices_of fs) (none_of_all (all_begin p) fs n past before)

pub none_of_them_empty : (fs : List (Bor (List Directive))) (n : ℕ) → length fs ≤ n → NoneSoFar all_may_be_empty fs n → one_may_be_empty (choices_of fs) ≡ false
none_of_them_empty fs n past before = none_empty (choices_of fs) (none_of_all all_may_be_empty fs n past before)

-- ---- how deep lists and choices are

pub flat_choice : (cs : Choices) (n deep : ℕ) (a : Steps) → alternative cs n ≡ Some a → AllAreFlat cs deep → AreFlat a deep
flat_choice no_choice n deep a e flat = cc
flat_choice (a_choice ss cs) zero deep a e flat = let same : ss ≡ a = cc in subst (λ (x : Steps). AreFlat x deep) same flat.0
flat_choice (a_choice ss cs) (suc n) deep a e flat = flat_choice cs n deep a e flat.1

pub flat_step : (format : List Directive) (i deep : ℕ) (x : Directive) → i < length format → x ≡ get_or format i x → AreFlat (steps_of format) deep → IsFlat (step_of x) deep
flat_step [] i deep x lt is flat = absurd (omega (arith, lt))
flat_step (d ∷ ds) zero deep x lt is flat = subst (λ (y : Directive). IsFlat (step_of y) deep) (sym is) flat.0
flat_step (d ∷ ds) (suc i) deep x lt is flat = flat_step ds i deep x (omega (arith, lt)) is flat.1
