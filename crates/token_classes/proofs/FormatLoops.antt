-- What is left of a choice behind one of its formats.
use Rattle.std.proofs.Common.{◌≡◌, ℕ, zero, suc, ◌+◌, ◌<◌, ◌≤◌, List, [], ◌∷◌, length, get_or, drop, refl, sym, ap, ◌∙◌, add-one, arith, Bor, Bool, true, false, ◌||◌}
use Rattle.std.proofs.Math.Seq.{drop-cons}
use Rattle.ir_print.specs.Formats.{Choices, choice_of, no_choice, a_choice, step_of, steps_of, choices_of}
use Rattle.ir_print.specs.declared.format.Directive.{Directive}
use Rattle.ir_print.specs.declared.format.Directive as directive
use Rattle.ir_print.proofs.FormatSteps.{step_of-Choice}

-- ---- booleans

pub or_true : (a b w : Bool) → (a || b) ≡ w → a ≡ true → true ≡ w
or_true true b w h e = h
or_true false b w h e = cc

-- ---- choices

abbrev Formats : Type 0
Formats = List (Bor (List Directive))

-- a directive that is a choice stands for one
pub is_choice : (d : Directive) (fs : Bor Formats) → d ≡ directive.Choice fs → step_of d ≡ choice_of (choices_of fs.now)
is_choice d fs e = ap step_of e ∙ step_of-Choice fs

-- what is left at a format is that one and what is left behind it
pub choices_turn : (f : Choices → Bool) (fs : Formats) (i : ℕ) (d : Bor (List Directive)) (w : Bool) → i < length fs
    → f (choices_of (drop i fs)) ≡ w → f (a_choice (steps_of (get_or fs i d).now) (choices_of (drop (i + 1) fs))) ≡ w
choices_turn f fs i d w lt h = ap (λ gs. f (choices_of gs)) (sym (drop-cons fs i d lt ∙ ap (λ n. get_or fs i d ∷ drop n fs) (sym (add-one i)))) ∙ h

past : (fs : Formats) (i : ℕ) → length fs ≤ i → drop i fs ≡ []
past [] zero le = refl
past [] (suc i) le = refl
past (f ∷ fs) zero le = absurd (omega arith)
past (f ∷ fs) (suc i) le = past fs i (omega arith)

-- nothing is left behind the last one
pub choices_end : (f : Choices → Bool) (fs : Formats) (i : ℕ) (w : Bool) → length fs ≤ i → f (choices_of (drop i fs)) ≡ w → f no_choice ≡ w
choices_end f fs i w le h = ap (λ gs. f (choices_of gs)) (sym (past fs i le)) ∙ h
