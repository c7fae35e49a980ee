-- What is left of a choice behind one of its formats.
use Rattle.std.proofs.Common.{◌≡◌, ℕ, zero, suc, ◌+◌, ◌<◌, ◌≤◌, List, [], ◌∷◌, length, get_or, drop, refl, sym, ap, ◌∙◌, add-one, arith, Bor, Bool, true, false, ◌&&◌, ◌||◌, not}
use Rattle.std.proofs.Math.Seq.{drop-cons}
use Rattle.ir_print.specs.Formats.{Steps, Choices, choice_of, no_choice, a_choice, step_of, steps_of, choices_of}
use Rattle.ir_print.specs.declared.format.Directive.{Directive}
use Rattle.ir_print.specs.declared.format.Directive as directive
use Rattle.ir_print.proofs.FormatSteps.{step_of-Choice}
use Rattle.ir_format_checks.specs.Decided.{begins, all_begin, may_be_empty, all_may_be_empty}
use Rattle.ir_format_checks.specs.Test.{Classes, overlap, is_told, are_told, is_decided_step, are_decided}

-- ---- booleans

pub or_true : (a b w : Bool) → (a || b) ≡ w → a ≡ true → true ≡ w
or_true true b w h e = h
or_true false b w h e = cc

pub or_false : (a b w : Bool) → (a || b) ≡ w → a ≡ false → b ≡ w
or_false true b w h e = cc
or_false false b w h e = h

pub and_true : (a b w : Bool) → (a && b) ≡ w → a ≡ true → b ≡ w
and_true true b w h e = h
and_true false b w h e = cc

pub and_false : (a b w : Bool) → (a && b) ≡ w → a ≡ false → false ≡ w
and_false true b w h e = cc
and_false false b w h e = h

-- ---- choices

abbrev Formats : Type 0
Formats = List (Bor (List Directive))

-- a directive that is a choice stands for one
pub is_choice : (d : Directive) (fs : Bor Formats) → d ≡ directive.Choice fs → step_of d ≡ choice_of (choices_of fs.now)
is_choice d fs e = ap step_of e ∙ step_of-Choice fs

-- what is left at a format is that one and what is left behind it
pub choices_turn : (f : Choices → Bool) (fs : Formats) (i : ℕ) (d : Bor (List Directive)) (w : Bool) → i < length fs
    → f (choices_of (drop i fs)) ≡ w → f (a_choice (steps_of (get_or fs i d).now) (choices_of (drop (i + 1) fs))) ≡ w
choices_turn f fs i d w lt h = ap (λ gs. f (choices_of gs)) (sym (drop-cons fs i d lt ∙ ap (λ n. get_or fs i d ∷ drop n fs) (sym (add-one i)))) ∙ h

past : (fs : Formats) (i : ℕ) → length fs ≤ i → drop i fs ≡ []
past [] zero le = refl
past [] (suc i) le = refl
past (f ∷ fs) zero le = absurd (omega arith)
past (f ∷ fs) (suc i) le = past fs i (omega arith)

-- nothing is left behind the last one
pub choices_end : (f : Choices → Bool) (fs : Formats) (i : ℕ) (w : Bool) → length fs ≤ i → f (choices_of (drop i fs)) ≡ w → f no_choice ≡ w
choices_end f fs i w le h = ap (λ gs. f (choices_of gs)) (sym (past fs i le)) ∙ h

-- formats that are told from a choice
pub told : (ss : Steps) (fs : Bor Formats) → (not (all_begin (λ c. begins (overlap c) (step_of (directive.Choice fs))) ss)
    && not (all_may_be_empty ss && may_be_empty (step_of (directive.Choice fs)))) ≡ are_told ss (choices_of fs.now)
told ss fs = ap (λ s. not (all_begin (λ c. begins (overlap c) s) ss) && not (all_may_be_empty ss && may_be_empty s)) (step_of-Choice fs)

-- ---- what is decided

and_left_false : (a : Bool) → false ≡ (a && false)
and_left_false true = refl
and_left_false false = refl

-- a choice is refused for its formats
pub choice_refused : (d : Directive) (fs : Bor Formats) (n : Classes) → d ≡ directive.Choice fs → false ≡ are_decided (choices_of fs.now) n
    → false ≡ is_decided_step (step_of d) n
choice_refused d fs n e h =
    and_left_false (is_told (choice_of (choices_of fs.now)) n) ∙ (ap (λ b. is_told (choice_of (choices_of fs.now)) n && b) h
    ∙ sym (ap (λ s. is_decided_step s n) (is_choice d fs e)))

-- a choice that is told from what comes next is accepted for its formats
pub choice_accepted : (d : Directive) (fs : Bor Formats) (n : Classes) → d ≡ directive.Choice fs → is_told (step_of d) n ≡ true
    → true ≡ are_decided (choices_of fs.now) n → true ≡ is_decided_step (step_of d) n
choice_accepted d fs n e told h =
    h ∙ (ap (λ b. b && are_decided (choices_of fs.now) n) (sym (ap (λ s. is_told s n) (sym (is_choice d fs e)) ∙ told))
    ∙ sym (ap (λ s. is_decided_step s n) (is_choice d fs e)))
