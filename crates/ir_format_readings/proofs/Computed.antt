-- Languages that are accepted by computation.
use Rattle.std.proofs.Common.{◌≡◌, ℕ, zero, suc, Bool, true, false, ◌&&◌, not, List, [], ◌∷◌, Some, refl, sym, ap, subst, ◌∙◌}
use Rattle.std.specs.Prelude.{slice_get, bytes_eq}
use Rattle.std.specs.List.{list_all, list_any}
use Rattle.std.proofs.lemmas.Slice.Eq.{bytes_eq-Decides}
use Rattle.ir_print.specs.Formats.{Kind, kinds_of}
use Rattle.ir_print.specs.declared.format.ValueSort.{ValueSort}
use Rattle.ir_print.specs.declared.format.ValueSort.TheVariants as sorts
use Rattle.ir_format_checks.specs.declared.check.FormatSort.{FormatSort}
use Rattle.ir_format_checks.specs.declared.check.FormatSort.TheVariants.{«Type», Attribute}
use Rattle.ir_format_checks.specs.Accepted.{IsAccepted}
use Rattle.ir_format_checks.specs.Test.{are_made, is_decided}
use Rattle.ir_format_checks.specs.Values.{classes_behind}
use Rattle.ir_format_checks.proofs.Booleans.{either, and_first, and_second, not_true, true_false}
use Rattle.ir_format_checks.proofs.Exact.{accepted_is}
use Rattle.ir_format_readings.specs.Language.{AreAccepted, AreIdsDistinct, format_sort, IsAcceptedLanguage}
use Rattle.ir_format_readings.specs.Example.{example}

-- the format of the kind passes the test of formats of this sort
abbrev pub passes : FormatSort → Kind → Bool
passes sort k = are_made sort k.format && is_decided k.format (classes_behind sort)

is_accepted : (sort : FormatSort) (k : Kind) → passes sort k ≡ true → IsAccepted sort k.format
is_accepted sort k h = accepted_is sort k.format (and_first (are_made sort k.format) _ h) (and_second (are_made sort k.format) _ h)

-- kinds that pass it are accepted
pub all_accepted : (sort : FormatSort) (ks : List Kind) → list_all (passes sort) ks ≡ true → AreAccepted sort ks
all_accepted sort [] h i k e = cc
all_accepted sort (l ∷ ks) h zero k e =
    let same : l ≡ k = cc in
    subst (λ (z : Kind). IsAccepted sort z.format) same (is_accepted sort l (and_first (passes sort l) (list_all (passes sort) ks) h))
all_accepted sort (l ∷ ks) h (suc i) k e = all_accepted sort ks (and_second (passes sort l) (list_all (passes sort) ks) h) i k e

-- each id is another one than those behind it
abbrev pub are_distinct : List Kind → Bool
are_distinct [] = true
are_distinct (k ∷ ks) = not (list_any (λ l. bytes_eq k.id l.id) ks) && are_distinct ks

none_of : (k : Kind) (ks : List Kind) (j : ℕ) (l : Kind) → list_any (λ l. bytes_eq k.id l.id) ks ≡ false → slice_get ks j ≡ Some l → k.id ≡ l.id → ⊥
none_of k [] j l h e same = cc
none_of k (m ∷ ks) zero l h e same =
    let here : m ≡ l = cc in
    true_false (bytes_eq k.id m.id) ((bytes_eq-Decides k.id m.id).1 (same ∙ ap (λ (z : Kind). z.id) (sym here)))
    (either (bytes_eq k.id m.id) (list_any (λ l. bytes_eq k.id l.id) ks) h).0
none_of k (m ∷ ks) (suc j) l h e same = none_of k ks j l (either (bytes_eq k.id m.id) (list_any (λ l. bytes_eq k.id l.id) ks) h).1 e same

pub all_distinct : (ks : List Kind) → are_distinct ks ≡ true → AreIdsDistinct ks
all_distinct [] h i j k l e g same = cc
all_distinct (m ∷ ks) h zero zero k l e g same = refl
all_distinct (m ∷ ks) h zero (suc j) k l e g same =
    let here : m ≡ k = cc in
    absurd (none_of m ks j l (not_true _ (and_first (not (list_any (λ l. bytes_eq m.id l.id) ks)) (are_distinct ks) h)) g (ap (λ (z : Kind). z.id) here ∙ same))
all_distinct (m ∷ ks) h (suc i) zero k l e g same =
    let here : m ≡ l = cc in
    absurd (none_of m ks i k (not_true _ (and_first (not (list_any (λ l. bytes_eq m.id l.id) ks)) (are_distinct ks) h)) e (ap (λ (z : Kind). z.id) here ∙ sym same))
all_distinct (m ∷ ks) h (suc i) (suc j) k l e g same =
    ap suc (all_distinct ks (and_second (not (list_any (λ l. bytes_eq m.id l.id) ks)) (are_distinct ks) h) i j k l e g same)

-- ---- the example

accepted : (sort : ValueSort) → AreAccepted (format_sort sort) (kinds_of example sort)
accepted sorts.«Type» = all_accepted «Type» example.types refl
accepted sorts.Attribute = all_accepted Attribute example.attributes refl

distinct : (sort : ValueSort) → AreIdsDistinct (kinds_of example sort)
distinct sorts.«Type» = all_distinct example.types refl
distinct sorts.Attribute = all_distinct example.attributes refl

pub example_accepted : IsAcceptedLanguage example
example_accepted = record { values = accepted; distinct = distinct }
