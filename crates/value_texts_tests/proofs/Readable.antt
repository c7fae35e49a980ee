-- The language is readable: what `check_format` tests is computed.
use Rattle.std.proofs.Common.{◌≡◌, ℕ, zero, suc, [], ◌∷◌, Some, refl, subst}
use Rattle.std.specs.Prelude.{slice_get}
use Rattle.ir_print.specs.Formats.{Kind, kinds_of}
use Rattle.ir_print.specs.declared.format.ValueSort.{ValueSort}
use Rattle.ir_print.specs.declared.format.ValueSort.TheVariants as sorts
use Rattle.ir_format_checks.specs.declared.check.FormatSort.TheVariants.{«Type», Attribute}
use Rattle.ir_format_readings.specs.Language.{AreAccepted, AreIdsDistinct, format_sort}
use Rattle.ir_format_readings.proofs.Computed.{all_accepted, all_distinct}
use Rattle.value_texts.specs.Readable.{AreFlat, IsReadable}
use Rattle.value_texts_tests.specs.Forms.{formats, integer, list, of_type, pair}

accepted : (sort : ValueSort) → AreAccepted (format_sort sort) (kinds_of formats sort)
accepted sorts.«Type» = all_accepted «Type» formats.types refl
accepted sorts.Attribute = all_accepted Attribute formats.attributes refl

distinct : (sort : ValueSort) → AreIdsDistinct (kinds_of formats sort)
distinct sorts.«Type» = all_distinct formats.types refl
distinct sorts.Attribute = all_distinct formats.attributes refl

-- two kinds, each of which is flat
both_flat : (a b : Kind) → AreFlat a.format 64 → AreFlat b.format 64 → (i : ℕ) (k : Kind) → slice_get (a ∷ b ∷ []) i ≡ Some k → AreFlat k.format 64
both_flat a b flat other zero k at = let same : a ≡ k = cc in subst (λ (x : Kind). AreFlat x.format 64) same flat
both_flat a b flat other (suc zero) k at = let same : b ≡ k = cc in subst (λ (x : Kind). AreFlat x.format 64) same other
both_flat a b flat other (suc (suc i)) k at = cc

flat : (sort : ValueSort) (i : ℕ) (k : Kind) → slice_get (kinds_of formats sort) i ≡ Some k → AreFlat k.format 64
flat sorts.«Type» = both_flat integer list (tt, tt) (tt, ((tt, tt), (tt, tt)))
flat sorts.Attribute = both_flat of_type pair (tt, tt) (tt, (tt, (((tt, tt), ((tt, tt), ((tt, tt), tt))), tt)))

pub readable : IsReadable formats
readable = record { accepted = record { values = accepted; distinct = distinct }; few = refl; flat = flat }
