-- What an attribute dictionary is once one of its attributes is written.
use Rattle.std.proofs.Common.{◌≡◌, ℕ, ◌+◌, ◌<◌, Bool, true, false, cond, not, List, [], ◌∷◌, length, Option, Some, None, is_some, String, position, zero, suc, refl, sym, ap, subst, ◌∙◌, arith}
use Rattle.std.proofs.lemmas.Bool.{false≢true}
use Rattle.std.proofs.lemmas.Option.{none-some}
use Rattle.std.specs.Option.{unwrap_or}
use Rattle.std.specs.List.{position_or_len}
use Rattle.std.specs.Map.{keys_of}
use Rattle.std.specs.Str.{bytes_eq}
use Rattle.std.specs.String.{string_bytes}
use Rattle.indexmap.specs.IndexMap.{set_value_at}
use Rattle.ir_names.specs.declared.dictionary.Entry.{Entry}
use Rattle.ir_names.specs.Dictionary.{named, named_entries, all_entries, is_under, with_attribute, names_of, AreEntries}

module _ {X : Type 0} where
  -- other attributes under the same names
  pub entries_kept : (old new : List (List ℕ × X)) → names_of new ≡ names_of old → AreEntries old → AreEntries new
  entries_kept old new same h = record {
    distinct = rw same h.distinct;
    identifiers = rw same h.identifiers;
  }

within_step : (b : Bool) (p n : ℕ) → cond (not b) (1 + p) 0 < suc n → b ≡ false → p < n
within_step true p n h none = absurd (false≢true (sym none))
within_step false p n h none = let less : 1 + p < suc n = h in omega (arith, less)

same_some : (i k : ℕ) → Some i ≡ Some k → i ≡ k
same_some i k e = ap (λ o. unwrap_or o i) e

-- nothing is there
pub is_none : {X : Type 0} (o : Option X) → false ≡ is_some o → None ≡ o
is_none None h = refl
is_none (Some x) h = absurd (false≢true h)

position_is : (b : Bool) (i k : ℕ) → Some i ≡ cond b (Some k) None → i ≡ k
position_is true i k e = same_some i k e
position_is false i k e = absurd (none-some i (sym e))

module _ {A Y : Type 0} where
  names_written : (es : List (String Y × A)) (i : ℕ) (w : A) → names_of (named_entries (set_value_at es i w)) ≡ names_of (named_entries es)
  names_written [] i w = refl
  names_written (e ∷ es) zero w = refl
  names_written (e ∷ es) (suc i) w = ap (λ names. string_bytes e.0 ∷ names) (names_written es i w)

  module _ (key : List ℕ) where
    -- where the name stands, or the length
    abbrev place : List (String Y × A) → ℕ
    place es = position_or_len (λ k. bytes_eq key (string_bytes k)) (keys_of es)

    written_step : (b : Bool) (e : String Y × A) (es : List (String Y × A)) (w : A) (rest : List (List ℕ × A)) (p i : ℕ)
        → i ≡ cond (not b) (1 + p) 0 → (b ≡ false → named_entries (set_value_at es p w) ≡ rest)
        → named_entries (set_value_at (e ∷ es) i w) ≡ cond b ((string_bytes e.0, w) ∷ named_entries es) ((string_bytes e.0, e.1) ∷ rest)
    written_step true e es w rest p i at h = ap (λ (n : ℕ). named_entries (set_value_at (e ∷ es) n w)) at
    written_step false e es w rest p i at h =
        let next : i ≡ suc p = omega (arith, at) in
        ap (λ (n : ℕ). named_entries (set_value_at (e ∷ es) n w)) next ∙ ap (λ (r : List (List ℕ × A)). (string_bytes e.0, e.1) ∷ r) (h refl)

    -- the attribute is written where the name stands
    named_entries-set_value_at : (es : List (String Y × A)) (w : A) → place es < length es → named_entries (set_value_at es (place es) w) ≡ with_attribute (named_entries es) key w
    named_entries-set_value_at [] w h = let no : 0 < 0 = h in absurd (omega (arith, no))
    named_entries-set_value_at (e ∷ es) w h =
        written_step (bytes_eq key (string_bytes e.0)) e es w (with_attribute (named_entries es) key w) (place es) (place (e ∷ es)) refl
        (λ no. named_entries-set_value_at es w (within_step (bytes_eq key (string_bytes e.0)) (place es) (length es) h no))

module _ {D K A T Y : Type 0} where
  pub names-written : (first : Option (Entry D K A T)) (es : List (String Y × A)) (i : ℕ) (w : A) → names_of (all_entries first (set_value_at es i w)) ≡ names_of (all_entries first es)
  unfolding all_entries
  names-written None es i w = names_written es i w
  names-written (Some e) es i w = ap (λ names. string_bytes e.name ∷ names) (names_written es i w)

  written_behind : (first : Option (Entry D K A T)) (es new : List (String Y × A)) (key : List ℕ) (w : A) → is_under first key ≡ false → named_entries new ≡ with_attribute (named_entries es) key w
      → all_entries first new ≡ with_attribute (all_entries first es) key w
  unfolding all_entries
  written_behind None es new key w other e = e
  written_behind (Some f) es new key w other e = rw other (ap (λ es. named f ∷ es) e)

  -- the attribute is written where the name stands among the others
  pub all_entries-set_value_at : (first : Option (Entry D K A T)) (es : List (String Y × A)) (key : List ℕ) (i : ℕ) (w : A)
      → is_under first key ≡ false → Some i ≡ position (λ k. bytes_eq key (string_bytes k)) (keys_of es) → i < length es
      → all_entries first (set_value_at es i w) ≡ with_attribute (all_entries first es) key w
  all_entries-set_value_at first es key i w other at h =
      let is : i ≡ place key es = position_is _ i (place key es) at in
      written_behind first es _ key w other
      (ap (λ (n : ℕ). named_entries (set_value_at es n w)) is ∙ named_entries-set_value_at key es w (subst (λ (n : ℕ). n < length es) is h))
