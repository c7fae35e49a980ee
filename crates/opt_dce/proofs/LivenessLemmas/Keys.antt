-- Numbers of keys, and equal handles.
use Rattle.std.proofs.Common.{◌≡◌, ℕ, List, Some, Bool, true, get_or, sym, ap, ◌∙◌}
use Rattle.std.specs.Prelude.{Option, is_some}
use Rattle.std.specs.List.{position, list_any}
use Rattle.std.proofs.lemmas.Option.{slice_get-get_or, get_or_from_slice_get, slice_get_within}
use Rattle.std.proofs.lemmas.List.Folds.{list_any_at}
use Rattle.std.proofs.lemmas.List.Quantifiers.{position-Some}
use Rattle.opt_dce.specs.liveness.Problems.{IsNumberAmong}

pub number_is : {X : Type 0} (test : X → Bool) (keys : List X) (x : X) (o : Option ℕ) → ((a : X) → test a ≡ true → x ≡ a) → test x ≡ true → o ≡ position test keys → is_some o ≡ list_any test keys → IsNumberAmong keys x o
number_is test keys x o same own e f = record {
  found = λ i g. let h = position-Some test keys i x (sym e ∙ g) in slice_get-get_or keys i x h.0 ∙ ap Some (sym (same (get_or keys i x) h.1));
  none = λ g l. let t = list_any_at test keys l.0 x (slice_get_within keys l.0 x l.1) (ap test (get_or_from_slice_get keys l.0 x x l.1) ∙ own) in absurd (cc (ap is_some g, f, t));
}
