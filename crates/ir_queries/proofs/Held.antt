-- Names in lists, and the names that values were given.
use Rattle.std.proofs.Common.{◌≡◌, ℕ, ◌<◌, ◌≤◌, List, map, length, Option, Some, None, option_map, unwrap_or, slice_get, refl, sym, ap, ◌∙◌}
use Rattle.std.proofs.lemmas.Option.{slice_get-map, slice_get-get_or, slice_get_past}
use Rattle.std.specs.Borrow.{Bor}
use Rattle.std.specs.Option.{option_copied}
use Rattle.std.specs.Slice.{IsItemAt}
use Rattle.ir_names.specs.Identifier.{text_of}
use Rattle.ir_names.specs.declared.identifier.Identifier.{Identifier}
use Rattle.ir_queries.specs.Naming.{name_at}

-- the texts of names
abbrev texts : List (Option Identifier) → List (Option (List ℕ))
texts names = map (option_map text_of) names

at_some : (names : List (Option Identifier)) (i : ℕ) (name : Option Identifier) → slice_get names i ≡ Some name → name_at (texts names) i ≡ option_map text_of name
at_some names i name here = ap (λ o. unwrap_or o None) (slice_get-map (option_map text_of) names i ∙ ap (option_map (option_map text_of)) here)

at_none : (names : List (Option Identifier)) (i : ℕ) → slice_get names i ≡ None → name_at (texts names) i ≡ None
at_none names i here = ap (λ o. unwrap_or o None) (slice_get-map (option_map text_of) names i ∙ ap (option_map (option_map text_of)) here)

lent_text : (r : Option (Bor Identifier)) → option_map (λ id. text_of id.now) r ≡ option_map text_of (option_copied r)
lent_text None = refl
lent_text (Some id) = refl

-- the name that stands at an index, and none past the list
pub name_found : (names : List (Option Identifier)) (i : ℕ) (x : Bor (Option Identifier)) (r : Option (Bor Identifier)) → IsItemAt names i (Some x) → option_copied r ≡ x.now → option_map (λ id. text_of id.now) r ≡ name_at (texts names) i
name_found names i x r item copied =
    let within : i < length names = item.3.0 in
    let here : slice_get names i ≡ Some x.now = slice_get-get_or names i x.now within ∙ ap Some (sym item.1) in
    lent_text r ∙ ap (option_map text_of) copied ∙ sym (at_some names i x.now here)

pub none_found : (names : List (Option Identifier)) (i : ℕ) → IsItemAt names i None → None ≡ name_at (texts names) i
none_found names i item = let past : length names ≤ i = item.3 in sym (at_none names i (slice_get_past names i past))

pub at_index : (name : Option (List ℕ)) (xs ys : List (Option (List ℕ))) (j k : ℕ) → name ≡ name_at xs j → xs ≡ ys → k ≡ j → name ≡ name_at ys k
at_index name xs ys j k is same here = is ∙ ap (λ l. name_at l j) same ∙ ap (name_at ys) (sym here)
