-- Sources and their identifiers, as two lists that stand side by side.
use Rattle.std.proofs.Common.{◌≡◌, ℕ, zero, suc, ◌+◌, ◌≤◌, ◌<◌, ltb, Bool, true, false, not, cond, ◌||◌, List, [], ◌∷◌, ◌++◌, length, Option, Some, None, is_some, option_map, String, refl, ap, sym, ◌∙◌, arith, subst, length-append, Bor}
use Rattle.std.specs.Prelude.{slice_get, bytes_eq}
use Rattle.std.specs.List.{find, list_any, position, position_or_len}
use Rattle.std.specs.Option.{option_or, unwrap_or, option_copied}
use Rattle.std.specs.String.{string_bytes, string_eq}
use Rattle.indexmap.specs.IndexSet.{insert_key}
use Rattle.std.proofs.lemmas.Bool.{ltb-false, ltb-true}
use Rattle.std.proofs.lemmas.List.Folds.{find-append}
use Rattle.std.proofs.lemmas.Option.{none-some}
use Rattle.std.proofs.lemmas.Slice.Eq.{bytes_eq-Decides}
use Rattle.ir_names.specs.declared.identifier.Identifier.{Identifier}
use Rattle.ir_names.specs.Identifier.{text_of}
use Rattle.ir_names.specs.Legaliser.{Given, name_of, source_of, is_taken, GivesOneToOne, with_name, numbered, AreTaken}
use Rattle.ir_names.specs.Paired.{paired}

same_some : {X : Type 0} (x y : X) → Some x ≡ Some y → x ≡ y
same_some x y e = ap (λ o. unwrap_or o x) e

module _ {A : Type 0} where
  name_step : (b : Bool) (s : String A) (n : Identifier) (ss : List (String A)) (ns : List Identifier) (q : List ℕ)
      → name_of (paired ss ns) q ≡ option_map text_of (slice_get ns (position_or_len (λ s. bytes_eq q (string_bytes s)) ss))
      → option_map (λ (e : Given). e.1) (cond b (Some (string_bytes s, text_of n)) (find (λ (e : Given). bytes_eq q e.0) (paired ss ns))) ≡ option_map text_of (slice_get (n ∷ ns) (cond (not b) (1 + position_or_len (λ s. bytes_eq q (string_bytes s)) ss) 0))
  name_step true s n ss ns q h = refl
  name_step false s n ss ns q h =
      let k = position_or_len (λ s. bytes_eq q (string_bytes s)) ss in
      let next : suc k ≡ 1 + k = omega arith in h ∙ ap (λ (i : ℕ). option_map text_of (slice_get (n ∷ ns) i)) next

  -- the identifier of a source stands at the source's index
  pub name_at : (ss : List (String A)) (ns : List Identifier) → length ss ≡ length ns → (q : List ℕ) → name_of (paired ss ns) q ≡ option_map text_of (slice_get ns (position_or_len (λ s. bytes_eq q (string_bytes s)) ss))
  name_at [] [] h q = refl
  name_at [] (n ∷ ns) h q = let no : 0 ≡ suc (length ns) = h in absurd (omega (arith, no))
  name_at (s ∷ ss) [] h q = let no : suc (length ss) ≡ 0 = h in absurd (omega (arith, no))
  name_at (s ∷ ss) (n ∷ ns) h q = let same : suc (length ss) ≡ suc (length ns) = h in let less : length ss ≡ length ns = omega (arith, same) in name_step (bytes_eq q (string_bytes s)) s n ss ns q (name_at ss ns less q)

  source_step : (b : Bool) (s : String A) (n : Identifier) (ss : List (String A)) (ns : List Identifier) (q : List ℕ)
      → source_of (paired ss ns) q ≡ option_map string_bytes (slice_get ss (position_or_len (λ n. bytes_eq q (text_of n)) ns))
      → option_map (λ (e : Given). e.0) (cond b (Some (string_bytes s, text_of n)) (find (λ (e : Given). bytes_eq q e.1) (paired ss ns))) ≡ option_map string_bytes (slice_get (s ∷ ss) (cond (not b) (1 + position_or_len (λ n. bytes_eq q (text_of n)) ns) 0))
  source_step true s n ss ns q h = refl
  source_step false s n ss ns q h =
      let k = position_or_len (λ n. bytes_eq q (text_of n)) ns in
      let next : suc k ≡ 1 + k = omega arith in h ∙ ap (λ (i : ℕ). option_map string_bytes (slice_get (s ∷ ss) i)) next

  -- the source of an identifier stands at the identifier's index
  pub source_at : (ss : List (String A)) (ns : List Identifier) → length ss ≡ length ns → (q : List ℕ) → source_of (paired ss ns) q ≡ option_map string_bytes (slice_get ss (position_or_len (λ n. bytes_eq q (text_of n)) ns))
  source_at [] [] h q = refl
  source_at [] (n ∷ ns) h q = let no : 0 ≡ suc (length ns) = h in absurd (omega (arith, no))
  source_at (s ∷ ss) [] h q = let no : suc (length ss) ≡ 0 = h in absurd (omega (arith, no))
  source_at (s ∷ ss) (n ∷ ns) h q = let same : suc (length ss) ≡ suc (length ns) = h in let less : length ss ≡ length ns = omega (arith, same) in source_step (bytes_eq q (text_of n)) s n ss ns q (source_at ss ns less q)

  taken_step : (b : Bool) (s : String A) (n : Identifier) (ss : List (String A)) (ns : List Identifier) (q : List ℕ)
      → is_taken (paired ss ns) q ≡ list_any (λ n. bytes_eq q (text_of n)) ns
      → is_some (option_map (λ (e : Given). e.0) (cond b (Some (string_bytes s, text_of n)) (find (λ (e : Given). bytes_eq q e.1) (paired ss ns)))) ≡ (b || list_any (λ n. bytes_eq q (text_of n)) ns)
  taken_step true s n ss ns q h = refl
  taken_step false s n ss ns q h = h

  -- an identifier is taken where it is among those that were given
  pub taken_among : (ss : List (String A)) (ns : List Identifier) → length ss ≡ length ns → (q : List ℕ) → is_taken (paired ss ns) q ≡ list_any (λ n. bytes_eq q (text_of n)) ns
  taken_among [] [] h q = refl
  taken_among [] (n ∷ ns) h q = let no : 0 ≡ suc (length ns) = h in absurd (omega (arith, no))
  taken_among (s ∷ ss) [] h q = let no : suc (length ss) ≡ 0 = h in absurd (omega (arith, no))
  taken_among (s ∷ ss) (n ∷ ns) h q = let same : suc (length ss) ≡ suc (length ns) = h in let less : length ss ≡ length ns = omega (arith, same) in taken_step (bytes_eq q (text_of n)) s n ss ns q (taken_among ss ns less q)

  -- one more of both, at the ends
  pub paired_append : (ss : List (String A)) (ns : List Identifier) → length ss ≡ length ns → (s : String A) (n : Identifier) → paired (ss ++ s ∷ []) (ns ++ n ∷ []) ≡ with_name (paired ss ns) (string_bytes s) (text_of n)
  paired_append [] [] h s n = refl
  paired_append [] (m ∷ ns) h s n = let no : 0 ≡ suc (length ns) = h in absurd (omega (arith, no))
  paired_append (t ∷ ss) [] h s n = let no : suc (length ss) ≡ 0 = h in absurd (omega (arith, no))
  paired_append (t ∷ ss) (m ∷ ns) h s n = let same : suc (length ss) ≡ suc (length ns) = h in let less : length ss ≡ length ns = omega (arith, same) in ap (λ (es : List Given). (string_bytes t, text_of m) ∷ es) (paired_append ss ns less s n)

-- the text of what a reference leads to
pub copied_text : (o : Option (Bor Identifier)) → option_map (λ name. text_of name.now) o ≡ option_map text_of (option_copied o)
copied_text None = refl
copied_text (Some r) = refl

position_was : (b : Bool) (i k : ℕ) → Some i ≡ cond b (Some k) None → i ≡ k
position_was true i k e = same_some i k e
position_was false i k e = absurd (none-some i (sym e))

position_past : (b : Bool) (k : ℕ) → None ≡ cond b (Some k) None → b ≡ false
position_past true k e = absurd (none-some k e)
position_past false k e = refl

slice_past : {X : Type 0} (xs : List X) (i : ℕ) → length xs ≤ i → slice_get xs i ≡ None
slice_past [] i h = refl
slice_past (x ∷ xs) zero h = absurd (omega (arith, h))
slice_past (x ∷ xs) (suc i) h = slice_past xs i (omega (arith, h))

module _ {A : Type 0} (ss : List (String A)) (ns : List Identifier) (same : length ss ≡ length ns) (q : List ℕ) where
  -- what stands at the index of a source
  pub name_found_at : (i : ℕ) → Some i ≡ position (λ s. bytes_eq q (string_bytes s)) ss → option_map text_of (slice_get ns i) ≡ name_of (paired ss ns) q
  name_found_at i e =
      ap (λ (j : ℕ). option_map text_of (slice_get ns j)) (position_was _ i (position_or_len (λ s. bytes_eq q (string_bytes s)) ss) e) ∙ sym (name_at ss ns same q)

  pub name_none : None ≡ position (λ s. bytes_eq q (string_bytes s)) ss → None ≡ name_of (paired ss ns) q
  name_none e =
      let k = position_or_len (λ s. bytes_eq q (string_bytes s)) ss in
      let past = ltb-false k (length ss) (position_past (ltb k (length ss)) k e) in
      ap (option_map text_of) (sym (slice_past ns k (omega (arith, past, same)))) ∙ sym (name_at ss ns same q)

  -- what stands at the index of an identifier
  pub source_found : (i : ℕ) (s : String A) → Some i ≡ position (λ n. bytes_eq q (text_of n)) ns → Some s ≡ slice_get ss i → Some (string_bytes s) ≡ source_of (paired ss ns) q
  source_found i s e f =
      ap (option_map string_bytes) (f ∙ ap (slice_get ss) (position_was _ i (position_or_len (λ n. bytes_eq q (text_of n)) ns) e)) ∙ sym (source_at ss ns same q)

  pub source_none : None ≡ position (λ n. bytes_eq q (text_of n)) ns → None ≡ source_of (paired ss ns) q
  source_none e =
      let k = position_or_len (λ n. bytes_eq q (text_of n)) ns in
      let past = ltb-false k (length ns) (position_past (ltb k (length ns)) k e) in
      ap (option_map string_bytes) (sym (slice_past ss k (omega (arith, past, same)))) ∙ sym (source_at ss ns same q)

module _ (key value : Given → List ℕ) where
  -- what stands beside a text
  abbrev beside : List Given → List ℕ → Option (List ℕ)
  beside given q = option_map value (find (λ (e : Given). bytes_eq q (key e)) given)

  map_or : (o p : Option Given) → option_map value (option_or o p) ≡ option_or (option_map value o) (option_map value p)
  map_or None p = refl
  map_or (Some e) p = refl

  -- with one more at the end
  beside_append : (given : List Given) (e : Given) (q : List ℕ) → beside (given ++ e ∷ []) q ≡ option_or (beside given q) (option_map value (cond (bytes_eq q (key e)) (Some e) None))
  beside_append given e q = ap (option_map value) (find-append (λ (e : Given). bytes_eq q (key e)) given (e ∷ [])) ∙ map_or (find (λ (e : Given). bytes_eq q (key e)) given) (cond (bytes_eq q (key e)) (Some e) None)

last_is : (value : Given → List ℕ) (b : Bool) (e : Given) (x : List ℕ) → option_map value (cond b (Some e) None) ≡ Some x → (b ≡ true) × (value e ≡ x)
last_is value true e x h = (refl, same_some (value e) x h)
last_is value false e x h = absurd (none-some x h)

module _ (key value : Given → List ℕ) (given : List Given) (e : Given) where
  step_in : (q x : List ℕ) (o : Option (List ℕ)) (p : Option (List ℕ))
      → o ≡ beside key value given q → p ≡ beside value key given x → (o ≡ Some x → p ≡ Some q) → beside value key given (value e) ≡ None
      → option_or o (option_map value (cond (bytes_eq q (key e)) (Some e) None)) ≡ Some x → option_or p (option_map key (cond (bytes_eq x (value e)) (Some e) None)) ≡ Some q
  step_in q x (Some y) (Some z) oe pe back none h = back h
  step_in q x (Some y) None oe pe back none h = absurd (none-some q (back h))
  step_in q x None p oe pe back none h =
      let last = last_is value (bytes_eq q (key e)) e x h in
      let key_is : q ≡ key e = (bytes_eq-Decides q (key e)).0 last.0 in
      let p_none : p ≡ None = pe ∙ (ap (beside value key given) (sym last.1) ∙ none) in
      let found : bytes_eq x (value e) ≡ true = (bytes_eq-Decides x (value e)).1 (sym last.1) in
      ap (λ (o : Option (List ℕ)). option_or o (option_map key (cond (bytes_eq x (value e)) (Some e) None))) p_none ∙ (ap (λ b. option_map key (cond b (Some e) None)) found ∙ ap Some (sym key_is))

  -- what stands beside a text has the text beside it, also with one more that is new
  step : (q x : List ℕ) → (beside key value given q ≡ Some x → beside value key given x ≡ Some q) → beside value key given (value e) ≡ None → beside key value (given ++ e ∷ []) q ≡ Some x → beside value key (given ++ e ∷ []) x ≡ Some q
  step q x back none h =
      beside_append value key given e x ∙ step_in q x (beside key value given q) (beside value key given x) refl refl back none (sym (beside_append key value given e q) ∙ h)

is_none : {X : Type 0} (o : Option X) → is_some o ≡ false → o ≡ None
is_none None h = refl
is_none (Some x) h = let no : true ≡ false = h in cc

-- a source that has no identifier gets one that isn't taken
pub one_to_one_append : (given : List Given) (source name : List ℕ) → GivesOneToOne given → name_of given source ≡ None → is_taken given name ≡ false → GivesOneToOne (with_name given source name)
one_to_one_append given source name one new free q x = (
  step (λ e. e.0) (λ e. e.1) given (source, name) q x (one q x).0 (is_none (source_of given name) free),
  step (λ e. e.1) (λ e. e.0) given (source, name) x q (one q x).1 new,
)

module _ {A : Type 0} where
  known_step : (b : Bool) (s : String A) (n : Identifier) (ss : List (String A)) (ns : List Identifier) (q : List ℕ)
      → is_some (name_of (paired ss ns) q) ≡ list_any (λ s. bytes_eq q (string_bytes s)) ss
      → is_some (option_map (λ (e : Given). e.1) (cond b (Some (string_bytes s, text_of n)) (find (λ (e : Given). bytes_eq q e.0) (paired ss ns)))) ≡ (b || list_any (λ s. bytes_eq q (string_bytes s)) ss)
  known_step true s n ss ns q h = refl
  known_step false s n ss ns q h = h

  -- a source has an identifier where it is among those that have
  known_among : (ss : List (String A)) (ns : List Identifier) → length ss ≡ length ns → (q : List ℕ) → is_some (name_of (paired ss ns) q) ≡ list_any (λ s. bytes_eq q (string_bytes s)) ss
  known_among [] [] h q = refl
  known_among [] (n ∷ ns) h q = let no : 0 ≡ suc (length ns) = h in absurd (omega (arith, no))
  known_among (s ∷ ss) [] h q = let no : suc (length ss) ≡ 0 = h in absurd (omega (arith, no))
  known_among (s ∷ ss) (n ∷ ns) h q = let same : suc (length ss) ≡ suc (length ns) = h in let less : length ss ≡ length ns = omega (arith, same) in known_step (bytes_eq q (string_bytes s)) s n ss ns q (known_among ss ns less q)

last_in : {X : Type 0} (b : Bool) (xs : List X) (x : X) → b ≡ false → cond b xs (xs ++ x ∷ []) ≡ xs ++ x ∷ []
last_in true xs x h = let no : true ≡ false = h in cc
last_in false xs x h = refl

module _ {A : Type 0} (ss : List (String A)) (ns : List Identifier) (same : length ss ≡ length ns) (s : String A) (n : Identifier) (new : name_of (paired ss ns) (string_bytes s) ≡ None) (free : is_taken (paired ss ns) (text_of n) ≡ false)
    (ts : List (String A)) (ms : List Identifier) (sources : ts ≡ insert_key string_eq ss s) (names : ms ≡ insert_key (λ a b. bytes_eq (text_of a) (text_of b)) ns n) where
  sources_are : ts ≡ ss ++ s ∷ []
  sources_are = sources ∙ last_in (list_any (string_eq s) ss) ss s (sym (known_among ss ns same (string_bytes s)) ∙ ap is_some new)

  names_are : ms ≡ ns ++ n ∷ []
  names_are = names ∙ last_in (list_any (λ b. bytes_eq (text_of n) (text_of b)) ns) ns n (sym (taken_among ss ns same (text_of n)) ∙ free)

  -- what stands side by side after both were put at the ends
  pub noted : paired ts ms ≡ with_name (paired ss ns) (string_bytes s) (text_of n)
  noted = ap (λ (xs : List (String A)). paired xs ms) sources_are ∙ (ap (paired (ss ++ s ∷ [])) names_are ∙ paired_append ss ns same s n)

  pub noted_length : length ts ≡ length ms
  noted_length =
      let one : length ts ≡ length ss + 1 = ap length sources_are ∙ length-append ss (s ∷ []) in
      let other : length ms ≡ length ns + 1 = ap length names_are ∙ length-append ns (n ∷ []) in
      omega (arith, one, other, same)

  pub noted_one : GivesOneToOne (paired ss ns) → GivesOneToOne (paired ts ms)
  noted_one one = subst GivesOneToOne (sym noted) (one_to_one_append (paired ss ns) (string_bytes s) (text_of n) one new free)

taken_by : (given : List Given) (text : List ℕ) (from to n : ℕ) (b : Bool) → ltb n to ≡ b → AreTaken given text from to → is_taken given (numbered text to) ≡ true → from ≤ n → n < to + 1 → is_taken given (numbered text n) ≡ true
taken_by given text from to n true e before here low high = before n low (ltb-true n to e)
taken_by given text from to n false e before here low high = let past = ltb-false n to e in let same : n ≡ to = omega (arith, past, high) in ap (λ (m : ℕ). is_taken given (numbered text m)) same ∙ here

-- one number more is taken
pub taken_next : (given : List Given) (text : List ℕ) (from to : ℕ) → AreTaken given text from to → is_taken given (numbered text to) ≡ true → AreTaken given text from (to + 1)
taken_next given text from to before here n low high = taken_by given text from to n (ltb n to) refl before here low high
