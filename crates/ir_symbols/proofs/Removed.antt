-- Entries that are taken out of a table by their operation.
use Rattle.std.proofs.Common.{◌≡◌, ◌≢◌, ℕ, zero, suc, ◌<◌, ◌≤◌, Bool, true, false, not, List, [], ◌∷◌, length, Some, None, cond, slice_get, refl, sym, subst, ap, ◌∙◌, true≢false, arith}
use Rattle.std.specs.BTreeMap.{IsOrdered, get_by_text}
use Rattle.std.specs.Cmp.Lexicographic.{slice_cmp, nat_list_cmp_total}
use Rattle.std.specs.List.{filter, IsDistinct, AllByRecursion}
use Rattle.std.specs.Map.{lookup, keys_of}
use Rattle.std.specs.Ordering.{is_eq, eq_by_cmp, nat_cmp}
use Rattle.std.specs.String.{string_bytes, string_cmp, string_cmp_total}
use Rattle.std.specs.Global.{Global}
use Rattle.std.specs.Prelude.{String}
use Rattle.std.specs.declared.cmp.Ordering.{Ordering}
use Rattle.std.specs.declared.cmp.Ordering.TheVariants.{Less, Equal, Greater}
use Rattle.std.proofs.lemmas.Option.{same_Some}
use Rattle.std.proofs.lemmas.Map.Entries.{place_from_lookup, btree_map_get_place}
use Rattle.std.proofs.lemmas.Map.Keys.{IsDistinct-from_sorted, IsDistinct-head, IsDistinct-tail}
use Rattle.ir_program.specs.declared.handles.Operation.{Operation}
use Rattle.ir_program.specs.declared.handles.Ptr.{Ptr}
use Rattle.ir_symbols.specs.Tables.{Names}
use Rattle.ir_symbols.proofs.Handles.{same, same_so, itself, differ_so}

-- a look-up among the entries that are left, where a test finds one key at most
module _ {K X : Type 0} (eq : K → K → Bool) (test : K → Bool) (one : (x y : K) → test x ≡ true → test y ≡ eq x y) (keep : X → Bool) where
  none_of : (k : K) → test k ≡ true → (es : List (K × X)) → AllByRecursion (λ y. eq k y ≡ false) (keys_of es) → lookup test (filter (λ e. keep e.1) es) ≡ None
  none_of k t [] d = refl
  none_of k t (e ∷ es) d = by (keep e.1) (none_of k t es d.1) where
    by : (b : Bool) → lookup test (filter (λ e. keep e.1) es) ≡ None → lookup test (cond b (e ∷ filter (λ e. keep e.1) es) (filter (λ e. keep e.1) es)) ≡ None
    by true h = ap (λ b. cond b (Some e.1) (lookup test (filter (λ e. keep e.1) es))) (one k e.0 t ∙ d.0) ∙ h
    by false h = h

  -- what is found is what was found before, and is kept
  pub found_before : (es : List (K × X)) → IsDistinct eq (keys_of es) → (v : X) → lookup test (filter (λ e. keep e.1) es) ≡ Some v → (lookup test es ≡ Some v) × (keep v ≡ true)
  found_before [] d v h = cc
  found_before (e ∷ es) d v h = by (found_before es (IsDistinct-tail eq e.0 (keys_of es) d) v) (test e.0) refl (keep e.1) refl h where
    by : (lookup test (filter (λ e. keep e.1) es) ≡ Some v → (lookup test es ≡ Some v) × (keep v ≡ true)) → (b : Bool) → test e.0 ≡ b → (k : Bool) → keep e.1 ≡ k
        → lookup test (cond k (e ∷ filter (λ e. keep e.1) es) (filter (λ e. keep e.1) es)) ≡ Some v → (cond b (Some e.1) (lookup test es) ≡ Some v) × (keep v ≡ true)
    by further true t true k h = let here : Some e.1 ≡ Some v = sym (ap (λ b. cond b (Some e.1) (lookup test (filter (λ e. keep e.1) es))) t) ∙ h in (here, subst (λ x. keep x ≡ true) (same_Some e.1 v here) k)
    by further true t false k h = let no : None ≡ Some v = sym (none_of e.0 t es (IsDistinct-head eq e.0 (keys_of es) d)) ∙ h in cc
    by further false t true k h = further (sym (ap (λ b. cond b (Some e.1) (lookup test (filter (λ e. keep e.1) es))) t) ∙ h)
    by further false t false k h = further h

  -- what was found and is kept is found
  pub found_after : (es : List (K × X)) (v : X) → lookup test es ≡ Some v → keep v ≡ true → lookup test (filter (λ e. keep e.1) es) ≡ Some v
  found_after [] v h k = cc
  found_after (e ∷ es) v h kept = by (λ here. found_after es v here kept) (test e.0) refl (keep e.1) refl h where
    by : (lookup test es ≡ Some v → lookup test (filter (λ e. keep e.1) es) ≡ Some v) → (b : Bool) → test e.0 ≡ b → (k : Bool) → keep e.1 ≡ k
        → cond b (Some e.1) (lookup test es) ≡ Some v → lookup test (cond k (e ∷ filter (λ e. keep e.1) es) (filter (λ e. keep e.1) es)) ≡ Some v
    by further true t true k h = ap (λ b. cond b (Some e.1) (lookup test (filter (λ e. keep e.1) es))) t ∙ h
    by further true t false k h = absurd (true≢false (sym kept ∙ ap keep (sym (same_Some e.1 v h)) ∙ k))
    by further false t true k h = ap (λ b. cond b (Some e.1) (lookup test (filter (λ e. keep e.1) es))) t ∙ further h
    by further false t false k h = further h

abbrev text_test : List ℕ → String Global → Bool
text_test name k = is_eq (slice_cmp nat_cmp name (string_bytes k))

equal_from : (o : Ordering) → is_eq o ≡ true → o ≡ Equal
equal_from Less h = absurd (true≢false (sym h))
equal_from Equal h = refl
equal_from Greater h = absurd (true≢false (sym h))

text_one : (name : List ℕ) (x y : String Global) → text_test name x ≡ true → text_test name y ≡ eq_by_cmp string_cmp x y
text_one name x y h = ap is_eq (nat_list_cmp_total.congr name (string_bytes x) (string_bytes y) (equal_from (slice_cmp nat_cmp name (string_bytes x)) h))

module _ (old new : Names) (op : Ptr Operation) (ordered : IsOrdered string_cmp old) (kept : new.entries ≡ filter (λ e. not (same e.1 op)) old.entries) where
  pub left_there : (name : List ℕ) (other : Ptr Operation) → ((get_by_text new name ≡ Some other) → (get_by_text old name ≡ Some other) × (other ≢ op)) × ((get_by_text old name ≡ Some other) × (other ≢ op) → get_by_text new name ≡ Some other)
  left_there name other = (
    λ h.
        let r = found_before (eq_by_cmp string_cmp) (text_test name) (text_one name) (λ p. not (same p op)) old.entries (IsDistinct-from_sorted string_cmp (keys_of old.entries) ordered) other (sym (ap (lookup (text_test name)) kept) ∙ h) in
        (r.0, differ_so other op r.1),
    λ h. ap (lookup (text_test name)) kept ∙ found_after (eq_by_cmp string_cmp) (text_test name) (text_one name) (λ p. not (same p op)) old.entries other h.0 (keeps other h.1),
  ) where
    keeps : (p : Ptr Operation) → p ≢ op → not (same p op) ≡ true
    keeps p differs = by (same p op) refl where
      by : (b : Bool) → same p op ≡ b → not b ≡ true
      by true e = absurd (differs (same_so p op e))
      by false e = refl

-- what a filter takes away
module _ {E : Type 0} (keep : E → Bool) where
  no_longer : (es : List E) → length (filter keep es) ≤ length es
  no_longer [] = omega arith
  no_longer (e ∷ es) = by (keep e) (no_longer es) where
    by : (b : Bool) → length (filter keep es) ≤ length es → length (cond b (e ∷ filter keep es) (filter keep es)) ≤ length (e ∷ es)
    by true h = omega arith
    by false h = omega arith

  -- where fewer are left, one wasn't kept
  some_lost : (es : List E) → length (filter keep es) < length es → (j : ℕ) × (e : E) × (slice_get es j ≡ Some e) × (keep e ≡ false)
  some_lost [] h = absurd (omega arith)
  some_lost (e ∷ es) h = by (some_lost es) (keep e) refl h where
    by : (length (filter keep es) < length es → (j : ℕ) × (x : E) × (slice_get es j ≡ Some x) × (keep x ≡ false)) → (b : Bool) → keep e ≡ b
        → length (cond b (e ∷ filter keep es) (filter keep es)) < length (e ∷ es) → (j : ℕ) × (x : E) × (slice_get (e ∷ es) j ≡ Some x) × (keep x ≡ false)
    by further true k h = let r = further (omega arith) in (suc r.0, r.1, r.2, r.3)
    by further false k h = (zero, e, refl, k)

  -- where one isn't kept, fewer are left
  fewer : (es : List E) (j : ℕ) (e : E) → slice_get es j ≡ Some e → keep e ≡ false → length (filter keep es) < length es
  fewer [] j e at lost = cc
  fewer (x ∷ es) zero e at lost = by (keep x) (ap keep (same_Some x e at) ∙ lost) (no_longer es) where
    by : (b : Bool) → b ≡ false → length (filter keep es) ≤ length es → length (cond b (x ∷ filter keep es) (filter keep es)) < length (x ∷ es)
    by true n h = absurd (true≢false n)
    by false n h = omega arith
  fewer (x ∷ es) (suc j) e at lost = by (keep x) (fewer es j e at lost) where
    by : (b : Bool) → length (filter keep es) < length es → length (cond b (x ∷ filter keep es) (filter keep es)) < length (x ∷ es)
    by true h = omega arith
    by false h = omega arith

true_so : (b : Bool) → not b ≡ false → b ≡ true
true_so true h = refl
true_so false h = absurd (true≢false h)

module _ (old new : Names) (op : Ptr Operation) (ordered : IsOrdered string_cmp old) (kept : new.entries ≡ filter (λ e. not (same e.1 op)) old.entries) where
  -- a table that got shorter had the operation
  pub was_there : length new.entries < length old.entries → (name : List ℕ) × (get_by_text old name ≡ Some op)
  was_there h =
      let r = some_lost (λ e. not (same e.1 op)) old.entries (subst (λ es. length es < length old.entries) kept h) in
      (string_bytes r.1.0, btree_map_get_place string_cmp_total old r.0 r.1.0 r.1.1 ordered r.2 ∙ ap Some (same_so r.1.1 op (true_so (same r.1.1 op) r.3)))

  -- one that had it got shorter
  pub gets_shorter : (name : List ℕ) → get_by_text old name ≡ Some op → length new.entries < length old.entries
  gets_shorter name h =
      let r = place_from_lookup (text_test name) old.entries op h in
      subst (λ es. length es < length old.entries) (sym kept) (fewer (λ e. not (same e.1 op)) old.entries r.0 (r.1, op) r.2 (ap not (itself op)))
