-- Entries in a table and in its section: the same are found.
use Rattle.std.proofs.Common.{arith, ◌≡◌, ◌∙◌, ℕ, zero, suc, ◌+◌, Bool, true, false, List, [], ◌∷◌, ◌++◌, map, take, Option, Some, None, cond, nat_eq, slice_get, refl, sym, ap, subst, true≢false, inl, inr}
use Rattle.std.proofs.lemmas.Option.{none-some, same_Some}
use Rattle.std.specs.Prelude.{option_map, is_some}
use Rattle.std.specs.Map.{lookup}
use Rattle.ir_outlines.specs.Section.{Reference, Section, attribute_of, attributes_of, entry_among, both}
use Rattle.ir_outlines.specs.Section as sections
use Rattle.ir_names.specs.declared.identifier.Identifier.{Identifier}
use Rattle.outline_tables.specs.Tables.{entry_of, first_unknown, members_in, members_of, LacksAttribute, LeadsNowhere}
use Rattle.outline_tables.specs.declared.errors.OutlineError.{OutlineError}
use Rattle.outline_tables.specs.declared.entries.Reference as code
use Rattle.outline_tables.specs.declared.entries.Entry.{Entry}

nat_eq-sym : (a b : ℕ) → nat_eq a b ≡ nat_eq b a
nat_eq-sym a b = grind arith

module _ {A L : Type 0} where
  found-by : (e : Entry A L) (es : List (ℕ × Entry A L)) (n : ℕ) (here b : Bool) → here ≡ b
      → entry_among (map (λ e. (e.0, entry_of e.1)) es) n ≡ option_map entry_of (lookup (nat_eq n) es)
      → cond here (Some (entry_of e)) (entry_among (map (λ e. (e.0, entry_of e.1)) es) n) ≡ option_map entry_of (cond b (Some e) (lookup (nat_eq n) es))
  found-by e es n true true is more = refl
  found-by e es n true false is more = absurd (true≢false is)
  found-by e es n false true is more = absurd (true≢false (sym is))
  found-by e es n false false is more = more

  -- the entry of the section is the one in the table
  pub entry_among-lookup : (es : List (ℕ × Entry A L)) (n : ℕ) → entry_among (map (λ e. (e.0, entry_of e.1)) es) n ≡ option_map entry_of (lookup (nat_eq n) es)
  entry_among-lookup [] n = refl
  entry_among-lookup (e ∷ es) n = found-by e.1 es n (nat_eq e.0 n) (nat_eq n e.0) (nat_eq-sym e.0 n) (entry_among-lookup es n)

  none-by : (o : Option (Entry A L)) → option_map entry_of o ≡ None → o ≡ None
  none-by None is = refl
  none-by (Some e) is = absurd (none-some (entry_of e) (sym is))

  -- where the section has none, the table has none
  pub lookup-none : (es : List (ℕ × Entry A L)) (n : ℕ) → entry_among (map (λ e. (e.0, entry_of e.1)) es) n ≡ None → lookup (nat_eq n) es ≡ None
  lookup-none es n none = none-by (lookup (nat_eq n) es) (sym (entry_among-lookup es n) ∙ none)

one-more : (i : ℕ) → suc i ≡ i + 1
one-more i = grind arith

both-some : {X Y Z : Type 0} (o : Option X) (p : Option Y) (f : X → Y → Z) (z : Z) → both o p f ≡ Some z → (x : X) × (y : Y) × (o ≡ Some x) × (p ≡ Some y) × (f x y ≡ z)
both-some None p f z is = absurd (none-some z is)
both-some (Some x) None f z is = absurd (none-some z is)
both-some (Some x) (Some y) f z is = (x, y, refl, refl, same_Some (f x y) z is)

module _ {A L : Type 0} (s : Section A L) where
  -- one attribute more
  pub next-found : (ms : List (List ℕ × Reference A)) (i : ℕ) (m : List ℕ × Reference A) (ys : List (List ℕ × A)) (a : A)
      → attributes_of s (take i ms) ≡ Some ys → slice_get ms i ≡ Some m → attribute_of s m.1 ≡ Some a
      → attributes_of s (take (suc i) ms) ≡ Some (ys ++ (m.0, a) ∷ [])
  next-found [] i m ys a is there found = absurd (none-some m there)
  next-found (n ∷ ms) zero m ys a is there found =
      let same = same_Some n m there in
      ap (λ o. both o (Some []) (λ x xs. (n.0, x) ∷ xs)) (ap (λ (q : List ℕ × Reference A). attribute_of s q.1) same ∙ found)
      ∙ ap (λ (q : List ℕ × Reference A). Some ((q.0, a) ∷ [])) same ∙ ap (λ zs. Some (zs ++ (m.0, a) ∷ [])) (same_Some [] ys is)
  next-found (n ∷ ms) (suc i) m ys a is there found =
      let (x, xs, one, others, whole) = both-some (attribute_of s n.1) (attributes_of s (take i ms)) (λ x xs. (n.0, x) ∷ xs) ys is in
      ap (λ o. both o (attributes_of s (take (suc i) ms)) (λ x xs. (n.0, x) ∷ xs)) one
      ∙ ap (λ o. both (Some x) o (λ x xs. (n.0, x) ∷ xs)) (next-found ms i m xs a others there found)
      ∙ ap (λ zs. Some (zs ++ (m.0, a) ∷ [])) whole

  pub next-found-at : (ms : List (List ℕ × Reference A)) (i : ℕ) (m : List ℕ × Reference A) (ys : List (List ℕ × A)) (a : A)
      → attributes_of s (take i ms) ≡ Some ys → slice_get ms i ≡ Some m → attribute_of s m.1 ≡ Some a
      → attributes_of s (take (i + 1) ms) ≡ Some (ys ++ (m.0, a) ∷ [])
  next-found-at ms i m ys a is there found = subst (λ n. attributes_of s (take n ms) ≡ Some (ys ++ (m.0, a) ∷ [])) (one-more i) (next-found ms i m ys a is there found)

  -- the first that isn't found
  pub first-missing : (ms : List (List ℕ × Reference A)) (i : ℕ) (m : List ℕ × Reference A) (ys : List (List ℕ × A))
      → attributes_of s (take i ms) ≡ Some ys → slice_get ms i ≡ Some m → attribute_of s m.1 ≡ None
      → first_unknown s ms ≡ Some i
  first-missing [] i m ys is there missing = absurd (none-some m there)
  first-missing (n ∷ ms) zero m ys is there missing =
      ap (λ o. cond (is_some o) (option_map suc (first_unknown s ms)) (Some 0)) (ap (λ (q : List ℕ × Reference A). attribute_of s q.1) (same_Some n m there) ∙ missing)
  first-missing (n ∷ ms) (suc i) m ys is there missing =
      let (x, xs, one, others, whole) = both-some (attribute_of s n.1) (attributes_of s (take i ms)) (λ x xs. (n.0, x) ∷ xs) ys is in
      ap (λ o. cond (is_some o) (option_map suc (first_unknown s ms)) (Some 0)) one ∙ ap (option_map suc) (first-missing ms i m xs others there missing)

  -- an entry in brackets whose attributes aren't told
  pub leads-nowhere : (mark : ℕ) (location : Option L) (references : List (Identifier × code.Reference A)) (error : OutlineError)
      → entry_among s mark ≡ Some (sections.bracketed location (members_of references)) → LacksAttribute s references error → LeadsNowhere s mark error
  leads-nowhere mark location references error there (inl is) = subst (LeadsNowhere s mark) (sym is) (members_of references, ap members_in there)
  leads-nowhere mark location references error there (inr (index, is, first)) = subst (LeadsNowhere s mark) (sym is) (members_of references, ap members_in there, first)
