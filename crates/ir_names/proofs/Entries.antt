-- Look-ups in the entries of an attribute dictionary.
use Rattle.std.proofs.Common.{◌≡◌, ℕ, Bool, true, false, cond, List, [], ◌∷◌, Option, Some, None, String, option_map, Result, OnOk, length, suc, refl, sym, ap, subst, ◌∙◌, arith}
use Rattle.std.specs.Map.{lookup, remove_entry}
use Rattle.std.proofs.lemmas.Bool.{false≢true}
use Rattle.std.proofs.lemmas.Result.{on_ok_weaker}
use Rattle.std.proofs.lemmas.Map.{lookup-remove_entry}
use Rattle.std.specs.Str.{bytes_eq}
use Rattle.std.specs.String.{string_bytes, string_eq}
use Rattle.std.specs.Cmp.Lexicographic.{nat_list_eq_equiv}
use Rattle.indexmap.specs.IndexMap.{insert_entry}
use Rattle.ir_names.specs.declared.dictionary.Entry.{Entry}
use Rattle.ir_names.specs.Lends.{with_first_attribute}
use Rattle.ir_names.specs.Dictionary.{named, named_entries, with_first, all_entries, is_under, attribute_at, with_attribute, without_attribute, SetsAttribute, RemovesAttribute, AreNamesDistinct}

-- a look-up by bytes, over the entries as they are held
pub attribute_at-named_entries : {X Y : Type 0} (key : List ℕ) (es : List (String Y × X)) → attribute_at (named_entries es) key ≡ lookup (λ k. bytes_eq key (string_bytes k)) es
attribute_at-named_entries key [] = refl
attribute_at-named_entries {X} key (e ∷ es) = ap (λ (r : Option X). cond (bytes_eq key (string_bytes e.0)) (Some e.1) r) (attribute_at-named_entries key es)

named-cond : {X Y : Type 0} (b : Bool) (e : String Y × X) (v : X) (es rest : List (String Y × X)) (done : List (List ℕ × X)) → named_entries rest ≡ done → named_entries (cond b ((e.0, v) ∷ es) (e ∷ rest)) ≡ cond b ((string_bytes e.0, v) ∷ named_entries es) ((string_bytes e.0, e.1) ∷ done)
named-cond true e v es rest done h = refl
named-cond {X} false e v es rest done h = ap (λ (r : List (List ℕ × X)). (string_bytes e.0, e.1) ∷ r) h

-- an insertion, seen by the names' bytes
pub named_entries-insert_entry : {X Y : Type 0} (k : String Y) (v : X) (es : List (String Y × X)) → named_entries (insert_entry string_eq es k v) ≡ with_attribute (named_entries es) (string_bytes k) v
named_entries-insert_entry k v [] = refl
named_entries-insert_entry k v (e ∷ es) = named-cond (string_eq k e.0) e v es (insert_entry string_eq es k v) _ (named_entries-insert_entry k v es)

-- an insertion behind a first entry of another name
pub put_behind : {D K A T Y : Type 0} (first : Entry D K A T) (es new : List (String Y × A)) (k : String Y) (key : List ℕ) (attr : A)
    → string_bytes k ≡ key → bytes_eq key (string_bytes first.name) ≡ false → new ≡ insert_entry string_eq es k attr
    → named first ∷ named_entries new ≡ with_attribute (named first ∷ named_entries es) key attr
put_behind first es new k key attr name other put =
    rw other (ap (λ es. named first ∷ es) (ap named_entries put ∙ (named_entries-insert_entry k attr es ∙ ap (λ key. with_attribute (named_entries es) key attr) name)))

module _ {V : Type 0} where
  same_test : (p q : Bool) (v w l : V) → p ≡ q → cond q v l ≡ cond p v (cond q w l)
  same_test true true v w l h = refl
  same_test false false v w l h = refl
  same_test true false v w l h = cc
  same_test false true v w l h = cc

  other_test : (p q : Bool) (v w l : V) → (q ≡ true → p ≡ false) → cond q w (cond p v l) ≡ cond p v (cond q w l)
  other_test true true v w l h = let e : true ≡ false = h refl in cc
  other_test true false v w l h = refl
  other_test false q v w l h = refl

module _ {X : Type 0} where
  -- one step of a look-up, where b says whether the entry has the key that is put and p whether that key is looked for
  put_step : (test : List ℕ → Bool) (b p : Bool) (e : List ℕ × X) (v : X) (es rest : List (List ℕ × X)) → (b ≡ true → p ≡ test e.0) → (b ≡ false → test e.0 ≡ true → p ≡ false) → lookup test rest ≡ cond p (Some v) (lookup test es) → lookup test (cond b ((e.0, v) ∷ es) (e ∷ rest)) ≡ cond p (Some v) (cond (test e.0) (Some e.1) (lookup test es))
  put_step test true p e v es rest same other h = same_test p (test e.0) (Some v) (Some e.1) (lookup test es) (same refl)
  put_step test false p e v es rest same other h = ap (λ (r : Option X). cond (test e.0) (Some e.1) r) h ∙ other_test p (test e.0) (Some v) (Some e.1) (lookup test es) (other refl)

  -- a look-up after an attribute is put under a name
  pub attribute_at-with_attribute : (es : List (List ℕ × X)) (key : List ℕ) (attr : X) → SetsAttribute es (with_attribute es key attr) key attr
  attribute_at-with_attribute [] key attr other = ap (λ (b : Bool). cond b (Some attr) None) (nat_list_eq_equiv.symm other key)
  attribute_at-with_attribute (e ∷ es) key attr other =
      put_step (bytes_eq other) (bytes_eq key e.0) (bytes_eq key other) e attr es (with_attribute es key attr)
      (λ h. nat_list_eq_equiv.congr key e.0 other h ∙ nat_list_eq_equiv.symm e.0 other)
      (λ h k. nat_list_eq_equiv.symm key other ∙ (nat_list_eq_equiv.congr other e.0 key k ∙ (nat_list_eq_equiv.symm e.0 key ∙ h)))
      (attribute_at-with_attribute es key attr other)

-- entries of which one is taken out, seen by the names' bytes
without_step : {X Y : Type 0} (b : Bool) (e : String Y × X) (es rest : List (String Y × X)) (done : List (List ℕ × X)) → named_entries rest ≡ done → named_entries (cond b es (e ∷ rest)) ≡ cond b (named_entries es) ((string_bytes e.0, e.1) ∷ done)
without_step true e es rest done h = refl
without_step {X} false e es rest done h = ap (λ (r : List (List ℕ × X)). (string_bytes e.0, e.1) ∷ r) h

pub named_entries-remove_entry : {X Y : Type 0} (key : List ℕ) (es : List (String Y × X)) → named_entries (remove_entry (λ k. bytes_eq key (string_bytes k)) es) ≡ without_attribute (named_entries es) key
named_entries-remove_entry key [] = refl
named_entries-remove_entry key (e ∷ es) = without_step (bytes_eq key (string_bytes e.0)) e es (remove_entry (λ k. bytes_eq key (string_bytes k)) es) _ (named_entries-remove_entry key es)

-- a look-up after an attribute is taken out
pub attribute_at-without_attribute : {X : Type 0} (es : List (List ℕ × X)) (key : List ℕ) → AreNamesDistinct es → RemovesAttribute es (without_attribute es key) key
attribute_at-without_attribute es key d other =
    lookup-remove_entry nat_list_eq_equiv (bytes_eq key) (λ x y h. nat_list_eq_equiv.congr key x y h) other es d

module _ {D K A T Y : Type 0} where
  -- what is not under the first entry's name is among the others
  pub attribute_at-others : (first : Option (Entry D K A T)) (es : List (String Y × A)) (key : List ℕ) → is_under first key ≡ false → attribute_at (all_entries first es) key ≡ lookup (λ k. bytes_eq key (string_bytes k)) es
  unfolding all_entries
  attribute_at-others None es key h = attribute_at-named_entries key es
  attribute_at-others (Some e) es key h = rw h (attribute_at-named_entries key es)

  pub attribute_at-string : (first : Option (Entry D K A T)) (es : List (String Y × A)) (k : String Y) (key : List ℕ) → string_bytes k ≡ key → is_under first key ≡ false → lookup (string_eq k) es ≡ attribute_at (all_entries first es) key
  attribute_at-string first es k key name h =
      subst (λ key. lookup (string_eq k) es ≡ lookup (λ x. bytes_eq key (string_bytes x)) es) name refl ∙ sym (attribute_at-others first es key h)

  pub without_attribute-others : (first : Option (Entry D K A T)) (es new : List (String Y × A)) (key : List ℕ) → is_under first key ≡ false → new ≡ remove_entry (λ k. bytes_eq key (string_bytes k)) es
      → all_entries first new ≡ without_attribute (all_entries first es) key
  unfolding all_entries
  without_attribute-others None es new key h n = ap named_entries n ∙ named_entries-remove_entry key es
  without_attribute-others (Some e) es new key h n = rw h (ap (λ es. named e ∷ es) (ap named_entries n ∙ named_entries-remove_entry key es))

  -- what is under it is the first entry's
  pub attribute_at-first : (first : Option (Entry D K A T)) (es : List (String Y × A)) (key : List ℕ) → is_under first key ≡ true → attribute_at (all_entries first es) key ≡ option_map (λ e. e.attr) first
  unfolding all_entries
  attribute_at-first None es key h = absurd (false≢true h)
  attribute_at-first (Some e) es key h = rw h refl

  pub without_attribute-first : (first : Option (Entry D K A T)) (es : List (String Y × A)) (key : List ℕ) → is_under first key ≡ true → all_entries {D = D} {K = K} {A = A} {T = T} None es ≡ without_attribute (all_entries first es) key
  unfolding all_entries
  without_attribute-first None es key h = absurd (false≢true h)
  without_attribute-first (Some e) es key h = rw h refl

  -- an attribute is put in the place of the first entry's
  pub with_attribute-first : (first : Option (Entry D K A T)) (es : List (String Y × A)) (key : List ℕ) (attr : A) → is_under first key ≡ true → all_entries (with_first_attribute first attr) es ≡ with_attribute (all_entries first es) key attr
  unfolding all_entries
  with_attribute-first None es key attr h = absurd (false≢true h)
  with_attribute-first (Some e) es key attr h = rw h refl

  -- an attribute is put among the others
  pub with_attribute-others : (first : Option (Entry D K A T)) (es new : List (String Y × A)) (k : String Y) (key : List ℕ) (attr : A) → string_bytes k ≡ key → is_under first key ≡ false → new ≡ insert_entry string_eq es k attr
      → all_entries first new ≡ with_attribute (all_entries first es) key attr
  unfolding all_entries
  with_attribute-others None es new k key attr name h put = ap named_entries put ∙ (named_entries-insert_entry k attr es ∙ ap (λ key. with_attribute (named_entries es) key attr) name)
  with_attribute-others (Some e) es new k key attr name h put = put_behind e es new k key attr name h put

  -- an attribute is put where there is none
  pub with_attribute-only : (first new : Option (Entry D K A T)) (es : List (String Y × A)) (key : List ℕ) (attr : A) → length (all_entries first es) ≡ 0 → option_map named new ≡ Some (key, attr)
      → all_entries new es ≡ with_attribute (all_entries first es) key attr
  unfolding all_entries
  with_attribute-only None new [] key attr none one = ap (λ o. with_first o []) one
  with_attribute-only None new (e ∷ es) key attr none one = let no : suc (length (named_entries es)) ≡ 0 = none in absurd (omega (arith, no))
  with_attribute-only (Some e) new es key attr none one = let no : suc (length (named_entries es)) ≡ 0 = none in absurd (omega (arith, no))

-- nothing stands under any name
pub attribute_at-none : {X : Type 0} (es : List (List ℕ × X)) (key : List ℕ) → length es ≡ 0 → None ≡ attribute_at es key
attribute_at-none [] key none = refl
attribute_at-none (e ∷ es) key none = let no : suc (length es) ≡ 0 = none in absurd (omega (arith, no))

-- an attribute is put among the others, if there is memory
module _ {D K A T Y V E : Type 0} (r : Result V E) (first : Option (Entry D K A T)) (es new : List (String Y × A)) (old : List (List ℕ × A)) (k : String Y) (key : List ℕ) (attr : A) (name : string_bytes k ≡ key) (other : is_under first key ≡ false) (seen : all_entries first es ≡ old) (put : OnOk r (new ≡ insert_entry string_eq es k attr)) where
  pub put-entries : OnOk r (all_entries first new ≡ with_attribute old key attr)
  put-entries = on_ok_weaker r (λ e. with_attribute-others first es new k key attr name other e ∙ ap (λ es. with_attribute es key attr) seen) put

  pub put-attribute : OnOk r (SetsAttribute old (all_entries first new) key attr)
  put-attribute = on_ok_weaker r (λ e. subst (λ es. SetsAttribute old es key attr) (sym e) (attribute_at-with_attribute old key attr)) put-entries
