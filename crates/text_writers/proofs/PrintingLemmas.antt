-- Lemmas on what is put behind what was written.
use Rattle.std.proofs.Common.{◌≡◌, ◌∙◌, refl, sym, ap, subst, append-nil, append_assoc, ℕ, Bool, true, false, List, [], ◌∷◌, ◌++◌, Result, Ok, Err, MutBor}
use Rattle.std.proofs.lemmas.Grind.{flat_map-append}
use Rattle.std.specs.List.{flat_map, AllZip}
use Rattle.std.specs.Result.{OnOk}
use Rattle.std.specs.declared.alloc.AllocError.{AllocError}
use Rattle.text_writers.specs.declared.state.State.{State}
use Rattle.text_writers.specs.declared.separators.ListSeparator.{ListSeparator}
use Rattle.text_writers.specs.Appending.{Appends}
use Rattle.text_writers.specs.Printers.{PrinterCall, AppendsOnly, Prints}
use Rattle.text_writers.specs.Separators.{separator_text, separator_before, separated, PrintsSeparated}

-- a call that succeeded prints what it put there
pub prints_by : {W : Type 0} (written : W → List ℕ) (call : PrinterCall W) → AppendsOnly written call →
    (shown : MutBor State) (before : MutBor W) (result : Result (Unit {0}) AllocError) (left : MutBor State) (after : MutBor W) →
    call shown before result left after → OnOk result (Appends (Prints written call shown.now) (written before.now) (written after.now))
prints_by written call only shown before (Ok u) left after h =
    let put = (only shown before (Ok u) left after h).1 refl in
    (put.0, record { shown = shown; shows = refl; before = before; left = left; after = after; called = h; appended = put.1 }, put.1)
prints_by written call only shown before (Err e) left after h = tt

pub on_ok : {T E P Q : Type 0} (r : Result T E) → (P → Q) → OnOk r P → OnOk r Q
on_ok (Ok x) f p = f p
on_ok (Err e) f p = tt

-- whether a list has no member
abbrev pub is_empty : {T : Type 0} → List T → Bool
is_empty [] = true
is_empty (x ∷ xs) = false

-- Members were printed behind what was written, with a separator between them; and whether none was yet.
pub record HasPrinted {T : Type 0} (prints : T → List ℕ → Type 0) (separator : ListSeparator) (members : List T) (is_first : Bool) (old now : List ℕ) : Type 0 where
  pub texts : List (List ℕ)
  pub each : AllZip prints members texts
  pub all : now ≡ old ++ separated (separator_text separator) texts
  pub first : is_first ≡ is_empty members

all_zip_push : {A B : Type 0} (R : A → B → Type 0) (xs : List A) (ys : List B) (x : A) (y : B) → AllZip R xs ys → R x y → AllZip R (xs ++ x ∷ []) (ys ++ y ∷ [])
all_zip_push R [] [] x y h r = (r, tt)
all_zip_push R [] (b ∷ ys) x y h r = absurd h
all_zip_push R (a ∷ xs) [] x y h r = absurd h
all_zip_push R (a ∷ xs) (b ∷ ys) x y h r = (h.0, all_zip_push R xs ys x y h.1 r)

true-is_false : true ≡ false → ⊥
true-is_false e = cc

pub printed_none : {T : Type 0} (prints : T → List ℕ → Type 0) (separator : ListSeparator) (old : List ℕ) → HasPrinted prints separator [] true old old
printed_none prints separator old = record { texts = []; each = tt; all = sym (append-nil old); first = refl }

printed_first : {T : Type 0} (prints : T → List ℕ → Type 0) (separator : ListSeparator) (members : List T) (x : T) (old now new : List ℕ) →
    HasPrinted prints separator members true old now → Appends (prints x) now new → HasPrinted prints separator (members ++ x ∷ []) false old new
printed_first prints separator [] x old now new h k =
    elim h.texts as (λ ts. AllZip prints [] ts → now ≡ old ++ separated (separator_text separator) ts → HasPrinted prints separator (x ∷ []) false old new) [
      | [] ↦ λ each all. record {
        texts = k.0 ∷ [];
        each = (k.1, tt);
        all = k.2 ∙ ap (λ bytes. bytes ++ k.0) (all ∙ append-nil old) ∙ ap (λ bytes. old ++ bytes) (sym (append-nil k.0));
        first = refl;
      }
      | t ∷ ts ↦ λ each all. absurd each
    ] h.each h.all
printed_first prints separator (y ∷ ys) x old now new h k = absurd (true-is_false h.first)

printed_next : {T : Type 0} (prints : T → List ℕ → Type 0) (separator : ListSeparator) (members : List T) (x : T) (old now behind new : List ℕ) →
    HasPrinted prints separator members false old now → behind ≡ now ++ separator_text separator → Appends (prints x) behind new →
    HasPrinted prints separator (members ++ x ∷ []) false old new
printed_next prints separator [] x old now behind new h e k = absurd (true-is_false (sym h.first))
printed_next prints separator (y ∷ ys) x old now behind new h e k =
    let s = separator_text separator in
    elim h.texts as (λ ts. AllZip prints (y ∷ ys) ts → now ≡ old ++ separated s ts → HasPrinted prints separator (y ∷ (ys ++ x ∷ [])) false old new) [
      | [] ↦ λ each all. absurd each
      | t ∷ ts ↦ λ each all.
          let f : List ℕ → List ℕ = λ text. s ++ text in
          let last : flat_map f ts ++ (s ++ k.0) ≡ flat_map f (ts ++ k.0 ∷ []) =
          ap (λ bytes. flat_map f ts ++ bytes) (sym (append-nil (s ++ k.0))) ∙ sym (flat_map-append f ts (k.0 ∷ [])) in
          record {
            texts = t ∷ (ts ++ k.0 ∷ []);
            each = (each.0, all_zip_push prints ys ts x k.0 each.1 k.1);
            all = k.2
                ∙ ap (λ bytes. bytes ++ k.0) (e ∙ ap (λ bytes. bytes ++ s) all)
                ∙ append_assoc (old ++ (t ++ flat_map f ts)) s k.0
                ∙ append_assoc old (t ++ flat_map f ts) (s ++ k.0)
                ∙ ap (λ bytes. old ++ bytes) (append_assoc t (flat_map f ts) (s ++ k.0) ∙ ap (λ bytes. t ++ bytes) last);
            first = refl;
          }
    ] h.each h.all

-- one more member, with the separator before it where it isn't the first, in a state that is still the same
pub printed_more : {T : Type 0} (prints : T → State → List ℕ → Type 0) (first current : State) (separator : ListSeparator) (members : List T) (x : T) (is_first : Bool) (old now behind new : List ℕ) →
    HasPrinted (λ x. prints x first) separator members is_first old now → behind ≡ now ++ separator_before is_first separator → current ≡ first →
    Appends (prints x current) behind new → HasPrinted (λ x. prints x first) separator (members ++ x ∷ []) false old new
printed_more prints first current separator members x true old now behind new h e same k =
    let P : State → List ℕ → Type 0 = λ s bytes. Appends (prints x s) bytes new in
    let Q : List ℕ → Type 0 = P first in
    let R : State → Type 0 = λ s. P s behind in
    printed_first (λ x. prints x first) separator members x old now new h (subst Q (e ∙ append-nil now) (subst R same k))
printed_more prints first current separator members x false old now behind new h e same k =
    let R : State → Type 0 = λ s. Appends (prints x s) behind new in
    printed_next (λ x. prints x first) separator members x old now behind new h e (subst R same k)

pub printed_all : {T : Type 0} (prints : T → List ℕ → Type 0) (separator : ListSeparator) (members : List T) (is_first : Bool) (old new : List ℕ) →
    HasPrinted prints separator members is_first old new → Appends (PrintsSeparated prints separator members) old new
printed_all prints separator members is_first old new h = (separated (separator_text separator) h.texts, (h.texts, h.each, refl), h.all)
