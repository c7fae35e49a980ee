-- What is said of the index of a value among definitions.
use Rattle.std.proofs.Common.{◌≡◌, ◌≢◌, ◌⊎◌, ℕ, zero, suc, ◌+◌, ◌<◌, Bool, true, false, cond, List, [], ◌∷◌, length, Option, Some, None, refl, sym, ap, ◌∙◌, arith, ⊎_elim}
use Rattle.ir_program.specs.Program.{TypedValue, value_in}
use Rattle.ir_program.specs.Replacing.{same_value}
use Rattle.ir_program.specs.declared.handles.Value.{Value}
use Rattle.ir_program.specs.declared.handles.DefiningEntity.{DefiningEntity}
use Rattle.ir_program.specs.declared.handles.DefiningEntity.TheVariants.{Op as ByOp, Block as ByBlock}
use Rattle.ir_program.specs.contracts.handles.ValuePartialEq.TheImpl.{eq-value}
use Rattle.ir_program.proofs.used.Renaming.{value-test}
use Rattle.opt_decide.specs.Planned.{found_among}

abbrev value_of : DefiningEntity → ℕ → Value
value_of e m = record { definer = e; number = m }

tests_agree : (a b : DefiningEntity) (m n : ℕ) → eq-value.it (value_of a m) (value_of b n) ≡ same_value (value_of a m) (value_of b n)
tests_agree (ByOp p) (ByOp q) m n = refl
tests_agree (ByOp p) (ByBlock q) m n = refl
tests_agree (ByBlock p) (ByOp q) m n = refl
tests_agree (ByBlock p) (ByBlock q) m n = refl

-- values that compare equal are the same
pub equal_then : (v w : Value) (b : Bool) → b ≡ eq-value.it v w → b ≡ true → v ≡ w
equal_then v w b e holds = ⊎_elim
    (λ (same : v ≡ w). same)
    (λ (ne : v ≢ w). let f : true ≡ false = sym holds ∙ e ∙ tests_agree v.definer w.definer v.number w.number ∙ value-test.no v w ne in cc)
    (value-test.decide v w)

-- it is none of the first so many
abbrev pub NotAmong : List TypedValue → Value → ℕ → Type 0
NotAmong ts v n = (k : ℕ) → k < n → value_in ts k ≢ Some v

pub found_first : {A : Type 0} (ts : List TypedValue) (f : ℕ → Option A) (v : Value) (k : ℕ) → value_in ts k ≡ Some v → NotAmong ts v k → found_among ts f v ≡ f k
found_first [] f v k h none = cc
found_first (t ∷ ts) f v zero h none =
    let s : Some t.value ≡ Some v = h in
    let e : v ≡ t.value = cc in
    ap (λ b. cond b (f zero) (found_among ts (λ i. f (suc i)) v)) (value-test.yes v t.value e)
found_first (t ∷ ts) f v (suc k) h none =
    ap (λ b. cond b (f zero) (found_among ts (λ i. f (suc i)) v)) (value-test.no v t.value (λ e. none zero (omega arith) (ap Some (sym e))))
    ∙ found_first ts (λ i. f (suc i)) v k h (λ j less. none (suc j) (omega (arith, less)))

pub found_nowhere : {A : Type 0} (ts : List TypedValue) (f : ℕ → Option A) (v : Value) → NotAmong ts v (length ts) → found_among ts f v ≡ None
found_nowhere [] f v none = refl
found_nowhere (t ∷ ts) f v none =
    ap (λ b. cond b (f zero) (found_among ts (λ i. f (suc i)) v)) (value-test.no v t.value (λ e. none zero (omega arith) (ap Some (sym e))))
    ∙ found_nowhere ts (λ i. f (suc i)) v (λ j less. none (suc j) (omega (arith, less)))

same_branches : {A : Type 0} (b : Bool) (o : Option A) → o ≡ None → cond b None o ≡ None
same_branches true o e = refl
same_branches false o e = e

-- where nothing is said of any index
pub found_nothing : {A : Type 0} (ts : List TypedValue) (v : Value) → found_among {A = A} ts (λ i. None) v ≡ None
found_nothing [] v = refl
found_nothing {A = A} (t ∷ ts) v = same_branches {A = A} (same_value v t.value) (found_among {A = A} ts (λ i. None) v) (found_nothing {A = A} ts v)

module _ {A : Type 0} (f : ℕ → Option A) (v : Value) where
  one_found : (b : Bool) (n k : ℕ) (o : Option ℕ) (x : Option A) → (o ≡ Some k → x ≡ f k) → cond b (Some n) o ≡ Some k → cond b (f n) x ≡ f k
  one_found true n k o x later h = let e : n ≡ k = cc in ap f e
  one_found false n k o x later h = later h

  none_found : (b : Bool) (n : ℕ) (o : Option ℕ) (x : Option A) → (o ≡ None → x ≡ None) → cond b (Some n) o ≡ None → cond b (f n) x ≡ None
  none_found true n o x later h = cc
  none_found false n o x later h = later h

  -- what is said of the index that is found
  pub found_index : (ts : List TypedValue) (g : ℕ → ℕ) (k : ℕ) → found_among ts (λ i. Some (g i)) v ≡ Some k → found_among ts (λ i. f (g i)) v ≡ f k
  found_index [] g k h = cc
  found_index (t ∷ ts) g k h =
      one_found (same_value v t.value) (g zero) k (found_among ts (λ i. Some (g (suc i))) v) (found_among ts (λ i. f (g (suc i))) v) (found_index ts (λ i. g (suc i)) k) h

  pub not_found : (ts : List TypedValue) (g : ℕ → ℕ) → found_among ts (λ i. Some (g i)) v ≡ None → found_among ts (λ i. f (g i)) v ≡ None
  not_found [] g h = refl
  not_found (t ∷ ts) g h =
      none_found (same_value v t.value) (g zero) (found_among ts (λ i. Some (g (suc i))) v) (found_among ts (λ i. f (g (suc i))) v) (not_found ts (λ i. g (suc i))) h

earlier_or_here : (j i : ℕ) → j < i + 1 → (j < i) ⊎ (j ≡ i)
earlier_or_here j i less = grind arith

-- one further that isn't the value
pub not_further : (ts : List TypedValue) (v : Value) (i : ℕ) (x : Value) → NotAmong ts v i → value_in ts i ≡ Some x → x ≢ v → NotAmong ts v (i + 1)
not_further ts v i x none at ne j less e = ⊎_elim
    (λ before. none j before e)
    (λ here. let s : Some x ≡ Some v = sym at ∙ ap (value_in ts) (sym here) ∙ e in let q : x ≡ v = cc in ne q)
    (earlier_or_here j i less)
