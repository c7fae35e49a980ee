-- The definitions of an entity, found by their numbers, as some come and go.
use Rattle.std.proofs.Common.{◌≡◌, ◌≢◌, ⊎_elim, ℕ, zero, suc, ◌<◌, ◌+◌, ◌≤◌, true, false, cond, ◌||◌, eqb, List, [], ◌∷◌, length, map, Some, None, refl, sym, ap, ◌∙◌, subst, arith, slice_get, insert, remove}
use Rattle.std.proofs.lemmas.Bool.{eq-eqb, ne_eqb, cases_eq}
use Rattle.ir_entities.specs.Links.{has, AreDistinctNumbers}
use Rattle.ir_program.specs.Program.{numbered}
use Rattle.ir_program.specs.Sound.{AreNumbered}
use Rattle.ir_program.specs.declared.records.Definition.{Definition}

-- the numbers of definitions
abbrev pub numbers_of : List Definition → List ℕ
numbers_of ds = map (λ (d : Definition). d.number) ds

pub numbered-other : (n : ℕ) (e : Definition) (ds : List Definition) → n ≢ e.number → numbered n (e ∷ ds) ≡ numbered n ds
numbered-other n e ds ne = let f : eqb e.number n ≡ false = ne_eqb e.number n (λ q. ne (sym q)) in rw f refl

pub numbered-first : (n : ℕ) (e : Definition) (ds : List Definition) → e.number ≡ n → numbered n (e ∷ ds) ≡ Some e
numbered-first n e ds q = let t : eqb e.number n ≡ true = eq-eqb e.number n q in rw t refl

-- a number that no definition has leads nowhere
pub numbered-none : (n : ℕ) (ds : List Definition) → has n (numbers_of ds) ≡ false → numbered n ds ≡ None
numbered-none n [] h = refl
numbered-none n (e ∷ ds) h = ⊎_elim
    (λ q. let t : eqb n e.number ≡ true = eq-eqb n e.number q in let u : has n (numbers_of (e ∷ ds)) ≡ true = rw t refl in cc)
    (λ ne. let f : eqb n e.number ≡ false = ne_eqb n e.number ne in
    let u : has n (numbers_of ds) ≡ false = subst (λ b. (b || has n (numbers_of ds)) ≡ false) f h in
    numbered-other n e ds ne ∙ numbered-none n ds u)
    (cases_eq n e.number)

pub insert-other : (n : ℕ) (ds : List Definition) (k : ℕ) (d : Definition) → k ≤ length ds → n ≢ d.number → numbered n (insert ds k d) ≡ numbered n ds
insert-other n [] zero d h ne = numbered-other n d [] ne
insert-other n [] (suc k) d h ne = absurd (omega arith)
insert-other n (e ∷ ds) zero d h ne = numbered-other n d (e ∷ ds) ne
insert-other n (e ∷ ds) (suc k) d h ne = ap (cond (eqb e.number n) (Some e)) (insert-other n ds k d (omega arith) ne)

pub insert-here : (ds : List Definition) (k : ℕ) (d : Definition) → k ≤ length ds → has d.number (numbers_of ds) ≡ false → numbered d.number (insert ds k d) ≡ Some d
insert-here [] zero d h f = numbered-first d.number d [] refl
insert-here [] (suc k) d h f = absurd (omega arith)
insert-here (e ∷ ds) zero d h f = numbered-first d.number d (e ∷ ds) refl
insert-here (e ∷ ds) (suc k) d h f = ⊎_elim
    (λ q. let t : eqb d.number e.number ≡ true = eq-eqb d.number e.number q in let u : has d.number (numbers_of (e ∷ ds)) ≡ true = rw t refl in cc)
    (λ ne. let g : eqb d.number e.number ≡ false = ne_eqb d.number e.number ne in
    let u : has d.number (numbers_of ds) ≡ false = subst (λ b. (b || has d.number (numbers_of ds)) ≡ false) g f in
    numbered-other d.number e (insert ds k d) ne ∙ insert-here ds k d (omega arith) u)
    (cases_eq d.number e.number)

has-insert : (n : ℕ) (ds : List Definition) (k : ℕ) (d : Definition) → k ≤ length ds → n ≢ d.number → has n (numbers_of (insert ds k d)) ≡ has n (numbers_of ds)
has-insert n [] zero d h ne = let f : eqb n d.number ≡ false = ne_eqb n d.number ne in rw f refl
has-insert n [] (suc k) d h ne = absurd (omega arith)
has-insert n (e ∷ ds) zero d h ne = let f : eqb n d.number ≡ false = ne_eqb n d.number ne in rw f refl
has-insert n (e ∷ ds) (suc k) d h ne = ap (λ b. eqb n e.number || b) (has-insert n ds k d (omega arith) ne)

distinct-insert : (ds : List Definition) (k : ℕ) (d : Definition) → k ≤ length ds → has d.number (numbers_of ds) ≡ false → AreDistinctNumbers (numbers_of ds) → AreDistinctNumbers (numbers_of (insert ds k d))
distinct-insert [] zero d h f a = (refl, a)
distinct-insert [] (suc k) d h f a = absurd (omega arith)
distinct-insert (e ∷ ds) zero d h f a = (f, a)
distinct-insert (e ∷ ds) (suc k) d h f a = ⊎_elim
    (λ q. let t : eqb d.number e.number ≡ true = eq-eqb d.number e.number q in let u : has d.number (numbers_of (e ∷ ds)) ≡ true = rw t refl in cc)
    (λ ne. let g : eqb d.number e.number ≡ false = ne_eqb d.number e.number ne in
    let u : has d.number (numbers_of ds) ≡ false = subst (λ b. (b || has d.number (numbers_of ds)) ≡ false) g f in
    (has-insert e.number ds k d (omega arith) (λ q. ne (sym q)) ∙ a.0, distinct-insert ds k d (omega arith) u a.1))
    (cases_eq d.number e.number)

-- each of a list is below n
abbrev AreBelow : ℕ → List Definition → Type 0
AreBelow n ds = (i : ℕ) (d : Definition) → slice_get ds i ≡ Some d → d.number < n

not-below : (n : ℕ) (ds : List Definition) → AreBelow n ds → has n (numbers_of ds) ≡ false
not-below n [] b = refl
not-below n (e ∷ ds) b =
    let l : e.number < n = b 0 e refl in
    let f : eqb n e.number ≡ false = ne_eqb n e.number (omega arith) in
    rw f (not-below n ds (λ i d h. b (suc i) d h))

below-insert : (n : ℕ) (ds : List Definition) (k : ℕ) (d : Definition) → k ≤ length ds → AreBelow n ds → d.number < n → AreBelow n (insert ds k d)
below-insert n [] zero d h b l zero e q = let s : d ≡ e = cc in subst (λ (x : Definition). x.number < n) s l
below-insert n [] zero d h b l (suc i) e q = b i e q
below-insert n [] (suc k) d h b l i e q = absurd (omega arith)
below-insert n (x ∷ ds) zero d h b l zero e q = let s : d ≡ e = cc in subst (λ (x : Definition). x.number < n) s l
below-insert n (x ∷ ds) zero d h b l (suc i) e q = b i e q
below-insert n (x ∷ ds) (suc k) d h b l zero e q = b zero e q
below-insert n (x ∷ ds) (suc k) d h b l (suc i) e q = below-insert n ds k d (omega arith) (λ j f r. b (suc j) f r) l i e q

-- a counter that has gone on is still above all numbers
pub numbered-later : (n m : ℕ) (ds : List Definition) → n ≤ m → AreNumbered n ds → AreNumbered m ds
numbered-later n m ds le a = record { distinct = a.distinct; below = λ i d h. let l : d.number < n = a.below i d h in omega arith }

-- the definition that takes the counter's number joins the others
pub numbered-joined : (n : ℕ) (ds : List Definition) (k : ℕ) (d : Definition) → k ≤ length ds → d.number ≡ n → AreNumbered n ds → AreNumbered (n + 1) (insert ds k d)
numbered-joined n ds k d h q a = record {
  distinct = distinct-insert ds k d h (rw q (not-below n ds a.below)) a.distinct;
  below = below-insert (n + 1) ds k d h (λ i e r. let l : e.number < n = a.below i e r in omega arith) (omega (arith, q));
}

-- no definition has the counter's number
pub counter-free : (n : ℕ) (ds : List Definition) → AreNumbered n ds → has n (numbers_of ds) ≡ false
counter-free n ds a = not-below n ds a.below

pub found-number : (n : ℕ) (ds : List Definition) (d : Definition) → numbered n ds ≡ Some d → d.number ≡ n
found-number n [] d h = cc
found-number n (e ∷ ds) d h = ⊎_elim
    (λ q. let s : Some e ≡ Some d = sym (numbered-first n e ds q) ∙ h in let t : e ≡ d = cc in subst (λ (x : Definition). x.number ≡ n) t q)
    (λ ne. found-number n ds d (sym (numbered-other n e ds (λ q. ne (sym q))) ∙ h))
    (cases_eq e.number n)

-- what stands among definitions with different numbers is found by its number
pub stands-found : (ds : List Definition) (k : ℕ) (d : Definition) → AreDistinctNumbers (numbers_of ds) → slice_get ds k ≡ Some d → numbered d.number ds ≡ Some d
stands-found [] k d a h = cc
stands-found (e ∷ ds) zero d a h = let t : e ≡ d = cc in numbered-first d.number e ds (ap (λ (x : Definition). x.number) t) ∙ ap Some t
stands-found (e ∷ ds) (suc k) d a h = numbered-other d.number e ds (λ q. let f : has d.number (numbers_of ds) ≡ false = subst (λ n. has n (numbers_of ds) ≡ false) (sym q) a.0 in let s : numbered d.number ds ≡ Some d = stands-found ds k d a.1 h in let t : numbered d.number ds ≡ None = numbered-none d.number ds f in cc) ∙ stands-found ds k d a.1 h

-- the definition at index k goes
pub remove-other : (n : ℕ) (ds : List Definition) (k : ℕ) (d : Definition) → slice_get ds k ≡ Some d → n ≢ d.number → numbered n (remove ds k) ≡ numbered n ds
remove-other n [] k d h ne = cc
remove-other n (e ∷ ds) zero d h ne = let t : e ≡ d = cc in sym (numbered-other n e ds (λ q. ne (q ∙ ap (λ (x : Definition). x.number) t)))
remove-other n (e ∷ ds) (suc k) d h ne = ap (cond (eqb e.number n) (Some e)) (remove-other n ds k d h ne)

has-remove : (n : ℕ) (ds : List Definition) (k : ℕ) → has n (numbers_of ds) ≡ false → has n (numbers_of (remove ds k)) ≡ false
has-remove n [] zero h = refl
has-remove n [] (suc k) h = refl
has-remove n (e ∷ ds) zero h = ⊎_elim (λ q. let t : eqb n e.number ≡ true = eq-eqb n e.number q in let u : has n (numbers_of (e ∷ ds)) ≡ true = rw t refl in cc)
    (λ ne. let f : eqb n e.number ≡ false = ne_eqb n e.number ne in subst (λ b. (b || has n (numbers_of ds)) ≡ false) f h)
    (cases_eq n e.number)
has-remove n (e ∷ ds) (suc k) h = ⊎_elim (λ q. let t : eqb n e.number ≡ true = eq-eqb n e.number q in let u : has n (numbers_of (e ∷ ds)) ≡ true = rw t refl in cc)
    (λ ne. let f : eqb n e.number ≡ false = ne_eqb n e.number ne in rw f (has-remove n ds k (subst (λ b. (b || has n (numbers_of ds)) ≡ false) f h)))
    (cases_eq n e.number)

pub remove-here : (ds : List Definition) (k : ℕ) (d : Definition) → slice_get ds k ≡ Some d → AreDistinctNumbers (numbers_of ds) → has d.number (numbers_of (remove ds k)) ≡ false
remove-here [] k d h a = cc
remove-here (e ∷ ds) zero d h a = let t : e ≡ d = cc in subst (λ (x : Definition). has x.number (numbers_of ds) ≡ false) t a.0
remove-here (e ∷ ds) (suc k) d h a =
    let s : numbered d.number ds ≡ Some d = stands-found ds k d a.1 h in
    let ne : d.number ≢ e.number = λ q. let t : numbered d.number ds ≡ None = numbered-none d.number ds (subst (λ n. has n (numbers_of ds) ≡ false) (sym q) a.0) in cc in
    let f : eqb d.number e.number ≡ false = ne_eqb d.number e.number ne in
    rw f (remove-here ds k d h a.1)

distinct-remove : (ds : List Definition) (k : ℕ) → AreDistinctNumbers (numbers_of ds) → AreDistinctNumbers (numbers_of (remove ds k))
distinct-remove [] zero a = a
distinct-remove [] (suc k) a = a
distinct-remove (e ∷ ds) zero a = a.1
distinct-remove (e ∷ ds) (suc k) a = (has-remove e.number ds k a.0, distinct-remove ds k a.1)

below-remove : (n : ℕ) (ds : List Definition) (k : ℕ) → AreBelow n ds → AreBelow n (remove ds k)
below-remove n [] zero b i d h = b i d h
below-remove n [] (suc k) b i d h = b i d h
below-remove n (e ∷ ds) zero b i d h = b (suc i) d h
below-remove n (e ∷ ds) (suc k) b zero d h = b zero d h
below-remove n (e ∷ ds) (suc k) b (suc i) d h = below-remove n ds k (λ j f r. b (suc j) f r) i d h

pub numbered-removed : (n : ℕ) (ds : List Definition) (k : ℕ) → AreNumbered n ds → AreNumbered n (remove ds k)
numbered-removed n ds k a = record { distinct = distinct-remove ds k a.distinct; below = below-remove n ds k a.below }
