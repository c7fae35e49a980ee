-- The uses of one have one count.
use Rattle.std.proofs.Common.{◌≡◌, ◌≢◌, ℕ, zero, suc, ◌≤◌, List, [], ◌∷◌, length, remove, Some, slice_get, refl, sym, ap, ◌∙◌, arith}
use Rattle.std.proofs.lemmas.Option.{same_Some}
use Rattle.ir_program.specs.Uses.{IsUseCountIn}
use Rattle.ir_program.specs.declared.handles.Ptr.{Ptr}
use Rattle.ir_program.specs.declared.handles.Operation.{Operation}

-- what stands elsewhere in a list stands in it still once an item was taken out
stays : {X : Type 0} (xs : List X) (j k : ℕ) (w : X) → slice_get xs k ≡ Some w → k ≢ j → (l : ℕ) × (slice_get (remove xs j) l ≡ Some w)
stays [] j k w e n = cc
stays (x ∷ xs) zero zero w e n = absurd (n refl)
stays (x ∷ xs) zero (suc k) w e n = (k, e)
stays (x ∷ xs) (suc j) zero w e n = (0, e)
stays (x ∷ xs) (suc j) (suc k) w e n = let r = stays xs j k w e (λ h. n (ap suc h)) in (suc r.0, r.1)

length-taken : {X : Type 0} (xs : List X) (j : ℕ) (w : X) → slice_get xs j ≡ Some w → length xs ≡ suc (length (remove xs j))
length-taken [] j w e = cc
length-taken (x ∷ xs) zero w e = refl
length-taken (x ∷ xs) (suc j) w e = ap suc (length-taken xs j w e)

-- a list in which nothing stands twice is no longer than one in which all of it stands
pub no_longer : {X : Type 0} (us vs : List X) → ((i j : ℕ) (u : X) → slice_get us i ≡ Some u → slice_get us j ≡ Some u → i ≡ j) → ((i : ℕ) (u : X) → slice_get us i ≡ Some u → (k : ℕ) × (slice_get vs k ≡ Some u)) → length us ≤ length vs
no_longer [] vs once among = omega arith
no_longer (u ∷ us) vs once among =
    let at = among 0 u refl in
    let rest : length us ≤ length (remove vs at.0) = no_longer us (remove vs at.0) (λ i j w e f. let s : suc i ≡ suc j = once (suc i) (suc j) w e f in omega arith)
    (λ i w e.
    let to = among (suc i) w e in
    stays vs at.0 to.0 w to.1 (λ h.
    let both : u ≡ w = same_Some u w (sym at.1 ∙ ap (slice_get vs) (sym h) ∙ to.1) in
    let twice : 0 ≡ suc i = once 0 (suc i) w (ap Some both) e in
    omega arith)) in
    let less : length vs ≡ suc (length (remove vs at.0)) = length-taken vs at.0 u at.1 in
    omega arith

-- so all lists of the uses have one length
pub one-count : {K : Type 0} (rows : Ptr Operation → List K) (x : K) (m n : ℕ) → IsUseCountIn rows x m → IsUseCountIn rows x n → m ≡ n
one-count {K} rows x m n (us, mine, is) (vs, theirs, too) =
    let to : length us ≤ length vs = no_longer us vs mine.once (λ i u e. let s = mine.sound i u e in theirs.all u s.0 s.1) in
    let from : length vs ≤ length us = no_longer vs us theirs.once (λ i u e. let s = theirs.sound i u e in mine.all u s.0 s.1) in
    omega (arith, is, too)
