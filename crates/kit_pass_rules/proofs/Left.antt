-- Lists without the members that go.
use Rattle.std.proofs.Common.{◌≡◌, ⊎_elim, inl, inr, ℕ, zero, suc, ◌+◌, Bool, true, false, List, [], ◌∷◌, map, take, length, Some, slice_get, refl, sym, ap, ◌∙◌, subst, arith}
use Rattle.opt_trees.specs.Occurrences.{Has}
use Rattle.std.specs.Prelude.{if◌then◌else◌}
use Rattle.opt_trees.proofs.Lists.{some_same, none_some}
use Rattle.opt_trees.proofs.NoneDead.{true_false}

-- the members that stay
abbrev pub left : {X : Type 0} → (X → Bool) → List X → List X
left p [] = []
left p (x ∷ xs) = if p x then left p xs else x ∷ left p xs

module _ {X : Type 0} (p : X → Bool) where
  -- the last member stays
  abbrev pub LastStays : List X → Type 0
  LastStays xs = (i : ℕ) (z : X) → slice_get xs i ≡ Some z → i + 1 ≡ length xs → p z ≡ false

  pub last_behind : (x : X) (xs : List X) → LastStays (x ∷ xs) → LastStays xs
  last_behind x xs h i z here e = h (suc i) z here (omega (arith, e))

  -- what stays of a first member and the others, by whether the first one goes
  abbrev pub with_first : X → Bool → List X → List X
  with_first x b ys = if b then left p ys else x ∷ left p ys

module _ {X Y : Type 0} (p : X → Bool) (f : X → Y) where
  none_left : (xs : List X) → 1 ≡ length xs + 1 → 1 ≡ length (map f (left p xs)) + 1
  none_left [] h = refl
  none_left (x ∷ xs) h = absurd (omega (arith, h))

  pub left_none : (xs : List X) → LastStays p xs → 1 ≡ length (map f (left p xs)) + 1 → 1 ≡ length xs + 1
  left_none [] l h = refl
  left_none (x ∷ xs) l h = step (p x) refl h (left_none xs (last_behind p x xs l))
    where
      step : (b : Bool) → p x ≡ b → 1 ≡ length (map f (if b then left p xs else x ∷ left p xs)) + 1 →
          (1 ≡ length (map f (left p xs)) + 1 → 1 ≡ length xs + 1) → 1 ≡ length (x ∷ xs) + 1
      step true q e ih = let none : 1 ≡ length xs + 1 = ih e in absurd (true_false (p x) q (l 0 x refl (omega (arith, none))))
      step false q e ih = absurd (omega (arith, e))

  -- the member that one of what is left has come from; it is the last where that is
  pub record Origin (xs : List X) (k : ℕ) (y : Y) : Type 0 where
    pub index : ℕ
    pub it : X
    pub here : slice_get xs index ≡ Some it
    pub stays : p it ≡ false
    pub is : f it ≡ y
    pub before : take k (map f (left p xs)) ≡ map f (left p (take index xs))
    pub last : index + 1 ≡ length xs → k + 1 ≡ length (map f (left p xs))
    pub end : LastStays p xs → k + 1 ≡ length (map f (left p xs)) → index + 1 ≡ length xs

  pub origin : (xs : List X) (k : ℕ) (y : Y) → slice_get (map f (left p xs)) k ≡ Some y → Origin xs k y
  origin [] k y e = absurd (none_some y e)
  origin (x ∷ xs) k y e = step (p x) refl k e (λ k e. origin xs k y e)
    where
      step : (b : Bool) → p x ≡ b → (k : ℕ) → slice_get (map f (with_first p x b xs)) k ≡ Some y →
          ((k : ℕ) → slice_get (map f (left p xs)) k ≡ Some y → Origin xs k y) → Origin (x ∷ xs) k y
      step true q k e ih = let o = ih k e in record {
        index = suc o.index;
        it = o.it;
        here = o.here;
        stays = o.stays;
        is = o.is;
        before = ap (λ b. take k (map f (with_first p x b xs))) q ∙ (o.before ∙ sym (ap (λ b. map f (with_first p x b (take o.index xs))) q));
        last = λ h. o.last (omega (arith, h)) ∙ sym (ap (λ b. length (map f (with_first p x b xs))) q);
        end = λ l h. let b : o.index + 1 ≡ length xs = o.end (last_behind p x xs l) (h ∙ ap (λ b. length (map f (with_first p x b xs))) q) in omega (arith, b);
      }
      step false q zero e ih = record {
        index = 0;
        it = x;
        here = refl;
        stays = q;
        is = some_same (f x) y e;
        before = refl;
        last = λ h. let n : 1 ≡ length (map f (left p xs)) + 1 = none_left xs (omega (arith, h)) in
            let m : 0 + 1 ≡ length (map f (with_first p x false xs)) = omega (arith, n) in m ∙ sym (ap (λ b. length (map f (with_first p x b xs))) q);
        end = λ l h. let m : 0 + 1 ≡ length (map f (with_first p x false xs)) = h ∙ ap (λ b. length (map f (with_first p x b xs))) q in
            let n : 1 ≡ length xs + 1 = left_none xs (last_behind p x xs l) (omega (arith, m)) in omega (arith, n);
      }
      step false q (suc k) e ih = let o = ih k e in record {
        index = suc o.index;
        it = o.it;
        here = o.here;
        stays = o.stays;
        is = o.is;
        before = ap (λ b. take (suc k) (map f (with_first p x b xs))) q
            ∙ (ap (λ l. f x ∷ l) o.before ∙ sym (ap (λ b. map f (with_first p x b (take o.index xs))) q));
        last = λ h. let n : k + 1 ≡ length (map f (left p xs)) = o.last (omega (arith, h)) in
            let m : suc k + 1 ≡ length (map f (with_first p x false xs)) = omega (arith, n) in m ∙ sym (ap (λ b. length (map f (with_first p x b xs))) q);
        end = λ l h. let m : suc k + 1 ≡ length (map f (with_first p x false xs)) = h ∙ ap (λ b. length (map f (with_first p x b xs))) q in
            let n : o.index + 1 ≡ length xs = o.end (last_behind p x xs l) (omega (arith, m)) in omega (arith, n);
      }

-- what stays is left
pub has_left_over : {X Y : Type 0} (p : X → Bool) (f : X → Y) (xs : List X) (x : X) → Has x xs → p x ≡ false → Has (f x) (map f (left p xs))
has_left_over p f [] x h q = absurd h
has_left_over p f (y ∷ xs) x h q = ⊎_elim
    (λ e. subst (λ b. Has (f x) (map f (with_first p y b xs))) (sym (ap p (sym e) ∙ q)) (inl (ap f e)))
    (λ r. step (p y) (has_left_over p f xs x r q)) h
  where
    step : (b : Bool) → Has (f x) (map f (left p xs)) → Has (f x) (map f (with_first p y b xs))
    step true i = i
    step false i = inr i
