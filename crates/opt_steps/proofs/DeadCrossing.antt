-- What is around the definition of a value and not around its user.
use Rattle.std.proofs.Common.{◌≡◌, ◌⊎◌, inl, inr, ⊎_elim, ℕ, zero, suc, ◌+◌, ◌<◌, ◌≤◌, List, [], ◌∷◌, ◌++◌, Option, None, Some, Bool, true, false, nat_eq, length, refl, sym, ap, ◌∙◌, subst, arith, eq-eqb}
use Rattle.std.specs.Prelude.{Contains, slice_get, ◌↔◌}
use Rattle.std.specs.Option.{option_eq}
use Rattle.std.proofs.lemmas.List.Elements.{Contains-push, Contains-append_left, Contains-push_cases}
use Rattle.std.proofs.lemmas.Option.{same_Some, none-some}
use Rattle.digraph.specs.Counts.{one, count_of}
use Rattle.digraph.proofs.Counting.{count-append, contained, same_numbers}
use Rattle.opt_rows.specs.DeadCandidates.{Candidate, around_of}
use Rattle.opt_rows.specs.declared.dead_problem.DeadProblem.{DeadProblem}
use Rattle.opt_rows.specs.Dead.{IsInOperation, itself, further, IsDeadProblem}
use Rattle.opt_steps.specs.DeadPlaces.{around_operation, IsAtOrAround, IsBetween, IsOperationNumber, GoesOut, AreNumbersAbove, Crosses}

pub some_or_none : (n : ℕ) → (1 ≤ n) ⊎ (n ≡ 0)
some_or_none zero = inr refl
some_or_none (suc n) = inl (omega arith)

-- one more than the number, or 0
abbrev pub room : Option ℕ → ℕ
room None = 0
room (Some j) = j + 1

pub is_some_of : (o : Option ℕ) (at : ℕ) → option_eq nat_eq o (Some at) ≡ true → o ≡ Some at
is_some_of None at e = absurd (cc e)
is_some_of (Some j) at e = ap Some (same_numbers j at e)

pub some_is : (o : Option ℕ) (at : ℕ) → o ≡ Some at → option_eq nat_eq o (Some at) ≡ true
some_is None at e = absurd (none-some at e)
some_is (Some j) at e = eq-eqb j at (same_Some j at e)

module _ (p : DeadProblem) where
  -- the operation that is directly around another stands in the table
  pub around_there : (i j : ℕ) → around_operation p i ≡ Some j → (c : Candidate) × (slice_get p.operations i ≡ Some c) × (c.around ≡ Some j)
  around_there i j e = go (slice_get p.operations i) refl e
    where
      go : (o : Option Candidate) → slice_get p.operations i ≡ o → around_of o ≡ Some j → (c : Candidate) × (slice_get p.operations i ≡ Some c) × (c.around ≡ Some j)
      go None q e = absurd (none-some j e)
      go (Some c) q e = (c, q, e)

  pub in_more : (a i j : ℕ) → around_operation p i ≡ Some j → IsInOperation p a j → IsInOperation p a i
  in_more a i j e r = let c = around_there i j e in further i j c.0 c.1 c.2 r

  -- an operation is around itself, and what is around the one directly around it
  pub around_cases : (s x : ℕ) → IsInOperation p x s → (x ≡ s) ⊎ IsAtOrAround p (around_operation p s) x
  around_cases s x itself = inl refl
  around_cases s x (further _ j c e q r) = inr (j, ap around_of e ∙ q, r)

  pub around_split : (s x : ℕ) → IsAtOrAround p (Some s) x → (x ≡ s) ⊎ IsAtOrAround p (around_operation p s) x
  around_split s x (j, e, r) = around_cases s x (subst (IsInOperation p x) (sym (same_Some s j e)) r)

  pub around_more : (s x : ℕ) → IsAtOrAround p (around_operation p s) x → IsAtOrAround p (Some s) x
  around_more s x (j, e, r) = (s, refl, in_more x s j e r)

  -- so far outwards
  pub record IsGoingOut (from : Option ℕ) (limit : ℕ) (now : Option ℕ) : Type 0 where
    pub number : IsOperationNumber p now
    pub around : (a : ℕ) → a ≤ limit → IsAtOrAround p from a ↔ IsAtOrAround p now a

  -- what the row has and what is still to come is what is wanted
  pub record IsCrossing (inner outer : Option ℕ) (old : List ℕ) (definer user : Option ℕ) (row : List ℕ) : Type 0 where
    pub definer_number : IsOperationNumber p definer
    pub user_number : IsOperationNumber p user
    pub into : (x : ℕ) → Contains row x ⊎ IsBetween p definer user x → Contains old x ⊎ IsBetween p inner outer x
    pub back : (x : ℕ) → Contains old x ⊎ IsBetween p inner outer x → Contains row x ⊎ IsBetween p definer user x
    pub behind : AreNumbersAbove definer row

  module _ (ok : IsDeadProblem p) where
    pub in_below : (a i : ℕ) → IsInOperation p a i → a ≤ i
    in_below a i itself = omega arith
    in_below a i (further _ j c e q r) = let l = ok.around i j c e q in let h = in_below a j r in omega (arith, l, h)

    pub around_below : (i j : ℕ) → around_operation p i ≡ Some j → j < i
    around_below i j e = let c = around_there i j e in ok.around i j c.0 c.1 c.2

    pub room_falls : (now next : Option ℕ) (at : ℕ) → now ≡ Some at → next ≡ around_operation p at → room next < room now
    room_falls now next at e q = subst (λ o. room next < room o) (sym e) (go next q)
      where
        go : (o : Option ℕ) → o ≡ around_operation p at → room o < at + 1
        go None q = omega arith
        go (Some j) q = let l = around_below at j (sym q) in omega (arith, l)

    pub around_number : (i : ℕ) → i < length p.operations → IsOperationNumber p (around_operation p i)
    around_number i h j e = let l = around_below i j e in omega (arith, h, l)

    pub going_begins : (from : Option ℕ) (limit : ℕ) → IsOperationNumber p from → IsGoingOut from limit from
    going_begins from limit n = record { number = n; around = λ a h. ((λ r. r), (λ r. r)) }

    pub going_on : (from now next : Option ℕ) (limit at : ℕ) → now ≡ Some at → limit < at → next ≡ around_operation p at → IsGoingOut from limit now → IsGoingOut from limit next
    going_on from now next limit at e l q s = subst (IsGoingOut from limit) (sym q) (record {
      number = around_number at (s.number at e);
      around = λ a h. (
        (λ r. ⊎_elim (λ t. absurd (omega (arith, t, h, l))) (λ t. t) (around_split at a (subst (λ o. IsAtOrAround p o a) e ((s.around a h).0 r)))),
        (λ r. (s.around a h).1 (subst (λ o. IsAtOrAround p o a) (sym e) (around_more at a r))),
      );
    })

    pub going_ends : (from now : Option ℕ) (limit at : ℕ) → now ≡ Some at → at ≤ limit → IsGoingOut from limit now → GoesOut p from limit now
    going_ends from now limit at e l s = record { number = s.number; low = λ j q. let t = same_Some at j (sym e ∙ q) in omega (arith, t, l); around = s.around }

    pub going_nowhere : (from now : Option ℕ) (limit : ℕ) → now ≡ None → IsGoingOut from limit now → GoesOut p from limit None
    going_nowhere from now limit e s = record {
      number = λ j q. absurd (none-some j q);
      low = λ j q. absurd (none-some j q);
      around = subst (λ o. (a : ℕ) → a ≤ limit → IsAtOrAround p from a ↔ IsAtOrAround p o a) e s.around;
    }

    pub crossing_begins : (inner outer : Option ℕ) (old : List ℕ) → IsOperationNumber p inner → IsOperationNumber p outer → AreNumbersAbove inner old → IsCrossing inner outer old inner outer old
    crossing_begins inner outer old i o b = record { definer_number = i; user_number = o; into = λ x h. h; back = λ x h. h; behind = b }

    -- what is around an operation is around the user where it is around what the user was narrowed to
    same_user : (user low : Option ℕ) (at x : ℕ) → GoesOut p user at low → IsAtOrAround p (Some at) x → IsAtOrAround p user x ↔ IsAtOrAround p low x
    same_user user low at x g (j, e, r) = g.around x (let l = in_below x j r in let q = same_Some at j e in omega (arith, l, q))

    not_around : (user low : Option ℕ) (at : ℕ) → GoesOut p user at low → (low ≡ Some at → ⊥) → IsAtOrAround p low at → ⊥
    not_around user low at g n (j, e, r) = let l = g.low j e in let h = in_below at j r in n (e ∙ ap Some (omega (arith, l, h)))

    pub crossing_goes_on : (inner outer definer user low next : Option ℕ) (old row new : List ℕ) (at : ℕ) → definer ≡ Some at → GoesOut p user at low → (low ≡ Some at → ⊥) → new ≡ row ++ at ∷ [] → next ≡ around_operation p at
        → IsCrossing inner outer old definer user row → IsCrossing inner outer old next low new
    crossing_goes_on inner outer definer user low next old row new at e g n w q s = subst (λ o. IsCrossing inner outer old o low new) (sym q) (subst (IsCrossing inner outer old (around_operation p at) low) (sym w) (record {
      definer_number = around_number at (s.definer_number at e);
      user_number = g.number;
      into = λ x h. s.into x (⊎_elim
          (λ c. ⊎_elim (λ c. inl c) (λ t. inr (subst (IsBetween p definer user) t here)) (Contains-push_cases row at x c))
          (λ r. inr (let a = around_more at x r.0 in (subst (λ o. IsAtOrAround p o x) (sym e) a, (λ u. r.1 ((same_user user low at x g a).0 u)))))
          h);
      back = λ x h. ⊎_elim
          (λ c. inl (Contains-append_left row (at ∷ []) x c))
          (λ r. let a = subst (λ o. IsAtOrAround p o x) e r.0 in ⊎_elim
          (λ t. inl (subst (Contains (row ++ at ∷ [])) (sym t) (Contains-push row at)))
          (λ t. inr (t, (λ u. r.1 ((same_user user low at x g a).1 u))))
          (around_split at x a))
          (s.back x h);
      behind = record {
        behind = λ x j c t. let l = around_below at j t in ⊎_elim (λ c. let h = s.behind.behind x at c e in omega (arith, h, l)) (λ t. omega (arith, t, l)) (Contains-push_cases row at x c);
        once = λ x. once x (nat_eq x at) refl;
      };
    }))
      where
        here : IsBetween p definer user at
        here = (
          subst (λ o. IsAtOrAround p o at) (sym e) (at, refl, itself),
          (λ u. not_around user low at g n ((same_user user low at at g (at, refl, itself)).0 u)),
        )

        once : (x : ℕ) (b : Bool) → nat_eq x at ≡ b → count_of x (row ++ at ∷ []) ≤ 1
        once x true t = let a = count-append x row (at ∷ []) in let z = ap one t in ⊎_elim
            (λ l. let c = s.behind.behind x at (contained x row l) e in absurd (let y = same_numbers x at t in omega (arith, c, y)))
            (λ l. omega (arith, a, z, l))
            (some_or_none (count_of x row))
        once x false t = let a = count-append x row (at ∷ []) in let z = ap one t in let y = s.behind.once x in omega (arith, a, z, y)

    pub crossing_ends : (inner outer definer user : Option ℕ) (old row : List ℕ) → ((x : ℕ) → IsBetween p definer user x → ⊥) → IsCrossing inner outer old definer user row → Crosses p inner outer old row
    crossing_ends inner outer definer user old row n s = record {
      exact = λ x. ((λ c. s.into x (inl c)), (λ h. ⊎_elim (λ c. c) (λ r. absurd (n x r)) (s.back x h)));
      once = s.behind.once;
    }

    pub none_rests : (definer user : Option ℕ) → definer ≡ None → (x : ℕ) → IsBetween p definer user x → ⊥
    none_rests definer user e x ((j, q, r), n) = none-some j (sym e ∙ q)

    pub met : (definer user low : Option ℕ) (at : ℕ) → definer ≡ Some at → GoesOut p user at low → low ≡ Some at → (x : ℕ) → IsBetween p definer user x → ⊥
    met definer user low at e g q x (a, n) = let b = subst (λ o. IsAtOrAround p o x) e a in n ((same_user user low at x g b).1 (subst (λ o. IsAtOrAround p o x) (sym q) b))
