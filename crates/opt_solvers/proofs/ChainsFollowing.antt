-- Following numbers to their ends.
use Rattle.std.proofs.Common.{◌≡◌, ◌⊎◌, inl, inr, ⊎_elim, ℕ, ◌+◌, ◌<◌, List, [], ◌∷◌, ◌++◌, take, Option, None, Some, Bool, true, false, cond, length, get_or, refl, sym, ap, ◌∙◌, subst, arith, below_more}
use Rattle.std.proofs.Math.ListN.{set}
use Rattle.std.specs.Prelude.{slice_get, Contains, count_by}
use Rattle.std.proofs.lemmas.List.{length-set, length-replicate, take_more}
use Rattle.std.proofs.lemmas.List.Sums.{sum_by-set}
use Rattle.std.proofs.lemmas.List.Elements.{Contains-push, Contains-push_cases, Contains-append_left}
use Rattle.std.proofs.lemmas.Option.{none-some, same_Some, slice_get_within, slice_get-get_or, get_or_from_slice_get}
use Rattle.opt_solvers.specs.declared.chains_followed.Mark.{Mark}
use Rattle.opt_solvers.specs.declared.chains_followed.Mark.TheVariants.{New, OnPath, Done}
use Rattle.opt_solvers.specs.declared.chains_followed.Following.{Following}
use Rattle.opt_rows.specs.Chains.{EndsUpAt, stops, goes_on, StepsAlong, goes, goes_by}
use Rattle.opt_solvers.specs.ChainsFollowed.{AreLinksInRange, HasMark, HasFinal, IsFollowing, AreUnfollowed, EntersPath, EndsPath, WritesBack, FinalIsKnown, AreFinals}
use Rattle.opt_rows.proofs.Lists.{get_replicate, get_set}

abbrev pub is_new : Mark → Bool
is_new New = true
is_new OnPath = false
is_new Done = false

module _ (next : List (Option ℕ)) where
  pub chase_more : (v u x : ℕ) → StepsAlong next v u → slice_get next u ≡ Some (Some x) → StepsAlong next v x
  chase_more v u x (goes _ _ e) q = goes_by v u x e (goes u x q)
  chase_more v u x (goes_by _ w _ e c) q = goes_by v w x e (chase_more w u x c q)

  pub chase_ends : (v u f : ℕ) → StepsAlong next v u → EndsUpAt next u f → EndsUpAt next v f
  chase_ends v u f (goes _ _ e) q = goes_on v u f e q
  chase_ends v u f (goes_by _ w _ e c) q = goes_on v w f e (chase_ends w u f c q)

  turned : (v u : ℕ) → slice_get next v ≡ Some (Some u) → StepsAlong next v v → StepsAlong next u u
  turned v u e (goes _ _ q) = let s = same_Some v u (same_Some (Some v) (Some u) (sym q ∙ e)) in subst (λ x. StepsAlong next x x) s (goes v v q)
  turned v u e (goes_by _ w _ q c) = let s = same_Some w u (same_Some (Some w) (Some u) (sym q ∙ e)) in chase_more u v u (subst (λ x. StepsAlong next x v) s c) e

  -- what has an end doesn't come back
  pub never_back : (v f : ℕ) → EndsUpAt next v f → StepsAlong next v v → ⊥
  never_back v f (stops _ n) (goes _ _ e) = n v e
  never_back v f (stops _ n) (goes_by _ w _ e c) = n w e
  never_back v f (goes_on _ u _ e r) c = never_back u f r (turned v u e c)

  -- the path so far, each number of which leads on as said
  pub record IsPath (old new : Following) (path : List ℕ) (Leads : ℕ → Type 0) : Type 0 where
    pub marks : length new.marks.items ≡ length next
    pub finals : new.finals.items ≡ old.finals.items
    pub keeps : (v : ℕ) → HasMark old v Done → HasMark new v Done
    pub done : (v : ℕ) → HasMark new v Done → HasMark old v Done
    pub on_path : (v : ℕ) → HasMark new v OnPath → Contains path v
    pub in_range : (v : ℕ) → Contains path v → v < length next
    pub leads : (v : ℕ) → Contains path v → Leads v

  pub record IsWalking (old new : Following) (path : List ℕ) (start at : ℕ) : Type 0 where
    pub walked : IsPath old new path (λ v. StepsAlong next v at)
    pub at_in : at < length next
    pub begun : (at ≡ start) ⊎ Contains path start

  pub walking_begins : (old : Following) (path : List ℕ) (start : ℕ) → IsFollowing next old → path ≡ [] → start < length next → IsWalking old old path start start
  walking_begins old path start s e h = record {
    walked = record {
      marks = s.marks;
      finals = refl;
      keeps = λ v m. m;
      done = λ v m. m;
      on_path = λ v m. absurd (s.no_path v m);
      in_range = λ v c. absurd (none v c);
      leads = λ v c. absurd (none v c);
    };
    at_in = h;
    begun = inl refl;
  }
    where
      none : (v : ℕ) → Contains path v → ⊥
      none v c = omega (arith, c.1, ap length e)

  path_more : (old a b : Following) (path longer : List ℕ) (at : ℕ) (Leads Next : ℕ → Type 0) → IsPath old a path Leads → at < length next → HasMark a at New → EntersPath a b path longer at
      → ((v : ℕ) → Leads v → Next v) → Next at → IsPath old b longer Next
  path_more old a b path longer at Leads Next s h m e f g = record {
    marks = ap length e.marks ∙ length-set a.marks.items at OnPath ∙ s.marks;
    finals = e.finals ∙ s.finals;
    keeps = λ v d. ⊎_elim
        (λ c. absurd (different (sym (ap (slice_get a.marks.items) c.0 ∙ m) ∙ s.keeps v d)))
        (λ c. ap (λ xs. slice_get xs v) e.marks ∙ c.1 ∙ s.keeps v d)
        (at_mark v);
    done = λ v d. ⊎_elim
        (λ c. absurd (other (sym c.1 ∙ written v d)))
        (λ c. s.done v (sym c.1 ∙ written v d))
        (at_mark v);
    on_path = λ v d. ⊎_elim
        (λ c. subst (λ xs. Contains xs v) (sym e.pushed) (subst (Contains (path ++ at ∷ [])) (sym c.0) (Contains-push path at)))
        (λ c. subst (λ xs. Contains xs v) (sym e.pushed) (Contains-append_left path (at ∷ []) v (s.on_path v (sym c.1 ∙ written v d))))
        (at_mark v);
    in_range = λ v c. ⊎_elim (λ o. s.in_range v o) (λ q. subst (λ k. k < length next) q h) (Contains-push_cases path at v (subst (λ xs. Contains xs v) e.pushed c));
    leads = λ v c. ⊎_elim (λ o. f v (s.leads v o)) (λ q. subst Next q g) (Contains-push_cases path at v (subst (λ xs. Contains xs v) e.pushed c));
  }
    where
      at_mark : (v : ℕ) → ((v ≡ at) × (slice_get (set a.marks.items at OnPath) v ≡ Some OnPath)) ⊎ ((v ≡ at → ⊥) × (slice_get (set a.marks.items at OnPath) v ≡ slice_get a.marks.items v))
      at_mark v = get_set a.marks.items at OnPath v (subst (λ n. at < n) (sym s.marks) h)

      written : (v : ℕ) → {x : Mark} → HasMark b v x → slice_get (set a.marks.items at OnPath) v ≡ Some x
      written v d = sym (ap (λ xs. slice_get xs v) e.marks) ∙ d

      different : Some New ≡ Some Done → ⊥
      different q = cc

      other : Some OnPath ≡ Some Done → ⊥
      other q = cc

  -- a step to what the number stands for
  pub walking_goes_on : (old a b : Following) (path longer : List ℕ) (start at to : ℕ) → AreLinksInRange next → IsWalking old a path start at → HasMark a at New → EntersPath a b path longer at → slice_get next at ≡ Some (Some to) → IsWalking old b longer start to
  walking_goes_on old a b path longer start at to r s m e q = record {
    walked = path_more old a b path longer at (λ v. StepsAlong next v at) (λ v. StepsAlong next v to) s.walked s.at_in m e (λ v c. chase_more v at to c q) (goes at to q);
    at_in = r at to q;
    begun = inr (subst (λ xs. Contains xs start) (sym e.pushed) (⊎_elim (λ o. subst (Contains (path ++ at ∷ [])) o (Contains-push path at)) (λ c. Contains-append_left path (at ∷ []) start c) s.begun));
  }

  ended : (old new : Following) (path : List ℕ) (start end : ℕ) → IsPath old new path (λ v. EndsUpAt next v end) → HasMark old start Done ⊎ Contains path start → EndsPath next old new path start end
  ended old new path start end s b = record {
    marks = s.marks;
    finals = s.finals;
    keeps = s.keeps;
    done = s.done;
    on_path = s.on_path;
    in_range = s.in_range;
    follows = s.leads;
    begun = b;
  }

  -- the number stands for no other
  pub walking_stops : (old a b : Following) (path longer : List ℕ) (start at : ℕ) → IsWalking old a path start at → HasMark a at New → EntersPath a b path longer at → slice_get next at ≡ Some None → EndsPath next old b longer start at
  walking_stops old a b path longer start at s m e q = ended old b longer start at
      (path_more old a b path longer at (λ v. StepsAlong next v at) (λ v. EndsUpAt next v at) s.walked s.at_in m e (λ v c. chase_ends v at at c here) here)
      (inr (subst (λ xs. Contains xs start) (sym e.pushed) (⊎_elim (λ o. subst (Contains (path ++ at ∷ [])) o (Contains-push path at)) (λ c. Contains-append_left path (at ∷ []) start c) s.begun)))
    where
      here : EndsUpAt next at at
      here = stops at (λ u e. absurd (none-some u (same_Some None (Some u) (sym q ∙ e))))

  -- the number has been followed
  pub walking_meets : (old a : Following) (path : List ℕ) (start at end : ℕ) → IsFollowing next old → IsWalking old a path start at → HasMark a at Done → HasFinal a at end → EndsPath next old a path start end
  walking_meets old a path start at end o s m f = ended old a path start end
      (record {
        marks = s.walked.marks;
        finals = s.walked.finals;
        keeps = s.walked.keeps;
        done = s.walked.done;
        on_path = s.walked.on_path;
        in_range = s.walked.in_range;
        leads = λ v c. chase_ends v at end (s.walked.leads v c) (o.done at end (s.walked.done at m) (sym (ap (λ xs. slice_get xs at) s.walked.finals) ∙ f));
      })
      (⊎_elim (λ q. inl (subst (λ v. HasMark old v Done) q (s.walked.done at m))) (λ c. inr c) s.begun)

  -- all on the path got their end
  pub resolved : (old a b : Following) (path : List ℕ) (start end : ℕ) → IsFollowing next old → EndsPath next old a path start end → WritesBack a b path end → FinalIsKnown next old b start
  resolved old a b path start end o s w = record {
    following = record {
      marks = w.marks ∙ s.marks;
      finals = w.finals ∙ ap length s.finals ∙ o.finals;
      done = λ v f m q. ⊎_elim
          (λ c. subst (EndsUpAt next v) (same_Some end f (sym (w.here v c).1 ∙ q)) (s.follows v c))
          (λ c. o.done v f (s.done v (sym c.0 ∙ m)) (sym (ap (λ xs. slice_get xs v) s.finals) ∙ sym c.1 ∙ q))
          (w.cases v);
      no_path = λ v m. ⊎_elim (λ c. both v c m) (λ c. both v (s.on_path v (sym c.0 ∙ m)) m) (w.cases v);
    };
    keeps = kept;
    there = ⊎_elim (λ m. kept start m) (λ c. (w.here start c).0) s.begun;
  }
    where
      both : (v : ℕ) → Contains path v → HasMark b v OnPath → ⊥
      both v c m = let q = sym (w.here v c).0 ∙ m in absurd (cc q)

      kept : (v : ℕ) → HasMark old v Done → HasMark b v Done
      kept v m = ⊎_elim (λ c. (w.here v c).0) (λ c. c.0 ∙ s.keeps v m) (w.cases v)

  -- the first k numbers have been followed
  pub record AreResolved (s : Following) (k : ℕ) : Type 0 where
    pub following : IsFollowing next s
    pub below : (v : ℕ) → v < k → HasMark s v Done

  pub followed_first : (s : Following) → AreUnfollowed (length next) s → AreResolved s 0
  followed_first s u = record {
    following = record {
      marks = ap length u.marks ∙ length-replicate (length next) New;
      finals = u.finals;
      done = λ v f m. let e : Done ≡ New = all_new v Done m in cc;
      no_path = λ v m. let e : OnPath ≡ New = all_new v OnPath m in cc;
    };
    below = λ v h. absurd (omega (arith, h));
  }
    where
      all_new : (v : ℕ) (m : Mark) → HasMark s v m → m ≡ New
      all_new v m e = get_replicate (length next) v New m (sym (ap (λ (ms : List Mark). slice_get ms v) u.marks) ∙ e)

  pub followed_more : (a b : Following) (k : ℕ) → AreResolved a k → FinalIsKnown next a b k → AreResolved b (k + 1)
  followed_more a b k s r = record {
    following = r.following;
    below = below_more (λ v. HasMark b v Done) k (λ v h. r.keeps v (s.below v h)) r.there;
  }

  pub followed_all : (s : Following) (k : ℕ) → k ≡ length next → AreResolved s k → AreFinals next s.finals.items
  followed_all s k e r = record {
    len = r.following.finals;
    follows = λ v f q. let h = slice_get_within s.finals.items v f q in let l = r.following.finals in r.following.done v f (r.below v (omega (arith, h, l, e))) q;
    never_back = λ v c. let h = starts v v c in let q = final v h in never_back v q.0 (r.following.done v q.0 (r.below v (omega (arith, h, e))) q.1) c;
  }
    where
      starts : (v x : ℕ) → StepsAlong next v x → v < length next
      starts v x (goes _ u q) = slice_get_within next v (Some u) q
      starts v x (goes_by _ u _ q c) = slice_get_within next v (Some u) q

      final : (v : ℕ) → v < length next → (f : ℕ) × HasFinal s v f
      final v h = (get_or s.finals.items v 0, slice_get-get_or s.finals.items v 0 (let l = r.following.finals in omega (arith, h, l)))

-- how many numbers are new falls when one is entered
pub fewer_new : (a b : Following) (path longer : List ℕ) (at : ℕ) → at < length a.marks.items → HasMark a at New → EntersPath a b path longer at → count_by is_new b.marks.items < count_by is_new a.marks.items
fewer_new a b path longer at h m e =
    let s = sum_by-set (λ x. cond (is_new x) 1 0) a.marks.items at OnPath New h in
    let q = get_or_from_slice_get a.marks.items at New New m in
    let f : Mark → ℕ = λ x. cond (is_new x) 1 0 in let r = ap f q in
    let t = ap (count_by is_new) e.marks in omega (arith, s, r, t)

-- one number on the path gets its end
pub write_next : (old a b : Following) (path : List ℕ) (i v end : ℕ) → i < length path → v ≡ get_or path i v → v < length a.marks.items → v < length a.finals.items
    → b.marks.items ≡ set a.marks.items v Done → b.finals.items ≡ set a.finals.items v end → WritesBack old a (take i path) end → WritesBack old b (take (i + 1) path) end
write_next old a b path i v end h e l k m f w = subst (λ xs. WritesBack old b xs end) (sym more) (record {
  marks = ap length m ∙ length-set a.marks.items v Done ∙ w.marks;
  finals = ap length f ∙ length-set a.finals.items v end ∙ w.finals;
  here = λ n c. ⊎_elim (λ o. later n o) (λ q. subst (λ x. HasMark b x Done × HasFinal b x end) q now) (Contains-push_cases (take i path) v n c);
  cases = λ n. ⊎_elim
      (λ c. inl (Contains-append_left (take i path) (v ∷ []) n c))
      (λ o. ⊎_elim
      (λ c. inl (subst (Contains (take i path ++ v ∷ [])) (sym c.0) (Contains-push (take i path) v)))
      (λ c. inr ((ap (λ xs. slice_get xs n) m ∙ c.1 ∙ o.0), (ap (λ xs. slice_get xs n) f ∙ final n c.0 ∙ o.1)))
      (get_set a.marks.items v Done n l))
      (w.cases n);
})
  where
    more : take (i + 1) path ≡ take i path ++ v ∷ []
    more = take_more path i v h ∙ ap (λ y. take i path ++ y ∷ []) (sym e)

    now : HasMark b v Done × HasFinal b v end
    now = (
      ⊎_elim (λ c. ap (λ xs. slice_get xs v) m ∙ c.1) (λ c. absurd (c.0 refl)) (get_set a.marks.items v Done v l),
      ⊎_elim (λ c. ap (λ xs. slice_get xs v) f ∙ c.1) (λ c. absurd (c.0 refl)) (get_set a.finals.items v end v k),
    )

    final : (n : ℕ) → (n ≡ v → ⊥) → slice_get (set a.finals.items v end) n ≡ slice_get a.finals.items n
    final n d = ⊎_elim (λ c. absurd (d c.0)) (λ c. c.1) (get_set a.finals.items v end n k)

    later : (n : ℕ) → Contains (take i path) n → HasMark b n Done × HasFinal b n end
    later n o = ⊎_elim
        (λ c. subst (λ x. HasMark b x Done × HasFinal b x end) (sym c.0) now)
        (λ c. ((ap (λ xs. slice_get xs n) m ∙ c.1 ∙ (w.here n o).0), (ap (λ xs. slice_get xs n) f ∙ final n c.0 ∙ (w.here n o).1)))
        (get_set a.marks.items v Done n l)

pub writing_begins : (a : Following) (end : ℕ) → WritesBack a a [] end
writing_begins a end = record {
  marks = refl;
  finals = refl;
  here = λ v c. absurd (omega (arith, c.1));
  cases = λ v. inr (refl, refl);
}
