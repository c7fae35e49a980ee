-- The items that a place keeps.
use Rattle.std.proofs.Common.{◌≡◌, append_assoc, append-nil, inl, inr, ⊎_elim, ℕ, ◌+◌, ◌<◌, ◌≤◌, List, [], ◌∷◌, ◌++◌, Option, None, Some, get_or, length, map, take, refl, sym, ap, ◌∙◌, subst, arith}
use Rattle.std.specs.Prelude.{Contains, slice_get, option_to_list, ◌↔◌}
use Rattle.std.proofs.lemmas.Option.{same_Some, none-some, slice_get_within}
use Rattle.std.proofs.lemmas.List.{length-append, take_more, map-append}
use Rattle.digraph.specs.Counts.{count_of}
use Rattle.opt_rows.specs.Rows.{listed}
use Rattle.digraph.proofs.Counting.{one_bound}
use Rattle.digraph.proofs.Marking.{only_one}
use Rattle.opt_rows.specs.declared.dead_problem.Definer.{Definer}
use Rattle.opt_rows.specs.declared.dead_problem.Definer.TheVariants.{Result, Argument as ByArgument, Outside}
use Rattle.opt_rows.specs.declared.dead_problem.Argument.{Argument}
use Rattle.opt_rows.specs.declared.dead_problem.DeadProblem.{DeadProblem}
use Rattle.opt_rows.specs.declared.dead_problem.Operand.{Operand}
use Rattle.opt_rows.specs.DeadCandidates.{Candidate, operands_of}
use Rattle.opt_rows.specs.Dead.{IsDeadProblem}
use Rattle.opt_steps.specs.DeadPlaces.{ValueUse, operand_place, kept_place, IsValueUse, around_of_argument, around_argument, around_definer, around_user, slot, items, maker, PlaceKeeps, KeepsRow, AreKeptRows, KeepMore, IsOperationNumber, IsKnownDefiner, AreNumbersAbove, Crosses}
use Rattle.opt_steps.proofs.DeadCrossing.{around_below, around_number, in_below}
use Rattle.opt_steps.proofs.DeadLists.{none_in}
use Rattle.opt_rows.proofs.Lists.{get_push_before, get_push_last, get_push_cases}

pub in_list : (o : Option ℕ) (x : ℕ) → Contains (option_to_list o) x → o ≡ Some x
in_list None x c = absurd (none_in x c)
in_list (Some y) x c = ap Some (sym (only_one y x c))

pub list_in : (o : Option ℕ) (x : ℕ) → o ≡ Some x → Contains (option_to_list o) x
list_in o x e = subst (λ (o : Option ℕ). Contains (option_to_list o) x) (sym e) (0, omega arith, refl)

pub list_once : (o : Option ℕ) (x : ℕ) → count_of x (option_to_list o) ≤ 1
list_once None x = omega arith
list_once (Some y) x = grind (arith, one_bound)

module _ (p : DeadProblem) where
  -- what stands at an operation says what it is in
  pub argument_there : (v j : ℕ) → around_argument p v ≡ Some j → (c : Argument) × (slice_get p.arguments.items v ≡ Some c) × (c.around ≡ Some j)
  argument_there v j e = go (slice_get p.arguments.items v) refl e
    where
      go : (o : Option Argument) → slice_get p.arguments.items v ≡ o → around_of_argument o ≡ Some j → (c : Argument) × (slice_get p.arguments.items v ≡ Some c) × (c.around ≡ Some j)
      go None q e = absurd (none-some j e)
      go (Some c) q e = (c, q, e)

  module _ (ok : IsDeadProblem p) where
    pub known : (q : ValueUse) → IsValueUse p q → IsKnownDefiner p q.operand.definer
    known q h = go q.operand.definer refl
      where
        go : (d : Definer) → q.operand.definer ≡ d → IsKnownDefiner p d
        go (Result b) e = ⊎_elim (λ r. ok.results r.0 b q.operand r.2 e) (λ r. ok.kept_results b (subst (λ d. Contains p.kept.items d) e r.2)) h
        go (ByArgument v) e = ⊎_elim (λ r. ok.arguments r.0 v q.operand r.2 e) (λ r. ok.kept_arguments v (subst (λ d. Contains p.kept.items d) e r.2)) h
        go Outside e = tt

    pub user_number : (q : ValueUse) → IsValueUse p q → IsOperationNumber p q.user
    user_number q h j e = ⊎_elim
        (λ r. let l = slice_get_within p.operations r.0 r.2.candidate r.2.there in let s = same_Some r.0 j (sym r.1 ∙ e) in omega (arith, l, s))
        (λ r. absurd (none-some j (sym r.0 ∙ e)))
        h

    pub around_user_number : (u : Option ℕ) → IsOperationNumber p u → IsOperationNumber p (around_user p u)
    around_user_number None n j e = absurd (none-some j e)
    around_user_number (Some i) n j e = around_number p ok i (n i refl) j e

    pub around_definer_number : (d : Definer) → IsKnownDefiner p d → IsOperationNumber p (around_definer p d)
    around_definer_number (Result b) h j e = around_number p ok b h j e
    around_definer_number (ByArgument v) h j e = let c = argument_there v j e in ok.argument_around v j c.0 c.1 c.2
    around_definer_number Outside h j e = absurd (none-some j e)

    pub maker_behind : (d : Definer) → IsKnownDefiner p d → AreNumbersAbove (around_definer p d) (option_to_list (maker p d))
    maker_behind d h = record { behind = λ x j c e. go d h x j (in_list (maker p d) x c) e; once = list_once (maker p d) }
      where
        go : (d : Definer) → IsKnownDefiner p d → (x j : ℕ) → maker p d ≡ Some x → around_definer p d ≡ Some j → j < x
        go (Result b) h x j m e = let s = same_Some b x m in let l = around_below p ok b j e in omega (arith, s, l)
        go (ByArgument v) h x j m e = let s = same_Some (slot p v) x m in let c = argument_there v j e in let l = ok.argument_around v j c.0 c.1 c.2 in omega (arith, s, l)
        go Outside h x j m e = absurd (none-some x m)

    made_within : (d : Definer) (x : ℕ) → IsKnownDefiner p d → maker p d ≡ Some x → x < items p
    made_within (Result b) x h m = let s = same_Some b x m in omega (arith, s, h)
    made_within (ByArgument v) x h m = let s = same_Some (slot p v) x m in omega (arith, s, h)
    made_within Outside x h m = absurd (none-some x m)

    keeps_within : (u : Option ℕ) (d : Definer) → IsKnownDefiner p d → (x : ℕ) → PlaceKeeps p u d x → x < items p
    keeps_within u d h x k = ⊎_elim
        (λ m. made_within d x h m)
        (λ ((j, e, r), n). let l = around_definer_number d h j e in let b = in_below p ok x j r in omega (arith, l, b))
        k

    pub row_kept : (u : Option ℕ) (d : Definer) (row : List ℕ) → IsKnownDefiner p d → Crosses p (around_definer p d) (around_user p u) (option_to_list (maker p d)) row → KeepsRow p u d row
    row_kept u d row h s = record {
      exact = exact;
      within = λ x c. keeps_within u d h x ((exact x).0 c);
      once = s.once;
    }
      where
        exact : (x : ℕ) → Contains row x ↔ PlaceKeeps p u d x
        exact x = (
          (λ c. ⊎_elim (λ m. inl (in_list (maker p d) x m)) (λ r. inr r) ((s.exact x).0 c)),
          (λ k. (s.exact x).1 (⊎_elim (λ m. inl (list_in (maker p d) x m)) (λ r. inr r) k)),
        )

  pub none_kept : (rows : List (List ℕ)) → rows ≡ [] → AreKeptRows p [] rows
  none_kept rows e = record { len = ap length e; row = λ k q t. absurd (none-some q t) }

  pub nothing_more : (rows : List (List ℕ)) → KeepMore p [] rows rows
  nothing_more rows places k = subst (λ qs. AreKeptRows p qs rows) (sym (append-nil places)) k

  -- the row of one place more
  kept_next : (places : List ValueUse) (rows : List (List ℕ)) (q : ValueUse) (row : List ℕ) → KeepsRow p q.user q.operand.definer row → AreKeptRows p places rows → AreKeptRows p (places ++ q ∷ []) (rows ++ row ∷ [])
  kept_next places rows q row r s = record {
    len = let l = length-append rows (row ∷ []) in let m = length-append places (q ∷ []) in let n = s.len in omega (arith, l, m, n);
    row = λ k z t. ⊎_elim
        (λ d. let h : k < length rows = (let m = slice_get_within places k z d in let n = s.len in omega (arith, m, n)) in
        subst (KeepsRow p z.user z.operand.definer) (sym (ap listed (get_push_before rows row k h))) (s.row k z d))
        (λ d. subst (KeepsRow p z.user z.operand.definer) (sym (ap listed (ap (slice_get (rows ++ row ∷ [])) (d.0 ∙ sym s.len) ∙ get_push_last rows row))) (subst (λ (y : ValueUse). KeepsRow p y.user y.operand.definer row) d.1 r))
        (get_push_cases places q z k t);
  }

  -- the row of one more of what places are made of
  pub next_kept : {X : Type 0} (f : X → ValueUse) (xs : List X) (i : ℕ) (d : X) (a b c : List (List ℕ)) (row : List ℕ) → i < length xs
      → KeepMore p (map f (take i xs)) a b → KeepsRow p (f (get_or xs i d)).user (f (get_or xs i d)).operand.definer row → c ≡ b ++ row ∷ [] → KeepMore p (map f (take (i + 1) xs)) a c
  next_kept f xs i d a b c row h m r e places k =
      let x = get_or xs i d in let qs = map f (take i xs) in
      subst (AreKeptRows p (places ++ map f (take (i + 1) xs))) (sym e) (subst (λ ps. AreKeptRows p ps (b ++ row ∷ []))
      (append_assoc places qs (f x ∷ []) ∙ ap (λ zs. places ++ zs) (sym (ap (map f) (take_more xs i d h) ∙ map-append f (take i xs) (x ∷ []))))
      (kept_next (places ++ qs) b (f x) row r (m places k)))

  module _ (ok : IsDeadProblem p) where
    pub operand_known : (user : ℕ) (os : List Operand) (o : Operand) → os ≡ operands_of (slice_get p.operations user) → Contains os o → IsKnownDefiner p o.definer
    operand_known user os o e c = go (slice_get p.operations user) refl
      where
        go : (d : Option Candidate) → slice_get p.operations user ≡ d → IsKnownDefiner p o.definer
        go None q = absurd (none_in o (subst (λ xs. Contains xs o) (e ∙ ap operands_of q) c))
        go (Some d) q = known ok (operand_place user o) (inl (user, refl, record { candidate = d; there = q; operand = subst (λ xs. Contains xs o) (e ∙ ap operands_of q) c }))

    pub kept_known : (d : Definer) → Contains p.kept.items d → IsKnownDefiner p d
    kept_known d c = known ok (kept_place d) (inr (refl, refl, c))
