-- The places of all operations, one after the other, and their numbers.
use Rattle.std.proofs.Common.{◌≡◌, inl, inr, ⊎_elim, ℕ, zero, suc, ◌+◌, ◌<◌, ◌≤◌, List, [], ◌∷◌, ◌++◌, take, Option, None, Some, length, refl, sym, ap, ◌∙◌, subst, append_assoc, append-nil, arith}
use Rattle.std.specs.Prelude.{map, slice_get}
use Rattle.std.proofs.lemmas.Option.{same_Some, none-some, slice_get_within}
use Rattle.std.proofs.lemmas.List.{length-append, length-map}
use Rattle.opt_rows.specs.declared.dead_problem.Definer.TheVariants.{Result}
use Rattle.opt_rows.specs.declared.dead_problem.Operand.{Operand}
use Rattle.opt_rows.specs.DeadCandidates.{Candidate, operands_of, all_operands, operands_before}
use Rattle.opt_rows.specs.declared.dead_problem.DeadProblem.{DeadProblem}
use Rattle.opt_steps.specs.DeadPlaces.{ValueUse, operand_place, kept_place, operand_places, all_places, IsValueUse}
use Rattle.opt_rows.proofs.Lists.{get_contains, contains_get}
use Rattle.opt_steps.proofs.DeadLists.{there_is, below_or_at, get_front, get_behind, get_mapped, mapped_get, get_cases}

-- what is read of a list of places past its end
abbrev pub default : ValueUse
default = record { user = None; operand = record { definer = Result 0; argument = None } }

pub same_operand : (q : ValueUse) (i : ℕ) → q.user ≡ Some i → q ≡ operand_place i q.operand
same_operand q i u = let f : Option ℕ → ValueUse = λ x. record { user = x; operand = q.operand } in ap f u

pub same_kept : (q : ValueUse) → q.user ≡ None → q.operand.argument ≡ None → q ≡ kept_place q.operand.definer
same_kept q u v = let f : Option ℕ → Option ℕ → ValueUse = λ x y. record { user = x; operand = record { definer = q.operand.definer; argument = y } } in ap (λ x. f x q.operand.argument) u ∙ ap (f None) v

-- the place with a number is that of an operand of one of the operations, the first of which has the number i
record IsNumbered (i : ℕ) (cs : List Candidate) (k : ℕ) (q : ValueUse) : Type 0 where
  step : ℕ
  candidate : Candidate
  there : slice_get cs step ≡ Some candidate
  index : ℕ
  number : k ≡ operands_before cs step + index
  operand : slice_get candidate.operands index ≡ Some q.operand
  user : q.user ≡ Some (i + step)

numbered : (i : ℕ) (cs : List Candidate) (k : ℕ) (q : ValueUse) → slice_get (operand_places i cs) k ≡ Some q → IsNumbered i cs k q
numbered i [] k q e = absurd (none-some q e)
numbered i (c ∷ cs) k q e = ⊎_elim
    (λ f. let m = get_mapped (operand_place i) c.operands k q f in record {
      step = 0;
      candidate = c;
      there = refl;
      index = k;
      number = omega arith;
      operand = m.1 ∙ ap (λ (z : ValueUse). Some z.operand) (sym m.2);
      user = ap (λ (z : ValueUse). z.user) m.2 ∙ ap Some (omega arith);
    })
    (λ (v, w, f). let s = numbered (suc i) cs v q f in record {
      step = suc s.step;
      candidate = s.candidate;
      there = s.there;
      index = s.index;
      number = let l = length-map c.operands (operand_place i) in let n = s.number in omega (arith, w, l, n);
      operand = s.operand;
      user = s.user ∙ ap Some (omega arith);
    })
    (get_cases (map (operand_place i) c.operands) (operand_places (suc i) cs) k q e)

there_numbered : (i : ℕ) (cs : List Candidate) (j v : ℕ) (c : Candidate) (o : Operand) → slice_get cs j ≡ Some c → slice_get c.operands v ≡ Some o → slice_get (operand_places i cs) (operands_before cs j + v) ≡ Some (operand_place (i + j) o)
there_numbered i [] j v c o t e = absurd (none-some c t)
there_numbered i (d ∷ cs) zero v c o t e =
    let f = mapped_get (operand_place i) d.operands v o (ap (λ (z : Candidate). slice_get z.operands v) (same_Some d c t) ∙ e) in
    let n : 0 + v ≡ v = omega arith in let m : i ≡ i + 0 = omega arith in
    ap (slice_get (map (operand_place i) d.operands ++ operand_places (suc i) cs)) n
    ∙ get_front (map (operand_place i) d.operands) (operand_places (suc i) cs) v (slice_get_within (map (operand_place i) d.operands) v (operand_place i o) f)
    ∙ f ∙ ap (λ n. Some (operand_place n o)) m
there_numbered i (d ∷ cs) (suc j) v c o t e =
    let l = length-map d.operands (operand_place i) in
    let n : (length d.operands + operands_before cs j) + v ≡ length (map (operand_place i) d.operands) + (operands_before cs j + v) = omega (arith, l) in
    let m : suc i + j ≡ i + suc j = omega arith in
    ap (slice_get (map (operand_place i) d.operands ++ operand_places (suc i) cs)) n
    ∙ get_behind (map (operand_place i) d.operands) (operand_places (suc i) cs) (operands_before cs j + v)
    ∙ there_numbered (suc i) cs j v c o t e ∙ ap (λ n. Some (operand_place n o)) m

before_more : (cs : List Candidate) (j : ℕ) (c : Candidate) → slice_get cs j ≡ Some c → operands_before cs (suc j) ≡ operands_before cs j + length c.operands
before_more [] j c t = absurd (none-some c t)
before_more (d ∷ cs) zero c t = let l = ap (λ (z : Candidate). length z.operands) (same_Some d c t) in omega (arith, l)
before_more (d ∷ cs) (suc j) c t = let r = before_more cs j c t in omega (arith, r)

before_all : (i : ℕ) (cs : List Candidate) (j : ℕ) → operands_before cs j ≤ length (operand_places i cs)
before_all i cs zero = omega arith
before_all i [] (suc j) = omega arith
before_all i (c ∷ cs) (suc j) =
    let r = before_all (suc i) cs j in let l = length-map c.operands (operand_place i) in let a = length-append (map (operand_place i) c.operands) (operand_places (suc i) cs) in
    omega (arith, r, l, a)

-- the operands of the places are those of the operations
operand_there : (i : ℕ) (cs : List Candidate) (k : ℕ) (q : ValueUse) → slice_get (operand_places i cs) k ≡ Some q → slice_get (all_operands cs) k ≡ Some q.operand
operand_there i [] k q e = absurd (none-some q e)
operand_there i (c ∷ cs) k q e = ⊎_elim
    (λ f. let m = get_mapped (operand_place i) c.operands k q f in
    get_front c.operands (all_operands cs) k (slice_get_within c.operands k m.0 m.1) ∙ m.1 ∙ ap (λ (z : ValueUse). Some z.operand) (sym m.2))
    (λ (v, w, f). let w' = w ∙ ap (λ n. n + v) (length-map c.operands (operand_place i)) in
    ap (slice_get (c.operands ++ all_operands cs)) w' ∙ get_behind c.operands (all_operands cs) v ∙ operand_there (suc i) cs v q f)
    (get_cases (map (operand_place i) c.operands) (operand_places (suc i) cs) k q e)

place_there : (i : ℕ) (cs : List Candidate) (k : ℕ) (o : Operand) → slice_get (all_operands cs) k ≡ Some o → (q : ValueUse) × (slice_get (operand_places i cs) k ≡ Some q) × (q.operand ≡ o)
place_there i [] k o e = absurd (none-some o e)
place_there i (c ∷ cs) k o e = ⊎_elim
    (λ f. let m = mapped_get (operand_place i) c.operands k o f in
    (operand_place i o, get_front (map (operand_place i) c.operands) (operand_places (suc i) cs) k (slice_get_within (map (operand_place i) c.operands) k (operand_place i o) m) ∙ m, refl))
    (λ (v, w, f). let r = place_there (suc i) cs v o f in
    let w' = w ∙ ap (λ n. n + v) (sym (length-map c.operands (operand_place i))) in
    (r.0, ap (slice_get (map (operand_place i) c.operands ++ operand_places (suc i) cs)) w' ∙ get_behind (map (operand_place i) c.operands) (operand_places (suc i) cs) v ∙ r.1, r.2))
    (get_cases c.operands (all_operands cs) k o e)

-- the places of the first operations, and of one more
pub places_more : (cs : List Candidate) (k : ℕ) → k < length cs → operand_places 0 (take (k + 1) cs) ≡ operand_places 0 (take k cs) ++ map (operand_place k) (operands_of (slice_get cs k))
places_more cs k h =
    let n : k + 1 ≡ suc k = omega arith in let m : 0 + k ≡ k = omega arith in
    ap (λ i. operand_places 0 (take i cs)) n ∙ go 0 cs k h ∙ ap (λ i. operand_places 0 (take k cs) ++ map (operand_place i) (operands_of (slice_get cs k))) m
  where
    go : (i : ℕ) (cs : List Candidate) (k : ℕ) → k < length cs → operand_places i (take (suc k) cs) ≡ operand_places i (take k cs) ++ map (operand_place (i + k)) (operands_of (slice_get cs k))
    go i [] k h = absurd (omega (arith, h))
    go i (c ∷ cs) zero h = let m : i ≡ i + 0 = omega arith in append-nil (map (operand_place i) c.operands) ∙ ap (λ n. map (operand_place n) c.operands) m
    go i (c ∷ cs) (suc k) h =
        let m : suc i + k ≡ i + suc k = omega arith in
        ap (λ (qs : List ValueUse). map (operand_place i) c.operands ++ qs) (go (suc i) cs k (omega (arith, h)) ∙ ap (λ n. operand_places (suc i) (take k cs) ++ map (operand_place n) (operands_of (slice_get cs k))) m)
        ∙ sym (append_assoc (map (operand_place i) c.operands) (operand_places (suc i) (take k cs)) (map (operand_place (i + suc k)) (operands_of (slice_get cs k))))

module _ (p : DeadProblem) where
  abbrev operands : List ValueUse
  operands = operand_places 0 p.operations

  abbrev others : List ValueUse
  others = map kept_place p.kept.items

  front : (k : ℕ) (q : ValueUse) → slice_get operands k ≡ Some q → slice_get (all_places p) k ≡ Some q
  front k q e = get_front operands others k (slice_get_within operands k q e) ∙ e

  -- a place of an operation is that of an operand
  by_operation : (k : ℕ) (q : ValueUse) (x : ℕ) → slice_get (all_places p) k ≡ Some q → q.user ≡ Some x → slice_get operands k ≡ Some q
  by_operation k q x e u = ⊎_elim
      (λ f. f)
      (λ (v, w, f). let m = get_mapped kept_place p.kept.items v q f in absurd (none-some x (sym (ap (λ (z : ValueUse). z.user) m.2) ∙ u)))
      (get_cases operands others k q e)

  -- all places are uses, and each use has a place
  pub place_is : (k : ℕ) (q : ValueUse) → slice_get (all_places p) k ≡ Some q → IsValueUse p q
  place_is k q e = ⊎_elim
      (λ f. let s = numbered 0 p.operations k q f in let n : 0 + s.step ≡ s.step = omega arith in inl (s.step, s.user ∙ ap Some n, record { candidate = s.candidate; there = s.there; operand = get_contains s.candidate.operands s.index q.operand s.operand }))
      (λ (v, w, f). let m = get_mapped kept_place p.kept.items v q f in inr (
        ap (λ (z : ValueUse). z.user) m.2,
        ap (λ (z : ValueUse). z.operand.argument) m.2,
        get_contains p.kept.items v q.operand.definer (m.1 ∙ ap (λ (z : ValueUse). Some z.operand.definer) (sym m.2)),
      ))
      (get_cases operands others k q e)

  pub is_place : (q : ValueUse) → IsValueUse p q → (k : ℕ) × (slice_get (all_places p) k ≡ Some q)
  is_place q h = ⊎_elim
      (λ (i, u, o). let c = contains_get o.candidate.operands q.operand o.operand in let n : 0 + i ≡ i = omega arith in (
        operands_before p.operations i + c.0,
        front (operands_before p.operations i + c.0) q (there_numbered 0 p.operations i c.0 o.candidate q.operand o.there c.1 ∙ ap (λ m. Some (operand_place m q.operand)) n ∙ ap Some (sym (same_operand q i u))),
      ))
      (λ (u, a, d). let c = contains_get p.kept.items q.operand.definer d in (
        length operands + c.0,
        get_behind operands others c.0 ∙ mapped_get kept_place p.kept.items c.0 q.operand.definer c.1 ∙ ap Some (sym (same_kept q u a)),
      ))
      h

  -- the places of an operation are those between what is before it and what is before the next
  pub user_between : (k : ℕ) (q : ValueUse) (x : ℕ) → slice_get (all_places p) k ≡ Some q → q.user ≡ Some x → (operands_before p.operations x ≤ k) × (k < operands_before p.operations (suc x))
  user_between k q x e u =
      let s = numbered 0 p.operations k q (by_operation k q x e u) in
      let y : s.step ≡ x = (let n = same_Some (0 + s.step) x (sym s.user ∙ u) in omega (arith, n)) in
      let b = before_more p.operations s.step s.candidate s.there in
      let l = slice_get_within s.candidate.operands s.index q.operand s.operand in
      let n = s.number in
      subst (λ z. (operands_before p.operations z ≤ k) × (k < operands_before p.operations (suc z))) y (omega (arith, n), omega (arith, n, b, l))

  pub between_user : (k x : ℕ) → x < length p.operations → operands_before p.operations x ≤ k → k < operands_before p.operations (suc x) → (q : ValueUse) × (slice_get (all_places p) k ≡ Some q) × (q.user ≡ Some x)
  between_user k x h f t =
      let c = there_is p.operations x h in
      let b = before_more p.operations x c.0 c.1 in
      let v : (v : ℕ) × (k ≡ operands_before p.operations x + v) = ⊎_elim (λ l. absurd (omega (arith, l, f))) (λ r. r) (below_or_at (operands_before p.operations x) k) in
      let o = there_is c.0.operands v.0 (let e = v.1 in omega (arith, e, b, t)) in
      let n : 0 + x ≡ x = omega arith in
      (operand_place x o.0, front k (operand_place x o.0) (ap (slice_get operands) v.1 ∙ there_numbered 0 p.operations x v.0 c.0 o.0 c.1 o.1 ∙ ap (λ m. Some (operand_place m o.0)) n), refl)

  pub before_rises : (x : ℕ) → x < length p.operations → operands_before p.operations x ≤ operands_before p.operations (suc x)
  before_rises x h = let c = there_is p.operations x h in let b = before_more p.operations x c.0 c.1 in omega (arith, b)

  pub before_within : (x : ℕ) → operands_before p.operations x ≤ length (all_places p)
  before_within x = let b = before_all 0 p.operations x in let a = length-append operands others in omega (arith, b, a)

  -- a place that is forwarded is that of the operand with its number
  pub forwarded_there : (k : ℕ) (q : ValueUse) (v : ℕ) → slice_get (all_places p) k ≡ Some q → q.operand.argument ≡ Some v → slice_get (all_operands p.operations) k ≡ Some q.operand
  forwarded_there k q v e a = ⊎_elim
      (λ f. operand_there 0 p.operations k q f)
      (λ (w, n, f). let m = get_mapped kept_place p.kept.items w q f in absurd (none-some v (sym (ap (λ (z : ValueUse). z.operand.argument) m.2) ∙ a)))
      (get_cases operands others k q e)

  pub there_forwarded : (k : ℕ) (o : Operand) → slice_get (all_operands p.operations) k ≡ Some o → (q : ValueUse) × (slice_get (all_places p) k ≡ Some q) × (q.operand ≡ o)
  there_forwarded k o e = let r = place_there 0 p.operations k o e in (r.0, front k r.0 r.1, r.2)
