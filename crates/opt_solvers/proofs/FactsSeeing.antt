-- What is seen of operands, and what is asked by it.
use Rattle.std.proofs.Common.{zero, ◌≡◌, ℕ, suc, Bool, true, false, ◌+◌, ◌-◌, ◌<◌, ◌≤◌, List, [], ◌∷◌, ◌++◌, Option, Some, None, length, get_or, take, drop, map, replicate, refl, sym, ap, ◌∙◌, subst, arith}
use Rattle.std.proofs.Math.ListN.{set}
use Rattle.std.proofs.lemmas.List.{length-set, length-map, length-append, length-replicate, map-append, replicate-append-replicate}
use Rattle.opt_rows.specs.declared.known.Known.{Known}
use Rattle.opt_rows.specs.declared.known.Known.TheVariants.{Undetermined, One, Any}
use Rattle.opt_rows.specs.Known.{asked, and_known}
use Rattle.opt_rows.specs.KnownFalls.{constant_of, one_if_undetermined, undetermined}
use Rattle.opt_rows.specs.OperationRows.{Row}
use Rattle.opt_rows.specs.Rows.{rows_from, AreEnds, row_at}
use Rattle.opt_solvers.specs.FactsSeen.{seen_fact, seen_facts, is_found, one_unless, IsSeen, unseen}
use Rattle.opt_rows.proofs.Rows.{as_many, row_inside, row_more, ends_more, take_mapped, drop_mapped, StandsAt, row_length, entry_in, entry_read, entry_written}

pub undetermined-replicate : (A : Type 0) (n : ℕ) → undetermined {A = A} (replicate n Undetermined) ≡ n
undetermined-replicate A zero = refl
undetermined-replicate A (suc n) = omega (arith, undetermined-replicate A n)

pub constants-replicate : (A : Type 0) (n : ℕ) → replicate n None ≡ map (constant_of {A = A}) (replicate n Undetermined)
constants-replicate A zero = refl
constants-replicate A (suc n) = ap (λ xs. None ∷ xs) (constants-replicate A n)

pub one_at_most : (f : Bool) → one_unless f ≤ 1
one_at_most true = omega arith
one_at_most false = omega arith

-- nothing is seen of any operand
pub facts_unseen : (A : Type 0) (n : ℕ) → seen_facts {A = A} (replicate n false) (replicate n None) ≡ replicate n Undetermined
facts_unseen A zero = refl
facts_unseen A (suc n) = ap (λ (xs : List (Known A)). Undetermined ∷ xs) (facts_unseen A n)

unseen_counts : (A : Type 0) (rows : List Row) → map (λ (r : Row). length r.operands) rows ≡ map undetermined (map (unseen {A = A}) rows)
unseen_counts A [] = refl
unseen_counts A (r ∷ rows) = ap (λ (ms : List ℕ). length r.operands ∷ ms) (unseen_counts A rows) ∙ ap (λ (n : ℕ). n ∷ map undetermined (map (unseen {A = A}) rows)) (sym (undetermined-replicate A (length r.operands)))

-- nothing is seen of the operands of these operations
pub record IsUnseen (A : Type 0) (rows : List Row) (es : List ℕ) (fs : List Bool) (ms : List ℕ) : Type 0 where
  pub ends : AreEnds 0 es (length fs)
  pub rows_are : rows_from 0 es (replicate (length fs) Undetermined) ≡ map (unseen {A = A}) rows
  pub none : fs ≡ replicate (length fs) false
  pub counts : ms ≡ map (λ (r : Row). length r.operands) rows

module _ {A : Type 0} where
  pub facts_len : (fs : List Bool) (cs : List (Option A)) → length fs ≡ length cs → length (seen_facts fs cs) ≡ length fs
  facts_len [] cs h = refl
  facts_len (f ∷ fs) [] h = absurd (omega (arith, h))
  facts_len (f ∷ fs) (c ∷ cs) h = ap suc (facts_len fs cs (omega (arith, h)))

  found_again : (x : Known A) → seen_fact (is_found x) (constant_of x) ≡ x
  found_again Undetermined = refl
  found_again (One a) = refl
  found_again Any = refl

  -- what is seen of one operand changes
  pub facts_set : (fs : List Bool) (cs : List (Option A)) (i : ℕ) (x : Known A) → seen_facts (set fs i (is_found x)) (set cs i (constant_of x)) ≡ set (seen_facts fs cs) i x
  facts_set [] cs i x = refl
  facts_set (f ∷ fs) [] zero x = refl
  facts_set (f ∷ fs) [] (suc i) x = refl
  facts_set (f ∷ fs) (c ∷ cs) zero x = ap (λ (y : Known A). y ∷ seen_facts fs cs) (found_again x)
  facts_set (f ∷ fs) (c ∷ cs) (suc i) x = ap (λ (ys : List (Known A)). seen_fact f c ∷ ys) (facts_set fs cs i x)

  pub lacks : (x : Known A) → one_unless (is_found x) ≡ one_if_undetermined x
  lacks Undetermined = refl
  lacks (One a) = refl
  lacks Any = refl

  lacks_one : (f : Bool) (c : Option A) → one_unless f ≡ one_if_undetermined (seen_fact f c)
  lacks_one false c = refl
  lacks_one true None = refl
  lacks_one true (Some a) = refl

  pub lacks_at : (fs : List Bool) (cs : List (Option A)) (i : ℕ) (f : Bool) → length fs ≡ length cs → i < length fs → one_unless (get_or fs i f) ≡ one_if_undetermined (get_or (seen_facts fs cs) i Undetermined)
  lacks_at [] cs i d e h = absurd (omega (arith, h))
  lacks_at (f ∷ fs) [] i d e h = absurd (omega (arith, e))
  lacks_at (f ∷ fs) (c ∷ cs) zero d e h = lacks_one f c
  lacks_at (f ∷ fs) (c ∷ cs) (suc i) d e h = lacks_at fs cs i d (omega (arith, e)) (omega (arith, h))

  pub asked_all : (xs : List (Known A)) → undetermined xs ≡ 0 → asked xs ≡ Some (map constant_of xs)
  asked_all [] e = refl
  asked_all (Undetermined ∷ xs) e = absurd (omega (arith, e))
  asked_all (One a ∷ xs) e = ap (and_known (One a)) (asked_all xs (omega (arith, e)))
  asked_all (Any ∷ xs) e = ap (and_known Any) (asked_all xs (omega (arith, e)))

  pub asked_none : (xs : List (Known A)) → (undetermined xs ≡ 0 → ⊥) → asked xs ≡ None
  asked_none [] e = absurd (e refl)
  asked_none (Undetermined ∷ xs) e = refl
  asked_none (One a ∷ xs) e = ap (and_known (One a)) (asked_none xs (λ q. e (omega (arith, q))))
  asked_none (Any ∷ xs) e = ap (and_known Any) (asked_none xs (λ q. e (omega (arith, q))))

  pub undetermined-set : (xs : List (Known A)) (i : ℕ) (x d : Known A) → i < length xs → undetermined (set xs i x) + one_if_undetermined (get_or xs i d) ≡ undetermined xs + one_if_undetermined x
  undetermined-set [] i x d h = absurd (omega arith)
  undetermined-set (y ∷ ys) zero x d h = omega arith
  undetermined-set (y ∷ ys) (suc i) x d h = omega (arith, undetermined-set ys i x d (omega arith))

  pub constants-set : (xs : List (Known A)) (i : ℕ) (x : Known A) → set (map constant_of xs) i (constant_of x) ≡ map constant_of (set xs i x)
  constants-set [] i x = refl
  constants-set (y ∷ ys) zero x = refl
  constants-set (y ∷ ys) (suc i) x = ap (λ zs. constant_of y ∷ zs) (constants-set ys i x)

  at_most_one : (x : Known A) → one_if_undetermined x ≤ 1
  at_most_one Undetermined = omega arith
  at_most_one (One a) = omega arith
  at_most_one Any = omega arith

  pub undetermined_within : (xs : List (Known A)) → undetermined xs ≤ length xs
  undetermined_within [] = omega arith
  undetermined_within (x ∷ xs) = omega (arith, undetermined_within xs, at_most_one x)

  -- one fewer is missing where one is looked at that is undetermined
  pub undetermined_at : (xs : List (Known A)) (i : ℕ) (d : Known A) → i < length xs → one_if_undetermined (get_or xs i d) ≤ undetermined xs
  undetermined_at [] i d h = absurd (omega arith)
  undetermined_at (x ∷ xs) zero d h = omega arith
  undetermined_at (x ∷ xs) (suc i) d h = omega (arith, undetermined_at xs i d (omega arith))

  -- how many are missing of each row
  pub missing_at : (rows : List (List (Known A))) (k d : ℕ) → k < length rows → get_or (map undetermined rows) k d ≡ undetermined (row_at rows k)
  missing_at [] k d h = absurd (omega (arith, h))
  missing_at (r ∷ rows) zero d h = refl
  missing_at (r ∷ rows) (suc k) d h = missing_at rows k d (omega (arith, h))

  missing_set : (rows : List (List (Known A))) (k : ℕ) (row : List (Known A)) → set (map undetermined rows) k (undetermined row) ≡ map undetermined (set rows k row)
  missing_set [] k row = refl
  missing_set (r ∷ rows) zero row = refl
  missing_set (r ∷ rows) (suc k) row = ap (λ (ms : List ℕ). undetermined r ∷ ms) (missing_set rows k row)

  module _ (es : List ℕ) (ns : List (Known A)) (cs : List (Option A)) (ms : List ℕ) (k i start : ℕ) (seen : IsSeen es ns cs ms) (at : StandsAt es ns k i start) where
    many : length ms ≡ length es
    many = ap length seen.are_missing ∙ (length-map (rows_from 0 es ns) undetermined ∙ as_many 0 es ns)

    pub row_missing : k < length ms
    row_missing = let m = many in let h = at.row in omega (arith, m, h)

    pub place_constant : start + i < length cs
    place_constant = let l = ap length seen.are_constants ∙ length-map ns constant_of in let h = at.inside in omega (arith, l, h)

    missing_is : get_or ms k 0 ≡ undetermined (row_at (rows_from 0 es ns) k)
    missing_is = ap (λ (xs : List ℕ). get_or xs k 0) seen.are_missing ∙ missing_at (rows_from 0 es ns) k 0 (let m = as_many 0 es ns in let h = at.row in omega (arith, m, h))

    is_in : i < length (row_at (rows_from 0 es ns) k)
    is_in = entry_in es ns k i start seen.are_ends at

    read_is : (d : Known A) → get_or (row_at (rows_from 0 es ns) k) i d ≡ get_or ns (start + i) d
    read_is d = entry_read es ns k i start seen.are_ends at d

    -- an operand that is undetermined is missing
    pub missing_enough : (d : Known A) → one_if_undetermined (get_or ns (start + i) d) ≤ get_or ms k 0
    missing_enough d =
        let u = undetermined_at (row_at (rows_from 0 es ns) k) i d is_in in let r = ap one_if_undetermined (read_is d) in let m = missing_is in omega (arith, u, r, m)

    pub missing_small : get_or ms k 0 ≤ length ns
    missing_small =
        let u = undetermined_within (row_at (rows_from 0 es ns) k) in let m = missing_is in let w = row_length es ns k seen.are_ends at.row in
        let r = row_inside 0 es (length ns) k at.row seen.are_ends in let b = r.2 in omega (arith, u, m, w, b)

    pub rows_saw : (x : Known A) → rows_from 0 es (set ns (start + i) x) ≡ set (rows_from 0 es ns) k (set (row_at (rows_from 0 es ns) k) i x)
    rows_saw x = entry_written es ns k i start seen.are_ends at x

    pub saw : (m : ℕ) (x d : Known A) → m + one_if_undetermined (get_or ns (start + i) d) ≡ get_or ms k 0 + one_if_undetermined x → IsSeen es (set ns (start + i) x) (set cs (start + i) (constant_of x)) (set ms k m)
    saw m x d e = record {
      are_ends = subst (AreEnds 0 es) (sym (length-set ns (start + i) x)) seen.are_ends;
      are_constants = ap (λ (xs : List (Option A)). set xs (start + i) (constant_of x)) seen.are_constants ∙ constants-set ns (start + i) x;
      are_missing = ap (λ (xs : List ℕ). set xs k m) seen.are_missing ∙ (ap (set (map undetermined (rows_from 0 es ns)) k) now ∙ (missing_set (rows_from 0 es ns) k (set (row_at (rows_from 0 es ns) k) i x) ∙ sym (ap (map undetermined) (rows_saw x))));
    }
      where
        now : m ≡ undetermined (set (row_at (rows_from 0 es ns) k) i x)
        now =
            let u = undetermined-set (row_at (rows_from 0 es ns) k) i x d is_in in let r = ap one_if_undetermined (read_is d) in let t = missing_is in
            omega (arith, u, r, t, e)

  -- one operand is seen, by the two lists
  module _ (es : List ℕ) (fs : List Bool) (cs : List (Option A)) (ms : List ℕ) (k i start : ℕ) (many : length fs ≡ length cs) (seen : IsSeen es (seen_facts fs cs) cs ms) (at : StandsAt es (seen_facts fs cs) k i start) where
    pub place_found : start + i < length fs
    place_found = let l = facts_len fs cs many in let h = at.inside in omega (arith, l, h)

    pub facts_saw : (x : Known A) (f : Bool) (c : Option A) → f ≡ is_found x → c ≡ constant_of x → seen_facts (set fs (start + i) f) (set cs (start + i) c) ≡ set (seen_facts fs cs) (start + i) x
    facts_saw x f c q r = ap (λ (g : Bool). seen_facts (set fs (start + i) g) (set cs (start + i) c)) q ∙ (ap (λ (d : Option A). seen_facts (set fs (start + i) (is_found x)) (set cs (start + i) d)) r ∙ facts_set fs cs (start + i) x)

    -- what was missing of the operand is not more than what was missing of its operation
    pub lacked_enough : (f : Bool) → f ≡ get_or fs (start + i) f → one_unless f ≤ get_or ms k 0
    lacked_enough f q = let e = missing_enough es (seen_facts fs cs) cs ms k i start seen at Undetermined in let l = ap one_unless q ∙ lacks_at fs cs (start + i) f many place_found in omega (arith, e, l)

    pub saw_all : (m : ℕ) (x : Known A) (f g : Bool) (c : Option A) → f ≡ get_or fs (start + i) f → g ≡ is_found x → c ≡ constant_of x → m + one_unless f ≡ get_or ms k 0 + one_unless g
        → (length (set fs (start + i) g) ≡ length (set cs (start + i) c)) × IsSeen es (seen_facts (set fs (start + i) g) (set cs (start + i) c)) (set cs (start + i) c) (set ms k m)
    saw_all m x f g c o q r e = (
      length-set fs (start + i) g ∙ (many ∙ sym (length-set cs (start + i) c)),
      subst (λ (ns : List (Known A)). IsSeen es ns (set cs (start + i) c) (set ms k m)) (sym (facts_saw x g c q r))
          (subst (λ (d : Option A). IsSeen es (set (seen_facts fs cs) (start + i) x) (set cs (start + i) d) (set ms k m)) (sym r)
          (saw es (seen_facts fs cs) cs ms k i start seen at m x Undetermined (let l = ap one_unless o ∙ lacks_at fs cs (start + i) f many place_found in let n = ap one_unless q ∙ lacks x in omega (arith, e, l, n)))),
    )

  pub constants_len : (es : List ℕ) (ns : List (Known A)) (cs : List (Option A)) (ms : List ℕ) → IsSeen es ns cs ms → length cs ≡ length ns
  constants_len es ns cs ms s = ap length s.are_constants ∙ length-map ns constant_of

  -- what is asked of a row
  pub row_constants : (rows : List (List (Known A))) (es : List ℕ) (ns : List (Known A)) (cs ds : List (Option A)) (k start e : ℕ) → cs ≡ map constant_of ns → ds ≡ cs → take (e - start) (drop start ns) ≡ row_at rows k → take (e - start) (drop start ds) ≡ map constant_of (row_at rows k)
  row_constants rows es ns cs ds k start e c d f =
      ap (λ (xs : List (Option A)). take (e - start) (drop start xs)) (d ∙ c)
      ∙ (ap (take (e - start)) (drop_mapped constant_of start ns)
      ∙ (take_mapped constant_of (e - start) (drop start ns) ∙ ap (map constant_of) f))

  pub row_undetermined : (rows : List (List (Known A))) (es : List ℕ) (ns : List (Known A)) (cs : List (Option A)) (ms : List ℕ) (k : ℕ) → rows_from 0 es ns ≡ rows → IsSeen es ns cs ms → k < length rows → (k < length ms) × (get_or ms k 0 ≡ undetermined (row_at rows k))
  row_undetermined rows es ns cs ms k v s h =
      let m = s.are_missing ∙ ap (map undetermined) v in
      (let l = ap length m ∙ length-map rows undetermined in omega (arith, l, h), ap (λ (xs : List ℕ). get_or xs k 0) m ∙ missing_at rows k 0 h)

  pub unseen_begins : (es : List ℕ) (fs : List Bool) (ms : List ℕ) → es ≡ [] → fs ≡ [] → ms ≡ [] → IsUnseen A [] es fs ms
  unseen_begins es fs ms e n m = record {
    ends = subst (λ (xs : List ℕ). AreEnds 0 xs (length fs)) (sym e) (sym (ap length n));
    rows_are = ap (λ (xs : List ℕ). rows_from 0 xs (replicate (length fs) Undetermined)) e;
    none = n ∙ ap (λ (k : ℕ). replicate k false) (sym (ap length n));
    counts = m;
  }

  -- nor of one more
  pub unseen_more : (rows : List Row) (r : Row) (es gs : List ℕ) (fs us : List Bool) (ms ls : List ℕ) (n : ℕ) → us ≡ fs ++ replicate (length r.operands) false → gs ≡ es ++ n ∷ [] → n ≡ length us → ls ≡ ms ++ length r.operands ∷ []
      → IsUnseen A rows es fs ms → IsUnseen A (rows ++ r ∷ []) gs us ls
  unseen_more rows r es gs fs us ms ls n u f l m s = record {
    ends = subst (λ (xs : List ℕ). AreEnds 0 xs (length us)) (sym f) (subst (λ (k : ℕ). AreEnds 0 (es ++ n ∷ []) k) l (ends_more 0 es (length fs) n (omega (arith, l, len)) s.ends));
    rows_are = ap (λ (xs : List ℕ). rows_from 0 xs (replicate (length us) Undetermined)) f ∙ (ap (rows_from 0 (es ++ n ∷ [])) all ∙ (row_more 0 es before (unseen r) n (omega (arith, l, len, mine, old)) (subst (AreEnds 0 es) (sym old) s.ends)
        ∙ (ap (λ (rs : List (List (Known A))). rs ++ unseen r ∷ []) s.rows_are ∙ sym (map-append unseen rows (r ∷ [])))));
    none = u ∙ (ap (λ (xs : List Bool). xs ++ replicate (length r.operands) false) s.none ∙ (replicate-append-replicate (length fs) (length r.operands) false ∙ ap (λ (k : ℕ). replicate k false) (omega (arith, len))));
    counts = m ∙ (ap (λ (xs : List ℕ). xs ++ length r.operands ∷ []) s.counts ∙ sym (map-append (λ (q : Row). length q.operands) rows (r ∷ [])));
  }
    where
      before : List (Known A)
      before = replicate (length fs) Undetermined

      old : length before ≡ length fs
      old = length-replicate (length fs) Undetermined

      mine : length (unseen {A = A} r) ≡ length r.operands
      mine = length-replicate (length r.operands) Undetermined

      len : length us ≡ length fs + length r.operands
      len = let a = ap length u ∙ length-append fs (replicate (length r.operands) false) in let b = length-replicate (length r.operands) false in omega (arith, a, b)

      all : replicate (length us) Undetermined ≡ before ++ unseen r
      all = ap (λ (k : ℕ). replicate k Undetermined) len ∙ sym (replicate-append-replicate (length fs) (length r.operands) Undetermined)

  facts_none : (fs : List Bool) (cs : List (Option A)) → fs ≡ replicate (length fs) false → cs ≡ replicate (length fs) None → seen_facts fs cs ≡ replicate (length fs) Undetermined
  facts_none fs cs f c = ap (λ (xs : List Bool). seen_facts xs cs) f ∙ (ap (seen_facts (replicate (length fs) false)) c ∙ facts_unseen A (length fs))

  pub unseen_is : (rows : List Row) (es : List ℕ) (fs : List Bool) (cs : List (Option A)) (ms : List ℕ) → cs ≡ replicate (length fs) None → IsUnseen A rows es fs ms → (length fs ≡ length cs) × IsSeen es (seen_facts fs cs) cs ms
  unseen_is rows es fs cs ms c s = (
    sym (ap length c ∙ length-replicate (length fs) None),
    record {
      are_ends = subst (AreEnds 0 es) (sym (ap length k ∙ length-replicate (length fs) Undetermined)) s.ends;
      are_constants = c ∙ (constants-replicate A (length fs) ∙ ap (map constant_of) (sym k));
      are_missing = s.counts ∙ (unseen_counts A rows ∙ ap (map undetermined) (sym (ap (rows_from 0 es) k ∙ s.rows_are)));
    },
  )
    where
      k : seen_facts fs cs ≡ replicate (length fs) Undetermined
      k = facts_none fs cs s.none c

  pub unseen_rows : (rows : List Row) (es : List ℕ) (fs : List Bool) (cs : List (Option A)) (ms : List ℕ) → cs ≡ replicate (length fs) None → IsUnseen A rows es fs ms → rows_from 0 es (seen_facts fs cs) ≡ map unseen rows
  unseen_rows rows es fs cs ms c s = ap (rows_from 0 es) (facts_none fs cs s.none c) ∙ s.rows_are
