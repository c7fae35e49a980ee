-- Items lose uses, one after the other.
use Rattle.std.proofs.Common.{◌≡◌, ◌⊎◌, inl, inr, ⊎_elim, ℕ, zero, suc, ◌+◌, ◌-◌, ◌<◌, ◌≤◌, List, [], ◌∷◌, ◌++◌, take, drop, Bool, true, false, nat_eq, length, get_or, refl, sym, ap, ◌∙◌, subst, arith, eq-eqb}
use Rattle.std.proofs.Math.ListN.{set}
use Rattle.std.specs.Prelude.{Contains, if◌then◌else◌}
use Rattle.std.proofs.lemmas.List.{length-set, get_or-set_other, take_more, take-append-drop}
use Rattle.std.proofs.lemmas.Grind.{get_or-set_at}
use Rattle.std.proofs.lemmas.List.Elements.{Contains-push, Contains-push_cases, Contains-append_left, Contains-append_right, Contains-append_cases, Contains-get_or}
use Rattle.digraph.specs.Counts.{one, count_of}
use Rattle.opt_rows.specs.Rows.{row_at}
use Rattle.digraph.specs.Marks.{IsMarked}
use Rattle.digraph.specs.Work.{HasNode, Waits, Adds, IsEmptyWorklist}
use Rattle.digraph.specs.declared.worklist.Worklist.{Worklist}
use Rattle.digraph.proofs.Counting.{count-append, counted, contained, same_numbers}
use Rattle.digraph.proofs.Marking.{only_one, none_added, added_more, mark_kept, mark_put, mark_only}
use Rattle.opt_steps.specs.DeadRelease.{newly, IsStarted, IsReleasable, Releases, keeping, IsCounted, ExcusesAll}
use Rattle.opt_steps.proofs.DeadLists.{none_in}
use Rattle.opt_steps.proofs.DeadCrossing.{some_or_none}

-- what is read at a place after a write
pub read_set : (xs : List ℕ) (i v k : ℕ) → i < length xs → ((k ≡ i) × (get_or (set xs i v) k 0 ≡ v) × (one (nat_eq k i) ≡ 1)) ⊎ ((get_or (set xs i v) k 0 ≡ get_or xs k 0) × (one (nat_eq k i) ≡ 0))
read_set xs i v k h = go (nat_eq k i) refl
  where
    go : (b : Bool) → nat_eq k i ≡ b → ((k ≡ i) × (get_or (set xs i v) k 0 ≡ v) × (one (nat_eq k i) ≡ 1)) ⊎ ((get_or (set xs i v) k 0 ≡ get_or xs k 0) × (one (nat_eq k i) ≡ 0))
    go true e = inl (same_numbers k i e, get_or-set_at xs i k v 0 (same_numbers k i e) h, ap one e)
    go false e = inr (get_or-set_other xs i k v 0 (λ q. let t = eq-eqb k i q in cc), ap one e)

pub count_more : (x : ℕ) (xs : List ℕ) (i y : ℕ) → i < length xs → y ≡ get_or xs i y → count_of x (take (i + 1) xs) ≡ count_of x (take i xs) + one (nat_eq x y)
count_more x xs i y h e = let a = ap (count_of x) (take_more xs i y h ∙ ap (λ z. take i xs ++ z ∷ []) (sym e)) in let b = count-append x (take i xs) (y ∷ []) in omega (arith, a, b)

pub count_take : (x i : ℕ) (xs : List ℕ) → count_of x (take i xs) ≤ count_of x xs
count_take x i xs = let a = ap (count_of x) (take-append-drop i xs) in let b = count-append x (take i xs) (drop i xs) in omega (arith, a, b)

newly_is : (uses item x : ℕ) → Contains (newly uses item) x → (x ≡ item) × (uses ≡ 0)
newly_is uses item x h = go (nat_eq uses 0) refl h
  where
    go : (b : Bool) → nat_eq uses 0 ≡ b → Contains (if b then item ∷ [] else []) x → (x ≡ item) × (uses ≡ 0)
    go true e c = (only_one item x c, same_numbers uses 0 e)
    go false e c = absurd (none_in x c)

is_newly : (uses item : ℕ) → uses ≡ 0 → Contains (newly uses item) item
is_newly uses item e = subst (λ xs. Contains xs item) (sym (ap (λ b. if b then item ∷ [] else []) (eq-eqb uses 0 e))) (Contains-push [] item)

-- the first k items have been looked at
pub record IsStarting (uses : List ℕ) (k : ℕ) (work : Worklist) : Type 0 where
  pub len : length work.marked.items ≡ length uses
  pub has : (x : ℕ) → x < k → get_or uses x 0 ≡ 0 → HasNode work x
  pub only : (x : ℕ) → HasNode work x → (x < length uses) × (get_or uses x 0 ≡ 0)
  pub waits : (x : ℕ) → HasNode work x → Waits work x

pub starting_begins : (uses : List ℕ) (count : ℕ) (work : Worklist) → count ≡ length uses → IsEmptyWorklist work count → IsStarting uses 0 work
starting_begins uses count work e f = record {
  len = f.len ∙ e;
  has = λ x h. absurd (omega (arith, h));
  only = λ x h. absurd (f.none x h);
  waits = λ x h. absurd (f.none x h);
}

pub starting_goes_on : (uses : List ℕ) (k : ℕ) (v w : Worklist) → k < length uses → Adds v w (newly (get_or uses k 0) k) → IsStarting uses k v → IsStarting uses (k + 1) w
starting_goes_on uses k v w l a s = record {
  len = a.len ∙ s.len;
  has = λ x h z. ⊎_elim (λ m. a.keeps x (s.has x m z)) (λ m. subst (HasNode w) (sym m) (a.has k (is_newly (get_or uses k 0) k (ap (λ y. get_or uses y 0) (sym m) ∙ z)))) (below_or x h);
  only = λ x h. ⊎_elim (λ m. s.only x m) (λ m. let t = newly_is (get_or uses k 0) k x m in (subst (λ y. y < length uses) (sym t.0) l, ap (λ y. get_or uses y 0) t.0 ∙ t.1)) (a.only x h);
  waits = λ x h. ⊎_elim (λ m. a.waits x (s.waits x m)) (λ m. m) (a.fresh x h);
}
  where
    below_or : (x : ℕ) → x < k + 1 → (x < k) ⊎ (x ≡ k)
    below_or x h = grind arith

pub starting_ends : (uses : List ℕ) (k : ℕ) (work : Worklist) → k ≡ length uses → IsStarting uses k work → IsStarted uses work
starting_ends uses k work e s = record { len = s.len; has = λ x h. s.has x (omega (arith, h, e)); only = s.only; waits = s.waits }

pub releasing_begins : (uses : List ℕ) (work : Worklist) → Releases [] uses uses work work
releasing_begins uses work = record {
  len = refl;
  counts = λ x. omega arith;
  added = [];
  adds = none_added work [] (λ n c. absurd (none_in n c));
  spent = λ x c. absurd (none_in x c);
  all = λ x c. absurd (none_in x c);
}

module _ (items old a : List ℕ) (u v : Worklist) (i x : ℕ) (h : i < length items) (e : x ≡ get_or items i x) (ok : IsReleasable items old u) (s : Releases (take i items) old a u v) where
  -- the item has a use left
  pub use_left : 0 < get_or a x 0
  use_left =
      let m = count_more x items i x h e in let c = s.counts x in let t = count_take x (i + 1) items in let o = ap one (eq-eqb x x refl) in let n = ok.enough x in
      omega (arith, m, c, t, o, n)

  pub item_within : x < length a
  item_within = let w = ok.within x (subst (Contains items) (sym e) (Contains-get_or items i x h)) in let l = s.len in omega (arith, w, l)

  pub work_within : x < length v.marked.items
  work_within = let w = item_within in let l = s.len in let m = s.adds.len in let n = ok.marks in omega (arith, w, l, m, n)

  pub releasing_goes_on : (b : List ℕ) (w : Worklist) → b ≡ set a x (get_or a x 0 - 1) → Adds v w (newly (get_or a x 0 - 1) x) → Releases (take (i + 1) items) old b u w
  releasing_goes_on b w q t = subst (λ (b : List ℕ). Releases (take (i + 1) items) old b u w) (sym q) (record {
    len = length-set a x (get_or a x 0 - 1) ∙ s.len;
    counts = λ y. let m = count_more y items i x h e in let c = s.counts y in let l = use_left in ⊎_elim
        (λ (p, r, z). let k = ap (λ n. get_or a n 0) p in omega (arith, m, c, l, r, z, k))
        (λ (r, z). omega (arith, m, c, r, z))
        (at_place y);
    added = s.added ++ newly (get_or a x 0 - 1) x;
    adds = added_more u v w s.added (newly (get_or a x 0 - 1) x) (s.added ++ newly (get_or a x 0 - 1) x) refl s.adds t;
    spent = λ y c. ⊎_elim
        (λ c. let z = s.spent y c in (still y z.0, subst (λ xs. Contains xs y) (sym more) (Contains-append_left (take i items) (x ∷ []) y z.1)))
        (λ c. let z = newly_is (get_or a x 0 - 1) x y c in (
          subst (λ n. get_or (set a x (get_or a x 0 - 1)) n 0 ≡ 0) (sym z.0) (here z.1),
          subst (λ xs. Contains xs y) (sym more) (subst (Contains (take i items ++ x ∷ [])) (sym z.0) (Contains-push (take i items) x)),
        ))
        (Contains-append_cases s.added (newly (get_or a x 0 - 1) x) y c);
    all = λ y c z. ⊎_elim
        (λ (p, r, k). Contains-append_right s.added (newly (get_or a x 0 - 1) x) y (subst (Contains (newly (get_or a x 0 - 1) x)) (sym p) (is_newly (get_or a x 0 - 1) x (sym r ∙ z))))
        (λ (r, k). ⊎_elim
        (λ c. Contains-append_left s.added (newly (get_or a x 0 - 1) x) y (s.all y c (sym r ∙ z)))
        (λ p. absurd (let o = ap one (eq-eqb y x (sym p)) in omega (arith, o, k)))
        (Contains-push_cases (take i items) x y (subst (λ xs. Contains xs y) more c)))
        (at_place y);
  })
    where
      more : take (i + 1) items ≡ take i items ++ x ∷ []
      more = take_more items i x h ∙ ap (λ z. take i items ++ z ∷ []) (sym e)

      at_place : (y : ℕ) → ((y ≡ x) × (get_or (set a x (get_or a x 0 - 1)) y 0 ≡ get_or a x 0 - 1) × (one (nat_eq y x) ≡ 1)) ⊎ ((get_or (set a x (get_or a x 0 - 1)) y 0 ≡ get_or a y 0) × (one (nat_eq y x) ≡ 0))
      at_place y = read_set a x (get_or a x 0 - 1) y item_within

      still : (y : ℕ) → get_or a y 0 ≡ 0 → get_or (set a x (get_or a x 0 - 1)) y 0 ≡ 0
      still y z = ⊎_elim (λ (p, r, k). let n = ap (λ n. get_or a n 0) p in omega (arith, r, n, z)) (λ (r, k). r ∙ z) (at_place y)

      here : get_or a x 0 - 1 ≡ 0 → get_or (set a x (get_or a x 0 - 1)) x 0 ≡ 0
      here z = ⊎_elim (λ (p, r, k). r ∙ z) (λ (r, k). absurd (let o = ap one (eq-eqb x x refl) in omega (arith, o, k))) (at_place x)

-- one place more is excused
pub keeping_less : (bs : List Bool) (rows : List (List ℕ)) (k x : ℕ) → k < length bs → get_or bs k false ≡ false → keeping (set bs k true) rows x + count_of x (row_at rows k) ≡ keeping bs rows x
keeping_less [] rows k x h e = absurd (omega (arith, h))
keeping_less (b ∷ bs) [] zero x h e = refl
keeping_less (b ∷ bs) [] (suc k) x h e = refl
keeping_less (true ∷ bs) (row ∷ rows) zero x h e = absurd (cc e)
keeping_less (false ∷ bs) (row ∷ rows) zero x h e = omega arith
keeping_less (b ∷ bs) (row ∷ rows) (suc k) x h e = let r = keeping_less bs rows k x (omega (arith, h)) e in omega (arith, r)

pub keeping_zero : (bs : List Bool) (rows : List (List ℕ)) (k x : ℕ) → length bs ≡ length rows → keeping bs rows x ≡ 0 → Contains (row_at rows k) x → IsMarked bs k
keeping_zero [] [] k x l z c = absurd (none_in x c)
keeping_zero [] (row ∷ rows) k x l z c = absurd (omega (arith, l))
keeping_zero (b ∷ bs) [] k x l z c = absurd (none_in x c)
keeping_zero (true ∷ bs) (row ∷ rows) zero x l z c = refl
keeping_zero (false ∷ bs) (row ∷ rows) zero x l z c = absurd (let n = counted x row c in omega (arith, n, z))
keeping_zero (b ∷ bs) (row ∷ rows) (suc k) x l z c = keeping_zero bs rows k x (omega (arith, l)) (omega (arith, z)) c

pub none_keeping : (bs : List Bool) (rows : List (List ℕ)) (x : ℕ) → length bs ≡ length rows → ((k : ℕ) → Contains (row_at rows k) x → IsMarked bs k) → keeping bs rows x ≡ 0
none_keeping [] rows x l f = refl
none_keeping (b ∷ bs) [] x l f = refl
none_keeping (true ∷ bs) (row ∷ rows) x l f = let r = none_keeping bs rows x (omega (arith, l)) (λ k c. f (suc k) c) in omega (arith, r)
none_keeping (false ∷ bs) (row ∷ rows) x l f = ⊎_elim
    (λ n. absurd (let q = f 0 (contained x row n) in cc))
    (λ n. let r = none_keeping bs rows x (omega (arith, l)) (λ k c. f (suc k) c) in omega (arith, r, n))
    (some_or_none (count_of x row))

module _ (keeps : List (List ℕ)) (excused : List Bool) (old : List ℕ) (u : Worklist) (ok : IsCounted keeps excused old u) where
  pub releasable : (k : ℕ) → k < length keeps → get_or excused k false ≡ false → IsReleasable (row_at keeps k) old u
  releasable k h e = record {
    marks = ok.marks;
    within = ok.within k;
    enough = λ x. let l = ok.places in let q = keeping_less excused keeps k x (omega (arith, h, l)) e in let n = ok.enough x in omega (arith, q, n);
  }

  pub place_excused : (k : ℕ) (new : List ℕ) (w : Worklist) → k < length keeps → get_or excused k false ≡ false → Releases (row_at keeps k) old new u w → ExcusesAll keeps (λ j. j ≡ k) excused (set excused k true) old new u w
  place_excused k new w h e s = record {
    counted = record {
      places = length-set excused k true ∙ ok.places;
      marks = let a = s.adds.len in let b = s.len in let m = ok.marks in omega (arith, a, b, m);
      within = λ j x c. let l = ok.within j x c in let b = s.len in omega (arith, l, b);
      enough = λ x. let q = less x in let n = ok.enough x in let c = s.counts x in omega (arith, q, n, c);
    };
    len = s.len;
    marked = λ j. (
      (λ m. ⊎_elim (λ o. inl o) (λ t. inr t) (mark_only excused k j m)),
      (λ m. ⊎_elim (λ o. mark_kept excused k j o) (λ c. subst (IsMarked (set excused k true)) (sym c) (mark_put excused k here)) m),
    );
    counts = λ x. let q = less x in let c = s.counts x in omega (arith, q, c);
    less = λ x. let c = s.counts x in omega (arith, c);
    added = s.added;
    adds = s.adds;
    spent = λ x c. let z = s.spent x c in (z.0, (let l = ok.within k x z.1 in let b = s.len in omega (arith, l, b)));
    all = λ x z. ⊎_elim
        (λ n. inr (s.all x (contained x (row_at keeps k) n) z))
        (λ n. inl (let c = s.counts x in omega (arith, c, z, n)))
        (some_or_none (count_of x (row_at keeps k)));
  }
    where
      here : k < length excused
      here = let l = ok.places in omega (arith, h, l)

      less : (x : ℕ) → keeping (set excused k true) keeps x + count_of x (row_at keeps k) ≡ keeping excused keeps x
      less x = keeping_less excused keeps k x here e

  -- the places were excused already
  pub nothing_excused : (Such : ℕ → Type 0) → ((k : ℕ) → Such k → IsMarked excused k) → ExcusesAll keeps Such excused excused old old u u
  nothing_excused Such f = record {
    counted = ok;
    len = refl;
    marked = λ j. ((λ m. inl m), (λ m. ⊎_elim (λ o. o) (λ c. f j c) m));
    counts = λ x. refl;
    less = λ x. omega arith;
    added = [];
    adds = none_added u [] (λ n c. absurd (none_in n c));
    spent = λ x c. absurd (none_in x c);
    all = λ x z. inl z;
  }

module _ (keeps : List (List ℕ)) (P Q R : ℕ → Type 0) where
  pub excused_then : ((k : ℕ) → P k → R k) → ((k : ℕ) → Q k → R k) → ((k : ℕ) → R k → P k ⊎ Q k) → (p q r : List Bool) (a b c : List ℕ) (u v w : Worklist) → ExcusesAll keeps P p q a b u v → ExcusesAll keeps Q q r b c v w → ExcusesAll keeps R p r a c u w
  excused_then f g h p q r a b c u v w s t = record {
    counted = t.counted;
    len = t.len ∙ s.len;
    marked = λ j. (
      (λ m. ⊎_elim
          (λ m. ⊎_elim (λ m. inl m) (λ m. inr (f j m)) ((s.marked j).0 m))
          (λ m. inr (g j m))
          ((t.marked j).0 m)),
      (λ m. ⊎_elim
          (λ m. (t.marked j).1 (inl ((s.marked j).1 (inl m))))
          (λ m. ⊎_elim (λ m. (t.marked j).1 (inl ((s.marked j).1 (inr m)))) (λ m. (t.marked j).1 (inr m)) (h j m))
          m),
    );
    counts = λ x. let m = s.counts x in let n = t.counts x in omega (arith, m, n);
    less = λ x. let m = s.less x in let n = t.less x in omega (arith, m, n);
    added = s.added ++ t.added;
    adds = added_more u v w s.added t.added (s.added ++ t.added) refl s.adds t.adds;
    spent = λ x m. ⊎_elim
        (λ m. let z = s.spent x m in let l = t.less x in let n = t.len in (omega (arith, z.0, l), omega (arith, z.1, n)))
        (λ m. t.spent x m)
        (Contains-append_cases s.added t.added x m);
    all = λ x z. ⊎_elim
        (λ y. ⊎_elim (λ y. inl y) (λ m. inr (Contains-append_left s.added t.added x m)) (s.all x y))
        (λ m. inr (Contains-append_right s.added t.added x m))
        (t.all x z);
  }

module _ (keeps : List (List ℕ)) (P Q : ℕ → Type 0) where
  pub excused_as : ((k : ℕ) → P k → Q k) → ((k : ℕ) → Q k → P k) → (p q : List Bool) (a b : List ℕ) (u v : Worklist) → ExcusesAll keeps P p q a b u v → ExcusesAll keeps Q p q a b u v
  excused_as f g p q a b u v s = record {
    counted = s.counted;
    len = s.len;
    marked = λ j. ((λ m. ⊎_elim (λ m. inl m) (λ m. inr (f j m)) ((s.marked j).0 m)), (λ m. (s.marked j).1 (⊎_elim (λ m. inl m) (λ m. inr (g j m)) m)));
    counts = s.counts;
    less = s.less;
    added = s.added;
    adds = s.adds;
    spent = s.spent;
    all = s.all;
  }
