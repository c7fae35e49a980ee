-- What gathering a part keeps.
use Rattle.std.proofs.Common.{◌≡◌, ◌⊎◌, inl, inr, ⊎_elim, ℕ, ◌+◌, List, [], ◌∷◌, ◌++◌, Bool, false, Vec, Global, length, get_or, sym, ap, ◌∙◌, subst, arith}
use Rattle.std.specs.Prelude.{Contains}
use Rattle.std.proofs.lemmas.List.Elements.{Contains-push, Contains-push_cases, Contains-append_left}
use Rattle.digraph.specs.declared.worklist.Worklist.{Worklist}
use Rattle.digraph.specs.Marks.{IsMarked}
use Rattle.digraph.specs.Work.{mark, HasNode, Waits, Adds, Takes, IsDone}
use Rattle.digraph.specs.Counts.{one, count_of}
use Rattle.digraph.proofs.Counting.{one_bound, count-append}
use Rattle.digraph.proofs.Marking.{only_one}
use Rattle.digraph.specs.Gathers.{LeadsUnmarked, Begin, Go, Gathers}

module _ (next : ℕ → List ℕ) (root : ℕ) (a : Worklist) where
  pub record IsGathering (w : Worklist) (part : List ℕ) : Type 0 where
    pub len : length w.marked.items ≡ length a.marked.items
    pub begun : HasNode w root
    pub keeps : (n : ℕ) → HasNode a n → HasNode w n
    pub cases : (n : ℕ) → HasNode w n → HasNode a n ⊎ (Contains part n ⊎ Waits w n)
    pub marked : (n : ℕ) → Contains part n → HasNode w n
    pub sound : (HasNode a root → ⊥) → (n : ℕ) → Contains part n ⊎ Waits w n → LeadsUnmarked next a root n
    pub closed : (n m : ℕ) → Contains part n → Contains (next n) m → HasNode w m
    pub once : (n : ℕ) → (count_of n part + count_of n w.waiting.items) + mark a n ≡ mark w n

  pub none_waits : (w : Worklist) (n : ℕ) → w.waiting.items ≡ [] → Waits w n → ⊥
  none_waits w n e h = let h' : Contains [] n = subst (λ xs. Contains xs n) e h in absurd (omega (arith, h'.1))

  none_in : (n : ℕ) → Contains [] n → ⊥
  none_in n h = absurd (omega (arith, h.1))

  pub gathering_begins : (w : Worklist) → a.waiting.items ≡ [] → Adds a w (root ∷ []) → IsGathering w []
  gathering_begins w e d = record {
    len = d.len;
    begun = d.has root (Contains-push [] root);
    keeps = d.keeps;
    cases = λ n h. ⊎_elim (λ o. inl o) (λ o. inr (inr o)) (d.fresh n h);
    marked = λ n h. absurd (none_in n h);
    sound = λ free n h. ⊎_elim (λ o. absurd (none_in n o)) (λ o. ⊎_elim (λ p. absurd (none_waits a n e p)) (λ p. ⊎_elim (λ q. absurd (p q)) (λ q. subst (LeadsUnmarked next a root) (sym (only_one root n q)) (Begin free)) (d.only n (marks w n o))) (d.news n o)) h;
    closed = λ n m h. absurd (none_in n h);
    once = λ n. let c = d.counts n in let z = ap (count_of n) e in omega (arith, c, z);
  }
    where
      marks : (w : Worklist) (n : ℕ) → Waits w n → HasNode w n
      marks w n o = subst (IsMarked w.marked.items) o.2 (w.waiting_marked o.0 n o.1)

  pub gathering_goes_on : (u v w : Worklist) (node : ℕ) (part : List ℕ) → IsGathering u part → Takes u v node → v.marked ≡ u.marked → Adds v w (next node) → IsGathering w (part ++ node ∷ [])
  gathering_goes_on u v w node part s t e d = record {
    len = d.len ∙ (ap (λ (m : Vec Bool Global). length m.items) e ∙ s.len);
    begun = d.keeps root (at_v root s.begun);
    keeps = λ n h. d.keeps n (at_v n (s.keeps n h));
    cases = λ n h. ⊎_elim
        (λ o. ⊎_elim (λ p. inl p) (λ p. inr (⊎_elim (λ q. inl (Contains-append_left part (node ∷ []) n q)) (λ q. ⊎_elim (λ r. inr (d.waits n r)) (λ r. inl (subst (Contains (part ++ node ∷ [])) (sym r) (Contains-push part node))) (t.rest n q)) p)) (s.cases n (at_u n o)))
        (λ o. inr (inr o))
        (d.fresh n h);
    marked = λ n h. d.keeps n (at_v n (⊎_elim (λ o. s.marked n o) (λ q. subst (HasNode u) q t.has) (Contains-push_cases part node n h)));
    sound = λ free n h. ⊎_elim
        (λ o. ⊎_elim (λ p. s.sound free n (inl p)) (λ q. s.sound free n (inr (subst (Waits u) q t.waited))) (Contains-push_cases part node n o))
        (λ o. ⊎_elim (λ p. s.sound free n (inr (t.less n p)))
        (λ p. ⊎_elim (λ q. absurd (p q)) (λ q. Go (s.sound free node (inr t.waited)) q (λ z. p (at_v n (s.keeps n z)))) (d.only n (marks w n o)))
        (d.news n o))
        h;
    once = λ n. let x = s.once n in let y = t.counts n in let z = d.counts n in let l = count-append n part (node ∷ []) in let q = ap (λ (m : Vec Bool Global). one (get_or m.items n false)) e in omega (arith, x, y, z, l, q);
    closed = λ n m h c. ⊎_elim (λ o. d.keeps m (at_v m (s.closed n m o c))) (λ q. d.has m (subst (λ k. Contains (next k) m) (sym q) c)) (Contains-push_cases part node n h);
  }
    where
      at_v : (n : ℕ) → HasNode u n → HasNode v n
      at_v n h = subst (λ (x : Vec Bool Global). IsMarked x.items n) (sym e) h

      at_u : (n : ℕ) → HasNode v n → HasNode u n
      at_u n h = subst (λ (x : Vec Bool Global). IsMarked x.items n) e h

      marks : (w : Worklist) (n : ℕ) → Waits w n → HasNode w n
      marks w n o = subst (IsMarked w.marked.items) o.2 (w.waiting_marked o.0 n o.1)

  pub gathering_ends : (u w : Worklist) (part : List ℕ) → IsGathering u part → IsDone u → w.marked ≡ u.marked → w.waiting.items ≡ [] → Gathers next root a w part
  gathering_ends u w part s d e z = record {
    len = ap (λ (m : Vec Bool Global). length m.items) e ∙ s.len;
    waits = z;
    keeps = λ n h. at_w n (s.keeps n h);
    cases = λ n h. ⊎_elim (λ o. inl o) (λ o. ⊎_elim (λ p. inr p) (λ p. absurd (d.done n p)) o) (s.cases n (subst (λ (x : Vec Bool Global). IsMarked x.items n) e h));
    marked = λ n h. at_w n (s.marked n h);
    sound = λ free n h. s.sound free n (inl h);
    begun = at_w root s.begun;
    once = λ n. let x = s.once n in let y = one_bound (get_or u.marked.items n false) in omega (arith, x, y);
    closed = λ n m h c. at_w m (s.closed n m h c);
  }
    where
      at_w : (n : ℕ) → HasNode u n → HasNode w n
      at_w n h = subst (λ (x : Vec Bool Global). IsMarked x.items n) (sym e) h
