-- The greatest numbers of the components that no edge leaves.
use Rattle.std.proofs.Common.{◌≡◌, ◌⊎◌, inl, inr, ⊎_elim, ℕ, zero, suc, ◌+◌, ◌<◌, ◌≤◌, List, [], ◌∷◌, ◌++◌, Some, Bool, true, false, length, get_or, take, refl, sym, ap, ◌∙◌, subst, arith}
use Rattle.std.proofs.Math.ListN.{set, replicate}
use Rattle.std.specs.Prelude.{All, Contains, slice_get}
use Rattle.std.proofs.lemmas.Bool.{cases_eq}
use Rattle.std.proofs.lemmas.List.{append_assoc, length-append, length-set, take_more}
use Rattle.std.proofs.lemmas.List.Elements.{All-contains, Contains-append_left, Contains-push, Contains-push_cases}
use Rattle.std.proofs.lemmas.Option.{none-some, slice_get-get_or, get_or_from_slice_get}
use Rattle.std.specs.declared.vec.Vec.{Vec}
use Rattle.std.specs.declared.alloc.Global.{Global}
use Rattle.digraph.specs.Graph.{successors, InRange, Reaches, Here, Along}
use Rattle.digraph.specs.Marks.{IsMarked}
use Rattle.digraph.specs.Sccs.{nodes_of, IsInPart, AreSccs}
use Rattle.digraph.specs.declared.components.Scc.{Scc}
use Rattle.digraph.proofs.Marking.{mark_kept, mark_put, mark_only}
use Rattle.ir_graph.specs.Graphs.{AreDistinctNodes}
use Rattle.ir_graph.specs.Sinks.{IsSinkEnd, AreSinkEnds, LeadsOut, MarksAll, AddsEnd, IsLeft, IsEmpty, Ends}
use Rattle.ir_graph.proofs.Places.{get_front, get_mid, distinct_push, distinct_none}

-- one more number is marked
pub marks_more : (old new : List Bool) (row : List ℕ) (i x : ℕ) → i < length row → x ≡ get_or row i 0 → x < length old → MarksAll old new (take i row) → MarksAll old (set new x true) (take (i + 1) row)
marks_more old new row i x h e l s = record {
  len = length-set new x true ∙ s.len;
  has = λ n c. ⊎_elim (λ a. mark_kept new x n (s.has n a)) (λ q. subst (λ y. IsMarked (set new x true) y) q (mark_put new x (let m = s.len in omega (arith, m, l)))) (Contains-push_cases (take i row) x n (subst (λ xs. Contains xs n) grown c));
  keeps = λ n m. mark_kept new x n (s.keeps n m);
  only = λ n m. ⊎_elim
      (λ a. ⊎_elim (λ b. inl b) (λ b. inr (subst (λ xs. Contains xs n) (sym grown) (Contains-append_left (take i row) (x ∷ []) n b))) (s.only n a))
      (λ q. inr (subst (λ xs. Contains xs n) (sym grown) (subst (λ y. Contains (take i row ++ x ∷ []) y) (sym q) (Contains-push (take i row) x))))
      (mark_only new x n m);
}
  where
    grown : take (i + 1) row ≡ take i row ++ x ∷ []
    grown = take_more row i 0 h ∙ ap (λ y. take i row ++ y ∷ []) (sym e)

pub no_marks : (xs : List Bool) (row : List ℕ) → row ≡ [] → MarksAll xs xs row
no_marks xs row e = record {
  len = refl;
  has = λ n c. let d = subst (λ ys. Contains ys n) e c in absurd (omega (arith, d.1));
  keeps = λ n m. m;
  only = λ n m. inl m;
}

none_marked : (k n : ℕ) → IsMarked (replicate k false) n → ⊥
none_marked zero n h = none-some true h
none_marked (suc k) zero h = cc
none_marked (suc k) (suc n) h = none_marked k n h

-- the components behind some have been looked at
pub record Ended (next : ℕ → List ℕ) (count : ℕ) (parts rest : List (Scc ℕ)) (marks : List Bool) (ends : List ℕ) : Type 0 where
  pub len : length marks ≡ count
  pub behind : List (Scc ℕ)
  pub parts_are : parts ≡ rest ++ behind
  pub marked : (n : ℕ) → IsMarked marks n → (k : ℕ) × (length rest ≤ k) × IsInPart parts k n
  pub marks_all : (k n : ℕ) → length rest ≤ k → IsInPart parts k n → IsMarked marks n
  pub only : (n : ℕ) → Contains ends n → IsSinkEnd next n × ((k : ℕ) × (length rest ≤ k) × IsInPart parts k n)
  pub all : (k n : ℕ) → length rest ≤ k → IsInPart parts k n → IsSinkEnd next n → Contains ends n
  pub once : AreDistinctNodes ends

nothing_in : (parts : List (Scc ℕ)) (k n : ℕ) → length parts ≤ k → IsInPart parts k n → ⊥
nothing_in [] k n h c = omega (arith, c.1)
nothing_in (p ∷ parts) zero n h c = omega (arith, h)
nothing_in (p ∷ parts) (suc k) n h c = nothing_in parts k n (omega (arith, h)) c

no_member : (xs ys : List ℕ) (n : ℕ) → xs ≡ [] → Contains xs n → ⊥
no_member xs ys n e c = let d = subst (λ zs. Contains zs n) e c in omega (arith, d.1)

pub ended_none : (next : ℕ → List ℕ) (count : ℕ) (parts : List (Scc ℕ)) (marks : List Bool) (ends : List ℕ) → marks ≡ replicate count false → length marks ≡ count → ends ≡ [] → parts ≡ parts ++ [] → Ended next count parts parts marks ends
ended_none next count parts marks ends e l d p = record {
  len = l;
  behind = [];
  parts_are = p;
  marked = λ n m. absurd (none_marked count n (subst (λ ms. IsMarked ms n) e m));
  marks_all = λ k n h c. absurd (nothing_in parts k n h c);
  only = λ n c. absurd (no_member ends ends n d c);
  all = λ k n h c s. absurd (nothing_in parts k n h c);
  once = subst (λ xs. AreDistinctNodes xs) (sym d) distinct_none;
}

module _ (g : List (Vec ℕ Global)) (range : InRange g) (parts : List (Scc ℕ)) (t : AreSccs (successors g) (λ n. n < length g) parts) where
  module _ (rest rest' : List (Scc ℕ)) (part : Scc ℕ) (popped : rest ≡ rest' ++ part ∷ []) (marks marks' : List Bool) (ends ends' : List ℕ) (s : Ended (successors g) (length g) parts rest marks ends) where
    long : length rest ≡ length rest' + 1
    long = ap length popped ∙ length-append rest' (part ∷ [])

    here : slice_get parts (length rest') ≡ Some part
    here = subst (λ ps. slice_get ps (length rest') ≡ Some part) (sym s.parts_are)
        (get_front rest s.behind (length rest') part (subst (λ ps. slice_get ps (length rest') ≡ Some part) (sym popped) (get_mid rest' [] part)))

    pub in_part : (n : ℕ) → Contains part.nodes.items n → IsInPart parts (length rest') n
    in_part n c = subst (λ o. Contains (nodes_of o) n) (sym here) c

    of_part : (n : ℕ) → IsInPart parts (length rest') n → Contains part.nodes.items n
    of_part n c = subst (λ o. Contains (nodes_of o) n) here c

    later_or : (k : ℕ) → length rest' ≤ k → (k ≡ length rest') ⊎ (length rest ≤ k)
    later_or k h = ⊎_elim (λ e. inl e) (λ f. inr (let l = long in omega (arith, h, l, f))) (cases_eq k (length rest'))

    weaker : (n : ℕ) → (k : ℕ) × (length rest ≤ k) × IsInPart parts k n → (k : ℕ) × (length rest' ≤ k) × IsInPart parts k n
    weaker n h = (h.0, let a = h.1 in let l = long in omega (arith, a, l), h.2)

    pub nodes_in : All (λ n. n < length g) part.nodes.items
    nodes_in = λ i d h. t.within (length rest') _ (in_part _ (there part.nodes.items i d h))
      where
        there : (xs : List ℕ) (i d : ℕ) → i < length xs → Contains xs (get_or xs i d)
        there xs i d h = (i, h, get_or_from_slice_get xs i (get_or xs i d) (get_or xs i d) (slice_get-get_or xs i d h))

    -- what is not later is not marked
    unmarked : (n : ℕ) → IsInPart parts (length rest') n → IsMarked marks n → ⊥
    unmarked n c m = let k = s.marked n m in let e = t.apart (length rest') k.0 n c k.2 in let a = k.1 in let l = long in omega (arith, e, a, l)

    -- where no edge leads out, all that is reached is inside
    closed : (LeadsOut (successors g) marks part.nodes.items → ⊥) → (a m : ℕ) → IsInPart parts (length rest') a → Reaches (successors g) a m → IsInPart parts (length rest') m
    closed f a m c Here = c
    closed f a m c (Along {b = b} r d) =
        let i = closed f a b c r in
        let k = t.covers m (range b m d) in
        ⊎_elim
        (λ e. subst (λ x. IsInPart parts x m) e k.1)
        (λ h. absurd (f (b, m, of_part b i, d, s.marks_all k.0 m h k.1)))
        (later_or k.0 (t.topological (length rest') k.0 b m i k.1 d))

    sink_end : (LeadsOut (successors g) marks part.nodes.items → ⊥) → (last : ℕ) → Contains part.nodes.items last → All (λ n. n ≤ last) part.nodes.items → IsSinkEnd (successors g) last
    sink_end f last c a m r =
        let i = closed f last m (in_part last c) r in
        (t.both_ways (length rest') m last i (in_part last c), All-contains (λ n. n ≤ last) part.nodes.items m a (of_part m i))

    only_ends : AddsEnd (successors g) marks part.nodes.items ends ends' → (n : ℕ) → Contains ends' n → IsSinkEnd (successors g) n × ((k : ℕ) × (length rest' ≤ k) × IsInPart parts k n)
    only_ends (IsLeft o e) n c = let h = s.only n (subst (λ xs. Contains xs n) e c) in (h.0, weaker n h.1)
    only_ends (IsEmpty o e) n c = let h = s.only n (subst (λ xs. Contains xs n) e c) in (h.0, weaker n h.1)
    only_ends (Ends last f l a e) n c = ⊎_elim
        (λ b. let h = s.only n b in (h.0, weaker n h.1))
        (λ q. subst (λ x. IsSinkEnd (successors g) x × ((k : ℕ) × (length rest' ≤ k) × IsInPart parts k x)) q (sink_end f last l a, (length rest', omega arith, in_part last l)))
        (Contains-push_cases ends last n (subst (λ xs. Contains xs n) e c))

    own_end : AddsEnd (successors g) marks part.nodes.items ends ends' → (n : ℕ) → Contains part.nodes.items n → IsSinkEnd (successors g) n → Contains ends' n
    own_end (IsLeft o e) n c h =
        let r = t.both_ways (length rest') n o.0 (in_part n c) (in_part o.0 o.2) in
        let b = h o.1 (Along r o.3) in
        absurd (unmarked o.1 (t.whole (length rest') n o.1 (in_part n c) (Along r o.3) b.0) o.4)
    own_end (IsEmpty o e) n c h = let a = c.1 in absurd (omega (arith, a, o))
    own_end (Ends last f l a e) n c h =
        let low = All-contains (λ x. x ≤ last) part.nodes.items n a c in
        let high = (h last (t.both_ways (length rest') n last (in_part n c) (in_part last l))).1 in
        let q : last ≡ n = omega (arith, low, high) in
        subst (λ xs. Contains xs n) (sym e) (subst (λ x. Contains (ends ++ last ∷ []) x) q (Contains-push ends last))

    old_end : AddsEnd (successors g) marks part.nodes.items ends ends' → (n : ℕ) → Contains ends n → Contains ends' n
    old_end (IsLeft o e) n c = subst (λ xs. Contains xs n) (sym e) c
    old_end (IsEmpty o e) n c = subst (λ xs. Contains xs n) (sym e) c
    old_end (Ends last f l a e) n c = subst (λ xs. Contains xs n) (sym e) (Contains-append_left ends (last ∷ []) n c)

    ends_once : AddsEnd (successors g) marks part.nodes.items ends ends' → AreDistinctNodes ends'
    ends_once (IsLeft o e) = subst (λ xs. AreDistinctNodes xs) (sym e) s.once
    ends_once (IsEmpty o e) = subst (λ xs. AreDistinctNodes xs) (sym e) s.once
    ends_once (Ends last f l a e) = subst (λ xs. AreDistinctNodes xs) (sym e) (distinct_push ends last s.once
        (λ c. let k = (s.only last c).1 in let q = t.apart (length rest') k.0 last (in_part last l) k.2 in let b = k.1 in let w = long in omega (arith, q, b, w)))

    pub ended_more : MarksAll marks marks' part.nodes.items → AddsEnd (successors g) marks part.nodes.items ends ends' → Ended (successors g) (length g) parts rest' marks' ends'
    ended_more m a = record {
      len = m.len ∙ s.len;
      behind = part ∷ s.behind;
      parts_are = s.parts_are ∙ ap (λ ps. ps ++ s.behind) popped ∙ simp append_assoc;
      marked = λ n h. ⊎_elim (λ b. weaker n (s.marked n b)) (λ c. (length rest', omega arith, in_part n c)) (m.only n h);
      marks_all = λ k n h c. ⊎_elim (λ e. m.has n (of_part n (subst (λ x. IsInPart parts x n) e c))) (λ l. m.keeps n (s.marks_all k n l c)) (later_or k h);
      only = only_ends a;
      all = λ k n h c e. ⊎_elim (λ q. own_end a n (of_part n (subst (λ x. IsInPart parts x n) q c)) e) (λ l. old_end a n (s.all k n l c e)) (later_or k h);
      once = ends_once a;
    }

  -- all components have been looked at
  pub ended_all : (rest : List (Scc ℕ)) (marks : List Bool) (ends : List ℕ) → rest ≡ [] → Ended (successors g) (length g) parts rest marks ends → AreSinkEnds (successors g) (length g) ends
  ended_all rest marks ends e s = record {
    only = λ n c. let h = s.only n c in (t.within h.1.0 n h.1.2, h.0);
    all = λ n h i. let k = t.covers n h in s.all k.0 n (let z = ap length e in omega (arith, z)) k.1 i;
    once = s.once;
  }
