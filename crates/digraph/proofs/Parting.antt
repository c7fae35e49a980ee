-- What taking one component after the other keeps.
use Rattle.std.proofs.Common.{zero, ◌≡◌, ◌⊎◌, inl, inr, ⊎_elim, ℕ, suc, ◌<◌, ◌≤◌, List, [], ◌∷◌, ◌++◌, true, Option, None, Some, Vec, Global, length, refl, sym, ap, ◌∙◌, subst, arith}
use Rattle.std.specs.Prelude.{Contains, slice_get, IsTrue, ◌↔◌}
use Rattle.std.proofs.lemmas.Option.{slice_get_within}
use Rattle.std.proofs.lemmas.List.Elements.{Contains-push, Contains-push_cases, Contains-append_left, Contains-append_cases}
use Rattle.digraph.specs.declared.worklist.Worklist.{Worklist}
use Rattle.digraph.specs.Graph.{row_items, successors, InRange, Reaches, Here, Along}
use Rattle.digraph.specs.Counts.{count_of}
use Rattle.digraph.specs.Work.{HasNode, IsEmptyWorklist}
use Rattle.digraph.proofs.Counting.{once_at}
use Rattle.digraph.specs.Visits.{Traversal, empty, Visits}
use Rattle.digraph.specs.declared.components.Scc.{Scc}
use Rattle.digraph.specs.Transpose.{AreTransposed}
use Rattle.digraph.specs.Gathers.{AnyUnmarked, LeadsUnmarked, Begin, Go, Gathers}
use Rattle.digraph.specs.Sccs.{nodes_of, cyclic_of, OnCycle, IsInPart, AreSccs}
use Rattle.digraph.proofs.Segments.{Segmented, None as NoSegments, grown, reach_on, LastSegment, last_segment}

none_in : (x : ℕ) → Contains [] x → ⊥
none_in x h = absurd (omega (arith, h.1))

in_bounds : (parts : List (Scc ℕ)) (k n : ℕ) → IsInPart parts k n → k < length parts
in_bounds [] k n h = absurd (none_in n h)
in_bounds (p ∷ ps) zero n h = omega arith
in_bounds (p ∷ ps) (suc k) n h = let q = in_bounds ps k n h in omega (arith, q)

in_old : (parts : List (Scc ℕ)) (s : Scc ℕ) (k n : ℕ) → IsInPart parts k n → IsInPart (parts ++ s ∷ []) k n
in_old [] s k n h = absurd (none_in n h)
in_old (p ∷ ps) s zero n h = h
in_old (p ∷ ps) s (suc k) n h = in_old ps s k n h

in_new : (parts : List (Scc ℕ)) (s : Scc ℕ) (n : ℕ) → Contains s.nodes.items n → IsInPart (parts ++ s ∷ []) (length parts) n
in_new [] s n h = h
in_new (p ∷ ps) s n h = in_new ps s n h

in_cases : (parts : List (Scc ℕ)) (s : Scc ℕ) (k n : ℕ) → IsInPart (parts ++ s ∷ []) k n → IsInPart parts k n ⊎ ((k ≡ length parts) × Contains s.nodes.items n)
in_cases [] s zero n h = inr (refl, h)
in_cases [] s (suc k) n h = absurd (none_in n h)
in_cases (p ∷ ps) s zero n h = inl h
in_cases (p ∷ ps) s (suc k) n h = ⊎_elim (λ a. inl a) (λ a. inr (ap suc a.0, a.1)) (in_cases ps s k n h)

old_part : (parts : List (Scc ℕ)) (s : Scc ℕ) (k : ℕ) → k < length parts → slice_get (parts ++ s ∷ []) k ≡ slice_get parts k
old_part [] s k h = absurd (omega arith)
old_part (p ∷ ps) s zero h = refl
old_part (p ∷ ps) s (suc k) h = old_part ps s k (omega arith)

new_part : (parts : List (Scc ℕ)) (s : Scc ℕ) → slice_get (parts ++ s ∷ []) (length parts) ≡ Some s
new_part [] s = refl
new_part (p ∷ ps) s = new_part ps s

part_cases : (P : Option (Scc ℕ) → Type 0) → P None → (parts : List (Scc ℕ)) (s : Scc ℕ) → ((k : ℕ) → P (slice_get parts k)) → P (Some s) → (k : ℕ) → P (slice_get (parts ++ s ∷ []) k)
part_cases P z [] s h q zero = q
part_cases P z [] s h q (suc k) = z
part_cases P z (p ∷ ps) s h q zero = h 0
part_cases P z (p ∷ ps) s h q (suc k) = part_cases P z ps s (λ j. h (suc j)) q k

module _ (g : List (Vec ℕ Global)) where
  pub record Parted (w : Worklist) (post : List ℕ) (parts : List (Scc ℕ)) : Type 0 where
    pub len : length w.marked.items ≡ length g
    pub waits : w.waiting.items ≡ []
    pub segmented : Segmented (successors g) post
    pub post_in : (n : ℕ) → Contains post n → n < length g
    pub rest : (n : ℕ) → n < length g → HasNode w n ⊎ Contains post n
    pub inside : (k n : ℕ) → IsInPart parts k n → HasNode w n
    pub found : (n : ℕ) → HasNode w n → (k : ℕ) × IsInPart parts k n
    pub closed : (m n : ℕ) → HasNode w n → Contains (successors g m) n → HasNode w m
    pub apart : (i j n : ℕ) → IsInPart parts i n → IsInPart parts j n → i ≡ j
    pub both_ways : (k n m : ℕ) → IsInPart parts k n → IsInPart parts k m → Reaches (successors g) n m
    pub whole : (k n m : ℕ) → IsInPart parts k n → Reaches (successors g) n m → Reaches (successors g) m n → IsInPart parts k m
    pub topological : (i j n m : ℕ) → IsInPart parts i n → IsInPart parts j m → Contains (successors g n) m → i ≤ j
    pub once : (k n : ℕ) → count_of n (nodes_of (slice_get parts k)) ≤ 1
    pub cyclic : (k n : ℕ) → IsInPart parts k n → IsTrue (cyclic_of (slice_get parts k)) ↔ OnCycle (successors g) n

  pub source_in : (n m : ℕ) → Contains (successors g n) m → n < length g
  source_in n m h = go (slice_get g n) refl
    where
      go : (o : Option (Vec ℕ Global)) → slice_get g n ≡ o → n < length g
      go None e = absurd (none_in m (subst (λ x. Contains (row_items x) m) e h))
      go (Some row) e = slice_get_within g n row e

  reach_in : (n m : ℕ) → InRange g → n < length g → Reaches (successors g) n m → m < length g
  reach_in n m r h Here = h
  reach_in n m r h (Along {b = b} p e) = r b m e

  pub parting_begins : (w : Worklist) (nodes : List ℕ) (q : Traversal ℕ) → InRange g → IsEmptyWorklist w (length g) → ((k : ℕ) → k < length g → Contains nodes k) → ((k : ℕ) → Contains nodes k → k < length g) → Visits (successors g) empty nodes q → Parted w q.left []
  parting_begins w nodes q r f all only v =
      let h = grown (successors g) v (record { segmented = NoSegments; succ = λ a b c. absurd (none_in a c) }) in
      record {
        len = f.len;
        waits = f.waits;
        segmented = h.1.segmented;
        post_in = λ n c. let x = h.0.from n (subst (λ xs. Contains xs n) h.0.left c) in reach_in x.0 n r (only x.0 x.1) x.2;
        rest = λ n c. inr (⊎_elim (λ a. absurd (none_in n a)) (λ a. subst (λ xs. Contains xs n) (sym h.0.left) a) (h.0.only n (h.0.all n (all n c))));
        inside = λ k n a. absurd (none_in n a);
        found = λ n a. absurd (f.none n a);
        closed = λ m n a. absurd (f.none n a);
        apart = λ i j n a. absurd (none_in n a);
        both_ways = λ k n m a. absurd (none_in n a);
        whole = λ k n m a. absurd (none_in n a);
        topological = λ i j n m a. absurd (none_in n a);
        once = λ k n. omega arith;
        cyclic = λ k n a. absurd (none_in n a);
      }

  pub passed : (w : Worklist) (post post' : List ℕ) (root : ℕ) (parts : List (Scc ℕ)) → post ≡ post' ++ root ∷ [] → Parted w post parts → HasNode w root → Parted w post' parts
  passed w post post' root parts e s h =
      let l = last_segment (successors g) s.segmented post' root e in
      record {
        len = s.len;
        waits = s.waits;
        segmented = l.rest;
        post_in = λ n c. s.post_in n (subst (λ xs. Contains xs n) (sym e) (Contains-append_left post' (root ∷ []) n c));
        rest = λ n c. ⊎_elim (λ a. inl a) (λ a. ⊎_elim (λ b. inr b) (λ b. inl (subst (HasNode w) b h)) (Contains-push_cases post' root n (subst (λ xs. Contains xs n) e a))) (s.rest n c);
        inside = s.inside;
        found = s.found;
        closed = s.closed;
        apart = s.apart;
        both_ways = s.both_ways;
        whole = s.whole;
        topological = s.topological;
        once = s.once;
        cyclic = s.cyclic;
      }

  along_closed : (w : Worklist) → ((m n : ℕ) → HasNode w n → Contains (successors g m) n → HasNode w m) → (m n : ℕ) → Reaches (successors g) m n → HasNode w n → HasNode w m
  along_closed w c m n Here h = h
  along_closed w c m n (Along {b = b} p e) h = along_closed w c m b p (c b n h e)

  module _ (r : List (Vec ℕ Global)) (turned : AreTransposed g r) (w v : Worklist) (post post' : List ℕ) (root : ℕ) (parts : List (Scc ℕ)) (s : Scc ℕ) (split : post ≡ post' ++ root ∷ []) (p : Parted w post parts) (free : HasNode w root → ⊥) (a : Gathers (successors r) root w v s.nodes.items) where
    last : LastSegment (successors g) post' root
    last = last_segment (successors g) p.segmented post' root split

    leads_free : (n : ℕ) → LeadsUnmarked (successors r) w root n → HasNode w n → ⊥
    leads_free n (Begin f) h = f h
    leads_free n (Go l e f) h = f h

    -- what is gathered stands in the segment of the root
    led : (n : ℕ) → LeadsUnmarked (successors r) w root n → (Contains last.ds n ⊎ (n ≡ root)) × Reaches (successors g) n root
    led n (Begin f) = (inr refl, Here)
    led n (Go {b = b} l e f) =
        let ih = led b l in
        let edge = turned.back n b e in (
          ⊎_elim (λ h. absurd (f h)) (λ h. ⊎_elim
              (λ x. ⊎_elim (λ y. absurd (last.apart n b y edge ih.0)) (λ y. inl y) (Contains-append_cases last.us last.ds n (subst (λ xs. Contains xs n) last.split x)))
              (λ x. inr (sym x))
              (Contains-push_cases post' root n (subst (λ xs. Contains xs n) split h))) (p.rest n (source_in n b edge)),
          reach_on (successors g) n b (Along Here edge) root ih.1,
        )

    to_root : (n : ℕ) → Contains s.nodes.items n → Reaches (successors g) n root
    to_root n h = let x = led n (a.sound free n h) in x.1

    from_root : (n : ℕ) → Contains s.nodes.items n → Reaches (successors g) root n
    from_root n h = let x = led n (a.sound free n h) in ⊎_elim (λ d. last.down n d) (λ e. subst (Reaches (successors g) root) (sym e) Here) x.0

    is_free : (n : ℕ) → Contains s.nodes.items n → HasNode w n → ⊥
    is_free n h = leads_free n (a.sound free n h)

    closed_v : (m n : ℕ) → HasNode v n → Contains (successors g m) n → HasNode v m
    closed_v m n h e = ⊎_elim (λ o. a.keeps m (p.closed m n o e)) (λ o. a.closed n m o (turned.there m n e)) (a.cases n h)

    in_part : (n : ℕ) → HasNode v n → (HasNode w n → ⊥) → Contains s.nodes.items n
    in_part n h f = ⊎_elim (λ o. absurd (f o)) (λ o. o) (a.cases n h)

    -- a cycle through one node of a component is one through each
    cycle_at : (n : ℕ) → Contains s.nodes.items n → AnyUnmarked w.marked.items (successors r root) → OnCycle (successors g) n
    cycle_at n h (x, e, f) = go n (from_root n h) (to_root n h)
      where
        go : (k : ℕ) → Reaches (successors g) root k → Reaches (successors g) k root → OnCycle (successors g) k
        go k Here q = (x, from_root x (in_part x (a.closed root x (in_part root a.begun free) e) f), turned.back x root e)
        go k (Along {b = b} t d) q = (b, reach_on (successors g) k root q b t, d)

    unmarked_at : (n : ℕ) → Contains s.nodes.items n → OnCycle (successors g) n → AnyUnmarked w.marked.items (successors r root)
    unmarked_at n h (m, t, e) = go root (to_root n h) refl
      where
        go : (k : ℕ) → Reaches (successors g) n k → k ≡ root → AnyUnmarked w.marked.items (successors r root)
        go k Here q = (m, subst (λ y. Contains (successors r y) m) q (turned.there m n e), λ o. is_free n h (along_closed w p.closed n m t o))
        go k (Along {b = b} u d) q = (b, subst (λ y. Contains (successors r y) b) q (turned.there b k d), λ o. is_free n h (along_closed w p.closed n b u o))

    pub parted : (c : IsTrue s.is_cyclic ↔ AnyUnmarked w.marked.items (successors r root)) → Parted v post' (parts ++ s ∷ [])
    parted c = record {
      len = a.len ∙ p.len;
      waits = a.waits;
      segmented = last.rest;
      post_in = λ n c. p.post_in n (subst (λ xs. Contains xs n) (sym split) (Contains-append_left post' (root ∷ []) n c));
      rest = λ n c. ⊎_elim (λ x. inl (a.keeps n x)) (λ x. ⊎_elim (λ y. inr y) (λ y. inl (subst (HasNode v) y a.begun)) (Contains-push_cases post' root n (subst (λ xs. Contains xs n) split x))) (p.rest n c);
      inside = λ k n h. ⊎_elim (λ x. a.keeps n (p.inside k n x)) (λ x. a.marked n x.1) (in_cases parts s k n h);
      found = λ n h. ⊎_elim (λ x. let y = p.found n x in (y.0, in_old parts s y.0 n y.1)) (λ x. (length parts, in_new parts s n x)) (a.cases n h);
      closed = closed_v;
      apart = λ i j n h k. ⊎_elim
          (λ x. ⊎_elim (λ y. p.apart i j n x y) (λ y. absurd (is_free n y.1 (p.inside i n x))) (in_cases parts s j n k))
          (λ x. ⊎_elim (λ y. absurd (is_free n x.1 (p.inside j n y))) (λ y. x.0 ∙ sym y.0) (in_cases parts s j n k))
          (in_cases parts s i n h);
      both_ways = λ k n m h l. ⊎_elim
          (λ x. ⊎_elim (λ y. p.both_ways k n m x y) (λ y. let z = in_bounds parts k n x in absurd (omega (arith, z, y.0))) (in_cases parts s k m l))
          (λ x. ⊎_elim (λ y. let z = in_bounds parts k m y in absurd (omega (arith, z, x.0))) (λ y. reach_on (successors g) n root (to_root n x.1) m (from_root m y.1)) (in_cases parts s k m l))
          (in_cases parts s k n h);
      whole = λ k n m h there back. ⊎_elim
          (λ x. in_old parts s k m (p.whole k n m x there back))
          (λ x. subst (λ i. IsInPart (parts ++ s ∷ []) i m) (sym x.0) (in_new parts s m (⊎_elim
          (λ o. absurd (free (along_closed w p.closed root m (reach_on (successors g) root n (from_root n x.1) m there) o)))
          (λ o. o)
          (a.cases m (along_closed v closed_v m n back (a.marked n x.1))))))
          (in_cases parts s k n h);
      topological = λ i j n m h k e. ⊎_elim
          (λ x. ⊎_elim (λ y. p.topological i j n m x y e) (λ y. let z = in_bounds parts i n x in omega (arith, z, y.0)) (in_cases parts s j m k))
          (λ x. ⊎_elim (λ y. absurd (is_free n x.1 (p.closed n m (p.inside j m y) e))) (λ y. omega (arith, x.0, y.0)) (in_cases parts s j m k))
          (in_cases parts s i n h);
      once = λ k n. part_cases (λ o. count_of n (nodes_of o) ≤ 1) (omega arith) parts s (λ j. p.once j n) (a.once n) k;
      cyclic = λ k n h. ⊎_elim
          (λ x. subst (λ o. IsTrue (cyclic_of o) ↔ OnCycle (successors g) n) (sym (old_part parts s k (in_bounds parts k n x))) (p.cyclic k n x))
          (λ x. subst (λ o. IsTrue (cyclic_of o) ↔ OnCycle (successors g) n) (sym (ap (slice_get (parts ++ s ∷ [])) x.0 ∙ new_part parts s)) (λ t. cycle_at n x.1 (c.0 t), λ o. c.1 (unmarked_at n x.1 o)))
          (in_cases parts s k n h);
    }

  pub parting_ends : (w : Worklist) (parts : List (Scc ℕ)) → Parted w [] parts → AreSccs (successors g) (λ n. n < length g) parts
  parting_ends w parts p = record {
    covers = λ n h. p.found n (⊎_elim (λ x. x) (λ x. absurd (none_in n x)) (p.rest n h));
    within = λ k n h. let z = slice_get_within w.marked.items n true (p.inside k n h) in omega (arith, z, p.len);
    apart = p.apart;
    once = λ k i j n a b. once_at n (nodes_of (slice_get parts k)) (p.once k n) i j a b;
    both_ways = p.both_ways;
    whole = p.whole;
    topological = p.topological;
    cyclic = p.cyclic;
  }

  pub turned_in : (r : List (Vec ℕ Global)) → AreTransposed g r → (a b : ℕ) → Contains (successors r a) b → b < length r
  turned_in r t a b h = let z = source_in b a (t.back b a h) in omega (arith, z, t.len)

  pub last_in : (w : Worklist) (post post' : List ℕ) (root : ℕ) (parts : List (Scc ℕ)) → post ≡ post' ++ root ∷ [] → Parted w post parts → root < length g
  last_in w post post' root parts e p = p.post_in root (subst (λ xs. Contains xs root) (sym e) (Contains-push post' root))
