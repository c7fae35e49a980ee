-- Components of numbers are components of the nodes that they name.
use Rattle.std.proofs.Common.{◌≡◌, ℕ, zero, suc, ◌+◌, ◌<◌, List, [], ◌∷◌, ◌++◌, Some, length, get_or, take, refl, sym, ap, ◌∙◌, subst, arith}
use Rattle.std.specs.Prelude.{Contains, IsTrue, map, slice_get}
use Rattle.std.proofs.lemmas.List.{map-append, take_more}
use Rattle.std.proofs.lemmas.Option.{slice_get_read, slice_get_within, same_Some}
use Rattle.std.proofs.lemmas.List.Elements.{Contains-append_right}
use Rattle.std.specs.declared.vec.Vec.{Vec}
use Rattle.std.specs.declared.alloc.Global.{Global}
use Rattle.digraph.specs.Graph.{successors, Reaches}
use Rattle.digraph.specs.Sccs.{nodes_of, cyclic_of, IsInPart, AreSccs}
use Rattle.digraph.specs.declared.components.Scc.{Scc}
use Rattle.ir_graph.specs.Graphs.{AreDistinctNodes, AreNodeNumbers, AreNamedParts, AreNamedSccs, IsNumbering}
use Rattle.ir_graph.proofs.Numbers.{node_at, number_of, number_there, first}
use Rattle.ir_graph.proofs.Places.{place_of, stands_in}
use Rattle.ir_graph.proofs.Paths.{to_numbers, node_path, number_path, number_edge, on_cycle}

pub some_node : {X : Type 0} (ks : List X) (i : ℕ) → i < length ks → (n : X) × (slice_get ks i ≡ Some n)
some_node [] i h = absurd (omega (arith, h))
some_node (x ∷ ks) zero h = (x, refl)
some_node (x ∷ ks) (suc i) h = some_node ks i (omega (arith, h))

module _ {X : Type 0} (keys : List X) where
  -- numbers below the count of the nodes name some
  pub names_of : (ids : List ℕ) → ((i : ℕ) → Contains ids i → i < length keys) → (named : List X) × AreNodeNumbers keys ids named
  names_of [] h = ([], refl)
  names_of (i ∷ ids) h =
      let n = some_node keys i (h i (first i ids)) in
      let r = names_of ids (λ j c. h j (Contains-append_right (i ∷ []) ids j c)) in
      (n.0 ∷ r.0, ap (λ o. o ∷ map (slice_get keys) ids) n.1 ∙ ap (λ os. Some n.0 ∷ os) r.1)

  pub names_at : (parts : List (Scc ℕ)) (i : ℕ) (part : Scc ℕ) → i < length parts → part ≡ get_or parts i part → ((k n : ℕ) → IsInPart parts k n → n < length keys) → (named : List X) × AreNodeNumbers keys part.nodes.items named
  names_at parts i part h q f = names_of part.nodes.items (λ n c. f i n (subst (λ o. Contains (nodes_of o) n) (sym (slice_get_read parts (length parts) i part refl h q)) c))

  -- one more component is named
  pub sccs_more : (parts : List (Scc ℕ)) (named named' : List (Scc X)) (i : ℕ) (part : Scc ℕ) (row : Scc X) → i < length parts → part ≡ get_or parts i part → AreNodeNumbers keys part.nodes.items row.nodes.items → part.is_cyclic ≡ row.is_cyclic → named' ≡ named ++ row ∷ []
      → AreNamedSccs keys (take i parts) named → AreNamedSccs keys (take (i + 1) parts) named'
  sccs_more parts named named' i part row h q n b e s = record {
    members = ap (λ ps. map (map (slice_get keys)) (map (λ (p : Scc ℕ). p.nodes.items) ps)) grown
        ∙ ap (map (map (slice_get keys))) (map-append (λ (p : Scc ℕ). p.nodes.items) (take i parts) (part ∷ []))
        ∙ map-append (map (slice_get keys)) (map (λ (p : Scc ℕ). p.nodes.items) (take i parts)) (part.nodes.items ∷ [])
        ∙ ap (λ us. us ++ map (slice_get keys) part.nodes.items ∷ []) s.members ∙ ap (λ us. map (map Some) (map (λ (p : Scc X). p.nodes.items) named) ++ us ∷ []) n
        ∙ sym (ap (λ ps. map (map Some) (map (λ (p : Scc X). p.nodes.items) ps)) e
        ∙ ap (map (map Some)) (map-append (λ (p : Scc X). p.nodes.items) named (row ∷ []))
        ∙ map-append (map Some) (map (λ (p : Scc X). p.nodes.items) named) (row.nodes.items ∷ []));
    cyclic = ap (map (λ (p : Scc ℕ). p.is_cyclic)) grown ∙ map-append (λ (p : Scc ℕ). p.is_cyclic) (take i parts) (part ∷ [])
        ∙ ap (λ us. us ++ part.is_cyclic ∷ []) s.cyclic ∙ ap (λ u. map (λ (p : Scc X). p.is_cyclic) named ++ u ∷ []) b
        ∙ sym (ap (map (λ (p : Scc X). p.is_cyclic)) e ∙ map-append (λ (p : Scc X). p.is_cyclic) named (row ∷ []));
  }
    where
      grown : take (i + 1) parts ≡ take i parts ++ part ∷ []
      grown = take_more parts i part h ∙ ap (λ r. take i parts ++ r ∷ []) (sym q)

  members_at : (parts : List (Scc ℕ)) (named : List (Scc X)) → AreNamedParts keys (map (λ (s : Scc ℕ). s.nodes.items) parts) (map (λ (s : Scc X). s.nodes.items) named) → (k : ℕ) → AreNodeNumbers keys (nodes_of (slice_get parts k)) (nodes_of (slice_get named k))
  members_at [] [] e k = refl
  members_at [] (n ∷ named) e k = absurd (cc)
  members_at (p ∷ parts) [] e k = absurd (cc)
  members_at (p ∷ parts) (n ∷ named) e zero = let a : AreNodeNumbers keys p.nodes.items n.nodes.items = cc in a
  members_at (p ∷ parts) (n ∷ named) e (suc k) =
      let b : AreNamedParts keys (map (λ (s : Scc ℕ). s.nodes.items) parts) (map (λ (s : Scc X). s.nodes.items) named) = cc in members_at parts named b k

  cyclic_at : (parts : List (Scc ℕ)) (named : List (Scc X)) → map (λ (s : Scc ℕ). s.is_cyclic) parts ≡ map (λ (s : Scc X). s.is_cyclic) named → (k : ℕ) → cyclic_of (slice_get parts k) ≡ cyclic_of (slice_get named k)
  cyclic_at [] [] e k = refl
  cyclic_at [] (n ∷ named) e k = absurd (cc)
  cyclic_at (p ∷ parts) [] e k = absurd (cc)
  cyclic_at (p ∷ parts) (n ∷ named) e zero = let a : p.is_cyclic ≡ n.is_cyclic = cc in a
  cyclic_at (p ∷ parts) (n ∷ named) e (suc k) =
      let b : map (λ (s : Scc ℕ). s.is_cyclic) parts ≡ map (λ (s : Scc X). s.is_cyclic) named = cc in cyclic_at parts named b k

module _ {X : Type 0} (next : X → List X) (nodes kept : List X) (distinct : AreDistinctNodes nodes) (numbers : List ℕ) (rows : List (Vec ℕ Global)) (s : IsNumbering next nodes kept numbers rows) where
  pub sccs_named : (parts : List (Scc ℕ)) (named : List (Scc X)) → AreNamedSccs nodes parts named → AreSccs (successors rows) (λ n. n < length rows) parts → AreSccs next (Contains nodes) named
  sccs_named parts named a t = record {
    covers = λ n c.
        let i = place_of nodes n c in
        let w = slice_get_within nodes i.0 n i.1 in
        let k = t.covers i.0 (omega (arith, w, s.len)) in (k.0, node_in k.0 i.0 n i.1 k.1);
    within = λ k n h. let x = number_in k n h in stands_in nodes x.0 n x.2;
    apart = λ i j n h h'. let x = number_in i n h in let y = number_in j n h' in t.apart i j x.0 x.1 (subst (λ z. IsInPart parts j z) (distinct y.0 x.0 n y.2 x.2) y.1);
    once = λ k i j n h h'.
        let x = number_there nodes (nodes_of (slice_get parts k)) (nodes_of (slice_get named k)) (at k) i n h in
        let y = number_there nodes (nodes_of (slice_get parts k)) (nodes_of (slice_get named k)) (at k) j n h' in
        t.once k i j x.0 x.1 (y.1 ∙ ap Some (distinct y.0 x.0 n y.2 x.2));
    both_ways = λ k n m h h'. let x = number_in k n h in let y = number_in k m h' in node_path nodes next (successors rows) s.onward x.0 y.0 n m x.2 y.2 (t.both_ways k x.0 y.0 x.1 y.1);
    whole = λ k n m h r r'.
        let x = number_in k n h in
        let y = place_of nodes m (reached_in x.0 n m x.2 r) in
        node_in k y.0 m y.1 (t.whole k x.0 y.0 x.1 (number_path nodes next (successors rows) s.onward distinct x.0 y.0 n m x.2 y.1 r) (number_path nodes next (successors rows) s.onward distinct y.0 x.0 m n y.1 x.2 r'));
    topological = λ i j n m h h' c. let x = number_in i n h in let y = number_in j m h' in t.topological i j x.0 y.0 x.1 y.1 (number_edge nodes next (successors rows) s.onward distinct x.0 y.0 n m x.2 y.2 c);
    cyclic = λ k n h.
        let x = number_in k n h in
        let o = on_cycle nodes next (successors rows) s.onward distinct x.0 n x.2 in
        let u = t.cyclic k x.0 x.1 in
        let v = cyclic_at nodes parts named a.cyclic k in
        ((λ b. o.0 (u.0 (subst IsTrue (sym v) b))), (λ b. subst IsTrue v (u.1 (o.1 b))));
  }
    where
      at : (k : ℕ) → AreNodeNumbers nodes (nodes_of (slice_get parts k)) (nodes_of (slice_get named k))
      at = members_at nodes parts named a.members

      number_in : (k : ℕ) (n : X) → IsInPart named k n → (x : ℕ) × IsInPart parts k x × (slice_get nodes x ≡ Some n)
      number_in k n h = number_of nodes (nodes_of (slice_get parts k)) (nodes_of (slice_get named k)) (at k) n h

      node_in : (k x : ℕ) (n : X) → slice_get nodes x ≡ Some n → IsInPart parts k x → IsInPart named k n
      node_in k x n e h = let y = node_at nodes (nodes_of (slice_get parts k)) (nodes_of (slice_get named k)) (at k) x h in subst (IsInPart named k) (same_Some y.0 n (sym y.2 ∙ e)) y.1

      reached_in : (x : ℕ) (n m : X) → slice_get nodes x ≡ Some n → Reaches next n m → Contains nodes m
      reached_in x n m e r = let y = to_numbers nodes next (successors rows) s.onward x n e m r in stands_in nodes y.0 m y.1
