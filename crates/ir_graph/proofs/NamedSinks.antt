-- The last nodes of components that no edge leaves, by the numbers of the nodes.
use Rattle.std.proofs.Common.{◌≡◌, ℕ, ◌<◌, ◌^◌, List, Some, length, sym, ap, ◌∙◌, subst, arith}
use Rattle.std.specs.Prelude.{Contains, slice_get}
use Rattle.std.proofs.lemmas.List.{length-map}
use Rattle.std.proofs.lemmas.Option.{slice_get_within, same_Some}
use Rattle.std.specs.declared.vec.Vec.{Vec}
use Rattle.std.specs.declared.alloc.Global.{Global}
use Rattle.digraph.specs.Graph.{row_items, successors}
use Rattle.ir_graph.specs.Graphs.{AreDistinctNodes, AreNodeNumbers, IsNumbering}
use Rattle.ir_graph.specs.Reverse.{IsPreSentinel, ArePreSentinels, CanReverse}
use Rattle.ir_graph.specs.Sinks.{IsSinkEnd, AreSinkEnds}
use Rattle.ir_graph.proofs.NamedSccs.{some_node}
use Rattle.ir_graph.proofs.Numbers.{node_at, number_of, number_there}
use Rattle.ir_graph.proofs.Paths.{to_nodes, to_numbers, node_path, number_path}
use Rattle.ir_graph.proofs.Places.{place_of, stands_in}

module _ {X : Type 0} (next : X → List X) (nodes kept : List X) (distinct : AreDistinctNodes nodes) (numbers : List ℕ) (rows : List (Vec ℕ Global)) (s : IsNumbering next nodes kept numbers rows) where
  sink_node : (i : ℕ) (n : X) → slice_get nodes i ≡ Some n → IsSinkEnd (successors rows) i → IsPreSentinel next nodes n
  sink_node i n e h m r =
      let y = to_numbers nodes next (successors rows) s.onward i n e m r in
      let b = h y.0 y.2 in
      (node_path nodes next (successors rows) s.onward y.0 i m n y.1 e b.0, λ j k p q. let u = distinct j y.0 m p y.1 in let v = distinct k i n q e in let w = b.1 in omega (arith, u, v, w))

  sink_number : (i : ℕ) (n : X) → slice_get nodes i ≡ Some n → IsPreSentinel next nodes n → IsSinkEnd (successors rows) i
  sink_number i n e h j r =
      let y = to_nodes nodes next (successors rows) s.onward i n e j r in
      let b = h y.0 y.2 in
      (number_path nodes next (successors rows) s.onward distinct j i y.0 n y.1 e b.0, b.1 j i y.1 e)

  ends_named : (ends : List ℕ) (found : List X) → AreNodeNumbers nodes ends found → AreSinkEnds (successors rows) (length rows) ends → ArePreSentinels next nodes found
  ends_named ends found a t = record {
    only = λ n c. let x = number_of nodes ends found a n c in (stands_in nodes x.0 n x.2, sink_node x.0 n x.2 (t.only x.0 x.1).1);
    all = λ n c h.
        let i = place_of nodes n c in
        let w = slice_get_within nodes i.0 n i.1 in
        let y = node_at nodes ends found a i.0 (t.all i.0 (omega (arith, w, s.len)) (sink_number i.0 n i.1 h)) in
        subst (Contains found) (same_Some y.0 n (sym y.2 ∙ i.1)) y.1;
    once = λ i j n p q.
        let x = number_there nodes ends found a i n p in
        let y = number_there nodes ends found a j n q in
        t.once i j x.0 x.1 (y.1 ∙ ap Some (distinct y.0 x.0 n y.2 x.2));
  }

  small : (row : Vec ℕ Global) → length row.items < 2 ^ 63
  small row = let a = row.ok.0 in let b = row.ok.1 in let d = row.small in omega (arith, a, b, d)

  roomy : (n : X) → Contains nodes n → length (next n) < 2 ^ 63
  roomy n c =
      let i = place_of nodes n c in
      let w = slice_get_within nodes i.0 n i.1 in
      let row = some_node rows i.0 (omega (arith, w, s.len)) in
      let e : length (successors rows i.0) ≡ length row.0.items = ap (λ o. length (row_items o)) row.1 in
      let q : length (successors rows i.0) ≡ length (next n) = sym (length-map (successors rows i.0) (slice_get nodes)) ∙ ap length (s.onward i.0 n i.1) ∙ length-map (next n) Some in
      let l = small row.0 in
      omega (arith, e, q, l)

  pub can_reverse : (g : List (Vec ℕ Global)) (ends : List ℕ) (found : List X) → g ≡ rows → AreNodeNumbers nodes ends found → AreSinkEnds (successors g) (length g) ends → CanReverse next nodes found
  can_reverse g ends found e a t = record { ends = ends_named ends found a (subst (λ h. AreSinkEnds (successors h) (length h) ends) e t); room = roomy }
