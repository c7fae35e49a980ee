-- Paths between nodes are paths between their numbers.
use Rattle.std.proofs.Common.{◌≡◌, ℕ, List, Some, sym, ◌∙◌, subst}
use Rattle.std.specs.Prelude.{Contains, ◌↔◌, slice_get}
use Rattle.std.proofs.lemmas.Option.{same_Some}
use Rattle.digraph.specs.Graph.{Reaches, Here, Along}
use Rattle.digraph.specs.Sccs.{OnCycle}
use Rattle.ir_graph.specs.Graphs.{AreDistinctNodes, AreNodeNumbers}
use Rattle.ir_graph.proofs.Numbers.{node_at, number_of}

module _ {X : Type 0} where
  module _ (keys : List X) (next : X → List X) (succ : ℕ → List ℕ) (same : (i : ℕ) (n : X) → slice_get keys i ≡ Some n → AreNodeNumbers keys (succ i) (next n)) where
    pub to_nodes : (i : ℕ) (n : X) → slice_get keys i ≡ Some n → (j : ℕ) → Reaches succ i j → (m : X) × (slice_get keys j ≡ Some m) × Reaches next n m
    to_nodes i n e j Here = (n, e, Here)
    to_nodes i n e j (Along {b = b} r c) =
        let h = to_nodes i n e b r in
        let s = node_at keys (succ b) (next h.0) (same b h.0 h.1) j c in (s.0, s.2, Along h.2 s.1)

    pub to_numbers : (i : ℕ) (n : X) → slice_get keys i ≡ Some n → (m : X) → Reaches next n m → (j : ℕ) × (slice_get keys j ≡ Some m) × Reaches succ i j
    to_numbers i n e m Here = (i, e, Here)
    to_numbers i n e m (Along {b = b} r c) =
        let h = to_numbers i n e b r in
        let s = number_of keys (succ h.0) (next b) (same h.0 b h.1) m c in (s.0, s.2, Along h.2 s.1)

    -- the same, where both ends are known
    pub node_path : (i j : ℕ) (n m : X) → slice_get keys i ≡ Some n → slice_get keys j ≡ Some m → Reaches succ i j → Reaches next n m
    node_path i j n m e f r = let h = to_nodes i n e j r in subst (λ x. Reaches next n x) (same_Some h.0 m (sym h.1 ∙ f)) h.2

    pub node_edge : (i j : ℕ) (n m : X) → slice_get keys i ≡ Some n → slice_get keys j ≡ Some m → Contains (succ i) j → Contains (next n) m
    node_edge i j n m e f c = let h = node_at keys (succ i) (next n) (same i n e) j c in subst (Contains (next n)) (same_Some h.0 m (sym h.2 ∙ f)) h.1

    module _ (distinct : AreDistinctNodes keys) where
      pub number_path : (i j : ℕ) (n m : X) → slice_get keys i ≡ Some n → slice_get keys j ≡ Some m → Reaches next n m → Reaches succ i j
      number_path i j n m e f r = let h = to_numbers i n e m r in subst (λ x. Reaches succ i x) (distinct h.0 j m h.1 f) h.2

      pub number_edge : (i j : ℕ) (n m : X) → slice_get keys i ≡ Some n → slice_get keys j ≡ Some m → Contains (next n) m → Contains (succ i) j
      number_edge i j n m e f c = let h = number_of keys (succ i) (next n) (same i n e) m c in subst (Contains (succ i)) (distinct h.0 j m h.2 f) h.1

      pub on_cycle : (i : ℕ) (n : X) → slice_get keys i ≡ Some n → OnCycle succ i ↔ OnCycle next n
      on_cycle i n e = (
        (λ h. let r = to_nodes i n e h.0 h.1 in (r.0, r.2, node_edge h.0 i r.0 n r.1 e h.2)),
        (λ h. let r = to_numbers i n e h.0 h.1 in (r.0, r.2, number_edge r.0 i h.0 n r.1 e h.2)),
      )
