-- A search over numbers is one over the nodes that they name.
use Rattle.std.proofs.Common.{◌≡◌, ℕ, List, [], ◌∷◌, ◌++◌, Some, sym, ap, ◌∙◌, subst}
use Rattle.std.specs.Prelude.{Contains, map, slice_get}
use Rattle.std.proofs.lemmas.List.{map-append}
use Rattle.std.proofs.lemmas.Option.{same_Some}
use Rattle.digraph.specs.Visits.{Traversal, see, leave, Visits, Nothing, Passes, Enters}
use Rattle.ir_graph.specs.Graphs.{AreDistinctNodes, AreNodeNumbers}
use Rattle.ir_graph.proofs.Numbers.{node_at, number_of}

module _ {X : Type 0} (keys : List X) where
  pub record Names (o : Traversal ℕ) (p : Traversal X) : Type 0 where
    pub seen : AreNodeNumbers keys o.seen p.seen
    pub left : AreNodeNumbers keys o.left p.left

  named_push : (xs : List ℕ) (ys : List X) (i : ℕ) (y : X) → slice_get keys i ≡ Some y → AreNodeNumbers keys xs ys → AreNodeNumbers keys (xs ++ i ∷ []) (ys ++ y ∷ [])
  named_push xs ys i y e s = map-append (slice_get keys) xs (i ∷ []) ∙ ap (λ us. us ++ slice_get keys i ∷ []) s ∙ ap (λ o. map Some ys ++ o ∷ []) e ∙ sym (map-append Some ys (y ∷ []))

  module _ (distinct : AreDistinctNodes keys) (succ : ℕ → List ℕ) (next : X → List X) (rows : (i : ℕ) (n : X) → slice_get keys i ≡ Some n → AreNodeNumbers keys (succ i) (next n)) where
    pub visits_nodes : {o q : Traversal ℕ} {ns : List ℕ} → Visits succ o ns q → (p : Traversal X) (ms : List X) → Names o p → AreNodeNumbers keys ns ms → (r : Traversal X) × Names q r × Visits next p ms r
    visits_nodes Nothing p [] n e = (p, n, Nothing)
    visits_nodes Nothing p (m ∷ ms) n e = absurd (cc)
    visits_nodes (Passes c v) p [] n e = absurd (cc)
    visits_nodes (Passes {o = o} {n = i} {ns = ns} c v) p (m ∷ ms) n e =
        let a : slice_get keys i ≡ Some m = cc in
        let b : AreNodeNumbers keys ns ms = cc in
        let h = node_at keys o.seen p.seen n.seen i c in
        let r = visits_nodes v p ms n b in
        (r.0, r.1, Passes (subst (Contains p.seen) (same_Some h.0 m (sym h.2 ∙ a)) h.1) r.2)
    visits_nodes (Enters f u w) p [] n e = absurd (cc)
    visits_nodes (Enters {o = o} {p = mid} {n = i} {ns = ns} f u w) p (m ∷ ms) n e =
        let a : slice_get keys i ≡ Some m = cc in
        let b : AreNodeNumbers keys ns ms = cc in
        let s = visits_nodes u (see m p) (next m) (record { seen = named_push o.seen p.seen i m a n.seen; left = n.left }) (rows i m a) in
        let r = visits_nodes w (leave m s.0) ms (record { seen = s.1.seen; left = named_push mid.left s.0.left i m a s.1.left }) b in
        (r.0, r.1, Enters (λ t. let h = number_of keys o.seen p.seen n.seen m t in f (subst (Contains o.seen) (distinct h.0 i m h.2 a) h.1)) s.2 r.2)
