-- Orders of numbers are orders of the nodes that they name.
use Rattle.std.proofs.Common.{◌≡◌, ℕ, ◌<◌, List, Result, Ok, Err, Vec, Global, length, refl, sym, ap, ◌∙◌, subst, arith}
use Rattle.std.specs.Prelude.{All, IfOk}
use Rattle.digraph.specs.Graph.{successors, InRange}
use Rattle.digraph.specs.Visits.{Traversal, empty, Visits, IsPostOrder}
use Rattle.ir_graph.specs.Graphs.{AreDistinctNodes, AreNodeNumbers, IsNumbering}
use Rattle.ir_graph.proofs.Named.{Names, visits_nodes}
use Rattle.ir_graph.proofs.Numbers.{one_naming, rows_in, named_within}

pub ok_more : {V E : Type 0} {P Q : V → Type 0} (r : Result V E) → ((v : V) → P v → Q v) → IfOk r P → IfOk r Q
ok_more (Ok v) f h = f v h
ok_more (Err e) f h = tt

-- the nodes of some numbers, read from copies of both lists
module _ {X : Type 0} (nodes : List X) (ids : List ℕ) (named : List X) (n : AreNodeNumbers nodes ids named) (ks : List X) (js : List ℕ) where
  pub named_at : ks ≡ nodes → js ≡ ids → AreNodeNumbers ks js named
  named_at e d = subst (λ xs. AreNodeNumbers xs js named) (sym e) (subst (λ xs. AreNodeNumbers nodes xs named) (sym d) n)

  pub named_is : (row : List X) → ks ≡ nodes → js ≡ ids → AreNodeNumbers ks js row → row ≡ named
  named_is row e d r = one_naming row named (sym r ∙ named_at e d)

pub same_traversal : {X : Type 0} {t : Traversal X} {seen left : List X} → seen ≡ t.seen → left ≡ t.left → record { seen = seen; left = left } ≡ t
same_traversal a b = λ i. record { seen = a i; left = b i }

module _ {X : Type 0} (next : X → List X) (nodes kept : List X) (distinct : AreDistinctNodes nodes) (numbers : List ℕ) (rows : List (Vec ℕ Global)) (s : IsNumbering next nodes kept numbers rows) where
  -- a search over the numbers is one over the nodes
  pub named_order : (o : Traversal ℕ) → Visits (successors rows) empty numbers o → (r : Traversal X) × Names nodes o r × Visits next empty nodes r
  named_order o v = visits_nodes nodes distinct (successors rows) next s.onward v empty nodes (record { seen = refl; left = refl }) s.named

  -- the numbers of the rows and those of all nodes are within the rows
  pub graph_in : (g : List (Vec ℕ Global)) → g ≡ rows → InRange g
  graph_in g e = subst InRange (sym e) (rows_in next nodes rows s.len s.onward)

  pub roots_in : (g : List (Vec ℕ Global)) (ids : List ℕ) (named : List X) → g ≡ rows → AreNodeNumbers nodes ids named → All (λ n. n < length g) ids
  roots_in g ids named e n = λ k d h. let l = named_within nodes ids named n k d h in omega (arith, l, s.len, ap length e)

  -- a search from some of the numbers is one from the nodes that they name
  pub named_search : (g : List (Vec ℕ Global)) (ids : List ℕ) (roots : List X) (o : Traversal ℕ) → g ≡ rows → AreNodeNumbers nodes ids roots → Visits (successors g) empty ids o → (r : Traversal X) × Names nodes o r × Visits next empty roots r
  named_search g ids roots o e n v = visits_nodes nodes distinct (successors rows) next s.onward (subst (λ h. Visits (successors h) empty ids o) e v) empty roots (record { seen = refl; left = refl }) n

  pub post_order_of : (o : Traversal ℕ) → Visits (successors rows) empty numbers o → (order : List X) → AreNodeNumbers nodes o.left order → IsPostOrder next nodes order
  post_order_of o v order e =
      let r = named_order o v in
      (r.0.seen, subst (λ xs. Visits next empty nodes (record { seen = r.0.seen; left = xs })) (one_naming r.0.left order (sym r.1.left ∙ e)) r.2)
