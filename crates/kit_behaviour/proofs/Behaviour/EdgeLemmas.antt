-- Edges of a branch.
use Rattle.std.proofs.Common.{◌≡◌, ℕ, zero, suc, List, [], ◌∷◌, ◌++◌, refl, sym, ap, ◌∙◌}
use Rattle.std.specs.Prelude.{map}
use Rattle.kit_behaviour.specs.Machine.{Edge, nth, edge_at, AllEdges}
use Rattle.kit_behaviour.specs.Renaming.{rename_edge}
use Rattle.kit_behaviour.specs.Facts.{all_forwarded}
use Rattle.kit_behaviour.specs.Replacement.{replace_edge}

nth_has : {V : Type 0} (P : Edge V → Type 0) (d : Edge V) (es : List (Edge V)) (n : ℕ) → P d → AllEdges P es → P (nth d es n)
nth_has P d [] n h a = h
nth_has P d (e ∷ es) zero h a = a.0
nth_has P d (e ∷ es) (suc n) h a = nth_has P d es n h a.1

-- the edge that is taken has what each has
pub taken_has : {V : Type 0} (P : Edge V → Type 0) (e : Edge V) (es : List (Edge V)) (n : ℕ) → AllEdges P (e ∷ es) → P (edge_at e es n)
taken_has P e es n a = nth_has P e (e ∷ es) n a.0 a

nth_map : {V W : Type 0} (g : Edge V → Edge W) (d : Edge V) (es : List (Edge V)) (n : ℕ) → nth (g d) (map g es) n ≡ g (nth d es n)
nth_map g d [] n = refl
nth_map g d (e ∷ es) zero = refl
nth_map g d (e ∷ es) (suc n) = nth_map g d es n

pub taken_map : {V W : Type 0} (g : Edge V → Edge W) (e : Edge V) (es : List (Edge V)) (n : ℕ) → edge_at (g e) (map g es) n ≡ g (edge_at e es n)
taken_map g e es n = nth_map g e (e ∷ es) n

pub only_taken : {V : Type 0} (e : Edge V) (n : ℕ) → edge_at e [] n ≡ e
only_taken e zero = refl
only_taken e (suc n) = refl

pub edges_map : {V W : Type 0} (P : Edge V → Type 0) (Q : Edge W → Type 0) (g : Edge V → Edge W) → ((x : Edge V) → P x → Q (g x)) → (es : List (Edge V)) → AllEdges P es → AllEdges Q (map g es)
edges_map P Q g h [] a = tt
edges_map P Q g h (e ∷ es) a = (h e a.0, edges_map P Q g h es a.1)

pub edges_both : {V W : Type 0} (P P' : Edge V → Type 0) (Q : Edge W → Type 0) (g : Edge V → Edge W) → ((x : Edge V) → P x → P' x → Q (g x)) → (es : List (Edge V)) → AllEdges P es → AllEdges P' es → AllEdges Q (map g es)
edges_both P P' Q g h [] a b = tt
edges_both P P' Q g h (e ∷ es) a b = (h e a.0 b.0, edges_both P P' Q g h es a.1 b.1)

pub edges_each : {V : Type 0} (P Q : Edge V → Type 0) → ((x : Edge V) → P x → Q x) → (es : List (Edge V)) → AllEdges P es → AllEdges Q es
edges_each P Q h [] a = tt
edges_each P Q h (e ∷ es) a = (h e a.0, edges_each P Q h es a.1)

pub edges_two : {V : Type 0} (P P' Q : Edge V → Type 0) → ((x : Edge V) → P x → P' x → Q x) → (es : List (Edge V)) → AllEdges P es → AllEdges P' es → AllEdges Q es
edges_two P P' Q h [] a b = tt
edges_two P P' Q h (e ∷ es) a b = (h e a.0 b.0, edges_two P P' Q h es a.1 b.1)

pub edges_back : {V W : Type 0} (Q : Edge W → Type 0) (g : Edge V → Edge W) (es : List (Edge V)) → AllEdges Q (map g es) → AllEdges (λ x. Q (g x)) es
edges_back Q g [] a = tt
edges_back Q g (e ∷ es) a = (a.0, edges_back Q g es a.1)

pub edges_any : {V : Type 0} (P : Edge V → Type 0) → ((x : Edge V) → P x) → (es : List (Edge V)) → AllEdges P es
edges_any P h [] = tt
edges_any P h (e ∷ es) = (h e, edges_any P h es)

pub map_same : {V W : Type 0} (g h : Edge V → Edge W) → ((x : Edge V) → g x ≡ h x) → (es : List (Edge V)) → map g es ≡ map h es
map_same g h e [] = refl
map_same g h e (x ∷ es) = ap (λ y. y ∷ map g es) (e x) ∙ ap (λ l. h x ∷ l) (map_same g h e es)

pub map_append : {V W : Type 0} (r : V → W) (xs ys : List V) → map r (xs ++ ys) ≡ map r xs ++ map r ys
map_append r [] ys = refl
map_append r (x ∷ xs) ys = ap (λ l. r x ∷ l) (map_append r xs ys)

-- what edges forward under other names
pub gives_renamed : {V W : Type 0} (r : V → W) (b : ℕ → ℕ) (es : List (Edge V)) → all_forwarded (map (rename_edge r b) es) ≡ map r (all_forwarded es)
gives_renamed r b [] = refl
gives_renamed r b (e ∷ es) = ap (λ l. map r e.forwards ++ l) (gives_renamed r b es) ∙ sym (map_append r e.forwards (all_forwarded es))

pub gives_replaced : {V : Type 0} (s : V → V) (es : List (Edge V)) → all_forwarded (map (replace_edge s) es) ≡ map s (all_forwarded es)
gives_replaced s [] = refl
gives_replaced s (e ∷ es) = ap (λ l. map s e.forwards ++ l) (gives_replaced s es) ∙ sym (map_append s e.forwards (all_forwarded es))
