-- What a search from a root keeps.
use Rattle.std.proofs.Common.{◌≡◌, ⊎_elim, ℕ, ◌<◌, List, [], ◌∷◌, ◌++◌, reverse, true, length, sym, ap, ◌∙◌, subst, arith}
use Rattle.std.proofs.Math.ListN.{set}
use Rattle.std.specs.Prelude.{All, Contains}
use Rattle.std.specs.declared.vec.Vec.{Vec}
use Rattle.std.specs.declared.alloc.Global.{Global}
use Rattle.std.proofs.lemmas.List.{length-set}
use Rattle.std.proofs.lemmas.List.Elements.{All-push, Contains-push, Contains-push_cases, Contains-append_left}
use Rattle.digraph.specs.Graph.{successors}
use Rattle.digraph.specs.Marks.{IsMarked}
use Rattle.digraph.proofs.Marking.{mark_kept, mark_put, mark_only}
use Rattle.digraph.specs.declared.search.Open.{Open}
use Rattle.digraph.specs.declared.search.Search.{Search}
use Rattle.digraph.specs.Visits.{Traversal, empty, see, Visits, Passes, Nothing}
use Rattle.digraph.specs.Searches.{orders, stack, Resumes, IsSearch, IsNewSearch, SeenBefore, SeenNow, Enters, Goes, RestsUnchanged}
use Rattle.digraph.proofs.Walking.{opened, moved, new_root, same_order}

-- a new search has seen nothing
pub begins : (g : List (Vec ℕ Global)) (s : Search) → IsNewSearch s (length g) → IsSearch g s × (s.path.items ≡ []) × (orders s ≡ empty)
begins g s n = (
  record {
    len = n.len;
    seen = λ k h. absurd (n.none k h);
    marked = λ k h. absurd (none_in k (subst (λ xs. Contains xs k) n.pre h));
    open_in = subst (λ fs. All (λ (f : Open). f.node < length g) fs) (sym n.open_none) (λ k d h. absurd (omega arith));
  },
  n.open_none,
  same_order (orders s) empty n.pre n.post,
)
  where
    none_in : (k : ℕ) → Contains [] k → ⊥
    none_in k h = absurd (omega (arith, h.1))

module _ (g : List (Vec ℕ Global)) (start : Traversal ℕ) (roots : List ℕ) where
  pub record Walks (ns : List ℕ) (s : Search) : Type 0 where
    pub search : IsSearch g s
    pub back : (q : Traversal ℕ) → Resumes (successors g) (orders s) (stack s) ns q → Visits (successors g) start roots q

  pub record Waits (ns : List ℕ) (s : Search) : Type 0 where
    pub search : IsSearch g s
    pub open_none : s.path.items ≡ []
    pub back : (q : Traversal ℕ) → Visits (successors g) (orders s) ns q → Visits (successors g) start roots q

  pub steps : (ns : List ℕ) (a b : Search) → Walks ns a → Goes g a b → Walks ns b
  steps ns a b w s = record { search = s.search; back = λ q r. w.back q (s.back ns q r) }

  pub stands : (ns : List ℕ) (a b : Search) → Walks ns a → RestsUnchanged a b → Waits ns b
  stands ns a b w s = let e = s.seen in record {
    search = record {
      len = ap length e ∙ w.search.len;
      seen = λ k h. subst (λ xs. Contains xs k) (sym s.pre) (w.search.seen k (subst (λ ms. IsMarked ms k) e h));
      marked = λ k h. subst (λ ms. IsMarked ms k) (sym e) (w.search.marked k (subst (λ xs. Contains xs k) s.pre h));
      open_in = subst (λ fs. All (λ (f : Open). f.node < length g) fs) (sym s.open_same) (λ k d h. absurd (omega arith));
    };
    open_none = s.open_same;
    back = λ q v. w.back q (moved (successors g) (orders b) (orders a) q [] (stack a) ns (same_order (orders b) (orders a) s.pre s.post) (sym (ap reverse s.open_none)) v);
  }

  module _ (ns : List ℕ) (n : ℕ) (a b : Search) (n_in : n < length g) (w : Waits (n ∷ ns) a) where
    enters_seen : SeenBefore a b n → Walks ns b
    enters_seen k = record {
      search = record {
        len = ap length k.seen ∙ w.search.len;
        seen = λ i t. subst (λ ys. Contains ys i) (sym k.pre) (w.search.seen i (subst (λ ms. IsMarked ms i) k.seen t));
        marked = λ i t. subst (λ ms. IsMarked ms i) (sym k.seen) (w.search.marked i (subst (λ ys. Contains ys i) k.pre t));
        open_in = subst (λ fs. All (λ (f : Open). f.node < length g) fs) (sym (k.open_same ∙ w.open_none)) (λ k d h. absurd (omega arith));
      };
      back = λ q r. w.back q (Passes (w.search.seen n k.before) (moved (successors g) (orders b) (orders a) q (stack b) [] ns (same_order (orders b) (orders a) k.pre k.post) (ap reverse (k.open_same ∙ w.open_none)) r));
    }

    enters_new : SeenNow a b n → Walks ns b
    enters_new k = record {
      search = record {
        len = ap length k.seen ∙ length-set a.seen.items n true ∙ w.search.len;
        seen = λ i t. ⊎_elim
            (λ o. subst (λ ys. Contains ys i) (sym k.pre) (Contains-append_left a.pre.items (n ∷ []) i (w.search.seen i o)))
            (λ o. subst (λ ys. Contains ys i) (sym k.pre) (subst (λ x. Contains (a.pre.items ++ n ∷ []) x) (sym o) (Contains-push a.pre.items n)))
            (mark_only a.seen.items n i (subst (λ ms. IsMarked ms i) k.seen t));
        marked = λ i t. ⊎_elim
            (λ o. subst (λ ms. IsMarked ms i) (sym k.seen) (mark_kept a.seen.items n i (w.search.marked i o)))
            (λ o. subst (λ ms. IsMarked ms i) (sym k.seen) (subst (λ x. IsMarked (set a.seen.items n true) x) o (mark_put a.seen.items n (omega (arith, w.search.len)))))
            (Contains-push_cases a.pre.items n i (subst (λ ys. Contains ys i) k.pre t));
        open_in = subst (λ ys. All (λ (f : Open). f.node < length g) ys) (sym open_b) (All-push (λ (f : Open). f.node < length g) [] (opened n 0) (λ k d h. absurd (omega arith)) n_in);
      };
      back = λ q r. w.back q (new_root (successors g) (orders a) q n ns (λ t. k.before (w.search.marked n t))
          (moved (successors g) (orders b) (see n (orders a)) q (stack b) (opened n 0 ∷ []) ns (same_order (orders b) (see n (orders a)) k.pre k.post) (ap reverse open_b) r));
    }
      where
        open_b : b.path.items ≡ opened n 0 ∷ []
        open_b = k.open_more ∙ ap (λ fs. fs ++ opened n 0 ∷ []) w.open_none

    pub enters : Enters a b n → Walks ns b
    enters = ⊎_elim enters_seen enters_new

  pub ends : (s : Search) → Waits [] s → Visits (successors g) start roots (orders s)
  ends s w = w.back (orders s) Nothing

-- before a root is visited
pub idle : (g : List (Vec ℕ Global)) (roots : List ℕ) (s : Search) → IsSearch g s → s.path.items ≡ [] → Waits g (orders s) roots roots s
idle g roots s i o = record { search = i; open_none = o; back = λ q v. v }
