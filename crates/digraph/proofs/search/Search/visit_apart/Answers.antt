use Rattle.std.proofs.Common.{rules, ℕ, List, ◌≡◌, ◌≤◌, ◌-◌, ◌++◌, ◌∷◌, [], zero, suc, refl, take, drop, length, sym, ap, ◌∙◌, arith}
use Rattle.std.proofs.lemmas.List.{length-drop}
use Rattle.digraph.specs.Graph.{successors}
use Rattle.digraph.proofs.Visiting.{left_grows, behind, ok_more}
use Rattle.digraph.proofs.search.Search.visit_apart.Goals as goal

pub offset_bounds-deref-start : goal.offset_bounds-deref-start
offset_bounds-deref-start c = let g = left_grows (successors c.args.graph.now) c.in_ok-visit.ensures.visited in let h = behind c.args.self.now.post.items g.0 c.visit.new.self.post.items g.1 in let l : c.len-start.result ≤ length c.visit.new.self.post.items = search rules in search rules

pub slice_bounds-from_slice-count : goal.slice_bounds-from_slice-count
slice_bounds-from_slice-count c = let g = left_grows (successors c.args.graph.now) c.in_ok-visit.ensures.visited in let h = behind c.args.self.now.post.items g.0 c.visit.new.self.post.items g.1 in search rules

pub slice_bounds-from_slice-start : goal.slice_bounds-from_slice-start
slice_bounds-from_slice-start c = let g = left_grows (successors c.args.graph.now) c.in_ok-visit.ensures.visited in let h = behind c.args.self.now.post.items g.0 c.visit.new.self.post.items g.1 in search rules

whole : (k : ℕ) (xs : List ℕ) → take (length xs - k) (drop k xs) ≡ drop k xs
whole k xs = go (drop k xs) (length xs - k) (omega (arith, length-drop k xs))
  where
    go : (ys : List ℕ) (n : ℕ) → length ys ≤ n → take n ys ≡ ys
    go [] zero h = refl
    go [] (suc n) h = refl
    go (y ∷ ys) zero h = absurd (omega (arith, h))
    go (y ∷ ys) (suc n) h = ap (λ zs. y ∷ zs) (go ys n (omega (arith, h)))

pub returns-clause-part : goal.returns-clause-part
returns-clause-part c =
    let g = left_grows (successors c.args.graph.now) c.in_ok-visit.ensures.visited in
    let h = behind c.args.self.now.post.items g.0 c.visit.new.self.post.items g.1 in
    ok_more c.from_slice.result (λ v e. h.1 ∙ ap (λ xs. c.args.self.now.post.items ++ xs) ((let a = c.len-start.ensures in let b = c.deref.ensures.value in search rules) ∙ sym (e ∙ whole c.len-start.result c.deref.result.now))) c.from_slice.ensures.items
