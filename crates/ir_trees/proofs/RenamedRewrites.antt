-- Renaming and rewriting, in either order.
use Rattle.std.proofs.Common.{◌≡◌, Bool, true, false, cond, refl, ap, ◌∙◌, inl, inr}
use Rattle.ir_trees.specs.Names.{Names, Contents}
use Rattle.ir_trees.specs.Trees.{Head, Label, Sort, Operations, Blocks, Regions, Tree, end, operation, block, region, Root}
use Rattle.ir_trees.specs.Searched.{heads_in, labels_in, heads_of, labels_of}
use Rattle.ir_trees.specs.Rewrites.{Rewriting, joined, changed, changed_root, rewritten, rewritten_root}
use Rattle.ir_trees.specs.Renames.{Maps, rename_head, rename_label, rename, rename_root, ChangeAlike, RewriteHeadAlike, RewriteLabelAlike, RewriteAlike}
use Rattle.ir_trees.proofs.Members.{Has, has_at, has_front, has_back}

module _ {N M : Names} {S : Contents} (m : Maps N M) where
  joined_under : (a b : Tree N S Operations) → joined (rename m a) (rename m b) ≡ rename m (joined a b)
  joined_under end b = refl
  joined_under (operation h rs rest) b = ap (λ x. operation (rename_head m h) (rename m rs) x) (joined_under rest b)

  -- what stands for an operation, in front of a list
  operation_put : (put behind rest : Tree N S Operations) (k : Bool) (h : Head N S) (rs : Tree N S Regions)
      → joined (rename m put) (cond k (operation (rename_head m h) (rename m rs) (joined (rename m behind) (rename m rest))) (joined (rename m behind) (rename m rest))) ≡ rename m (joined put (cond k (operation h rs (joined behind rest)) (joined behind rest)))
  operation_put put behind rest true h rs = ap (λ x. joined (rename m put) (operation (rename_head m h) (rename m rs) x)) (joined_under behind rest) ∙ joined_under put (operation h rs (joined behind rest))
  operation_put put behind rest false h rs = ap (λ x. joined (rename m put) x) (joined_under behind rest) ∙ joined_under put (joined behind rest)

  block_put : (first ops last : Tree N S Operations) (k : Bool) (l : Label N S) (rest : Tree N S Blocks)
      → cond k (block (rename_label m l) (joined (rename m first) (joined (rename m ops) (rename m last))) (rename m rest)) (rename m rest) ≡ rename m (cond k (block l (joined first (joined ops last)) rest) rest)
  block_put first ops last true l rest = ap (λ x. block (rename_label m l) x (rename m rest)) (ap (λ x. joined (rename m first) x) (joined_under ops last) ∙ joined_under first (joined ops last))
  block_put first ops last false l rest = refl

  module _ (f : Head N S → Head N S) (g : Label N S → Label N S) (f' : Head M S → Head M S) (g' : Label M S → Label M S) where
    changed_under : {s : Sort} (t : Tree N S s) → ((h : Head N S) → Has h (heads_in t) → f' (rename_head m h) ≡ rename_head m (f h)) → ((l : Label N S) → Has l (labels_in t) → g' (rename_label m l) ≡ rename_label m (g l))
        → changed f' g' (rename m t) ≡ rename m (changed f g t)
    changed_under end hs ls = refl
    changed_under (operation h rs rest) hs ls = λ i. operation (hs h (inl refl) i)
        (changed_under rs (λ k has. hs k (inr (has_front (heads_in rs) (heads_in rest) k has))) (λ l has. ls l (has_front (labels_in rs) (labels_in rest) l has)) i)
        (changed_under rest (λ k has. hs k (inr (has_back (heads_in rs) (heads_in rest) k has))) (λ l has. ls l (has_back (labels_in rs) (labels_in rest) l has)) i)
    changed_under (block l ops rest) hs ls = λ i. block (ls l (inl refl) i)
        (changed_under ops (λ k has. hs k (has_front (heads_in ops) (heads_in rest) k has)) (λ k has. ls k (inr (has_front (labels_in ops) (labels_in rest) k has))) i)
        (changed_under rest (λ k has. hs k (has_back (heads_in ops) (heads_in rest) k has)) (λ k has. ls k (inr (has_back (labels_in ops) (labels_in rest) k has))) i)
    changed_under (region bs rest) hs ls = λ i. region
        (changed_under bs (λ k has. hs k (has_front (heads_in bs) (heads_in rest) k has)) (λ l has. ls l (has_front (labels_in bs) (labels_in rest) l has)) i)
        (changed_under rest (λ k has. hs k (has_back (heads_in bs) (heads_in rest) k has)) (λ l has. ls l (has_back (labels_in bs) (labels_in rest) l has)) i)

    pub changed_renamed : (t : Root N S) → ChangeAlike m f g f' g' t → changed_root f' g' (rename_root m t) ≡ rename_root m (changed_root f g t)
    changed_renamed t alike = λ i. record {
      head = alike.heads t.head (has_at (heads_of t) t.head (inl refl)) i;
      regions = changed_under t.regions (λ h has. alike.heads h (has_at (heads_of t) h (inr has))) (λ l has. alike.labels l (has_at (labels_of t) l has)) i;
    }

  module _ (w : Rewriting N S) (w' : Rewriting M S) where
    rewritten_under : {s : Sort} (t : Tree N S s) → ((h : Head N S) → Has h (heads_in t) → RewriteHeadAlike m w w' h) → ((l : Label N S) → Has l (labels_in t) → RewriteLabelAlike m w w' l)
        → rewritten w' (rename m t) ≡ rename m (rewritten w t)
    rewritten_under end hs ls = refl
    rewritten_under (operation h rs rest) hs ls =
        let a = hs h (inl refl) in
        let inner = rewritten_under rs (λ k has. hs k (inr (has_front (heads_in rs) (heads_in rest) k has))) (λ l has. ls l (has_front (labels_in rs) (labels_in rest) l has)) in
        let later = rewritten_under rest (λ k has. hs k (inr (has_back (heads_in rs) (heads_in rest) k has))) (λ l has. ls l (has_back (labels_in rs) (labels_in rest) l has)) in
        (λ i. joined (a.before i) (cond (a.keeps i) (operation (a.head i) (inner i) (joined (a.after i) (later i))) (joined (a.after i) (later i))))
        ∙ operation_put (w.before h) (w.after h) (rewritten w rest) (w.keeps h) (w.head h) (rewritten w rs)
    rewritten_under (block l ops rest) hs ls =
        let a = ls l (inl refl) in
        let inner = rewritten_under ops (λ k has. hs k (has_front (heads_in ops) (heads_in rest) k has)) (λ k has. ls k (inr (has_front (labels_in ops) (labels_in rest) k has))) in
        let later = rewritten_under rest (λ k has. hs k (has_back (heads_in ops) (heads_in rest) k has)) (λ k has. ls k (inr (has_back (labels_in ops) (labels_in rest) k has))) in
        (λ i. cond (a.keeps_block i) (block (a.label i) (joined (a.first i) (joined (inner i) (a.last i))) (later i)) (later i))
        ∙ block_put (w.first l) (rewritten w ops) (w.last l) (w.keeps_block l) (w.label l) (rewritten w rest)
    rewritten_under (region bs rest) hs ls = λ i. region
        (rewritten_under bs (λ k has. hs k (has_front (heads_in bs) (heads_in rest) k has)) (λ l has. ls l (has_front (labels_in bs) (labels_in rest) l has)) i)
        (rewritten_under rest (λ k has. hs k (has_back (heads_in bs) (heads_in rest) k has)) (λ l has. ls l (has_back (labels_in bs) (labels_in rest) l has)) i)

    pub rewritten_renamed : (t : Root N S) → RewriteAlike m w w' t → rewritten_root w' (rename_root m t) ≡ rename_root m (rewritten_root w t)
    rewritten_renamed t alike = λ i. record {
      head = (alike.heads t.head (has_at (heads_of t) t.head (inl refl))).head i;
      regions = rewritten_under t.regions (λ h has. alike.heads h (has_at (heads_of t) h (inr has))) (λ l has. alike.labels l (has_at (labels_of t) l has)) i;
    }
