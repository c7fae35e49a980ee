-- What a search keeps true.
use Rattle.std.proofs.Common.{◌≡◌, ◌⊎◌, inl, inr, ⊎_elim, ℕ, ◌<◌, List, [], ◌∷◌, length, get_or, refl, sym, ap, ◌∙◌, subst, arith}
use Rattle.std.specs.Prelude.{Bool, All, Contains, ◌↔◌}
use Rattle.std.proofs.lemmas.Option.{slice_get_read}
use Rattle.std.proofs.lemmas.List.Elements.{Contains-get_or}
use Rattle.std.specs.declared.vec.Vec.{Vec}
use Rattle.std.specs.declared.alloc.Global.{Global}
use Rattle.digraph.specs.declared.worklist.Worklist.{Worklist}
use Rattle.digraph.specs.Graph.{row_items, successors, InRange, Reaches, Here, Along}
use Rattle.digraph.specs.Work.{HasNode, Waits, Adds, Takes, IsEmptyWorklist, IsDone}
use Rattle.digraph.specs.Marks.{IsMarked}
use Rattle.digraph.proofs.Marking.{only_one}

-- all that is marked is reached, and what a marked node leads to is marked unless the node still waits
pub record Searches (g : List (Vec ℕ Global)) (entry : ℕ) (w : Worklist) : Type 0 where
  pub len : length w.marked.items ≡ length g
  pub begins : HasNode w entry
  pub sound : (n : ℕ) → HasNode w n → Reaches (successors g) entry n
  pub closed : (n : ℕ) → HasNode w n → Waits w n ⊎ ((m : ℕ) → Contains (successors g n) m → HasNode w m)

-- what stands at a node are its successors
pub successors_at : (g : List (Vec ℕ Global)) (n : ℕ) (row : Vec ℕ Global) → n < length g → row ≡ get_or g n row → successors g n ≡ row.items
successors_at g n row h e = ap row_items (slice_get_read g (length g) n row refl h e)

pub successors_in : (g : List (Vec ℕ Global)) (n m : ℕ) (xs : List ℕ) → InRange g → m ≡ length g → successors g n ≡ xs → All (λ k. k < m) xs
successors_in g n m xs r e q = λ k d h. subst (λ b. get_or xs k d < b) (sym e) (r n (get_or xs k d) (subst (λ s. Contains s (get_or xs k d)) (sym q) (Contains-get_or xs k d h)))

module _ (g : List (Vec ℕ Global)) (entry : ℕ) where
  pub search_begins : (v w : Worklist) → IsEmptyWorklist v (length g) → Adds v w (entry ∷ []) → Searches g entry w
  search_begins v w f a = record {
    len = a.len ∙ f.len;
    begins = a.has entry (0, omega arith, refl);
    sound = λ n h. ⊎_elim (λ o. absurd (f.none n o)) (λ c. subst (λ k. Reaches (successors g) entry k) (sym (only_one entry n c)) Here) (a.only n h);
    closed = λ n h. ⊎_elim (λ o. absurd (f.none n o)) (λ c. inl c) (a.fresh n h);
  }

  pub search_goes_on : (u v w : Worklist) (node : ℕ) → Searches g entry u → Takes u v node → v.marked ≡ u.marked → Adds v w (successors g node) → Searches g entry w
  search_goes_on u v w node s t e a = record {
    len = a.len ∙ (ap (λ m. length m.items) e ∙ s.len);
    begins = a.keeps entry (at_v entry s.begins);
    sound = λ n h. ⊎_elim (λ o. s.sound n (at_u n o)) (λ c. Along (s.sound node t.has) c) (a.only n h);
    closed = λ n h. ⊎_elim
        (λ o. ⊎_elim
        (λ x. ⊎_elim (λ y. inl (a.waits n y)) (λ q. inr (λ m c. a.has m (subst (λ k. Contains (successors g k) m) q c))) (t.rest n x))
        (λ f. inr (λ m c. a.keeps m (at_v m (f m c))))
        (s.closed n (at_u n o)))
        (λ x. inl x)
        (a.fresh n h);
  }
    where
      at_v : (n : ℕ) → HasNode u n → HasNode v n
      at_v n h = subst (λ (x : Vec Bool Global). IsMarked x.items n) (sym e) h

      at_u : (n : ℕ) → HasNode v n → HasNode u n
      at_u n h = subst (λ (x : Vec Bool Global). IsMarked x.items n) e h

  all_reached : (w : Worklist) → Searches g entry w → IsDone w → (n : ℕ) → Reaches (successors g) entry n → HasNode w n
  all_reached w s d n Here = s.begins
  all_reached w s d n (Along {b = b} r c) = ⊎_elim (λ x. absurd (d.done b x)) (λ f. f n c) (s.closed b (all_reached w s d b r))

  pub search_ends : (w : Worklist) → Searches g entry w → IsDone w → (n : ℕ) → HasNode w n ↔ Reaches (successors g) entry n
  search_ends w s d n = (s.sound n, all_reached w s d n)
