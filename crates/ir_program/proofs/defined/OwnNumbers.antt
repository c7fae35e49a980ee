-- No two entities come to have definitions with one number.
use Rattle.std.proofs.Common.{◌≡◌, ◌≢◌, ℕ, zero, suc, ◌<◌, ◌≤◌, ◌⊎◌, inl, inr, ⊎_elim, List, [], ◌∷◌, Some, insert, remove, slice_get, sym, ap, ◌∙◌, arith}
use Rattle.ir_program.specs.Sound.{AreNumbered, DefinitionsHaveOwnNumbers}
use Rattle.ir_program.specs.declared.handles.DefiningEntity.{DefiningEntity}
use Rattle.ir_program.specs.declared.records.Definition.{Definition}
use Rattle.ir_program.proofs.defined.Arrivals.{same_definer}

-- what stands in a list with one more is that or stood there
pub inserted-stood : (ds : List Definition) (k : ℕ) (d : Definition) (i : ℕ) (g : Definition) → slice_get (insert ds k d) i ≡ Some g → ((j : ℕ) × (slice_get ds j ≡ Some g)) ⊎ (g ≡ d)
inserted-stood [] zero d zero g h = let is : g ≡ d = cc in inr is
inserted-stood [] zero d (suc i) g h = cc
inserted-stood [] (suc k) d zero g h = let is : g ≡ d = cc in inr is
inserted-stood [] (suc k) d (suc i) g h = cc
inserted-stood (e ∷ ds) zero d zero g h = let is : g ≡ d = cc in inr is
inserted-stood (e ∷ ds) zero d (suc i) g h = inl (i, h)
inserted-stood (e ∷ ds) (suc k) d zero g h = inl (zero, h)
inserted-stood (e ∷ ds) (suc k) d (suc i) g h = ⊎_elim (λ at. inl (suc at.0, at.1)) (λ is. inr is) (inserted-stood ds k d i g h)

-- what stands in a list with one less stood there
pub removed-stood : (ds : List Definition) (k i : ℕ) (g : Definition) → slice_get (remove ds k) i ≡ Some g → (j : ℕ) × (slice_get ds j ≡ Some g)
removed-stood [] zero i g h = (i, h)
removed-stood [] (suc k) i g h = (i, h)
removed-stood (e ∷ ds) zero i g h = (suc i, h)
removed-stood (e ∷ ds) (suc k) zero g h = (zero, h)
removed-stood (e ∷ ds) (suc k) (suc i) g h = let at : (j : ℕ) × (slice_get ds j ≡ Some g) = removed-stood ds k i g h in (suc at.0, at.1)

module _ (old new : DefiningEntity → List Definition) (own : DefinitionsHaveOwnNumbers old) where
  -- where nothing came
  pub own-within : ((e : DefiningEntity) (i : ℕ) (d : Definition) → slice_get (new e) i ≡ Some d → (j : ℕ) × (slice_get (old e) j ≡ Some d)) → DefinitionsHaveOwnNumbers new
  own-within stood e f j k d g h i same = let a : (m : ℕ) × (slice_get (old e) m ≡ Some d) = stood e j d h in let b : (m : ℕ) × (slice_get (old f) m ≡ Some g) = stood f k g i in own e f a.0 b.0 d g a.1 b.1 same

  pub own-same : ((e : DefiningEntity) → new e ≡ old e) → DefinitionsHaveOwnNumbers new
  own-same same = own-within (λ e i d h. (i, ap (λ l. slice_get l i) (sym (same e)) ∙ h))

  -- where one entity changed, and what came there has the counter's number or a later one
  module _ (x : DefiningEntity) (n : ℕ) (numbers : (e : DefiningEntity) → AreNumbered n (old e)) (others : (e : DefiningEntity) → e ≢ x → new e ≡ old e)
      (here : (i : ℕ) (d : Definition) → slice_get (new x) i ≡ Some d → ((j : ℕ) × (slice_get (old x) j ≡ Some d)) ⊎ (n ≤ d.number)) where
    -- a definition elsewhere has no number of the changed entity
    apart : (f : DefiningEntity) → f ≢ x → (j k : ℕ) (d g : Definition) → slice_get (new x) j ≡ Some d → slice_get (new f) k ≡ Some g → d.number ≡ g.number → x ≡ f
    apart f ne j k d g h i same =
        let was : slice_get (old f) k ≡ Some g = ap (λ l. slice_get l k) (sym (others f ne)) ∙ i in
        ⊎_elim
        (λ at. own x f at.0 k d g at.1 was same)
        (λ (late : n ≤ d.number). let low : g.number < n = (numbers f).below k g was in absurd (omega arith))
        (here j d h)

    pub own-changed : DefinitionsHaveOwnNumbers new
    own-changed e f j k d g h i same = ⊎_elim
        (λ (q : e ≡ x). ⊎_elim
        (λ (r : f ≡ x). q ∙ sym r)
        (λ ne. q ∙ apart f ne j k d g (ap (λ y. slice_get (new y) j) (sym q) ∙ h) i same)
        (same_definer f x))
        (λ ne. ⊎_elim
        (λ (r : f ≡ x). sym (r ∙ apart e ne k j g d (ap (λ y. slice_get (new y) k) (sym r) ∙ i) h (sym same)))
        (λ nf. own e f j k d g (ap (λ l. slice_get l j) (sym (others e ne)) ∙ h) (ap (λ l. slice_get l k) (sym (others f nf)) ∙ i) same)
        (same_definer f x))
        (same_definer e x)

  -- one came, with the counter's number
  pub own-joined : (x : DefiningEntity) (n : ℕ) → ((e : DefiningEntity) → AreNumbered n (old e)) → ((e : DefiningEntity) → e ≢ x → new e ≡ old e) → (k : ℕ) (d : Definition) → new x ≡ insert (old x) k d → d.number ≡ n → DefinitionsHaveOwnNumbers new
  own-joined x n numbers others k d is number = own-changed x n numbers others (λ i g h. ⊎_elim (λ at. inl at) (λ (same : g ≡ d). let late : g.number ≡ n = ap (λ (y : Definition). y.number) same ∙ number in inr (omega (arith, late))) (inserted-stood (old x) k d i g (ap (λ l. slice_get l i) (sym is) ∙ h)))

  -- one left
  pub own-left : (x : DefiningEntity) (n : ℕ) → ((e : DefiningEntity) → AreNumbered n (old e)) → ((e : DefiningEntity) → e ≢ x → new e ≡ old e) → (k : ℕ) → new x ≡ remove (old x) k → DefinitionsHaveOwnNumbers new
  own-left x n numbers others k is = own-changed x n numbers others (λ i g h. inl (removed-stood (old x) k i g (ap (λ l. slice_get l i) (sym is) ∙ h)))
