-- What is known of operands, in the tree and in the flat function.
use Rattle.std.proofs.Common.{◌≡◌, ⊎_elim, inl, inr, ℕ, zero, suc, ◌+◌, List, [], ◌∷◌, map, length, Option, Some, None, refl, sym, ap, ◌∙◌, subst, arith}
use Rattle.std.specs.Prelude.{slice_get}
use Rattle.ir_base.specs.declared.types.TypeHandle.{TypeHandle}
use Rattle.opt_rows.specs.declared.known.Known.{Known}
use Rattle.opt_rows.specs.declared.known.Known.TheVariants as known
use Rattle.opt_rows.specs.Known as tree
use Rattle.opt_rows.specs.Known.{and_known, asked}
use Rattle.opt_trees.specs.Occurrences.{Has, cons_if, picks}
use Rattle.opt_trees.proofs.Lists.{some_same, none_some}
use Rattle.kit_behaviour.specs.Facts.{Fact, Undetermined, Unknown, Knows, Lacks, Numbers, Open, knows_more, knows, unless_lacking}
use Rattle.kit_behaviour.specs.Facts as flat
use Rattle.kit_behaviour.specs.Machine.{AllEdges, Edge}
use Rattle.kit_ops.specs.declared.attributes.IntegerAttr.{IntegerAttr}
use Rattle.kit_ops.specs.declared.types.KitType.{KitType}
use Rattle.kit.specs.Meaning.{range}
use Rattle.kit_views.specs.Typed.{number_as}
use Rattle.kit_views.proofs.Folding.{Det, number, any}

asked_parts : {A : Type 0} (k : Known A) (o : Option (List (Option A))) (qs : List (Option A)) → and_known k o ≡ Some qs → (k ≡ known.Undetermined → ⊥) × ((ys : List (Option A)) × (o ≡ Some ys))
asked_parts known.Undetermined o qs e = absurd (none_some qs e)
asked_parts (known.One a) None qs e = absurd (none_some qs e)
asked_parts (known.One a) (Some ys) qs e = (λ q. cc q, (ys, refl))
asked_parts known.Any None qs e = absurd (none_some qs e)
asked_parts known.Any (Some ys) qs e = (λ q. cc q, (ys, refl))

knows_parts : (t : Fact) (q : Knows) → (knows_more t q ≡ Lacks → ⊥) → (t ≡ Undetermined → ⊥) × (q ≡ Lacks → ⊥)
knows_parts Undetermined q h = absurd (h refl)
knows_parts (flat.Known n) Lacks h = absurd (h refl)
knows_parts (flat.Known n) (Numbers ns) h = (λ e. cc e, λ e. cc e)
knows_parts (flat.Known n) Open h = (λ e. cc e, λ e. cc e)
knows_parts Unknown Lacks h = absurd (h refl)
knows_parts Unknown (Numbers ns) h = (λ e. cc e, λ e. cc e)
knows_parts Unknown Open h = (λ e. cc e, λ e. cc e)

knows_both : (t : Fact) (q : Knows) → (t ≡ Undetermined → ⊥) → (q ≡ Lacks → ⊥) → knows_more t q ≡ Lacks → ⊥
knows_both Undetermined q h k e = h refl
knows_both (flat.Known n) Lacks h k e = k refl
knows_both (flat.Known n) (Numbers ns) h k e = cc e
knows_both (flat.Known n) Open h k e = cc e
knows_both Unknown Lacks h k e = k refl
knows_both Unknown (Numbers ns) h k e = cc e
knows_both Unknown Open h k e = cc e

pub unless : (p q : Knows) → (p ≡ Lacks → ⊥) → unless_lacking p q ≡ q
unless Lacks q h = absurd (h refl)
unless (Numbers ns) q h = refl
unless Open q h = refl

pub unless_parts : (p q : Knows) → (unless_lacking p q ≡ Lacks → ⊥) → (p ≡ Lacks → ⊥) × (q ≡ Lacks → ⊥)
unless_parts Lacks q h = absurd (h refl)
unless_parts (Numbers ns) q h = (λ e. cc e, h)
unless_parts Open q h = (λ e. cc e, h)

module _ {V : Type 0} (leads : TypeHandle → Option KitType) (type_at : V → TypeHandle) (k : V → Known IntegerAttr) (l : V → Fact) where
  abbrev pub IsDet : V → Type 0
  IsDet v = Det leads (type_at v) (k v) (l v)

  pub det_tree : (v : V) → IsDet v → k v ≡ known.Undetermined → ⊥
  det_tree v (number n a b c) e = let q : known.One (number_as leads (type_at v) n) ≡ known.Undetermined = sym a ∙ e in cc q
  det_tree v (any a b) e = let q : ◌≡◌ {A = Known IntegerAttr} known.Any known.Undetermined = sym a ∙ e in cc q

  pub det_flat : (v : V) → IsDet v → l v ≡ Undetermined → ⊥
  det_flat v (number n a b c) e = let q : flat.Known n ≡ Undetermined = sym b ∙ e in cc q
  det_flat v (any a b) e = let q : Unknown ≡ Undetermined = sym b ∙ e in cc q

  -- where something is asked, no operand lacks
  pub asked_none : (vs : List V) (qs : List (Option IntegerAttr)) → asked (map k vs) ≡ Some qs → (v : V) → Has v vs → k v ≡ known.Undetermined → ⊥
  asked_none [] qs e v i q = i
  asked_none (x ∷ vs) qs e v i q =
      let p = asked_parts (k x) (asked (map k vs)) qs e in
      ⊎_elim (λ z. p.0 (ap k (sym z) ∙ q)) (λ z. asked_none vs p.1.0 p.1.1 v z q) i

  pub asked_some : (vs : List V) → ((v : V) → Has v vs → IsDet v) → (qs : List (Option IntegerAttr)) × (asked (map k vs) ≡ Some qs)
  asked_some [] h = ([], refl)
  asked_some (x ∷ vs) h = let r = asked_some vs (λ v i. h v (inr i)) in step (h x (inl refl)) r.0 r.1
    where
      step : IsDet x → (ys : List (Option IntegerAttr)) → asked (map k vs) ≡ Some ys → (qs : List (Option IntegerAttr)) × (asked (map k (x ∷ vs)) ≡ Some qs)
      step (number n a b c) ys e = (Some (number_as leads (type_at x) n) ∷ ys, λ i. and_known (a i) (e i))
      step (any a b) ys e = (None ∷ ys, λ i. and_known (a i) (e i))

  -- what is asked of a first operand that is a number, and of one that is any
  pub first_number : (x : V) (vs : List V) (qs : List (Option IntegerAttr)) (a : IntegerAttr) → k x ≡ known.One a → asked (map k (x ∷ vs)) ≡ Some qs → (ys : List (Option IntegerAttr)) × (qs ≡ Some a ∷ ys)
  first_number x vs qs a e q = step (asked (map k vs)) refl
    where
      step : (o : Option (List (Option IntegerAttr))) → asked (map k vs) ≡ o → (ys : List (Option IntegerAttr)) × (qs ≡ Some a ∷ ys)
      step None z = absurd (none_some qs (sym (λ i. and_known (e i) (z i)) ∙ q))
      step (Some ys) z = (ys, sym (some_same (Some a ∷ ys) qs (sym (λ i. and_known (e i) (z i)) ∙ q)))

  pub first_any : (x : V) (vs : List V) (qs : List (Option IntegerAttr)) → k x ≡ known.Any → asked (map k (x ∷ vs)) ≡ Some qs → (ys : List (Option IntegerAttr)) × (qs ≡ None ∷ ys)
  first_any x vs qs e q = step (asked (map k vs)) refl
    where
      step : (o : Option (List (Option IntegerAttr))) → asked (map k vs) ≡ o → (ys : List (Option IntegerAttr)) × (qs ≡ None ∷ ys)
      step None z = absurd (none_some qs (sym (λ i. and_known (e i) (z i)) ∙ q))
      step (Some ys) z = (ys, sym (some_same (None ∷ ys) qs (sym (λ i. and_known (e i) (z i)) ∙ q)))

  pub det_knows : (vs : List V) → ((v : V) → Has v vs → IsDet v) → knows (map l vs) ≡ Lacks → ⊥
  det_knows [] h e = cc e
  det_knows (x ∷ vs) h e = knows_both (l x) (knows (map l vs)) (det_flat x (h x (inl refl))) (det_knows vs (λ v i. h v (inr i))) e

  pub knows_none : (vs : List V) → (knows (map l vs) ≡ Lacks → ⊥) → (v : V) → Has v vs → l v ≡ Undetermined → ⊥
  knows_none [] h v i q = i
  knows_none (x ∷ vs) h v i q =
      let p = knows_parts (l x) (knows (map l vs)) h in
      ⊎_elim (λ z. p.0 (ap l (sym z) ∙ q)) (λ z. knows_none vs p.1 v z q) i

  -- pairs of arguments and of what is forwarded to them
  pub below_tree : (ts gs : List V) → ((p : ℕ) (t g : V) → slice_get ts p ≡ Some t → slice_get gs p ≡ Some g → flat.FactAtOrBelow (l t) (l g) → tree.AtOrBelow (k t) (k g)) → (m : flat.FunctionFacts V) → m.of ≡ l → flat.AllFactsAtOrBelow m ts gs → tree.AllBelow k ts (map k gs)
  below_tree [] gs h m e b = tt
  below_tree (t ∷ ts) [] h m e b = tt
  below_tree (t ∷ ts) (g ∷ gs) h m e b = (h 0 t g refl refl (subst (λ z. flat.FactAtOrBelow (z t) (z g)) e b.0), below_tree ts gs (λ p. h (suc p)) m e b.1)

  pub below_flat : (ts gs : List V) → ((p : ℕ) (t g : V) → slice_get ts p ≡ Some t → slice_get gs p ≡ Some g → tree.AtOrBelow (k t) (k g) → flat.FactAtOrBelow (l t) (l g)) → (m : flat.FunctionFacts V) → m.of ≡ l → tree.AllBelow k ts (map k gs) → flat.AllFactsAtOrBelow m ts gs
  below_flat [] gs h m e b = tt
  below_flat (t ∷ ts) [] h m e b = tt
  below_flat (t ∷ ts) (g ∷ gs) h m e b = (subst (λ z. flat.FactAtOrBelow (z t) (z g)) (sym e) (h 0 t g refl refl b.0), below_flat ts gs (λ p. h (suc p)) m e b.1)

pub picks_range : {X : Type 0} (xs gs : List X) (s : ℕ) → ((p i : ℕ) (v : X) → slice_get gs p ≡ Some v → i ≡ s + p → slice_get xs i ≡ Some v) → picks xs (range s (length gs)) ≡ gs
picks_range xs [] s h = refl
picks_range xs (g ∷ gs) s h =
    ap (λ o. cons_if o (picks xs (range (suc s) (length gs)))) (h 0 s g refl (omega arith))
    ∙ ap (λ ys. g ∷ ys) (picks_range xs gs (suc s) (λ p i v e q. h (suc p) i v e (omega (arith, q))))

pub all_edges_at : {V : Type 0} (P : Edge V → Type 0) (es : List (Edge V)) → AllEdges P es → (i : ℕ) (e : Edge V) → slice_get es i ≡ Some e → P e
all_edges_at P [] h i e q = absurd (none_some e q)
all_edges_at P (x ∷ es) h zero e q = subst P (some_same x e q) h.0
all_edges_at P (x ∷ es) h (suc i) e q = all_edges_at P es h.1 i e q
