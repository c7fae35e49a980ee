-- What lowering facts keeps.
use Rattle.std.proofs.Common.{zero, ◌≡◌, ◌⊎◌, inl, inr, ⊎_elim, ℕ, suc, ◌+◌, ◌<◌, List, [], ◌∷◌, ◌++◌, Some, Bool, true, false, length, get_or, cond, refl, sym, ap, ◌∙◌, subst, arith}
use Rattle.std.specs.Prelude.{All, Contains, slice_get, unwrap_or, not, count_by, if◌then◌else◌}
use Rattle.std.proofs.Math.ListN.{set}
use Rattle.std.proofs.lemmas.Option.{unwrap_or-slice_get}
use Rattle.std.proofs.lemmas.List.{get_or_default, length-set, length-append, get_or-set_other, get_or-set_same}
use Rattle.std.proofs.lemmas.List.Sums.{sum_by-set}
use Rattle.std.proofs.lemmas.List.Elements.{All-push, Contains-push, Contains-append_left}
use Rattle.digraph.proofs.Marking.{mark_kept, mark_put}
use Rattle.opt_rows.specs.declared.known.Known.{Known}
use Rattle.opt_rows.specs.declared.known.Known.TheVariants.{Undetermined, One, Any}
use Rattle.opt_rows.specs.declared.facts_found.Found.{Found}
use Rattle.opt_rows.specs.Known.{AtOrBelow, MorePrecise}
use Rattle.opt_rows.specs.KnownFalls.{height, heights, FallsBelow}
use Rattle.opt_rows.specs.Facts.{NumberedFacts}
use Rattle.opt_rows.specs.FactsFound.{facts_of, Falls, Meets}
use Rattle.opt_rows.proofs.Lists.{decide}

module _ {X : Type 0} where
  pub or-set_same : (xs : List X) (i : ℕ) (x d : X) → i < length xs → unwrap_or (slice_get (set xs i x) i) d ≡ x
  or-set_same xs i x d h = unwrap_or-slice_get (set xs i x) i d ∙ get_or-set_same xs i x d h

  pub or-set_other : (xs : List X) (i j : ℕ) (x d : X) → (j ≡ i → ⊥) → unwrap_or (slice_get (set xs i x) j) d ≡ unwrap_or (slice_get xs j) d
  or-set_other xs i j x d h = unwrap_or-slice_get (set xs i x) j d ∙ (get_or-set_other xs i j x d h ∙ sym (unwrap_or-slice_get xs j d))

  pub or_read : (xs : List X) (i : ℕ) (x d : X) → i < length xs → x ≡ get_or xs i x → unwrap_or (slice_get xs i) d ≡ x
  or_read xs i x d h e = unwrap_or-slice_get xs i d ∙ sym (e ∙ get_or_default xs i x d h)

count_set : (ms : List Bool) (i : ℕ) → i < length ms → get_or ms i false ≡ false → count_by not (set ms i true) + 1 ≡ count_by not ms
count_set ms i h e = let s = sum_by-set (λ b. cond (not b) 1 0) ms i true false h in let f : Bool → ℕ = λ b. cond (not b) 1 0 in let q = ap f e in omega (arith, s, q)

-- of the blocks in the list each runs, where one that runs now may be put behind the others
pub blocks_run : (runs : List Bool) (old new : List ℕ) (block : ℕ) (pushed : Bool) → block < length runs → All (λ b. slice_get runs b ≡ Some true) old → new ≡ (if pushed then old ++ block ∷ [] else old)
    → All (λ b. slice_get (set runs block true) b ≡ Some true) new
blocks_run runs old new block true h all e = subst (λ bs. All (λ b. slice_get (set runs block true) b ≡ Some true) bs) (sym e)
    (All-push (λ b. slice_get (set runs block true) b ≡ Some true) old block (λ k d l. mark_kept runs block (get_or old k d) (all k d l)) (mark_put runs block h))
blocks_run runs old new block false h all e = subst (λ bs. All (λ b. slice_get (set runs block true) b ≡ Some true) bs) (sym e)
    (λ k d l. mark_kept runs block (get_or old k d) (all k d l))

module _ {A : Type 0} where
  pub at_top : (x : Known A) → AtOrBelow x Undetermined
  at_top Undetermined = tt
  at_top (One a) = tt
  at_top Any = tt

  pub at_self : (x : Known A) → AtOrBelow x x
  at_self Undetermined = tt
  at_self (One a) = refl
  at_self Any = tt

  pub at_same : (x y : Known A) → x ≡ y → AtOrBelow x y
  at_same x y e = subst (AtOrBelow x) e (at_self x)

  pub at_trans : (x y z : Known A) → AtOrBelow x y → AtOrBelow y z → AtOrBelow x z
  at_trans x y Undetermined a b = at_top x
  at_trans x Undetermined (One c) a b = absurd b
  at_trans Undetermined (One e) (One c) a b = absurd a
  at_trans (One d) (One e) (One c) a b = a ∙ b
  at_trans Any (One e) (One c) a b = tt
  at_trans Undetermined Any (One c) a b = absurd a
  at_trans (One d) Any (One c) a b = absurd a
  at_trans Any Any (One c) a b = tt
  at_trans x Undetermined Any a b = absurd b
  at_trans x (One e) Any a b = absurd b
  at_trans x Any Any a b = a

  -- nothing lies below any value but it
  pub at_any : (x : Known A) → AtOrBelow x Any → x ≡ Any
  at_any Undetermined a = absurd a
  at_any (One d) a = absurd a
  at_any Any a = refl

  pub any_below : (x y : Known A) → AtOrBelow x y → y ≡ Any → x ≡ Any
  any_below x y a e = at_any x (subst (AtOrBelow x) e a)

  heights-set : (xs : List (Known A)) (i : ℕ) (x d : Known A) → i < length xs → heights (set xs i x) + height (get_or xs i d) ≡ heights xs + height x
  heights-set [] i x d h = absurd (omega arith)
  heights-set (y ∷ ys) zero x d h = omega arith
  heights-set (y ∷ ys) (suc i) x d h = omega (arith, heights-set ys i x d (omega arith))

  pub precise_self : (k : NumberedFacts A) → MorePrecise k k
  precise_self k = record { fewer = λ b e. e; above = λ v. at_self (k.of v) }

  pub precise_trans : (k l m : NumberedFacts A) → MorePrecise k l → MorePrecise l m → MorePrecise k m
  precise_trans k l m p q = record { fewer = λ b e. q.fewer b (p.fewer b e); above = λ v. at_trans (m.of v) (l.of v) (k.of v) (q.above v) (p.above v) }

  pub falls_none : (D : NumberedFacts A → Type 0) (s : Found A) → Falls D s s
  falls_none D s = record {
    blocks_len = refl;
    values_len = refl;
    falls = precise_self (facts_of s);
    value_waits = λ v. inl refl;
    block_waits = λ b e. inl e;
    keeps_values = λ v c. c;
    keeps_blocks = λ b c. c;
    work = omega arith;
    best = λ l d m. m;
  }

  pub falls_then : (D : NumberedFacts A → Type 0) (a b c : Found A) → Falls D a b → Falls D b c → Falls D a c
  falls_then D a b c p q = record {
    blocks_len = q.blocks_len ∙ p.blocks_len;
    values_len = q.values_len ∙ p.values_len;
    falls = precise_trans (facts_of a) (facts_of b) (facts_of c) p.falls q.falls;
    value_waits = λ v. ⊎_elim (λ e. ⊎_elim (λ f. inl (e ∙ f)) (λ w. inr (q.keeps_values v w)) (p.value_waits v)) (λ w. inr w) (q.value_waits v);
    block_waits = λ n e. ⊎_elim (λ r. ⊎_elim (λ f. inl f) (λ w. inr (q.keeps_blocks n w)) (p.block_waits n r)) (λ w. inr w) (q.block_waits n e);
    keeps_values = λ v w. q.keeps_values v (p.keeps_values v w);
    keeps_blocks = λ n w. q.keeps_blocks n (p.keeps_blocks n w);
    work = omega (arith, p.work, q.work);
    best = λ l d m. q.best l d (p.best l d m);
  }

  -- another demand, of facts that the old ones are more precise than
  pub falls_when : (D E : NumberedFacts A → Type 0) (a b : Found A) → ((l : NumberedFacts A) → E l → MorePrecise (facts_of a) l → D l) → Falls D a b → Falls E a b
  falls_when D E a b f p = record {
    blocks_len = p.blocks_len;
    values_len = p.values_len;
    falls = p.falls;
    value_waits = p.value_waits;
    block_waits = p.block_waits;
    keeps_values = p.keeps_values;
    keeps_blocks = p.keeps_blocks;
    work = p.work;
    best = λ l d m. p.best l (f l d m) m;
  }

  pub falls_as : (D E : NumberedFacts A → Type 0) → ((l : NumberedFacts A) → E l → D l) → (a b : Found A) → Falls D a b → Falls E a b
  falls_as D E f a b p = falls_when D E a b (λ l d m. f l d) p

  -- a demand that is met stays met, and one that two demands make up is met after both
  pub meets_then : (D E G : NumberedFacts A → Type 0) → ((l : NumberedFacts A) → G l → D l) → ((l : NumberedFacts A) → G l → E l) → ((l : NumberedFacts A) → D l → E l → G l) → ((k l : NumberedFacts A) → MorePrecise k l → D k → D l) → (a b c : Found A) → Meets D a b → Meets E b c → Meets G a c
  meets_then D E G first second both stays a b c p q = record {
    steps = falls_then G a b c (falls_as D G first a b p.steps) (falls_as E G second b c q.steps);
    holds = both (facts_of c) (stays (facts_of b) (facts_of c) q.steps.falls p.holds) q.holds;
  }

  pub meets_as : (D E : NumberedFacts A → Type 0) → ((l : NumberedFacts A) → E l → D l) → ((l : NumberedFacts A) → D l → E l) → (a b : Found A) → Meets D a b → Meets E a b
  meets_as D E f g a b p = record { steps = falls_as D E f a b p.steps; holds = g (facts_of b) p.holds }

  pub meets_none : (D : NumberedFacts A → Type 0) (s : Found A) → D (facts_of s) → Meets D s s
  meets_none D s d = record { steps = falls_none D s; holds = d }

  -- one value's fact falls
  pub lowered : (old new : Found A) (v : ℕ) (was fact z : Known A) → v < length old.known.items → was ≡ get_or old.known.items v was → FallsBelow was fact z → new.runs ≡ old.runs → new.blocks ≡ old.blocks → new.known.items ≡ set old.known.items v z → new.values.items ≡ old.values.items ++ v ∷ [] → Meets (λ l. AtOrBelow (l.of v) fact) old new
  lowered old new v was fact z h w f r b k q = record {
    steps = record {
      blocks_len = ap (λ x. length x.items) r;
      values_len = ap length k ∙ length-set old.known.items v z;
      falls = record {
        fewer = λ n e. subst (λ x. unwrap_or (slice_get x.items n) false ≡ true) (sym r) e;
        above = λ u. ⊎_elim (λ e. subst (λ x. AtOrBelow ((facts_of new).of x) ((facts_of old).of x)) (sym e) (subst (λ x. AtOrBelow x ((facts_of old).of v)) (sym there) (subst (AtOrBelow z) (sym before) f.left))) (λ e. at_same _ _ (other u e)) (decide u v);
      };
      value_waits = λ u. ⊎_elim (λ e. inr (subst (λ xs. Contains xs u) (sym q) (subst (Contains (old.values.items ++ v ∷ [])) (sym e) (Contains-push old.values.items v)))) (λ e. inl (other u e)) (decide u v);
      block_waits = λ n e. inl (subst (λ x. unwrap_or (slice_get x.items n) false ≡ true) r e);
      keeps_values = λ u c. subst (λ xs. Contains xs u) (sym q) (Contains-append_left old.values.items (v ∷ []) u c);
      keeps_blocks = λ n c. subst (λ x. Contains x.items n) (sym b) c;
      work =
          let s = heights-set old.known.items v z was h in
          let t = ap height w in
          let u = ap heights k in
          let x = ap length q in
          let y = length-append old.values.items (v ∷ []) in
          let d = ap (λ x. count_by not x.items) r in
          let e = ap (λ x. length x.items) b in omega (arith, f.less, s, t, u, x, y, d, e);
      best = λ l d m. record {
        fewer = λ n e. m.fewer n (subst (λ x. unwrap_or (slice_get x.items n) false ≡ true) r e);
        above = λ u. ⊎_elim
            (λ e. subst (λ x. AtOrBelow (l.of x) ((facts_of new).of x)) (sym e) (subst (AtOrBelow (l.of v)) (sym there) (f.greatest (l.of v) (subst (AtOrBelow (l.of v)) before (m.above v)) d)))
            (λ e. subst (AtOrBelow (l.of u)) (sym (other u e)) (m.above u))
            (decide u v);
      };
    };
    holds = subst (λ x. AtOrBelow x fact) (sym there) f.right;
  }
    where
      before : (facts_of old).of v ≡ was
      before = or_read old.known.items v was Undetermined h w

      there : (facts_of new).of v ≡ z
      there = ap (λ xs. unwrap_or (slice_get xs v) Undetermined) k ∙ or-set_same old.known.items v z Undetermined h

      other : (u : ℕ) → (u ≡ v → ⊥) → (facts_of new).of u ≡ (facts_of old).of u
      other u e = ap (λ xs. unwrap_or (slice_get xs u) Undetermined) k ∙ or-set_other old.known.items v u z Undetermined e

  pub not_lowered : (s : Found A) (v : ℕ) (was fact : Known A) → v < length s.known.items → was ≡ get_or s.known.items v was → AtOrBelow was fact → Meets (λ l. AtOrBelow (l.of v) fact) s s
  not_lowered s v was fact h w a = meets_none (λ l. AtOrBelow (l.of v) fact) s (subst (λ x. AtOrBelow x fact) (sym (or_read s.known.items v was Undetermined h w)) a)

  -- one block begins to run
  pub ran : (old new : Found A) (n : ℕ) (was : Bool) → n < length old.runs.items → was ≡ get_or old.runs.items n was → was ≡ false → new.known ≡ old.known → new.values ≡ old.values → new.runs.items ≡ set old.runs.items n true → new.blocks.items ≡ old.blocks.items ++ n ∷ [] → Meets (λ l. l.runs n ≡ true) old new
  ran old new n was h w f k v r q = record {
    steps = record {
      blocks_len = ap length r ∙ length-set old.runs.items n true;
      values_len = ap (λ x. length x.items) k;
      falls = record {
        fewer = λ b e. ⊎_elim (λ i. ap (facts_of new).runs i ∙ there) (λ i. other b i ∙ e) (decide b n);
        above = λ u. at_same _ _ (same u);
      };
      value_waits = λ u. inl (same u);
      block_waits = λ b e. ⊎_elim (λ i. inr (subst (λ xs. Contains xs b) (sym q) (subst (Contains (old.blocks.items ++ n ∷ [])) (sym i) (Contains-push old.blocks.items n)))) (λ i. inl (sym (other b i) ∙ e)) (decide b n);
      keeps_values = λ u c. subst (λ x. Contains x.items u) (sym v) c;
      keeps_blocks = λ b c. subst (λ xs. Contains xs b) (sym q) (Contains-append_left old.blocks.items (n ∷ []) b c);
      work =
          let s = count_set old.runs.items n h (sym (unwrap_or-slice_get old.runs.items n false) ∙ before) in
          let u = ap (count_by not) r in
          let x = ap length q in
          let y = length-append old.blocks.items (n ∷ []) in
          let d = ap (λ x. heights x.items) k in
          let e = ap (λ x. length x.items) v in omega (arith, s, u, x, y, d, e);
      best = λ l d m. record {
        fewer = λ b e. ⊎_elim (λ i. ap l.runs i ∙ d) (λ i. m.fewer b (sym (other b i) ∙ e)) (decide b n);
        above = λ u. subst (AtOrBelow (l.of u)) (sym (same u)) (m.above u);
      };
    };
    holds = there;
  }
    where
      before : (facts_of old).runs n ≡ false
      before = or_read old.runs.items n was false h w ∙ f

      there : (facts_of new).runs n ≡ true
      there = ap (λ xs. unwrap_or (slice_get xs n) false) r ∙ or-set_same old.runs.items n true false h

      other : (b : ℕ) → (b ≡ n → ⊥) → (facts_of new).runs b ≡ (facts_of old).runs b
      other b e = ap (λ xs. unwrap_or (slice_get xs b) false) r ∙ or-set_other old.runs.items n b true false e

      same : (u : ℕ) → (facts_of new).of u ≡ (facts_of old).of u
      same u = ap (λ x. unwrap_or (slice_get x.items u) Undetermined) k

  pub not_ran : (s : Found A) (n : ℕ) (was : Bool) → n < length s.runs.items → was ≡ get_or s.runs.items n was → was ≡ true → Meets (λ l. l.runs n ≡ true) s s
  not_ran s n was h w t = meets_none (λ l. l.runs n ≡ true) s (or_read s.runs.items n was false h w ∙ t)
