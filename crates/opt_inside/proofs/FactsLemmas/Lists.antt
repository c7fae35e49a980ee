-- Lists that are filled one by one.
use Rattle.std.proofs.Common.{◌≡◌, ◌⊎◌, inl, inr, ⊎_elim, ℕ, zero, suc, ◌+◌, ◌<◌, ◌≤◌, List, [], ◌∷◌, ◌++◌, length, get_or, take, Some, slice_get, refl, sym, ap, ◌∙◌, subst, append_assoc, arith}
use Rattle.std.specs.Prelude.{map}
use Rattle.std.proofs.lemmas.List.{take_more, map-append}
use Rattle.std.proofs.lemmas.Option.{slice_get_within, slice_get-get_or, get_or_from_slice_get, same_Some}
use Rattle.opt_inside.specs.facts.Problem.{PairsByIndex}

-- the first i and the next are the first i + 1
pub take_next : {X : Type 0} (xs : List X) (i : ℕ) (x : X) → slice_get xs i ≡ Some x → take (i + 1) xs ≡ take i xs ++ x ∷ []
take_next xs i x h = take_more xs i x (slice_get_within xs i x h) ∙ ap (λ y. take i xs ++ y ∷ []) (get_or_from_slice_get xs i x x h)

pub take_all : {X : Type 0} (xs : List X) (i : ℕ) → length xs ≤ i → take i xs ≡ xs
take_all [] zero h = refl
take_all [] (suc i) h = refl
take_all (x ∷ xs) zero h = absurd (omega (arith, h))
take_all (x ∷ xs) (suc i) h = ap (λ ys. x ∷ ys) (take_all xs i (omega (arith, h)))

-- the next one is put behind the first i
pub put_next : {X : Type 0} (xs row row' : List X) (i : ℕ) (x : X) → slice_get xs i ≡ Some x → row' ≡ row ++ x ∷ [] → row ≡ take i xs → row' ≡ take (i + 1) xs
put_next xs row row' i x h e s = e ∙ ap (λ ys. ys ++ x ∷ []) s ∙ sym (take_next xs i x h)

pub put_all : {X : Type 0} (xs row : List X) (i : ℕ) → length xs ≤ i → row ≡ take i xs → row ≡ xs
put_all xs row i h s = s ∙ take_all xs i h

-- what is made of the next one is put behind what is made of the first i
pub mapped_next : {X Y : Type 0} (f : X → Y) (xs : List X) (row row' : List Y) (i : ℕ) (x : X) (y : Y) → slice_get xs i ≡ Some x → y ≡ f x → row' ≡ row ++ y ∷ [] → row ≡ map f (take i xs) → row' ≡ map f (take (i + 1) xs)
mapped_next f xs row row' i x y h is e s =
    e ∙ ap (λ z. row ++ z ∷ []) is ∙ ap (λ r. r ++ f x ∷ []) s ∙ sym (map-append f (take i xs) (x ∷ [])) ∙ ap (map f) (sym (take_next xs i x h))

pub mapped_all : {X Y : Type 0} (f : X → Y) (xs : List X) (row : List Y) (i : ℕ) → length xs ≤ i → row ≡ map f (take i xs) → row ≡ map f xs
mapped_all f xs row i h s = s ∙ ap (map f) (take_all xs i h)

pub get_last : {X : Type 0} (done : List X) (y : X) (i : ℕ) (x : X) → slice_get (done ++ y ∷ []) i ≡ Some x → (slice_get done i ≡ Some x) ⊎ ((i ≡ length done) × (x ≡ y))
get_last [] y zero x e = inr (refl, same_Some x y (sym e))
get_last [] y (suc i) x e = cc
get_last (d ∷ done) y zero x e = inl e
get_last (d ∷ done) y (suc i) x e = ⊎_elim inl (λ (r : (i ≡ length done) × (x ≡ y)). inr (ap suc r.0, r.1)) (get_last done y i x e)

pub get_end : {X : Type 0} (done : List X) (y : X) → slice_get (done ++ y ∷ []) (length done) ≡ Some y
get_end [] y = refl
get_end (d ∷ done) y = get_end done y

pub get_front : {X : Type 0} (done rest : List X) (k : ℕ) (x : X) → slice_get done k ≡ Some x → slice_get (done ++ rest) k ≡ Some x
get_front [] rest k x e = cc
get_front (d ∷ done) rest zero x e = e
get_front (d ∷ done) rest (suc k) x e = get_front done rest k x e

module _ {X Y : Type 0} (P : ℕ → X → Y → Type 0) where
  pub no_pairs : PairsByIndex P [] []
  no_pairs = record { onto = λ i x h. absurd (cc); from = λ i y h. absurd (cc) }

  -- one more of each
  pub one_pair_more : (xs : List X) (ys : List Y) (x : X) (y : Y) → length xs ≡ length ys → P (length xs) x y → PairsByIndex P xs ys → PairsByIndex P (xs ++ x ∷ []) (ys ++ y ∷ [])
  one_pair_more xs ys x y len p s = record {
    onto = λ i a h. ⊎_elim
        (λ e. let r = s.onto i a e in (r.0, get_front ys (y ∷ []) i r.0 r.1, r.2))
        (λ (e : (i ≡ length xs) × (a ≡ x)). (y, subst (λ k. slice_get (ys ++ y ∷ []) k ≡ Some y) (sym len ∙ sym e.0) (get_end ys y), subst (λ k. P k a y) (sym e.0) (subst (λ b. P (length xs) b y) (sym e.1) p)))
        (get_last xs x i a h);
    from = λ i b h. ⊎_elim
        (λ e. let r = s.from i b e in (r.0, get_front xs (x ∷ []) i r.0 r.1, r.2))
        (λ (e : (i ≡ length ys) × (b ≡ y)). (x, subst (λ k. slice_get (xs ++ x ∷ []) k ≡ Some x) (len ∙ sym e.0) (get_end xs x), subst (λ k. P k x b) (sym e.0) (subst (λ k. P k x b) len (subst (λ z. P (length xs) x z) (sym e.1) p))))
        (get_last ys y i b h);
  }

  -- the first i of the list, with as many partners
  pub record Paired (xs : List X) (i : ℕ) (ys : List Y) : Type 0 where
    pub len : length ys ≡ i
    pub pairs : PairsByIndex P (take i xs) ys

  pub paired_none : (xs : List X) (ys : List Y) → ys ≡ [] → Paired xs 0 ys
  paired_none xs ys e = subst (Paired xs 0) (sym e) (record { len = refl; pairs = subst (λ zs. PairsByIndex P zs []) (sym (nothing xs)) no_pairs })
    where
      nothing : (zs : List X) → take 0 zs ≡ []
      nothing [] = refl
      nothing (z ∷ zs) = refl

  pub paired_next : (xs : List X) (ys ys' : List Y) (i : ℕ) (x : X) (y : Y) → slice_get xs i ≡ Some x → P i x y → ys' ≡ ys ++ y ∷ [] → Paired xs i ys → Paired xs (i + 1) ys'
  paired_next xs ys ys' i x y h p e s =
      let short : length (take i xs) ≡ i = taken xs i (slice_get_within xs i x h) in
      subst (λ zs. Paired xs (i + 1) zs) (sym e) (record {
        len = longer ys y ∙ ap (λ k. k + 1) s.len;
        pairs = subst (λ zs. PairsByIndex P zs (ys ++ y ∷ [])) (sym (take_next xs i x h)) (one_pair_more (take i xs) ys x y (short ∙ sym s.len) (subst (λ k. P k x y) (sym short) p) s.pairs);
      })
    where
      taken : (zs : List X) (k : ℕ) → k < length zs → length (take k zs) ≡ k
      taken [] k lt = absurd (omega (arith, lt))
      taken (z ∷ zs) zero lt = refl
      taken (z ∷ zs) (suc k) lt = ap suc (taken zs k (omega (arith, lt)))

      longer : (zs : List Y) (z : Y) → length (zs ++ z ∷ []) ≡ length zs + 1
      longer [] z = refl
      longer (w ∷ zs) z = let h = longer zs z in omega (arith, h)

  pub paired_all : (xs : List X) (ys : List Y) (i : ℕ) → length xs ≤ i → Paired xs i ys → PairsByIndex P xs ys
  paired_all xs ys i h s = subst (λ zs. PairsByIndex P zs ys) (take_all xs i h) s.pairs

-- what stands at an index within a list that is this one
pub at_index : {X : Type 0} (xs ys : List X) (i : ℕ) (x : X) → ys ≡ xs → i < length ys → slice_get xs i ≡ Some (get_or ys i x)
at_index xs ys i x e h = subst (λ zs. slice_get zs i ≡ Some (get_or ys i x)) e (slice_get-get_or ys i x h)

-- half way through a list: one item further, and at the end
pub moved : {X : Type 0} (P : List X → Type 0) (done rest next : List X) (x : X) → rest ≡ x ∷ next → P (done ++ rest) → P ((done ++ x ∷ []) ++ next)
moved P done rest next x e h = subst P (ap (λ r. done ++ r) e ∙ sym (append_assoc done (x ∷ []) next)) h

nothing_behind : {X : Type 0} (done : List X) → done ++ [] ≡ done
nothing_behind [] = refl
nothing_behind (d ∷ done) = ap (λ r. d ∷ r) (nothing_behind done)

pub ended : {X : Type 0} (P : List X → Type 0) (done rest : List X) → rest ≡ [] → P (done ++ rest) → P done
ended P done rest e h = subst P (ap (λ r. done ++ r) e ∙ nothing_behind done) h
