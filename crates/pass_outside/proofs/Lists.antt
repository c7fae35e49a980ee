-- Lists that are gone through from first to last, and lists that are joined.
use Rattle.std.proofs.Common.{◌≡◌, inl, inr, ⊎_elim, ℕ, zero, suc, ◌<◌, List, [], ◌∷◌, ◌++◌, length, get_or, Some, Contains, slice_get, flat_map, refl, sym, ap, ◌∙◌, append_assoc, append-nil, arith}
use Rattle.std.proofs.lemmas.List.{flat_map_more}
use Rattle.ir_trees.proofs.Members.{Has, has_either}

module _ {X : Type 0} where
  -- the next one is gone past, and all are
  pub step_past : (all done was left : List X) (x : X) → was ≡ x ∷ left → done ++ was ≡ all → (done ++ x ∷ []) ++ left ≡ all
  step_past all done was left x is parts = append_assoc done (x ∷ []) left ∙ ap (λ l. done ++ l) (sym is) ∙ parts

  pub all_past : (all done left : List X) → left ≡ [] → done ++ left ≡ all → done ≡ all
  all_past all done left none parts = sym (append-nil done) ∙ ap (λ l. done ++ l) (sym none) ∙ parts

  get_behind : (done left : List X) (x : X) → slice_get (done ++ x ∷ left) (length done) ≡ Some x
  get_behind [] left x = refl
  get_behind (y ∷ done) left x = get_behind done left x

  -- the next one is one of all
  pub next_at : (all done was left : List X) (x : X) → was ≡ x ∷ left → done ++ was ≡ all → slice_get all (length done) ≡ Some x
  next_at all done was left x is parts =
      ap (λ l. slice_get l (length done)) (sym parts ∙ ap (λ l. done ++ l) is) ∙ get_behind done left x

  -- what is gone past is behind what was there, with what the next one adds
  pub grown_one : (start row grown done : List X) (x : X) → row ≡ start ++ done → grown ≡ row ++ x ∷ [] → grown ≡ start ++ (done ++ x ∷ [])
  grown_one start row grown done x are new = new ∙ ap (λ l. l ++ x ∷ []) are ∙ append_assoc start done (x ∷ [])

  pub grown_all : (start row done all : List X) → row ≡ start ++ done → done ≡ all → row ≡ start ++ all
  grown_all start row done all are is = are ∙ ap (λ l. start ++ l) is

  -- a member by index is a member
  pub has_contained : (xs : List X) (x : X) → Contains xs x → Has x xs
  has_contained [] x h = absurd (omega (arith, h.1))
  has_contained (y ∷ ys) x h = by (has_contained ys x) h.0 h.1 h.2
    where
      by : (Contains ys x → Has x ys) → (k : ℕ) → k < length (y ∷ ys) → get_or (y ∷ ys) k x ≡ x → Has x (y ∷ ys)
      by rest zero below is = inl (sym is)
      by rest (suc k) below is = inr (rest (k, omega (arith, below), is))

module _ {X Y : Type 0} (f : X → List Y) where
  pub joined_one : (start row grown : List Y) (done : List X) (x : X) → row ≡ start ++ flat_map f done → grown ≡ row ++ f x
      → grown ≡ start ++ flat_map f (done ++ x ∷ [])
  joined_one start row grown done x are new = new ∙ ap (λ l. l ++ f x) are ∙ flat_map_more f start done x

  pub joined_all : (start row : List Y) (done all : List X) → row ≡ start ++ flat_map f done → done ≡ all → row ≡ start ++ flat_map f all
  joined_all start row done all are is = are ∙ ap (λ l. start ++ flat_map f l) is

  -- a member of what is joined is one of what a member adds
  pub from_joined : (xs : List X) (y : Y) → Has y (flat_map f xs) → (x : X) × Has x xs × Has y (f x)
  from_joined [] y h = absurd h
  from_joined (x ∷ xs) y h = ⊎_elim
      (λ here. (x, inl refl, here))
      (λ rest. let m = from_joined xs y rest in (m.0, inr m.1, m.2))
      (has_either (f x) (flat_map f xs) y h)

-- what is joined is the same where each member adds the same
pub joined_same : {X Y : Type 0} (f g : X → List Y) (xs : List X) → ((x : X) → Has x xs → f x ≡ g x) → flat_map f xs ≡ flat_map g xs
joined_same f g [] same = refl
joined_same f g (x ∷ xs) same =
    let here = same x (inl refl) in
    let rest = joined_same f g xs (λ y h. same y (inr h)) in
    λ i. here i ++ rest i
