-- Rows whose items are linked in one list: the items from a link on, and an item that is put before the others of its row.
use Rattle.std.proofs.Common.{◌≡◌, ◌≤◌, ◌<◌, ℕ, zero, suc, ◌-◌, List, [], ◌∷◌, ◌++◌, Option, Some, None, ⊎_elim, length, get_or, map, replicate, refl, sym, ap, ◌∙◌, subst, arith}
use Rattle.std.specs.Prelude.{slice_get, unwrap_or, option_map}
use Rattle.std.proofs.Math.ListN.{set}
use Rattle.std.proofs.lemmas.List.{length-append, length-map}
use Rattle.std.proofs.lemmas.Option.{none-some, same_Some, slice_get-get_or}
use Rattle.opt_rows.specs.declared.linked_rows.Linked.{Linked}
use Rattle.opt_rows.specs.Rows.{row_at}
use Rattle.opt_rows.specs.LinkedRows.{some_items, items_from, LeadBack, AreLinked}
use Rattle.opt_rows.proofs.Rows.{read_there}
use Rattle.opt_rows.proofs.Lists.{get_replicate, get_set, get_push_before, get_push_last, get_push_cases}

module _ {X : Type 0} where
  -- the items are the same, however many more would be asked for
  enough : (links : List (Linked X)) → LeadBack links → (m n next : ℕ) → next ≤ m → next ≤ n → some_items m links next ≡ some_items n links next
  enough links b zero zero next h k = refl
  enough links b zero (suc n) zero h k = refl
  enough links b zero (suc n) (suc i) h k = absurd (omega (arith, h))
  enough links b (suc m) zero zero h k = refl
  enough links b (suc m) zero (suc i) h k = absurd (omega (arith, k))
  enough links b (suc m) (suc n) zero h k = refl
  enough links b (suc m) (suc n) (suc i) h k = go (λ next d. enough links b m n next (omega (arith, d, h)) (omega (arith, d, k))) (slice_get links i) refl
    where
      go : ((next : ℕ) → next ≤ i → some_items m links next ≡ some_items n links next) → (o : Option (Linked X)) → slice_get links i ≡ o → unwrap_or (option_map (λ (l : Linked X). l.item ∷ some_items m links l.next) o) [] ≡ unwrap_or (option_map (λ (l : Linked X). l.item ∷ some_items n links l.next) o) []
      go f None e = refl
      go f (Some l) e = ap (λ (xs : List X). l.item ∷ xs) (f l.next (b i l e))

  -- an item, and those behind it
  pub first_item : (links : List (Linked X)) → LeadBack links → (i : ℕ) (l : Linked X) → slice_get links i ≡ Some l → items_from links (suc i) ≡ l.item ∷ items_from links l.next
  first_item links b i l e =
      ap (λ (o : Option (Linked X)). unwrap_or (option_map (λ (k : Linked X). k.item ∷ some_items i links k.next) o) []) e
      ∙ ap (λ (xs : List X). l.item ∷ xs) (enough links b i l.next l.next (b i l e) (omega arith))

  -- the first of the items that are left is taken
  pub first_taken : (links : List (Linked X)) (next i : ℕ) (d : Linked X) (now : List X) → LeadBack links → next ≤ length links → items_from links next ≡ now → 1 ≤ next → i ≡ next - 1 → now ≡ (get_or links i d).item ∷ items_from links (get_or links i d).next
  first_taken links next i d now b h v l e =
      let q : next ≡ suc i = omega (arith, l, e) in
      sym v ∙ (ap (items_from links) q ∙ first_item links b i (get_or links i d) (slice_get-get_or links i d (omega (arith, h, q))))

  -- those behind it are linked to in the list too
  pub rest_inside : (links : List (Linked X)) (next i : ℕ) (d : Linked X) → LeadBack links → next ≤ length links → 1 ≤ next → i ≡ next - 1 → (get_or links i d).next ≤ length links
  rest_inside links next i d b h l e =
      let k : i < length links = omega (arith, h, l, e) in let m = b i (get_or links i d) (slice_get-get_or links i d k) in omega (arith, m, k)

  some_stay : (links : List (Linked X)) → LeadBack links → (x : Linked X) (m next : ℕ) → next ≤ length links → some_items m (links ++ x ∷ []) next ≡ some_items m links next
  some_stay links b x zero next h = refl
  some_stay links b x (suc m) zero h = refl
  some_stay links b x (suc m) (suc i) h = ap (λ (o : Option (Linked X)). unwrap_or (option_map (λ (l : Linked X). l.item ∷ some_items m (links ++ x ∷ []) l.next) o) []) (get_push_before links x i (omega (arith, h))) ∙ go (λ next d. some_stay links b x m next (omega (arith, d, h))) (slice_get links i) refl
    where
      go : ((next : ℕ) → next ≤ i → some_items m (links ++ x ∷ []) next ≡ some_items m links next) → (o : Option (Linked X)) → slice_get links i ≡ o → unwrap_or (option_map (λ (l : Linked X). l.item ∷ some_items m (links ++ x ∷ []) l.next) o) [] ≡ unwrap_or (option_map (λ (l : Linked X). l.item ∷ some_items m links l.next) o) []
      go f None e = refl
      go f (Some l) e = ap (λ (xs : List X). l.item ∷ xs) (f l.next (b i l e))

  -- the items from a link on stay when the list grows
  items_stay : (links : List (Linked X)) → LeadBack links → (x : Linked X) (next : ℕ) → next ≤ length links → items_from (links ++ x ∷ []) next ≡ items_from links next
  items_stay links b x next h = some_stay links b x next next h

  back_more : (links : List (Linked X)) (x : Linked X) → x.next ≤ length links → LeadBack links → LeadBack (links ++ x ∷ [])
  back_more links x h b i l e = ⊎_elim
      (λ a. b i l a)
      (λ a. let q = ap (λ (k : Linked X). k.next) a.1 in let n = a.0 in omega (arith, h, q, n))
      (get_push_cases links x l i e)

  row_from : (f : ℕ → List X) (firsts : List ℕ) (k : ℕ) → k < length firsts → row_at (map f firsts) k ≡ f (get_or firsts k 0)
  row_from f [] k h = absurd (omega (arith, h))
  row_from f (n ∷ ns) zero h = refl
  row_from f (n ∷ ns) (suc k) h = row_from f ns k (omega (arith, h))

  -- each row has a link to its first item
  pub first_there : (links : List (Linked X)) (firsts : List ℕ) (rows : List (List X)) (k : ℕ) → map (items_from links) firsts ≡ rows → k < length rows → k < length firsts
  first_there links firsts rows k view h = let m = length-map firsts (items_from links) in let v = ap length view in omega (arith, m, v, h)

  -- the items of a row
  pub row_items : (links : List (Linked X)) (firsts : List ℕ) (k n : ℕ) → k < length firsts → n ≡ get_or firsts k n → items_from links n ≡ row_at (map (items_from links) firsts) k
  row_items links firsts k n h e = ap (items_from links) (read_there firsts k n h e) ∙ sym (row_from (items_from links) firsts k h)

  pub first_inside : (links : List (Linked X)) (firsts : List ℕ) (k n : ℕ) → AreLinked links firsts → k < length firsts → n ≡ get_or firsts k n → n ≤ length links
  first_inside links firsts k n a h e = subst (λ m. m ≤ length links) (sym (read_there firsts k n h e)) (a.inside k (get_or firsts k 0) (slice_get-get_or firsts k 0 h))

  -- rows stay when the list grows
  rows_stay : (links : List (Linked X)) (x : Linked X) (firsts : List ℕ) → LeadBack links → ((i first : ℕ) → slice_get firsts i ≡ Some first → first ≤ length links) → map (items_from (links ++ x ∷ [])) firsts ≡ map (items_from links) firsts
  rows_stay links x [] b h = refl
  rows_stay links x (n ∷ ns) b h =
      ap (λ (r : List X). r ∷ map (items_from (links ++ x ∷ [])) ns) (items_stay links b x n (h 0 n refl))
      ∙ ap (λ (rs : List (List X)). items_from links n ∷ rs) (rows_stay links x ns b (λ i first e. h (suc i) first e))

  map_set : (f : ℕ → List X) (firsts : List ℕ) (k n : ℕ) → map f (set firsts k n) ≡ set (map f firsts) k (f n)
  map_set f [] k n = refl
  map_set f (m ∷ ns) zero n = refl
  map_set f (m ∷ ns) (suc k) n = ap (λ (rs : List (List X)). f m ∷ rs) (map_set f ns k n)

  module _ (links more : List (Linked X)) (firsts : List ℕ) (k n len : ℕ) (item : X) (a : AreLinked links firsts) (h : k < length firsts) (e : n ≡ get_or firsts k n) (grown : more ≡ links ++ record { item = item; next = n } ∷ []) (many : len ≡ length more) where
    abbrev one : Linked X
    one = record { item = item; next = n }

    longer : len ≡ suc (length links)
    longer = let l = ap length grown ∙ length-append links (one ∷ []) in omega (arith, many, l)

    within : n ≤ length links
    within = first_inside links firsts k n a h e

    in_front : items_from (links ++ one ∷ []) len ≡ item ∷ row_at (map (items_from links) firsts) k
    in_front =
        ap (items_from (links ++ one ∷ [])) longer
        ∙ (first_item (links ++ one ∷ []) (back_more links one within a.back) (length links) one (get_push_last links one)
        ∙ ap (λ (xs : List X). item ∷ xs) (items_stay links a.back one n within ∙ row_items links firsts k n h e))

    -- an item is put before the others of its row
    pub item_put : map (items_from more) (set firsts k len) ≡ set (map (items_from links) firsts) k (item ∷ row_at (map (items_from links) firsts) k)
    item_put =
        ap (λ (ls : List (Linked X)). map (items_from ls) (set firsts k len)) grown
        ∙ (map_set (items_from (links ++ one ∷ [])) firsts k len
        ∙ (ap (λ (rs : List (List X)). set rs k (items_from (links ++ one ∷ []) len)) (rows_stay links one firsts a.back a.inside)
        ∙ ap (set (map (items_from links) firsts) k) in_front))

    pub item_linked : AreLinked more (set firsts k len)
    item_linked = record {
      back = subst (λ (ls : List (Linked X)). LeadBack ls) (sym grown) (back_more links one within a.back);
      inside = λ i first q. ⊎_elim
          (λ o. let s = same_Some len first (sym o.1 ∙ q) in omega (arith, s, many))
          (λ o. let m = a.inside i first (sym o.1 ∙ q) in let l = longer in omega (arith, m, l, many))
          (get_set firsts k len i h);
    }

  -- rows with nothing in them
  pub none_linked : (links : List (Linked X)) (firsts : List ℕ) (n : ℕ) → links ≡ [] → firsts ≡ replicate n 0 → AreLinked links firsts
  none_linked links firsts n l f = record {
    back = λ i x e. absurd (none-some x (sym (ap (λ (ls : List (Linked X)). slice_get ls i) l) ∙ e));
    inside = λ i first e. let z = get_replicate n i 0 first (sym (ap (λ (ns : List ℕ). slice_get ns i) f) ∙ e) in omega (arith, z);
  }

  pub no_items : (links : List (Linked X)) (n : ℕ) → map (items_from links) (replicate n 0) ≡ replicate n []
  no_items links zero = refl
  no_items links (suc n) = ap (λ (rs : List (List X)). [] ∷ rs) (no_items links n)
