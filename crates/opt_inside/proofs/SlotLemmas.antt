-- What the tables of numbers lead to so far, as the loops go, and what is found by them.
use Rattle.std.proofs.Common.{◌≡◌, ◌≢◌, ◌↔◌, ⊎_elim, ℕ, ◌+◌, ◌-◌, ◌<◌, ◌≤◌, Bool, true, false, true≢false, List, length, set, get_or, Option, Some, None, slice_get, refl, sym, ap, ◌∙◌, subst, arith}
use Rattle.std.specs.Ordering.{nat_cmp, ord_max}
use Rattle.std.proofs.lemmas.Option.{slice_get_within, slice_get-get_or, get_or_from_slice_get, none-some}
use Rattle.std.proofs.lemmas.Bool.{cases_lt}
use Rattle.std.proofs.lemmas.List.{length-set, get_or-set_same, get_or-set_other}
use Rattle.opt_inside.specs.NumberedList.{HaveSlotsFrom, LeadsBySlot}
use Rattle.opt_inside.specs.declared.numbered_list.SlotTable.{SlotTable}

-- what a list has at an index, after a write there and elsewhere
written_here : {X : Type 0} (xs : List X) (i : ℕ) (x : X) → i < length xs → slice_get (set xs i x) i ≡ Some x
written_here xs i x within = slice_get-get_or (set xs i x) i x (omega (arith, within, length-set xs i x)) ∙ ap Some (get_or-set_same xs i x x within)

written_elsewhere : {X : Type 0} (xs : List X) (i j : ℕ) (x y : X) → j ≢ i → slice_get xs j ≡ Some y → slice_get (set xs i x) j ≡ Some y
written_elsewhere xs i j x y apart at =
    slice_get-get_or (set xs i x) j y (omega (arith, slice_get_within xs j y at, length-set xs i x))
    ∙ ap Some (get_or-set_other xs i j x y apart ∙ get_or_from_slice_get xs j y y at)

-- the greater of two numbers
pub greatest_of : (a b r : ℕ) → r ≡ ord_max nat_cmp a b → (a ≤ r) × (b ≤ r)
greatest_of a b r is = (grind (arith, is), grind (arith, is))

module _ {K : Type 0} (slot : K → ℕ) (items : List K) where
  -- the slots of the first items
  abbrev pub HaveSlotsUpTo : ℕ → ℕ → ℕ → Type 0
  HaveSlotsUpTo end least greatest = (n : ℕ) (k : K) → n < end → slice_get items n ≡ Some k → (least ≤ slot k) × (slot k ≤ greatest)

  -- with the next item they are between a lesser and a greater slot
  pub slots_next : (end least greatest : ℕ) → HaveSlotsUpTo end least greatest → (x : K) → slice_get items end ≡ Some x → (low high : ℕ)
      → low ≤ least → low ≤ slot x → greatest ≤ high → slot x ≤ high → HaveSlotsUpTo (end + 1) low high
  slots_next end least greatest so_far x at low high under least_here over greatest_here n k before there = ⊎_elim
      (λ (e : n < end). let h = so_far n k e there in (omega (arith, h.0, under), omega (arith, h.1, over)))
      (λ (e : end ≤ n).
      let last : n ≡ end = omega (arith, e, before) in
      let some : Some x ≡ Some k = sym at ∙ ap (slice_get items) (sym last) ∙ there in
      let same : x ≡ k = cc in
      (subst (λ z. low ≤ slot z) same least_here, subst (λ z. slot z ≤ high) same greatest_here))
      (cases_lt n end)

  -- the table leads to the first items
  pub record LeadsUpTo (least places : ℕ) (numbers : List ℕ) (end : ℕ) : Type 0 where
    pub len : length numbers ≡ places
    pub leads : (n : ℕ) (k : K) → n < end → slice_get items n ≡ Some k → slice_get numbers (slot k - least) ≡ Some n

  -- at first it leads to none
  pub leads_to_none : (least places : ℕ) (numbers : List ℕ) → length numbers ≡ places → LeadsUpTo least places numbers 0
  leads_to_none least places numbers len = record { len = len; leads = λ n k before at. absurd (omega (arith, before)) }

  module _ (least places : ℕ) (within : HaveSlotsFrom slot items least (least + places)) (numbers : List ℕ) (index : ℕ) (so_far : LeadsUpTo least places numbers index) (k : K) (at : slice_get items index ≡ Some k) (s : ℕ) (is : s ≡ slot k) where
    -- the next item has a place
    pub place_within : s - least < length numbers
    place_within = let h = within index k at in omega (arith, h.0, h.1, is, so_far.len)

    -- where its place has the number of no item before, its number may stand there
    pub leads_on : (held : ℕ) → held ≡ get_or numbers (s - least) held → index ≤ held → LeadsUpTo least places (set numbers (s - least) index) (index + 1)
    leads_on held read vacant = record {
      len = length-set numbers (s - least) index ∙ so_far.len;
      leads = λ n x before there. ⊎_elim
          (λ (e : n < index). earlier n x e there)
          (λ (e : index ≤ n). last n x (omega (arith, e, before)) there)
          (cases_lt n index);
    }
      where
        earlier : (n : ℕ) (x : K) → n < index → slice_get items n ≡ Some x → slice_get (set numbers (s - least) index) (slot x - least) ≡ Some n
        earlier n x e there =
            let found = so_far.leads n x e there in
            written_elsewhere numbers (s - least) (slot x - least) index n
            (λ same. let g = get_or_from_slice_get numbers (s - least) n held (ap (slice_get numbers) (sym same) ∙ found) in omega (arith, vacant, read, g, e))
            found

        some_same : (a b : K) → Some a ≡ Some b → a ≡ b
        some_same a b e = cc

        last : (n : ℕ) (x : K) → n ≡ index → slice_get items n ≡ Some x → slice_get (set numbers (s - least) index) (slot x - least) ≡ Some n
        last n x e there =
            let same : k ≡ x = some_same k x (sym at ∙ ap (slice_get items) (sym e) ∙ there) in
            let place : slot x - least ≡ s - least = ap (λ t. t - least) (sym (is ∙ ap slot same)) in
            ap (slice_get (set numbers (s - least) index)) place ∙ written_here numbers (s - least) index place_within ∙ ap Some (sym e)

  -- at last it leads to all
  pub leads_to_all : (table : SlotTable) (places index : ℕ) → HaveSlotsFrom slot items table.least (table.least + places)
      → LeadsUpTo table.least places table.numbers.items index → length items ≤ index → LeadsBySlot slot items table
  leads_to_all table places index within so_far past = record {
    least = λ n k at. (within n k at).0;
    number = λ n k at. so_far.leads n k (omega (arith, past, slice_get_within items n k at)) at;
  }

  -- what a table tells of the slot of an item
  module _ (table : SlotTable) (leads : LeadsBySlot slot items table) (item : K) (s : ℕ) (is : s ≡ slot item) (told : Option ℕ) (tells : table.least ≤ s → told ≡ slice_get table.numbers.items (s - table.least)) where
    leads_there : (n : ℕ) → slice_get items n ≡ Some item → told ≡ Some n
    leads_there n at =
        tells (subst (λ t. table.least ≤ t) (sym is) (leads.least n item at))
        ∙ ap (λ t. slice_get table.numbers.items (t - table.least)) is
        ∙ leads.number n item at

    not_there : ((n : ℕ) → slice_get items n ≡ Some item → told ≡ Some n → ⊥) → (r : Option ℕ) → r ≡ None → (n : ℕ) → r ≡ Some n ↔ slice_get items n ≡ Some item
    not_there lacks r none n = (λ e. absurd (none-some n (sym none ∙ e)), λ at. absurd (lacks n at (leads_there n at)))

    -- where it tells no number, the item isn't there
    pub none_told : told ≡ None → (r : Option ℕ) → r ≡ None → (n : ℕ) → r ≡ Some n ↔ slice_get items n ≡ Some item
    none_told e = not_there (λ n at f. none-some n (sym e ∙ f))

    module _ (m : ℕ) (number : told ≡ Some m) where
      is_that : (n : ℕ) → told ≡ Some n → m ≡ n
      is_that n f = let e = sym number ∙ f in cc

      -- nor where it tells one past the items
      pub past_told : length items ≤ m → (r : Option ℕ) → r ≡ None → (n : ℕ) → r ≡ Some n ↔ slice_get items n ≡ Some item
      past_told past = not_there (λ n at f. omega (arith, past, slice_get_within items n item at, is_that n f))

      module _ (found : K) (at_number : slice_get items m ≡ Some found) (eq : K → K → Bool) where
        -- nor where the item of this number isn't equal
        pub other_told : ((a : K) → eq a a ≡ true) → eq found item ≡ false → (n : ℕ) → None ≡ Some n ↔ slice_get items n ≡ Some item
        other_told own differs = not_there
            (λ n at f.
            let same : found ≡ item = let e = sym at_number ∙ ap (slice_get items) (is_that n f) ∙ at in cc in
            true≢false (sym (own item) ∙ ap (λ a. eq a item) (sym same) ∙ differs))
            None
            refl

        -- where it is equal, the number is the item's
        pub item_told : ((a b : K) → eq a b ≡ true → a ≡ b) → eq found item ≡ true → (n : ℕ) → Some m ≡ Some n ↔ slice_get items n ≡ Some item
        item_told same equal n = (
          λ e. ap (slice_get items) (sym (is_that n (number ∙ e))) ∙ at_number ∙ ap Some (same found item equal),
          λ at. sym number ∙ leads_there n at,
        )
