-- Lists of items, each once, that find the number of an item by its slot.
use Rattle.std.specs.Prelude.{◌≡◌, ℕ, ◌-◌, ◌<◌, ◌≤◌, List, Some, slice_get}
use Rattle.opt_inside.specs.declared.numbered_list.SlotTable.{SlotTable}
use Rattle.opt_inside.specs.declared.numbered_list.Lookup.{Lookup}
use Rattle.opt_inside.specs.declared.numbered_list.Lookup.TheVariants.{BySlot, ByHash}

-- the items that have numbers: the index of each is its number
pub record Keyed (K : Type 0) : Type 0 where
  pub keys : List K

module _ {K : Type 0} (slot : K → ℕ) where
  -- the slot of each item is one of these, without the end
  abbrev pub HaveSlotsFrom : List K → ℕ → ℕ → Type 0
  HaveSlotsFrom items least end = (n : ℕ) (k : K) → slice_get items n ≡ Some k → (least ≤ slot k) × (slot k < end)

  -- at the place of the slot of each item the table has the number of the item
  pub record LeadsBySlot (items : List K) (table : SlotTable) : Type 0 where
    pub least : (n : ℕ) (k : K) → slice_get items n ≡ Some k → table.least ≤ slot k
    pub number : (n : ℕ) (k : K) → slice_get items n ≡ Some k → slice_get table.numbers.items (slot k - table.least) ≡ Some n

  -- the number of each item is found
  abbrev pub LeadsToAll : List K → Lookup K → Type 0
  LeadsToAll items (BySlot table) = LeadsBySlot items table
  LeadsToAll items (ByHash set) = set.keys ≡ items
